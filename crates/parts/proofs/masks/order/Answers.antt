-- `order`: past the bits that are equal, one has the lowest bit.
use mathlib.Core.Bool.{true, false}
use mathlib.Core.Path.{◌≡◌, refl, sym}
use borrow.Author.Tests.{eq-eqb, ne_eqb}
use Rattle.std.specs.declared.cmp.Ordering.TheVariants.{Less, Greater}
use Prim.Native.Nat.{ℕ}
use lib.Bits.{bit_xor}
use mir.Syntax.{w64}
use mir.Val.{Fits}
use lib.Count.{count_trailing_zeros, trailing_le}
use native.Mathlib.Omega.{arith}
use Rattle.parts.proofs.Masking.{left_start, masks_same, masks_none, masks_some, masks_first, EqualBits, equal_bits}
use Rattle.parts.proofs.masks.order.Goals as goal

bits : (a b : ℕ) → Fits w64 a → Fits w64 b → (a ≡ b → ⊥) → EqualBits a b a b (count_trailing_zeros 64 (bit_xor a b)) 64
bits a b p q f = equal_bits 64 a b a b (left_start a b) f p.fits q.fits

pub returns-then-a-b : goal.returns-then-a-b
returns-then-a-b c = masks_same _ _ _ _ (left_start _ _) c.if-a-b.true

pub overflow_cast-x : goal.overflow_cast-x
overflow_cast-x c = omega (arith, trailing_le 64 (bit_xor c.args.a c.args.b))

pub overflow_shr-x : goal.overflow_shr-x
overflow_shr-x c = (bits c.args.a c.args.b c.ranges.a c.ranges.b c.if-a-b.false).low

pub overflow_cast-y : goal.overflow_cast-y
overflow_cast-y c = omega (arith, trailing_le 64 (bit_xor c.args.a c.args.b))

pub overflow_shr-y : goal.overflow_shr-y
overflow_shr-y c = (bits c.args.a c.args.b c.ranges.a c.ranges.b c.if-a-b.false).low

pub returns-then-x-eq0 : goal.returns-then-x-eq0
returns-then-x-eq0 c =
    let e = (bits c.args.a c.args.b c.ranges.a c.ranges.b c.if-a-b.false) in masks_none _ _ _ _ e.left c.if-x-eq0.true (λ z. e.differ (omega (arith, z, c.if-x-eq0.true)))

pub returns-then-y-eq0 : goal.returns-then-y-eq0
returns-then-y-eq0 c =
    masks_some _ _ _ _ (bits c.args.a c.args.b c.ranges.a c.ranges.b c.if-a-b.false).left c.if-x-eq0.false c.if-y-eq0.true

pub returns-then-x-eq1 : goal.returns-then-x-eq1
returns-then-x-eq1 c =
    let e = bits c.args.a c.args.b c.ranges.a c.ranges.b c.if-a-b.false in
    masks_first _ _ _ _ e.left c.if-x-eq0.false c.if-y-eq0.false e.differ true (sym (eq-eqb _ 1 c.if-x-eq1.true)) Less refl

pub returns-else-x-eq1 : goal.returns-else-x-eq1
returns-else-x-eq1 c =
    let e = bits c.args.a c.args.b c.ranges.a c.ranges.b c.if-a-b.false in
    masks_first _ _ _ _ e.left c.if-x-eq0.false c.if-y-eq0.false e.differ false (sym (ne_eqb _ 1 c.if-x-eq1.false)) Greater refl
