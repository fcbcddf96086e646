-- What stands before the operands, by kind: how long it is, and which is known.
use mathlib.Core.Path.{◌≡◌, refl, sym, ap, ◌∙◌}
use mathlib.Core.Bool.{Bool, true, false, not, beq, ◌||◌}
use Prim.Native.Nat.{ℕ, suc, ◌/◌, ◌%◌, ◌^◌, ◌≤◌}
use native.Mathlib.Omega.{arith}
use borrow.Author.Tests.{lt-ltb, le-ltb, lt-leb, le-leb, ne_eqb, not-true}
use lib.Dec.{eqb, ltb, leb}
use Rattle.prelude.proofs.Absurd.{never}
use Rattle.prelude.proofs.Truth.{implied, by_lower}
use Rattle.tables.specs.Record.{Head, nothing, boolean, integer, quote, name, unary, binary, unknown, last_kind, shape, is_expression, is_pattern, fits}
use Rattle.tables.specs.Sheet.{any}
use Rattle.tables.specs.Shapes.{is_tested, known_first}
use Rattle.tables.proofs.Laws.Kinds.{each_kind, same_kind}

-- Below 16 is up to 15.
pub below_sixteen : (n : ℕ) → ltb n 16 ≡ leb n 15
below_sixteen n = by_lower n 16 (λ h. lt-ltb n 16 h ∙ sym (le-leb n 15 (omega arith))) (λ h. le-ltb n 16 h ∙ sym (lt-leb n 15 (omega arith)))

-- Heads without a first field that is tested, by whether their kind is known.
abbrev is_free : Bool → Head → Bool
is_free known nothing = known
is_free known boolean = false
is_free known integer = known
is_free known quote = known
is_free known name = false
is_free known unary = false
is_free known binary = false
is_free known unknown = not known

free_known : (b : Bool) (h : Head) (n : ℕ) → is_free b h ≡ true → b ≡ known_first h n
free_known b nothing n e = e
free_known b boolean n e = never e
free_known b integer n e = e
free_known b quote n e = e
free_known b name n e = never e
free_known b unary n e = never e
free_known b binary n e = never e
free_known true unknown n e = never e
free_known false unknown n e = refl

pub untested_known : (k n : ℕ) → k ≤ last_kind → is_tested k ≡ false → is_expression k || is_pattern k ≡ known_first (shape k).head n
unfolding shape
untested_known k n h e =
    free_known (is_expression k || is_pattern k) (shape k).head n
    (implied (not (is_tested k)) _ (each_kind (λ k. not (not (is_tested k)) || is_free (is_expression k || is_pattern k) (shape k).head) refl k h) (ap not e))

pub other_known : (k n : ℕ) → k ≤ last_kind → (k ≡ 1 → ⊥) → (k ≡ 34 → ⊥) → (k ≡ 3 → ⊥) → (k ≡ 32 → ⊥) → (k ≡ 4 → ⊥) → (k ≡ 5 → ⊥) → is_expression k || is_pattern k ≡ known_first (shape k).head n
other_known k n h a b c d e f =
    untested_known k n h (rw (ne_eqb k 1 a, ne_eqb k 34 b, ne_eqb k 3 c, ne_eqb k 32 d, ne_eqb k 4 e, ne_eqb k 5 f))

-- A record whose first field is tested has one.
pub tested_long : (k : ℕ) → k ≤ last_kind → is_tested k ≡ true → fits (shape k) 0 ≡ false
unfolding shape
tested_long k h e = not-true (fits (shape k) 0) (implied (is_tested k) _ (each_kind (λ k. not (is_tested k) || not (fits (shape k) 0)) refl k h) e)

-- ---- by bits

-- Bit k of a mask is b for exactly the kinds k that pass a test, as computed over all kinds.
pub bit_tells : (mask b : ℕ) (test : ℕ → Bool) → any (λ k. not (beq (eqb (mask / 2 ^ k % 2) b) (test k))) (suc last_kind) ≡ false → (k : ℕ) → k ≤ last_kind → eqb (mask / 2 ^ k % 2) b ≡ test k
bit_tells mask b test = same_kind (λ k. eqb (mask / 2 ^ k % 2) b) test
