-- The constant table holds the lengths of all kinds, and bits where their operands begin: each rule is one test that is computed over all kinds.
use mathlib.Core.Path.{◌≡◌, refl}
use mathlib.Core.Bool.{Bool, true, false, not, beq, ◌&&◌}
use Prim.Native.Nat.{ℕ, suc, ◌+◌, ◌-◌, ◌*◌, ◌/◌, ◌%◌, ◌^◌, ◌≤◌, ◌<◌}
use native.Mathlib.Omega.{arith}
use borrow.Author.Tests.{lt-leb, leb-true, eqb-true}
use lib.Dec.{eqb, leb}
use lib.ListN.{length, get_or}
use Rattle.tables.specs.Record.{last_kind, shape, size, fits}
use Rattle.tables.specs.Sheet.{any}
use Rattle.tables.specs.Shapes.{length_rows, first_of}
use Rattle.tables.proofs.Laws.Tests.{any_none}
use Rattle.tables.proofs.Laws.Kinds.{each_kind, same_kind}

-- ---- lengths

-- The bit for d bytes after the heading is what the row says.
abbrev has_length : ℕ → ℕ → Bool
has_length d k = eqb (get_or length_rows k 0 / 2 ^ d % 2) 1

length_is : (d k : ℕ) → d < 9 → k ≤ last_kind → has_length d k ≡ fits (shape k) d
unfolding shape
length_is d k h =
    same_kind (has_length d) (λ k. fits (shape k) d)
    (any_none (λ d. any (λ k. not (beq (has_length d k) (fits (shape k) d))) (suc last_kind)) 9 refl d h) k

-- No kind has more than eight fields.
pub fields_few : (k : ℕ) → k ≤ last_kind → size (shape k).head + length (shape k).roles ≤ 8
unfolding shape
fields_few k h = leb-true _ _ (each_kind (λ k. leb (size (shape k).head + length (shape k).roles) 8) refl k h)

module _ (k : ℕ) (known : k ≤ last_kind) (len : ℕ) (head : 4 ≤ len) where
  pub too_long : 12 < len → false ≡ fits (shape k) (len - 4)
  too_long h =
      rw (lt-leb (len - 4) (size (shape k).head + length (shape k).roles) (omega (arith, fields_few k known)))
      (middle (leb (size (shape k).head + (shape k).least) (len - 4)) (eqb ((len - 4 - (size (shape k).head + (shape k).least)) % (shape k).step) 0))
    where
      middle : (a b : Bool) → false ≡ (a && false) && b
      middle true b = refl
      middle false b = refl

  pub by_bit : len ≤ 12 → eqb (get_or length_rows k 0 / 2 ^ (len - 4) % 2) 1 ≡ fits (shape k) (len - 4)
  by_bit h = length_is (len - 4) k (omega arith) known

-- ---- first operands

pub first-is : (k : ℕ) → k ≤ last_kind → 4 + 21474836538 / 2 ^ k % 2 + 4 * (34359738372 / 2 ^ k % 2) + 2 * (8796097216512 / 2 ^ k % 2) ≡ first_of k
unfolding shape
first-is k h =
    eqb-true _ _ (each_kind (λ k. eqb (4 + 21474836538 / 2 ^ k % 2 + 4 * (34359738372 / 2 ^ k % 2) + 2 * (8796097216512 / 2 ^ k % 2)) (first_of k)) refl k h)

pub first_most : (k : ℕ) → k ≤ last_kind → first_of k ≤ 8
unfolding shape
first_most k h = leb-true (first_of k) 8 (each_kind (λ k. leb (first_of k) 8) refl k h)
