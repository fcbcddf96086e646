-- Division of whole numbers as document 01 says it, by inequalities: what it is to cut toward zero, to be the floor, and to have a sign.
-- It is proved that `div_ℤ` and `floor_ℤ` (`Whole`) are the one integer each that these single out: `integers/proofs/Quotients`.
use Rattle.std.specs.Prelude.{◌≡◌, ◌+◌, ◌≤◌, ◌<◌, ℤ, pos, nat_abs, ◌+ℤ◌, ◌*ℤ◌, ◌≤ℤ◌, ◌<ℤ◌}

-- z has the sign of s, or is 0
pub record HasSign (s z : ℤ) : Type 0 where
  pub positive : pos 0 <ℤ z → pos 0 <ℤ s
  pub negative : z <ℤ pos 0 → s <ℤ pos 0

-- q is left/right, cut toward zero: right × q lies on left's side of 0, is no larger in size than left, and once more right would be
pub record CutTowardZero (left right q : ℤ) : Type 0 where
  pub side : HasSign left (right *ℤ q)
  pub reached : nat_abs (right *ℤ q) ≤ nat_abs left
  pub passed : nat_abs left < nat_abs (right *ℤ q) + nat_abs right

-- q is floor(left/right): q ≤ left/right < q + 1, each side times right
pub record Floor (left right q : ℤ) : Type 0 where
  pub positive : pos 0 <ℤ right → ((right *ℤ q) ≤ℤ left) × (left <ℤ (right *ℤ q +ℤ right))
  pub negative : right <ℤ pos 0 → (left ≤ℤ (right *ℤ q)) × ((right *ℤ q +ℤ right) <ℤ left)

-- what a division by `right` leaves: smaller in size than `right`, and of the sign of `sign`
pub record Rest (sign right z : ℤ) : Type 0 where
  pub sided : HasSign sign z
  pub smaller : nat_abs z < nat_abs right

-- q is the one integer of which P holds
pub record TheOne (P : ℤ → Type 0) (q : ℤ) : Type 1 where
  pub holds : P q
  pub only : (p : ℤ) → P p → p ≡ q
