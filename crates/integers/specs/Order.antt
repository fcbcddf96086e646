-- The order of two integers and of two numbers, by size.
use Rattle.std.specs.Prelude.{Bool, true, false, ℕ, ℤ, ltb}
use Rattle.std.specs.Int.Signed.{lt_z}
use Rattle.std.specs.declared.cmp.Ordering.{Ordering}
use Rattle.std.specs.declared.cmp.Ordering.TheVariants.{Less, Equal, Greater}

-- from two tests: that the first is lower, and that the second is
abbrev pub order_by : Bool → Bool → Ordering
order_by true b = Less
order_by false true = Greater
order_by false false = Equal

unfoldable pub order_ℕ : ℕ → ℕ → Ordering
order_ℕ a b = order_by (ltb a b) (ltb b a)

unfoldable pub order_ℤ : ℤ → ℤ → Ordering
order_ℤ a b = order_by (lt_z a b) (lt_z b a)
