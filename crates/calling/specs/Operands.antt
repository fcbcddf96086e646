-- What an operator asks and promises once the kinds of its operands are known: collections of given kinds, or integers.
use Rattle.std.specs.Prelude.{◌≡◌, List, Bool, ◌&&◌, ℕ, ◌+◌, ◌≤◌, eqb, ℤ, length, Result, Ok, Err}
use Rattle.values.specs.Value.{Kind, kind_of, Value, integer, collection, Items}
use Rattle.values.specs.Place.{At}
use Rattle.collections.specs.Finding.{HoldsKind}
use Rattle.operators.specs.Answer.{Answer, refused, wrong_kind, as_integer, needs_both}
use Rattle.calling.specs.Applied.{Applied}
use Rattle.prelude.specs.declared.Refusal.{Refusal}
use Rattle.prelude.specs.declared.Refusal.TheVariants.{WrongKind}
use Rattle.calling.specs.Scratch.{second, workspace, Kept}
use Rattle.calling.specs.Applied.{Applies}

-- ---- collections

-- A collection of a kind stands at base, and there is room to work in.
pub record Has (k : Kind) (s : List ℕ) (base : ℕ) : Type 0 where
  pub held : HoldsKind k s base
  pub room : base + workspace ≤ length s

-- Collections of two kinds stand at base and above it, and there is room to work in.
pub record HasTwo (k l : Kind) (s : List ℕ) (base : ℕ) : Type 0 where
  pub left : HoldsKind k s base
  pub right : HoldsKind l s (base + second)
  pub room : base + workspace ≤ length s

-- r is what f answers on the items of the collection at base.
pub record OnItems (k : Kind) (f : Items → Answer) (s t : List ℕ) (base : ℕ) (r : Applied) : Type 0 where
  pub kept : Kept s t base
  pub right : (vs : Items) → At s base (collection k vs) → Applies t base r (f vs)

-- r is what f answers on the items of the collection at base and of the one above it.
pub record OnBoth (k l : Kind) (f : Items → Items → Answer) (s t : List ℕ) (base : ℕ) (r : Applied) : Type 0 where
  pub kept : Kept s t base
  pub right : (vs ws : Items) → At s base (collection k vs) → At s (base + second) (collection l ws) → Applies t base r (f vs ws)

-- ---- what the tests of the operands' kinds answer

-- r says whether the two values are of the kinds that have these numbers.
abbrev pub KindsAre : List ℕ → ℕ → ℕ → ℕ → Bool → Type 0
KindsAre s base a b r = (v w : Value) → At s base v → At s (base + second) w → r ≡ eqb (kind_of v) a && eqb (kind_of w) b

-- The two integers that were read, or why there are none.
abbrev pub Pair : Type 0
Pair = Result (ℤ × ℤ) Refusal

-- The operands are these two integers; or not both are integers, and whatever needs two is refused by 20.
pub data PairAt (s : List ℕ) (base : ℕ) : Pair → Type 0 where
  integers : {a b : ℤ} → At s base (integer a) → At s (base + second) (integer b) → PairAt s base (Ok (a, b))
  others : ((v w : Value) → At s base v → At s (base + second) w → (f : ℤ → ℤ → Answer) → needs_both (as_integer v) (as_integer w) f ≡ refused wrong_kind) → PairAt s base (Err WrongKind)
