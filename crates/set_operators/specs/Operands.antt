-- What the tests of the operands' kinds answer.
use Rattle.std.specs.Prelude.{◌≡◌, Bool, true, false, List, ℕ, ◌+◌}
use Rattle.std.proofs.Math.Option.{none as absent}
use Rattle.values.specs.Value.{Kind, set, number, Value, Items}
use Rattle.values.specs.Place.{At}
use Rattle.collections.specs.Finding.{HoldsKind}
use Rattle.operators.specs.Answer.{Answer, refused, wrong_kind, as_kind, as_set, needs_both}
use Rattle.calling.specs.Scratch.{second}

-- r says whether a collection of the kind of this number stands at a place.
pub record IsOfKind (s : List ℕ) (at n : ℕ) (r : Bool) : Type 0 where
  pub yes : (k : Kind) → n ≡ number k → r ≡ true → HoldsKind k s at
  pub no : (k : Kind) → n ≡ number k → r ≡ false → (v : Value) → At s at v → as_kind k v ≡ absent

-- r says whether both operands are sets; where one is not, 20.
pub record TwoSets (s : List ℕ) (base : ℕ) (r : Bool) : Type 0 where
  pub left : r ≡ true → HoldsKind set s base
  pub right : r ≡ true → HoldsKind set s (base + second)
  pub others : r ≡ false → (v w : Value) → At s base v → At s (base + second) w → (f : Items → Items → Answer) → needs_both (as_set v) (as_set w) f ≡ refused wrong_kind
