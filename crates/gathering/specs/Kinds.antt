-- What testing the kind of all items from a place up to another promises.
use Rattle.std.specs.Prelude.{◌≡◌, Bool, List, ℕ, eqb}
use Rattle.values.specs.Value.{Value, kind_of, Items}
use Rattle.values.specs.Place.{ItemsAt}
use Rattle.operators.specs.Gather.{every_item}

-- Is it of the kind that has this number?
abbrev pub of_kind : ℕ → Value → Bool
of_kind kind v = eqb (kind_of v) kind

-- r says whether all items from a place up to another are.
abbrev pub AllOfKind : ℕ → List ℕ → ℕ → ℕ → Bool → Type 0
AllOfKind kind s from to r = (vs : Items) → ItemsAt s from to vs → r ≡ every_item (of_kind kind) vs
