-- The members of a run of items, one after the other.
use mathlib.Core.Path.{◌≡◌, refl, sym, subst}
use mathlib.Core.List.{List, [], ◌∷◌}
use Prim.Native.Nat.{ℕ, ◌+◌, ◌≤◌, ◌<◌}
use Rattle.prelude.proofs.Absurd.{impossible}
use Rattle.integers.specs.Bytes.{word}
use Rattle.values.specs.Value.{Value}
use Rattle.values.specs.Place.{At, ItemsAt}
use Rattle.values.proofs.Records.{uncons, items_none}
use Rattle.patterns.specs.Pattern.{items_of}

-- A member, and those after it.
pub record First (s : List ℕ) (at to : ℕ) (vs : List Value) : Type 0 where
  pub first : Value
  pub others : List Value
  pub is : vs ≡ first ∷ others
  pub first-at : At s at first
  pub others_at : ItemsAt s (at + word s at) to (items_of others)
  pub inside : at + word s at ≤ to

pub first-of : (s : List ℕ) (at to : ℕ) (vs : List Value) → at < to → ItemsAt s at to (items_of vs) → First s at to vs
unfolding items_of
first-of s at to [] l i = let w = uncons l i in impossible (cc w.is)
first-of s at to (v ∷ vs) l i =
    let w = uncons l i in
    let f : v ≡ w.first = cc w.is in
    let g : items_of vs ≡ w.rest = cc w.is in
    record {
      first = v;
      others = vs;
      is = refl;
      first-at = subst (At s at) (sym f) w.first-at;
      others_at = subst (ItemsAt s (at + word s at) to) (sym g) w.rest_at;
      inside = w.inside;
    }

pub none_left : (s : List ℕ) (at to : ℕ) (vs : List Value) → to ≤ at → ItemsAt s at to (items_of vs) → vs ≡ []
unfolding items_of
none_left s at to [] l i = refl
none_left s at to (v ∷ vs) l i = let e = items_none l i in impossible cc
