-- When a union or munion pattern is met by a set or map of over seven (document 01, number 29), with no list of all ways. "All parts are tried where
-- kind and count fit": a part meets what some arrangement of the items puts at its place, a half what some division of the units leaves it.
-- Widened proves that `wide` says exactly this.
use Rattle.std.specs.Prelude.{◌≡◌, true, ◌⊎◌, List, [], ◌∷◌, ◌<◌, length}
use Rattle.values.specs.Value.{Kind, Value, collection}
use Rattle.patterns.specs.Pattern.{Pattern, name, any, literal, each, halved, Patterns, nil, cons, parts, items_of, units_of, is_unordered, most_split}
use Rattle.patterns.specs.Relation.{Arranged, Divided}

-- A set of over seven members, a map of over seven entries.
abbrev pub TooLarge : Kind → List Value → Type 0
TooLarge k vs = (is_unordered k ≡ true) × (most_split < length (units_of k vs))

unfoldable mutual
  -- Somewhere in the pattern.
  pub Wide : Pattern → Value → Type 0
  Wide (name x) v = ⊥
  Wide any v = ⊥
  Wide (literal w) v = ⊥
  Wide (each k ps) v = (vs ws : List Value) × (v ≡ collection k (items_of vs)) × (parts ps ≡ length vs) × Arranged k vs ws × WideInTurn ps ws
  Wide (halved k p q) v =
      (vs : List Value) × (v ≡ collection k (items_of vs))
      × (TooLarge k vs ⊎ ((ls rs : List Value) × Divided k vs ls rs × (Wide p (collection k (items_of ls)) ⊎ Wide q (collection k (items_of rs)))))

  -- In some part, met by the item at its place.
  pub WideInTurn : Patterns → List Value → Type 0
  WideInTurn nil vs = ⊥
  WideInTurn (cons p ps) [] = ⊥
  WideInTurn (cons p ps) (v ∷ vs) = Wide p v ⊎ WideInTurn ps vs
