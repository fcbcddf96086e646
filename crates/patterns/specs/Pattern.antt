-- Document 01, kinds 32 to 43 and "Evaluation": patterns, all bindings of a pattern and a value, and where a set or map is too large to split.
use Rattle.std.specs.Prelude.{Bool, true, false, ◌&&◌, ◌||◌, cond, List, [], ◌∷◌, map, ℕ, suc, eqb, ltb, length}
use Rattle.std.proofs.Math.Option.{Option, none as absent, some}
use Rattle.values.specs.Value.{Kind, set, sequence, map as mapping, tuple, number, Value, boolean, integer, quote, collection, Items, none, more}
use Rattle.values.specs.Items.{same}
use Rattle.values.specs.Entries.{Entry, entry, flat}
use Rattle.patterns.specs.Ways.{gather, exists, Halves, halves, proper_splits, cuts, orders}
use Rattle.patterns.specs.Binding.{Binding, nothing, only, together}

-- 32 a name; 33 any; 34, 35 and 43 a literal; 36, 37, 39 and 41 one part for each item, of a tuple, a set, a sequence or a map (key, value, key, value);
-- 38, 40 and 42 two parts, for the two halves of a set, a sequence or a map.
mutual
  pub data Pattern : Type 0 where
    name : ℕ → Pattern
    any : Pattern
    literal : Value → Pattern
    each : Kind → Patterns → Pattern
    halved : Kind → Pattern → Pattern → Pattern

  pub data Patterns : Type 0 where
    nil : Patterns
    cons : Pattern → Patterns → Patterns

unfoldable pub parts : Patterns → ℕ
parts nil = 0
parts (cons p ps) = suc (parts ps)

-- ---- a value taken apart

unfoldable pub list_of : Items → List Value
list_of none = []
list_of (more v vs) = v ∷ list_of vs

unfoldable pub items_of : List Value → Items
items_of [] = none
items_of (v ∷ vs) = more v (items_of vs)

-- The items of a value of kind k. A value of another kind does not match.
abbrev pub contents : Kind → Value → Option (List Value)
contents k (boolean b) = absent
contents k (integer z) = absent
contents k (quote n) = absent
contents k (collection l vs) = cond (eqb (number k) (number l)) (some (list_of vs)) absent

-- The entries of items that are key, value, key, value. (A key without its value is left out; no map has one.)
unfoldable pub entries_of : List Value → List Entry
entries_of [] = []
entries_of (k ∷ []) = []
entries_of (k ∷ v ∷ vs) = entry k v ∷ entries_of vs

-- A unit is what is paired with parts and goes to one half: a member of a set, an entry of a map, an item of a sequence or tuple.
abbrev pub UnitOf : Kind → Type 0
UnitOf set = Value
UnitOf sequence = Value
UnitOf mapping = Entry
UnitOf tuple = Value

-- The units of some items, and the items of some units.
abbrev pub units_of : (k : Kind) → List Value → List (UnitOf k)
units_of set vs = vs
units_of sequence vs = vs
units_of mapping vs = entries_of vs
units_of tuple vs = vs

abbrev pub items_in : (k : Kind) → List (UnitOf k) → List Value
items_in set us = us
items_in sequence us = us
items_in mapping us = list_of (flat us)
items_in tuple us = us

abbrev pub halves_in : (k : Kind) → Halves (UnitOf k) → Halves Value
halves_in k h = halves (items_in k h.left) (items_in k h.right)

-- The units of sets and maps have no order.
abbrev pub is_unordered : Kind → Bool
is_unordered set = true
is_unordered sequence = false
is_unordered mapping = true
is_unordered tuple = false

-- A set's members and a map's entries are paired with the parts one to one in every way; a tuple's and a sequence's items in their order.
abbrev pub arrangements : Kind → List Value → List (List Value)
arrangements set vs = orders vs
arrangements sequence vs = vs ∷ []
arrangements mapping vs = map (items_in mapping) (orders (entries_of vs))
arrangements tuple vs = vs ∷ []

-- Every split of a set into two disjoint sets, and of a map into two maps, neither of them empty; every cut of a sequence in two, empty parts too.
abbrev pub divisions : Kind → List Value → List (Halves Value)
divisions set vs = proper_splits vs
divisions sequence vs = cuts vs
divisions mapping vs = map (halves_in mapping) (proper_splits (entries_of vs))
divisions tuple vs = []

-- What n parts meet, in every way: as many items of kind k, or nothing.
abbrev pub met : Kind → ℕ → Option (List Value) → List (List Value)
met k n absent = []
met k n (some vs) = cond (eqb n (length vs)) (arrangements k vs) []

-- What two halves meet, in every way.
abbrev pub split : Kind → Option (List Value) → List (Halves Value)
split k absent = []
split k (some vs) = divisions k vs

abbrev pub left_of : Kind → Halves Value → Value
left_of k h = collection k (items_of h.left)

abbrev pub right_of : Kind → Halves Value → Value
right_of k h = collection k (items_of h.right)

-- ---- matching (source 001, PatternMatch)

unfoldable mutual
  pub matches : Pattern → Value → List Binding
  matches (name x) v = only x v ∷ []
  matches any v = nothing ∷ []
  matches (literal w) v = cond (same w v) (nothing ∷ []) []
  matches (each k ps) v = gather (met k (parts ps) (contents k v)) (λ vs. match_each ps vs)
  matches (halved k p q) v = gather (split k (contents k v)) (λ h. together (matches p (left_of k h)) (matches q (right_of k h)))

  -- The first part with the first item, and so on.
  pub match_each : Patterns → List Value → List Binding
  match_each nil vs = nothing ∷ []
  match_each (cons p ps) [] = []
  match_each (cons p ps) (v ∷ vs) = together (matches p v) (match_each ps vs)

-- ---- number 29

-- A union pattern takes sets of at most seven members, a munion pattern maps of at most seven entries.
abbrev pub most_split : ℕ
most_split = 7

abbrev pub is_too_large : Kind → Option (List Value) → Bool
is_too_large k absent = false
is_too_large k (some vs) = is_unordered k && ltb most_split (length (units_of k vs))

-- Somewhere a union or munion pattern is met by a set or map of over seven. All parts are tried where kind and count fit.
unfoldable mutual
  pub wide : Pattern → Value → Bool
  wide (name x) v = false
  wide any v = false
  wide (literal w) v = false
  wide (each k ps) v = exists (met k (parts ps) (contents k v)) (λ vs. wide_each ps vs)
  wide (halved k p q) v = is_too_large k (contents k v) || exists (split k (contents k v)) (λ h. wide p (left_of k h) || wide q (right_of k h))

  pub wide_each : Patterns → List Value → Bool
  wide_each nil vs = false
  wide_each (cons p ps) [] = false
  wide_each (cons p ps) (v ∷ vs) = wide p v || wide_each ps vs

-- ---- looseness

-- The pattern holds a 37, 38, 40, 41 or 42.
unfoldable mutual
  pub loose : Pattern → Bool
  loose (name x) = false
  loose any = false
  loose (literal w) = false
  loose (each k ps) = is_unordered k || loose_each ps
  loose (halved k p q) = true

  pub loose_each : Patterns → Bool
  loose_each nil = false
  loose_each (cons p ps) = loose p || loose_each ps

-- ---- the names of a pattern

unfoldable mutual
  pub holds_named : Pattern → ℕ → Bool
  holds_named (name x) y = eqb x y
  holds_named any y = false
  holds_named (literal w) y = false
  holds_named (each k ps) y = named_each ps y
  holds_named (halved k p q) y = holds_named p y || holds_named q y

  pub named_each : Patterns → ℕ → Bool
  named_each nil y = false
  named_each (cons p ps) y = holds_named p y || named_each ps y
