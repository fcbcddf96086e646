-- A pattern that holds no 37, 38, 40, 41 or 42 has at most one binding for a value.
use Rattle.std.specs.Prelude.{◌≡◌, Bool, true, false, cond, List, [], ◌∷◌, ℕ, suc, ◌≤◌, eqb, length}
use Rattle.std.proofs.Math.Option.{Option, none as absent, some}
use Rattle.std.proofs.Common.{arith, length-append}
use Rattle.prelude.proofs.Absurd.{impossible}
use Rattle.prelude.proofs.Truth.{or_false_left, or_false_right}
use Rattle.std.specs.declared.cmp.Ordering.{Ordering}
use Rattle.std.specs.declared.cmp.Ordering.TheVariants.{Less, Equal, Greater}
use Rattle.values.specs.Value.{Kind, set, sequence, map as mapping, tuple, Value}
use Rattle.values.specs.Items.{same, in_order}
use Rattle.patterns.specs.Ways.{gather}
use Rattle.patterns.specs.Binding.{Binding, nothing, merge, consistent, with_each, together, order_bindings, place, sorted}
use Rattle.patterns.specs.Pattern.{Pattern, name, any, literal, each, halved, Patterns, nil, cons, parts, contents, arrangements, met, matches, match_each, is_unordered, loose, loose_each}
use Rattle.patterns.specs.Binder.{bindings}

-- ---- lists of at most one

pick-none : {A : Type 0} (t : Bool) (x : A) (xs : List A) → length (cond t (x ∷ xs) xs) ≤ suc (length xs)
pick-none true x xs = omega arith
pick-none false x xs = omega arith

-- one binding with each of some others: no more than there are of them
each_few : (b : Binding) (cs : List Binding) → length (with_each b cs) ≤ length cs
unfolding with_each
each_few b [] = omega arith
each_few b (c ∷ cs) = omega (arith, pick-none (consistent (merge b c)) (merge b c) (with_each b cs), each_few b cs)

together_one : (bs cs : List Binding) → length bs ≤ 1 → length cs ≤ 1 → length (together bs cs) ≤ 1
unfolding together
together_one [] cs p q = omega arith
together_one (b ∷ []) cs p q = omega (arith, length-append (with_each b cs) [], each_few b cs)
together_one (b ∷ c ∷ bs) cs p q = absurd (omega arith)

gather_one : {A B : Type 0} (xs : List A) (f : A → List B) → length xs ≤ 1 → ((x : A) → length (f x) ≤ 1) → length (gather xs f) ≤ 1
unfolding gather
gather_one [] f p q = omega arith
gather_one (x ∷ []) f p q = omega (arith, length-append (f x) [], q x)
gather_one (x ∷ y ∷ xs) f p q = absurd (omega arith)

-- items in their order are paired in one way
arranged_one : (k : Kind) (vs : List Value) → is_unordered k ≡ false → length (arrangements k vs) ≤ 1
arranged_one set vs e = impossible cc
arranged_one sequence vs e = omega arith
arranged_one mapping vs e = impossible cc
arranged_one tuple vs e = omega arith

met_one : (k : Kind) (n : ℕ) (o : Option (List Value)) → is_unordered k ≡ false → length (met k n o) ≤ 1
met_one k n absent e = omega arith
met_one k n (some vs) e = go (eqb n (length vs))
  where
    go : (t : Bool) → length (cond t (arrangements k vs) []) ≤ 1
    go true = arranged_one k vs e
    go false = omega arith

-- ---- at most one match

literal_one : (t : Bool) → length (cond t (nothing ∷ []) []) ≤ 1
literal_one true = omega arith
literal_one false = omega arith

mutual
  unfolding matches loose

  -- THEOREM: a pattern that is not loose matches a value in at most one way
  pub match_one : (p : Pattern) (v : Value) → loose p ≡ false → length (matches p v) ≤ 1
  match_one (name x) v e = omega arith
  match_one any v e = omega arith
  match_one (literal w) v e = literal_one (same w v)
  match_one (each k ps) v e =
      gather_one (met k (parts ps) (contents k v)) (λ vs. match_each ps vs) (met_one k (parts ps) (contents k v) (or_false_left (is_unordered k) (loose_each ps) e))
      (λ vs. each-one ps vs (or_false_right (is_unordered k) (loose_each ps) e))
  match_one (halved k p q) v e = impossible cc

  each-one : (ps : Patterns) (vs : List Value) → loose_each ps ≡ false → length (match_each ps vs) ≤ 1
  each-one nil vs e = omega arith
  each-one (cons p ps) [] e = omega arith
  each-one (cons p ps) (v ∷ vs) e =
      together_one (matches p v) (match_each ps vs) (match_one p v (or_false_left (loose p) (loose_each ps) e)) (each-one ps vs (or_false_right (loose p) (loose_each ps) e))

-- ---- and in order

placed_few : (o : Ordering) (b c : Binding) (cs ds : List Binding) → length ds ≤ suc (length cs) → length (in_order o (b ∷ c ∷ cs) (c ∷ cs) (c ∷ ds)) ≤ suc (suc (length cs))
placed_few Less b c cs ds h = omega arith
placed_few Equal b c cs ds h = omega arith
placed_few Greater b c cs ds h = omega arith

place_few : (b : Binding) (cs : List Binding) → length (place b cs) ≤ suc (length cs)
unfolding place
place_few b [] = omega arith
place_few b (c ∷ cs) = placed_few (order_bindings b c) b c cs (place b cs) (place_few b cs)

-- putting bindings in order adds none
pub sorted_few : (bs : List Binding) → length (sorted bs) ≤ length bs
unfolding sorted
sorted_few [] = omega arith
sorted_few (b ∷ bs) = omega (arith, place_few b (sorted bs), sorted_few bs)

-- THEOREM: a pattern that is not loose has at most one binding for a value
pub single : (p : Pattern) (v : Value) → loose p ≡ false → length (bindings p (v ∷ [])) ≤ 1
single p v e =
    omega (arith, sorted_few (gather (v ∷ []) (matches p)), gather_one (v ∷ []) (matches p) (omega arith) (λ w. match_one p w e))
