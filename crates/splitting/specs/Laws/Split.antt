-- Patterns that cannot be met by a set or map too large to split.
use Rattle.std.specs.Prelude.{◌≡◌, refl, Bool, true, false, not, ◌&&◌, ◌||◌, List, [], ◌∷◌, ◌≤◌, eqb, length}
use Rattle.std.proofs.Common.{inl, inr, arith, le-ltb, ltb-false, eqb-true}
use Rattle.std.proofs.Math.Option.{Option, none as absent, some}
use Rattle.std.proofs.lemmas.Bool.{not-true}
use mathlib.Mathlib.Data.Bool.Basic.{and_elim_left, and_elim_right}
use Rattle.prelude.proofs.Truth.{by_test, or_false_left, or_false_right, or_false_both}
use Rattle.prelude.specs.Membership.{In}
use Rattle.values.specs.Value.{Kind, number, Value, collection}
use Rattle.values.proofs.Order.{number_inj}
use Rattle.patterns.specs.Ways.{Halves, exists}
use Rattle.patterns.specs.Relation.{Divided}
use Rattle.patterns.proofs.Laws.Collected.{units_items, divided_units}
use Rattle.patterns.proofs.Laws.Named.{shared_left, shared_right, part_length}
use Rattle.patterns.proofs.Laws.Matched.{contents_of, in_split}
use Rattle.patterns.specs.Pattern.{Pattern, name, any, literal, each, halved, Patterns, nil, cons, parts, items_of, contents, UnitOf, units_of, items_in, met, split, left_of, right_of, is_unordered, wide, wide_each, most_split, is_too_large}
use Rattle.splitting.specs.Split.{shallow, has_split, some_split}

none_of : {A : Type 0} (xs : List A) (f : A → Bool) → ((x : A) → In x xs → f x ≡ false) → exists xs f ≡ false
unfolding exists
none_of [] f h = refl
none_of (x ∷ xs) f h = or_false_both (f x) (exists xs f) (h x (inl refl)) (none_of xs f (λ y i. h y (inr i)))

-- only a set or map is ever too large
ordered_fits : (k : Kind) (o : Option (List Value)) → is_unordered k ≡ false → is_too_large k o ≡ false
ordered_fits k absent e = refl
ordered_fits k (some vs) e = rw e

mutual
  unfolding has_split wide

  -- THEOREM: a pattern without a union or munion pattern is never wide
  pub no_split_narrow : (p : Pattern) (v : Value) → has_split p ≡ false → wide p v ≡ false
  no_split_narrow (name x) v e = refl
  no_split_narrow any v e = refl
  no_split_narrow (literal w) v e = refl
  no_split_narrow (each k ps) v e = none_of (met k (parts ps) (contents k v)) (λ vs. wide_each ps vs) (λ vs i. no_split_each ps vs e)
  no_split_narrow (halved k p q) v e =
      let inner = or_false_right (is_unordered k) (has_split p || has_split q) e in
      or_false_both (is_too_large k (contents k v)) (exists (split k (contents k v)) (λ h. wide p (left_of k h) || wide q (right_of k h)))
      (ordered_fits k (contents k v) (or_false_left (is_unordered k) (has_split p || has_split q) e))
      (none_of (split k (contents k v)) (λ h. wide p (left_of k h) || wide q (right_of k h))
      (λ h i. or_false_both (wide p (left_of k h)) (wide q (right_of k h))
      (no_split_narrow p (left_of k h) (or_false_left (has_split p) (has_split q) inner))
      (no_split_narrow q (right_of k h) (or_false_right (has_split p) (has_split q) inner))))

  no_split_each : (ps : Patterns) (vs : List Value) → some_split ps ≡ false → wide_each ps vs ≡ false
  no_split_each nil vs e = refl
  no_split_each (cons p ps) [] e = refl
  no_split_each (cons p ps) (v ∷ vs) e =
      or_false_both (wide p v) (wide_each ps vs) (no_split_narrow p v (or_false_left (has_split p) (some_split ps) e)) (no_split_each ps vs (or_false_right (has_split p) (some_split ps) e))

-- ---- halves have no more units than the whole

-- The value is neither a set of over seven members nor a map of over seven entries.
abbrev pub Fits : Value → Type 0
Fits v = (k : Kind) → is_too_large k (contents k v) ≡ false

few_fit : (k : Kind) → is_unordered k ≡ true → (us : List (UnitOf k)) → length us ≤ most_split → Fits (collection k (items_of (items_in k us)))
few_fit k u us h l = by_test (eqb (number l) (number k)) (λ e. own (number_inj l k (eqb-true (number l) (number k) e))) (λ e. rw e)
  where
    own : l ≡ k → is_too_large l (contents l (collection k (items_of (items_in k us)))) ≡ false
    own d = rw (d, contents_of k (items_in k us), u, units_items k us) (le-ltb most_split (length us) h)

fit_few : (k : Kind) → is_unordered k ≡ true → (v : Value) (vs : List Value) → v ≡ collection k (items_of vs) → is_too_large k (contents k v) ≡ false → length (units_of k vs) ≤ most_split
fit_few k u v vs e n = ltb-false most_split (length (units_of k vs)) (rw (e, contents_of k vs, u) at n)

-- Two patterns that are not wide with what fits are not wide with the halves of what fits.
pub halves_narrow : (k : Kind) → is_unordered k ≡ true → (p q : Pattern) (v : Value)
    → ((w : Value) → Fits w → wide p w ≡ false) → ((w : Value) → Fits w → wide q w ≡ false) → is_too_large k (contents k v) ≡ false → wide (halved k p q) v ≡ false
unfolding wide
halves_narrow k u p q v a b n =
    or_false_both (is_too_large k (contents k v)) (exists (split k (contents k v)) (λ h. wide p (left_of k h) || wide q (right_of k h))) n
    (none_of (split k (contents k v)) (λ h. wide p (left_of k h) || wide q (right_of k h)) (λ h i. both h (in_split k v h i)))
  where
    both : (h : Halves Value) → (vs : List Value) × (v ≡ collection k (items_of vs)) × Divided k vs h.left h.right → wide p (left_of k h) || wide q (right_of k h) ≡ false
    both h (vs, e, d) =
        let (ms, ns, (s, x, y), f, g) = (divided_units k u vs h.left h.right).0 d in
        let few = fit_few k u v vs e n in
        let left = part_length ms (units_of k vs) (shared_left (units_of k vs) ms ns s) in
        let right = part_length ns (units_of k vs) (shared_right (units_of k vs) ms ns s) in
        or_false_both (wide p (left_of k h)) (wide q (right_of k h))
        (a (left_of k h) (rw f (few_fit k u ms (omega arith))))
        (b (right_of k h) (rw g (few_fit k u ns (omega arith))))

-- THEOREM: a shallow pattern is not wide with anything but a set of over seven members or a map of over seven entries
pub shallow_narrow : (p : Pattern) (v : Value) → shallow p ≡ true → Fits v → wide p v ≡ false
unfolding shallow has_split wide
shallow_narrow (name x) v e n = refl
shallow_narrow any v e n = refl
shallow_narrow (literal w) v e n = refl
shallow_narrow (each k ps) v e n = no_split_narrow (each k ps) v (not-true (some_split ps) e)
shallow_narrow (halved k p q) v e n =
    by_test (is_unordered k)
    (λ u.
    let f : shallow p && shallow q ≡ true = rw u at e in
    halves_narrow k u p q v
    (λ w m. shallow_narrow p w (and_elim_left (shallow p) (shallow q) f) m)
    (λ w m. shallow_narrow q w (and_elim_right (shallow p) (shallow q) f) m)
    (n k))
    (λ u.
    let f : not (has_split p || has_split q) ≡ true = rw u at e in
    no_split_narrow (halved k p q) v (or_false_both (is_unordered k) (has_split p || has_split q) u (not-true (has_split p || has_split q) f)))
