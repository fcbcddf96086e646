-- Number 29 read off the record of a pattern: the same for all kinds of patterns with parts.
use mathlib.Core.Path.{◌≡◌, refl, sym, ap, ap₂, ◌∙◌}
use mathlib.Core.Bool.{Bool, true, false, not, ◌&&◌, ◌||◌, or-false}
use mathlib.Core.List.{List, [], ◌∷◌, map}
use Prim.Native.Nat.{ℕ}
use native.Mathlib.Omega.{arith}
use lib.Dec.{eqb}
use lib.ListN.{length, get_or}
use Rattle.values.specs.Value.{Kind, Value}
use mathlib.Mathlib.Data.Bool.Basic.{and_elim_left, and_elim_right}
use Rattle.prelude.proofs.Absurd.{never}
use Rattle.prelude.proofs.Truth.{by_test, or_false_left, or_false_right, or_false_both}
use Rattle.tables.specs.Record.{Record, is_pattern, is_composed}
use Rattle.tables.proofs.Laws.Kinds.{by_composed, union_composed, munion_composed}
use Rattle.patterns.specs.Ways.{exists}
use Rattle.patterns.specs.Pattern.{Pattern, any, each, halved, contents, met, split, left_of, right_of, wide, wide_each, is_too_large, is_unordered}
use Rattle.patterns.specs.Read.{patterns_of, pattern_of}
use Rattle.patterns.specs.Nodes.{collection_of, is_halved, meetings, is_large, both_halves}
use Rattle.patterns.proofs.Laws.Nodes.{parts_length, on_leaf, on_composed}
use Rattle.patterns.proofs.Laws.Some.{some_halves}
use Rattle.matching.specs.Node.{is_split}
use Rattle.matching.proofs.Counting.{either, split_kind}
use Rattle.splitting.specs.Laws.Split.{halves_narrow, shallow_narrow}
use Rattle.splitting.specs.Split.{has_split, some_split, shallow}

exists_map : {A B : Type 0} (f : A → B) (xs : List A) (g : B → Bool) → exists (map f xs) g ≡ exists xs (λ x. g (f x))
unfolding exists
exists_map f [] g = refl
exists_map f (x ∷ xs) g = ap (λ (b : Bool). g (f x) || b) (exists_map f xs g)

exists_same : {A : Type 0} (xs : List A) (f g : A → Bool) → ((x : A) → f x ≡ g x) → exists xs f ≡ exists xs g
unfolding exists
exists_same [] f g h = refl
exists_same (x ∷ xs) f g h = ap₂ ◌||◌ (h x) (exists_same xs f g h)

-- Somewhere the parts are wide: the set or map is too large, or in some way a part is wide with what it meets.
abbrev pub wide_parts : ℕ → List Pattern → Value → Bool
wide_parts c ps v = is_large c v || exists (meetings c (length ps) v) (λ vs. wide_each (patterns_of ps) vs)

wide_each_lem : (k : Kind) (ps : List Pattern) (v : Value) → wide (each k (patterns_of ps)) v ≡ exists (met k (length ps) (contents k v)) (λ vs. wide_each (patterns_of ps) vs)
unfolding wide
wide_each_lem k ps v = ap (λ (n : ℕ). exists (met k n (contents k v)) (λ vs. wide_each (patterns_of ps) vs)) (parts_length ps)

wide_halved : (k : Kind) (ps : List Pattern) (v : Value) → length ps ≡ 2
    → wide (halved k (get_or ps 0 any) (get_or ps 1 any)) v ≡ is_too_large k (contents k v) || exists (map (both_halves k) (split k (contents k v))) (λ vs. wide_each (patterns_of ps) vs)
unfolding wide patterns_of
wide_halved k [] v e = absurd (omega arith)
wide_halved k (p ∷ []) v e = absurd (omega arith)
wide_halved k (p ∷ q ∷ []) v e =
    ap (λ (b : Bool). is_too_large k (contents k v) || b)
    (exists_same (split k (contents k v)) (λ h. wide p (left_of k h) || wide q (right_of k h)) (λ h. wide_each (patterns_of (p ∷ q ∷ [])) (both_halves k h))
    (λ h. ap (λ (b : Bool). wide p (left_of k h) || b) (sym (or-false (wide q (right_of k h)))))
    ∙ sym (exists_map (both_halves k) (split k (contents k v)) (λ vs. wide_each (patterns_of (p ∷ q ∷ [])) vs)))
wide_halved k (p ∷ q ∷ r ∷ ps) v e = absurd (omega arith)

split_halved : (ps : List Pattern) → length ps ≡ 2 → has_split (get_or ps 0 any) || has_split (get_or ps 1 any) ≡ some_split (patterns_of ps)
unfolding has_split
split_halved ps e = some_halves has_split some_split refl (λ p qs. refl) ps e

-- Of the patterns with two halves a union and a munion pattern split a set or map; a pattern with a part for each item splits nothing.
split_unordered : (k : ℕ) → is_composed k ≡ true → is_halved k ≡ true → is_unordered (collection_of k) ≡ is_split k
split_unordered k c h =
    by_composed k c (λ e. never (sym (ap is_halved e) ∙ h)) (λ e. never (sym (ap is_halved e) ∙ h)) (λ e. rw e) (λ e. never (sym (ap is_halved e) ∙ h)) (λ e. rw e) (λ e. never (sym (ap is_halved e) ∙ h)) (λ e. rw e)

each_splits_none : (k : ℕ) → is_halved k ≡ false → is_split k ≡ false
each_splits_none k h =
    or_false_both (eqb k 38) (eqb k 42) (or_false_left (eqb k 38) (eqb k 40 || eqb k 42) h) (or_false_right (eqb k 40) (eqb k 42) (or_false_right (eqb k 38) (eqb k 40 || eqb k 42) h))

pub split_composed : (k : ℕ) → is_split k ≡ true → is_composed k ≡ true
split_composed k s = either (λ x. is_composed x ≡ true) k 38 42 (union_composed refl) (munion_composed refl) s

module _ (r : Record) (ps : List Pattern) where
  -- A name, any and a literal are never wide, and hold no union or munion pattern.
  pub leaf_no_split : is_pattern r.kind ≡ true → is_composed r.kind ≡ false → has_split (pattern_of r ps) ≡ false
  unfolding has_split
  leaf_no_split p c = on_leaf r ps (λ q. has_split q ≡ false) p c (λ e. refl) (λ e. refl) (λ w a b. refl)

  module _ (c : is_composed r.kind ≡ true) (two : is_halved r.kind ≡ true → length ps ≡ 2) where
    -- THEOREM: what number 29 says of a pattern with parts, by its record
    pub wide_composed : (v : Value) → wide (pattern_of r ps) v ≡ wide_parts r.kind ps v
    wide_composed v =
        on_composed r ps (λ q. wide q v ≡ wide_parts r.kind ps v) c
        (λ h. rw h (wide_each_lem (collection_of r.kind) ps v)) (λ h. rw h (wide_halved (collection_of r.kind) ps v (two h)))

    pub has_split_composed : has_split (pattern_of r ps) ≡ is_split r.kind || some_split (patterns_of ps)
    unfolding has_split
    has_split_composed =
        on_composed r ps (λ q. has_split q ≡ is_split r.kind || some_split (patterns_of ps)) c
        (λ h. sym (ap (λ (b : Bool). b || some_split (patterns_of ps)) (each_splits_none r.kind h)))
        (λ h. ap₂ ◌||◌ (split_unordered r.kind c h) (split_halved ps (two h)))

  -- A union or munion pattern is shallow where both halves are; another pattern where it holds none.
  module _ (s : is_split r.kind ≡ true) where
    pub shallow_split : shallow (pattern_of r ps) ≡ shallow (get_or ps 0 any) && shallow (get_or ps 1 any)
    unfolding shallow
    shallow_split =
        let (h, u) = split_kind r.kind s in
        on_composed r ps (λ q. shallow q ≡ shallow (get_or ps 0 any) && shallow (get_or ps 1 any)) (split_composed r.kind s) (λ f. never (sym f ∙ h)) (λ g. rw u)

    -- shallow, it is not wide with what it can split
    pub shallow_fits : (v : Value) → shallow (pattern_of r ps) ≡ true → is_large r.kind v ≡ false → wide (pattern_of r ps) v ≡ false
    shallow_fits v e n =
        let (h, u) = split_kind r.kind s in
        let both = sym shallow_split ∙ e in
        on_composed r ps (λ q. wide q v ≡ false) (split_composed r.kind s) (λ f. never (sym f ∙ h))
        (λ g.
        halves_narrow (collection_of r.kind) u (get_or ps 0 any) (get_or ps 1 any) v
        (λ w m. shallow_narrow (get_or ps 0 any) w (and_elim_left (shallow (get_or ps 0 any)) (shallow (get_or ps 1 any)) both) m)
        (λ w m. shallow_narrow (get_or ps 1 any) w (and_elim_right (shallow (get_or ps 0 any)) (shallow (get_or ps 1 any)) both) m)
        (rw h at n))

  pub shallow_other : is_pattern r.kind ≡ true → is_split r.kind ≡ false → shallow (pattern_of r ps) ≡ not (has_split (pattern_of r ps))
  unfolding shallow has_split
  shallow_other p other =
      by_test (is_composed r.kind)
      (λ c. on_composed r ps (λ q. shallow q ≡ not (has_split q)) c (λ h. refl) (λ h. rw (split_unordered r.kind c h ∙ other)))
      (λ c. on_leaf r ps (λ q. shallow q ≡ not (has_split q)) p c (λ e. refl) (λ e. refl) (λ w a b. refl))
