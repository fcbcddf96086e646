-- A union or munion pattern is met by a set or map of over seven exactly where `wide` says so, and 29 is given exactly then.
use Rattle.std.specs.Prelude.{◌≡◌, refl, Bool, true, false, ◌||◌, cond, ◌↔◌, List, [], ◌∷◌, ℕ, leb, ltb, length}
use Rattle.std.proofs.Common.{sym, ap, ◌∙◌, inl, inr, ⊎_elim, arith, ltb-true, lt-ltb}
use Rattle.std.proofs.Math.Option.{Option, none as absent, some}
use mathlib.Mathlib.Data.Bool.Basic.{or_inl, or_inr, and_intro, and_elim_left, and_elim_right}
use Rattle.prelude.proofs.Absurd.{impossible}
use Rattle.prelude.proofs.Truth.{or_cases}
use Rattle.prelude.specs.Membership.{In}
use Rattle.values.specs.Value.{Kind, Value, collection}
use Rattle.patterns.specs.Ways.{exists, halves}
use Rattle.patterns.specs.Pattern.{Pattern, name, any, literal, each, halved, Patterns, nil, cons, parts, items_of, contents, units_of, is_unordered, met, split, left_of, right_of, most_split, wide, wide_each, is_too_large}
use Rattle.patterns.specs.Binder.{most_bindings, bound, refused, few, bindings, formed}
use Rattle.patterns.proofs.Laws.Matched.{contents_of, of_contents, in_met, met_in, in_split, split_in}
use Rattle.patterns.specs.Wide.{TooLarge, Wide, WideInTurn}

-- Where a test holds of some member of a list, it holds of one that can be named.
exists_out : {A : Type 0} (xs : List A) (f : A → Bool) → exists xs f ≡ true → (x : A) × In x xs × (f x ≡ true)
unfolding exists
exists_out [] f e = impossible cc
exists_out (x ∷ xs) f e = ⊎_elim (λ d. (x, inl refl, d)) (λ d. let (y, i, h) = exists_out xs f d in (y, inr i, h)) (or_cases (f x) (exists xs f) e)

exists_in : {A : Type 0} (x : A) (xs : List A) (f : A → Bool) → In x xs → f x ≡ true → exists xs f ≡ true
unfolding exists
exists_in x [] f i e = absurd i
exists_in x (y ∷ xs) f (inl d) e = or_inl (f y) (exists xs f) (ap f (sym d) ∙ e)
exists_in x (y ∷ xs) f (inr i) e = or_inr (f y) (exists xs f) (exists_in x xs f i e)

-- ---- over seven

large_out : (k : Kind) (v : Value) → is_too_large k (contents k v) ≡ true → (vs : List Value) × (v ≡ collection k (items_of vs)) × TooLarge k vs
large_out k v e = go (contents k v) refl e
  where
    go : (o : Option (List Value)) → contents k v ≡ o → is_too_large k o ≡ true → (vs : List Value) × (v ≡ collection k (items_of vs)) × TooLarge k vs
    go absent d e = impossible cc
    go (some vs) d e =
        let t = ltb most_split (length (units_of k vs)) in
        (vs, of_contents k v vs d, (and_elim_left (is_unordered k) t e, ltb-true most_split (length (units_of k vs)) (and_elim_right (is_unordered k) t e)))

large_in : (k : Kind) (v : Value) (vs : List Value) → v ≡ collection k (items_of vs) → TooLarge k vs → is_too_large k (contents k v) ≡ true
large_in k v vs e (u, h) = ap (is_too_large k) (ap (contents k) e ∙ contents_of k vs) ∙ and_intro u (lt-ltb most_split (length (units_of k vs)) h)

-- ---- the theorem

mutual
  unfolding wide Wide

  widened : (p : Pattern) (v : Value) → wide p v ≡ true → Wide p v
  widened (name x) v e = impossible cc
  widened any v e = impossible cc
  widened (literal w) v e = impossible cc
  widened (each k ps) v e =
      let (ws, i, h) = exists_out (met k (parts ps) (contents k v)) (λ ws. wide_each ps ws) e in
      let (vs, m) = in_met k (parts ps) v ws i in
      (vs, ws, m.0, m.1, m.2, in_turn ps ws h)
  widened (halved k p q) v e =
      ⊎_elim (λ d. let (vs, f, l) = large_out k v d in (vs, f, inl l))
      (λ d.
      let (h, i, g) = exists_out (split k (contents k v)) (λ h. wide p (left_of k h) || wide q (right_of k h)) d in
      let (vs, f, s) = in_split k v h i in
      (vs, f, inr (h.left, h.right, s, ⊎_elim (λ x. inl (widened p (left_of k h) x)) (λ x. inr (widened q (right_of k h) x)) (or_cases (wide p (left_of k h)) (wide q (right_of k h)) g))))
      (or_cases (is_too_large k (contents k v)) _ e)

  in_turn : (ps : Patterns) (vs : List Value) → wide_each ps vs ≡ true → WideInTurn ps vs
  in_turn nil vs e = impossible cc
  in_turn (cons p ps) [] e = impossible cc
  in_turn (cons p ps) (v ∷ vs) e = ⊎_elim (λ d. inl (widened p v d)) (λ d. inr (in_turn ps vs d)) (or_cases (wide p v) (wide_each ps vs) e)

mutual
  unfolding wide Wide

  widening : (p : Pattern) (v : Value) → Wide p v → wide p v ≡ true
  widening (name x) v h = absurd h
  widening any v h = absurd h
  widening (literal w) v h = absurd h
  widening (each k ps) v (vs, ws, e, n, a, h) = exists_in ws (met k (parts ps) (contents k v)) (λ us. wide_each ps us) (met_in k (parts ps) v vs ws (e, n, a)) (turning ps ws h)
  widening (halved k p q) v (vs, e, inl l) = or_inl (is_too_large k (contents k v)) _ (large_in k v vs e l)
  widening (halved k p q) v (vs, e, inr (ls, rs, s, h)) =
      or_inr (is_too_large k (contents k v)) _
      (exists_in (halves ls rs) (split k (contents k v)) (λ g. wide p (left_of k g) || wide q (right_of k g)) (split_in k v vs ls rs e s)
      (⊎_elim
      (λ x. or_inl (wide p (collection k (items_of ls))) (wide q (collection k (items_of rs))) (widening p (collection k (items_of ls)) x))
      (λ x. or_inr (wide p (collection k (items_of ls))) (wide q (collection k (items_of rs))) (widening q (collection k (items_of rs)) x))
      h))

  turning : (ps : Patterns) (vs : List Value) → WideInTurn ps vs → wide_each ps vs ≡ true
  turning nil vs h = absurd h
  turning (cons p ps) [] h = absurd h
  turning (cons p ps) (v ∷ vs) (inl h) = or_inl (wide p v) (wide_each ps vs) (widening p v h)
  turning (cons p ps) (v ∷ vs) (inr h) = or_inr (wide p v) (wide_each ps vs) (turning ps vs h)

-- THEOREM: a set or map is too large somewhere exactly when a union or munion pattern is met by one of over seven
pub wide_exactly : (p : Pattern) (v : Value) → (wide p v ≡ true) ↔ Wide p v
wide_exactly p v = (widened p v, widening p v)

-- THEOREM: forming the bindings over some values gives 29 exactly when that is so with one of them
pub formed_29 : (p : Pattern) (vs : List Value) → (formed p vs ≡ refused 29) ↔ ((v : Value) × In v vs × Wide p v)
formed_29 p vs = (
  λ e. let (v, i, h) = exists_out vs (wide p) (told (exists vs (wide p)) (leb (length (bindings p vs)) most_bindings) e) in (v, i, widened p v h),
  λ (v, i, h). ap (λ (t : Bool). cond t (refused 29) (few (bindings p vs))) (exists_in v vs (wide p) i (widening p v h)),
)
  where
    told : (t u : Bool) → cond t (refused 29) (cond u (bound (bindings p vs)) (refused 30)) ≡ refused 29 → t ≡ true
    told true u e = refl
    told false true e = impossible cc
    told false false e = absurd (let z : ◌≡◌ {A = ℕ} 30 29 = cc in omega arith)
