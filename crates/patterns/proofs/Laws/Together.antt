-- Bindings put together with others, as lists: each law an equation.
use Rattle.std.specs.Prelude.{◌≡◌, refl, Bool, true, false, cond, List, [], ◌∷◌, ◌++◌, map, ℕ, zero, suc, length, set as put}
use Rattle.std.proofs.Common.{sym, ap, ap₂, ◌∙◌, inl, inr}
use Rattle.prelude.specs.Membership.{In}
use Rattle.prelude.proofs.Membership.{in_one, in_picked}
use Rattle.values.specs.Value.{Value}
use Rattle.values.specs.Items.{same}
use Rattle.patterns.specs.Ways.{gather}
use Rattle.patterns.proofs.Laws.Members.{in_gather}
use Rattle.patterns.specs.Binding.{free, is, clash, Binding, names, nothing, only, merge, consistent, with_each, together}
use Rattle.patterns.specs.Pattern.{Pattern, name, any, literal, each, halved, Patterns, nil, cons, parts, contents, met, split, left_of, right_of, matches, match_each}
use Rattle.patterns.proofs.Laws.Matched.{in_together, matched, match_sized}
use Rattle.patterns.proofs.Laws.Merging.{merge_assoc, merge_nothing, nothing_merge, consistent_left, consistent_right}
use Rattle.prelude.proofs.Absurd.{true_false}

-- ---- lists

pub append-nil : {A : Type 0} (xs : List A) → xs ++ [] ≡ xs
append-nil [] = refl
append-nil (x ∷ xs) = ap (λ (l : List _). x ∷ l) (append-nil xs)

pub append_assoc : {A : Type 0} (xs ys zs : List A) → (xs ++ ys) ++ zs ≡ xs ++ (ys ++ zs)
append_assoc [] ys zs = refl
append_assoc (x ∷ xs) ys zs = ap (λ (l : List _). x ∷ l) (append_assoc xs ys zs)

pub gather_cong : {A B : Type 0} (xs : List A) (f g : A → List B) → ((x : A) → f x ≡ g x) → gather xs f ≡ gather xs g
unfolding gather
gather_cong [] f g h = refl
gather_cong (x ∷ xs) f g h = ap₂ ◌++◌ (h x) (gather_cong xs f g h)

pub gather_map : {A B C : Type 0} (h : A → B) (xs : List A) (f : B → List C) → gather (map h xs) f ≡ gather xs (λ x. f (h x))
unfolding gather
gather_map h [] f = refl
gather_map h (x ∷ xs) f = ap (λ (l : List _). f (h x) ++ l) (gather_map h xs f)

-- ---- every one with every one

pub with_append : (b : Binding) (xs ys : List Binding) → with_each b (xs ++ ys) ≡ with_each b xs ++ with_each b ys
unfolding with_each
with_append b [] ys = refl
with_append b (x ∷ xs) ys = go (consistent (merge b x)) (with_append b xs ys)
  where
    go : (t : Bool) → with_each b (xs ++ ys) ≡ with_each b xs ++ with_each b ys
        → cond t (merge b x ∷ with_each b (xs ++ ys)) (with_each b (xs ++ ys)) ≡ cond t (merge b x ∷ with_each b xs) (with_each b xs) ++ with_each b ys
    go true e = ap (λ (l : List Binding). merge b x ∷ l) e
    go false e = e

pub together_append : (xs ys cs : List Binding) → together (xs ++ ys) cs ≡ together xs cs ++ together ys cs
unfolding together
together_append [] ys cs = refl
together_append (x ∷ xs) ys cs = ap (λ (l : List Binding). with_each x cs ++ l) (together_append xs ys cs) ∙ sym (append_assoc (with_each x cs) (together xs cs) (together ys cs))

-- A merge is not consistent where one that it would make consistent is not.
not_merged : (a b c : Binding) → (consistent (merge a b) ≡ true → consistent c ≡ true) → consistent c ≡ false → consistent (merge a b) ≡ false
not_merged a b c h e = go (consistent (merge a b)) refl
  where
    go : (t : Bool) → consistent (merge a b) ≡ t → t ≡ false
    go true f = sym (h f) ∙ e
    go false f = refl

not_right : (a b : Binding) → consistent b ≡ false → consistent (merge a b) ≡ false
not_right a b e = not_merged a b b (consistent_right a b) e

not_left : (a b : Binding) → consistent a ≡ false → consistent (merge a b) ≡ false
not_left a b e = not_merged a b a (consistent_left a b) e

-- THEOREM: going on with c, then with each, is going on with both, where they are consistent
pub with_with : (b c : Binding) (ds : List Binding) → with_each b (with_each c ds) ≡ cond (consistent (merge b c)) (with_each (merge b c) ds) []
unfolding with_each
with_with b c [] = go (consistent (merge b c))
  where
    go : (t : Bool) → ◌≡◌ {A = List Binding} [] (cond t [] [])
    go true = refl
    go false = refl
with_with b c (d ∷ ds) = go (consistent (merge c d)) refl (consistent (merge b c)) refl (with_with b c ds)
  where
    go : (t : Bool) → consistent (merge c d) ≡ t → (u : Bool) → consistent (merge b c) ≡ u → with_each b (with_each c ds) ≡ cond u (with_each (merge b c) ds) []
        → with_each b (cond t (merge c d ∷ with_each c ds) (with_each c ds)) ≡ cond u (with_each (merge b c) (d ∷ ds)) []
    go true e true f h = rw (merge_assoc b c d) (ap (λ (l : List Binding). cond (consistent (merge b (merge c d))) (merge b (merge c d) ∷ l) l) h)
    go true e false f h =
        let g : consistent (merge b (merge c d)) ≡ false = ap consistent (sym (merge_assoc b c d)) ∙ not_left (merge b c) d f in
        rw g h
    go false e true f h =
        let g : consistent (merge (merge b c) d) ≡ false = ap consistent (merge_assoc b c d) ∙ not_right b (merge c d) e in
        rw g h
    go false e false f h = h

pub together_with : (a : Binding) (cs ds : List Binding) → together (with_each a cs) ds ≡ with_each a (together cs ds)
unfolding with_each together
together_with a [] ds = refl
together_with a (c ∷ cs) ds =
    go (consistent (merge a c)) (together_with a cs ds) (with_with a c ds) ∙ sym (with_append a (with_each c ds) (together cs ds))
  where
    go : (t : Bool) → together (with_each a cs) ds ≡ with_each a (together cs ds) → with_each a (with_each c ds) ≡ cond t (with_each (merge a c) ds) []
        → together (cond t (merge a c ∷ with_each a cs) (with_each a cs)) ds ≡ with_each a (with_each c ds) ++ with_each a (together cs ds)
    go true e f = ap₂ ◌++◌ (sym f) e
    go false e f = e ∙ ap (λ (l : List Binding). l ++ with_each a (together cs ds)) (sym f)

-- THEOREM: the order of putting together does not matter
pub together_assoc : (bs cs ds : List Binding) → together (together bs cs) ds ≡ together bs (together cs ds)
unfolding together
together_assoc [] cs ds = refl
together_assoc (b ∷ bs) cs ds = together_append (with_each b cs) (together bs cs) ds ∙ ap₂ ◌++◌ (together_with b cs ds) (together_assoc bs cs ds)

pub with_none : (b : Binding) → with_each b [] ≡ []
unfolding with_each
with_none b = refl

pub with_gather : {A : Type 0} (b : Binding) (xs : List A) (f : A → List Binding) → with_each b (gather xs f) ≡ gather xs (λ x. with_each b (f x))
unfolding gather
with_gather b [] f = with_none b
with_gather b (x ∷ xs) f = with_append b (f x) (gather xs f) ∙ ap (λ (l : List Binding). with_each b (f x) ++ l) (with_gather b xs f)

pub together_gather : {A : Type 0} (xs : List A) (f : A → List Binding) (cs : List Binding) → together (gather xs f) cs ≡ gather xs (λ x. together (f x) cs)
unfolding gather together
together_gather [] f cs = refl
together_gather (x ∷ xs) f cs = together_append (f x) (gather xs f) cs ∙ ap (λ (l : List Binding). together (f x) cs ++ l) (together_gather xs f cs)

-- ---- what a match is like

pub record Fine (b : Binding) : Type 0 where
  pub sized : length b ≡ names
  pub agrees : consistent b ≡ true

unfoldable pub AllFine : List Binding → Type 0
AllFine [] = Unit {0}
AllFine (b ∷ bs) = Fine b × AllFine bs

pub all_fine : (bs : List Binding) → ((b : Binding) → In b bs → Fine b) → AllFine bs
unfolding AllFine
all_fine [] h = tt
all_fine (b ∷ bs) h = (h b (inl refl), all_fine bs (λ c i. h c (inr i)))

pub nothing_fine : Fine nothing
unfolding consistent
nothing_fine = record { sized = refl; agrees = refl }

set_consistent : (b : Binding) (x : ℕ) (v : Value) → consistent b ≡ true → consistent (put b x (is v)) ≡ true
unfolding consistent
set_consistent [] x v e = refl
set_consistent (free ∷ b) zero v e = e
set_consistent (is w ∷ b) zero v e = e
set_consistent (clash ∷ b) zero v e = true_false (sym e)
set_consistent (free ∷ b) (suc x) v e = set_consistent b x v e
set_consistent (is w ∷ b) (suc x) v e = set_consistent b x v e
set_consistent (clash ∷ b) (suc x) v e = e

only_consistent : (x : ℕ) (v : Value) → consistent (only x v) ≡ true
only_consistent x v = set_consistent nothing x v nothing_fine.agrees

mutual
  unfolding matches

  pub match_consistent : (p : Pattern) (v : Value) (b : Binding) → In b (matches p v) → consistent b ≡ true
  match_consistent (name x) v b i = ap consistent (in_one b i) ∙ only_consistent x v
  match_consistent any v b i = ap consistent (in_one b i) ∙ nothing_fine.agrees
  match_consistent (literal w) v b i = ap consistent (in_one b (in_picked b (same w v) (nothing ∷ []) i).1) ∙ nothing_fine.agrees
  match_consistent (each k ps) v b i = let (ws, j, l) = in_gather b (met k (parts ps) (contents k v)) (λ vs. match_each ps vs) i in each_consistent ps ws b l
  match_consistent (halved k p q) v b i =
      let (h, j, l) = in_gather b (split k (contents k v)) (λ h. together (matches p (left_of k h)) (matches q (right_of k h))) i in
      let (c, d, m, n, t, f) = in_together b (matches p (left_of k h)) (matches q (right_of k h)) l in
      ap consistent f ∙ t

  pub each_consistent : (ps : Patterns) (vs : List Value) (b : Binding) → In b (match_each ps vs) → consistent b ≡ true
  each_consistent nil vs b i = ap consistent (in_one b i) ∙ nothing_fine.agrees
  each_consistent (cons p ps) [] b i = absurd i
  each_consistent (cons p ps) (v ∷ vs) b i =
      let (c, d, m, n, t, f) = in_together b (matches p v) (match_each ps vs) i in
      ap consistent f ∙ t

pub matches_fine : (p : Pattern) (v : Value) → AllFine (matches p v)
matches_fine p v = all_fine (matches p v) (λ b i. record { sized = match_sized p v b (matched p v b i); agrees = match_consistent p v b i })

-- ---- nothing found changes nothing

pub with_nothing : (bs : List Binding) → AllFine bs → with_each nothing bs ≡ bs
unfolding AllFine with_each
with_nothing [] h = refl
with_nothing (b ∷ bs) h =
    let e = nothing_merge b h.0.sized in
    let f : consistent (merge nothing b) ≡ true = ap consistent e ∙ h.0.agrees in
    rw f (ap₂ ◌∷◌ e (with_nothing bs h.1))

pub nothing_together : (bs : List Binding) → AllFine bs → together (nothing ∷ []) bs ≡ bs
unfolding together
nothing_together bs h = append-nil (with_each nothing bs) ∙ with_nothing bs h

pub with_only : (b : Binding) → Fine b → with_each b (nothing ∷ []) ≡ b ∷ []
unfolding with_each
with_only b h =
    let e = merge_nothing b h.sized in
    let f : consistent (merge b nothing) ≡ true = ap consistent e ∙ h.agrees in
    rw f (ap (λ (c : Binding). c ∷ []) e)

pub together_nothing : (bs : List Binding) → AllFine bs → together bs (nothing ∷ []) ≡ bs
unfolding AllFine together
together_nothing [] h = refl
together_nothing (b ∷ bs) h = ap₂ ◌++◌ (with_only b h.0) (together_nothing bs h.1)

pub one_together : (c : Binding) (ds : List Binding) → together (c ∷ []) ds ≡ with_each c ds
unfolding together
one_together c ds = append-nil (with_each c ds)
