-- The paths of a tree are the lists that lead to its leaves, in dictionary order; entries and zeros lead to a leaf.
use mathlib.Core.Path.{◌≡◌, refl, ap}
use mathlib.Core.Bool.{Bool, true, false, cond}
use mathlib.Core.Logic.{inl, inr, ⊎_elim, ◌↔◌}
use mathlib.Core.Option.{Option, none, some}
use mathlib.Core.List.{List, [], ◌∷◌, ◌++◌}
use Prim.Native.Nat.{ℕ, zero, suc, ◌+◌, ◌≤◌, ◌<◌}
use native.Mathlib.Omega.{arith}
use native.Mathlib.Decide.{ℕ_discrete}
use lib.Dec.{ltb}
use borrow.Author.Tests.{ltb-true}
use Rattle.prelude.proofs.Absurd.{impossible}
use Rattle.prelude.proofs.Membership.{in_left, in_right, in_joined}
use Rattle.prelude.specs.Membership.{In}
use Rattle.choices.specs.Tree.{Tree, give, stop, choose, Full, Gives}
use Rattle.choices.specs.Outcome.{Outcome}
use Rattle.choices.specs.Lists.{AscendingLists}
use Rattle.choices.specs.Paths.{counts, prefixed, fan, paths, extend, first_path, cons_or, raise}
use Rattle.choices.proofs.Leaves.{LeadsToLeaf, Prefix, outcome_at}
use Rattle.choices.proofs.Order.{asc_append}

-- ---- paths and leaves

in_under : (c : ℕ) (l : List ℕ) (ls : List (List ℕ)) → In l ls → In (c ∷ l) (prefixed c ls)
in_under c l [] h = absurd h
in_under c l (x ∷ ls) (inl e) = inl (ap (λ (y : List ℕ). c ∷ y) e)
in_under c l (x ∷ ls) (inr h) = inr (in_under c l ls h)

under_in : (c : ℕ) (l : List ℕ) (ls : List (List ℕ)) → In l (prefixed c ls) → (m : List ℕ) × (l ≡ c ∷ m) × In m ls
under_in c l [] h = absurd h
under_in c l (x ∷ ls) (inl e) = (x, e, inl refl)
under_in c l (x ∷ ls) (inr h) = let w = under_in c l ls h in (w.0, w.1, inr w.2)

in_fan : (c m : ℕ) (h : ℕ → List (List ℕ)) (x : ℕ) (l : List ℕ) → c ≤ x → x < c + m → In l (h x) → In (x ∷ l) (fan c m h)
in_fan c zero h x l a b e = absurd (omega arith)
in_fan c (suc m) h x l a b e = go (ℕ_discrete c x) (λ d. in_fan (suc c) m h x l d (omega arith) e)
  where
    go : Dec (c ≡ x) → (suc c ≤ x → In (x ∷ l) (fan (suc c) m h)) → In (x ∷ l) (prefixed c (h c) ++ fan (suc c) m h)
    go (yes q) rec = in_left (x ∷ l) (prefixed c (h c)) (fan (suc c) m h) (rw q (in_under x l (h x) e))
    go (no q) rec = in_right (x ∷ l) (prefixed c (h c)) (fan (suc c) m h) (rec (omega (arith, q)))

fan_in : (c m : ℕ) (h : ℕ → List (List ℕ)) (l : List ℕ) → In l (fan c m h) → (x : ℕ) × (r : List ℕ) × (l ≡ x ∷ r) × (c ≤ x) × (x < c + m) × In r (h x)
fan_in c zero h l e = absurd e
fan_in c (suc m) h l e =
    ⊎_elim
    (λ a. let w = under_in c l (h c) a in (c, w.0, w.1, omega arith, omega arith, w.2))
    (λ b. let w = fan_in (suc c) m h l b in (w.0, w.1, w.2, omega (arith, w.3), omega (arith, w.4), w.5))
    (in_joined l (prefixed c (h c)) (fan (suc c) m h) e)

pub leaf_in : {A : Type 0} (t : Tree A) (l : List ℕ) → LeadsToLeaf t l → In l (paths t)
leaf_in (give a) [] h = inl refl
leaf_in (give a) (c ∷ l) h = absurd h
leaf_in (stop r p) [] h = inl refl
leaf_in (stop r p) (c ∷ l) h = absurd h
leaf_in (choose p n ways) [] h = absurd h
leaf_in (choose p n ways) (c ∷ l) h = in_fan 0 n (λ i. paths (ways i)) c l (omega arith) (omega (arith, h.0)) (leaf_in (ways c) l h.1)

pub in_leaf : {A : Type 0} (t : Tree A) (l : List ℕ) → In l (paths t) → LeadsToLeaf t l
in_leaf (give a) l (inl e) = rw e tt
in_leaf (give a) l (inr h) = absurd h
in_leaf (stop r p) l (inl e) = rw e tt
in_leaf (stop r p) l (inr h) = absurd h
in_leaf (choose p n ways) l h =
    let w = fan_in 0 n (λ i. paths (ways i)) l h in
    rw w.2 (omega (arith, w.4), in_leaf (ways w.0) w.1 w.5)

-- ---- the paths ascend

asc_under : (c : ℕ) (ls : List (List ℕ)) → AscendingLists ls → AscendingLists (prefixed c ls)
asc_under c [] a = tt
asc_under c (l ∷ ls) a = (
  λ y m. let w = under_in c y ls m in rw w.1 (inr (refl, a.0 w.0 w.2)),
  asc_under c ls a.1,
)

asc_fan : (c m : ℕ) (h : ℕ → List (List ℕ)) → ((j : ℕ) → AscendingLists (h j)) → AscendingLists (fan c m h)
asc_fan c zero h a = tt
asc_fan c (suc m) h a =
    asc_append (prefixed c (h c)) (fan (suc c) m h) (asc_under c (h c) (a c)) (asc_fan (suc c) m h a)
    (λ x y p q. let u = under_in c x (h c) p in let v = fan_in (suc c) m h y q in rw (u.1, v.2) (inl v.3))

pub paths_ascend : {A : Type 0} (t : Tree A) → AscendingLists (paths t)
paths_ascend (give a) = (λ y m. absurd m, tt)
paths_ascend (stop r p) = (λ y m. absurd m, tt)
paths_ascend (choose p n ways) = asc_fan 0 n (λ i. paths (ways i)) (λ j. paths_ascend (ways j))

-- ---- into the tree, and on to a leaf

pub prefix_nil : {A : Type 0} (t : Tree A) → Prefix t []
prefix_nil (give a) = tt
prefix_nil (stop r p) = tt
prefix_nil (choose p n ways) = tt

-- Entries that lead into the tree, and then zeros, lead to a leaf.
pub extend_leaf : {A : Type 0} (t : Tree A) (l : List ℕ) → Full t → Prefix t l → LeadsToLeaf t (extend t l)
extend_leaf (give a) [] f q = tt
extend_leaf (give a) (c ∷ l) f q = absurd q
extend_leaf (stop r p) [] f q = tt
extend_leaf (stop r p) (c ∷ l) f q = absurd q
extend_leaf (choose p n ways) [] f q = (f.0, extend_leaf (ways 0) [] (f.1 0 f.0) (prefix_nil (ways 0)))
extend_leaf (choose p n ways) (c ∷ l) f q = (q.0, extend_leaf (ways c) l (f.1 c q.0) q.1)

pub first_leaf : {A : Type 0} (t : Tree A) → Full t → LeadsToLeaf t (first_path t)
first_leaf t f = extend_leaf t [] f (prefix_nil t)

pub outcome_extend : {A : Type 0} (t : Tree A) (l : List ℕ) → outcome_at t (extend t l) ≡ outcome_at t l
outcome_extend (give a) l = refl
outcome_extend (stop r p) l = refl
outcome_extend (choose p n ways) [] = outcome_extend (ways 0) []
outcome_extend (choose p n ways) (c ∷ l) = outcome_extend (ways c) l

-- What a path is raised to leads into the tree.
pub raise_case : (n c : ℕ) (m : List ℕ) (b : Bool) → ltb (suc c) n ≡ b → cond b (some (suc c ∷ [])) none ≡ some m → (suc c < n) × (m ≡ suc c ∷ [])
raise_case n c m true e h = (ltb-true (suc c) n e, cc)
raise_case n c m false e h = impossible cc

pub raise_prefix : {A : Type 0} (t : Tree A) (l m : List ℕ) → LeadsToLeaf t l → raise l (counts t l) ≡ some m → Prefix t m
raise_prefix (give a) [] m h e = impossible cc
raise_prefix (give a) (c ∷ l) m h e = absurd h
raise_prefix (stop r p) [] m h e = impossible cc
raise_prefix (stop r p) (c ∷ l) m h e = absurd h
raise_prefix (choose p n ways) [] m h e = absurd h
raise_prefix (choose p n ways) (c ∷ l) m h e = go (raise l (counts (ways c) l)) refl (λ m' d. raise_prefix (ways c) l m' h.1 d) e
  where
    go : (o : Option (List ℕ)) → raise l (counts (ways c) l) ≡ o → ((m' : List ℕ) → raise l (counts (ways c) l) ≡ some m' → Prefix (ways c) m') → cons_or c o (cond (ltb (suc c) n) (some (suc c ∷ [])) none) ≡ some m → Prefix (choose p n ways) m
    go none d rec q = let w = raise_case n c m (ltb (suc c) n) refl q in rw w.1 (w.0, prefix_nil (ways (suc c)))
    go (some m') d rec q = let e : m ≡ c ∷ m' = cc in rw e (h.0, rec m' d)

-- ---- outcomes

-- What a tree gives is what stands at the end of its paths.
pub gives_leaf : {A : Type 0} (t : Tree A) (o : Outcome A) → Gives t o ↔ ((l : List ℕ) × LeadsToLeaf t l × (o ≡ outcome_at t l))
gives_leaf {A} t o = (out t, λ w. back t w.0 w.1 w.2)
  where
    out : (t : Tree A) → Gives t o → (l : List ℕ) × LeadsToLeaf t l × (o ≡ outcome_at t l)
    out (give a) h = ([], tt, h)
    out (stop r p) h = ([], tt, h)
    out (choose p n ways) h = let w = out (ways h.0) h.2 in (h.0 ∷ w.0, (h.1, w.1), w.2)

    back : (t : Tree A) (l : List ℕ) → LeadsToLeaf t l → o ≡ outcome_at t l → Gives t o
    back (give a) l h e = e
    back (stop r p) l h e = e
    back (choose p n ways) [] h e = absurd h
    back (choose p n ways) (c ∷ l) h e = (c, h.0, back (ways c) l h.1 e)
