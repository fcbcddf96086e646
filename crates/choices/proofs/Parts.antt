-- Where given entries run to 32: the complete lists that begin with them, in parts by their next entry.
use mathlib.Core.Path.{◌≡◌, refl, sym, ap, ◌∙◌, subst}
use mathlib.Core.Bool.{Bool, true, false, cond}
use mathlib.Core.List.{List, [], ◌∷◌, ◌++◌}
use Prim.Native.Nat.{ℕ, zero, suc, ◌<◌}
use native.Mathlib.Omega.{arith}
use lib.Dec.{ltb}
use borrow.Author.Tests.{ltb-true}
use Rattle.prelude.proofs.Absurd.{impossible}
use Rattle.choices.specs.Tree.{Tree, give, stop, choose, most_choices, Full, short, beyond, follow, run}
use Rattle.choices.specs.Lists.{Complete, before}
use Rattle.choices.specs.Paths.{first_path, cut_after}
use Rattle.choices.proofs.Leaves.{LeadsToLeaf}
use Rattle.choices.proofs.Order.{BeginsWith, between_begins, before_at}
use Rattle.choices.proofs.Paths.{first_leaf}
use Rattle.choices.proofs.Cut.{full_cut, complete_leaf, leaf_complete}

-- The complete lists that begin with l stand together without a break, in n parts by their next entry, none empty.
pub record Parts {A : Type 0} (t : Tree A) (l : List ℕ) (n : ℕ) : Type 0 where
  -- each has a next entry, from 0 to n - 1
  pub entry : (m : List ℕ) → Complete t m → BeginsWith l m → (c : ℕ) × (c < n) × BeginsWith (l ++ c ∷ []) m
  -- no part is empty
  pub filled : (c : ℕ) → c < n → (m : List ℕ) × Complete t m × BeginsWith (l ++ c ∷ []) m
  -- what stands between two of them is one of them
  pub together : (a m b : List ℕ) → BeginsWith l a → BeginsWith l b → before a m → before m b → BeginsWith l m
  -- what stands between two of one part is of that part
  pub unbroken : (c : ℕ) (a m b : List ℕ) → BeginsWith (l ++ c ∷ []) a → BeginsWith (l ++ c ∷ []) b → before a m → before m b → BeginsWith (l ++ c ∷ []) m
  -- the parts follow each other by their entry
  pub ordered : (c d : ℕ) (a b : List ℕ) → c < d → BeginsWith (l ++ c ∷ []) a → BeginsWith (l ++ d ∷ []) b → before a b

-- where following l asks for one more entry, a path that begins with l has it
opened : {A : Type 0} (t : Tree A) (k : ℕ) (l : List ℕ) (p n : ℕ) (rest : List ℕ) → follow t k l ≡ short p n → LeadsToLeaf (cut_after k t) (l ++ rest) → (c : ℕ) × (m : List ℕ) × (c < n) × (rest ≡ c ∷ m)
opened (give a) k l p n rest e h = impossible cc
opened (stop s q) k l p n rest e h = impossible cc
opened (choose q m ways) zero l p n rest e h = impossible cc
opened (choose q m ways) (suc k) [] p n [] e h = absurd h
opened (choose q m ways) (suc k) [] p n (c ∷ rest) e h = let d : m ≡ n = cc in (c, rest, omega (arith, h.0), refl)
opened (choose q m ways) (suc k) (x ∷ l) p n rest e h = go (ltb x m) (λ d. opened (ways x) k l p n rest d h.1) e
  where
    go : (b : Bool) → (follow (ways x) k l ≡ short p n → (c : ℕ) × (m : List ℕ) × (c < n) × (rest ≡ c ∷ m)) → cond b (follow (ways x) k l) (beyond q m (x ∷ l)) ≡ short p n → (c : ℕ) × (m : List ℕ) × (c < n) × (rest ≡ c ∷ m)
    go true rec d = rec d
    go false rec d = impossible cc

-- and each of its n ways leads on to a leaf
leads_on : {A : Type 0} (t : Tree A) (k : ℕ) (l : List ℕ) (p n c : ℕ) → Full t → follow t k l ≡ short p n → c < n → (rest : List ℕ) × LeadsToLeaf (cut_after k t) (l ++ c ∷ rest)
leads_on (give a) k l p n c f e h = impossible cc
leads_on (stop s q) k l p n c f e h = impossible cc
leads_on (choose q m ways) zero l p n c f e h = impossible cc
leads_on (choose q m ways) (suc k) [] p n c f e h =
    let d : m ≡ n = cc in
    let lt : c < m = omega arith in
    (first_path (cut_after k (ways c)), (lt, first_leaf (cut_after k (ways c)) (full_cut k (ways c) (f.1 c lt))))
leads_on (choose q m ways) (suc k) (x ∷ l) p n c f e h = go (ltb x m) refl (λ lt d. leads_on (ways x) k l p n c (f.1 x lt) d h) e
  where
    go : (b : Bool) → ltb x m ≡ b → (x < m → follow (ways x) k l ≡ short p n → (rest : List ℕ) × LeadsToLeaf (cut_after k (ways x)) (l ++ c ∷ rest)) → cond b (follow (ways x) k l) (beyond q m (x ∷ l)) ≡ short p n → (rest : List ℕ) × LeadsToLeaf (cut_after (suc k) (choose q m ways)) (x ∷ (l ++ c ∷ rest))
    go true q rec d = let w = rec (ltb-true x m q) d in (w.0, (ltb-true x m q, w.1))
    go false q rec d = impossible cc

snoc : (l : List ℕ) (c : ℕ) (rest : List ℕ) → l ++ c ∷ rest ≡ (l ++ c ∷ []) ++ rest
snoc [] c rest = refl
snoc (x ∷ l) c rest = ap (λ (m : List ℕ). x ∷ m) (snoc l c rest)

pub short_parts : {A : Type 0} (t : Tree A) (l : List ℕ) (p n : ℕ) → Full t → run t l ≡ short p n → Parts t l n
short_parts t l p n f e =
    record {
      entry = λ m h b.
          let w = opened t most_choices l p n b.0 e (subst (LeadsToLeaf (cut_after most_choices t)) b.1 (complete_leaf t m h)) in
          (w.0, w.2, (w.1, b.1 ∙ ap (λ (x : List ℕ). l ++ x) w.3 ∙ snoc l w.0 w.1));
      filled = λ c h. let w = leads_on t most_choices l p n c f e h in (l ++ c ∷ w.0, leaf_complete t (l ++ c ∷ w.0) w.1, (w.0, snoc l c w.0));
      together = λ a m b. between_begins l a m b;
      unbroken = λ c a m b. between_begins (l ++ c ∷ []) a m b;
      ordered = λ c d a b h i j.
          let x = i.1 ∙ sym (snoc l c i.0) in
          let y = j.1 ∙ sym (snoc l d j.0) in
          subst (before a) (sym y) (subst (λ (z : List ℕ). before z (l ++ d ∷ j.0)) (sym x) (before_at l c d i.0 j.0 h));
    }
