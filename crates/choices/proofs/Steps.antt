-- From the first path on, `next_path` goes through the paths of a tree one after the other, whatever their length.
use mathlib.Core.Path.{◌≡◌, refl, ap, ◌∙◌}
use mathlib.Core.Bool.{Bool, true, false, cond}
use mathlib.Core.Option.{Option, none, some}
use mathlib.Core.List.{List, [], ◌∷◌, ◌++◌}
use Prim.Native.Nat.{ℕ, zero, suc, ◌+◌, ◌<◌}
use native.Mathlib.Omega.{arith}
use native.Mathlib.Decide.{dec_lt}
use lib.ListN.{length, get_or}
use lib.Dec.{ltb}
use borrow.Author.Tests.{lt-ltb, le-ltb}
use Rattle.prelude.proofs.Absurd.{impossible}
use Rattle.choices.specs.Tree.{Tree, give, stop, choose, Full}
use Rattle.choices.specs.Paths.{prefixed, fan, paths, counts, extend, first_path, cons_or, raise, on_some, next_path}

-- the first of a list, else z
abbrev head_or : Option (List ℕ) → List (List ℕ) → Option (List ℕ)
head_or z [] = z
head_or z (x ∷ xs) = some x

-- f leads from each to the one after it, and from the last to z
abbrev Leads : (List ℕ → Option (List ℕ)) → List (List ℕ) → Option (List ℕ) → Type 0
Leads f [] z = Unit {0}
Leads f (x ∷ xs) z = (f x ≡ head_or z xs) × Leads f xs z

head-append : (z : Option (List ℕ)) (xs ys : List (List ℕ)) → head_or (head_or z ys) xs ≡ head_or z (xs ++ ys)
head-append z [] ys = refl
head-append z (x ∷ xs) ys = refl

leads_append : (f : List ℕ → Option (List ℕ)) (xs ys : List (List ℕ)) (z : Option (List ℕ)) → Leads f xs (head_or z ys) → Leads f ys z → Leads f (xs ++ ys) z
leads_append f [] ys z a b = b
leads_append f (x ∷ xs) ys z a b = (a.0 ∙ head-append z xs ys, leads_append f xs ys z a.1 b)

-- what follows the last path below the ways before c
abbrev from : {A : Type 0} → ℕ → (ℕ → Tree A) → ℕ → Option (List ℕ)
from n ways c = cond (ltb c n) (some (c ∷ first_path (ways c))) none

next_by : {A : Type 0} (p n : ℕ) (ways : ℕ → Tree A) (c : ℕ) (o : Option (List ℕ)) (b : Bool) → on_some (extend (choose p n ways)) (cons_or c o (cond b (some (suc c ∷ [])) none)) ≡ cons_or c (on_some (extend (ways c)) o) (cond b (some (suc c ∷ first_path (ways (suc c)))) none)
next_by p n ways c none true = refl
next_by p n ways c none false = refl
next_by p n ways c (some l) b = refl

-- the path after one at a choice, by the path after it at the way taken
next_choose : {A : Type 0} (p n : ℕ) (ways : ℕ → Tree A) (c : ℕ) (l : List ℕ) → next_path (choose p n ways) (c ∷ l) ≡ cons_or c (next_path (ways c) l) (from n ways (suc c))
next_choose p n ways c l = next_by p n ways c (raise l (counts (ways c) l)) (ltb (suc c) n)

under_head : (c : ℕ) (z : Option (List ℕ)) (ls : List (List ℕ)) → cons_or c (head_or none ls) z ≡ head_or z (prefixed c ls)
under_head c z [] = refl
under_head c z (l ∷ ls) = refl

leads_under : {A : Type 0} (p n : ℕ) (ways : ℕ → Tree A) (c : ℕ) (ls : List (List ℕ)) → Leads (next_path (ways c)) ls none → Leads (next_path (choose p n ways)) (prefixed c ls) (from n ways (suc c))
leads_under p n ways c [] r = tt
leads_under p n ways c (l ∷ ls) r = (
  next_choose p n ways c l ∙ ap (λ (o : Option (List ℕ)). cons_or c o (from n ways (suc c))) r.0 ∙ under_head c (from n ways (suc c)) ls,
  leads_under p n ways c ls r.1,
)

head_under : (c : ℕ) (y : List ℕ) (xs ys : List (List ℕ)) → head_or none xs ≡ some y → head_or none (prefixed c xs ++ ys) ≡ some (c ∷ y)
head_under c y [] ys e = impossible cc
head_under c y (x ∷ xs) ys e = let d : x ≡ y = cc in ap (λ (l : List ℕ). some (c ∷ l)) d

module _ {A : Type 0} (p n : ℕ) (ways : ℕ → Tree A) (heads : (j : ℕ) → j < n → head_or none (paths (ways j)) ≡ some (first_path (ways j))) where
  head_fan : (c m : ℕ) → c + m ≡ n → head_or none (fan c m (λ j. paths (ways j))) ≡ from n ways c
  head_fan c zero e = rw (le-ltb c n (omega arith))
  head_fan c (suc m) e =
      let lt : c < n = omega arith in
      rw (lt-ltb c n lt) (head_under c (first_path (ways c)) (paths (ways c)) (fan (suc c) m (λ j. paths (ways j))) (heads c lt))

  leads_fan : ((j : ℕ) → j < n → Leads (next_path (ways j)) (paths (ways j)) none) → (c m : ℕ) → c + m ≡ n → Leads (next_path (choose p n ways)) (fan c m (λ j. paths (ways j))) none
  leads_fan r c zero e = tt
  leads_fan r c (suc m) e =
      leads_append (next_path (choose p n ways)) (prefixed c (paths (ways c))) (fan (suc c) m (λ j. paths (ways j))) none
      (rw (head_fan (suc c) m (omega arith)) (leads_under p n ways c (paths (ways c)) (r c (omega arith))))
      (leads_fan r (suc c) m (omega arith))

head_paths : {A : Type 0} (t : Tree A) → Full t → head_or none (paths t) ≡ some (first_path t)
head_paths (give a) f = refl
head_paths (stop r p) f = refl
head_paths (choose p n ways) f = head_fan p n ways (λ j lt. head_paths (ways j) (f.1 j lt)) 0 n (omega arith) ∙ rw (lt-ltb 0 n f.0)

leads_paths : {A : Type 0} (t : Tree A) → Full t → Leads (next_path t) (paths t) none
leads_paths (give a) f = (refl, tt)
leads_paths (stop r p) f = (refl, tt)
leads_paths (choose p n ways) f = leads_fan p n ways (λ j lt. head_paths (ways j) (f.1 j lt)) (λ j lt. leads_paths (ways j) (f.1 j lt)) 0 n (omega arith)

-- ---- by index

leads_at : (f : List ℕ → Option (List ℕ)) (xs : List (List ℕ)) (z : Option (List ℕ)) → Leads f xs z → (k : ℕ) → suc k < length xs → f (get_or xs k []) ≡ some (get_or xs (suc k) [])
leads_at f [] z r k h = absurd (omega arith)
leads_at f (x ∷ []) z r k h = absurd (omega arith)
leads_at f (x ∷ y ∷ xs) z r zero h = r.0
leads_at f (x ∷ y ∷ xs) z r (suc k) h = leads_at f (y ∷ xs) z r.1 k (omega arith)

leads_end : (f : List ℕ → Option (List ℕ)) (xs : List (List ℕ)) (z : Option (List ℕ)) → Leads f xs z → (k : ℕ) → suc k ≡ length xs → f (get_or xs k []) ≡ z
leads_end f [] z r k h = absurd (omega arith)
leads_end f (x ∷ []) z r zero h = r.0
leads_end f (x ∷ []) z r (suc k) h = absurd (omega arith)
leads_end f (x ∷ y ∷ xs) z r zero h = absurd (omega arith)
leads_end f (x ∷ y ∷ xs) z r (suc k) h = leads_end f (y ∷ xs) z r.1 k (omega arith)

head_get : (xs : List (List ℕ)) (y : List ℕ) → head_or none xs ≡ some y → (0 < length xs) × (get_or xs 0 [] ≡ y)
head_get [] y e = impossible cc
head_get (x ∷ xs) y e = (omega arith, cc)

-- There is a path, and the first is the path of zeros.
pub first_path_lem : {A : Type 0} (t : Tree A) → Full t → (0 < length (paths t)) × (get_or (paths t) 0 [] ≡ first_path t)
first_path_lem t f = head_get (paths t) (first_path t) (head_paths t f)

-- After each path but the last comes the next.
next_path_lem : {A : Type 0} (t : Tree A) → Full t → (k : ℕ) → suc k < length (paths t) → next_path t (get_or (paths t) k []) ≡ some (get_or (paths t) (suc k) [])
next_path_lem t f k h = leads_at (next_path t) (paths t) none (leads_paths t f) k h

-- After the last there is none.
next_ends : {A : Type 0} (t : Tree A) → Full t → (k : ℕ) → suc k ≡ length (paths t) → next_path t (get_or (paths t) k []) ≡ none
next_ends t f k h = leads_end (next_path t) (paths t) none (leads_paths t f) k h

-- The path after the one at k, where there is one, stands at the index after k.
pub next-some : {A : Type 0} (t : Tree A) → Full t → (k : ℕ) (m : List ℕ) → k < length (paths t) → next_path t (get_or (paths t) k []) ≡ some m → (suc k < length (paths t)) × (m ≡ get_or (paths t) (suc k) [])
next-some t f k m h e = go (dec_lt (suc k) (length (paths t)))
  where
    go : Dec (suc k < length (paths t)) → (suc k < length (paths t)) × (m ≡ get_or (paths t) (suc k) [])
    go (yes lt) = let q = next_path_lem t f k lt in (lt, cc)
    go (no n) = let q = next_ends t f k (omega arith) in impossible cc

-- None comes after the last only.
pub next-none : {A : Type 0} (t : Tree A) → Full t → (k : ℕ) → k < length (paths t) → next_path t (get_or (paths t) k []) ≡ none → suc k ≡ length (paths t)
next-none t f k h e = go (dec_lt (suc k) (length (paths t)))
  where
    go : Dec (suc k < length (paths t)) → suc k ≡ length (paths t)
    go (yes lt) = let q = next_path_lem t f k lt in impossible cc
    go (no n) = omega arith
