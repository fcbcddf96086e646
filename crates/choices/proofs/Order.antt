-- Dictionary order is a strict order of all lists; ascending lists of lists, their members and their parts.
use mathlib.Core.Path.{◌≡◌, refl, sym, ap₂, ◌∙◌, subst}
use mathlib.Core.Logic.{◌⊎◌, inl, inr, ⊎_elim, ◌↔◌}
use mathlib.Core.List.{List, [], ◌∷◌, ◌++◌}
use Prim.Native.Nat.{ℕ, zero, suc, ◌<◌}
use native.Mathlib.Omega.{arith}
use native.Mathlib.Decide.{dec_lt}
use lib.ListN.{length, get_or, take}
use Rattle.prelude.proofs.Membership.{in_joined, at_in, in_take}
use Rattle.prelude.specs.Membership.{In}
use Rattle.choices.specs.Lists.{before, AscendingLists}

-- ---- the order

pub before_irrefl : (l : List ℕ) → before l l → ⊥
before_irrefl [] h = h
before_irrefl (c ∷ l) (inl h) = omega arith
before_irrefl (c ∷ l) (inr h) = before_irrefl l h.1

before_trans : (a b c : List ℕ) → before a b → before b c → before a c
before_trans [] [] c h k = absurd h
before_trans [] (y ∷ b) [] h k = absurd k
before_trans [] (y ∷ b) (z ∷ c) h k = tt
before_trans (x ∷ a) [] c h k = absurd h
before_trans (x ∷ a) (y ∷ b) [] h k = absurd k
before_trans (x ∷ a) (y ∷ b) (z ∷ c) (inl h) (inl k) = inl (omega arith)
before_trans (x ∷ a) (y ∷ b) (z ∷ c) (inl h) (inr k) = inl (omega (arith, k.0))
before_trans (x ∷ a) (y ∷ b) (z ∷ c) (inr h) (inl k) = inl (omega (arith, h.0))
before_trans (x ∷ a) (y ∷ b) (z ∷ c) (inr h) (inr k) = inr (h.0 ∙ k.0, before_trans a b c h.1 k.1)

pub before_asym : (a b : List ℕ) → before a b → before b a → ⊥
before_asym a b h k = before_irrefl a (before_trans a b a h k)

-- Of two lists one stands before the other, or they are the same.
pub before_total : (a b : List ℕ) → before a b ⊎ ((a ≡ b) ⊎ before b a)
before_total [] [] = inr (inl refl)
before_total [] (y ∷ b) = inl tt
before_total (x ∷ a) [] = inr (inr tt)
before_total (x ∷ a) (y ∷ b) = go (dec_lt x y) (dec_lt y x) (before_total a b)
  where
    go : Dec (x < y) → Dec (y < x) → before a b ⊎ ((a ≡ b) ⊎ before b a) → before (x ∷ a) (y ∷ b) ⊎ ((x ∷ a ≡ y ∷ b) ⊎ before (y ∷ b) (x ∷ a))
    go (yes h) d rest = inl (inl h)
    go (no h) (yes k) rest = inr (inr (inl k))
    go (no h) (no k) rest =
        let e : x ≡ y = omega arith in
        ⊎_elim
        (λ w. inl (inr (e, w)))
        (⊎_elim (λ q. inr (inl (ap₂ (λ (z : ℕ) (m : List ℕ). z ∷ m) e q))) (λ w. inr (inr (inr (sym e, w)))))
        rest

-- m begins with the entries l.
abbrev pub BeginsWith : List ℕ → List ℕ → Type 0
BeginsWith l m = (rest : List ℕ) × (m ≡ l ++ rest)

-- What stands between two lists that begin alike begins so too.
pub between_begins : (l a b c : List ℕ) → BeginsWith l a → BeginsWith l c → before a b → before b c → BeginsWith l b
between_begins l a b c h k p q = go l b h.0 k.0 (subst (λ (x : List ℕ). before x b) h.1 p) (subst (λ (x : List ℕ). before b x) k.1 q)
  where
    go : (l b u v : List ℕ) → before (l ++ u) b → before b (l ++ v) → BeginsWith l b
    go [] b u v p q = (b, refl)
    go (x ∷ l) [] u v p q = absurd p
    go (x ∷ l) (y ∷ b) u v (inl p) (inl q) = absurd (omega arith)
    go (x ∷ l) (y ∷ b) u v (inl p) (inr q) = absurd (omega (arith, q.0))
    go (x ∷ l) (y ∷ b) u v (inr p) (inl q) = absurd (omega (arith, p.0))
    go (x ∷ l) (y ∷ b) u v (inr p) (inr q) = let w = go l b u v p.1 q.1 in (w.0, ap₂ (λ (z : ℕ) (m : List ℕ). z ∷ m) (sym p.0) w.1)

-- A later entry after the same beginning stands later.
pub before_at : (l : List ℕ) (x y : ℕ) (u v : List ℕ) → x < y → before (l ++ x ∷ u) (l ++ y ∷ v)
before_at [] x y u v h = inl h
before_at (c ∷ l) x y u v h = inr (refl, before_at l x y u v h)

-- ---- ascending

pub asc_append : (xs ys : List (List ℕ)) → AscendingLists xs → AscendingLists ys → ((x y : List ℕ) → In x xs → In y ys → before x y) → AscendingLists (xs ++ ys)
asc_append [] ys a b h = b
asc_append (x ∷ xs) ys a b h = (
  λ y m. ⊎_elim (λ e. a.0 y e) (λ e. h x y (inl refl) e) (in_joined y xs ys m),
  asc_append xs ys a.1 b (λ u v p q. h u v (inr p) q),
)

pub asc_take : (xs : List (List ℕ)) (j : ℕ) → AscendingLists xs → AscendingLists (take j xs)
asc_take [] zero a = tt
asc_take [] (suc j) a = tt
asc_take (x ∷ xs) zero a = tt
asc_take (x ∷ xs) (suc j) a = (λ y m. a.0 y (in_take y xs j m), asc_take xs j a.1)

-- The first j of an ascending list are those before the one at j.
pub take_before : (xs : List (List ℕ)) (j : ℕ) (l : List ℕ) → AscendingLists xs → j < length xs → In l (take j xs) → before l (get_or xs j [])
take_before [] j l a h m = absurd (omega arith)
take_before (x ∷ xs) zero l a h m = absurd m
take_before (x ∷ xs) (suc j) l a h (inl e) = subst (λ (y : List ℕ). before y (get_or xs j [])) (sym e) (a.0 (get_or xs j []) (at_in xs j [] (omega arith)))
take_before (x ∷ xs) (suc j) l a h (inr m) = take_before xs j l a.1 (omega arith) m

pub before_take : (xs : List (List ℕ)) (j : ℕ) (l : List ℕ) → AscendingLists xs → j < length xs → In l xs → before l (get_or xs j []) → In l (take j xs)
before_take [] j l a h m b = absurd m
before_take (x ∷ xs) zero l a h (inl e) b = absurd (before_irrefl x (subst (λ (y : List ℕ). before y x) e b))
before_take (x ∷ xs) zero l a h (inr m) b = absurd (before_asym l x b (a.0 l m))
before_take (x ∷ xs) (suc j) l a h (inl e) b = inl e
before_take (x ∷ xs) (suc j) l a h (inr m) b = inr (before_take xs j l a.1 (omega arith) m b)

-- What stands before a later index stands before the earlier one, or is the one there.
pub asc_at : (xs : List (List ℕ)) (i j : ℕ) → AscendingLists xs → i < j → j < length xs → before (get_or xs i []) (get_or xs j [])
asc_at [] i j a h k = absurd (omega arith)
asc_at (x ∷ xs) i zero a h k = absurd (omega arith)
asc_at (x ∷ xs) zero (suc j) a h k = a.0 (get_or xs j []) (at_in xs j [] (omega arith))
asc_at (x ∷ xs) (suc i) (suc j) a h k = asc_at xs i j a.1 (omega arith) (omega arith)

-- Two ascending lists with the same members are the same.
pub asc_same : (xs ys : List (List ℕ)) → AscendingLists xs → AscendingLists ys → ((l : List ℕ) → In l xs ↔ In l ys) → xs ≡ ys
asc_same [] [] a b h = refl
asc_same [] (y ∷ ys) a b h = absurd ((h y).1 (inl refl))
asc_same (x ∷ xs) [] a b h = absurd ((h x).0 (inl refl))
asc_same (x ∷ xs) (y ∷ ys) a b h =
    let e : x ≡ y = heads ((h x).0 (inl refl)) ((h y).1 (inl refl)) in
    ap₂ (λ (z : List ℕ) (zs : List (List ℕ)). z ∷ zs) e (asc_same xs ys a.1 b.1 (λ l. (λ m. there l e m ((h l).0 (inr m)), λ m. back l e m ((h l).1 (inr m)))))
  where
    heads : In x (y ∷ ys) → In y (x ∷ xs) → x ≡ y
    heads (inl e) k = e
    heads (inr m) (inl e) = sym e
    heads (inr m) (inr k) = absurd (before_asym x y (a.0 y k) (b.0 x m))

    there : (l : List ℕ) → x ≡ y → In l xs → In l (y ∷ ys) → In l ys
    there l e m (inl q) = absurd (before_irrefl x (subst (λ (z : List ℕ). before x z) (q ∙ sym e) (a.0 l m)))
    there l e m (inr k) = k

    back : (l : List ℕ) → x ≡ y → In l ys → In l (x ∷ xs) → In l xs
    back l e m (inl q) = absurd (before_irrefl y (subst (λ (z : List ℕ). before y z) (q ∙ e) (b.0 l m)))
    back l e m (inr k) = k
