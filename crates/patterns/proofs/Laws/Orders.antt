-- The orders of units by their number: how many there are, and which unit stands where.
use Rattle.std.specs.Prelude.{◌≡◌}
use Rattle.std.proofs.Math.Path.{refl, ap}
use Rattle.std.proofs.Common.{sym, ◌∙◌, inl, inr, suc-mul, zero-mul, arith, get_or-append-add}
use mathlib.Core.List.{List, [], ◌∷◌, ◌++◌}
use Prim.Native.Nat.{ℕ, zero, suc, ◌+◌, ◌*◌, ◌≤◌, ◌<◌}
use Rattle.std.proofs.Math.ListN.{length, get_or, length-append, get_or-append}
use Rattle.std.proofs.lemmas.List.{length-map}
use Rattle.prelude.proofs.Lists.{map_at}
use Rattle.prelude.specs.Membership.{In}
use Rattle.patterns.specs.Ways.{gather, at_every_place, orders, factorial}
use Rattle.patterns.proofs.Laws.Members.{in_gather}
use Rattle.patterns.proofs.Laws.Units.{in_placed}

pub factorial_more : (n : ℕ) → factorial (suc n) ≡ factorial n * suc n
unfolding factorial
factorial_more n = refl

-- lists of one length, one after the other
gather_length : {A B : Type 0} (n : ℕ) (ls : List A) (f : A → List B) → ((a : A) → In a ls → length (f a) ≡ n) → length (gather ls f) ≡ length ls * n
unfolding gather
gather_length n [] f h = sym (zero-mul n)
gather_length n (a ∷ ls) f h =
    let e = suc-mul (length ls) n in
    omega (arith, length-append (f a) (gather ls f), h a (inl refl), gather_length n ls f (λ b i. h b (inr i)))

gather_at : {A B : Type 0} (n : ℕ) (ls : List A) (f : A → List B) (q r : ℕ) (w : A) (z : B) → ((a : A) → In a ls → length (f a) ≡ n) → q < length ls → r < n
    → get_or (gather ls f) (q * n + r) z ≡ get_or (f (get_or ls q w)) r z
unfolding gather
gather_at n [] f q r w z h l m = absurd (omega arith)
gather_at n (a ∷ ls) f zero r w z h l m =
    let e : 0 * n + r ≡ r = omega (arith, zero-mul n) in
    ap (λ (k : ℕ). get_or (f a ++ gather ls f) k z) e ∙ get_or-append (f a) (gather ls f) z r (omega (arith, h a (inl refl)))
gather_at n (a ∷ ls) f (suc q) r w z h l m =
    let e : suc q * n + r ≡ length (f a) + (q * n + r) = omega (arith, suc-mul q n, h a (inl refl)) in
    ap (λ (k : ℕ). get_or (f a ++ gather ls f) k z) e ∙ get_or-append-add (f a) (gather ls f) (q * n + r) z ∙ gather_at n ls f q r w z (λ b i. h b (inr i)) (omega arith) m

module _ {A : Type 0} where
  placed_length : (x : A) (ys : List A) → length (at_every_place x ys) ≡ suc (length ys)
  unfolding at_every_place
  placed_length x [] = refl
  placed_length x (y ∷ ys) = ap suc (length-map (at_every_place x ys) (λ zs. y ∷ zs) ∙ placed_length x ys)

  -- every order has all units
  pub order_length : (xs ys : List A) → In ys (orders xs) → length ys ≡ length xs
  unfolding orders
  order_length [] ys (inl e) = ap length e
  order_length [] ys (inr i) = absurd i
  order_length (x ∷ xs) ys i =
      let (zs, j, k) = in_gather ys (orders xs) (at_every_place x) i in
      let (l, r, p, q) = (in_placed x zs ys).0 k in
      let a = ap length p ∙ length-append l r in
      let b = ap length q ∙ length-append l (x ∷ r) in
      omega (arith, order_length xs zs j, a, b)

  pub orders_length : (xs : List A) → length (orders xs) ≡ factorial (length xs)
  unfolding orders factorial
  orders_length [] = refl
  orders_length (x ∷ xs) =
      gather_length (suc (length xs)) (orders xs) (at_every_place x) (λ ys i. placed_length x ys ∙ ap suc (order_length xs ys i))
      ∙ ap (λ (k : ℕ). k * suc (length xs)) (orders_length xs)

  -- the unit x put at r: before it the units as they were, after it moved by one
  placed_here : (x : A) (ys : List A) (r : ℕ) (z : A) → r ≤ length ys → get_or (get_or (at_every_place x ys) r []) r z ≡ x
  unfolding at_every_place
  placed_here x [] zero z h = refl
  placed_here x [] (suc r) z h = absurd (omega arith)
  placed_here x (y ∷ ys) zero z h = refl
  placed_here x (y ∷ ys) (suc r) z h =
      ap (λ (l : List A). get_or l (suc r) z) (map_at (λ zs. y ∷ zs) (at_every_place x ys) r [] [] (omega (arith, placed_length x ys))) ∙ placed_here x ys r z (omega arith)

  placed_before : (x : A) (ys : List A) (r i : ℕ) (z : A) → r ≤ length ys → i < r → get_or (get_or (at_every_place x ys) r []) i z ≡ get_or ys i z
  unfolding at_every_place
  placed_before x [] r i z h l = absurd (omega arith)
  placed_before x (y ∷ ys) zero i z h l = absurd (omega arith)
  placed_before x (y ∷ ys) (suc r) zero z h l = ap (λ (l : List A). get_or l 0 z) (map_at (λ zs. y ∷ zs) (at_every_place x ys) r [] [] (omega (arith, placed_length x ys)))
  placed_before x (y ∷ ys) (suc r) (suc i) z h l =
      ap (λ (l : List A). get_or l (suc i) z) (map_at (λ zs. y ∷ zs) (at_every_place x ys) r [] [] (omega (arith, placed_length x ys))) ∙ placed_before x ys r i z (omega arith) (omega arith)

  placed_after : (x : A) (ys : List A) (r i : ℕ) (z : A) → r ≤ length ys → r ≤ i → get_or (get_or (at_every_place x ys) r []) (suc i) z ≡ get_or ys i z
  unfolding at_every_place
  placed_after x [] zero i z h l = refl
  placed_after x [] (suc r) i z h l = absurd (omega arith)
  placed_after x (y ∷ ys) zero i z h l = refl
  placed_after x (y ∷ ys) (suc r) zero z h l = absurd (omega arith)
  placed_after x (y ∷ ys) (suc r) (suc i) z h l =
      ap (λ (l : List A). get_or l (suc (suc i)) z) (map_at (λ zs. y ∷ zs) (at_every_place x ys) r [] [] (omega (arith, placed_length x ys))) ∙ placed_after x ys r i z (omega arith) (omega arith)

  -- The order at q * n + r of n units is the order at q of the units but the first, with the first put at r.
  module _ (x : A) (xs : List A) (q r : ℕ) (z : A) (lq : q < factorial (length xs)) (lr : r < suc (length xs)) where
    at_orders : get_or (orders (x ∷ xs)) (q * suc (length xs) + r) [] ≡ get_or (at_every_place x (get_or (orders xs) q [])) r []
    unfolding orders
    at_orders =
        gather_at (suc (length xs)) (orders xs) (at_every_place x) q r [] [] (λ ys i. placed_length x ys ∙ ap suc (order_length xs ys i)) (omega (arith, orders_length xs)) lr

    long : length (get_or (orders xs) q []) ≡ length xs
    long = order_length xs (get_or (orders xs) q []) (here (orders xs) q (omega (arith, orders_length xs)))
      where
        here : (ls : List (List A)) (q : ℕ) → q < length ls → In (get_or ls q []) ls
        here [] q h = absurd (omega arith)
        here (l ∷ ls) zero h = inl refl
        here (l ∷ ls) (suc q) h = inr (here ls q (omega arith))

    pub order_here : get_or (get_or (orders (x ∷ xs)) (q * suc (length xs) + r) []) r z ≡ x
    order_here = ap (λ (l : List A). get_or l r z) at_orders ∙ placed_here x (get_or (orders xs) q []) r z (omega (arith, long))

    pub order_before : (i : ℕ) → i < r → get_or (get_or (orders (x ∷ xs)) (q * suc (length xs) + r) []) i z ≡ get_or (get_or (orders xs) q []) i z
    order_before i h = ap (λ (l : List A). get_or l i z) at_orders ∙ placed_before x (get_or (orders xs) q []) r i z (omega (arith, long)) h

    pub order_after : (i : ℕ) → r ≤ i → get_or (get_or (orders (x ∷ xs)) (q * suc (length xs) + r) []) (suc i) z ≡ get_or (get_or (orders xs) q []) i z
    order_after i h = ap (λ (l : List A). get_or l (suc i) z) at_orders ∙ placed_after x (get_or (orders xs) q []) r i z (omega (arith, long)) h
