-- Laws of what is among a list: lists joined, taken by a test, indexed and mapped.
use mathlib.Core.Path.{◌≡◌, refl, ap}
use mathlib.Core.Bool.{Bool, true, false, cond}
use mathlib.Core.Logic.{◌⊎◌, inl, inr, ⊎_elim}
use mathlib.Core.List.{List, [], ◌∷◌, ◌++◌, map}
use Prim.Native.Nat.{ℕ, zero, suc, ◌<◌}
use native.Mathlib.Omega.{arith}
use lib.ListN.{length, get_or, take}
use Rattle.prelude.specs.Membership.{In}

module _ {A : Type 0} where
  pub in_one : (x : A) {y : A} → In x (y ∷ []) → x ≡ y
  in_one x (inl e) = e
  in_one x (inr h) = absurd h

  -- ---- joined

  pub in_left : (x : A) (xs ys : List A) → In x xs → In x (xs ++ ys)
  in_left x [] ys h = absurd h
  in_left x (z ∷ xs) ys (inl e) = inl e
  in_left x (z ∷ xs) ys (inr h) = inr (in_left x xs ys h)

  pub in_right : (x : A) (xs ys : List A) → In x ys → In x (xs ++ ys)
  in_right x [] ys h = h
  in_right x (z ∷ xs) ys h = inr (in_right x xs ys h)

  pub in_joined : (x : A) (xs ys : List A) → In x (xs ++ ys) → In x xs ⊎ In x ys
  in_joined x [] ys h = inr h
  in_joined x (z ∷ xs) ys (inl e) = inl (inl e)
  in_joined x (z ∷ xs) ys (inr h) = ⊎_elim (λ p. inl (inr p)) (λ p. inr p) (in_joined x xs ys h)

  -- ---- a list or none, by a test

  pub in_picked : (x : A) (t : Bool) (xs : List A) → In x (cond t xs []) → (t ≡ true) × In x xs
  in_picked x true xs h = (refl, h)
  in_picked x false xs h = absurd h

  pub picked_in : (x : A) (t : Bool) (xs : List A) → t ≡ true → In x xs → In x (cond t xs [])
  picked_in x t xs e h = rw e h

  -- ---- by index (z stands for what is beyond the list)

  pub in_at : (x : A) (xs : List A) (z : A) → In x xs → (j : ℕ) × (j < length xs) × (x ≡ get_or xs j z)
  in_at x [] z h = absurd h
  in_at x (y ∷ xs) z (inl e) = (0, omega arith, e)
  in_at x (y ∷ xs) z (inr h) = let (j, l, e) = in_at x xs z h in (suc j, omega (arith, l), e)

  pub at_in : (xs : List A) (j : ℕ) (z : A) → j < length xs → In (get_or xs j z) xs
  at_in [] j z h = absurd (omega arith)
  at_in (x ∷ xs) zero z h = inl refl
  at_in (x ∷ xs) (suc j) z h = inr (at_in xs j z (omega arith))

  pub in_take : (x : A) (xs : List A) (j : ℕ) → In x (take j xs) → In x xs
  in_take x [] zero h = absurd h
  in_take x [] (suc j) h = absurd h
  in_take x (y ∷ xs) zero h = absurd h
  in_take x (y ∷ xs) (suc j) (inl e) = inl e
  in_take x (y ∷ xs) (suc j) (inr h) = inr (in_take x xs j h)

module _ {A B : Type 0} where
  -- ---- mapped

  pub map_in : (x : A) (f : A → B) (xs : List A) → In x xs → In (f x) (map f xs)
  map_in x f [] h = absurd h
  map_in x f (y ∷ xs) (inl e) = inl (ap f e)
  map_in x f (y ∷ xs) (inr h) = inr (map_in x f xs h)

  pub in_map : (z : B) (f : A → B) (xs : List A) → In z (map f xs) → (x : A) × In x xs × (z ≡ f x)
  in_map z f [] h = absurd h
  in_map z f (y ∷ xs) (inl e) = (y, inl refl, e)
  in_map z f (y ∷ xs) (inr h) = let (x, i, e) = in_map z f xs h in (x, inr i, e)
