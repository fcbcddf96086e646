-- What is among a gathered list.
use Rattle.std.specs.Prelude.{◌⊎◌}
use Rattle.std.proofs.Math.Path.{refl}
use Rattle.std.proofs.Common.{subst}
use Rattle.std.proofs.Math.Logic.{inl, inr}
use mathlib.Core.List.{List, [], ◌∷◌}
use Rattle.prelude.proofs.Membership.{in_left, in_right, in_joined}
use Rattle.prelude.specs.Membership.{In}
use Rattle.patterns.specs.Ways.{gather}

module _ {A B : Type 0} where
  -- What is gathered is among what f gives for one of the list.
  pub in_gather : (z : B) (xs : List A) (f : A → List B) → In z (gather xs f) → (x : A) × In x xs × In z (f x)
  unfolding gather
  in_gather z [] f h = absurd h
  in_gather z (y ∷ xs) f h = go (in_joined z (f y) (gather xs f) h) (λ i. in_gather z xs f i)
    where
      go : In z (f y) ⊎ In z (gather xs f) → (In z (gather xs f) → (x : A) × In x xs × In z (f x)) → (x : A) × In x (y ∷ xs) × In z (f x)
      go (inl i) rest = (y, inl refl, i)
      go (inr i) rest = let (x, j, k) = rest i in (x, inr j, k)

  pub gather_in : (x : A) (z : B) (xs : List A) (f : A → List B) → In x xs → In z (f x) → In z (gather xs f)
  unfolding gather
  gather_in x z [] f i h = absurd i
  gather_in x z (y ∷ xs) f (inl e) h = in_left z (f y) (gather xs f) (subst (λ (w : A). In z (f w)) e h)
  gather_in x z (y ∷ xs) f (inr i) h = in_right z (f y) (gather xs f) (gather_in x z xs f i h)
