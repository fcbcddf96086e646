-- Laws of lists by index that the library does not have.
use mathlib.Core.Path.{◌≡◌, refl}
use mathlib.Core.List.{List, [], ◌∷◌, map}
use Prim.Native.Nat.{ℕ, zero, suc, ◌<◌}
use native.Mathlib.Omega.{arith}
use lib.ListN.{length, get_or}

-- What is mapped, by index: y and x stand for what is beyond the two lists.
pub map_at : {A B : Type 0} (f : A → B) (xs : List A) (i : ℕ) (x : A) (y : B) → i < length xs → get_or (map f xs) i y ≡ f (get_or xs i x)
map_at f [] i x y h = absurd (omega arith)
map_at f (z ∷ xs) zero x y h = refl
map_at f (z ∷ xs) (suc i) x y h = map_at f xs i x y (omega arith)
