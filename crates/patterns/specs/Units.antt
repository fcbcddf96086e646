-- Units shared out, inserted and put in some order, said without listing all ways; for units of any type. The relations of matching cite it.
use Rattle.std.specs.Prelude.{◌≡◌, ◌⊎◌, List, [], ◌∷◌, ◌++◌, ◌<◌, length}

-- Each unit of the first list goes to exactly one of the two others, and these hold nothing else (source 001, SetChop: together they are the
-- whole, and they are disjoint).
abbrev pub Shared : {A : Type 0} → List A → List A → List A → Type 0
Shared [] ls rs = (ls ≡ []) × (rs ≡ [])
Shared {A} (x ∷ xs) ls rs = ((ms : List A) × (ls ≡ x ∷ ms) × Shared xs ms rs) ⊎ ((ms : List A) × (rs ≡ x ∷ ms) × Shared xs ls ms)

abbrev pub NonEmpty : {A : Type 0} → List A → Type 0
NonEmpty xs = 0 < length xs

-- So shared out that neither half is empty (wish 1).
abbrev pub Parted : {A : Type 0} → List A → List A → List A → Type 0
Parted xs ls rs = Shared xs ls rs × NonEmpty ls × NonEmpty rs

-- The second list is the first with one more unit, at some place.
abbrev pub Inserted : {A : Type 0} → A → List A → List A → Type 0
Inserted {A} x ys zs = (l r : List A) × (ys ≡ l ++ r) × (zs ≡ l ++ x ∷ r)

-- The second list has the units of the first in some order: its first unit stands at some place, and the others are again in some order.
abbrev pub Permuted : {A : Type 0} → List A → List A → Type 0
Permuted [] zs = zs ≡ []
Permuted {A} (x ∷ xs) zs = (ys : List A) × Permuted xs ys × Inserted x ys zs
