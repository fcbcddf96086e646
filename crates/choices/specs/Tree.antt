-- Choice trees: a computation that gives a value, refuses, or chooses among a number of ways; and what it comes to under a list of entries.
use Rattle.std.specs.Prelude.{◌≡◌, cond, List, [], ◌∷◌, ℕ, zero, suc, ◌≤◌, ◌<◌, ltb}
use Rattle.choices.specs.Outcome.{Outcome, value, refusal}

-- The most choices that a run may meet, and so the most entries of a list. Named here once.
abbrev pub most_choices : ℕ
most_choices = 64

-- A tree of choices. A leaf gives a value, or stops with a refusal's number and place. A node chooses at a place among n ways,
-- numbered from 0 to n - 1.
pub data Tree (A : Type 0) : Type 0 where
  give : A → Tree A
  stop : ℕ → ℕ → Tree A
  choose : ℕ → ℕ → (ℕ → Tree A) → Tree A

-- The one, then the other on its value. A refusal is the end.
abbrev pub bind : {A B : Type 0} → Tree A → (A → Tree B) → Tree B
bind (give a) f = f a
bind (stop r p) f = stop r p
bind (choose p n ways) f = choose p n (λ i. bind (ways i) f)

-- Every choice has at least one way.
abbrev pub Full : {A : Type 0} → Tree A → Type 0
Full (give a) = Unit {0}
Full (stop r p) = Unit {0}
Full (choose p n ways) = (0 < n) × ((i : ℕ) → i < n → Full (ways i))

-- Every refusal in the tree is one of 20 to 30.
abbrev pub Numbered : {A : Type 0} → Tree A → Type 0
Numbered (give a) = Unit {0}
Numbered (stop r p) = (20 ≤ r) × (r ≤ 30)
Numbered (choose p n ways) = (i : ℕ) → i < n → Numbered (ways i)

-- ---- what a tree can come to

-- The outcome stands at some leaf of the tree.
abbrev pub Gives : {A : Type 0} → Tree A → Outcome A → Type 0
Gives (give a) o = o ≡ value a
Gives (stop r p) o = o ≡ refusal r p
Gives (choose p n ways) o = (i : ℕ) × (i < n) × Gives (ways i) o

-- ---- under a list of entries

-- What a run comes to: a value, with the choices still allowed and the entries left; a refusal's number and place, with the entries
-- left; the list used up at a place with n ways; or, there, a first entry left that is not below n.
pub data Run (A : Type 0) : Type 0 where
  gave : A → ℕ → List ℕ → Run A
  stopped : ℕ → ℕ → List ℕ → Run A
  short : ℕ → ℕ → Run A
  beyond : ℕ → ℕ → List ℕ → Run A

-- The tree followed under the entries l, where k choices are allowed. A choice takes the next entry c and goes on by the way c. One choice
-- too many is 31, and that comes before the list's being used up.
abbrev pub follow : {A : Type 0} → Tree A → ℕ → List ℕ → Run A
follow (give a) k l = gave a k l
follow (stop r p) k l = stopped r p l
follow (choose p n ways) zero l = stopped 31 p l
follow (choose p n ways) (suc k) [] = short p n
follow (choose p n ways) (suc k) (c ∷ l) = cond (ltb c n) (follow (ways c) k l) (beyond p n (c ∷ l))

-- The run of a list.
abbrev pub run : {A : Type 0} → Tree A → List ℕ → Run A
run t l = follow t most_choices l

-- What the run of a list finally answers: a value, or a refusal's number, place and count.
pub data Final (A : Type 0) : Type 0 where
  result : A → Final A
  refuses : ℕ → ℕ → ℕ → Final A

-- 34 with its place where entries are left over, else what there is.
abbrev pub unless_left : {A : Type 0} → List ℕ → ℕ → Final A → Final A
unless_left [] p f = f
unless_left (c ∷ l) p f = refuses 34 p 0

-- 34 stands in place of a value, with the place `last`, and of a refusal 20 to 31, with that refusal's own place.
-- 32 and 33 report the number of ways.
abbrev pub final : {A : Type 0} → ℕ → Run A → Final A
final last (gave a k l) = unless_left l last (result a)
final last (stopped r p l) = unless_left l p (refuses r p 0)
final last (short p n) = refuses 32 p n
final last (beyond p n l) = refuses 33 p n
