-- Document 01, "From the state of the run": an answer is a number, a place and a count. For the panel it is one number,
-- number + 65,536 × place + 4,294,967,296 × count, from which each can be read back.
use Rattle.std.specs.Prelude.{◌≡◌, ℕ, ◌+◌, ◌*◌, ◌/◌, ◌%◌}
use Rattle.choices.specs.Tree.{Final, result, refuses}

-- ---- number, place and count

-- Success is number 0 with place 0. A refusal has all three.
abbrev pub final_number : {A : Type 0} → Final A → ℕ
final_number (result a) = 0
final_number (refuses n p k) = n

abbrev pub final_place : {A : Type 0} → Final A → ℕ
final_place (result a) = 0
final_place (refuses n p k) = p

-- The count after success depends on the service: the number of records after an accepted check, and otherwise 0.
abbrev pub final_count : {A : Type 0} → (A → ℕ) → Final A → ℕ
final_count counted (result a) = counted a
final_count counted (refuses n p k) = k

abbrev pub record_count : ℕ → ℕ
record_count n = n

abbrev pub uncounted : {A : Type 0} → A → ℕ
uncounted a = 0

-- ---- one number

-- One unit of the place; the count's is its square.
abbrev pub weight : ℕ
weight = 65536

abbrev pub pack : ℕ → ℕ → ℕ → ℕ
pack n p k = n + weight * (p + weight * k)

abbrev pub packed : {A : Type 0} → (A → ℕ) → Final A → ℕ
packed counted answer = pack (final_number answer) (final_place answer) (final_count counted answer)

abbrev pub number_part : ℕ → ℕ
number_part answer = answer % weight

abbrev pub place_part : ℕ → ℕ
place_part answer = answer / weight % weight

abbrev pub count_part : ℕ → ℕ
count_part answer = answer / weight / weight

-- Each is read back from the packed one, and number 0 is success. (Of every service's answers: `Laws/ReadBack`.)
pub record ReadBack {A : Type 0} (counted : A → ℕ) (answer : Final A) : Type 0 where
  pub number_back : number_part (packed counted answer) ≡ final_number answer
  pub place-back : place_part (packed counted answer) ≡ final_place answer
  pub count_back : count_part (packed counted answer) ≡ final_count counted answer
  pub success_back : number_part (packed counted answer) ≡ 0 → (a : A) × (answer ≡ result a)
