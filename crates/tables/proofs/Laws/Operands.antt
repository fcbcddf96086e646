-- Laws of the operands of a record and of their roles.
use Rattle.std.specs.Prelude.{◌≡◌, refl, Bool, true, false, not, ◌&&◌, ◌||◌, List, [], ◌∷◌, map, ℕ, zero, suc, ◌<◌, ◌≤◌, leb, length, get_or}
use Rattle.std.proofs.Common.{ap, arith, eqb-true}
use Rattle.std.proofs.lemmas.Bool.{not-false}
use Rattle.prelude.proofs.Absurd.{never}
use Rattle.prelude.proofs.Truth.{or_false_left, or_false_right, implied}
use Rattle.tables.specs.declared.Role.{Role}
use Rattle.tables.specs.declared.Role.TheVariants.{Plain, Condition, Body, Pattern, Name}
use Rattle.tables.specs.Record.{shape, is_pattern, operands_of, numbers}
use Rattle.tables.specs.Sheet.{some, greatest, is_binder}
use Rattle.tables.specs.Check.{is_of_sort}
use Rattle.tables.proofs.Laws.Kinds.{each_kind, binder_most}

-- ---- patterns

abbrev pub is_part : Role → Bool
is_part Plain = false
is_part Condition = false
is_part Body = false
is_part Pattern = true
is_part Name = false

pub is_part_lem : (role : Role) → is_part role ≡ true → role ≡ Pattern
is_part_lem Plain e = never e
is_part_lem Condition e = never e
is_part_lem Body e = never e
is_part_lem Pattern e = refl
is_part_lem Name e = never e

pub all_parts : (roles : List Role) (i : ℕ) → some (map (λ x. not (is_part x)) roles) ≡ false → i < length roles → is_part (get_or roles i Plain) ≡ true
all_parts [] i e h = absurd (omega arith)
all_parts (x ∷ xs) zero e h = not-false (is_part x) (or_false_left (not (is_part x)) _ e)
all_parts (x ∷ xs) (suc i) e h = all_parts xs i (or_false_right (not (is_part x)) _ e) (omega arith)

-- No record has more operands than its kind has roles.
pub operands_few : (roles : List Role) (bytes : List ℕ) → length (numbers (operands_of roles bytes)) ≤ length roles
operands_few [] bytes = omega arith
operands_few (x ∷ xs) [] = omega arith
operands_few (x ∷ xs) (b ∷ bytes) = omega (arith, operands_few xs bytes)

-- ---- operands by number

-- The operands of a record are the fields after its head.
pub operands_count : (roles : List Role) (bytes : List ℕ) → length bytes ≤ length roles → length (numbers (operands_of roles bytes)) ≡ length bytes
operands_count [] [] h = refl
operands_count [] (b ∷ bytes) h = absurd (omega arith)
operands_count (x ∷ xs) [] h = refl
operands_count (x ∷ xs) (b ∷ bytes) h = ap suc (operands_count xs bytes (omega arith))

pub operands_at : (roles : List Role) (bytes : List ℕ) (i : ℕ) → i < length (numbers (operands_of roles bytes)) → get_or (numbers (operands_of roles bytes)) i 0 ≡ get_or bytes i 0
operands_at [] bytes i h = absurd (omega arith)
operands_at (x ∷ xs) [] i h = absurd (omega arith)
operands_at (x ∷ xs) (b ∷ bytes) zero h = refl
operands_at (x ∷ xs) (b ∷ bytes) (suc i) h = operands_at xs bytes i (omega arith)

-- ---- binders

abbrev pub is_first : Role → Bool
is_first Plain = false
is_first Condition = false
is_first Body = false
is_first Pattern = true
is_first Name = true

pub first_sort : (role : Role) (k : ℕ) → is_first role ≡ true → is_of_sort role k ≡ true → is_pattern k ≡ true
unfolding shape
first_sort Plain k e f = never e
first_sort Condition k e f = never e
first_sort Body k e f = never e
first_sort Pattern k e f = f
first_sort Name k e f = rw (eqb-true k 32 f)

-- A binder has at least three operands, and the first is its pattern.
pub binder_roles : (k : ℕ) → is_binder k ≡ true → is_first (get_or (shape k).roles 0 Plain) && leb 3 (shape k).least ≡ true
unfolding shape
binder_roles k e =
    implied (is_binder k) _
    (each_kind (λ k. not (is_binder k) || (is_first (get_or (shape k).roles 0 Plain) && leb 3 (shape k).least)) refl k (omega (arith, binder_most k e))) e

-- The greatest of what a list gives is as great as each.
pub greatest_all : (f : ℕ → ℕ) (ms : List ℕ) (i : ℕ) → i < length ms → f (get_or ms i 0) ≤ greatest (map f ms)
greatest_all f [] i h = absurd (omega arith)
greatest_all f (m ∷ ms) zero h = omega arith
greatest_all f (m ∷ ms) (suc i) h = omega (arith, greatest_all f ms i (omega arith))

-- It is at most what each is at most.
pub greatest_most : (f : ℕ → ℕ) (ms : List ℕ) (m : ℕ) → ((i : ℕ) → i < length ms → f (get_or ms i 0) ≤ m) → greatest (map f ms) ≤ m
greatest_most f [] m h = omega arith
greatest_most f (n ∷ ns) m h = omega (arith, h 0 (omega arith), greatest_most f ns m (λ i l. h (suc i) (omega arith)))
