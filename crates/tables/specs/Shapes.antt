-- The shape of a kind in numbers, as a record is read by: where its operands begin, and its first field.
use Rattle.std.specs.Prelude.{Bool, true, false, ◌&&◌, ◌||◌, cond, List, [], ◌∷◌, ℕ, zero, suc, ◌+◌, eqb, leb}
use Rattle.tables.specs.declared.Role.{Role}
use Rattle.tables.specs.declared.Role.TheVariants.{Plain, Condition, Body, Pattern, Name}
use Rattle.tables.specs.Record.{Head, nothing, boolean, integer, quote, name, unary, binary, unknown, shape, size}

-- The lengths of each kind, as bits: bit n where its records have n bytes after their heading. (`proofs/Lengths`: it is where its row in `shape` says so.)
abbrev pub length_rows : List ℕ
length_rows =
    1 ∷ 2 ∷ 16 ∷ 2 ∷ 4 ∷ 8 ∷ 8 ∷ 511 ∷ 511 ∷ 341 ∷ 28 ∷ 4 ∷ 8 ∷ 16 ∷ 8 ∷ 8 ∷ 8 ∷ 8 ∷ 16 ∷ 16 ∷ 32 ∷ 4 ∷ 4 ∷
    1 ∷ 1 ∷ 1 ∷ 1 ∷ 1 ∷ 1 ∷ 1 ∷ 1 ∷ 1 ∷ 2 ∷ 1 ∷ 2 ∷ 16 ∷ 28 ∷ 31 ∷ 4 ∷ 31 ∷ 4 ∷ 341 ∷ 4 ∷ 4 ∷ []

-- The place of the first operand in a record of the kind.
abbrev pub first_of : ℕ → ℕ
first_of kind = 4 + size (shape kind).head

abbrev pub roles_of : ℕ → List Role
roles_of kind = (shape kind).roles

-- What a binder's first and third operands are for (in 17 and 19 P is kind 32; a let has no condition), and any of its operands.
abbrev pub first_role : ℕ → Role
first_role kind = cond (eqb kind 17 || eqb kind 19) Name Pattern

abbrev pub third_role : ℕ → Role
third_role kind = cond (eqb kind 12) Body Condition

abbrev pub binder_role : ℕ → ℕ → Role
binder_role kind zero = first_role kind
binder_role kind (suc zero) = Plain
binder_role kind (suc (suc zero)) = third_role kind
binder_role kind (suc (suc (suc i))) = Body

-- The kinds whose first field is tested: booleans, names and operators.
abbrev pub is_tested : ℕ → Bool
is_tested k = eqb k 1 || eqb k 34 || eqb k 3 || eqb k 32 || eqb k 4 || eqb k 5

-- A head with the first field n is known. (Every four bytes are an integer in range, every two a quote.)
abbrev pub known_first : Head → ℕ → Bool
known_first nothing n = true
known_first boolean n = leb n 1
known_first integer n = true
known_first quote n = true
known_first name n = leb n 15
known_first unary n = leb 1 n && leb n 15
known_first binary n = leb 1 n && leb n 28
known_first unknown n = false
