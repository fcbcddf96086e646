-- Document 01, "Table records": a record, and the shape of each kind.
use Rattle.std.specs.Prelude.{Bool, true, false, not, ◌&&◌, List, [], ◌∷◌, map, ℕ, ◌+◌, ◌-◌, ◌%◌, ℤ, eqb, leb, length, get_or, drop, replicate}
use Rattle.integers.specs.Bytes.{word, integer_at}
use Rattle.integers.specs.Whole.{in_range}
use Rattle.tables.specs.declared.Role.{Role}
use Rattle.tables.specs.declared.Role.TheVariants.{Plain, Condition, Body, Pattern, Name}

-- A record: its kind, and the bytes after length and kind.
pub record Record : Type 0 where
  pub kind : ℕ
  pub fields : List ℕ

-- ---- the shape of a kind

-- A record is an expression or a pattern.
pub data Sort : Type 0 where
  expression pattern : Sort
  -- there is no such kind
  neither : Sort

-- What stands before the operands.
pub data Head : Type 0 where
  nothing boolean integer quote name unary binary : Head
  -- there is no such kind
  unknown : Head

-- What is said of a kind: its sort and head; the roles of its operands, of which there may be as few as `least`, and more by steps of `step`;
-- whether a let whose pattern holds such a record is loose.
pub record Shape : Type 0 where
  pub sort : Sort
  pub head : Head
  pub roles : List Role
  pub least : ℕ
  pub step : ℕ
  pub loose : Bool

-- A head and just these operands.
abbrev pub just : Sort → Head → List Role → Shape
just sort head roles = record { sort = sort; head = head; roles = roles; least = length roles; step = 1; loose = false }

-- A head, and from `least` to `most` operands of one role.
abbrev pub several : Sort → Head → ℕ → ℕ → ℕ → Role → Shape
several sort head least most step role =
    record { sort = sort; head = head; roles = replicate most role; least = least; step = step; loose = false }

abbrev pub choosing : Shape → Shape
choosing s = record { sort = s.sort; head = s.head; roles = s.roles; least = s.least; step = s.step; loose = true }

abbrev pub missing : Shape
missing = just neither unknown []

-- One row for each kind from 0 to 43. All that is told of a kind by itself derives from its row.
abbrev pub shapes : List Shape
shapes =
    -- 0
    missing ∷
    -- 1 boolean literal, 2 integer literal, 3 name
    just expression boolean [] ∷
    just expression integer [] ∷
    just expression name [] ∷
    -- 4 unary, 5 binary
    just expression unary (Plain ∷ []) ∷
    just expression binary (Plain ∷ Plain ∷ []) ∷
    -- 6 if: test, then, else
    just expression nothing (Plain ∷ Plain ∷ Plain ∷ []) ∷
    -- 7 set, 8 sequence, 9 map enumeration, 10 tuple
    several expression nothing 0 8 1 Plain ∷
    several expression nothing 0 8 1 Plain ∷
    several expression nothing 0 8 2 Plain ∷
    several expression nothing 2 4 1 Plain ∷
    -- 11 set range: from, to
    just expression nothing (Plain ∷ Plain ∷ []) ∷
    -- 12 let, 13 let-be
    just expression nothing (Pattern ∷ Plain ∷ Body ∷ []) ∷
    just expression nothing (Pattern ∷ Plain ∷ Condition ∷ Body ∷ []) ∷
    -- 14 forall, 15 exists, 16 exists1, 17 iota
    just expression nothing (Pattern ∷ Plain ∷ Condition ∷ []) ∷
    just expression nothing (Pattern ∷ Plain ∷ Condition ∷ []) ∷
    just expression nothing (Pattern ∷ Plain ∷ Condition ∷ []) ∷
    just expression nothing (Name ∷ Plain ∷ Condition ∷ []) ∷
    -- 18 set, 19 sequence, 20 map comprehension
    just expression nothing (Pattern ∷ Plain ∷ Condition ∷ Body ∷ []) ∷
    just expression nothing (Name ∷ Plain ∷ Condition ∷ Body ∷ []) ∷
    just expression nothing (Pattern ∷ Plain ∷ Condition ∷ Body ∷ Body ∷ []) ∷
    -- 21 apply: sequence or map, argument
    just expression nothing (Plain ∷ Plain ∷ []) ∷
    -- 22 quote literal
    just expression quote [] ∷
    -- 23 to 31
    missing ∷ missing ∷ missing ∷ missing ∷ missing ∷ missing ∷ missing ∷ missing ∷ missing ∷
    -- 32 name, 33 any, 34 boolean, 35 integer
    just pattern name [] ∷
    just pattern nothing [] ∷
    just pattern boolean [] ∷
    just pattern integer [] ∷
    -- 36 tuple
    several pattern nothing 2 4 1 Pattern ∷
    -- 37 set enumeration, 38 union
    choosing (several pattern nothing 0 4 1 Pattern) ∷
    choosing (just pattern nothing (Pattern ∷ Pattern ∷ [])) ∷
    -- 39 sequence enumeration, 40 concatenation
    several pattern nothing 0 4 1 Pattern ∷
    choosing (just pattern nothing (Pattern ∷ Pattern ∷ [])) ∷
    -- 41 map enumeration, 42 munion
    choosing (several pattern nothing 0 8 2 Pattern) ∷
    choosing (just pattern nothing (Pattern ∷ Pattern ∷ [])) ∷
    -- 43 quote
    just pattern quote [] ∷
    []

abbrev pub last_kind : ℕ
last_kind = 43

unfoldable pub shape : ℕ → Shape
shape kind = get_or shapes kind missing

-- ---- sorts

abbrev pub of_expressions : Sort → Bool
of_expressions expression = true
of_expressions pattern = false
of_expressions neither = false

abbrev pub of_patterns : Sort → Bool
of_patterns expression = false
of_patterns pattern = true
of_patterns neither = false

-- Kinds 1 to 22, and 32 to 43.
abbrev pub is_expression : ℕ → Bool
is_expression kind = of_expressions (shape kind).sort

abbrev pub is_pattern : ℕ → Bool
is_pattern kind = of_patterns (shape kind).sort

-- Some operand has a role.
abbrev pub has_roles : List Role → Bool
has_roles [] = false
has_roles (role ∷ roles) = true

-- Records of the kind have no operands (1 to 3, 22, 32 to 35, and 43).
abbrev pub is_leaf : ℕ → Bool
is_leaf kind = not (has_roles (shape kind).roles)

-- A pattern that has parts: its kind's row has operands (36 to 42).
abbrev pub is_composed : ℕ → Bool
is_composed kind = is_pattern kind && has_roles (shape kind).roles

-- ---- fields

-- Field i, from 0.
abbrev pub field : Record → ℕ → ℕ
field r i = get_or r.fields i 0

-- The operator of a record of kind 4 or 5, the name of one of kind 3 or 32.
abbrev pub operator : Record → ℕ
operator r = field r 0

abbrev pub name_of : Record → ℕ
name_of r = field r 0

-- The boolean of a record of kind 1 or 34, the integer of one of kind 2 or 35 (two's complement, little-endian).
abbrev pub boolean_of : Record → Bool
boolean_of r = eqb (field r 0) 1

abbrev pub integer_of : Record → ℤ
integer_of r = integer_at r.fields 0

-- The quote's number of one of kind 22 or 43 (16-bit little-endian).
abbrev pub quote_of : Record → ℕ
quote_of r = word r.fields 0

-- The number of bytes that a head takes.
abbrev pub size : Head → ℕ
size nothing = 0
size boolean = 1
size integer = 4
size quote = 2
size name = 1
size unary = 1
size binary = 1
size unknown = 0

abbrev pub head_of : Record → Head
head_of r = (shape r.kind).head

-- ---- operands

-- An operand: what it is for, and the number of the record that it names.
pub record Operand : Type 0 where
  pub role : Role
  pub number : ℕ

abbrev pub operands_of : List Role → List ℕ → List Operand
operands_of [] bytes = []
operands_of (role ∷ roles) [] = []
operands_of (role ∷ roles) (n ∷ bytes) = record { role = role; number = n } ∷ operands_of roles bytes

-- The operands of a record: the fields after its head, in order.
unfoldable pub operands : Record → List Operand
operands r = operands_of (shape r.kind).roles (drop (size (head_of r)) r.fields)

-- The numbers of the records that a record names.
abbrev pub numbers : List Operand → List ℕ
numbers os = map (λ o. o.number) os

abbrev pub named : Record → List ℕ
named r = numbers (operands r)

-- The number in operand i, from 0, and what that operand is for.
abbrev pub operand : Record → ℕ → ℕ
operand r i = get_or (named r) i 0

abbrev pub role_at : Record → ℕ → Role
role_at r i = get_or (shape r.kind).roles i Plain

-- ---- rule 4, of a record that has been cut out

-- The length is fit for the kind.
abbrev pub fits : Shape → ℕ → Bool
fits s n =
    leb (size s.head + s.least) n && leb n (size s.head + length s.roles) && eqb ((n - (size s.head + s.least)) % s.step) 0

-- The literal, name or operator is known: booleans are 0 and 1, names 0 to 15, unary operators 1 to 15, binary ones 1 to 28. (Every four
-- bytes are an integer in range, every two a quote.)
abbrev pub is_known : Head → Record → Bool
is_known nothing r = true
is_known boolean r = leb (field r 0) 1
is_known integer r = in_range (integer_of r)
is_known quote r = leb (quote_of r) 65535
is_known name r = leb (name_of r) 15
is_known unary r = leb 1 (operator r) && leb (operator r) 15
is_known binary r = leb 1 (operator r) && leb (operator r) 28
is_known unknown r = false

unfoldable pub is_fit : Record → Bool
is_fit r = fits (shape r.kind) (length r.fields) && is_known (head_of r) r
