-- What an operator answers: a value, or a refusal by its number in document 01, "From the state of the run".
use Rattle.std.specs.Prelude.{Bool, cond, ℕ, ◌+◌, ◌≤◌, leb, eqb, ℤ}
use Rattle.std.proofs.Math.Option.{Option, none as absent, some}
use Rattle.values.specs.Value.{Kind, number, Value, boolean, integer, quote, collection, Items, sizes, value_limit, WellFormed}

pub data Answer : Type 0 where
  is : Value → Answer
  refused : ℕ → Answer

-- ---- the refusals of operators, by number (21 and 22 are the integers' own)

abbrev pub wrong_kind : ℕ
wrong_kind = 20

-- hd or tl of [], dinter of {}, absent index or key
abbrev pub not_there : ℕ
not_there = 26

-- one key, two values
abbrev pub clash : ℕ
clash = 27

-- value over 512
abbrev pub too_large : ℕ
too_large = 28

-- ---- kinds

-- What a value holds, where it is of the kind that an operator asks for.
abbrev pub as_boolean : Value → Option Bool
as_boolean (boolean b) = some b
as_boolean (integer z) = absent
as_boolean (quote n) = absent
as_boolean (collection k vs) = absent

abbrev pub as_integer : Value → Option ℤ
as_integer (boolean b) = absent
as_integer (integer z) = some z
as_integer (quote n) = absent
as_integer (collection k vs) = absent

abbrev pub as_kind : Kind → Value → Option Items
as_kind k (boolean b) = absent
as_kind k (integer z) = absent
as_kind k (quote n) = absent
as_kind k (collection l vs) = cond (eqb (number k) (number l)) (some vs) absent

abbrev pub as_set : Value → Option Items
as_set v = as_kind Kind.set v

abbrev pub as_sequence : Value → Option Items
as_sequence v = as_kind Kind.sequence v

abbrev pub as_map : Value → Option Items
as_map v = as_kind Kind.map v

-- Kinds are tested first: 20 where an operand is of another kind.
abbrev pub needs : {A : Type 0} → Option A → (A → Answer) → Answer
needs absent f = refused wrong_kind
needs (some a) f = f a

abbrev pub needs_both : {A B : Type 0} → Option A → Option B → (A → B → Answer) → Answer
needs_both p q f = needs p (λ a. needs q (λ b. f a b))

-- ---- results

-- A part of a value that an operator looks up.
abbrev pub found : Option Value → Answer
found absent = refused not_there
found (some v) = is v

-- The items built so far, or the refusal that stopped the building.
pub data Built : Type 0 where
  built : Items → Built
  stopped : ℕ → Built

-- 28 as soon as the part built passes 512 bytes.
abbrev pub fitting : Items → Built
fitting vs = cond (leb (4 + sizes vs) value_limit) (built vs) (stopped too_large)

-- What was built, as a collection.
abbrev pub closed : Kind → Built → Answer
closed k (built vs) = is (collection k vs)
closed k (stopped n) = refused n

-- The collection of these items, unless it is over 512 bytes.
abbrev pub sized : Kind → Items → Answer
sized k vs = closed k (fitting vs)

-- An answer as the code of an operator needs it: a well-formed value, or a refusal from 20 to 28. (All answers are: `operator_laws`, Results.)
abbrev pub FineAnswer : Answer → Type 0
FineAnswer (is v) = WellFormed v
FineAnswer (refused n) = (20 ≤ n) × (n ≤ 28)
