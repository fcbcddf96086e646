-- How the records of a table hang together: what lies below a record, which record names it, what lies around it.
use Rattle.std.specs.Prelude.{Bool, true, false, ◌&&◌, ◌||◌, cond, List, [], ◌∷◌, map, ℕ, zero, suc, max, eqb, ltb, length}
use Rattle.tables.specs.declared.Role.{Role}
use Rattle.tables.specs.declared.Role.TheVariants.{Plain, Condition, Body, Pattern, Name}
use Rattle.tables.specs.Record.{Record, Operand, shape, operands, named, operand, name_of}
use Rattle.tables.specs.Table.{record_at}

-- ---- tests over numbers and lists

-- Some number below n passes the test.
abbrev pub any : (ℕ → Bool) → ℕ → Bool
any test zero = false
any test (suc n) = any test n || test n

-- The lowest number below n that passes the test; n where none does.
abbrev pub lowest : (ℕ → Bool) → ℕ → ℕ
lowest test zero = zero
lowest test (suc n) = let r = lowest test n in cond (ltb r n) r (cond (test n) n (suc n))

abbrev pub is_in : ℕ → List ℕ → Bool
is_in n [] = false
is_in n (m ∷ ms) = eqb n m || is_in n ms

-- Some truth of the list is true.
abbrev pub some : List Bool → Bool
some [] = false
some (b ∷ bs) = b || some bs

-- The greatest number of the list, 0 where there is none.
abbrev pub greatest : List ℕ → ℕ
greatest [] = 0
greatest (n ∷ ns) = max n (greatest ns)

-- ---- below a record

-- What a record gives, by what its operands give: operands are lower than their record, so recursion on a bound above its number reaches all.
unfoldable pub fold_by : {A : Type 0} → (ℕ → List A → A) → A → List Record → ℕ → ℕ → A
fold_by node none rs zero r = none
fold_by node none rs (suc bound) r = node r (map (λ n. fold_by node none rs bound n) (named (record_at rs r)))

abbrev pub fold : {A : Type 0} → (ℕ → List A → A) → A → List Record → ℕ → A
fold node none rs r = fold_by node none rs (suc r) r

-- The record r or one below it passes the test.
abbrev pub any_below : (Record → Bool) → List Record → ℕ → Bool
any_below test rs r = fold (λ q bs. test (record_at rs q) || some bs) false rs r

-- A pattern holds the name n: it is, or has below it, a pattern of kind 32 with that name.
abbrev pub is_name : ℕ → Record → Bool
is_name n r = eqb r.kind 32 && eqb (name_of r) n

unfoldable pub holds_name : List Record → ℕ → ℕ → Bool
holds_name rs p n = any_below (is_name n) rs p

-- A pattern is loose when it holds a 37, 38, 40, 41 or 42: a let with it is a choice.
abbrev pub is_loose : Record → Bool
is_loose r = (shape r.kind).loose

unfoldable pub loose : List Record → ℕ → Bool
loose rs p = any_below is_loose rs p

-- A record without operands has height 1, others one more than the highest operand.
unfoldable pub height : List Record → ℕ → ℕ
height rs r = fold (λ q hs. suc (greatest hs)) 0 rs r

-- ---- above a record

-- The record that names r (the number of records where none does), and what r is for there.
abbrev pub parent : List Record → ℕ → ℕ
parent rs r = lowest (λ q. is_in r (named (record_at rs q))) (length rs)

abbrev pub role_of : ℕ → List Operand → Role
role_of r [] = Plain
role_of r (o ∷ os) = cond (eqb r o.number) o.role (role_of r os)

abbrev pub role_in : List Record → ℕ → ℕ → Role
role_in rs q r = role_of r (operands (record_at rs q))

-- What the way up from r gives: a record that r is named by, and for what, adds to what the way up from there gives.
-- A record is lower than the one that names it, so recursion on a bound above the number of records reaches all.
unfoldable pub climb_by : {A : Type 0} → (ℕ → Role → A → A) → A → List Record → ℕ → ℕ → A
climb_by step none rs zero r = none
climb_by step none rs (suc bound) r =
    let q = parent rs r in
    let up = climb_by step none rs bound q in
    let here = step q (role_in rs q r) up in
    cond (ltb q (length rs)) here none

abbrev pub climb : {A : Type 0} → (ℕ → Role → A → A) → A → List Record → ℕ → A
climb step none rs r = climb_by step none rs (length rs) r

-- A binder's names cover its condition, body, element, key and value.
abbrev pub is_covered : Role → Bool
is_covered Plain = false
is_covered Condition = true
is_covered Body = true
is_covered Pattern = false
is_covered Name = false

abbrev pub is_condition : Role → Bool
is_condition Plain = false
is_condition Condition = true
is_condition Body = false
is_condition Pattern = false
is_condition Name = false

-- A binder has an operand that its names cover: kinds 12 to 20. Its pattern is its first operand.
abbrev pub is_binder : ℕ → Bool
is_binder kind = some (map is_covered (shape kind).roles)

abbrev pub pattern_of : List Record → ℕ → ℕ
pattern_of rs q = operand (record_at rs q) 0

-- The name n is bound around the record r. A pattern lies outside what its own binder covers, so around it are the names bound around its binder.
unfoldable pub is_bound : List Record → ℕ → ℕ → Bool
is_bound rs r n = climb (λ q role up. (is_covered role && holds_name rs (pattern_of rs q) n) || up) false rs r

-- The record r is, or lies below, the condition of a binder.
unfoldable pub in_condition : List Record → ℕ → Bool
in_condition rs r = climb (λ q role up. is_condition role || up) false rs r
