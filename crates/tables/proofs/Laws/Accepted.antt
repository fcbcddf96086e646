-- An accepted table breaks no rule, and what follows for its records.
use Rattle.std.specs.Prelude.{◌≡◌, refl, Bool, true, not, ◌&&◌, ◌||◌, cond, List, [], ◌∷◌, map, eqb, ltb, drop}
use Rattle.std.proofs.Common.{sym, ◌∙◌, arith, get_or-drop}
use Rattle.std.proofs.Math.Path.{ap}
use Rattle.std.proofs.Math.Bool.{false}
use Prim.Native.Nat.{ℕ, suc, ◌+◌, ◌-◌, ◌<◌, ◌≤◌}
use borrow.Author.Tests.{ltb-true, ltb-false, leb-true, eq-eqb, ne_eqb, not-true, not-false}
use Rattle.std.proofs.Math.Dec.{leb}
use Rattle.std.proofs.Math.ListN.{length, length-drop}
use mathlib.Mathlib.Data.Bool.Basic.{and_elim_left, and_elim_right}
use Rattle.prelude.proofs.Absurd.{never, impossible}
use Rattle.prelude.proofs.Truth.{or_false_left, or_false_right, implied, by_lower}
use Rattle.tables.specs.declared.Role.{Role}
use Rattle.tables.specs.declared.Role.TheVariants.{Pattern}
use Rattle.std.specs.Prelude.{Ok, Err}
use Rattle.tables.specs.declared.Fault.{Fault}
use Rattle.tables.specs.Faults.{Checked}
use Rattle.tables.specs.Record.{Record, Head, nothing, boolean, integer, quote, name, unary, binary, unknown, Shape, last_kind, shape, field, size, head_of, is_expression, is_pattern, operands, named, operand, role_at, name_of, fits, is_known, is_fit}
use Rattle.tables.specs.Table.{cut, record_at, kind_at}
use Rattle.tables.specs.Sheet.{any, lowest, some, greatest, is_in, is_name, holds_name, height, parent, role_in, is_covered, is_condition, is_binder, pattern_of, climb, is_bound, in_condition}
use Rattle.tables.specs.Check.{most_bytes, most_records, most_height, is_of_sort, all_named, named_before, is_bad, fault6, fault7, chooses, fault8, fault9, judged, judged_cut, check, Clear6}
use Rattle.tables.specs.Accepted.{records, Fine, AcceptedIsFine}
use Rattle.tables.specs.Reading.{Indexed, CutOut}
use Rattle.tables.proofs.Laws.Tests.{any_none, low}
use Rattle.tables.proofs.Laws.Below.{OperandsLower, fold_at, climb_up, climb_top, parent_higher, parent_is, role_is}
use Rattle.tables.proofs.Laws.Kinds.{beyond, each_kind, pattern_most}
use Rattle.tables.proofs.Laws.Cutting.{cut_fit, cut_some}
use Rattle.tables.proofs.Laws.Operands.{is_part, is_part_lem, all_parts, operands_few, operands_count, operands_at, is_first, first_sort, binder_roles, greatest_all}

-- A test that would refuse does not pass.
pub record Passed (b : Bool) (x : Checked) (n : ℕ) : Type 0 where
  pub not_refused : b ≡ false
  pub on : x ≡ Ok n

passed : (b : Bool) (f : Fault) (x : Checked) (n : ℕ) → cond b (Err f) x ≡ Ok n → Passed b x n
passed true f x n e = impossible cc
passed false f x n e = record { not_refused = refl; on = e }

-- No record below n is at fault where the lowest one at fault is not below n.
pub clear : (test : ℕ → Bool) (n : ℕ) → ltb (lowest test n) n ≡ false → (r : ℕ) → r < n → test r ≡ false
clear test n e r h = (low test n).miss r (omega (arith, ltb-false (lowest test n) n e))

-- ---- cutting

pub some_cut : (table : List ℕ) → eqb (length table) 0 ≡ false → (cut table).whole ≡ true → 0 < length (records table)
unfolding cut
some_cut [] h e = never (sym h)
some_cut (b ∷ bytes) h e = cut_some (length bytes) (b ∷ bytes) (omega arith) e

pub fit_records : (table : List ℕ) (r : ℕ) → r < length (records table) → is_fit (record_at (records table) r) ≡ true
unfolding cut
fit_records table r h = cut_fit (length table) table r h

-- ---- accepted

accepted_same : {m n : ℕ} → ◌≡◌ {A = Checked} (Ok m) (Ok n) → n ≡ m
accepted_same e = cc

pub accepted_fine : AcceptedIsFine
unfolding check judged_cut judged
accepted_fine table n e =
    let p3 = passed (eqb (length table) 0 || ltb most_bytes (length table)) _ _ n e in
    let p4 = passed (not (cut table).whole) _ _ n p3.on in
    let p5 = passed (ltb most_records (length (records table))) _ _ n p4.on in
    let p6 = passed (ltb (lowest (fault6 (records table)) (length (records table))) (length (records table))) _ _ n p5.on in
    let p7 = passed (ltb (lowest (fault7 (records table)) (length (records table))) (length (records table))) _ _ n p6.on in
    let p8 = passed (ltb (lowest (fault8 (records table)) (length (records table))) (length (records table))) _ _ n p7.on in
    let p9 = passed (ltb (lowest (fault9 (records table)) (length (records table))) (length (records table))) _ _ n p8.on in (
      record {
        some_record = some_cut table (or_false_left (eqb (length table) 0) _ p3.not_refused) (not-false (cut table).whole p4.not_refused);
        few = ltb-false most_records (length (records table)) p5.not_refused;
        fit = fit_records table;
        clear6 = clear (fault6 (records table)) (length (records table)) p6.not_refused;
        clear7 = clear (fault7 (records table)) (length (records table)) p7.not_refused;
        clear8 = clear (fault8 (records table)) (length (records table)) p8.not_refused;
        clear9 = clear (fault9 (records table)) (length (records table)) p9.not_refused;
      },
      accepted_same p9.on,
    )

pub accepted_short : (table : List ℕ) (n : ℕ) → check table ≡ Ok n → length table ≤ most_bytes
unfolding check
accepted_short table n e =
    let p3 = passed (eqb (length table) 0 || ltb most_bytes (length table)) _ _ n e in
    ltb-false most_bytes (length table) (or_false_right (eqb (length table) 0) _ p3.not_refused)

-- An index of an accepted table finds all its records.
pub cut_accepted : {before : List ℕ} (table index : List ℕ) (a : Checked) (n : ℕ) → CutOut table before index a → check table ≡ Ok n → Indexed table index
cut_accepted table index a n out e =
    let few : length (records table) ≤ most_records = (accepted_fine table n e).0.few in
    record { few = few; entry = λ r h. out.entries r h (omega arith) }

-- ---- one record

-- The operands of a pattern are patterns.
pub pattern_role : (r : Record) (i : ℕ) → is_pattern r.kind ≡ true → i < length (named r) → role_at r i ≡ Pattern
unfolding shape operands
pattern_role r i e h =
    is_part_lem _ (all_parts (shape r.kind).roles i
    (not-true (some (map (λ x. not (is_part x)) (shape r.kind).roles))
    (implied (is_pattern r.kind) _
    (each_kind (λ k. not (is_pattern k) || not (some (map (λ x. not (is_part x)) (shape k).roles))) refl r.kind (pattern_most r.kind e))
    e))
    (omega (arith, operands_few (shape r.kind).roles (drop (size (head_of r)) r.fields))))

module _ (r : Record) (fit : is_fit r ≡ true) where
  bounds : (leb (size (head_of r) + (shape r.kind).least) (length r.fields) ≡ true) × (leb (length r.fields) (size (head_of r) + length (shape r.kind).roles) ≡ true)
  unfolding is_fit
  bounds =
      let both = and_elim_left (leb (size (head_of r) + (shape r.kind).least) (length r.fields) && leb (length r.fields) (size (head_of r) + length (shape r.kind).roles)) _ (and_elim_left (fits (shape r.kind) (length r.fields)) (is_known (head_of r) r) fit) in
      (and_elim_left _ (leb (length r.fields) (size (head_of r) + length (shape r.kind).roles)) both, and_elim_right (leb (size (head_of r) + (shape r.kind).least) (length r.fields)) _ both)

  -- Literals, names and operators are known.
  pub fit_known : is_known (head_of r) r ≡ true
  unfolding is_fit
  fit_known = and_elim_right (fits (shape r.kind) (length r.fields)) _ fit

  pub fit_least : size (head_of r) + (shape r.kind).least ≤ length r.fields
  fit_least = leb-true _ _ bounds.0

  pub fit_most : length r.fields ≤ size (head_of r) + length (shape r.kind).roles
  fit_most = leb-true _ _ bounds.1

  pub named_count : length (named r) ≡ length r.fields - size (head_of r)
  unfolding operands
  named_count =
      operands_count (shape r.kind).roles (drop (size (head_of r)) r.fields) (omega (arith, length-drop (size (head_of r)) r.fields, fit_most))
      ∙ length-drop (size (head_of r)) r.fields

pub operand_field : (r : Record) (i : ℕ) → i < length (named r) → operand r i ≡ field r (size (head_of r) + i)
unfolding operands
operand_field r i h =
    operands_at (shape r.kind).roles (drop (size (head_of r)) r.fields) i h ∙ get_or-drop (size (head_of r)) r.fields i 0

-- A let has operands.
pub let_operand : (r : Record) → is_fit r ≡ true → r.kind ≡ 12 → 0 < length (named r)
unfolding shape
let_operand r fit e =
    omega (arith, named_count r fit, fit_least r fit, ap (λ (k : ℕ). size (shape k).head) e, ap (λ (k : ℕ). (shape k).least) e)

-- A kind that is known is at most the last.
pub fit_kind : (r : Record) → is_fit r ≡ true → r.kind ≤ last_kind
unfolding shape
fit_kind r fit =
    by_lower last_kind r.kind (λ h. never (sym (ap (λ (s : Shape). is_known s.head r) (beyond r.kind h)) ∙ fit_known r fit)) (λ h. h)

-- A record that is fit and no pattern is an expression.
abbrev is_unknown : Head → Bool
is_unknown nothing = false
is_unknown boolean = false
is_unknown integer = false
is_unknown quote = false
is_unknown name = false
is_unknown unary = false
is_unknown binary = false
is_unknown unknown = true

known_head : (h : Head) (r : Record) → is_known h r ≡ true → is_unknown h ≡ false
known_head nothing r e = refl
known_head boolean r e = refl
known_head integer r e = refl
known_head quote r e = refl
known_head name r e = refl
known_head unary r e = refl
known_head binary r e = refl
known_head unknown r e = never e

pub fit_expression : (r : Record) → is_fit r ≡ true → is_pattern r.kind ≡ false → is_expression r.kind ≡ true
unfolding shape
fit_expression r fit p =
    go (is_expression r.kind) (is_pattern r.kind) (is_unknown (head_of r))
    (each_kind (λ k. is_expression k || is_pattern k || is_unknown (shape k).head) refl r.kind (fit_kind r fit)) p (known_head (head_of r) r (fit_known r fit))
  where
    go : (a b c : Bool) → a || b || c ≡ true → b ≡ false → c ≡ false → a ≡ true
    go true b c f g h = refl
    go false true c f g h = never (sym g)
    go false false c f g h = never (sym h ∙ f)

-- ---- of a table that keeps rule 6

module _ (rs : List Record) (clear6 : Clear6 rs) where
  -- Operand i of record r.
  module _ (r i : ℕ) (in_table : r < length rs) (is_operand : i < length (named (record_at rs r))) where
    good : is_bad rs r i ≡ false
    unfolding fault6
    good =
        any_none (is_bad rs r) (length (named (record_at rs r)))
        (or_false_left (any (is_bad rs r) (length (named (record_at rs r)))) _ (clear6 r in_table)) i is_operand

    -- Every operand is lower.
    pub operand_lower : operand (record_at rs r) i < r
    operand_lower =
        ltb-true _ _ (not-false _ (or_false_left (not (ltb (operand (record_at rs r) i) r)) _ (or_false_left _ (is_in (operand (record_at rs r) i) (named_before rs r i)) good)))

    -- Every operand is of its sort.
    pub operand_sort : is_of_sort (role_at (record_at rs r) i) (kind_at rs (operand (record_at rs r) i)) ≡ true
    operand_sort =
        not-false _ (or_false_right (not (ltb (operand (record_at rs r) i) r)) _ (or_false_left _ (is_in (operand (record_at rs r) i) (named_before rs r i)) good))

    -- It is named by no lower record, and by no earlier operand.
    pub operand_first : is_in (operand (record_at rs r) i) (named_before rs r i) ≡ false
    operand_first = or_false_right (not (ltb (operand (record_at rs r) i) r) || not (is_of_sort (role_at (record_at rs r) i) (kind_at rs (operand (record_at rs r) i)))) _ good

    -- Its record is the one that names it, for what its place says.
    pub operand_parent : parent rs (operand (record_at rs r) i) ≡ r
    operand_parent = parent_is rs r i in_table is_operand operand_first

    pub operand_role : role_in rs r (operand (record_at rs r) i) ≡ role_at (record_at rs r) i
    operand_role = role_is rs r i in_table is_operand operand_first

  pub lower : OperandsLower rs
  lower r i h k = operand_lower r i h k

  -- ---- what is around an operand

  pub bound_operand : (r i n : ℕ) → r < length rs → i < length (named (record_at rs r)) → is_bound rs (operand (record_at rs r) i) n ≡ (is_covered (role_at (record_at rs r) i) && holds_name rs (pattern_of rs r) n) || is_bound rs r n
  unfolding is_bound
  bound_operand r i n h k =
      climb_up (λ q role up. (is_covered role && holds_name rs (pattern_of rs q) n) || up) false rs lower (operand (record_at rs r) i) r (operand_parent r i h k) h
      ∙ ap (λ (role : Role). (is_covered role && holds_name rs (pattern_of rs r) n) || climb (λ q role up. (is_covered role && holds_name rs (pattern_of rs q) n) || up) false rs r) (operand_role r i h k)

  pub condition_operand : (r i : ℕ) → r < length rs → i < length (named (record_at rs r)) → in_condition rs (operand (record_at rs r) i) ≡ is_condition (role_at (record_at rs r) i) || in_condition rs r
  unfolding in_condition
  condition_operand r i h k =
      climb_up (λ q role up. is_condition role || up) false rs lower (operand (record_at rs r) i) r (operand_parent r i h k) h
      ∙ ap (λ (role : Role). is_condition role || climb (λ q role up. is_condition role || up) false rs r) (operand_role r i h k)

  -- Nothing is bound around the last record.
  last_top : (r : ℕ) → suc r ≡ length rs → length rs ≤ parent rs r
  last_top r e = by_lower (parent rs r) (length rs) (λ h. absurd (omega (arith, parent_higher rs lower r h))) (λ h. h)

  pub bound_last : (r n : ℕ) → suc r ≡ length rs → is_bound rs r n ≡ false
  unfolding is_bound
  bound_last r n e = climb_top (λ q role up. (is_covered role && holds_name rs (pattern_of rs q) n) || up) false rs lower r (last_top r e)

  pub condition_last : (r : ℕ) → suc r ≡ length rs → in_condition rs r ≡ false
  unfolding in_condition
  condition_last r e = climb_top (λ q role up. is_condition role || up) false rs lower r (last_top r e)

  -- ---- what lies below

  -- What a pattern holds.
  pub holds_at_lem : (p n : ℕ) → p < length rs → holds_name rs p n ≡ is_name n (record_at rs p) || some (map (λ q. holds_name rs q n) (named (record_at rs p)))
  unfolding holds_name
  holds_at_lem p n h = fold_at (λ q bs. is_name n (record_at rs q) || some bs) false rs lower p h

  pub height-at : (r : ℕ) → r < length rs → height rs r ≡ suc (greatest (map (height rs) (named (record_at rs r))))
  unfolding height
  height-at r h = fold_at (λ q hs. suc (greatest hs)) 0 rs lower r h

  -- Heights fall from a record to its operands.
  pub height_operand : (r i : ℕ) → r < length rs → i < length (named (record_at rs r)) → height rs (operand (record_at rs r) i) < height rs r
  height_operand r i h k = omega (arith, height-at r h, greatest_all (height rs) (named (record_at rs r)) i k)

  -- Every record but the last is named.
  pub named_all : (r : ℕ) → suc r < length rs → is_in r (all_named rs) ≡ true
  unfolding fault6
  named_all r h =
      not-false _ (rw (ne_eqb (suc r) (length rs) (omega arith)) at (or_false_right (any (is_bad rs r) (length (named (record_at rs r)))) _ (clear6 r (omega arith))))

  -- The last is no pattern.
  pub last_sort : (r : ℕ) → suc r ≡ length rs → is_pattern (kind_at rs r) ≡ false
  unfolding fault6
  last_sort r e = rw (eq-eqb (suc r) (length rs) e) at (or_false_right (any (is_bad rs r) (length (named (record_at rs r)))) _ (clear6 r (omega arith)))

-- ---- of a record that keeps rule 7, or rule 8

-- A name that is read is bound around it.
pub name_bound : (rs : List Record) (r : ℕ) → fault7 rs r ≡ false → kind_at rs r ≡ 3 → is_bound rs r (name_of (record_at rs r)) ≡ true
unfolding fault7
name_bound rs r clear7 e =
    not-false _ (rw (eq-eqb (kind_at rs r) 3 e) at (or_false_left (eqb (kind_at rs r) 3 && not (is_bound rs r (name_of (record_at rs r)))) _ clear7))

-- A let-be or a loose let lies in no condition.
pub choice_outside : (rs : List Record) (r : ℕ) → fault8 rs r ≡ false → chooses rs r ≡ true → in_condition rs r ≡ false
unfolding fault8
choice_outside rs r clear8 e = rw e at clear8

-- ---- of a table that breaks no rule

module _ (rs : List Record) (fine : Fine rs) where
  -- ---- binders

  module _ (r : ℕ) (in_table : r < length rs) (binder : is_binder (kind_at rs r) ≡ true) where
    first_role : is_first (role_at (record_at rs r) 0) ≡ true
    first_role = and_elim_left _ (leb 3 (shape (kind_at rs r)).least) (binder_roles (kind_at rs r) binder)

    -- A binder has operands, and the first is a pattern.
    pub binder_operands : 0 < length (named (record_at rs r))
    binder_operands =
        let few : 3 ≤ (shape (kind_at rs r)).least = leb-true _ _ (and_elim_right (is_first (role_at (record_at rs r) 0)) _ (binder_roles (kind_at rs r) binder)) in
        omega (arith, named_count (record_at rs r) (fine.fit r in_table), fit_least (record_at rs r) (fine.fit r in_table))

    pub binder_pattern : is_pattern (kind_at rs (pattern_of rs r)) ≡ true
    binder_pattern = first_sort (role_at (record_at rs r) 0) (kind_at rs (pattern_of rs r)) first_role (operand_sort rs fine.clear6 r 0 in_table binder_operands)

  -- ---- heights

  -- At most 32.
  pub height_most : (r : ℕ) → r < length rs → height rs r ≤ most_height
  unfolding fault9
  height_most r h = ltb-false most_height (height rs r) (fine.clear9 r h)
