-- What is read from the part of the table where a record stands.
use mathlib.Core.Path.{◌≡◌, sym, ap, ◌∙◌}
use mathlib.Core.Bool.{true}
use mathlib.Core.List.{List}
use Prim.Native.Nat.{ℕ, ◌+◌, ◌-◌, ◌≤◌, ◌<◌}
use native.Mathlib.Omega.{arith}
use lib.ListN.{length, get_or, take, drop, length-drop}
use lib.Seq.{get_or-drop}
use Rattle.integers.specs.Bytes.{word, bits32, of_bits, integer_at}
use Rattle.tables.specs.Record.{last_kind, size, head_of, field, named, operand, integer_of, is_fit}
use Rattle.tables.specs.Table.{record_at, kind_at}
use Rattle.tables.specs.Check.{most_records}
use Rattle.tables.specs.Shapes.{first_of, roles_of}
use Rattle.tables.specs.Accepted.{records}
use Rattle.tables.proofs.Laws.Accepted.{fit_records, fit_kind, fit_least, fit_most, named_count, operand_field}
use Rattle.tables.specs.Reading.{Stands, place_in, second_in, EntryOf, Indexed, Here}
use Rattle.tables.proofs.Lengths.{fields_few}
use Rattle.tables.proofs.Fit.{plus_four}
use Rattle.tables.proofs.Cutting.{part-rest}

pub part_at : (s : List ℕ) (at i : ℕ) → get_or (take (length s - at) (drop at s)) i 0 ≡ get_or s (at + i) 0
part_at s at i = rw (part-rest s at) (get_or-drop at s i 0)

-- A byte of the part that begins at a place which was read.
pub field_byte : (s : List ℕ) (at place i : ℕ) → at ≡ place → get_or (take (length s - at) (drop at s)) i 0 ≡ get_or s (place + i) 0
field_byte s at place i e = part_at s at i ∙ ap (λ (a : ℕ). get_or s (a + i) 0) e

pub rest_long : (s : List ℕ) (at : ℕ) → length (take (length s - at) (drop at s)) ≡ length s - at
rest_long s at = rw (part-rest s at) (length-drop at s)

-- What holds of a record, wherever it stands.
module _ (table : List ℕ) (r : ℕ) (within : Here table r) where
  pub fit : is_fit (record_at (records table) r) ≡ true
  fit = fit_records table r within

  pub kind_few : kind_at (records table) r ≤ last_kind
  kind_few = fit_kind (record_at (records table) r) fit

  pub count_few : length (named (record_at (records table) r)) ≤ 8
  count_few = omega (arith, named_count (record_at (records table) r) fit, fit_most (record_at (records table) r) fit, fields_few (kind_at (records table) r) kind_few)

  pub roles_more : length (named (record_at (records table) r)) ≤ length (roles_of (kind_at (records table) r))
  roles_more = omega (arith, named_count (record_at (records table) r) fit, fit_most (record_at (records table) r) fit)

module _ (table index : List ℕ) (r : ℕ) (indexed : Indexed table index) (within : Here table r) where
  fits : is_fit (record_at (records table) r) ≡ true
  fits = fit table r within

  pub entry_here : EntryOf table (get_or index r 0) (record_at (records table) r)
  entry_here = indexed.entry r within

  pub stands : Stands table (place_in (get_or index r 0)) (record_at (records table) r)
  stands = entry_here.stands

  -- An entry that was read is that of its record.
  pub entry_read : (e : ℕ) → e ≡ get_or index r 0 → EntryOf table e (record_at (records table) r)
  entry_read e is = rw is entry_here

  pub in_index : r < most_records
  in_index = omega (arith, indexed.few, within)

  pub four_there : place_in (get_or index r 0) + 4 ≤ length table
  four_there = omega (arith, stands.fits)

  -- The length, and the number of operands.
  pub count-is : get_or table (place_in (get_or index r 0)) 0 ≡ first_of (kind_at (records table) r) + length (named (record_at (records table) r))
  count-is = omega (arith, stands.long, named_count (record_at (records table) r) fits, fit_least (record_at (records table) r) fits)

  module _ (i : ℕ) (has : i < length (named (record_at (records table) r))) where
    in_fields : size (head_of (record_at (records table) r)) + i < length (record_at (records table) r).fields
    in_fields = omega (arith, named_count (record_at (records table) r) fits)

    pub operand_within : place_in (get_or index r 0) + (first_of (kind_at (records table) r) + i) < length table
    operand_within = omega (arith, stands.fits, in_fields)

    pub operand_is : get_or table (place_in (get_or index r 0) + (first_of (kind_at (records table) r) + i)) 0 ≡ operand (record_at (records table) r) i
    operand_is =
        ap (λ (k : ℕ). get_or table k 0) (regroup (place_in (get_or index r 0)) (size (head_of (record_at (records table) r))) i)
        ∙ stands.field (size (head_of (record_at (records table) r)) + i) in_fields
        ∙ sym (operand_field (record_at (records table) r) i has)
      where
        regroup : (a s i : ℕ) → a + (4 + s + i) ≡ a + 4 + (s + i)
        regroup a s i = omega arith

    -- An operand at byte 5 is the second field.
    pub second_operand : (e : ℕ) → e ≡ get_or index r 0 → first_of (kind_at (records table) r) + i ≡ 5 → second_in e ≡ operand (record_at (records table) r) i
    second_operand e is five =
        let one : size (head_of (record_at (records table) r)) + i ≡ 1 = omega arith in
        (entry_read e is).second (omega (arith, in_fields))
        ∙ ap (λ (k : ℕ). get_or (record_at (records table) r).fields k 0) (sym one)
        ∙ sym (operand_field (record_at (records table) r) i has)

  pub field_within : (i : ℕ) → i < length (record_at (records table) r).fields → place_in (get_or index r 0) + (4 + i) < length table
  field_within i has = omega (arith, stands.fits)

  -- Fields as they stand in the part that begins where the record was read to begin: one, two as a number (a quote's), and four as an integer.
  module _ (at : ℕ) (e : at ≡ place_in (get_or index r 0)) where
    pub byte-is : (i : ℕ) → i < length (record_at (records table) r).fields → get_or (take (length table - at) (drop at table)) (4 + i) 0 ≡ field (record_at (records table) r) i
    byte-is i has =
        field_byte table at (place_in (get_or index r 0)) (4 + i) e
        ∙ ap (λ (k : ℕ). get_or table k 0) (plus_four (place_in (get_or index r 0)) i)
        ∙ stands.field i has

    pub word-is : (i : ℕ) → i + 1 < length (record_at (records table) r).fields → word (take (length table - at) (drop at table)) (4 + i) ≡ word (record_at (records table) r).fields i
    word-is i has =
        let next : 4 + i + 1 ≡ 4 + (i + 1) = omega arith in
        omega (arith, byte-is i (omega arith), ap (λ (k : ℕ). get_or (take (length table - at) (drop at table)) k 0) next ∙ byte-is (i + 1) has)

    pub integer_is : 3 < length (record_at (records table) r).fields → integer_at (take (length table - at) (drop at table)) 4 ≡ integer_of (record_at (records table) r)
    integer_is has =
        let same : bits32 (take (length table - at) (drop at table)) 4 ≡ bits32 (record_at (records table) r).fields 0 =
        omega (arith, word-is 0 (omega arith), word-is 2 has) in
        ap of_bits same
