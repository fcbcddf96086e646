-- Cutting a table: what the tests of one record say, and what a turn of the loop keeps.
use mathlib.Core.Path.{◌≡◌, refl, sym, ap, ◌∙◌}
use mathlib.Core.Bool.{Bool, true, false}
use mathlib.Core.List.{List, [], ◌∷◌}
use Prim.Native.Nat.{ℕ, zero, suc, ◌+◌, ◌*◌, ◌-◌, ◌≤◌, ◌<◌}
use native.Mathlib.Omega.{arith}
use borrow.Author.Tests.{lt-ltb, le-ltb, ne_eqb}
use lib.ListN.{length, get_or, take, drop, set, length-drop, length-set}
use lib.Seq.{take_all, get_or-set_same, get_or-set_other, get_or-drop, drop-drop, drop-length}
use Rattle.std.specs.Prelude.{Ok}
use Rattle.std.specs.Bool.{then_some}
use Rattle.integers.specs.Bytes.{word}
use Rattle.tables.specs.declared.Rule.TheVariants.{UnfitRecord}
use Rattle.tables.specs.Faults.{faulty}
use Rattle.tables.specs.Record.{Record, is_fit}
use Rattle.tables.specs.Table.{first_record, Next, fault, one, next, Cut, cut_by, cut, no_record, on_next}
use Rattle.tables.specs.Check.{most_records}
use Rattle.prelude.proofs.Truth.{by_lower}
use Rattle.tables.specs.Accepted.{records}
use Rattle.tables.proofs.Laws.Accepted.{fit_kind, fit_most}
use Rattle.tables.proofs.Laws.Cutting.{IsNext, next-is}
use Rattle.tables.specs.Reading.{Stands, EntryOf, EntriesOf, Long, Measured, Packs, CutOut}
use Rattle.tables.proofs.Lengths.{fields_few}
use Rattle.tables.proofs.Fit.{plus_zero, plus_four, fields_long, field_at}

-- ---- one record

module _ (bytes : List ℕ) (some : 0 < length bytes) where
  pub next_few : length bytes < 4 → next bytes ≡ fault
  unfolding next
  next_few h = rw (ne_eqb (length bytes) 0 (omega arith), lt-ltb (length bytes) 4 h)

  pub next_short : 4 ≤ length bytes → word bytes 0 < 4 → next bytes ≡ fault
  unfolding next
  next_short h l = rw (ne_eqb (length bytes) 0 (omega arith), le-ltb (length bytes) 4 h, lt-ltb (word bytes 0) 4 l)

  pub next_past : 4 ≤ length bytes → 4 ≤ word bytes 0 → length bytes < word bytes 0 → next bytes ≡ fault
  unfolding next
  next_past h l m = rw (ne_eqb (length bytes) 0 (omega arith), le-ltb (length bytes) 4 h, le-ltb (word bytes 0) 4 l, lt-ltb (length bytes) (word bytes 0) m)

  pub next_unfit : 4 ≤ length bytes → 4 ≤ word bytes 0 → word bytes 0 ≤ length bytes → is_fit (first_record bytes) ≡ false → next bytes ≡ fault
  unfolding next
  next_unfit h l m e =
      rw (ne_eqb (length bytes) 0 (omega arith), le-ltb (length bytes) 4 h, le-ltb (word bytes 0) 4 l, le-ltb (length bytes) (word bytes 0) m, e)

  next_one : 4 ≤ length bytes → 4 ≤ word bytes 0 → word bytes 0 ≤ length bytes → is_fit (first_record bytes) ≡ true → next bytes ≡ one (first_record bytes) (drop (word bytes 0) bytes)
  unfolding next
  next_one h l m e =
      rw (ne_eqb (length bytes) 0 (omega arith), le-ltb (length bytes) 4 h, le-ltb (word bytes 0) 4 l, le-ltb (length bytes) (word bytes 0) m, e)

  pub good : (n : ℕ) → n ≡ word bytes 0 → 4 ≤ length bytes → 4 ≤ n → n ≤ length bytes → is_fit (first_record bytes) ≡ true → Long bytes n
  good n is h l m e =
      record {
        good = next_one h (omega arith) (omega arith) e ∙ ap (λ (k : ℕ). one (first_record bytes) (drop k bytes)) (sym is);
        is = is;
      }

-- A length that is answered where a test holds.
pub tested : (bytes : List ℕ) (b : Bool) (n : ℕ) → (b ≡ false → next bytes ≡ fault) → (b ≡ true → Long bytes n) → Measured bytes (then_some b n)
tested bytes true n f t = t refl
tested bytes false n f t = f refl

-- A part from a place to the end is what is left there.
pub part-rest : (s : List ℕ) (at : ℕ) → take (length s - at) (drop at s) ≡ drop at s
part-rest s at = take_all (length s - at) (drop at s) (omega (arith, length-drop at s))

pub measured : (s : List ℕ) (at n : ℕ) → Long (take (length s - at) (drop at s)) n → Long (drop at s) n
measured s at n m = rw part-rest at m

pub unmeasured : (s : List ℕ) (at : ℕ) → next (take (length s - at) (drop at s)) ≡ fault → next (drop at s) ≡ fault
unmeasured s at m = rw part-rest at m

-- A record lies within what is left.
pub measured_within : (s : List ℕ) (at n : ℕ) → Long (drop at s) n → n ≤ length s - at
measured_within s at n m =
    omega (arith, (next-is (drop at s) (first_record (drop at s)) (drop n (drop at s)) m.good).whole, m.is, length-drop at s)

-- It has a heading.
pub next_long : (s : List ℕ) (at n : ℕ) → Long (drop at s) n → 4 ≤ n
next_long s at n m = omega (arith, (next-is (drop at s) (first_record (drop at s)) (drop n (drop at s)) m.good).long, m.is)

-- ---- where a record stands

stands : (table : List ℕ) (at : ℕ) (rest : List ℕ) → IsNext (drop at table) (first_record (drop at table)) rest → Stands table at (first_record (drop at table))
stands table at rest n =
    let x : Record = first_record (drop at table) in
    let long : length x.fields ≡ word (drop at table) 0 - 4 = fields_long (drop at table) (word (drop at table) 0) refl n.long n.whole in
    let few : length x.fields ≤ 8 = omega (arith, fit_most x n.fit, fields_few x.kind (fit_kind x n.fit)) in
    record {
      fits = omega (arith, n.long, n.whole, length-drop at table);
      long = omega (arith, n.long, get_or-drop at table 0 0, ap (λ (k : ℕ). get_or table k 0) (plus_zero at));
      kind = omega (arith, fit_kind x n.fit, get_or-drop at table 2 0);
      field =
          λ i h.
          sym (field_at (drop at table) (word (drop at table) 0) refl n.long n.whole i (omega arith) ∙ get_or-drop at table (4 + i) 0 ∙ ap (λ (k : ℕ). get_or table k 0) (plus_four at i));
    }

-- Its entry in the index.
entry-is : (table : List ℕ) (at n e : ℕ) (rest : List ℕ) → IsNext (drop at table) (first_record (drop at table)) rest → n ≡ word (drop at table) 0 → Packs (drop at table) at n e → EntryOf table e (first_record (drop at table))
entry-is table at n e rest next is p =
    let st : Stands table at (first_record (drop at table)) = stands table at rest next in
    let long : length (first_record (drop at table)).fields ≡ word (drop at table) 0 - 4 = fields_long (drop at table) (word (drop at table) 0) refl next.long next.whole in
    record {
      stands = rw p.place st;
      kind = p.kind ∙ get_or-drop at table 2 0 ∙ st.kind;
      second = λ h. p.second (omega (arith, next.long)) ∙ get_or-drop at table 5 0 ∙ ap (λ (k : ℕ). get_or table k 0) (plus_four at 1) ∙ st.field 1 h;
    }

-- ---- the loop

-- What is left of the table is cut into the records that are left.
pub record Turn (table before index : List ℕ) (at count : ℕ) : Type 0 where
  pub within : at ≤ length table
  pub steps : 4 * count ≤ at
  pub fits : count ≤ length (records table)
  pub left : (cut_by (length table - count) (drop at table)).records ≡ drop count (records table)
  pub same : (cut_by (length table - count) (drop at table)).whole ≡ (cut table).whole
  pub entries : EntriesOf table index count
  pub rest : (r : ℕ) → count ≤ r → get_or index r 0 ≡ get_or before r 0
  pub long : length index ≡ most_records

pub cutting_start : (table index : List ℕ) → length index ≡ most_records → Turn table index index 0 0
unfolding cut
cutting_start table index long =
    record {
      within = omega arith;
      steps = omega arith;
      fits = omega arith;
      left = ap (λ (n : ℕ). (cut_by n table).records) (omega arith);
      same = ap (λ (n : ℕ). (cut_by n table).whole) (omega arith);
      entries = λ r h k. absurd (omega arith);
      rest = λ r h. refl;
      long = long;
    }

-- The entry of a record of n bytes is noted where there is room, and the others stay.
pub record Noted (table index index' : List ℕ) (count at n : ℕ) : Type 0 where
  pub here : count < most_records → Packs (drop at table) at n (get_or index' count 0)
  pub others : (r : ℕ) → (r ≡ count → ⊥) → get_or index' r 0 ≡ get_or index r 0
  pub long : length index' ≡ most_records

pub noted : (table index index' : List ℕ) (count at n e : ℕ) → length index ≡ most_records → Packs (take (length table - at) (drop at table)) at n e → index' ≡ set index count e → Noted table index index' count at n
noted table index index' count at n e long p f =
    record {
      here = λ h. rw (f, get_or-set_same index count e 0 (omega arith), sym (part-rest table at)) p;
      others = λ r h. rw f (get_or-set_other index count r e 0 h);
      long = rw f (length-set index count e ∙ long);
    }

pub not_noted : (table index index' : List ℕ) (count at n : ℕ) → length index ≡ most_records → index' ≡ index → most_records ≤ count → Noted table index index' count at n
not_noted table index index' count at n long e full =
    record { here = λ h. absurd (omega arith); others = λ r h. rw e; long = rw e long }

-- What stands at a place of a list, from what is left of it there.
pub record Head (l : List Record) (n : ℕ) (x : Record) (xs : List Record) : Type 0 where
  pub within : n < length l
  pub is : get_or l n no_record ≡ x
  pub then : drop (n + 1) l ≡ xs

drop_head : (l : List Record) (n : ℕ) (x : Record) (xs : List Record) → drop n l ≡ x ∷ xs → Head l n x xs
drop_head l n x xs e =
    let some : 0 < length (drop n l) = omega (arith, ap length e) in
    let h : n < length l = omega (arith, length-drop n l) in
    record {
      within = h;
      is = ap (λ (k : ℕ). get_or l k no_record) (plus n) ∙ sym (get_or-drop n l 0 no_record) ∙ ap (λ (m : List Record). get_or m 0 no_record) e;
      then = sym (drop-drop 1 n l) ∙ ap (λ (m : List Record). drop 1 m) e;
    }
  where
    plus : (n : ℕ) → n ≡ n + 0
    plus n = omega arith

cut_nothing : (b : ℕ) → cut_by b [] ≡ record { records = []; whole = true }
unfolding cut_by next
cut_nothing zero = refl
cut_nothing (suc b) = refl

module _ {before : List ℕ} (table index : List ℕ) (at count : ℕ) (t : Turn table before index at count) where
  -- Nothing is left.
  pub cutting_end : length table ≤ at → CutOut table before index (Ok count)
  cutting_end h =
      let all : at ≡ length table = omega (arith, t.within) in
      let none : drop at table ≡ [] = rw all (drop-length table) in
      let out : cut_by (length table - count) (drop at table) ≡ record { records = []; whole = true } = rw none (cut_nothing (length table - count)) in
      let over : drop count (records table) ≡ [] = sym t.left ∙ ap (λ (c : Cut). c.records) out in
      let last : count ≡ length (records table) = omega (arith, t.fits, length-drop count (records table), ap length over) in
      record {
        answer = rw (sym t.same ∙ ap (λ (c : Cut). c.whole) out) (ap Ok last);
        entries = λ r k l. t.entries r (omega arith) l;
        rest = λ r k. t.rest r (omega arith);
      }

  module _ (more : at < length table) where
    -- The bound has room for one record more.
    room : length table - count ≡ suc (length table - (count + 1))
    room = omega (arith, t.steps)

    unrolled : cut_by (length table - count) (drop at table) ≡ on_next (next (drop at table)) (λ rest. cut_by (length table - (count + 1)) rest)
    unfolding cut_by
    unrolled = ap (λ (b : ℕ). cut_by b (drop at table)) room

    -- A fault is next.
    pub turn_bad : next (drop at table) ≡ fault → CutOut table before index (faulty UnfitRecord count)
    turn_bad e =
        let out : cut_by (length table - count) (drop at table) ≡ record { records = []; whole = false } =
        unrolled ∙ ap (λ (n : Next). on_next n (λ rest. cut_by (length table - (count + 1)) rest)) e in
        let over : drop count (records table) ≡ [] = sym t.left ∙ ap (λ (c : Cut). c.records) out in
        let last : count ≡ length (records table) = omega (arith, t.fits, length-drop count (records table), ap length over) in
        record {
          answer = rw (sym t.same ∙ ap (λ (c : Cut). c.whole) out) (ap (faulty UnfitRecord) last);
          entries = λ r k l. t.entries r (omega arith) l;
          rest = λ r k. t.rest r (omega arith);
        }

    -- A record of n bytes is next, and its entry is noted where there is room.
    pub cutting_more : (n : ℕ) (index' : List ℕ) → next (drop at table) ≡ one (first_record (drop at table)) (drop n (drop at table)) → n ≡ word (drop at table) 0 → Noted table index index' count at n → Turn table before index' (at + n) (count + 1)
    cutting_more n index' e is noted =
        let x : Record = first_record (drop at table) in
        let i : IsNext (drop at table) x (drop n (drop at table)) = next-is (drop at table) x (drop n (drop at table)) e in
        let out : cut_by (length table - count) (drop at table) ≡ on_next (one x (drop n (drop at table))) (λ rest. cut_by (length table - (count + 1)) rest) =
        unrolled ∙ ap (λ (n : Next). on_next n (λ rest. cut_by (length table - (count + 1)) rest)) e in
        let hd : Head (records table) count x (cut_by (length table - (count + 1)) (drop n (drop at table))).records =
        drop_head (records table) count x _ (sym t.left ∙ ap (λ (c : Cut). c.records) out) in
        record {
          within = omega (arith, i.whole, length-drop at table);
          steps = omega (arith, i.long, t.steps);
          fits = omega (arith, hd.within);
          left = ap (λ (bytes : List ℕ). (cut_by (length table - (count + 1)) bytes).records) (sym (drop-drop n at table)) ∙ sym hd.then;
          same =
              ap (λ (bytes : List ℕ). (cut_by (length table - (count + 1)) bytes).whole) (sym (drop-drop n at table))
              ∙ sym (ap (λ (c : Cut). c.whole) out) ∙ t.same;
          entries =
              λ r k l.
              by_lower r count (λ h. rw (noted.others r (λ same. omega arith)) (t.entries r h l))
              (λ h.
              let same : r ≡ count = omega arith in
              rw (same, hd.is) (entry-is table at n (get_or index' count 0) (drop n (drop at table)) i is (noted.here (omega arith))));
          rest = λ r k. noted.others r (λ same. omega arith) ∙ t.rest r (omega arith);
          long = noted.long;
        }
