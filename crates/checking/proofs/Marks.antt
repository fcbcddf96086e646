-- Marks at the numbers that are named, operand by operand and record by record.
use Rattle.std.specs.Prelude.{Option, None, is_some, unwrap_or}
use Rattle.std.specs.Option.{option_or}
use Rattle.std.specs.Bool.{then_some}
use mathlib.Core.Path.{◌≡◌, refl, sym, ap, ◌∙◌}
use mathlib.Core.Bool.{Bool, true, false, not, ◌||◌, or-false}
use mathlib.Core.List.{List, [], ◌∷◌, ◌++◌, append-nil, append_assoc}
use Prim.Native.Nat.{ℕ, suc, ◌+◌, ◌≤◌, ◌<◌}
use native.Mathlib.Omega.{arith}
use native.Mathlib.Numerals.{add-one}
use borrow.Author.Tests.{eq-eqb, ne_eqb, lt-ltb, le-ltb}
use lib.Dec.{eqb}
use lib.ListN.{length, take, set, length-set, replicate, length-replicate, get_or-replicate}
use lib.Seq.{get_or-set_same, get_or-set_other, take-suc, take_all}
use mathlib.Mathlib.Data.Bool.Basic.{or_inr}
use Rattle.tables.specs.declared.Role.{Role}
use Rattle.tables.specs.Record.{Record, is_pattern, named, operand, role_at}
use Rattle.tables.specs.Table.{no_record, record_at, kind_at}
use Rattle.tables.specs.Sheet.{any, is_in}
use Rattle.tables.specs.Check.{is_of_sort, all_named, named_before, is_bad, has_bad, is_stray, fault6}
use Rattle.prelude.proofs.Truth.{by_lower}
use Rattle.tables.proofs.Laws.Tests.{in_append}
use Rattle.tables.specs.Accepted.{records}
use Rattle.checking.specs.Answer.{found}
use Rattle.checking.proofs.Scan.{found_next, found_stays, found_either}
use Rattle.checking.specs.Naming.{Marked, MarkedOne, MarkedNext, MarkedAll}

-- ---- one mark

pub in_more : (m n : ℕ) (ms : List ℕ) → (m ≡ n → ⊥) → is_in m (ms ++ (n ∷ [])) ≡ is_in m ms
in_more m n ms ne = in_append m ms (n ∷ []) ∙ ap (λ (b : Bool). is_in m ms || (b || false)) (ne_eqb m n ne) ∙ or-false (is_in m ms)

pub in_last : (n : ℕ) (ms : List ℕ) → is_in n (ms ++ (n ∷ [])) ≡ true
in_last n ms = in_append n ms (n ∷ []) ∙ or_inr (is_in n ms) (eqb n n || false) (ap (λ (b : Bool). b || false) (eq-eqb n n refl))

pub mark_one : (marks : List Bool) (ms : List ℕ) (n : ℕ) → n < 200 → Marked marks ms → Marked (set marks n true) (ms ++ (n ∷ []))
mark_one marks ms n h m =
    record {
      long = length-set marks n true ∙ m.long;
      is =
          λ k l.
          by_lower k n (λ a. rw (get_or-set_other marks n k true false (λ e. omega arith), in_more k n ms (λ e. omega arith)) (m.is k l))
          (λ a.
          by_lower n k (λ b. rw (get_or-set_other marks n k true false (λ e. omega arith), in_more k n ms (λ e. omega arith)) (m.is k l))
          (λ b.
          let same : k ≡ n = omega arith in
          rw (same, get_or-set_same marks n true false (omega (arith, m.long)), in_last n ms)));
    }

pub mark_beyond : (marks : List Bool) (ms : List ℕ) (n : ℕ) → 200 ≤ n → Marked marks ms → Marked marks (ms ++ (n ∷ []))
mark_beyond marks ms n h m = record { long = m.long; is = λ k l. rw (in_more k n ms (λ e. omega arith)) (m.is k l) }

-- ---- one operand

module _ (rs : List Record) (r i n : ℕ) (is : n ≡ operand (record_at rs r) i) where
  pub bad_high : r ≤ n → true ≡ is_bad rs r i
  bad_high h = rw (le-ltb (operand (record_at rs r) i) r (omega arith))

  pub bad_sort : n < r → is_of_sort (role_at (record_at rs r) i) (kind_at rs n) ≡ false → true ≡ is_bad rs r i
  bad_sort h e =
      rw (lt-ltb (operand (record_at rs r) i) r (omega arith), sym (ap (λ (k : ℕ). is_of_sort (role_at (record_at rs r) i) (kind_at rs k)) is) ∙ e)

  pub bad_named : n < r → is_of_sort (role_at (record_at rs r) i) (kind_at rs n) ≡ true → is_in n (named_before rs r i) ≡ is_bad rs r i
  bad_named h e =
      rw (lt-ltb (operand (record_at rs r) i) r (omega arith), sym (ap (λ (k : ℕ). is_of_sort (role_at (record_at rs r) i) (kind_at rs k)) is) ∙ e)
      (ap (λ (k : ℕ). is_in k (named_before rs r i)) is)

pub sort_is : (rs : List Record) (r i n : ℕ) (role : Role) (k : ℕ) (b : Bool) → role ≡ role_at (record_at rs r) i → k ≡ kind_at rs n → b ≡ is_of_sort role k → is_of_sort (role_at (record_at rs r) i) (kind_at rs n) ≡ b
sort_is rs r i n role k b e f g = rw (sym e, sym f) (sym g)

-- ---- the operands of a record

pub record Operands (rs : List Record) (r : ℕ) (marks : List Bool) (bad : Bool) (i : ℕ) : Type 0 where
  pub within : i ≤ length (named (record_at rs r))
  pub is : bad ≡ any (is_bad rs r) i
  pub marked : Marked marks (named_before rs r i)

pub operands_start : (rs : List Record) (r : ℕ) (marks : List Bool) → Marked marks (all_named (take r rs)) → Operands rs r marks false 0
operands_start rs r marks m = record { within = omega arith; is = refl; marked = rw (append-nil (all_named (take r rs))) m }

pub operands_more : (rs : List Record) (r i n : ℕ) (marks marks' : List Bool) (bad bad' fault : Bool) → Operands rs r marks bad i → i < length (named (record_at rs r)) → n ≡ operand (record_at rs r) i → fault ≡ is_bad rs r i → bad' ≡ bad || fault → Marked marks' (named_before rs r i ++ (n ∷ [])) → Operands rs r marks' bad' (i + 1)
operands_more rs r i n marks marks' bad bad' fault o h is e f m =
    record {
      within = omega arith;
      is = rw (add-one i) (f ∙ ap (λ (b : Bool). b || fault) o.is ∙ ap (λ (b : Bool). any (is_bad rs r) i || b) e);
      marked =
          rw (add-one i, take-suc (named (record_at rs r)) i 0 h, sym (append_assoc (all_named (take r rs)) (take i (named (record_at rs r))) (operand (record_at rs r) i ∷ [])), sym is) m;
    }

-- After i operands of record r, the marks alone.
pub record Names (rs : List Record) (r : ℕ) (marks : List Bool) (i : ℕ) : Type 0 where
  pub within : i ≤ length (named (record_at rs r))
  pub marked : Marked marks (named_before rs r i)

pub names_start : (rs : List Record) (r : ℕ) (marks : List Bool) → Marked marks (all_named (take r rs)) → Names rs r marks 0
names_start rs r marks m = record { within = omega arith; marked = rw (append-nil (all_named (take r rs))) m }

pub names_more : (rs : List Record) (r i n : ℕ) (marks : List Bool) → i < length (named (record_at rs r)) → n ≡ operand (record_at rs r) i → Marked marks (named_before rs r i ++ (n ∷ [])) → Names rs r marks (i + 1)
names_more rs r i n marks h is m =
    record {
      within = omega arith;
      marked =
          rw (add-one i, take-suc (named (record_at rs r)) i 0 h, sym (append_assoc (all_named (take r rs)) (take i (named (record_at rs r))) (operand (record_at rs r) i ∷ [])), sym is) m;
    }

-- All that a list of records names, with one record more.
all_append : (rs qs : List Record) → all_named (rs ++ qs) ≡ all_named rs ++ all_named qs
all_append [] qs = refl
all_append (r ∷ rs) qs = ap (λ (ns : List ℕ). named r ++ ns) (all_append rs qs) ∙ sym (append_assoc (named r) (all_named rs) (all_named qs))

pub all_more : (rs : List Record) (r : ℕ) → r < length rs → all_named (take (suc r) rs) ≡ all_named (take r rs) ++ named (record_at rs r)
all_more rs r h =
    ap all_named (take-suc rs r no_record h) ∙ all_append (take r rs) (record_at rs r ∷ [])
    ∙ ap (λ (ns : List ℕ). all_named (take r rs) ++ ns) (append-nil (named (record_at rs r)))

pub operands_end : (table : List ℕ) (r : ℕ) (marks : List Bool) (bad : Bool) (i : ℕ) → r < length (records table) → Operands (records table) r marks bad i → length (named (record_at (records table) r)) ≤ i → MarkedOne table r marks bad
operands_end table r marks bad i h o l =
    let all : i ≡ length (named (record_at (records table) r)) = omega (arith, o.within) in
    record {
      is = o.is ∙ ap (any (is_bad (records table) r)) all;
      marked =
          rw (all_more (records table) r h, sym (take_all i (named (record_at (records table) r)) l)) o.marked;
    }

pub names_end : (rs : List Record) (r i : ℕ) (marks : List Bool) → r < length rs → Names rs r marks i → length (named (record_at rs r)) ≤ i → Marked marks (all_named (take (suc r) rs))
names_end rs r i marks h o l = rw (all_more rs r h, sym (take_all i (named (record_at rs r)) l)) o.marked

-- ---- all records

-- What is found stays.
pub next_found : (table : List ℕ) (marks : List Bool) (l : Option ℕ) (r : ℕ) → l ≡ found (has_bad (records table)) r → is_some l ≡ true → Marked marks (all_named (take (suc r) (records table))) → MarkedNext table r marks l
next_found table marks l r e h m =
    record { is = found_stays (has_bad (records table)) l r e h; marked = m }

pub next_marked : (table : List ℕ) (marks : List Bool) (l : Option ℕ) (r : ℕ) (bad : Bool) → l ≡ found (has_bad (records table)) r → is_some l ≡ false → MarkedOne table r marks bad → MarkedNext table r marks (then_some bad r)
next_marked table marks l r bad e n m = record { is = found_next (has_bad (records table)) l r bad e n m.is; marked = m.marked }

pub record Records (rs : List Record) (marks : List Bool) (low : Option ℕ) (r : ℕ) : Type 0 where
  pub within : r ≤ length rs
  pub is : low ≡ found (has_bad rs) r
  pub marked : Marked marks (all_named (take r rs))

pub records_start : (rs : List Record) (marks : List Bool) → Marked marks [] → Records rs marks None 0
records_start rs marks m = record { within = omega arith; is = refl; marked = m }

pub records_more : (table : List ℕ) (marks marks' : List Bool) (l : Option ℕ) (r : ℕ) (p : Option ℕ) → Records (records table) marks l r → r < length (records table) → MarkedNext table r marks' p → Records (records table) marks' p (r + 1)
records_more table marks marks' l r p o h m = record { within = omega arith; is = m.is; marked = rw (add-one r) m.marked }

pub records_end : (table : List ℕ) (marks : List Bool) (l : Option ℕ) (r : ℕ) → Records (records table) marks l r → length (records table) ≤ r → MarkedAll table marks l
records_end table marks l r o h =
    let all : r ≡ length (records table) = omega (arith, o.within) in
    record { is = o.is ∙ ap (found (has_bad (records table))) all; marked = rw (sym (take_all r (records table) h)) o.marked }

-- ---- rule 6

pub stray_last : (rs : List Record) (r : ℕ) (b : Bool) → r + 1 ≡ length rs → b ≡ is_pattern (kind_at rs r) → b ≡ is_stray rs r
stray_last rs r b e f = f ∙ sym (rw (eq-eqb (suc r) (length rs) (sym (add-one r) ∙ e)))

pub stray_named : (rs : List Record) (r : ℕ) (b : Bool) → (r + 1 ≡ length rs → ⊥) → b ≡ is_in r (all_named rs) → not b ≡ is_stray rs r
stray_named rs r b ne f = ap not f ∙ sym (rw (ne_eqb (suc r) (length rs) (λ e. ne (add-one r ∙ e))))

pub found_both : (rs : List Record) (n : ℕ) (a b : Option ℕ) → n ≡ length rs → a ≡ found (has_bad rs) (length rs) → b ≡ found (is_stray rs) (unwrap_or a n) → option_or b a ≡ found (fault6 rs) n
unfolding fault6
found_both rs n a b e f g = found_either (has_bad rs) (is_stray rs) n a b (f ∙ ap (found (has_bad rs)) (sym e)) g

pub no_marks : Marked (replicate 200 false) []
no_marks = record { long = length-replicate {A = Bool} 200 false; is = λ n h. rw (get_or-replicate {A = Bool} 200 n false false h) }
