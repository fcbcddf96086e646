-- Rule 4 and the records of a table, and what cutting finds.
use mathlib.Core.Path.{◌≡◌, refl, sym, ap, ◌∙◌}
use mathlib.Core.Bool.{Bool, true, false, ◌||◌, cond}
use mathlib.Core.Logic.{◌⊎◌, inl, inr}
use mathlib.Core.List.{List, [], ◌∷◌}
use Prim.Native.Nat.{ℕ, zero, suc, ◌+◌, ◌*◌, ◌-◌, ◌/◌, ◌%◌, ◌<◌, ◌≤◌}
use native.Mathlib.Omega.{arith}
use native.Mathlib.Nat.{mod-add-div', mul-mod_left}
use borrow.Author.Tests.{eqb-true, eqb-false}
use lib.Dec.{eqb, ltb}
use lib.ListN.{length, drop, length-drop}
use Rattle.integers.specs.Bytes.{word}
use Rattle.integers.specs.Whole.{in_range}
use Rattle.prelude.proofs.Absurd.{never}
use Rattle.prelude.proofs.Truth.{by_test, by_lower}
use Rattle.tables.specs.Record.{Record, Head, nothing, boolean, integer, quote, name, unary, binary, unknown, Shape, shape, size, head_of, field, name_of, operator, integer_of, quote_of, fits, is_known, is_fit}
use Rattle.tables.specs.Table.{first_record, Next, end, fault, one, next, Cut, on_next, cut_by, cut}
use Rattle.tables.specs.Rules.{FitLength, Known, Unfit, few_left, length_under, length_past, length_unfit, not_known, after_first, Broken4, RecordsOf}
use Rattle.tables.proofs.Rules.Tells.{Tells, refuted, tells_as, tells_or, tells_and, tells_lower, tells_most, tells_same, tells_true}

-- ---- one record

fit_length : (s : Shape) (n : ℕ) → Tells (fits s n) (FitLength s n)
fit_length s n =
    tells_as
    (tells_and (tells_and (tells_most (size s.head + s.least) n) (tells_most n (size s.head + length s.roles))) (tells_same ((n - (size s.head + s.least)) % s.step) 0))
    (λ e.
    let ((low, high), none) = e in
    record {
      steps = (n - (size s.head + s.least)) / s.step;
      is = omega (arith, mod-add-div' (n - (size s.head + s.least)) s.step, low, none);
      most = high;
    })
    (λ f.
    let left : n - (size s.head + s.least) ≡ f.steps * s.step = omega (arith, f.is) in
    ((omega (arith, f.is), f.most), ap (λ (k : ℕ). k % s.step) left ∙ mul-mod_left f.steps s.step))

known : (h : Head) (x : Record) → Tells (is_known h x) (Known h x)
known nothing x = record { yes = λ e. tt; back = λ e. refl }
known boolean x = tells_most (field x 0) 1
known integer x = tells_true (in_range (integer_of x))
known quote x = tells_most (quote_of x) 65535
known name x = tells_most (name_of x) 15
known unary x = tells_and (tells_most 1 (operator x)) (tells_most (operator x) 15)
known binary x = tells_and (tells_most 1 (operator x)) (tells_most (operator x) 28)
known unknown x = record { yes = λ e. never e; back = λ e. absurd e }

fit : (x : Record) → Tells (is_fit x) (FitLength (shape x.kind) (length x.fields) × Known (head_of x) x)
unfolding is_fit
fit x = tells_and (fit_length (shape x.kind) (length x.fields)) (known (head_of x) x)

-- ---- what stands next

pub data NextIs (bytes : List ℕ) : Next → Type 0 where
  ended : length bytes ≡ 0 → NextIs bytes end
  faulty : 0 < length bytes → Unfit bytes → NextIs bytes fault
  whole : ¬ Unfit bytes → NextIs bytes (one (first_record bytes) (after_first bytes))

next_view : (bytes : List ℕ) → NextIs bytes (next bytes)
unfolding next
next_view bytes = go (eqb (length bytes) 0) (ltb (length bytes) 4 || ltb (word bytes 0) 4 || ltb (length bytes) (word bytes 0)) (is_fit (first_record bytes)) refl refl refl
  where
    outside : Tells (ltb (length bytes) 4 || ltb (word bytes 0) 4 || ltb (length bytes) (word bytes 0)) (((length bytes < 4) ⊎ (word bytes 0 < 4)) ⊎ (length bytes < word bytes 0))
    outside = tells_or (tells_or (tells_lower (length bytes) 4) (tells_lower (word bytes 0) 4)) (tells_lower (length bytes) (word bytes 0))

    cut_off : ((length bytes < 4) ⊎ (word bytes 0 < 4)) ⊎ (length bytes < word bytes 0) → Unfit bytes
    cut_off (inl (inl h)) = few_left h
    cut_off (inl (inr h)) = length_under h
    cut_off (inr h) = length_past h

    unfit : is_fit (first_record bytes) ≡ false → Unfit bytes
    unfit e =
        by_test (fits (shape (first_record bytes).kind) (length (first_record bytes).fields))
        (λ f. not_known (λ k. refuted (fit (first_record bytes)) e ((fit_length (shape (first_record bytes).kind) (length (first_record bytes).fields)).yes f, k)))
        (λ f. length_unfit (refuted (fit_length (shape (first_record bytes).kind) (length (first_record bytes).fields)) f))

    good : ltb (length bytes) 4 || ltb (word bytes 0) 4 || ltb (length bytes) (word bytes 0) ≡ false → is_fit (first_record bytes) ≡ true → ¬ Unfit bytes
    good e f (few_left h) = refuted outside e (inl (inl h))
    good e f (length_under h) = refuted outside e (inl (inr h))
    good e f (length_past h) = refuted outside e (inr h)
    good e f (length_unfit h) = h ((fit (first_record bytes)).yes f).0
    good e f (not_known h) = h ((fit (first_record bytes)).yes f).1

    some : eqb (length bytes) 0 ≡ false → 0 < length bytes
    some e = by_lower 0 (length bytes) (λ h. h) (λ h. absurd (eqb-false (length bytes) 0 e (omega arith)))

    go : (z t u : Bool) → eqb (length bytes) 0 ≡ z → ltb (length bytes) 4 || ltb (word bytes 0) 4 || ltb (length bytes) (word bytes 0) ≡ t → is_fit (first_record bytes) ≡ u → NextIs bytes (cond z end (cond t fault (cond u (one (first_record bytes) (drop (word bytes 0) bytes)) fault)))
    go true t u e f g = ended (eqb-true (length bytes) 0 e)
    go false true u e f g = faulty (some e) (cut_off (outside.yes f))
    go false false true e f g = whole (good f g)
    go false false false e f g = faulty (some e) (unfit g)

-- ---- the records of a table

-- Cutting finds all records of a table, or the one that breaks rule 4.
pub data CutIs (bytes : List ℕ) (c : Cut) : Type 0 where
  all_cut : c.whole ≡ true → RecordsOf bytes c.records → CutIs bytes c
  not_cut : c.whole ≡ false → Broken4 bytes (length c.records) → CutIs bytes c

cut_by_lem : (bound : ℕ) (bytes : List ℕ) → length bytes ≤ bound → CutIs bytes (cut_by bound bytes)
unfolding cut_by
cut_by_lem zero bytes h = all_cut refl (omega arith)
cut_by_lem (suc bound) bytes h = go (next bytes) (next_view bytes) (λ rest k. cut_by_lem bound rest k)
  where
    join : (c : Cut) → ¬ Unfit bytes → CutIs (after_first bytes) c → CutIs bytes (record { records = first_record bytes ∷ c.records; whole = c.whole })
    join c u (all_cut e rs) = all_cut e (u, refl, rs)
    join c u (not_cut e b) = not_cut e (record { left = b.left; begins = (u, b.begins); some_left = b.some_left; unfit = b.unfit })

    shorter : ¬ Unfit bytes → length (after_first bytes) ≤ bound
    shorter u =
        by_lower (word bytes 0) 4 (λ k. absurd (u (length_under k)))
        (λ k. omega (arith, length-drop (word bytes 0) bytes))

    go : (n : Next) → NextIs bytes n → ((rest : List ℕ) → length rest ≤ bound → CutIs rest (cut_by bound rest)) → CutIs bytes (on_next n (λ rest. cut_by bound rest))
    go end (ended e) f = all_cut refl e
    go fault (faulty s u) f = not_cut refl (record { left = bytes; begins = refl; some_left = s; unfit = u })
    go (one x rest) (whole u) f = join (cut_by bound (after_first bytes)) u (f (after_first bytes) (shorter u))

pub cut_is : (table : List ℕ) → CutIs table (cut table)
unfolding cut
cut_is table = cut_by_lem (length table) table (omega arith)

-- A table has one list of records.
pub records_same : (table : List ℕ) (rs qs : List Record) → RecordsOf table rs → RecordsOf table qs → rs ≡ qs
records_same table [] [] e f = refl
records_same table [] (y ∷ qs) e f = absurd (f.0 (few_left (omega arith)))
records_same table (x ∷ rs) [] e f = absurd (e.0 (few_left (omega arith)))
records_same table (x ∷ rs) (y ∷ qs) e f =
    let same : x ≡ y = e.1 ∙ sym f.1 in
    let rest : rs ≡ qs = records_same (after_first table) rs qs e.2 f.2 in
    cc

-- A table that breaks rule 4 has no list of records, and it breaks the rule at one record.
later : (table : List ℕ) (p : ℕ) → Broken4 table (suc p) → Broken4 (after_first table) p
later table p b = record { left = b.left; begins = b.begins.1; some_left = b.some_left; unfit = b.unfit }

here : (table : List ℕ) → Broken4 table 0 → Unfit table
here table b = rw b.begins at b.unfit

pub no_records : (table : List ℕ) (rs : List Record) (p : ℕ) → RecordsOf table rs → ¬ Broken4 table p
no_records table [] zero e b = absurd (omega (arith, ap length b.begins, b.some_left))
no_records table [] (suc p) e b = b.begins.0 (few_left (omega arith))
no_records table (x ∷ rs) zero e b = e.0 (here table b)
no_records table (x ∷ rs) (suc p) e b = no_records (after_first table) rs p e.2 (later table p b)

pub broken_same : (table : List ℕ) (p q : ℕ) → Broken4 table p → Broken4 table q → p ≡ q
broken_same table zero zero a b = refl
broken_same table zero (suc q) a b = absurd (b.begins.0 (here table a))
broken_same table (suc p) zero a b = absurd (a.begins.0 (here table b))
broken_same table (suc p) (suc q) a b = ap suc (broken_same (after_first table) p q (later table p a) (later table q b))
