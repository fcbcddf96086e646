-- The rules in their order.
use mathlib.Core.Path.{◌≡◌, refl, sym, ap, ◌∙◌}
use mathlib.Core.Bool.{Bool, true, false, ◌||◌, cond}
use mathlib.Core.Logic.{◌⊎◌, inl, inr}
use mathlib.Core.List.{List, [], ◌∷◌}
use Prim.Native.Nat.{ℕ, ◌≤◌, ◌<◌}
use native.Mathlib.Omega.{arith}
use borrow.Author.Tests.{lt-ltb, le-ltb, eq-eqb, ne_eqb}
use lib.Dec.{eqb, ltb}
use lib.ListN.{length}
use Rattle.std.specs.Prelude.{Option, Some, None, IsSome, Ok, Err}
use Rattle.std.specs.Option.{option_or}
use Rattle.tables.specs.declared.Rule.TheVariants.{WrongSize, UnfitRecord, TooManyRecords, WrongNaming, WrongBinding, ChoiceInCondition, TooHigh}
use Rattle.tables.specs.declared.Fault.{Fault}
use Rattle.tables.specs.Faults.{Checked, faulty}
use Rattle.tables.specs.Record.{Record}
use Rattle.tables.specs.Table.{cut_by, cut}
use Rattle.tables.specs.Sheet.{lowest}
use Rattle.tables.specs.Check.{most_bytes, most_records, fault6, fault7, fault8, fault9, judged, judged_cut, check}
use Rattle.prelude.proofs.Absurd.{impossible, never}
use Rattle.prelude.proofs.Truth.{by_lower}
use Rattle.tables.proofs.Laws.Tests.{low, lowest_is}
use Rattle.checking.proofs.Scan.{finds}
use Rattle.tables.specs.Accepted.{records}
use Rattle.tables.proofs.Laws.Accepted.{some_cut}
use Rattle.tables.specs.Check.{Clear6}
use Rattle.tables.specs.Reading.{counted, Indexed, CutOut}
use Rattle.checking.specs.Answer.{found, broken, broken_scope, Checks}
use Rattle.checking.specs.Naming.{WholeTable}
use Rattle.checking.specs.Sweeps.{Keeps}

-- ---- rules 6 to 9

module _ (rs : List Record) (n : ℕ) (all : n ≡ length rs) where
  found_all : (test : ℕ → Bool) (o : Option ℕ) → o ≡ found test n → o ≡ found test (length rs)
  found_all test o e = e ∙ ap (found test) all

  -- Where a rule's test finds a record it decides, and else what follows.
  hit : (test : ℕ → Bool) (p : ℕ) → Some p ≡ found test n → (ltb (lowest test (length rs)) (length rs) ≡ true) × (lowest test (length rs) ≡ p)
  hit test p e = let f = rw (sym (found_all test (Some p) e)) at (finds test (length rs)) in let is : lowest test (length rs) ≡ p = lowest_is test (length rs) p f.0 f.1 f.2 in (rw (is, lt-ltb p (length rs) f.0), is)

  missed : (test : ℕ → Bool) → None ≡ found test n → (r : ℕ) → r < length rs → test r ≡ false
  missed test e = rw (sym (found_all test None e)) at (finds test (length rs))

  passed : (test : ℕ → Bool) → ((r : ℕ) → r < length rs → test r ≡ false) → ltb (lowest test (length rs)) (length rs) ≡ false
  passed test f = by_lower {P = ltb (lowest test (length rs)) (length rs) ≡ false} (lowest test (length rs)) (length rs) (λ h. never (sym (f (lowest test (length rs)) h) ∙ (low test (length rs)).hit h)) (λ h. le-ltb (lowest test (length rs)) (length rs) h)

  pub clear_all : None ≡ found (fault6 rs) n → Clear6 rs
  clear_all e = missed (fault6 rs) e

  pub refused6 : (p : ℕ) → Some p ≡ found (fault6 rs) n → faulty WrongNaming p ≡ judged rs
  unfolding judged
  refused6 p e = let h = hit (fault6 rs) p e in rw (h.0, h.1)

  -- Where one of rules 6 to 8 is broken and the first is not, one of the others is.
  module _ (none6 : None ≡ found (fault6 rs) n) (broken_one : Keeps rs → ⊥) where
    pub some_broken : IsSome (broken_scope rs n)
    some_broken = go (found (fault7 rs) n) (found (fault8 rs) n) refl refl
      where
        go : (a b : Option ℕ) → found (fault7 rs) n ≡ a → found (fault8 rs) n ≡ b → IsSome (option_or (broken WrongBinding a) (broken ChoiceInCondition b))
        go (Some p) b e f = refl
        go None (Some p) e f = refl
        go None None e f = absurd (broken_one (record { clear6 = clear_all none6; clear7 = missed (fault7 rs) (sym e); clear8 = missed (fault8 rs) (sym f) }))

    pub refused_scope : (f : Fault) → broken_scope rs n ≡ Some f → Err f ≡ judged rs
    unfolding judged
    refused_scope f e = go (found (fault7 rs) n) (found (fault8 rs) n) refl refl e
      where
        go : (a b : Option ℕ) → found (fault7 rs) n ≡ a → found (fault8 rs) n ≡ b → option_or (broken WrongBinding a) (broken ChoiceInCondition b) ≡ Some f → Err f ≡ judged rs
        go (Some p) b e7 e8 k =
            let same : record { rule = WrongBinding; place = p } ≡ f = cc in
            let h = hit (fault7 rs) p (sym e7) in
            ap Err (sym same) ∙ rw (passed (fault6 rs) (clear_all none6), h.0, h.1)
        go None (Some p) e7 e8 k =
            let same : record { rule = ChoiceInCondition; place = p } ≡ f = cc in
            let h = hit (fault8 rs) p (sym e8) in
            ap Err (sym same) ∙ rw (passed (fault6 rs) (clear_all none6), passed (fault7 rs) (missed (fault7 rs) (sym e7)), h.0, h.1)
        go None None e7 e8 k = impossible cc

  -- Where rules 6 to 8 are kept, rule 9 decides.
  module _ (keeps : Keeps rs) where
    pub kept_refused : (p : ℕ) → Some p ≡ found (fault9 rs) n → faulty TooHigh p ≡ judged rs
    unfolding judged
    kept_refused p e =
        let h = hit (fault9 rs) p e in
        rw (passed (fault6 rs) keeps.clear6, passed (fault7 rs) keeps.clear7, passed (fault8 rs) keeps.clear8, h.0, h.1)

    pub kept_accepted : None ≡ found (fault9 rs) n → Ok n ≡ judged rs
    unfolding judged
    kept_accepted e =
        rw (passed (fault6 rs) keeps.clear6, passed (fault7 rs) keeps.clear7, passed (fault8 rs) keeps.clear8, passed (fault9 rs) (missed (fault9 rs) e)) (ap Ok all)

-- ---- rules 3 to 5

-- An empty table has no records.
none_cut : (table : List ℕ) → length table ≡ 0 → length (records table) ≡ 0
unfolding cut cut_by
none_cut [] e = refl
none_cut (b ∷ bytes) e = absurd (omega arith)

module _ (table : List ℕ) where
  -- A table that is empty or too large is not read.
  abbrev WrongLength : Type 0
  WrongLength = (length table ≡ 0) ⊎ (most_bytes < length table)

  refused_size : WrongLength → faulty WrongSize 0 ≡ check table
  unfolding check
  refused_size (inl e) = rw (eq-eqb (length table) 0 e)
  refused_size (inr h) = rw (lt-ltb most_bytes (length table) h) (go (eqb (length table) 0) (judged_cut (cut table)))
    where
      go : (b : Bool) (later : Checked) → faulty WrongSize 0 ≡ cond (b || true) (faulty WrongSize 0) later
      go true later = refl
      go false later = refl

  no_entries : WrongLength → length table ≤ most_bytes → (r : ℕ) → r < length (records table) → ⊥
  no_entries (inl e) l r k = omega (arith, none_cut table e)
  no_entries (inr h) l r k = omega arith

  pub size_checks : (index : List ℕ) → WrongLength → Checks table index index (faulty WrongSize 0)
  size_checks index h =
      record { answer = refused_size h; indexed = λ m q. impossible cc; entries = λ l q k m. absurd (no_entries h l q k); rest = λ l q k. refl; unread = λ l. refl }

  -- What is known where the records were counted.
  cut_ok : (n : ℕ) → Ok n ≡ counted (cut table) → ((cut table).whole ≡ true) × (n ≡ length (records table))
  cut_ok n e = go (cut table).whole refl e
    where
      go : (b : Bool) → (cut table).whole ≡ b → Ok n ≡ cond b (Ok (length (records table))) (faulty UnfitRecord (length (records table))) → ((cut table).whole ≡ true) × (n ≡ length (records table))
      go true f k = (f, cc)
      go false f k = impossible cc

  module _ (some : length table ≡ 0 → ⊥) (short : length table ≤ most_bytes) {before index : List ℕ} where
    cut_checks : {b : Checked} → CutOut table before index b → (a : Checked) → a ≡ check table → ((n : ℕ) → a ≡ Ok n → Indexed table index) → Checks table before index a
    cut_checks out a e indexed = record { answer = e; indexed = indexed; entries = λ l. out.entries; rest = λ l. out.rest; unread = λ l. absurd (omega arith) }

    pub unfit_checks : (f : Fault) → CutOut table before index (Err f) → Checks table before index (Err f)
    unfolding check judged_cut
    unfit_checks f out = cut_checks out (Err f) (go (cut table).whole refl out.answer) (λ n q. impossible cc)
      where
        go : (b : Bool) → (cut table).whole ≡ b → Err f ≡ cond b (Ok (length (records table))) (faulty UnfitRecord (length (records table))) → Err f ≡ check table
        go true e k = impossible cc
        go false e k = rw (ne_eqb (length table) 0 some, le-ltb most_bytes (length table) short, e) k

    module _ (n : ℕ) (out : CutOut table before index (Ok n)) where
      count_is : n ≡ length (records table)
      count_is = (cut_ok n out.answer).1

      pub many_checks : most_records < n → Checks table before index (faulty TooManyRecords most_records)
      unfolding check judged_cut
      many_checks h = cut_checks out (faulty TooManyRecords most_records) is (λ m q. impossible cc)
        where
          is : faulty TooManyRecords most_records ≡ check table
          is = rw (ne_eqb (length table) 0 some, le-ltb most_bytes (length table) short, (cut_ok n out.answer).0, lt-ltb most_records (length (records table)) (omega (arith, count_is)))

      pub some_record : 0 < n
      some_record = omega (arith, count_is, some_cut table (ne_eqb (length table) 0 some) (cut_ok n out.answer).0)

      module _ (few : n ≤ most_records) where
        pub indexed : Indexed table index
        indexed = record { few = omega (arith, count_is); entry = λ r k. out.entries r k (omega (arith, count_is)) }

        pub whole_table : WholeTable table n
        whole_table = record { few = indexed.few; all = count_is }

        pub judged_checks : (a : Checked) → a ≡ judged (records table) → Checks table before index a
        unfolding check judged_cut
        judged_checks a e = cut_checks out a (e ∙ is) (λ m q. indexed)
          where
            is : judged (records table) ≡ check table
            is = rw (ne_eqb (length table) 0 some, le-ltb most_bytes (length table) short, (cut_ok n out.answer).0, le-ltb most_records (length (records table)) (omega (arith, count_is)))
