-- The check refuses a table exactly where a rule of document 01 does. A further rule takes one more `tested`, with what its test tells.
use mathlib.Core.Path.{◌≡◌, refl, sym, ap, ◌∙◌}
use mathlib.Core.Bool.{Bool, not, ◌||◌}
use mathlib.Core.Logic.{◌⊎◌, inl, inr, ⊎_elim}
use mathlib.Core.List.{List}
use Prim.Native.Nat.{ℕ, ◌<◌}
use native.Mathlib.Omega.{arith}
use borrow.Author.Tests.{ltb-true, ltb-false, not-true, not-false}
use lib.Dec.{eqb, ltb}
use lib.ListN.{length}
use Rattle.prelude.proofs.Absurd.{never}
use Rattle.std.specs.Prelude.{Ok}
use Rattle.tables.specs.declared.Rule.{Rule as RuleName}
use Rattle.tables.specs.declared.Rule.TheVariants.{WrongSize, UnfitRecord, TooManyRecords, WrongNaming, WrongBinding, ChoiceInCondition, TooHigh}
use Rattle.tables.specs.Record.{Record}
use Rattle.tables.specs.Table.{cut}
use Rattle.tables.specs.Sheet.{lowest}
use Rattle.tables.specs.Check.{most_bytes, most_records, fault6, fault7, fault8, fault9, judged, judged_cut, check}
use Rattle.tables.specs.Accepted.{records}
use Rattle.tables.proofs.Laws.Tests.{low}
use Rattle.tables.proofs.Laws.Accepted.{clear, fit_records}
use Rattle.tables.specs.Check.{Clear6}
use Rattle.tables.specs.Rules.{Broken3, empty, large, Broken4, RecordsOf, Broken5, Fault6, Fault7, Fault8, Fault9, OfRecords, rule, rules, CheckIsExact}
use Rattle.tables.proofs.Rules.Tells.{Tells, refuted, tells_or, tells_lower, tells_same}
use Rattle.tables.proofs.Rules.Cutting.{CutIs, all_cut, not_cut, cut_is, records_same, no_records, broken_same}
use Rattle.tables.proofs.Rules.Naming.{tells6}
use Rattle.tables.proofs.Rules.Scopes.{tells7}
use Rattle.tables.proofs.Rules.Conditions.{tells8}
use Rattle.tables.proofs.Rules.Heights.{tells9}
use Rattle.tables.proofs.Rules.Order.{Tests, Says, accepts, tested, refused_first, first_refused, accepted_kept, kept_accepted, first_refuses, refuses_first}

-- ---- rules 3 to 5

module _ (table : List ℕ) where
  tests3 : Tests table (rule WrongSize Broken3) (eqb (length table) 0 || ltb most_bytes (length table)) 0
  tests3 =
      record {
        hit = λ e. record { here = ⊎_elim (λ h. empty refl h) (λ h. large refl h) (tells.yes e); lower = λ q l b. absurd (omega arith) };
        miss = λ e p b. refuted tells e (broken p b);
      }
    where
      tells : Tells (eqb (length table) 0 || ltb most_bytes (length table)) ((length table ≡ 0) ⊎ (most_bytes < length table))
      tells = tells_or (tells_same (length table) 0) (tells_lower most_bytes (length table))

      broken : (p : ℕ) → Broken3 table p → (length table ≡ 0) ⊎ (most_bytes < length table)
      broken p (empty e h) = inl h
      broken p (large e h) = inr h

  tests4 : Tests table (rule UnfitRecord Broken4) (not (cut table).whole) (length (records table))
  tests4 = go (cut_is table)
    where
      go : CutIs table (cut table) → Tests table (rule UnfitRecord Broken4) (not (cut table).whole) (length (records table))
      go (all_cut w are) = record { hit = λ e. never (sym (not-true (cut table).whole e) ∙ w); miss = λ e p. no_records table (records table) p are }
      go (not_cut w b) =
          record {
            hit = λ e. record { here = b; lower = λ q l c. absurd (omega (arith, broken_same table q (length (records table)) c b)) };
            miss = λ e. never (sym w ∙ not-false (cut table).whole e);
          }

  -- Where rule 4 is not broken, the records that are cut out are those of the table.
  records_are : ((p : ℕ) → ¬ Broken4 table p) → RecordsOf table (records table)
  records_are kept = go (cut_is table)
    where
      go : CutIs table (cut table) → RecordsOf table (records table)
      go (all_cut w are) = are
      go (not_cut w b) = absurd (kept (length (records table)) b)

  module _ (are : RecordsOf table (records table)) where
    tests5 : Tests table (rule TooManyRecords Broken5) (ltb most_records (length (records table))) most_records
    tests5 =
        record {
          hit =
              λ e.
              record {
                here = record { place = refl; records = records table; are = are; many = ltb-true most_records (length (records table)) e };
                lower = λ q l b. absurd (omega (arith, b.place));
              };
          miss = λ e p b. absurd (omega (arith, b.many, ap length (records_same table b.records (records table) b.are are), ltb-false most_records (length (records table)) e));
        }

    -- ---- rules on records

    tests_records : (Fault : List Record → ℕ → Type 0) (fault : ℕ → Bool) (n : RuleName) → ((r : ℕ) → r < length (records table) → Tells (fault r) (Fault (records table) r)) → Tests table (rule n (OfRecords Fault)) (ltb (lowest fault (length (records table))) (length (records table))) (lowest fault (length (records table)))
    tests_records Fault fault n tells =
        record {
          hit =
              λ e.
              let l : lowest fault (length (records table)) < length (records table) = ltb-true _ _ e in
              record {
                here = record { records = records table; are = are; is_record = l; fault = (tells (lowest fault (length (records table))) l).yes ((low fault (length (records table))).hit l) };
                lower = λ q h b. refuted (tells q (omega arith)) ((low fault (length (records table))).miss q h) (own q b);
              };
          miss = λ e q b. let l : q < length (records table) = inside q b in refuted (tells q l) ((low fault (length (records table))).miss q (omega (arith, ltb-false (lowest fault (length (records table))) (length (records table)) e))) (own q b);
        }
      where
        own : (q : ℕ) → OfRecords Fault table q → Fault (records table) q
        own q b = rw (records_same table b.records (records table) b.are are) at b.fault

        inside : (q : ℕ) → OfRecords Fault table q → q < length (records table)
        inside q b = rw (records_same table b.records (records table) b.are are) at b.is_record

  -- ---- the check

  says : Says table rules (length (records table)) (check table)
  unfolding check judged_cut judged
  says =
      let rs : List Record = records table in
      let k : ℕ = length rs in
      tested table (rule WrongSize Broken3) _ k _ 0 _ tests3
      (λ e3.
      tested table (rule UnfitRecord Broken4) _ k _ k _ tests4
      (λ e4.
      let are : RecordsOf table (records table) = records_are (tests4.miss e4) in
      tested table (rule TooManyRecords Broken5) _ k _ most_records _ (tests5 are)
      (λ e5.
      tested table (rule WrongNaming (OfRecords Fault6)) _ k _ (lowest (fault6 rs) k) _ (tests_records are Fault6 (fault6 rs) WrongNaming (tells6 rs))
      (λ e6.
      let clear6 : Clear6 rs = clear (fault6 rs) k e6 in
      tested table (rule WrongBinding (OfRecords Fault7)) _ k _ (lowest (fault7 rs) k) _ (tests_records are Fault7 (fault7 rs) WrongBinding (tells7 rs clear6 (fit_records table)))
      (λ e7.
      tested table (rule ChoiceInCondition (OfRecords Fault8)) _ k _ (lowest (fault8 rs) k) _ (tests_records are Fault8 (fault8 rs) ChoiceInCondition (tells8 rs clear6 (fit_records table)))
      (λ e8.
      tested table (rule TooHigh (OfRecords Fault9)) _ k _ (lowest (fault9 rs) k) _ (tests_records are Fault9 (fault9 rs) TooHigh (tells9 rs clear6))
      (λ e9. accepts refl tt)))))))

  pub check_exact : CheckIsExact table
  check_exact =
      record {
        refused =
            λ n p. (
              λ e. first_refuses table n p (refused_first table rules (length (records table)) (check table) n p says e),
              λ r. first_refused table rules (length (records table)) (check table) n p says (refuses_first table n p r),
            );
        accepted =
            λ k. (
              λ e.
                  let (kept, same) = accepted_kept table rules (length (records table)) (check table) k says e in
                  record { kept = kept; records = records table; are = records_are kept.1.0; number = same },
              λ a.
                  let same : length (records table) ≡ k = ap length (records_same table (records table) a.records (records_are a.kept.1.0) a.are) ∙ sym a.number in
                  kept_accepted table rules (length (records table)) (check table) says a.kept ∙ ap Ok same,
            );
      }

  -- The records that are cut out of an accepted table are its records.
  pub accepted_records : (k : ℕ) → check table ≡ Ok k → RecordsOf table (records table)
  accepted_records k e = records_are ((check_exact.accepted k).0 e).kept.1.0
