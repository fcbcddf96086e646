-- Rule 8, of a table that keeps rule 6: choices, and what lies in a condition.
use mathlib.Core.Path.{◌≡◌, refl, ap, ◌∙◌}
use mathlib.Core.Bool.{true, ◌&&◌, ◌||◌}
use mathlib.Core.Logic.{⊎_elim}
use mathlib.Core.List.{List}
use Prim.Native.Nat.{ℕ, ◌<◌}
use native.Mathlib.Omega.{arith}
use borrow.Author.Tests.{eqb-true, eq-eqb}
use lib.Dec.{eqb}
use lib.ListN.{length}
use mathlib.Mathlib.Data.Bool.Basic.{and_elim_left, and_elim_right, and_intro, or_inl, or_inr}
use Rattle.prelude.proofs.Absurd.{never}
use Rattle.prelude.proofs.Truth.{or_cases}
use Rattle.tables.specs.declared.Role.{Role}
use Rattle.tables.specs.declared.Role.TheVariants.{Plain, Condition, Body, Pattern, Name}
use Rattle.tables.specs.Record.{Record, role_at, is_fit}
use Rattle.tables.specs.Table.{record_at, kind_at}
use Rattle.tables.specs.Sheet.{is_loose, loose, is_condition, pattern_of, in_condition}
use Rattle.tables.specs.Check.{chooses, fault8}
use Rattle.tables.proofs.Laws.Accepted.{condition_operand, condition_last, let_operand}
use Rattle.tables.specs.Check.{Clear6}
use Rattle.tables.specs.Rules.{Names, Loose, Chooses, let_be, loose_let, InCondition, Fault8}
use Rattle.tables.proofs.Rules.Tells.{Tells, tells_as, tells_and}
use Rattle.tables.proofs.Rules.Around.{names_lower, tells_below, tells_around}

condition : (role : Role) → Tells (is_condition role) (role ≡ Condition)
condition Plain = record { yes = λ e. never e; back = λ e. ap is_condition e }
condition Condition = record { yes = λ e. refl; back = λ e. refl }
condition Body = record { yes = λ e. never e; back = λ e. ap is_condition e }
condition Pattern = record { yes = λ e. never e; back = λ e. ap is_condition e }
condition Name = record { yes = λ e. never e; back = λ e. ap is_condition e }

module _ (rs : List Record) (clear6 : Clear6 rs) where
  tells_loose : (p : ℕ) → p < length rs → Tells (loose rs p) (Loose rs p)
  unfolding loose
  tells_loose p h =
      tells_as (tells_below rs clear6 is_loose p h) (λ e. let (q, w, f) = e in record { part = q; within = w; is_loose = f })
      (λ e. (e.part, e.within, e.is_loose))

  tells_condition : (r : ℕ) → r < length rs → Tells (in_condition rs r) (InCondition rs r)
  tells_condition r h =
      tells_as
      (tells_around rs clear6 (in_condition rs) (λ q i. is_condition (role_at (record_at rs q) i)) (condition_operand rs clear6) (condition_last rs clear6) r h)
      (λ e.
      let (q, i, n, o, f, w) = e in
      record { binder = q; number = i; condition = n; names = o; is_condition = (condition (role_at (record_at rs q) i)).yes f; inside = w })
      (λ e. (e.binder, e.number, e.condition, e.names, (condition (role_at (record_at rs e.binder) e.number)).back e.is_condition, e.inside))

  module _ (fit : (r : ℕ) → r < length rs → is_fit (record_at rs r) ≡ true) where
    let_first : (r : ℕ) → r < length rs → kind_at rs r ≡ 12 → Names rs r 0 (pattern_of rs r)
    let_first r h e = record { is_record = h; is_operand = let_operand (record_at rs r) (fit r h) e; is = refl }

    tells_chooses : (r : ℕ) → r < length rs → Tells (chooses rs r) (Chooses rs r)
    unfolding chooses
    tells_chooses r h =
        record {
          yes =
              λ e.
              ⊎_elim (λ f. let_be (eqb-true (kind_at rs r) 13 f))
              (λ f. to (eqb-true (kind_at rs r) 12 (and_elim_left (eqb (kind_at rs r) 12) _ f)) (and_elim_right (eqb (kind_at rs r) 12) _ f))
              (or_cases (eqb (kind_at rs r) 13) _ e);
          back = from;
        }
      where
        lies : (p : ℕ) → Names rs r 0 p → p < length rs
        lies p o = omega (arith, names_lower rs clear6 r 0 p o)

        to : kind_at rs r ≡ 12 → loose rs (pattern_of rs r) ≡ true → Chooses rs r
        to k f =
            let o : Names rs r 0 (pattern_of rs r) = let_first r h k in
            loose_let k (pattern_of rs r) o ((tells_loose (pattern_of rs r) (lies (pattern_of rs r) o)).yes f)

        from : Chooses rs r → eqb (kind_at rs r) 13 || (eqb (kind_at rs r) 12 && loose rs (pattern_of rs r)) ≡ true
        from (let_be k) = or_inl (eqb (kind_at rs r) 13) _ (eq-eqb (kind_at rs r) 13 k)
        from (loose_let k p o g) =
            or_inr (eqb (kind_at rs r) 13) (eqb (kind_at rs r) 12 && loose rs (pattern_of rs r))
            (and_intro (eq-eqb (kind_at rs r) 12 k) (ap (loose rs) o.is ∙ (tells_loose p (lies p o)).back g))

    pub tells8 : (r : ℕ) → r < length rs → Tells (fault8 rs r) (Fault8 rs r)
    unfolding fault8
    tells8 r h = tells_and (tells_chooses r h) (tells_condition r h)
