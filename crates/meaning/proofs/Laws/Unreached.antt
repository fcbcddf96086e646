-- Nothing of what stands for what cannot be is reached in an accepted table.
use Rattle.std.specs.Prelude.{◌≡◌, true, List, ℕ, ◌<◌, leb}
use Rattle.std.proofs.Math.Path.{ap}
use Rattle.std.proofs.Common.{◌∙◌, subst, arith}
use borrow.Author.Tests.{leb-true}
use mathlib.Mathlib.Data.Bool.Basic.{and_elim_left, and_elim_right}
use Rattle.patterns.specs.Binding.{Binding}
use Rattle.patterns.specs.Pattern.{Pattern}
use Rattle.std.specs.Prelude.{Ok}
use Rattle.tables.specs.Record.{shape, is_known, operator}
use Rattle.tables.specs.Table.{record_at}
use Rattle.tables.specs.Check.{check}
use Rattle.tables.specs.Accepted.{records}
use Rattle.tables.proofs.Laws.Accepted.{accepted_fine, fit_known}
use Rattle.meaning.specs.State.{unbound, value_in}
use Rattle.meaning.specs.Sheet.{pattern_name}
use Rattle.meaning.specs.Kinds.{name_in, kind_in}
use Rattle.meaning.proofs.Laws.Reads.{refuses_at}
use Rattle.meaning.proofs.Laws.Binders.{in_table, named_pattern, named_low, bindings_in, cell_only}
use Rattle.meaning.specs.Unreached.{Unreached}

module _ (table : List ℕ) (n : ℕ) (ok : check table ≡ Ok n) where
  known : (r k : ℕ) → kind_in table r ≡ k → 0 < k → is_known (shape k).head (record_at (records table) r) ≡ true
  known r k e h =
      let q = record_at (records table) r in
      subst (λ (m : ℕ). is_known (shape m).head q ≡ true) e (fit_known q ((accepted_fine table n ok).0.fit r (in_table table r k e h)))

  -- THEOREM
  pub unreached : Unreached table
  unfolding shape
  unreached =
      record {
        unary_known = λ r e.
            let o = operator (record_at (records table) r) in
            let h = known r 4 e (omega arith) in
            (leb-true 1 o (and_elim_left _ (leb o 15) h), leb-true o 15 (and_elim_right (leb 1 o) _ h));
        binary_known = λ r e.
            let o = operator (record_at (records table) r) in
            let h = known r 5 e (omega arith) in
            (leb-true 1 o (and_elim_left _ (leb o 28) h), leb-true o 28 (and_elim_right (leb 1 o) _ h));
        iota_named = λ r e. named_pattern table n ok r unbound e;
        iota_valued = λ r e vs bs f β i.
            let x = name_in table r in
            let (m, j, d) = bindings_in table n ok r unbound x (named_pattern table n ok r unbound e) (named_low table n ok r unbound e) vs bs f β i in
            (m, ap (λ (p : Pattern). value_in β (pattern_name p)) (named_pattern table n ok r unbound e) ∙ ap (λ (b : Binding). value_in b x) d ∙ cell_only table n ok r unbound x m (named_low table n ok r unbound e));
        refused_there = λ m p g. refuses_at table n ok m p g;
      }
