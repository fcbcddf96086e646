-- Every record of a table that keeps rule 6 is reached from the last one, operand by operand.
use mathlib.Core.Path.{◌≡◌, refl, sym, subst, ◌∙◌}
use mathlib.Core.Bool.{false}
use mathlib.Core.List.{List, [], ◌∷◌}
use Prim.Native.Nat.{ℕ, zero, suc, ◌+◌, ◌≤◌, ◌<◌}
use native.Mathlib.Omega.{arith}
use lib.ListN.{length}
use Rattle.prelude.proofs.Absurd.{never}
use Rattle.prelude.proofs.Truth.{by_test, or_false_both, by_lower}
use Rattle.tables.specs.Record.{Record, named, operand}
use Rattle.tables.specs.Table.{record_at}
use Rattle.tables.specs.Sheet.{is_in, parent}
use Rattle.tables.specs.Check.{all_named}
use Rattle.tables.proofs.Laws.Tests.{in_append, low, Place, in_place}
use Rattle.tables.proofs.Laws.Below.{parent_higher}
use Rattle.tables.proofs.Laws.Accepted.{lower, operand_lower, named_all}
use Rattle.tables.specs.Check.{Clear6}

-- A number that no record names is not named at all.
none_named : (n : ℕ) (qs : List Record) → ((q : ℕ) → q < length qs → is_in n (named (record_at qs q)) ≡ false) → is_in n (all_named qs) ≡ false
none_named n [] e = refl
none_named n (q ∷ qs) e =
    in_append n (named q) (all_named qs) ∙ or_false_both (is_in n (named q)) (is_in n (all_named qs)) (e 0 (omega arith)) (none_named n qs (λ k h. e (suc k) (omega arith)))

module _ (rs : List Record) (clear : Clear6 rs) where
  named_parent : (r : ℕ) → suc r < length rs → parent rs r < length rs
  named_parent r h =
      by_lower (parent rs r) (length rs) (λ k. k)
      (λ k.
      never (sym (none_named r rs (λ q l. (low (λ q. is_in r (named (record_at rs q))) (length rs)).miss q (omega arith))) ∙ named_all rs clear r h))

  -- The last record is not named.
  pub last_unnamed : (last : ℕ) → suc last ≡ length rs → is_in last (all_named rs) ≡ false
  last_unnamed last e =
      none_named last rs
      (λ q h.
      by_test {P = is_in last (named (record_at rs q)) ≡ false} (is_in last (named (record_at rs q)))
      (λ f.
      let at : Place (named (record_at rs q)) last = in_place last (named (record_at rs q)) f in
      absurd (omega (arith, operand_lower rs clear q at.index h at.within, at.is)))
      (λ f. f))

  -- What holds of the last record, and of each operand of a record of which it holds, holds of all.
  pub from_last : (P : ℕ → Type 0) (last : ℕ) → suc last ≡ length rs → P last → ((q i : ℕ) → q < length rs → i < length (named (record_at rs q)) → P q → P (operand (record_at rs q) i)) → (r : ℕ) → r < length rs → P r
  from_last P last e top step r h = go (length rs) r (omega arith) h
    where
      go : (bound r : ℕ) → length rs ≤ r + bound → r < length rs → P r
      go zero r b h = absurd (omega arith)
      go (suc bound) r b h =
          by_lower r last
          (λ l.
          let q : ℕ = parent rs r in
          let k : q < length rs = named_parent r (omega arith) in
          let up : r < q = parent_higher rs (lower rs clear) r k in
          let at : Place (named (record_at rs q)) r = in_place r (named (record_at rs q)) ((low (λ q. is_in r (named (record_at rs q))) (length rs)).hit k) in
          subst P at.is (step q at.index k at.within (go bound q (omega arith) k)))
          (λ l. let same : last ≡ r = omega arith in subst P same top)
