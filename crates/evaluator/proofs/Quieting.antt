-- Rule 8: the condition of a binder meets no choice.
use mathlib.Core.Path.{◌≡◌, refl, ap, ◌∙◌}
use mathlib.Core.Bool.{Bool, true, not, ◌&&◌, ◌||◌}
use mathlib.Core.List.{List}
use Prim.Native.Nat.{ℕ, ◌≤◌, ◌<◌}
use native.Mathlib.Omega.{arith}
use lib.Dec.{leb}
use lib.ListN.{length, get_or}
use borrow.Author.Tests.{le-leb, leb-true}
use Rattle.prelude.proofs.Truth.{implied}
use Rattle.choices.specs.Tree.{Tree, give, stop, choose, bind}
use Rattle.tables.proofs.Laws.Tests.{each as all_kinds}
use Rattle.tables.specs.Record.{Record, shape}
use Rattle.tables.specs.declared.Role.TheVariants.{Plain}
use Rattle.tables.specs.Table.{kind_at}
use Rattle.tables.specs.Sheet.{in_condition, is_condition}
use Rattle.tables.specs.Accepted.{records}
use Rattle.tables.proofs.Laws.Accepted.{operand_lower, condition_operand}
use Rattle.meaning.specs.State.{State}
use Rattle.meaning.proofs.Laws.Conditions.{OneLeaf, condition_leaf}
use Rattle.evaluator.specs.Contract.{Legal, meant, operand_at}
use Rattle.evaluator.proofs.Tables.{fine_of, operand_here}

-- A tree without a choice, followed by trees without a choice, has none.
pub leaf_bind : {A B : Type 0} (t : Tree A) (g : A → Tree B) → OneLeaf t → ((a : A) → OneLeaf (g a)) → OneLeaf (bind t g)
leaf_bind (give a) g h k = k a
leaf_bind (stop n p) g h k = tt
leaf_bind (choose p n ways) g h k = absurd h

-- The third operand of kinds 13 to 20 is a condition.
condition_there : (k : ℕ) → 13 ≤ k → k ≤ 20 → (is_condition (get_or (shape k).roles 2 Plain) ≡ true) × (2 < (shape k).least)
unfolding shape
condition_there k l m =
    let t : (leb 13 k && leb k 20) ≡ true = rw (le-leb 13 k l, le-leb k 20 m) refl in (
      implied (leb 13 k && leb k 20) _ (all_kinds (λ k. not (leb 13 k && leb k 20) || is_condition (get_or (shape k).roles 2 Plain)) 41 refl k (omega arith)) t,
      leb-true 3 (shape k).least (implied (leb 13 k && leb k 20) _ (all_kinds (λ k. not (leb 13 k && leb k 20) || leb 3 (shape k).least) 41 refl k (omega arith)) t),
    )

module _ {table : List ℕ} (L : Legal table) where
  abbrev rs : List Record
  rs = records table

  -- The condition of a binder meets no choice.
  pub quiet : (r : ℕ) → r < length rs → 13 ≤ kind_at rs r → kind_at rs r ≤ 20 → (σ : State) → OneLeaf (meant table (operand_at table r 2) σ)
  quiet r h l m σ =
      let (c, e) = condition_there (kind_at rs r) l m in
      let k = operand_here L h refl 2 e in
      let low = operand_lower rs (fine_of L).clear6 r 2 h k in
      condition_leaf table L.count L.ok (operand_at table r 2) σ (omega arith) (condition_operand rs (fine_of L).clear6 r 2 h k ∙ ap (λ (b : Bool). b || in_condition rs r) c)
