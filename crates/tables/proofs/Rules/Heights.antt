-- Rule 9, of a table that keeps rule 6: the heights of the records are those that the check computes.
use mathlib.Core.Path.{◌≡◌, refl, ap, ◌∙◌}
use mathlib.Core.List.{List, [], ◌∷◌, map}
use Prim.Native.Nat.{ℕ, zero, suc, ◌<◌, ◌≤◌}
use native.Mathlib.Omega.{arith}
use lib.ListN.{length, get_or}
use Rattle.prelude.proofs.Truth.{by_lower}
use Rattle.tables.specs.Record.{Record, named, operand}
use Rattle.tables.specs.Table.{record_at}
use Rattle.tables.specs.Sheet.{greatest, height}
use Rattle.tables.specs.Check.{most_height, fault9}
use Rattle.tables.proofs.Laws.Operands.{greatest_all}
use Rattle.tables.proofs.Laws.Accepted.{height-at}
use Rattle.tables.specs.Check.{Clear6}
use Rattle.tables.specs.Rules.{Names, Heights, Fault9}
use Rattle.tables.proofs.Rules.Tells.{Tells, tells_as, tells_lower}
use Rattle.tables.proofs.Rules.Around.{names_lower}

-- The greatest of what a list gives is what one of its entries gives.
greatest_at : (f : ℕ → ℕ) (m : ℕ) (ms : List ℕ) → (i : ℕ) × (i < suc (length ms)) × (greatest (map f (m ∷ ms)) ≡ f (get_or (m ∷ ms) i 0))
greatest_at f m [] = (0, omega arith, omega arith)
greatest_at f m (k ∷ ms) =
    let (i, h, e) = greatest_at f k ms in
    by_lower (f m) (greatest (map f (k ∷ ms))) (λ l. (suc i, omega arith, omega arith)) (λ l. (0, omega arith, omega arith))

-- A list is empty, or one of its entries gives the greatest.
pub data Greatest (f : ℕ → ℕ) (ms : List ℕ) : Type 0 where
  no_entry : length ms ≡ 0 → greatest (map f ms) ≡ 0 → Greatest f ms
  entry : (i : ℕ) → i < length ms → greatest (map f ms) ≡ f (get_or ms i 0) → Greatest f ms

greatest_of : (f : ℕ → ℕ) (ms : List ℕ) → Greatest f ms
greatest_of f [] = no_entry refl refl
greatest_of f (m ∷ ms) = let (i, h, e) = greatest_at f m ms in entry i h e

module _ (rs : List Record) (clear6 : Clear6 rs) where
  operand_names : (r i : ℕ) → r < length rs → i < length (named (record_at rs r)) → Names rs r i (operand (record_at rs r) i)
  operand_names r i h k = record { is_record = h; is_operand = k; is = refl }

  -- The computed heights are heights.
  computed : Heights rs (height rs)
  computed =
      record {
        without = λ r h e. height-at rs clear6 r h ∙ ap suc (none r h e (greatest_of (height rs) (named (record_at rs r))));
        others = λ r i n o f. height-at rs clear6 r o.is_record ∙ ap suc (most r i n o f (greatest_of (height rs) (named (record_at rs r))));
      }
    where
      none : (r : ℕ) → r < length rs → length (named (record_at rs r)) ≡ 0 → Greatest (height rs) (named (record_at rs r)) → greatest (map (height rs) (named (record_at rs r))) ≡ 0
      none r h e (no_entry l g) = g
      none r h e (entry i l g) = absurd (omega arith)

      most : (r i n : ℕ) → Names rs r i n → ((j m : ℕ) → Names rs r j m → height rs m ≤ height rs n) → Greatest (height rs) (named (record_at rs r)) → greatest (map (height rs) (named (record_at rs r))) ≡ height rs n
      most r i n o f (no_entry l g) = absurd (omega (arith, o.is_operand))
      most r i n o f (entry j l g) =
          omega (arith, g, f j (operand (record_at rs r) j) (operand_names r j o.is_record l), greatest_all (height rs) (named (record_at rs r)) i o.is_operand, ap (height rs) o.is)

  -- Heights are the computed ones.
  only : (f : ℕ → ℕ) → Heights rs f → (bound r : ℕ) → r < bound → r < length rs → f r ≡ height rs r
  only f is zero r b h = absurd (omega arith)
  only f is (suc bound) r b h = go (greatest_of (height rs) (named (record_at rs r))) (λ m k. only f is bound m (omega arith) (omega arith))
    where
      go : Greatest (height rs) (named (record_at rs r)) → ((m : ℕ) → m < r → f m ≡ height rs m) → f r ≡ height rs r
      go (no_entry l g) same = omega (arith, is.without r h l, height-at rs clear6 r h, g)
      go (entry i l g) same =
          let n : ℕ = operand (record_at rs r) i in
          let top : f n ≡ height rs n = same n (names_lower rs clear6 r i n (operand_names r i h l)) in
          omega (
            arith,
            height-at rs clear6 r h,
            g,
            top,
            is.others r i n (operand_names r i h l) (λ j m o.
                omega (arith, same m (names_lower rs clear6 r j m o), top, g, greatest_all (height rs) (named (record_at rs r)) j o.is_operand, ap (height rs) o.is)),
          )

  pub tells9 : (r : ℕ) → r < length rs → Tells (fault9 rs r) (Fault9 rs r)
  unfolding fault9
  tells9 r h =
      tells_as (tells_lower most_height (height rs r)) (λ l. record { height = height rs; heights = computed; over = l })
      (λ e. omega (arith, e.over, only e.height e.heights (suc r) r (omega arith) h))
