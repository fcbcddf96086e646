-- Looseness operand by operand: what is left decides as the whole does.
use mathlib.Core.Path.{◌≡◌, sym, ap, ◌∙◌}
use mathlib.Core.Bool.{Bool, true, false, ◌||◌}
use mathlib.Core.List.{List, ◌∷◌, map}
use Prim.Native.Nat.{ℕ, suc, ◌+◌, ◌≤◌, ◌<◌}
use native.Mathlib.Omega.{arith}
use lib.ListN.{length, get_or, drop}
use lib.Seq.{drop-cons, drop-length}
use Rattle.tables.specs.Record.{shape, named, operand}
use Rattle.tables.specs.Table.{record_at, kind_at}
use Rattle.tables.specs.Sheet.{some, is_loose, loose}
use Rattle.tables.proofs.Laws.Below.{fold_at}
use Rattle.tables.specs.Accepted.{records, Fine}
use Rattle.tables.proofs.Laws.Accepted.{lower, operand_lower}
use Rattle.tables.specs.Reading.{Here, HasOperand}

-- Whether a kind is loose, by its row.
abbrev pub is_loose_kind : ℕ → Bool
is_loose_kind k = (shape k).loose

module _ (table : List ℕ) (p : ℕ) (fine : Fine (records table)) (h : Here table p) where
  loose_at : loose (records table) p ≡ is_loose (record_at (records table) p) || some (map (loose (records table)) (named (record_at (records table) p)))
  unfolding loose
  loose_at = fold_at (λ q bs. is_loose (record_at (records table) q) || some bs) false (records table) (lower (records table) fine.clear6) p h

  -- by its own kind
  pub loose_here : {k : ℕ} → k ≡ kind_at (records table) p → is_loose_kind k ≡ true → true ≡ loose (records table) p
  loose_here {k} e t = sym (loose_at ∙ ap (λ (b : Bool). b || some (map (loose (records table)) (named (record_at (records table) p)))) (ap is_loose_kind (sym e) ∙ t))

  pub record Left (n i : ℕ) : Type 0 where
    pub count : n ≡ length (named (record_at (records table) p))
    pub within : i ≤ n
    pub same : loose (records table) p ≡ some (map (loose (records table)) (drop i (named (record_at (records table) p))))

  pub left_start : {k n : ℕ} → k ≡ kind_at (records table) p → is_loose_kind k ≡ false → n ≡ length (named (record_at (records table) p)) → Left n 0
  left_start {k} e plain q =
      record {
        count = q;
        within = omega arith;
        same = loose_at ∙ ap (λ (x : Bool). x || some (map (loose (records table)) (named (record_at (records table) p)))) (ap is_loose_kind (sym e) ∙ plain);
      }

  module _ {n i : ℕ} (l : Left n i) where
    pub left_has : i < n → HasOperand table p i
    left_has j = record { here = h; has = omega (arith, l.count) }

    module _ (j : i < n) {a : ℕ} (e : a ≡ operand (record_at (records table) p) i) where
      pub left_below : (a < p) × Here table a
      left_below = let low = operand_lower (records table) fine.clear6 p i h (left_has j).has in (omega arith, omega (arith, h))

      here_more : loose (records table) p ≡ loose (records table) a || some (map (loose (records table)) (drop (i + 1) (named (record_at (records table) p))))
      here_more =
          let z : suc i ≡ i + 1 = omega arith in
          l.same ∙ ap (λ (os : List ℕ). some (map (loose (records table)) os)) (drop-cons (named (record_at (records table) p)) i 0 (left_has j).has ∙ ap (λ (m : ℕ). get_or (named (record_at (records table) p)) i 0 ∷ drop m (named (record_at (records table) p))) z)
          ∙ ap (λ (m : ℕ). loose (records table) m || some (map (loose (records table)) (drop (i + 1) (named (record_at (records table) p))))) (sym e)

      pub left_found : {b : Bool} → b ≡ loose (records table) a → b ≡ true → true ≡ loose (records table) p
      left_found q t = sym (here_more ∙ ap (λ (b : Bool). b || some (map (loose (records table)) (drop (i + 1) (named (record_at (records table) p))))) (sym q ∙ t))

      pub left_more : {b : Bool} {i' : ℕ} → b ≡ loose (records table) a → b ≡ false → i' ≡ i + 1 → Left n i'
      left_more q t z =
          record { count = l.count; within = omega arith; same = here_more ∙ ap (λ (b : Bool). b || some (map (loose (records table)) (drop (i + 1) (named (record_at (records table) p))))) (sym q ∙ t) ∙ ap (λ (m : ℕ). some (map (loose (records table)) (drop m (named (record_at (records table) p))))) (sym z) }

    pub left_none : n ≤ i → false ≡ loose (records table) p
    left_none j =
        let z : i ≡ length (named (record_at (records table) p)) = omega (arith, l.count, l.within) in
        sym (l.same ∙ ap (λ (os : List ℕ). some (map (loose (records table)) os)) (ap (λ (m : ℕ). drop m (named (record_at (records table) p))) z ∙ drop-length (named (record_at (records table) p))))
