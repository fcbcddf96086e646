-- The bits around a record, handed on to its operands.
use mathlib.Core.Path.{◌≡◌, refl, sym, ap, ◌∙◌}
use mathlib.Core.List.{List}
use Prim.Native.Nat.{ℕ, zero, suc, ◌+◌, ◌≤◌, ◌<◌}
use native.Mathlib.Omega.{arith}
use lib.ListN.{length, get_or, set, length-set, replicate, length-replicate}
use lib.Seq.{get_or-set_same, get_or-set_other}
use Rattle.tables.specs.declared.Role.{Role}
use Rattle.tables.specs.Record.{Record, named, operand, role_at}
use Rattle.tables.specs.Table.{record_at}
use Rattle.tables.specs.Sheet.{parent, is_in, climb}
use Rattle.prelude.proofs.Truth.{by_lower}
use Rattle.tables.proofs.Laws.Tests.{low, Place, in_place}
use Rattle.tables.proofs.Laws.Below.{parent_higher, climb_up, climb_top}
use Rattle.tables.proofs.Laws.Accepted.{lower, operand_lower, operand_parent, operand_role}
use Rattle.tables.specs.Check.{Clear6}
use Rattle.checking.specs.Scopes.{or_bits, given, around, Around}

-- The bits around record q are handed on to its operands below i.
pub record Pushed (rs : List Record) (q : ℕ) (bits : List ℕ) (i : ℕ) : Type 0 where
  pub long : length bits ≡ 200
  pub within : i ≤ length (named (record_at rs q))
  pub higher : (r : ℕ) → r < length rs → q < parent rs r → get_or bits r 0 ≡ around rs r
  pub done : (j : ℕ) → j < i → get_or bits (operand (record_at rs q) j) 0 ≡ around rs (operand (record_at rs q) j)

pub zeros : (n r : ℕ) → get_or (replicate {A = ℕ} n 0) r 0 ≡ 0
zeros zero r = refl
zeros (suc n) zero = refl
zeros (suc n) (suc r) = zeros n r

module _ (rs : List Record) (clear : Clear6 rs) where
  around_operand : (q i : ℕ) → q < length rs → i < length (named (record_at rs q)) → around rs (operand (record_at rs q) i) ≡ or_bits (around rs q) (given rs q (role_at (record_at rs q) i))
  unfolding around
  around_operand q i h k =
      climb_up (λ q role up. or_bits up (given rs q role)) 0 rs (lower rs clear) (operand (record_at rs q) i) q (operand_parent rs clear q i h k) h
      ∙ ap (λ (role : Role). or_bits (climb (λ q role up. or_bits up (given rs q role)) 0 rs q) (given rs q role)) (operand_role rs clear q i h k)

  around_top : (r : ℕ) → length rs ≤ parent rs r → around rs r ≡ 0
  unfolding around
  around_top r h = climb_top (λ q role up. or_bits up (given rs q role)) 0 rs (lower rs clear) r h

  -- Where nothing is handed on yet, all bits are 0.
  pub around_start : Around rs (replicate 200 0) (length rs)
  around_start =
      record {
        long = length-replicate {A = ℕ} 200 0;
        is = λ r h k. zeros 200 r ∙ sym (around_top r k);
      }

  -- ---- one record

  pub push_start : (q : ℕ) (bits : List ℕ) → Around rs bits (q + 1) → Pushed rs q bits 0
  push_start q bits a =
      record {
        long = a.long;
        within = omega arith;
        higher = λ r h k. a.is r h (omega arith);
        done = λ j h. absurd (omega arith);
      }

  -- What is around the record itself stands already.
  pub own_around : (q : ℕ) (bits : List ℕ) → q < length rs → Around rs bits (q + 1) → get_or bits q 0 ≡ around rs q
  own_around q bits h a =
      a.is q h
      (by_lower (parent rs q) (length rs) (λ k. omega (arith, parent_higher rs (lower rs clear) q k)) (λ k. omega arith))

  pub push_more : (q i n m : ℕ) (bits bits' : List ℕ) → q < length rs → length rs ≤ 200 → i < length (named (record_at rs q)) → Pushed rs q bits i → n ≡ operand (record_at rs q) i → m ≡ or_bits (around rs q) (given rs q (role_at (record_at rs q) i)) → bits' ≡ set bits n m → Pushed rs q bits' (i + 1)
  push_more q i n m bits bits' h few k p e f g =
      let lw : n < q = omega (arith, operand_lower rs clear q i h k) in
      let right : m ≡ around rs n = f ∙ sym (around_operand q i h k) ∙ ap (around rs) (sym e) in
      let here : get_or bits' n 0 ≡ around rs n = rw g (get_or-set_same bits n m 0 (omega (arith, p.long)) ∙ right) in
      record {
        long = rw g (length-set bits n m ∙ p.long);
        within = omega arith;
        higher =
            λ r l o.
            rw g
            (get_or-set_other bits n r m 0 (λ same. absurd (omega (arith, ap (parent rs) (same ∙ e), operand_parent rs clear q i h k)))
            ∙ p.higher r l o);
        done =
            λ j l.
            let o : ℕ = operand (record_at rs q) j in
            by_lower o n (λ a. rw g (get_or-set_other bits n o m 0 (λ same. omega arith) ∙ p.done j (before j l o refl a)))
            (λ a.
            by_lower n o (λ b. rw g (get_or-set_other bits n o m 0 (λ same. omega arith) ∙ p.done j (after j l o refl b)))
            (λ b. let same : o ≡ n = omega arith in rw same here));
      }
    where
      before : (j : ℕ) → j < i + 1 → (o : ℕ) → o ≡ operand (record_at rs q) j → o < n → j < i
      before j l o is a =
          by_lower j i (λ b. b) (λ b. let same : j ≡ i = omega arith in absurd (omega (arith, is ∙ ap (operand (record_at rs q)) same, e)))

      after : (j : ℕ) → j < i + 1 → (o : ℕ) → o ≡ operand (record_at rs q) j → n < o → j < i
      after j l o is a =
          by_lower j i (λ b. b) (λ b. let same : j ≡ i = omega arith in absurd (omega (arith, is ∙ ap (operand (record_at rs q)) same, e)))

  pub push_end : (q i : ℕ) (bits : List ℕ) → q < length rs → Pushed rs q bits i → length (named (record_at rs q)) ≤ i → Around rs bits q
  push_end q i bits h p l =
      record {
        long = p.long;
        is =
            λ r k o.
            by_lower q (parent rs r) (λ a. p.higher r k a)
            (λ a.
            let same : parent rs r ≡ q = omega arith in
            let at : Place (named (record_at rs q)) r = in_place r (named (record_at rs q)) (rw same at ((low (λ q. is_in r (named (record_at rs q))) (length rs)).hit (omega arith))) in
            rw (sym at.is) (p.done at.index (omega (arith, at.within))));
      }
