-- Where rules 6 to 8 are kept: a name that is held is not bound around, and what is free at a record is allowed there.
use mathlib.Core.Path.{◌≡◌, sym, ap, subst, ◌∙◌}
use mathlib.Core.Bool.{Bool, true, false, not, ◌&&◌, ◌||◌}
use mathlib.Core.List.{List, [], ◌∷◌, map}
use mathlib.Core.Logic.{◌⊎◌, ⊎_elim}
use Prim.Native.Nat.{ℕ, zero, suc, ◌+◌, ◌<◌}
use native.Mathlib.Omega.{arith}
use borrow.Author.Tests.{eqb-true}
use lib.Dec.{eqb}
use lib.ListN.{length, get_or}
use mathlib.Mathlib.Data.Bool.Basic.{and_elim_left, and_elim_right}
use Rattle.prelude.proofs.Absurd.{never}
use Rattle.prelude.proofs.Truth.{by_test, or_cases, or_false_left, or_false_right}
use Rattle.tables.specs.Record.{Record, named, operand, role_at, name_of}
use Rattle.tables.specs.Table.{record_at, kind_at}
use Rattle.tables.specs.Sheet.{some, is_name, holds_name, is_covered, is_condition, pattern_of, is_bound, in_condition}
use Rattle.tables.specs.Check.{fault7}
use Rattle.tables.proofs.Laws.Accepted.{operand_lower, bound_operand, condition_operand, holds_at_lem}
use Rattle.checking.specs.Scopes.{has_bit, or_bits}
use Rattle.checking.specs.Sweeps.{Keeps, Allowed}
use Rattle.checking.proofs.Bits.{bit_union}

-- Some entry of a list passes a test.
record Hit (test : ℕ → Bool) (ms : List ℕ) : Type 0 where
  index : ℕ
  within : index < length ms
  is : test (get_or ms index 0) ≡ true

some_hit : (test : ℕ → Bool) (ms : List ℕ) → some (map test ms) ≡ true → Hit test ms
some_hit test [] e = never e
some_hit test (m ∷ ms) e =
    ⊎_elim (λ f. record { index = zero; within = omega arith; is = f })
    (λ f. let h : Hit test ms = some_hit test ms f in record { index = suc h.index; within = omega (arith, h.within); is = h.is })
    (or_cases (test m) (some (map test ms)) e)

right_true : (a b : Bool) → a || b ≡ true → a ≡ false → b ≡ true
right_true true b e f = never (sym f)
right_true false b e f = e

pub allowed_both : {rs : List Record} {r a b c : ℕ} → Allowed rs r a → Allowed rs r b → c ≡ or_bits a b → Allowed rs r c
allowed_both {rs} {r} {a} {b} {c} x y e =
    record {
      bound = λ n f. ⊎_elim (x.bound n) (y.bound n) (either (n + 2) f);
      outside = λ f. ⊎_elim x.outside y.outside (either 0 f);
    }
  where
    either : (n : ℕ) → has_bit c n ≡ true → (has_bit a n ≡ true) ⊎ (has_bit b n ≡ true)
    either n f = or_cases (has_bit a n) (has_bit b n) (sym (ap (λ (m : ℕ). has_bit m n) e ∙ bit_union a b n) ∙ f)

module _ (rs : List Record) (keeps : Keeps rs) where
  -- ---- names that are held

  own_fresh : (r n : ℕ) → r < length rs → is_name n (record_at rs r) ≡ true → is_bound rs r n ≡ false
  unfolding fault7
  own_fresh r n h e =
      let is : eqb (kind_at rs r) 32 ≡ true = and_elim_left _ (eqb (name_of (record_at rs r)) n) e in
      subst (λ (m : ℕ). is_bound rs r m ≡ false) (eqb-true (name_of (record_at rs r)) n (and_elim_right (eqb (kind_at rs r) 32) _ e))
      (rw is at (or_false_right (eqb (kind_at rs r) 3 && not (is_bound rs r (name_of (record_at rs r)))) _ (keeps.clear7 r h)))

  fresh_by : (bound r n : ℕ) → r < bound → r < length rs → holds_name rs r n ≡ true → is_bound rs r n ≡ false
  fresh_by zero r n b h e = absurd (omega arith)
  fresh_by (suc bound) r n b h e =
      ⊎_elim (own_fresh r n h)
      (λ f.
      let at : Hit (λ q. holds_name rs q n) (named (record_at rs r)) = some_hit (λ q. holds_name rs q n) (named (record_at rs r)) f in
      let lw : operand (record_at rs r) at.index < r = operand_lower rs keeps.clear6 r at.index h at.within in
      or_false_right (is_covered (role_at (record_at rs r) at.index) && holds_name rs (pattern_of rs r) n) (is_bound rs r n)
      (sym (bound_operand rs keeps.clear6 r at.index n h at.within) ∙ fresh_by bound (operand (record_at rs r) at.index) n (omega arith) (omega arith) at.is))
      (or_cases (is_name n (record_at rs r)) (some (map (λ q. holds_name rs q n) (named (record_at rs r)))) (sym (holds_at_lem rs keeps.clear6 r n h) ∙ e))

  pub fresh : (r n : ℕ) → r < length rs → holds_name rs r n ≡ true → is_bound rs r n ≡ false
  fresh r n h e = fresh_by (suc r) r n (omega arith) h e

  -- ---- operand i of record r

  module _ (r i : ℕ) (h : r < length rs) (k : i < length (named (record_at rs r))) where
    -- No name that it holds is bound by its record.
    pub operand_fresh : (n : ℕ) → holds_name rs (operand (record_at rs r) i) n ≡ true → is_covered (role_at (record_at rs r) i) && holds_name rs (pattern_of rs r) n ≡ false
    operand_fresh n e =
        or_false_left _ (is_bound rs r n)
        (sym (bound_operand rs keeps.clear6 r i n h k) ∙ fresh (operand (record_at rs r) i) n (omega (arith, operand_lower rs keeps.clear6 r i h k)) e)

    -- A condition has no choice.
    pub condition_plain : (m : ℕ) → Allowed rs (operand (record_at rs r) i) m → is_condition (role_at (record_at rs r) i) ≡ true → has_bit m 0 ≡ false
    condition_plain m a e =
        by_test {P = has_bit m 0 ≡ false} (has_bit m 0)
        (λ f. never (sym (or_false_left (is_condition (role_at (record_at rs r) i)) (in_condition rs r) (sym (condition_operand rs keeps.clear6 r i h k) ∙ a.outside f)) ∙ e))
        (λ f. f)

    -- What its record hands on, without the names that it binds, is allowed at the record.
    pub allowed_up : (m o : ℕ) → Allowed rs (operand (record_at rs r) i) m → ((n : ℕ) → has_bit o n ≡ true → has_bit m n ≡ true) → ((n : ℕ) → has_bit o (n + 2) ≡ true → is_covered (role_at (record_at rs r) i) && holds_name rs (pattern_of rs r) n ≡ false) → Allowed rs r o
    allowed_up m o a from new =
        record {
          bound = λ n e. right_true (is_covered (role_at (record_at rs r) i) && holds_name rs (pattern_of rs r) n) (is_bound rs r n) (sym (bound_operand rs keeps.clear6 r i n h k) ∙ a.bound n (from (n + 2) e)) (new n e);
          outside = λ e. or_false_right (is_condition (role_at (record_at rs r) i)) (in_condition rs r) (sym (condition_operand rs keeps.clear6 r i h k) ∙ a.outside (from 0 e));
        }
