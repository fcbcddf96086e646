-- What the functions for let, let-be and the quantifiers have in reach.
use mathlib.Core.Path.{◌≡◌, refl, sym, ap, subst, ◌∙◌}
use mathlib.Core.Bool.{Bool, true, false, not, beq}
use mathlib.Core.List.{List}
use Prim.Native.Nat.{ℕ, zero, suc, ◌/◌, ◌%◌}
use lib.Dec.{eqb}
use borrow.Author.Tests.{eq-eqb, ne_eqb}
use native.Mathlib.Omega.{arith}
use native.Mathlib.Decide.{ℕ_discrete}
use Rattle.prelude.proofs.Absurd.{impossible}
use Rattle.choices.specs.State.{Answer, Choices}
use Rattle.tables.specs.Record.{shape}
use Rattle.tables.specs.Table.{kind_at}
use Rattle.tables.specs.Sheet.{loose as loose_in}
use Rattle.tables.specs.Accepted.{records, Fine}
use Rattle.tables.specs.Reading.{Here, HasOperand}
use Rattle.patterns.specs.Pattern.{loose}
use Rattle.patterns.specs.Read.{pattern_at}
use Rattle.meaning.proofs.Laws.PatternLaws.{loose_is}
use Rattle.parts.specs.declared.words.Env.{Env}
use Rattle.evaluator.specs.Contract.{has_value}
use Rattle.lists.specs.Choosing.{Picks}
use Rattle.evaluator.specs.Binding.{Placed, Counted, Binder, quantified, pattern_for, Begins, Unique, Surveys}
use Rattle.evaluator.specs.Contract.{Ask, ended, Evaluates, operand_at}
use Rattle.evaluator.proofs.Unique.{exists1_off, iota_off}
use Rattle.evaluator.proofs.Tables.{has_operand}
use Rattle.evaluator.proofs.Standing.{binder_readable}

-- ---- truths that agree

pub beq_same : (a b : Bool) → beq a b ≡ true → a ≡ b
beq_same true true e = refl
beq_same true false e = impossible cc
beq_same false true e = impossible cc
beq_same false false e = refl

pub beq_not : (a b : Bool) → beq a b ≡ false → a ≡ not b
beq_not true true e = impossible cc
beq_not true false e = refl
beq_not false true e = refl
beq_not false false e = impossible cc

-- ---- a quantifier's kind by half of it

pub quantifier_of : {k : ℕ} → k / 2 ≡ 7 → k ≡ quantified (eqb k 15)
quantifier_of {k} e = go (k % 2) refl
  where
    go : (m : ℕ) → k % 2 ≡ m → k ≡ quantified (eqb k 15)
    go zero h = let x : k ≡ 14 = omega arith in rw (ne_eqb k 15 (λ z. omega arith)) x
    go (suc m) h = let x : k ≡ 15 = omega arith in rw (eq-eqb k 15 x) x

-- ---- a kind under its other name

pub begins_as : {table : List ℕ} {r k m : ℕ} {s t : List ℕ} {base : ℕ} {env : Env} {c d : Choices} {x : Placed} → k ≡ m → Begins table r k s t base env c x d → Begins table r m s t base env c x d
begins_as {table} {r} {k} {m} {s} {t} {base} {env} {c} {d} {x} e g = subst (λ (n : ℕ). Begins table r n s t base env c x d) e g

-- ---- let and let-be

module _ {table : List ℕ} {r : ℕ} {s : List ℕ} {base : ℕ} {env : Env} {c : Choices} (a : Ask table r s base env c) where
  pub let_be_has : kind_at (records table) r ≡ 13 → HasOperand table r 3
  unfolding shape
  let_be_has e = has_operand a e 3 (omega arith)

  pub let_in_binder : kind_at (records table) r ≡ 12 → Binder (kind_at (records table) r)
  let_in_binder e = subst Binder (sym e) (omega arith, omega arith)

  module _ (is_12 : kind_at (records table) r ≡ 12) {p : ℕ} (is_p : p ≡ operand_at table r 0) where
    pub let_in_readable : Fine (records table) × Here table p
    let_in_readable = let h = binder_readable a (let_in_binder is_12) is_p in (h.fine, h.here)

    pub picks_as : {b : Bool} {c d : Choices} {n : ℕ} {x : Answer} → b ≡ loose_in (records table) p → Picks b c n x d → Picks (loose (pattern_for table r)) c n x d
    picks_as {b} {c} {d} {n} {x} e k =
        let h = binder_readable a (let_in_binder is_12) is_p in
        subst (λ (y : Bool). Picks y c n x d) (e ∙ loose_is table a.legal.count a.legal.ok p h.here h.pattern ∙ ap (λ (m : ℕ). loose (pattern_at (records table) m)) is_p) k

-- ---- exists1 and iota

pub surveys_as : {table : List ℕ} {r k m : ℕ} {s t : List ℕ} {base : ℕ} {env : Env} {c d : Choices} {v : Counted} → k ≡ m → Surveys table r k s t base env c v d → Surveys table r m s t base env c v d
surveys_as {table} {r} {k} {m} {s} {t} {base} {env} {c} {d} {v} e g = subst (λ (n : ℕ). Surveys table r n s t base env c v d) e g

pub seventeen : {k : ℕ} → Unique k → (k ≡ 16 → ⊥) → k ≡ 17
seventeen u n = omega (arith, u.0, u.1)

pub single_off : {table : List ℕ} {r k : ℕ} {s : List ℕ} {base : ℕ} {env : Env} {c : Choices} (a : Ask table r s base env c) → kind_at (records table) r ≡ k → Unique k → {t : List ℕ} {v : Counted} {c₁ : Choices} → Surveys table r k s t base env c v c₁ → (v.outcome ≡ has_value → ⊥) → Evaluates table r s t base env c (ended v.outcome c₁)
single_off {table} {r = r} {k = k} {s} {base} {env} {c} a d u {t} {v} {c₁} g h = go (ℕ_discrete k 16)
  where
    go : Dec (k ≡ 16) → Evaluates table r s t base env c (ended v.outcome c₁)
    go (yes e) = exists1_off a (d ∙ e) (surveys_as e g) h
    go (no n) = iota_off a (d ∙ seventeen u n) (surveys_as (seventeen u n) g) h

-- 14, 15

pub quantify_kind : {k : ℕ} (want : Bool) → k ≡ quantified want → Binder k
quantify_kind true e = (omega arith, omega arith)
quantify_kind false e = (omega arith, omega arith)
