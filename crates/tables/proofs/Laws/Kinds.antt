-- The rows of the table of kinds: what holds of each holds of every kind, and the kinds of each sort are those that document 01 names.
use Rattle.std.specs.Prelude.{◌≡◌, refl, Bool, not, ◌&&◌, ◌||◌, ℕ, zero, suc, ◌+◌, ◌-◌, ◌≤◌, ◌<◌, eqb, leb, length}
use Rattle.std.proofs.Math.Path.{sym, ap}
use Rattle.std.proofs.Common.{◌∙◌, arith, le-leb, leb-true, eqb-true, ne_eqb}
use Rattle.std.proofs.Math.Bool.{true, false}
use Rattle.std.specs.Bool.{beq}
use mathlib.Core.List.{List, [], ◌∷◌, map}
use Rattle.std.proofs.lemmas.Bool.{lt-leb}
use Rattle.std.proofs.Math.ListN.{get_or-eq_default}
use mathlib.Mathlib.Data.Bool.Basic.{and_elim_left, and_elim_right}
use Rattle.prelude.proofs.Absurd.{never}
use Rattle.tables.specs.declared.Role.{Role}
use Rattle.tables.specs.Record.{Shape, missing, shapes, last_kind, shape, of_expressions, of_patterns, is_expression, is_pattern, has_roles, is_composed}
use Rattle.tables.specs.Sheet.{any, some, is_covered, is_binder}
use Rattle.tables.specs.Shapes.{first_of}
use Rattle.prelude.proofs.Truth.{implied, by_lower}
use Rattle.tables.proofs.Laws.Tests.{each}

-- There is no kind above the last.
pub beyond : (k : ℕ) → last_kind < k → shape k ≡ missing
unfolding shape
beyond k h = get_or-eq_default shapes missing {n = k} (omega arith)

beq_same : (b c : Bool) → beq b c ≡ true → b ≡ c
beq_same true true e = refl
beq_same true false e = never e
beq_same false true e = never e
beq_same false false e = refl

-- A test that is computed over all kinds holds of each.
pub each_kind : (test : ℕ → Bool) → any (λ k. not (test k)) (suc last_kind) ≡ false → (k : ℕ) → k ≤ last_kind → test k ≡ true
each_kind test e k h = each test (suc last_kind) e k (omega arith)

-- Two tests of a kind that agree by computing on each agree on all kinds, and everywhere if they agree above the last.
module _ (one other : ℕ → Bool) where
  pub same_kind : any (λ k. not (beq (one k) (other k))) (suc last_kind) ≡ false → (k : ℕ) → k ≤ last_kind → one k ≡ other k
  same_kind e k h = beq_same (one k) (other k) (each_kind (λ k. beq (one k) (other k)) e k h)

  on_kinds : ((k : ℕ) → last_kind < k → one k ≡ other k) → any (λ k. not (beq (one k) (other k))) (suc last_kind) ≡ false → (k : ℕ) → one k ≡ other k
  on_kinds above e k = by_lower last_kind k (above k) (same_kind e k)

off_and : (b : Bool) {c : Bool} → c ≡ false → b && c ≡ false
off_and true e = e
off_and false e = refl

-- Kinds 1 to 22 are expressions, 32 to the last patterns.
pub expression_kinds : (k : ℕ) → is_expression k ≡ leb 1 k && leb k 22
unfolding shape
expression_kinds =
    on_kinds is_expression (λ k. leb 1 k && leb k 22)
    (λ k h. ap (λ (s : Shape). of_expressions s.sort) (beyond k h) ∙ sym (off_and (leb 1 k) (lt-leb k 22 (omega arith)))) refl

pub pattern_kinds : (k : ℕ) → is_pattern k ≡ leb 32 k && leb k last_kind
unfolding shape
pattern_kinds =
    on_kinds is_pattern (λ k. leb 32 k && leb k last_kind)
    (λ k h. ap (λ (s : Shape). of_patterns s.sort) (beyond k h) ∙ sym (off_and (leb 32 k) (lt-leb k last_kind (omega arith)))) refl

-- Kinds 36 to 42 have parts.
pub composed_kinds : (k : ℕ) → is_composed k ≡ leb 36 k && leb k 42
unfolding shape
composed_kinds =
    on_kinds is_composed (λ k. leb 36 k && leb k 42)
    (λ k h. ap (λ (s : Shape). of_patterns s.sort && has_roles s.roles) (beyond k h) ∙ sym (off_and (leb 36 k) (lt-leb k 42 (omega arith)))) refl

-- Kinds 37, 38 and 40 to 42 are loose.
pub loose_kinds : (k : ℕ) → (shape k).loose ≡ eqb k 37 || eqb k 38 || (leb 40 k && leb k 42)
unfolding shape
loose_kinds =
    on_kinds (λ k. (shape k).loose) (λ k. eqb k 37 || eqb k 38 || (leb 40 k && leb k 42))
    (λ k h. ap (λ (s : Shape). s.loose) (beyond k h) ∙ sym (rw (ne_eqb k 37 (omega arith), ne_eqb k 38 (omega arith)) (off_and (leb 40 k) (lt-leb k 42 (omega arith))))) refl

-- What is loose is a pattern.
pub not_loose : (k : ℕ) → is_pattern k ≡ false → (shape k).loose ≡ false
unfolding shape
not_loose k e =
    on_kinds (λ k. (shape k).loose) (λ k. is_pattern k && (shape k).loose)
    (λ k h. ap (λ (s : Shape). s.loose) (beyond k h) ∙ sym (off_and (is_pattern k) (ap (λ (s : Shape). s.loose) (beyond k h)))) refl k
    ∙ ap (λ (b : Bool). b && (shape k).loose) e

-- Kinds 12 to 20 bind.
pub binder_kinds : (k : ℕ) → is_binder k ≡ leb 12 k && leb k 20
unfolding shape
binder_kinds =
    on_kinds is_binder (λ k. leb 12 k && leb k 20)
    (λ k h. ap (λ (s : Shape). some (map is_covered s.roles)) (beyond k h) ∙ sym (off_and (leb 12 k) (lt-leb k 20 (omega arith)))) refl

-- Bounds of each.
pub expression_least : (k : ℕ) → is_expression k ≡ true → 1 ≤ k
expression_least k e = leb-true 1 k (and_elim_left _ (leb k 22) (sym (expression_kinds k) ∙ e))

pub expression_most : (k : ℕ) → is_expression k ≡ true → k ≤ 22
expression_most k e = leb-true k 22 (and_elim_right (leb 1 k) _ (sym (expression_kinds k) ∙ e))

pub pattern_most : (k : ℕ) → is_pattern k ≡ true → k ≤ last_kind
pattern_most k e = leb-true k last_kind (and_elim_right (leb 32 k) _ (sym (pattern_kinds k) ∙ e))

pub pattern_least : (k : ℕ) → is_pattern k ≡ true → 32 ≤ k
pattern_least k e = leb-true 32 k (and_elim_left _ (leb k last_kind) (sym (pattern_kinds k) ∙ e))

pub binder_from : (k : ℕ) → is_binder k ≡ true → 12 ≤ k
binder_from k e = leb-true 12 k (and_elim_left _ (leb k 20) (sym (binder_kinds k) ∙ e))

pub binder_most : (k : ℕ) → is_binder k ≡ true → k ≤ 20
binder_most k e = leb-true k 20 (and_elim_right (leb 12 k) _ (sym (binder_kinds k) ∙ e))

pub binder_kind : (k : ℕ) → 12 ≤ k → k ≤ 20 → is_binder k ≡ true
binder_kind k l m = binder_kinds k ∙ rw (le-leb 12 k l, le-leb k 20 m)

-- ---- patterns with parts and without

composed_pattern : (k : ℕ) → is_composed k ≡ true → is_pattern k ≡ true
composed_pattern k e = and_elim_left (is_pattern k) (has_roles (shape k).roles) e

-- A test of a kind is one of the kind that it equals.
pub composed_told : {k c : ℕ} {b t : Bool} → k ≡ c → b ≡ is_composed k → b ≡ t → is_composed c ≡ t
composed_told e f g = ap is_composed (sym e) ∙ sym f ∙ g

-- Some kinds by themselves.
pub union_composed : {k : ℕ} → k ≡ 38 → is_composed k ≡ true
unfolding shape
union_composed e = ap is_composed e

pub concatenation_composed : {k : ℕ} → k ≡ 40 → is_composed k ≡ true
unfolding shape
concatenation_composed e = ap is_composed e

pub munion_composed : {k : ℕ} → k ≡ 42 → is_composed k ≡ true
unfolding shape
munion_composed e = ap is_composed e

pub name_bare : {k : ℕ} → k ≡ 32 → is_composed k ≡ false
unfolding shape
name_bare e = ap is_composed e

-- A pattern without parts has no operands.
bare_roles : (s : Shape) → of_patterns s.sort ≡ true → of_patterns s.sort && has_roles s.roles ≡ false → length s.roles ≡ 0
bare_roles s p e = go s.roles (sym (ap (λ (b : Bool). b && has_roles s.roles) p) ∙ e)
  where
    go : (roles : List Role) → has_roles roles ≡ false → length roles ≡ 0
    go [] f = refl
    go (role ∷ roles) f = never (sym f)

pub no_roles : (k : ℕ) → is_pattern k ≡ true → is_composed k ≡ false → length (shape k).roles ≡ 0
no_roles k p e = bare_roles (shape k) p e

-- What follows from being each of the kinds of patterns follows of every pattern.
module _ {A : Type 0} (k : ℕ) where
  pub by_pattern : is_pattern k ≡ true
      → (k ≡ 32 → A) → (k ≡ 33 → A) → (k ≡ 34 → A) → (k ≡ 35 → A)
      → (k ≡ 36 → A) → (k ≡ 37 → A) → (k ≡ 38 → A) → (k ≡ 39 → A) → (k ≡ 40 → A) → (k ≡ 41 → A) → (k ≡ 42 → A) → (k ≡ 43 → A) → A
  by_pattern p name any boolean integer tuple set union sequence concatenation map munion quote =
      let low = pattern_least k p in
      let high = pattern_most k p in
      go (k - 32) (omega arith)
    where
      go : (d : ℕ) → k ≡ 32 + d → A
      go zero e = name e
      go (suc zero) e = any e
      go (suc (suc zero)) e = boolean e
      go (suc (suc (suc zero))) e = integer e
      go (suc (suc (suc (suc zero)))) e = tuple e
      go (suc (suc (suc (suc (suc zero))))) e = set e
      go (suc (suc (suc (suc (suc (suc zero)))))) e = union e
      go (suc (suc (suc (suc (suc (suc (suc zero))))))) e = sequence e
      go (suc (suc (suc (suc (suc (suc (suc (suc zero)))))))) e = concatenation e
      go (suc (suc (suc (suc (suc (suc (suc (suc (suc zero))))))))) e = map e
      go (suc (suc (suc (suc (suc (suc (suc (suc (suc (suc zero)))))))))) e = munion e
      go (suc (suc (suc (suc (suc (suc (suc (suc (suc (suc (suc zero))))))))))) e = quote e
      go (suc (suc (suc (suc (suc (suc (suc (suc (suc (suc (suc (suc d)))))))))))) e = absurd (omega (arith, pattern_most k p))

  -- What follows from each kind with parts follows of every pattern with parts,
  pub by_composed : is_composed k ≡ true
      → (k ≡ 36 → A) → (k ≡ 37 → A) → (k ≡ 38 → A) → (k ≡ 39 → A) → (k ≡ 40 → A) → (k ≡ 41 → A) → (k ≡ 42 → A) → A
  unfolding shape
  by_composed c tuple set union sequence concatenation map munion =
      by_pattern (composed_pattern k c) (other 32 refl) (other 33 refl) (other 34 refl) (other 35 refl) tuple set union sequence concatenation map munion (other 43 refl)
    where
      other : (n : ℕ) → is_composed n ≡ false → k ≡ n → A
      other n f e = never (sym f ∙ sym (ap is_composed e) ∙ c)

  -- and what follows from each kind without parts follows of every pattern without.
  pub by_leaf : is_pattern k ≡ true → is_composed k ≡ false → (k ≡ 32 → A) → (k ≡ 33 → A) → (k ≡ 34 → A) → (k ≡ 35 → A) → (k ≡ 43 → A) → A
  unfolding shape
  by_leaf p c name any boolean integer quote =
      by_pattern p name any boolean integer (other 36 refl) (other 37 refl) (other 38 refl) (other 39 refl) (other 40 refl) (other 41 refl) (other 42 refl) quote
    where
      other : (n : ℕ) → is_composed n ≡ true → k ≡ n → A
      other n f e = never (sym c ∙ ap is_composed e ∙ f)

-- ---- where operands begin

pub plain_begins : (k : ℕ) → 6 ≤ k → k < 22 → 4 ≡ first_of k
unfolding shape
plain_begins k l h = eqb-true 4 _ (implied (leb 6 k) _ (each (λ k. not (leb 6 k) || eqb 4 (first_of k)) 22 refl k h) (le-leb 6 k l))

pub operator_begins : (k : ℕ) → 3 < k → k < 6 → 5 ≡ first_of k
unfolding shape
operator_begins k l h = eqb-true 5 _ (implied (leb 4 k) _ (each (λ k. not (leb 4 k) || eqb 5 (first_of k)) 6 refl k h) (le-leb 4 k (omega arith)))
