-- The pattern of a record, by its kind and the patterns of its operands.
use Rattle.std.specs.Prelude.{◌≡◌, refl, true, false, List, [], ◌∷◌, map, ℕ, suc, ◌<◌, length, get_or}
use Rattle.std.proofs.Common.{sym, ap, subst, ◌∙◌, arith}
use Rattle.prelude.proofs.Absurd.{never}
use Rattle.prelude.proofs.Truth.{by_test}
use Rattle.values.specs.Value.{Value, boolean, integer, quote}
use Rattle.patterns.specs.Pattern.{Pattern, name, any, literal, each, halved, parts}
use Rattle.tables.specs.Record.{Record, named, is_pattern, is_composed, boolean_of, integer_of, quote_of, name_of}
use Rattle.tables.specs.Table.{record_at}
use Rattle.tables.proofs.Laws.Kinds.{by_leaf, by_composed}
use Rattle.tables.proofs.Laws.Below.{OperandsLower, fold_at}
use Rattle.patterns.specs.Nodes.{collection_of, is_halved}
use Rattle.patterns.specs.Read.{patterns_of, pattern_of, pattern_at}

-- ---- the two forms

pub parts_length : (ps : List Pattern) → parts (patterns_of ps) ≡ length ps
unfolding parts patterns_of
parts_length [] = refl
parts_length (p ∷ ps) = ap suc (parts_length ps)

pub two_of : (ps : List Pattern) → length ps ≡ 2 → get_or ps 0 any ∷ get_or ps 1 any ∷ [] ≡ ps
two_of [] e = absurd (omega arith)
two_of (p ∷ []) e = absurd (omega arith)
two_of (p ∷ q ∷ []) e = refl
two_of (p ∷ q ∷ r ∷ ps) e = absurd (omega arith)

-- ---- by kind

module _ (r : Record) (ps : List Pattern) where
  pub is_name : r.kind ≡ 32 → pattern_of r ps ≡ name (name_of r)
  is_name e = rw e

  pub is_any : r.kind ≡ 33 → pattern_of r ps ≡ any
  is_any e = rw e

  pub is_boolean_literal : r.kind ≡ 34 → pattern_of r ps ≡ literal (boolean (boolean_of r))
  is_boolean_literal e = rw e

  pub is_integer_literal : r.kind ≡ 35 → pattern_of r ps ≡ literal (integer (integer_of r))
  is_integer_literal e = rw e

  pub is_quote_literal : r.kind ≡ 43 → pattern_of r ps ≡ literal (quote (quote_of r))
  is_quote_literal e = rw e

  -- ---- by the row of the kind

  is_each : is_composed r.kind ≡ true → is_halved r.kind ≡ false → pattern_of r ps ≡ each (collection_of r.kind) (patterns_of ps)
  is_each c h =
      by_composed r.kind c (λ e. rw e) (λ e. rw e) (λ e. never (sym h ∙ ap is_halved e)) (λ e. rw e) (λ e. never (sym h ∙ ap is_halved e)) (λ e. rw e) (λ e. never (sym h ∙ ap is_halved e))

  is_halves : is_composed r.kind ≡ true → is_halved r.kind ≡ true → pattern_of r ps ≡ halved (collection_of r.kind) (get_or ps 0 any) (get_or ps 1 any)
  is_halves c h =
      by_composed r.kind c (λ e. never (sym (ap is_halved e) ∙ h)) (λ e. never (sym (ap is_halved e) ∙ h)) (λ e. rw e) (λ e. never (sym (ap is_halved e) ∙ h)) (λ e. rw e) (λ e. never (sym (ap is_halved e) ∙ h)) (λ e. rw e)

  module _ (P : Pattern → Type 0) where
    -- What holds of a name, of any and of every literal holds of a pattern without parts,
    pub on_leaf : is_pattern r.kind ≡ true → is_composed r.kind ≡ false
        → (r.kind ≡ 32 → P (name (name_of r))) → (r.kind ≡ 33 → P any) → ((w : Value) → (r.kind ≡ 32 → ⊥) → (r.kind ≡ 33 → ⊥) → P (literal w)) → P (pattern_of r ps)
    on_leaf p c n a l =
        by_leaf r.kind p c (λ e. subst P (sym (is_name e)) (n e)) (λ e. subst P (sym (is_any e)) (a e))
        (λ e. subst P (sym (is_boolean_literal e)) (l (boolean (boolean_of r)) (λ f. absurd (omega arith)) (λ f. absurd (omega arith))))
        (λ e. subst P (sym (is_integer_literal e)) (l (integer (integer_of r)) (λ f. absurd (omega arith)) (λ f. absurd (omega arith))))
        (λ e. subst P (sym (is_quote_literal e)) (l (quote (quote_of r)) (λ f. absurd (omega arith)) (λ f. absurd (omega arith))))

    -- and what holds of one with a part for each item, and of one with two halves, of a pattern with parts.
    pub on_composed : is_composed r.kind ≡ true
        → (is_halved r.kind ≡ false → P (each (collection_of r.kind) (patterns_of ps)))
        → (is_halved r.kind ≡ true → P (halved (collection_of r.kind) (get_or ps 0 any) (get_or ps 1 any))) → P (pattern_of r ps)
    on_composed c a b = by_test (is_halved r.kind) (λ h. subst P (sym (is_halves c h)) (b h)) (λ h. subst P (sym (is_each c h)) (a h))

-- The pattern of a record, by the patterns of its operands.
pub pattern_at_lem : (rs : List Record) → OperandsLower rs → (p : ℕ) → p < length rs → pattern_at rs p ≡ pattern_of (record_at rs p) (map (pattern_at rs) (named (record_at rs p)))
unfolding pattern_at
pattern_at_lem rs low p h = fold_at (λ q ps. pattern_of (record_at rs q) ps) any rs low p h
