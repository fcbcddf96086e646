-- A part of a value compared with a literal.
use Rattle.parts.specs.declared.How.TheVariants.{Whole}
use mathlib.Core.Path.{◌≡◌, refl, sym, ap, ap₂, ◌∙◌}
use mathlib.Core.Bool.{Bool, true, false, beq}
use mathlib.Core.Logic.{◌⊎◌, ⊎_elim, inl, inr}
use mathlib.Core.List.{List}
use Prim.Native.Nat.{ℕ, ◌<◌}
use native.Mathlib.Omega.{arith}
use lib.IntN.{ℤ}
use lib.Dec.{eqb}
use mir.Syntax.{w32}
use mir.Val.{SFits, of_z, to_z}
use mir.ValLaws.{to_z-of_z}
use borrow.Author.Tests.{eq-eqb, eqb-true, eqb-false}
use lib.ListN.{length}
use Rattle.prelude.proofs.Absurd.{impossible}
use Rattle.prelude.proofs.Truth.{by_test}
use Rattle.values.specs.Value.{Kind, sequence, number, Value, boolean, integer, quote, kind_of}
use Rattle.values.specs.Items.{same}
use Rattle.values.proofs.Order.{number_low, number_high, true_same, false_same}
use Rattle.values.specs.Place.{At}
use Rattle.values.proofs.Records.{one_value, holds, word_kind}
use Rattle.values.specs.Contract.{OfKind}
use Rattle.tables.specs.Record.{field, boolean_of, integer_of, quote_of, head_of, size, shape}
use Rattle.tables.specs.Table.{record_at, kind_at}
use Rattle.tables.specs.Accepted.{records}
use Rattle.tables.proofs.Laws.Accepted.{lower, fit_least}
use Rattle.tables.proofs.Laws.Below.{OperandsLower as Less}
use Rattle.tables.specs.Reading.{HasField}
use Rattle.parts.specs.declared.Part.{Part}
use Rattle.parts.specs.Part.{PartIs, PartHeld}
use Rattle.parts.specs.Contract.{KindOfPart}
use Rattle.parts.proofs.Laws.{whole_of}
use Rattle.patterns.specs.Pattern.{literal}
use Rattle.patterns.specs.Read.{pattern_of, pattern_at}
use Rattle.patterns.proofs.Laws.Nodes.{pattern_at_lem, is_boolean_literal, is_integer_literal, is_quote_literal}
use Rattle.matching.specs.Node.{LiteralHeld, LiteralIs, inner_of}

outside : {k : ℕ} (l : Kind) → (k < 3) ⊎ (6 < k) → k ≡ number l → ⊥
outside l (inl h) e = omega (arith, number_low l)
outside l (inr h) e = omega (arith, number_high l)

-- a part that is no collection is a whole record
plain_how : {s : List ℕ} {p : Part} {k : ℕ} {v : Value} → KindOfPart s p k → (k < 3) ⊎ (6 < k) → PartIs s p v → p.how ≡ Whole
plain_how c l (inl h) = h.0
plain_how {v = v} c l (inr (inl h)) = absurd (outside h.1.kind l (c v (inr (inl h)) ∙ ap kind_of h.1.is))
plain_how {v = v} c l (inr (inr h)) = absurd (outside sequence l (c v (inr (inr h)) ∙ ap kind_of h.1.is))

-- ---- truths

apart : {X : Type 0} → boolean true ≡ boolean false → X
apart e = impossible cc

truth_same : (x y : Bool) → beq x y ≡ same (boolean x) (boolean y)
truth_same true true = sym (true_same {v = boolean true} refl)
truth_same true false = sym (false_same (boolean true) (boolean false) (λ e. apart e))
truth_same false true = sym (false_same (boolean false) (boolean true) (λ e. apart (sym e)))
truth_same false false = sym (true_same {v = boolean false} refl)

-- two integers are equal where their bits are
whole_same : (a b : ℤ) → SFits w32 a → SFits w32 b → eqb (of_z w32 a) (of_z w32 b) ≡ same (integer a) (integer b)
whole_same a b fa fb = go (eqb (of_z w32 a) (of_z w32 b)) refl
  where
    go : (t : Bool) → eqb (of_z w32 a) (of_z w32 b) ≡ t → t ≡ same (integer a) (integer b)
    go true e =
        let q : a ≡ b = sym (to_z-of_z w32 a fa) ∙ ap (to_z w32) (eqb-true (of_z w32 a) (of_z w32 b) e) ∙ to_z-of_z w32 b fb in
        sym (true_same (ap integer q))
    go false e =
        sym (false_same (integer a) (integer b) (λ q.
        let r : a ≡ b = cc in
        let z : true ≡ false = sym (eq-eqb (of_z w32 a) (of_z w32 b) (ap (of_z w32) r)) ∙ e in
        impossible cc))

-- two quotes are equal where their numbers are
quote_same : (m n : ℕ) → eqb m n ≡ same (quote m) (quote n)
quote_same m n =
    by_test (eqb m n) (λ e. e ∙ sym (true_same (ap quote (eqb-true m n e))))
    (λ e. e ∙ sym (false_same (quote m) (quote n) (λ q. let r : m ≡ n = cc in eqb-false m n e r)))

module _ (table : List ℕ) (p : ℕ) (h : LiteralHeld table p) where
  within : p < length (records table)
  within = h.readable.here

  low : Less (records table)
  low = lower (records table) h.readable.fine.clear6

  -- ---- the kind, by those that it is not

  pub the_integer : (kind_at (records table) p ≡ 34 → ⊥) → (kind_at (records table) p ≡ 43 → ⊥) → kind_at (records table) p ≡ 35
  the_integer f g = ⊎_elim (λ e. absurd (f e)) (⊎_elim (λ e. e) (λ e. absurd (g e))) h.kind

  -- ---- the literal

  the_literal : {u w : Value} → pattern_of (record_at (records table) p) (inner_of table p) ≡ literal u → pattern_at (records table) p ≡ literal w → w ≡ u
  the_literal {u} {w} e f = let g : literal u ≡ literal w = sym (pattern_at_lem (records table) low p within ∙ e) ∙ f in cc

  is_truth : kind_at (records table) p ≡ 34 → (w : Value) → pattern_at (records table) p ≡ literal w → w ≡ boolean (boolean_of (record_at (records table) p))
  is_truth e w = the_literal (is_boolean_literal (record_at (records table) p) (inner_of table p) e)

  is_whole : kind_at (records table) p ≡ 35 → (w : Value) → pattern_at (records table) p ≡ literal w → w ≡ integer (integer_of (record_at (records table) p))
  is_whole e w = the_literal (is_integer_literal (record_at (records table) p) (inner_of table p) e)

  is_quote : kind_at (records table) p ≡ 43 → (w : Value) → pattern_at (records table) p ≡ literal w → w ≡ quote (quote_of (record_at (records table) p))
  is_quote e w = the_literal (is_quote_literal (record_at (records table) p) (inner_of table p) e)

  -- ---- its fields

  head_fields : (k n i : ℕ) → size (shape k).head ≡ n → kind_at (records table) p ≡ k → i < n → HasField table p i
  head_fields k n i d e l =
      let is : size (head_of (record_at (records table) p)) ≡ n = ap (λ (c : ℕ). size (shape c).head) e ∙ d in
      record { here = h.readable.here; has = omega (arith, fit_least (record_at (records table) p) (h.readable.fine.fit p within)) }

  pub truth_field : kind_at (records table) p ≡ 34 → HasField table p 0
  unfolding shape
  truth_field e = head_fields 34 1 0 refl e (omega arith)

  pub whole_field : kind_at (records table) p ≡ 35 → HasField table p 3
  unfolding shape
  whole_field e = head_fields 35 4 3 refl e (omega arith)

  pub quote_field : kind_at (records table) p ≡ 43 → HasField table p 1
  unfolding shape
  quote_field e = head_fields 43 2 1 refl e (omega arith)

  module _ (s : List ℕ) (part : Part) (k : ℕ) (kind : KindOfPart s part k) where
    -- ---- a value of another kind

    other : (u : Value) → ((w : Value) → pattern_at (records table) p ≡ literal w → w ≡ u) → (k ≡ kind_of u → ⊥) → LiteralIs table p s part false
    other u is d v w q f = sym (false_same w v (λ g. d (kind v q ∙ ap kind_of (sym g ∙ is w f))))

    pub other_truth : kind_at (records table) p ≡ 34 → (k ≡ 1 → ⊥) → LiteralIs table p s part false
    other_truth e = other (boolean (boolean_of (record_at (records table) p))) (is_truth e)

    pub other_whole : kind_at (records table) p ≡ 35 → (k ≡ 2 → ⊥) → LiteralIs table p s part false
    other_whole e = other (integer (integer_of (record_at (records table) p))) (is_whole e)

    pub other_quote : kind_at (records table) p ≡ 43 → (k ≡ 7 → ⊥) → LiteralIs table p s part false
    other_quote e = other (quote (quote_of (record_at (records table) p))) (is_quote e)

    -- ---- a whole record that stands there

    module _ (l : (k < 3) ⊎ (6 < k)) where
      stands : (v : Value) → PartIs s part v → At s part.at v
      stands v q = whole_of (plain_how kind l q) q

      pub of_kind : (n : ℕ) → k ≡ n → PartHeld s part → OfKind s part.at n
      of_kind n e q =
          let a = stands q.value q.here in
          record { held = holds a; kind = word_kind a ∙ sym (kind q.value q.here) ∙ e }

      both : {u x : Value} {r : Bool} → ((w : Value) → pattern_at (records table) p ≡ literal w → w ≡ u) → At s part.at x → r ≡ same u x → LiteralIs table p s part r
      both is at e v w q f = e ∙ sym (ap₂ same (is w f) (one_value (stands v q) at))

      pub both_whole : (x z : ℤ) → kind_at (records table) p ≡ 35 → At s part.at (integer z) → x ≡ integer_of (record_at (records table) p) → SFits w32 x → SFits w32 z
          → LiteralIs table p s part (eqb (of_z w32 x) (of_z w32 z))
      both_whole x z d at e fx fz = both (is_whole d) at (whole_same x z fx fz ∙ ap (λ (y : ℤ). same (integer y) (integer z)) e)

      pub both_quote : (m n : ℕ) → kind_at (records table) p ≡ 43 → At s part.at (quote n) → m ≡ quote_of (record_at (records table) p) → LiteralIs table p s part (eqb m n)
      both_quote m n d at e = both (is_quote d) at (quote_same m n ∙ ap (λ (i : ℕ). same (quote i) (quote n)) e)

      pub both_truth : (b : Bool) (x : ℕ) → kind_at (records table) p ≡ 34 → At s part.at (boolean b) → x ≡ field (record_at (records table) p) 0
          → LiteralIs table p s part (beq (eqb x 1) b)
      both_truth b x d at e = both (is_truth d) at (truth_same (eqb x 1) b ∙ ap (λ (y : ℕ). same (boolean (eqb y 1)) (boolean b)) e)
