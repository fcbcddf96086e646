-- In an accepted table every name that is read is bound, and no pattern is evaluated: no run refuses at a literal, a name or a pattern. So what the
-- definitions say there is of no account.
use Rattle.std.specs.Prelude.{◌≡◌, Bool, false, ◌&&◌, ◌||◌, List, [], ◌∷◌, map, length, get_or}
use Rattle.std.proofs.Math.Path.{refl, ap, subst}
use Rattle.std.proofs.Common.{sym, ◌∙◌, ⊎_elim, arith}
use Rattle.std.proofs.Math.Bool.{true}
use Rattle.std.proofs.Math.Option.{Option, some}
use Prim.Native.Nat.{ℕ, zero, suc, ◌≤◌, ◌<◌}
use Rattle.std.proofs.Math.Dec.{eqb, leb}
use borrow.Author.Tests.{leb-true, eqb-true}
use mathlib.Mathlib.Data.Bool.Basic.{or_inr, and_elim_left}
use Rattle.prelude.proofs.Absurd.{never, impossible}
use Rattle.prelude.proofs.Truth.{by_lower}
use Rattle.choices.specs.Tree.{Tree, give, Gives}
use Rattle.choices.specs.Outcome.{refusal}
use Rattle.choices.proofs.Trees.{gives_bind_out}
use Rattle.values.specs.Value.{Value, quote}
use Rattle.patterns.specs.Binding.{is as valued, Binding, names, cell_of}
use Rattle.patterns.proofs.Laws.Matched.{match_sized}
use Rattle.patterns.proofs.Laws.Named.{Told, told}
use Rattle.patterns.specs.Pattern.{holds_named as holds_at}
use Rattle.tables.specs.declared.Role.{Role}
use Rattle.tables.specs.declared.Role.TheVariants.{Plain, Condition, Body, Pattern as Part, Name}
use Rattle.std.specs.Prelude.{Ok}
use Rattle.tables.specs.Record.{Record, shape, head_of, is_expression, is_pattern, is_known, name_of, quote_of, named as operands_of, operand, role_at}
use Rattle.tables.specs.Table.{record_at, kind_at}
use Rattle.tables.specs.Sheet.{some as some_of, is_covered, is_bound, holds_name, pattern_of}
use Rattle.tables.specs.Check.{check}
use Rattle.tables.proofs.Laws.Kinds.{expression_least, expression_most}
use Rattle.tables.proofs.Laws.Operands.{is_first, binder_roles}
use Rattle.tables.specs.Accepted.{records, Fine}
use Rattle.tables.proofs.Laws.Accepted.{accepted_fine, operand_lower, operand_sort, bound_operand, bound_last, name_bound, last_sort, fit_known, fit_expression}
use Rattle.meaning.specs.State.{State, unbound, over, under, held_value, value_in}
use Rattle.meaning.specs.Meaning.{or_else, means, meaning_to, meaning}
use Rattle.patterns.specs.Read.{pattern_at}
use Rattle.meaning.specs.Read.{nodes, node_of, none, sheet}
use Rattle.meaning.specs.Service.{last, tree}
use Rattle.meaning.proofs.Laws.Proper.{inside}
use Rattle.meaning.proofs.Laws.PatternLaws.{names_are}
use Rattle.meaning.proofs.Laws.Closed.{Closed, Comes, closed_node}

-- ---- states under bindings

pub under_length : (ρ b : State) → length (under ρ b) ≡ length ρ
unfolding under
under_length [] b = refl
under_length (c ∷ ρ) [] = refl
under_length (c ∷ ρ) (d ∷ b) = ap suc (under_length ρ b)

under_cell : (ρ b : State) (x : ℕ) → x < length ρ → x < length b → cell_of (under ρ b) x ≡ over (cell_of ρ x) (cell_of b x)
unfolding under
under_cell [] b x h k = absurd (omega arith)
under_cell (c ∷ ρ) [] x h k = absurd (omega arith)
under_cell (c ∷ ρ) (d ∷ b) zero h k = refl
under_cell (c ∷ ρ) (d ∷ b) (suc x) h k = under_cell ρ b x (omega arith) (omega arith)

-- ---- roles

some_at : (roles : List Role) (i : ℕ) → is_covered (get_or roles i Plain) ≡ true → some_of (map is_covered roles) ≡ true
some_at [] i e = e
some_at (x ∷ roles) zero e = ap (λ b. b || some_of (map is_covered roles)) e
some_at (x ∷ roles) (suc i) e = or_inr (is_covered x) _ (some_at roles i e)

-- A kind with a covered operand has a pattern as its first.
first_role : (k i : ℕ) → is_covered (get_or (shape k).roles i Plain) ≡ true → is_first (get_or (shape k).roles 0 Plain) ≡ true
first_role k i e = and_elim_left _ (leb 3 (shape k).least) (binder_roles k (some_at (shape k).roles i e))

module _ (table : List ℕ) (n : ℕ) (ok : check table ≡ Ok n) where
  abbrev rs : List Record
  rs = records table

  fine : Fine rs
  fine = (accepted_fine table n ok).0

  -- ---- where a run may refuse

  -- The record is of kind 4 to 21.
  abbrev pub Operator : ℕ → Type 0
  Operator p = (4 ≤ kind_at rs p) × (kind_at rs p ≤ 21)

  -- Every refusal of the tree is at such a record.
  abbrev Refusing : (A : Type 0) → Tree A → Type 0
  Refusing A t = (m p : ℕ) → Gives t (refusal m p) → Operator p

  give_refusing : {A : Type 0} (a : A) → Refusing A (give a)
  give_refusing a m p e = impossible cc

  closed : (r : ℕ) → Operator r → Closed Refusing (Unit {0}) r
  closed r o =
      record {
        of_give = λ A a. give_refusing a;
        of_stop = λ A m h k p e. let d : r ≡ p = cc in subst Operator d o;
        of_choice = λ may bs h k m p g. give_refusing _ m p g.2;
        of_bind = λ A B t f h k m p g.
            ⊎_elim (λ w. let e = w.2 in let d : w.1 ≡ p = cc in subst Operator d (h w.0 w.1 w.3)) (λ w. k w.0 w.1 m p w.2) (gives_bind_out t f (refusal m p) g);
      }

  -- ---- states that have the names that are bound around a record

  record Covers (ρ : State) (r : ℕ) : Type 0 where
    sized : length ρ ≡ names
    has : (x : ℕ) → x < names → is_bound rs r x ≡ true → (v : Value) × (cell_of ρ x ≡ valued v)

  module _ (r i : ℕ) (h : r < length rs) (k : i < length (operands_of (record_at rs r))) where
    -- An operand that is not covered has the names around its record.
    covers_plain : (ρ : State) → Covers ρ r → role_at (record_at rs r) i ≡ Plain → Covers ρ (operand (record_at rs r) i)
    covers_plain ρ c e =
        record {
          sized = c.sized;
          has = λ x l b.
              c.has x l
              (sym (ap (λ y. (is_covered y && holds_name rs (pattern_of rs r) x) || is_bound rs r x) e) ∙ sym (bound_operand rs fine.clear6 r i x h k) ∙ b);
        }

    first_pattern : is_covered (role_at (record_at rs r) i) ≡ true → is_pattern (kind_at rs (pattern_of rs r)) ≡ true
    unfolding shape
    first_pattern e = go (role_at (record_at rs r) 0) refl (first_role (kind_at rs r) i e)
      where
        go : (x : Role) → role_at (record_at rs r) 0 ≡ x → is_first x ≡ true → is_pattern (kind_at rs (pattern_of rs r)) ≡ true
        go Plain d f = never f
        go Condition d f = never f
        go Body d f = never f
        go Part d f = rw d at (operand_sort rs fine.clear6 r 0 h (omega arith))
        go Name d f =
            let s : eqb (kind_at rs (pattern_of rs r)) 32 ≡ true = rw d at (operand_sort rs fine.clear6 r 0 h (omega arith)) in
            ap is_pattern (eqb-true (kind_at rs (pattern_of rs r)) 32 s)

    -- One that is covered has the pattern's names too.
    covers_under : (ρ : State) → Covers ρ r → is_covered (role_at (record_at rs r) i) ≡ true → (β : Binding) → Comes (pattern_at rs (pattern_of rs r)) β → Covers (under ρ β) (operand (record_at rs r) i)
    covers_under ρ c e β (v, m) =
        record {
          sized = under_length ρ β ∙ c.sized;
          has = λ x l b.
              let p = pattern_at rs (pattern_of rs r) in
              let low = operand_lower rs fine.clear6 r 0 h (omega arith) in
              let s = c.sized in
              let z = match_sized p v β m in
              let cell : cell_of (under ρ β) x ≡ over (cell_of ρ x) (cell_of β x) = under_cell ρ β x (omega arith) (omega arith) in
              let names : holds_name rs (pattern_of rs r) x ≡ holds_at p x = names_are table n ok (pattern_of rs r) x (omega arith) (first_pattern e) in
              let around : holds_at p x || is_bound rs r x ≡ true =
              ap (λ y. y || is_bound rs r x) (sym names) ∙ ap (λ y. (y && holds_name rs (pattern_of rs r) x) || is_bound rs r x) (sym e) ∙ sym (bound_operand rs fine.clear6 r i x h k) ∙ b in
              go x l (holds_at p x) (told p v β m x l) around cell;
        }
      where
        go : (x : ℕ) → x < names → (t : Bool) → Told t (cell_of β x) → t || is_bound rs r x ≡ true → cell_of (under ρ β) x ≡ over (cell_of ρ x) (cell_of β x)
            → (w : Value) × (cell_of (under ρ β) x ≡ valued w)
        go x l true (w, q) b cell = (w, cell ∙ ap (over (cell_of ρ x)) q)
        go x l false q b cell = let (w, y) = c.has x l b in (w, cell ∙ ap (over (cell_of ρ x)) q ∙ y)

    -- Both are expressions.
    plain_expression : role_at (record_at rs r) i ≡ Plain → is_expression (kind_at rs (operand (record_at rs r) i)) ≡ true
    plain_expression e = rw e at (operand_sort rs fine.clear6 r i h k)

    covered_expression : is_covered (role_at (record_at rs r) i) ≡ true → is_expression (kind_at rs (operand (record_at rs r) i)) ≡ true
    covered_expression e = go (role_at (record_at rs r) i) refl e
      where
        go : (x : Role) → role_at (record_at rs r) i ≡ x → is_covered x ≡ true → is_expression (kind_at rs (operand (record_at rs r) i)) ≡ true
        go Plain d f = never f
        go Condition d f = rw d at (operand_sort rs fine.clear6 r i h k)
        go Body d f = rw d at (operand_sort rs fine.clear6 r i h k)
        go Part d f = never f
        go Name d f = never f

  -- ---- literals and names

  -- A name that is read has a value.
  name_valued : (r : ℕ) (ρ : State) → r < length rs → kind_at rs r ≡ 3 → Covers ρ r → (v : Value) × (value_in ρ (name_of (record_at rs r)) ≡ some v)
  unfolding shape
  name_valued r ρ h e c =
      let known : is_known (head_of (record_at rs r)) (record_at rs r) ≡ true = fit_known (record_at rs r) (fine.fit r h) in
      let small : leb (name_of (record_at rs r)) 15 ≡ true = subst (λ m. is_known (shape m).head (record_at rs r) ≡ true) e known in
      let (v, d) = c.has (name_of (record_at rs r)) (omega (arith, leb-true (name_of (record_at rs r)) 15 small)) (name_bound rs r (fine.clear7 r h) e) in
      (v, ap held_value d)

  else_given : (r : ℕ) (x : Option Value) (v : Value) → x ≡ some v → Refusing Value (or_else 20 r x)
  else_given r x v e = subst (λ y. Refusing Value (or_else 20 r y)) (sym e) (give_refusing v)

  leaf : (rec : ℕ → State → Tree Value) (r : ℕ) (ρ : State) (k : ℕ) → kind_at rs r ≡ k → 1 ≤ k → k < 4 → r < length rs → Covers ρ r → Refusing Value (means (sheet table).pattern rec r (get_or nodes k none (record_at rs r)) ρ)
  unfolding means
  leaf rec r ρ zero e l u h c = absurd (omega arith)
  leaf rec r ρ (suc zero) e l u h c = give_refusing _
  leaf rec r ρ (suc (suc zero)) e l u h c = give_refusing _
  leaf rec r ρ (suc (suc (suc zero))) e l u h c = let (v, d) = name_valued r ρ h e c in else_given r (value_in ρ (name_of (record_at rs r))) v d
  leaf rec r ρ (suc (suc (suc (suc k)))) e l u h c = absurd (omega arith)

  quote_leaf : (rec : ℕ → State → Tree Value) (r : ℕ) (ρ : State) (k : ℕ) → k ≡ 22 → Refusing Value (means (sheet table).pattern rec r (get_or nodes k none (record_at rs r)) ρ)
  unfolding means
  quote_leaf rec r ρ k e = subst (λ j. Refusing Value (means (sheet table).pattern rec r (get_or nodes j none (record_at rs r)) ρ)) (sym e) (give_refusing (quote (quote_of (record_at rs r))))

  -- ---- every record that is evaluated

  reads_to : (m r : ℕ) (ρ : State) → r < m → r < length rs → is_expression (kind_at rs r) ≡ true → Covers ρ r → Refusing Value (meaning_to (sheet table) m r ρ)
  unfolding meaning_to node_of
  reads_to zero r ρ l h e c = absurd (omega arith)
  reads_to (suc m) r ρ l h e c =
      let low = expression_least (kind_at rs r) e in
      let high = expression_most (kind_at rs r) e in
      by_lower (kind_at rs r) 4
      (λ u. leaf (λ a σ. meaning_to (sheet table) m a σ) r ρ (kind_at rs r) refl low u h c)
      (λ u. by_lower (kind_at rs r) 22
      (λ w.
      let all =
      inside rs fine (λ a. Refusing Value (meaning_to (sheet table) m a ρ))
      (λ p a. (β : Binding) → Comes (pattern_at rs p) β → Refusing Value (meaning_to (sheet table) m a (under ρ β))) r h
      (λ i k d. reads_to m (operand (record_at rs r) i) ρ (omega (arith, operand_lower rs fine.clear6 r i h k)) (omega (arith, operand_lower rs fine.clear6 r i h k)) (plain_expression r i h k d) (covers_plain r i h k ρ c d))
      (λ i k d β y.
      reads_to m (operand (record_at rs r) i) (under ρ β) (omega (arith, operand_lower rs fine.clear6 r i h k)) (omega (arith, operand_lower rs fine.clear6 r i h k)) (covered_expression r i h k d)
      (covers_under r i h k ρ c d β y)) in
      closed_node Refusing (Unit {0}) r (closed r (u, omega arith)) (λ a σ. meaning_to (sheet table) m a σ) ρ (sheet table).pattern ((sheet table).node r) (λ may. tt) all.plain_ones all.covered_ones)
      (λ w. quote_leaf (λ a σ. meaning_to (sheet table) m a σ) r ρ (kind_at rs r) (omega arith)))

  -- THEOREM: every refusal of an accepted table's tree is at a record of kind 4 to 21: none at a literal, a name or a pattern.
  pub refuses_at : (m p : ℕ) → Gives (tree table) (refusal m p) → Operator p
  unfolding meaning
  refuses_at m p g =
      reads_to (suc (last (sheet table))) (last (sheet table)) unbound (omega arith) (omega (arith, fine.some_record))
      (fit_expression (record_at rs (last (sheet table))) (fine.fit (last (sheet table)) (omega (arith, fine.some_record))) (last_sort rs fine.clear6 (last (sheet table)) (omega (arith, fine.some_record))))
      (record {
        sized = refl;
        has = λ x l b. never (sym (bound_last rs fine.clear6 (last (sheet table)) x (omega (arith, fine.some_record))) ∙ b);
      })
      m p g
