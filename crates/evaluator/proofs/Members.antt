-- What each member without a binder asks and promises at each place, over what its calls promised.
use mathlib.Core.Path.{◌≡◌, refl, sym, ap, subst, ◌∙◌}
use mathlib.Core.List.{List, [], ◌∷◌}
use types.Run.{OneOf}
use mathlib.Core.Logic.{◌⊎◌, inl, inr}
use Prim.Native.Nat.{ℕ, zero, suc, ◌+◌, ◌-◌, ◌≤◌, ◌<◌}
use native.Mathlib.Omega.{arith}
use borrow.Author.Tests.{eq-eqb, ne_eqb}
use mathlib.Core.Bool.{Bool, cond, false, true}
use Rattle.values.specs.Value.{Value, WellFormed}
use Rattle.operators.specs.Answer.{FineAnswer}
use Rattle.operator_laws.proofs.Results.{binary_fine, range_fine, apply_fine}
use Rattle.values.specs.Place.{At}
use Rattle.choices.specs.State.{Choices}
use Rattle.choices.specs.Tree.{Tree, stop, bind}
use Rattle.operators.specs.Booleans.{left, right}
use Rattle.operators.specs.Operators.{unary, binary}
use Rattle.tables.specs.Record.{shape, operand}
use Rattle.tables.specs.Table.{record_at, kind_at}
use Rattle.tables.specs.Accepted.{records}
use Rattle.tables.specs.Reading.{HasOperand, HasField}
use Rattle.tables.proofs.Laws.Accepted.{named_count}
use Rattle.operations.specs.Numbers.{Unary}
use Rattle.calling.specs.declared.Tested.TheVariants.{Settled, Open}
use Rattle.calling.specs.Applied.{Applied, One, Two, OnOne, OnTwo}
use Rattle.calling.specs.Scratch.{Kept}
use Rattle.scalars.specs.Connectives.{connective, Test, TestsLeft}
use Rattle.meaning.specs.State.{State}
use Rattle.meaning.specs.Meaning.{at, is_true, right_of}
use Rattle.evaluator.specs.Contract.{has_value, refusal_at}
use Rattle.parts.specs.declared.words.Env.{Env}
use Rattle.std.specs.declared.option.Option.{Option as Maybe}
use Rattle.std.specs.Prelude.{Some, None, Ok}
use Rattle.evaluator.specs.Contract.{Evaluated, Ask, Gives, meant, level, operator_at}
use Rattle.evaluator.specs.Leaves.{Tells, of_two, OfTwo, Strict}
use Rattle.evaluator.specs.Building.{Enumerated}
use Rattle.evaluator.specs.Binding.{Remaining}
use Rattle.std.specs.Prelude.{Err}
use Rattle.std.specs.declared.result.Result.{Result}
use Rattle.prelude.specs.declared.Refusal.{Refusal}
use Rattle.prelude.specs.declared.Refusal.TheVariants.{WrongKind}
use Rattle.evaluator.specs.Contract.{Ended, ended, at_record}
use Rattle.evaluator.proofs.Coming.{as_ended}
use Rattle.evaluator.proofs.Tables.{fine_of, has_operand, has_field, lower_down, unary_number, binary_number}
use Rattle.evaluator.proofs.Equations.{mean_unary, mean_binary, mean_two, mean_logic, mean_if, mean_pattern, mean_nothing}
use Rattle.evaluator.proofs.Giving.{gives_refused, gives_stop, gives_at, gives_one, gives_both, gives_second_off, ask_first, ask_next, single_held, two-held, logic_settled, logic_refused, logic_right_off, logic_right, if_other, if_true, if_false}

pub strict_kind : (table : List ℕ) (r : ℕ) {k op : ℕ} → Strict table r k op → (k ≡ 5) ⊎ ((k ≡ 11) ⊎ (k ≡ 21))
strict_kind table r (inl x) = inl x.0
strict_kind table r (inr x) = inr x

-- of kind 5, 11 or 21, and no connective
pub strictly : (table : List ℕ) (r : ℕ) {k op : ℕ} → OneOf (5 ∷ 11 ∷ 21 ∷ []) k → op ≡ operator_at table r → (k ≡ 5 → 3 < op) → Strict table r k op
strictly table r (inl x) o n = inl (x, o, n x)
strictly table r (inr x) o n = inr x

module _ {table : List ℕ} {r : ℕ} {s : List ℕ} {base : ℕ} {env : Env} {c : Choices} (a : Ask table r s base env c) where
  -- operand i, of a record that has one
  pub first_asked : {i b : ℕ} → HasOperand table r i → b ≡ operand (record_at (records table) r) i → (b < r) × Ask table b s base env c
  first_asked {i} h d = (lower_down a i h.has d, ask_first a i h.has d)

  pub next_asked : {ma : State → Tree Value} {i b : ℕ} {t u : List ℕ} {e : Evaluated} (base' : ℕ) → HasOperand table r i → b ≡ operand (record_at (records table) r) i → Gives ma (At t base) s t base env c e → Kept t u base → base ≤ base' → base' ≤ base + level → (b < r) × Ask table b u base' env e.choices
  next_asked {i = i} base' h d k l m n = (lower_down a i h.has d, ask_next a k i h.has d l m n)

  -- 4
  module _ (d : kind_at (records table) r ≡ 4) where
    pub unary_has : HasOperand table r 0
    unfolding shape
    unary_has = has_operand a d 0 (omega arith)

    pub unary_field : HasField table r 0
    unfolding shape
    unary_field = has_field a d 0 (omega arith)

    module _ {b : ℕ} (q : b ≡ operand (record_at (records table) r) 0) {t : List ℕ} {e : Evaluated} (k : Gives (meant table b) (At t base) s t base env c e) where
      pub unary_off : (e.outcome ≡ has_value → ⊥) → Gives (meant table r) (At t base) s t base env c e
      unary_off h = gives_stop (gives_at table q k) (λ ρ v. at r (unary (operator_at table r) v)) h (λ ρ. mean_unary a.legal r ρ d)

      module _ (h : e.outcome ≡ has_value) {n : ℕ} (o : n ≡ operator_at table r) where
        pub unary_held : One t base × Unary n
        unary_held = (single_held a k h, subst Unary (sym o) (unary_number a d))

        pub unary_done : {u : List ℕ} {x : Applied} {z : Ended} → OnOne (unary n) t u base x → z ≡ at_record x r → Gives (meant table r) (At u base) s u base env c (ended z e.choices)
        unary_done {u} {x} f g =
            gives_one a (gives_at table q k) (unary (operator_at table r)) h (subst (λ (m : ℕ). OnOne (unary m) t u base x) o f) g (λ ρ. mean_unary a.legal r ρ d)

  first_field : HasOperand table r 0 → HasField table r 0
  first_field h = record { here = h.here; has = omega (arith, h.has, named_count (record_at (records table) r) ((fine_of a.legal).fit r a.within)) }

  pub two_field : {k : ℕ} → kind_at (records table) r ≡ k → OneOf (5 ∷ 11 ∷ 21 ∷ []) k → HasField table r 0
  unfolding shape
  two_field d (inl x) = has_field a (d ∙ x) 0 (omega arith)
  two_field d (inr (inl x)) = first_field (has_operand a (d ∙ x) 0 (omega arith))
  two_field d (inr (inr x)) = first_field (has_operand a (d ∙ x) 0 (omega arith))

  -- 5, 11, 21
  module _ {k op : ℕ} (d : kind_at (records table) r ≡ k) (w : Strict table r k op) where
    two_has : (i : ℕ) → i < 2 → HasOperand table r i
    unfolding shape
    two_has i l = go w
      where
        go : Strict table r k op → HasOperand table r i
        go (inl x) = has_operand a (d ∙ x.0) i l
        go (inr (inl x)) = has_operand a (d ∙ x) i l
        go (inr (inr x)) = has_operand a (d ∙ x) i l

    pub binary_left : HasOperand table r 0
    binary_left = two_has 0 (omega arith)

    pub binary_right : HasOperand table r 1
    binary_right = two_has 1 (omega arith)

    two_means : (ρ : State) → meant table r ρ ≡ bind (meant table (operand (record_at (records table) r) 0) ρ) (λ v. bind (meant table (operand (record_at (records table) r) 1) ρ) (λ y. at r (of_two k op v y)))
    two_means ρ = go w
      where
        go : Strict table r k op → meant table r ρ ≡ bind (meant table (operand (record_at (records table) r) 0) ρ) (λ v. bind (meant table (operand (record_at (records table) r) 1) ρ) (λ y. at r (of_two k op v y)))
        go (inl (x, y, l)) = rw (eq-eqb k 5 x) (mean_binary a.legal r ρ (d ∙ x) (omega arith) ∙ ap (λ (m : ℕ). bind (meant table (operand (record_at (records table) r) 0) ρ) (λ v. bind (meant table (operand (record_at (records table) r) 1) ρ) (λ y. at r (binary m v y)))) (sym y))
        go (inr (inl x)) = rw (ne_eqb k 5 (λ z. omega arith), eq-eqb k 11 x) ((mean_two a.legal r ρ).0 (d ∙ x))
        go (inr (inr x)) = rw (ne_eqb k 5 (λ z. omega arith), ne_eqb k 11 (λ z. omega arith)) ((mean_two a.legal r ρ).1 (d ∙ x))

    two_fine : (v y : Value) → WellFormed v → WellFormed y → FineAnswer (of_two k op v y)
    two_fine v y l m = go w
      where
        go : Strict table r k op → FineAnswer (of_two k op v y)
        go (inl (x, _, _)) = rw (eq-eqb k 5 x) (binary_fine op v y l m)
        go (inr (inl x)) = rw (ne_eqb k 5 (λ z. omega arith), eq-eqb k 11 x) (range_fine v y l m)
        go (inr (inr x)) = rw (ne_eqb k 5 (λ z. omega arith), ne_eqb k 11 (λ z. omega arith)) (apply_fine v y l m)

    two_of : OfTwo k op
    two_of = go w
      where
        go : Strict table r k op → OfTwo k op
        go (inl (x, y, l)) = inl (x, record { low = l; high = omega (arith, (binary_number a (d ∙ x)).1) })
        go (inr x) = inr x

    module _ {b : ℕ} (q : b ≡ operand (record_at (records table) r) 0) {t : List ℕ} {e : Evaluated} (g : Gives (meant table b) (At t base) s t base env c e) where
      pub binary_off : (e.outcome ≡ has_value → ⊥) → Gives (meant table r) (At t base) s t base env c e
      binary_off h = gives_stop (gives_at table q g) (λ ρ v. bind (meant table (operand (record_at (records table) r) 1) ρ) (λ y. at r (of_two k op v y))) h two_means

      module _ (h : e.outcome ≡ has_value) {b' : ℕ} (q' : b' ≡ operand (record_at (records table) r) 1) {u : List ℕ} {f : Evaluated} (g' : Gives (meant table b') (At u (base + 512)) t u (base + 512) env e.choices f) where
        pub binary_off_right : (f.outcome ≡ has_value → ⊥) → Gives (meant table r) (At u base) s u base env c f
        binary_off_right h' = gives_second_off a (gives_at table q g) (gives_at table q' g') (λ ρ v y. at r (of_two k op v y)) h h' two_means

        pub binary_held : f.outcome ≡ has_value → Two u base × OfTwo k op
        binary_held h' = (two-held a g g' h h', two_of)

        pub binary_done : {x : List ℕ} {y : Result (Unit {0}) Refusal} {z : Ended} → f.outcome ≡ has_value → OnTwo (of_two k op) u x base y → z ≡ at_record y r → Gives (meant table r) (At x base) s x base env c (ended z f.choices)
        binary_done h' o z = gives_both a (gives_at table q g) (gives_at table q' g') (of_two k op) h h' o z two_means

  -- 5: and, or, =>
  module _ (d : kind_at (records table) r ≡ 5) where
    pub logic_left : HasOperand table r 0
    unfolding shape
    logic_left = has_operand a d 0 (omega arith)

    pub logic_next : HasOperand table r 1
    unfolding shape
    logic_next = has_operand a d 1 (omega arith)

    module _ {n : ℕ} (o : n ≡ operator_at table r) {b : ℕ} (q : b ≡ operand (record_at (records table) r) 0) {t : List ℕ} {e : Evaluated} (k : Gives (meant table b) (At t base) s t base env c e) where
      -- and, or, =>
      module _ (l : n ≤ 3) where
        equation : (ρ : State) → meant table r ρ ≡ bind (meant table b ρ) (λ v. right_of (meant table) r (operand (record_at (records table) r) 1) ρ (left (connective n) v))
        equation ρ =
            mean_logic a.legal r ρ d (binary_number a d).0 (omega arith)
            ∙ ap (λ (m : ℕ). bind (meant table (operand (record_at (records table) r) 0) ρ) (λ v. right_of (meant table) r (operand (record_at (records table) r) 1) ρ (left (connective m) v))) (sym o)
            ∙ ap (λ (x : ℕ). bind (meant table x ρ) (λ v. right_of (meant table) r (operand (record_at (records table) r) 1) ρ (left (connective n) v))) (sym q)

        pub logic_off : (e.outcome ≡ has_value → ⊥) → Gives (meant table r) (At t base) s t base env c e
        logic_off h = gives_stop k (λ ρ v. right_of (meant table) r (operand (record_at (records table) r) 1) ρ (left (connective n) v)) h equation

        pub logic_held : e.outcome ≡ has_value → One t base × (1 ≤ n) × (n ≤ 3)
        logic_held h = (single_held a k h, omega (arith, (binary_number a d).0), l)

        module _ (h : e.outcome ≡ has_value) {u : List ℕ} {x : Test} (g : TestsLeft (connective n) t u base x) where
          pub logic_done : x ≡ Ok Settled → Gives (meant table r) (At u base) s u base env c e
          logic_done z = logic_settled a k n h g (meant table) (operand (record_at (records table) r) 1) equation z

          pub logic_bad : {y : Refusal} → x ≡ Err y → {w : Ended} → w ≡ Err (refusal_at y r) → Gives (meant table r) (At u base) s u base env c (ended w e.choices)
          logic_bad {y = m} z y = as_ended y (logic_refused a k n h g (meant table) (operand (record_at (records table) r) 1) equation m z)

          module _ (z : x ≡ Ok Open) {b' : ℕ} (q' : b' ≡ operand (record_at (records table) r) 1) {w : List ℕ} {f : Evaluated} (k' : Gives (meant table b') (At w base) u w base env e.choices f) where
            pub logic_off_right : (f.outcome ≡ has_value → ⊥) → Gives (meant table r) (At w base) s w base env c f
            logic_off_right h' = logic_right_off a k n h g (meant table) (operand (record_at (records table) r) 1) equation z (gives_at table q' k') h'

            pub logic_right_held : f.outcome ≡ has_value → One w base
            logic_right_held h' = single_held (next_asked base logic_next q' k g.kept (omega arith) (omega arith)).1 k' h'

            pub logic_both : {x' : Applied} {z' : Ended} → f.outcome ≡ has_value → OnOne right w w base x' → z' ≡ at_record x' r → Gives (meant table r) (At w base) s w base env c (ended z' f.choices)
            logic_both h' o' = logic_right a k n h g (meant table) (operand (record_at (records table) r) 1) equation z (gives_at table q' k') h' o'

  -- 6
  module _ (d : kind_at (records table) r ≡ 6) where
    pub if_test : HasOperand table r 0
    unfolding shape
    if_test = has_operand a d 0 (omega arith)

    pub if_then : HasOperand table r 1
    unfolding shape
    if_then = has_operand a d 1 (omega arith)

    pub if_else : HasOperand table r 2
    unfolding shape
    if_else = has_operand a d 2 (omega arith)

    module _ {b : ℕ} (q : b ≡ operand (record_at (records table) r) 0) {t : List ℕ} {e : Evaluated} (k : Gives (meant table b) (At t base) s t base env c e) where
      abbrev thens : State → Tree Value
      thens ρ = meant table (operand (record_at (records table) r) 1) ρ

      abbrev elses : State → Tree Value
      elses ρ = meant table (operand (record_at (records table) r) 2) ρ

      pub if_off : (e.outcome ≡ has_value → ⊥) → Gives (meant table r) (At t base) s t base env c e
      if_off h = gives_stop (gives_at table q k) (λ ρ v. bind (is_true r v) (λ y. cond y (thens ρ) (elses ρ))) h (λ ρ. mean_if a.legal r ρ d)

      module _ (h : e.outcome ≡ has_value) {x : Maybe Bool} (o : Tells t base x) where
        pub if_bad : x ≡ None → {w : Ended} → w ≡ Err (refusal_at WrongKind r) → Gives (meant table r) (At t base) s t base env c (ended w e.choices)
        if_bad z y = as_ended y (if_other a (gives_at table q k) x thens elses h o (λ ρ. mean_if a.legal r ρ d) z)

        pub if_yes : {b' : ℕ} {u : List ℕ} {f : Evaluated} → x ≡ Some true → b' ≡ operand (record_at (records table) r) 1 → Gives (meant table b') (At u base) t u base env e.choices f → Gives (meant table r) (At u base) s u base env c f
        if_yes z q' k' = if_true a (gives_at table q k) x thens elses h o (λ ρ. mean_if a.legal r ρ d) z (gives_at table q' k')

        pub if_no : {b' : ℕ} {u : List ℕ} {f : Evaluated} → x ≡ Some false → b' ≡ operand (record_at (records table) r) 2 → Gives (meant table b') (At u base) t u base env e.choices f → Gives (meant table r) (At u base) s u base env c f
        if_no z q' k' = if_false a (gives_at table q k) x thens elses h o (λ ρ. mean_if a.legal r ρ d) z (gives_at table q' k')

  -- what is left are patterns
  pub eval_last : {k : ℕ} → k ≡ kind_at (records table) r → (k ≡ 0) ⊎ (23 ≤ k) → {y : Ended} → y ≡ Err (refusal_at WrongKind r) → Gives (meant table r) (At s base) s s base env c (ended y c)
  eval_last {k} d w e = as_ended e (gives_refused WrongKind r a (λ ρ. go ρ w))
    where
      go : (ρ : State) → (k ≡ 0) ⊎ (23 ≤ k) → meant table r ρ ≡ stop 20 r
      go ρ (inl h) = mean_nothing a.legal r ρ (sym d ∙ h)
      go ρ (inr h) = mean_pattern a.legal r ρ (omega arith)

-- ---- the kinds that the dispatch tells apart by their bounds

abbrev Unlike : ℕ → ℕ → Type 0
Unlike n k = OneOf (n ∷ []) k → ⊥

-- none of those that `binder` names
abbrev pub Unbound : ℕ → Type 0
Unbound k = (((Unit {0} × Unlike 12 k) × Unlike 13 k) × Unlike 16 k) × Unlike 17 k

next_up : (n k : ℕ) → n ≤ k → (k ≡ n → ⊥) → n + 1 ≤ k
next_up n k l h = omega arith

least_or : (n k : ℕ) → n ≤ k → (k ≡ n) ⊎ (n + 1 ≤ k)
least_or n k l = go (k - n) refl
  where
    go : (d : ℕ) → k - n ≡ d → (k ≡ n) ⊎ (n + 1 ≤ k)
    go zero e = inl (omega arith)
    go (suc d) e = inr (omega arith)

pub seven_or_eight : {k : ℕ} → 7 ≤ k → k < 9 → Enumerated k
seven_or_eight {k} l m = go (least_or 7 k l)
  where
    go : (k ≡ 7) ⊎ (8 ≤ k) → Enumerated k
    go (inl x) = inl x
    go (inr x) = inr (inl (omega arith))

pub unmatched : {k : ℕ} → Remaining k → (k ≡ 14 → ⊥) × (k ≡ 15 → ⊥) → Unbound k → (k < 16) ⊎ (21 ≤ k) → (k ≡ 0) ⊎ (23 ≤ k)
unmatched (inl x) q w o = inl x
unmatched {k} (inr x) q ((((u, a12), a13), a16), a17) (inl l) = absurd (omega (arith, next_up 15 k (next_up 14 k (next_up 13 k (next_up 12 k x.0 a12) a13) q.0) q.1))
unmatched {k} (inr x) q w (inr l) = inr (next_up 22 k (next_up 21 k l x.1) x.2)
