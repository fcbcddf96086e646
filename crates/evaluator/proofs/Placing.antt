-- How the bindings were opened, and how a condition was judged, by cases.
use mathlib.Core.Path.{◌≡◌, refl, sym, ap, subst, ◌∙◌}
use mathlib.Core.Bool.{Bool, true, false}
use mathlib.Core.List.{List}
use Prim.Native.Nat.{ℕ, ◌+◌}
use Rattle.std.specs.Prelude.{Some, None, Ok, Err}
use Rattle.std.specs.declared.option.Option.{Option as Maybe}
use Rattle.std.specs.declared.result.Result.{Result}
use Rattle.prelude.specs.declared.Refusal.{Refusal}
use Rattle.prelude.specs.declared.Refusal.TheVariants.{WrongKind}
use Rattle.choices.specs.State.{Choices}
use Rattle.bindings.specs.declared.Cursor.{Cursor}
use Rattle.bindings.specs.Window.{OpenedAs}
use Rattle.parts.specs.declared.words.Env.{Env}
use Rattle.evaluator.specs.declared.Refused.{Refused}
use Rattle.std.specs.Option.{ok_or}
use Rattle.prelude.proofs.Absurd.{impossible}
use Rattle.evaluator.specs.Contract.{Ended, has_value, refusal_at, at_record}
use Rattle.evaluator.specs.Binding.{Placed, wholly, Suits, Begins, Stands, Insides, Tests, placed, begun, held, nowhere}
use Rattle.evaluator.specs.Contract.{Ask, Evaluated, Evaluates, operand_at}
use Rattle.evaluator.specs.Leaves.{Tells}
use Rattle.evaluator.proofs.Beginning.{begin_bound, begin_refused}
use Rattle.evaluator.proofs.Entering.{test_other, test_true, test_false}

module _ {table : List ℕ} {r : ℕ} {s : List ℕ} {base : ℕ} {env : Env} {c : Choices} (a : Ask table r s base env c) (k : ℕ) {q : ℕ} (is_q : q ≡ operand_at table r 1)
    {t : List ℕ} {e : Evaluated} (g : Evaluates table q s t base env c e) (h : e.outcome ≡ has_value) {b : Bool} (w : Suits k t base b) (z : b ≡ true)
    {p : ℕ} (is_p : p ≡ operand_at table r 0) {u : List ℕ} {n : Result Cursor Refusal} (o : OpenedAs table p t u base (wholly k) (base + 512) n) where
  pub begin_opened : {x : Result Cursor Refused} → x ≡ at_record n r → Begins table r k s u base env c (begun x) e.choices
  begin_opened {x} l = go n refl
    where
      go : (v : Result Cursor Refusal) → n ≡ v → Begins table r k s u base env c (begun x) e.choices
      go (Ok cursor) d =
          subst (λ (m : Result Cursor Refused). Begins table r k s u base env c (begun m) e.choices) (sym (l ∙ ap (λ (m : Result Cursor Refusal). at_record m r) d))
          (begin_bound a k is_q g h w z is_p o cursor d {x = placed has_value cursor} refl refl)
      go (Err j) d =
          subst (λ (m : Result Cursor Refused). Begins table r k s u base env c (begun m) e.choices) (sym (l ∙ ap (λ (m : Result Cursor Refusal). at_record m r) d))
          (begin_refused a k is_q g h w z is_p o j d {x = placed (Err (refusal_at j r)) nowhere} refl)

-- What a condition of the record r comes to: a boolean, or 20.
abbrev pub judged : Maybe Bool → ℕ → Result Bool Refused
judged (Some b) r = Ok b
judged None r = Err (refusal_at WrongKind r)

pub judged_as : (w : Maybe Bool) (r : ℕ) {x : Refused} → x ≡ refusal_at WrongKind r → ok_or w x ≡ judged w r
judged_as (Some b) r e = refl
judged_as None r e = ap Err e

pub judged_some : (w : Maybe Bool) (r : ℕ) {b : Bool} → judged w r ≡ Ok b → w ≡ Some b
judged_some (Some d) r {b} e = let f : d ≡ b = cc in ap Some f
judged_some None r e = impossible cc

pub judged_none : (w : Maybe Bool) (r : ℕ) {x : Refused} → judged w r ≡ Err x → (w ≡ None) × (◌≡◌ {A = Ended} (Err x) (Err (refusal_at WrongKind r)))
judged_none (Some d) r e = impossible cc
judged_none None r {x} e = let f : refusal_at WrongKind r ≡ x = cc in (refl, ap Err (sym f))

module _ {table : List ℕ} {r : ℕ} {s : List ℕ} {base : ℕ} {env : Env} {c : Choices} {cursor : Cursor} {j : ℕ} (a : Stands table r false s base env c cursor j) {q : ℕ} (is_q : q ≡ operand_at table r 2)
    {t : List ℕ} {x : Placed} {d : Choices} (o : Insides table r q false s t base 1536 env c cursor j x d) (v-is : x.outcome ≡ has_value) (w : Maybe Bool) (told : Tells t (base + 1536) w) where
  pub test_judged : {y : Result Bool Refused} → y ≡ judged w r → Tests table r s t base env c cursor j (held y x.cursor) d
  test_judged {y} z = subst (λ (m : Result Bool Refused). Tests table r s t base env c cursor j (held m x.cursor) d) (sym z) (go w refl)
    where
      go : (m : Maybe Bool) → w ≡ m → Tests table r s t base env c cursor j (held (judged w r) x.cursor) d
      go None e = rw e (test_other a is_q o v-is w told e {h = held (Err (refusal_at WrongKind r)) x.cursor} refl refl)
      go (Some true) e = rw e (test_true a is_q o v-is w told e {h = held (Ok true) x.cursor} refl refl refl)
      go (Some false) e = rw e (test_false a is_q o v-is w told e {h = held (Ok false) x.cursor} refl refl refl)
