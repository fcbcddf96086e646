-- What follows the bindings of a binder, from its start on.
use mathlib.Core.Path.{◌≡◌, subst, ◌∙◌}
use mathlib.Core.List.{List}
use Prim.Native.Nat.{ℕ}
use native.Mathlib.Omega.{arith}
use Rattle.values.specs.Value.{Value}
use Rattle.choices.specs.State.{Choices, Invariant}
use Rattle.choices.specs.Tree.{Tree, bind}
use Rattle.patterns.specs.Binding.{Binding}
use Rattle.calling.specs.Scratch.{Kept}
use Rattle.calling.proofs.Framing.{kept_then}
use Rattle.meaning.specs.State.{State}
use Rattle.evaluator.specs.Contract.{has_value}
use Rattle.parts.specs.declared.words.Env.{Env}
use Rattle.evaluator.specs.Binding.{Placed, wholly, listed, Standing, Begins}
use Rattle.evaluator.specs.Contract.{Ask, Evaluated, ended, Comes, gave, off, Gives}
use Rattle.evaluator.proofs.Framing.{around_kept}
use Rattle.evaluator.proofs.Coming.{comes_on, comes_stop, comes_as, comes_sound, comes_held}
use Rattle.evaluator.proofs.Leading.{Leads}
use Rattle.evaluator.proofs.Standing.{standing_one}

-- What is left of a run came to an end, and so did the whole.
pub leads_comes : {A : Type 0} {P : A → Type 0} {whole left : Tree A} {c d : Choices} {e : Evaluated} → Leads whole c left d → Comes left P d e → Comes whole P c e
leads_comes l (gave o p w) = gave o p (record { right = l.same ∙ w.right; sound = w.sound })
leads_comes l (off o w) = off o (record { right = l.same ∙ w.right; sound = w.sound })

-- A record can be asked of again after a change above its base.
pub ask_again : {table : List ℕ} {r : ℕ} {s t : List ℕ} {base : ℕ} {env : Env} {c d : Choices} → Ask table r s base env c → Kept s t base → Invariant d → Ask table r t base env d
ask_again a k l =
    record { legal = a.legal; within = a.within; room = omega (arith, a.room, k.long); low = omega (arith, a.low, k.long); state = a.state; around = around_kept k a.around; sound = l }

module _ {table : List ℕ} {r : ℕ} (k : ℕ) {s : List ℕ} {base : ℕ} {env : Env} {c : Choices} (a : Ask table r s base env c) {t : List ℕ} {x : Placed} {d : Choices} (g : Begins table r k s t base env c x d) where
  pub opened_off : {m : State → Tree Value} {P : Value → Type 0} (after : State → List Binding → Tree Value) → ((ρ : State) → m ρ ≡ bind (listed table r k ρ) (after ρ)) → (x.outcome ≡ has_value → ⊥) → Gives m P s t base env c (ended x.outcome d)
  opened_off after q h = record { kept = g.kept; right = λ ρ u. comes_as (q ρ) (comes_stop (after ρ) (g.right ρ u) h) }

  module _ (h : x.outcome ≡ has_value) where
    pub opened_asked : Ask table r t base env d
    opened_asked = ask_again a g.kept (comes_sound (g.right a.state a.around))

    pub opened_standing : (bs : List Binding) × Standing table r (wholly k) t base x.cursor bs
    opened_standing = comes_held (g.right a.state a.around) h

    -- Whatever follows these bindings.
    pub opened_on : {m : State → Tree Value} {P : Value → Type 0} (after : State → List Binding → Tree Value) → ((ρ : State) → m ρ ≡ bind (listed table r k ρ) (after ρ)) → {bs : List Binding} → Standing table r (wholly k) t base x.cursor bs
        → {u : List ℕ} {e : Evaluated} → Gives (λ ρ. after ρ bs) P t u base env d e → Gives m P s u base env c e
    opened_on {P = P} after q {bs} w {e = e} n =
        record {
          kept = kept_then g.kept n.kept;
          right = λ ρ u. comes_as (q ρ) (comes_on (after ρ) (g.right ρ u) h (λ bs' w'. subst (λ (l : List Binding). Comes (after ρ l) P d e) (standing_one w w') (n.right ρ (around_kept g.kept u))));
        }
