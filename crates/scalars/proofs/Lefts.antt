-- What the left of and, or and => says, by the tests that the code makes.
use mathlib.Core.Path.{◌≡◌, refl, sym, subst}
use mathlib.Core.Bool.{Bool, true, false, not, beq}
use mathlib.Core.List.{List}
use mathlib.Core.Option.{Option, none as absent}
use Prim.Native.Nat.{ℕ, ◌≤◌}
use native.Mathlib.Omega.{arith}
use lib.Dec.{eqb}
use Rattle.prelude.proofs.Absurd.{never}
use Rattle.values.specs.Value.{Value, boolean}
use Rattle.values.specs.Place.{At}
use Rattle.values.specs.Contract.{Put}
use Rattle.values.proofs.Records.{one_value}
use Rattle.operators.specs.Answer.{as_boolean}
use Rattle.operators.specs.Booleans.{truth, Connective, and, or, implies, Left, settles, leaves, settled_by, of_left, left}
use Rattle.std.specs.Prelude.{Ok, Err}
use Rattle.calling.specs.declared.Tested.TheVariants.{Settled, Open}
use Rattle.prelude.specs.declared.Refusal.TheVariants.{WrongKind}
use Rattle.calling.specs.Scratch.{Kept}
use Rattle.calling.proofs.Framing.{kept_same, put_kept}
use Rattle.scalars.specs.Connectives.{Test, connective, Says, settled, undecided, off, TestsLeft}
use Rattle.calling.proofs.Numbered.{end, ◌▹◌, at_each}

-- ---- the truth value that leaves the right to decide, and the answer for the other

-- the left is b; `wait` leaves the right to decide, and for the other the answer is `sure`
record Decides (c : Connective) (wait sure : Bool) : Type 0 where
  pub waits : (b : Bool) → beq b wait ≡ true → settled_by c b ≡ leaves
  pub answers : (b : Bool) → beq b wait ≡ false → settled_by c b ≡ settles (truth sure)

and_decides : Decides and true false
and_decides = record { waits = λ b e. go b e; answers = λ b e. on b e }
  where
    go : (b : Bool) → beq b true ≡ true → settled_by and b ≡ leaves
    go true e = refl
    go false e = never e

    on : (b : Bool) → beq b true ≡ false → settled_by and b ≡ settles (truth false)
    on true e = never (sym e)
    on false e = refl

or_decides : Decides or false true
or_decides = record { waits = λ b e. go b e; answers = λ b e. on b e }
  where
    go : (b : Bool) → beq b false ≡ true → settled_by or b ≡ leaves
    go true e = never e
    go false e = refl

    on : (b : Bool) → beq b false ≡ false → settled_by or b ≡ settles (truth true)
    on true e = refl
    on false e = never (sym e)

implies_decides : Decides implies true true
implies_decides = record { waits = λ b e. go b e; answers = λ b e. on b e }
  where
    go : (b : Bool) → beq b true ≡ true → settled_by implies b ≡ leaves
    go true e = refl
    go false e = never e

    on : (b : Bool) → beq b true ≡ false → settled_by implies b ≡ settles (truth true)
    on true e = never (sym e)
    on false e = refl

decides : (operator : ℕ) → 1 ≤ operator → operator ≤ 3 → Decides (connective operator) (not (eqb operator 2)) (not (eqb operator 1))
decides operator h g =
    at_each {P = λ k. Decides (connective k) (not (eqb k 2)) (not (eqb k 1))} (and_decides ▹ or_decides ▹ implies_decides ▹ end) operator h (omega arith)

-- ---- the three answers of the code

pub no_left : {c : Connective} {s : List ℕ} {base : ℕ} → ((v : Value) → At s base v → as_boolean v ≡ absent) → TestsLeft c s s base (Err WrongKind)
no_left {c} {s} {base} f =
    record {
      kept = kept_same s base;
      right = λ v a. subst (λ (o : Option Bool). Says s base (Err WrongKind) (of_left c o)) (sym (f v a)) (off refl refl);
    }

by_left : {c : Connective} {s t : List ℕ} {base : ℕ} {r : Test} {b : Bool} → Kept s t base → At s base (boolean b) → Says t base r (settled_by c b) → TestsLeft c s t base r
by_left {c} {s} {t} {base} {r} k h d = record { kept = k; right = λ v a. subst (λ (x : Value). Says t base r (left c x)) (one_value h a) d }

module _ (operator : ℕ) (low : 1 ≤ operator) (high : operator ≤ 3) {s : List ℕ} {base : ℕ} {b : Bool} (h : At s base (boolean b)) where
  pub left_waits : beq b (not (eqb operator 2)) ≡ true → TestsLeft (connective operator) s s base (Ok Open)
  left_waits e =
      by_left (kept_same s base) h (subst (λ (x : Left). Says s base (Ok Open) x) (sym ((decides operator low high).waits b e)) (undecided refl))

  pub left_answers : {t : List ℕ} {n r : ℕ} → beq b (not (eqb operator 2)) ≡ false → Put s t base (boolean (not (eqb operator 1))) n r → TestsLeft (connective operator) s t base (Ok Settled)
  left_answers {t} e p =
      by_left (put_kept p) h (subst (λ (x : Left). Says t base (Ok Settled) x) (sym ((decides operator low high).answers b e)) (settled refl p.here))
