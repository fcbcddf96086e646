-- From what an operator's code did to what it promises.
use mathlib.Core.Path.{◌≡◌, refl, sym, ap, subst}
use mathlib.Core.List.{List}
use Prim.Native.Nat.{ℕ, ◌+◌}
use Rattle.values.specs.Value.{Value}
use Rattle.values.specs.Place.{At}
use Rattle.values.specs.Contract.{Put, Copied}
use Rattle.values.proofs.Records.{one_value}
use Rattle.operators.specs.Answer.{Answer, is, refused}
use Rattle.calling.specs.Applied.{Applied}
use Rattle.std.specs.Prelude.{Ok, Err, IsErrAnd}
use Rattle.prelude.specs.declared.Refusal.{Refusal}
use Rattle.prelude.specs.Refusals.{number_of}
use Rattle.calling.specs.Scratch.{second, Kept}
use Rattle.calling.specs.Applied.{Applies, done, off, OnOne, OnTwo, Gives}
use Rattle.calling.proofs.Framing.{kept_same, kept_then, put_kept, copied_kept}

-- ---- any answer, from the operands that stand there

pub one_by : {f : Value → Answer} {s t : List ℕ} {base : ℕ} {r : Applied} {v : Value} → Kept s t base → At s base v → Applies t base r (f v) → OnOne f s t base r
one_by {f} {s} {t} {base} {r} k a d = record { kept = k; right = λ v' a'. subst (λ (x : Value). Applies t base r (f x)) (one_value a a') d }

pub two_by : {f : Value → Value → Answer} {s t : List ℕ} {base : ℕ} {r : Applied} {v w : Value} → Kept s t base → At s base v → At s (base + second) w → Applies t base r (f v w) → OnTwo f s t base r
two_by {f} {s} {t} {base} {r} {v} {w} k a b d =
    record {
      kept = k;
      right = λ v' w' a' b'. subst (λ (y : Value). Applies t base r (f v' y)) (one_value b b') (subst (λ (x : Value). Applies t base r (f x w)) (one_value a a') d);
    }

-- the same function by another name
pub one_same : {f g : Value → Answer} {s t : List ℕ} {base : ℕ} {r : Applied} → ((v : Value) → g v ≡ f v) → OnOne f s t base r → OnOne g s t base r
one_same {f} {g} {s} {t} {base} {r} e o = record { kept = o.kept; right = λ v a. subst (λ (x : Answer). Applies t base r x) (sym (e v)) (o.right v a) }

pub two_same : {f g : Value → Value → Answer} {s t : List ℕ} {base : ℕ} {r : Applied} → ((v w : Value) → g v w ≡ f v w) → OnTwo f s t base r → OnTwo g s t base r
two_same {f} {g} {s} {t} {base} {r} e o =
    record { kept = o.kept; right = λ v w a b. subst (λ (x : Answer). Applies t base r x) (sym (e v w)) (o.right v w a b) }

-- from an answer that was given at base
pub one_gives : {f : Value → Answer} {s t : List ℕ} {base : ℕ} {r : Applied} {v : Value} → At s base v → Gives (f v) s t base r → OnOne f s t base r
one_gives a g = one_by g.kept a g.right

pub two_gives : {f : Value → Value → Answer} {s t : List ℕ} {base : ℕ} {r : Applied} {v w : Value} → At s base v → At s (base + second) w → Gives (f v w) s t base r → OnTwo f s t base r
two_gives a b g = two_by g.kept a b g.right

pub gives_same : {s t : List ℕ} {base : ℕ} {r : Applied} {x y : Answer} → y ≡ x → Gives x s t base r → Gives y s t base r
gives_same {s} {t} {base} {r} e g = subst (λ (x : Answer). Gives x s t base r) (sym e) g

-- ---- a refusal, with nothing written

pub is_off : {t : List ℕ} {base : ℕ} {e : Refusal} {x : Answer} → x ≡ refused (number_of e) → Applies t base (Err e) x
is_off {t} {base} {e} d = subst (λ (x : Answer). Applies t base (Err e) x) (sym d) (off refl refl)

pub one_off : {f : Value → Answer} {s : List ℕ} {base : ℕ} {e : Refusal} → ((v : Value) → At s base v → f v ≡ refused (number_of e)) → OnOne f s s base (Err e)
one_off {s = s} {base = base} d = record { kept = kept_same s base; right = λ v a. is_off (d v a) }

pub two_off : {f : Value → Value → Answer} {s : List ℕ} {base : ℕ} {e : Refusal} → ((v w : Value) → At s base v → At s (base + second) w → f v w ≡ refused (number_of e)) → OnTwo f s s base (Err e)
two_off {s = s} {base = base} d = record { kept = kept_same s base; right = λ v w a b. is_off (d v w a b) }

pub gives_off : {s : List ℕ} {base : ℕ} {e : Refusal} {x : Answer} → x ≡ refused (number_of e) → Gives x s s base (Err e)
gives_off {s} {base} d = record { kept = kept_same s base; right = is_off d }

-- what a `?` passes up
pub passed_up : (r : Applied) {e : Refusal} → IsErrAnd r (λ d. d ≡ e) → r ≡ Err e
passed_up (Ok x) h = absurd h
passed_up (Err d) h = ap Err h

-- ---- a value at base

pub is_done : {t : List ℕ} {base : ℕ} {v : Value} {x : Answer} → x ≡ is v → At t base v → Applies t base (Ok tt) x
is_done {t} {base} e a = subst (λ (x : Answer). Applies t base (Ok tt) x) (sym e) (done refl a)

pub one_done : {f : Value → Answer} {s t : List ℕ} {base : ℕ} {v x : Value} → Kept s t base → At s base v → f v ≡ is x → At t base x → OnOne f s t base (Ok tt)
one_done k a e h = one_by k a (is_done e h)

pub two_done : {f : Value → Value → Answer} {s t : List ℕ} {base : ℕ} {v w x : Value} → Kept s t base → At s base v → At s (base + second) w → f v w ≡ is x → At t base x → OnTwo f s t base (Ok tt)
two_done k a b e h = two_by k a b (is_done e h)

-- written there
pub one_put : {f : Value → Answer} {s t : List ℕ} {base n r : ℕ} {v x : Value} → Put s t base x n r → At s base v → f v ≡ is x → OnOne f s t base (Ok tt)
one_put p a e = one_done (put_kept p) a e p.here

pub gives_put : {s t : List ℕ} {base n r : ℕ} {x : Value} → Put s t base x n r → Gives (is x) s t base (Ok tt)
gives_put p = record { kept = put_kept p; right = done refl p.here }

-- copied down to it
pub one_copied : {f : Value → Answer} {s t u : List ℕ} {base from r : ℕ} {v x : Value} → Kept s t base → At s base v → f v ≡ is x → At t from x → Copied t u from base r → OnOne f s u base (Ok tt)
one_copied {x = x} k a e h c = one_done (kept_then k (copied_kept c)) a e (c.here x h)

pub two_copied : {f : Value → Value → Answer} {s t u : List ℕ} {base from r : ℕ} {v w x : Value} → Kept s t base → At s base v → At s (base + second) w → f v w ≡ is x → At t from x → Copied t u from base r → OnTwo f s u base (Ok tt)
two_copied {x = x} k a b e h c = two_done (kept_then k (copied_kept c)) a b e (c.here x h)
