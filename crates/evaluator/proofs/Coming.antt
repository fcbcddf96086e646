-- How what parts of an evaluation come to is put together.
use mathlib.Core.Path.{◌≡◌, refl, sym, ap, subst, ◌∙◌}
use mathlib.Core.List.{List}
use Prim.Native.Nat.{ℕ}
use Rattle.prelude.proofs.Absurd.{impossible}
use Rattle.values.specs.Place.{At}
use Rattle.choices.specs.State.{Choices, Invariant}
use Rattle.choices.specs.Tree.{Tree, give, stop, bind, result}
use Rattle.choices.specs.Runs.{Came}
use Rattle.choices.proofs.Came.{came_give, came_stop, came_then, came_off}
use Rattle.std.specs.Prelude.{Ok, Err}
use Rattle.std.specs.declared.result.Result.{Result}
use Rattle.prelude.specs.declared.Refusal.{Refusal}
use Rattle.prelude.specs.Refusals.{number_of}
use Rattle.operators.specs.Answer.{Answer}
use Rattle.meaning.specs.State.{State}
use Rattle.parts.specs.declared.words.Env.{Env}
use Rattle.evaluator.specs.declared.Refused.{Refused}
use Rattle.calling.specs.Applied.{Applies, done, off as off_by}
use Rattle.meaning.specs.Meaning.{at}
use Rattle.evaluator.specs.Contract.{Ended}
use Rattle.evaluator.specs.Contract.{has_value, refusal_at}
use Rattle.evaluator.specs.Contract.{Evaluated, ended, Comes, gave, off, Gives, value_as, refused_as, at_record}
use Rattle.evaluator.proofs.Leading.{Leads, leads_came, leads_off, leads_then}

pub value_refused : {X : Type 0} {o : Ended} {x : Refused} → o ≡ has_value → o ≡ Err x → X
value_refused e f = let g = sym e ∙ f in impossible cc

-- one run after another
pub comes_then : {A B : Type 0} {t : Tree A} {P : B → Type 0} {c d : Choices} {a : A} {e : Evaluated} (g : A → Tree B) → Came t c (result a) d → Comes (g a) P d e → Comes (bind t g) P c e
comes_then {t = t} g w (gave o a k) = gave o a (came_then t g w k)
comes_then {t = t} g w (off o k) = off o (came_then t g w k)

pub comes_on : {A B : Type 0} {t : Tree A} {P : A → Type 0} {Q : B → Type 0} {c : Choices} {e e' : Evaluated} (g : A → Tree B) → Comes t P c e → e.outcome ≡ has_value → ((a : A) → P a → Comes (g a) Q e.choices e') → Comes (bind t g) Q c e'
comes_on {t = t} g (gave o a w) h k = comes_then {t = t} g w (k _ a)
comes_on g (off o w) h k = value_refused h o

pub comes_stop : {A B : Type 0} {t : Tree A} {P : A → Type 0} {Q : B → Type 0} {c : Choices} {e : Evaluated} (g : A → Tree B) → Comes t P c e → (e.outcome ≡ has_value → ⊥) → Comes (bind t g) Q c e
comes_stop g (gave o a w) h = absurd (h o)
comes_stop {t = t} g (off o w) h = off o (came_off t g w)

pub comes_as : {A : Type 0} {t u : Tree A} {P : A → Type 0} {c : Choices} {e : Evaluated} → t ≡ u → Comes u P c e → Comes t P c e
comes_as {A} {P = P} {c = c} {e} q k = subst (λ (x : Tree A). Comes x P c e) (sym q) k

pub comes_sound : {A : Type 0} {t : Tree A} {P : A → Type 0} {c : Choices} {e : Evaluated} → Comes t P c e → Invariant e.choices
comes_sound (gave o a w) = w.sound
comes_sound (off o w) = w.sound

pub comes_held : {A : Type 0} {t : Tree A} {P : A → Type 0} {c : Choices} {e : Evaluated} → Comes t P c e → e.outcome ≡ has_value → (a : A) × P a
comes_held (gave {a = a} o p w) h = (a, p)
comes_held (off o w) h = value_refused h o

-- where there is no value, it does not matter what holds of it
pub comes_anywhere : {A : Type 0} {t : Tree A} {P Q : A → Type 0} {c : Choices} {e : Evaluated} → Comes t P c e → (e.outcome ≡ has_value → ⊥) → Comes t Q c e
comes_anywhere (gave o a w) h = absurd (h o)
comes_anywhere (off o w) h = off o w

pub comes_value : {A : Type 0} {a : A} {P : A → Type 0} {c : Choices} → Invariant c → P a → Comes (give a) P c (value_as c)
comes_value h a = gave refl a (came_give _ h)

pub comes_refused : {A : Type 0} {P : A → Type 0} {c : Choices} (x : Refusal) (r : ℕ) → Invariant c → Comes (stop (number_of x) r) P c (refused_as x r c)
comes_refused x r h = off {x = refusal_at x r} refl (came_stop (number_of x) r h)

-- an operator's answer
pub comes_applied : {s : List ℕ} {b : ℕ} {c : Choices} {x : Answer} {o : Ended} (q : Result (Unit {0}) Refusal) (r : ℕ) → Invariant c → Applies s b q x → o ≡ at_record q r → Comes (at r x) (At s b) c (ended o c)
comes_applied {s} {b} {c} {x} {o} q r h a d = subst (λ (y : Ended). Comes (at r x) (At s b) c (ended y c)) (sym d) (go a)
  where
    go : {x : Answer} → Applies s b q x → Comes (at r x) (At s b) c (ended (at_record q r) c)
    go (done {v = v} e a) = subst (λ (y : Result (Unit {0}) Refusal). Comes (give v) (At s b) c (ended (at_record y r) c)) (sym e) (comes_value h a)
    go (off_by {e = n} {n = m} e g) =
        subst (λ (k : ℕ). Comes (stop k r) (At s b) c (ended (at_record q r) c)) (sym g)
        (subst (λ (y : Result (Unit {0}) Refusal). Comes (stop (number_of n) r) (At s b) c (ended (at_record y r) c)) (sym e) (comes_refused n r h))

-- What is given with an answer is given with its equal.
pub as_ended : {A : Type 0} {m : State → Tree A} {P : A → Type 0} {s t : List ℕ} {base : ℕ} {env : Env} {c d : Choices} {o p : Ended} → p ≡ o → Gives m P s t base env c (ended o d) → Gives m P s t base env c (ended p d)
as_ended {m = m} {P} {s} {t} {base} {env} {c} {d} e g = subst (λ (x : Ended). Gives m P s t base env c (ended x d)) (sym e) g

-- No value.
pub no_value : {x : Refused} → ◌≡◌ {A = Ended} (Err x) has_value → ⊥
no_value e = impossible cc

-- ---- a run that goes on

module _ {A : Type 0} {whole : Tree A} {c : Choices} where
  pub leads_comes : {t : Tree A} {P : A → Type 0} {d : Choices} {e : Evaluated} → Leads whole c t d → Comes t P d e → Comes whole P c e
  leads_comes l (gave o a w) = gave o a (leads_came l w)
  leads_comes l (off o w) = off o (leads_came l w)

  module _ {B : Type 0} {t : Tree B} {Q : B → Type 0} {d : Choices} {e : Evaluated} (g : B → Tree A) (l : Leads whole c (bind t g) d) where
    pub leads_stop : {P : A → Type 0} → Comes t Q d e → (e.outcome ≡ has_value → ⊥) → Comes whole P c e
    leads_stop (gave o a w) h = absurd (h o)
    leads_stop (off o w) h = off o (leads_off t g l w)

    -- on with the value, of which Q holds
    pub leads_on : Comes t Q d e → e.outcome ≡ has_value → (b : B) × Q b × Leads whole c (g b) e.choices
    leads_on (gave {a = b} o p w) h = (b, p, leads_then t g l w)
    leads_on (off o w) h = value_refused h o

-- An answer with its record, read back.
pub answer_ok : {A : Type 0} (x : Result A Refusal) (r : ℕ) {v : A} → at_record x r ≡ Ok v → x ≡ Ok v
answer_ok (Ok w) r {v} e = let f : w ≡ v = cc in ap Ok f
answer_ok (Err q) r e = impossible cc

pub answer_err : {A : Type 0} (x : Result A Refusal) (r : ℕ) {y : Refused} → at_record x r ≡ Err y → (q : Refusal) × (x ≡ Err q) × (◌≡◌ {A = Ended} (Err y) (Err (refusal_at q r)))
answer_err (Ok w) r e = impossible cc
answer_err (Err q) r {y} e = let f : refusal_at q r ≡ y = cc in (q, refl, ap Err (sym f))
