-- What a truth value tells: laws of `Tells`.
use mathlib.Core.Path.{◌≡◌, refl, sym, ◌∙◌}
use mathlib.Core.Bool.{Bool, true, false}
use Prim.Native.Nat.{ℕ, ◌≤◌, ◌<◌}
use lib.Dec.{leb, eqb, ltb}
use borrow.Author.Tests.{leb-true, le-leb, eqb-true, eq-eqb, ltb-true, lt-ltb}
use Rattle.prelude.proofs.Absurd.{never}
use Rattle.values.specs.Validity.{Tells}

pub tells_true : {X : Type 0} → X → Tells X true
tells_true x = record { sound = λ e. x; complete = λ y. refl }

pub tells_false : {X : Type 0} → (X → ⊥) → Tells X false
tells_false f = record { sound = λ e. never e; complete = λ x. absurd (f x) }

-- the same of what follows from it and it from that
pub tells_of : {X Y : Type 0} {r : Bool} → (X → Y) → (Y → X) → Tells X r → Tells Y r
tells_of f g t = record { sound = λ e. f (t.sound e); complete = λ y. t.complete (g y) }

pub told_false : {X : Type 0} {r : Bool} → Tells X r → r ≡ false → X → ⊥
told_false t e x = never (sym e ∙ t.complete x)

-- ---- tests

pub tells_equal : (a b : ℕ) → Tells (a ≡ b) (eqb a b)
tells_equal a b = record { sound = λ e. eqb-true a b e; complete = λ e. eq-eqb a b e }

pub tells_less : (a b : ℕ) → Tells (a < b) (ltb a b)
tells_less a b = record { sound = λ e. ltb-true a b e; complete = λ e. lt-ltb a b e }

pub tells_most : (a b : ℕ) → Tells (a ≤ b) (leb a b)
tells_most a b = record { sound = λ e. leb-true a b e; complete = λ e. le-leb a b e }
