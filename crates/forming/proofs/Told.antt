-- What a Result or an Option that is known says.
use mathlib.Core.Path.{◌≡◌, refl, subst}
use mathlib.Core.Bool.{false}
use Rattle.std.specs.Prelude.{Option, Some, None, Result, Ok, Err}
use Rattle.std.specs.Result.{is_ok}

pub for_some : {A : Type 0} (P : A → Type 0) {x : A} → P x → (y : A) → ◌≡◌ {A = Option A} (Some x) (Some y) → P y
for_some P {x} p y e = let q : x ≡ y = cc in subst P q p

pub for_ok : {A E : Type 0} (P : A → Type 0) {x : A} → P x → (y : A) → ◌≡◌ {A = Result A E} (Ok x) (Ok y) → P y
for_ok P {x} p y e = let q : x ≡ y = cc in subst P q p

pub none_of : {A : Type 0} (r : Option A) → ((x : A) → r ≡ Some x → ⊥) → r ≡ None
none_of None f = refl
none_of (Some x) f = absurd (f x refl)

pub err_of : {A E : Type 0} (r : Result A E) → is_ok r ≡ false → (e : E) × (r ≡ Err e)
err_of (Ok x) f = cc
err_of (Err e) f = (e, refl)
