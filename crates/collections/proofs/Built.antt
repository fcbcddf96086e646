-- Laws of what is built: what an answer says of the size, and what stands elsewhere stays.
use mathlib.Core.Path.{◌≡◌, refl, sym, ◌∙◌}
use mathlib.Core.Bool.{Bool, true, false, cond}
use mathlib.Core.List.{List}
use mathlib.Core.Logic.{inl, inr}
use Prim.Native.Nat.{ℕ, ◌+◌, ◌≤◌, ◌<◌}
use native.Mathlib.Omega.{arith}
use borrow.Author.Tests.{leb-true, leb-false}
use lib.Dec.{leb}
use Rattle.values.specs.Value.{Value, value_limit}
use Rattle.values.specs.Place.{At, Outside}
use Rattle.values.proofs.Records.{word_size}
use Rattle.values.proofs.Frame.{at_below, at_above}
use Rattle.collections.specs.Building.{Added}
use Rattle.std.specs.Prelude.{Ok, Err}
use Rattle.prelude.proofs.Absurd.{impossible}
use Rattle.prelude.specs.declared.Refusal.{Refusal}
use Rattle.prelude.specs.declared.Refusal.TheVariants.{TooLarge}
use Rattle.collections.specs.Building.{added, Apart}

-- ---- what an answer says of the size

put_fits : (b : Bool) → ◌≡◌ {A = Added} (Ok tt) (cond b (Ok tt) (Err TooLarge)) → b ≡ true
put_fits true e = refl
put_fits false e = cc

long_over : (b : Bool) {e : Refusal} → ◌≡◌ {A = Added} (Err e) (cond b (Ok tt) (Err TooLarge)) → (b ≡ false) × ◌≡◌ {A = Added} (Err e) (Err TooLarge)
long_over true d = (cc, impossible cc)
long_over false d = (refl, d)

pub put_within : {n : ℕ} {r : Added} → r ≡ added n → r ≡ Ok tt → n ≤ value_limit
put_within {n} e d = leb-true n value_limit (put_fits (leb n value_limit) (sym d ∙ e))

pub long_past : {n : ℕ} {r : Added} {e : Refusal} → r ≡ added n → r ≡ Err e → value_limit < n
long_past {n} e d = leb-false n value_limit (long_over (leb n value_limit) (sym d ∙ e)).0

-- the one refusal of what is too long
pub long_is : (n : ℕ) {r : Added} {e : Refusal} → r ≡ added n → r ≡ Err e → ◌≡◌ {A = Added} (Err e) (Err TooLarge)
long_is n e d = (long_over (leb n value_limit) (sym d ∙ e)).1

-- ---- what stands elsewhere stays

module _ {s t : List ℕ} {at x : ℕ} (o : Outside s t at (at + value_limit)) (a : Apart s at x) where
  pub at_apart : {v : Value} → At s x v → At t x v
  at_apart {v} h = go a
    where
      go : Apart s at x → At t x v
      go (inl b) = let w = word_size h in at_below o (omega arith) h
      go (inr b) = at_above o b h
