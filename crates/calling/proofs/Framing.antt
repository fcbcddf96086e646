-- The frame: what an operator leaves as it was, from one change to the next and from one base to another.
use mathlib.Core.Path.{refl, ◌∙◌}
use mathlib.Core.Logic.{inr}
use mathlib.Core.List.{List}
use Prim.Native.Nat.{ℕ, ◌≤◌}
use native.Mathlib.Omega.{arith}
use Rattle.values.specs.Value.{Value}
use Rattle.values.specs.Place.{Holds, Outside}
use Rattle.values.specs.Contract.{Put, Copyable, Copied}
use Rattle.values.proofs.Frame.{below_less}
use Rattle.calling.specs.Scratch.{Kept}

-- ---- changes one after another, and a lower base

pub kept_same : (s : List ℕ) (base : ℕ) → Kept s s base
kept_same s base = record { long = refl; below = refl }

pub kept_then : {s t u : List ℕ} {base : ℕ} → Kept s t base → Kept t u base → Kept s u base
kept_then k l = record { long = l.long ∙ k.long; below = l.below ∙ k.below }

pub kept_less : {s t : List ℕ} {base n : ℕ} → n ≤ base → Kept s t base → Kept s t n
kept_less {s} {t} {base} {n} h k = record { long = k.long; below = below_less base n s t h k.below }

-- what changed lies at base or above it
pub kept_outside : {s t : List ℕ} {base from to : ℕ} → base ≤ from → Outside s t from to → Kept s t base
kept_outside {s} {t} {base} {from} h o = record { long = o.long; below = below_less from base s t h o.below }

pub put_kept : {s t : List ℕ} {at n r : ℕ} {x : Value} → Put s t at x n r → Kept s t at
put_kept p = record { long = p.outside.long; below = p.outside.below }

-- ---- copying down to the base, from anywhere above it

pub copyable_down : {s : List ℕ} {from to : ℕ} → to ≤ from → Holds s from → Copyable s from to
copyable_down h a = let w = a.whole in record { held = a; room = omega arith; apart = inr h }

pub copied_kept : {s t : List ℕ} {from to r : ℕ} → Copied s t from to r → Kept s t to
copied_kept c = record { long = c.outside.long; below = c.outside.below }
