-- What a place that was found says, and what its lack says.
use mathlib.Core.Path.{◌≡◌, refl, subst}
use mathlib.Core.List.{List}
use mathlib.Core.Option.{Option, none as absent, some}
use Prim.Native.Nat.{ℕ, ◌+◌, ◌≤◌}
use Rattle.values.specs.Value.{Value, size}
use Rattle.values.specs.Place.{At}
use Rattle.collections.specs.Finding.{Found}
use Rattle.std.specs.Prelude.{Some, None}
use Rattle.collections.specs.Finding.{Finds, found, missing}

pub record Shown (s : List ℕ) (from to p : ℕ) (o : Option Value) : Type 0 where
  pub value : Value
  pub is : o ≡ some value
  pub here : At s p value
  pub low : from ≤ p
  pub high : p + size value ≤ to

shown : {s : List ℕ} {from to p : ℕ} {o : Option Value} → Finds s from to (Some p) o → Shown s from to p o
shown (found {v = v} h low high) = record { value = v; is = refl; here = h; low = low; high = high }

pub found_at : {s : List ℕ} {from to p : ℕ} {r : Found} {o : Option Value} → Finds s from to r o → r ≡ Some p → Shown s from to p o
found_at {s} {from} {to} {p} {r} {o} f e = shown (subst (λ (q : Found). Finds s from to q o) e f)

lacking : {s : List ℕ} {from to : ℕ} {o : Option Value} → Finds s from to None o → o ≡ absent
lacking missing = refl

pub found_nothing : {s : List ℕ} {from to : ℕ} {r : Found} {o : Option Value} → Finds s from to r o → r ≡ None → o ≡ absent
found_nothing {s} {from} {to} {r} {o} f e = lacking (subst (λ (q : Found). Finds s from to q o) e f)
