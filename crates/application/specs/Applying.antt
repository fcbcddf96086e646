-- What applying a sequence or a map asks and promises.
use Rattle.std.specs.Prelude.{List, ℕ, ◌+◌, ◌≤◌, length}
use Rattle.std.proofs.Math.Option.{Option}
use Rattle.values.specs.Value.{Kind, Value, collection, Items}
use Rattle.values.specs.Place.{At, Holds}
use Rattle.collections.specs.Finding.{Found}
use Rattle.collections.specs.Finding.{HoldsKind, Finds}
use Rattle.operators.specs.Answer.{found}
use Rattle.operators.specs.Maps.{apply_items}
use Rattle.calling.specs.Applied.{Applied}
use Rattle.calling.specs.Applied.{Applies}
use Rattle.calling.specs.Scratch.{second, workspace, Kept}

-- What was looked for within the collection at base, and whether it was found.
pub record Sought (s : List ℕ) (base : ℕ) (f : Found) : Type 0 where
  pub to : ℕ
  pub value : Option Value
  pub finds : Finds s (base + 4) to f value

-- r is what was found, or 26 where nothing was.
pub record Brings (s t : List ℕ) (base : ℕ) (f : Found) (r : Applied) : Type 0 where
  pub kept : Kept s t base
  pub right : (to : ℕ) (o : Option Value) → Finds s (base + 4) to f o → Applies t base r (found o)

-- A collection of a kind stands at base and its argument above it, and there is room to work in.
pub record Applicable (k : Kind) (s : List ℕ) (base : ℕ) : Type 0 where
  pub held : HoldsKind k s base
  pub argument : Holds s (base + second)
  pub room : base + workspace ≤ length s

-- r is the collection at base, applied to the value above it.
pub record OnArgument (k : Kind) (s t : List ℕ) (base : ℕ) (r : Applied) : Type 0 where
  pub kept : Kept s t base
  pub right : (vs : Items) (w : Value) → At s base (collection k vs) → At s (base + second) w → Applies t base r (apply_items k vs w)
