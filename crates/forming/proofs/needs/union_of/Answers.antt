-- By the kind.
use mathlib.Core.Path.{refl}
use Rattle.matching.specs.Node.{is_split}
use Rattle.patterns.specs.Nodes.{collection_of}
use Rattle.forming.proofs.Told.{for_some}
use Rattle.prelude.proofs.Absurd.{impossible}
use Rattle.values.specs.Value.{number}
use Prim.Native.Nat.{ℕ}
use mathlib.Core.Path.{◌≡◌}
use mathlib.Core.Bool.{true}
use Rattle.forming.proofs.needs.union_of.Goals as goal

pub returns-in-3 : goal.returns-in-3
returns-in-3 c = for_some (λ (r : ℕ). (is_split r ≡ true) × (c.args.kind ≡ number (collection_of r))) (refl, c.in-3.is)

pub returns-in-5 : goal.returns-in-5
returns-in-5 c = for_some (λ (r : ℕ). (is_split r ≡ true) × (c.args.kind ≡ number (collection_of r))) (refl, c.in-5.is)

pub returns-in_default : goal.returns-in_default
returns-in_default c = λ r e. impossible cc
