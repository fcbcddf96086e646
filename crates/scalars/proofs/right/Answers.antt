-- `right` meets its contract: nothing is written.
use mathlib.Core.Path.{refl}
use Rattle.operators.specs.Booleans.{truth}
use Rattle.calling.proofs.Answering.{one_off, one_done}
use Rattle.calling.proofs.Framing.{kept_same}
use Rattle.calling.proofs.Kinding.{no_boolean, the_boolean, needs_off}
use Rattle.scalars.proofs.right.Goals as goal

pub returns-then-kind-ne-BOOLEAN : goal.returns-then-kind-ne-BOOLEAN
returns-then-kind-ne-BOOLEAN c =
    one_off (λ v a. needs_off (λ b. truth b) (no_boolean c.kind_of-kind.ensures c.if-kind-ne-BOOLEAN.true v a))

pub returns : goal.returns
returns c =
    let x = the_boolean c.kind_of-kind.ensures c.if-kind-ne-BOOLEAN.false c.requires.held in one_done (kept_same _ _) x.1 refl x.1
