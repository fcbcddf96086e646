-- `negation` meets its contract: 20, or the other truth value.
use mathlib.Core.Bool.{not}
use Rattle.operators.specs.Booleans.{truth}
use Rattle.operators.specs.Operators.{unary}
use Rattle.calling.proofs.Answering.{one_off, one_gives}
use Rattle.calling.proofs.Kinding.{no_boolean, needs_off}
use Rattle.scalars.proofs.negation.Goals as goal

pub returns-then-kind-ne-BOOLEAN : goal.returns-then-kind-ne-BOOLEAN
unfolding unary
returns-then-kind-ne-BOOLEAN c =
    one_off (λ v a. needs_off (λ b. truth (not b)) (no_boolean c.kind_of-kind.ensures c.if-kind-ne-BOOLEAN.true v a))

pub returns : goal.returns
unfolding unary
returns c = one_gives {f = unary 1} c.boolean_at-b.ensures c.put_truth.ensures
