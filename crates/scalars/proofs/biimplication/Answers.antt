-- `biimplication` meets its contract: 20, or whether the two booleans are equal.
use mathlib.Core.Path.{sym, ◌∙◌}
use Rattle.values.specs.Value.{boolean}
use Rattle.values.proofs.Records.{holds}
use Rattle.values.specs.Items.{same}
use Rattle.operators.specs.Answer.{as_boolean}
use Rattle.operators.specs.Booleans.{truth}
use Rattle.operators.specs.Operators.{binary}
use Rattle.calling.proofs.Answering.{two_off}
use Rattle.calling.proofs.Kinding.{no_boolean, needs_left, needs_right}
use Rattle.scalars.proofs.Equals.{booleans_give}
use Rattle.scalars.proofs.biimplication.Goals as goal

pub returns-then-first-ne-BOOLEAN : goal.returns-then-first-ne-BOOLEAN
unfolding binary
returns-then-first-ne-BOOLEAN c =
    two_off (λ v w a b. needs_left (as_boolean w) (λ x y. truth (same (boolean x) (boolean y))) (no_boolean c.kind_of-first.ensures c.if-first-ne-BOOLEAN.true v a))

pub returns-then-second-ne-BOOLEAN : goal.returns-then-second-ne-BOOLEAN
unfolding binary
returns-then-second-ne-BOOLEAN c =
    two_off (λ v w a b. needs_right (as_boolean v) (λ x y. truth (same (boolean x) (boolean y))) (no_boolean c.kind_of-second.ensures c.if-second-ne-BOOLEAN.true w b))

pub boolean_at-a-requires : goal.boolean_at-a-requires
boolean_at-a-requires c =
    record { held = holds c.requires.left.here; kind = sym c.kind_of-first.ensures.is ∙ c.if-first-ne-BOOLEAN.false }

pub boolean_at-b-requires : goal.boolean_at-b-requires
boolean_at-b-requires c =
    record { held = holds c.requires.right.here; kind = sym c.kind_of-second.ensures.is ∙ c.if-second-ne-BOOLEAN.false }

pub returns : goal.returns
returns c = booleans_give c.boolean_at-a.ensures c.boolean_at-b.ensures c.put_truth.ensures
