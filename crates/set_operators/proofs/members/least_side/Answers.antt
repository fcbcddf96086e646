-- `set_operators::members::least_side` meets its contract.
use mathlib.Core.Path.{sym, ◌∙◌}
use Rattle.values.proofs.Records.{first_held}
use Rattle.set_operators.proofs.Merging.{side_left, side_right, side_compared}
use Rattle.set_operators.proofs.members.least_side.Goals as goal

pub returns-then-b-b_end : goal.returns-then-b-b_end
returns-then-b-b_end c = side_left c.if-b-b_end.true

pub returns-then-a-a_end : goal.returns-then-a-a_end
returns-then-a-a_end c = side_right c.if-b-b_end.false c.if-a-a_end.true

pub kind_of-requires : goal.kind_of-requires
kind_of-requires c = first_held c.if-a-a_end.false c.requires.0

pub kind_of-requires-then-kind_of-eq-INTEGER : goal.kind_of-requires-then-kind_of-eq-INTEGER
kind_of-requires-then-kind_of-eq-INTEGER c = first_held c.if-b-b_end.false c.requires.1

pub compare_integers-requires : goal.compare_integers-requires
compare_integers-requires c =
    record { first = record { held = first_held c.if-a-a_end.false c.requires.0; kind = sym c.kind_of.ensures.is ∙ c.if-kind_of-eq-INTEGER.true }; second = record { held = first_held c.if-b-b_end.false c.requires.1; kind = sym c.kind_of-then-kind_of-eq-INTEGER.ensures.is ∙ c.if-kind_of-eq-INTEGER-2.true } }

pub returns-then-kind_of-eq-INTEGER-2 : goal.returns-then-kind_of-eq-INTEGER-2
returns-then-kind_of-eq-INTEGER-2 c = side_compared c.if-a-a_end.false c.if-b-b_end.false c.compare_integers.ensures

pub compare-requires : goal.compare-requires
compare-requires c = (first_held c.if-a-a_end.false c.requires.0, first_held c.if-b-b_end.false c.requires.1)

pub returns : goal.returns
returns c = side_compared c.if-a-a_end.false c.if-b-b_end.false c.compare.ensures
