use mathlib.Core.Path.{refl}
use borrow.Author.Tests.{eq-eqb, ne_eqb}
use Rattle.evaluator.proofs.building.enumeration_of.Goals as goal

pub returns-then-k-eq-SET_COMPREHENSION : goal.returns-then-k-eq-SET_COMPREHENSION
returns-then-k-eq-SET_COMPREHENSION c = rw (eq-eqb c.args.k 18 c.if-k-eq-SET_COMPREHENSION.true) refl

pub returns-then-k-eq-SEQUENCE_COMPREHENSION : goal.returns-then-k-eq-SEQUENCE_COMPREHENSION
returns-then-k-eq-SEQUENCE_COMPREHENSION c =
    rw (ne_eqb c.args.k 18 c.if-k-eq-SET_COMPREHENSION.false, eq-eqb c.args.k 19 c.if-k-eq-SEQUENCE_COMPREHENSION.true) refl

pub returns : goal.returns
returns c =
    rw (ne_eqb c.args.k 18 c.if-k-eq-SET_COMPREHENSION.false, ne_eqb c.args.k 19 c.if-k-eq-SEQUENCE_COMPREHENSION.false) refl
