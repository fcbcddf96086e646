use mathlib.Core.Path.{refl}
use borrow.Author.Tests.{eq-eqb, ne_eqb}
use Rattle.evaluator.proofs.building.built_kind.Goals as goal

pub returns-then-k-eq-SET : goal.returns-then-k-eq-SET
returns-then-k-eq-SET c = rw (eq-eqb c.args.k 7 c.if-k-eq-SET.true) refl

pub returns-then-k-eq-MAP : goal.returns-then-k-eq-MAP
returns-then-k-eq-MAP c = rw (ne_eqb c.args.k 7 c.if-k-eq-SET.false, eq-eqb c.args.k 9 c.if-k-eq-MAP.true) refl

pub returns : goal.returns
returns c = rw (ne_eqb c.args.k 7 c.if-k-eq-SET.false, ne_eqb c.args.k 9 c.if-k-eq-MAP.false) refl
