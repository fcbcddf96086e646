-- By kind.
use mathlib.Core.Path.{◌∙◌}
use Rattle.tables.specs.Record.{shape}
use Rattle.tables.proofs.Heads.{other_known, below_sixteen}
use Rattle.tables.proofs.shape.is_known.Goals as goal

pub returns-in-1 : goal.returns-in-1
unfolding shape
returns-in-1 c = rw c.in-1.is

pub returns-in-34 : goal.returns-in-34
unfolding shape
returns-in-34 c = rw c.in-34.is

pub returns-in-3 : goal.returns-in-3
unfolding shape
returns-in-3 c = rw c.in-3.is (below_sixteen c.args.n)

pub returns-in-32 : goal.returns-in-32
unfolding shape
returns-in-32 c = rw c.in-32.is (below_sixteen c.args.n)

pub returns-in-4 : goal.returns-in-4
unfolding shape
returns-in-4 c = rw c.in-4.is c.is_between.ensures

pub returns-in-5 : goal.returns-in-5
unfolding shape
returns-in-5 c = rw c.in-5.is c.is_between-in-5.ensures

pub returns-in_default : goal.returns-in_default
returns-in_default c =
    c.is_kind.ensures ∙ other_known c.args.kind c.args.n c.requires c.before.in_default.in_default-own.rest.0.0.0.0.0.1 c.before.in_default.in_default-own.rest.0.0.0.0.1 c.before.in_default.in_default-own.rest.0.0.0.1 c.before.in_default.in_default-own.rest.0.0.1 c.before.in_default.in_default-own.rest.0.1 c.before.in_default.in_default-own.rest.1
