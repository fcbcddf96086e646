-- `rest`: past the item at which the run stands, and on to the next that is chosen.
use native.Mathlib.Omega.{arith}
use Rattle.values.proofs.Records.{holds}
use Rattle.parts.proofs.Running.{head, rest_every, rest_startable, rest_some}
use Rattle.parts.proofs.runs.rest.Goals as goal

pub length_of-requires : goal.length_of-requires
length_of-requires c = holds (head c.requires).first-at

pub overflow_add-from : goal.overflow_add-from
overflow_add-from c = let x = head c.requires in let e = c.length_of.ensures.is in omega arith

pub returns-then-r-eq-ALL : goal.returns-then-r-eq-ALL
returns-then-r-eq-ALL c = rest_every _ c.length_of.ensures.is c.if-r-eq-ALL.true c.requires

pub ready-requires : goal.ready-requires
ready-requires c = rest_startable _ c.length_of.ensures.is c.requires

pub returns : goal.returns
returns c = rest_some _ c.length_of.ensures.is c.if-r-eq-ALL.false c.requires c.ready.ensures
