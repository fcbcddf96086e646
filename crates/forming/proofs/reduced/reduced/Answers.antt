use native.Mathlib.Omega.{arith}
use Rattle.forming.proofs.Reducing.{reduced_then}
use Rattle.forming.proofs.reduced.reduced.Goals as goal

pub less_spare-q-requires : goal.less_spare-q-requires
less_spare-q-requires c = c.requires

pub loop-q-init : goal.loop-q-init
loop-q-init c = c.less_spare-q.ensures

pub less_spare-q-requires-in-loop-q : goal.less_spare-q-requires-in-loop-q
less_spare-q-requires-in-loop-q c = c.loop-q.invariant.composed

pub loop-q-smaller : goal.loop-q-smaller
loop-q-smaller c = omega arith

pub loop-q-preserved : goal.loop-q-preserved
loop-q-preserved c = reduced_then _ _ _ _ c.loop-q.invariant c.less_spare-q-in-loop-q.ensures

pub returns : goal.returns
returns c = c.loop-q.invariant
