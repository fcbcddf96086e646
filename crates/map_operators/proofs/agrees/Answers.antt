-- `agrees` meets its contract.
use Rattle.map_operators.proofs.Agreeing.{found_holds, found_agrees, nothing_agrees}
use Rattle.map_operators.proofs.agrees.Goals as goal

pub equal-requires : goal.equal-requires
equal-requires c = (c.requires.value, found_holds c.find_key.ensures c.in-Some.is c.requires)

pub returns-in-Some : goal.returns-in-Some
returns-in-Some c = found_agrees c.find_key.ensures c.in-Some.is c.equal.ensures

pub returns-in-None : goal.returns-in-None
returns-in-None c = nothing_agrees c.find_key.ensures c.in-None.is
