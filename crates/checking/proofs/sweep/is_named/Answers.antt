-- By role.
use Rattle.checking.proofs.sweep.is_named.Goals as goal

pub returns-in-Name : goal.returns-in-Name
returns-in-Name c = rw (c.in-Name.is, c.kind.ensures.0)
