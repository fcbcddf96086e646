-- `boolean` meets its contract.
use Rattle.std.proofs.lemmas.Bool.{ne_eqb}
use Rattle.values.proofs.Found.{boolean_long, boolean_told}
use Rattle.values.proofs.validity.boolean.Goals as goal

pub returns-else-n-eq5 : goal.returns-else-n-eq5
returns-else-n-eq5 c = rw (ne_eqb c.args.n 5 c.if-n-eq5.false) (boolean_long c.requires c.if-n-eq5.false)

pub returns-then-n-eq5 : goal.returns-then-n-eq5
returns-then-n-eq5 c = boolean_told c.type_inv.s c.requires c.if-n-eq5.true
