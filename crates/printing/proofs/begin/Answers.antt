-- The first line.
use native.Mathlib.Omega.{arith}
use Rattle.printing.proofs.Texts.{begun_by}
use Rattle.printing.proofs.begin.Goals as goal

pub returns : goal.returns
returns c =
    begun_by c.args.out.now c.put_first-at.new.out c.args.count c.put_first-at.result c.put_first-at.ensures (omega arith) (omega arith)
