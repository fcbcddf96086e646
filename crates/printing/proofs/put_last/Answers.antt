-- The last line, where there is room.
use native.Mathlib.Omega.{arith}
use Rattle.print.specs.Print.{end_line, cut_line}
use Rattle.printing.proofs.Texts.{closed_by, closing_cut, closing_end, cut_short, end_short}
use Rattle.printing.proofs.put_last.Goals as goal

pub returns-then-p : goal.returns-then-p
returns-then-p c =
    closed_by c.args.out.now c.put_cut-at.new.out cut_line c.args.p c.put_cut-at.result c.put_cut-at.ensures (closing_cut c.args.p c.if-p.true) cut_short (omega arith)

pub returns-else-p : goal.returns-else-p
returns-else-p c =
    closed_by c.args.out.now c.put_end-at.new.out (end_line c.args.p.lists) c.args.p c.put_end-at.result c.put_end-at.ensures (closing_end c.args.p c.if-p.false) (end_short c.args.p.lists c.requires.1) (omega arith)
