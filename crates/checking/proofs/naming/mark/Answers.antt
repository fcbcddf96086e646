-- A mark is set where there is room.
use Rattle.checking.proofs.Marks.{mark_one, mark_beyond}
use Rattle.checking.proofs.naming.mark.Goals as goal

pub returns-then-n-lt-MOST_RECORDS : goal.returns-then-n-lt-MOST_RECORDS
returns-then-n-lt-MOST_RECORDS c = λ ms m. mark_one c.args.marks.now ms c.args.n c.if-n-lt-MOST_RECORDS.true m

pub returns-else-n-lt-MOST_RECORDS : goal.returns-else-n-lt-MOST_RECORDS
returns-else-n-lt-MOST_RECORDS c = λ ms m. mark_beyond c.args.marks.now ms c.args.n c.if-n-lt-MOST_RECORDS.false m
