-- The first list is due, and the first line is in the buffer.
use mathlib.Core.Path.{◌∙◌}
use Rattle.walk.proofs.Handing.{made_empty, printing_start}
use Rattle.walk.proofs.print_accepted.Goals as goal

pub print_pieces-requires : goal.print_pieces-requires
print_pieces-requires g c =
    (printing_start c.args.table.now c.args.count c.requires.0 c.large_buffer-s.result c.start_walk-run.result c.begin-begun.new.out c.large_buffer-out.result c.large_buffer-s.ensures (made_empty c.empty.result c.empty.ensures c.start_walk-run.result c.start_walk-run.ensures) (c.begin-begun.auto.out ∙ c.large_buffer-out.ensures) c.begin-begun.result c.begin-begun.ensures, c.requires.1)
