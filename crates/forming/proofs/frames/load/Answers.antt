use mathlib.Core.Path.{ap, ◌∙◌}
use Rattle.forming.specs.Frames.{frame_of}
use Rattle.forming.proofs.frames.load.Goals as goal

pub slot-b-requires : goal.slot-b-requires
slot-b-requires c = c.requires

pub frame_of-requires : goal.frame_of-requires
frame_of-requires c = tt

pub returns : goal.returns
returns c = c.frame_of.ensures ∙ ap frame_of c.slot-b.ensures
