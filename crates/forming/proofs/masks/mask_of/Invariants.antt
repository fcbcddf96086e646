use Rattle.forming.proofs.Framing.{MaskFrom}
use Rattle.forming.proofs.masks.mask_of.Given as goal

abbrev pub invariant-loop-x : goal.invariant-loop-x
invariant-loop-x l = MaskFrom l.found l.mask l.x
