use native.Mathlib.Omega.{arith}
use Rattle.forming.specs.Frames.{frame_at, onto}
use Rattle.forming.proofs.Framing.{way_put, not_advanced}
use mathlib.Core.Path.{refl}
use Rattle.forming.proofs.frames.go_on.Goals as goal

pub returns-then-way-ways : goal.returns-then-way-ways
returns-then-way-ways c = way_put _ _ c.requires.0 c.requires.1 _ _ (omega (arith, c.requires.3)) _ refl

pub returns : goal.returns
returns c =
    not_advanced _ _ (onto (frame_at c.args.frames.now c.args.i) c.args.way c.args.seen) (omega (arith, c.requires.3))
