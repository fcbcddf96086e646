-- `spread`: bit by bit, the highest first.
use Rattle.parts.proofs.Choosing.{sharing_start, sharing_low, sharing_more, sharing_end}
use Rattle.parts.proofs.masks.spread.Goals as goal

pub loop-i-init : goal.loop-i-init
loop-i-init c = sharing_start c.requires

pub deal-dealt-requires : goal.deal-dealt-requires
deal-dealt-requires c = sharing_low c.loop-i.invariant c.loop-i-test.true c.requires

pub loop-i-preserved : goal.loop-i-preserved
loop-i-preserved c = sharing_more c.loop-i.invariant c.loop-i-test.true c.deal-dealt.ensures

pub returns : goal.returns
returns c = sharing_end c.loop-i.invariant c.loop-i-test.false
