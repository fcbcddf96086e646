-- Where nothing stands, the value belongs at the start.
use Rattle.values.proofs.Records.{holds}
use Rattle.collections.proofs.Looking.{seek-empty}
use mathlib.Core.Bool.{false}
use Rattle.collections.proofs.finding.seek_member.Goals as goal

pub length_of-requires : goal.length_of-requires
length_of-requires c = holds c.requires.0.here

pub returns-then-length_of-eq-HEAD : goal.returns-then-length_of-eq-HEAD
returns-then-length_of-eq-HEAD c = seek-empty _ _ _ c.length_of.result false c.length_of.ensures.is c.if-length_of-eq-HEAD.true
