-- `tail` meets its contract.
use mathlib.Core.Path.{refl}
use native.Mathlib.Omega.{arith}
use Rattle.values.proofs.Records.{holds}
use Rattle.sequence_operators.proofs.Firsts.{none_off, first-item, tail_movable, tail_done}
use Rattle.sequence_operators.proofs.tail.Goals as goal

pub length_of-n-requires : goal.length_of-n-requires
length_of-n-requires c = holds c.requires.held.here

pub returns-then-n-eq-HEAD : goal.returns-then-n-eq-HEAD
returns-then-n-eq-HEAD c = none_off c.length_of-n.ensures.is c.if-n-eq-HEAD.true refl

pub length_of-first-requires : goal.length_of-first-requires
length_of-first-requires c = holds (first-item c.requires c.length_of-n.ensures.is c.if-n-eq-HEAD.false).first-at

pub overflow_sub-n-2 : goal.overflow_sub-n-2
overflow_sub-n-2 c = let y = first-item c.requires c.length_of-n.ensures.is c.if-n-eq-HEAD.false in omega arith

pub copy_bytes-requires : goal.copy_bytes-requires
copy_bytes-requires c = tail_movable c.requires c.length_of-n.ensures.is c.if-n-eq-HEAD.false c.length_of-first.ensures.is

pub overflow_sub-n-3 : goal.overflow_sub-n-3
overflow_sub-n-3 c = let y = first-item c.requires c.length_of-n.ensures.is c.if-n-eq-HEAD.false in omega arith

pub returns : goal.returns
returns c =
    tail_done c.requires c.length_of-n.ensures.is c.if-n-eq-HEAD.false c.length_of-first.ensures.is c.copy_bytes.ensures c.put_head.ensures
