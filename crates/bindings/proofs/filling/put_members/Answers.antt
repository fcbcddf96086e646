use Rattle.bindings.proofs.Writing.{members_start, end_low, end_inside, member_holds, member_inside, members_more, members_end}
use native.Mathlib.Omega.{arith}
use Rattle.bindings.proofs.filling.put_members.Goals as goal

pub loop-at-init : goal.loop-at-init
loop-at-init c = members_start _ _ _ _ c.requires

pub length_of-k-requires : goal.length_of-k-requires
length_of-k-requires c = member_holds _ _ _ _ c.requires _ _ _ c.loop-at.invariant (omega arith)

pub overflow_mul-n : goal.overflow_mul-n
overflow_mul-n c =
    omega (arith, end_low _ _ _ _ c.requires _ _ _ c.loop-at.invariant, c.loop-at.invariant.low, c.requires.room, c.requires.short)

pub overflow_add-to : goal.overflow_add-to
overflow_add-to c =
    omega (arith, end_low _ _ _ _ c.requires _ _ _ c.loop-at.invariant, c.loop-at.invariant.low, c.requires.room, c.requires.short)

pub overflow_mul-at : goal.overflow_mul-at
overflow_mul-at c =
    omega (arith, end_inside _ _ _ _ c.requires _ _ _ c.loop-at.invariant, c.requires.room, c.requires.short)

pub overflow_add-at : goal.overflow_add-at
overflow_add-at c =
    omega (arith, end_inside _ _ _ _ c.requires _ _ _ c.loop-at.invariant, c.requires.room, c.requires.short)

pub overflow_cast-at : goal.overflow_cast-at
overflow_cast-at c =
    omega (arith, end_inside _ _ _ _ c.requires _ _ _ c.loop-at.invariant, c.requires.room, c.requires.short)

pub put_word-requires : goal.put_word-requires
put_word-requires c =
    omega (arith, end_low _ _ _ _ c.requires _ _ _ c.loop-at.invariant, c.loop-at.invariant.low, c.requires.room, c.loop-at.invariant.outside.long, (member_inside _ _ _ _ c.requires _ _ _ c.loop-at.invariant (omega arith)).0, (member_inside _ _ _ _ c.requires _ _ _ c.loop-at.invariant (omega arith)).1)

pub overflow_add-at-in-loop-at : goal.overflow_add-at-in-loop-at
overflow_add-at-in-loop-at c =
    omega (arith, end_inside _ _ _ _ c.requires _ _ _ c.loop-at.invariant, c.requires.room, c.requires.short, c.length_of-k.ensures.is, (member_inside _ _ _ _ c.requires _ _ _ c.loop-at.invariant (omega arith)).0)

pub overflow_add-n : goal.overflow_add-n
overflow_add-n c = omega (arith, end_low _ _ _ _ c.requires _ _ _ c.loop-at.invariant, c.loop-at.invariant.low)

pub loop-at-smaller : goal.loop-at-smaller
loop-at-smaller c = omega (arith, c.length_of-k.ensures.low)

pub loop-at-preserved : goal.loop-at-preserved
loop-at-preserved c =
    members_more _ _ _ _ c.requires _ _ _ c.loop-at.invariant (omega arith) _ _ c.length_of-k.ensures.is c.put_word.ensures

pub shape_of-s : goal.shape_of-s
shape_of-s c = c.loop-at.invariant.outside.long

pub returns : goal.returns
returns c = members_end _ _ _ _ c.requires _ _ _ c.loop-at.invariant (omega arith)
