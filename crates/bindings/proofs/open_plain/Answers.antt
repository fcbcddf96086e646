use Rattle.bindings.proofs.Windows.{plain_holds, plain_asked, plain_told}
use native.Mathlib.Omega.{arith}
use Rattle.bindings.proofs.open_plain.Goals as goal

pub length_of-n-requires : goal.length_of-n-requires
length_of-n-requires c = plain_holds _ c.args.at c.args.whole c.args.to c.args.x c.requires

pub first_at-from-requires : goal.first_at-from-requires
first_at-from-requires c =
    let h = plain_holds _ c.args.at c.args.whole c.args.to c.args.x c.requires in omega (arith, h.low, h.whole, c.requires.short)

pub overflow_add-at : goal.overflow_add-at
overflow_add-at c =
    let h = plain_holds _ c.args.at c.args.whole c.args.to c.args.x c.requires in omega (arith, h.whole, c.requires.short, c.length_of-n.ensures.is)

pub put_members-count-requires : goal.put_members-count-requires
put_members-count-requires c =
    plain_asked _ c.args.at c.args.whole c.args.to c.args.x c.requires _ c.length_of-n.ensures.is _ c.first_at-from.ensures

pub returns : goal.returns
returns c =
    plain_told _ c.args.at c.args.whole c.args.to c.args.x c.requires _ c.length_of-n.ensures.is _ c.first_at-from.ensures _ _ _ c.one_name-names.ensures c.put_members-count.ensures
