use Rattle.bindings.proofs.Wildcard.{any_holds, any_told}
use native.Mathlib.Omega.{arith}
use Rattle.bindings.proofs.open_any.Goals as goal

pub length_of-n-requires : goal.length_of-n-requires
length_of-n-requires c = any_holds _ c.args.at c.args.whole c.requires.0

pub first_at-from-requires : goal.first_at-from-requires
first_at-from-requires c =
    let h = any_holds _ c.args.at c.args.whole c.requires.0 in omega (arith, h.low, h.whole, c.requires.1)

pub overflow_add-at : goal.overflow_add-at
overflow_add-at c =
    let h = any_holds _ c.args.at c.args.whole c.requires.0 in omega (arith, h.whole, c.requires.1, c.length_of-n.ensures.is)

pub returns : goal.returns
returns c =
    rw c.from.ensures (any_told _ c.args.at c.args.whole _ _ c.length_of-n.ensures.is c.first_at-from.ensures)
