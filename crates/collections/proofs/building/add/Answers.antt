-- `collections::building::add` meets its contract.
use Rattle.collections.proofs.Additions.{add_full, add_gap, addition_done}
use Rattle.collections.proofs.building.add.Goals as goal

pub returns-then-n-m-gt-LIMIT : goal.returns-then-n-m-gt-LIMIT
returns-then-n-m-gt-LIMIT c = add_full c.requires.0 c.length_of-n.ensures.is c.length_of-m.ensures.is c.if-n-m-gt-LIMIT.true

pub put_before-requires : goal.put_before-requires
put_before-requires c =
    let branch = c in
    let after_length_of2 = branch in
    let after_length_of = after_length_of2 in
    let start = after_length_of in
    add_gap start.requires.0 after_length_of.length_of-n.ensures.is after_length_of2.length_of-m.ensures.is branch.if-n-m-gt-LIMIT.false

pub returns : goal.returns
returns c =
    let after_put_head = c in
    let after_put_before = after_put_head in
    let branch = after_put_before in
    let after_length_of2 = branch in
    let after_length_of = after_length_of2 in
    let start = after_length_of in
    addition_done start.requires.0 after_length_of.length_of-n.ensures.is after_length_of2.length_of-m.ensures.is branch.if-n-m-gt-LIMIT.false after_put_before.put_before.ensures after_put_head.put_head.ensures
