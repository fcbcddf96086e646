-- `collections::building::add_entry` meets its contract.
use Rattle.collections.proofs.Entering.{entry_full, value_gap, key_gap, entry_done}
use Rattle.collections.proofs.building.add_entry.Goals as goal

pub returns-then-n-m-gt-LIMIT : goal.returns-then-n-m-gt-LIMIT
returns-then-n-m-gt-LIMIT c =
    let after_length_of3 = c in
    let after_length_of2 = after_length_of3 in
    let after_length_of = after_length_of2 in
    let start = after_length_of in
    entry_full start.requires.0 start.requires.1 after_length_of.length_of-n.ensures.is after_length_of2.length_of-m.ensures.is after_length_of3.length_of-l.ensures.is c.if-n-m-gt-LIMIT.true

pub put_before-requires : goal.put_before-requires
put_before-requires c =
    let branch = c in
    let after_length_of3 = branch in
    let after_length_of2 = after_length_of3 in
    let after_length_of = after_length_of2 in
    let start = after_length_of in
    value_gap start.requires.0 start.requires.1 after_length_of.length_of-n.ensures.is after_length_of2.length_of-m.ensures.is after_length_of3.length_of-l.ensures.is branch.if-n-m-gt-LIMIT.false

pub put_before-requires-2 : goal.put_before-requires-2
put_before-requires-2 c =
    let after_put_before = c in
    let branch = after_put_before in
    let after_length_of3 = branch in
    let after_length_of2 = after_length_of3 in
    let after_length_of = after_length_of2 in
    let start = after_length_of in
    key_gap start.requires.0 start.requires.1 after_length_of.length_of-n.ensures.is after_length_of2.length_of-m.ensures.is after_length_of3.length_of-l.ensures.is branch.if-n-m-gt-LIMIT.false after_put_before.put_before.ensures

pub returns : goal.returns
returns c =
    let after_put_head = c in
    let after_put_before2 = after_put_head in
    let after_put_before = after_put_before2 in
    let branch = after_put_before in
    let after_length_of3 = branch in
    let after_length_of2 = after_length_of3 in
    let after_length_of = after_length_of2 in
    let start = after_length_of in
    entry_done start.requires.0 start.requires.1 after_length_of.length_of-n.ensures.is after_length_of2.length_of-m.ensures.is after_length_of3.length_of-l.ensures.is branch.if-n-m-gt-LIMIT.false after_put_before.put_before.ensures after_put_before2.put_before-2.ensures after_put_head.put_head.ensures
