-- `collections::building::enter` meets its contract.
use mathlib.Core.Path.{sym, subst}
use Prim.Native.Nat.{ℕ, ◌+◌}
use native.Mathlib.Omega.{arith}
use Rattle.values.specs.Place.{At}
use Rattle.values.proofs.Records.{holds}
use Rattle.collections.proofs.Sights.{entry}
use Rattle.collections.proofs.Entering.{entered_same, entered_clash, entry_slots, entered_before}
use Rattle.collections.proofs.building.enter.Goals as goal

pub length_of-n-requires : goal.length_of-n-requires
length_of-n-requires c =
    let after_p = c in
    let after_seek = after_p in
    let start = after_seek in
    let r = start.requires in
    let y = entry after_seek.seek.ensures _ after_p.in-Ok.is r.key.held.items r.key.item.value r.key.held.here r.key.item.here in
    holds y.key_at

pub overflow_add-p : goal.overflow_add-p
overflow_add-p c =
    let after_length_of = c in
    let after_p = after_length_of in
    let after_seek = after_p in
    let start = after_seek in
    let r = start.requires in
    let y = entry after_seek.seek.ensures _ after_p.in-Ok.is r.key.held.items r.key.item.value r.key.held.here r.key.item.here in
    let f = y.value_at.fits in
    omega (arith, after_length_of.length_of-n.ensures.is)

pub equal-requires : goal.equal-requires
equal-requires c =
    let after_length_of = c in
    let after_p = after_length_of in
    let after_seek = after_p in
    let start = after_seek in
    let r = start.requires in
    let y = entry after_seek.seek.ensures _ after_p.in-Ok.is r.key.held.items r.key.item.value r.key.held.here r.key.item.here in
    (holds (subst (λ (n : ℕ). At start.args.s.now (after_p.in-Ok.p + n) y.value) (sym after_length_of.length_of-n.ensures.is) y.value_at), r.value.item)

pub returns-then-equal : goal.returns-then-equal
returns-then-equal c =
    let after_equal = c in
    let after_length_of = after_equal in
    let after_p = after_length_of in
    let after_seek = after_p in
    entered_same after_seek.seek.ensures _ after_p.in-Ok.is after_length_of.length_of-n.ensures.is _ after_equal.equal.ensures c.if-equal.true

pub add_entry-requires : goal.add_entry-requires
add_entry-requires c = entry_slots c.seek.ensures _ c.in-Err.is c.requires

pub returns-else-equal : goal.returns-else-equal
returns-else-equal c =
    let after_equal = c in
    let after_length_of = after_equal in
    let after_p = after_length_of in
    let after_seek = after_p in
    entered_clash after_seek.seek.ensures _ after_p.in-Ok.is after_length_of.length_of-n.ensures.is _ after_equal.equal.ensures c.if-equal.false

pub returns-in-Err : goal.returns-in-Err
returns-in-Err c =
    let after_add_entry = c in
    let after_p2 = after_add_entry in
    let after_seek = after_p2 in
    entered_before after_seek.seek.ensures _ after_p2.in-Err.is after_add_entry.add_entry.ensures
