-- A record that is left is in the table.
use mathlib.Core.Path.{◌≡◌, refl, sym, ◌∙◌}
use lib.ListN.{get_or}
use Rattle.checking.specs.Sweeps.{asked}
use Rattle.checking.proofs.Gathering.{added_told}
use Rattle.checking.proofs.sweep.add_operand.Goals as goal

pub returns : goal.returns
returns c =
    let sort : get_or c.args.left.now c.args.n 0 ≡ asked c.args.role = c.if-left-n.false ∙ c.wanted.ensures in
    let kind = sym c.is_named.ensures ∙ c.if-not-is_named.false in
    let hands = sym c.in_ok-free.ensures in
    added_told (record { sort = sort; kind = kind; left_is = refl; handed = c.in_ok-free.free; hands = hands; held = c.union.ensures; free = c.union-2.ensures })
