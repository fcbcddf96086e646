-- `merge` meets its contract.
use mathlib.Core.Path.{refl}
use Rattle.values.specs.Value.{map}
use Rattle.operators.specs.Operators.{binary}
use Rattle.calling.proofs.Kinding.{has_two, off_two, on_two}
use Rattle.map_operators.proofs.Agreeing.{merged_maps, merge_done, merge_clash}
use Rattle.map_operators.proofs.merge.Goals as goal

pub compatible-requires : goal.compatible-requires
compatible-requires c = has_two map map c.requires c.kinds_are.ensures c.if-kinds_are.true

pub enter_all-requires : goal.enter_all-requires
enter_all-requires c = has_two map map c.requires c.kinds_are.ensures c.if-kinds_are.true

pub returns-then-compatible : goal.returns-then-compatible
unfolding binary
returns-then-compatible c =
    let h = has_two map map c.requires c.kinds_are.ensures c.if-kinds_are.true in on_two (λ v w. refl) h (merge_done h c.compatible.ensures c.if-compatible.true c.enter_all.ensures)

pub returns-then-kinds_are : goal.returns-then-kinds_are
unfolding binary
returns-then-kinds_are c =
    let h = has_two map map c.requires c.kinds_are.ensures c.if-kinds_are.true in on_two (λ v w. refl) h (merge_clash h c.compatible.ensures c.if-compatible.false)

pub returns : goal.returns
unfolding binary
returns c =
    off_two map map {f = merged_maps} (λ v w. refl) c.kinds_are.ensures c.if-kinds_are.false
