-- `replace` meets its contract.
use mathlib.Core.Path.{refl}
use Rattle.values.specs.Value.{map}
use Rattle.operators.specs.Operators.{binary}
use Rattle.calling.proofs.Kinding.{has_two, off_two, on_two}
use Rattle.map_operators.proofs.Agreeing.{entered_all}
use Rattle.map_operators.proofs.replace.Goals as goal

pub enter_all-requires : goal.enter_all-requires
enter_all-requires c = has_two map map c.requires c.kinds_are.ensures c.if-kinds_are.true

pub returns-then-kinds_are : goal.returns-then-kinds_are
unfolding binary
returns-then-kinds_are c =
    on_two (λ v w. refl) (has_two map map c.requires c.kinds_are.ensures c.if-kinds_are.true) c.enter_all.ensures

pub returns : goal.returns
unfolding binary
returns c =
    off_two map map {f = entered_all} (λ v w. refl) c.kinds_are.ensures c.if-kinds_are.false
