-- `unary_map` meets its contract, by what it calls.
use mathlib.Core.Path.{refl}
use Rattle.values.specs.Value.{map}
use Rattle.operators.specs.Operators.{unary}
use Rattle.calling.proofs.Kinding.{has}
use Rattle.calling.proofs.Numbered.{on_unary}
use Rattle.map_operators.proofs.Numbered.{not_map, not_fourteen}
use Rattle.map_operators.proofs.unary_map.Goals as goal

pub returns-then-kind-ne-MAP : goal.returns-then-kind-ne-MAP
returns-then-kind-ne-MAP c = not_map c.requires.1 c.requires.2 c.kind_of-kind.ensures c.if-kind-ne-MAP.true

pub domain-requires : goal.domain-requires
domain-requires c = has map c.requires.0 c.kind_of-kind.ensures c.if-kind-ne-MAP.false

pub returns-then-operator-eq-DOM : goal.returns-then-operator-eq-DOM
unfolding unary
returns-then-operator-eq-DOM c =
    on_unary {m = 14} c.if-operator-eq-DOM.true (λ v. refl) (has map c.requires.0 c.kind_of-kind.ensures c.if-kind-ne-MAP.false) c.domain.ensures

pub range-requires : goal.range-requires
range-requires c = has map c.requires.0 c.kind_of-kind.ensures c.if-kind-ne-MAP.false

pub returns : goal.returns
unfolding unary
returns c =
    on_unary {m = 15} (not_fourteen c.requires.2 c.requires.1 c.if-operator-eq-DOM.false) (λ v. refl) (has map c.requires.0 c.kind_of-kind.ensures c.if-kind-ne-MAP.false) c.range.ensures
