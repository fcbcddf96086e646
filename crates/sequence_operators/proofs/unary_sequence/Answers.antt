-- `unary_sequence` meets its contract, by what it calls.
use native.Mathlib.Omega.{arith}
use mathlib.Core.Path.{refl}
use Rattle.values.specs.Value.{sequence}
use Rattle.operators.specs.Operators.{unary}
use Rattle.calling.proofs.Kinding.{has}
use Rattle.calling.proofs.Numbered.{on_unary}
use Rattle.sequence_operators.proofs.Numbered.{not_sequence, is_reverse}
use Rattle.sequence_operators.proofs.unary_sequence.Goals as goal

pub returns-then-kind-ne-SEQUENCE : goal.returns-then-kind-ne-SEQUENCE
returns-then-kind-ne-SEQUENCE c = not_sequence c.requires.1 c.requires.2 c.kind_of-kind.ensures c.if-kind-ne-SEQUENCE.true

pub len-requires : goal.len-requires
len-requires c = has sequence c.requires.0 c.kind_of-kind.ensures c.if-kind-ne-SEQUENCE.false

pub head-requires : goal.head-requires
head-requires c = has sequence c.requires.0 c.kind_of-kind.ensures c.if-kind-ne-SEQUENCE.false

pub tail-requires : goal.tail-requires
tail-requires c = has sequence c.requires.0 c.kind_of-kind.ensures c.if-kind-ne-SEQUENCE.false

pub elements-requires : goal.elements-requires
elements-requires c = has sequence c.requires.0 c.kind_of-kind.ensures c.if-kind-ne-SEQUENCE.false

pub indexes-requires : goal.indexes-requires
indexes-requires c = has sequence c.requires.0 c.kind_of-kind.ensures c.if-kind-ne-SEQUENCE.false

pub flatten-requires : goal.flatten-requires
flatten-requires c = has sequence c.requires.0 c.kind_of-kind.ensures c.if-kind-ne-SEQUENCE.false

pub reverse-requires : goal.reverse-requires
reverse-requires c = has sequence c.requires.0 c.kind_of-kind.ensures c.if-kind-ne-SEQUENCE.false

pub returns-in-7 : goal.returns-in-7
unfolding unary
returns-in-7 c =
    on_unary {m = 7} c.in-7.is (λ v. refl) (has sequence c.requires.0 c.kind_of-kind.ensures c.if-kind-ne-SEQUENCE.false) c.len.ensures

pub returns-in-8 : goal.returns-in-8
unfolding unary
returns-in-8 c =
    on_unary {m = 8} c.in-8.is (λ v. refl) (has sequence c.requires.0 c.kind_of-kind.ensures c.if-kind-ne-SEQUENCE.false) c.head.ensures

pub returns-in-9 : goal.returns-in-9
unfolding unary
returns-in-9 c =
    on_unary {m = 9} c.in-9.is (λ v. refl) (has sequence c.requires.0 c.kind_of-kind.ensures c.if-kind-ne-SEQUENCE.false) c.tail.ensures

pub returns-in-10 : goal.returns-in-10
unfolding unary
returns-in-10 c =
    on_unary {m = 10} c.in-10.is (λ v. refl) (has sequence c.requires.0 c.kind_of-kind.ensures c.if-kind-ne-SEQUENCE.false) c.elements.ensures

pub returns-in-11 : goal.returns-in-11
unfolding unary
returns-in-11 c =
    on_unary {m = 11} c.in-11.is (λ v. refl) (has sequence c.requires.0 c.kind_of-kind.ensures c.if-kind-ne-SEQUENCE.false) c.indexes.ensures

pub returns-in-12 : goal.returns-in-12
unfolding unary
returns-in-12 c =
    on_unary {m = 12} c.in-12.is (λ v. refl) (has sequence c.requires.0 c.kind_of-kind.ensures c.if-kind-ne-SEQUENCE.false) c.flatten.ensures

pub returns-in_default : goal.returns-in_default
unfolding unary
returns-in_default c =
    on_unary {m = 13} (is_reverse c.requires.2 c.requires.1 (omega arith) (omega arith) (omega arith) (omega arith) (omega arith) (omega arith)) (λ v. refl) (has sequence c.requires.0 c.kind_of-kind.ensures c.if-kind-ne-SEQUENCE.false) c.reverse.ensures
