use Rattle.evaluator.proofs.Suiting.{suits_let, suits_none, suits_set, suits_items, suits_integers}
use Rattle.evaluator.proofs.binding.suits.Goals as goal

pub returns-then-k-eq-LET : goal.returns-then-k-eq-LET
returns-then-k-eq-LET c = suits_let c.args.k c.requires c.if-k-eq-LET.true

pub returns-then-kind_of-ne-SET : goal.returns-then-kind_of-ne-SET
returns-then-kind_of-ne-SET c = suits_none c.args.k c.requires c.if-k-eq-LET.false c.kind_of.ensures c.if-kind_of-ne-SET.true

pub returns-then-k-ne-SEQUENCE_COMPREHENSION : goal.returns-then-k-ne-SEQUENCE_COMPREHENSION
returns-then-k-ne-SEQUENCE_COMPREHENSION c =
    suits_set c.args.k c.requires c.if-k-eq-LET.false c.kind_of.ensures c.if-kind_of-ne-SET.false c.if-k-ne-SEQUENCE_COMPREHENSION.true

pub all_of_kind-requires : goal.all_of_kind-requires
all_of_kind-requires c =
    suits_items c.args.k c.requires c.if-k-eq-LET.false c.kind_of.ensures c.if-kind_of-ne-SET.false c.length_of-n.ensures.is

pub returns : goal.returns
returns c =
    suits_integers c.args.k c.requires c.if-k-eq-LET.false c.kind_of.ensures c.if-kind_of-ne-SET.false c.if-k-ne-SEQUENCE_COMPREHENSION.false c.length_of-n.ensures.is c.all_of_kind.result c.all_of_kind.ensures
