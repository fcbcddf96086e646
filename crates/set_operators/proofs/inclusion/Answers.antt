-- `set_operators::inclusion` meets its contract.
use native.Mathlib.Omega.{arith}
use Rattle.set_operators.proofs.Answers.{inclusion_off, inclusion_room, subset_done, psubset_done}
use Rattle.set_operators.proofs.inclusion.Goals as goal

pub returns-then-not-two_sets : goal.returns-then-not-two_sets
returns-then-not-two_sets c = inclusion_off c.two_sets.ensures c.requires.1 c.requires.2 c.if-not-two_sets.true

pub all_in-inside-requires : goal.all_in-inside-requires
all_in-inside-requires c = inclusion_room c.two_sets.ensures c.if-not-two_sets.false _ c.length_of-n.ensures.is

pub returns-then-operator-eq-SUBSET : goal.returns-then-operator-eq-SUBSET
returns-then-operator-eq-SUBSET c =
    subset_done c.two_sets.ensures c.if-not-two_sets.false _ c.length_of-n.ensures.is c.all_in-inside.ensures c.if-operator-eq-SUBSET.true c.put_truth.ensures

pub returns : goal.returns
returns c =
    psubset_done c.two_sets.ensures c.if-not-two_sets.false _ c.length_of-n.ensures.is c.all_in-inside.ensures (omega arith) c.equal-same.ensures c.put_truth-2.ensures
