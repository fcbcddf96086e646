use Rattle.tables.specs.Accepted.{records, Fine}
use Rattle.tables.specs.Reading.{Here}
use Rattle.evaluator.proofs.Loosening.{Left}
use Rattle.evaluator.proofs.looseness.+is_loose_pattern.Given as goal

abbrev pub decreases-is_loose_pattern : goal.decreases-is_loose_pattern
decreases-is_loose_pattern l = l.p

abbrev pub invariant-loop-i : goal.invariant-loop-i
invariant-loop-i l = (f : Fine (records l.sheet)) × (h : Here l.sheet l.p) × Left l.sheet l.p f h l.n l.i
