-- A table as both meanings read it, and what they take alike from values: what an enumeration's values make, and the name of an iota.
use Rattle.std.specs.Prelude.{ℕ}
use Rattle.values.specs.Value.{Kind, set, sequence, map, tuple, Items}
use Rattle.operators.specs.Answer.{Answer}
use Rattle.operators.specs.Enumerations.{set_of, sequence_of, map_of, tuple_of}
use Rattle.patterns.specs.Pattern.{Pattern, name, any, literal, each, halved}
use Rattle.meaning.specs.Node.{Node}

-- Each record's node, each record's pattern, and the number of records.
pub record Sheet : Type 0 where
  pub node : ℕ → Node
  pub pattern : ℕ → Pattern
  pub size : ℕ

-- Kinds 7, 8, 9 and 10, of the values of their operands.
abbrev pub enumerated : Kind → Items → Answer
enumerated set vs = set_of vs
enumerated sequence vs = sequence_of vs
enumerated map vs = map_of vs
enumerated tuple vs = tuple_of vs

-- iota's pattern is a name ("In 17 and 19 P is kind 32"); what stands for the others is of no account.
abbrev pub pattern_name : Pattern → ℕ
pattern_name (name x) = x
pattern_name any = 0
pattern_name (literal w) = 0
pattern_name (each k ps) = 0
pattern_name (halved k p q) = 0
