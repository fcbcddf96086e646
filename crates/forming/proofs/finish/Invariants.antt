use mathlib.Core.List.{List}
use Rattle.patterns.specs.Binding.{Binding}
use Rattle.forming.specs.Frames.{rank}
use Rattle.forming.specs.Stack.{AfterStep}
use Rattle.std.specs.Prelude.{Ok}
use Rattle.forming.proofs.finish.Given as goal

abbrev pub invariant-loop-r : goal.invariant-loop-r
invariant-loop-r l = (target : List Binding) → AfterStep l.sheet l.s l.initial.agenda l.initial.found l.initial.frames l.initial.rows l.initial.order (Ok l.initial.r) target → AfterStep l.sheet l.s l.agenda l.found l.frames l.rows l.order (Ok l.r) target

abbrev pub decreases-loop-r : goal.decreases-loop-r
decreases-loop-r l = rank l.frames l.r.depth
