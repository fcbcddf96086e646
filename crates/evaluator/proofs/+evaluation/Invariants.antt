use Rattle.std.specs.Prelude.{not}
use Prim.Native.Nat.{◌+◌}
use Rattle.lists.specs.Lent.{lent}
use Rattle.evaluator.proofs.Comprehending.{Collects}
use Rattle.evaluator.specs.Contract.{env_of}
use Prim.Native.Nat.{◌+◌, ◌*◌}
use Rattle.evaluator.proofs.Enumerating.{Building}
use Rattle.evaluator.specs.Building.{Enumerated}
use Rattle.evaluator.proofs.Enumerating.{Building}
use Rattle.evaluator.proofs.Quantified.{Scans}
use Rattle.evaluator.proofs.Surveying.{Counts}
use Rattle.evaluator.proofs.+evaluation.Given as goal

abbrev pub invariant-built::collect-loop-j : goal.invariant-built::collect-loop-j
invariant-built::collect-loop-j l = Collects l.sheet l.r l.k l.initial.s l.base (env_of l.env) (lent l.initial.run) l.n l.s (lent l.run) l.cursor l.j

abbrev pub decreases-begin : goal.decreases-begin
decreases-begin l = 8 * l.r

abbrev pub decreases-plain::binary : goal.decreases-plain::binary
decreases-plain::binary l = 8 * l.r + 3

abbrev pub decreases-binder : goal.decreases-binder
decreases-binder l = 8 * l.r + 4

abbrev pub decreases-built::collect : goal.decreases-built::collect
decreases-built::collect l = 8 * l.r + 3

abbrev pub decreases-plain::branch : goal.decreases-plain::branch
decreases-plain::branch l = 8 * l.r + 3

abbrev pub decreases-eval : goal.decreases-eval
decreases-eval l = 8 * l.r + 5

abbrev pub decreases-holds : goal.decreases-holds
decreases-holds l = 8 * l.r + 1

abbrev pub decreases-inside : goal.decreases-inside
decreases-inside l = 8 * l.r

abbrev pub decreases-built::item : goal.decreases-built::item
decreases-built::item l = 8 * l.r + 1

abbrev pub decreases-let_in : goal.decreases-let_in
decreases-let_in l = 8 * l.r + 3

abbrev pub decreases-plain::logic : goal.decreases-plain::logic
decreases-plain::logic l = 8 * l.r + 3

abbrev pub decreases-plain::items : goal.decreases-plain::items
decreases-plain::items l = 8 * l.r + 3

abbrev pub decreases-plain::entries : goal.decreases-plain::entries
decreases-plain::entries l = 8 * l.r + 3

abbrev pub decreases-single : goal.decreases-single
decreases-single l = 8 * l.r + 3

abbrev pub decreases-built::pair : goal.decreases-built::pair
decreases-built::pair l = 8 * l.r + 1

abbrev pub decreases-quantify : goal.decreases-quantify
decreases-quantify l = 8 * l.r + 3

abbrev pub decreases-built::step : goal.decreases-built::step
decreases-built::step l = 8 * l.r + 2

abbrev pub decreases-let_be : goal.decreases-let_be
decreases-let_be l = 8 * l.r + 3

abbrev pub decreases-survey : goal.decreases-survey
decreases-survey l = 8 * l.r + 2

abbrev pub decreases-plain::unary : goal.decreases-plain::unary
decreases-plain::unary l = 8 * l.r + 3

abbrev pub invariant-plain::entries-loop-entry : goal.invariant-plain::entries-loop-entry
invariant-plain::entries-loop-entry l = Building l.sheet l.r l.initial.s l.base (env_of l.env) 9 l.n (lent l.initial.run) l.s (lent l.run) l.so_far (2 * l.entry)

abbrev pub invariant-plain::items-loop-i : goal.invariant-plain::items-loop-i
invariant-plain::items-loop-i l = (k-is : Enumerated l.k) × Building l.sheet l.r l.initial.s l.base (env_of l.env) l.k l.n (lent l.initial.run) l.s (lent l.run) l.so_far l.i

abbrev pub invariant-quantify-all : goal.invariant-quantify-all
invariant-quantify-all l = Scans l.sheet l.r l.initial.s l.base (env_of l.env) l.want (lent l.initial.run) l.n l.s (lent l.run) l.cursor l.found l.j

abbrev pub invariant-survey-loop-j : goal.invariant-survey-loop-j
invariant-survey-loop-j l = Counts l.sheet l.r l.initial.s l.base (env_of l.env) (lent l.initial.run) l.due l.all l.s (lent l.run) l.cursor l.count l.at l.j
