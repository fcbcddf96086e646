use Rattle.matching.proofs.Naming.{nothing_stands}
use Rattle.bindings.proofs.Telling.{at_low, one_asked, one_formed}
use native.Mathlib.Omega.{arith}
use Rattle.bindings.proofs.forms.form_one.Goals as goal

pub overflow_cast-agenda : goal.overflow_cast-agenda
overflow_cast-agenda c = omega (arith, c.requires.readable.here, c.requires.readable.fine.few)

pub overflow_mul-agenda : goal.overflow_mul-agenda
overflow_mul-agenda c = omega (arith, at_low _ _ _ _ _ _ _ _ c.requires)

pub overflow_add-agenda : goal.overflow_add-agenda
overflow_add-agenda c = omega (arith, at_low _ _ _ _ _ _ _ _ c.requires)

pub overflow_cast-agenda-2 : goal.overflow_cast-agenda-2
overflow_cast-agenda-2 c = omega (arith, at_low _ _ _ _ _ _ _ _ c.requires)

pub solve_over-requires : goal.solve_over-requires
solve_over-requires c = one_asked _ _ _ _ _ _ _ _ c.requires _ nothing_stands

pub returns : goal.returns
returns c = one_formed _ _ _ _ _ _ _ _ c.requires _ nothing_stands _ _ _ _ c.solve_over.ensures
