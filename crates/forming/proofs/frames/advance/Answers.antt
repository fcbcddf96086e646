use Rattle.forming.proofs.Framing.{advanced, not_advanced}
use native.Mathlib.Omega.{arith}
use mathlib.Core.Path.{refl}
use Rattle.forming.proofs.frames.advance.Goals as goal

pub store-requires : goal.store-requires
store-requires c = c.requires

pub overflow_add-result : goal.overflow_add-result
overflow_add-result c = omega (arith, c.requires.0)

pub returns-then-way-f : goal.returns-then-way-f
returns-then-way-f c = advanced _ _ _ _ _ refl (omega arith) c.store.ensures

pub returns : goal.returns
returns c = not_advanced _ _ _ (omega arith)
