-- From q on, the bits around what is named stand.
use Prim.Native.Nat.{◌+◌, ◌-◌}
use native.Mathlib.Omega.{arith}
use mathlib.Core.Path.{◌≡◌, sym}
use Rattle.checking.proofs.scope.fill_around.Goals as goal

pub loop-q-init : goal.loop-q-init
loop-q-init c = (omega arith, rw c.requires.kept.whole.all c.requires.around)

pub push-requires : goal.push-requires
push-requires c =
    let back : c.loop-q.q - 1 + 1 ≡ c.loop-q.q = omega (arith, c.loop-q-test.true) in record { here = record { few = c.requires.kept.whole.few; within = omega (arith, c.loop-q-test.true, c.loop-q.invariant.0, c.requires.kept.whole.all) }; clear = c.requires.kept.clear; below = c.requires.below; around = rw back c.loop-q.invariant.1 }

pub loop-q-preserved : goal.loop-q-preserved
loop-q-preserved c = (omega (arith, c.loop-q-test.true, c.loop-q.invariant.0), c.push.ensures)

pub returns : goal.returns
returns c =
    let none : c.loop-q.q ≡ 0 = omega (arith, c.loop-q-test.false) in rw (sym none) c.loop-q.invariant.1
