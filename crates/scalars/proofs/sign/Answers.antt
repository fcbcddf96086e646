-- `sign` meets its contract: what is computed of the integer is the answer.
use mathlib.Core.Path.{◌≡◌, refl, ap, ◌∙◌}
use native.Mathlib.Omega.{arith}
use Prim.Native.Nat.{ℕ}
use lib.IntN.{ℤ}
use mir.Syntax.{w32}
use mir.Val.{SFits}
use Rattle.integers.specs.Whole.{Number}
use Rattle.integers.specs.Whole as Whole
use Rattle.values.specs.Value.{integer}
use Rattle.operators.specs.Arithmetic.{answered}
use Rattle.operators.specs.Operators.{unary}
use Rattle.calling.proofs.Answering.{one_off, one_gives, gives_same}
use Rattle.calling.proofs.Kinding.{no_integer, needs_off}
use Rattle.scalars.proofs.Numbers.{on_integer, by_unary}
use Rattle.calling.proofs.Pairs.{machine, place_fits}
use Rattle.scalars.proofs.Equals.{fine_one}
use borrow.Author.Rules.{rules}
use Rattle.scalars.proofs.sign.Goals as goal

minus : (operator : ℕ) {z : ℤ} {r : Number} → operator ≡ 2 → SFits w32 z → r ≡ Whole.negation_of (machine z) → unary operator (integer z) ≡ answered r
unfolding unary
minus operator e p h = by_unary 2 operator (λ a. answered (Whole.negation_of a)) e refl p (ap answered h)

absolute : (operator : ℕ) {z : ℤ} {r : Number} → operator ≡ 3 → SFits w32 z → r ≡ Whole.absolute_of (machine z) → unary operator (integer z) ≡ answered r
unfolding unary
absolute operator e p h = by_unary 3 operator (λ a. answered (Whole.absolute_of a)) e refl p (ap answered h)

pub returns-then-kind-ne-INTEGER : goal.returns-then-kind-ne-INTEGER
returns-then-kind-ne-INTEGER c =
    let i = on_integer c.args.operator (omega arith) (omega arith) in one_off (λ v a. i.is v ∙ needs_off i.f (no_integer c.kind_of-kind.ensures c.if-kind-ne-INTEGER.true v a))

pub put_number-requires : goal.put_number-requires
put_number-requires c = (search rules, fine_one c.args.operator c.integer_at-z.ensures (minus c.args.operator c.if-operator-eq-MINUS.true (place_fits c.integer_at-z.ensures) c.neg.ensures))

pub returns-then-operator-eq-MINUS : goal.returns-then-operator-eq-MINUS
returns-then-operator-eq-MINUS c =
    one_gives {f = unary c.args.operator} c.integer_at-z.ensures (gives_same (minus c.args.operator c.if-operator-eq-MINUS.true (place_fits c.integer_at-z.ensures) c.neg.ensures) c.put_number.ensures)

pub put_number-requires-2 : goal.put_number-requires-2
put_number-requires-2 c = (search rules, fine_one c.args.operator c.integer_at-z.ensures (absolute c.args.operator (omega arith) (place_fits c.integer_at-z.ensures) c.abs.ensures))

pub returns : goal.returns
returns c =
    one_gives {f = unary c.args.operator} c.integer_at-z.ensures (gives_same (absolute c.args.operator (omega arith) (place_fits c.integer_at-z.ensures) c.abs.ensures) c.put_number-2.ensures)
