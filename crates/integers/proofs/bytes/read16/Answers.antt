-- `integers::bytes::read16` meets its contract: each byte is below 256.
use Prim.Native.Nat.{◌+◌}
use native.Mathlib.Omega.{arith}
use borrow.Author.Rules.{rules}
use Rattle.integers.proofs.bytes.read16.Goals as goal

pub overflow_cast-result : goal.overflow_cast-result
overflow_cast-result c = omega (arith, c.type_inv.s c.args.at)

pub overflow_cast-result-2 : goal.overflow_cast-result-2
overflow_cast-result-2 c = omega (arith, c.type_inv.s (c.args.at + 1))

pub overflow_mul-result : goal.overflow_mul-result
overflow_mul-result c = omega (arith, c.type_inv.s (c.args.at + 1))

pub overflow_add-result-2 : goal.overflow_add-result-2
overflow_add-result-2 c =
    let at = c.args.at in
    omega (arith, c.type_inv.s at, c.type_inv.s (at + 1))

pub returns : goal.returns
returns c =
    let at = c.args.at in
    record { is = search rules; low = omega (arith, c.type_inv.s at, c.type_inv.s (at + 1)) }
