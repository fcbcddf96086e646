-- orders
use native.Mathlib.Omega.{arith}
use Rattle.matching.proofs.Placing.{few_orders, two_orders, three_orders, four_orders}
use Rattle.matching.proofs.nodes.orders.Goals as goal

pub returns-in-2 : goal.returns-in-2
returns-in-2 c = (two_orders _ c.in-2.is, omega arith, omega arith)

pub returns-in-3 : goal.returns-in-3
returns-in-3 c = (three_orders _ c.in-3.is, omega arith, omega arith)

pub returns-in-0 : goal.returns-in-0
returns-in-0 c = few_orders _ (omega arith)

pub returns-in_default : goal.returns-in_default
returns-in_default c = (four_orders _ (omega (arith, c.requires)), omega arith, omega arith)
