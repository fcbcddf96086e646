-- `put_boolean` meets its contract.
use mathlib.Core.Path.{sym, ap}
use native.Mathlib.Omega.{arith}
use lib.ListN.{length}
use Rattle.print.specs.Text.{truth_text}
use Rattle.print.proofs.Writing.{wrote_as}
use Rattle.print.proofs.put_boolean.Goals as goal

pub put_bytes-requires : goal.put_bytes-requires
put_bytes-requires c = omega (arith, ap length (ap truth_text c.if-b.true))

pub returns-then-b : goal.returns-then-b
returns-then-b c = wrote_as (ap truth_text (sym c.if-b.true)) c.put_bytes.ensures

pub put_bytes-requires-2 : goal.put_bytes-requires-2
put_bytes-requires-2 c = omega (arith, ap length (ap truth_text c.if-b.false))

pub returns : goal.returns
returns c = wrote_as (ap truth_text (sym c.if-b.false)) c.put_bytes-2.ensures
