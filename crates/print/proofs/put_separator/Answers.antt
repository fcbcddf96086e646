-- `put_separator` meets its contract, case by case.
use mathlib.Core.Path.{sym, ap}
use native.Mathlib.Omega.{arith}
use lib.ListN.{length}
use Rattle.print.specs.Contract.{separator_text}
use Rattle.print.proofs.Writing.{wrote_none, wrote_as}
use Rattle.print.proofs.put_separator.Goals as goal

pub put_bytes-requires : goal.put_bytes-requires
put_bytes-requires c = omega (arith, ap length (ap separator_text c.in-Comma.is))

pub put_bytes-requires-in-Arrow : goal.put_bytes-requires-in-Arrow
put_bytes-requires-in-Arrow c = omega (arith, ap length (ap separator_text c.in-Arrow.is))

pub returns-in-Nothing : goal.returns-in-Nothing
returns-in-Nothing c = wrote_as (ap separator_text (sym c.in-Nothing.is)) (wrote_none c.args.out.now c.args.at)

pub returns-in-Comma : goal.returns-in-Comma
returns-in-Comma c = wrote_as (ap separator_text (sym c.in-Comma.is)) c.put_bytes.ensures

pub returns-in-Arrow : goal.returns-in-Arrow
returns-in-Arrow c = wrote_as (ap separator_text (sym c.in-Arrow.is)) c.put_bytes-in-Arrow.ensures
