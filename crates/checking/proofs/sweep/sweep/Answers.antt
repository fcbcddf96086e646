-- All records are added, and the last one closes the sheet.
use mathlib.Core.Path.{◌≡◌}
use Prim.Native.Nat.{suc, ◌-◌}
use lib.ListN.{length}
use native.Mathlib.Omega.{arith}
use Rattle.tables.specs.Accepted.{records}
use Rattle.checking.proofs.Leaving.{left_start}
use Rattle.checking.proofs.Adding.{none_kept, closed_keeps, keeps_closed}
use Rattle.checking.proofs.sweep.sweep.Goals as goal

pub add_records-requires : goal.add_records-requires
add_records-requires c =
    record { whole = c.requires.0; left_is = left_start (records c.args.sheet.now); kept = none_kept (records c.args.sheet.now) }

pub returns-then-add_records : goal.returns-then-add_records
returns-then-add_records c =
    let last : suc (c.args.count - 1) ≡ length (records c.args.sheet.now) = omega (arith, c.requires.0.all, c.requires.1) in
    let passed = c.add_records.ensures.0 c.if-add_records.true in (
      λ e. closed_keeps (records c.args.sheet.now) _ _ (c.args.count - 1) last c.requires.0.few passed (c.is_closed.ensures.0 e),
      λ keeps. c.is_closed.ensures.1 (keeps_closed (records c.args.sheet.now) _ _ (c.args.count - 1) last c.requires.0.few passed keeps),
    )
