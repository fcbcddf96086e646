-- The length less what stands before the operands.
use Rattle.tables.proofs.Fit.{plus_zero}
use Rattle.tables.proofs.Stand.{field_byte, count-is, count_few}
use lib.ListN.{length, get_or}
use Rattle.tables.specs.Record.{named}
use Rattle.tables.specs.Table.{record_at, kind_at}
use Rattle.tables.specs.Shapes.{first_of}
use Rattle.tables.specs.Accepted.{records}
use Rattle.tables.specs.Reading.{place_in, Here}
use Prim.Native.Nat.{ℕ, ◌-◌}
use native.Mathlib.Omega.{arith}
use mathlib.Core.Path.{◌≡◌, ap, ◌∙◌}
use Rattle.tables.proofs.sheet.Sheet.operands_from.Goals as goal

pub overflow_sub-result : goal.overflow_sub-result
overflow_sub-result c =
    let within : Here c.self.inside.table.now c.args.r = rw c.self.view_is c.requires.0 in
    let first : c.args.first ≡ first_of (kind_at (records c.self.inside.table.now) c.args.r) = rw c.self.view_is c.requires.1 in
    let len = c.byte_of-len.ensures.0 ∙ field_byte c.self.inside.table.now c.place-at.result (place_in (get_or c.self.inside.index.now c.args.r 0)) 0 c.place-at.ensures ∙ ap (λ (k : ℕ). get_or c.self.inside.table.now k 0) (plus_zero (place_in (get_or c.self.inside.index.now c.args.r 0))) ∙ count-is c.self.inside.table.now c.self.inside.index.now c.args.r c.self.invariant within in
    omega (arith, len, first)

pub returns : goal.returns
returns c =
    let within : Here c.self.inside.table.now c.args.r = rw c.self.view_is c.requires.0 in
    let first : c.args.first ≡ first_of (kind_at (records c.self.inside.table.now) c.args.r) = rw c.self.view_is c.requires.1 in
    let len = c.byte_of-len.ensures.0 ∙ field_byte c.self.inside.table.now c.place-at.result (place_in (get_or c.self.inside.index.now c.args.r 0)) 0 c.place-at.ensures ∙ ap (λ (k : ℕ). get_or c.self.inside.table.now k 0) (plus_zero (place_in (get_or c.self.inside.index.now c.args.r 0))) ∙ count-is c.self.inside.table.now c.self.inside.index.now c.args.r c.self.invariant within in
    let is : c.byte_of-len.result - c.args.first ≡ length (named (record_at (records c.self.inside.table.now) c.args.r)) = omega (arith, len, first) in
    rw (← c.self.view_is) (is, omega (arith, is, count_few c.self.inside.table.now c.args.r within))
