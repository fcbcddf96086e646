-- Operands stand after the head.
use Rattle.tables.proofs.Stand.{field_byte, rest_long, operand_within, operand_is}
use lib.ListN.{get_or}
use Rattle.tables.specs.Table.{kind_at}
use Rattle.tables.specs.Shapes.{first_of}
use Rattle.tables.specs.Accepted.{records}
use Rattle.tables.specs.Reading.{place_in, HasOperand}
use Prim.Native.Nat.{ℕ, ◌+◌}
use native.Mathlib.Omega.{arith}
use mathlib.Core.Path.{◌≡◌, ap, ◌∙◌}
use Rattle.tables.proofs.sheet.Sheet.operand_from.Goals as goal

pub overflow_add-first : goal.overflow_add-first
overflow_add-first c =
    let has : HasOperand c.self.inside.table.now c.args.r c.args.i = rw c.self.view_is c.requires.0 in
    let first : c.args.first ≡ first_of (kind_at (records c.self.inside.table.now) c.args.r) = rw c.self.view_is c.requires.1 in
    omega (arith, operand_within c.self.inside.table.now c.self.inside.index.now c.args.r c.self.invariant has.here c.args.i has.has, first)

pub byte_of-requires : goal.byte_of-requires
byte_of-requires c =
    let has : HasOperand c.self.inside.table.now c.args.r c.args.i = rw c.self.view_is c.requires.0 in
    let first : c.args.first ≡ first_of (kind_at (records c.self.inside.table.now) c.args.r) = rw c.self.view_is c.requires.1 in
    omega (arith, operand_within c.self.inside.table.now c.self.inside.index.now c.args.r c.self.invariant has.here c.args.i has.has, c.place-at.ensures, rest_long c.self.inside.table.now c.place-at.result, first)

pub returns : goal.returns
returns c =
    let has : HasOperand c.self.inside.table.now c.args.r c.args.i = rw c.self.view_is c.requires.0 in
    let first : c.args.first ≡ first_of (kind_at (records c.self.inside.table.now) c.args.r) = rw c.self.view_is c.requires.1 in
    rw (← c.self.view_is) (
      c.byte_of.ensures.0
          ∙ field_byte c.self.inside.table.now c.place-at.result (place_in (get_or c.self.inside.index.now c.args.r 0)) (c.args.first + c.args.i) c.place-at.ensures
          ∙ ap (λ (f : ℕ). get_or c.self.inside.table.now (place_in (get_or c.self.inside.index.now c.args.r 0) + (f + c.args.i)) 0) first
          ∙ operand_is c.self.inside.table.now c.self.inside.index.now c.args.r c.self.invariant has.here c.args.i has.has,
      c.byte_of.ensures.1,
    )
