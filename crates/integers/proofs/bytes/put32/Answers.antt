-- `integers::bytes::put32` meets its contract: the store of the low half and then of the high one is one store of both.
use mathlib.Core.Path.{sym, ap, ◌∙◌}
use Prim.Native.Nat.{ℕ}
use lib.Seq.{sets}
use mir.Facts.{to_z-of_z}
use mir.Syntax.{w32}
use mir.Val.{of_z}
use Rattle.integers.specs.Bytes.{four}
use Rattle.integers.proofs.Written.{halves_stored, bits_machine}
use Rattle.integers.proofs.bytes.put32.Goals as goal

pub returns : goal.returns
returns c =
    let start = c in
    let s = start.args.s.now in
    let at = start.args.at in
    halves_stored s c.put16.new.s c.put16-2.new.s at _ c.put16.ensures c.put16-2.ensures
    ∙ ap (λ (n : ℕ). sets s at (four n)) (c.cast_unsigned-bits.ensures ∙ ap (of_z w32) (to_z-of_z start.ranges.z) ∙ sym (bits_machine start.args.z))
