-- `put_integer` meets its contract.
use mathlib.Core.Path.{ap, ◌∙◌}
use Prim.Native.Nat.{◌+◌}
use lib.IntN.{ℤ}
use lib.Seq.{sets}
use mir.Syntax.{w32}
use mir.ValLaws.{to_z-of_z}
use Rattle.integers.specs.Bytes.{integer_bytes}
use Rattle.values.proofs.Writing.{put_integer}
use Rattle.values.proofs.put_integer.Goals as goal

pub returns : goal.returns
returns c =
    let a = c.args in
    let e = to_z-of_z w32 a.z c.ranges.z in
    put_integer a.s.now _ _ a.at a.z c.requires.1 c.put_head.ensures
    (c.put32.ensures ∙ ap (λ (z : ℤ). sets c.put_head.new.s (a.at + 4) (integer_bytes z)) e) c.requires.0
