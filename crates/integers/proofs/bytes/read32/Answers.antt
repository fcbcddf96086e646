-- `integers::bytes::read32` meets its contract, from its two halves.
use mathlib.Core.Path.{sym, ap₂, ◌∙◌}
use Prim.Native.Nat.{ℕ, ◌+◌, ◌*◌}
use mir.Syntax.{w32}
use mir.Facts.{to_z-of_z}
use Rattle.integers.specs.Bytes.{of_bits}
use Rattle.integers.proofs.Written.{machine_bits}
use Rattle.integers.proofs.bytes.read32.Goals as goal

pub returns : goal.returns
returns c =
    to_z-of_z {w = w32} (record { sfits = c.cast_signed.type_inv })
    ∙ c.cast_signed.ensures
    ∙ sym (machine_bits (c.read16-low.result + 65536 * c.read16-high.result))
    ∙ ap₂ (λ (l h : ℕ). of_bits (l + 65536 * h)) c.read16-low.ensures.is c.read16-high.ensures.is
