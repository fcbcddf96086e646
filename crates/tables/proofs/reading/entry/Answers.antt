-- Place, kind and second field, each below the weight of the next.
use native.Mathlib.Omega.{arith}
use Rattle.tables.proofs.reading.entry.Goals as goal

pub returns : goal.returns
returns c =
    record { place = omega (arith, c.requires.0, c.from-kind.ensures, c.second_field-second.ensures.1); kind = omega (arith, c.requires.0, c.from-kind.ensures, c.second_field-second.ensures.1); second = λ h. omega (arith, c.requires.0, c.from-kind.ensures, c.second_field-second.ensures.0 h, c.second_field-second.ensures.1) }
