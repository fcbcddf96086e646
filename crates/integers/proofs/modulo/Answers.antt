-- `integers::modulo` meets its contract: by 0 there is none, and else `floor_rest` finds it, in range.
use mathlib.Core.Path.{◌≡◌, sym, ap₂, ◌∙◌}
use mir.Facts.{to_z-of_z}
use mir.Syntax.{w32}
use Rattle.integers.specs.Whole.{mod_ℤ}
use Rattle.integers.proofs.Range.{fits_range, divided_zero, divided_other, answer_is}
use Rattle.integers.proofs.Machine.{bits_is, bits_not, zero-fits}
use Rattle.integers.proofs.Ends.{modulus_range}
use Rattle.integers.proofs.modulo.Goals as goal

pub returns-then-right-eq0 : goal.returns-then-right-eq0
returns-then-right-eq0 c =
    let s = c in
    sym (divided_zero (mod_ℤ s.args.left s.args.right) (bits_is s.ranges.right zero-fits c.if-right-eq0.true))

pub floor_rest-requires : goal.floor_rest-requires
floor_rest-requires c =
    let same = sym (to_z-of_z c.ranges.right) in
    λ e. bits_not c.if-right-eq0.false (same ∙ e)

pub returns : goal.returns
returns c =
    let s = c in
    let other = bits_not c.if-right-eq0.false in
    let rest : c.floor_rest.result ≡ mod_ℤ s.args.left s.args.right = c.floor_rest.ensures ∙ ap₂ mod_ℤ (to_z-of_z s.ranges.left) (to_z-of_z s.ranges.right) in
    answer_is (to_z-of_z {w = w32} (record { sfits = c.floor_rest.type_inv }) ∙ rest) (modulus_range s.args.left s.args.right (fits_range s.args.right s.ranges.right) other)
    ∙ sym (divided_other s.args.right (mod_ℤ s.args.left s.args.right) other)
