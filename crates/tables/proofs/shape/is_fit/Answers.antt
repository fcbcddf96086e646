-- By kind, by length, by the first field where it is tested.
use mathlib.Core.Path.{◌≡◌, sym, ap, ◌∙◌}
use mathlib.Core.Bool.{true, ◌||◌}
use native.Mathlib.Omega.{arith}
use Rattle.tables.proofs.Fit.{fit_beyond, fit_unfit, fit_first, fit_untested, tested_within}
use Prim.Native.Nat.{ℕ, ◌-◌}
use lib.ListN.{get_or}
use Rattle.tables.specs.Record.{shape, is_expression, is_pattern, fits}
use Rattle.tables.specs.Shapes.{is_tested, known_first}
use Rattle.tables.proofs.shape.is_fit.Goals as goal
use Rattle.tables.proofs.shape.is_fit.Goals.{then-kind-gt-LAST-via-then-kind-gt-LAST, then-kind-gt-LAST-via-else-kind-gt-LAST+then-not-fits_kind}

pub returns-then-kind-gt-LAST : goal.returns-then-kind-gt-LAST
returns-then-kind-gt-LAST c =
    let (kind, len, least, most) = c.requires.head_read in
    elim c.then-kind-gt-LAST.branch [
      | then-kind-gt-LAST-via-then-kind-gt-LAST w ↦ fit_beyond c.args.part.now (omega (arith, kind, w.if-kind-gt-LAST.true))
      | then-kind-gt-LAST-via-else-kind-gt-LAST+then-not-fits_kind w ↦ fit_unfit c.args.part.now c.args.len len least most (sym w.if-not-fits_kind.true ∙ w.fits_kind.ensures ∙ ap (λ (k : ℕ). fits (shape k) (c.args.len - 4)) kind)
    ]

pub bounds-part-4 : goal.bounds-part-4
bounds-part-4 c =
    let (kind, len, least, most) = c.requires.head_read in
    let fit : true ≡ fits (shape _) (c.args.len - 4) = sym c.if-not-fits_kind.false ∙ c.fits_kind.ensures ∙ ap (λ (k : ℕ). fits (shape k) (c.args.len - 4)) kind in
    omega (arith, tested_within c.args.part.now c.args.len len least most fit (omega (arith, c.if-kind-gt-LAST.false)) (sym (ap is_tested kind) ∙ sym c.is_tested.ensures ∙ c.if-is_tested.true))

pub returns-then-is_tested : goal.returns-then-is_tested
returns-then-is_tested c =
    let (kind, len, least, most) = c.requires.head_read in
    let fit : true ≡ fits (shape _) (c.args.len - 4) = sym c.if-not-fits_kind.false ∙ c.fits_kind.ensures ∙ ap (λ (k : ℕ). fits (shape k) (c.args.len - 4)) kind in
    c.is_known.ensures ∙ ap (λ (n : ℕ). known_first (shape c.args.kind).head n) c.from.ensures
    ∙ ap (λ (k : ℕ). known_first (shape k).head (get_or c.args.part.now 4 0)) kind
    ∙ sym (fit_first c.args.part.now c.args.len len least most fit (tested_within c.args.part.now c.args.len len least most fit (omega (arith, c.if-kind-gt-LAST.false)) (sym (ap is_tested kind) ∙ sym c.is_tested.ensures ∙ c.if-is_tested.true)) (λ i. omega (arith, c.type_inv.part i)))

pub returns-else-is_tested : goal.returns-else-is_tested
returns-else-is_tested c =
    let (kind, len, least, most) = c.requires.head_read in
    let fit : true ≡ fits (shape _) (c.args.len - 4) = sym c.if-not-fits_kind.false ∙ c.fits_kind.ensures ∙ ap (λ (k : ℕ). fits (shape k) (c.args.len - 4)) kind in
    c.is_kind.ensures ∙ ap (λ (k : ℕ). is_expression k || is_pattern k) kind
    ∙ sym (fit_untested c.args.part.now c.args.len len least most fit (omega (arith, c.if-kind-gt-LAST.false)) (sym (ap is_tested kind) ∙ sym c.is_tested.ensures ∙ c.if-is_tested.false) (λ i. omega (arith, c.type_inv.part i)))
