-- The tests of the code are those of the definition.
use mathlib.Core.Path.{◌≡◌, sym, ◌∙◌}
use mathlib.Core.Logic.{⊎_elim}
use native.Mathlib.Omega.{arith}
use borrow.Author.Tests.{leb-true, leb-false}
use Rattle.integers.specs.Bytes.{word}
use Rattle.tables.proofs.Cutting.{next_few, next_short, next_past, next_unfit, good, tested}
use Rattle.tables.proofs.Fit.{integer_fit}
use Rattle.tables.proofs.reading.measure.Goals as goal

pub returns-then-part-lt-HEADING : goal.returns-then-part-lt-HEADING
returns-then-part-lt-HEADING c = next_few c.args.part.now c.requires.not_empty c.if-part-lt-HEADING.true

pub returns-then-len-kind-eq-INTEGER_HEADING : goal.returns-then-len-kind-eq-INTEGER_HEADING
returns-then-len-kind-eq-INTEGER_HEADING c =
    let e : word c.args.part.now 0 ≡ 8 = omega (arith, c.if-len-kind-eq-INTEGER_HEADING.true, c.read16-len.ensures.is, c.read16-len.ensures.low, c.read16-kind.ensures.low) in
    let k : word c.args.part.now 2 ≡ 2 = omega (arith, c.if-len-kind-eq-INTEGER_HEADING.true, c.read16-kind.ensures.is, c.read16-len.ensures.low, c.read16-kind.ensures.low) in
    rw c.then_some.ensures
    (tested c.args.part.now _ 8
    (λ h. next_past c.args.part.now c.requires.not_empty c.if-part-lt-HEADING.false (omega arith) (omega (arith, leb-false _ _ h)))
    (λ h. good c.args.part.now c.requires.not_empty 8 (sym e) c.if-part-lt-HEADING.false (omega arith) (leb-true _ _ h) (integer_fit c.args.part.now e k (leb-true _ _ h) (λ i. omega (arith, c.type_inv.part i)))))

pub returns-then-len-lt-HEADING : goal.returns-then-len-lt-HEADING
returns-then-len-lt-HEADING c =
    ⊎_elim (λ h. next_short c.args.part.now c.requires.not_empty c.if-part-lt-HEADING.false (omega (arith, c.read16-len.ensures.is)))
    (λ h. next_past c.args.part.now c.requires.not_empty c.if-part-lt-HEADING.false (omega (arith, c.read16-len.ensures.is, h.0)) (omega (arith, c.read16-len.ensures.is, h.1)))
    c.then-len-lt-HEADING.either

pub returns : goal.returns
returns c =
    rw c.then_some-2.ensures
    (tested c.args.part.now _ c.read16-len.result
    (λ h. next_unfit c.args.part.now c.requires.not_empty c.if-part-lt-HEADING.false (omega (arith, c.read16-len.ensures.is)) (omega (arith, c.read16-len.ensures.is)) (sym c.is_fit.ensures ∙ h))
    (λ h. good c.args.part.now c.requires.not_empty c.read16-len.result c.read16-len.ensures.is c.if-part-lt-HEADING.false c.if-len-lt-HEADING.false c.if-part-len.false (sym c.is_fit.ensures ∙ h)))
