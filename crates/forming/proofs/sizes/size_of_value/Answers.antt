use native.Mathlib.Omega.{arith}
use mathlib.Core.Path.{sym, subst, ◌∙◌}
use Rattle.parts.specs.Part.{PartHeld}
use Rattle.matching.proofs.Counting.{is_held, count_few}
use Rattle.forming.proofs.Sizing.{kind_other, count-is}
use Rattle.forming.proofs.sizes.size_of_value.Goals as goal

pub kind_of_part-own-requires : goal.kind_of_part-own-requires
kind_of_part-own-requires c = subst (PartHeld _) (sym c.unpack-part.ensures) c.requires.0

pub returns-then-own-collection_of : goal.returns-then-own-collection_of
returns-then-own-collection_of c =
    kind_other _ _ c.args.k _ c.unpack-part.ensures _ c.kind_of_part-own.ensures (λ e. c.if-own-collection_of.true (e ∙ sym c.collection_of.ensures)) _

pub count_of_part-n-requires : goal.count_of_part-n-requires
count_of_part-n-requires c =
    is_held c.args.k 0 _ _ _ c.kind_of_part-own.ensures (c.if-own-collection_of.false ∙ c.collection_of.ensures) (subst (PartHeld _) (sym c.unpack-part.ensures) c.requires.0)

pub overflow_cast-result : goal.overflow_cast-result
overflow_cast-result c =
    omega (arith, c.units_of-units.ensures.0, count_few c.args.k 0 _ _ _ c.kind_of_part-own.ensures (c.if-own-collection_of.false ∙ c.collection_of.ensures) _ c.count_of_part-n.ensures (subst (PartHeld _) (sym c.unpack-part.ensures) c.requires.0))

pub returns : goal.returns
returns c =
    count-is _ _ c.args.k _ c.unpack-part.ensures _ c.count_of_part-n.ensures _ (c.units_of-units.ensures.1 c.requires.1)
