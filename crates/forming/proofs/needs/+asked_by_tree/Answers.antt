use mathlib.Core.Path.{sym, ◌∙◌}
use native.Mathlib.Omega.{arith}
use Rattle.matching.proofs.Records.{has_operand, operand_readable}
use Rattle.matching.proofs.Counting.{split_kind}
use Rattle.forming.proofs.Reducing.{two_halves}
use Rattle.forming.proofs.Needing.{left_lack, right_lack}
use Rattle.prelude.proofs.Absurd.{impossible}
use Rattle.forming.proofs.needs.+asked_by_tree.Goals as goal

pub kind-k-requires : goal.kind-k-requires
kind-k-requires t c = c.requires.0.readable.here

pub asked_by_names-requires : goal.asked_by_names-requires
asked_by_names-requires t c =
    (c.requires.0, c.requires.1, (split_kind c.args.c c.requires.2).0, sym c.kind-k.ensures.0 ∙ c.if-k-enumeration_of.true ∙ c.enumeration_of.ensures)

pub returns-then-k-enumeration_of : goal.returns-then-k-enumeration_of
returns-then-k-enumeration_of t c = c.asked_by_names.ensures

pub operand-l-requires : goal.operand-l-requires
operand-l-requires t c =
    has_operand _ _ c.requires.0.readable 0 (omega (arith, two_halves _ _ c.requires.0.readable c.args.c (sym c.kind-k.ensures.0 ∙ c.if-k-c.false) (split_kind c.args.c c.requires.2).0))

pub asked_by_tree-requires : goal.asked_by_tree-requires
asked_by_tree-requires t c =
    let o = operand_readable _ _ c.requires.0.readable 0 (omega (arith, two_halves _ _ c.requires.0.readable c.args.c (sym c.kind-k.ensures.0 ∙ c.if-k-c.false) (split_kind c.args.c c.requires.2).0)) _ c.operand-l.ensures.0 in (omega (arith, o.1), (record { readable = o.0; short = c.requires.0.short; standing = c.requires.0.standing }, c.requires.1, c.requires.2))

pub operand-r-requires : goal.operand-r-requires
operand-r-requires t c =
    has_operand _ _ c.requires.0.readable 1 (omega (arith, two_halves _ _ c.requires.0.readable c.args.c (sym c.kind-k.ensures.0 ∙ c.if-k-c.false) (split_kind c.args.c c.requires.2).0))

pub asked_by_tree-requires-2 : goal.asked_by_tree-requires-2
asked_by_tree-requires-2 t c =
    let o = operand_readable _ _ c.requires.0.readable 1 (omega (arith, two_halves _ _ c.requires.0.readable c.args.c (sym c.kind-k.ensures.0 ∙ c.if-k-c.false) (split_kind c.args.c c.requires.2).0)) _ c.operand-r.ensures.0 in (omega (arith, o.1), (record { readable = o.0; short = c.requires.0.short; standing = c.requires.0.standing }, c.requires.1, c.requires.2))

pub returns-then-k-c : goal.returns-then-k-c
returns-then-k-c t c = λ e z. impossible cc

pub returns-in_err-left : goal.returns-in_err-left
returns-in_err-left t c =
    λ e z. left_lack _ _ c.requires.0.readable _ _ _ c.args.c c.requires.2 (sym c.kind-k.ensures.0 ∙ c.if-k-c.false) _ c.operand-l.ensures.0 (c.asked_by_tree.ensures _ c.in_err-left.was)

pub returns-in_err-right : goal.returns-in_err-right
returns-in_err-right t c =
    λ e z. right_lack _ _ c.requires.0.readable _ _ _ c.args.c c.requires.2 (sym c.kind-k.ensures.0 ∙ c.if-k-c.false) _ c.operand-r.ensures.0 (c.asked_by_tree-2.ensures _ c.in_err-right.was)

pub returns-then-left : goal.returns-then-left
returns-then-left t c = λ e z. impossible cc

pub returns-else-left : goal.returns-else-left
returns-else-left t c = λ e z. impossible cc
