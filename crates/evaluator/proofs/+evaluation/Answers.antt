-- The cycle of the evaluator, member by member.
use Prim.Native.Nat.{◌+◌}
use native.Mathlib.Omega.{arith}
use mathlib.Core.Path.{refl, sym, subst, ap, ◌∙◌}
use Rattle.evaluator.proofs.Firsts.{plain_first, binder_first, enumerated_first, after_binary, after_unary}
use Rattle.evaluator.specs.Binding.{Binder}
use Rattle.evaluator.proofs.Tables.{room_here, small_place, here}
use Rattle.evaluator.proofs.Standing.{binder_has, binder_readable}
use Rattle.evaluator.proofs.Members.{first_asked, next_asked, strict_kind, binary_left, binary_right, binary_off, binary_off_right, binary_held, binary_done, eval_last, unmatched, if_test, if_then, if_else, if_off, if_bad, if_yes, if_no, two_field, strictly, seven_or_eight, logic_left, logic_next, logic_off, logic_held, logic_done, logic_bad, logic_off_right, logic_both, logic_right_held, unary_has, unary_field, unary_off, unary_held, unary_done}
use Rattle.evaluator.proofs.Beginning.{begin_off, begin_held, begin_unfit, begin_lent}
use Rattle.evaluator.proofs.Placing.{begin_opened, test_judged}
use Rattle.evaluator.proofs.Coming.{no_value, answer_ok, answer_err}
use Rattle.std.proofs.lemmas.Result.{err_from_is_err_and}
use Rattle.std.specs.Prelude.{Ok, Err}
use Rattle.evaluator.proofs.Letting.{way_taken}
use Rattle.tables.specs.Shapes.{first_of}
use Rattle.calling.proofs.Framing.{kept_same}
use mathlib.Core.Logic.{inl, inr}
use Rattle.evaluator.proofs.Giving.{single_held, gives_at}
use Rattle.evaluator.proofs.Comprehending.{collect_off, collect_room, collect_start, collect_whole, kind_as, collects_extends, collects_off, collects_more, collects_copyable, collects_end}
use Rattle.evaluator.proofs.Enumerating.{building_start, building_has, building_ask, key_off, second_has, value_ask, value_off, pair_held, pair_next, building_finish, building_end, from_entry, empties_kept, building_off, building_held, building_more}
use Rattle.evaluator.proofs.Entering.{test_off, test_held, inside_asked, inside_done}
use Rattle.evaluator.proofs.Extending.{which_one, extends_has, pair_has, extends_as, extended_as}
use Rattle.evaluator.proofs.Adding.{item_off, item_held, item_done, pair_off, pair_stands, pair_value_off, pair_held as pair_added, pair_done, step_off, step_false, step_extends, step_true}
use Rattle.evaluator.proofs.Simple.{built_small}
use Rattle.evaluator.proofs.Deciding.{let_be_has, let_in_binder, let_in_readable, picks_as, quantify_kind, begins_as, surveys_as, seventeen, single_off}
use Rattle.evaluator.proofs.Letting.{let_be_off, let_be_none, let_be_some, let_be_unchosen, let_be_stands, let_be_body_off, let_be_copyable, let_be_done, let_in_off, let_in_none, let_in_some, let_in_unchosen, let_in_stands, let_in_body_off, let_in_copyable, let_in_done}
use Rattle.evaluator.proofs.Quantified.{Settled, settled_as, scans_end, scans_hit, scans_stands, scans_off, scans_more, quantify_off, quantify_start, quantify_whole, quantify_done}
use Rattle.evaluator.proofs.Unique.{exists1_done, iota_not, iota_stands, iota_done}
use borrow.Author.Tests.{eq-eqb, ne_eqb}
use Rattle.evaluator.proofs.Coming.{comes_sound}
use Rattle.evaluator.proofs.Quieting.{quiet}
use Rattle.evaluator.proofs.Surveying.{counts_end, counts_stands, counts_off, counts_more, survey_off, survey_start, survey_whole}
use Rattle.lists.specs.Lent.{lent}
use Rattle.evaluator.specs.Contract.{env_of}
use Rattle.evaluator.proofs.+evaluation.Goals as goal
use Rattle.evaluator.proofs.+evaluation.Goals.{quantify-else-all-test, quantify-then-all-test+in_ok-holds+then-branch-want, survey-then-branch, survey-then-count-due, survey-else-count-due, survey-else-branch, binder-in_default-via-then-k-lt16, binder-in_default-via-else-k-lt16+else-k-lt21, eval-in_default-via-then-k-lt1, eval-in_default-via-else-k-lt1+else-k-lt9, eval-in-10-1, eval-in_default+else-k-lt1+then-k-lt9}
use Rattle.std.specs.Prelude.{Some}
use Rattle.evaluator.proofs.Placing.{judged_as, judged_some, judged_none}
use Rattle.evaluator.proofs.Deciding.{beq_same, beq_not}
use Rattle.evaluator.proofs.Enumerating.{building_even}

pub begin-noted_operand-a-requires : goal.begin-noted_operand-a-requires
begin-noted_operand-a-requires t c = (binder_has c.requires.0 (subst Binder (sym c.requires.1) c.requires.2) 1 (omega arith), plain_first c.requires.1 (omega (arith, c.requires.2)) (omega (arith, c.requires.2)), omega arith)

pub begin-eval-requires : goal.begin-eval-requires
begin-eval-requires t c = let h = first_asked c.requires.0 (binder_has c.requires.0 (subst Binder (sym c.requires.1) c.requires.2) 1 (omega arith)) c.noted_operand-a.ensures.0 in (omega (arith, h.0, c.decreases), h.1)

pub begin-shape_of-s-in_err-eval : goal.begin-shape_of-s-in_err-eval
begin-shape_of-s-in_err-eval t c = c.in_err-eval.ensures.kept.long

pub begin-returns-in_err-eval : goal.begin-returns-in_err-eval
begin-returns-in_err-eval t c = let p = err_from_is_err_and c.from_residual.result c.from_residual.ensures.1 in rw (p.1, p.2) (begin_off c.requires.0 c.args.k c.noted_operand-a.ensures.0 c.in_err-eval.ensures no_value refl)

pub begin-suits-requires : goal.begin-suits-requires
begin-suits-requires t c = begin_held c.requires.0 c.args.k c.noted_operand-a.ensures.0 c.in_ok-eval.ensures refl

pub begin-shape_of-s-then-not-suits : goal.begin-shape_of-s-then-not-suits
begin-shape_of-s-then-not-suits t c = c.in_ok-eval.ensures.kept.long

pub begin-returns-then-not-suits : goal.begin-returns-then-not-suits
begin-returns-then-not-suits t c = begin_unfit c.requires.0 c.args.k c.noted_operand-a.ensures.0 c.in_ok-eval.ensures refl c.suits.ensures c.if-not-suits.true (ap Err c.at.ensures)

pub begin-operand_from-p-requires : goal.begin-operand_from-p-requires
begin-operand_from-p-requires t c = (binder_has c.requires.0 (subst Binder (sym c.requires.1) c.requires.2) 0 (omega arith), plain_first c.requires.1 (omega (arith, c.requires.2)) (omega (arith, c.requires.2)))

pub begin-overflow_add-base : goal.begin-overflow_add-base
begin-overflow_add-base t c = omega (arith, room_here c.requires.0, c.requires.0.low)

pub begin-open-opened-requires : goal.begin-open-opened-requires
begin-open-opened-requires t c =
    (record {
      readable = binder_readable c.requires.0 (subst Binder (sym c.requires.1) c.requires.2) c.operand_from-p.ensures.0;
      lent = begin_lent c.requires.0 c.args.k c.noted_operand-a.ensures.0 c.in_ok-eval.ensures refl c.suits.ensures c.if-not-suits.false;
    })

pub begin-shape_of-s : goal.begin-shape_of-s
begin-shape_of-s t c = (begin_opened c.requires.0 c.args.k c.noted_operand-a.ensures.0 c.in_ok-eval.ensures refl c.suits.ensures c.if-not-suits.false c.operand_from-p.ensures.0 c.open-opened.ensures c.at_record.ensures).kept.long

pub begin-returns : goal.begin-returns
begin-returns t c = begin_opened c.requires.0 c.args.k c.noted_operand-a.ensures.0 c.in_ok-eval.ensures refl c.suits.ensures c.if-not-suits.false c.operand_from-p.ensures.0 c.open-opened.ensures c.at_record.ensures

pub plain::binary-first_of_two-first-requires : goal.plain::binary-first_of_two-first-requires
plain::binary-first_of_two-first-requires t c = strict_kind c.args.sheet.now c.args.r c.requires.2

pub plain::binary-operand_from-a-requires : goal.plain::binary-operand_from-a-requires
plain::binary-operand_from-a-requires t c = (binary_left c.requires.0 c.requires.1 c.requires.2, c.first_of_two-first.ensures ∙ sym (ap first_of c.requires.1))

pub plain::binary-eval-requires : goal.plain::binary-eval-requires
plain::binary-eval-requires t c = let h = first_asked c.requires.0 (binary_left c.requires.0 c.requires.1 c.requires.2) c.operand_from-a.ensures.0 in (omega (arith, h.0, c.decreases), h.1)

pub plain::binary-returns-in_err-eval : goal.plain::binary-returns-in_err-eval
plain::binary-returns-in_err-eval t c = let p = err_from_is_err_and c.from_residual.result c.from_residual.ensures.1 in rw (p.1, p.2) (binary_off c.requires.0 c.requires.1 c.requires.2 c.operand_from-a.ensures.0 c.in_err-eval.ensures no_value)

pub plain::binary-operand_from-b-requires : goal.plain::binary-operand_from-b-requires
plain::binary-operand_from-b-requires t c = (binary_right c.requires.0 c.requires.1 c.requires.2, c.first_of_two-first.ensures ∙ sym (ap first_of c.requires.1))

pub plain::binary-eval-requires-2 : goal.plain::binary-eval-requires-2
plain::binary-eval-requires-2 t c = let h = next_asked c.requires.0 (c.args.base + 512) (binary_right c.requires.0 c.requires.1 c.requires.2) c.operand_from-b.ensures.0 c.in_ok-eval.ensures (kept_same _ _) (omega arith) (omega arith) in (omega (arith, h.0, c.decreases), h.1)

pub plain::binary-returns-in_err-eval-2 : goal.plain::binary-returns-in_err-eval-2
plain::binary-returns-in_err-eval-2 t c = let p = err_from_is_err_and c.from_residual-in_err-eval-2.result c.from_residual-in_err-eval-2.ensures.1 in rw (p.1, p.2) (binary_off_right c.requires.0 c.requires.1 c.requires.2 c.operand_from-a.ensures.0 c.in_ok-eval.ensures refl c.operand_from-b.ensures.0 c.in_err-eval-2.ensures no_value)

pub plain::binary-two-requires : goal.plain::binary-two-requires
plain::binary-two-requires t c = binary_held c.requires.0 c.requires.1 c.requires.2 c.operand_from-a.ensures.0 c.in_ok-eval.ensures refl c.operand_from-b.ensures.0 c.in_ok-eval-2.ensures refl

pub plain::binary-returns : goal.plain::binary-returns
plain::binary-returns t c = binary_done c.requires.0 c.requires.1 c.requires.2 c.operand_from-a.ensures.0 c.in_ok-eval.ensures refl c.operand_from-b.ensures.0 c.in_ok-eval-2.ensures refl c.two.ensures c.at_record.ensures

pub binder-quantify-requires : goal.binder-quantify-requires
binder-quantify-requires t c = (omega (arith, c.decreases), (c.requires.0, c.requires.1, c.is_quantifier.ensures.yes c.if-is_quantifier.true))

pub binder-returns-then-is_quantifier : goal.binder-returns-then-is_quantifier
binder-returns-then-is_quantifier t c = c.quantify.ensures

pub binder-let_in-requires : goal.binder-let_in-requires
binder-let_in-requires t c = (omega (arith, c.decreases), (c.requires.0, c.requires.1 ∙ c.in-12.is))

pub binder-let_be-requires : goal.binder-let_be-requires
binder-let_be-requires t c = (omega (arith, c.decreases), (c.requires.0, c.requires.1 ∙ c.in-13.is))

pub binder-single-requires : goal.binder-single-requires
binder-single-requires t c = (omega (arith, c.decreases), (c.requires.0, c.requires.1, (omega (arith, c.in-16.is), omega (arith, c.in-16.is))))

pub binder-single-requires-in-17 : goal.binder-single-requires-in-17
binder-single-requires-in-17 t c = (omega (arith, c.decreases), (c.requires.0, c.requires.1, (omega (arith, c.in-17.is), omega (arith, c.in-17.is))))

pub binder-collect-requires : goal.binder-collect-requires
binder-collect-requires t c = (omega (arith, c.decreases), (c.requires.0, c.requires.1, (omega arith, omega arith)))

pub binder-returns-in-12 : goal.binder-returns-in-12
binder-returns-in-12 t c = c.let_in.ensures

pub binder-returns-in-13 : goal.binder-returns-in-13
binder-returns-in-13 t c = c.let_be.ensures

pub binder-returns-in-16 : goal.binder-returns-in-16
binder-returns-in-16 t c = c.single.ensures

pub binder-returns-in-17 : goal.binder-returns-in-17
binder-returns-in-17 t c = c.single-in-17.ensures

pub binder-returns-in-18 : goal.binder-returns-in-18
binder-returns-in-18 t c = c.collect.ensures

pub binder-returns-in_default : goal.binder-returns-in_default
binder-returns-in_default t c = eval_last c.requires.0 (sym c.requires.1) (unmatched c.requires.2 (c.is_quantifier.ensures.no c.if-is_quantifier.false) ((((tt, omega arith), omega arith), omega arith), omega arith)
    (elim c.in_default.branch [ binder-in_default-via-then-k-lt16 w ↦ inl (omega arith) | binder-in_default-via-else-k-lt16+else-k-lt21 w ↦ inr (omega arith) ])) (ap Err c.at.ensures)

pub plain::branch-operand_from-a-requires : goal.plain::branch-operand_from-a-requires
plain::branch-operand_from-a-requires t c = (if_test c.requires.0 c.requires.1, plain_first c.requires.1 (omega arith) (omega arith))

pub plain::branch-returns-in_err-eval : goal.plain::branch-returns-in_err-eval
plain::branch-returns-in_err-eval t c = let p = err_from_is_err_and c.from_residual.result c.from_residual.ensures.1 in rw (p.1, p.2) (if_off c.requires.0 c.requires.1 c.operand_from-a.ensures.0 c.in_err-eval.ensures no_value)

pub plain::branch-test-requires : goal.plain::branch-test-requires
plain::branch-test-requires t c = (single_held c.requires.0 c.in_ok-eval.ensures refl).held

pub plain::branch-operand_from-b-requires : goal.plain::branch-operand_from-b-requires
plain::branch-operand_from-b-requires t c = (if_then c.requires.0 c.requires.1, plain_first c.requires.1 (omega arith) (omega arith))

pub plain::branch-operand_from-d-requires : goal.plain::branch-operand_from-d-requires
plain::branch-operand_from-d-requires t c = (if_else c.requires.0 c.requires.1, plain_first c.requires.1 (omega arith) (omega arith))

pub built::collect-begin-requires : goal.built::collect-begin-requires
built::collect-begin-requires t c = (omega (arith, c.decreases), (c.requires.0, c.requires.1, (omega (arith, c.requires.2.0), omega (arith, c.requires.2.1))))

pub built::collect-shape_of-s-in_err-cursor : goal.built::collect-shape_of-s-in_err-cursor
built::collect-shape_of-s-in_err-cursor t c = c.in_err-cursor.ensures.kept.long

pub built::collect-returns-in_err-cursor : goal.built::collect-returns-in_err-cursor
built::collect-returns-in_err-cursor t c = let p = err_from_is_err_and c.from_residual.result c.from_residual.ensures.1 in rw (p.1, p.2) (collect_off c.args.k c.requires.0 c.requires.1 c.requires.2 c.in_err-cursor.ensures no_value)

pub built::collect-put_empty-requires : goal.built::collect-put_empty-requires
built::collect-put_empty-requires t c = collect_room c.args.k c.requires.0 c.requires.1 c.requires.2 c.in_ok-cursor.ensures (kind_as c.args.k c.enumeration_of.ensures c.built_kind.ensures)

pub built::collect-loop-j-init : goal.built::collect-loop-j-init
built::collect-loop-j-init t c = collect_start c.args.k c.requires.0 c.requires.1 c.requires.2 c.in_ok-cursor.ensures refl (kind_as c.args.k c.enumeration_of.ensures c.built_kind.ensures) c.put_empty.ensures refl

pub built::collect-step-requires : goal.built::collect-step-requires
built::collect-step-requires t c = (omega (arith, c.decreases), collects_extends c.loop-j.invariant c.loop-j-test.true)

pub built::collect-shape_of-s-in_err-step : goal.built::collect-shape_of-s-in_err-step
built::collect-shape_of-s-in_err-step t c = (collect_whole c.args.k c.requires.0 c.requires.1 c.requires.2 c.in_ok-cursor.ensures refl (kind_as c.args.k c.enumeration_of.ensures c.built_kind.ensures) c.put_empty.ensures c.loop-j.invariant.only {P = λ v. Unit {0}} (collects_off c.loop-j.invariant c.loop-j-test.true c.in_err-step.ensures no_value)).kept.long

pub built::collect-returns-in_err-step : goal.built::collect-returns-in_err-step
built::collect-returns-in_err-step t c = let p = err_from_is_err_and c.from_residual-in_err-step.result c.from_residual-in_err-step.ensures.1 in rw (p.1, p.2) (collect_whole c.args.k c.requires.0 c.requires.1 c.requires.2 c.in_ok-cursor.ensures refl (kind_as c.args.k c.enumeration_of.ensures c.built_kind.ensures) c.put_empty.ensures c.loop-j.invariant.only (collects_off c.loop-j.invariant c.loop-j-test.true c.in_err-step.ensures no_value))

pub built::collect-loop-j-preserved : goal.built::collect-loop-j-preserved
built::collect-loop-j-preserved t c = collects_more c.loop-j.invariant c.loop-j-test.true c.in_ok-step.ensures refl refl refl

pub built::collect-copy_value-requires : goal.built::collect-copy_value-requires
built::collect-copy_value-requires t c = collects_copyable c.loop-j.invariant

pub built::collect-shape_of-s : goal.built::collect-shape_of-s
built::collect-shape_of-s t c = (collect_whole c.args.k c.requires.0 c.requires.1 c.requires.2 c.in_ok-cursor.ensures refl (kind_as c.args.k c.enumeration_of.ensures c.built_kind.ensures) c.put_empty.ensures c.loop-j.invariant.only (collects_end c.loop-j.invariant c.loop-j-test.false c.copy_value.ensures)).kept.long

pub built::collect-returns : goal.built::collect-returns
built::collect-returns t c = collect_whole c.args.k c.requires.0 c.requires.1 c.requires.2 c.in_ok-cursor.ensures refl (kind_as c.args.k c.enumeration_of.ensures c.built_kind.ensures) c.put_empty.ensures c.loop-j.invariant.only (collects_end c.loop-j.invariant c.loop-j-test.false c.copy_value.ensures)

pub plain::entries-operands_from-n-requires : goal.plain::entries-operands_from-n-requires
plain::entries-operands_from-n-requires t c = (here c.requires.0, plain_first c.requires.1 (omega arith) (omega arith))

pub plain::entries-put_empty-requires : goal.plain::entries-put_empty-requires
plain::entries-put_empty-requires t c = (omega (arith, room_here c.requires.0), omega arith)

pub plain::entries-loop-entry-init : goal.plain::entries-loop-entry-init
plain::entries-loop-entry-init t c = building_start c.requires.0 c.requires.1 (inr refl) c.operands_from-n.ensures.0 refl c.put_empty.ensures

pub plain::entries-operand_from-a-requires : goal.plain::entries-operand_from-a-requires
plain::entries-operand_from-a-requires t c = (building_has c.loop-entry.invariant (omega arith), plain_first c.requires.1 (omega arith) (omega arith))

pub plain::entries-eval-requires : goal.plain::entries-eval-requires
plain::entries-eval-requires t c = let h = building_ask c.loop-entry.invariant (omega arith) c.operand_from-a.ensures.0 in (omega (arith, h.0, c.decreases), h.1)

pub plain::entries-shape_of-s-in_err-eval : goal.plain::entries-shape_of-s-in_err-eval
plain::entries-shape_of-s-in_err-eval t c = c.in_err-eval.ensures.kept.long ∙ c.loop-entry.invariant.kept.long ∙ (empties_kept c.put_empty.ensures).long

pub plain::entries-returns-in_err-eval : goal.plain::entries-returns-in_err-eval
plain::entries-returns-in_err-eval t c = let p = err_from_is_err_and c.from_residual.result c.from_residual.ensures.1 in rw (p.1, p.2) (from_entry (empties_kept c.put_empty.ensures) (key_off c.loop-entry.invariant refl (omega arith) c.operand_from-a.ensures.0 c.in_err-eval.ensures no_value))

pub plain::entries-operand_from-b-requires : goal.plain::entries-operand_from-b-requires
plain::entries-operand_from-b-requires t c = (second_has c.loop-entry.invariant refl (omega arith) c.operand_from-a.ensures.0 c.in_ok-eval.ensures, plain_first c.requires.1 (omega arith) (omega arith))

pub plain::entries-eval-requires-in-loop-entry : goal.plain::entries-eval-requires-in-loop-entry
plain::entries-eval-requires-in-loop-entry t c = let h = value_ask c.loop-entry.invariant refl (omega arith) c.operand_from-a.ensures.0 c.in_ok-eval.ensures refl c.operand_from-b.ensures.0 in (omega (arith, h.0, c.decreases), h.1)

pub plain::entries-shape_of-s-in_err-eval-2 : goal.plain::entries-shape_of-s-in_err-eval-2
plain::entries-shape_of-s-in_err-eval-2 t c = c.in_err-eval-2.ensures.kept.long ∙ c.in_ok-eval.ensures.kept.long ∙ c.loop-entry.invariant.kept.long ∙ (empties_kept c.put_empty.ensures).long

pub plain::entries-returns-in_err-eval-2 : goal.plain::entries-returns-in_err-eval-2
plain::entries-returns-in_err-eval-2 t c = let p = err_from_is_err_and c.from_residual-in_err-eval-2.result c.from_residual-in_err-eval-2.ensures.1 in rw (p.1, p.2) (from_entry (empties_kept c.put_empty.ensures) (value_off c.loop-entry.invariant refl (omega arith) c.operand_from-a.ensures.0 c.in_ok-eval.ensures refl c.operand_from-b.ensures.0 c.in_err-eval-2.ensures no_value))

pub plain::entries-enter_next-so_far-requires : goal.plain::entries-enter_next-so_far-requires
plain::entries-enter_next-so_far-requires t c = pair_held c.loop-entry.invariant refl (omega arith) c.operand_from-a.ensures.0 c.in_ok-eval.ensures refl c.operand_from-b.ensures.0 c.in_ok-eval-2.ensures refl

pub plain::entries-loop-entry-preserved : goal.plain::entries-loop-entry-preserved
plain::entries-loop-entry-preserved t c = pair_next c.loop-entry.invariant refl (omega arith) c.operand_from-a.ensures.0 c.in_ok-eval.ensures refl c.operand_from-b.ensures.0 c.in_ok-eval-2.ensures refl (omega arith) c.enter_next-so_far.ensures

pub plain::entries-finish-requires : goal.plain::entries-finish-requires
plain::entries-finish-requires t c = building_finish c.loop-entry.invariant

pub plain::entries-shape_of-s : goal.plain::entries-shape_of-s
plain::entries-shape_of-s t c = c.finish.ensures.kept.long ∙ c.loop-entry.invariant.kept.long ∙ (empties_kept c.put_empty.ensures).long

pub plain::entries-returns : goal.plain::entries-returns
plain::entries-returns t c = from_entry (empties_kept c.put_empty.ensures) (building_end c.loop-entry.invariant (let e = building_even c.loop-entry.invariant refl in omega (arith, e, c.loop-entry-test.false)) c.finish.ensures)

pub eval-kind-k-requires : goal.eval-kind-k-requires
eval-kind-k-requires t c = here c.requires

pub eval-truth-requires : goal.eval-truth-requires
eval-truth-requires t c = (c.requires, sym c.kind-k.ensures.0 ∙ c.in-1.is)

pub eval-whole-requires : goal.eval-whole-requires
eval-whole-requires t c = (c.requires, sym c.kind-k.ensures.0 ∙ c.in-2.is)

pub eval-name-requires : goal.eval-name-requires
eval-name-requires t c = (c.requires, sym c.kind-k.ensures.0 ∙ c.in-3.is)

pub eval-unary-requires : goal.eval-unary-requires
eval-unary-requires t c = (omega (arith, c.decreases), (c.requires, sym c.kind-k.ensures.0 ∙ c.in-4.is))

pub eval-field-op-requires : goal.eval-field-op-requires
eval-field-op-requires t c = two_field c.requires (sym c.kind-k.ensures.0) c.in-5.is

pub eval-logic-requires : goal.eval-logic-requires
eval-logic-requires t c = (omega (arith, c.decreases), (c.requires, sym c.kind-k.ensures.0 ∙ (c.is_connective.ensures.yes c.if-is_connective.true).0, c.field-op.ensures.0, (c.is_connective.ensures.yes c.if-is_connective.true).1))

pub eval-returns-then-is_connective : goal.eval-returns-then-is_connective
eval-returns-then-is_connective t c = c.logic.ensures

pub eval-binary-requires : goal.eval-binary-requires
eval-binary-requires t c = (omega (arith, c.decreases), (c.requires, sym c.kind-k.ensures.0, strictly c.args.sheet.now c.args.r c.in-5.is c.field-op.ensures.0 (c.is_connective.ensures.no c.if-is_connective.false)))

pub eval-branch-sheet-requires : goal.eval-branch-sheet-requires
eval-branch-sheet-requires t c = (omega (arith, c.decreases), (c.requires, sym c.kind-k.ensures.0 ∙ c.in-6.is))

pub eval-entries-requires : goal.eval-entries-requires
eval-entries-requires t c = (omega (arith, c.decreases), (c.requires, sym c.kind-k.ensures.0 ∙ c.in-9.is))

pub eval-quote-requires : goal.eval-quote-requires
eval-quote-requires t c = (c.requires, sym c.kind-k.ensures.0 ∙ c.in-22.is)

pub eval-binder-requires : goal.eval-binder-requires
eval-binder-requires t c = (
  omega (arith, c.decreases),
  (
    c.requires,
    sym c.kind-k.ensures.0,
    elim c.in_default.branch [
      | eval-in_default-via-then-k-lt1 w ↦ inl (omega arith)
      | eval-in_default-via-else-k-lt1+else-k-lt9 w ↦ inr (grind arith, grind arith, grind arith)
    ],
  ),
)

pub eval-items-requires : goal.eval-items-requires
eval-items-requires t c = (
  omega (arith, c.decreases),
  (
    c.requires,
    sym c.kind-k.ensures.0,
    elim c.in-7-1.branch [
      | eval-in-10-1 w ↦ inr (inr (omega arith))
      | eval-in_default+else-k-lt1+then-k-lt9 w ↦ seven_or_eight (grind arith) (omega arith)
    ],
  ),
)

pub eval-returns-in-1 : goal.eval-returns-in-1
eval-returns-in-1 t c = c.truth.ensures

pub eval-returns-in-2 : goal.eval-returns-in-2
eval-returns-in-2 t c = c.whole.ensures

pub eval-returns-in-3 : goal.eval-returns-in-3
eval-returns-in-3 t c = c.name.ensures

pub eval-returns-in-4 : goal.eval-returns-in-4
eval-returns-in-4 t c = c.unary.ensures

pub eval-returns-else-is_connective : goal.eval-returns-else-is_connective
eval-returns-else-is_connective t c = c.binary.ensures

pub eval-returns-in-6 : goal.eval-returns-in-6
eval-returns-in-6 t c = c.branch-sheet.ensures

pub eval-returns-in-9 : goal.eval-returns-in-9
eval-returns-in-9 t c = c.entries.ensures

pub eval-returns-in-22 : goal.eval-returns-in-22
eval-returns-in-22 t c = c.quote.ensures

pub eval-returns-in_default : goal.eval-returns-in_default
eval-returns-in_default t c = c.binder.ensures

pub eval-returns-in-7 : goal.eval-returns-in-7
eval-returns-in-7 t c = c.items.ensures

pub holds-inside-requires : goal.holds-inside-requires
holds-inside-requires t c = (omega (arith, c.decreases), (c.requires, binder_has c.requires.asked c.requires.binder 2 (omega arith), (omega arith, omega arith)))

pub holds-shape_of-s-in_err-inside : goal.holds-shape_of-s-in_err-inside
holds-shape_of-s-in_err-inside t c = (c.in_err-inside.ensures.turned c.requires.bindings c.requires.standing).low.long

pub holds-returns-in_err-inside : goal.holds-returns-in_err-inside
holds-returns-in_err-inside t c = let p = err_from_is_err_and c.from_residual.result c.from_residual.ensures.1 in rw (p.1, p.2) (test_off c.requires refl c.in_err-inside.ensures no_value refl refl)

pub holds-overflow_add-base : goal.holds-overflow_add-base
holds-overflow_add-base t c = omega (arith, room_here c.requires.asked, c.requires.asked.low)

pub holds-test-requires : goal.holds-test-requires
holds-test-requires t c = test_held c.requires refl c.in_ok-inside.ensures refl

pub holds-shape_of-s : goal.holds-shape_of-s
holds-shape_of-s t c = (c.in_ok-inside.ensures.turned c.requires.bindings c.requires.standing).low.long

pub holds-returns : goal.holds-returns
holds-returns t c = test_judged c.requires refl c.in_ok-inside.ensures refl c.test.result c.test.ensures (c.ok_or.ensures.value ∙ judged_as c.test.result c.args.r c.at.ensures)

pub inside-operand_from-q-requires : goal.inside-operand_from-q-requires
inside-operand_from-q-requires t c = (c.requires.1, binder_first c.requires.0.binder)

pub inside-bind_names-requires : goal.inside-bind_names-requires
inside-bind_names-requires t c = record { choices = _; stands = c.requires.0 }

pub inside-overflow_add-base : goal.inside-overflow_add-base
inside-overflow_add-base t c = omega (arith, room_here c.requires.0.asked, c.requires.0.asked.low, c.requires.2.1)

pub inside-eval-requires : goal.inside-eval-requires
inside-eval-requires t c = let h = inside_asked c.requires.0 c.requires.2 refl c.bind_names.ensures.reached c.bind_names.ensures.under c.requires.1.has c.operand_from-q.ensures.0 in (omega (arith, h.0, c.decreases), h.1)

pub inside-shape_of-s : goal.inside-shape_of-s
inside-shape_of-s t c = ((inside_done c.requires.0 c.requires.2 refl c.bind_names.ensures.reached c.bind_names.ensures.under c.requires.1.has refl (gives_at _ c.operand_from-q.ensures.0 c.eval.ensures) refl refl).turned c.requires.0.bindings c.requires.0.standing).low.long

pub inside-returns : goal.inside-returns
inside-returns t c = inside_done c.requires.0 c.requires.2 refl c.bind_names.ensures.reached c.bind_names.ensures.under c.requires.1.has refl (gives_at _ c.operand_from-q.ensures.0 c.eval.ensures) refl refl

pub built::item-inside-requires : goal.built::item-inside-requires
built::item-inside-requires t c = (omega (arith, c.decreases), (c.requires.0.stands, extends_has c.requires.0 3 (omega arith), (omega arith, omega arith)))

pub built::item-shape_of-s-in_err-inside : goal.built::item-shape_of-s-in_err-inside
built::item-shape_of-s-in_err-inside t c = ((item_off c.requires.0 (which_one c.requires.0.comprehension c.requires.1) refl c.in_err-inside.ensures no_value) c.requires.0.stands.bindings c.requires.0.items c.requires.0.stands.standing c.requires.0.built).low.long

pub built::item-returns-in_err-inside : goal.built::item-returns-in_err-inside
built::item-returns-in_err-inside t c = let p = err_from_is_err_and c.from_residual.result c.from_residual.ensures.1 in rw (p.1, p.2) (item_off c.requires.0 (which_one c.requires.0.comprehension c.requires.1) refl c.in_err-inside.ensures no_value)

pub built::item-add-requires : goal.built::item-add-requires
built::item-add-requires t c = item_held c.requires.0 (which_one c.requires.0.comprehension c.requires.1) refl c.in_ok-inside.ensures refl c.enumeration_of.ensures (extends_has c.requires.0 3 (omega arith)).has

pub built::item-shape_of-s : goal.built::item-shape_of-s
built::item-shape_of-s t c = ((item_done c.requires.0 (which_one c.requires.0.comprehension c.requires.1) refl c.in_ok-inside.ensures refl c.enumeration_of.ensures c.add.ensures c.at_record.ensures refl) c.requires.0.stands.bindings c.requires.0.items c.requires.0.stands.standing c.requires.0.built).low.long

pub built::item-returns : goal.built::item-returns
built::item-returns t c = item_done c.requires.0 (which_one c.requires.0.comprehension c.requires.1) refl c.in_ok-inside.ensures refl c.enumeration_of.ensures c.add.ensures c.at_record.ensures refl

pub plain::items-operands_from-n-requires : goal.plain::items-operands_from-n-requires
plain::items-operands_from-n-requires t c = (here c.requires.0, enumerated_first c.requires.1 c.requires.2)

pub plain::items-put_empty-requires : goal.plain::items-put_empty-requires
plain::items-put_empty-requires t c = (omega (arith, room_here c.requires.0), built_small c.args.k c.built_kind.ensures)

pub plain::items-loop-i-init : goal.plain::items-loop-i-init
plain::items-loop-i-init t c = (c.requires.2, building_start c.requires.0 c.requires.1 (inl c.requires.2) c.operands_from-n.ensures.0 c.built_kind.ensures c.put_empty.ensures)

pub plain::items-operand_from-a-requires : goal.plain::items-operand_from-a-requires
plain::items-operand_from-a-requires t c = (building_has c.loop-i.invariant.1 c.loop-i-test.true, enumerated_first c.requires.1 c.requires.2)

pub plain::items-eval-requires : goal.plain::items-eval-requires
plain::items-eval-requires t c = let h = building_ask c.loop-i.invariant.1 c.loop-i-test.true c.operand_from-a.ensures.0 in (omega (arith, h.0, c.decreases), h.1)

pub plain::items-shape_of-s-in_err-eval : goal.plain::items-shape_of-s-in_err-eval
plain::items-shape_of-s-in_err-eval t c = c.in_err-eval.ensures.kept.long ∙ c.loop-i.invariant.1.kept.long ∙ (empties_kept c.put_empty.ensures).long

pub plain::items-returns-in_err-eval : goal.plain::items-returns-in_err-eval
plain::items-returns-in_err-eval t c = let p = err_from_is_err_and c.from_residual.result c.from_residual.ensures.1 in rw (p.1, p.2) (from_entry (empties_kept c.put_empty.ensures) (building_off c.loop-i.invariant.1 c.loop-i.invariant.0 c.loop-i-test.true c.operand_from-a.ensures.0 c.in_err-eval.ensures no_value))

pub plain::items-add-so_far-requires : goal.plain::items-add-so_far-requires
plain::items-add-so_far-requires t c = building_held c.loop-i.invariant.1 c.loop-i.invariant.0 c.loop-i-test.true c.operand_from-a.ensures.0 c.in_ok-eval.ensures refl

pub plain::items-loop-i-preserved : goal.plain::items-loop-i-preserved
plain::items-loop-i-preserved t c = (c.loop-i.invariant.0, building_more c.loop-i.invariant.1 c.loop-i.invariant.0 c.loop-i-test.true c.operand_from-a.ensures.0 c.in_ok-eval.ensures refl refl c.add-so_far.ensures)

pub plain::items-finish-requires : goal.plain::items-finish-requires
plain::items-finish-requires t c = building_finish c.loop-i.invariant.1

pub plain::items-shape_of-s : goal.plain::items-shape_of-s
plain::items-shape_of-s t c = c.finish.ensures.kept.long ∙ c.loop-i.invariant.1.kept.long ∙ (empties_kept c.put_empty.ensures).long

pub plain::items-returns : goal.plain::items-returns
plain::items-returns t c = from_entry (empties_kept c.put_empty.ensures) (building_end c.loop-i.invariant.1 c.loop-i-test.false c.finish.ensures)

pub let_be-survey-requires : goal.let_be-survey-requires
let_be-survey-requires t c = (omega (arith, c.decreases), (c.requires.0, c.requires.1, (omega arith, omega arith)))

pub let_be-shape_of-s-in_err-all : goal.let_be-shape_of-s-in_err-all
let_be-shape_of-s-in_err-all t c = c.in_err-all.ensures.kept.long

pub let_be-returns-in_err-all : goal.let_be-returns-in_err-all
let_be-returns-in_err-all t c = let p = err_from_is_err_and c.from_residual.result c.from_residual.ensures.1 in rw (p.1, p.2) (let_be_off c.requires.0 c.requires.1 c.in_err-all.ensures no_value)

pub let_be-shape_of-s-then-n-eq0 : goal.let_be-shape_of-s-then-n-eq0
let_be-shape_of-s-then-n-eq0 t c = c.in_ok-all.ensures.kept.long

pub let_be-returns-then-n-eq0 : goal.let_be-returns-then-n-eq0
let_be-returns-then-n-eq0 t c = let_be_none c.requires.0 c.requires.1 c.in_ok-all.ensures refl c.if-n-eq0.true (ap Err c.at.ensures)

pub let_be-choose-requires : goal.let_be-choose-requires
let_be-choose-requires t c = let_be_some c.requires.0 c.requires.1 c.in_ok-all.ensures refl c.if-n-eq0.false

pub let_be-inside-requires : goal.let_be-inside-requires
let_be-inside-requires t c = (omega (arith, c.decreases), (let_be_stands c.requires.0 c.requires.1 c.in_ok-all.ensures refl c.if-n-eq0.false c.choose.ensures (way_taken c.choose.result c.args.r c.in_ok-all.all.count (sym c.in_ok-chosen.was ∙ c.chosen.ensures)), let_be_has c.requires.0 c.requires.1, (omega arith, omega arith)))

pub let_be-shape_of-s-in_err-inside : goal.let_be-shape_of-s-in_err-inside
let_be-shape_of-s-in_err-inside t c = (let_be_body_off c.requires.0 c.requires.1 c.in_ok-all.ensures refl c.if-n-eq0.false c.choose.ensures (way_taken c.choose.result c.args.r c.in_ok-all.all.count (sym c.in_ok-chosen.was ∙ c.chosen.ensures)) refl c.in_err-inside.ensures no_value).kept.long

pub let_be-returns-in_err-inside : goal.let_be-returns-in_err-inside
let_be-returns-in_err-inside t c = let p = err_from_is_err_and c.from_residual-in_err-inside.result c.from_residual-in_err-inside.ensures.1 in rw (p.1, p.2) (let_be_body_off c.requires.0 c.requires.1 c.in_ok-all.ensures refl c.if-n-eq0.false c.choose.ensures (way_taken c.choose.result c.args.r c.in_ok-all.all.count (sym c.in_ok-chosen.was ∙ c.chosen.ensures)) refl c.in_err-inside.ensures no_value)

pub let_be-overflow_add-base : goal.let_be-overflow_add-base
let_be-overflow_add-base t c = omega (arith, room_here c.requires.0, c.requires.0.low)

pub let_be-copy_value-requires : goal.let_be-copy_value-requires
let_be-copy_value-requires t c = let_be_copyable c.requires.0 c.requires.1 c.in_ok-all.ensures refl c.if-n-eq0.false c.choose.ensures (way_taken c.choose.result c.args.r c.in_ok-all.all.count (sym c.in_ok-chosen.was ∙ c.chosen.ensures)) refl c.in_ok-inside.ensures refl

pub let_be-shape_of-s : goal.let_be-shape_of-s
let_be-shape_of-s t c = (let_be_done c.requires.0 c.requires.1 c.in_ok-all.ensures refl c.if-n-eq0.false c.choose.ensures (way_taken c.choose.result c.args.r c.in_ok-all.all.count (sym c.in_ok-chosen.was ∙ c.chosen.ensures)) refl c.in_ok-inside.ensures refl c.copy_value.ensures).kept.long

pub let_be-returns : goal.let_be-returns
let_be-returns t c = let_be_done c.requires.0 c.requires.1 c.in_ok-all.ensures refl c.if-n-eq0.false c.choose.ensures (way_taken c.choose.result c.args.r c.in_ok-all.all.count (sym c.in_ok-chosen.was ∙ c.chosen.ensures)) refl c.in_ok-inside.ensures refl c.copy_value.ensures

pub let_in-begin-requires : goal.let_in-begin-requires
let_in-begin-requires t c = (omega (arith, c.decreases), (c.requires.0, c.requires.1, (omega arith, omega arith)))

pub let_in-shape_of-s-in_err-cursor : goal.let_in-shape_of-s-in_err-cursor
let_in-shape_of-s-in_err-cursor t c = c.in_err-cursor.ensures.kept.long

pub let_in-returns-in_err-cursor : goal.let_in-returns-in_err-cursor
let_in-returns-in_err-cursor t c = let p = err_from_is_err_and c.from_residual.result c.from_residual.ensures.1 in rw (p.1, p.2) (let_in_off c.requires.0 c.requires.1 c.in_err-cursor.ensures no_value)

pub let_in-shape_of-s-then-n-eq0 : goal.let_in-shape_of-s-then-n-eq0
let_in-shape_of-s-then-n-eq0 t c = c.in_ok-cursor.ensures.kept.long

pub let_in-returns-then-n-eq0 : goal.let_in-returns-then-n-eq0
let_in-returns-then-n-eq0 t c = let_in_none c.requires.0 c.requires.1 c.in_ok-cursor.ensures refl c.if-n-eq0.true (ap Err c.at.ensures)

pub let_in-operand_from-p-requires : goal.let_in-operand_from-p-requires
let_in-operand_from-p-requires t c = (binder_has c.requires.0 (let_in_binder c.requires.0 c.requires.1) 0 (omega arith), plain_first c.requires.1 (omega arith) (omega arith))

pub let_in-is_loose_pattern-loose-requires : goal.let_in-is_loose_pattern-loose-requires
let_in-is_loose_pattern-loose-requires t c = let_in_readable c.requires.0 c.requires.1 c.operand_from-p.ensures.0

pub let_in-decide-requires : goal.let_in-decide-requires
let_in-decide-requires t c = let_in_some c.requires.0 c.requires.1 c.in_ok-cursor.ensures refl c.if-n-eq0.false

pub let_in-inside-requires : goal.let_in-inside-requires
let_in-inside-requires t c = (omega (arith, c.decreases), (let_in_stands c.requires.0 c.requires.1 c.in_ok-cursor.ensures refl c.if-n-eq0.false (picks_as c.requires.0 c.requires.1 c.operand_from-p.ensures.0 c.is_loose_pattern-loose.ensures c.decide.ensures) (way_taken c.decide.result c.args.r c.in_ok-cursor.cursor.count (sym c.in_ok-i.was ∙ c.chosen.ensures)), binder_has c.requires.0 (let_in_binder c.requires.0 c.requires.1) 2 (omega arith), (omega arith, omega arith)))

pub let_in-shape_of-s-in_err-inside : goal.let_in-shape_of-s-in_err-inside
let_in-shape_of-s-in_err-inside t c = (let_in_body_off c.requires.0 c.requires.1 c.in_ok-cursor.ensures refl c.if-n-eq0.false (picks_as c.requires.0 c.requires.1 c.operand_from-p.ensures.0 c.is_loose_pattern-loose.ensures c.decide.ensures) (way_taken c.decide.result c.args.r c.in_ok-cursor.cursor.count (sym c.in_ok-i.was ∙ c.chosen.ensures)) refl c.in_err-inside.ensures no_value).kept.long

pub let_in-returns-in_err-inside : goal.let_in-returns-in_err-inside
let_in-returns-in_err-inside t c = let p = err_from_is_err_and c.from_residual-in_err-inside.result c.from_residual-in_err-inside.ensures.1 in rw (p.1, p.2) (let_in_body_off c.requires.0 c.requires.1 c.in_ok-cursor.ensures refl c.if-n-eq0.false (picks_as c.requires.0 c.requires.1 c.operand_from-p.ensures.0 c.is_loose_pattern-loose.ensures c.decide.ensures) (way_taken c.decide.result c.args.r c.in_ok-cursor.cursor.count (sym c.in_ok-i.was ∙ c.chosen.ensures)) refl c.in_err-inside.ensures no_value)

pub let_in-overflow_add-base : goal.let_in-overflow_add-base
let_in-overflow_add-base t c = omega (arith, room_here c.requires.0, c.requires.0.low)

pub let_in-copy_value-requires : goal.let_in-copy_value-requires
let_in-copy_value-requires t c = let_in_copyable c.requires.0 c.requires.1 c.in_ok-cursor.ensures refl c.if-n-eq0.false (picks_as c.requires.0 c.requires.1 c.operand_from-p.ensures.0 c.is_loose_pattern-loose.ensures c.decide.ensures) (way_taken c.decide.result c.args.r c.in_ok-cursor.cursor.count (sym c.in_ok-i.was ∙ c.chosen.ensures)) refl c.in_ok-inside.ensures refl

pub let_in-shape_of-s : goal.let_in-shape_of-s
let_in-shape_of-s t c = (let_in_done c.requires.0 c.requires.1 c.in_ok-cursor.ensures refl c.if-n-eq0.false (picks_as c.requires.0 c.requires.1 c.operand_from-p.ensures.0 c.is_loose_pattern-loose.ensures c.decide.ensures) (way_taken c.decide.result c.args.r c.in_ok-cursor.cursor.count (sym c.in_ok-i.was ∙ c.chosen.ensures)) refl c.in_ok-inside.ensures refl c.copy_value.ensures).kept.long

pub let_in-returns : goal.let_in-returns
let_in-returns t c = let_in_done c.requires.0 c.requires.1 c.in_ok-cursor.ensures refl c.if-n-eq0.false (picks_as c.requires.0 c.requires.1 c.operand_from-p.ensures.0 c.is_loose_pattern-loose.ensures c.decide.ensures) (way_taken c.decide.result c.args.r c.in_ok-cursor.cursor.count (sym c.in_ok-i.was ∙ c.chosen.ensures)) refl c.in_ok-inside.ensures refl c.copy_value.ensures

pub plain::logic-operand_from-first-requires : goal.plain::logic-operand_from-first-requires
plain::logic-operand_from-first-requires t c = (logic_left c.requires.0 c.requires.1, after_binary c.requires.1)

pub plain::logic-eval-requires : goal.plain::logic-eval-requires
plain::logic-eval-requires t c = let h = first_asked c.requires.0 (logic_left c.requires.0 c.requires.1) c.operand_from-first.ensures.0 in (omega (arith, h.0, c.decreases), h.1)

pub plain::logic-returns-in_err-eval : goal.plain::logic-returns-in_err-eval
plain::logic-returns-in_err-eval t c = let p = err_from_is_err_and c.from_residual.result c.from_residual.ensures.1 in rw (p.1, p.2) (logic_off c.requires.0 c.requires.1 c.requires.2 c.operand_from-first.ensures.0 c.in_err-eval.ensures c.requires.3 no_value)

pub built::pair-inside-requires : goal.built::pair-inside-requires
built::pair-inside-requires t c = (omega (arith, c.decreases), (c.requires.stands, extends_has c.requires 3 (omega arith), (omega arith, omega arith)))

pub built::pair-shape_of-s-in_err-inside : goal.built::pair-shape_of-s-in_err-inside
built::pair-shape_of-s-in_err-inside t c = ((pair_off c.requires refl refl c.in_err-inside.ensures no_value) c.requires.stands.bindings c.requires.items c.requires.stands.standing c.requires.built).low.long

pub built::pair-returns-in_err-inside : goal.built::pair-returns-in_err-inside
built::pair-returns-in_err-inside t c = let p = err_from_is_err_and c.from_residual.result c.from_residual.ensures.1 in rw (p.1, p.2) (pair_off c.requires refl refl c.in_err-inside.ensures no_value)

pub built::pair-inside-requires-2 : goal.built::pair-inside-requires-2
built::pair-inside-requires-2 t c = (omega (arith, c.decreases), (pair_stands c.requires refl refl c.in_ok-inside.ensures refl, pair_has c.requires refl, (omega arith, omega arith)))

pub built::pair-shape_of-s-in_err-inside-2 : goal.built::pair-shape_of-s-in_err-inside-2
built::pair-shape_of-s-in_err-inside-2 t c = ((pair_value_off c.requires refl refl c.in_ok-inside.ensures refl refl c.in_err-inside-2.ensures no_value) c.requires.stands.bindings c.requires.items c.requires.stands.standing c.requires.built).low.long

pub built::pair-returns-in_err-inside-2 : goal.built::pair-returns-in_err-inside-2
built::pair-returns-in_err-inside-2 t c = let p = err_from_is_err_and c.from_residual-in_err-inside-2.result c.from_residual-in_err-inside-2.ensures.1 in rw (p.1, p.2) (pair_value_off c.requires refl refl c.in_ok-inside.ensures refl refl c.in_err-inside-2.ensures no_value)

pub built::pair-overflow_add-base : goal.built::pair-overflow_add-base
built::pair-overflow_add-base t c = omega (arith, room_here c.requires.stands.asked, c.requires.stands.asked.low)

pub built::pair-enter_next-requires : goal.built::pair-enter_next-requires
built::pair-enter_next-requires t c = pair_added c.requires refl refl c.in_ok-inside.ensures refl refl c.in_ok-inside-2.ensures refl (pair_has c.requires refl).has

pub built::pair-shape_of-s : goal.built::pair-shape_of-s
built::pair-shape_of-s t c = ((pair_done c.requires refl refl c.in_ok-inside.ensures refl refl c.in_ok-inside-2.ensures refl c.enter_next.ensures c.at_record.ensures refl) c.requires.stands.bindings c.requires.items c.requires.stands.standing c.requires.built).low.long

pub built::pair-returns : goal.built::pair-returns
built::pair-returns t c = pair_done c.requires refl refl c.in_ok-inside.ensures refl refl c.in_ok-inside-2.ensures refl c.enter_next.ensures c.at_record.ensures refl

pub quantify-begin-requires : goal.quantify-begin-requires
quantify-begin-requires t c = (omega (arith, c.decreases), (c.requires.0, c.requires.1, quantify_kind c.args.want c.requires.2))

pub quantify-shape_of-s-in_err-cursor : goal.quantify-shape_of-s-in_err-cursor
quantify-shape_of-s-in_err-cursor t c = c.in_err-cursor.ensures.kept.long

pub quantify-returns-in_err-cursor : goal.quantify-returns-in_err-cursor
quantify-returns-in_err-cursor t c = let p = err_from_is_err_and c.from_residual.result c.from_residual.ensures.1 in rw (p.1, p.2) (quantify_off c.requires.0 c.args.want (c.requires.1 ∙ c.requires.2) (begins_as c.requires.2 c.in_err-cursor.ensures) no_value)

pub quantify-all-init : goal.quantify-all-init
quantify-all-init t c = quantify_start c.requires.0 c.args.want (c.requires.1 ∙ c.requires.2) (begins_as c.requires.2 c.in_ok-cursor.ensures) refl refl

pub quantify-holds-requires : goal.quantify-holds-requires
quantify-holds-requires t c = (omega (arith, c.decreases), scans_stands c.all.invariant c.all-test.true)

pub quantify-shape_of-s-in_err-holds : goal.quantify-shape_of-s-in_err-holds
quantify-shape_of-s-in_err-holds t c = (c.in_err-holds.ensures.turned c.all.invariant.bindings c.all.invariant.standing).low.long ∙ c.all.invariant.kept.long ∙ c.in_ok-cursor.ensures.kept.long

pub quantify-returns-in_err-holds : goal.quantify-returns-in_err-holds
quantify-returns-in_err-holds t c = let p = err_from_is_err_and c.from_residual-in_err-holds.result c.from_residual-in_err-holds.ensures.1 in rw (p.1, p.2) (quantify_whole c.requires.0 c.args.want (c.requires.1 ∙ c.requires.2) (begins_as c.requires.2 c.in_ok-cursor.ensures) refl c.all.invariant.only (scans_off c.all.invariant c.all-test.true c.in_err-holds.ensures no_value))

pub quantify-all-preserved : goal.quantify-all-preserved
quantify-all-preserved t c = scans_more c.all.invariant c.all-test.true c.in_ok-holds.ensures refl (beq_not _ _ c.if-branch-want.false) refl refl

pub quantify-put_boolean-requires : goal.quantify-put_boolean-requires
quantify-put_boolean-requires t c =
    let joined : Settled c.args.sheet.now c.args.r c.begin.new.s c.args.base (env_of c.args.env.now) c.args.want (lent c.begin.new.run) c.all-test.s (lent c.all-test.run) c.all-test.found = elim c.all-test.branch [
      | quantify-else-all-test w ↦ settled_as w.s-is (ap lent w.run-is) w.found-is (scans_end c.all.invariant w.all-test.false)
      | quantify-then-all-test+in_ok-holds+then-branch-want w ↦ settled_as w.s-is (ap lent w.run-is) w.found-is (scans_hit c.all.invariant w.all-test.true w.in_ok-holds.ensures refl (beq_same _ _ w.if-branch-want.true))
    ] in
    omega (arith, room_here c.requires.0, joined.kept.long, c.in_ok-cursor.ensures.kept.long)

pub quantify-shape_of-s : goal.quantify-shape_of-s
quantify-shape_of-s t c =
    let joined : Settled c.args.sheet.now c.args.r c.begin.new.s c.args.base (env_of c.args.env.now) c.args.want (lent c.begin.new.run) c.all-test.s (lent c.all-test.run) c.all-test.found = elim c.all-test.branch [
      | quantify-else-all-test w ↦ settled_as w.s-is (ap lent w.run-is) w.found-is (scans_end c.all.invariant w.all-test.false)
      | quantify-then-all-test+in_ok-holds+then-branch-want w ↦ settled_as w.s-is (ap lent w.run-is) w.found-is (scans_hit c.all.invariant w.all-test.true w.in_ok-holds.ensures refl (beq_same _ _ w.if-branch-want.true))
    ] in
    c.put_boolean.ensures.outside.long ∙ joined.kept.long ∙ c.in_ok-cursor.ensures.kept.long

pub quantify-returns : goal.quantify-returns
quantify-returns t c =
    let joined : Settled c.args.sheet.now c.args.r c.begin.new.s c.args.base (env_of c.args.env.now) c.args.want (lent c.begin.new.run) c.all-test.s (lent c.all-test.run) c.all-test.found = elim c.all-test.branch [
      | quantify-else-all-test w ↦ settled_as w.s-is (ap lent w.run-is) w.found-is (scans_end c.all.invariant w.all-test.false)
      | quantify-then-all-test+in_ok-holds+then-branch-want w ↦ settled_as w.s-is (ap lent w.run-is) w.found-is (scans_hit c.all.invariant w.all-test.true w.in_ok-holds.ensures refl (beq_same _ _ w.if-branch-want.true))
    ] in
    quantify_done c.requires.0 c.args.want (c.requires.1 ∙ c.requires.2) (begins_as c.requires.2 c.in_ok-cursor.ensures) refl joined c.put_boolean.ensures

pub single-survey-requires : goal.single-survey-requires
single-survey-requires t c = (omega (arith, c.decreases), (c.requires.0, c.requires.1, (omega (arith, c.requires.2.0), omega (arith, c.requires.2.1))))

pub single-shape_of-s-in_err-all : goal.single-shape_of-s-in_err-all
single-shape_of-s-in_err-all t c = c.in_err-all.ensures.kept.long

pub single-returns-in_err-all : goal.single-returns-in_err-all
single-returns-in_err-all t c = let p = err_from_is_err_and c.from_residual.result c.from_residual.ensures.1 in rw (p.1, p.2) (single_off c.requires.0 c.requires.1 c.requires.2 c.in_err-all.ensures no_value)

pub single-put_boolean-requires : goal.single-put_boolean-requires
single-put_boolean-requires t c = omega (arith, room_here c.requires.0, c.in_ok-all.ensures.kept.long)

pub single-shape_of-s-then-k-eq-EXISTS1 : goal.single-shape_of-s-then-k-eq-EXISTS1
single-shape_of-s-then-k-eq-EXISTS1 t c = c.put_boolean.ensures.outside.long ∙ c.in_ok-all.ensures.kept.long

pub single-returns-then-k-eq-EXISTS1 : goal.single-returns-then-k-eq-EXISTS1
single-returns-then-k-eq-EXISTS1 t c = exists1_done c.requires.0 (c.requires.1 ∙ c.if-k-eq-EXISTS1.true) (surveys_as c.if-k-eq-EXISTS1.true c.in_ok-all.ensures) refl c.put_boolean.ensures

pub single-shape_of-s-then-all-ne1 : goal.single-shape_of-s-then-all-ne1
single-shape_of-s-then-all-ne1 t c = c.in_ok-all.ensures.kept.long

pub single-returns-then-all-ne1 : goal.single-returns-then-all-ne1
single-returns-then-all-ne1 t c = iota_not c.requires.0 (c.requires.1 ∙ seventeen c.requires.2 c.if-k-eq-EXISTS1.false) (surveys_as (seventeen c.requires.2 c.if-k-eq-EXISTS1.false) c.in_ok-all.ensures) refl c.if-all-ne1.true (ap Err c.at.ensures)

pub single-fetch-requires : goal.single-fetch-requires
single-fetch-requires t c = record { choices = _; stands = iota_stands c.requires.0 (c.requires.1 ∙ seventeen c.requires.2 c.if-k-eq-EXISTS1.false) (surveys_as (seventeen c.requires.2 c.if-k-eq-EXISTS1.false) c.in_ok-all.ensures) refl c.if-all-ne1.false; iota = c.requires.1 ∙ seventeen c.requires.2 c.if-k-eq-EXISTS1.false }

pub single-shape_of-s : goal.single-shape_of-s
single-shape_of-s t c = c.fetch.ensures.kept.long ∙ c.in_ok-all.ensures.kept.long

pub single-returns : goal.single-returns
single-returns t c = iota_done c.requires.0 (c.requires.1 ∙ seventeen c.requires.2 c.if-k-eq-EXISTS1.false) (surveys_as (seventeen c.requires.2 c.if-k-eq-EXISTS1.false) c.in_ok-all.ensures) refl c.if-all-ne1.false c.fetch.ensures

pub built::step-holds-requires : goal.built::step-holds-requires
built::step-holds-requires t c = (omega (arith, c.decreases), c.requires.stands)

pub built::step-shape_of-s-in_err-holds : goal.built::step-shape_of-s-in_err-holds
built::step-shape_of-s-in_err-holds t c = ((step_off c.requires c.in_err-holds.ensures no_value refl refl) c.requires.stands.bindings c.requires.items c.requires.stands.standing c.requires.built).low.long

pub built::step-returns-in_err-holds : goal.built::step-returns-in_err-holds
built::step-returns-in_err-holds t c = let p = err_from_is_err_and c.from_residual.result c.from_residual.ensures.1 in rw (p.1, p.2) (step_off c.requires c.in_err-holds.ensures no_value refl refl)

pub built::step-shape_of-s-then-not-branch : goal.built::step-shape_of-s-then-not-branch
built::step-shape_of-s-then-not-branch t c = ((step_false c.requires c.in_ok-holds.ensures refl c.if-not-branch.true refl refl) c.requires.stands.bindings c.requires.items c.requires.stands.standing c.requires.built).low.long

pub built::step-returns-then-not-branch : goal.built::step-returns-then-not-branch
built::step-returns-then-not-branch t c = step_false c.requires c.in_ok-holds.ensures refl c.if-not-branch.true refl refl

pub built::step-pair-requires : goal.built::step-pair-requires
built::step-pair-requires t c = (omega (arith, c.decreases), extends_as (step_extends c.requires c.in_ok-holds.ensures refl) c.if-k-eq-MAP_COMPREHENSION.true)

pub built::step-shape_of-s-then-k-eq-MAP_COMPREHENSION : goal.built::step-shape_of-s-then-k-eq-MAP_COMPREHENSION
built::step-shape_of-s-then-k-eq-MAP_COMPREHENSION t c = ((step_true c.requires c.in_ok-holds.ensures refl c.if-not-branch.false (extended_as c.args.j (sym c.if-k-eq-MAP_COMPREHENSION.true) c.pair.ensures)) c.requires.stands.bindings c.requires.items c.requires.stands.standing c.requires.built).low.long

pub built::step-returns-then-k-eq-MAP_COMPREHENSION : goal.built::step-returns-then-k-eq-MAP_COMPREHENSION
built::step-returns-then-k-eq-MAP_COMPREHENSION t c = step_true c.requires c.in_ok-holds.ensures refl c.if-not-branch.false (extended_as c.args.j (sym c.if-k-eq-MAP_COMPREHENSION.true) c.pair.ensures)

pub built::step-item-requires : goal.built::step-item-requires
built::step-item-requires t c = (omega (arith, c.decreases), (step_extends c.requires c.in_ok-holds.ensures refl, omega (arith, c.requires.comprehension.1, c.if-k-eq-MAP_COMPREHENSION.false)))

pub built::step-shape_of-s : goal.built::step-shape_of-s
built::step-shape_of-s t c = ((step_true c.requires c.in_ok-holds.ensures refl c.if-not-branch.false c.item.ensures) c.requires.stands.bindings c.requires.items c.requires.stands.standing c.requires.built).low.long

pub built::step-returns : goal.built::step-returns
built::step-returns t c = step_true c.requires c.in_ok-holds.ensures refl c.if-not-branch.false c.item.ensures

pub survey-begin-requires : goal.survey-begin-requires
survey-begin-requires t c = (omega (arith, c.decreases), (c.requires.0, c.requires.1, (omega (arith, c.requires.2.0), omega (arith, c.requires.2.1))))

pub survey-shape_of-s-in_err-cursor : goal.survey-shape_of-s-in_err-cursor
survey-shape_of-s-in_err-cursor t c = c.in_err-cursor.ensures.kept.long

pub survey-returns-in_err-cursor : goal.survey-returns-in_err-cursor
survey-returns-in_err-cursor t c = let p = err_from_is_err_and c.from_residual.result c.from_residual.ensures.1 in rw (p.1, p.2) (survey_off c.args.k c.requires.0 c.requires.2.0 c.requires.2.1 c.requires.1 (quiet c.requires.0.legal c.args.r c.requires.0.within (omega (arith, c.requires.1, c.requires.2.0)) (omega (arith, c.requires.1, c.requires.2.1))) c.in_err-cursor.ensures no_value refl)

pub survey-wanted-due-requires : goal.survey-wanted-due-requires
survey-wanted-due-requires t c = comes_sound (c.in_ok-cursor.ensures.right c.requires.0.state c.requires.0.around)

pub survey-loop-j-init : goal.survey-loop-j-init
survey-loop-j-init t c = survey_start c.args.k c.requires.0 c.requires.2.0 c.requires.2.1 c.requires.1 (quiet c.requires.0.legal c.args.r c.requires.0.within (omega (arith, c.requires.1, c.requires.2.0)) (omega (arith, c.requires.1, c.requires.2.1))) c.in_ok-cursor.ensures refl refl c.wanted-due.result

pub survey-holds-told-requires : goal.survey-holds-told-requires
survey-holds-told-requires t c = (omega (arith, c.decreases), counts_stands c.loop-j.invariant c.loop-j-test.true)

pub survey-shape_of-s-in_err-told : goal.survey-shape_of-s-in_err-told
survey-shape_of-s-in_err-told t c = (c.holds-told.ensures.turned c.loop-j.invariant.bindings c.loop-j.invariant.standing).low.long ∙ c.loop-j.invariant.kept.long ∙ c.in_ok-cursor.ensures.kept.long

pub survey-returns-in_err-told : goal.survey-returns-in_err-told
survey-returns-in_err-told t c = let p = err_from_is_err_and c.from_residual-in_err-told.result c.from_residual-in_err-told.ensures.1 in rw (p.1, p.2) (survey_whole c.args.k c.requires.0 c.requires.2.0 c.requires.2.1 c.requires.1 (quiet c.requires.0.legal c.args.r c.requires.0.within (omega (arith, c.requires.1, c.requires.2.0)) (omega (arith, c.requires.1, c.requires.2.1))) c.in_ok-cursor.ensures refl c.loop-j.invariant.only (counts_off c.loop-j.invariant c.loop-j-test.true (rw c.in_err-told.was at c.holds-told.ensures) no_value))

pub survey-loop-j-preserved : goal.survey-loop-j-preserved
survey-loop-j-preserved t c = elim c.if-branch.branch [
  | survey-then-branch w ↦ elim w.if-count-due.branch [
    | survey-then-count-due x ↦ counts_more c.loop-j.invariant c.loop-j-test.true (rw c.in_ok-told.was at c.holds-told.ensures) refl refl refl (rw (w.if-branch.true, eq-eqb _ _ x.if-count-due.true) (w.at-is ∙ x.at-is)) (rw (w.if-branch.true) w.count-is)
    | survey-else-count-due x ↦ counts_more c.loop-j.invariant c.loop-j-test.true (rw c.in_ok-told.was at c.holds-told.ensures) refl refl refl (rw (w.if-branch.true, ne_eqb _ _ x.if-count-due.false) (w.at-is ∙ x.at-is)) (rw (w.if-branch.true) w.count-is)
  ]
  | survey-else-branch w ↦ counts_more c.loop-j.invariant c.loop-j-test.true (rw c.in_ok-told.was at c.holds-told.ensures) refl refl refl (rw (w.if-branch.false) w.at-is) (rw (w.if-branch.false) w.count-is)
]

pub survey-shape_of-s : goal.survey-shape_of-s
survey-shape_of-s t c = c.loop-j.invariant.kept.long ∙ c.in_ok-cursor.ensures.kept.long

pub survey-returns : goal.survey-returns
survey-returns t c = survey_whole c.args.k c.requires.0 c.requires.2.0 c.requires.2.1 c.requires.1 (quiet c.requires.0.legal c.args.r c.requires.0.within (omega (arith, c.requires.1, c.requires.2.0)) (omega (arith, c.requires.1, c.requires.2.1))) c.in_ok-cursor.ensures refl c.loop-j.invariant.only (counts_end c.loop-j.invariant c.loop-j-test.false refl refl refl refl c.args.k c.wanted-due.ensures)

pub plain::unary-noted_operand-a-requires : goal.plain::unary-noted_operand-a-requires
plain::unary-noted_operand-a-requires t c = (unary_has c.requires.0 c.requires.1, after_unary c.requires.1, omega arith)

pub plain::unary-eval-requires : goal.plain::unary-eval-requires
plain::unary-eval-requires t c = let h = first_asked c.requires.0 (unary_has c.requires.0 c.requires.1) c.noted_operand-a.ensures.0 in (omega (arith, h.0, c.decreases), h.1)

pub plain::unary-returns-in_err-eval : goal.plain::unary-returns-in_err-eval
plain::unary-returns-in_err-eval t c = let p = err_from_is_err_and c.from_residual.result c.from_residual.ensures.1 in rw (p.1, p.2) (unary_off c.requires.0 c.requires.1 c.noted_operand-a.ensures.0 c.in_err-eval.ensures no_value)

pub plain::unary-field-op-requires : goal.plain::unary-field-op-requires
plain::unary-field-op-requires t c = unary_field c.requires.0 c.requires.1

pub plain::unary-unary-requires : goal.plain::unary-unary-requires
plain::unary-unary-requires t c = unary_held c.requires.0 c.requires.1 c.noted_operand-a.ensures.0 c.in_ok-eval.ensures refl c.field-op.ensures.0

pub plain::unary-returns : goal.plain::unary-returns
plain::unary-returns t c = unary_done c.requires.0 c.requires.1 c.noted_operand-a.ensures.0 c.in_ok-eval.ensures refl c.field-op.ensures.0 c.unary.ensures c.at_record.ensures

pub begin-at-requires : goal.begin-at-requires
begin-at-requires t c = small_place c.requires.0

pub begin-at_record-requires : goal.begin-at_record-requires
begin-at_record-requires t c = small_place c.requires.0

pub plain::unary-at_record-requires : goal.plain::unary-at_record-requires
plain::unary-at_record-requires t c = small_place c.requires.0

pub plain::binary-at_record-requires : goal.plain::binary-at_record-requires
plain::binary-at_record-requires t c = small_place c.requires.0

pub binder-at-requires : goal.binder-at-requires
binder-at-requires t c = small_place c.requires.0

pub plain::branch-at-requires : goal.plain::branch-at-requires
plain::branch-at-requires t c = small_place c.requires.0

pub survey-overflow_add-count : goal.survey-overflow_add-count
survey-overflow_add-count t c = omega (arith, c.loop-j.invariant.few, c.loop-j-test.true, c.loop-j.invariant.number, c.loop-j.invariant.standing.window.count, c.loop-j.invariant.standing.window.few)

pub single-at-requires : goal.single-at-requires
single-at-requires t c = small_place c.requires.0

pub let_be-at-requires : goal.let_be-at-requires
let_be-at-requires t c = small_place c.requires.0

pub let_in-at-requires : goal.let_in-at-requires
let_in-at-requires t c = small_place c.requires.0

pub let_be-returns-in_err-chosen : goal.let_be-returns-in_err-chosen
let_be-returns-in_err-chosen t c = let p = err_from_is_err_and c.from_residual-in_err-chosen.result c.from_residual-in_err-chosen.ensures.1 in rw (p.1, p.2) (let_be_unchosen c.requires.0 c.requires.1 c.in_ok-all.ensures refl c.if-n-eq0.false c.choose.ensures (sym c.in_err-chosen.was ∙ c.chosen.ensures))

pub let_be-shape_of-s-in_err-chosen : goal.let_be-shape_of-s-in_err-chosen
let_be-shape_of-s-in_err-chosen t c = c.in_ok-all.ensures.kept.long

pub let_be-chosen-requires : goal.let_be-chosen-requires
let_be-chosen-requires t c = (small_place c.requires.0, ((let_be_some c.requires.0 c.requires.1 c.in_ok-all.ensures refl c.if-n-eq0.false).2))

pub let_in-returns-in_err-i : goal.let_in-returns-in_err-i
let_in-returns-in_err-i t c = let p = err_from_is_err_and c.from_residual-in_err-i.result c.from_residual-in_err-i.ensures.1 in rw (p.1, p.2) (let_in_unchosen c.requires.0 c.requires.1 c.in_ok-cursor.ensures refl c.if-n-eq0.false (picks_as c.requires.0 c.requires.1 c.operand_from-p.ensures.0 c.is_loose_pattern-loose.ensures c.decide.ensures) (sym c.in_err-i.was ∙ c.chosen.ensures))

pub let_in-shape_of-s-in_err-i : goal.let_in-shape_of-s-in_err-i
let_in-shape_of-s-in_err-i t c = c.in_ok-cursor.ensures.kept.long

pub let_in-chosen-requires : goal.let_in-chosen-requires
let_in-chosen-requires t c = (small_place c.requires.0, ((let_in_some c.requires.0 c.requires.1 c.in_ok-cursor.ensures refl c.if-n-eq0.false).2))

pub holds-at-requires : goal.holds-at-requires
holds-at-requires t c = small_place c.requires.asked

pub built::item-at_record-requires : goal.built::item-at_record-requires
built::item-at_record-requires t c = small_place c.requires.0.stands.asked

pub built::pair-at_record-requires : goal.built::pair-at_record-requires
built::pair-at_record-requires t c = small_place c.requires.stands.asked

pub plain::branch-eval-requires : goal.plain::branch-eval-requires
plain::branch-eval-requires t c = let h = first_asked c.requires.0 (if_test c.requires.0 c.requires.1) c.operand_from-a.ensures.0 in (omega (arith, h.0, c.decreases), h.1)

pub plain::branch-eval-requires-then-branch : goal.plain::branch-eval-requires-then-branch
plain::branch-eval-requires-then-branch t c = let h = next_asked c.requires.0 c.args.base (if_then c.requires.0 c.requires.1) c.operand_from-b.ensures.0 c.in_ok-eval.ensures (kept_same _ _) (omega arith) (omega arith) in (omega (arith, h.0, c.decreases), h.1)

pub plain::branch-eval-requires-2 : goal.plain::branch-eval-requires-2
plain::branch-eval-requires-2 t c = let h = next_asked c.requires.0 c.args.base (if_else c.requires.0 c.requires.1) c.operand_from-d.ensures.0 c.in_ok-eval.ensures (kept_same _ _) (omega arith) (omega arith) in (omega (arith, h.0, c.decreases), h.1)

pub plain::branch-returns-then-branch : goal.plain::branch-returns-then-branch
plain::branch-returns-then-branch t c = if_yes c.requires.0 c.requires.1 c.operand_from-a.ensures.0 c.in_ok-eval.ensures refl c.test.ensures (judged_some c.test.result c.args.r (sym (c.ok_or.ensures.value ∙ judged_as c.test.result c.args.r c.at.ensures) ∙ c.in_ok-ok_or.was) ∙ ap Some c.if-branch.true) c.operand_from-b.ensures.0 c.eval-then-branch.ensures

pub plain::branch-returns : goal.plain::branch-returns
plain::branch-returns t c = if_no c.requires.0 c.requires.1 c.operand_from-a.ensures.0 c.in_ok-eval.ensures refl c.test.ensures (judged_some c.test.result c.args.r (sym (c.ok_or.ensures.value ∙ judged_as c.test.result c.args.r c.at.ensures) ∙ c.in_ok-ok_or.was) ∙ ap Some c.if-branch.false) c.operand_from-d.ensures.0 c.eval-2.ensures

pub plain::branch-returns-in_err-ok_or : goal.plain::branch-returns-in_err-ok_or
plain::branch-returns-in_err-ok_or t c = let p = err_from_is_err_and c.from_residual-in_err-ok_or.result c.from_residual-in_err-ok_or.ensures.1 in rw (p.1, p.2) (if_bad c.requires.0 c.requires.1 c.operand_from-a.ensures.0 c.in_ok-eval.ensures refl c.test.ensures (judged_none c.test.result c.args.r (sym (c.ok_or.ensures.value ∙ judged_as c.test.result c.args.r c.at.ensures) ∙ c.in_err-ok_or.was)).0 (judged_none c.test.result c.args.r (sym (c.ok_or.ensures.value ∙ judged_as c.test.result c.args.r c.at.ensures) ∙ c.in_err-ok_or.was)).1)

pub plain::logic-left-requires : goal.plain::logic-left-requires
plain::logic-left-requires t c = logic_held c.requires.0 c.requires.1 c.requires.2 c.operand_from-first.ensures.0 c.in_ok-eval.ensures c.requires.3 refl

pub plain::logic-at_record-requires : goal.plain::logic-at_record-requires
plain::logic-at_record-requires t c = small_place c.requires.0

pub plain::logic-returns-in_err-t : goal.plain::logic-returns-in_err-t
plain::logic-returns-in_err-t t c =
    let p = err_from_is_err_and c.from_residual-in_err-t.result c.from_residual-in_err-t.ensures.1 in
    let y = answer_err c.left.result c.args.r (sym c.at_record.ensures ∙ c.in_err-t.was) in
    rw (p.1, p.2) (logic_bad c.requires.0 c.requires.1 c.requires.2 c.operand_from-first.ensures.0 c.in_ok-eval.ensures c.requires.3 refl c.left.ensures y.1 y.2)

pub plain::logic-operand_from-second-requires : goal.plain::logic-operand_from-second-requires
plain::logic-operand_from-second-requires t c = (logic_next c.requires.0 c.requires.1, after_binary c.requires.1)

pub plain::logic-eval-requires-in-Open : goal.plain::logic-eval-requires-in-Open
plain::logic-eval-requires-in-Open t c = let h = next_asked c.requires.0 c.args.base (logic_next c.requires.0 c.requires.1) c.operand_from-second.ensures.0 c.in_ok-eval.ensures c.left.ensures.kept (omega arith) (omega arith) in (omega (arith, h.0, c.decreases), h.1)

pub plain::logic-returns-in_err-eval-in-Open : goal.plain::logic-returns-in_err-eval-in-Open
plain::logic-returns-in_err-eval-in-Open t c = let p = err_from_is_err_and c.from_residual-in_err-eval-in-Open.result c.from_residual-in_err-eval-in-Open.ensures.1 in rw (p.1, p.2) (logic_off_right c.requires.0 c.requires.1 c.requires.2 c.operand_from-first.ensures.0 c.in_ok-eval.ensures c.requires.3 refl c.left.ensures (answer_ok c.left.result c.args.r (sym c.at_record.ensures ∙ c.in_ok-t.was) ∙ ap Ok c.in-Open.is) c.operand_from-second.ensures.0 c.in_err-eval-in-Open.ensures no_value)

pub plain::logic-right-requires : goal.plain::logic-right-requires
plain::logic-right-requires t c = logic_right_held c.requires.0 c.requires.1 c.requires.2 c.operand_from-first.ensures.0 c.in_ok-eval.ensures c.requires.3 refl c.left.ensures (answer_ok c.left.result c.args.r (sym c.at_record.ensures ∙ c.in_ok-t.was) ∙ ap Ok c.in-Open.is) c.operand_from-second.ensures.0 c.in_ok-eval-in-Open.ensures refl

pub plain::logic-returns-in_ok-eval-in-Open : goal.plain::logic-returns-in_ok-eval-in-Open
plain::logic-returns-in_ok-eval-in-Open t c = logic_both c.requires.0 c.requires.1 c.requires.2 c.operand_from-first.ensures.0 c.in_ok-eval.ensures c.requires.3 refl c.left.ensures (answer_ok c.left.result c.args.r (sym c.at_record.ensures ∙ c.in_ok-t.was) ∙ ap Ok c.in-Open.is) c.operand_from-second.ensures.0 c.in_ok-eval-in-Open.ensures refl c.right.ensures c.at_record-in-Open.ensures

pub plain::logic-returns-in-Settled : goal.plain::logic-returns-in-Settled
plain::logic-returns-in-Settled t c = logic_done c.requires.0 c.requires.1 c.requires.2 c.operand_from-first.ensures.0 c.in_ok-eval.ensures c.requires.3 refl c.left.ensures (answer_ok c.left.result c.args.r (sym c.at_record.ensures ∙ c.in_ok-t.was) ∙ ap Ok c.in-Settled.is)

pub plain::logic-at_record-requires-in-Open : goal.plain::logic-at_record-requires-in-Open
plain::logic-at_record-requires-in-Open t c = small_place c.requires.0
