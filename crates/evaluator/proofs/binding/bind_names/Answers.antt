-- A binding without names is entered as it is; another is brought into the window first.
use native.Mathlib.Omega.{arith}
use Rattle.evaluator.proofs.Firsts.{binder_first}
use Rattle.evaluator.proofs.Standing.{binder_has, binder_readable}
use Rattle.evaluator.proofs.Entering.{inside_reachable, inside_under, entering, nameless_enters}
use Rattle.evaluator.proofs.binding.bind_names.Goals as goal

pub returns-then-is_nameless : goal.returns-then-is_nameless
returns-then-is_nameless c = nameless_enters c.requires.stands (c.is_nameless.ensures c.if-is_nameless.true)

pub operand_from-p-requires : goal.operand_from-p-requires
operand_from-p-requires c =
    (binder_has c.requires.stands.asked c.requires.stands.binder 0 (omega arith), binder_first c.requires.stands.binder)

pub reach-near-requires : goal.reach-near-requires
reach-near-requires c =
    record {
      readable = binder_readable c.requires.stands.asked c.requires.stands.binder c.operand_from-p.ensures.0;
      reachable = inside_reachable c.requires.stands {up = 1536} (omega arith, omega arith) c.operand_from-p.ensures.0;
    }

pub under-requires : goal.under-requires
under-requires c =
    inside_under c.requires.stands {up = 1536} (omega arith, omega arith) c.operand_from-p.ensures.0 c.reach-near.ensures

pub returns : goal.returns
returns c = entering c.operand_from-p.ensures.0 c.reach-near.ensures c.under.ensures
