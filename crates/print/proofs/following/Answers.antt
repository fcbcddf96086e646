-- `following` meets its contract, case by case.
use mathlib.Core.Path.{sym, ap, ap₂}
use mathlib.Core.Bool.{Bool}
use mathlib.Core.Logic.{⊎_elim}
use borrow.Author.Tests.{not-true, not-false}
use Rattle.print.specs.Contract.{following}
use Rattle.print.proofs.following.Goals as goal

pub returns-then-not-is_map : goal.returns-then-not-is_map
returns-then-not-is_map c =
    sym (ap (λ (b : Bool). following b c.args.separator) (not-true c.args.is_map c.if-not-is_map.true-raw))

pub returns-in-Nothing : goal.returns-in-Nothing
returns-in-Nothing c =
    ⊎_elim (λ e. sym (ap₂ following (not-false c.args.is_map c.if-not-is_map.false-raw) e)) (λ e. sym (ap₂ following (not-false c.args.is_map c.if-not-is_map.false-raw) e)) c.in-Nothing.is

pub returns-in-Arrow : goal.returns-in-Arrow
returns-in-Arrow c = sym (ap₂ following (not-false c.args.is_map c.if-not-is_map.false-raw) c.in-Arrow.is)
