-- `applying::bring` meets its contract.
use mathlib.Core.Path.{sym, ◌∙◌}
use Rattle.calling.proofs.Answering.{passed_up}
use Rattle.application.proofs.Finding.{bring_copyable, bring_done, bring_off, found_of}
use Rattle.application.proofs.bring.Goals as goal

pub copy_value-requires : goal.copy_value-requires
copy_value-requires c = bring_copyable (found_of _ (sym c.ok_or.ensures.value ∙ c.in_ok-p.was)) c.requires

pub returns : goal.returns
returns c = bring_done (found_of _ (sym c.ok_or.ensures.value ∙ c.in_ok-p.was)) c.copy_value.ensures

pub returns-in_err-p : goal.returns-in_err-p
returns-in_err-p c =
    rw (passed_up _ c.from_residual.ensures.1) (bring_off _ (sym c.ok_or.ensures.value ∙ c.in_err-p.was))
