-- `collections::finding::find_key` meets its contract.
use mathlib.Core.Path.{sym, ◌∙◌}
use native.Mathlib.Omega.{arith}
use Rattle.values.proofs.Records.{holds}
use Rattle.collections.proofs.Sights.{entry, at_key, ok_at, no_key}
use Rattle.collections.proofs.finding.find_key.Goals as goal

pub length_of-requires : goal.length_of-requires
length_of-requires c =
    let h = c.requires in
    holds (entry c.seek.ensures _ (ok_at (sym c.ok.ensures.value ∙ c.in_ok-p.was)) h.0.items h.1.value h.0.here h.1.here).key_at

pub overflow_add-result : goal.overflow_add-result
overflow_add-result c =
    let h = c.requires in
    let y = entry c.seek.ensures _ (ok_at (sym c.ok.ensures.value ∙ c.in_ok-p.was)) h.0.items h.1.value h.0.here h.1.here in
    let f = y.value_at.fits in
    omega (arith, c.length_of.ensures.is)

pub returns : goal.returns
returns c = at_key c.seek.ensures _ (ok_at (sym c.ok.ensures.value ∙ c.in_ok-p.was)) _ c.length_of.ensures.is

pub returns-in_err-p : goal.returns-in_err-p
returns-in_err-p c = rw c.from_residual.ensures (no_key c.seek.ensures (sym c.ok.ensures.value ∙ c.in_err-p.was))
