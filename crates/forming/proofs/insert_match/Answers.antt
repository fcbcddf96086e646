use Rattle.std.proofs.lemmas.Result.{err_from_is_err_and}
use Rattle.forming.proofs.Rowing.{match_made, match_refused}
use Rattle.forming.proofs.insert_match.Goals as goal

pub returns-in_err-k : goal.returns-in_err-k
returns-in_err-k c =
    let p = err_from_is_err_and c.from_residual.result c.from_residual.ensures.1 in rw (p.1, p.2) (match_refused _ _ _ _ _ _ _ _ c.requires _ c.in_err-k.ensures)

pub returns : goal.returns
returns c = match_made _ _ _ _ _ _ _ _ _ c.in_ok-k.ensures
