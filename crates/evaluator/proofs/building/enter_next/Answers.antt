use Rattle.std.proofs.lemmas.Result.{err_from_is_err_and}
use Rattle.evaluator.proofs.Simple.{enter_room, enter_still, enter_done}
use Rattle.evaluator.proofs.building.enter_next.Goals as goal

pub returns-in_err-so_far : goal.returns-in_err-so_far
returns-in_err-so_far c = let p = err_from_is_err_and c.from_residual.result c.from_residual.ensures.1 in rw (p.1, p.2) (enter_still c.in_err-so_far.was)

pub enter-requires : goal.enter-requires
enter-requires c = enter_room c.requires (c.in_ok-so_far.was)

pub returns : goal.returns
returns c = enter_done (c.in_ok-so_far.was) c.enter.ensures
