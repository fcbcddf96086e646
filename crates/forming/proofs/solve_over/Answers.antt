use mathlib.Core.Path.{refl, sym, ◌∙◌}
use Rattle.std.proofs.lemmas.Result.{err_from_is_err_and}
use Rattle.forming.proofs.Returning.{starting}
use Rattle.forming.proofs.solve_over.Goals as goal

pub down-requires : goal.down-requires
down-requires c = (_, starting _ _ _ _ _ _ _ _ _ c.requires _ refl)

pub returns-in_err-first : goal.returns-in_err-first
returns-in_err-first c =
    let p = err_from_is_err_and c.from_residual.result c.from_residual.ensures.1 in
    rw (p.1, p.2) (record { long = refl; right = λ k. (c.in_err-first.ensures.right _ (starting _ _ _ _ _ _ _ _ _ k _ refl)).full _ refl })

pub finish-requires : goal.finish-requires
finish-requires c = (_, c.in_ok-first.ensures.right _ (starting _ _ _ _ _ _ _ _ _ c.requires _ refl))

pub returns : goal.returns
returns c =
    record { long = c.finish.ensures.long ∙ sym c.requires.long; right = λ k. c.finish.ensures.right _ (c.in_ok-first.ensures.right _ (starting _ _ _ _ _ _ _ _ _ k _ refl)) }
