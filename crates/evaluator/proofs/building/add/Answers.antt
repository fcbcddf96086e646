use Rattle.values.specs.Value.{set, sequence, Value, Items}
use Rattle.values.specs.Items.{snoc, insert}
use Rattle.std.proofs.lemmas.Result.{err_from_is_err_and}
use Rattle.evaluator.proofs.Simple.{add_room, add_done, add_still, set_added, sequence_added}
use Rattle.evaluator.proofs.building.add.Goals as goal

pub returns-in_err-so_far : goal.returns-in_err-so_far
returns-in_err-so_far c = let p = err_from_is_err_and c.from_residual.result c.from_residual.ensures.1 in rw (p.1, p.2) (add_still c.in_err-so_far.was)

pub insert-requires : goal.insert-requires
insert-requires c = add_room c.requires set (set_added c.args.k c.if-k-eq-SET.true).0 (c.in_ok-so_far.was)

pub returns-then-k-eq-SET : goal.returns-then-k-eq-SET
returns-then-k-eq-SET c =
    add_done c.requires set (set_added c.args.k c.if-k-eq-SET.true).0 (λ (vs : Items) (v : Value). insert v vs) (set_added c.args.k c.if-k-eq-SET.true).1 (c.in_ok-so_far.was) c.insert.ensures

pub append-requires : goal.append-requires
append-requires c =
    add_room c.requires sequence (sequence_added c.requires.which c.if-k-eq-SET.false).0 (c.in_ok-so_far.was)

pub returns : goal.returns
returns c =
    add_done c.requires sequence (sequence_added c.requires.which c.if-k-eq-SET.false).0 snoc (sequence_added c.requires.which c.if-k-eq-SET.false).1 (c.in_ok-so_far.was) c.append.ensures
