-- 10, or the first list.
use Rattle.services.proofs.Calls.{part_long, walkable, first_few, first_left}
use mathlib.Core.Path.{sym, ap, ◌∙◌}
use Rattle.meaning.specs.Answer.{pack}
use Rattle.services.specs.Left.{walk_of}
use Rattle.services.proofs.first.first_accepted.Goals as goal

pub returns-then-entries-lt-LIMIT : goal.returns-then-entries-lt-LIMIT
returns-then-entries-lt-LIMIT c =
    first_few c.args.sheet.now c.args.scratch.now (walk_of c.args.entries.now c.args.len.now) c.requires.enough c.args.count c.requires.ok c.pack.result (c.pack.ensures ∙ ap (λ n. pack n 0 0) c.number.ensures) c.if-entries-lt-LIMIT.true

pub first_walk-walk-requires : goal.first_walk-walk-requires
first_walk-walk-requires c =
    walkable c.args.sheet.now c.args.scratch.now c.args.count c.requires.ok c.requires.enough

pub store-requires : goal.store-requires
store-requires c = (c.first_walk-walk.ensures.1, c.if-entries-lt-LIMIT.false)

pub returns : goal.returns
returns c =
    first_left c.args.sheet.now c.args.scratch.now (walk_of c.args.entries.now c.args.len.now) c.requires.enough c.args.count c.requires.ok c.if-entries-lt-LIMIT.false c.first_walk-walk.new.s (c.first_walk-walk.auto.s ∙ sym (part_long c.args.scratch.now c.requires.enough)) c.first_walk-walk.result c.first_walk-walk.ensures.0 _ c.store.ensures c.pack-2.result c.pack-2.ensures
