use Rattle.integers.proofs.Written.{halves_stored}
use Rattle.bindings.proofs.filling.put_word.Goals as goal

pub returns : goal.returns
returns c =
    halves_stored c.args.s.now c.put16.new.s c.put16-2.new.s c.args.at c.args.word c.put16.ensures c.put16-2.ensures
