use Rattle.parts.proofs.Packing.{pack_none, pack_whole, pack_wide}
use Rattle.parts.proofs.words.word_of.Goals as goal

pub returns-in-Nothing : goal.returns-in-Nothing
returns-in-Nothing c = pack_none _ _ c.in-Nothing.is

pub returns-in-Whole : goal.returns-in-Whole
returns-in-Whole c = pack_whole _ _ c.requires.0 c.in-Whole.is c.requires.1

pub returns-in_default : goal.returns-in_default
returns-in_default c =
    rw c.code.ensures (pack_wide _ _ c.requires.0 c.in_default.not-Nothing c.in_default.not-Whole c.requires.1)
