use Rattle.forming.proofs.Pushing.{piece_held, part_pushed}
use Rattle.forming.proofs.push_piece.Goals as goal

pub word_of-b-requires : goal.word_of-b-requires
word_of-b-requires c = (c.requires.held.held.short, piece_held _ _ _ _ _ _ _ _ _ _ _ c.requires.held _ c.requires.meets)

pub returns : goal.returns
returns c =
    λ k n part d g o. part_pushed _ _ _ _ _ _ _ _ _ _ _ g _ o _ c.operand-q.ensures.0 _ c.word_of-b.ensures
