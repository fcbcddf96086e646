use Rattle.forming.proofs.Pushing.{piece_asked}
use Rattle.forming.proofs.push_part.Goals as goal

pub piece-a-requires : goal.piece-a-requires
piece-a-requires c = piece_asked _ _ _ _ _ _ _ _ _ _ _ c.requires

pub returns : goal.returns
returns c = c.push_piece.ensures _ _ _ _ c.requires c.piece-a.ensures
