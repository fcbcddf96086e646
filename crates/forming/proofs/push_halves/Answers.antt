-- `push_halves`: the right half first, so that the left one stands before it.
use native.Mathlib.Omega.{arith}
use Rattle.parts.proofs.Halving.{split_countable}
use Rattle.forming.proofs.Pushing.{second_asked, split_low, split_asked, split_made, second_piece, first_asked, first_piece, halves_pushed}
use Rattle.forming.proofs.push_halves.Goals as goal

pub mask_of-mask-requires : goal.mask_of-mask-requires
mask_of-mask-requires c = split_countable (split_asked _ _ _ _ _ _ _ _ c.requires.0 _ c.requires.1 c.requires.2)

pub overflow_add-d : goal.overflow_add-d
overflow_add-d c = omega (arith, split_low _ _ _ _ _ _ _ _ c.requires.0 _ c.requires.1 c.requires.2)

pub spread-left-requires : goal.spread-left-requires
spread-left-requires c = c.mask_of-mask.ensures.low

pub halves_by-h-requires : goal.halves_by-h-requires
halves_by-h-requires c = (c.mask_of-mask.ensures.low, c.spread-left.ensures.low)

pub push_piece-requires : goal.push_piece-requires
push_piece-requires c =
    let o = split_made _ _ _ _ _ _ _ _ c.requires.0 _ c.requires.1 c.requires.2 _ _ c.mask_of-mask.ensures c.spread-left.ensures _ c.halves_by-h.ensures in
    record { kind = _; count = _; part = _; way = _; held = second_asked _ _ _ _ _ _ _ _ c.requires.0 _ c.requires.1 c.requires.2; meets = second_piece _ _ _ _ _ _ _ _ c.requires.0 _ c.requires.1 c.requires.2 _ o }

pub push_piece-requires-2 : goal.push_piece-requires-2
push_piece-requires-2 c =
    let o = split_made _ _ _ _ _ _ _ _ c.requires.0 _ c.requires.1 c.requires.2 _ _ c.mask_of-mask.ensures c.spread-left.ensures _ c.halves_by-h.ensures in
    let f = c.push_piece.ensures _ _ _ _ (second_asked _ _ _ _ _ _ _ _ c.requires.0 _ c.requires.1 c.requires.2) (second_piece _ _ _ _ _ _ _ _ c.requires.0 _ c.requires.1 c.requires.2 _ o) in
    record { kind = _; count = _; part = _; way = _; held = first_asked _ _ _ _ _ _ _ _ c.requires.0 _ c.requires.1 c.requires.2 _ o _ f; meets = first_piece _ _ _ _ _ _ _ _ c.requires.0 _ c.requires.1 c.requires.2 _ o _ f }

pub returns : goal.returns
returns c =
    let o = split_made _ _ _ _ _ _ _ _ c.requires.0 _ c.requires.1 c.requires.2 _ _ c.mask_of-mask.ensures c.spread-left.ensures _ c.halves_by-h.ensures in
    let f = c.push_piece.ensures _ _ _ _ (second_asked _ _ _ _ _ _ _ _ c.requires.0 _ c.requires.1 c.requires.2) (second_piece _ _ _ _ _ _ _ _ c.requires.0 _ c.requires.1 c.requires.2 _ o) in
    halves_pushed _ _ _ _ _ _ _ _ c.requires.0 _ c.requires.1 c.requires.2 _ o _ f _ (c.push_piece-2.ensures _ _ _ _ (first_asked _ _ _ _ _ _ _ _ c.requires.0 _ c.requires.1 c.requires.2 _ o _ f) (first_piece _ _ _ _ _ _ _ _ c.requires.0 _ c.requires.1 c.requires.2 _ o _ f))
