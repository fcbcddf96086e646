use native.Mathlib.Omega.{arith}
use Rattle.forming.proofs.Downward.{reached, take_asked, no_match, enter_asked, match_told, open_asked, repeat_asked, repeated, none_less, match_less, open_less}
use Rattle.forming.proofs.Told.{none_of}
use Rattle.forming.proofs.down.Goals as goal

pub take_leaves-requires : goal.take_leaves-requires
take_leaves-requires c = take_asked _ _ _ _ _ _ _ _ _ _ _ _ _ c.requires.1

pub insert_match-requires : goal.insert_match-requires
insert_match-requires c =
    enter_asked _ _ _ _ _ _ _ _ _ _ _ _ _ c.requires.1 _ _ c.take_leaves.ensures _ c.in-Some.is c.if-at-eq0.true

pub is_repeat-requires : goal.is_repeat-requires
is_repeat-requires c =
    repeat_asked _ _ _ _ _ _ _ _ _ _ _ _ _ _ (open_asked _ _ _ _ _ _ _ _ _ _ _ _ _ c.requires.1 _ _ c.take_leaves.ensures _ c.in-Some.is (omega arith))

pub returns-then-at-eq0 : goal.returns-then-at-eq0
returns-then-at-eq0 c =
    record { right = λ t d. match_told _ _ _ _ _ _ _ _ _ _ _ _ t d _ _ c.take_leaves.ensures _ c.in-Some.is c.if-at-eq0.true _ _ _ c.insert_match.ensures; less = match_less _ _ _ _ _ _ _ _ _ c.insert_match.ensures _ _ _ }

pub open_frame-opened-requires : goal.open_frame-opened-requires
open_frame-opened-requires c =
    record { hit = _; rows = _; order = _; target = _; waiting = open_asked _ _ _ _ _ _ _ _ _ _ _ _ _ c.requires.1 _ _ c.take_leaves.ensures _ c.in-Some.is (omega arith) }

pub returns : goal.returns
returns c =
    record { right = λ t d. reached _ _ _ _ _ _ _ _ _ _ _ (c.open_frame-opened.ensures.right _ _ _ t (open_asked _ _ _ _ _ _ _ _ _ _ _ _ t d _ _ c.take_leaves.ensures _ c.in-Some.is (omega arith))); less = open_less _ _ _ _ _ _ _ _ _ (c.take_leaves.ensures.falls _ c.in-Some.is (omega arith)) c.open_frame-opened.ensures.less }

pub returns-then-is_repeat : goal.returns-then-is_repeat
returns-then-is_repeat c =
    record { right = λ t d. repeated _ _ _ _ _ _ _ _ _ _ _ _ _ t (open_asked _ _ _ _ _ _ _ _ _ _ _ _ t d _ _ c.take_leaves.ensures _ c.in-Some.is (omega arith)) (c.is_repeat.ensures c.if-is_repeat.true); less = none_less _ _ _ _ _ _ }

pub returns-in_default : goal.returns-in_default
returns-in_default c =
    record { right = λ t d. no_match _ _ _ _ _ _ _ _ _ _ _ _ t d _ _ c.take_leaves.ensures (none_of _ c.in_default.not-Some); less = none_less _ _ _ _ _ _ }
