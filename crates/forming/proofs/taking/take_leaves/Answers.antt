use native.Mathlib.Omega.{arith}
use Rattle.tables.proofs.Laws.Kinds.{composed_told}
use Rattle.forming.proofs.Leaving.{take_start, head_low, entry_low, entry_readable, next_lower, leaf_asked, ask_asked, take_wait, take_leaf, take_none, take_lacked, take_full, take_end}
use Rattle.forming.proofs.taking.take_leaves.Goals as goal

pub loop-head-init : goal.loop-head-init
loop-head-init c = take_start _ _ _ _ _ c.requires

pub overflow_mul-p : goal.overflow_mul-p
overflow_mul-p c = omega (arith, head_low _ _ _ _ _ c.requires _ _ _ c.loop-head.invariant)

pub offset_bounds-agenda-head : goal.offset_bounds-agenda-head
offset_bounds-agenda-head c = omega (arith, head_low _ _ _ _ _ c.requires _ _ _ c.loop-head.invariant)

pub bounds-agenda-head : goal.bounds-agenda-head
bounds-agenda-head c = omega (arith, head_low _ _ _ _ _ c.requires _ _ _ c.loop-head.invariant)

pub overflow_cast-p : goal.overflow_cast-p
overflow_cast-p c = omega (arith, entry_low _ _ _ _ _ c.requires _ _ _ c.loop-head.invariant (omega arith))

pub overflow_mul-word : goal.overflow_mul-word
overflow_mul-word c = omega (arith, head_low _ _ _ _ _ c.requires _ _ _ c.loop-head.invariant)

pub overflow_add-word : goal.overflow_add-word
overflow_add-word c = omega (arith, head_low _ _ _ _ _ c.requires _ _ _ c.loop-head.invariant)

pub offset_bounds-agenda-head-in-loop-head : goal.offset_bounds-agenda-head-in-loop-head
offset_bounds-agenda-head-in-loop-head c = omega (arith, head_low _ _ _ _ _ c.requires _ _ _ c.loop-head.invariant)

pub bounds-agenda-head-in-loop-head : goal.bounds-agenda-head-in-loop-head
bounds-agenda-head-in-loop-head c = omega (arith, head_low _ _ _ _ _ c.requires _ _ _ c.loop-head.invariant)

pub overflow_mul-next : goal.overflow_mul-next
overflow_mul-next c = omega (arith, head_low _ _ _ _ _ c.requires _ _ _ c.loop-head.invariant)

pub overflow_add-next : goal.overflow_add-next
overflow_add-next c = omega (arith, head_low _ _ _ _ _ c.requires _ _ _ c.loop-head.invariant)

pub offset_bounds-agenda-head-in-loop-head-2 : goal.offset_bounds-agenda-head-in-loop-head-2
offset_bounds-agenda-head-in-loop-head-2 c = omega (arith, head_low _ _ _ _ _ c.requires _ _ _ c.loop-head.invariant)

pub bounds-agenda-head-in-loop-head-2 : goal.bounds-agenda-head-in-loop-head-2
bounds-agenda-head-in-loop-head-2 c = omega (arith, head_low _ _ _ _ _ c.requires _ _ _ c.loop-head.invariant)

pub overflow_cast-next : goal.overflow_cast-next
overflow_cast-next c =
    omega (arith, next_lower _ _ _ _ _ c.requires _ _ _ c.loop-head.invariant (omega arith), head_low _ _ _ _ _ c.requires _ _ _ c.loop-head.invariant)

pub kind-k-requires : goal.kind-k-requires
kind-k-requires c = (entry_readable _ _ _ _ _ c.requires _ _ _ c.loop-head.invariant (omega arith)).here

pub is_composed-requires : goal.is_composed-requires
is_composed-requires c = c.kind-k.ensures.1

pub may_match-requires : goal.may_match-requires
may_match-requires c = ask_asked _ _ _ _ _ c.requires _ _ _ c.loop-head.invariant (omega arith)

pub loop-head-smaller-else-wait-gt0 : goal.loop-head-smaller-else-wait-gt0
loop-head-smaller-else-wait-gt0 c = omega (arith, next_lower _ _ _ _ _ c.requires _ _ _ c.loop-head.invariant (omega arith))

pub loop-head-preserved-else-wait-gt0 : goal.loop-head-preserved-else-wait-gt0
loop-head-preserved-else-wait-gt0 c =
    take_wait _ _ _ _ _ c.requires _ _ _ c.loop-head.invariant (omega arith) (composed_told c.kind-k.ensures.0 c.is_composed.ensures c.if-is_composed.true) (omega arith)

pub match_leaf-requires : goal.match_leaf-requires
match_leaf-requires c =
    let h = leaf_asked _ _ _ _ _ c.requires _ _ _ c.loop-head.invariant (omega arith) (composed_told c.kind-k.ensures.0 c.is_composed.ensures c.if-is_composed.false) in
    record { leaf_held = h.0; part_held = h.1 }

pub loop-head-smaller : goal.loop-head-smaller
loop-head-smaller c = omega (arith, next_lower _ _ _ _ _ c.requires _ _ _ c.loop-head.invariant (omega arith))

pub loop-head-preserved : goal.loop-head-preserved
loop-head-preserved c =
    take_leaf _ _ _ _ _ c.requires _ _ _ c.loop-head.invariant (omega arith) _ _ (λ v b q h. c.match_leaf.ensures.0 v b q h) c.match_leaf.ensures.1 c.if-not-match_leaf.false

pub returns : goal.returns
returns c = take_end _ _ _ _ _ c.requires _ _ _ c.loop-head.invariant (omega arith)

pub returns-then-not-may_match : goal.returns-then-not-may_match
returns-then-not-may_match c =
    take_lacked _ _ _ _ _ c.requires _ _ _ c.loop-head.invariant (omega arith) _ c.may_match.ensures c.if-not-may_match.true

pub returns-then-wait-gt0 : goal.returns-then-wait-gt0
returns-then-wait-gt0 c = take_full _ _ _ _ _ c.requires _ _ _ c.loop-head.invariant (omega arith)

pub returns-then-not-match_leaf : goal.returns-then-not-match_leaf
returns-then-not-match_leaf c =
    take_none _ _ _ _ _ c.requires _ _ _ c.loop-head.invariant (omega arith) _ _ (λ v b q h. c.match_leaf.ensures.0 v b q h) c.match_leaf.ensures.1 c.if-not-match_leaf.true
