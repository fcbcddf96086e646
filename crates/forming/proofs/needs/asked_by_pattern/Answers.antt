use native.Mathlib.Omega.{arith}
use Rattle.patterns.specs.Nodes.{collection_of}
use Rattle.parts.proofs.Laws.{collection_held}
use Rattle.forming.proofs.Needing.{whole_lacks}
use Rattle.forming.proofs.needs.asked_by_pattern.Goals as goal

pub count_of_part-n-requires : goal.count_of_part-n-requires
count_of_part-n-requires c =
    collection_held (collection_of c.in-Some.c) c.kind_of_part-k.ensures (c.union_of.ensures _ c.in-Some.is).1 c.requires.1

pub overflow_mul-width : goal.overflow_mul-width
overflow_mul-width c = omega (arith, c.width.ensures.2)

pub asked_by_tree-requires : goal.asked_by_tree-requires
asked_by_tree-requires c =
    (c.requires.0, collection_held (collection_of c.in-Some.c) c.kind_of_part-k.ensures (c.union_of.ensures _ c.in-Some.is).1 c.requires.1, (c.union_of.ensures _ c.in-Some.is).0)

pub returns : goal.returns
returns c =
    λ e z. whole_lacks _ _ c.in-Some.c _ _ _ _ c.kind_of_part-k.ensures (c.union_of.ensures _ c.in-Some.is).1 (c.asked_by_tree.ensures e z)
