-- Items of the collection at base go into an empty set above it.
use mathlib.Core.Path.{◌≡◌, refl, sym, ◌∙◌}
use mathlib.Core.List.{List}
use mathlib.Core.Logic.{inl}
use Prim.Native.Nat.{ℕ, ◌+◌, ◌≤◌}
use native.Mathlib.Omega.{arith}
use lib.ListN.{length}
use Rattle.integers.specs.Bytes.{word}
use Rattle.values.specs.Value.{Kind, set, sequence, number, collection, Items, none, size, Ascending}
use Rattle.values.specs.Place.{At, ItemsAt, HoldsItems}
use Rattle.values.specs.Contract.{Copyable, Copied}
use Rattle.values.proofs.Records.{holds, items_to}
use Rattle.values.proofs.Encoding.{collection_size, none_sizes}
use Rattle.values.proofs.Frame.{outside_wider, outside_both, items_below}
use Rattle.collections.specs.Building.{Added}
use Rattle.collections.specs.Building.{Empties}
use Rattle.collections.proofs.Additions.{added_put}
use Rattle.operators.specs.Answer.{Answer, is}
use Rattle.operators.specs.Gather.{insert_all}
use Rattle.operator_laws.proofs.Gather.{sizes_insert_all}
use Rattle.std.specs.Prelude.{Ok}
use Rattle.calling.specs.Scratch.{second, workspace, Kept}
use Rattle.calling.specs.Operands.{Has, OnItems}
use Rattle.calling.proofs.Framing.{kept_then, kept_outside, copyable_down, copied_kept}
use Rattle.calling.proofs.Answering.{is_done}
use Rattle.calling.proofs.Kinding.{items_by}
use Rattle.gathering.specs.Inserting.{Growing, Grown, InsertsAll, themselves}

-- ---- whatever is gathered of them

module _ {s t : List ℕ} {base : ℕ} {k : Kind} {vs : Items} (a : At s base (collection k vs)) (n : ℕ) (q : n ≡ word s base) (e : Empties s t (base + second) 3) (room : base + workspace ≤ length s) where
  pub still_there : ItemsAt t (base + 4) (base + n) vs
  still_there = let h = (holds a).high in items_below e.frame (omega arith) (items_to q a)

  nothing_yet : At t (base + second) (collection set none)
  unfolding Ascending
  nothing_yet = e.right set refl tt

  pub empty_room : Growing t (base + 4) (base + n) (base + second)
  empty_room =
      let h = (holds a).high in
      let long = e.frame.long in
      record { held = record { items = none; here = nothing_yet }; room = omega arith; apart = inl (omega arith) }

  module _ {g : Items → Items} {u : List ℕ} {r : Added} (i : InsertsAll g t u (base + 4) (base + n) (base + second) r) where
    pub gathered : Grown u (base + second) (insert_all none (g vs)) r
    gathered = i.right none vs nothing_yet still_there

    pub gathered_kept : Kept s u base
    gathered_kept = kept_outside (omega arith) (outside_both (outside_wider (omega arith) (omega arith) e.frame) i.frame)

-- ---- the items of a sequence themselves

abbrev pub elems : Items → Answer
elems vs = is (collection set (insert_all none vs))

module _ {s t : List ℕ} {base n : ℕ} (h : Has sequence s base) (q : n ≡ word s base) (e : Empties s t (base + second) (number set)) where
  pub elements_room : HoldsItems t (base + 4) (base + n) × Growing t (base + 4) (base + n) (base + second)
  elements_room = ((h.held.items, still_there h.held.here n q e h.room), empty_room h.held.here n q e h.room)

  module _ {u : List ℕ} {r : Added} (i : InsertsAll themselves t u (base + 4) (base + n) (base + second) r) where
    -- they fit
    pub elements_fit : r ≡ Ok tt
    elements_fit =
        let vs = h.held.items in
        let g = gathered h.held.here n q e h.room i in
        let short = h.held.here.fine.short in
        let c₁ = collection_size sequence vs in
        let c₂ = collection_size set (insert_all none vs) in
        g.answers ∙ sym (added_put (size (collection set (insert_all none vs))) (omega (arith, sizes_insert_all none vs, none_sizes)))

    all_in : At u (base + second) (collection set (insert_all none h.held.items))
    all_in = (gathered h.held.here n q e h.room i).made elements_fit

    pub elements_copy : Copyable u (base + second) base
    elements_copy = copyable_down (omega arith) (holds all_in)

    pub elements_done : {w : List ℕ} {m : ℕ} → Copied u w (base + second) base m → OnItems sequence elems s w base (Ok tt)
    elements_done c =
        items_by {f = elems} (kept_then (gathered_kept h.held.here n q e h.room i) (copied_kept c)) h.held.here
        (is_done refl (c.here _ all_in))
