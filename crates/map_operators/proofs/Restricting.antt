-- The loop of `restrict`: those done are the entries passed that pass the test. What is made of it. Assumes nothing.
use mathlib.Core.Path.{◌≡◌, refl, sym, ap, subst, ◌∙◌}
use mathlib.Core.Bool.{Bool, true, false}
use mathlib.Core.List.{List}
use mathlib.Core.Logic.{inl, inr}
use Prim.Native.Nat.{ℕ, ◌+◌, ◌-◌, ◌≤◌, ◌<◌}
use native.Mathlib.Omega.{arith}
use Rattle.prelude.proofs.Absurd.{impossible}
use Rattle.integers.specs.Bytes.{word}
use Rattle.values.specs.Value.{set, map, number, Value, collection, Items, none, more, size, Paired, Shaped}
use Rattle.values.specs.Items.{join, is_member}
use Rattle.values.specs.Place.{At, ItemsAt}
use Rattle.values.specs.Contract.{Movable, Moved, PutHead, Copyable, Copied}
use Rattle.values.proofs.Records.{holds, word_size, one-item, more_of, collection_shaped}
use Rattle.values.proofs.Encoding.{none_sizes, more_sizes}
use Rattle.values.proofs.Frame.{outside_wider}
use Rattle.values.proofs.Joined.{join-none, join_join}
use Rattle.collections.specs.Finding.{HoldsKind, Contains}
use Rattle.collections.specs.Building.{Apart}
use Rattle.collections.proofs.Built.{at_apart}
use Rattle.operators.specs.Answer.{Answer, is}
use Rattle.operators.specs.Gather.{keep_entries}
use Rattle.operator_laws.proofs.Entries.{keep_true, keep_false, paired_keep, ascending_keys}
use Rattle.calling.specs.Scratch.{second}
use Rattle.std.specs.Prelude.{Ok}
use Rattle.calling.proofs.Answering.{is_done}
use Rattle.calling.proofs.Framing.{kept_then, kept_less, copyable_down, copied_kept}
use Rattle.calling.specs.Operands.{HasTwo, OnItems, OnBoth}
use Rattle.calling.proofs.Kinding.{same_items, both_by}
use Rattle.gathering.proofs.Packing.{Packing, pack_start, pack_past, pack_move, pack_end}
use Rattle.map_operators.specs.Contract.{Beside, passes, Passes, Restrictable, Restricts}
use Rattle.map_operators.proofs.Pairs.{NextEntry, next_entry, value_of}

-- ---- one entry

pub key_passes : {s : List ℕ} {at x y : ℕ} {by r : Bool} → by ≡ true → Contains s at x r → Passes by s at x y r
key_passes {by = true} e c vs k v a b d = c vs k a b
key_passes {by = false} e c vs k v a b d = impossible cc

pub value_passes : {s : List ℕ} {at x y : ℕ} {by r : Bool} → by ≡ false → Contains s at y r → Passes by s at x y r
value_passes {by = true} e c vs k v a b d = impossible cc
value_passes {by = false} e c vs k v a b d = c vs v a d

-- ---- all entries

-- the entries that pass are those done and those of the rest that pass
pub record Still (by : Bool) (ms vs ds rs : Items) : Type 0 where
  pub so : keep_entries (passes by ms) vs ≡ join ds (keep_entries (passes by ms) rs)
  pub paired : Paired rs

pub record Restricting (by : Bool) (s t : List ℕ) (at of end p q : ℕ) : Type 0 where
  pub members : HoldsKind set s of
  pub apart : Apart s at of
  pub pack : Packing map (Still by members.items) s t at end p q

pub restrict_start : {s : List ℕ} {at of n : ℕ} (by : Bool) → n ≡ word s at → Restrictable s at of → Restricting by s s at of (at + n) (at + 4) (at + 4)
unfolding join
restrict_start by e h = record {
  members = h.members;
  apart = h.apart;
  pack = pack_start e h.held (record { so = refl; paired = (collection_shaped h.held.here.fine).0 });
}

still_on : {by : Bool} {ms vs ds : Items} (k v : Value) {rs : Items} → passes by ms k v ≡ true → Paired rs → Still by ms vs ds (more k (more v rs)) → Still by ms vs (join ds (more k (more v none))) rs
unfolding join
still_on {by} {ms} {vs} {ds} k v {rs} e p f = record {
  so = f.so ∙ ap (join ds) (keep_true (passes by ms) k v rs e) ∙ sym (join_join ds (more k (more v none)) (keep_entries (passes by ms) rs));
  paired = p;
}

still_past : {by : Bool} {ms vs ds : Items} (k v : Value) {rs : Items} → passes by ms k v ≡ false → Paired rs → Still by ms vs ds (more k (more v rs)) → Still by ms vs ds rs
still_past {by} {ms} {vs} {ds} k v {rs} e p f = record { so = f.so ∙ ap (join ds) (keep_false (passes by ms) k v rs e); paired = p }

module _ {by : Bool} {s t : List ℕ} {at of end p q : ℕ} (w : Restricting by s t at of end p q) where
  -- the set stands where it stood
  members_at : At t of (collection set w.members.items)
  members_at =
      let i = w.pack.short in
      let j = w.pack.done_at.ends in
      at_apart (outside_wider (omega arith) i w.pack.frame) w.apart w.members.here

  module _ {m l : ℕ} (lt : p < end) (e : m ≡ word t p) (d : l ≡ word t (p + m)) where
    pub restrict_next : NextEntry t p m l end w.pack.rest
    restrict_next = next_entry lt e d w.pack.rest_at w.pack.so.paired

    pub restrict_beside : Beside set t of p (p + m)
    restrict_beside = let y = restrict_next in record { held = record { items = w.members.items; here = members_at }; key = holds y.key_at; value = holds y.value_at }

    pub restrict_movable : Movable t p q (p + m + l - p)
    restrict_movable = let y = restrict_next in let x = w.pack.rest_at.fits in record { there = omega arith; room = omega arith }

    entry_at : ItemsAt t p (p + (p + m + l - p)) (more restrict_next.key (more restrict_next.value none))
    entry_at =
        let y = restrict_next in
        let i = w.pack.short in
        let j = w.pack.done_at.ends in
        let b = w.pack.behind in
        let x = word_size y.key_at in
        let z = word_size y.value_at in
        let one = more_sizes y.value none in
        let zero = none_sizes in
        let value : ItemsAt t (p + size y.key) (p + (p + m + l - p)) (more y.value none) =
        subst (λ (g : ℕ). ItemsAt t (p + g) (p + (p + m + l - p)) (more y.value none)) (e ∙ x)
        (subst (λ (g : ℕ). ItemsAt t (p + m) g (more y.value none)) (omega arith) (one-item y.value_at)) in
        more_of y.key_at value (omega arith)

    module _ {r : Bool} (c : Passes by t of p (p + m) r) where
      test : passes by w.members.items restrict_next.key restrict_next.value ≡ r
      test = let y = restrict_next in sym (c w.members.items y.key y.value members_at y.key_at y.value_at)

      still : Still by w.members.items w.pack.all w.pack.done (more restrict_next.key (more restrict_next.value restrict_next.rest))
      still = subst (Still by w.members.items w.pack.all w.pack.done) restrict_next.is w.pack.so

      pub restrict_keep : {u : List ℕ} → r ≡ true → Moved t u p q (p + m + l - p) → Restricting by s u at of end (p + m + l) (q + (p + m + l - p))
      restrict_keep f moved =
          let y = restrict_next in
          record {
            members = w.members;
            apart = w.apart;
            pack = pack_move w.pack moved entry_at y.rest_at (omega arith) (omega arith) (still_on y.key y.value (test ∙ f) y.paired still);
          }

      pub restrict_past : r ≡ false → Restricting by s t at of end (p + m + l) q
      restrict_past f =
          let y = restrict_next in
          record {
            members = w.members;
            apart = w.apart;
            pack = pack_past w.pack (omega arith) y.rest_at (still_past y.key y.value (test ∙ f) y.paired still);
          }

  pub restrict_end : {u : List ℕ} → end ≤ p → PutHead t u at (q - at) (number map) → Restricts by s u at of
  unfolding keep_entries
  restrict_end {u} le h =
      let ms = w.members.items in
      let d = w.pack.done_at.ends in
      let kept : Items → Answer = λ vs. is (collection map (keep_entries (passes by ms) vs)) in
      let o : OnItems map kept s u at (Ok tt) =
      pack_end w.pack {f = kept} le (omega arith) h
      (λ vs ws a l f.
      let x = collection_shaped a.fine in
      let g : keep_entries (passes by ms) vs ≡ ws = f.so ∙ join-none ws in
      let shaped : Shaped map (keep_entries (passes by ms) vs) = (paired_keep (passes by ms) vs x.0, ascending_keys (passes by ms) vs x.0 x.1) in
      (subst (Shaped map) g shaped, ap (λ (us : Items). is (collection map us)) g)) in
      record {
        kept = o.kept;
        right = λ vs ws a b. subst (λ (us : Items). At u at (collection map (keep_entries (passes by us) vs))) (same_items w.members.here b) (value_of (o.right vs a));
      }

-- ---- <: and :>

abbrev pub on_domain : Items → Items → Answer
on_domain vs ws = is (collection map (keep_entries (λ k x. is_member k vs) ws))

abbrev pub on_range : Items → Items → Answer
on_range vs ws = is (collection map (keep_entries (λ k x. is_member x ws) vs))

module _ {s : List ℕ} {base : ℕ} (h : HasTwo set map s base) where
  pub domain_restrictable : Restrictable s (base + second) base
  domain_restrictable = let a = holds h.left.here in record { held = h.right; members = h.left; apart = inl (omega arith) }

  module _ {t : List ℕ} (o : Restricts true s t (base + second) base) where
    pub domain_copyable : Copyable t (base + second) base
    domain_copyable = copyable_down (omega arith) (holds (o.right h.right.items h.left.items h.right.here h.left.here))

    pub domain_restricted : {u : List ℕ} {r : ℕ} → Copied t u (base + second) base r → OnBoth set map on_domain s u base (Ok tt)
    domain_restricted c =
        both_by {f = on_domain} (kept_then (kept_less (omega arith) o.kept) (copied_kept c)) h.left.here h.right.here
        (is_done refl (c.here _ (o.right h.right.items h.left.items h.right.here h.left.here)))

module _ {s : List ℕ} {base : ℕ} (h : HasTwo map set s base) where
  pub range_restrictable : Restrictable s base (base + second)
  range_restrictable = record { held = h.left; members = h.right; apart = inr (omega arith) }

  pub range_restricted : {t : List ℕ} → Restricts false s t base (base + second) → OnBoth map set on_range s t base (Ok tt)
  range_restricted o =
      both_by {f = on_range} o.kept h.left.here h.right.here
      (is_done refl (o.right h.left.items h.right.items h.left.here h.right.here))
