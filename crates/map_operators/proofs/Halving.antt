-- The loop of `every_other`: those done are every other item of those passed. What is made of them. Assumes nothing.
use mathlib.Core.Path.{◌≡◌, refl, sym, ap, subst, ◌∙◌}
use mathlib.Core.Bool.{Bool, true, false, not}
use mathlib.Core.List.{List}
use Prim.Native.Nat.{ℕ, ◌+◌, ◌-◌, ◌≤◌, ◌<◌}
use native.Mathlib.Omega.{arith}
use Rattle.prelude.proofs.Absurd.{never}
use Rattle.integers.specs.Bytes.{word}
use Rattle.values.specs.Value.{set, sequence, map, number, Value, collection, Items, none, more, every_other, keys, mapped}
use Rattle.values.specs.Items.{join}
use Rattle.values.specs.Place.{At, ItemsAt}
use Rattle.values.specs.Contract.{Movable, Moved, PutHead}
use Rattle.values.proofs.Records.{Uncons, uncons, word_size, one-item, collection_shaped}
use Rattle.values.proofs.Joined.{join-none, join_join}
use Rattle.collections.specs.Finding.{HoldsCollection}
use Rattle.collections.specs.Building.{Retags}
use Rattle.operators.specs.Answer.{Answer, is}
use Rattle.operators.specs.Gather.{insert_all}
use Rattle.calling.specs.Applied.{Applied}
use Rattle.std.specs.Prelude.{Ok}
use Rattle.calling.proofs.Answering.{is_done}
use Rattle.calling.proofs.Framing.{kept_then, kept_outside}
use Rattle.calling.specs.Operands.{Has, OnItems}
use Rattle.calling.proofs.Kinding.{items_by}
use Rattle.gathering.proofs.Packing.{Packing, pack_start, pack_past, pack_move, pack_end}
use Rattle.map_operators.proofs.Pairs.{value_of}

-- what the keys, or the values, of a map are
abbrev pub halved : Bool → Items → Answer
halved b vs = is (collection sequence (every_other b vs))

-- of those left, every other from the first on is wanted, or from the second on
pub record Half (b wanted : Bool) (vs ds rs : Items) : Type 0 where
  pub so : every_other b vs ≡ join ds (every_other wanted rs)

half_on : (b wanted : Bool) (vs ds : Items) (v : Value) (rs : Items) → wanted ≡ true → Half b wanted vs ds (more v rs) → Half b (not wanted) vs (join ds (more v none)) rs
unfolding every_other join
half_on b true vs ds v rs e f = record { so = f.so ∙ sym (join_join ds (more v none) (every_other false rs)) }
half_on b false vs ds v rs e f = never e

half_past : (b wanted : Bool) (vs ds : Items) (v : Value) (rs : Items) → wanted ≡ false → Half b wanted vs ds (more v rs) → Half b (not wanted) vs ds rs
unfolding every_other
half_past b true vs ds v rs e f = never (sym e)
half_past b false vs ds v rs e f = record { so = f.so }

half_none : (wanted : Bool) → every_other wanted none ≡ none
unfolding every_other
half_none true = refl
half_none false = refl

pub halving_start : {s : List ℕ} {base n : ℕ} (b : Bool) → n ≡ word s base → Has map s base → Packing map (Half b b) s s base (base + n) (base + 4) (base + 4)
unfolding join
halving_start b e h = pack_start e h.held (record { so = refl })

module _ {b wanted : Bool} {s t : List ℕ} {base end p q : ℕ} (w : Packing map (Half b wanted) s t base end p q) where
  module _ (lt : p < end) where
    pub halving_run : Uncons t p end w.rest
    halving_run = uncons lt w.rest_at

    module _ {n : ℕ} (e : n ≡ word t p) where
      pub halving_movable : Movable t p q n
      halving_movable = let y = halving_run in let x = w.behind in let z = w.rest_at.fits in record { there = omega arith; room = omega arith }

      after : ItemsAt t (p + n) end halving_run.rest
      after = let y = halving_run in subst (λ (i : ℕ). ItemsAt t (p + i) end y.rest) (sym e) y.rest_at

      pub halving_keep : {u : List ℕ} → wanted ≡ true → Moved t u p q n → Packing map (Half b (not wanted)) s u base end (p + n) (q + n)
      halving_keep so moved =
          let y = halving_run in
          let one : ItemsAt t p (p + n) (more y.first none) = subst (λ (i : ℕ). ItemsAt t p (p + i) (more y.first none)) (sym (e ∙ word_size y.first-at)) (one-item y.first-at) in
          pack_move w moved one after (omega arith) (omega arith) (half_on b wanted w.all w.done y.first y.rest so (subst (Half b wanted w.all w.done) y.is w.so))

      pub halving_past : wanted ≡ false → Packing map (Half b (not wanted)) s t base end (p + n) q
      halving_past so =
          let y = halving_run in
          pack_past w (omega arith) after (half_past b wanted w.all w.done y.first y.rest so (subst (Half b wanted w.all w.done) y.is w.so))

  pub halving_end : {u : List ℕ} → end ≤ p → PutHead t u base (q - base) (number sequence) → OnItems map (halved b) s u base (Ok tt)
  halving_end le h =
      let d = w.done_at.ends in
      pack_end w {f = halved b} le (omega arith) h
      (λ vs ws a l f. (tt, ap (λ (us : Items). is (collection sequence us)) (f.so ∙ ap (join ws) (half_none wanted) ∙ join-none ws)))

-- ---- dom: the keys are a set

abbrev pub dom_answer : Items → Answer
dom_answer vs = is (collection set (keys vs))

module _ {s t : List ℕ} {base : ℕ} (h : Has map s base) (o : OnItems map (halved true) s t base (Ok tt)) where
  keys_at : At t base (collection sequence (keys h.held.items))
  keys_at = value_of (o.right h.held.items h.held.here)

  pub keys_held : HoldsCollection t base
  keys_held = record { kind = sequence; items = keys h.held.items; here = keys_at }

  pub domain_done : {u : List ℕ} → Retags t u base 3 → OnItems map dom_answer s u base (Ok tt)
  domain_done x =
      let a = h.held.here in
      items_by {f = dom_answer} (kept_then o.kept (kept_outside (omega arith) x.frame)) a
      (is_done refl (x.right sequence set (keys h.held.items) keys_at refl (collection_shaped a.fine).1))

-- ---- rng: the elements of the values

abbrev pub rng_answer : Items → Answer
rng_answer vs = is (collection set (insert_all none (mapped vs)))

module _ {s t : List ℕ} {base : ℕ} (h : Has map s base) (o : OnItems map (halved false) s t base (Ok tt)) where
  values_at : At t base (collection sequence (mapped h.held.items))
  values_at = value_of (o.right h.held.items h.held.here)

  pub values_has : Has sequence t base
  values_has = let l = o.kept.long in let r = h.room in record { held = record { items = mapped h.held.items; here = values_at }; room = omega arith }

  pub range_done : {u : List ℕ} {r : Applied} → OnItems sequence (λ vs. is (collection set (insert_all none vs))) t u base r → OnItems map rng_answer s u base r
  range_done x = items_by {f = rng_answer} (kept_then o.kept x.kept) h.held.here (x.right (mapped h.held.items) values_at)
