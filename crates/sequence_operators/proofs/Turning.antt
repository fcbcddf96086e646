-- The loop of `reverse`: what is put back is the last part of the items turned round. Assumes nothing.
use mathlib.Core.Path.{◌≡◌, refl, sym, ap, subst, ◌∙◌}
use mathlib.Core.List.{List}
use mathlib.Core.Logic.{inl, inr}
use Prim.Native.Nat.{ℕ, ◌+◌, ◌-◌, ◌≤◌, ◌<◌}
use native.Mathlib.Omega.{arith}
use lib.ListN.{length, take, drop}
use lib.Seq.{take-take}
use Rattle.integers.specs.Bytes.{word}
use Rattle.values.specs.Value.{Kind, number, sequence, collection, Items, none, more, size, sizes, encode}
use Rattle.values.specs.Items.{join}
use Rattle.values.specs.Place.{At, ItemsAt, Outside}
use Rattle.values.specs.Contract.{Copyable, Copied, heading}
use Rattle.values.proofs.Records.{Uncons, uncons, holds, items_to, items_none, no_items, more_of, word_size}
use Rattle.values.proofs.Encoding.{none_sizes, more_sizes}
use Rattle.values.proofs.Frame.{unchanged, outside_none, outside_both, outside_wider, at_below, items_above}
use Rattle.values.proofs.Written.{collection_at}
use Rattle.values.proofs.Joined.{join-none, join_join}
use Rattle.operators.specs.Answer.{Answer, is}
use Rattle.operators.specs.Gather.{backwards}
use Rattle.calling.specs.Scratch.{second, workspace}
use Rattle.std.specs.Prelude.{Ok}
use Rattle.calling.proofs.Answering.{is_done}
use Rattle.calling.proofs.Framing.{kept_then, kept_outside}
use Rattle.calling.specs.Operands.{Has, OnItems}
use Rattle.calling.proofs.Kinding.{same_items, items_by}

-- what reverse answers on the items of its operand
abbrev pub reversed : Items → Answer
reversed vs = is (collection sequence (backwards vs))

pub record Turning (s t : List ℕ) (base n p q : ℕ) : Type 0 where
  pub all : Items
  pub all-at : At s base (collection sequence all)
  pub long : n ≡ word s base
  pub room : base + workspace ≤ length s
  pub back : Items
  pub rest : Items
  pub so : backwards all ≡ join (backwards rest) back
  pub back_at : ItemsAt t q (base + n) back
  pub rest_at : ItemsAt t p (base + second + n) rest
  pub place : q ≡ base + 4 + sizes rest
  pub frame : Outside s t (base + 4) (base + n)

module _ {s : List ℕ} {base n : ℕ} (h : Has sequence s base) (e : n ≡ word s base) where
  pub reverse_copyable : Copyable s base (base + second)
  reverse_copyable = let a = holds h.held.here in let r = h.room in record { held = a; room = omega arith; apart = inl (omega arith) }

  pub reverse_start : {t : List ℕ} {r : ℕ} → Copied s t base (base + second) r → Turning t t base n (base + second + 4) (base + n)
  reverse_start {t} {r} c =
      let a = h.held.here in
      let b = holds a in
      let x = (items_to e a).ends in
      let l = c.outside.long in
      let m = h.room in
      let here : At t base (collection sequence h.held.items) = at_below c.outside (omega (arith, word_size a)) a in
      let there : At t (base + second) (collection sequence h.held.items) = c.here _ a in
      record {
        all = h.held.items;
        all-at = here;
        long = e ∙ word_size a ∙ sym (word_size here);
        room = omega arith;
        back = none;
        rest = h.held.items;
        so = sym (join-none (backwards h.held.items));
        back_at = no_items t (base + n) (omega arith);
        rest_at = items_to (e ∙ word_size a ∙ sym (word_size there)) there;
        place = omega arith;
        frame = outside_none t (base + 4) (base + n);
      }

-- a record's first four bytes
heading_of : {s : List ℕ} {at : ℕ} {k : Kind} {vs : Items} → At s at (collection k vs) → take 4 (drop at s) ≡ heading (size (collection k vs)) (number k)
unfolding size encode
heading_of {s} {at} {k} {vs} a = sym (take-take 4 (size (collection k vs)) (drop at s) (omega arith)) ∙ ap (take 4) a.bytes

module _ {s t : List ℕ} {base n p q : ℕ} (w : Turning s t base n p q) where
  pub reverse_run : p < base + second + n → Uncons t p (base + second + n) w.rest
  reverse_run lt = uncons lt w.rest_at

  module _ {m : ℕ} (lt : p < base + second + n) (e : m ≡ word t p) where
    pub reverse_low : base + 4 + m ≤ q
    reverse_low = let y = reverse_run lt in let d = w.place in let z = w.rest_at.ends in omega arith

    pub reverse_copyable_on : Copyable t p (q - m)
    reverse_copyable_on =
        let y = reverse_run lt in
        let low = reverse_low in
        let b = holds w.all-at in
        let g = w.long in
        let r = w.room in
        let l = w.frame.long in
        let d = w.place in
        let z = w.rest_at.ends in
        let x = w.back_at.ends in
        record { held = holds y.first-at; room = omega arith; apart = inr (omega arith) }

    pub reverse_step : {u : List ℕ} {r : ℕ} → Copied t u p (q - m) r → Turning s u base n (p + m) (q - m)
    unfolding backwards join
    reverse_step {u} {r} c =
        let y = reverse_run lt in
        let low = reverse_low in
        let b = holds w.all-at in
        let g = w.long in
        let d = w.place in
        let z = w.rest_at.ends in
        let x = w.back_at.ends in
        let f = c.ends in
        let v = y.first in
        let i = word_size y.first-at in
        let j = ap sizes y.is ∙ more_sizes v y.rest in
        let over : ItemsAt u q (base + n) w.back = items_above c.outside (omega arith) w.back_at in
        let next : q ≡ q - m + size v = omega arith in
        record {
          all = w.all;
          all-at = w.all-at;
          long = g;
          room = w.room;
          back = more v w.back;
          rest = y.rest;
          so = w.so ∙ ap (λ (us : Items). join (backwards us) w.back) y.is ∙ join_join (backwards y.rest) (more v none) w.back;
          back_at = more_of (c.here v y.first-at) (subst (λ (k : ℕ). ItemsAt u k (base + n) w.back) next over) (omega arith);
          rest_at = items_above c.outside (omega arith) (subst (λ (k : ℕ). ItemsAt t (p + k) (base + second + n) y.rest) (sym e) y.rest_at);
          place = omega arith;
          frame = outside_both w.frame (outside_wider (omega arith) (omega arith) c.outside);
        }

  -- s itself came from where the sequence stood at first
  pub reverse_end : {o : List ℕ} {r : ℕ} → base + second + n ≤ p → Has sequence o base → Copied o s base (base + second) r → OnItems sequence reversed o t base (Ok tt)
  unfolding backwards join
  reverse_end {o} le h c =
      let a = h.held.here in
      let b = holds w.all-at in
      let k = word_size w.all-at in
      let empty = items_none le w.rest_at in
      let d = w.place in
      let z = ap sizes empty ∙ none_sizes in
      let g = w.long in
      let same : w.all ≡ h.held.items = same_items w.all-at (at_below c.outside (omega (arith, a.fine.short)) a) in
      let back : w.back ≡ backwards h.held.items = sym (w.so ∙ ap (λ (us : Items). join (backwards us) w.back) empty) ∙ ap backwards same in
      let head : take 4 (drop base t) ≡ heading n (number sequence) =
      unchanged (base + 4) base 4 s t (omega arith) w.frame.below ∙ heading_of w.all-at ∙ ap (λ (i : ℕ). heading i (number sequence)) (sym (g ∙ k)) in
      let start : q ≡ base + 4 = omega arith in
      let whole : At t base (collection sequence w.back) =
      collection_at n head refl (omega arith) tt (subst (λ (i : ℕ). ItemsAt t i (base + n) w.back) start w.back_at) in
      items_by {f = reversed} (kept_then (kept_outside (omega arith) c.outside) (kept_outside (omega arith) w.frame)) a
      (is_done refl (subst (λ (vs : Items). At t base (collection sequence vs)) back whole))
