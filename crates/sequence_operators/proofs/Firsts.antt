-- The first item of a collection and those after it. Assumes nothing.
use mathlib.Core.Path.{◌≡◌, refl, sym, ap, subst, ◌∙◌}
use mathlib.Core.List.{List}
use Prim.Native.Nat.{ℕ, ◌+◌, ◌-◌}
use native.Mathlib.Omega.{arith}
use Rattle.prelude.specs.declared.Refusal.{Refusal}
use Rattle.prelude.specs.Refusals.{number_of}
use Rattle.integers.specs.Bytes.{word}
use Rattle.values.specs.Value.{Kind, sequence, number, collection, Items, none}
use Rattle.values.specs.Items.{join}
use Rattle.values.specs.Place.{ItemsAt}
use Rattle.values.specs.Contract.{Movable, Moved, Copied, PutHead}
use Rattle.values.proofs.Records.{Uncons, uncons, holds, items_to, items_none, no_items}
use Rattle.operators.specs.Answer.{Answer, is, refused}
use Rattle.operators.specs.Sequences.{first_item, tail_of}
use Rattle.std.specs.Prelude.{Ok, Err}
use Rattle.calling.proofs.Answering.{is_done}
use Rattle.calling.proofs.Framing.{copied_kept}
use Rattle.calling.specs.Operands.{Has, OnItems}
use Rattle.calling.proofs.Kinding.{items_by, items_off}
use Rattle.gathering.proofs.Packing.{pack_start, pack_move, pack_end}

-- four bytes hold no items
pub none_off : {k : Kind} {f : Items → Answer} {s : List ℕ} {base n : ℕ} {why : Refusal} → n ≡ word s base → n ≡ 4 → f none ≡ refused (number_of why) → OnItems k f s s base (Err why)
none_off {f = f} e d h = items_off (λ vs a. ap f (items_none (omega arith) (items_to e a)) ∙ h)

module _ {s : List ℕ} {base n : ℕ} (h : Has sequence s base) (e : n ≡ word s base) (some : n ≡ 4 → ⊥) where
  pub first-item : Uncons s (base + 4) (base + n) h.held.items
  first-item = let b = holds h.held.here in uncons (omega (arith, some)) (items_to e h.held.here)

  pub head_done : {t : List ℕ} {r : ℕ} → Copied s t (base + 4) base r → OnItems sequence first_item s t base (Ok tt)
  head_done c = let y = first-item in items_by {f = first_item} (copied_kept c) h.held.here (is_done (ap first_item y.is) (c.here y.first y.first-at))

  pub tail_movable : {m : ℕ} → m ≡ word s (base + 4) → Movable s (base + 4 + m) (base + 4) (n - 4 - m)
  tail_movable d = let b = holds h.held.here in let y = first-item in record { there = omega arith; room = omega arith }

  pub tail_done : {t u : List ℕ} {m : ℕ} → m ≡ word s (base + 4) → Moved s t (base + 4 + m) (base + 4) (n - 4 - m) → PutHead t u base (n - m) (number sequence) → OnItems sequence tail_of s u base (Ok tt)
  unfolding join
  tail_done {m = m} d moved head =
      let b = holds h.held.here in
      let w = pack_start {R = λ vs ds rs. (ds ≡ none) × (rs ≡ vs)} e h.held (refl, refl) in
      let y = uncons (omega (arith, some)) w.rest_at in
      let x : ItemsAt s (base + 4 + m) (base + n) y.rest = subst (λ (i : ℕ). ItemsAt s (base + 4 + i) (base + n) y.rest) (sym d) y.rest_at in
      let end : base + n ≡ base + 4 + m + (n - 4 - m) = omega arith in
      let w' =
      pack_move w {Q = λ vs ds rs. tail_of vs ≡ is (collection sequence ds)} moved (subst (λ (i : ℕ). ItemsAt s (base + 4 + m) i y.rest) end x) (no_items s (base + n) x.fits)
      (omega arith) (omega arith)
      (ap tail_of (sym w.so.1 ∙ y.is) ∙ ap (λ (ds : Items). is (collection sequence (join ds y.rest))) (sym w.so.0)) in
      pack_end w' (omega arith) (omega arith) head (λ vs ws a l o. (tt, o))
