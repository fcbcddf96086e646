-- The loop of `flatten`: the items of the sequences passed stand together. Assumes nothing.
use mathlib.Core.Path.{◌≡◌, refl, sym, ap, subst, ◌∙◌}
use mathlib.Core.Bool.{Bool, false, ◌&&◌, cond}
use mathlib.Core.List.{List}
use Prim.Native.Nat.{ℕ, ◌+◌, ◌-◌, ◌≤◌, ◌<◌}
use native.Mathlib.Omega.{arith}
use borrow.Author.Tests.{ne_eqb}
use Rattle.prelude.proofs.Truth.{cond-true, cond-false}
use Rattle.integers.specs.Bytes.{word}
use Rattle.values.specs.Value.{sequence, number, Value, collection, Items, more}
use Rattle.values.specs.Items.{join}
use Rattle.values.specs.Place.{At, ItemsAt}
use Rattle.values.specs.Contract.{KindAt, Movable, Moved, PutHead}
use Rattle.values.proofs.Records.{Uncons, uncons, items_to}
use Rattle.values.proofs.Joined.{join-none, join_join}
use Rattle.operators.specs.Answer.{Answer, refused, wrong_kind, closed, sized}
use Rattle.operators.specs.Gather.{every_item, is_kind, flatten}
use Rattle.operator_laws.proofs.OfKind.{of_kind_is, kind_test}
use Rattle.operator_laws.proofs.Enumerations.{fitting_built}
use Rattle.std.specs.Prelude.{Ok, Err}
use Rattle.prelude.specs.declared.Refusal.TheVariants.{WrongKind}
use Rattle.calling.proofs.Answering.{is_off}
use Rattle.calling.proofs.Framing.{kept_outside}
use Rattle.calling.specs.Operands.{Has, OnItems}
use Rattle.calling.proofs.Kinding.{items_by}
use Rattle.gathering.proofs.Packing.{Packing, pack_start, pack_move, pack_end}

-- what conc answers on the items of its operand
abbrev pub conc : Items → Answer
conc vs = cond (every_item (is_kind sequence) vs) (sized sequence (flatten vs)) (refused wrong_kind)

-- all the sequences' items are those done and those of the sequences left; all are sequences where those left are
pub record Flat (vs ds rs : Items) : Type 0 where
  pub items : flatten vs ≡ join ds (flatten rs)
  pub kinds : every_item (is_kind sequence) vs ≡ every_item (is_kind sequence) rs

abbrev pub Flattening : List ℕ → List ℕ → ℕ → ℕ → ℕ → ℕ → Type 0
Flattening s t base end p q = Packing sequence Flat s t base end p q

pub flat_start : {s : List ℕ} {base n : ℕ} → n ≡ word s base → Has sequence s base → Flattening s s base (base + n) (base + 4) (base + 4)
unfolding join
flat_start e h = pack_start e h.held (record { items = refl; kinds = refl })

-- the first of those left is a sequence, or not
flat_on : (vs ds us rs : Items) → Flat vs ds (more (collection sequence us) rs) → Flat vs (join ds us) rs
unfolding flatten every_item
flat_on vs ds us rs f = record { items = f.items ∙ sym (join_join ds us (flatten rs)); kinds = f.kinds }

flat_off : (vs ds : Items) (v : Value) (rs : Items) → is_kind sequence v ≡ false → Flat vs ds (more v rs) → conc vs ≡ refused wrong_kind
unfolding every_item
flat_off vs ds v rs e f =
    cond-false (every_item (is_kind sequence) vs) (sized sequence (flatten vs)) (refused wrong_kind) (f.kinds ∙ ap (λ (b : Bool). b && every_item (is_kind sequence) rs) e)

module _ {s t : List ℕ} {base end p q : ℕ} (w : Flattening s t base end p q) (lt : p < end) where
  pub flat_run : Uncons t p end w.rest
  flat_run = uncons lt w.rest_at

  pub flat_wrong : {kind : ℕ} → KindAt t p kind → (kind ≡ 4 → ⊥) → OnItems sequence conc s t base (Err WrongKind)
  flat_wrong r f =
      let y = flat_run in
      let k : is_kind sequence y.first ≡ false = kind_test sequence y.first ∙ ne_eqb 4 _ (λ e. f (r.right y.first y.first-at ∙ sym e)) in
      items_by {f = conc} (kept_outside (omega arith) w.frame) w.all-at
      (is_off (flat_off w.all w.done y.first y.rest k (subst (Flat w.all w.done) y.is w.so)))

  module _ {kind n : ℕ} (r : KindAt t p kind) (f : kind ≡ 4) (e : n ≡ word t p) where
    pub flat_movable : Movable t (p + 4) q (n - 4)
    flat_movable = let y = flat_run in let b = w.behind in let x = w.rest_at.fits in record { there = omega arith; room = omega arith }

    pub flat_step : {u : List ℕ} → Moved t u (p + 4) q (n - 4) → Flattening s u base end (p + n) (q + (n - 4))
    flat_step m =
        let y = flat_run in
        let i = of_kind_is sequence y.first (sym (r.right y.first y.first-at) ∙ f) in
        let us = i.0 in
        let x : ItemsAt t (p + 4) (p + n) us = items_to e (subst (λ (v : Value). At t p v) i.1 y.first-at) in
        let d : p + n ≡ p + 4 + (n - 4) = omega arith in
        let g : w.rest ≡ more (collection sequence us) y.rest = y.is ∙ ap (λ (v : Value). more v y.rest) i.1 in
        pack_move w m (subst (λ (j : ℕ). ItemsAt t (p + 4) j us) d x) (subst (λ (j : ℕ). ItemsAt t (p + j) end y.rest) (sym e) y.rest_at) (omega arith) (omega arith)
        (flat_on w.all w.done us y.rest (subst (Flat w.all w.done) g w.so))

-- none are left: what is done is all, and no longer than what it came from
pub flat_end : {s t u : List ℕ} {base end p q : ℕ} → Flattening s t base end p q → end ≤ p → PutHead t u base (q - base) (number sequence) → OnItems sequence conc s u base (Ok tt)
unfolding flatten every_item
flat_end {base = base} {q = q} w le h =
    let d = w.done_at.ends in
    let b = w.behind in
    let i = w.short in
    let x = w.rest_at.ends in
    pack_end w {f = conc} le (omega arith) h
    (λ vs ws a l f. (
      tt,
      cond-true (every_item (is_kind sequence) vs) (sized sequence (flatten vs)) (refused wrong_kind) f.kinds
          ∙ ap (sized sequence) (f.items ∙ join-none ws) ∙ ap (closed sequence) (fitting_built ws l),
    ))
