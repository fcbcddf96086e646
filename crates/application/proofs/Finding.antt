-- Applying: what was found, an index as a number, and the kinds. Assumes nothing.
use mathlib.Core.Path.{◌≡◌, refl, sym, ap, subst, ◌∙◌}
use mathlib.Core.Bool.{true, false}
use mathlib.Core.List.{List}
use mathlib.Core.Option.{none as absent}
use Prim.Native.Nat.{ℕ, zero, suc, ◌+◌, ◌-◌, ◌≤◌}
use native.Mathlib.Omega.{arith}
use lib.IntN.{ℤ, pos, negsuc, nat_abs}
use lib.Signed.{lt_z, non_neg}
use lib.Dec.{T}
use borrow.Author.Tests.{ltb-true}
use mir.Syntax.{w32, w64}
use mir.Val.{Fits, SFits, of_z, to_z}
use mir.ValLaws.{to_z-of_z}
use Rattle.prelude.proofs.Absurd.{impossible}
use Rattle.integers.proofs.Range.{range_fits}
use Rattle.values.specs.Value.{Kind, set, sequence, map, tuple, number, kind_of, Value, boolean, integer, quote, collection, Items}
use Rattle.values.specs.Items.{nth}
use Rattle.values.specs.Place.{At}
use Rattle.values.specs.Contract.{KindAt, Copyable, Copied}
use Rattle.values.proofs.Records.{holds, integer_range, one_value}
use Rattle.collections.specs.Finding.{Found}
use Rattle.std.specs.Prelude.{Ok, Err, Some, None}
use Rattle.std.specs.Option.{ok_or}
use Rattle.prelude.specs.declared.Refusal.{Refusal}
use Rattle.prelude.specs.declared.Refusal.TheVariants.{WrongKind, NotThere}
use Rattle.collections.proofs.Shown.{found_at, found_nothing}
use Rattle.collections.specs.Finding.{AtKey, Item}
use Rattle.operators.specs.Answer.{Answer, refused, wrong_kind, found}
use Rattle.operators.specs.Sequences.{item_at}
use Rattle.operators.specs.Maps.{apply_items, apply_to}
use Rattle.calling.specs.Scratch.{second}
use Rattle.calling.specs.Applied.{Applied}
use Rattle.calling.specs.Applied.{Two, Applies, OnTwo}
use Rattle.calling.proofs.Framing.{kept_same, copyable_down, copied_kept}
use Rattle.calling.proofs.Answering.{two_by, two_off, is_off, is_done}
use Rattle.calling.proofs.Kinding.{no_integer, the_kind, needs_off}
use Rattle.application.specs.Applying.{Sought, Brings, Applicable, OnArgument}

-- ---- what was found

module _ {s : List ℕ} {base p : ℕ} {f : Found} (e : f ≡ Some p) where
  pub bring_copyable : Sought s base f → Copyable s p base
  bring_copyable h = let y = found_at h.finds e in let l = y.low in copyable_down (omega arith) (holds y.here)

  pub bring_done : {t : List ℕ} {r : ℕ} → Copied s t p base r → Brings s t base f (Ok tt)
  bring_done c = record { kept = copied_kept c; right = λ to o x. let y = found_at x e in is_done (ap found y.is) (c.here y.value y.here) }

pub bring_off : {s : List ℕ} {base : ℕ} (f : Found) {e : Refusal} → ok_or f NotThere ≡ Err e → Brings s s base f (Err e)
bring_off {s} {base} None {e} d =
    let why : NotThere ≡ e = cc in
    subst (λ (x : Refusal). Brings s s base None (Err x)) why
    (record { kept = kept_same s base; right = λ to o x. is_off (ap found (found_nothing x refl)) })
bring_off (Some p) d = impossible cc

pub found_of : (f : Found) {p : ℕ} → ok_or f NotThere ≡ Ok p → f ≡ Some p
found_of None d = impossible cc
found_of (Some q) d = cc

-- ---- an index: from 1 on it is one more than the number of items before it

pub record Index (i : ℤ) : Type 0 where
  pub natural : T (non_neg i)
  pub fits : Fits w64 (nat_abs i)
  pub low : 1 ≤ nat_abs i
  pub item : (vs : Items) → item_at vs i ≡ nth vs (nat_abs i - 1)

index : (i : ℤ) → SFits w32 i → lt_z i (pos 1) ≡ false → Index i
index (pos zero) h e = impossible cc
index (pos (suc k)) h e = let b = h.sfits in let d : k ≡ suc k - 1 = omega arith in record { natural = tt; fits = omega arith; low = omega arith; item = λ vs. ap (nth vs) d }
index (negsuc n) h e = impossible cc

no_index : (vs : Items) (i : ℤ) → lt_z i (pos 1) ≡ true → item_at vs i ≡ absent
no_index vs (pos zero) e = refl
no_index vs (pos (suc k)) e = absurd (omega (arith, ltb-true (suc k) 1 e))
no_index vs (negsuc n) e = refl

module _ {s : List ℕ} {at : ℕ} {z : ℤ} (a : At s at (integer z)) where
  -- code passes an integer on by its bits, which are its own
  exact : to_z w32 (of_z w32 z) ≡ z
  exact = to_z-of_z w32 z (range_fits z (integer_range a.fine))

  pub index_of : lt_z (to_z w32 (of_z w32 z)) (pos 1) ≡ false → Index (to_z w32 (of_z w32 z))
  index_of e = rw exact (index z (range_fits z (integer_range a.fine)) (ap (λ (i : ℤ). lt_z i (pos 1)) (sym exact) ∙ e))

module _ {s : List ℕ} {base : ℕ} {z : ℤ} (a : At s (base + second) (integer z)) where
  pub found_off : lt_z (to_z w32 (of_z w32 z)) (pos 1) ≡ true → OnArgument sequence s s base (Err NotThere)
  found_off e = record {
    kept = kept_same s base;
    right = λ vs w v_at w_at.
        let d = ap (apply_items sequence vs) (one_value w_at a) in
        is_off (d ∙ ap found (no_index vs z (ap (λ (i : ℤ). lt_z i (pos 1)) (sym (exact a)) ∙ e)));
  }

  module _ (e : lt_z (to_z w32 (of_z w32 z)) (pos 1) ≡ false) {f : Found} (x : Item s base (nat_abs (to_z w32 (of_z w32 z)) - 1) f) where
    pub item_sought : Applicable sequence s base → Sought s base f
    item_sought h = record { to = _; value = _; finds = x sequence h.held.items h.held.here }

    pub found_done : {t : List ℕ} {r : Applied} → Brings s t base f r → OnArgument sequence s t base r
    found_done {t} {r} b = record {
      kept = b.kept;
      right = λ vs w v_at w_at.
          let d = ap (apply_items sequence vs) (one_value w_at a) in
          let i = ap found (ap (item_at vs) (sym (exact a)) ∙ (index_of a e).item vs) in
          subst (λ (y : Answer). Applies t base r y) (sym (d ∙ i)) (b.right _ _ (x sequence vs v_at));
    }

pub item_wrong : {s : List ℕ} {base kind : ℕ} → KindAt s (base + second) kind → (kind ≡ 2 → ⊥) → OnArgument sequence s s base (Err WrongKind)
item_wrong {s} {base} r n = record { kept = kept_same s base; right = λ vs w v_at w_at. is_off (needs_off (λ i. found (item_at vs i)) (no_integer r n w w_at)) }

-- ---- a key

module _ {s : List ℕ} {base : ℕ} {f : Found} (x : AtKey s base (base + second) f) where
  pub key_sought : Applicable map s base → Sought s base f
  key_sought h = record { to = _; value = _; finds = x h.held.items h.argument.value h.held.here h.argument.here }

  pub key_done : {t : List ℕ} {r : Applied} → Brings s t base f r → OnArgument map s t base r
  key_done b = record { kept = b.kept; right = λ vs w v_at w_at. b.right _ _ (x vs w v_at w_at) }

-- ---- kinds

module _ {s : List ℕ} {base kind : ℕ} (h : Two s base) (read : KindAt s base kind) where
  pub applicable : (k : Kind) → kind ≡ number k → Applicable k s base
  applicable k e = let i = the_kind read k e h.left in record { held = record { items = i.0; here = i.1 }; argument = h.right; room = h.room }

  pub apply-done : (k : Kind) → kind ≡ number k → {t : List ℕ} {r : Applied} → OnArgument k s t base r → OnTwo apply_to s t base r
  apply-done k e o =
      let i = the_kind read k e h.left in
      let w = h.right in
      two_by {f = apply_to} o.kept i.1 w.here (o.right i.0 w.value i.1 w.here)

  pub apply_wrong : (kind ≡ 4 → ⊥) → (kind ≡ 5 → ⊥) → OnTwo apply_to s s base (Err WrongKind)
  apply_wrong m n = two_off (λ v w a b. go v w (λ e. m (read.right v a ∙ e)) (λ e. n (read.right v a ∙ e)))
    where
      by_kind : (k : Kind) (vs : Items) (w : Value) → (number k ≡ 4 → ⊥) → (number k ≡ 5 → ⊥) → apply_items k vs w ≡ refused wrong_kind
      by_kind set vs w f g = refl
      by_kind sequence vs w f g = absurd (f refl)
      by_kind map vs w f g = absurd (g refl)
      by_kind tuple vs w f g = refl

      go : (v w : Value) → (kind_of v ≡ 4 → ⊥) → (kind_of v ≡ 5 → ⊥) → apply_to v w ≡ refused wrong_kind
      go (boolean b) w f g = refl
      go (integer z) w f g = refl
      go (quote n) w f g = refl
      go (collection k vs) w f g = by_kind k vs w f g
