-- Consecutive integers: which they are, and their records as they are written.
use mathlib.Core.Path.{◌≡◌, sym, ap, subst, ◌∙◌}
use mathlib.Core.Bool.{Bool, cond}
use mathlib.Core.List.{List}
use Prim.Native.Nat.{ℕ, zero, suc, ◌+◌, ◌*◌, ◌≤◌, ◌<◌}
use native.Mathlib.Omega.{arith}
use borrow.Author.Tests.{lt-leb, le-leb}
use lib.IntN.{ℤ, pos, ◌+ℤ◌}
use lib.ListN.{length}
use mir.Syntax.{w32}
use mir.Val.{SFits, to_z}
use mir.Facts.{to_z-of_z, to_z_pos}
use Rattle.integers.specs.Whole.{InRange}
use Rattle.integers.proofs.Range.{range_fits}
use Rattle.integers.proofs.Parts.{parts_add, eq_parts}
use Rattle.values.specs.Value.{set, integer, Items, none, more, size, collection, value_limit, Sound, SoundItems}
use Rattle.values.specs.Items.{join, snoc}
use Rattle.values.specs.Place.{ItemsAt}
use Rattle.values.specs.Contract.{Put, PutHead}
use Rattle.values.proofs.Records.{no_items, one_more}
use Rattle.values.proofs.Frame.{outside_none, outside_then, items_below}
use Rattle.values.proofs.Written.{headed_collection}
use Rattle.operators.specs.Answer.{is, refused, too_large}
use Rattle.operators.specs.Gather.{up_from}
use Rattle.operators.specs.Sets.{consecutive}
use Rattle.operator_laws.proofs.Ranges.{ascending_up, sizes_up, counting_is}
use Rattle.std.specs.Prelude.{Ok}
use Rattle.calling.specs.Applied.{Gives}
use Rattle.calling.proofs.Framing.{kept_outside, kept_then}
use Rattle.calling.proofs.Answering.{is_done}
use Rattle.calling.proofs.Pairs.{machine}
use Rattle.gathering.specs.Consecutive.{PutIntegers}

-- ---- which they are

step : (z : ℤ) (i : ℕ) → z +ℤ pos 1 +ℤ pos i ≡ z +ℤ pos (suc i)
step z i =
    let a = parts_add z (pos 1) in
    let b = parts_add (z +ℤ pos 1) (pos i) in
    let d = parts_add z (pos (suc i)) in
    eq_parts (z +ℤ pos 1 +ℤ pos i) (z +ℤ pos (suc i)) (omega arith)

no_step : (z : ℤ) → z +ℤ pos 0 ≡ z
no_step z = let a = parts_add z (pos 0) in eq_parts (z +ℤ pos 0) z (omega arith)

-- the next one is in range, and comes at the end
pub next_range : (z : ℤ) (n i : ℕ) → SoundItems (up_from z n) → i < n → InRange (z +ℤ pos i)
unfolding up_from Sound
next_range z zero i s h = absurd (omega arith)
next_range z (suc n) zero s h = subst InRange (sym (no_step z)) s.0
next_range z (suc n) (suc i) s h = subst InRange (step z i) (next_range (z +ℤ pos 1) n i s.1 (omega arith))

next_last : (z : ℤ) (i : ℕ) → snoc (up_from z i) (integer (z +ℤ pos i)) ≡ up_from z (suc i)
unfolding up_from join
next_last z zero = ap (λ (x : ℤ). more (integer x) none) (no_step z)
next_last z (suc i) =
    ap (λ (vs : Items). more (integer z) vs)
    (ap (λ (x : ℤ). snoc (up_from (z +ℤ pos 1) i) (integer x)) (sym (step z i)) ∙ next_last (z +ℤ pos 1) i)

-- ---- their records, as the loop writes them

pub integers_none : (s : List ℕ) (at : ℕ) (z : ℤ) → at ≤ length s → PutIntegers s s at z 0
unfolding up_from
integers_none s at z h =
    let e : at ≡ at + 8 * 0 = omega arith in
    record { outside = outside_none s at (at + 8 * 0); here = subst (λ (k : ℕ). ItemsAt s at k none) e (no_items s at h) }

pub integers_more : {s t u : List ℕ} {at : ℕ} {z x : ℤ} (i : ℕ) {r : ℕ} → PutIntegers s t at z i → x ≡ z +ℤ pos i → Put t u (at + 8 * i) (integer x) 8 r → 8 * (i + 1) ≤ value_limit → PutIntegers s u at z (i + 1)
integers_more {s} {t} {u} {at} {z} {x} i p d q h =
    let n = sizes_up z i in
    let m = q.sized in
    let e : at + 8 * i + size (integer x) ≡ at + 8 * (i + 1) = omega arith in
    let j : suc i ≡ i + 1 = omega arith in
    let l = one_more (items_below q.outside (omega arith) p.here) q.here (omega arith) in
    let v : snoc (up_from z i) (integer x) ≡ up_from z (i + 1) = ap (λ (y : ℤ). snoc (up_from z i) (integer y)) d ∙ next_last z i ∙ ap (up_from z) j in
    record {
      outside = outside_then at (at + 8 * (i + 1)) (omega arith) (omega arith) (omega arith) (omega arith) p.outside q.outside;
      here = subst (λ (k : ℕ). ItemsAt u at k (up_from z (i + 1))) e (subst (λ (vs : Items). ItemsAt u at (at + 8 * i + size (integer x)) vs) v l);
    }

pub spans_integers : {s t : List ℕ} {at i n : ℕ} {z : ℤ} → SFits w32 z → i ≤ n → n ≤ i → PutIntegers s t at (machine z) i → PutIntegers s t at z n
spans_integers {s} {t} {at} {i} {n} {z} f h g p =
    let e : i ≡ n = omega arith in
    subst (λ (x : ℤ). PutIntegers s t at x n) (to_z-of_z f) (subst (λ (k : ℕ). PutIntegers s t at (machine z) k) e p)

-- the integer that the code adds up
module _ {z : ℤ} (f : SFits w32 z) {i n : ℕ} (low : i < 2147483648) (s : SoundItems (up_from z n)) (h : i < n) where
  added : machine z +ℤ to_z w32 i ≡ z +ℤ pos i
  added = rw (to_z-of_z f, to_z_pos w32 {n = i} low)

  pub added_fits : SFits w32 (machine z +ℤ to_z w32 i)
  added_fits = rw added (range_fits (z +ℤ pos i) (next_range z n i s h))

  pub added_is : machine (machine z +ℤ to_z w32 i) ≡ machine z +ℤ pos i
  added_is = to_z-of_z added_fits ∙ ap (λ (x : ℤ). machine z +ℤ x) (to_z_pos w32 {n = i} low)

  pub added_range : InRange (machine (machine z +ℤ to_z w32 i))
  added_range = subst InRange (sym (to_z-of_z added_fits ∙ added)) (next_range z n i s h)

-- ---- the set of them

pub counting_off : (z : ℤ) (n : ℕ) → value_limit < 4 + 8 * n → consecutive z n ≡ refused too_large
counting_off z n h = counting_is z n ∙ ap (λ (b : Bool). cond b (is (collection set (up_from z n))) (refused too_large)) (lt-leb (4 + 8 * n) value_limit h)

counting_on : (z : ℤ) (n : ℕ) → 4 + 8 * n ≤ value_limit → consecutive z n ≡ is (collection set (up_from z n))
counting_on z n h = counting_is z n ∙ ap (λ (b : Bool). cond b (is (collection set (up_from z n))) (refused too_large)) (le-leb (4 + 8 * n) value_limit h)

pub counting_gives : {s t u : List ℕ} {base : ℕ} {z : ℤ} (n : ℕ) → SFits w32 z → 4 + 8 * n ≤ value_limit → PutIntegers s t (base + 4) (machine z) n → PutHead t u base (4 + 8 * n) 3 → Gives (consecutive z n) s u base (Ok tt)
counting_gives {s} {t} {u} {base} {z} n f h p q =
    let here = subst (λ (x : ℤ). ItemsAt t (base + 4) (base + 4 + 8 * n) (up_from x n)) (to_z-of_z f) p.here in
    record {
      kept = kept_then (kept_outside (omega arith) p.outside) (kept_outside (omega arith) q.outside);
      right = is_done (counting_on z n h) (headed_collection (4 + 8 * n) q.bytes (omega arith) h (ascending_up z n) here);
    }
