-- The loop of `shift_up`: the bytes from the i-th on are moved. Assumes nothing.
use mathlib.Core.Path.{◌≡◌, sym, ap, ap₂, ◌∙◌}
use mathlib.Core.List.{List, ◌∷◌}
use Prim.Native.Nat.{ℕ, suc, ◌+◌, ◌-◌, ◌≤◌, ◌<◌}
use native.Mathlib.Omega.{arith}
use lib.ListN.{length, get_or, take, drop, set, length-set}
use lib.Seq.{drop-cons, get_or-set_same, drop-set-lt, take-set-le}
use Rattle.values.specs.Place.{Outside}
use Rattle.values.proofs.Frame.{outside_none, below_less, byte_below}
use Rattle.values.specs.Contract.{Moved}

pub record Shifting (s₀ s : List ℕ) (at to n i : ℕ) : Type 0 where
  pub few : i ≤ n
  pub outside : Outside s₀ s (to + i) (to + n)
  pub bytes : take (n - i) (drop (to + i) s) ≡ take (n - i) (drop (at + i) s₀)

pub shift_start : (s : List ℕ) (at to n : ℕ) → Shifting s s at to n n
shift_start s at to n =
    let z : n - n ≡ 0 = omega arith in
    record { few = omega arith; outside = outside_none s (to + n) (to + n); bytes = rw z }

pub shift_step : (s₀ s : List ℕ) (at to n i : ℕ) → at ≤ to → to + n ≤ length s₀ → 0 < i → Shifting s₀ s at to n i
    → Shifting s₀ (set s (to + (i - 1)) (get_or s (at + (i - 1)) 0)) at to n (i - 1)
shift_step s₀ s at to n i up room h inv =
    let j = i - 1 in
    let b = get_or s (at + j) 0 in
    let long = inv.outside.long in
    let few = inv.few in
    let here : to + j < length s = omega arith in
    let there : at + j < length s₀ = omega arith in
    let wide : n - j ≡ suc (n - i) = omega arith in
    let next : suc (to + j) ≡ to + i = omega arith in
    let next₀ : suc (at + j) ≡ at + i = omega arith in
    record {
      few = omega arith;
      outside = record {
        long = length-set s (to + j) b ∙ long;
        below = take-set-le (to + j) s (to + j) b (omega arith) ∙ below_less (to + i) (to + j) s₀ s (omega arith) inv.outside.below;
        above = drop-set-lt (to + n) s (to + j) b (omega arith) ∙ inv.outside.above;
      };
      bytes =
          ap₂ take wide (drop-cons (set s (to + j) b) (to + j) 0 (omega (arith, length-set s (to + j) b)))
          ∙ ap₂ {C = List ℕ} ◌∷◌ (get_or-set_same s (to + j) b 0 here ∙ byte_below inv.outside (at + j) (omega arith))
          (ap (take (n - i)) (drop-set-lt (suc (to + j)) s (to + j) b (omega arith) ∙ ap (λ (k : ℕ). drop k s) next) ∙ inv.bytes ∙ ap (λ (k : ℕ). take (n - i) (drop k s₀)) (sym next₀))
          ∙ sym (ap₂ take wide (drop-cons s₀ (at + j) 0 there));
    }

pub shift_end : (s₀ s : List ℕ) (at to n i : ℕ) → i ≤ 0 → Shifting s₀ s at to n i → Moved s₀ s at to n
shift_end s₀ s at to n i h inv =
    let z : i ≡ 0 = omega arith in
    let a : to + 0 ≡ to = omega arith in
    let b : at + 0 ≡ at = omega arith in
    let m : n - 0 ≡ n = omega arith in
    let v = rw z at inv in
    record { outside = rw a at v.outside; bytes = rw (a, b, m) at v.bytes }
