-- What is left to be gone through falls.
use mathlib.Core.Path.{◌≡◌, refl, sym, ap, ◌∙◌}
use mathlib.Core.Logic.{◌⊎◌, inl, inr}
use mathlib.Core.List.{List}
use Prim.Native.Nat.{ℕ, zero, suc, ◌+◌, ◌-◌, ◌*◌, ◌^◌, ◌≤◌, ◌<◌}
use native.Mathlib.Nat.{one-le-pow, pow-suc, pow-le-pow_right, mul-le-mul_right, mul_comm, suc-mul}
use native.Mathlib.Omega.{arith}
use lib.ListN.{length}
use Rattle.forming.specs.declared.frames.Frame.{Frame}
use Rattle.forming.specs.Frames.{KeptBelow, frame_at, onto, heft, burden, rank, Advanced}
use Rattle.forming.proofs.Framing.{frame_kept}

power_some : (k : ℕ) → 0 < 256 ^ k
power_some k = one-le-pow k 256 (omega arith)

power_more : {i j : ℕ} → i ≤ j → 256 ^ i ≤ 256 ^ j
power_more l = pow-le-pow_right (omega arith) l

pub rank_kept : (a b : List ℕ) (n : ℕ) → n ≤ 100 → length a ≡ 1800 → length b ≡ length a → KeptBelow a b (18 * n) → rank b n ≡ rank a n
unfolding rank
rank_kept a b zero l e d k = refl
rank_kept a b (suc n) l e d k =
    ap (λ (f : Frame). rank b n + burden f) (frame_kept a b n (suc n) (omega arith) l e d k)
    ∙ ap (λ (x : ℕ). x + burden (frame_at a n)) (rank_kept a b n (omega arith) e d (λ j m. k j (omega arith)))

rank_last : (a : List ℕ) (n : ℕ) → rank a (suc n) ≡ rank a n + burden (frame_at a n)
unfolding rank
rank_last a n = refl

burden_low : (f : Frame) → f.ways < 256 → burden f < 256 ^ suc (heft f.top f.next)
burden_low f l =
    let P = 256 ^ heft f.top f.next in
    let m : (f.ways - f.way) * P ≤ 255 * P = mul-le-mul_right P (omega arith) in
    omega (arith, m, pow-suc 256 (heft f.top f.next), power_some (heft f.top f.next), mul_comm 256 P)

-- some ways are left, so a frame weighs something
burden_some : (f : Frame) → f.way < f.ways → 256 ^ heft f.top f.next ≤ burden f
burden_some f l =
    let P = 256 ^ heft f.top f.next in
    let m : 1 * P ≤ (f.ways - f.way) * P = mul-le-mul_right P (omega arith) in
    omega (arith, m)

-- fewer ways
burden_less : (w d e P : ℕ) → d < e → e < w → (w - e) * P + P ≤ (w - d) * P
burden_less w d e P l k =
    let m : suc (w - e) * P ≤ (w - d) * P = mul-le-mul_right P (omega arith) in
    omega (arith, m, suc-mul (w - e) P)

module _ (a : List ℕ) (n : ℕ) (l : n < 100) (e : length a ≡ 1800) (f : Frame) (b : List ℕ) (r : ℕ) (h : Advanced a n f b r) where
  same_below : rank b n ≡ rank a n
  same_below = rank_kept a b n (omega arith) e h.long h.kept

  pub opened_less : f.ways < 256 → rank b r < rank a n + 256 ^ suc (heft f.top f.next)
  opened_less w = go h.how
    where
      go : ((r ≡ suc n) × (f.way < f.ways) × (frame_at b n ≡ f)) ⊎ ((r ≡ n) × (f.ways ≤ f.way)) → rank b r < rank a n + 256 ^ suc (heft f.top f.next)
      go (inl (x, y, z)) =
          let q : rank b r ≡ rank a n + burden f = ap (rank b) x ∙ rank_last b n ∙ ap (λ (k : ℕ). k + burden (frame_at b n)) same_below ∙ ap (λ (g : Frame). rank a n + burden g) z in
          omega (arith, q, burden_low f w)
      go (inr (x, y)) = let q : rank b r ≡ rank a n = ap (rank b) x ∙ same_below in omega (arith, q, power_some (suc (heft f.top f.next)))

pub not_opened_less : (a : List ℕ) (n k : ℕ) → rank a n < rank a n + 256 ^ k
not_opened_less a n k = omega (arith, power_some k)

pub less_more : (x y i j : ℕ) → i ≤ j → x < y + 256 ^ i → x < y + 256 ^ j
less_more x y i j l h = omega (arith, power_more {i = i} {j = j} l)

pub refused_less : (a b : List ℕ) (n k : ℕ) → rank b 0 < rank a n + 256 ^ k
unfolding rank
refused_less a b n k = omega (arith, power_some k)

-- the last frame goes on to its next way, or is left
module _ (a : List ℕ) (n depth : ℕ) (de : depth ≡ suc n) (f : Frame) (fe : f ≡ frame_at a n) (s : f.way < f.ways) where
  all : rank a depth ≡ rank a n + burden f
  all = ap (rank a) de ∙ rank_last a n ∙ ap (λ (g : Frame). rank a n + burden g) (sym fe)

  pub left_less : rank a n < rank a depth
  left_less = omega (arith, all, burden_some f s, power_some (heft f.top f.next))

  pub back_less : n < 100 → length a ≡ 1800 → (e y : ℕ) → f.way < e → (b : List ℕ) (r : ℕ) → Advanced a n (onto f e y) b r → (x k : ℕ) → k ≤ heft f.top f.next → x < rank b r + 256 ^ k → x < rank a depth
  back_less l m e y d b r h x k le lt = go h.how
    where
      below : rank b n ≡ rank a n
      below = rank_kept a b n (omega arith) m h.long h.kept

      go : ((r ≡ suc n) × (e < f.ways) × (frame_at b n ≡ onto f e y)) ⊎ ((r ≡ n) × (f.ways ≤ e)) → x < rank a depth
      go (inl (u, v, w)) =
          let q : rank b r ≡ rank a n + burden (onto f e y) = ap (rank b) u ∙ rank_last b n ∙ ap (λ (k : ℕ). k + burden (frame_at b n)) below ∙ ap (λ (g : Frame). rank a n + burden g) w in
          omega (arith, q, all, power_more {i = k} {j = heft f.top f.next} le, burden_less f.ways f.way e (256 ^ heft f.top f.next) d v)
      go (inr (u, v)) =
          let q : rank b r ≡ rank a n = ap (rank b) u ∙ below in
          omega (arith, q, all, power_more {i = k} {j = heft f.top f.next} le, burden_some f s)
