-- Laws of numbers as bytes: what was written is read back, and what was read is written back.
use mathlib.Core.Path.{◌≡◌, refl, sym, ap, ap₂, ◌∙◌, subst}
use mathlib.Core.Bool.{Bool, true, false, cond}
use mathlib.Core.List.{List, [], ◌∷◌, ◌++◌, append_assoc}
use Prim.Native.Nat.{ℕ, suc, ◌+◌, ◌-◌, ◌/◌, ◌%◌, ◌≤◌, ◌<◌}
use native.Mathlib.Numerals.{add-one, add-two}
use native.Mathlib.Nat.{add-zero}
use native.Mathlib.Omega.{arith}
use lib.Dec.{ltb}
use lib.IntN.{ℤ, pos, negsuc}
use lib.ListN.{length, get_or, set, take, drop}
use lib.Seq.{sets, sets-eq, get_or-drop, take-set-le, drop_at, drop-cons, drop-drop, take-add, length-take-le}
use mir.Syntax.{w32}
use mir.Val.{SFits, sel, to_z, of_z}
use mir.Facts.{to_z-of_z, of_z-to_z, sfits_to_z}
use Rattle.integers.specs.Whole.{InRange}
use Rattle.integers.specs.Bytes.{pair, four, bits_of, integer_bytes, word, bits32, of_bits, integer_at}
use Rattle.integers.proofs.Range.{fits_range}

-- ---- two's complement: the bits of an integer and back

-- the machine's bits of an integer, and its integer of bits, are these
pub bits_machine : (z : ℤ) → bits_of z ≡ of_z w32 z
bits_machine (pos n) = refl
bits_machine (negsuc n) = refl

pub machine_bits : (n : ℕ) → of_bits n ≡ to_z w32 n
machine_bits n = go (ltb n 2147483648)
  where
    go : (b : Bool) → cond b (pos n) (negsuc (4294967296 - suc n)) ≡ sel b (pos n) (negsuc (4294967296 - suc n))
    go true = refl
    go false = refl

pub integer_bits : {z : ℤ} → SFits w32 z → of_bits (bits_of z) ≡ z
integer_bits {z} f = ap of_bits (bits_machine z) ∙ machine_bits (of_z w32 z) ∙ to_z-of_z f

bits_integer : (n : ℕ) → n < 4294967296 → bits_of (of_bits n) ≡ n
bits_integer n h = ap bits_of (machine_bits n) ∙ bits_machine (to_z w32 n) ∙ of_z-to_z {w = w32} {n = n} (record { fits = h })

pub bits_range : (n : ℕ) → n < 4294967296 → InRange (of_bits n)
bits_range n h = fits_range (of_bits n) (subst (SFits w32) (sym (machine_bits n)) (sfits_to_z {w = w32} {n = n} (record { fits = h })))

-- ---- bytes are below 256, and a word of two bytes below 65,536

module _ (s : List ℕ) (bytes : (i : ℕ) → get_or s i 0 < 256) where
  pub word_low : (at : ℕ) → word s at < 65536
  word_low at = omega (arith, bytes at, bytes (at + 1))

  pub bits32_low : (at : ℕ) → bits32 s at < 4294967296
  bits32_low at = omega (arith, word_low at, word_low (at + 2))

-- ---- read what was written

word_pair : (n : ℕ) (rest : List ℕ) → word (pair n ++ rest) 0 ≡ n
word_pair n rest = omega arith

pub bits32_four : (n : ℕ) (rest : List ℕ) → bits32 (four n ++ rest) 0 ≡ n
bits32_four n rest = omega arith

integer_four : {z : ℤ} (rest : List ℕ) → SFits w32 z → integer_at (integer_bytes z ++ rest) 0 ≡ z
integer_four {z} rest f = ap of_bits (bits32_four (bits_of z) rest) ∙ integer_bits f

-- ---- the same in a part of the list

word_drop : (s : List ℕ) (at i : ℕ) → word (drop at s) i ≡ word s (at + i)
word_drop s at i =
    let e : at + (i + 1) ≡ at + i + 1 = omega arith in
    rw (get_or-drop at s i 0, get_or-drop at s (i + 1) 0, e)

pub bits32_drop : (s : List ℕ) (at i : ℕ) → bits32 (drop at s) i ≡ bits32 s (at + i)
bits32_drop s at i =
    let e : at + (i + 2) ≡ at + i + 2 = omega arith in
    rw (word_drop s at i, word_drop s at (i + 2), e)

-- ---- at a place where it was stored

-- one store after another is one store of both
pub sets_then : (vs ws s : List ℕ) (at : ℕ) → sets (sets s at vs) (at + length vs) ws ≡ sets s at (vs ++ ws)
sets_then [] ws s at = ap (λ (j : ℕ). sets s j ws) (add-zero at)
sets_then (v ∷ vs) ws s at =
    let e : at + suc (length vs) ≡ suc at + length vs = omega arith in
    ap (λ (j : ℕ). sets (sets (set s at v) (suc at) vs) j ws) e ∙ sets_then vs ws (set s at v) (suc at)

-- so the low half of 32 bits and then the high one
pub halves_stored : (s t u : List ℕ) (at n : ℕ) → t ≡ sets s at (pair (n % 65536)) → u ≡ sets t (at + 2) (pair (n / 65536)) → u ≡ sets s at (four n)
halves_stored s t u at n p q = q ∙ ap (λ (l : List ℕ). sets l (at + 2) (pair (n / 65536))) p ∙ sets_then (pair (n % 65536)) (pair (n / 65536)) s at

-- what lies below is as it was, and what was stored stands there
pub take_sets : (vs s : List ℕ) (at n : ℕ) → n ≤ at → take n (sets s at vs) ≡ take n s
take_sets [] s at n h = refl
take_sets (v ∷ vs) s at n h = take_sets vs (set s at v) (suc at) n (omega arith) ∙ take-set-le n s at v h

pub drop_sets : (vs s : List ℕ) (at : ℕ) → at + length vs ≤ length s → drop at (sets s at vs) ≡ vs ++ drop (at + length vs) s
drop_sets vs s at h =
    let rest = drop (at + length vs) s in
    let g : at ≤ length s = omega arith in
    ap (drop at) (sets-eq vs s at h ∙ append_assoc (take at s) vs rest) ∙ drop_at (take at s) (vs ++ rest) at (length-take-le at s g)

-- ---- what was read is what stands there

two_here : (s : List ℕ) (at : ℕ) → at + 2 ≤ length s → drop at s ≡ get_or s at 0 ∷ get_or s (at + 1) 0 ∷ drop (at + 2) s
two_here s at h =
    let g : at < length s = omega arith in
    let k : suc at < length s = omega arith in
    rw (drop-cons s at 0 g, drop-cons s (suc at) 0 k, add-one, add-two)

module _ (s : List ℕ) (bytes : (i : ℕ) → get_or s i 0 < 256) where
  pub pair_word : (at : ℕ) → at + 2 ≤ length s → take 2 (drop at s) ≡ pair (word s at)
  pair_word at h =
      ap (take 2) (two_here s at h)
      ∙ ap₂ (λ (x y : ℕ). x ∷ y ∷ []) (omega (arith, bytes at, bytes (at + 1))) (omega (arith, bytes at, bytes (at + 1)))

  words_are : (at : ℕ) → pair (word s at) ++ pair (word s (at + 2)) ≡ four (bits32 s at)
  words_are at =
      ap₂ (λ (x y : ℕ). pair x ++ pair y) (omega (arith, word_low s bytes at)) (omega (arith, word_low s bytes at))

  four_bits32 : (at : ℕ) → at + 4 ≤ length s → take 4 (drop at s) ≡ four (bits32 s at)
  four_bits32 at h =
      take-add 2 2 (drop at s)
      ∙ ap₂ (λ (x y : List ℕ). x ++ y) (pair_word at (omega arith)) (ap (take 2) (drop-drop 2 at s) ∙ pair_word (at + 2) (omega arith))
      ∙ words_are at

  pub four_integer : (at : ℕ) → at + 4 ≤ length s → take 4 (drop at s) ≡ integer_bytes (integer_at s at)
  four_integer at h = four_bits32 at h ∙ ap four (sym (bits_integer (bits32 s at) (bits32_low s bytes at)))
