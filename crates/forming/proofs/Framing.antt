-- Frames as bytes of an array, and masks of the names that have a value.
use mathlib.Core.Path.{◌≡◌, refl, sym, ap, subst, ◌∙◌}
use mathlib.Core.Bool.{Bool, true, false, not, cond}
use mathlib.Core.Logic.{inl, inr}
use mathlib.Core.List.{List, [], ◌∷◌}
use Prim.Native.Nat.{ℕ, ◌+◌, ◌-◌, ◌*◌, ◌/◌, ◌%◌, ◌^◌, ◌≤◌, ◌<◌}
use native.Mathlib.Decide.{ℕ_discrete}
use native.Mathlib.Numerals.{add-one}
use native.Mathlib.Nat.{pow-suc}
use native.Mathlib.Omega.{arith}
use lib.Dec.{eqb}
use lib.ListN.{length, get_or, set, take, drop, length-append, length-drop, length-set, drop_of_length-le}
use lib.Seq.{drop-cons, ext_get_or, get_or-take, get_or-drop, get_or-set_same, get_or-set_other, length-take-le}
use lib.Pow.{pow_mono}
use borrow.Author.Tests.{eq-eqb, ne_eqb}
use Rattle.matching.specs.Leaf.{Grown}
use Rattle.forming.specs.declared.frames.Frame.{Frame}
use Rattle.forming.specs.Frames.{KeptBelow, frame_of, slot_at, frame_at, onto, SlotPut, Stored, Advanced, has_word, mask_of, Cleared}
use mir.Val.{bool_byte}
use borrow.Rule.Slice.PartMut.{put_mid}
use Rattle.std.proofs.lemmas.Slice.{take-put_mid_below, take-put_mid, drop-put_mid, between-put_mid}
use Rattle.std.proofs.lemmas.List.{take-append-drop}

-- ---- bytes

slot_at_lem : (a : List ℕ) (i j : ℕ) → j < 18 → get_or (slot_at a i) j 0 ≡ get_or a (18 * i + j) 0
slot_at_lem a i j l = get_or-take 18 (drop (18 * i) a) j 0 l ∙ get_or-drop (18 * i) a j 0

slot_long : (a : List ℕ) (i : ℕ) → i < 100 → length a ≡ 1800 → length (slot_at a i) ≡ 18
slot_long a i l e = length-take-le 18 (drop (18 * i) a) (omega (arith, length-drop (18 * i) a))

module _ (a k : ℕ) (xs ys : List ℕ) where
  pub put_below : a ≤ length xs → (j : ℕ) → j < a → get_or (put_mid a k xs ys) j 0 ≡ get_or xs j 0
  put_below l j m =
      sym (get_or-take a (put_mid a k xs ys) j 0 m) ∙ ap (λ (zs : List ℕ). get_or zs j 0) (take-put_mid_below a k xs ys a (omega arith) l) ∙ get_or-take a xs j 0 m

  put_part : a ≤ length xs → length ys ≡ k → take k (drop a (put_mid a k xs ys)) ≡ ys
  put_part l e =
      let n : k ≡ a + k - a = omega arith in
      ap (λ (m : ℕ). take m (drop a (put_mid a k xs ys))) n ∙ between-put_mid a k xs ys (a + k) l (e ∙ n)

  pub put_within : a ≤ length xs → length ys ≡ k → (j : ℕ) → j < k → get_or (put_mid a k xs ys) (a + j) 0 ≡ get_or ys j 0
  put_within l e j m =
      sym (get_or-take k (drop a (put_mid a k xs ys)) j 0 m ∙ get_or-drop a (put_mid a k xs ys) j 0) ∙ ap (λ (zs : List ℕ). get_or zs j 0) (put_part l e)

  pub put_length : a + k ≤ length xs → length ys ≡ k → length (put_mid a k xs ys) ≡ length xs
  put_length l e =
      let t = ap length (take-put_mid a k xs ys (a + k) (ap (λ (n : ℕ). a + n) (sym e)) (omega arith)) ∙ length-append (take a xs) ys in
      let d = ap length (drop-put_mid a k xs ys (a + k) (omega arith) (omega arith) e) in
      let p = ap length (sym (take-append-drop (a + k) (put_mid a k xs ys))) ∙ length-append (take (a + k) (put_mid a k xs ys)) (drop (a + k) (put_mid a k xs ys)) in
      omega (arith, t, d, p, e, length-take-le a xs (omega arith), length-drop (a + k) xs)

pub slot_written : (a : List ℕ) (i k : ℕ) (bytes ys : List ℕ) → i < 100 → length a ≡ 1800 → length bytes ≡ 18 → k ≡ 18 → ys ≡ bytes → SlotPut a i bytes (put_mid (18 * i) k a ys)
slot_written a i k bytes ys l e n kn y = record {
  here = ap (λ (m : ℕ). take m (drop (18 * i) (put_mid (18 * i) k a ys))) (sym kn) ∙ put_part (18 * i) k a ys (omega arith) sized ∙ y;
  kept = put_below (18 * i) k a ys (omega arith);
  long = put_length (18 * i) k a ys (omega (arith, kn)) sized;
}
  where
    sized : length ys ≡ k
    sized = ap length y ∙ n ∙ sym kn

-- ---- frames

pub stored : (a : List ℕ) (i : ℕ) (f : Frame) (bytes b : List ℕ) → frame_of bytes ≡ f → SlotPut a i bytes b → Stored a i f b
stored a i f bytes b e h = record { here = ap frame_of h.here ∙ e; kept = h.kept; long = h.long }

pub advanced : (a : List ℕ) (i : ℕ) (f : Frame) (b : List ℕ) (r : ℕ) → r ≡ i + 1 → f.way < f.ways → Stored a i f b → Advanced a i f b r
advanced a i f b r e l h = record { kept = h.kept; long = h.long; how = inl (e ∙ add-one i, l, h.here) }

pub not_advanced : (a : List ℕ) (i : ℕ) (f : Frame) → f.ways ≤ f.way → Advanced a i f a i
not_advanced a i f l = record { kept = λ j m. refl; long = refl; how = inr (refl, l) }

-- the bytes of its way and of the rows alone
way_set : (x : List ℕ) (w n : ℕ) → length x ≡ 18 → frame_of (set (set x 4 w) 5 n) ≡ onto (frame_of x) w n
way_set ([]) w n l = absurd (omega arith)
way_set (a ∷ []) w n l = absurd (omega arith)
way_set (a ∷ b ∷ []) w n l = absurd (omega arith)
way_set (a ∷ b ∷ c ∷ []) w n l = absurd (omega arith)
way_set (a ∷ b ∷ c ∷ d ∷ []) w n l = absurd (omega arith)
way_set (a ∷ b ∷ c ∷ d ∷ e ∷ []) w n l = absurd (omega arith)
way_set (a ∷ b ∷ c ∷ d ∷ e ∷ f ∷ rest) w n l = refl

slot_set : (a : List ℕ) (i : ℕ) → i < 100 → length a ≡ 1800 → (j : ℕ) → j < 18 → (e : ℕ) → slot_at (set a (18 * i + j) e) i ≡ set (slot_at a i) j e
slot_set a i l n j u e =
    let m = slot_long a i l n in
    let o = slot_long (set a (18 * i + j) e) i l (length-set a (18 * i + j) e ∙ n) in
    ext_get_or 0 (slot_at (set a (18 * i + j) e) i) (set (slot_at a i) j e) (o ∙ sym (length-set (slot_at a i) j e ∙ m)) (λ k q. slot_at_lem (set a (18 * i + j) e) i k (omega (arith, o)) ∙ go m k (omega (arith, o)) (ℕ_discrete k j))
  where
    go : length (slot_at a i) ≡ 18 → (k : ℕ) → k < 18 → Dec (k ≡ j) → get_or (set a (18 * i + j) e) (18 * i + k) 0 ≡ get_or (set (slot_at a i) j e) k 0
    go m k q (yes d) = rw d (get_or-set_same a (18 * i + j) e 0 (omega arith) ∙ sym (get_or-set_same (slot_at a i) j e 0 (omega arith)))
    go m k q (no d) = get_or-set_other a (18 * i + j) (18 * i + k) e 0 (λ z. d (omega arith)) ∙ sym (get_or-set_other (slot_at a i) j k e 0 d ∙ slot_at_lem a i k q)

pub way_put : (a : List ℕ) (i : ℕ) → i < 100 → length a ≡ 1800 → (e n : ℕ) → e < (frame_at a i).ways → (r : ℕ) → r ≡ i + 1 → Advanced a i (onto (frame_at a i) e n) (set (set a (18 * i + 4) e) (18 * i + 5) n) r
way_put a i l m e n o r q =
    let b : length (set a (18 * i + 4) e) ≡ length a = length-set a (18 * i + 4) e in
    record {
      kept = λ j k. get_or-set_other (set a (18 * i + 4) e) (18 * i + 5) j n 0 (λ d. absurd (omega arith)) ∙ get_or-set_other a (18 * i + 4) j e 0 (λ d. absurd (omega arith));
      long = length-set (set a (18 * i + 4) e) (18 * i + 5) n ∙ b;
      how = inl (
        q ∙ add-one i,
        o,
        ap frame_of (slot_set (set a (18 * i + 4) e) i l (b ∙ m) 5 (omega arith) n ∙ ap (λ (x : List ℕ). set x 5 n) (slot_set a i l m 4 (omega arith) e)) ∙ way_set (slot_at a i) e n (slot_long a i l m),
      );
    }

pub advanced_from : (a : List ℕ) (i : ℕ) (f : Frame) → f ≡ frame_at a i → (e n : ℕ) (b : List ℕ) (r : ℕ) → Advanced a i (onto (frame_at a i) e n) b r → Advanced a i (onto f e n) b r
advanced_from a i f q e n b r h = subst (λ (g : Frame). Advanced a i (onto g e n) b r) (sym q) h

pub top_at : (a : List ℕ) (i : ℕ) → get_or a (18 * i + 3) 0 ≡ (frame_at a i).top
top_at a i = sym (slot_at_lem a i 3 (omega arith))

-- frames below are kept
pub frame_kept : (a b : List ℕ) (i n : ℕ) → i < n → n ≤ 100 → length a ≡ 1800 → length b ≡ length a → KeptBelow a b (18 * n) → frame_at b i ≡ frame_at a i
frame_kept a b i n l m e d k =
    let la = slot_long a i (omega arith) e in
    let lb = slot_long b i (omega arith) (d ∙ e) in
    ap frame_of (ext_get_or 0 (slot_at b i) (slot_at a i) (lb ∙ sym la) (λ j o. slot_at_lem b i j (omega (arith, lb)) ∙ k (18 * i + j) (omega (arith, lb)) ∙ sym (slot_at_lem a i j (omega (arith, lb)))))

-- ---- masks

mask_here : (ws : List ℕ) (x : ℕ) → x < length ws → mask_of (drop x ws) ≡ 2 * mask_of (drop (x + 1) ws) + has_word (get_or ws x 0)
unfolding mask_of
mask_here ws x l = ap mask_of (drop-cons ws x 0 l ∙ ap (λ (k : ℕ). get_or ws x 0 ∷ drop k ws) (sym (add-one x)))

has_low : (w : ℕ) → has_word w < 2
has_low w = go (eqb w 0)
  where
    go : (b : Bool) → cond b 0 1 < 2
    go true = omega arith
    go false = omega arith

mask_low : (ws : List ℕ) → mask_of ws < 2 ^ length ws
unfolding mask_of
mask_low [] = omega arith
mask_low (w ∷ ws) = let e = pow-suc 2 (length ws) in omega (arith, e, mask_low ws, has_low w)

mask_small : (ws : List ℕ) → length ws ≤ 16 → mask_of ws < 65536
mask_small ws l = let p : 2 ^ length ws ≤ 65536 = pow_mono {i = length ws} {j = 16} l in omega (arith, mask_low ws, p)

has_one : (w : ℕ) → (w ≡ 0 → ⊥) → has_word w ≡ 1
has_one w f = ap (λ (b : Bool). cond b 0 1) (ne_eqb w 0 f)

has_none : (w : ℕ) → w ≡ 0 → has_word w ≡ 0
has_none w e = ap (λ (b : Bool). cond b 0 1) (eq-eqb w 0 e)

pub byte_has : (w : ℕ) → bool_byte (not (eqb w 0)) ≡ has_word w
byte_has w = go (eqb w 0)
  where
    go : (b : Bool) → bool_byte (not b) ≡ cond b 0 1
    go true = refl
    go false = refl

pub byte_low : (b : Bool) → bool_byte b < 2
byte_low true = omega arith
byte_low false = omega arith

-- the names from x on are in the mask
pub record MaskFrom (ws : List ℕ) (mask x : ℕ) : Type 0 where
  pub right : mask ≡ mask_of (drop x ws)
  pub low : mask < 65536
  pub within : x ≤ 16

module _ (ws : List ℕ) (n : length ws ≡ 16) where
  pub mask_start : MaskFrom ws 0 16
  unfolding mask_of
  mask_start = record { right = sym (ap mask_of (drop_of_length-le ws {i = 16} (omega arith))); low = omega arith; within = omega arith }

  pub mask_more : (mask x y : ℕ) → x ≡ y + 1 → MaskFrom ws mask x → MaskFrom ws (2 * mask + has_word (get_or ws y 0)) y
  mask_more mask x y e h =
      let r : 2 * mask + has_word (get_or ws y 0) ≡ mask_of (drop y ws) =
      ap (λ (m : ℕ). 2 * m + has_word (get_or ws y 0)) (h.right ∙ ap (λ (k : ℕ). mask_of (drop k ws)) e) ∙ sym (mask_here ws y (omega (arith, h.within))) in
      record { right = r; low = omega (arith, r, mask_small (drop y ws) (omega (arith, length-drop y ws))); within = omega (arith, h.within) }

  pub mask_end : (mask x : ℕ) → x ≤ 0 → MaskFrom ws mask x → (mask ≡ mask_of ws) × (mask < 65536)
  mask_end mask x l h = let e : x ≡ 0 = omega arith in (h.right ∙ ap (λ (k : ℕ). mask_of (drop k ws)) e, h.low)

-- the names below x are cleared
pub record ClearedTo (before : List ℕ) (mask : ℕ) (after : List ℕ) (left x : ℕ) : Type 0 where
  pub long : length after ≡ length before
  pub within : x ≤ 16
  pub right : (ws : List ℕ) → mask ≡ mask_of ws → length ws ≡ 16 → Grown ws before
      → (left ≡ mask_of (drop x ws)) × ((j : ℕ) → j < x → get_or after j 0 ≡ get_or ws j 0) × ((j : ℕ) → x ≤ j → get_or after j 0 ≡ get_or before j 0)

module _ (before : List ℕ) (mask : ℕ) where
  pub clear_start : ClearedTo before mask before mask 0
  clear_start = record { long = refl; within = omega arith; right = λ ws e n g. (e, λ j l. absurd (omega arith), λ j l. refl) }

  module _ (after : List ℕ) (left x : ℕ) (l : x < 16) (h : ClearedTo before mask after left x) where
    parts : (ws : List ℕ) → mask ≡ mask_of ws → length ws ≡ 16 → Grown ws before → left ≡ 2 * mask_of (drop (x + 1) ws) + has_word (get_or ws x 0)
    parts ws e n g = (h.right ws e n g).0 ∙ mask_here ws x (omega arith)

    here_none : (ws : List ℕ) → mask ≡ mask_of ws → length ws ≡ 16 → Grown ws before → left % 2 ≡ 0 → get_or ws x 0 ≡ 0
    here_none ws e n g z = go (ℕ_discrete (get_or ws x 0) 0)
      where
        go : Dec (get_or ws x 0 ≡ 0) → get_or ws x 0 ≡ 0
        go (yes q) = q
        go (no q) = absurd (omega (arith, parts ws e n g, has_one (get_or ws x 0) q))

    here_some : (ws : List ℕ) → mask ≡ mask_of ws → length ws ≡ 16 → Grown ws before → (left % 2 ≡ 0 → ⊥) → get_or ws x 0 ≡ 0 → ⊥
    here_some ws e n g z q = z (omega (arith, parts ws e n g, has_none (get_or ws x 0) q))

    rest : (ws : List ℕ) → mask ≡ mask_of ws → length ws ≡ 16 → Grown ws before → left / 2 ≡ mask_of (drop (x + 1) ws)
    rest ws e n g = omega (arith, parts ws e n g, has_low (get_or ws x 0))

    pub clear_none : left % 2 ≡ 0 → length before ≡ 16 → ClearedTo before mask (set after x 0) (left / 2) (x + 1)
    clear_none z m = record {
      long = length-set after x 0 ∙ h.long;
      within = omega arith;
      right = λ ws e n g. (rest ws e n g, λ j o. go ws e n g j o (ℕ_discrete j x), λ j o. get_or-set_other after x j 0 0 (λ q. absurd (omega arith)) ∙ (h.right ws e n g).2 j (omega arith));
    }
      where
        go : (ws : List ℕ) → mask ≡ mask_of ws → length ws ≡ 16 → Grown ws before → (j : ℕ) → j < x + 1 → Dec (j ≡ x) → get_or (set after x 0) j 0 ≡ get_or ws j 0
        go ws e n g j o (yes q) = rw q (get_or-set_same after x 0 0 (omega (arith, h.long)) ∙ sym (here_none ws e n g z))
        go ws e n g j o (no q) = get_or-set_other after x j 0 0 q ∙ (h.right ws e n g).1 j (omega arith)

    pub clear_some : (left % 2 ≡ 0 → ⊥) → ClearedTo before mask after (left / 2) (x + 1)
    clear_some z = record {
      long = h.long;
      within = omega arith;
      right = λ ws e n g. (rest ws e n g, λ j o. go ws e n g j o (ℕ_discrete j x), λ j o. (h.right ws e n g).2 j (omega arith));
    }
      where
        go : (ws : List ℕ) → mask ≡ mask_of ws → length ws ≡ 16 → Grown ws before → (j : ℕ) → j < x + 1 → Dec (j ≡ x) → get_or after j 0 ≡ get_or ws j 0
        go ws e n g j o (yes q) = rw q ((h.right ws e n g).2 x (omega arith) ∙ g.stays x (here_some ws e n g z))
        go ws e n g j o (no q) = (h.right ws e n g).1 j (omega arith)

  pub clear_end : (after : List ℕ) (left x : ℕ) → 16 ≤ x → ClearedTo before mask after left x → Cleared before mask after
  clear_end after left x l h ws e n g =
      let m : length after ≡ length ws = h.long ∙ g.sized in
      ext_get_or 0 after ws m (λ j o. (h.right ws e n g).1 j (omega arith))
