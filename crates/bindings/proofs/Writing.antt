-- Words written into a window.
use mathlib.Core.Path.{◌≡◌, refl, sym, ap, subst, ◌∙◌}
use mathlib.Core.Bool.{Bool, true, false, cond}
use mathlib.Core.List.{List, [], ◌∷◌}
use Prim.Native.Nat.{ℕ, zero, suc, ◌+◌, ◌-◌, ◌*◌, ◌/◌, ◌%◌, ◌^◌, ◌≤◌, ◌<◌}
use native.Mathlib.Nat.{mul-suc, mul-zero, mul-le-mul_left, pow-suc}
use native.Mathlib.Numerals.{add-one}
use native.Mathlib.Decide.{ℕ_discrete}
use native.Mathlib.Omega.{arith}
use lib.Dec.{eqb}
use lib.ListN.{length, get_or, take, drop, length-drop, drop_of_length-le}
use lib.Seq.{sets, length-sets, drop-cons, take-take, drop-drop, get_or-take, get_or-drop, length-take-le}
use borrow.Author.Tests.{eq-eqb, ne_eqb}
use Rattle.prelude.proofs.Absurd.{impossible}
use Rattle.integers.specs.Bytes.{four, bits32, word}
use Rattle.integers.proofs.Written.{bits32_four, bits32_drop, take_sets, drop_sets}
use Rattle.values.specs.Value.{Value, boolean}
use Rattle.values.specs.Place.{At, ItemsAt, Holds, Outside}
use Rattle.values.proofs.Frame.{kept}
use Rattle.values.proofs.Records.{holds, word_size}
use Rattle.patterns.specs.Pattern.{items_of, list_of}
use Rattle.patterns.proofs.Laws.Matched.{items_list}
use Rattle.parts.specs.Chosen.{odd}
use Rattle.bindings.specs.declared.Cursor.{Cursor}
use Rattle.bindings.specs.Window.{window, past, place_of, InWindow}
use Rattle.bindings.specs.Laws.Window.{bits_kept, past_after}
use Rattle.bindings.specs.Filling.{row_words, bit, mask_of, filled, WordAt, WordsAt, RowHeld, NamesAre, RowPuttable, RowPut, FillHeld, Filled, OneName, MembersHeld, MemberAt, MembersPut}
use Rattle.bindings.proofs.Members.{first-of, none_left}

-- ---- one word

bits_stored : (s : List ℕ) (at n : ℕ) → at + 4 ≤ length s → bits32 (sets s at (four n)) at ≡ n
bits_stored s at n l =
    let z : at + 0 ≡ at = omega arith in
    ap (bits32 (sets s at (four n))) (sym z) ∙ sym (bits32_drop (sets s at (four n)) at 0) ∙ ap (λ (x : List ℕ). bits32 x 0) (drop_sets (four n) s at l) ∙ bits32_four n (drop (at + 4) s)

outside_none : (s : List ℕ) (at : ℕ) → Outside s s at at
outside_none s at = record { long = refl; below = refl; above = refl }

-- four bytes more
drop_after : (s : List ℕ) (at n : ℕ) → at + 4 ≤ length s → drop (at + 4) (sets s at (four n)) ≡ drop (at + 4) s
drop_after s at n l =
    sym (drop-drop 4 at (sets s at (four n))) ∙ ap (drop 4) (drop_sets (four n) s at l)

pub outside_word : (s t u : List ℕ) (out at w : ℕ) → out ≤ at → at + 4 ≤ length t → Outside s t out at → u ≡ sets t at (four w) → Outside s u out (at + 4)
outside_word s t u out at w l r o e = record {
  long = ap length e ∙ length-sets t at (four w) ∙ o.long;
  below = ap (take out) e ∙ take_sets (four w) t at out l ∙ o.below;
  above = ap (drop (at + 4)) e ∙ drop_after t at w r ∙ sym (drop-drop 4 at t) ∙ ap (drop 4) o.above ∙ drop-drop 4 at s;
}

-- what stands outside the larger is outside the smaller
drop_more : (s t : List ℕ) (a b : ℕ) → a ≤ b → drop a t ≡ drop a s → drop b t ≡ drop b s
drop_more s t a b l e =
    let z : a + (b - a) ≡ b = omega arith in
    ap (λ (n : ℕ). drop n t) (sym z) ∙ sym (drop-drop (b - a) a t) ∙ ap (drop (b - a)) e ∙ drop-drop (b - a) a s ∙ ap (λ (n : ℕ). drop n s) z

pub outside_wider : (s t : List ℕ) (from a b : ℕ) → a ≤ b → Outside s t from a → Outside s t from b
outside_wider s t from a b l o = record { long = o.long; below = o.below; above = drop_more s t a b l o.above }

outside_then : (s t u : List ℕ) (from a b : ℕ) → from ≤ a → a ≤ b → Outside s t from a → Outside t u a b → Outside s u from b
outside_then s t u from a b l m o q = record {
  long = q.long ∙ o.long;
  below = sym (take-take from a u l) ∙ ap (take from) q.below ∙ take-take from a t l ∙ o.below;
  above = q.above ∙ drop_more s t a b m o.above;
}

-- ---- masks

bit_zero : (w : ℕ) → w ≡ 0 → bit w ≡ 0
bit_zero w e = rw (eq-eqb w 0 e)

bit_some : (w : ℕ) → (w ≡ 0 → ⊥) → bit w ≡ 1
bit_some w f = rw (ne_eqb w 0 f)

bit_few : (w : ℕ) → bit w ≤ 1
bit_few w = go (eqb w 0)
  where
    go : (b : Bool) → cond b 0 1 ≤ 1
    go true = omega arith
    go false = omega arith

pub mask_cons : (w : ℕ) (ws : List ℕ) → mask_of (w ∷ ws) ≡ bit w + 2 * mask_of ws
unfolding mask_of
mask_cons w ws = refl

pub filled_cons : (w : ℕ) (ws : List ℕ) → filled (w ∷ ws) ≡ bit w + filled ws
unfolding filled
filled_cons w ws = refl

mask_nil : mask_of [] ≡ 0
unfolding mask_of
mask_nil = refl

filled_nil : filled [] ≡ 0
unfolding filled
filled_nil = refl

pub mask_half : (w : ℕ) (ws : List ℕ) → mask_of (w ∷ ws) / 2 ≡ mask_of ws
mask_half w ws = omega (arith, mask_cons w ws, bit_few w)

mask_low : (w : ℕ) (ws : List ℕ) → mask_of (w ∷ ws) % 2 ≡ bit w
mask_low w ws = omega (arith, mask_cons w ws, bit_few w)

pub odd_some : (m : ℕ) (w : ℕ) (ws : List ℕ) → m ≡ mask_of (w ∷ ws) → (w ≡ 0 → ⊥) → odd m ≡ true
odd_some m w ws e f = eq-eqb (m % 2) 1 (omega (arith, ap (λ (n : ℕ). n % 2) e, mask_low w ws, bit_some w f))

pub odd_none : (m : ℕ) (w : ℕ) (ws : List ℕ) → m ≡ mask_of (w ∷ ws) → w ≡ 0 → odd m ≡ false
odd_none m w ws e f = ne_eqb (m % 2) 1 (λ z. omega (arith, ap (λ (n : ℕ). n % 2) e, mask_low w ws, bit_zero w f))

-- the names of a row, from the last on
pub record NamesSoFar (ws : List ℕ) (x mask width : ℕ) : Type 0 where
  pub within : x ≤ 16
  pub is_mask : mask ≡ mask_of (drop x ws)
  pub is_width : width ≡ filled (drop x ws)
  pub small : mask < 2 ^ (16 - x)
  pub narrow : width ≤ 16 - x

module _ (ws : List ℕ) (sized : length ws ≡ 16) where
  pub names_start : NamesSoFar ws 16 0 0
  names_start =
      let e : drop 16 ws ≡ [] = drop_of_length-le ws {i = 16} (omega arith) in
      record { within = omega arith; is_mask = sym (ap mask_of e ∙ mask_nil); is_width = sym (ap filled e ∙ filled_nil); small = omega arith; narrow = omega arith }

  module _ (x mask width : ℕ) (h : NamesSoFar ws x mask width) (y : ℕ) (d : x ≡ suc y) where
    at : drop y ws ≡ get_or ws y 0 ∷ drop x ws
    at = drop-cons ws y 0 (omega (arith, h.within)) ∙ ap (λ (n : ℕ). get_or ws y 0 ∷ drop n ws) (sym d)

    power : 2 ^ (16 - y) ≡ 2 * 2 ^ (16 - x)
    power =
        let z : 16 - y ≡ suc (16 - x) = omega (arith, h.within) in
        ap (λ (n : ℕ). 2 ^ n) z ∙ omega (arith, pow-suc 2 (16 - x))

    pub names_some : (get_or ws y 0 ≡ 0 → ⊥) → NamesSoFar ws y (mask * 2 + 1) (width + 1)
    names_some f = record {
      within = omega (arith, h.within);
      is_mask = omega (arith, ap mask_of at, mask_cons (get_or ws y 0) (drop x ws), bit_some (get_or ws y 0) f, h.is_mask);
      is_width = omega (arith, ap filled at, filled_cons (get_or ws y 0) (drop x ws), bit_some (get_or ws y 0) f, h.is_width);
      small = omega (arith, power, h.small);
      narrow = omega (arith, h.narrow, h.within);
    }

    pub names_none : get_or ws y 0 ≡ 0 → NamesSoFar ws y (mask * 2) width
    names_none f = record {
      within = omega (arith, h.within);
      is_mask = omega (arith, ap mask_of at, mask_cons (get_or ws y 0) (drop x ws), bit_zero (get_or ws y 0) f, h.is_mask);
      is_width = omega (arith, ap filled at, filled_cons (get_or ws y 0) (drop x ws), bit_zero (get_or ws y 0) f, h.is_width);
      small = omega (arith, power, h.small);
      narrow = omega (arith, h.narrow, h.within);
    }

  pub names_low : (x mask width : ℕ) → NamesSoFar ws x mask width → mask < 65536
  names_low x mask width h = omega (arith, h.small, power_low (16 - x) (omega arith))
    where
      power_low : (n : ℕ) → n ≤ 16 → 2 ^ n ≤ 65536
      power_low n l = go (16 - n) n (omega arith)
        where
          go : (d n : ℕ) → n + d ≡ 16 → 2 ^ n ≤ 65536
          go zero n e = let z : n ≡ 16 = omega arith in rw z (omega arith)
          go (suc d) n e = omega (arith, go d (suc n) (omega arith), pow-suc 2 n)

  pub names_end : (x mask width : ℕ) → NamesSoFar ws x mask width → x ≤ 0 → NamesAre ws (record { mask = mask; width = width })
  names_end x mask width h l =
      let z : x ≡ 0 = omega arith in
      let e : drop x ws ≡ ws = ap (λ (n : ℕ). drop n ws) z in
      record { mask = h.is_mask ∙ ap mask_of e; width = h.is_width ∙ ap filled e; small = names_low x mask width h; narrow = omega (arith, h.narrow) }

-- ---- a row

module _ (rows : List ℕ) (r : ℕ) (h : RowHeld rows r) where
  pub row_length : length (row_words rows r) ≡ 16
  row_length = length-take-le 16 (drop (16 * r) rows) (omega (arith, length-drop (16 * r) rows, h.low, h.wide))

  pub row_at : (x : ℕ) → x < 16 → get_or (row_words rows r) x 0 ≡ get_or rows (16 * r + x) 0
  row_at x l = get_or-take 16 (drop (16 * r) rows) x 0 l ∙ get_or-drop (16 * r) rows x 0

words_end : (s : List ℕ) (at e m : ℕ) (ws : List ℕ) → WordsAt s at e m ws → at ≤ e
words_end s at e m [] h = h.1
words_end s at e m (w ∷ ws) h = omega (arith, past_after (odd m) at, words_end s (past (odd m) at) e (m / 2) ws h.1)

module _ (s t : List ℕ) (e : ℕ) (same : take e t ≡ take e s) where
  word_kept : (b : Bool) (at w : ℕ) → past b at ≤ e → WordAt s at b w → WordAt t at b w
  word_kept true at w l h = bits_kept s t e at same l ∙ h
  word_kept false at w l h = tt

  pub words_kept : (at end m : ℕ) (ws : List ℕ) → end ≤ e → WordsAt s at end m ws → WordsAt t at end m ws
  words_kept at end m [] l h = h
  words_kept at end m (w ∷ ws) l h =
      let k = words_end s (past (odd m) at) end (m / 2) ws h.1 in
      (word_kept (odd m) at w (omega arith) h.0, words_kept (past (odd m) at) end (m / 2) ws l h.1)

-- no name left
odd-zero : odd 0 ≡ false
odd-zero = refl

words_none : (s : List ℕ) (at : ℕ) (ws : List ℕ) → WordsAt s at at 0 ws
words_none s at [] = (refl, omega arith)
words_none s at (w ∷ ws) = (tt, words_none s at ws)

filled_none : (ws : List ℕ) → mask_of ws ≡ 0 → filled ws ≡ 0
filled_none [] e = filled_nil
filled_none (w ∷ ws) e = omega (arith, filled_cons w ws, mask_cons w ws, filled_none ws (omega (arith, mask_cons w ws)))

-- The names before x are written: whatever is written of the others completes the row.
pub record RowSoFar (s t : List ℕ) (out : ℕ) (ws : List ℕ) (mask left at x : ℕ) : Type 0 where
  pub within : x ≤ 16
  pub is_left : left ≡ mask_of (drop x ws)
  pub low : out ≤ at
  pub ends : at + 4 * filled (drop x ws) ≡ out + 4 * filled ws
  pub outside : Outside s t out at
  pub on : (u : List ℕ) (e : ℕ) → take at u ≡ take at t → WordsAt u at e left (drop x ws) → WordsAt u out e mask ws

module _ (s : List ℕ) (out : ℕ) (ws : List ℕ) (mask : ℕ) (sized : length ws ≡ 16) (is_mask : mask ≡ mask_of ws) where
  pub row_start : RowSoFar s s out ws mask mask out 0
  row_start = record { within = omega arith; is_left = is_mask; low = omega arith; ends = refl; outside = outside_none s out; on = λ u e k h. h }

  module _ (t : List ℕ) (left at x : ℕ) (h : RowSoFar s t out ws mask left at x) where
    pub row_end : left ≤ 0 → (n : ℕ) → n ≡ filled ws → WordsAt t out (out + 4 * n) mask ws × Outside s t out (out + 4 * n)
    row_end l n d =
        let z : left ≡ 0 = omega arith in
        let f = filled_none (drop x ws) (sym h.is_left ∙ z) in
        let e : at ≡ out + 4 * n = omega (arith, h.ends) in
        subst (λ (k : ℕ). WordsAt t out k mask ws × Outside s t out k) e
        (h.on t at refl (subst (λ (m : ℕ). WordsAt t at at m (drop x ws)) (sym z) (words_none t at (drop x ws))), h.outside)

    pub row_in : 0 < left → x < 16
    row_in l = go (16 - x) refl
      where
        go : (d : ℕ) → 16 - x ≡ d → x < 16
        go zero e =
            let k : drop x ws ≡ [] = drop_of_length-le ws {i = x} (omega (arith, h.within)) in
            absurd (omega (arith, h.is_left, ap mask_of k, mask_nil))
        go (suc d) e = omega arith

    module _ (l : 0 < left) where
      at_x : drop x ws ≡ get_or ws x 0 ∷ drop (x + 1) ws
      at_x = drop-cons ws x 0 (omega (arith, row_in l)) ∙ ap (λ (n : ℕ). get_or ws x 0 ∷ drop n ws) (sym (add-one x))

      half : left / 2 ≡ mask_of (drop (x + 1) ws)
      half = ap (λ (n : ℕ). n / 2) (h.is_left ∙ ap mask_of at_x) ∙ mask_half (get_or ws x 0) (drop (x + 1) ws)

      low_bit : left % 2 ≡ bit (get_or ws x 0)
      low_bit = ap (λ (n : ℕ). n % 2) (h.is_left ∙ ap mask_of at_x) ∙ mask_low (get_or ws x 0) (drop (x + 1) ws)

      pub row_room : left % 2 ≡ 1 → at + 4 ≤ out + 4 * filled ws
      row_room o = omega (arith, h.ends, ap filled at_x, filled_cons (get_or ws x 0) (drop (x + 1) ws), low_bit)

      pub row_some : left % 2 ≡ 1 → (u : List ℕ) (w : ℕ) → w ≡ get_or ws x 0 → at + 4 ≤ length t → u ≡ sets t at (four w) → RowSoFar s u out ws mask (left / 2) (at + 4) (x + 1)
      row_some o u n d room f = let e : u ≡ sets t at (four (get_or ws x 0)) = f ∙ ap (λ (m : ℕ). sets t at (four m)) d in record {
        within = omega (arith, row_in l);
        is_left = half;
        low = omega (arith, h.low);
        ends = omega (arith, h.ends, ap filled at_x, filled_cons (get_or ws x 0) (drop (x + 1) ws), low_bit);
        outside = outside_word s t u out at (get_or ws x 0) h.low room h.outside e;
        on = λ v k same w.
            let b : bits32 v at ≡ get_or ws x 0 = bits_kept u v (at + 4) at same (omega arith) ∙ ap (λ (y : List ℕ). bits32 y at) e ∙ bits_stored t at (get_or ws x 0) room in
            let same' : take at v ≡ take at t = sym (take-take at (at + 4) v (omega arith)) ∙ ap (take at) same ∙ take-take at (at + 4) u (omega arith) ∙ ap (take at) e ∙ take_sets (four (get_or ws x 0)) t at at (omega arith) in
            let od : odd left ≡ true = eq-eqb (left % 2) 1 o in
            h.on v k same' (subst (WordsAt v at k left) (sym at_x) (rw od (b, w)));
      }

      pub row-none : (left % 2 ≡ 1 → ⊥) → RowSoFar s t out ws mask (left / 2) at (x + 1)
      row-none o = record {
        within = omega (arith, row_in l);
        is_left = half;
        low = h.low;
        ends = omega (arith, h.ends, ap filled at_x, filled_cons (get_or ws x 0) (drop (x + 1) ws), low_bit, o);
        outside = h.outside;
        on = λ v k same w.
            let od : odd left ≡ false = ne_eqb (left % 2) 1 o in
            h.on v k same (subst (WordsAt v at k left) (sym at_x) (rw od (tt, w)));
      }

-- ---- as many rows as fit

pub record FillSoFar (s t : List ℕ) (to : ℕ) (rows order : List ℕ) (c : Cursor) (j out : ℕ) : Type 0 where
  pub low : c.from ≤ j
  pub high : j ≤ c.count
  pub place : out ≡ place_of to c j
  pub inside : out ≤ to + window
  pub outside : Outside s t to out
  pub each : (k : ℕ) → InWindow c k → k < j → WordsAt t (place_of to c k) (place_of to c k + 4 * c.width) c.names (row_words rows (get_or order k 0))

module _ (s : List ℕ) (to : ℕ) (rows order : List ℕ) (c : Cursor) (h : FillHeld s to rows order c) where
  pub fill_start : FillSoFar s s to rows order c c.from to
  fill_start =
      let z : c.from - c.from ≡ 0 = omega arith in
      record {
        low = omega arith;
        high = h.first;
        place = let e : c.width * (c.from - c.from) ≡ 0 = ap (λ (n : ℕ). c.width * n) z ∙ mul-zero c.width in omega (arith, e);
        inside = omega arith;
        outside = outside_none s to;
        each = λ k i l. absurd (omega (arith, i.low));
      }

  module _ (t : List ℕ) (j out : ℕ) (w : FillSoFar s t to rows order c j out) where
    step : c.width * (j + 1 - c.from) ≡ c.width * (j - c.from) + c.width
    step = let z : j + 1 - c.from ≡ suc (j - c.from) = omega (arith, w.low) in ap (λ (n : ℕ). c.width * n) z ∙ mul-suc c.width (j - c.from)

    pub fill_full : to + window < out + 4 * c.width → Filled s t to rows order c
    fill_full l = record {
      outside = outside_wider s t to out (to + window) w.inside w.outside;
      each = λ k i. w.each k i (below k i);
    }
      where
        below : (k : ℕ) → InWindow c k → k < j
        below k i = go (suc k - j) refl
          where
            go : (d : ℕ) → suc k - j ≡ d → k < j
            go zero e = omega arith
            go (suc d) e =
                let m = mul-le-mul_left {m = j - c.from} {n = k - c.from} c.width (omega (arith, w.low)) in
                absurd (omega (arith, m, i.fits, w.place))

    pub fill_end : c.count ≤ j → Filled s t to rows order c
    fill_end l = record {
      outside = outside_wider s t to out (to + window) w.inside w.outside;
      each = λ k i. w.each k i (omega (arith, i.below));
    }

    module _ (l : j < c.count) (m : out + 4 * c.width ≤ to + window) where
      pub put_asked : RowPuttable t out rows (get_or order j 0) c.names
      put_asked = record {
        held = record { low = h.row j l; wide = h.wide };
        is_mask = h.mask j l;
        room = omega (arith, h.width j l, h.room, w.outside.long);
      }

      pub fill_more : (u : List ℕ) → RowPut t u out rows (get_or order j 0) c.names → FillSoFar s u to rows order c (j + 1) (out + 4 * c.width)
      fill_more u p = record {
        low = omega (arith, w.low);
        high = omega arith;
        place = omega (arith, step, w.place);
        inside = m;
        outside = outside_then s t u to out (out + 4 * c.width) (omega (arith, w.place)) (omega arith) w.outside after;
        each = λ k i q. at k i q (ℕ_discrete k j);
      }
        where
          wd : c.width ≡ filled (row_words rows (get_or order j 0))
          wd = h.width j l

          after : Outside t u out (out + 4 * c.width)
          after = subst (λ (n : ℕ). Outside t u out (out + 4 * n)) (sym wd) p.outside

          at : (k : ℕ) → InWindow c k → k < j + 1 → Dec (k ≡ j) → WordsAt u (place_of to c k) (place_of to c k + 4 * c.width) c.names (row_words rows (get_or order k 0))
          at k i l (yes q) =
              subst (λ (n : ℕ). WordsAt u (place_of to c n) (place_of to c n + 4 * c.width) c.names (row_words rows (get_or order n 0))) (sym q)
              (subst (λ (n : ℕ). WordsAt u n (n + 4 * c.width) c.names (row_words rows (get_or order j 0))) w.place
              (subst (λ (n : ℕ). WordsAt u out (out + 4 * n) c.names (row_words rows (get_or order j 0))) (sym wd) p.words))
          at k i l (no q) =
              let b : k < j = omega (arith, q) in
              let y = mul-le-mul_left {m = suc (k - c.from)} {n = j - c.from} c.width (omega (arith, i.low)) in
              let x = mul-suc c.width (k - c.from) in
              words_kept t u out after.below (place_of to c k) (place_of to c k + 4 * c.width) c.names (row_words rows (get_or order k 0)) (omega (arith, y, x, w.place)) (w.each k i b)

-- ---- a plain name

pub record PowerSoFar (x i mask : ℕ) : Type 0 where
  pub within : i ≤ x
  pub is : mask ≡ 2 ^ i

power_most : (d n : ℕ) → n + d ≡ 15 → 2 ^ n ≤ 32768
power_most zero n e = let z : n ≡ 15 = omega arith in rw z (omega arith)
power_most (suc d) n e = omega (arith, power_most d (suc n) (omega arith), pow-suc 2 n)

module _ (x : ℕ) (low : x < 16) where
  pub power_start : PowerSoFar x 0 1
  power_start = record { within = omega arith; is = refl }

  module _ (i mask : ℕ) (h : PowerSoFar x i mask) where
    pub power_low : mask ≤ 32768
    power_low = omega (arith, h.is, power_most (15 - i) i (omega (arith, h.within)))

    pub power_more : i < x → PowerSoFar x (i + 1) (mask * 2)
    power_more l = record { within = omega arith; is = let z = ap (λ (n : ℕ). 2 ^ n) (add-one i) in omega (arith, z, pow-suc 2 i, h.is) }

    pub power_end : x ≤ i → OneName x mask
    power_end l = let z : i ≡ x = omega (arith, h.within) in record { is = h.is ∙ ap (λ (n : ℕ). 2 ^ n) z; small = omega (arith, power_low) }

-- The members before a place are written.
pub record MembersSoFar (s t : List ℕ) (to from end at n : ℕ) : Type 0 where
  pub low : from + 4 * n ≤ at
  pub outside : Outside s t to (to + 4 * n)
  pub right : (vs : List Value) → ItemsAt (take to s) from end (items_of vs)
      → ItemsAt (take to s) at end (items_of (drop n vs)) × (n ≤ length vs) × ((k : ℕ) → k < n → MemberAt (take to s) t (to + 4 * k) (get_or vs k (boolean true)))

module _ (s : List ℕ) (to from end : ℕ) (h : MembersHeld s to from end) where
  pub members_start : MembersSoFar s s to from end from 0
  members_start = record {
    low = omega arith;
    outside = subst (Outside s s to) (omega arith) (outside_none s to);
    right = λ vs i. (i, omega arith, λ k l. absurd (omega arith));
  }

  module _ (t : List ℕ) (at n : ℕ) (w : MembersSoFar s t to from end at n) where
    some_values : (vs : List Value) × ItemsAt (take to s) from end (items_of vs)
    some_values = (list_of h.items.0, subst (ItemsAt (take to s) from end) (sym (items_list h.items.0)) h.items.1)

    pub end_low : end ≤ from + 512
    end_low = omega (arith, h.items.1.ends, h.items.1.short)

    low_to : to ≤ length s
    low_to = omega (arith, h.room)

    taken : length (take to s) ≡ to
    taken = length-take-le to s low_to

    pub end_inside : end ≤ to
    end_inside = omega (arith, h.items.1.fits, taken)

    same : take to t ≡ take to (take to s)
    same = w.outside.below ∙ sym (take-take to to s (omega arith))

    module _ (l : at < end) where
      first : (vs : List Value) (i : ItemsAt (take to s) from end (items_of vs)) → (v : Value) × (us : List Value) × (drop n vs ≡ v ∷ us) × At (take to s) at v × ItemsAt (take to s) (at + word (take to s) at) end (items_of us) × (at + word (take to s) at ≤ end)
      first vs i =
          let f = first-of (take to s) at end (drop n vs) l (w.right vs i).0 in
          (f.first, f.others, f.is, f.first-at, f.others_at, f.inside)

      moved : (v : Value) → At (take to s) at v → At t at v
      moved v a = kept {base = to} same (omega (arith, w.outside.long, low_to)) (omega (arith, a.fits, taken)) a

      pub member_holds : Holds t at
      member_holds = let (vs, i) = some_values in let f = first vs i in holds (moved f.0 f.3)

      word_same : (v : Value) → At (take to s) at v → word t at ≡ word (take to s) at
      word_same v a = word_size (moved v a) ∙ sym (word_size a)

      pub member_inside : (at + word t at ≤ end) × (4 ≤ word t at)
      member_inside =
          let (vs, i) = some_values in
          let f = first vs i in
          let e = word_same f.0 f.3 in
          (omega (arith, e, f.5), member_holds.low)

      pub members_more : (u : List ℕ) (k : ℕ) → k ≡ word t at → u ≡ sets t (to + 4 * n) (four (1 + 4 * at)) → MembersSoFar s u to from end (at + k) (n + 1)
      members_more u k q e = record {
        low = omega (arith, w.low, member_inside.1, q);
        outside = subst (Outside s u to) (omega arith) (outside_word s t u to (to + 4 * n) (1 + 4 * at) (omega arith) room w.outside e);
        right = λ vs i.
            let f = first vs i in
            let wd = word_same f.0 f.3 in
            let ln : n < length vs = longer n vs f.0 f.1 f.2 in
            let d : drop (n + 1) vs ≡ f.1 = ap (λ (y : ℕ). drop y vs) (add-one n) ∙ tail n vs f.0 f.1 f.2 in (
              subst (λ (us : List Value). ItemsAt (take to s) (at + k) end (items_of us)) (sym d) (subst (λ (y : ℕ). ItemsAt (take to s) (at + y) end (items_of f.1)) (sym (q ∙ wd)) f.4),
              omega (arith, ln),
              λ j m. here vs i j m (ℕ_discrete j n),
            );
      }
        where
          room : to + 4 * n + 4 ≤ length t
          room = omega (arith, w.low, end_low, h.room, w.outside.long, member_inside.0, member_inside.1)

          longer : (n : ℕ) (vs : List Value) (v : Value) (us : List Value) → drop n vs ≡ v ∷ us → n < length vs
          longer n vs v us e = go (suc (length vs) - (n + 1)) refl
            where
              go : (d : ℕ) → suc (length vs) - (n + 1) ≡ d → n < length vs
              go zero z = let y : drop n vs ≡ [] = drop_of_length-le vs {i = n} (omega arith) in impossible cc
              go (suc d) z = omega arith

          tail : (n : ℕ) (vs : List Value) (v : Value) (us : List Value) → drop n vs ≡ v ∷ us → drop (suc n) vs ≡ us
          tail n vs v us e = let y = drop-cons vs n (boolean true) (longer n vs v us e) in cc

          head : (n : ℕ) (vs : List Value) (v : Value) (us : List Value) → drop n vs ≡ v ∷ us → get_or vs n (boolean true) ≡ v
          head n vs v us e = let y = drop-cons vs n (boolean true) (longer n vs v us e) in cc

          here : (vs : List Value) (i : ItemsAt (take to s) from end (items_of vs)) (j : ℕ) → j < n + 1 → Dec (j ≡ n) → MemberAt (take to s) u (to + 4 * j) (get_or vs j (boolean true))
          here vs i j m (yes z) =
              let f = first vs i in
              record {
                place = at;
                low = omega (arith, f.3.fits, taken, h.short, low_to);
                word-is = ap (λ (y : ℕ). bits32 u (to + 4 * y)) z ∙ ap (λ (y : List ℕ). bits32 y (to + 4 * n)) e ∙ bits_stored t (to + 4 * n) (1 + 4 * at) room;
                here = subst (At (take to s) at) (sym (ap (λ (y : ℕ). get_or vs y (boolean true)) z ∙ head n vs f.0 f.1 f.2)) f.3;
              }
          here vs i j m (no z) =
              let o = (w.right vs i).2 j (omega (arith, z)) in
              let b : take (to + 4 * n) u ≡ take (to + 4 * n) t = ap (take (to + 4 * n)) e ∙ take_sets (four (1 + 4 * at)) t (to + 4 * n) (to + 4 * n) (omega arith) in
              record { place = o.place; low = o.low; word-is = bits_kept t u (to + 4 * n) (to + 4 * j) b (omega (arith, z)) ∙ o.word-is; here = o.here }

    pub members_end : end ≤ at → MembersPut s t to from end n
    members_end l = record {
      outside = outside_wider s t to (to + 4 * n) (to + window) (omega (arith, bound)) w.outside;
      few = omega (arith, bound);
      right = λ vs i.
          let o = w.right vs i in
          let e = none_left (take to s) at end (drop n vs) l o.0 in
          (omega (arith, o.1, ap length e, length-drop n vs), o.2);
    }
      where
        bound : 4 * n ≤ 512
        bound =
            let (vs, i) = some_values in
            omega (arith, w.low, end_low, (w.right vs i).0.ends)
