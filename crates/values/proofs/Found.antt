-- From bytes to a value: where the bytes are those of a record some value's record stands, and nowhere else.
use mathlib.Core.Path.{◌≡◌, refl, sym, ap, ap₂, subst, ◌∙◌}
use mathlib.Core.Bool.{Bool, true, false}
use mathlib.Core.List.{List, [], ◌∷◌, ◌++◌}
use Prim.Native.Nat.{ℕ, zero, suc, ◌+◌, ◌≤◌, ◌<◌}
use native.Mathlib.Omega.{arith}
use lib.Dec.{eqb, ltb}
use lib.IntN.{ℤ}
use lib.ListN.{length, get_or, take, drop}
use lib.Seq.{drop-cons, take-add, drop-drop}
use mir.Syntax.{w8}
use mir.Val.{Fits}
use Rattle.integers.specs.Bytes.{word, pair, bits32, integer_bytes, integer_at, IsWord}
use Rattle.integers.proofs.Written.{pair_word, four_integer, bits_range, bits32_low, word_low}
use Rattle.values.specs.Value.{Kind, number, boolean, integer, quote, collection, Items, more, size, byte_of, encode, Shaped, value_limit}
use Rattle.values.specs.Place.{At, ItemsAt, Holds, HoldsItems}
use Rattle.values.specs.Contract.{heading}
use Rattle.values.proofs.Written.{collection_at}
use Rattle.values.proofs.Records.{holds, word_size, word_kind, boolean_at, is_boolean, is_integer, is_quote, held_as, is_collection, items_to, holds_items, no_items, more_of, uncons_of, one_list, well_formed_boolean, well_formed_integer, well_formed_quote, collection_shaped}
use Rattle.values.specs.Validity.{Tells, Span, Inside, Boolean, TellsItems, ItemsShapedAs}
use Rattle.values.proofs.Telling.{tells_true, tells_false, tells_of, told_false, tells_equal, tells_less}

-- ---- the bytes of records

module _ (s : List ℕ) (bytes : (i : ℕ) → Fits w8 (get_or s i 0)) where
  low : (i : ℕ) → get_or s i 0 < 256
  low i = (bytes i).fits

  one_byte : (at n : ℕ) → at < length s → take (suc n) (drop at s) ≡ get_or s at 0 ∷ take n (drop (suc at) s)
  one_byte at n h = ap (take (suc n)) (drop-cons s at 0 h)

  -- four bytes are two words
  four_bytes : (at : ℕ) → at + 4 ≤ length s → take 4 (drop at s) ≡ heading (word s at) (word s (at + 2))
  four_bytes at h =
      take-add 2 2 (drop at s)
      ∙ ap₂ ◌++◌ (pair_word s low at (omega arith)) (ap (take 2) (drop-drop 2 at s) ∙ pair_word s low (at + 2) (omega arith))

  -- a heading, and then m bytes
  headed_by : (at m : ℕ) (bs : List ℕ) → at + 4 ≤ length s → take m (drop (at + 4) s) ≡ bs → take (4 + m) (drop at s) ≡ heading (word s at) (word s (at + 2)) ++ bs
  headed_by at m bs h e = take-add 4 m (drop at s) ∙ ap₂ ◌++◌ (four_bytes at h) (ap (take m) (drop-drop 4 at s) ∙ e)

  bool_of : (n : ℕ) → n < 2 → (b : Bool) × (byte_of b ≡ n)
  bool_of zero h = (false, refl)
  bool_of (suc zero) h = (true, refl)
  bool_of (suc (suc n)) h = let z : ⊥ = omega arith in absurd z

  found_boolean : (at : ℕ) → at + 5 ≤ length s → word s at ≡ 5 → word s (at + 2) ≡ 1 → get_or s (at + 4) 0 < 2 → Holds s at
  unfolding size encode
  found_boolean at h n k lt =
      let (b, e) = bool_of (get_or s (at + 4) 0) lt in
      holds {v = boolean b} (record {
        fits = h;
        fine = well_formed_boolean b;
        bytes =
            headed_by at 1 (byte_of b ∷ []) (omega arith) (one_byte (at + 4) 0 (omega arith) ∙ ap (λ (x : ℕ). x ∷ []) (sym e))
            ∙ ap₂ (λ (x y : ℕ). heading x y ++ (byte_of b ∷ [])) n k;
      })

  found_integer : (at : ℕ) → at + 8 ≤ length s → word s at ≡ 8 → word s (at + 2) ≡ 2 → Holds s at
  unfolding size encode
  found_integer at h n k =
      let z : ℤ = integer_at s (at + 4) in
      holds {v = integer z} (record {
        fits = h;
        fine = well_formed_integer (bits_range (bits32 s (at + 4)) (bits32_low s low (at + 4)));
        bytes = headed_by at 4 (integer_bytes z) (omega arith) (four_integer s low (at + 4) (omega arith)) ∙ ap₂ (λ (i j : ℕ). heading i j ++ integer_bytes z) n k;
      })

  found_quote : (at : ℕ) → at + 6 ≤ length s → word s at ≡ 6 → word s (at + 2) ≡ 7 → Holds s at
  unfolding size encode
  found_quote at h n k =
      let x : ℕ = word s (at + 4) in
      holds {v = quote x} (record {
        fits = h;
        fine = well_formed_quote (word_low s low (at + 4));
        bytes = headed_by at 2 (pair x) (omega arith) (pair_word s low (at + 4) (omega arith)) ∙ ap₂ (λ (i j : ℕ). heading i j ++ pair x) n k;
      })

  found_collection : (at n : ℕ) (k : Kind) (vs : Items) → n ≡ word s at → word s (at + 2) ≡ number k → n ≤ value_limit → Shaped k vs → ItemsAt s (at + 4) (at + n) vs → Holds s at
  found_collection at n k vs en ek short shaped h =
      let f = h.ends in
      let g = h.fits in
      holds {v = collection k vs} (collection_at {s = s} {at = at} {k = k} {vs = vs} n (four_bytes at (omega arith) ∙ ap₂ heading (sym en) ek) refl short shaped h)

-- ---- what a record's kind says of its length

boolean_size : {s : List ℕ} {at : ℕ} → Holds s at → word s (at + 2) ≡ 1 → (word s at ≡ 5) × (get_or s (at + 4) 0 < 2)
unfolding size
boolean_size {s} {at} h k =
    let (b, a) = held_as boolean is_boolean h k in
    (word_size a, subst (λ (n : ℕ). n < 2) (sym (boolean_at a)) (low b))
  where
    low : (b : Bool) → byte_of b < 2
    low true = omega arith
    low false = omega arith

integer_size : {s : List ℕ} {at : ℕ} → Holds s at → word s (at + 2) ≡ 2 → word s at ≡ 8
unfolding size
integer_size h k = word_size (held_as integer is_integer h k).1

quote_size : {s : List ℕ} {at : ℕ} → Holds s at → word s (at + 2) ≡ 7 → word s at ≡ 6
unfolding size
quote_size h k = word_size (held_as quote is_quote h k).1

-- ---- a boolean

pub boolean_long : {s : List ℕ} {at n : ℕ} → Boolean s at n → (n ≡ 5 → ⊥) → Tells (Inside s at (at + n)) false
boolean_long b f = tells_false (λ x. f (b.len ∙ (boolean_size x.held b.kind).0))

pub boolean_told : {s : List ℕ} → ((i : ℕ) → Fits w8 (get_or s i 0)) → {at n : ℕ} → Boolean s at n → n ≡ 5 → Tells (Inside s at (at + n)) (ltb (get_or s (at + 4) 0) 2)
boolean_told {s} bytes {at} {n} b e =
    let f = b.fits in
    let g = b.len in
    tells_of (λ l. record { held = found_boolean s bytes at (omega arith) (omega arith) b.kind l; ends = omega arith }) (λ x. (boolean_size x.held b.kind).1)
    (tells_less (get_or s (at + 4) 0) 2)

-- ---- any value, by its heading

-- n is the length that the heading at a place gives, and it reaches no farther than `to`
pub record Headed (s : List ℕ) (at to n : ℕ) : Type 0 where
  pub span : Span s at to
  pub len : n ≡ word s at
  pub low : 4 ≤ n
  pub inside : at + n ≤ to

-- a record ends where its heading says
pub ends_there : {s : List ℕ} {at to n : ℕ} {r : Bool} → Headed s at to n → Tells (Inside s at (at + n)) r → Tells (Inside s at to) r
ends_there h t =
    let e = h.len in
    let f = h.inside in
    tells_of (λ x. record { held = x.held; ends = omega (arith, x.ends) }) (λ x. record { held = x.held; ends = omega arith }) t

module _ {s : List ℕ} (bytes : (i : ℕ) → Fits w8 (get_or s i 0)) {at to n : ℕ} (h : Headed s at to n) where
  -- of a kind whose records have one length, and any bytes after their heading
  fixed_told : (kind size : ℕ) → (at + size ≤ length s → word s at ≡ size → word s (at + 2) ≡ kind → Holds s at) → (Holds s at → word s (at + 2) ≡ kind → word s at ≡ size)
      → {k : ℕ} → IsWord s (at + 2) k → k ≡ kind → Tells (Inside s at to) (eqb n size)
  fixed_told kind size found sized k e =
      let f = h.inside in
      let g = h.len in
      let l = h.span.fits in
      let is : word s (at + 2) ≡ kind = sym k.is ∙ e in
      tells_of (λ d. record { held = found (omega arith) (omega arith) is; ends = omega arith }) (λ x. g ∙ sized x.held is) (tells_equal n size)

  pub integer_told : {k : ℕ} → IsWord s (at + 2) k → k ≡ 2 → Tells (Inside s at to) (eqb n 8)
  integer_told = fixed_told 2 8 (found_integer s bytes at) integer_size

  pub quote_told : {k : ℕ} → IsWord s (at + 2) k → k ≡ 7 → Tells (Inside s at to) (eqb n 6)
  quote_told = fixed_told 7 6 (found_quote s bytes at) quote_size

  pub collection_told : {k : ℕ} {r : Bool} → IsWord s (at + 2) k → (k ≡ 1 → ⊥) → (k ≡ 2 → ⊥) → (k ≡ 7 → ⊥) → HoldsItems s (at + 4) (at + n) → TellsItems (ItemsShapedAs k) s (at + 4) (at + n) r → Tells (Inside s at to) r
  collection_told {k} k-is not1 not2 not7 (vs, items) t =
      let f = h.inside in
      let g = h.len in
      let o = h.span.short in
      tells_of (λ x. record { held = found_collection s bytes at n x.0 vs g (sym k-is.is ∙ x.1) (omega arith) x.2 items; ends = omega arith }) back (t vs items)
    where
      back : Inside s at to → ItemsShapedAs k vs
      back x =
          let y = x.held.here in
          let kind = word_kind y in
          let i = k-is.is in
          let (l, ws, d) = is_collection x.held.value (λ e. not1 (i ∙ kind ∙ e)) (λ e. not2 (i ∙ kind ∙ e)) (λ e. not7 (i ∙ kind ∙ e)) in
          let a : At s at (collection l ws) = subst (At s at) d y in
          let same : ws ≡ vs = one_list (items_to h.len a) items in
          (l, i ∙ word_kind a, subst (Shaped l) same (collection_shaped a.fine))

  pub items_missing : {k : ℕ} {r : Bool} → IsWord s (at + 2) k → (k ≡ 1 → ⊥) → (k ≡ 2 → ⊥) → (k ≡ 7 → ⊥) → Tells (HoldsItems s (at + 4) (at + n)) r → r ≡ false → Tells (Inside s at to) false
  items_missing k-is not1 not2 not7 t e =
      tells_false (λ x. told_false t e (holds_items h.len x.held (λ d. not1 (k-is.is ∙ d)) (λ d. not2 (k-is.is ∙ d)) (λ d. not7 (k-is.is ∙ d))))

-- ---- items

pub items_end : {s : List ℕ} {at to : ℕ} → Span s at to → at ≡ to → Tells (HoldsItems s at to) true
items_end {s} {at} {to} p e =
    let f = p.fits in
    tells_true (subst (λ (m : ℕ). HoldsItems s at m) e (_, no_items s at (omega arith)))

pub items_told : {s : List ℕ} {at to n : ℕ} {r : Bool} → Span s at to → (at ≡ to → ⊥) → Inside s at to → IsWord s at n → Tells (HoldsItems s (at + n) to) r → Tells (HoldsItems s at to) r
items_told {s} {at} {to} {n} p f x w t =
    tells_of join part t
  where
    a : At s at x.held.value
    a = x.held.here

    join : HoldsItems s (at + n) to → HoldsItems s at to
    join (vs, h) =
        let e : n ≡ size x.held.value = w.is ∙ word_size a in
        let g = h.ends in
        let o = p.short in
        (more x.held.value vs, more_of a (subst (λ (m : ℕ). ItemsAt s (at + m) to vs) e h) (omega arith))

    part : HoldsItems s at to → HoldsItems s (at + n) to
    part (vs, h) = let y = uncons_of f h in (y.rest, subst (λ (m : ℕ). ItemsAt s (at + m) to y.rest) (sym w.is) y.rest_at)

pub items_first : {s : List ℕ} {at to : ℕ} {r : Bool} → (at ≡ to → ⊥) → Tells (Inside s at to) r → r ≡ false → Tells (HoldsItems s at to) false
items_first f t e = tells_false (λ h. let y = uncons_of f h.1 in told_false t e (record { held = holds y.first-at; ends = y.inside }))
