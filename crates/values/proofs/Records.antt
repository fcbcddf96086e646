-- What a record that stands in a slice says: of the bytes there, of the records within it, and that it is one value's only.
use mathlib.Core.Path.{◌≡◌, refl, sym, ap, ap₂, subst, ◌∙◌}
use mathlib.Core.Bool.{Bool}
use mathlib.Core.List.{List, [], ◌∷◌, ◌++◌}
use Prim.Native.Nat.{ℕ, ◌+◌, ◌*◌, ◌/◌, ◌%◌, ◌≤◌, ◌<◌}
use native.Mathlib.Nat.{add-zero}
use native.Mathlib.Omega.{arith}
use lib.IntN.{ℤ}
use lib.ListN.{length, get_or, take, drop, length-drop}
use lib.Seq.{take-add, drop-drop, take_at, drop_at, get_or-take, get_or-drop, length-take-le}
use Rattle.integers.specs.Bytes.{bits_of, word, bits32, of_bits, integer_at}
use Rattle.integers.specs.Whole.{InRange}
use Rattle.integers.proofs.Range.{range_fits}
use Rattle.integers.proofs.Written.{integer_bits}
use Rattle.values.specs.Value.{Kind, number, Value, boolean, integer, quote, collection, Items, none, more, kind_of, size, sizes, byte_of, encode, encode_items, Shaped, Sound, SoundItems, WellFormed, value_limit}
use Rattle.values.specs.Items.{join, snoc}
use Rattle.values.specs.Place.{At, ItemsAt, Holds, HoldsItems}
use Rattle.values.proofs.Order.{number_low, number_high}
use Rattle.values.proofs.Encoding.{encode_length, encode_items_length, size_low, encode_head, head_word, kind_word, pair_back, join_sizes, join_encode, join_sound, sound_join, encode_injective, encode_items_injective}

-- ---- well-formed parts

pub collection_shaped : {k : Kind} {vs : Items} → WellFormed (collection k vs) → Shaped k vs
unfolding Sound
collection_shaped f = f.sound.0

pub collection_sound : {k : Kind} {vs : Items} → WellFormed (collection k vs) → SoundItems vs
unfolding Sound
collection_sound f = f.sound.1

pub well_formed_collection : {k : Kind} {vs : Items} → Shaped k vs → SoundItems vs → 4 + sizes vs ≤ value_limit → WellFormed (collection k vs)
unfolding Sound size
well_formed_collection f g h = record { sound = (f, g); short = h }

pub well_formed_boolean : (b : Bool) → WellFormed (boolean b)
unfolding Sound size
well_formed_boolean b = record { sound = tt; short = omega arith }

pub well_formed_integer : {z : ℤ} → InRange z → WellFormed (integer z)
unfolding Sound size
well_formed_integer f = record { sound = f; short = omega arith }

pub integer_range : {z : ℤ} → WellFormed (integer z) → InRange z
unfolding Sound
integer_range f = f.sound

pub well_formed_quote : {n : ℕ} → n < 65536 → WellFormed (quote n)
unfolding Sound size
well_formed_quote f = record { sound = f; short = omega arith }

pub quote_range : {n : ℕ} → WellFormed (quote n) → n < 65536
unfolding Sound
quote_range f = f.sound

-- ---- a part of a list that is two lists

split : (n m : ℕ) (l x y : List ℕ) → n ≤ length l → length x ≡ n → take (n + m) l ≡ x ++ y → (take n l ≡ x) × (take m (drop n l) ≡ y)
split n m l x y h lx e =
    let p : take n l ++ take m (drop n l) ≡ x ++ y = sym (take-add n m l) ∙ e in
    let q = length-take-le n l h in (
      sym (take_at (take n l) (take m (drop n l)) n q) ∙ ap (take n) p ∙ take_at x y n lx,
      sym (drop_at (take n l) (take m (drop n l)) n q) ∙ ap (drop n) p ∙ drop_at x y n lx,
    )

-- ---- the bytes of a record

pub byte_at : {s : List ℕ} {at : ℕ} {v : Value} → At s at v → (k : ℕ) → k < size v → get_or s (at + k) 0 ≡ get_or (encode v) k 0
byte_at {s} {at} {v} h k lt =
    sym (get_or-drop at s k 0) ∙ sym (get_or-take (size v) (drop at s) k 0 lt) ∙ ap (λ (l : List ℕ). get_or l k 0) h.bytes

word_at : {s : List ℕ} {at : ℕ} {v : Value} → At s at v → (k : ℕ) → k + 2 ≤ size v → word s (at + k) ≡ word (encode v) k
word_at {s} {at} {v} h k lt =
    let next : at + k + 1 ≡ at + (k + 1) = omega arith in
    ap₂ (λ (x y : ℕ). x + 256 * y) (byte_at h k (omega arith)) (ap (λ (i : ℕ). get_or s i 0) next ∙ byte_at h (k + 1) (omega arith))

-- the first word is the size, the second the kind
pub word_size : {s : List ℕ} {at : ℕ} {v : Value} → At s at v → word s at ≡ size v
word_size {s} {at} {v} h =
    let (l, e) = encode_head v in
    ap (word s) (sym (add-zero at)) ∙ word_at h 0 (omega (arith, size_low v)) ∙ ap (λ (l : List ℕ). word l 0) e ∙ head_word (size v) (kind_of v) l

pub word_kind : {s : List ℕ} {at : ℕ} {v : Value} → At s at v → word s (at + 2) ≡ kind_of v
word_kind {s} {at} {v} h =
    let (l, e) = encode_head v in
    word_at h 2 (omega (arith, size_low v)) ∙ ap (λ (l : List ℕ). word l 2) e ∙ kind_word (size v) (kind_of v) l

-- with what code needs to know of its length
pub holds : {s : List ℕ} {at : ℕ} {v : Value} → At s at v → Holds s at
holds {s} {at} {v} h =
    let e = word_size h in
    let f = h.fits in
    let g = h.fine.short in
    record { value = v; here = h; low = omega (arith, size_low v); high = omega arith; whole = omega arith }

pub boolean_at : {s : List ℕ} {at : ℕ} {b : Bool} → At s at (boolean b) → get_or s (at + 4) 0 ≡ byte_of b
unfolding size encode
boolean_at h = byte_at h 4 (omega arith)

bits_at : {s : List ℕ} {at : ℕ} {z : ℤ} → At s at (integer z) → bits32 s (at + 4) ≡ bits_of z
unfolding size encode
bits_at {s} {at} {z} h =
    let n = bits_of z in
    let low : word s (at + 4) ≡ n % 65536 % 256 + 256 * (n % 65536 / 256) = word_at h 4 (omega arith) in
    let high : word s (at + 4 + 2) ≡ n / 65536 % 256 + 256 * (n / 65536 / 256) = ap (word s) (omega arith) ∙ word_at h 6 (omega arith) in
    omega arith

pub integer_at_lem : {s : List ℕ} {at : ℕ} {z : ℤ} → At s at (integer z) → integer_at s (at + 4) ≡ z
integer_at_lem {s} {at} {z} h = ap of_bits (bits_at h) ∙ integer_bits (range_fits z (integer_range h.fine))

pub quote_at : {s : List ℕ} {at n : ℕ} → At s at (quote n) → word s (at + 4) ≡ n
unfolding size encode
quote_at {n = n} h = word_at h 4 (omega arith) ∙ pair_back n 6 7 []

-- ---- the kind tells the value

-- a value of kind 1 is a boolean, of kind 2 an integer, of kind 7 a quote, of any other a collection
pub is_boolean : (v : Value) → kind_of v ≡ 1 → (b : Bool) × (v ≡ boolean b)
is_boolean (boolean b) e = (b, refl)
is_boolean (integer z) e = absurd (omega arith)
is_boolean (quote n) e = absurd (omega arith)
is_boolean (collection k vs) e = absurd (omega (arith, number_low k))

pub is_integer : (v : Value) → kind_of v ≡ 2 → (z : ℤ) × (v ≡ integer z)
is_integer (boolean b) e = absurd (omega arith)
is_integer (integer z) e = (z, refl)
is_integer (quote n) e = absurd (omega arith)
is_integer (collection k vs) e = absurd (omega (arith, number_low k))

pub is_quote : (v : Value) → kind_of v ≡ 7 → (n : ℕ) × (v ≡ quote n)
is_quote (boolean b) e = absurd (omega arith)
is_quote (integer z) e = absurd (omega arith)
is_quote (quote n) e = (n, refl)
is_quote (collection k vs) e = absurd (omega (arith, number_high k))

pub is_collection : (v : Value) → (kind_of v ≡ 1 → ⊥) → (kind_of v ≡ 2 → ⊥) → (kind_of v ≡ 7 → ⊥) → (k : Kind) × (vs : Items) × (v ≡ collection k vs)
is_collection (boolean b) f g i = absurd (f refl)
is_collection (integer z) f g i = absurd (g refl)
is_collection (quote n) f g i = absurd (i refl)
is_collection (collection k vs) f g i = (k, vs, refl)

-- what stands at a place, by its kind
pub held_as : {A : Type 0} {k : ℕ} (make : A → Value) → ((v : Value) → kind_of v ≡ k → (x : A) × (v ≡ make x)) → {s : List ℕ} {at : ℕ} → Holds s at → word s (at + 2) ≡ k → (x : A) × At s at (make x)
held_as make is {s} {at} h e = let (x, d) = is h.value (sym (word_kind h.here) ∙ e) in (x, subst (At s at) d h.here)

-- ---- the records within

pub items-of : {s : List ℕ} {at : ℕ} {k : Kind} {vs : Items} → At s at (collection k vs) → ItemsAt s (at + 4) (at + size (collection k vs)) vs
unfolding size encode Sound
items-of {s} {at} {k} {vs} h =
    let n = 4 + sizes vs in
    let x : List ℕ = n % 256 ∷ n / 256 ∷ number k % 256 ∷ number k / 256 ∷ [] in
    let f : at + n ≤ length s = h.fits in
    let g : n ≤ value_limit = h.fine.short in
    let p = split 4 (sizes vs) (drop at s) x (encode_items vs) (simp length-drop (omega arith)) refl h.bytes in
    record { ends = omega arith; fits = h.fits; fine = h.fine.sound.1; short = omega arith; bytes = rw drop-drop at p.1 }

-- the same, up to the end that code computes
pub items_to : {s : List ℕ} {at : ℕ} {k : Kind} {vs : Items} {n : ℕ} → n ≡ word s at → At s at (collection k vs) → ItemsAt s (at + 4) (at + n) vs
items_to {s} {at} {k} {vs} e h = subst (λ (m : ℕ). ItemsAt s (at + 4) (at + m) vs) (sym (e ∙ word_size h)) (items-of h)

-- the items of whatever stands there, if it is a collection
pub holds_items : {s : List ℕ} {at n : ℕ} → n ≡ word s at → Holds s at → (word s (at + 2) ≡ 1 → ⊥) → (word s (at + 2) ≡ 2 → ⊥) → (word s (at + 2) ≡ 7 → ⊥) → HoldsItems s (at + 4) (at + n)
holds_items {s} {at} e r f g i =
    let h = r.here in
    let (k, vs, d) = is_collection r.value (λ p. f (word_kind h ∙ p)) (λ p. g (word_kind h ∙ p)) (λ p. i (word_kind h ∙ p)) in
    (vs, items_to e (subst (At s at) d h))

-- no items, and one item before others
pub no_items : (s : List ℕ) (at : ℕ) → at ≤ length s → ItemsAt s at at none
unfolding size encode Sound
no_items s at h = record { ends = omega arith; fits = h; fine = tt; short = omega arith; bytes = refl }

pub first-of : {s : List ℕ} {from to : ℕ} {v : Value} {vs : Items} → ItemsAt s from to (more v vs) → At s from v × ItemsAt s (from + size v) to vs
unfolding size encode Sound
first-of {s} {from} {to} {v} {vs} h =
    let e : from + (size v + sizes vs) ≡ to = h.ends in
    let f = h.fits in
    let g : size v + sizes vs ≤ value_limit = h.short in
    let p = split (size v) (sizes vs) (drop from s) (encode v) (encode_items vs) (simp length-drop (omega arith)) (encode_length v) h.bytes in (
      record { fits = omega arith; fine = record { sound = h.fine.0; short = omega arith }; bytes = p.0 },
      record { ends = omega arith; fits = f; fine = h.fine.1; short = omega arith; bytes = rw drop-drop at p.1 },
    )

pub more_of : {s : List ℕ} {from to : ℕ} {v : Value} {vs : Items} → At s from v → ItemsAt s (from + size v) to vs → size v + sizes vs ≤ value_limit → ItemsAt s from to (more v vs)
unfolding size encode Sound
more_of {s} {from} {to} {v} {vs} h x g =
    let e : from + size v + sizes vs ≡ to = x.ends in
    record {
      ends = omega arith;
      fits = x.fits;
      fine = (h.fine.sound, x.fine);
      short = g;
      bytes = take-add (size v) (sizes vs) (drop from s) ∙ ap₂ ◌++◌ h.bytes (ap (take (sizes vs)) (drop-drop (size v) from s) ∙ x.bytes);
    }

-- items of no bytes are none
pub items_none : {s : List ℕ} {from to : ℕ} {vs : Items} → to ≤ from → ItemsAt s from to vs → vs ≡ none
unfolding size
items_none {vs = none} e h = refl
items_none {from = from} {to = to} {vs = more v vs} e h =
    let f : from + (size v + sizes vs) ≡ to = h.ends in
    let z : ⊥ = omega (arith, size_low v) in
    absurd z

-- items of some bytes have a first one, which ends at the next place
pub record Uncons (s : List ℕ) (from to : ℕ) (vs : Items) : Type 0 where
  pub first : Value
  pub rest : Items
  pub is : vs ≡ more first rest
  pub first-at : At s from first
  pub rest_at : ItemsAt s (from + word s from) to rest
  pub low : 4 ≤ word s from
  pub high : word s from ≤ value_limit
  pub inside : from + word s from ≤ to

pub uncons : {s : List ℕ} {from to : ℕ} {vs : Items} → from < to → ItemsAt s from to vs → Uncons s from to vs
unfolding size
uncons {from = from} {to = to} {vs = none} lt h = let e : from + 0 ≡ to = h.ends in absurd (omega arith)
uncons {s = s} {from = from} {to = to} {vs = more v vs} lt h =
    let e : from + (size v + sizes vs) ≡ to = h.ends in
    let p = first-of h in
    let w = word_size p.0 in
    let g = p.0.fine.short in
    record {
      first = v;
      rest = vs;
      is = refl;
      first-at = p.0;
      rest_at = subst (λ (m : ℕ). ItemsAt s (from + m) to vs) (sym w) p.1;
      low = omega (arith, size_low v);
      high = omega arith;
      inside = omega arith;
    }

-- the same of a run that is not empty, however that is known
pub uncons_of : {s : List ℕ} {from to : ℕ} {vs : Items} → (from ≡ to → ⊥) → ItemsAt s from to vs → Uncons s from to vs
uncons_of {from = from} {to = to} {vs = vs} f h = let e : from + sizes vs ≡ to = h.ends in uncons (omega (arith, f)) h

-- some value is the first of items that are not none
pub first_held : {s : List ℕ} {from to : ℕ} → (from ≡ to → ⊥) → HoldsItems s from to → Holds s from
first_held f h = holds (uncons_of f h.1).first-at

-- ---- items joined

pub joined : {s : List ℕ} {from mid to : ℕ} {vs ws : Items} → ItemsAt s from mid vs → ItemsAt s mid to ws → sizes vs + sizes ws ≤ value_limit → ItemsAt s from to (join vs ws)
joined {s} {from} {mid} {to} {vs} {ws} h x g =
    let e = join_sizes vs ws in
    let f = h.ends in
    let d = x.ends in
    record {
      ends = omega arith;
      fits = x.fits;
      fine = join_sound vs ws h.fine x.fine;
      short = omega arith;
      bytes =
          ap (λ (n : ℕ). take n (drop from s)) e
          ∙ take-add (sizes vs) (sizes ws) (drop from s)
          ∙ ap₂ ◌++◌ h.bytes (ap (take (sizes ws)) (drop-drop (sizes vs) from s ∙ ap (λ (n : ℕ). drop n s) f) ∙ x.bytes)
          ∙ sym (join_encode vs ws);
    }

pub parted : {s : List ℕ} {from to : ℕ} (vs ws : Items) → ItemsAt s from to (join vs ws) → ItemsAt s from (from + sizes vs) vs × ItemsAt s (from + sizes vs) to ws
parted {s} {from} {to} vs ws h =
    let n = join_sizes vs ws in
    let e = h.ends in
    let f = h.fits in
    let g = h.short in
    let fine = sound_join vs ws h.fine in
    let b : take (sizes vs + sizes ws) (drop from s) ≡ encode_items vs ++ encode_items ws = ap (λ (m : ℕ). take m (drop from s)) (sym n) ∙ h.bytes ∙ join_encode vs ws in
    let p = split (sizes vs) (sizes ws) (drop from s) (encode_items vs) (encode_items ws) (simp length-drop (omega arith)) (encode_items_length vs) b in (
      record { ends = refl; fits = omega arith; fine = fine.0; short = omega arith; bytes = p.0 },
      record { ends = omega arith; fits = f; fine = fine.1; short = omega arith; bytes = rw drop-drop at p.1 },
    )

-- one item by itself, and one item after others
pub one-item : {s : List ℕ} {at : ℕ} {v : Value} → At s at v → ItemsAt s at (at + size v) (more v none)
unfolding size
one-item {s} {at} {v} h =
    let f = h.fits in
    let g = h.fine.short in
    more_of h (no_items s (at + size v) f) (omega arith)

pub one_more : {s : List ℕ} {from to : ℕ} {vs : Items} {w : Value} → ItemsAt s from to vs → At s to w → sizes vs + size w ≤ value_limit → ItemsAt s from (to + size w) (snoc vs w)
unfolding size
one_more h x g = joined h (one-item x) (omega arith)

-- ---- one value at one place

-- THEOREM: at one place stands one value
pub one_value : {s : List ℕ} {at : ℕ} {v w : Value} → At s at v → At s at w → v ≡ w
one_value {s} {at} {v} {w} h g =
    let e : size v ≡ size w = sym (word_size h) ∙ word_size g in
    encode_injective h.fine.sound g.fine.sound (sym h.bytes ∙ ap (λ (n : ℕ). take n (drop at s)) e ∙ g.bytes)

-- THEOREM: between two places stand one list of items
pub one_list : {s : List ℕ} {from to : ℕ} {vs ws : Items} → ItemsAt s from to vs → ItemsAt s from to ws → vs ≡ ws
one_list {s} {from} {to} {vs} {ws} h g =
    let f = h.ends in
    let d = g.ends in
    let e : sizes vs ≡ sizes ws = omega arith in
    encode_items_injective h.fine g.fine (sym h.bytes ∙ ap (λ (n : ℕ). take n (drop from s)) e ∙ g.bytes)
