-- Laws of the encoding: its length is the size, decoding gives back the value that was encoded, and two values have two encodings.
use mathlib.Core.Path.{◌≡◌, refl, sym, ap, ap₂, ◌∙◌}
use mathlib.Core.Bool.{Bool, true, false, cond}
use mathlib.Core.List.{List, [], ◌∷◌, ◌++◌, append_assoc, append-nil}
use mathlib.Core.Option.{Option, none as absent, some}
use Prim.Native.Nat.{ℕ, zero, suc, ◌+◌, ◌*◌, ◌-◌, ◌/◌, ◌%◌, ◌≤◌}
use native.Mathlib.Omega.{arith}
use lib.Dec.{eqb}
use lib.ListN.{length, get_or, take, drop, length-append}
use lib.Seq.{take_at, drop_at}
use borrow.Author.Tests.{eqb-true, eq-eqb}
use Rattle.integers.specs.Bytes.{pair, four, bits_of, word, of_bits, integer_at}
use Rattle.integers.proofs.Range.{range_fits}
use Rattle.integers.proofs.Written.{integer_bits}
use Rattle.values.specs.Value.{Kind, set, sequence, map, tuple, number, Value, boolean, integer, quote, collection, Items, none, more, kind_of, count, size, sizes, byte_of, headed, encode, encode_items, Sound, SoundItems}
use Rattle.values.specs.Items.{join, snoc}
use Rattle.values.proofs.Order.{collection_kind, collection_kind_lem}

-- ---- length

mutual
  unfolding size encode

  -- THEOREM: an encoding is as long as the value's size
  pub encode_length : (v : Value) → length (encode v) ≡ size v
  encode_length (boolean b) = refl
  encode_length (integer z) = refl
  encode_length (quote n) = refl
  encode_length (collection k vs) = let e = encode_items_length vs in omega arith

  pub encode_items_length : (vs : Items) → length (encode_items vs) ≡ sizes vs
  encode_items_length none = refl
  encode_items_length (more v vs) = length-append (encode v) (encode_items vs) ∙ ap₂ ◌+◌ (encode_length v) (encode_items_length vs)

pub size_low : (v : Value) → 4 ≤ size v
unfolding size
size_low (boolean b) = omega arith
size_low (integer z) = omega arith
size_low (quote n) = omega arith
size_low (collection k vs) = omega arith

-- a record starts with its size and its kind
pub encode_head : (v : Value) → (l : List ℕ) × (encode v ≡ headed (size v) (kind_of v) l)
unfolding size encode
encode_head (boolean b) = (byte_of b ∷ [], refl)
encode_head (integer z) = (four (bits_of z), refl)
encode_head (quote n) = (pair n, refl)
encode_head (collection k vs) = (encode_items vs, refl)

-- ---- the size of the parts

pub collection_size : (k : Kind) (vs : Items) → size (collection k vs) ≡ 4 + sizes vs
unfolding size
collection_size k vs = refl

pub none_sizes : sizes none ≡ 0
unfolding size
none_sizes = refl

pub more_sizes : (v : Value) (vs : Items) → sizes (more v vs) ≡ size v + sizes vs
unfolding size
more_sizes v vs = refl

-- each item takes four bytes or more
pub count_sizes : (vs : Items) → count vs + count vs + count vs + count vs ≤ sizes vs
unfolding size count
count_sizes none = omega arith
count_sizes (more v vs) = omega (arith, size_low v, count_sizes vs)

-- ---- items joined

pub join_sizes : (vs ws : Items) → sizes (join vs ws) ≡ sizes vs + sizes ws
unfolding join size
join_sizes none ws = omega arith
join_sizes (more v vs) ws = let e = join_sizes vs ws in omega arith

pub join_encode : (vs ws : Items) → encode_items (join vs ws) ≡ encode_items vs ++ encode_items ws
unfolding join encode
join_encode none ws = refl
join_encode (more v vs) ws = ap (λ (l : List ℕ). encode v ++ l) (join_encode vs ws) ∙ sym (append_assoc (encode v) (encode_items vs) (encode_items ws))

pub join_sound : (vs ws : Items) → SoundItems vs → SoundItems ws → SoundItems (join vs ws)
unfolding join Sound
join_sound none ws f g = g
join_sound (more v vs) ws f g = (f.0, join_sound vs ws f.1 g)

pub sound_join : (vs ws : Items) → SoundItems (join vs ws) → SoundItems vs × SoundItems ws
unfolding join Sound
sound_join none ws f = (tt, f)
sound_join (more v vs) ws f = let (g, h) = sound_join vs ws f.1 in ((f.0, g), h)

pub snoc_sizes : (vs : Items) (w : Value) → sizes (snoc vs w) ≡ sizes vs + size w
unfolding size
snoc_sizes vs w = let e = join_sizes vs (more w none) in omega arith

-- ---- decoding

-- The value whose record a list starts with, if it starts with one; the number bounds the depth.
unfoldable mutual
  pub value_of : ℕ → List ℕ → Value
  value_of zero l = boolean false
  value_of (suc n) l =
      cond (eqb (word l 2) 1) (boolean (eqb (get_or l 4 0) 1))
      (cond (eqb (word l 2) 2) (integer (integer_at l 4))
      (cond (eqb (word l 2) 7) (quote (word l 4))
      (collection (collection_kind (word l 2)) (items_of n (take (word l 0 - 4) (drop 4 l))))))

  items_of : ℕ → List ℕ → Items
  items_of zero l = none
  items_of (suc n) [] = none
  items_of (suc n) (b ∷ l) = more (value_of n (b ∷ l)) (items_of n (drop (word (b ∷ l) 0) (b ∷ l)))

pub bool_back : (b : Bool) → eqb (byte_of b) 1 ≡ b
bool_back true = refl
bool_back false = refl

kind_other : (k : Kind) → (eqb (number k) 1 ≡ false) × (eqb (number k) 2 ≡ false) × (eqb (number k) 7 ≡ false)
kind_other set = (refl, refl, refl)
kind_other sequence = (refl, refl, refl)
kind_other map = (refl, refl, refl)
kind_other tuple = (refl, refl, refl)

-- what stands at the start of a headed list
pub head_word : (n k : ℕ) (l : List ℕ) → word (headed n k l) 0 ≡ n
head_word n k l = omega arith

pub kind_word : (n k : ℕ) (l : List ℕ) → word (headed n k l) 2 ≡ k
kind_word n k l = omega arith

pub pair_back : (n m k : ℕ) (l : List ℕ) → word (headed m k (pair n ++ l)) 4 ≡ n
pair_back n m k l = omega arith

four_back : (n m k : ℕ) (l : List ℕ) → integer_at (headed m k (four n ++ l)) 4 ≡ of_bits n
four_back n m k l =
    let e : word (headed m k (four n ++ l)) 4 + 65536 * word (headed m k (four n ++ l)) 6 ≡ n = omega arith in
    ap of_bits e

-- a record has a first byte
not_empty : (v : Value) (l : List ℕ) (f : List ℕ → Items) (vs : Items) → ((b : ℕ) (r : List ℕ) → encode v ++ l ≡ b ∷ r → f (b ∷ r) ≡ vs) → f (encode v ++ l) ≡ vs
not_empty v l f vs g =
    let (r, e) = encode_head v in
    let d = ap (λ (x : List ℕ). x ++ l) e in
    ap f d ∙ g (size v % 256) (size v / 256 ∷ kind_of v % 256 ∷ kind_of v / 256 ∷ r ++ l) d

start_word : (v : Value) (l : List ℕ) → word (encode v ++ l) 0 ≡ size v
start_word v l =
    let (r, e) = encode_head v in
    ap (λ (x : List ℕ). word (x ++ l) 0) e ∙ head_word (size v) (kind_of v) (r ++ l)

mutual
  unfolding value_of size encode Sound

  pub value_back : (v : Value) (n : ℕ) (l : List ℕ) → Sound v → size v ≤ n → value_of n (encode v ++ l) ≡ v
  value_back (boolean b) zero l f h = let z : ⊥ = omega arith in absurd z
  value_back (integer i) zero l f h = let z : ⊥ = omega arith in absurd z
  value_back (quote i) zero l f h = let z : ⊥ = omega arith in absurd z
  value_back (collection k vs) zero l f h = let z : ⊥ = omega arith in absurd z
  value_back (boolean b) (suc n) l f h = ap boolean (bool_back b)
  value_back (integer i) (suc n) l f h = ap integer (four_back (bits_of i) 8 2 l ∙ integer_bits (range_fits i f))
  value_back (quote i) (suc n) l f h = ap quote (pair_back i 6 7 l)
  value_back (collection k vs) (suc n) l f h =
      let m : ℕ = 4 + sizes vs in
      let e : word (headed m (number k) (encode_items vs ++ l)) 0 - 4 ≡ sizes vs = omega arith in
      rw (kind_word m (number k) (encode_items vs ++ l), (kind_other k).0, (kind_other k).1, (kind_other k).2, collection_kind_lem k, e, take_at (encode_items vs) l (sizes vs) (encode_items_length vs))
      (ap (collection k) (items_back vs n f.1 (omega arith)))

  items_back : (vs : Items) (n : ℕ) → SoundItems vs → sizes vs + 1 ≤ n → items_of n (encode_items vs) ≡ vs
  items_back none zero f h = refl
  items_back none (suc n) f h = refl
  items_back (more v vs) zero f h = let z : ⊥ = omega arith in absurd z
  items_back (more v vs) (suc n) f h =
      not_empty v (encode_items vs) (items_of (suc n)) (more v vs)
      (λ b r e.
      let low = size_low v in
      let d : drop (word (b ∷ r) 0) (b ∷ r) ≡ encode_items vs =
      ap₂ drop (ap (λ (x : List ℕ). word x 0) (sym e) ∙ start_word v (encode_items vs)) (sym e) ∙ drop_at (encode v) (encode_items vs) (size v) (encode_length v) in
      ap₂ more (ap (value_of n) (sym e) ∙ value_back v n (encode_items vs) f.0 (omega arith)) (ap (items_of n) d ∙ items_back vs n f.1 (omega arith)))

-- ---- two values, two encodings

-- THEOREM: two sound values with one encoding are equal
pub encode_injective : {v w : Value} → Sound v → Sound w → encode v ≡ encode w → v ≡ w
encode_injective {v} {w} f g e =
    let n : ℕ = size v + size w in
    sym (value_back v n [] f (omega arith)) ∙ ap (λ (l : List ℕ). value_of n (l ++ [])) e ∙ value_back w n [] g (omega arith)

pub encode_items_injective : {vs ws : Items} → SoundItems vs → SoundItems ws → encode_items vs ≡ encode_items ws → vs ≡ ws
encode_items_injective {vs} {ws} f g e =
    let n : ℕ = sizes vs + sizes ws + 1 in
    sym (items_back vs n f (omega arith)) ∙ ap (items_of n) e ∙ items_back ws n g (omega arith)

-- ---- the decoder

-- Are two lists the same, byte for byte?
abbrev same_bytes : List ℕ → List ℕ → Bool
same_bytes [] [] = true
same_bytes [] (b ∷ l) = false
same_bytes (a ∷ k) [] = false
same_bytes (a ∷ k) (b ∷ l) = cond (eqb a b) (same_bytes k l) false

-- The value that a list encodes, if it encodes one.
unfoldable decode : List ℕ → Option Value
decode l = cond (same_bytes (encode (value_of (length l) l)) l) (some (value_of (length l) l)) absent

same_bytes_lem : (l : List ℕ) → same_bytes l l ≡ true
same_bytes_lem [] = refl
same_bytes_lem (a ∷ l) = rw (eq-eqb a a refl) (same_bytes_lem l)

bytes_same : (k l : List ℕ) → same_bytes k l ≡ true → k ≡ l
bytes_same [] [] e = refl
bytes_same [] (b ∷ l) e = cc
bytes_same (a ∷ k) [] e = cc
bytes_same (a ∷ k) (b ∷ l) e = go (eqb a b) refl e (bytes_same k l)
  where
    go : (t : Bool) → eqb a b ≡ t → cond t (same_bytes k l) false ≡ true → (same_bytes k l ≡ true → k ≡ l) → a ∷ k ≡ b ∷ l
    go true p e f = ap₂ ◌∷◌ (eqb-true a b p) (f e)
    go false p e f = cc

-- THEOREM: what was encoded is decoded
decode-encode : (v : Value) → Sound v → decode (encode v) ≡ some v
unfolding decode
decode-encode v f =
    let n : ℕ = length (encode v) in
    let e : value_of n (encode v) ≡ v = ap (value_of n) (sym (append-nil (encode v))) ∙ value_back v n [] f (omega (arith, encode_length v)) in
    rw (e, same_bytes_lem (encode v))

-- THEOREM: what is decoded is what encodes the value
encode-decode : (l : List ℕ) (v : Value) → decode l ≡ some v → encode v ≡ l
unfolding decode
encode-decode l v e = go (same_bytes (encode (value_of (length l) l)) l) refl e
  where
    go : (t : Bool) → same_bytes (encode (value_of (length l) l)) l ≡ t → cond t (some (value_of (length l) l)) absent ≡ some v → encode v ≡ l
    go true p e = let q : value_of (length l) l ≡ v = cc in ap encode (sym q) ∙ bytes_same (encode (value_of (length l) l)) l p
    go false p e = cc
