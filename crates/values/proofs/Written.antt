-- Records that are written: where a value's bytes were stored its record stands, and a heading before items makes a collection.
use mathlib.Core.Path.{◌≡◌, refl, ap, ap₂, ◌∙◌}
use mathlib.Core.List.{List, [], ◌∷◌, ◌++◌, append_assoc}
use Prim.Native.Nat.{ℕ, suc, ◌+◌, ◌≤◌}
use native.Mathlib.Omega.{arith}
use lib.ListN.{length, take, drop, set}
use lib.Seq.{sets, sets-eq, length-sets, take-set-le, drop-set-lt, take_at, drop_at, length-take-le, take-add, drop-drop}
use Rattle.values.specs.Value.{Kind, number, Value, collection, Items, size, sizes, encode, Shaped, Sound, WellFormed, value_limit}
use Rattle.values.specs.Place.{At, ItemsAt, Outside}
use Rattle.values.specs.Contract.{heading}
use Rattle.values.proofs.Encoding.{encode_length}
use Rattle.values.proofs.Frame.{items_above}

-- ---- stores

-- what a store leaves from its place on
pub drop_store : (s : List ℕ) (at : ℕ) (bs : List ℕ) → at + length bs ≤ length s → drop at (sets s at bs) ≡ bs ++ drop (at + length bs) s
drop_store s at bs h =
    ap (drop at) (sets-eq bs s at h ∙ append_assoc (take at s) bs (drop (at + length bs) s))
    ∙ drop_at (take at s) (bs ++ drop (at + length bs) s) at (length-take-le at s (omega arith))

below_store : (s : List ℕ) (at base : ℕ) (bs : List ℕ) → base ≤ at → take base (sets s at bs) ≡ take base s
below_store s at base [] h = refl
below_store s at base (b ∷ bs) h = below_store (set s at b) (suc at) base bs (omega arith) ∙ take-set-le base s at b h

above_store : (s : List ℕ) (at to : ℕ) (bs : List ℕ) → at + length bs ≤ to → drop to (sets s at bs) ≡ drop to s
above_store s at to [] h = refl
above_store s at to (b ∷ bs) h = above_store (set s at b) (suc at) to bs (omega arith) ∙ drop-set-lt to s at b (omega arith)

-- a store changes nothing outside it
pub stored_outside : (s : List ℕ) {t : List ℕ} {at : ℕ} (bs : List ℕ) {n : ℕ} → t ≡ sets s at bs → length bs ≡ n → Outside s t at (at + n)
stored_outside s {t} {at} bs {n} q e =
    record {
      long = ap length q ∙ length-sets s at bs;
      below = ap (take at) q ∙ below_store s at at bs (omega arith);
      above = ap (drop (at + n)) q ∙ above_store s at (at + n) bs (omega arith);
    }

-- one store after another, next to it, is one store of both
pub stores : (s : List ℕ) (at : ℕ) (bs cs : List ℕ) {n : ℕ} → length bs ≡ n → sets (sets s at bs) (at + n) cs ≡ sets s at (bs ++ cs)
stores s at [] cs e = ap (λ (k : ℕ). sets s k cs) (omega arith)
stores s at (b ∷ bs) cs e = ap (λ (k : ℕ). sets (sets (set s at b) (suc at) bs) k cs) (omega arith) ∙ stores (set s at b) (suc at) bs cs refl

-- ---- records

-- THEOREM: where a value's encoding was stored, its record stands
pub written : (s : List ℕ) {t : List ℕ} {at : ℕ} {v : Value} → t ≡ sets s at (encode v) → WellFormed v → at + size v ≤ length s → At t at v
written s {t} {at} {v} q f h =
    let e = encode_length v in
    let l = ap length q ∙ length-sets s at (encode v) in
    record {
      fits = omega arith;
      fine = f;
      bytes = ap (λ (x : List ℕ). take (size v) (drop at x)) q ∙ ap (take (size v)) (drop_store s at (encode v) (omega arith)) ∙ take_at (encode v) (drop (at + length (encode v)) s) (size v) e;
    }

-- ---- collections

-- THEOREM: a heading and items after it are a collection, if they are shaped as its kind asks and not too long
pub collection_at : {s : List ℕ} {at to : ℕ} {k : Kind} {vs : Items} (n : ℕ) → take 4 (drop at s) ≡ heading n (number k) → at + n ≡ to → n ≤ value_limit → Shaped k vs → ItemsAt s (at + 4) to vs → At s at (collection k vs)
unfolding size encode Sound
collection_at {s} {at} {to} {k} {vs} n b e short shaped h =
    let f : at + 4 + sizes vs ≡ to = h.ends in
    let g = h.fits in
    let m : n ≡ 4 + sizes vs = omega arith in
    record {
      fits = omega arith;
      fine = record { sound = (shaped, h.fine); short = omega arith };
      bytes =
          take-add 4 (sizes vs) (drop at s)
          ∙ ap₂ ◌++◌ (b ∙ ap (λ (j : ℕ). heading j (number k)) m) (ap (take (sizes vs)) (drop-drop 4 at s) ∙ h.bytes);
    }

-- a heading that is stored before items makes a collection
pub headed_collection : {s t : List ℕ} {at to : ℕ} {k : Kind} {vs : Items} (n : ℕ) → t ≡ sets s at (heading n (number k)) → at + n ≡ to → n ≤ value_limit → Shaped k vs → ItemsAt s (at + 4) to vs → At t at (collection k vs)
headed_collection {s} {t} {at} {to} {k} {vs} n q e short shaped h =
    let f = h.ends in
    let g = h.fits in
    let b : take 4 (drop at t) ≡ heading n (number k) = ap (λ (x : List ℕ). take 4 (drop at x)) q ∙ ap (take 4) (drop_store s at (heading n (number k)) (omega arith)) in
    collection_at n b e short shaped (items_above (stored_outside s (heading n (number k)) q refl) (omega arith) h)
