-- What the steps of building make of a map. Assumes nothing.
use mathlib.Core.Path.{◌≡◌, refl, sym, ap, subst, ◌∙◌}
use mathlib.Core.Bool.{Bool, true, false}
use mathlib.Core.List.{List}
use mathlib.Core.Logic.{◌⊎◌, inl, inr}
use mathlib.Core.Option.{Option, none as absent, some}
use Prim.Native.Nat.{ℕ, ◌+◌, ◌≤◌, ◌<◌}
use native.Mathlib.Omega.{arith}
use Rattle.integers.specs.Bytes.{word}
use Rattle.values.specs.Value.{map, Value, collection, Items, more, size, sizes, Shaped, value_limit}
use Rattle.values.specs.Items.{join, same, lookup, enter}
use Rattle.values.specs.Place.{At, ItemsAt}
use Rattle.values.proofs.Order.{same_true}
use Rattle.values.proofs.Encoding.{size_low, more_sizes, collection_size}
use Rattle.values.proofs.Records.{word_size, holds, collection_shaped}
use Rattle.values.proofs.Frame.{items_below, at_below, at_above, outside_then, outside_none}
use Rattle.values.specs.Contract.{PutHead, AreEqual}
use Rattle.collections.specs.Building.{Added}
use Rattle.std.specs.Prelude.{Ok, Err}
use Rattle.prelude.specs.declared.Refusal.TheVariants.{TooLarge, Clash}
use Rattle.collections.specs.Finding.{Sought}
use Rattle.values.proofs.Entries.{enter_present, sizes_enter, paired_enter, ascending_enter}
use Rattle.collections.proofs.Seeking.{Key, belongs}
use Rattle.collections.specs.Finding.{Seeks}
use Rattle.collections.specs.Building.{added, entry_answer, EntryRoom, Apart, Enters}
use Rattle.collections.specs.Steps.{Gap, Fills, Slot, EntersAt}
use Rattle.collections.proofs.Sights.{key_sight, entry}
use Rattle.collections.proofs.Additions.{added_put, added_long, not_ok, not_err, headed_both, parts_at, slot_in, add_gap}

-- ---- one entry more

module _ {s : List ℕ} {at p x y : ℕ} (key : Slot s at p x) (val : Slot s at p y) {n m l : ℕ} (en : n ≡ word s at) (em : m ≡ word s x) (el : l ≡ word s y) where
  pub entry_full : value_limit < n + m + l → EntersAt s s at p x y (Err TooLarge)
  entry_full h = record {
    frame = outside_none s at (at + value_limit);
    refused = λ e d. refl;
    answers = added_long (word s at + word s x + word s y) (omega arith);
    made = λ us ws k v e. not_ok e;
  }

  module _ (h : n + m + l ≤ value_limit) where
    pub value_gap : Gap s p (at + n) y
    value_gap = add_gap val en el (omega arith)

    module _ {t : List ℕ} (f : Fills s t p (at + n) y) where
      key_kept : (k : Value) → At s x k → At t x k
      key_kept k g = go key.apart
        where
          go : Apart s at x → At t x k
          go (inl b) = let w = word_size g in let low = key.low in at_below f.frame (omega arith) g
          go (inr b) = at_above f.frame (omega arith) g

      pub key_gap : Gap t p (at + n + l) x
      key_gap =
          let w = word_size key.item.here in
          let k = key_kept key.item.value key.item.here in
          let w' = word_size k in
          let long = f.frame.long in
          let r = key.room in
          let low = key.low in
          let high = key.high in
          record { item = holds k; order = omega arith; room = omega arith; apart = go key.apart (w' ∙ sym w) }
        where
          go : Apart s at x → word t x ≡ word s x → (x + word t x ≤ p) ⊎ (at + n + l + word t x ≤ x)
          go (inl b) e = let low = key.low in inl (omega arith)
          go (inr b) e = inr (omega arith)

      pub entry_done : {u w : List ℕ} → Fills t u p (at + n + l) x → PutHead u w at (n + m + l) 5 → EntersAt s w at p x y (Ok tt)
      entry_done {u} {w} g q =
          let r = key.room in
          let low = key.low in
          let high = key.high in
          let size_x = key.item.low in
          let kept = word_size (key_kept key.item.value key.item.here) in
          let was = word_size key.item.here in
          let first = outside_then at (at + value_limit) (omega arith) (omega arith) (omega arith) (omega arith) f.frame g.frame in
          record {
            frame = outside_then at (at + value_limit) (omega arith) (omega arith) (omega arith) (omega arith) first q.outside;
            refused = λ e d. not_err d;
            answers = added_put (word s at + word s x + word s y) (omega arith);
            made = λ us ws k v e a b i j shaped.
                let wk = word_size i in
                let wv = word_size j in
                let ends = b.ends in
                let sized = more_sizes v ws in
                let b' : ItemsAt s p (at + n) ws = subst (λ (z : ℕ). ItemsAt s p (at + z) ws) (sym en) b in
                let lv : size v ≡ l = omega arith in
                let one : ItemsAt t p (at + n + l) (more v ws) = subst (λ (z : ℕ). ItemsAt t p (at + n + z) (more v ws)) lv (f.right ws v b' j (omega arith)) in
                let two = g.right (more v ws) k one (key_kept k i) (omega arith) in
                let end : at + (n + m + l) ≡ at + n + l + size k = omega arith in
                headed_both q map us (more k (more v ws)) refl end h shaped (items_below g.frame (omega arith) (items_below f.frame (omega arith) a)) two;
          }

-- ---- in order into a map

-- the entries part at q, and k belongs there
record Parting (s : List ℕ) (at : ℕ) (vs : Items) (k : Value) (q : ℕ) : Type 0 where
  us : Items
  ws : Items
  us_at : ItemsAt s (at + 4) q us
  ws_at : ItemsAt s q (at + word s at) ws
  new : lookup k vs ≡ absent
  is : (v : Value) → enter k v vs ≡ join us (more k (more v ws))
  low : at + 4 ≤ q
  high : q ≤ at + word s at

parting_at : {s : List ℕ} {at : ℕ} {vs : Items} {k : Value} {q : ℕ} → At s at (collection map vs) → Key k vs (at + 4) (Err q) → Parting s at vs k q
parting_at {s} {at} {vs} {k} h (belongs q us ws e f g i) =
    let y = parts_at h us ws f q g in
    record { us = us; ws = ws; us_at = y.0; ws_at = y.1; new = e; is = i; low = omega arith; high = let d = y.1.ends in omega arith }

module _ {s : List ℕ} {at x : ℕ} {sought : Sought} (f : Seeks s at x true sought) where
  -- the key is there: by what stands at it
  module _ (q : ℕ) (e : sought ≡ Ok q) {n y : ℕ} (d : n ≡ word s q) (b : Bool) (c : AreEqual s (q + n) y b) where
    compared : (vs : Items) (k v : Value) → At s at (collection map vs) → At s x k → At s y v → (w : Value) × (lookup k vs ≡ some w) × (b ≡ same w v)
    compared vs k v h g i =
        let z = entry f q e vs k h g in
        (z.value, z.looked, c z.value v (subst (λ (j : ℕ). At s (q + j) z.value) (sym d) z.value_at) i)

    pub entered_same : b ≡ true → Enters s s at x y (Ok tt)
    entered_same t = record {
      frame = outside_none s at (at + value_limit);
      refused = λ e u. refl;
      right = λ vs k v h g i.
          let (w, o, r) = compared vs k v h g i in
          let shaped = collection_shaped h.fine in
          let u : same w v ≡ true = sym r ∙ t in
          let j = enter_present k v vs shaped.0 shaped.1 (o ∙ ap some (same_true w v u)) in
          record {
            answers = sym (ap (λ (l : Option Value). entry_answer l v (size (collection map (enter k v vs)))) o ∙ rw u);
            made = λ u. rw j h;
            still = λ u. refl;
          };
    }

    pub entered_clash : b ≡ false → Enters s s at x y (Err Clash)
    entered_clash t = record {
      frame = outside_none s at (at + value_limit);
      refused = λ e u. refl;
      right = λ vs k v h g i.
          let (w, o, r) = compared vs k v h g i in
          let u : same w v ≡ false = sym r ∙ t in
          record {
            answers = sym (ap (λ (l : Option Value). entry_answer l v (size (collection map (enter k v vs)))) o ∙ rw u);
            made = λ u. not_ok u;
            still = λ u. refl;
          };
    }

  -- the key is new
  module _ (q : ℕ) (e : sought ≡ Err q) where
    parting : {vs : Items} {k : Value} → At s at (collection map vs) → At s x k → Parting s at vs k q
    parting {vs} {k} h g = parting_at h (subst (Key k vs (at + 4)) e (key_sight f h g))

    pub entry_slots : {y : ℕ} → EntryRoom s at x y → Slot s at q x × Slot s at q y
    entry_slots r =
        let z = parting r.key.held.here r.key.item.here in
        (slot_in q r.key z.low z.high, slot_in q r.value z.low z.high)

    pub entered_before : {y : ℕ} {t : List ℕ} {r : Added} → EntersAt s t at q x y r → Enters s t at x y r
    entered_before {y} {t} {r} a = record {
      frame = a.frame;
      refused = a.refused;
      right = λ vs k v h g i.
          let z = parting h g in
          let shaped = collection_shaped h.fine in
          let wh = word_size h in
          let wg = word_size g in
          let wi = word_size i in
          let was = collection_size map vs in
          let now = collection_size map (enter k v vs) in
          let grown = sizes_enter k v vs shaped.0 z.new in
          let still_map : Shaped map (enter k v vs) = (paired_enter k v vs shaped.0, ascending_enter k v vs shaped.0 shaped.1) in
          let total : word s at + word s x + word s y ≡ size (collection map (enter k v vs)) = omega arith in
          record {
            answers = a.answers ∙ ap added total ∙ sym (ap (λ (l : Option Value). entry_answer l v (size (collection map (enter k v vs)))) z.new);
            made = λ d.
                rw (z.is v)
                (a.made z.us z.ws k v d z.us_at z.ws_at g i (rw (z.is v) at still_map));
            still = λ d. let j = ap sizes d in absurd (omega (arith, size_low v));
          };
    }
