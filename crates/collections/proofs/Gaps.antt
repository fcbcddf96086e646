-- An item put in before others: they are moved up, and it is copied into the gap. Assumes nothing.
use mathlib.Core.Path.{◌≡◌, subst, ◌∙◌}
use mathlib.Core.List.{List}
use mathlib.Core.Logic.{◌⊎◌, inl, inr}
use Prim.Native.Nat.{ℕ, ◌+◌, ◌-◌, ◌≤◌}
use native.Mathlib.Omega.{arith}
use lib.ListN.{take, drop}
use Rattle.integers.specs.Bytes.{word}
use Rattle.values.specs.Value.{Value, size, sizes}
use Rattle.values.specs.Place.{At, ItemsAt}
use Rattle.values.proofs.Records.{word_size, holds, more_of}
use Rattle.values.proofs.Frame.{items_moved, items_above, at_below, at_above, word_below, word_above, outside_then}
use Rattle.values.specs.Contract.{Moved, Copyable, Copied}
use Rattle.collections.specs.Steps.{Gap, Fills}

module _ {s t : List ℕ} {p end x : ℕ} (gap : Gap s p end x) (n : ℕ) (is : n ≡ word s x) (m : Moved s t p (p + n) (end - p)) where
  gap_word : word t x ≡ word s x
  gap_word = go gap.apart
    where
      go : (x + word s x ≤ p) ⊎ (end + word s x ≤ x) → word t x ≡ word s x
      go (inl h) = let l = gap.item.low in word_below m.outside x (omega arith)
      go (inr h) = let o = gap.order in word_above m.outside x (omega arith)

  item_kept : (v : Value) → At s x v → At t x v
  item_kept v g = go gap.apart
    where
      go : (x + word s x ≤ p) ⊎ (end + word s x ≤ x) → At t x v
      go (inl h) = let w = word_size g in at_below m.outside (omega arith) g
      go (inr h) = let o = gap.order in at_above m.outside (omega arith) g

  pub gap_copyable : Copyable t x p
  gap_copyable =
      let w = gap_word in
      let l = m.outside.long in
      let r = gap.room in
      let o = gap.order in
      record { held = holds (item_kept gap.item.value gap.item.here); room = omega arith; apart = go gap.apart }
    where
      go : (x + word s x ≤ p) ⊎ (end + word s x ≤ x) → (x + word t x ≤ p) ⊎ (p ≤ x)
      go (inl h) = let w = gap_word in inl (omega arith)
      go (inr h) = let o = gap.order in inr (omega arith)

  module _ {u : List ℕ} {r : ℕ} (c : Copied t u x p r) where
    pub gap_filled : Fills s u p end x
    gap_filled =
        let w = gap_word in
        let e = c.ends in
        let o = gap.order in
        record {
          frame = outside_then p (end + word s x) (omega arith) (omega arith) (omega arith) (omega arith) m.outside c.outside;
          right = λ vs v h g short.
              let d = h.ends in
              let f = h.fits in
              let room = gap.room in
              let l = m.outside.long in
              let z = word_size g in
              let k : end - p ≡ sizes vs = omega arith in
              let b : take (sizes vs) (drop (p + n) t) ≡ take (sizes vs) (drop p s) = subst (λ (j : ℕ). take j (drop (p + n) t) ≡ take j (drop p s)) k m.bytes in
              let up : ItemsAt t (p + n) (end + n) vs = items_moved (p + n) (end + n) (omega arith) (omega arith) b h in
              let i : n ≡ size v = is ∙ z in
              let rest : ItemsAt u (p + size v) (end + size v) vs = subst (λ (j : ℕ). ItemsAt u (p + j) (end + j) vs) i (items_above c.outside (omega arith) up) in
              more_of (c.here v (item_kept v g)) rest short;
        }
