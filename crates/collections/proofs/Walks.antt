-- A walk over the items of the collection at a place, one item a turn. Assumes nothing.
use mathlib.Core.Path.{◌≡◌, refl, sym, ap, subst, ◌∙◌}
use mathlib.Core.List.{List}
use mathlib.Core.Option.{some}
use Prim.Native.Nat.{ℕ, zero, suc, ◌+◌, ◌-◌, ◌≤◌, ◌<◌}
use native.Mathlib.Omega.{arith}
use Rattle.integers.specs.Bytes.{word}
use Rattle.values.specs.Value.{Kind, Value, Items, none, more, collection}
use Rattle.values.specs.Items.{nth}
use Rattle.values.specs.Place.{At, ItemsAt}
use Rattle.values.proofs.Records.{uncons, word_size, items_to, items_none}
use Rattle.std.specs.Prelude.{Some, None}
use Rattle.collections.specs.Finding.{HoldsCollection, FindsIn, found, missing, Item}

-- the items from p on are left, and P holds of them
pub record Left (s : List ℕ) (at : ℕ) (P : Items → Type 0) (p : ℕ) : Type 0 where
  pub rest : Items
  pub here : ItemsAt s p (at + word s at) rest
  pub so : P rest

-- the walk has come to p: whatever items the collection has, R holds of them all and of those that are left
pub record Walk (s : List ℕ) (at : ℕ) (R : Items → Items → Type 0) (p : ℕ) : Type 0 where
  pub from : at + 4 ≤ p
  pub whole : (k : Kind) (vs : Items) → At s at (collection k vs) → Left s at (R vs) p

pub walk_start : {s : List ℕ} {at : ℕ} {R : Items → Items → Type 0} → ((vs : Items) → R vs vs) → Walk s at R (at + 4)
walk_start r = record { from = omega arith; whole = λ k vs h. record { rest = vs; here = items_to refl h; so = r vs } }

-- the first of those that are left
pub record First (s : List ℕ) (at : ℕ) (P : Items → Type 0) (p : ℕ) : Type 0 where
  pub first : Value
  pub rest : Items
  pub first-at : At s p first
  pub rest_at : ItemsAt s (p + word s p) (at + word s at) rest
  pub so : P (more first rest)
  pub low : 4 ≤ word s p
  pub high : word s p ≤ 512
  pub inside : p + word s p ≤ at + word s at

pub first_left : {s : List ℕ} {at : ℕ} {P : Items → Type 0} {p : ℕ} → p < at + word s at → Left s at P p → First s at P p
first_left {P = P} lt l =
    let y = uncons lt l.here in
    record {
      first = y.first;
      rest = y.rest;
      first-at = y.first-at;
      rest_at = y.rest_at;
      so = subst P y.is l.so;
      low = y.low;
      high = y.high;
      inside = y.inside;
    }

module _ {s : List ℕ} {at : ℕ} {R : Items → Items → Type 0} {p : ℕ} (w : Walk s at R p) where
  -- what the code needs to know of the record at p
  pub walk_run : p < at + word s at → (h : HoldsCollection s at) → First s at (R h.items) p
  walk_run lt h = first_left lt (w.whole h.kind h.items h.here)

  pub walk_step : {Q : Items → Items → Type 0} → p < at + word s at → ((vs ws : Items) (v : Value) → At s p v → R vs (more v ws) → Q vs ws) → (n : ℕ) → n ≡ word s p → Walk s at Q (p + n)
  walk_step {Q} lt f n e = record {
    from = let m = w.from in omega arith;
    whole = λ k vs h.
        let y = first_left lt (w.whole k vs h) in
        record { rest = y.rest; here = subst (λ (m : ℕ). ItemsAt s (p + m) (at + word s at) y.rest) (sym e) y.rest_at; so = f vs y.rest y.first y.first-at y.so };
  }

  pub walk_end : at + word s at ≤ p → (k : Kind) (vs : Items) → At s at (collection k vs) → R vs none
  walk_end le k vs h =
      let l = w.whole k vs h in
      subst (R vs) (items_none le l.here) l.so

pub nth_on : (v : Value) (vs : Items) (k : ℕ) → (k ≡ 0 → ⊥) → nth (more v vs) k ≡ nth vs (k - 1)
unfolding nth
nth_on v vs zero f = absurd (f refl)
nth_on v vs (suc k) f = let e : suc k - 1 ≡ k = omega arith in ap (nth vs) (sym e)

-- ---- the k-th item

pub item_found : {s : List ℕ} {at p : ℕ} (k left : ℕ) → Walk s at (λ (vs rest : Items). nth vs k ≡ nth rest left) p → p < at + word s at → left ≡ 0 → Item s at k (Some p)
unfolding nth
item_found {s} {at} {p} k left w lt z kind vs h =
    let y = first_left lt (w.whole kind vs h) in
    let e : some y.first ≡ nth vs k = sym (y.so ∙ ap (nth (more y.first y.rest)) z) in
    let m = w.from in
    let i = y.inside in
    let n = word_size h in
    let l = word_size y.first-at in
    subst (FindsIn s at (collection kind vs) (Some p)) e (found y.first-at m (omega arith))

pub item_missing : {s : List ℕ} {at p : ℕ} (k left : ℕ) → Walk s at (λ (vs rest : Items). nth vs k ≡ nth rest left) p → at + word s at ≤ p → Item s at k None
unfolding nth
item_missing {s} {at} k left w le kind vs h = subst (FindsIn s at (collection kind vs) None) (sym (walk_end w le kind vs h)) missing
