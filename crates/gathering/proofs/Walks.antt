-- A walk over the items from a place up to another, one item a turn.
use mathlib.Core.Path.{◌≡◌, sym, subst}
use mathlib.Core.List.{List}
use Prim.Native.Nat.{ℕ, ◌+◌, ◌≤◌, ◌<◌}
use lib.ListN.{length}
use Rattle.integers.specs.Bytes.{word}
use Rattle.values.specs.Value.{Value, Items, none, more, value_limit}
use Rattle.values.specs.Place.{At, ItemsAt}
use Rattle.values.proofs.Records.{uncons, items_none}

-- the items from p on are left, and P holds of them
pub record Left (s : List ℕ) (to : ℕ) (P : Items → Type 0) (p : ℕ) : Type 0 where
  pub rest : Items
  pub here : ItemsAt s p to rest
  pub so : P rest

-- the walk has come to p: whatever items there are, R holds of them all and of those that are left
abbrev pub Walk : List ℕ → ℕ → ℕ → (Items → Items → Type 0) → ℕ → Type 0
Walk s from to R p = (vs : Items) → ItemsAt s from to vs → Left s to (R vs) p

pub items_start : {s : List ℕ} {from to : ℕ} (R : Items → Items → Type 0) → ((vs : Items) → R vs vs) → Walk s from to R from
items_start R r = λ vs h. record { rest = vs; here = h; so = r vs }

-- the first of those that are left, with what code needs to know of its length
pub record First (s : List ℕ) (to : ℕ) (P : Items → Type 0) (p : ℕ) : Type 0 where
  pub first : Value
  pub rest : Items
  pub first-at : At s p first
  pub rest_at : ItemsAt s (p + word s p) to rest
  pub so : P (more first rest)
  pub low : 4 ≤ word s p
  pub high : word s p ≤ value_limit
  pub inside : p + word s p ≤ to
  pub fits : to ≤ length s

pub walked_first : {s : List ℕ} {to : ℕ} {P : Items → Type 0} {p : ℕ} → p < to → Left s to P p → First s to P p
walked_first {P = P} lt l =
    let y = uncons lt l.here in
    record {
      first = y.first;
      rest = y.rest;
      first-at = y.first-at;
      rest_at = y.rest_at;
      so = subst P y.is l.so;
      low = y.low;
      high = y.high;
      inside = y.inside;
      fits = l.here.fits;
    }

pub items_on : {s : List ℕ} {to : ℕ} {P Q : Items → Type 0} {p : ℕ} (y : First s to P p) (n : ℕ) → n ≡ word s p → Q y.rest → Left s to Q (p + n)
items_on {s} {to} {P} {Q} {p} y n e q = record { rest = y.rest; here = subst (λ (m : ℕ). ItemsAt s (p + m) to y.rest) (sym e) y.rest_at; so = q }

pub walked_end : {s : List ℕ} {to : ℕ} {P : Items → Type 0} {p : ℕ} → to ≤ p → Left s to P p → P none
walked_end {P = P} le l = subst P (items_none le l.here) l.so
