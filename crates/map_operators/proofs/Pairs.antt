-- The first entry of those that stand between two places. Assumes nothing.
use mathlib.Core.Path.{◌≡◌, sym, ap, subst, ◌∙◌}
use mathlib.Core.Bool.{true, false}
use mathlib.Core.List.{List}
use Prim.Native.Nat.{ℕ, ◌+◌, ◌≤◌, ◌<◌}
use native.Mathlib.Omega.{arith}
use Rattle.integers.specs.Bytes.{word}
use Rattle.values.specs.Value.{Value, Items, none, more, size, sizes, PairedFrom, Paired}
use Rattle.values.specs.Place.{At, ItemsAt}
use Rattle.values.proofs.Records.{uncons}
use Rattle.values.proofs.Encoding.{size_low}
use Rattle.operators.specs.Answer.{is}
use Rattle.calling.specs.Applied.{Applied}
use Rattle.calling.specs.Applied.{Applies, done}

-- the value that an operator left
pub value_of : {t : List ℕ} {base : ℕ} {r : Applied} {v : Value} → Applies t base r (is v) → At t base v
value_of (done e a) = a

-- a key of m bytes and its value of l bytes
pub record NextEntry (s : List ℕ) (p m l end : ℕ) (vs : Items) : Type 0 where
  pub key : Value
  pub value : Value
  pub rest : Items
  pub is : vs ≡ more key (more value rest)
  pub paired : Paired rest
  pub key_at : At s p key
  pub value_at : At s (p + m) value
  pub rest_at : ItemsAt s (p + m + l) end rest
  pub low : 4 ≤ m
  pub inside : p + m + l ≤ end

-- a value follows the key
value_left : {s : List ℕ} {from to : ℕ} {vs : Items} → PairedFrom false vs → ItemsAt s from to vs → from < to
unfolding PairedFrom size
value_left {vs = none} p h = absurd p
value_left {from = from} {to = to} {vs = more v vs} p h = let e : from + (size v + sizes vs) ≡ to = h.ends in omega (arith, size_low v)

pub next_entry : {s : List ℕ} {p m l end : ℕ} {vs : Items} → p < end → m ≡ word s p → l ≡ word s (p + m) → ItemsAt s p end vs → Paired vs → NextEntry s p m l end vs
unfolding PairedFrom
next_entry {s} {p} {m} {l} {end} {vs} lt e d h pair =
    let y = uncons lt h in
    let after : PairedFrom false y.rest = subst (λ (ws : Items). PairedFrom true ws) y.is pair in
    let x : ItemsAt s (p + m) end y.rest = subst (λ (i : ℕ). ItemsAt s (p + i) end y.rest) (sym e) y.rest_at in
    let z = uncons (value_left after x) x in
    record {
      key = y.first;
      value = z.first;
      rest = z.rest;
      is = y.is ∙ ap (more y.first) z.is;
      paired = subst (λ (ws : Items). PairedFrom false ws) z.is after;
      key_at = y.first-at;
      value_at = z.first-at;
      rest_at = subst (λ (i : ℕ). ItemsAt s (p + m + i) end z.rest) (sym d) z.rest_at;
      low = omega arith;
      inside = omega arith;
    }
