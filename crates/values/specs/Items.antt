-- Items taken together: joining, members, places, ordered insertion, and the entries of maps. The code of `collections` does these.
use Rattle.std.specs.Prelude.{Bool, true, false, cond, ℕ, zero, suc}
use Rattle.std.proofs.Math.Option.{Option, none as absent, some}
use Rattle.std.specs.declared.cmp.Ordering.{Ordering}
use Rattle.std.specs.declared.cmp.Ordering.TheVariants.{Less, Equal, Greater}
use Rattle.std.specs.Ordering.{is_eq}
use Rattle.values.specs.Value.{Value, Items, none, more, order}

-- Equality compares any two values.
abbrev pub same : Value → Value → Bool
same v w = is_eq (order v w)

-- Items one after the other, and one item put at the end.
unfoldable pub join : Items → Items → Items
join none ws = ws
join (more v vs) ws = more v (join vs ws)

abbrev pub snoc : Items → Value → Items
snoc vs w = join vs (more w none)

-- Is this value among the items?
unfoldable pub is_member : Value → Items → Bool
is_member v none = false
is_member v (more w ws) = cond (same v w) true (is_member v ws)

-- The k-th item, from 0.
unfoldable pub nth : Items → ℕ → Option Value
nth none k = absent
nth (more v vs) zero = some v
nth (more v vs) (suc k) = nth vs k

-- A member put in order; it is there already where it is the same as one.
abbrev pub in_order {ℓ} : {A : Type ℓ} → Ordering → A → A → A → A
in_order Less a b c = a
in_order Equal a b c = b
in_order Greater a b c = c

unfoldable pub insert : Value → Items → Items
insert v none = more v none
insert v (more w ws) = in_order (order v w) (more v (more w ws)) (more w ws) (more w (insert v ws))

-- ---- the items of a map: key, value, key, value (`Entries` says the same on a list of entries, and a key without its value is never met)

-- The value at a key.
unfoldable mutual
  pub lookup : Value → Items → Option Value
  lookup k none = absent
  lookup k (more l ws) = lookup_at (same k l) k ws

  pub lookup_at : Bool → Value → Items → Option Value
  lookup_at found k none = absent
  lookup_at found k (more v vs) = cond found (some v) (lookup k vs)

-- An entry put in order; where the key is there already, its value gives way to the new one.
unfoldable mutual
  pub enter : Value → Value → Items → Items
  enter k v none = more k (more v none)
  enter k v (more l ws) = in_order (order k l) (more k (more v (more l ws))) (more l (more v (drop_one ws))) (more l (enter_after k v ws))

  pub enter_after : Value → Value → Items → Items
  enter_after k v none = none
  enter_after k v (more w vs) = more w (enter k v vs)

  pub drop_one : Items → Items
  drop_one none = none
  drop_one (more w vs) = vs
