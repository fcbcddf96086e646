-- The members of each of some sets go into a set.
use mathlib.Core.Path.{◌≡◌, refl, subst}
use mathlib.Core.List.{List}
use mathlib.Core.Logic.{◌⊎◌, inl, inr}
use Prim.Native.Nat.{ℕ, ◌+◌, ◌≤◌, ◌<◌}
use native.Mathlib.Omega.{arith}
use Rattle.integers.specs.Bytes.{word}
use Rattle.values.specs.Value.{set, Value, collection, Items, none, more, value_limit}
use Rattle.values.specs.Items.{join, insert}
use Rattle.values.specs.Place.{At, HoldsItems, Outside}
use Rattle.values.proofs.Records.{items_to, one_value}
use Rattle.collections.specs.Building.{Added}
use Rattle.collections.specs.Building.{Apart}
use Rattle.collections.proofs.Built.{at_apart}
use Rattle.operators.specs.Gather.{insert_all, items_in, flatten}
use Rattle.gathering.specs.Inserting.{Growing, Grown, InsertsAll, themselves}
use Rattle.gathering.proofs.Growth.{Gathering, Next, Steps, apart_at, gather_next}
use Rattle.set_operators.specs.Members.{HoldsSets}
use Rattle.set_operators.proofs.Testing.{SetsLeft, first_set}

abbrev pub insert_items : Items → Value → Items
insert_items us w = insert_all us (items_in w)

insert_all_join : (us vs ws : Items) → insert_all us (join vs ws) ≡ insert_all (insert_all us vs) ws
unfolding insert_all join
insert_all_join us none ws = refl
insert_all_join us (more v vs) ws = insert_all_join (insert v us) vs ws

pub flatten_law : (us : Items) (v : Value) (rest : Items) → insert_all us (flatten (more v rest)) ≡ insert_all (insert_items us v) (flatten rest)
unfolding flatten
flatten_law us v rest = insert_all_join us (items_in v) (flatten rest)

-- the members of the set at p go in
module _ {s t : List ℕ} {from to at p : ℕ} (w : Gathering flatten s t from to at p) (l : SetsLeft s from to p) (lt : p < to) (h : HoldsSets s from to) (r : Growing s from to at) where
  set_still : At t p (collection set (first_set l lt h).members)
  set_still = let y = first_set l lt h in at_apart w.frame (apart_at s p r.apart w.past y.inside) y.set_at

  pub each_next : {u : List ℕ} → Outside s u at (at + value_limit) → Next s u to at p
  each_next o = gather_next w lt o (h.items, h.here) r

  pub each_step : {u : List ℕ} {a : Added} (n : ℕ) → n ≡ word t p → InsertsAll themselves t u (p + 4) (p + n) at a → Steps insert_items t u at p a
  each_step {u} {a} n e i =
      record {
        frame = i.frame;
        right = λ us v b c. subst (λ (x : Value). Grown u at (insert_items us x) a) (one_value set_still c) (i.right us (first_set l lt h).members b (items_to e set_still));
      }

  pub each_room : (n : ℕ) → n ≡ word t p → HoldsItems t (p + 4) (p + n) × Growing t (p + 4) (p + n) at
  each_room n e =
      let k = w.state r.held.items h.items r.held.here h.here in
      let m = each_next w.frame in
      let long = m.length_same in
      let room = r.room in (
        ((first_set l lt h).members, items_to e set_still),
        record { held = record { items = k.us; here = k.made }; room = omega arith; apart = within m.apart },
      )
    where
      within : Apart t at p → (p + n ≤ at) ⊎ (at + value_limit ≤ p + 4)
      within (inl b) = inl (omega arith)
      within (inr b) = inr (omega arith)
