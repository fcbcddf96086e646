-- A set while items go into it one after another: what it has, with what is left, is what it will have.
use mathlib.Core.Path.{◌≡◌, refl, sym, ap, subst, ◌∙◌}
use mathlib.Core.List.{List}
use mathlib.Core.Logic.{◌⊎◌, inl, inr}
use Prim.Native.Nat.{ℕ, ◌+◌, ◌≤◌, ◌<◌}
use native.Mathlib.Omega.{arith}
use lib.ListN.{length}
use Rattle.prelude.proofs.Absurd.{impossible}
use Rattle.integers.specs.Bytes.{word}
use Rattle.values.specs.Value.{set, Value, collection, Items, none, more, size, sizes, value_limit}
use Rattle.values.specs.Items.{insert}
use Rattle.values.specs.Place.{At, ItemsAt, Holds, HoldsItems, Outside}
use Rattle.values.proofs.Encoding.{collection_size}
use Rattle.values.proofs.Records.{holds}
use Rattle.values.proofs.Frame.{outside_none, outside_both, word_below, word_above}
use Rattle.collections.specs.Building.{Added}
use Rattle.std.specs.Prelude.{Ok, Err}
use Rattle.prelude.specs.declared.Refusal.{Refusal}
use Rattle.collections.specs.Building.{Apart, Room, Inserts}
use Rattle.collections.proofs.Additions.{added_put, added_long}
use Rattle.collections.proofs.Built.{at_apart, long_past, long_is}
use Rattle.operators.specs.Gather.{insert_all}
use Rattle.operator_laws.proofs.Gather.{sizes_grow_all}
use Rattle.gathering.specs.Inserting.{Growing, Grown, InsertsAll, themselves}
use Rattle.gathering.proofs.Walks.{Left, First, walked_first, items_on, walked_end}

-- ---- what goes in next

-- an item among those from a place up to another, none of which stands where the set is built
pub apart_at : (s : List ℕ) {from to at : ℕ} (p : ℕ) → (to ≤ at) ⊎ (at + value_limit ≤ from) → from ≤ p → p + word s p ≤ to → Apart s at p
apart_at s p (inl b) h g = inl (omega arith)
apart_at s p (inr b) h g = inr (omega arith)

pub word_apart : {s t : List ℕ} {at p : ℕ} → Outside s t at (at + value_limit) → Apart s at p → 4 ≤ word s p → word t p ≡ word s p
word_apart {p = p} o (inl b) h = word_below o p (omega arith)
word_apart {p = p} o (inr b) h = word_above o p (omega arith)

-- the item at p, in what the slice has become
pub record Next (s t : List ℕ) (to at p : ℕ) : Type 0 where
  pub item : Holds t p
  pub apart : Apart t at p
  pub length_same : length t ≡ length s
  pub word_same : word t p ≡ word s p
  pub low : 4 ≤ word t p
  pub high : word t p ≤ value_limit
  pub inside : p + word t p ≤ to
  pub fits : to ≤ length s

pub next-item : {s t : List ℕ} {from to at p : ℕ} {P : Items → Type 0} → Outside s t at (at + value_limit) → (to ≤ at) ⊎ (at + value_limit ≤ from) → from ≤ p → First s to P p → Next s t to at p
next-item {s} {t} {from} {to} {at} {p} o a h y =
    let i = y.inside in
    let b : Apart s at p = apart_at s p a h i in
    let e : word t p ≡ word s p = word_apart o b y.low in
    let l = y.low in
    let g = y.high in
    record {
      item = holds (at_apart o b y.first-at);
      apart = apart_at t p a h (omega arith);
      length_same = o.long;
      word_same = e;
      low = omega arith;
      high = omega arith;
      inside = omega arith;
      fits = y.fits;
    }

-- ---- one turn

-- what f says went into the set, of the value at p
pub record Steps (f : Items → Value → Items) (s t : List ℕ) (at p : ℕ) (r : Added) : Type 0 where
  pub frame : Outside s t at (at + value_limit)
  pub right : (us : Items) (w : Value) → At s at (collection set us) → At s p w → Grown t at (f us w) r

abbrev pub insert_one : Items → Value → Items
insert_one us w = insert w us

pub insert_step : {s t : List ℕ} {at p : ℕ} {r : Added} → Inserts s t at p r → Steps insert_one s t at p r
insert_step i = record { frame = i.frame; right = λ us w a h. let b = i.right us w a h in record { answers = b.answers; made = b.made } }

-- ---- the walk

-- those from p on are left
pub record Gathered (g : Items → Items) (s t : List ℕ) (to at p : ℕ) (whole : Items) : Type 0 where
  pub us : Items
  pub made : At t at (collection set us)
  pub left : Left s to (λ (rest : Items). whole ≡ insert_all us (g rest)) p

pub record Gathering (g : Items → Items) (s t : List ℕ) (from to at p : ℕ) : Type 0 where
  pub frame : Outside s t at (at + value_limit)
  pub past : from ≤ p
  pub state : (vs ws : Items) → At s at (collection set vs) → ItemsAt s from to ws → Gathered g s t to at p (insert_all vs (g ws))

pub gather_start : (g : Items → Items) (s : List ℕ) (from to at : ℕ) → Gathering g s s from to at from
gather_start g s from to at =
    record {
      frame = outside_none s at (at + value_limit);
      past = omega arith;
      state = λ vs ws a h. record { us = vs; made = a; left = record { rest = ws; here = h; so = refl } };
    }

module _ {g : Items → Items} {s t : List ℕ} {from to at p : ℕ} (w : Gathering g s t from to at p) where
  -- what the code needs to know of the record at p, once the slice has become u
  pub gather_next : {u : List ℕ} → p < to → Outside s u at (at + value_limit) → HoldsItems s from to → Growing s from to at → Next s u to at p
  gather_next lt o h r =
      let k = w.state r.held.items h.0 r.held.here h.1 in
      next-item o r.apart w.past (walked_first lt k.left)

  pub gather_room : p < to → HoldsItems s from to → Growing s from to at → Room set t at p
  gather_room lt h r =
      let k = w.state r.held.items h.0 r.held.here h.1 in
      let n = gather_next lt w.frame h r in
      let m = r.room in
      let l = n.length_same in
      record { held = record { items = k.us; here = k.made }; room = omega arith; item = n.item; apart = n.apart }

  -- f puts in what g gathers of one item
  module _ {f : Items → Value → Items} (law : (us : Items) (v : Value) (rest : Items) → insert_all us (g (more v rest)) ≡ insert_all (f us v) (g rest)) {u : List ℕ} {r : Added} (lt : p < to) (apart : (to ≤ at) ⊎ (at + value_limit ≤ from)) (q : Steps f t u at p r) where
    pub gather_on : r ≡ Ok tt → (n : ℕ) → n ≡ word s p → Gathering g s u from to at (p + n)
    gather_on e n d =
        let o : Outside s u at (at + value_limit) = outside_both w.frame q.frame in
        record {
          frame = o;
          past = let b = w.past in omega arith;
          state = λ vs ws a h.
              let k = w.state vs ws a h in
              let y = walked_first lt k.left in
              let x = q.right k.us y.first k.made (at_apart w.frame (apart_at s p apart w.past y.inside) y.first-at) in
              record { us = f k.us y.first; made = x.made e; left = items_on y n d (y.so ∙ law k.us y.first y.rest) };
        }

    pub gather_full : {why : Refusal} → r ≡ Err why → InsertsAll g s u from to at (Err why)
    gather_full e =
        record {
          frame = outside_both w.frame q.frame;
          right = λ vs ws a h.
              let k = w.state vs ws a h in
              let y = walked_first lt k.left in
              let x = q.right k.us y.first k.made (at_apart w.frame (apart_at s p apart w.past y.inside) y.first-at) in
              let whole = y.so ∙ law k.us y.first y.rest in
              let b : value_limit < size (collection set (f k.us y.first)) = long_past x.answers e in
              let c₁ = collection_size set (f k.us y.first) in
              let c₂ = collection_size set (insert_all vs (g ws)) in
              let m = ap sizes whole in
              record { answers = long_is (size (collection set (f k.us y.first))) x.answers e ∙ added_long (size (collection set (insert_all vs (g ws)))) (omega (arith, sizes_grow_all (f k.us y.first) (g y.rest))); made = λ z. impossible cc };
        }

  pub gather_end : g none ≡ none → to ≤ p → InsertsAll g s t from to at (Ok tt)
  unfolding insert_all
  gather_end e le =
      record {
        frame = w.frame;
        right = λ vs ws a h.
            let k = w.state vs ws a h in
            let whole : insert_all vs (g ws) ≡ k.us = walked_end le k.left ∙ ap (insert_all k.us) e in
            let m = subst (λ (us : Items). At t at (collection set us)) (sym whole) k.made in
            record { answers = added_put (size (collection set (insert_all vs (g ws)))) m.fine.short; made = λ z. m };
      }

-- ---- the items themselves

pub insert_law : (us : Items) (v : Value) (rest : Items) → insert_all us (themselves (more v rest)) ≡ insert_all (insert_one us v) (themselves rest)
unfolding insert_all
insert_law us v rest = refl
