-- Two sets merged: what is built is the union of the members passed, each of which is lower than every member left.
use mathlib.Core.Path.{◌≡◌, refl, sym, ap, ap₂, subst, ◌∙◌}
use mathlib.Core.List.{List}
use mathlib.Core.Logic.{inl}
use Prim.Native.Nat.{ℕ, ◌+◌, ◌-◌, ◌≤◌, ◌<◌}
use native.Mathlib.Omega.{arith}
use lib.IntN.{ℤ}
use lib.ListN.{length, take, drop}
use Rattle.prelude.proofs.Absurd.{impossible}
use Rattle.integers.specs.Bytes.{word}
use Rattle.integers.specs.Whole.{InRange}
use Rattle.std.specs.declared.cmp.Ordering.{Ordering}
use Rattle.std.specs.declared.cmp.Ordering.TheVariants.{Less, Equal, Greater}
use Rattle.values.specs.Value.{set, Value, integer, collection, Items, none, more, size, sizes, Ascending, value_limit}
use Rattle.values.specs.Items.{join, snoc, in_order}
use Rattle.values.specs.Place.{At, ItemsAt, Holds, Outside}
use Rattle.values.specs.Contract.{Ordered, Put, Copyable, Copied, PutHead}
use Rattle.values.proofs.Encoding.{collection_size, snoc_sizes}
use Rattle.values.proofs.Joined.{join-none}
use Rattle.values.proofs.Records.{integer_range, holds, word_size, items_to, items_none, no_items, first-of, uncons_of, one_more, one_value, collection_shaped}
use Rattle.values.proofs.Frame.{outside_none, outside_wider, outside_both, items_below}
use Rattle.values.proofs.Written.{headed_collection}
use Rattle.collections.specs.Building.{Added}
use Rattle.std.specs.Prelude.{Ok, Err}
use Rattle.prelude.specs.declared.Refusal.TheVariants.{TooLarge}
use Rattle.collections.proofs.Additions.{added_put, added_long}
use Rattle.operators.specs.Gather.{insert_all}
use Rattle.operators.specs.Sets.{unite}
use Rattle.operator_laws.proofs.Sets.{ascending_parts, sizes_passed}
use Rattle.gathering.specs.Inserting.{Grown}
use Rattle.set_operators.specs.Members.{least_on, LeastOn, Merge, Merged}
use Rattle.set_operators.proofs.Passing.{Passes, passes}

-- ---- on which side it is, as the code tells it

module _ {s : List ℕ} {a a' b b' : ℕ} where
  pub side_left : b ≡ b' → LeastOn s a a' b b' Less
  side_left e vs ws h k = ap (least_on vs) (sym (items_none (omega arith) k))

  pub side_right : (b ≡ b' → ⊥) → a ≡ a' → LeastOn s a a' b b' Greater
  side_right n e vs ws h k = sym (ap₂ least_on (items_none (omega arith) h) (uncons_of n k).is)

  pub side_compared : {o : Ordering} → (a ≡ a' → ⊥) → (b ≡ b' → ⊥) → Ordered s a b o → LeastOn s a a' b b' o
  side_compared n m q vs ws h k =
      let x = uncons_of n h in
      let y = uncons_of m k in
      q x.first y.first x.first-at y.first-at ∙ sym (ap₂ least_on x.is y.is)

-- ---- where they stand

pub members_same : {vs ws : Items} → collection set vs ≡ collection set ws → vs ≡ ws
members_same e = cc

-- Members of the sets at x and y are passed: us of the left one and xs of the right one. Those left, vs and ws, stand from a up to a' and from b
-- up to b'. What is built, up to p, is the union of those passed; followed by those left of either side it ascends.
pub record Merging (s t : List ℕ) (x y at a a' b b' p : ℕ) : Type 0 where
  pub merge : Merge s x y at
  pub frame : Outside s t at (at + value_limit)
  pub us : Items
  pub vs : Items
  pub xs : Items
  pub ws : Items
  pub left_so : merge.left.items ≡ join us vs
  pub right_so : merge.right.items ≡ join xs ws
  pub left_at : ItemsAt t a a' vs
  pub right_at : ItemsAt t b b' ws
  pub left_under : a' ≤ at
  pub right_under : b' ≤ at
  pub built : ItemsAt t (at + 4) p (unite us xs)
  pub short : p ≤ at + value_limit
  pub left_above : Ascending (join (unite us xs) vs)
  pub right_above : Ascending (join (unite us xs) ws)

-- at first all are left
pub merge_start : {s : List ℕ} {x y at n m : ℕ} → Merge s x y at → n ≡ word s x → m ≡ word s y → Merging s s x y at (x + 4) (x + n) (y + 4) (y + m) (at + 4)
unfolding join insert_all
merge_start {s} {x} {y} {at} {n} {m} r e d =
    let room = r.room in
    let l = r.left_below in
    let h = r.right_below in
    record {
      merge = r;
      frame = outside_none s at (at + value_limit);
      us = none;
      vs = r.left.items;
      xs = none;
      ws = r.right.items;
      left_so = refl;
      right_so = refl;
      left_at = items_to e r.left.here;
      right_at = items_to d r.right.here;
      left_under = omega arith;
      right_under = omega arith;
      built = no_items s (at + 4) (omega arith);
      short = omega arith;
      left_above = collection_shaped r.left.here.fine;
      right_above = collection_shaped r.right.here.fine;
    }

-- m, the least of those left, and those left once it is passed
record Least (t : List ℕ) (at a a' b b' : ℕ) (o : Ordering) (m : Value) (vs ws : Items) : Type 0 where
  pub here : At t (in_order o a a b) m
  pub under : in_order o a a b + size m ≤ at
  pub left_at : ItemsAt t (in_order o (a + size m) (a + size m) a) a' vs
  pub right_at : ItemsAt t (in_order o b (b + size m) (b + size m)) b' ws

least_of : {t : List ℕ} {at a a' b b' : ℕ} (o : Ordering) (m : Value) (vs ws : Items) → a' ≤ at → b' ≤ at
    → ItemsAt t a a' (in_order o (more m vs) (more m vs) vs) → ItemsAt t b b' (in_order o ws (more m ws) (more m ws)) → Least t at a a' b b' o m vs ws
least_of Less m vs ws f g h k = let x = first-of h in let e = x.1.ends in record { here = x.0; under = omega arith; left_at = x.1; right_at = k }
least_of Equal m vs ws f g h k = let x = first-of h in let e = x.1.ends in record { here = x.0; under = omega arith; left_at = x.1; right_at = (first-of k).1 }
least_of Greater m vs ws f g h k = let x = first-of k in let e = x.1.ends in record { here = x.0; under = omega arith; left_at = h; right_at = x.1 }

further : (o : Ordering) (a b n : ℕ) → 0 < n → a + b < in_order o (a + n) (a + n) a + in_order o b (b + n) (b + n)
further Less a b n lt = omega arith
further Equal a b n lt = omega arith
further Greater a b n lt = omega arith

module _ {s t : List ℕ} {x y at a a' b b' p : ℕ} (w : Merging s t x y at a a' b b' p) where
  left_whole : Ascending (join w.us w.vs)
  left_whole = subst Ascending w.left_so (collection_shaped w.merge.left.here.fine)

  -- whatever the sets at x and y are, it is their union
  whole : {u : List ℕ} {r : Added} → Outside s u at (at + value_limit) → Grown u at (unite (join w.us w.vs) (join w.xs w.ws)) r → Merged s u x y at r
  whole {u} {r} o g =
      record {
        frame = o;
        right = λ vs ws h k.
            let e : w.merge.left.items ≡ vs = members_same (one_value w.merge.left.here h) in
            let d : w.merge.right.items ≡ ws = members_same (one_value w.merge.right.here k) in
            subst (λ (us : Items). Grown u at us r) (ap₂ unite (sym w.left_so ∙ e) (sym w.right_so ∙ d)) g;
      }

  -- where a member is left, o says on which side the least is, and it stands at `least`
  module _ {o : Ordering} {least : ℕ} (lt : a + b < a' + b') (q : LeastOn t a a' b b' o) (e : least ≡ in_order o a a b) where
    next : Passes w.us w.xs w.vs w.ws o
    next =
        let l = w.left_at.ends in
        let r = w.right_at.ends in
        subst (Passes w.us w.xs w.vs w.ws) (sym (q w.vs w.ws w.left_at w.right_at))
        (passes w.us w.xs w.vs w.ws (omega arith) left_whole w.left_above w.right_above)

    least-is : Least t at a a' b b' o next.m next.vs' next.ws'
    least-is =
        least_of o next.m next.vs' next.ws' w.left_under w.right_under (subst (ItemsAt t a a') next.left_is w.left_at)
        (subst (ItemsAt t b b') next.right_is w.right_at)

    least_at : At t least next.m
    least_at = subst (λ (z : ℕ). At t z next.m) (sym e) least-is.here

    pub merge_holds : Holds t least
    merge_holds = holds least_at

    module _ {n : ℕ} (d : n ≡ word t least) where
      is_size : n ≡ size next.m
      is_size = d ∙ word_size least_at

      -- what is built and the next member take as many bytes as the union of those passed and of it
      grown : at + size (collection set (unite next.us' next.xs')) ≡ p + n
      grown =
          let c = collection_size set (unite next.us' next.xs') in
          let i = ap sizes next.is in
          let j = snoc_sizes (unite w.us w.xs) next.m in
          let k = w.built.ends in
          let l = is_size in
          omega arith

      pub merge_full : at + value_limit < p + n → Merged s t x y at (Err TooLarge)
      merge_full over =
          let us = unite (join w.us w.vs) (join w.xs w.ws) in
          let so : unite (join next.us' next.vs') (join next.xs' next.ws') ≡ us = ap₂ unite (sym next.left_so) (sym next.right_so) in
          let i = ap sizes so in
          let c₁ = collection_size set us in
          let c₂ = collection_size set (unite next.us' next.xs') in
          let g = grown in
          let h = sizes_passed next.us' next.vs' next.xs' next.ws' (subst Ascending next.left_so left_whole) in
          whole w.frame (record { answers = added_long (size (collection set us)) (omega arith); made = λ z. impossible cc })

      pub merge_copy : p + n ≤ at + value_limit → Copyable t least p
      merge_copy fits =
          let u = least-is.under in
          let l = is_size in
          let k = w.built.ends in
          let long = w.frame.long in
          let room = w.merge.room in
          record { held = merge_holds; room = omega arith; apart = inl (omega arith) }

      -- it is copied to what is built, and the place of its side, or of both, moves past it
      pub merge_on : {u : List ℕ} {a₂ b₂ r : ℕ} → p + n ≤ at + value_limit → Copied t u least p r
          → a₂ ≡ in_order o (a + (r - p)) (a + (r - p)) a → b₂ ≡ in_order o b (b + (r - p)) (b + (r - p)) → Merging s u x y at a₂ a' b₂ b' r
      merge_on {u} {a₂} {b₂} {r} fits c i j =
          let z = c.ends in
          let k = w.built.ends in
          let f = w.left_under in
          let g = w.right_under in
          let l = is_size in
          let v = grown in
          let past : r - p ≡ size next.m = omega arith in
          record {
            merge = w.merge;
            frame = outside_both w.frame (outside_wider (omega arith) (omega arith) c.outside);
            us = next.us';
            vs = next.vs';
            xs = next.xs';
            ws = next.ws';
            left_so = w.left_so ∙ next.left_so;
            right_so = w.right_so ∙ next.right_so;
            left_at = items_below c.outside (omega arith) (subst (λ (q : ℕ). ItemsAt t q a' next.vs') (ap (λ (m : ℕ). in_order o (a + m) (a + m) a) (sym past) ∙ sym i) least-is.left_at);
            right_at = items_below c.outside (omega arith) (subst (λ (q : ℕ). ItemsAt t q b' next.ws') (ap (λ (m : ℕ). in_order o b (b + m) (b + m)) (sym past) ∙ sym j) least-is.right_at);
            left_under = f;
            right_under = g;
            built =
                subst (ItemsAt u (at + 4) r) (sym next.is)
                (subst (λ (q : ℕ). ItemsAt u (at + 4) q (snoc (unite w.us w.xs) next.m)) (omega arith)
                (one_more (items_below c.outside (omega arith) w.built) (c.here next.m least_at) (omega arith)));
            short = omega arith;
            left_above = subst (λ (us : Items). Ascending (join us next.vs')) (sym next.is) next.left_above;
            right_above = subst (λ (us : Items). Ascending (join us next.ws')) (sym next.is) next.right_above;
          }

    pub merge_less : {a₂ b₂ n : ℕ} → n ≡ word t least → a₂ ≡ in_order o (a + n) (a + n) a → b₂ ≡ in_order o b (b + n) (b + n) → a' + b' - (a₂ + b₂) < a' + b' - (a + b)
    merge_less {n = n} d i j = let h = merge_holds.low in let f = further o a b n (omega arith) in omega arith

  -- none are left, and the heading is written
  pub merge_close : {u : List ℕ} {n : ℕ} → a' + b' ≤ a + b → at + n ≡ p → PutHead t u at n 3 → Merged s u x y at (Ok tt)
  merge_close {u} {n} le e h =
      let us = unite w.us w.xs in
      let l = w.left_at.ends in
      let r = w.right_at.ends in
      let i = w.short in
      let left_none : join w.us w.vs ≡ w.us = ap (join w.us) (items_none (omega arith) w.left_at) ∙ join-none w.us in
      let right_none : join w.xs w.ws ≡ w.xs = ap (join w.xs) (items_none (omega arith) w.right_at) ∙ join-none w.xs in
      let made : At u at (collection set us) = headed_collection n h.bytes e (omega arith) (ascending_parts us w.vs w.left_above).0 w.built in
      whole (outside_both w.frame (outside_wider (omega arith) (omega arith) h.outside))
      (subst (λ (ys : Items). Grown u at ys (Ok tt)) (sym (ap₂ unite left_none right_none))
      (record { answers = added_put (size (collection set us)) made.fine.short; made = λ z. made }))
