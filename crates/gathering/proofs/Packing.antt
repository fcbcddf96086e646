-- Items moved together within a collection, over what is left out. Those that are done stand right after the heading, in order; those that are
-- left stand where they stood.
use mathlib.Core.Path.{◌≡◌, sym, subst}
use mathlib.Core.List.{List}
use Prim.Native.Nat.{ℕ, ◌+◌, ◌≤◌}
use native.Mathlib.Omega.{arith}
use lib.ListN.{take, drop}
use Rattle.integers.specs.Bytes.{word}
use Rattle.values.specs.Value.{Kind, number, collection, Items, none, sizes, Shaped, value_limit}
use Rattle.values.specs.Items.{join}
use Rattle.values.specs.Place.{At, ItemsAt, Outside}
use Rattle.values.specs.Contract.{Moved, PutHead}
use Rattle.values.proofs.Records.{holds, items_to, items_none, no_items, joined}
use Rattle.values.proofs.Frame.{items_moved, items_below, items_above, outside_none, outside_then}
use Rattle.values.proofs.Written.{headed_collection}
use Rattle.collections.specs.Finding.{HoldsKind}
use Rattle.operators.specs.Answer.{Answer, is}
use Rattle.std.specs.Prelude.{Ok}
use Rattle.calling.specs.Scratch.{Kept}
use Rattle.calling.proofs.Answering.{is_done}
use Rattle.calling.proofs.Framing.{kept_outside}
use Rattle.calling.specs.Operands.{OnItems}
use Rattle.calling.proofs.Kinding.{items_by}

-- Of the collection that stood at a place of s, with the items `all`, there are in t those done, up to q, and those left, from p on. R says what they are.
pub record Packing (k : Kind) (R : Items → Items → Items → Type 0) (s t : List ℕ) (at end p q : ℕ) : Type 0 where
  pub all : Items
  pub all-at : At s at (collection k all)
  pub done : Items
  pub rest : Items
  pub so : R all done rest
  pub done_at : ItemsAt t (at + 4) q done
  pub rest_at : ItemsAt t p end rest
  pub behind : q ≤ p
  pub short : end ≤ at + value_limit
  pub frame : Outside s t (at + 4) end

-- at first nothing is done
pub pack_start : {k : Kind} {R : Items → Items → Items → Type 0} {s : List ℕ} {at n : ℕ} → n ≡ word s at → (h : HoldsKind k s at) → R h.items none h.items → Packing k R s s at (at + n) (at + 4) (at + 4)
pack_start {s = s} {at = at} {n = n} e h r =
    let a = h.here in
    let b = holds a in
    record {
      all = h.items;
      all-at = a;
      done = none;
      rest = h.items;
      so = r;
      done_at = no_items s (at + 4) (omega arith);
      rest_at = items_to e a;
      behind = omega arith;
      short = omega arith;
      frame = outside_none s (at + 4) (at + n);
    }

module _ {k : Kind} {R : Items → Items → Items → Type 0} {s t : List ℕ} {at end p q : ℕ} (w : Packing k R s t at end p q) where
  -- some are left out
  pub pack_past : {Q : Items → Items → Items → Type 0} {p' : ℕ} {ws : Items} → p ≤ p' → ItemsAt t p' end ws → Q w.all w.done ws → Packing k Q s t at end p' q
  pack_past {ws = ws} le x o =
      let b = w.behind in
      record {
        all = w.all;
        all-at = w.all-at;
        done = w.done;
        rest = ws;
        so = o;
        done_at = w.done_at;
        rest_at = x;
        behind = omega arith;
        short = w.short;
        frame = w.frame;
      }

  -- the n bytes of some items are moved down to those done
  pub pack_move : {Q : Items → Items → Items → Type 0} {u : List ℕ} {from n p' : ℕ} {us ws : Items} → Moved t u from q n → ItemsAt t from (from + n) us → ItemsAt t p' end ws
      → p ≤ from → from + n ≤ p' → Q w.all (join w.done us) ws → Packing k Q s u at end p' (q + n)
  pack_move {u = u} {from = from} {n = n} {p' = p'} {us = us} {ws = ws} m x y low high o =
      let b = w.behind in
      let d = w.done_at.ends in
      let f = x.ends in
      let g = y.ends in
      let i = w.short in
      let l = m.outside.long in
      let j = y.fits in
      let e : sizes us ≡ n = omega arith in
      let moved : ItemsAt u q (q + n) us = items_moved q (q + n) (omega arith) (omega arith) (subst (λ (z : ℕ). take z (drop q u) ≡ take z (drop from t)) (sym e) m.bytes) x in
      record {
        all = w.all;
        all-at = w.all-at;
        done = join w.done us;
        rest = ws;
        so = o;
        done_at = joined (items_below m.outside (omega arith) w.done_at) moved (omega arith);
        rest_at = items_above m.outside (omega arith) y;
        behind = omega arith;
        short = w.short;
        frame = outside_then (at + 4) end (omega arith) (omega arith) (omega arith) (omega arith) w.frame m.outside;
      }

  -- none are left, and the heading is written anew
  pub pack_end : {l : Kind} {f : Items → Answer} {u : List ℕ} {n : ℕ} → end ≤ p → at + n ≡ q → PutHead t u at n (number l)
      → ((vs ws : Items) → At s at (collection k vs) → 4 + sizes ws ≤ value_limit → R vs ws none → Shaped l ws × (f vs ≡ is (collection l ws)))
      → OnItems k f s u at (Ok tt)
  pack_end {l} {f} {u} {n} le e h g =
      let b = w.behind in
      let i = w.short in
      let d = w.done_at.ends in
      let x = w.rest_at.ends in
      let so : R w.all w.done none = subst (R w.all w.done) (items_none le w.rest_at) w.so in
      let y = g w.all w.done w.all-at (omega arith) so in
      let kept : Kept s u at = kept_outside {from = at} {to = end} (omega arith) (outside_then at end (omega arith) (omega arith) (omega arith) (omega arith) w.frame h.outside) in
      items_by kept w.all-at (is_done y.1 (headed_collection n h.bytes e (omega arith) y.0 w.done_at))
