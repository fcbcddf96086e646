-- Members that are chosen one after another: those that were put at the end of a sequence, with those left that will be, are all that are chosen.
use mathlib.Core.Path.{◌≡◌, refl, sym, ap, subst, ◌∙◌}
use mathlib.Core.Bool.{Bool, true, false, beq, cond}
use mathlib.Core.List.{List}
use mathlib.Core.Logic.{inl}
use Prim.Native.Nat.{ℕ, ◌+◌, ◌≤◌, ◌<◌}
use native.Mathlib.Omega.{arith}
use Rattle.std.specs.Prelude.{Ok}
use Rattle.integers.specs.Bytes.{word}
use Rattle.values.specs.Value.{set, sequence, Value, collection, Items, none, more, size, sizes, value_limit}
use Rattle.values.specs.Items.{join, snoc}
use Rattle.values.specs.Place.{At, ItemsAt, Holds, Outside}
use Rattle.values.proofs.Encoding.{collection_size, snoc_sizes}
use Rattle.values.proofs.Records.{holds, word_size, items_to, collection_shaped}
use Rattle.values.proofs.Frame.{outside_none, outside_wider, outside_both, at_below, items_below, word_below}
use Rattle.collections.specs.Building.{Added}
use Rattle.values.proofs.Joined.{join-none, join_join}
use Rattle.collections.specs.Finding.{HoldsCollection}
use Rattle.collections.specs.Building.{Appends, Empties, Retags}
use Rattle.collections.proofs.Additions.{added_put}
use Rattle.operators.specs.Gather.{keep_items}
use Rattle.operator_laws.proofs.Gather.{ascending_keep}
use Rattle.set_operators.specs.Members.{HoldsSets, in_all, InAll, as_wanted, wanted_of, Appendable, AppendsIf, Choice, Chosen}
use Rattle.gathering.proofs.Walks.{Left, walked_first, items_on, walked_end}
use Rattle.gathering.proofs.Growth.{Next, next-item}

-- ---- one item

-- code compares what was found with what is wanted
pub as_wanted_lem : (found wanted : Bool) → beq found wanted ≡ as_wanted wanted found
as_wanted_lem true true = refl
as_wanted_lem true false = refl
as_wanted_lem false true = refl
as_wanted_lem false false = refl

pub append_fits : {s t : List ℕ} {at x : ℕ} {r : Added} → Appendable s at x → Appends s t at x r → r ≡ Ok tt
append_fits {s} {at = at} {x = x} p q =
    let us = p.room.held.items in
    let v = p.room.item.value in
    let a = p.room.held.here in
    let h = p.room.item.here in
    let y = q.right us v a h in
    let c₁ = collection_size sequence us in
    let c₂ = collection_size sequence (snoc us v) in
    let c₃ = snoc_sizes us v in
    let m = word_size a in
    let n = word_size h in
    let f = p.fits in
    y.answers ∙ sym (added_put (size (collection sequence (snoc us v))) (omega arith))

pub append_done : {s t : List ℕ} {at x : ℕ} {r : Added} {b : Bool} → Appendable s at x → Appends s t at x r → b ≡ true → AppendsIf s t at x b
append_done p q e = record { frame = q.frame; right = λ us v a h. rw e ((q.right us v a h).made (append_fits p q)) }

pub passed_over : (s : List ℕ) (at x : ℕ) {b : Bool} → b ≡ false → AppendsIf s s at x b
passed_over s at x e = record { frame = outside_none s at (at + value_limit); right = λ us v a h. rw e a }

-- ---- what stands below stays

sets_still : {s t : List ℕ} {a b at : ℕ} → Outside s t at (at + value_limit) → b ≤ at → HoldsSets s a b → HoldsSets t a b
sets_still o h x = record { items = x.items; here = items_below o h x.here; sets = x.sets }

choice_still : {s t : List ℕ} {x a b at : ℕ} → Outside s t at (at + value_limit) → Choice s x a b at → Choice t x a b at
choice_still {s} {t} {x} {a} {b} {at} o r =
    let n = word_size r.held.here in
    let h = holds r.held.here in
    let low = h.low in
    let below = r.below in
    let e = word_below o x (omega arith) in
    let long = o.long in
    let room = r.room in
    record {
      held = record { items = r.held.items; here = at_below o (omega arith) r.held.here };
      below = omega arith;
      others = sets_still o r.under r.others;
      under = r.under;
      room = omega arith;
    }

-- ---- the walk

abbrev pub wanted_in : Bool → Items → Value → Bool
wanted_in wanted ws v = as_wanted wanted (in_all v ws)

pub record Picked (s t : List ℕ) (end at p : ℕ) (q : Value → Bool) (vs : Items) : Type 0 where
  pub us : Items
  pub made : At t at (collection sequence us)
  pub left : Left s end (λ (rest : Items). (keep_items q vs ≡ join us (keep_items q rest)) × (4 + (sizes us + sizes rest) ≤ value_limit)) p

pub record Choosing (s t : List ℕ) (x a b at : ℕ) (wanted : Bool) (p : ℕ) : Type 0 where
  pub choice : Choice s x a b at
  pub frame : Outside s t at (at + value_limit)
  pub state : (vs ws : Items) → At s x (collection set vs) → ItemsAt s a b ws → Picked s t (x + word s x) at p (wanted_in wanted ws) vs

choose_start : {s : List ℕ} {x a b at : ℕ} (wanted : Bool) → Choice s x a b at → At s at (collection sequence none) → Choosing s s x a b at wanted (x + 4)
unfolding join size
choose_start {s} {x} {a} {b} {at} wanted r e =
    record {
      choice = r;
      frame = outside_none s at (at + value_limit);
      state = λ vs ws h g.
          let short = h.fine.short in
          record { us = none; made = e; left = record { rest = vs; here = items_to refl h; so = (refl, omega arith) } };
    }

keep_on : (q : Value → Bool) (us : Items) (v : Value) (rest : Items) (b : Bool) → q v ≡ b → join us (keep_items q (more v rest)) ≡ join (cond b (snoc us v) us) (keep_items q rest)
unfolding keep_items join
keep_on q us v rest true e = rw e (sym (join_join us (more v none) (keep_items q rest)))
keep_on q us v rest false e = rw e

sizes_on : (us : Items) (v : Value) (b : Bool) → sizes (cond b (snoc us v) us) ≤ sizes us + size v
sizes_on us v true = omega (arith, snoc_sizes us v)
sizes_on us v false = omega arith

module _ {s t : List ℕ} {x a b at : ℕ} {wanted : Bool} {p : ℕ} (w : Choosing s t x a b at wanted p) where
  -- what is known of the set whose members they are, and of the sets that they are looked for in
  one : Picked s t (x + word s x) at p (wanted_in wanted w.choice.others.items) w.choice.held.items
  one = w.state w.choice.held.items w.choice.others.items w.choice.held.here w.choice.others.here

  pub choose_next : {u : List ℕ} → p < x + word s x → Outside s u at (at + value_limit) → Next s u (x + word s x) at p
  choose_next lt o = next-item {from = p} o (inl w.choice.below) (omega arith) (walked_first lt one.left)

  pub choose_test : p < x + word s x → Holds t p × HoldsSets t a b
  choose_test lt = ((choose_next lt w.frame).item, sets_still w.frame w.choice.under w.choice.others)

  pub choose_room : p < x + word s x → Appendable t at p
  unfolding size
  choose_room lt =
      let n = choose_next lt w.frame in
      let y = walked_first lt one.left in
      let c₁ = collection_size sequence one.us in
      let m = word_size one.made in
      let l = word_size y.first-at in
      let f = y.so.1 in
      let e = n.word_same in
      let long = n.length_same in
      let room = w.choice.room in
      record { room = record { held = record { items = one.us; here = one.made }; room = omega arith; item = n.item; apart = n.apart }; fits = omega arith }

  pub choose_built : HoldsCollection t at
  choose_built = record { kind = sequence; items = one.us; here = one.made }

  pub choose_on : {u : List ℕ} {found flag : Bool} → p < x + word s x → InAll t p a b found → flag ≡ as_wanted wanted found → AppendsIf t u at p flag → (n : ℕ) → n ≡ word s p → Choosing s u x a b at wanted (p + n)
  unfolding size
  choose_on {u} {found} {flag} lt i f q n d =
      record {
        choice = w.choice;
        frame = outside_both w.frame q.frame;
        state = λ vs ws h g.
            let k = w.state vs ws h g in
            let y = walked_first lt k.left in
            let below = w.choice.below in
            let inside = y.inside in
            let m = word_size y.first-at in
            let v_at : At t p y.first = at_below w.frame (omega arith) y.first-at in
            let e : wanted_in wanted ws y.first ≡ flag = ap (as_wanted wanted) (sym (i y.first ws v_at (items_below w.frame w.choice.under g))) ∙ sym f in
            let z = y.so.1 in
            record {
              us = cond flag (snoc k.us y.first) k.us;
              made = q.right k.us y.first k.made v_at;
              left = items_on y n d (y.so.0 ∙ keep_on (wanted_in wanted ws) k.us y.first y.rest flag e, omega (arith, sizes_on k.us y.first flag));
            };
      }

  choose_end : x + word s x ≤ p → (vs ws : Items) → At s x (collection set vs) → ItemsAt s a b ws → At t at (collection sequence (wanted_of wanted vs ws))
  unfolding keep_items
  choose_end le vs ws h g =
      let k = w.state vs ws h g in
      let e = (walked_end le k.left).0 ∙ join-none k.us in
      subst (λ (us : Items). At t at (collection sequence us)) (sym e) k.made

-- ---- from the empty sequence to the set

pub choose_begin : {s t : List ℕ} {x a b at : ℕ} (wanted : Bool) → Choice s x a b at → Empties s t at 4 → Choosing t t x a b at wanted (x + 4)
choose_begin {at = at} wanted r e =
    choose_start wanted (choice_still (outside_wider (omega arith) (omega arith) e.frame) r) (e.right sequence refl tt)

-- the set's end is where it was
pub end_still : {s t : List ℕ} {x a b at n : ℕ} → Choice s x a b at → Empties s t at 4 → n ≡ word s x → x + n ≡ x + word t x
end_still {x = x} r e q =
    let h = holds r.held.here in
    let low = h.low in
    let below = r.below in
    ap (λ (m : ℕ). x + m) (q ∙ sym (word_below e.frame x (omega arith)))

pub choose_close : {s t u v : List ℕ} {x a b at p : ℕ} {wanted : Bool} → Choice s x a b at → Empties s t at 4 → (w : Choosing t u x a b at wanted p) → x + word t x ≤ p → Retags u v at 3 → Chosen s v x a b at wanted
choose_close {s} {t} {u} {v} {x} {a} {b} {at} {p} {wanted} r e w le q =
    let o : Outside s t at (at + value_limit) = outside_wider (omega arith) (omega arith) e.frame in
    let n = word_size r.held.here in
    let below = r.below in
    record {
      frame = outside_both (outside_both o w.frame) (outside_wider (omega arith) (omega arith) q.frame);
      right = λ vs ws h g.
          let m = word_size h in
          let d = choose_end w le vs ws (at_below o (omega arith) h) (items_below o r.under g) in
          q.right sequence set (wanted_of wanted vs ws) d refl (ascending_keep (wanted_in wanted ws) vs (collection_shaped h.fine));
    }
