-- What the steps of building make of a collection. Assumes nothing.
use mathlib.Core.Path.{◌≡◌, refl, sym, ap, subst, ◌∙◌}
use mathlib.Core.Bool.{false}
use mathlib.Core.List.{List}
use mathlib.Core.Logic.{◌⊎◌, inl, inr}
use Prim.Native.Nat.{ℕ, ◌+◌, ◌≤◌, ◌<◌}
use native.Mathlib.Omega.{arith}
use borrow.Author.Tests.{le-leb, lt-leb}
use lib.ListN.{length}
use lib.Seq.{sets}
use Rattle.prelude.proofs.Absurd.{impossible}
use Rattle.integers.specs.Bytes.{word}
use Rattle.values.specs.Value.{Kind, set, sequence, number, Value, collection, Items, none, more, size, sizes, Shaped, value_limit}
use Rattle.values.specs.Items.{is_member, join, snoc, insert}
use Rattle.values.specs.Place.{At, ItemsAt}
use Rattle.values.proofs.Encoding.{size_low, snoc_sizes, collection_size}
use Rattle.values.proofs.Records.{word_size, holds, items_to, no_items, joined, parted, collection_shaped}
use Rattle.values.specs.Contract.{heading, PutHead}
use Rattle.values.proofs.Written.{headed_collection}
use Rattle.values.proofs.Frame.{items_below, outside_then, outside_none}
use Rattle.collections.specs.Building.{Added}
use Rattle.std.specs.Prelude.{Ok, Err, is_ok}
use Rattle.prelude.specs.declared.Refusal.{Refusal}
use Rattle.prelude.specs.declared.Refusal.TheVariants.{TooLarge}
use Rattle.collections.specs.Finding.{Sought}
use Rattle.values.proofs.Members.{insert_present, sizes_insert, ascending_insert}
use Rattle.collections.proofs.Seeking.{Member, belongs}
use Rattle.collections.specs.Finding.{Seeks}
use Rattle.collections.proofs.Sights.{sight, contained}
use Rattle.collections.specs.Building.{added, Room, Apart, Empties, Retags, Appends, Inserts}
use Rattle.collections.specs.Steps.{Gap, Fills, Slot, AddsAt}

-- ---- answers

pub added_put : (n : ℕ) → n ≤ value_limit → Ok tt ≡ added n
added_put n h = rw (le-leb n value_limit h)

pub added_long : (n : ℕ) → value_limit < n → Err TooLarge ≡ added n
added_long n h = rw (lt-leb n value_limit h)

-- two wholes of one size have one answer
answered : {r : Added} (m n : ℕ) → r ≡ added m → m ≡ n → r ≡ added n
answered m n e d = e ∙ ap added d

pub not_ok : {X : Type 0} {e : Refusal} → ◌≡◌ {A = Added} (Err e) (Ok tt) → X
not_ok d = impossible cc

pub not_err : {X : Type 0} {e : Refusal} → ◌≡◌ {A = Added} (Ok tt) (Err e) → X
not_err d = impossible cc

-- ---- a heading before items

module _ {s t : List ℕ} {at n kind : ℕ} (h : PutHead s t at n kind) where
  headed_run : {to : ℕ} (k : Kind) (vs : Items) → kind ≡ number k → at + n ≡ to → n ≤ value_limit → Shaped k vs → ItemsAt s (at + 4) to vs → At t at (collection k vs)
  headed_run k vs e end short shaped x = headed_collection n (h.bytes ∙ ap (λ (j : ℕ). sets s at (heading n j)) e) end short shaped x

  pub headed_both : {p to : ℕ} (k : Kind) (us vs : Items) → kind ≡ number k → at + n ≡ to → n ≤ value_limit → Shaped k (join us vs)
      → ItemsAt s (at + 4) p us → ItemsAt s p to vs → At t at (collection k (join us vs))
  headed_both k us vs e end short shaped x y =
      let f = x.ends in
      let g = y.ends in
      headed_run k (join us vs) e end short shaped (joined x y (omega arith))

pub emptied : {s t : List ℕ} {at kind : ℕ} → at + 4 ≤ length s → PutHead s t at 4 kind → Empties s t at kind
emptied {s} {at = at} room h = record { frame = h.outside; right = λ k e shaped. headed_run h k none e refl (omega arith) shaped (no_items s (at + 4) room) }

pub retagged : {s t : List ℕ} {at n kind : ℕ} → n ≡ word s at → PutHead s t at n kind → Retags s t at kind
retagged e h = record {
  frame = h.outside;
  right = λ k l vs x d shaped.
      let f = x.fine.short in
      let w = word_size x in
      headed_run h l vs d refl (omega arith) shaped (items_to e x);
}

-- ---- one item more

module _ {s : List ℕ} {at p x : ℕ} (slot : Slot s at p x) {n m : ℕ} (en : n ≡ word s at) (em : m ≡ word s x) where
  pub add_full : {kind : ℕ} → value_limit < n + m → AddsAt s s at p x kind (Err TooLarge)
  add_full h = record {
    frame = outside_none s at (at + value_limit);
    refused = λ e d. refl;
    answers = added_long (word s at + word s x) (omega arith);
    made = λ k us ws v e. not_ok e;
  }

  pub add_gap : n + m ≤ value_limit → Gap s p (at + n) x
  add_gap h =
      let r = slot.room in
      let low = slot.low in
      let high = slot.high in
      record { item = slot.item; order = omega arith; room = omega arith; apart = go slot.apart }
    where
      go : Apart s at x → (x + word s x ≤ p) ⊎ (at + n + word s x ≤ x)
      go (inl b) = let low = slot.low in inl (omega arith)
      go (inr b) = inr (omega arith)

  pub addition_done : n + m ≤ value_limit → {t u : List ℕ} {kind : ℕ} → Fills s t p (at + n) x → PutHead t u at (n + m) kind → AddsAt s u at p x kind (Ok tt)
  addition_done h {t} {u} f q =
      let r = slot.room in
      let low = slot.low in
      let high = slot.high in
      let size_x = slot.item.low in
      record {
        frame = outside_then at (at + value_limit) (omega arith) (omega arith) (omega arith) (omega arith) f.frame q.outside;
        refused = λ e d. not_err d;
        answers = added_put (word s at + word s x) (omega arith);
        made = λ k us ws v e d a b g shaped.
            let w = word_size g in
            let ends = b.ends in
            let b' : ItemsAt s p (at + n) ws = subst (λ (j : ℕ). ItemsAt s p (at + j) ws) (sym en) b in
            let end : at + (n + m) ≡ at + n + size v = omega arith in
            headed_both q k us (more v ws) d end h shaped (items_below f.frame (omega arith) a) (f.right ws v b' g (omega arith));
      }

pub slot_in : {k : Kind} {s : List ℕ} {at x : ℕ} (p : ℕ) → Room k s at x → at + 4 ≤ p → p ≤ at + word s at → Slot s at p x
slot_in p r low high = record { held = holds r.held.here; low = low; high = high; room = r.room; item = r.item; apart = r.apart }

-- the items of a collection that part at q
pub parts_at : {k : Kind} {s : List ℕ} {at : ℕ} {vs : Items} → At s at (collection k vs) → (us ws : Items) → vs ≡ join us ws → (q : ℕ)
    → q ≡ at + 4 + sizes us → ItemsAt s (at + 4) q us × ItemsAt s q (at + word s at) ws
parts_at {k} {s} {at} {vs} h us ws e q d =
    let both = parted us ws (subst (λ (l : Items). ItemsAt s (at + 4) (at + word s at) l) e (items_to refl h)) in
    (subst (λ (j : ℕ). ItemsAt s (at + 4) j us) (sym d) both.0, subst (λ (j : ℕ). ItemsAt s j (at + word s at) ws) (sym d) both.1)

-- ---- at the end of a sequence

pub append_slot : {s : List ℕ} {at x n : ℕ} → Room sequence s at x → n ≡ word s at → Slot s at (at + n) x
append_slot {at = at} {n = n} r e = let h = holds r.held.here in slot_in (at + n) r (omega arith) (omega arith)

pub appended : {s t : List ℕ} {at x n : ℕ} {r : Added} → n ≡ word s at → AddsAt s t at (at + n) x 4 r → Appends s t at x r
appended {s} {t} {at} {x} {n} e a = record {
  frame = a.frame;
  refused = a.refused;
  right = λ vs v h g.
      let w = word_size h in
      let z = word_size g in
      let c = collection_size sequence vs in
      let d = collection_size sequence (snoc vs v) in
      let i = snoc_sizes vs v in
      let end : ItemsAt s (at + n) (at + word s at) none = subst (λ (j : ℕ). ItemsAt s (at + n) (at + j) none) e (no_items s (at + n) (let f = h.fits in omega arith)) in
      record {
        answers = answered (word s at + word s x) (size (collection sequence (snoc vs v))) a.answers (omega arith);
        made = λ d. a.made sequence vs none v d refl (items_to e h) end g tt;
        still = λ d. let f = ap sizes d in absurd (omega (arith, size_low v));
      };
}

-- ---- in order into a set

-- the members part at q, and v belongs there
record Part (s : List ℕ) (at : ℕ) (vs : Items) (v : Value) (q : ℕ) : Type 0 where
  us : Items
  ws : Items
  us_at : ItemsAt s (at + 4) q us
  ws_at : ItemsAt s q (at + word s at) ws
  new : is_member v vs ≡ false
  is : insert v vs ≡ join us (more v ws)
  low : at + 4 ≤ q
  high : q ≤ at + word s at

part_at : {s : List ℕ} {at : ℕ} {vs : Items} {v : Value} {q : ℕ} → At s at (collection set vs) → Member v vs (at + 4) (Err q) → Part s at vs v q
part_at {s} {at} {vs} {v} h (belongs q us ws e f g i) =
    let y = parts_at h us ws f q g in
    record { us = us; ws = ws; us_at = y.0; ws_at = y.1; new = e; is = i; low = omega arith; high = let d = y.1.ends in omega arith }

module _ {s : List ℕ} {at x : ℕ} {sought : Sought} (f : Seeks s at x false sought) where
  pub inserted_here : (q : ℕ) → sought ≡ Ok q → Inserts s s at x (Ok tt)
  inserted_here q e = record {
    frame = outside_none s at (at + value_limit);
    refused = λ e d. refl;
    right = λ vs v h g.
        let i = insert_present v vs (collection_shaped h.fine) (sym (contained f vs v h g) ∙ ap is_ok e) in
        record {
          answers = added_put (size (collection set vs)) h.fine.short ∙ ap (λ (ws : Items). added (size (collection set ws))) (sym i);
          made = λ d. rw i h;
          still = λ d. refl;
        };
  }

  -- where a new member belongs
  part : {vs : Items} {v : Value} (q : ℕ) → sought ≡ Err q → At s at (collection set vs) → At s x v → Part s at vs v q
  part {vs} {v} q e h g = part_at h (subst (Member v vs (at + 4)) e (sight f h g))

  pub insert_slot : Room set s at x → (q : ℕ) → sought ≡ Err q → Slot s at q x
  insert_slot r q e = let y = part q e r.held.here r.item.here in slot_in q r y.low y.high

  pub inserted_before : {t : List ℕ} {r : Added} (q : ℕ) → sought ≡ Err q → AddsAt s t at q x 3 r → Inserts s t at x r
  inserted_before {t} {r} q e a = record {
    frame = a.frame;
    refused = a.refused;
    right = λ vs v h g.
        let y = part q e h g in
        let w = word_size h in
        let z = word_size g in
        let c = collection_size set vs in
        let d = collection_size set (insert v vs) in
        let i = sizes_insert v vs y.new in
        record {
          answers = answered (word s at + word s x) (size (collection set (insert v vs))) a.answers (omega arith);
          made = λ d.
              rw y.is
              (a.made set y.us y.ws v d refl y.us_at y.ws_at g (rw y.is at (ascending_insert v vs (collection_shaped h.fine))));
          still = λ d. let j = ap sizes d in absurd (omega (arith, size_low v));
        };
  }
