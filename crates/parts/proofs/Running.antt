-- The functions on runs, said of lists, places and numbers alone.
use mathlib.Core.Path.{◌≡◌, refl, sym, ap, ap₂, subst, ◌∙◌}
use mathlib.Core.Bool.{false}
use mathlib.Core.List.{List, [], ◌∷◌}
use Prim.Native.Nat.{ℕ, suc, ◌+◌, ◌/◌, ◌%◌, ◌≤◌, ◌<◌}
use native.Mathlib.Decide.{ℕ_discrete}
use native.Mathlib.Numerals.{add-one}
use native.Mathlib.Omega.{arith}
use lib.ListN.{length, get_or, drop, length-drop}
use lib.Seq.{drop-cons}
use Rattle.prelude.proofs.Absurd.{impossible}
use Rattle.integers.specs.Bytes.{word}
use Rattle.values.specs.Value.{Value, boolean, none, more, size, sizes}
use Rattle.values.specs.Place.{At, ItemsAt}
use Rattle.values.proofs.Encoding.{size_low}
use Rattle.values.proofs.Records.{first-of, items_none, one_list, word_size}
use Rattle.patterns.specs.Pattern.{list_of, items_of}
use Rattle.patterns.proofs.Laws.Matched.{list_items}
use Rattle.parts.specs.declared.runs.Run.{Run}
use Rattle.parts.specs.Chosen.{every_one, chosen}
use Rattle.parts.proofs.Chosen.{keep_odd, keep_even, chosen_all, chosen_keep, chosen_none}
use Rattle.parts.specs.Run.{Ready, RunIs, RunHeld, MoreHeld, Startable, ReadyRun, RestOf, CountOf, SkipHeld, Skipped}

-- ---- lists of values whose records stand between two places

abbrev pub Stand : List ℕ → ℕ → ℕ → List Value → Type 0
Stand s from to vs = ItemsAt s from to (items_of vs)

pub one_stand : {s : List ℕ} {from to : ℕ} (vs ws : List Value) → Stand s from to vs → Stand s from to ws → vs ≡ ws
one_stand vs ws h g = sym (list_items vs) ∙ ap list_of (one_list h g) ∙ list_items ws

pub stand_none : {s : List ℕ} {from to : ℕ} (vs : List Value) → to ≤ from → Stand s from to vs → vs ≡ []
unfolding items_of
stand_none [] e h = refl
stand_none {from = from} {to = to} (v ∷ vs) e h = let z : more v (items_of vs) ≡ none = items_none e h in cc

-- the first of them, and the others
pub record Lead (s : List ℕ) (from to : ℕ) (vs : List Value) : Type 0 where
  pub first : Value
  pub others : List Value
  pub is : vs ≡ first ∷ others
  pub first-at : At s from first
  pub others_at : Stand s (from + word s from) to others
  pub low : 4 ≤ word s from
  pub inside : from + word s from ≤ to

pub lead_cons : {s : List ℕ} {from to : ℕ} (v : Value) (vs : List Value) → Stand s from to (v ∷ vs) → Lead s from to (v ∷ vs)
unfolding items_of
lead_cons {s} {from} {to} v vs h =
    let p = first-of h in
    let w = word_size p.0 in
    let g = p.1.ends in
    record {
      first = v;
      others = vs;
      is = refl;
      first-at = p.0;
      others_at = subst (λ (m : ℕ). Stand s (from + m) to vs) (sym w) p.1;
      low = omega (arith, size_low v);
      inside = omega arith;
    }

pub lead : {s : List ℕ} {from to : ℕ} (vs : List Value) → from < to → Stand s from to vs → Lead s from to vs
unfolding items_of sizes
lead {from = from} {to = to} [] lt h = let e : from + 0 ≡ to = h.ends in absurd (omega arith)
lead (v ∷ vs) lt h = lead_cons v vs h

pub between : {s : List ℕ} {from to : ℕ} (vs : List Value) → Stand s from to vs → (from ≤ to) × (to ≤ length s)
between vs h = let e = h.ends in let f = h.fits in (omega arith, omega arith)

-- ---- chosen, one after the other

chosen_skip : (m : ℕ) (v : Value) (vs : List Value) → m % 2 ≡ 0 → m ≤ every_one → chosen m (v ∷ vs) ≡ chosen (m / 2) vs
chosen_skip m v vs e h =
    chosen_keep m (v ∷ vs) (λ q. omega arith) ∙ keep_even m (m / 2) v vs e refl ∙ sym (chosen_keep (m / 2) vs (λ q. omega arith))

chosen_take : (m : ℕ) (v : Value) (vs : List Value) → m % 2 ≡ 1 → m ≤ every_one → (m ≡ every_one → ⊥) → chosen m (v ∷ vs) ≡ v ∷ chosen (m / 2) vs
chosen_take m v vs e h f =
    chosen_keep m (v ∷ vs) f ∙ keep_odd m (m / 2) v vs e refl ∙ ap (λ (l : List Value). v ∷ l) (sym (chosen_keep (m / 2) vs (λ q. omega arith)))

chosen_every : (m : ℕ) (vs : List Value) → m ≡ every_one → chosen m vs ≡ vs
chosen_every m vs e = ap (λ (k : ℕ). chosen k vs) e ∙ chosen_all vs

pub ready_odd : (m : ℕ) (vs : List Value) → m % 2 ≡ 1 → Ready m vs
ready_odd m [] e = tt
ready_odd m (v ∷ vs) e = e

-- ---- what a run denotes

pub run_one : {s : List ℕ} {r : Run} (vs ws : List Value) → RunIs s r vs → RunIs s r ws → vs ≡ ws
run_one {s} {r} vs ws h g = h.is ∙ ap (chosen r.mask) (one_stand h.all g.all h.here g.here) ∙ sym g.is

pub run_end : {s : List ℕ} {r : Run} (vs : List Value) → r.to ≤ r.from → RunIs s r vs → vs ≡ []
run_end {r = r} vs e h = h.is ∙ ap (chosen r.mask) (stand_none h.all e h.here) ∙ chosen_none r.mask

-- the item at which it stands, and what follows
pub record Head (s : List ℕ) (r : Run) (vs : List Value) : Type 0 where
  pub first : Value
  pub others : List Value
  pub is : vs ≡ first ∷ others
  pub first-at : At s r.from first
  pub after : List Value
  pub after_at : Stand s (r.from + word s r.from) r.to after
  pub low : 4 ≤ word s r.from
  pub inside : r.from + word s r.from ≤ r.to
  pub fits : r.to ≤ length s
  pub odd : r.mask % 2 ≡ 1
  pub small : r.mask ≤ every_one
  pub every : r.mask ≡ every_one → others ≡ after
  pub some : (r.mask ≡ every_one → ⊥) → others ≡ chosen (r.mask / 2) after

head_at : {s : List ℕ} {r : Run} (vs : List Value) (all : List Value) → Stand s r.from r.to all → r.mask ≤ every_one → Ready r.mask all → vs ≡ chosen r.mask all → r.from < r.to → Head s r vs
head_at {s} {r} vs all h small stands e lt =
    let l = lead all lt h in
    let o : r.mask % 2 ≡ 1 = subst (Ready r.mask) l.is stands in
    go l o (ℕ_discrete r.mask every_one)
  where
    go : (l : Lead s r.from r.to all) → r.mask % 2 ≡ 1 → Dec (r.mask ≡ every_one) → Head s r vs
    go l o (yes q) = record {
      first = l.first;
      others = l.others;
      is = e ∙ chosen_every r.mask all q ∙ l.is;
      first-at = l.first-at;
      after = l.others;
      after_at = l.others_at;
      low = l.low;
      inside = l.inside;
      fits = h.fits;
      odd = o;
      small = small;
      every = λ z. refl;
      some = λ f. absurd (f q);
    }
    go l o (no f) = record {
      first = l.first;
      others = chosen (r.mask / 2) l.others;
      is = e ∙ ap (chosen r.mask) l.is ∙ chosen_take r.mask l.first l.others o small f;
      first-at = l.first-at;
      after = l.others;
      after_at = l.others_at;
      low = l.low;
      inside = l.inside;
      fits = h.fits;
      odd = o;
      small = small;
      every = λ z. absurd (f z);
      some = λ z. refl;
    }

pub run_head : {s : List ℕ} {r : Run} (vs : List Value) → r.from < r.to → RunIs s r vs → Head s r vs
run_head vs lt h = head_at vs h.all h.here h.small h.stands h.is lt

-- a run that has an item is not at its end
pub more_less : {s : List ℕ} {r : Run} {v : Value} {vs : List Value} → RunIs s r (v ∷ vs) → r.from < r.to
unfolding items_of sizes
more_less {s} {r} {v} {vs} h = go h.all h.here h.is
  where
    go : (all : List Value) → Stand s r.from r.to all → v ∷ vs ≡ chosen r.mask all → r.from < r.to
    go [] g e = let z : v ∷ vs ≡ [] = e ∙ chosen_none r.mask in impossible cc
    go (x ∷ xs) g e = let d : r.from + (size x + sizes (items_of xs)) ≡ r.to = g.ends in omega (arith, size_low x)

pub more_held : {s : List ℕ} {r : Run} → r.from < r.to → RunHeld s r → MoreHeld s r
more_held {s} {r} lt h =
    let x = run_head h.items lt h.here in
    record { first = x.first; others = x.others; here = subst (RunIs s r) x.is h.here }

pub run_less : {s : List ℕ} {r : Run} → RunHeld s r → (r.from ≤ r.to) × (r.to ≤ length s)
run_less h = between h.here.all h.here.here

pub head : {s : List ℕ} {r : Run} (h : MoreHeld s r) → Head s r (h.first ∷ h.others)
head h = run_head (h.first ∷ h.others) (more_less h.here) h.here

-- ---- `ready`

-- where the loop stands: what is chosen of the rest is what is chosen of all
pub record Seeking (s : List ℕ) (from₀ to mask₀ from mask : ℕ) : Type 0 where
  pub whole : List Value
  pub there : Stand s from₀ to whole
  pub left : List Value
  pub here : Stand s from to left
  pub on : from₀ ≤ from
  pub small : mask ≤ every_one
  pub same : chosen mask₀ whole ≡ chosen mask left

pub seeking_start : {s : List ℕ} {r : Run} → Startable s r → Seeking s r.from r.to r.mask r.from r.mask
seeking_start h = record { whole = h.items; there = h.here; left = h.items; here = h.here; on = omega arith; small = h.small; same = refl }

module _ {s : List ℕ} {from₀ to mask₀ from mask : ℕ} (i : Seeking s from₀ to mask₀ from mask) where
  pub seeking_held : from < to → Lead s from to i.left
  seeking_held lt = lead i.left lt i.here

  pub seeking_more : (n : ℕ) → from < to → (mask % 2 ≡ 1 → ⊥) → n ≡ word s from → Seeking s from₀ to mask₀ (from + n) (mask / 2)
  seeking_more n lt f e =
      let l = lead i.left lt i.here in
      let o = i.on in
      let z = i.small in
      record {
        whole = i.whole;
        there = i.there;
        left = l.others;
        here = subst (λ (m : ℕ). Stand s (from + m) to l.others) (sym e) l.others_at;
        on = omega arith;
        small = omega arith;
        same = i.same ∙ ap (chosen mask) l.is ∙ chosen_skip mask l.first l.others (omega (arith, f)) z;
      }

  readied : Ready mask i.left → ReadyRun s (record { from = from₀; to = to; mask = mask₀ }) (record { from = from; to = to; mask = mask })
  readied d = record {
    to = refl;
    from = i.on;
    inside = (between i.left i.here).0;
    right = λ vs h. record {
      all = i.left;
      here = i.here;
      small = i.small;
      stands = d;
      is = ap (chosen mask₀) (one_stand vs i.whole h i.there) ∙ i.same;
    };
  }

  pub seeking_found : mask % 2 ≡ 1 → ReadyRun s (record { from = from₀; to = to; mask = mask₀ }) (record { from = from; to = to; mask = mask })
  seeking_found e = readied (ready_odd mask i.left e)

  pub seeking_end : to ≤ from → ReadyRun s (record { from = from₀; to = to; mask = mask₀ }) (record { from = from; to = to; mask = mask })
  seeking_end e = readied (subst (Ready mask) (sym (stand_none i.left e i.here)) tt)

-- ---- `rest`

pub rest_every : {s : List ℕ} {r : Run} (n : ℕ) → n ≡ word s r.from → r.mask ≡ every_one → MoreHeld s r → RestOf s r (record { from = r.from + n; to = r.to; mask = every_one })
rest_every {s} {r} n e m h =
    let x = head h in
    record { to = refl; from = let l = x.low in omega arith; past = omega arith; inside = let l = x.inside in omega arith; every = λ z. refl; right = right }
  where
    right : (v : Value) (vs : List Value) → RunIs s r (v ∷ vs) → RunIs s (record { from = r.from + n; to = r.to; mask = every_one }) vs
    right v vs g =
        let x = run_head (v ∷ vs) (more_less g) g in
        let d : vs ≡ x.others = let q = x.is in cc in
        record {
          all = x.after;
          here = subst (λ (k : ℕ). Stand s (r.from + k) r.to x.after) (sym e) x.after_at;
          small = omega arith;
          stands = ready_odd every_one x.after refl;
          is = d ∙ x.every m ∙ sym (chosen_all x.after);
        }

pub rest_startable : {s : List ℕ} {r : Run} (n : ℕ) → n ≡ word s r.from → MoreHeld s r → Startable s (record { from = r.from + n; to = r.to; mask = r.mask / 2 })
rest_startable {s} {r} n e h =
    let x = head h in
    let m = x.small in
    record { items = x.after; here = subst (λ (k : ℕ). Stand s (r.from + k) r.to x.after) (sym e) x.after_at; small = omega arith }

pub rest_some : {s : List ℕ} {r : Run} {q : Run} (n : ℕ) → n ≡ word s r.from → (r.mask ≡ every_one → ⊥) → MoreHeld s r
    → ReadyRun s (record { from = r.from + n; to = r.to; mask = r.mask / 2 }) q → RestOf s r q
rest_some {s} {r} {q} n e f h c =
    let x = head h in
    let l = x.low in
    let o = c.from in
    record { to = c.to; from = omega arith; past = omega arith; inside = c.inside; every = λ z. absurd (f z); right = right }
  where
    right : (v : Value) (vs : List Value) → RunIs s r (v ∷ vs) → RunIs s q vs
    right v vs g =
        let x = run_head (v ∷ vs) (more_less g) g in
        let d : vs ≡ x.others = let z = x.is in cc in
        subst (RunIs s q) (sym (d ∙ x.some f)) (c.right x.after (subst (λ (k : ℕ). Stand s (r.from + k) r.to x.after) (sym e) x.after_at))

-- ---- `count` and `skip`

-- i items of the first run are passed
pub record Passed (s : List ℕ) (r₀ r : Run) (i : ℕ) : Type 0 where
  pub items : List Value
  pub there : RunIs s r₀ items
  pub here : RunIs s r (drop i items)
  pub few : i ≤ length items
  pub on : r₀.from + i ≤ r.from
  pub to : r.to ≡ r₀.to
  pub every : r₀.mask ≡ every_one → r.mask ≡ every_one

pub passed_start : {s : List ℕ} {r : Run} → RunHeld s r → Passed s r r 0
passed_start h = record { items = h.items; there = h.here; here = h.here; few = omega arith; on = omega arith; to = refl; every = λ e. e }

module _ {s : List ℕ} {r₀ r : Run} {i : ℕ} (p : Passed s r₀ r i) where
  pub passed_held : RunHeld s r
  passed_held = record { items = drop i p.items; here = p.here }

  -- while items are left the run is not at its end
  passed_less : i < length p.items → r.from < r.to
  passed_less h = more_less (subst (RunIs s r) (drop-cons p.items i (boolean false) h) p.here)

  pub passed_more : {q : Run} → r.from < r.to → RestOf s r q → Passed s r₀ q (i + 1)
  passed_more {q} lt c =
      let x = run_head (drop i p.items) lt p.here in
      let n : length (drop i p.items) ≡ suc (length x.others) = ap length x.is in
      let m = length-drop i p.items in
      let l : i < length p.items = omega arith in
      let o = p.on in
      let f = c.from in
      let d = drop-cons p.items i (boolean false) l in
      record {
        items = p.items;
        there = p.there;
        here = subst (λ (k : ℕ). RunIs s q (drop k p.items)) (sym (add-one i)) (c.right (get_or p.items i (boolean false)) (drop (suc i) p.items) (subst (RunIs s r) d p.here));
        few = omega arith;
        on = omega arith;
        to = c.to ∙ p.to;
        every = λ e. c.every (p.every e);
      }

  pub passed_end : r.to ≤ r.from → CountOf s r₀ i
  passed_end e vs h =
      let n : length (drop i p.items) ≡ 0 = ap length (run_end (drop i p.items) e p.here) in
      let m = length-drop i p.items in
      let f = p.few in
      let q : i ≡ length p.items = omega arith in
      q ∙ ap length (run_one p.items vs p.there h)

  pub passed_skipped : (k : ℕ) → i ≡ k → Skipped s r₀ k r
  passed_skipped k e =
      let o = p.on in
      record {
        to = p.to;
        from = omega arith;
        every = p.every;
        right = λ vs h. subst (RunIs s r) (ap₂ drop e (run_one p.items vs p.there h)) p.here;
      }

-- i of at least k items are passed
pub record Passing (s : List ℕ) (r₀ r : Run) (i k : ℕ) : Type 0 where
  pub passed : Passed s r₀ r i
  pub few : i ≤ k
  pub enough : k ≤ length passed.items

pub passing_start : {s : List ℕ} {r : Run} {k : ℕ} → SkipHeld s r k → Passing s r r 0 k
unfolding passed_start
passing_start h = record { passed = passed_start (record { items = h.items; here = h.here }); few = omega arith; enough = h.enough }

module _ {s : List ℕ} {r₀ r : Run} {i k : ℕ} (p : Passing s r₀ r i k) where
  pub passing_less : i < k → r.from < r.to
  passing_less h = let e = p.enough in passed_less p.passed (omega arith)

  pub passing_more : {q : Run} → i < k → RestOf s r q → Passing s r₀ q (i + 1) k
  unfolding passed_more
  passing_more h c = record { passed = passed_more p.passed (passing_less h) c; few = omega arith; enough = p.enough }
