-- The functions on parts, said of lists, places and numbers alone.
use Rattle.parts.specs.declared.How.TheVariants.{Whole, Units, Span}
use mathlib.Core.Path.{◌≡◌, refl, sym, ap, ap₂, subst, ◌∙◌}
use mathlib.Core.Bool.{true, false}
use mathlib.Core.Logic.{inl, inr, ⊎_elim}
use mathlib.Core.List.{List, ◌∷◌}
use Prim.Native.Nat.{ℕ, suc, ◌+◌, ◌*◌, ◌≤◌, ◌<◌}
use native.Mathlib.Nat.{mul_comm}
use native.Mathlib.Omega.{arith}
use lib.Count.{ones}
use lib.ListN.{length, get_or, drop}
use lib.Seq.{drop-cons}
use Rattle.std.specs.Ordering.{MatchOrdering, nat_cmp}
use Rattle.std.proofs.lemmas.Cmp.{ranked}
use Rattle.prelude.specs.Membership.{In}
use Rattle.prelude.proofs.Absurd.{true_false}
use Rattle.std.specs.declared.cmp.Ordering.{Ordering}
use Rattle.std.specs.declared.cmp.Ordering.TheVariants.{Less, Equal, Greater}
use Rattle.values.specs.Value.{Kind, sequence, number, Value, boolean, collection, kind_of, after, order, order_items, within}
use Rattle.values.specs.Place.{At, ItemsAt, Holds}
use Rattle.values.specs.Contract.{Length, KindAt, Ordered}
use Rattle.integers.specs.Order.{order_ℕ}
use Rattle.integers.proofs.Ordered.{lt_lower, gt_higher, eq-same}
use Rattle.values.proofs.Order.{order_refl, same_equal}
use Rattle.values.proofs.Records.{holds, items_to}
use Rattle.patterns.specs.Pattern.{items_of, items_in}
use Rattle.patterns.specs.Nodes.{width}
use Rattle.patterns.proofs.Laws.Collected.{items_length}
use Rattle.parts.specs.declared.Part.{Part}
use Rattle.parts.specs.declared.runs.Run.{Run}
use Rattle.parts.specs.Chosen.{every_one, keep}
use Rattle.parts.proofs.Chosen.{kept_length, chosen_all, chosen_keep}
use Rattle.parts.specs.Mask.{WidthOf, ChoosesItems, ItemMask}
use Rattle.parts.specs.Part.{PartIs, PartHeld, end_of}
use Rattle.parts.proofs.Laws.{is_whole, of_kind, whole_of, selects_of, selects_low, spans_of, part_one, one_collection, end_span, end_record, whole_here}
use Rattle.parts.specs.Run.{RunIs, RunHeld, Startable, ReadyRun, RestOf, RunOf, CountOf, SkipHeld, Skipped, OrderedRuns}
use Rattle.parts.specs.Contract.{KindOfPart, CollectionHeld, CountOfPart, OrderedParts, ItemHeld, ItemOfPart, whole_at, HasItem}
use Rattle.parts.proofs.Running.{ready_odd, run_head, run_end, more_less}

-- ---- which parts there are

every_run : {s : List ℕ} {from to : ℕ} (vs : List Value) → ItemsAt s from to (items_of vs) → RunIs s (record { from = from; to = to; mask = every_one }) vs
every_run vs h = record { all = vs; here = h; small = omega arith; stands = ready_odd every_one vs refl; is = sym (chosen_all vs) }

module _ {s : List ℕ} {p : Part} where
  -- a part that is no span has a record at its place
  pub record_of : {v : Value} → (p.how ≡ Span → ⊥) → PartIs s p v → Holds s p.at
  record_of f (inl h) = holds h.1
  record_of f (inr (inl h)) = holds h.1.here
  record_of f (inr (inr h)) = absurd (f h.0)

  whole_left : {v : Value} → (p.how ≡ Units → ⊥) → (p.how ≡ Span → ⊥) → PartIs s p v → At s p.at v
  whole_left f g (inl h) = h.1
  whole_left f g (inr (inl h)) = absurd (f h.0)
  whole_left f g (inr (inr h)) = absurd (g h.0)

  -- ---- `kind_of_part`

  pub kind_spans : p.how ≡ Span → KindOfPart s p 4
  kind_spans e v h = sym (ap kind_of (spans_of e h).is)

  -- some units of a set or map are of its kind
  pub kind_record : {k : ℕ} → (p.how ≡ Span → ⊥) → KindAt s p.at k → KindOfPart s p k
  kind_record f c v (inl h) = c.right v h.1
  kind_record f c v (inr (inl h)) = let x = h.1 in c.right (collection x.kind (items_of (items_in x.kind x.all))) x.here ∙ sym (ap kind_of x.is)
  kind_record f c v (inr (inr h)) = absurd (f h.0)

  -- ---- `run_of`

  pub run_spans : {v : Value} → p.how ≡ Span → PartIs s p v → RunOf s p (record { from = p.at; to = p.at + p.extent; mask = every_one })
  run_spans e g = record {
    short = let x = spans_of e g in let i = x.here.ends in let n = x.short in omega arith;
    ends = omega (arith, end_span s p e);
    every = λ f. refl;
    right = λ k vs h. let x = spans_of e h in every_run vs (subst (λ (l : List Value). ItemsAt s p.at (p.at + p.extent) (items_of l)) (sym (one_collection x.is)) x.here);
  }

  pub run_whole : {n : ℕ} → (p.how ≡ Units → ⊥) → (p.how ≡ Span → ⊥) → Length s p.at n → RunOf s p (record { from = p.at + 4; to = p.at + n; mask = every_one })
  run_whole f g c = record {
    short = let h = c.high in omega arith;
    ends = let e = c.is in omega (arith, end_record s p g);
    every = λ f. refl;
    right = λ k vs h. every_run vs (items_to c.is (whole_left f g h));
  }

  pub units_low : {v : Value} → p.how ≡ Units → PartIs s p v → p.extent < 128
  units_low e h = selects_low (selects_of e h)

  -- the items of the units that are chosen
  module _ {kind m : ℕ} (e : p.how ≡ Units) (d : KindAt s p.at kind) (i : ItemMask kind p.extent m) where
    pub items_chosen : {v : Value} (h : PartIs s p v) → ChoosesItems (selects_of e h).kind p.extent m (selects_of e h).all
    items_chosen h =
        let x = selects_of e h in
        i.right x.kind x.unordered (d.right (collection x.kind (items_of (items_in x.kind x.all))) x.here) x.all x.below

    pub selects_startable : {n : ℕ} {v : Value} → Length s p.at n → PartIs s p v → Startable s (record { from = p.at + 4; to = p.at + n; mask = m })
    selects_startable c h =
        let x = selects_of e h in
        let l = i.small in
        record { items = items_in x.kind x.all; here = items_to c.is x.here; small = omega arith }

    pub run_selects : {n : ℕ} {r : Run} → Length s p.at n → ReadyRun s (record { from = p.at + 4; to = p.at + n; mask = m }) r → RunOf s p r
    run_selects {n} {r} c q = record {
      ends = let d = c.is in let t = q.to in omega (arith, end_record s p (λ z. cc));
      short = let h = c.high in let t = q.to in let o = q.from in omega arith;
      every = λ f. absurd (f e);
      right = right;
    }
      where
        right : (k : Kind) (vs : List Value) → PartIs s p (collection k (items_of vs)) → RunIs s r vs
        right k vs h =
            let x = selects_of e h in
            let l = i.small in
            let all = items_in x.kind x.all in
            let d : vs ≡ items_in x.kind (keep p.extent x.all) = one_collection x.is in
            subst (RunIs s r) (sym (d ∙ sym (chosen_keep m all (λ z. omega arith) ∙ (items_chosen h).is))) (q.right all (items_to c.is x.here))

  -- ---- `count_of_part`

  -- of units as many as bits are set, and each unit's items
  pub units_counted : {kind w : ℕ} → p.how ≡ Units → KindAt s p.at kind → WidthOf kind w → CountOfPart s p (ones p.extent * w)
  units_counted {kind} {w} e d c k vs h =
      let x = selects_of e h in
      let n : w ≡ width x.kind = c x.kind (d.right (collection x.kind (items_of (items_in x.kind x.all))) x.here) in
      ap₂ (λ (a b : ℕ). a * b) (sym (kept_length p.extent x.all x.below)) n
      ∙ mul_comm (length (keep p.extent x.all)) (width x.kind)
      ∙ sym (ap length (one_collection x.is) ∙ items_length x.kind (keep p.extent x.all))

  pub run_held : {r : Run} → CollectionHeld s p → RunOf s p r → RunHeld s r
  run_held h c = record { items = h.items; here = c.right h.kind h.items h.here }

  pub part_counted : {r : Run} {n : ℕ} → RunOf s p r → CountOf s r n → CountOfPart s p n
  part_counted c d k vs h = d vs (c.right k vs h)

-- ---- `order_parts`

module _ {s : List ℕ} {p q : Part} {k l : ℕ} (cp : KindOfPart s p k) (cq : KindOfPart s q l) where
  kinds_lower : k < l → OrderedParts s p q Less
  kinds_lower h v w x y =
      let e = cp v x in
      let f = cq w y in
      let z : order_ℕ (kind_of v) (kind_of w) ≡ Less = lt_lower (kind_of v) (kind_of w) (omega arith) in
      sym (ap (λ (o : Ordering). after o (within v w)) z)

  kinds_higher : l < k → OrderedParts s p q Greater
  kinds_higher h v w x y =
      let e = cp v x in
      let f = cq w y in
      let z : order_ℕ (kind_of v) (kind_of w) ≡ Greater = gt_higher (kind_of v) (kind_of w) (omega arith) in
      sym (ap (λ (o : Ordering). after o (within v w)) z)

  -- two kinds that differ decide
  pub kinds_apart : (o : Ordering) → (k ≡ l → ⊥) → o ≡ nat_cmp k l → OrderedParts s p q o
  kinds_apart o f e = go o (ranked k l o e)
    where
      go : (j : Ordering) → MatchOrdering j (k < l) (k ≡ l) (l < k) → OrderedParts s p q j
      go Less h = kinds_lower h
      go Equal h = absurd (f h)
      go Greater h = kinds_higher h

-- two whole records
pub whole_held : {s : List ℕ} {p : Part} → p.how ≡ Whole → PartHeld s p → Holds s p.at
whole_held e h = holds (whole_of e h.here)

pub whole_order : {s : List ℕ} {p q : Part} {o : Ordering} → p.how ≡ Whole → q.how ≡ Whole → Ordered s p.at q.at o → OrderedParts s p q o
whole_order e f c v w x y = c v w (whole_of e x) (whole_of f y)

-- a part that is no whole record is a collection
apart_kind : {s : List ℕ} {p : Part} {k : ℕ} → KindOfPart s p k → (p.how ≡ Whole → ⊥) → PartHeld s p → (i : Kind) × (k ≡ number i)
apart_kind {s} {p} {k} c f h = go h.value h.here (c h.value h.here)
  where
    go : (v : Value) → PartIs s p v → k ≡ kind_of v → (i : Kind) × (k ≡ number i)
    go v (inl x) e = absurd (f x.0)
    go v (inr (inl x)) e = (x.1.kind, e ∙ ap kind_of x.1.is)
    go v (inr (inr x)) e = (sequence, e ∙ ap kind_of x.1.is)

-- two parts of one kind that are not both whole records are collections
pub kinds_collection : {s : List ℕ} {p q : Part} {k l : ℕ} → KindOfPart s p k → KindOfPart s q l → PartHeld s p → PartHeld s q → (p.how ≡ Whole → q.how ≡ Whole → ⊥) → k ≡ l → (i : Kind) × (k ≡ number i)
kinds_collection {p = p} {q = q} {k = k} cp cq hp hq f e = go (is_whole p.how)
  where
    go : Dec (p.how ≡ Whole) → (i : Kind) × (k ≡ number i)
    go (yes z) = let (i, n) = apart_kind cq (f z) hq in (i, e ∙ n)
    go (no z) = apart_kind cp z hp

-- two collections of one kind are ordered as their items
pub collections_order : (k l : Kind) (vs ws : List Value) → number k ≡ number l → order (collection k (items_of vs)) (collection l (items_of ws)) ≡ order_items (items_of vs) (items_of ws)
unfolding within
collections_order k l vs ws e = rw (eq-same (number k) (number l) e)

pub runs_order : {s : List ℕ} {p q : Part} {k l : ℕ} {a b : Run} {o : Ordering} → KindOfPart s p k → KindOfPart s q l → (i : Kind) × (k ≡ number i) → k ≡ l → RunOf s p a → RunOf s q b → OrderedRuns s a b o → OrderedParts s p q o
runs_order {s} {p} {q} cp cq (i, h) e ra rb c v w x y =
    let (vs, d) = of_kind i v (sym (cp v x) ∙ h) in
    let (ws, f) = of_kind i w (sym (cq w y) ∙ sym e ∙ h) in
    c vs ws (ra.right i vs (subst (PartIs s p) d x)) (rb.right i ws (subst (PartIs s q) f y))
    ∙ sym (ap₂ order d f ∙ collections_order i i vs ws refl)

-- ---- `item_of_run`

module _ {s : List ℕ} {p : Part} {k : ℕ} where
  pub item_skip : {r : Run} → ItemHeld s p k → RunOf s p r → SkipHeld s r k
  item_skip h c = record { items = h.items; here = c.right h.kind h.items h.here; enough = let b = h.below in omega arith }

  pub item_place : {r q : Run} → ItemHeld s p k → RunOf s p r → Skipped s r k q → q.from ≤ 65536
  item_place h c d =
      let x = (d.right h.items (c.right h.kind h.items h.here)).here in
      let e = x.ends in
      let g = x.fits in
      let s = h.short in
      omega arith

  pub item-is : {r q : Run} → ItemHeld s p k → RunOf s p r → Skipped s r k q → ItemOfPart s p k (whole_at q.from)
  item-is {r} {q} h c d = record { whole = refl; right = right; ends = ends }
    where
      there : (kind : Kind) (vs : List Value) (e : Value) → PartIs s p (collection kind (items_of vs)) → RunIs s q (get_or vs k e ∷ drop (suc k) vs)
      there kind vs e x =
          let n : vs ≡ h.items = one_collection (part_one x h.here) in
          let b = h.below in
          let l : k < length vs = subst (λ (m : List Value). k < length m) (sym n) b in
          subst (RunIs s q) (drop-cons vs k e l) (d.right vs (c.right kind vs x))

      right : (kind : Kind) (vs : List Value) (e : Value) → PartIs s p (collection kind (items_of vs)) → At s q.from (get_or vs k e)
      right kind vs e x =
          let g = there kind vs e x in
          let y = run_head (get_or vs k e ∷ drop (suc k) vs) (more_less g) g in
          let z : get_or vs k e ≡ y.first = let i = y.is in cc in
          subst (At s q.from) (sym z) y.first-at

      ends : end_of s (whole_at q.from) ≤ end_of s p
      ends =
          let g = there h.kind h.items (boolean false) h.here in
          let y = run_head (get_or h.items k (boolean false) ∷ drop (suc k) h.items) (more_less g) g in
          let i = y.inside in
          let t = d.to in
          let u = c.ends in
          omega arith

-- ---- `has_item`

-- the item at which a run stands
pub first_held : {s : List ℕ} {r : Run} {item : Part} → item ≡ whole_at r.from → r.from < r.to → RunHeld s r → PartHeld s item
first_held w lt h = whole_here w (holds (run_head h.items lt h.here).first-at)

-- The value of q is among the items of a run exactly where it is among those of what is left of it.
abbrev pub Unfound : List ℕ → Part → Run → Run → Type 0
Unfound s q r₀ r = (vs : List Value) (v : Value) → RunIs s r₀ vs → PartIs s q v → (ws : List Value) × RunIs s r ws × (In v ws → In v vs) × (In v vs → In v ws)

pub unfound_start : (s : List ℕ) (q : Part) (r : Run) → Unfound s q r r
unfound_start s q r vs v h k = (vs, h, (λ m. m), λ m. m)

module _ {s : List ℕ} {q : Part} {r₀ r : Run} (i : Unfound s q r₀ r) where
  pub unfound_held : {p : Part} → CollectionHeld s p → RunOf s p r₀ → PartHeld s q → RunHeld s r
  unfound_held h c k = let (ws, g, to, from) = i h.items k.value (c.right h.kind h.items h.here) k.here in record { items = ws; here = g }

  pub unfound_end : {p : Part} → RunOf s p r₀ → r.to ≤ r.from → HasItem s p q false
  unfound_end c e k vs v x y = let (ws, g, to, from) = i vs v (c.right k vs x) y in ((λ z. true_false (sym z)), λ z m. subst (In v) (run_end ws e g) (from m))

  module _ (lt : r.from < r.to) {item : Part} (w : item ≡ whole_at r.from) (o : Ordering) (d : OrderedParts s item q o) where
    first_order : (ws : List Value) (g : RunIs s r ws) (v : Value) → PartIs s q v → o ≡ order (run_head ws lt g).first v
    first_order ws g v y = let h = run_head ws lt g in d h.first v (subst (λ (z : Part). PartIs s z h.first) (sym w) (inl (refl, h.first-at))) y

    pub unfound_found : {p : Part} → RunOf s p r₀ → o ≡ Equal → HasItem s p q true
    unfound_found c e k vs v x y =
        let (ws, g, to, from) = i vs v (c.right k vs x) y in
        let h = run_head ws lt g in
        let n : v ≡ h.first = sym (same_equal h.first v (sym (first_order ws g v y) ∙ e)) in
        ((λ z. to (subst (In v) (sym h.is) (inl n))), λ z. true_false z)

    pub unfound_more : {t : Run} → (o ≡ Equal → ⊥) → RestOf s r t → Unfound s q r₀ t
    unfound_more f b vs v x y =
        let (ws, g, to, from) = i vs v x y in
        let h = run_head ws lt g in (
          h.others,
          b.right h.first h.others (subst (RunIs s r) h.is g),
          (λ m. to (subst (In v) (sym h.is) (inr m))),
          λ m. ⊎_elim (λ n. absurd (f (first_order ws g v y ∙ ap (order h.first) n ∙ order_refl h.first))) (λ n. n) (subst (In v) h.is (from m)),
        )
