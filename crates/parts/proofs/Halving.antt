-- The halves of a part, said of lists, places and numbers alone.
use Rattle.parts.specs.declared.How.TheVariants.{Units, Span}
use mathlib.Core.Bool.{true}
use mathlib.Core.Path.{◌≡◌, refl, sym, ap, subst, ◌∙◌}
use mathlib.Core.Logic.{inl, inr}
use mathlib.Core.List.{List, [], ◌∷◌, ◌++◌}
use Prim.Native.Nat.{ℕ, ◌+◌, ◌*◌, ◌-◌, ◌/◌, ◌^◌, ◌≤◌, ◌<◌}
use native.Mathlib.Omega.{arith}
use lib.ListN.{length, get_or, take, drop, take-append-drop}
use Rattle.prelude.proofs.Absurd.{never}
use Rattle.values.specs.Value.{Kind, set, sequence, map as mapping, tuple, Value, collection, Items, more, kind_of, sizes}
use Rattle.values.specs.Items.{join}
use Rattle.values.specs.Place.{ItemsAt}
use Rattle.values.proofs.Encoding.{collection_size, join_sizes}
use Rattle.values.proofs.Order.{number_inj}
use Rattle.values.proofs.Records.{parted}
use Rattle.patterns.specs.Ways.{Halves as Split, halves, splits, cuts}
use Rattle.patterns.specs.Pattern.{items_of, UnitOf, items_in, halves_in, is_unordered, left_of, right_of}
use Rattle.patterns.specs.Nodes.{width}
use Rattle.patterns.proofs.Laws.Collected.{items_length}
use Rattle.parts.specs.declared.Part.{Part}
use Rattle.parts.specs.declared.runs.Run.{Run}
use Rattle.parts.specs.Chosen.{every_one, keep, chosen, split_at}
use Rattle.parts.proofs.Chosen.{chosen_all, keep_full, nth_split, nth_cut}
use Rattle.parts.specs.Mask.{Full, Spread, WidthOf}
use Rattle.parts.specs.Part.{Selects, PartIs, PartHeld}
use Rattle.parts.proofs.Laws.{selects_of, selects_low, part_one, part_well_formed, one_collection, one_units, end_record}
use Rattle.parts.specs.Run.{RunIs, RunOf, SkipHeld, Skipped}
use Rattle.parts.specs.Contract.{KindOfPart, CollectionHeld, CountOfPart, HalvesAre, UnitsHere, Countable, MaskOf, SplitHeld, SplitOf, CutHeld, CutOf, halves_by}

-- ---- `mask_of`

-- no set or map is a sequence
no_sequence : {k : Kind} {vs ws : Items} → is_unordered k ≡ true → collection k vs ≡ collection sequence ws → ⊥
no_sequence {k} u e = never (sym (ap is_unordered (number_inj k sequence (ap kind_of e))) ∙ u)

-- a set or map is no span, a sequence no choice of units
unordered_how : {s : List ℕ} {p : Part} {k : Kind} {vs : Items} → is_unordered k ≡ true → PartIs s p (collection k vs) → p.how ≡ Span → ⊥
unordered_how u (inl h) e = cc (h.0)
unordered_how u (inr (inl h)) e = cc (h.0)
unordered_how u (inr (inr h)) e = no_sequence u h.1.is

sequence_how : {s : List ℕ} {p : Part} {vs : Items} → PartIs s p (collection sequence vs) → p.how ≡ Units → ⊥
sequence_how (inl h) e = cc (h.0)
sequence_how (inr (inl h)) e = no_sequence h.1.unordered (sym h.1.is)
sequence_how (inr (inr h)) e = cc (h.0)

-- so many items are so many units
units_of_items : (k : Kind) (n l : ℕ) → n ≡ width k * l → n / width k ≡ l
units_of_items set n l e = omega arith
units_of_items sequence n l e = omega arith
units_of_items mapping n l e = omega arith
units_of_items tuple n l e = omega arith

module _ {s : List ℕ} {p : Part} where
  pub countable_held : Countable s p → CollectionHeld s p
  countable_held h = record { kind = h.kind; items = items_in h.kind h.units; here = h.here.1 }

  pub countable_part : Countable s p → PartHeld s p
  countable_part h = record { value = collection h.kind (items_of (items_in h.kind h.units)); here = h.here.1 }

  pub mask_selects : p.how ≡ Units → Countable s p → MaskOf s p p.extent
  mask_selects e h = record { low = selects_low (selects_of e h.here.1); right = λ k us g. selects_of e g.1 }

  module _ {kind n w : ℕ} (a : KindOfPart s p kind) (b : CountOfPart s p n) (c : WidthOf kind w) where
    counted_units : (k : Kind) (us : List (UnitOf k)) → PartIs s p (collection k (items_of (items_in k us))) → n / w ≡ length us
    counted_units k us x =
        let v = collection k (items_of (items_in k us)) in
        ap (λ (i : ℕ). n / i) (c k (a v x)) ∙ units_of_items k n (length us) (b k (items_in k us) x ∙ items_length k us)

    pub counted_few : Countable s p → n / w ≤ 7
    counted_few h = let e = counted_units h.kind h.units h.here.1 in let f = h.few in omega arith

    pub mask_full : {m : ℕ} → (p.how ≡ Units → ⊥) → Countable s p → Full (n / w) m → MaskOf s p m
    mask_full {m} f h g = record { low = g.small; right = λ k us (u, x). go k us u x x }
      where
        go : (k : Kind) (us : List (UnitOf k)) → is_unordered k ≡ true → PartIs s p (collection k (items_of (items_in k us))) → PartIs s p (collection k (items_of (items_in k us)))
            → Selects s p.at m (collection k (items_of (items_in k us)))
        go k us u x (inl y) =
            let e = counted_units k us x in
            let l = counted_few h in
            let q : m + 1 ≡ 2 ^ length us = g.power ∙ ap (λ (i : ℕ). 2 ^ i) e in
            record { kind = k; unordered = u; all = us; here = y.1; few = omega arith; below = omega arith; is = ap (λ (l : List (UnitOf k)). collection k (items_of (items_in k l))) (sym (keep_full us m q)) }
        go k us u x (inr (inl y)) = absurd (f y.0)
        go k us u x (inr (inr y)) = absurd (unordered_how u x y.0)

  -- ---- `split_part`

  pub split_countable : {d : ℕ} → SplitHeld s p d → Countable s p
  split_countable h = record { kind = h.kind; units = h.units; here = h.here; few = h.few }

  pub split_is : {d m r : ℕ} → SplitHeld s p d → MaskOf s p m → Spread m d r
      → SplitOf s p d (halves_by p m r)
  split_is {d} {m} {r} h c g =
      let e = end_record s p (unordered_how h.here.0 h.here.1) in
      record { right = λ k us x. right k us x (c.right k us x); inside = record { left = omega arith; right = omega arith } }
    where
      -- d is the number of a split, also of what the mask chooses
      Below : (k : Kind) → List (UnitOf k) → Type 0
      Below k us = d < 2 ^ length us

      -- a mask chooses a half of them
      chosen_half : (k : Kind) (us : List (UnitOf k)) (y : Selects s p.at m (collection k (items_of (items_in k us)))) (l : ℕ) (half : (A : Type 0) → Split A → List A) → l ≤ m
          → keep l y.all ≡ half (UnitOf y.kind) (split_at (keep m y.all) d)
          → Selects s p.at l (collection k (items_of (items_in k (half (UnitOf k) (split_at us d)))))
      chosen_half k us y l half low e =
          let b = y.below in
          record {
            kind = y.kind;
            unordered = y.unordered;
            all = y.all;
            here = y.here;
            few = y.few;
            below = omega arith;
            is =
                one_units
                (λ (i : Kind) (ws : List (UnitOf i)). collection i (items_of (items_in i (half (UnitOf i) (split_at ws d)))) ≡ collection y.kind (items_of (items_in y.kind (keep l y.all))))
                y.kind k (keep m y.all) us (sym y.is) (ap (λ (ws : List (UnitOf y.kind)). collection y.kind (items_of (items_in y.kind ws))) (sym e));
          }

      right : (k : Kind) (us : List (UnitOf k)) → UnitsHere s p k us → Selects s p.at m (collection k (items_of (items_in k us)))
          → HalvesAre s k (halves_in k (get_or (splits us) d (halves [] []))) (record { left = record { how = Units; at = p.at; extent = r }; right = record { how = Units; at = p.at; extent = m - r } })
      right k us (u, x) y =
          let l : d < 2 ^ length us = one_units Below h.kind k h.units us (part_one h.here.1 x) h.below in
          let i : d < 2 ^ length (keep m y.all) = one_units Below k y.kind us (keep m y.all) y.is l in
          let n = nth_split us d (halves [] []) l in
          let w = g.low in
          rw n record {
            left = inr (inl (refl, chosen_half k us y r (λ A (s : Split A). s.left) w (g.left y.kind y.all y.below i)));
            right = inr (inl (refl, chosen_half k us y (m - r) (λ A (s : Split A). s.right) (omega arith) (g.right y.kind y.all y.below i)));
          }

-- ---- `cut_part`

pub items_append : (vs ws : List Value) → items_of (vs ++ ws) ≡ join (items_of vs) (items_of ws)
unfolding items_of join
items_append [] ws = refl
items_append (v ∷ vs) ws = ap (more v) (items_append vs ws)

-- a run of every item
every_stand : {s : List ℕ} {r : Run} (vs : List Value) → r.mask ≡ every_one → RunIs s r vs → ItemsAt s r.from r.to (items_of vs)
every_stand {s} {r} vs e h =
    let d : vs ≡ h.all = h.is ∙ ap (λ (m : ℕ). chosen m h.all) e ∙ chosen_all h.all in
    subst (λ (l : List Value). ItemsAt s r.from r.to (items_of l)) (sym d) h.here

module _ {s : List ℕ} {p : Part} {k : ℕ} where
  pub cut_held : CutHeld s p k → CollectionHeld s p
  cut_held h = record { kind = sequence; items = h.items; here = h.here }

  pub cut_skip : {r : Run} → CutHeld s p k → RunOf s p r → SkipHeld s r k
  cut_skip h c = record { items = h.items; here = c.right sequence h.items h.here; enough = h.below }

  -- its places are in order, and near
  pub cut_places : {r q : Run} → CutHeld s p k → RunOf s p r → Skipped s r k q → (r.from ≤ q.from) × (q.from ≤ r.to) × (r.to ≤ r.from + 508) × (r.to ≤ 65536)
  cut_places h c d =
      let x = (d.right h.items (c.right sequence h.items h.here)).here in
      let f = d.from in
      let t = d.to in
      let n = c.short in
      let e = x.ends in
      let g = x.fits in
      let s = h.short in
      (omega arith, omega arith, omega arith, omega arith)

  pub cut_is : {r q : Run} → CutHeld s p k → RunOf s p r → Skipped s r k q
      → CutOf s p k (record { left = record { how = Span; at = r.from; extent = q.from - r.from }; right = record { how = Span; at = q.from; extent = r.to - q.from } })
  cut_is {r} {q} h c d =
      let e = c.ends in
      let m = c.every (sequence_how h.here) in
      let t = d.to in
      let x = (d.right h.items (c.right sequence h.items h.here)).here.ends in
      let o = d.from in
      record { right = right; inside = record { left = omega arith; right = omega arith } }
    where
      right : (vs : List Value) → PartIs s p (collection sequence (items_of vs))
          → HalvesAre s sequence (get_or (cuts vs) k (halves [] [])) (record { left = record { how = Span; at = r.from; extent = q.from - r.from }; right = record { how = Span; at = q.from; extent = r.to - q.from } })
      right vs x =
          let o : vs ≡ h.items = one_collection (part_one x h.here) in
          let l : k ≤ length vs = subst (λ (i : List Value). k ≤ length i) (sym o) h.below in
          let n : get_or (cuts vs) k (halves [] []) ≡ halves (take k vs) (drop k vs) = nth_cut vs k (halves [] []) l in
          let m = c.every (sequence_how x) in
          let y = every_stand vs m (c.right sequence vs x) in
          let z = every_stand (drop k vs) (d.every m) (d.right vs (c.right sequence vs x)) in
          let j : items_of vs ≡ join (items_of (take k vs)) (items_of (drop k vs)) = ap items_of (sym (take-append-drop k vs)) ∙ items_append (take k vs) (drop k vs) in
          let u = parted (items_of (take k vs)) (items_of (drop k vs)) (subst (ItemsAt s r.from r.to) j y) in
          let w = join_sizes (items_of (take k vs)) (items_of (drop k vs)) in
          let v = ap sizes j in
          let a = y.ends in
          let b = z.ends in
          let t = d.to in
          let g : r.from + sizes (items_of (take k vs)) ≡ r.from + (q.from - r.from) = omega arith in
          let l : r.to ≡ q.from + (r.to - q.from) = omega arith in
          let f = (part_well_formed x).short in
          let i = collection_size sequence (items_of vs) in
          record {
            left = inr (inr (
              refl,
              record {
                items = take k vs;
                here = subst (λ (e : ℕ). ItemsAt s r.from e (items_of (take k vs))) g u.0;
                short = omega arith;
                is = ap (left_of sequence) n;
              },
            ));
            right = inr (inr (
              refl,
              record {
                items = drop k vs;
                here = subst (λ (e : ℕ). ItemsAt s q.from e (items_of (drop k vs))) (t ∙ l) z;
                short = omega arith;
                is = ap (right_of sequence) n;
              },
            ));
          }
