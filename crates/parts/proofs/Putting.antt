-- Writing what a run or a part denotes, said of lists, places and numbers alone.
use Rattle.parts.specs.declared.How.TheVariants.{Whole}
use mathlib.Core.Path.{◌≡◌, refl, sym, ap, subst, ◌∙◌}
use mathlib.Core.Bool.{Bool, true, false, cond}
use mathlib.Core.Logic.{inl, inr}
use mathlib.Core.List.{List, [], ◌∷◌, ◌++◌, append_assoc, append-nil}
use Prim.Native.Nat.{ℕ, ◌+◌, ◌-◌, ◌≤◌, ◌<◌}
use native.Mathlib.Omega.{arith}
use lib.Dec.{eqb}
use lib.ListN.{length}
use lib.Seq.{sets}
use Rattle.integers.specs.Bytes.{word}
use Rattle.values.specs.Value.{Kind, sequence, number, Value, collection, none, more, size, sizes, value_limit}
use Rattle.values.specs.Items.{join}
use Rattle.values.specs.Place.{At, ItemsAt, Outside}
use Rattle.values.specs.Contract.{Copyable, Copied, PutHead, heading}
use Rattle.values.proofs.Order.{number_high}
use Rattle.values.proofs.Encoding.{collection_size, join_sizes}
use Rattle.values.proofs.Records.{holds, word_size, no_items, one_more, collection_shaped}
use Rattle.values.proofs.Frame.{items_below, outside_none, outside_then, word_below}
use Rattle.values.proofs.Written.{headed_collection}
use Rattle.patterns.specs.Pattern.{items_of, items_in}
use Rattle.patterns.proofs.Laws.Named.{part_sizes}
use Rattle.parts.specs.declared.Part.{Part}
use Rattle.parts.specs.declared.runs.Run.{Run}
use Rattle.parts.specs.Chosen.{every_one, keep, chosen}
use Rattle.parts.specs.Part.{PartIs, PartHeld}
use Rattle.parts.proofs.Laws.{whole_of, keep_part, part_one, part_well_formed, end_record}
use Rattle.parts.specs.Run.{RunIs, MoreHeld, RestOf, RunOf, PutHeld, PutRun}
use Rattle.parts.specs.Contract.{KindOfPart, CollectionHeld, Puttable, PutPart}
use Rattle.parts.proofs.Running.{run_one, run_end, run_head, more_held}
use Rattle.parts.proofs.Halving.{items_append}

-- ---- `put`, of a run

chosen_sizes : (m : ℕ) (vs : List Value) → sizes (items_of (chosen m vs)) ≤ sizes (items_of vs)
unfolding chosen
chosen_sizes m vs = go (eqb m every_one)
  where
    go : (t : Bool) → sizes (items_of (cond t vs (keep m vs))) ≤ sizes (items_of vs)
    go true = omega arith
    go false = part_sizes (keep m vs) vs (keep_part m vs)

run_short : {s : List ℕ} {r : Run} (vs : List Value) → RunIs s r vs → sizes (items_of vs) ≤ value_limit
run_short {r = r} vs h =
    let e = ap (λ (l : List Value). sizes (items_of l)) h.is in
    let g = h.here.short in
    omega (arith, chosen_sizes r.mask h.all)

run_kept : {s t : List ℕ} {from to : ℕ} {r : Run} {vs : List Value} → Outside s t from to → r.to ≤ from → RunIs s r vs → RunIs t r vs
run_kept o l h = record { all = h.all; here = items_below o l h.here; small = h.small; stands = h.stands; is = h.is }

sizes_cons : (v : Value) (vs : List Value) → size v + sizes (items_of vs) ≡ sizes (items_of (v ∷ vs))
unfolding items_of sizes
sizes_cons v vs = refl

snoc_items : (vs : List Value) (v : Value) → items_of (vs ++ (v ∷ [])) ≡ join (items_of vs) (more v none)
unfolding items_of
snoc_items vs v = items_append vs (v ∷ [])

-- the items that are done stand at the place, the others are left
pub record Writing (s₀ s : List ℕ) (to : ℕ) (r₀ r : Run) (out : ℕ) : Type 0 where
  pub items : List Value
  pub there : RunIs s₀ r₀ items
  pub done : List Value
  pub left : List Value
  pub all : items ≡ done ++ left
  pub here : RunIs s r left
  pub written : ItemsAt s to out (items_of done)
  pub outside : Outside s₀ s to out
  pub below : r.to ≤ to
  pub room : out + (r.to - r.from) ≤ to + (r₀.to - r₀.from)
  pub space : to + (r₀.to - r₀.from) ≤ length s₀

pub writing_start : {s : List ℕ} {to : ℕ} {r : Run} → PutHeld s r to → Writing s s to r r to
unfolding items_of
writing_start {s} {to} h = record {
  items = h.items;
  there = h.here;
  done = [];
  left = h.items;
  all = refl;
  here = h.here;
  written = no_items s to (let g = h.room in omega arith);
  outside = outside_none s to to;
  below = h.below;
  room = omega arith;
  space = h.room;
}

module _ {s₀ s : List ℕ} {to : ℕ} {r₀ r : Run} {out : ℕ} (w : Writing s₀ s to r₀ r out) where
  pub writing_copyable : r.from < r.to → Copyable s r.from out
  writing_copyable lt =
      let x = run_head w.left lt w.here in
      let i = x.inside in
      let m = w.room in
      let p = w.space in
      let l = w.outside.long in
      let b = w.below in
      let e = w.written.ends in
      record { held = holds x.first-at; room = omega arith; apart = inl (omega arith) }

  module _ {t : List ℕ} {e : ℕ} (lt : r.from < r.to) (c : Copied s t r.from out e) where
    -- the run stands as before
    stays : RunIs t r w.left
    stays =
        let b = w.below in
        let d = w.written.ends in
        run_kept c.outside (omega arith) w.here

    pub writing_held : MoreHeld t r
    writing_held = more_held lt (record { items = w.left; here = stays })

    pub writing_more : {q : Run} → RestOf t r q → Writing s₀ t to r₀ q e
    writing_more {q} n =
        let x = run_head w.left lt w.here in
        let v = x.first in
        let b = w.below in
        let d = w.written.ends in
        let z = word_size x.first-at in
        let i = x.inside in
        let m = w.room in
        let f = c.ends in
        let y : word t r.from ≡ word s r.from = word_below c.outside r.from (let l = x.low in omega arith) in
        let past = n.past in
        let t₁ = n.to in
        let a : w.items ≡ w.done ++ (v ∷ x.others) = w.all ∙ ap (λ (l : List Value). w.done ++ l) x.is in
        let k : sizes (items_of w.items) ≡ sizes (items_of w.done) + sizes (items_of (v ∷ x.others)) = ap (λ (l : List Value). sizes (items_of l)) a ∙ ap sizes (items_append w.done (v ∷ x.others)) ∙ join_sizes (items_of w.done) (items_of (v ∷ x.others)) in
        let g = run_short w.items w.there in
        let u : size v + sizes (items_of x.others) ≡ sizes (items_of (v ∷ x.others)) = sizes_cons v x.others in
        let o = one_more (items_below c.outside (omega arith) w.written) (c.here v x.first-at) (omega arith) in
        let j : out + size v ≡ e = omega arith in
        record {
          items = w.items;
          there = w.there;
          done = w.done ++ (v ∷ []);
          left = x.others;
          all = a ∙ sym (append_assoc w.done (v ∷ []) x.others);
          here = n.right v x.others (subst (RunIs t r) x.is stays);
          written = subst (λ (h : ℕ). ItemsAt t to h (items_of (w.done ++ (v ∷ [])))) j (subst (ItemsAt t to (out + size v)) (sym (snoc_items w.done v)) o);
          outside = outside_then to e (omega arith) (omega arith) (omega arith) (omega arith) w.outside c.outside;
          below = omega arith;
          room = let l = n.inside in omega arith;
          space = w.space;
        }

  pub writing_end : r.to ≤ r.from → PutRun s₀ s r₀ to out
  writing_end le =
      let m = w.room in
      let d : w.items ≡ w.done = w.all ∙ ap (λ (l : List Value). w.done ++ l) (run_end w.left le w.here) ∙ append-nil w.done in
      record {
        outside = w.outside;
        few = omega arith;
        right = λ vs h. subst (λ (l : List Value). ItemsAt s to out (items_of l)) (sym d ∙ run_one w.items vs w.there h) w.written;
      }

-- ---- `put_part`

module _ {s : List ℕ} {p : Part} {base : ℕ} (h : Puttable s p base) where
  -- a whole record is copied
  pub whole_copyable : p.how ≡ Whole → Copyable s p.at base
  whole_copyable e =
      let a = whole_of e h.here in
      let b = h.below in
      let r = h.room in
      let x = holds a in
      let n = x.high in
      let d = end_record s p (λ z. cc) in
      record { held = x; room = omega arith; apart = inl (omega arith) }

  pub whole_put : {t : List ℕ} {r : ℕ} → p.how ≡ Whole → Copied s t p.at base r → PutPart s t p base r
  whole_put e c =
      let x = holds (whole_of e h.here) in
      let n = x.high in
      let f = c.ends in
      record {
        outside = c.outside;
        high = omega arith;
        ends = λ v g. c.ends ∙ ap (λ (m : ℕ). base + m) (word_size (whole_of e g));
        right = λ v g. c.here v (whole_of e g);
      }

  pub puttable_held : PartHeld s p
  puttable_held = record { value = h.value; here = h.here }

  -- any other part is a collection
  pub puttable_collection : (p.how ≡ Whole → ⊥) → CollectionHeld s p
  puttable_collection f = go h.here
    where
      go : PartIs s p h.value → CollectionHeld s p
      go (inl x) = absurd (f x.0)
      go (inr (inl x)) = record { kind = x.1.kind; items = items_in x.1.kind (keep p.extent x.1.all); here = subst (PartIs s p) x.1.is h.here }
      go (inr (inr x)) = record { kind = sequence; items = x.1.items; here = subst (PartIs s p) x.1.is h.here }

  pub puttable_run : {r : Run} → (p.how ≡ Whole → ⊥) → RunOf s p r → PutHeld s r (base + 4)
  puttable_run f c =
      let x = puttable_collection f in
      let y = c.right x.kind x.items x.here in
      let e = c.ends in
      let n = c.short in
      let b = h.below in
      let m = h.room in
      let i = y.here.ends in
      record { items = x.items; here = y; below = omega arith; room = omega arith }

  -- there is room for the heading, and its numbers are small
  pub heading_fits : {t : List ℕ} {r : Run} {e k : ℕ} → (p.how ≡ Whole → ⊥) → KindOfPart s p k → RunOf s p r → PutRun s t r (base + 4) e
      → (base ≤ e) × (base + 4 ≤ length t) × (e - base < 65536) × (k < 65536)
  heading_fits f kinds c w =
      let x = puttable_collection f in
      let y = c.right x.kind x.items x.here in
      let i = (w.right x.items y).ends in
      let j = y.here.ends in
      let n = c.short in
      let m = w.few in
      let l = w.outside.long in
      let o = h.room in
      let z = kinds (collection x.kind (items_of x.items)) x.here in
      (omega arith, omega arith, omega arith, omega (arith, number_high x.kind))

  -- the heading is written before the items
  pub headed_put : {t u : List ℕ} {r : Run} {e k : ℕ} → (p.how ≡ Whole → ⊥) → KindOfPart s p k → RunOf s p r → PutRun s t r (base + 4) e → PutHead t u base (e - base) k → PutPart s u p base e
  headed_put {t} {u} {r} {e} {k} f kinds c w g =
      let n = c.short in
      let m = w.few in
      let x = puttable_collection f in
      let i = (w.right x.items (c.right x.kind x.items x.here)).ends in
      let j = (c.right x.kind x.items x.here).here.ends in
      record {
        outside = outside_then base e (omega arith) (omega arith) (omega arith) (omega arith) w.outside g.outside;
        high = omega arith;
        ends = λ v y. ends v (one v y) y;
        right = λ v y. right v (one v y) y;
      }
    where
      one : (v : Value) → PartIs s p v → (l : Kind) × (vs : List Value) × (v ≡ collection l (items_of vs))
      one v y = let x = puttable_collection f in (x.kind, x.items, part_one y x.here)

      ends : (v : Value) → ((l : Kind) × (vs : List Value) × (v ≡ collection l (items_of vs))) → PartIs s p v → e ≡ base + size v
      ends v (l, vs, d) y =
          let i = (w.right vs (c.right l vs (subst (PartIs s p) d y))).ends in
          let z : size v ≡ 4 + sizes (items_of vs) = ap size d ∙ collection_size l (items_of vs) in
          omega arith

      right : (v : Value) → ((l : Kind) × (vs : List Value) × (v ≡ collection l (items_of vs))) → PartIs s p v → At u base v
      right v (l, vs, d) y =
          let a = subst (PartIs s p) d y in
          let i = w.right vs (c.right l vs a) in
          let b = i.ends in
          let q = part_well_formed a in
          let o = q.short in
          let z = collection_size l (items_of vs) in
          let n : k ≡ number l = kinds (collection l (items_of vs)) a in
          let bytes = g.bytes ∙ ap (λ (m : ℕ). sets t base (heading (e - base) m)) n in
          subst (At u base) (sym d) (headed_collection (e - base) bytes (omega arith) (omega arith) (collection_shaped q) i)
