-- Laws of parts: one part denotes one value, which is well-formed; and what is written above a part leaves it as it is.
use Rattle.parts.specs.declared.How.TheVariants.{Nothing, Whole, Units, Span}
use mathlib.Core.Path.{◌≡◌, refl, sym, ap, subst, ◌∙◌}
use mathlib.Core.Bool.{Bool, true, false, cond}
use mathlib.Core.Logic.{inl, inr}
use mathlib.Core.List.{List, [], ◌∷◌}
use Prim.Native.Nat.{ℕ, ◌+◌, ◌-◌, ◌/◌, ◌^◌, ◌≤◌, ◌<◌}
use native.Mathlib.Nat.{pow-le-pow_right}
use native.Mathlib.Omega.{arith}
use lib.ListN.{length, take, drop, length-take}
use lib.Seq.{take_all, take-take}
use Rattle.std.specs.Bool.{◌==◌}
use Rattle.std.specs.Ordering.{ordering_index}
use Rattle.std.specs.declared.cmp.Ordering.{Ordering}
use Rattle.std.specs.declared.cmp.Ordering.TheVariants.{Less, Equal, Greater}
use Rattle.integers.specs.Bytes.{word}
use Rattle.values.specs.Value.{Kind, sequence, number, Value, collection, Items, kind_of, WellFormed}
use Rattle.values.specs.Place.{At, Holds}
use Rattle.values.proofs.Encoding.{size_low}
use Rattle.values.proofs.Order.{number_low, number_high, number_inj}
use Rattle.values.proofs.Records.{is_collection, one_value, one_list, word_size, well_formed_collection}
use Rattle.values.proofs.Frame.{kept, items_kept, word_kept}
use Rattle.patterns.specs.Pattern.{list_of, items_of, UnitOf, units_of, items_in}
use Rattle.patterns.proofs.Laws.Collected.{units_items}
use Rattle.patterns.proofs.Laws.Matched.{items_list, list_items}
use Rattle.patterns.proofs.Laws.Named.{PartOf, divides, part_fine}
use Rattle.parts.specs.declared.How.{How}
use Rattle.parts.specs.declared.Part.{Part}
use Rattle.parts.specs.Chosen.{odd, keep}
use Rattle.parts.specs.Part.{Selects, Spans, PartIs, PartHeld, size_by, end_of}
use Rattle.parts.specs.Contract.{KindOfPart, CollectionHeld, whole_at}

-- ---- orders

-- what a test for equality says of an order
pub is_equal : (o : Ordering) → ordering_index o == 1 ≡ true → o ≡ Equal
is_equal Less e = cc
is_equal Equal e = refl
is_equal Greater e = cc

pub not_equal : (o : Ordering) → ordering_index o == 1 ≡ false → o ≡ Equal → ⊥
not_equal Less e f = cc
not_equal Equal e f = cc
not_equal Greater e f = cc

-- ---- by its how

pub is_nothing : (h : How) → Dec (h ≡ Nothing)
is_nothing Nothing = yes refl
is_nothing Whole = no (λ e. cc)
is_nothing Units = no (λ e. cc)
is_nothing Span = no (λ e. cc)

pub is_whole : (h : How) → Dec (h ≡ Whole)
is_whole Nothing = no (λ e. cc)
is_whole Whole = yes refl
is_whole Units = no (λ e. cc)
is_whole Span = no (λ e. cc)

module _ {s : List ℕ} {p : Part} {v : Value} where
  pub whole_of : p.how ≡ Whole → PartIs s p v → At s p.at v
  whole_of e (inl h) = h.1
  whole_of e (inr (inl h)) = (cc (h.0))
  whole_of e (inr (inr h)) = (cc (h.0))

  pub selects_of : p.how ≡ Units → PartIs s p v → Selects s p.at p.extent v
  selects_of e (inl h) = (cc (h.0))
  selects_of e (inr (inl h)) = h.1
  selects_of e (inr (inr h)) = (cc (h.0))

  pub spans_of : p.how ≡ Span → PartIs s p v → Spans s p.at (p.at + p.extent) v
  spans_of e (inl h) = (cc (h.0))
  spans_of e (inr (inl h)) = (cc (h.0))
  spans_of e (inr (inr h)) = h.1

-- a mask has at most seven bits
pub selects_low : {s : List ℕ} {at m : ℕ} {v : Value} → Selects s at m v → m < 128
selects_low x =
    let b = x.below in
    let l : 2 ^ length x.all ≤ 2 ^ 7 = pow-le-pow_right (omega arith) x.few in
    omega arith

-- ---- one value

items_of_injective : (vs ws : List Value) → items_of vs ≡ items_of ws → vs ≡ ws
items_of_injective vs ws e = sym (list_items vs) ∙ ap list_of e ∙ list_items ws

-- the items of a collection that is given twice
pub one_collection : {k l : Kind} {vs ws : List Value} → collection k (items_of vs) ≡ collection l (items_of ws) → vs ≡ ws
one_collection {vs = vs} {ws = ws} e = items_of_injective vs ws (cc)

-- what holds of a kind and units of it holds of whatever kind and units make the same collection
pub one_units : (P : (k : Kind) → List (UnitOf k) → Type 0) (k l : Kind) (us : List (UnitOf k)) (ws : List (UnitOf l))
    → collection k (items_of (items_in k us)) ≡ collection l (items_of (items_in l ws)) → P k us → P l ws
one_units P k l us ws e h =
    let n : k ≡ l = number_inj k l (ap kind_of e) in
    let i : items_in k us ≡ items_in l ws = one_collection e in
    let g : P l (units_of l (items_in k us)) = subst (λ (j : Kind). P j (units_of j (items_in k us))) n (subst (P k) (sym (units_items k us)) h) in
    subst (P l) (ap (units_of l) i ∙ units_items l ws) g

selects_one : {s : List ℕ} {at mask : ℕ} {v w : Value} → Selects s at mask v → Selects s at mask w → v ≡ w
selects_one {mask = mask} {v = v} h g =
    one_units (λ (k : Kind) (us : List (UnitOf k)). v ≡ collection k (items_of (items_in k (keep mask us)))) h.kind g.kind h.all g.all (one_value h.here g.here) h.is
    ∙ sym g.is

spans_one : {s : List ℕ} {from to : ℕ} {v w : Value} → Spans s from to v → Spans s from to w → v ≡ w
spans_one h g = h.is ∙ ap (collection sequence) (one_list h.here g.here) ∙ sym g.is

-- THEOREM: a part denotes one value
pub part_one : {s : List ℕ} {p : Part} {v w : Value} → PartIs s p v → PartIs s p w → v ≡ w
part_one (inl h) g = one_value h.1 (whole_of h.0 g)
part_one (inr (inl h)) g = selects_one h.1 (selects_of h.0 g)
part_one (inr (inr h)) g = spans_one h.1 (spans_of h.0 g)

-- ---- well-formed

pub keep_part : {A : Type 0} (m : ℕ) (us : List A) → PartOf (keep m us) us
unfolding keep
keep_part m [] = refl
keep_part m (u ∷ us) = go (odd m) (keep_part (m / 2) us)
  where
    go : (b : Bool) → PartOf (keep (m / 2) us) us → PartOf (cond b (u ∷ keep (m / 2) us) (keep (m / 2) us)) (u ∷ us)
    go true h = inr (keep (m / 2) us, refl, h)
    go false h = inl h

-- THEOREM: what a part denotes is well-formed
pub part_well_formed : {s : List ℕ} {p : Part} {v : Value} → PartIs s p v → WellFormed v
part_well_formed (inl h) = h.1.fine
part_well_formed {p = p} (inr (inl h)) =
    let x = h.1 in
    subst WellFormed (sym x.is) (part_fine x.kind (keep p.extent x.all) x.all (divides x.kind x.unordered) (keep_part p.extent x.all) x.here.fine)
part_well_formed (inr (inr h)) =
    let x = h.1 in
    subst WellFormed (sym x.is) (well_formed_collection tt x.here.fine x.short)

-- ---- where a part ends

pub end_span : (s : List ℕ) (p : Part) → p.how ≡ Span → end_of s p ≡ p.at + p.extent
end_span s p e = rw e refl

pub end_record : (s : List ℕ) (p : Part) → (p.how ≡ Span → ⊥) → end_of s p ≡ p.at + word s p.at
end_record s p f = go p.how f
  where
    go : (h : How) → (h ≡ Span → ⊥) → p.at + size_by h p.extent (word s p.at) ≡ p.at + word s p.at
    go Nothing g = refl
    go Whole g = refl
    go Units g = refl
    go Span g = absurd (g refl)

-- ---- kept

-- THEOREM: a part below a place denotes the same where what is below that place is as it was, and ends at the same place
pub part_kept : {s t : List ℕ} {base : ℕ} {p : Part} {v : Value} → take base t ≡ take base s → base ≤ length t → end_of s p ≤ base → PartIs s p v → PartIs t p v × (end_of t p ≡ end_of s p)
part_kept {s} {t} {base} {p} {v} e l b (inl h) =
    let n = end_record s p (λ q. cc (h.0)) in
    let m = end_record t p (λ q. cc (h.0)) in
    let w = word_size h.1 in
    let low = size_low v in
    (inl (h.0, kept e l (omega arith) h.1), m ∙ ap (λ (x : ℕ). p.at + x) (word_kept base p.at s t (omega arith) e) ∙ sym n)
part_kept {s} {t} {base} {p} {v} e l b (inr (inl h)) =
    let x = h.1 in
    let n = end_record s p (λ q. cc (h.0)) in
    let m = end_record t p (λ q. cc (h.0)) in
    let w = word_size x.here in
    let low = size_low (collection x.kind (items_of (items_in x.kind x.all))) in (
      inr (inl (h.0, record { kind = x.kind; unordered = x.unordered; all = x.all; here = kept e l (omega arith) x.here; few = x.few; below = x.below; is = x.is })),
      m ∙ ap (λ (y : ℕ). p.at + y) (word_kept base p.at s t (omega arith) e) ∙ sym n,
    )
part_kept {s} {t} {base} {p} {v} e l b (inr (inr h)) =
    let x = h.1 in
    let n = end_span s p h.0 in
    let m = end_span t p h.0 in
    (inr (inr (h.0, record { items = x.items; here = items_kept e l (omega arith) x.here; short = x.short; is = x.is })), m ∙ sym n)

-- A part lies within the slice.
pub part_inside : {s : List ℕ} {p : Part} {v : Value} → PartIs s p v → end_of s p ≤ length s
part_inside {s} {p} (inl h) =
    let e = end_record s p (λ q. cc (h.0)) in
    omega (arith, word_size h.1, h.1.fits)
part_inside {s} {p} (inr (inl h)) =
    let e = end_record s p (λ q. cc (h.0)) in
    omega (arith, word_size h.1.here, h.1.here.fits)
part_inside {s} {p} (inr (inr h)) =
    let e = end_span s p h.0 in
    omega (arith, h.1.here.fits)

-- THEOREM: what a part denotes in the first n bytes of a slice it denotes in the slice, and it ends there
pub part_longer : {s : List ℕ} {p : Part} {v : Value} (n : ℕ) → n ≤ length s → PartIs (take n s) p v → PartIs s p v × (end_of s p ≤ n)
part_longer {s} {p} {v} n l h =
    let i = part_inside h in
    let m = length-take n s in
    let w = part_kept {s = take n s} {t = s} {base = n} {p = p} {v = v} (sym (take-take n n s (omega arith))) l (omega arith) h in
    (w.0, omega (arith, w.1))

-- ---- collections

pub as_list : (k : Kind) (vs : Items) → collection k vs ≡ collection k (items_of (list_of vs))
as_list k vs = ap (collection k) (sym (items_list vs))

-- a value of a collection's kind is a collection of that kind
pub of_kind : (k : Kind) (v : Value) → kind_of v ≡ number k → (vs : List Value) × (v ≡ collection k (items_of vs))
of_kind k v e =
    let low = number_low k in
    let (l, vs, d) = is_collection v (λ z. omega arith) (λ z. omega arith) (λ z. omega (arith, number_high k)) in
    let n : l ≡ k = number_inj l k (sym (ap kind_of d) ∙ e) in
    (list_of vs, d ∙ as_list l vs ∙ ap (λ (i : Kind). collection i (items_of (list_of vs))) n)

-- a part of a collection's kind denotes one
pub collection_held : {s : List ℕ} {p : Part} {n : ℕ} (k : Kind) → KindOfPart s p n → n ≡ number k → PartHeld s p → CollectionHeld s p
collection_held {s} {p} k c e h =
    let (vs, d) = of_kind k h.value (sym (c h.value h.here) ∙ e) in
    record { kind = k; items = vs; here = subst (PartIs s p) d h.here }

-- ---- a slice lent on as one of its own

pub lent_on : (s : List ℕ) → take (length s - 0) (drop 0 s) ≡ s
lent_on s = take_all (length s - 0) s (omega arith)

-- ---- whole records

pub whole_part : {s : List ℕ} {at : ℕ} {v : Value} → At s at v → PartIs s (whole_at at) v
whole_part h = inl (refl, h)

pub whole_here : {s : List ℕ} {at : ℕ} {q : Part} → q ≡ whole_at at → Holds s at → PartHeld s q
whole_here {s} e h = subst (PartHeld s) (sym e) (record { value = h.value; here = whole_part h.here })
