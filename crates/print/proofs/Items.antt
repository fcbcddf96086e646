-- A value and its items, written one after the other.
use mathlib.Core.Path.{◌≡◌, refl, sym, ap, ap₂, subst, ◌∙◌}
use mathlib.Core.Bool.{Bool}
use mathlib.Core.List.{List, ◌++◌}
use Prim.Native.Nat.{ℕ, ◌+◌, ◌<◌}
use native.Mathlib.Omega.{arith}
use borrow.Author.Tests.{ne_eqb}
use lib.Dec.{eqb}
use lib.IntN.{ℤ}
use lib.ListN.{length}
use mir.Syntax.{w32}
use mir.Val.{to_z, of_z}
use mir.Facts.{to_z-of_z}
use Rattle.integers.proofs.Range.{range_fits}
use Rattle.values.specs.Value.{Kind, set, sequence, map, tuple, number, boolean, integer, quote, collection, Items, none, more, size, sizes}
use Rattle.values.specs.Place.{At, ItemsAt, Holds, HoldsItems}
use Rattle.values.specs.Contract.{Length, KindAt}
use Rattle.values.proofs.Encoding.{size_low, collection_size}
use Rattle.values.proofs.Records.{word_size, holds, one_value, items_none, Uncons, uncons_of, is_collection, items_to, collection_shaped, collection_sound, integer_range, quote_range}
use Rattle.print.specs.declared.Separator.{Separator}
use Rattle.print.specs.declared.Separator.TheVariants.{Nothing}
use Rattle.print.specs.Text.{truth_text, integer_text, quote_text, text}
use Rattle.print.specs.Contract.{Room, Wrote, ValueRoom, ValueWritten, separator_text, following, spelled, ItemsRoom, ItemsWritten, opening, closing_bracket, Opened, Closed}
use Rattle.print.proofs.Writing.{wrote_none, wrote_then, wrote_as, wrote_length}
use Rattle.print.proofs.Spelling.{is_none, is_map, text_is, before_short, opening_short, truth_short, integer_short, quote_short, text_short, spelled_short}

-- ---- items

pub spelled_end : {s : List ℕ} {from to : ℕ} (for_map : Bool) (x : Separator) (out : List ℕ) (at : ℕ) → from ≡ to → ItemsWritten s from to for_map x out out at at
unfolding spelled
spelled_end for_map x out at e vs h = wrote_as (ap (spelled for_map x) (sym (items_none (omega arith) h))) (wrote_none out at)

module _ {s : List ℕ} {from to : ℕ} (f : from ≡ to → ⊥) where
  -- the first of the items, whatever they are
  pub spelled_begun : (h : HoldsItems s from to) → Uncons s from to h.0
  spelled_begun (vs, h) = uncons_of f h

  pub first_holds : HoldsItems s from to → Holds s from
  first_holds h = holds (spelled_begun h).first-at

  pub separator_room : {out : List ℕ} {at : ℕ} (x : Separator) → ItemsRoom s from to out at → Room out at (separator_text x)
  separator_room x r = let u = spelled_begun r.held in omega (arith, before_short x)

  module _ {out out₁ : List ℕ} {at p : ℕ} (x : Separator) (w : Wrote out out₁ at (separator_text x) p) where
    pub first_room : ItemsRoom s from to out at → ValueRoom s from out₁ p
    first_room r =
        let u = spelled_begun r.held in
        record { held = holds u.first-at; room = omega (arith, before_short x, wrote_length w) }

    module _ {out₂ : List ℕ} {q n : ℕ} (l : Length s from n) (g : ValueWritten s from out₁ out₂ p q) where
      pub rest_room : ItemsRoom s from to out at → ItemsRoom s (from + n) to out₂ q
      rest_room r =
          let u = spelled_begun r.held in
          let v = g u.first u.first-at in
          let b = text_short u.first u.first-at.fine.sound in
          let e = word_size u.first-at in
          let k = l.is in
          record {
            held = (u.rest, subst (λ (k : ℕ). ItemsAt s (from + k) to u.rest) (sym l.is) u.rest_at);
            ordered = omega arith;
            inside = r.inside;
            room = omega (arith, before_short x, wrote_length w, wrote_length v);
          }

      pub items_written : {out₃ : List ℕ} {r : ℕ} (for_map : Bool) {y : Separator} → y ≡ following for_map x → ItemsWritten s (from + n) to for_map y out₂ out₃ q r → ItemsWritten s from to for_map x out out₃ at r
      unfolding spelled
      items_written for_map e h vs i =
          let u = uncons_of f i in
          let j : ItemsAt s (from + n) to u.rest = subst (λ (k : ℕ). ItemsAt s (from + k) to u.rest) (sym l.is) u.rest_at in
          let z = wrote_then (wrote_then w (g u.first u.first-at)) (h u.rest j) in
          wrote_as
          (ap (λ (z : Separator). (separator_text x ++ text u.first) ++ spelled for_map z u.rest) e ∙ ap (spelled for_map x) (sym u.is))
          z

-- ---- booleans, integers and quotes

module _ {s : List ℕ} {from : ℕ} where
  pub boolean_text_room : {out : List ℕ} {at : ℕ} {b : Bool} → At s from (boolean b) → ValueRoom s from out at → Room out at (truth_text b)
  unfolding size
  boolean_text_room {out} {at} {b} h r = let e = word_size h in omega (arith, truth_short b)

  pub boolean_written : {out out' : List ℕ} {at r : ℕ} {b : Bool} → At s from (boolean b) → Wrote out out' at (truth_text b) r → ValueWritten s from out out' at r
  unfolding text
  boolean_written h w v g = wrote_as (ap text (one_value h g)) w

  -- a signed number passed on is the same number
  same_integer : {z : ℤ} → At s from (integer z) → to_z w32 (of_z w32 z) ≡ z
  same_integer {z} h = to_z-of_z (range_fits z (integer_range h.fine))

  pub integer_text_room : {out : List ℕ} {at : ℕ} {z : ℤ} → At s from (integer z) → ValueRoom s from out at → Room out at (integer_text (to_z w32 (of_z w32 z)))
  unfolding size
  integer_text_room {out} {at} {z} h r =
      let e = word_size h in
      let d = ap length (ap integer_text (same_integer h)) in
      omega (arith, integer_short z (integer_range h.fine))

  pub integer_written : {out out' : List ℕ} {at r : ℕ} {z : ℤ} → At s from (integer z) → Wrote out out' at (integer_text (to_z w32 (of_z w32 z))) r → ValueWritten s from out out' at r
  unfolding text
  integer_written h w v g = wrote_as (ap integer_text (same_integer h) ∙ ap text (one_value h g)) w

  pub quote_text_room : {out : List ℕ} {at n : ℕ} → At s from (quote n) → ValueRoom s from out at → Room out at (quote_text n)
  unfolding size
  quote_text_room {out} {at} {n} h r = let e = word_size h in omega (arith, quote_short n (quote_range h.fine))

  pub quote_written : {out out' : List ℕ} {at r n : ℕ} → At s from (quote n) → Wrote out out' at (quote_text n) r → ValueWritten s from out out' at r
  unfolding text
  quote_written h w v g = wrote_as (ap text (one_value h g)) w

-- ---- collections

-- a collection stands at a place, and its kind has this number
pub record Collected (s : List ℕ) (from k : ℕ) : Type 0 where
  pub kind : Kind
  pub items : Items
  pub here : At s from (collection kind items)
  pub is : k ≡ number kind

pub collected_at : {s : List ℕ} {from k : ℕ} → Holds s from → KindAt s from k → (k ≡ 1 → ⊥) → (k ≡ 2 → ⊥) → (k ≡ 7 → ⊥) → Collected s from k
collected_at {s} {from} h e f g i =
    let v = e.right h.value h.here in
    let (k, vs, x) = is_collection h.value (λ p. f (v ∙ p)) (λ p. g (v ∙ p)) (λ p. i (v ∙ p)) in
    let a : At s from (collection k vs) = subst (At s from) x h.here in
    record { kind = k; items = vs; here = a; is = e.right (collection k vs) a }

is_map_of : (k : Kind) → eqb (number k) 5 ≡ is_map k
is_map_of set = refl
is_map_of sequence = refl
is_map_of map = refl
is_map_of tuple = refl

is_none_of : (vs : Items) → eqb (4 + sizes vs) 4 ≡ is_none vs
unfolding size
is_none_of none = refl
is_none_of (more v vs) = let l = size_low v in ne_eqb (4 + (size v + sizes vs)) 4 (λ e. omega arith)

module _ {s : List ℕ} {from k n : ℕ} (c : Collected s from k) (l : Length s from n) where
  sized : n ≡ 4 + sizes c.items
  sized = l.is ∙ word_size c.here ∙ collection_size c.kind c.items

  pub items_room : {out out₁ : List ℕ} {at p : ℕ} (b : Bool) → Opened k b out out₁ at p → ValueRoom s from out at → ItemsRoom s (from + 4) (from + n) out₁ p
  items_room b o r =
      let w = o c.kind c.is in
      let e = l.is in
      record {
        held = (c.items, items_to l.is c.here);
        ordered = omega arith;
        inside = omega arith;
        room = omega (arith, opening_short c.kind b, wrote_length w);
      }

  module _ {out₁ out₂ : List ℕ} {p q : ℕ} (i : ItemsWritten s (from + 4) (from + n) (eqb k 5) Nothing out₁ out₂ p q) where
    pub closing_room : {out : List ℕ} {at : ℕ} (b : Bool) → Opened k b out out₁ at p → ValueRoom s from out at → q < length out₂
    closing_room b o r =
        let w = o c.kind c.is in
        let e = l.is in
        let v = i c.items (items_to l.is c.here) in
        let d = sized in
        omega (arith, opening_short c.kind b, wrote_length w, wrote_length v, spelled_short (eqb k 5) Nothing c.items (collection_sound c.here.fine))

    pub collection_written : {out out₃ : List ℕ} {at r : ℕ} → Opened k (eqb n 4) out out₁ at p → Closed k out₂ out₃ q r → ValueWritten s from out out₃ at r
    collection_written o z v g =
        let xs = o c.kind c.is in
        let ys = i c.items (items_to l.is c.here) in
        let zs = z c.kind c.is in
        let e : eqb n 4 ≡ is_none c.items = ap (λ (j : ℕ). eqb j 4) sized ∙ is_none_of c.items in
        let d : eqb k 5 ≡ is_map c.kind = ap (λ (j : ℕ). eqb j 5) c.is ∙ is_map_of c.kind in
        let t = text_is c.kind c.items (collection_shaped c.here.fine) in
        wrote_as
        (ap₂ (λ (a b : Bool). (opening c.kind a ++ spelled b Nothing c.items) ++ closing_bracket c.kind) e d ∙ sym t ∙ ap text (one_value c.here g))
        (wrote_then (wrote_then xs ys) zs)
