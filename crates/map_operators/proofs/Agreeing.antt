-- The loop of `compatible`: the maps agree on the entries passed. Assumes nothing.
use mathlib.Core.Path.{◌≡◌, refl, sym, ap, ap₂, subst, ◌∙◌}
use mathlib.Core.Bool.{Bool, true, false, ◌&&◌, cond}
use mathlib.Core.List.{List}
use mathlib.Core.Option.{Option}
use Prim.Native.Nat.{ℕ, ◌+◌, ◌≤◌, ◌<◌}
use Rattle.prelude.proofs.Truth.{cond-true, cond-false}
use Rattle.integers.specs.Bytes.{word}
use Rattle.values.specs.Value.{map, Value, Items, Paired}
use Rattle.values.specs.Place.{ItemsAt, Holds}
use Rattle.values.specs.Contract.{AreEqual}
use Rattle.values.proofs.Records.{holds, items_to, items_none, collection_shaped}
use Rattle.collections.specs.Finding.{Found}
use Rattle.std.specs.Prelude.{Err, Some, None}
use Rattle.prelude.specs.declared.Refusal.TheVariants.{Clash}
use Rattle.collections.specs.Finding.{AtKey}
use Rattle.collections.proofs.Shown.{found_at, found_nothing}
use Rattle.operators.specs.Answer.{Answer, refused, clash, sized}
use Rattle.operators.specs.Gather.{every_entry, enter_all}
use Rattle.operators.specs.Maps.{agrees_with, compatible}
use Rattle.calling.specs.Scratch.{second}
use Rattle.calling.specs.Applied.{Applied}
use Rattle.calling.specs.Applied.{Applies}
use Rattle.calling.specs.Operands.{HasTwo, OnBoth}
use Rattle.calling.proofs.Kinding.{same_items, both_by, both_off}
use Rattle.map_operators.specs.Contract.{Beside, Agrees, Compatible}
use Rattle.map_operators.proofs.Pairs.{NextEntry, next_entry}

-- ---- one entry

module _ {s : List ℕ} {at x y p : ℕ} {f : Found} (k : AtKey s at x f) (e : f ≡ Some p) where
  pub found_holds : Beside map s at x y → Holds s p
  found_holds h = holds (found_at (k h.held.items h.key.value h.held.here h.key.here) e).here

  pub found_agrees : {r : Bool} → AreEqual s y p r → Agrees s at x y r
  found_agrees q vs l v a b c = let z = found_at (k vs l a b) e in q v z.value c z.here ∙ sym (ap (λ (o : Option Value). agrees_with o v) z.is)

pub nothing_agrees : {s : List ℕ} {at x y : ℕ} {f : Found} → AtKey s at x f → f ≡ None → Agrees s at x y true
nothing_agrees k e vs l v a b c = sym (ap (λ (o : Option Value). agrees_with o v) (found_nothing (k vs l a b) e))

-- ---- all entries

pub record Agreeing (s : List ℕ) (base end p : ℕ) : Type 0 where
  pub maps : HasTwo map map s base
  pub rest : Items
  pub paired : Paired rest
  pub rest_at : ItemsAt s p end rest
  pub so : compatible maps.left.items maps.right.items ≡ compatible maps.left.items rest

-- of the items that stand there, of all that may
from_items : {s : List ℕ} {base : ℕ} {r : Bool} (h : HasTwo map map s base) → r ≡ compatible h.left.items h.right.items → Compatible s base r
from_items h e vs ws a b = e ∙ ap₂ compatible (same_items h.left.here a) (same_items h.right.here b)

pub agree_start : {s : List ℕ} {base n : ℕ} → n ≡ word s (base + second) → HasTwo map map s base → Agreeing s base (base + second + n) (base + second + 4)
agree_start {s} {base} {n} e h =
    record {
      maps = h;
      rest = h.right.items;
      paired = (collection_shaped h.right.here.fine).0;
      rest_at = items_to e h.right.here;
      so = refl;
    }

module _ {s : List ℕ} {base end p m : ℕ} (w : Agreeing s base end p) (lt : p < end) (e : m ≡ word s p) where
  pub agree_next : {l : ℕ} → l ≡ word s (p + m) → NextEntry s p m l end w.rest
  agree_next d = next_entry lt e d w.rest_at w.paired

  pub agree_beside : Beside map s base p (p + m)
  agree_beside = let y = agree_next refl in record { held = w.maps.left; key = holds y.key_at; value = holds y.value_at }

  module _ {r : Bool} (a : Agrees s base p (p + m) r) where
    -- the test of the first entry and of those after it
    parts : {l : ℕ} (d : l ≡ word s (p + m)) → compatible w.maps.left.items w.rest ≡ r && compatible w.maps.left.items (agree_next d).rest
    unfolding every_entry
    parts d =
        let y = agree_next d in
        let vs = w.maps.left.items in
        ap (compatible vs) y.is ∙ ap (λ (b : Bool). b && compatible vs y.rest) (sym (a vs y.key y.value w.maps.left.here y.key_at y.value_at))

    pub agree_step : {l : ℕ} → r ≡ true → l ≡ word s (p + m) → Agreeing s base end (p + m + l)
    agree_step {l} t d =
        let y = agree_next d in
        record {
          maps = w.maps;
          rest = y.rest;
          paired = y.paired;
          rest_at = y.rest_at;
          so = w.so ∙ parts d ∙ ap (λ (b : Bool). b && compatible w.maps.left.items y.rest) t;
        }

    pub agree_off : r ≡ false → Compatible s base false
    agree_off t = from_items w.maps (sym (w.so ∙ parts refl ∙ ap (λ (b : Bool). b && compatible w.maps.left.items (agree_next refl).rest) t))

pub agree_end : {s : List ℕ} {base end p : ℕ} → Agreeing s base end p → end ≤ p → Compatible s base true
unfolding every_entry
agree_end w le = from_items w.maps (sym (w.so ∙ ap (compatible w.maps.left.items) (items_none le w.rest_at)))

-- ---- munion: 27 first

abbrev pub entered_all : Items → Items → Answer
entered_all vs ws = sized map (enter_all vs ws)

abbrev pub merged_maps : Items → Items → Answer
merged_maps vs ws = cond (compatible vs ws) (entered_all vs ws) (refused clash)

module _ {s : List ℕ} {base : ℕ} {r : Bool} (h : HasTwo map map s base) (c : Compatible s base r) where
  pub merge_done : {t : List ℕ} {q : Applied} → r ≡ true → OnBoth map map entered_all s t base q → OnBoth map map merged_maps s t base q
  merge_done {t} {q} e o =
      let vs = h.left.items in
      let ws = h.right.items in
      let a = h.left.here in
      let b = h.right.here in
      both_by {f = merged_maps} o.kept a b
      (subst (λ (x : Answer). Applies t base q x) (sym (cond-true (compatible vs ws) (entered_all vs ws) (refused clash) (sym (c vs ws a b) ∙ e))) (o.right vs ws a b))

  pub merge_clash : r ≡ false → OnBoth map map merged_maps s s base (Err Clash)
  merge_clash e = both_off (λ vs ws a b. cond-false (compatible vs ws) (entered_all vs ws) (refused clash) (sym (c vs ws a b) ∙ e))
