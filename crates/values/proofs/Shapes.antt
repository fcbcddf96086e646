-- The shape of items that stand between two places, told from the first of them on.
use mathlib.Core.Path.{◌≡◌, refl, sym, ap, subst, ◌∙◌}
use mathlib.Core.Bool.{Bool, true, false}
use mathlib.Core.List.{List}
use Prim.Native.Nat.{ℕ, suc, ◌+◌, ◌≤◌, ◌<◌}
use native.Mathlib.Omega.{arith}
use lib.Dec.{leb}
use Rattle.std.specs.declared.cmp.Ordering.{Ordering}
use Rattle.std.specs.declared.cmp.Ordering.TheVariants.{Less, Equal, Greater}
use Rattle.std.specs.Ordering.{is_lt}
use Rattle.prelude.proofs.Absurd.{never}
use Rattle.values.specs.Value.{Kind, set, sequence, map, tuple, number, Value, Items, more, count, every_other, order, Before, Ascending, PairedFrom, Shaped, value_limit}
use Rattle.values.specs.Place.{At, ItemsAt, HoldsItems}
use Rattle.values.specs.Contract.{Length, Ordered}
use Rattle.values.proofs.Order.{number_inj}
use Rattle.values.proofs.Encoding.{count_sizes}
use Rattle.values.proofs.Records.{items_none, uncons_of}
use Rattle.values.proofs.Members.{before_first}
use Rattle.values.specs.Validity.{Tells, TellsItems, CountsItems, Entries, ItemsShapedAs}
use Rattle.values.proofs.Telling.{tells_true, tells_false, tells_of, tells_most}

-- ---- the first item, and what is left

pub record Starts (s : List ℕ) (from to n : ℕ) (vs : Items) : Type 0 where
  pub first : Value
  pub left : Items
  pub is : vs ≡ more first left
  pub here : At s from first
  pub rest : ItemsAt s (from + n) to left
  pub low : 4 ≤ n
  pub inside : from + n ≤ to

pub starts : {s : List ℕ} {from to n : ℕ} {vs : Items} → (from ≡ to → ⊥) → Length s from n → ItemsAt s from to vs → Starts s from to n vs
starts {s} {from} {to} {n} f l h =
    let y = uncons_of f h in
    let e = l.is in
    record {
      first = y.first;
      left = y.rest;
      is = y.is;
      here = y.first-at;
      rest = subst (λ (m : ℕ). ItemsAt s (from + m) to y.rest) (sym e) y.rest_at;
      low = l.low;
      inside = omega arith;
    }

-- the same, of whatever items stand there
pub rest_inside : {s : List ℕ} {from to n : ℕ} → (from ≡ to → ⊥) → Length s from n → HoldsItems s from to → from + n ≤ to
rest_inside f l h = (starts f l h.1).inside

-- ---- strictly ascending

pub lower_is : {o : Ordering} → is_lt o ≡ true → o ≡ Less
lower_is {o = Less} e = refl
lower_is {o = Equal} e = never e
lower_is {o = Greater} e = never e

pub not_lower : {o : Ordering} → is_lt o ≡ false → o ≡ Less → ⊥
not_lower e f = never (sym e ∙ ap is_lt f)

pub ascending-none : {s : List ℕ} {from to : ℕ} → from ≡ to → TellsItems Ascending s from to true
unfolding Ascending
ascending-none e vs h = tells_true (subst Ascending (sym (items_none (omega arith) h)) tt)

pub ascending_one : {s : List ℕ} {from to n : ℕ} → (from ≡ to → ⊥) → Length s from n → from + n ≡ to → TellsItems Ascending s from to true
unfolding Ascending Before
ascending_one f l e vs h =
    let y = starts f l h in
    tells_true (subst Ascending (sym (y.is ∙ ap (more y.first) (items_none (omega arith) y.rest))) (tt, tt))

module _ {s : List ℕ} {from to n : ℕ} (f : from ≡ to → ⊥) (l : Length s from n) (g : from + n ≡ to → ⊥) {o : Ordering} (p : Ordered s from (from + n) o) where
  pub ascending_on : {r : Bool} → o ≡ Less → TellsItems Ascending s (from + n) to r → TellsItems Ascending s from to r
  unfolding Ascending
  ascending_on {r} e t vs h =
      let y = starts f l h in
      let z = uncons_of g y.rest in
      let v = y.first in
      let low : order v z.first ≡ Less = sym (p v z.first y.here z.first-at) ∙ e in
      let b : Tells (Ascending (more z.first z.rest)) r = subst (λ (x : Items). Tells (Ascending x) r) z.is (t y.left y.rest) in
      subst (λ (x : Items). Tells (Ascending x) r) (sym (y.is ∙ ap (more v) z.is))
      (tells_of (λ a. (before_first v z.first z.rest low a.0, a)) (λ a. a.1) b)

  pub ascending_off : (o ≡ Less → ⊥) → TellsItems Ascending s from to false
  unfolding Ascending Before
  ascending_off q vs h =
      let y = starts f l h in
      let z = uncons_of g y.rest in
      let v = y.first in
      let d = p v z.first y.here z.first-at in
      subst (λ (x : Items). Tells (Ascending x) false) (sym (y.is ∙ ap (more v) z.is)) (tells_false (λ a. q (d ∙ a.0.0)))

-- ---- entries with strictly ascending keys

pub entries_none : {s : List ℕ} {from to : ℕ} → from ≡ to → TellsItems Entries s from to true
unfolding Ascending PairedFrom every_other
entries_none e vs h = tells_true (subst Entries (sym (items_none (omega arith) h)) (tt, tt))

-- a key without its value
pub entries_half : {s : List ℕ} {from to n : ℕ} → (from ≡ to → ⊥) → Length s from n → from + n ≡ to → TellsItems Entries s from to false
unfolding PairedFrom
entries_half f l e vs h =
    let y = starts f l h in
    subst (λ (x : Items). Tells (Entries x) false) (sym (y.is ∙ ap (more y.first) (items_none (omega arith) y.rest))) (tells_false (λ a. a.0))

module _ {s : List ℕ} {from to n m : ℕ} (f : from ≡ to → ⊥) (l : Length s from n) (g : from + n ≡ to → ⊥) (k : Length s (from + n) m) where
  pub entries_one : from + n + m ≡ to → TellsItems Entries s from to true
  unfolding Ascending Before PairedFrom every_other
  entries_one e vs h =
      let y = starts f l h in
      let x = starts g k y.rest in
      let d = y.is ∙ ap (more y.first) (x.is ∙ ap (more x.first) (items_none (omega arith) x.rest)) in
      tells_true (subst Entries (sym d) (tt, (tt, tt)))

  module _ (i : from + n + m ≡ to → ⊥) {o : Ordering} (p : Ordered s from (from + n + m) o) where
    pub entries_on : {r : Bool} → o ≡ Less → TellsItems Entries s (from + n + m) to r → TellsItems Entries s from to r
    unfolding Ascending PairedFrom every_other
    entries_on {r} e t vs h =
        let y = starts f l h in
        let x = starts g k y.rest in
        let z = uncons_of i x.rest in
        let v = y.first in
        let w = z.first in
        let low : order v w ≡ Less = sym (p v w y.here z.first-at) ∙ e in
        let b : Tells (Entries (more w z.rest)) r = subst (λ (x : Items). Tells (Entries x) r) z.is (t x.left x.rest) in
        subst (λ (x : Items). Tells (Entries x) r) (sym (y.is ∙ ap (more v) (x.is ∙ ap (more x.first) z.is)))
        (tells_of (λ a. (a.0, (before_first v w (every_other false z.rest) low a.1.0, a.1))) (λ a. (a.0, a.1.1)) b)

    pub entries_off : (o ≡ Less → ⊥) → TellsItems Entries s from to false
    unfolding Ascending Before PairedFrom every_other
    entries_off q vs h =
        let y = starts f l h in
        let x = starts g k y.rest in
        let z = uncons_of i x.rest in
        let v = y.first in
        let d = p v z.first y.here z.first-at in
        subst (λ (x : Items). Tells (Entries x) false) (sym (y.is ∙ ap (more v) (x.is ∙ ap (more x.first) z.is))) (tells_false (λ a. q (d ∙ a.1.0.0)))

-- ---- how many

pub count_none : {s : List ℕ} {from to : ℕ} → from ≡ to → CountsItems s from to 0
unfolding count
count_none e vs h = sym (ap count (items_none (omega arith) h))

pub count_more : {s : List ℕ} {from to n r : ℕ} → (from ≡ to → ⊥) → Length s from n → CountsItems s (from + n) to r → CountsItems s from to (1 + r)
unfolding count
count_more f l t vs h =
    let y = starts f l h in
    let e = t y.left y.rest in
    let d : count vs ≡ suc (count y.left) = ap count y.is in
    omega arith

pub items_few : {s : List ℕ} {from to r : ℕ} → HoldsItems s from to → CountsItems s from to r → r ≤ value_limit
items_few (vs, h) t =
    let e = t vs h in
    let f = h.short in
    let g = count_sizes vs in
    omega arith

-- ---- as a kind asks

-- the items of a set, a sequence, a map
pub shaped_as : {s : List ℕ} {from to kind : ℕ} {r : Bool} (k : Kind) → kind ≡ number k → TellsItems (Shaped k) s from to r → TellsItems (ItemsShapedAs kind) s from to r
shaped_as k e t vs h = tells_of (λ x. (k, e, x)) (λ x. subst (λ (l : Kind). Shaped l vs) (number_inj x.0 k (sym x.1 ∙ e)) x.2) (t vs h)

-- no kind of collection has the number
pub shaped_off : {s : List ℕ} {from to kind : ℕ} → (kind ≡ 3 → ⊥) → (kind ≡ 4 → ⊥) → (kind ≡ 5 → ⊥) → (kind ≡ 6 → ⊥) → TellsItems (ItemsShapedAs kind) s from to false
shaped_off {kind = kind} f g h i vs a = tells_false (λ x. no x.0 x.1)
  where
    no : (k : Kind) → kind ≡ number k → ⊥
    no set e = f e
    no sequence e = g e
    no map e = h e
    no tuple e = i e

-- two to four in a tuple
pub tuple_count_few : {s : List ℕ} {from to n : ℕ} → CountsItems s from to n → n < 2 → TellsItems (Shaped tuple) s from to false
tuple_count_few t l vs h = let e = t vs h in tells_false (λ x. omega arith)

pub tuple_most : {s : List ℕ} {from to n : ℕ} → CountsItems s from to n → 2 ≤ n → TellsItems (Shaped tuple) s from to (leb n 4)
tuple_most {n = n} t l vs h = let e = t vs h in tells_of (λ x. (omega arith, omega arith)) (λ x. omega arith) (tells_most n 4)
