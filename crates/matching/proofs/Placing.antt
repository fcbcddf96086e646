-- Which unit stands where in an order, by recursion on the number of units; and which item, by the unit that it is of.
use mathlib.Core.Path.{◌≡◌, refl, sym, ap, subst, ◌∙◌}
use mathlib.Core.List.{List, [], ◌∷◌}
use Prim.Native.Nat.{ℕ, zero, suc, ◌+◌, ◌*◌, ◌-◌, ◌/◌, ◌%◌, ◌≤◌, ◌<◌}
use native.Mathlib.Nat.{div-add-mod', div-lt_iff_lt-mul, mod-lt}
use native.Mathlib.Omega.{arith}
use lib.ListN.{length, get_or}
use Rattle.values.specs.Value.{Kind, set, sequence, map as mapping, tuple, Value}
use Rattle.values.specs.Entries.{Entry, flat}
use Rattle.patterns.specs.Ways.{orders}
use Rattle.patterns.specs.Pattern.{list_of, UnitOf, items_in}
use Rattle.patterns.specs.Nodes.{width}
use Rattle.patterns.proofs.Laws.Orders.{factorial_more, order_here, order_before, order_after}
use Rattle.patterns.specs.Ways.{factorial}
use Rattle.matching.specs.Node.{Ordinal}

-- ---- the numbers of orders

pub few_orders : (n : ℕ) → n < 2 → (1 ≡ factorial n) × (0 < 1) × (1 < 256)
unfolding factorial
few_orders zero h = (refl, omega arith, omega arith)
few_orders (suc zero) h = (refl, omega arith, omega arith)
few_orders (suc (suc n)) h = absurd (omega arith)

pub two_orders : (n : ℕ) → n ≡ 2 → 2 ≡ factorial n
unfolding factorial
two_orders n e = rw e

pub three_orders : (n : ℕ) → n ≡ 3 → 6 ≡ factorial n
unfolding factorial
three_orders n e = rw e

pub four_orders : (n : ℕ) → n ≡ 4 → 24 ≡ factorial n
unfolding factorial
four_orders n e = rw e

-- ---- one order

quotient_of : (m d : ℕ) → d < factorial (suc m) → d / suc m < factorial m
quotient_of m d h = (div-lt_iff_lt-mul {k = suc m} {x = d} {y = factorial m} (omega arith)).1 (subst (λ (k : ℕ). d < k) (factorial_more m) h)

pub quotient_low : (n d : ℕ) → 0 < n → d < factorial n → d / n < factorial (n - 1)
quotient_low zero d p h = absurd (omega arith)
quotient_low (suc m) d p h = let e : suc m - 1 ≡ m = omega arith in subst (λ (k : ℕ). d / suc m < factorial k) (sym e) (quotient_of m d h)

pub rest_low : (n d : ℕ) → 0 < n → d % n < n
rest_low n d p = mod-lt d p

-- of the units x and xs
module _ {A : Type 0} (x : A) (xs : List A) (d : ℕ) (z : A) (h : d < factorial (suc (length xs))) where
  at : (i : ℕ) → get_or (get_or (orders (x ∷ xs)) d []) i z ≡ get_or (get_or (orders (x ∷ xs)) (d / suc (length xs) * suc (length xs) + d % suc (length xs)) []) i z
  at i = ap (λ (k : ℕ). get_or (get_or (orders (x ∷ xs)) k []) i z) (sym (div-add-mod' d (suc (length xs))))

  first : (i : ℕ) → i ≡ d % suc (length xs) → get_or (get_or (orders (x ∷ xs)) d []) i z ≡ x
  first i e =
      at i ∙ ap (λ (k : ℕ). get_or (get_or (orders (x ∷ xs)) (d / suc (length xs) * suc (length xs) + d % suc (length xs)) []) k z) e
      ∙ order_here x xs (d / suc (length xs)) (d % suc (length xs)) z (quotient_of (length xs) d h) (mod-lt d (omega arith))

  before : (i : ℕ) → i < d % suc (length xs) → get_or (get_or (orders (x ∷ xs)) d []) i z ≡ get_or (get_or (orders xs) (d / suc (length xs)) []) i z
  before i l = at i ∙ order_before x xs (d / suc (length xs)) (d % suc (length xs)) z (quotient_of (length xs) d h) (mod-lt d (omega arith)) i l

  after : (i : ℕ) → d % suc (length xs) ≤ i → get_or (get_or (orders (x ∷ xs)) d []) (suc i) z ≡ get_or (get_or (orders xs) (d / suc (length xs)) []) i z
  after i l = at (suc i) ∙ order_after x xs (d / suc (length xs)) (d % suc (length xs)) z (quotient_of (length xs) d h) (mod-lt d (omega arith)) i l

module _ (n d i : ℕ) (p : 0 < n) (h : d < factorial n) where
  pub placed_first : i ≡ d % n → Ordinal n d i 0
  placed_first e = record { below = p; right = λ k us z l. go us z l }
    where
      go : {A : Type 0} (us : List A) (z : A) → length us ≡ n → get_or (get_or (orders us) d []) i z ≡ get_or us 0 z
      go [] z l = absurd (omega arith)
      go (x ∷ xs) z l = first x xs d z (subst (λ (k : ℕ). d < factorial k) (sym l) h) i (e ∙ ap (λ (k : ℕ). d % k) (sym l))

  -- A unit behind the first stands where the order of the rest, read at j, has it.
  placed_later : (r j : ℕ)
      → ((k : Kind) (x : UnitOf k) (xs : List (UnitOf k)) (z : UnitOf k) → suc (length xs) ≡ n → get_or (get_or (orders (x ∷ xs)) d []) i z ≡ get_or (get_or (orders xs) (d / suc (length xs)) []) j z)
      → Ordinal (n - 1) (d / n) j r → Ordinal n d i (1 + r)
  placed_later r j same o = record { below = omega (arith, o.below); right = λ k us z l. go k us z l }
    where
      go : (k : Kind) (us : List (UnitOf k)) (z : UnitOf k) → length us ≡ n → get_or (get_or (orders us) d []) i z ≡ get_or us (1 + r) z
      go k [] z l = absurd (omega arith)
      go k (x ∷ xs) z l =
          let e : 1 + r ≡ suc r = omega arith in
          same k x xs z l
          ∙ ap (λ (m : ℕ). get_or (get_or (orders xs) (d / m) []) j z) l
          ∙ o.right k xs z (omega arith)
          ∙ ap (λ (m : ℕ). get_or (x ∷ xs) m z) (sym e)

  pub placed_before : (r : ℕ) → i < d % n → Ordinal (n - 1) (d / n) i r → Ordinal n d i (1 + r)
  placed_before r b o = placed_later r i (λ k x xs z l. before x xs d z (subst (λ (m : ℕ). d < factorial m) (sym l) h) i (subst (λ (m : ℕ). i < d % m) (sym l) b)) o

  pub placed_after : (r : ℕ) → d % n < i → Ordinal (n - 1) (d / n) (i - 1) r → Ordinal n d i (1 + r)
  placed_after r b o =
      let f : i ≡ suc (i - 1) = omega arith in
      let low : d % n ≤ i - 1 = omega arith in
      placed_later r (i - 1)
      (λ k x xs z l.
      ap (λ (m : ℕ). get_or (get_or (orders (x ∷ xs)) d []) m z) f
      ∙ after x xs d z (subst (λ (m : ℕ). d < factorial m) (sym l) h) (i - 1) (subst (λ (m : ℕ). d % m ≤ i - 1) (sym l) low)) o

-- ---- the items of a unit

-- the default is of no account within a list
at_within : {A : Type 0} (xs : List A) (i : ℕ) (y z : A) → i < length xs → get_or xs i y ≡ get_or xs i z
at_within [] i y z h = absurd (omega arith)
at_within (x ∷ xs) zero y z h = refl
at_within (x ∷ xs) (suc i) y z h = at_within xs i y z (omega arith)

member-item : (vs : List Value) (a j : ℕ) (v z : Value) → a < length vs → j < 1 → get_or vs (1 * a + j) z ≡ get_or (get_or vs a v ∷ []) j z
member-item vs a zero v z l m = let e : 1 * a + 0 ≡ a = omega arith in ap (λ (i : ℕ). get_or vs i z) e ∙ at_within vs a z v l
member-item vs a (suc j) v z l m = absurd (omega arith)

entry-item : (es : List Entry) (a j : ℕ) (e : Entry) (z : Value) → a < length es → j < 2 → get_or (list_of (flat es)) (2 * a + j) z ≡ get_or (list_of (flat (get_or es a e ∷ []))) j z
unfolding list_of flat
entry-item [] a j e z l m = absurd (omega arith)
entry-item (f ∷ es) zero zero e z l m = refl
entry-item (f ∷ es) zero (suc zero) e z l m = refl
entry-item (f ∷ es) zero (suc (suc j)) e z l m = absurd (omega arith)
entry-item (f ∷ es) (suc a) j e z l m =
    let d : 2 * suc a + j ≡ suc (suc (2 * a + j)) = omega arith in
    ap (λ (i : ℕ). get_or (f.key ∷ f.value ∷ list_of (flat es)) i z) d ∙ entry-item es a j e z (omega arith) m

-- THEOREM: item j of the unit at a
pub unit_item : (k : Kind) (us : List (UnitOf k)) (a j : ℕ) (u : UnitOf k) (z : Value) → a < length us → j < width k → get_or (items_in k us) (width k * a + j) z ≡ get_or (items_in k (get_or us a u ∷ [])) j z
unit_item set us a j u z l m = member-item us a j u z l m
unit_item sequence us a j u z l m = member-item us a j u z l m
unit_item mapping us a j u z l m = entry-item us a j u z l m
unit_item tuple us a j u z l m = member-item us a j u z l m

-- Where a unit of one list is one of another, so are its items.
pub same_item : (k : Kind) (us ws : List (UnitOf k)) (a b j : ℕ) (z : Value) → ((u : UnitOf k) → get_or us a u ≡ get_or ws b u) → a < length us → b < length ws → j < width k
    → get_or (items_in k us) (width k * a + j) z ≡ get_or (items_in k ws) (width k * b + j) z
same_item k [] ws a b j z e l m h = absurd (omega arith)
same_item k (u ∷ us) ws a b j z e l m h =
    unit_item k (u ∷ us) a j u z l h ∙ ap (λ (x : UnitOf k). get_or (items_in k (x ∷ [])) j z) (e u) ∙ sym (unit_item k ws b j u z m h)
