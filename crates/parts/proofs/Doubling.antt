-- How many items a unit has, and the masks of the items of units: for entries, each bit twice.
use mathlib.Core.Path.{◌≡◌, refl, sym, ap, subst, ◌∙◌}
use mathlib.Core.Bool.{true, false, not}
use mathlib.Core.List.{List, [], ◌∷◌}
use Prim.Native.Nat.{ℕ, zero, suc, ◌+◌, ◌*◌, ◌/◌, ◌%◌, ◌^◌, ◌<◌}
use native.Mathlib.Nat.{pow-suc}
use native.Mathlib.Decide.{ℕ_discrete}
use native.Mathlib.Omega.{arith}
use lib.Dec.{eqb}
use lib.ListN.{length}
use borrow.Author.Tests.{eqb-true}
use Rattle.prelude.proofs.Absurd.{true_false}
use Rattle.tables.specs.Sheet.{any}
use Rattle.tables.proofs.Laws.Tests.{each}
use Rattle.values.specs.Value.{Kind, set, sequence, map as mapping, tuple, number, Value}
use Rattle.values.specs.Entries.{Entry, flat}
use Rattle.patterns.specs.Pattern.{list_of, UnitOf, is_unordered}
use Rattle.patterns.proofs.Laws.Collected.{items_length}
use Rattle.parts.specs.Chosen.{keep}
use Rattle.parts.proofs.Chosen.{power_pos, keep_zero, keep_none, keep_odd, keep_even}
use Rattle.parts.specs.Mask.{WidthOf, ChoosesItems, ItemMask, doubled}

-- ---- the number of items of a unit

pub width_two : (kind : ℕ) → kind ≡ number mapping → WidthOf kind 2
width_two kind e set d = absurd (omega arith)
width_two kind e sequence d = absurd (omega arith)
width_two kind e mapping d = refl
width_two kind e tuple d = absurd (omega arith)

pub width_one : (kind : ℕ) → (kind ≡ number mapping → ⊥) → WidthOf kind 1
width_one kind f set d = refl
width_one kind f sequence d = refl
width_one kind f mapping d = absurd (f d)
width_one kind f tuple d = refl

-- ---- each bit twice

-- they choose the items of the entries that the mask chooses
keep_doubled : (n m : ℕ) (es : List Entry) → m < 2 ^ n → keep (doubled n m) (list_of (flat es)) ≡ list_of (flat (keep m es))
unfolding doubled list_of flat
keep_doubled n m [] h = keep_none (doubled n m) ∙ sym (ap (λ (l : List Entry). list_of (flat l)) (keep_none m))
keep_doubled zero m (e ∷ es) h =
    let z : m ≡ 0 = omega arith in
    keep_zero (list_of (flat (e ∷ es))) ∙ sym (ap (λ (l : List Entry). list_of (flat l)) (ap (λ (k : ℕ). keep k (e ∷ es)) z ∙ keep_zero (e ∷ es)))
keep_doubled (suc n) m (e ∷ es) h = go (doubled n (m / 2)) (ℕ_discrete (m % 2) 1) (keep_doubled n (m / 2) es (let p = pow-suc 2 n in omega arith))
  where
    go : (d : ℕ) → Dec (m % 2 ≡ 1) → keep d (list_of (flat es)) ≡ list_of (flat (keep (m / 2) es)) → keep (4 * d + 3 * (m % 2)) (list_of (flat (e ∷ es))) ≡ list_of (flat (keep m (e ∷ es)))
    go d (yes o) i =
        let b : 4 * d + 3 * (m % 2) ≡ 4 * d + 3 = omega (arith, o) in
        ap (λ (x : ℕ). keep x (e.key ∷ e.value ∷ list_of (flat es))) b
        ∙ keep_odd (4 * d + 3) (2 * d + 1) e.key (e.value ∷ list_of (flat es)) (omega arith) (omega arith)
        ∙ ap (λ (l : List Value). e.key ∷ l) (keep_odd (2 * d + 1) d e.value (list_of (flat es)) (omega arith) (omega arith))
        ∙ ap (λ (l : List Value). e.key ∷ e.value ∷ l) i
        ∙ sym (ap (λ (l : List Entry). list_of (flat l)) (keep_odd m (m / 2) e es o refl))
    go d (no o) i =
        let b : 4 * d + 3 * (m % 2) ≡ 4 * d = omega (arith, o) in
        ap (λ (x : ℕ). keep x (e.key ∷ e.value ∷ list_of (flat es))) b
        ∙ keep_even (4 * d) (2 * d) e.key (e.value ∷ list_of (flat es)) (omega arith) (omega arith)
        ∙ keep_even (2 * d) d e.value (list_of (flat es)) (omega arith) (omega arith)
        ∙ i
        ∙ sym (ap (λ (l : List Entry). list_of (flat l)) (keep_even m (m / 2) e es (omega (arith, o)) refl))

doubled_below : (n m k : ℕ) → m < 2 ^ k → doubled n m < 2 ^ (2 * k)
unfolding doubled
doubled_below zero m k h = power_pos (2 * k)
doubled_below (suc n) m zero h = let i = doubled_below n (m / 2) zero (omega arith) in omega arith
doubled_below (suc n) m (suc k) h =
    let i = doubled_below n (m / 2) k (omega (arith, pow-suc 2 k)) in
    let e : suc (suc (2 * k)) ≡ 2 * suc k = omega arith in
    let p = pow-suc 2 (suc (2 * k)) in
    let q = pow-suc 2 (2 * k) in
    let l : 4 * doubled n (m / 2) + 3 * (m % 2) < 2 ^ suc (suc (2 * k)) = omega arith in
    subst (λ (x : ℕ). 4 * doubled n (m / 2) + 3 * (m % 2) < 2 ^ x) e l

-- ---- three bits at once

-- a number whose bytes are the masks of three bits, each of these twice
pub doubled_three : (bytes : ℕ) → any (λ k. not (eqb (bytes / 2 ^ (8 * k) % 256) (doubled 3 k))) 8 ≡ false → (m : ℕ) → m < 8 → bytes / 2 ^ (8 * m) % 256 ≡ doubled 3 m
doubled_three bytes e m h = eqb-true _ _ (each (λ (k : ℕ). eqb (bytes / 2 ^ (8 * k) % 256) (doubled 3 k)) 8 e m h)

pub three_below : (m : ℕ) → m < 8 → doubled 3 m < 64
three_below m h = doubled_below 3 m 3 h

abbrev pub in_threes : ℕ → ℕ
in_threes m = doubled 3 (m % 8) + 64 * doubled 3 (m / 8 % 8) + 4096 * doubled 3 (m / 64)

doubled_seven : (m : ℕ) → m < 128 → doubled 7 m ≡ in_threes m
unfolding doubled
doubled_seven m h = eqb-true (doubled 7 m) (in_threes m) (each (λ (k : ℕ). eqb (doubled 7 k) (in_threes k)) 128 refl m h)

-- ---- the masks of items

module _ (kind m : ℕ) (low : m < 128) where
  -- THEOREM: of a map each bit twice, of a set the mask itself
  pub items_doubled : kind ≡ number mapping → ItemMask kind m (in_threes m)
  items_doubled e =
      subst (ItemMask kind m) (doubled_seven m low) (record { small = omega (arith, doubled_below 7 m 7 (omega arith)); right = go })
    where
      go : (k : Kind) → is_unordered k ≡ true → kind ≡ number k → (us : List (UnitOf k)) → m < 2 ^ length us → ChoosesItems k m (doubled 7 m) us
      go set u d us h = absurd (omega (arith, d, e))
      go sequence u d us h = absurd (omega (arith, d, e))
      go mapping u d us h = record {
        below = subst (λ (n : ℕ). doubled 7 m < 2 ^ n) (sym (items_length mapping us)) (doubled_below 7 m (length us) h);
        is = keep_doubled 7 m us (omega arith);
      }
      go tuple u d us h = absurd (omega (arith, d, e))

  pub items_single : (kind ≡ number mapping → ⊥) → ItemMask kind m m
  items_single f = record { small = omega arith; right = go }
    where
      go : (k : Kind) → is_unordered k ≡ true → kind ≡ number k → (us : List (UnitOf k)) → m < 2 ^ length us → ChoosesItems k m m us
      go set u d us h = record { below = h; is = refl }
      go sequence u d us h = true_false (sym u)
      go mapping u d us h = absurd (f d)
      go tuple u d us h = true_false (sym u)
