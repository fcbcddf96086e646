-- The sets among items, and the tests of items that are made of them.
use mathlib.Core.Path.{◌≡◌, refl, sym, ap, subst, ◌∙◌}
use mathlib.Core.Bool.{Bool, true, and-eq-true_iff}
use mathlib.Core.List.{List}
use Prim.Native.Nat.{ℕ, ◌+◌, ◌≤◌, ◌<◌}
use lib.ListN.{length}
use Rattle.prelude.proofs.Absurd.{never}
use Rattle.integers.specs.Bytes.{word}
use Rattle.values.specs.Value.{set, sequence, map, tuple, Value, boolean, integer, quote, collection, Items, more, value_limit}
use Rattle.values.specs.Items.{is_member}
use Rattle.values.specs.Place.{At}
use Rattle.values.proofs.Records.{one_value}
use Rattle.collections.specs.Finding.{Contains}
use Rattle.operators.specs.Gather.{every_item, items_in, is_kind}
use Rattle.set_operators.specs.Members.{HoldsSets}
use Rattle.gathering.proofs.Walks.{Walk, items_start, walked_first, items_on}

-- ---- sets

pub set_is : (w : Value) → is_kind set w ≡ true → (us : Items) × (w ≡ collection set us)
set_is (boolean b) e = never e
set_is (integer z) e = never e
set_is (quote n) e = never e
set_is (collection set us) e = (us, refl)
set_is (collection sequence us) e = never e
set_is (collection map us) e = never e
set_is (collection tuple us) e = never e

-- those that are left are sets, if all are
abbrev pub SetsLeft : List ℕ → ℕ → ℕ → ℕ → Type 0
SetsLeft s from to p = Walk s from to (λ (vs rest : Items). every_item (is_kind set) vs ≡ true → every_item (is_kind set) rest ≡ true) p

pub sets_start : {s : List ℕ} {from to : ℕ} → SetsLeft s from to from
sets_start = items_start (λ (vs rest : Items). every_item (is_kind set) vs ≡ true → every_item (is_kind set) rest ≡ true) (λ vs e. e)

pub sets_parts : (v : Value) (vs : Items) → every_item (is_kind set) (more v vs) ≡ true → (is_kind set v ≡ true) × (every_item (is_kind set) vs ≡ true)
unfolding every_item
sets_parts v vs e = (and-eq-true_iff (is_kind set v) (every_item (is_kind set) vs)).0 e

pub sets_on : {s : List ℕ} {from to p : ℕ} → SetsLeft s from to p → p < to → (n : ℕ) → n ≡ word s p → SetsLeft s from to (p + n)
sets_on w lt n e vs h =
    let y = walked_first lt (w vs h) in
    items_on y n e (λ f. (sets_parts y.first y.rest (y.so f)).1)

-- ---- the tests

-- one value, in each of the sets
abbrev pub ValueAt : List ℕ → ℕ → Type 0
ValueAt s x = (v : Value) × At s x v

abbrev pub in_each : (s : List ℕ) (x : ℕ) → ValueAt s x → Value → Bool
in_each s x i w = is_member i.0 (items_in w)

pub in_each_lem : {s : List ℕ} {x p : ℕ} {r b : Bool} {us : Items} → Contains s p x r → r ≡ b → At s p (collection set us) → (i : ValueAt s x) (w : Value) → At s p w → in_each s x i w ≡ b
in_each_lem {us = us} f e a i w h = ap (λ (u : Value). is_member i.0 (items_in u)) (one_value h a) ∙ sym (f us i.0 a i.1) ∙ e

-- each value, in one set
abbrev pub StandingSet : List ℕ → ℕ → Type 0
StandingSet s at = (ws : Items) × At s at (collection set ws)

abbrev pub in_set : (s : List ℕ) (at : ℕ) → StandingSet s at → Value → Bool
in_set s at i v = is_member v i.0

pub in_set_lem : {s : List ℕ} {at p : ℕ} {r b : Bool} → Contains s at p r → r ≡ b → (i : StandingSet s at) (v : Value) → At s p v → in_set s at i v ≡ b
in_set_lem f e i v h = sym (f i.0 v i.1 h) ∙ e

-- the first of the sets that are left
pub record FirstSet (s : List ℕ) (to p : ℕ) : Type 0 where
  pub members : Items
  pub set_at : At s p (collection set members)
  pub low : 4 ≤ word s p
  pub high : word s p ≤ value_limit
  pub inside : p + word s p ≤ to
  pub fits : to ≤ length s

pub first_set : {s : List ℕ} {from to p : ℕ} → SetsLeft s from to p → p < to → HoldsSets s from to → FirstSet s to p
first_set {s} {p = p} w lt h =
    let y = walked_first lt (w h.items h.here) in
    let (us, e) = set_is y.first (sets_parts y.first y.rest (y.so h.sets)).0 in
    record { members = us; set_at = subst (At s p) e y.first-at; low = y.low; high = y.high; inside = y.inside; fits = y.fits }
