-- Source 001's SetChop, of which only pairs without an empty set are left (wish 1), and source 000's partition of a map into two sub maps (wish 2): of a set
-- or map, the halves among the proper splits are exactly the pairs of sets or maps that together are the whole, have no member or entry in common and
-- are both not empty.
use Rattle.std.specs.Prelude.{◌≡◌, refl, true, ◌⊎◌, ◌↔◌, List, [], ◌∷◌}
use Rattle.std.proofs.Common.{sym, ap, subst, inl, inr, ⊎_elim}
use Rattle.prelude.specs.Membership.{In}
use Rattle.values.specs.Value.{Kind, Value, Shaped}
use Rattle.values.proofs.Order.{irreflexive, asymmetric}
use Rattle.patterns.specs.Ways.{halves, proper_splits}
use Rattle.patterns.specs.Units.{Shared, NonEmpty}
use Rattle.patterns.proofs.Laws.Units.{in_proper}
use Rattle.patterns.specs.Pattern.{items_of, UnitOf, items_in, is_unordered}
use Rattle.patterns.proofs.Laws.Collected.{first_of, Led, led_first, shaped_led}
use Rattle.patterns.proofs.Laws.Named.{shared_left, shared_right, part_in, part_shaped, divides}

-- Two sets whose union is the set of these members, or two maps with the entries of this one, and nothing in common.
pub record Chop (k : Kind) (us ls rs : List (UnitOf k)) : Type 0 where
  pub left_shaped : Shaped k (items_of (items_in k ls))
  pub right_shaped : Shaped k (items_of (items_in k rs))
  pub whole : (u : UnitOf k) → In u us → In u ls ⊎ In u rs
  pub left_in : (u : UnitOf k) → In u ls → In u us
  pub right_in : (u : UnitOf k) → In u rs → In u us
  pub disjoint : (u : UnitOf k) → In u ls → In u rs → ⊥

-- ---- units in order, each shared out to one half

module _ {A : Type 0} (first : A → Value) where
  -- What is chopped, but for the shape of the halves.
  abbrev Apart : List A → List A → List A → Type 0
  Apart us ls rs =
      ((u : A) → In u us → In u ls ⊎ In u rs) × ((u : A) → In u ls → In u us) × ((u : A) → In u rs → In u us) × ((u : A) → In u ls → In u rs → ⊥)

  not_again : (u : A) (us : List A) → Led first (u ∷ us) → In u us → ⊥
  not_again u us h i = irreflexive (first u) ((led_first first u us h).0 u i)

  whole_of : (us ls rs : List A) → Shared us ls rs → (u : A) → In u us → In u ls ⊎ In u rs
  whole_of [] ls rs h u i = absurd i
  whole_of (x ∷ us) ls rs (inl (ms, e, h)) u (inl p) = inl (subst (In u) (sym e) (inl p))
  whole_of (x ∷ us) ls rs (inl (ms, e, h)) u (inr i) = ⊎_elim (λ j. inl (subst (In u) (sym e) (inr j))) (λ j. inr j) (whole_of us ms rs h u i)
  whole_of (x ∷ us) ls rs (inr (ms, e, h)) u (inl p) = inr (subst (In u) (sym e) (inl p))
  whole_of (x ∷ us) ls rs (inr (ms, e, h)) u (inr i) = ⊎_elim (λ j. inl j) (λ j. inr (subst (In u) (sym e) (inr j))) (whole_of us ls ms h u i)

  apart_of : (us ls rs : List A) → Led first us → Shared us ls rs → (u : A) → In u ls → In u rs → ⊥
  apart_of [] ls rs a h u i j = subst (In u) h.0 i
  apart_of (x ∷ us) ls rs a (inl (ms, e, h)) u i j =
      ⊎_elim
      (λ p. not_again x us a (subst (λ (w : A). In w us) p (part_in rs us (shared_right us ms rs h) u j)))
      (λ k. apart_of us ms rs (led_first first x us a).1 h u k j)
      (subst (In u) e i)
  apart_of (x ∷ us) ls rs a (inr (ms, e, h)) u i j =
      ⊎_elim
      (λ p. not_again x us a (subst (λ (w : A). In w us) p (part_in ls us (shared_left us ls ms h) u i)))
      (λ k. apart_of us ls ms (led_first first x us a).1 h u i k)
      (subst (In u) e j)

  shared_apart : (us ls rs : List A) → Led first us → Shared us ls rs → Apart us ls rs
  shared_apart us ls rs a h =
      (whole_of us ls rs h, part_in ls us (shared_left us ls rs h), part_in rs us (shared_right us ls rs h), apart_of us ls rs a h)

  -- ---- apart, so shared out

  -- the least unit is the first of the half that has it
  least_first : (u : A) (us ls : List A) → Led first (u ∷ us) → Led first ls → ((w : A) → In w ls → In w (u ∷ us)) → In u ls → (ms : List A) × (ls ≡ u ∷ ms)
  least_first u us [] a b f i = absurd i
  least_first u us (l ∷ ls) a b f (inl e) = (ls, ap (λ (w : A). w ∷ ls) (sym e))
  least_first u us (l ∷ ls) a b f (inr i) = absurd (go (f l (inl refl)))
    where
      go : In l (u ∷ us) → ⊥
      go (inl e) = not_again l ls b (subst (λ (w : A). In w ls) (sym e) i)
      go (inr j) = asymmetric (first u) (first l) ((led_first first u us a).0 l j) ((led_first first l ls b).0 u i)

  none_in : (ls : List A) → ((u : A) → In u ls → ⊥) → ls ≡ []
  none_in [] f = refl
  none_in (l ∷ ls) f = absurd (f l (inl refl))

  -- what is left of the two halves once the least unit is taken off the first of them
  rest_apart : (u : A) (us ms rs : List A) → Led first (u ∷ us) → Led first (u ∷ ms) → Apart (u ∷ us) (u ∷ ms) rs → Apart us ms rs
  rest_apart u us ms rs a b (whole, left, right, disjoint) = (
    λ w i. ⊎_elim (λ j. ⊎_elim (λ e. absurd (not_again u us a (subst (λ (x : A). In x us) e i))) (λ k. inl k) j) (λ j. inr j) (whole w (inr i)),
    λ w i. ⊎_elim (λ e. absurd (not_again u ms b (subst (λ (x : A). In x ms) e i))) (λ j. j) (left w (inr i)),
    λ w i. ⊎_elim (λ e. absurd (disjoint u (inl refl) (subst (λ (x : A). In x rs) e i))) (λ j. j) (right w i),
    λ w i j. disjoint w (inr i) j,
  )

  mirror : (us ls rs : List A) → Apart us ls rs → Apart us rs ls
  mirror us ls rs (whole, left, right, disjoint) = (λ u i. ⊎_elim (λ a. inr a) (λ b. inl b) (whole u i), right, left, λ u i j. disjoint u j i)

  apart_shared : (us ls rs : List A) → Led first us → Led first ls → Led first rs → Apart us ls rs → Shared us ls rs
  apart_shared [] ls rs a b c (whole, left, right, disjoint) = (none_in ls left, none_in rs right)
  apart_shared (u ∷ us) ls rs a b c h = go (h.0 u (inl refl)) (λ ms qs f g k. apart_shared us ms qs (led_first first u us a).1 f g k)
    where
      go : In u ls ⊎ In u rs → ((ms qs : List A) → Led first ms → Led first qs → Apart us ms qs → Shared us ms qs) → Shared (u ∷ us) ls rs
      go (inl i) rest =
          let (ms, e) = least_first u us ls a b h.1 i in
          let d = subst (Led first) e b in
          inl (ms, e, rest ms rs (led_first first u ms d).1 c (rest_apart u us ms rs a d (subst (λ (l : List A). Apart (u ∷ us) l rs) e h)))
      go (inr i) rest =
          let (ms, e) = least_first u us rs a c h.2 i in
          let d = subst (Led first) e c in
          inr (ms, e, rest ls ms b (led_first first u ms d).1 (mirror us ms ls (rest_apart u us ms ls a d (mirror (u ∷ us) ls (u ∷ ms) (subst (λ (l : List A). Apart (u ∷ us) ls l) e h)))))

-- THEOREM: two halves are among the proper splits of a set or map exactly when they are a chop of it and neither is empty
module _ (k : Kind) (unordered : is_unordered k ≡ true) (us ls rs : List (UnitOf k)) (shaped : Shaped k (items_of (items_in k us))) where
  chopped : Shared us ls rs → Chop k us ls rs
  chopped s =
      let (whole, left, right, disjoint) = shared_apart (first_of k) us ls rs (shaped_led k unordered us shaped) s in
      record {
        left_shaped = part_shaped k ls us (divides k unordered) (shared_left us ls rs s) shaped;
        right_shaped = part_shaped k rs us (divides k unordered) (shared_right us ls rs s) shaped;
        whole = whole;
        left_in = left;
        right_in = right;
        disjoint = disjoint;
      }

  shared_out : Chop k us ls rs → Shared us ls rs
  shared_out h =
      apart_shared (first_of k) us ls rs (shaped_led k unordered us shaped) (shaped_led k unordered ls h.left_shaped) (shaped_led k unordered rs h.right_shaped) (h.whole, h.left_in, h.right_in, h.disjoint)

  pub proper_chop : In (halves ls rs) (proper_splits us) ↔ (Chop k us ls rs × NonEmpty ls × NonEmpty rs)
  proper_chop = (
    λ i. let (s, l, r) = (in_proper us (halves ls rs)).0 i in (chopped s, l, r),
    λ (h, l, r). (in_proper us (halves ls rs)).1 (shared_out h, l, r),
  )
