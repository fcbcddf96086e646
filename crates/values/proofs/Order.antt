-- Laws of the order: it is strict and total. A value is the same as itself alone; the two the other way round get the flipped answer;
-- lower is transitive. The same for items.
use mathlib.Core.Path.{◌≡◌, refl, sym, ap, ap₂, ◌∙◌}
use mathlib.Core.Bool.{Bool, true, false, cond}
use mathlib.Core.Logic.{◌⊎◌, inl, inr}
use Prim.Native.Nat.{ℕ, ◌≤◌}
use native.Mathlib.Omega.{arith}
use lib.Dec.{eqb}
use Rattle.prelude.proofs.Absurd.{impossible}
use Rattle.std.specs.declared.cmp.Ordering.{Ordering}
use Rattle.std.specs.declared.cmp.Ordering.TheVariants.{Less, Equal, Greater}
use Rattle.std.specs.Ordering.{is_eq}
use Rattle.values.specs.Value.{Kind, set, sequence, map, tuple, Value, boolean, integer, quote, collection, Items, none, more, number, kind_of, byte_of, after, within, order_items, order}
use Rattle.integers.specs.Order.{order_ℕ}
use Rattle.integers.proofs.Ordered.{flip, lower_lt, lt_lower, same_eq, flip_order, same_eq_z, flip_order_z, lower_trans}
use Rattle.values.specs.Items.{same}

-- ---- one after another

pub after_same : (o p : Ordering) → after o p ≡ Equal → (o ≡ Equal) × (p ≡ Equal)
after_same Less p e = (cc, cc)
after_same Equal p e = (refl, e)
after_same Greater p e = (cc, cc)

pub after_lower : (o p : Ordering) → after o p ≡ Less → (o ≡ Less) ⊎ ((o ≡ Equal) × (p ≡ Less))
after_lower Less p e = inl refl
after_lower Equal p e = inr (refl, e)
after_lower Greater p e = inl (cc)

pub after_flip : (o p : Ordering) → after (flip o) (flip p) ≡ flip (after o p)
after_flip Less p = refl
after_flip Equal p = refl
after_flip Greater p = refl

-- ---- the same is equal

-- a collection's kind is none of the three others
pub number_low : (k : Kind) → 3 ≤ number k
number_low set = omega arith
number_low sequence = omega arith
number_low map = omega arith
number_low tuple = omega arith

pub number_high : (k : Kind) → number k ≤ 6
number_high set = omega arith
number_high sequence = omega arith
number_high map = omega arith
number_high tuple = omega arith

-- the kind of a collection by its number, and back
abbrev pub collection_kind : ℕ → Kind
collection_kind n = cond (eqb n 3) set (cond (eqb n 4) sequence (cond (eqb n 5) map tuple))

pub collection_kind_lem : (k : Kind) → collection_kind (number k) ≡ k
collection_kind_lem set = refl
collection_kind_lem sequence = refl
collection_kind_lem map = refl
collection_kind_lem tuple = refl

pub number_inj : (k l : Kind) → number k ≡ number l → k ≡ l
number_inj k l e = sym (collection_kind_lem k) ∙ ap collection_kind e ∙ collection_kind_lem l

byte_of_inj : (a b : Bool) → byte_of a ≡ byte_of b → a ≡ b
byte_of_inj false false e = refl
byte_of_inj false true e = let z : ⊥ = omega arith in absurd z
byte_of_inj true false e = let z : ⊥ = omega arith in absurd z
byte_of_inj true true e = refl

mutual
  unfolding within

  within_same : (v w : Value) → kind_of v ≡ kind_of w → within v w ≡ Equal → v ≡ w
  within_same (boolean a) (boolean b) k e = ap boolean (byte_of_inj a b (same_eq (byte_of a) (byte_of b) e))
  within_same (boolean a) (integer b) k e = let z : ⊥ = omega arith in absurd z
  within_same (boolean a) (quote b) k e = let z : ⊥ = omega arith in absurd z
  within_same (boolean a) (collection l b) k e = let z : ⊥ = omega (arith, number_low l) in absurd z
  within_same (integer a) (boolean b) k e = let z : ⊥ = omega arith in absurd z
  within_same (integer a) (integer b) k e = ap integer (same_eq_z a b e)
  within_same (integer a) (quote b) k e = let z : ⊥ = omega arith in absurd z
  within_same (integer a) (collection l b) k e = let z : ⊥ = omega (arith, number_low l) in absurd z
  within_same (quote a) (boolean b) k e = let z : ⊥ = omega arith in absurd z
  within_same (quote a) (integer b) k e = let z : ⊥ = omega arith in absurd z
  within_same (quote a) (quote b) k e = ap quote (same_eq a b e)
  within_same (quote a) (collection l b) k e = let z : ⊥ = omega (arith, number_high l) in absurd z
  within_same (collection h a) (boolean b) k e = let z : ⊥ = omega (arith, number_low h) in absurd z
  within_same (collection h a) (integer b) k e = let z : ⊥ = omega (arith, number_low h) in absurd z
  within_same (collection h a) (quote b) k e = let z : ⊥ = omega (arith, number_high h) in absurd z
  within_same (collection h a) (collection l b) k e = ap₂ collection (number_inj h l k) (items_same a b e)

  items_same : (vs ws : Items) → order_items vs ws ≡ Equal → vs ≡ ws
  items_same none none e = refl
  items_same none (more w ws) e = cc
  items_same (more v vs) none e = cc
  items_same (more v vs) (more w ws) e =
      let h = after_same (after (order_ℕ (kind_of v) (kind_of w)) (within v w)) (order_items vs ws) e in
      let g = after_same (order_ℕ (kind_of v) (kind_of w)) (within v w) h.0 in
      ap₂ more (within_same v w (same_eq (kind_of v) (kind_of w) g.0) g.1) (items_same vs ws h.1)

-- THEOREM: two values of which the order says Equal are equal
pub same_equal : (v w : Value) → order v w ≡ Equal → v ≡ w
same_equal v w e =
    let g = after_same (order_ℕ (kind_of v) (kind_of w)) (within v w) e in
    within_same v w (same_eq (kind_of v) (kind_of w) g.0) g.1

-- ---- the other way round

mutual
  unfolding within

  within_flip : (v w : Value) → within w v ≡ flip (within v w)
  within_flip (boolean a) (boolean b) = flip_order (byte_of a) (byte_of b)
  within_flip (boolean a) (integer b) = refl
  within_flip (boolean a) (quote b) = refl
  within_flip (boolean a) (collection l b) = refl
  within_flip (integer a) (boolean b) = refl
  within_flip (integer a) (integer b) = flip_order_z a b
  within_flip (integer a) (quote b) = refl
  within_flip (integer a) (collection l b) = refl
  within_flip (quote a) (boolean b) = refl
  within_flip (quote a) (integer b) = refl
  within_flip (quote a) (quote b) = flip_order a b
  within_flip (quote a) (collection l b) = refl
  within_flip (collection h a) (boolean b) = refl
  within_flip (collection h a) (integer b) = refl
  within_flip (collection h a) (quote b) = refl
  within_flip (collection h a) (collection l b) = items_flip a b

  items_flip : (vs ws : Items) → order_items ws vs ≡ flip (order_items vs ws)
  items_flip none none = refl
  items_flip none (more w ws) = refl
  items_flip (more v vs) none = refl
  items_flip (more v vs) (more w ws) =
      ap₂ after
      (ap₂ after (flip_order (kind_of v) (kind_of w)) (within_flip v w) ∙ after_flip (order_ℕ (kind_of v) (kind_of w)) (within v w))
      (items_flip vs ws)
      ∙ after_flip (order v w) (order_items vs ws)

-- THEOREM: the order of the two the other way round is the flipped answer
pub order_flip : (v w : Value) → order w v ≡ flip (order v w)
order_flip v w =
    ap₂ after (flip_order (kind_of v) (kind_of w)) (within_flip v w) ∙ after_flip (order_ℕ (kind_of v) (kind_of w)) (within v w)

-- ---- lower is transitive

-- a head and a rest, each of which is transitive, and whose same is equal: the head and then the rest is transitive
module _ {A B : Type 0} (f : A → A → Ordering) (g : B → B → Ordering) where
  chain : (a b c : A) (x y z : B) → (f a b ≡ Less → f b c ≡ Less → f a c ≡ Less)
      → (f a b ≡ Equal → a ≡ b) → (f b c ≡ Equal → b ≡ c) → (g x y ≡ Less → g y z ≡ Less → g x z ≡ Less)
      → after (f a b) (g x y) ≡ Less → after (f b c) (g y z) ≡ Less → after (f a c) (g x z) ≡ Less
  chain a b c x y z t eq₁ eq₂ u p q = go (after_lower (f a b) (g x y) p) (after_lower (f b c) (g y z) q)
    where
      go : (f a b ≡ Less) ⊎ ((f a b ≡ Equal) × (g x y ≡ Less)) → (f b c ≡ Less) ⊎ ((f b c ≡ Equal) × (g y z ≡ Less)) → after (f a c) (g x z) ≡ Less
      go (inl l) (inl m) = rw (t l m)
      go (inl l) (inr m) = let e : f a c ≡ Less = rw (eq₂ m.0) at l in rw e
      go (inr l) (inl m) = let e : f a c ≡ Less = rw (eq₁ l.0) m in rw e
      go (inr l) (inr m) = let e : f a c ≡ Equal = rw (eq₁ l.0) m.0 in rw e (u l.1 m.1)

lower_ℕ : (a b c : ℕ) → order_ℕ a b ≡ Less → order_ℕ b c ≡ Less → order_ℕ a c ≡ Less
lower_ℕ a b c p q = lt_lower a c (omega (arith, lower_lt a b p, lower_lt b c q))

mutual
  unfolding within

  within_lower : (u v w : Value) → within u v ≡ Less → within v w ≡ Less → within u w ≡ Less
  within_lower (boolean a) (boolean b) (boolean c) p q = lower_ℕ (byte_of a) (byte_of b) (byte_of c) p q
  within_lower (boolean a) (boolean b) (integer c) p q = q
  within_lower (boolean a) (boolean b) (quote c) p q = q
  within_lower (boolean a) (boolean b) (collection m c) p q = q
  within_lower (boolean a) (integer b) w p q = cc
  within_lower (boolean a) (quote b) w p q = cc
  within_lower (boolean a) (collection l b) w p q = cc
  within_lower (integer a) (boolean b) w p q = cc
  within_lower (integer a) (integer b) (boolean c) p q = q
  within_lower (integer a) (integer b) (integer c) p q = lower_trans a b c p q
  within_lower (integer a) (integer b) (quote c) p q = q
  within_lower (integer a) (integer b) (collection m c) p q = q
  within_lower (integer a) (quote b) w p q = cc
  within_lower (integer a) (collection l b) w p q = cc
  within_lower (quote a) (boolean b) w p q = cc
  within_lower (quote a) (integer b) w p q = cc
  within_lower (quote a) (quote b) (boolean c) p q = q
  within_lower (quote a) (quote b) (integer c) p q = q
  within_lower (quote a) (quote b) (quote c) p q = lower_ℕ a b c p q
  within_lower (quote a) (quote b) (collection m c) p q = q
  within_lower (quote a) (collection l b) w p q = cc
  within_lower (collection h a) (boolean b) w p q = cc
  within_lower (collection h a) (integer b) w p q = cc
  within_lower (collection h a) (quote b) w p q = cc
  within_lower (collection h a) (collection l b) (boolean c) p q = q
  within_lower (collection h a) (collection l b) (integer c) p q = q
  within_lower (collection h a) (collection l b) (quote c) p q = q
  within_lower (collection h a) (collection l b) (collection m c) p q = items_lower a b c p q

  items_lower : (us vs ws : Items) → order_items us vs ≡ Less → order_items vs ws ≡ Less → order_items us ws ≡ Less
  items_lower none none ws p q = cc
  items_lower none (more v vs) none p q = cc
  items_lower none (more v vs) (more w ws) p q = refl
  items_lower (more u us) none ws p q = cc
  items_lower (more u us) (more v vs) none p q = q
  items_lower (more u us) (more v vs) (more w ws) p q =
      chain order order_items u v w us vs ws
      (chain order_ℕ within (kind_of u) (kind_of v) (kind_of w) u v w (lower_ℕ (kind_of u) (kind_of v) (kind_of w)) (same_eq (kind_of u) (kind_of v)) (same_eq (kind_of v) (kind_of w)) (λ p q. within_lower u v w p q))
      (same_equal u v) (same_equal v w)
      (λ p q. items_lower us vs ws p q) p q

-- THEOREM: lower is transitive
pub order_lower : (u v w : Value) → order u v ≡ Less → order v w ≡ Less → order u w ≡ Less
order_lower u v w =
    chain order_ℕ within (kind_of u) (kind_of v) (kind_of w) u v w (lower_ℕ (kind_of u) (kind_of v) (kind_of w)) (same_eq (kind_of u) (kind_of v)) (same_eq (kind_of v) (kind_of w)) (within_lower u v w)

-- ---- a value is the same as itself

pub flip_same : (o : Ordering) → o ≡ flip o → o ≡ Equal
flip_same Less e = cc
flip_same Equal e = refl
flip_same Greater e = cc

pub order_refl : (v : Value) → order v v ≡ Equal
order_refl v = flip_same (order v v) (order_flip v v)

pub items_refl : (vs : Items) → order_items vs vs ≡ Equal
items_refl vs = flip_same (order_items vs vs) (items_flip vs vs)

equal_same : {v w : Value} → v ≡ w → order v w ≡ Equal
equal_same {v} {w} e = ap (λ (x : Value). order x w) e ∙ order_refl w

-- ---- strict and total

-- no answer is two answers
pub lower_same : {X : Type 0} {o : Ordering} → o ≡ Less → o ≡ Equal → X
lower_same p q = impossible cc

pub lower_higher : {X : Type 0} {o : Ordering} → o ≡ Less → o ≡ Greater → X
lower_higher p q = impossible cc

-- THEOREM: lower is irreflexive
pub irreflexive : (v : Value) → order v v ≡ Less → ⊥
irreflexive v e = lower_same e (order_refl v)

-- lower one way is higher the other way
pub lower_flip : (v w : Value) → order v w ≡ Less → order w v ≡ Greater
lower_flip v w e = order_flip v w ∙ ap flip e

pub higher_flip : (v w : Value) → order v w ≡ Greater → order w v ≡ Less
higher_flip v w e = order_flip v w ∙ ap flip e

-- THEOREM: lower is asymmetric
pub asymmetric : (v w : Value) → order v w ≡ Less → order w v ≡ Less → ⊥
asymmetric v w p q = lower_higher q (lower_flip v w p)

-- THEOREM: of any two values the first is lower, or they are equal, or the second is lower. (By `lower_same`, `irreflexive` and
-- `asymmetric` no two of these hold.)
trichotomy : (v w : Value) → (order v w ≡ Less) ⊎ ((v ≡ w) ⊎ (order w v ≡ Less))
trichotomy v w = go (order v w) refl
  where
    go : (o : Ordering) → order v w ≡ o → (order v w ≡ Less) ⊎ ((v ≡ w) ⊎ (order w v ≡ Less))
    go Less e = inl e
    go Equal e = inr (inl (same_equal v w e))
    go Greater e = inr (inr (higher_flip v w e))

-- ---- equality as a test

is_eq_lem : (o : Ordering) → is_eq o ≡ true → o ≡ Equal
is_eq_lem Less e = cc
is_eq_lem Equal e = refl
is_eq_lem Greater e = cc

-- THEOREM: the test of equality is true exactly of equal values
pub same_true : (v w : Value) → same v w ≡ true → v ≡ w
same_true v w e = same_equal v w (is_eq_lem (order v w) e)

pub true_same : {v w : Value} → v ≡ w → same v w ≡ true
true_same e = ap is_eq (equal_same e)

pub false_same : (v w : Value) → (v ≡ w → ⊥) → same v w ≡ false
false_same v w f = go (same v w) refl
  where
    go : (t : Bool) → same v w ≡ t → same v w ≡ false
    go true e = absurd (f (same_true v w e))
    go false e = e

flip_is : (o : Ordering) → is_eq (flip o) ≡ is_eq o
flip_is Less = refl
flip_is Equal = refl
flip_is Greater = refl

pub same_flip : (v w : Value) → same w v ≡ same v w
same_flip v w = ap is_eq (order_flip v w) ∙ flip_is (order v w)
