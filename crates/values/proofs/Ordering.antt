-- The answers of the functions that compare, said of lists, places and numbers alone.
use mathlib.Core.Path.{◌≡◌, refl, sym, ap, ap₂, subst, ◌∙◌}
use mathlib.Core.Bool.{Bool, true, false}
use mathlib.Core.Logic.{inl, inr}
use mathlib.Core.List.{List}
use Prim.Native.Nat.{ℕ, ◌+◌, ◌≤◌}
use native.Mathlib.Omega.{arith}
use lib.IntN.{ℤ}
use lib.ListN.{length}
use Rattle.prelude.proofs.Absurd.{never}
use Rattle.integers.specs.Bytes.{word}
use Rattle.std.specs.declared.cmp.Ordering.{Ordering}
use Rattle.std.specs.declared.cmp.Ordering.TheVariants.{Less, Equal, Greater}
use Rattle.std.specs.Ordering.{is_eq, is_ne}
use Rattle.values.specs.Value.{Kind, number, Value, boolean, integer, quote, collection, Items, kind_of, after, within, order_items, order}
use Rattle.integers.specs.Order.{order_ℕ, order_ℤ}
use Rattle.values.specs.Place.{At, ItemsAt, Holds, HoldsItems}
use Rattle.values.specs.Contract.{Length, KindAt, Both, Numbered, NumberAt, Ordered, OrderedItems, AreEqual}
use Rattle.integers.proofs.Ordered.{same_eq, eq-same}
use Rattle.values.proofs.Records.{one_value, is_boolean, is_quote, held_as, is_collection, items_to, items_none, uncons_of, holds}

-- ---- two values

-- two numbers that differ have an order of their own
differ : (a b : ℕ) (o : Ordering) → (a ≡ b → ⊥) → after (order_ℕ a b) o ≡ order_ℕ a b
differ a b o f = go (order_ℕ a b) refl
  where
    go : (p : Ordering) → order_ℕ a b ≡ p → after p o ≡ p
    go Less e = refl
    go Equal e = absurd (f (same_eq a b e))
    go Greater e = refl

-- two collections of one kind stand at two places
pub record Collections (s : List ℕ) (a b : ℕ) : Type 0 where
  pub kind : Kind
  pub other : Kind
  pub items : Items
  pub others : Items
  pub first : At s a (collection kind items)
  pub second : At s b (collection other others)
  pub alike : number kind ≡ number other

module _ {s : List ℕ} {a b : ℕ} where
  -- of two kinds
  pub by_kinds : {k l : ℕ} (r : Ordering) → KindAt s a k → KindAt s b l → (k ≡ l → ⊥) → r ≡ order_ℕ k l → Ordered s a b r
  by_kinds r ka kb f e v w h g =
      let ev = ka.right v h in
      let ew = kb.right w g in
      e ∙ ap₂ order_ℕ ev ew ∙ sym (differ (kind_of v) (kind_of w) (within v w) (λ d. f (ev ∙ d ∙ sym ew)))

  -- two records of one kind
  pub both : {k l n : ℕ} → Holds s a → Holds s b → KindAt s a k → KindAt s b l → k ≡ l → k ≡ n → Both s a b n
  both ha hb ka kb e d =
      record { first = record { held = ha; kind = sym ka.is ∙ d }; second = record { held = hb; kind = sym kb.is ∙ sym e ∙ d } }

  -- of one kind, by the contents
  by_contents : {v w : Value} (r : Ordering) → At s a v → At s b w → kind_of v ≡ kind_of w → r ≡ within v w → Ordered s a b r
  by_contents {v} {w} r h g k e v' w' h' g' =
      let q : order v w ≡ within v w = rw (eq-same (kind_of v) (kind_of w) k) in
      e ∙ sym q ∙ ap₂ order (one_value h h') (one_value g g')

  -- two booleans, or two quotes
  pub by_numbers : {k m n : ℕ} (r : Ordering) → Both s a b k → Numbered k → NumberAt s a m → NumberAt s b n → r ≡ order_ℕ m n → Ordered s a b r
  unfolding within
  by_numbers r h (inl e) na nb d =
      let (x, p) = held_as boolean is_boolean h.first.held (h.first.kind ∙ e) in
      let (y, q) = held_as boolean is_boolean h.second.held (h.second.kind ∙ e) in
      by_contents r p q refl (d ∙ ap₂ order_ℕ (na.truth x p) (nb.truth y q))
  by_numbers r h (inr e) na nb d =
      let (x, p) = held_as quote is_quote h.first.held (h.first.kind ∙ e) in
      let (y, q) = held_as quote is_quote h.second.held (h.second.kind ∙ e) in
      by_contents r p q refl (d ∙ ap₂ order_ℕ (na.own x p) (nb.own y q))

  pub by_integers : {x y : ℤ} (r : Ordering) → At s a (integer x) → At s b (integer y) → r ≡ order_ℤ x y → Ordered s a b r
  unfolding within
  by_integers r h g e = by_contents r h g refl e

  -- of one kind, which is none of these: two collections
  pub collections : {k l : ℕ} → Holds s a → Holds s b → KindAt s a k → KindAt s b l → k ≡ l → (k ≡ 1 → ⊥) → (k ≡ 2 → ⊥) → (k ≡ 7 → ⊥) → Collections s a b
  collections ha hb ka kb e f g i =
      let va = ka.right ha.value ha.here in
      let vb = kb.right hb.value hb.here in
      let (k, vs, x) = is_collection ha.value (λ p. f (va ∙ p)) (λ p. g (va ∙ p)) (λ p. i (va ∙ p)) in
      let (l, ws, y) = is_collection hb.value (λ p. f (e ∙ vb ∙ p)) (λ p. g (e ∙ vb ∙ p)) (λ p. i (e ∙ vb ∙ p)) in
      let p : At s a (collection k vs) = subst (At s a) x ha.here in
      let q : At s b (collection l ws) = subst (At s b) y hb.here in
      record { kind = k; other = l; items = vs; others = ws; first = p; second = q; alike = sym (ka.right (collection k vs) p) ∙ e ∙ kb.right (collection l ws) q }

  module _ (c : Collections s a b) where
    pub first_items : {m : ℕ} → Length s a m → HoldsItems s (a + 4) (a + m)
    first_items m = (c.items, items_to m.is c.first)

    pub second_items : {n : ℕ} → Length s b n → HoldsItems s (b + 4) (b + n)
    second_items n = (c.others, items_to n.is c.second)

    pub ordered_by_items : {m n : ℕ} (r : Ordering) → Length s a m → Length s b n → OrderedItems s (a + 4) (a + m) (b + 4) (b + n) r → Ordered s a b r
    unfolding within
    ordered_by_items r m n o = by_contents r c.first c.second c.alike (o c.items c.others (items_to m.is c.first) (items_to n.is c.second))

-- ---- two lists of items

other_first : (o p : Ordering) → is_ne o ≡ true → after o p ≡ o
other_first Less p e = refl
other_first Equal p e = never e
other_first Greater p e = refl

pub not_ne : {o : Ordering} → is_ne o ≡ false → o ≡ Equal
not_ne {o = Less} e = never (sym e)
not_ne {o = Equal} e = refl
not_ne {o = Greater} e = never (sym e)

module _ {s : List ℕ} {a a' b b' : ℕ} where
  pub both_none : a ≡ a' → b ≡ b' → OrderedItems s a a' b b' Equal
  unfolding within
  both_none e f vs ws h k = sym (ap₂ order_items (items_none (omega arith) h) (items_none (omega arith) k))

  pub first-none : a ≡ a' → (b ≡ b' → ⊥) → OrderedItems s a a' b b' Less
  unfolding within
  first-none e f vs ws h k = sym (ap₂ order_items (items_none (omega arith) h) (uncons_of f k).is)

  pub second_none : (a ≡ a' → ⊥) → b ≡ b' → OrderedItems s a a' b b' Greater
  unfolding within
  second_none e f vs ws h k = sym (ap₂ order_items (uncons_of e h).is (items_none (omega arith) k))

  module _ {o : Ordering} (ea : a ≡ a' → ⊥) (eb : b ≡ b' → ⊥) (c : Ordered s a b o) where
    -- the first items' order, and then that of the rests
    heads : (vs ws : Items) (h : ItemsAt s a a' vs) (k : ItemsAt s b b' ws) → order_items vs ws ≡ after o (order_items (uncons_of ea h).rest (uncons_of eb k).rest)
    unfolding within
    heads vs ws h k =
        let x = uncons_of ea h in
        let y = uncons_of eb k in
        ap₂ order_items x.is y.is
        ∙ ap (λ (p : Ordering). after p (order_items x.rest y.rest)) (sym (c x.first y.first x.first-at y.first-at))

    pub items_first_other : is_ne o ≡ true → OrderedItems s a a' b b' o
    items_first_other d vs ws h k = sym (heads vs ws h k ∙ other_first o (order_items (uncons_of ea h).rest (uncons_of eb k).rest) d)

    pub items_first_same : {m n : ℕ} (r : Ordering) → o ≡ Equal → Length s a m → Length s b n → OrderedItems s (a + m) a' (b + n) b' r → OrderedItems s a a' b b' r
    items_first_same r d m n q vs ws h k =
        let x = uncons_of ea h in
        let y = uncons_of eb k in
        let q' : OrderedItems s (a + word s a) a' (b + word s b) b' r = rw (m.is, n.is) at q in
        q' x.rest y.rest x.rest_at y.rest_at
        ∙ sym (heads vs ws h k ∙ ap (λ (p : Ordering). after p (order_items x.rest y.rest)) d)

-- items that are not none begin with a record
pub record Begun (s : List ℕ) (a a' : ℕ) : Type 0 where
  pub held : Holds s a
  pub inside : a + word s a ≤ a'
  pub fits : a' ≤ length s

pub begun : {s : List ℕ} {a a' : ℕ} → (a ≡ a' → ⊥) → HoldsItems s a a' → Begun s a a'
begun f (vs, h) = let x = uncons_of f h in record { held = holds x.first-at; inside = x.inside; fits = h.fits }

-- the items after the first
pub rest_items : {s : List ℕ} {a a' m : ℕ} → (a ≡ a' → ⊥) → Length s a m → HoldsItems s a a' → HoldsItems s (a + m) a'
rest_items {s} {a} {a'} f m (vs, h) =
    let x = uncons_of f h in
    (x.rest, subst (λ (k : ℕ). ItemsAt s (a + k) a' x.rest) (sym m.is) x.rest_at)

-- ---- equality

pub equal_is : {s : List ℕ} {a b : ℕ} (o : Ordering) (r : Bool) → Ordered s a b o → r ≡ is_eq o → AreEqual s a b r
equal_is o r c e v w h g = e ∙ ap is_eq (c v w h g)
