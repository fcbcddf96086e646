-- The order of bindings is strict and total, and Equal is equality. The bindings put in order are strictly ascending and exactly those given;
-- and there is only one such list.
use Rattle.std.specs.Prelude.{◌≡◌, refl, ◌⊎◌, List, [], ◌∷◌}
use Rattle.std.proofs.Common.{sym, ap, ap₂, ◌∙◌, inl, inr, ⊎_elim}
use Rattle.prelude.specs.Membership.{In}
use Rattle.std.specs.declared.cmp.Ordering.{Ordering}
use Rattle.std.specs.declared.cmp.Ordering.TheVariants.{Less, Equal, Greater}
use Rattle.values.specs.Value.{after}
use Rattle.values.specs.Items.{in_order}
use Rattle.integers.proofs.Ordered.{flip}
use Rattle.values.proofs.Order.{same_equal, order_flip, order_lower, lower_same, lower_higher, after_same, after_lower, after_flip, flip_same}
use Rattle.patterns.specs.Binding.{Cell, free, is, clash, Binding, order_cells, order_bindings, place, sorted}

-- ---- cells

cell_same : (x y : Cell) → order_cells x y ≡ Equal → x ≡ y
cell_same free free e = refl
cell_same free (is w) e = cc
cell_same free clash e = cc
cell_same (is v) free e = cc
cell_same (is v) (is w) e = ap is (same_equal v w e)
cell_same (is v) clash e = cc
cell_same clash free e = cc
cell_same clash (is w) e = cc
cell_same clash clash e = refl

cell_flip : (x y : Cell) → order_cells y x ≡ flip (order_cells x y)
cell_flip free free = refl
cell_flip free (is w) = refl
cell_flip free clash = refl
cell_flip (is v) free = refl
cell_flip (is v) (is w) = order_flip v w
cell_flip (is v) clash = refl
cell_flip clash free = refl
cell_flip clash (is w) = refl
cell_flip clash clash = refl

cell_lower : (x y z : Cell) → order_cells x y ≡ Less → order_cells y z ≡ Less → order_cells x z ≡ Less
cell_lower free free z e f = cc
cell_lower free (is w) free e f = cc
cell_lower free (is w) (is u) e f = refl
cell_lower free (is w) clash e f = refl
cell_lower free clash free e f = cc
cell_lower free clash (is u) e f = cc
cell_lower free clash clash e f = refl
cell_lower (is v) free z e f = cc
cell_lower (is v) (is w) free e f = cc
cell_lower (is v) (is w) (is u) e f = order_lower v w u e f
cell_lower (is v) (is w) clash e f = refl
cell_lower (is v) clash free e f = cc
cell_lower (is v) clash (is u) e f = cc
cell_lower (is v) clash clash e f = refl
cell_lower clash free z e f = cc
cell_lower clash (is w) z e f = cc
cell_lower clash clash z e f = cc

-- ---- bindings

-- THEOREM: two bindings of which the order says Equal are equal
pub bindings_same : (a b : Binding) → order_bindings a b ≡ Equal → a ≡ b
unfolding order_bindings
bindings_same [] [] e = refl
bindings_same [] (y ∷ b) e = cc
bindings_same (x ∷ a) [] e = cc
bindings_same (x ∷ a) (y ∷ b) e =
    let h = after_same (order_cells x y) (order_bindings a b) e in
    ap₂ ◌∷◌ (cell_same x y h.0) (bindings_same a b h.1)

-- THEOREM: the two the other way round get the flipped answer
pub bindings_flip : (a b : Binding) → order_bindings b a ≡ flip (order_bindings a b)
unfolding order_bindings
bindings_flip [] [] = refl
bindings_flip [] (y ∷ b) = refl
bindings_flip (x ∷ a) [] = refl
bindings_flip (x ∷ a) (y ∷ b) = ap₂ after (cell_flip x y) (bindings_flip a b) ∙ after_flip (order_cells x y) (order_bindings a b)

-- THEOREM: lower is transitive
pub bindings_lower : (a b c : Binding) → order_bindings a b ≡ Less → order_bindings b c ≡ Less → order_bindings a c ≡ Less
unfolding order_bindings
bindings_lower [] [] c p q = cc
bindings_lower [] (y ∷ b) [] p q = cc
bindings_lower [] (y ∷ b) (z ∷ c) p q = refl
bindings_lower (x ∷ a) [] c p q = cc
bindings_lower (x ∷ a) (y ∷ b) [] p q = q
bindings_lower (x ∷ a) (y ∷ b) (z ∷ c) p q =
    go (after_lower (order_cells x y) (order_bindings a b) p) (after_lower (order_cells y z) (order_bindings b c) q) (λ l m. bindings_lower a b c l m)
  where
    go : (order_cells x y ≡ Less) ⊎ ((order_cells x y ≡ Equal) × (order_bindings a b ≡ Less)) → (order_cells y z ≡ Less) ⊎ ((order_cells y z ≡ Equal) × (order_bindings b c ≡ Less))
        → (order_bindings a b ≡ Less → order_bindings b c ≡ Less → order_bindings a c ≡ Less) → after (order_cells x z) (order_bindings a c) ≡ Less
    go (inl l) (inl m) rest = rw (cell_lower x y z l m)
    go (inl l) (inr m) rest = let e : order_cells x z ≡ Less = rw (cell_same y z m.0) at l in rw e
    go (inr l) (inl m) rest = let e : order_cells x z ≡ Less = rw (cell_same x y l.0) m in rw e
    go (inr l) (inr m) rest = let e : order_cells x z ≡ Equal = rw (cell_same x y l.0) m.0 in rw e (rest l.1 m.1)

-- THEOREM: a binding is the same as itself
pub bindings_refl : (a : Binding) → order_bindings a a ≡ Equal
bindings_refl a = flip_same (order_bindings a a) (bindings_flip a a)

pub higher_lower : (a b : Binding) → order_bindings a b ≡ Greater → order_bindings b a ≡ Less
higher_lower a b e = bindings_flip a b ∙ ap flip e

pub bindings_asymmetric : (a b : Binding) → order_bindings a b ≡ Less → order_bindings b a ≡ Less → ⊥
bindings_asymmetric a b p q = lower_higher q (bindings_flip a b ∙ ap flip p)

-- THEOREM: of any two bindings the first is lower, or they are equal, or the second is lower
bindings_total : (a b : Binding) → (order_bindings a b ≡ Less) ⊎ ((a ≡ b) ⊎ (order_bindings b a ≡ Less))
bindings_total a b = go (order_bindings a b) refl
  where
    go : (o : Ordering) → order_bindings a b ≡ o → (order_bindings a b ≡ Less) ⊎ ((a ≡ b) ⊎ (order_bindings b a ≡ Less))
    go Less e = inl e
    go Equal e = inr (inl (bindings_same a b e))
    go Greater e = inr (inr (higher_lower a b e))

-- ---- strictly ascending

-- b is lower than each of them.
abbrev pub BeforeEach : Binding → List Binding → Type 0
BeforeEach b [] = Unit {0}
BeforeEach b (c ∷ cs) = (order_bindings b c ≡ Less) × BeforeEach b cs

-- Each is lower than all that follow it.
abbrev pub Rising : List Binding → Type 0
Rising [] = Unit {0}
Rising (b ∷ bs) = BeforeEach b bs × Rising bs

before_trans : (a b : Binding) (cs : List Binding) → order_bindings a b ≡ Less → BeforeEach b cs → BeforeEach a cs
before_trans a b [] e h = tt
before_trans a b (c ∷ cs) e h = (bindings_lower a b c e h.0, before_trans a b cs e h.1)

pub before_in : (b : Binding) (cs : List Binding) (c : Binding) → BeforeEach b cs → In c cs → order_bindings b c ≡ Less
before_in b [] c h i = absurd i
before_in b (d ∷ cs) c h (inl e) = ap (order_bindings b) e ∙ h.0
before_in b (d ∷ cs) c h (inr i) = before_in b cs c h.1 i

-- ---- a binding put in order

before_place : (a b : Binding) (cs : List Binding) → order_bindings a b ≡ Less → BeforeEach a cs → BeforeEach a (place b cs)
unfolding place
before_place a b [] e h = (e, tt)
before_place a b (c ∷ cs) e h = go (order_bindings b c) (before_place a b cs e h.1)
  where
    go : (o : Ordering) → BeforeEach a (place b cs) → BeforeEach a (in_order o (b ∷ c ∷ cs) (c ∷ cs) (c ∷ place b cs))
    go Less r = (e, h)
    go Equal r = h
    go Greater r = (h.0, r)

place_rising : (b : Binding) (cs : List Binding) → Rising cs → Rising (place b cs)
unfolding place
place_rising b [] h = (tt, tt)
place_rising b (c ∷ cs) h = go (order_bindings b c) refl (place_rising b cs h.1)
  where
    go : (o : Ordering) → order_bindings b c ≡ o → Rising (place b cs) → Rising (in_order o (b ∷ c ∷ cs) (c ∷ cs) (c ∷ place b cs))
    go Less e r = ((e, before_trans b c cs e h.0), h)
    go Equal e r = h
    go Greater e r = (before_place c b cs (higher_lower b c e) h.0, r)

in_place : (a b : Binding) (cs : List Binding) → In a (place b cs) → (a ≡ b) ⊎ In a cs
unfolding place
in_place a b [] i = i
in_place a b (c ∷ cs) i = go (order_bindings b c) i (λ j. in_place a b cs j)
  where
    go : (o : Ordering) → In a (in_order o (b ∷ c ∷ cs) (c ∷ cs) (c ∷ place b cs)) → (In a (place b cs) → (a ≡ b) ⊎ In a cs) → (a ≡ b) ⊎ In a (c ∷ cs)
    go Less j rest = j
    go Equal j rest = inr j
    go Greater (inl e) rest = inr (inl e)
    go Greater (inr j) rest = ⊎_elim (λ e. inl e) (λ k. inr (inr k)) (rest j)

place_in : (a b : Binding) (cs : List Binding) → (a ≡ b) ⊎ In a cs → In a (place b cs)
unfolding place
place_in a b [] i = i
place_in a b (c ∷ cs) i = go (order_bindings b c) refl i (λ j. place_in a b cs j)
  where
    go : (o : Ordering) → order_bindings b c ≡ o → (a ≡ b) ⊎ In a (c ∷ cs) → ((a ≡ b) ⊎ In a cs → In a (place b cs)) → In a (in_order o (b ∷ c ∷ cs) (c ∷ cs) (c ∷ place b cs))
    go Less e j rest = j
    go Equal e (inl p) rest = inl (p ∙ bindings_same b c e)
    go Equal e (inr j) rest = j
    go Greater e (inl p) rest = inr (rest (inl p))
    go Greater e (inr (inl p)) rest = inl p
    go Greater e (inr (inr j)) rest = inr (rest (inr j))

-- ---- all put in order

-- THEOREM: the bindings put in order are strictly ascending
pub sorted_rising : (bs : List Binding) → Rising (sorted bs)
unfolding sorted
sorted_rising [] = tt
sorted_rising (b ∷ bs) = place_rising b (sorted bs) (sorted_rising bs)

-- THEOREM: they are exactly those given
pub sorted_in : (a : Binding) (bs : List Binding) → In a bs → In a (sorted bs)
unfolding sorted
sorted_in a [] i = i
sorted_in a (b ∷ bs) (inl e) = place_in a b (sorted bs) (inl e)
sorted_in a (b ∷ bs) (inr i) = place_in a b (sorted bs) (inr (sorted_in a bs i))

pub in_sorted : (a : Binding) (bs : List Binding) → In a (sorted bs) → In a bs
unfolding sorted
in_sorted a [] i = i
in_sorted a (b ∷ bs) i = ⊎_elim (λ e. inl e) (λ j. inr (in_sorted a bs j)) (in_place a b (sorted bs) i)

-- ---- only one such list

-- the rest of two rising lists with the same members: neither first one stands in the rest
rest_in : (a b : Binding) (cs ds : List Binding) → a ≡ b → BeforeEach a cs → ((c : Binding) → In c (a ∷ cs) → In c (b ∷ ds)) → (c : Binding) → In c cs → In c ds
rest_in a b cs ds e h f c i = go (f c (inr i))
  where
    go : In c (b ∷ ds) → In c ds
    go (inl p) = lower_same (before_in a cs c h i) (ap (order_bindings a) (p ∙ sym e) ∙ bindings_refl a)
    go (inr j) = j

first-same : (a b : Binding) (cs ds : List Binding) → BeforeEach a cs → BeforeEach b ds → In a (b ∷ ds) → In b (a ∷ cs) → a ≡ b
first-same a b cs ds h g (inl e) j = e
first-same a b cs ds h g (inr i) (inl e) = sym e
first-same a b cs ds h g (inr i) (inr j) = absurd (bindings_asymmetric a b (before_in a cs b h j) (before_in b ds a g i))

-- THEOREM: two strictly ascending lists of the same bindings are equal
pub rising_unique : (cs ds : List Binding) → Rising cs → Rising ds → ((c : Binding) → In c cs → In c ds) → ((c : Binding) → In c ds → In c cs) → cs ≡ ds
rising_unique [] [] h g f k = refl
rising_unique [] (b ∷ ds) h g f k = absurd (k b (inl refl))
rising_unique (a ∷ cs) [] h g f k = absurd (f a (inl refl))
rising_unique (a ∷ cs) (b ∷ ds) h g f k =
    let e = first-same a b cs ds h.0 g.0 (f a (inl refl)) (k b (inl refl)) in
    ap₂ ◌∷◌ e (rising_unique cs ds h.1 g.1 (rest_in a b cs ds e h.0 f) (rest_in b a ds cs (sym e) g.0 k))
