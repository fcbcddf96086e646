-- Laws of sets: a member put in order, who is a member, and that a set is its members.
use mathlib.Core.Path.{◌≡◌, refl, sym, ap, ap₂, ◌∙◌}
use mathlib.Core.Bool.{Bool, true, false, cond}
use Prim.Native.Nat.{suc, ◌+◌, ◌≤◌}
use native.Mathlib.Omega.{arith}
use Rattle.prelude.proofs.Truth.{cond-true, cond-false}
use Rattle.std.specs.declared.cmp.Ordering.{Ordering}
use Rattle.std.specs.declared.cmp.Ordering.TheVariants.{Less, Equal, Greater}
use Rattle.std.specs.Ordering.{is_eq}
use Rattle.values.specs.Value.{Value, Items, none, more, count, size, sizes, order, Before, Ascending, Sound, SoundItems}
use Rattle.values.specs.Items.{same, is_member, insert}
use Rattle.values.proofs.Order.{order_lower, same_equal, higher_flip, same_true, true_same}

-- ---- the order and the same

pub lower_apart : (v w : Value) → order v w ≡ Less → same v w ≡ false
lower_apart v w e = ap is_eq e

pub higher_apart : (v w : Value) → order v w ≡ Greater → same v w ≡ false
higher_apart v w e = ap is_eq e

-- ---- before and ascending

-- What is lower than an item is lower than all that this item is before.
before_lower : (u v : Value) (vs : Items) → order u v ≡ Less → Before v vs → Before u vs
unfolding Before
before_lower u v none e b = tt
before_lower u v (more w ws) e b = (order_lower u v w e b.0, before_lower u v ws e b.1)

-- What is lower than the first of ascending items is before them all.
pub before_first : (v w : Value) (ws : Items) → order v w ≡ Less → Before w ws → Before v (more w ws)
unfolding Before
before_first v w ws e b = (e, before_lower v w ws e b)

-- What is before all items is none of them.
pub before_apart : (v : Value) (vs : Items) → Before v vs → is_member v vs ≡ false
unfolding Before is_member
before_apart v none b = refl
before_apart v (more w ws) b = cond-false (same v w) true (is_member v ws) (lower_apart v w b.0) ∙ before_apart v ws b.1

-- ---- insertion by its three cases

pub insert_lower : (v w : Value) (ws : Items) → order v w ≡ Less → insert v (more w ws) ≡ more v (more w ws)
unfolding insert
insert_lower v w ws e = rw e

pub insert_same : (v w : Value) (ws : Items) → order v w ≡ Equal → insert v (more w ws) ≡ more w ws
unfolding insert
insert_same v w ws e = rw e

pub insert_higher : (v w : Value) (ws : Items) → order v w ≡ Greater → insert v (more w ws) ≡ more w (insert v ws)
unfolding insert
insert_higher v w ws e = rw e

-- A proof by the three cases of the order.
pub by_order : {P : Type 0} (v w : Value) → (order v w ≡ Less → P) → (order v w ≡ Equal → P) → (order v w ≡ Greater → P) → P
by_order {P} v w f g h = go (order v w) refl
  where
    go : (o : Ordering) → order v w ≡ o → P
    go Less e = f e
    go Equal e = g e
    go Greater e = h e

-- The first item is a member.
pub member_here : (v : Value) (vs : Items) → is_member v (more v vs) ≡ true
unfolding is_member
member_here v vs = cond-true (same v v) true (is_member v vs) (true_same {v = v} refl)

-- ---- what insertion keeps

before_insert : (u v : Value) (vs : Items) → order u v ≡ Less → Before u vs → Before u (insert v vs)
unfolding Before insert
before_insert u v none e b = (e, tt)
before_insert u v (more w ws) e b =
    by_order v w (λ o. rw (insert_lower v w ws o) (e, b)) (λ o. rw (insert_same v w ws o) b)
    (λ o. rw (insert_higher v w ws o) (b.0, before_insert u v ws e b.1))

-- A set stays strictly ascending.
pub ascending_insert : (v : Value) (vs : Items) → Ascending vs → Ascending (insert v vs)
unfolding Before Ascending insert
ascending_insert v none a = (tt, tt)
ascending_insert v (more w ws) a =
    by_order v w (λ o. rw (insert_lower v w ws o) (before_first v w ws o a.0, a)) (λ o. rw (insert_same v w ws o) a)
    (λ o. rw (insert_higher v w ws o) (before_insert w v ws (higher_flip v w o) a.0, ascending_insert v ws a.1))

pub sound_insert : (v : Value) (vs : Items) → Sound v → SoundItems vs → SoundItems (insert v vs)
unfolding Sound insert
sound_insert v none f g = (f, tt)
sound_insert v (more w ws) f g =
    by_order v w (λ o. rw (insert_lower v w ws o) (f, g)) (λ o. rw (insert_same v w ws o) g)
    (λ o. rw (insert_higher v w ws o) (g.0, sound_insert v ws f g.1))

-- ---- who is a member

-- After insertion the members are those before it, and the one put in.
pub member_insert : (x v : Value) (vs : Items) → is_member x (insert v vs) ≡ cond (same x v) true (is_member x vs)
unfolding is_member insert
member_insert x v none = refl
member_insert x v (more w ws) =
    by_order v w (λ o. ap (is_member x) (insert_lower v w ws o))
    (λ o. ap (is_member x) (insert_same v w ws o) ∙ twice (same x v) (same x w) (is_member x ws) (ap (same x) (same_equal v w o)))
    (λ o.
    ap (is_member x) (insert_higher v w ws o) ∙ ap (cond (same x w) true) (member_insert x v ws) ∙ swap (same x w) (same x v) (is_member x ws))
  where
    twice : (b c d : Bool) → b ≡ c → cond c true d ≡ cond b true (cond c true d)
    twice true c d e = ap (λ (y : Bool). cond y true d) (sym e)
    twice false c d e = refl

    swap : (b c d : Bool) → cond b true (cond c true d) ≡ cond c true (cond b true d)
    swap true true d = refl
    swap true false d = refl
    swap false c d = refl

-- Inserting a member changes nothing.
pub insert_present : (v : Value) (vs : Items) → Ascending vs → is_member v vs ≡ true → insert v vs ≡ vs
unfolding Ascending is_member
insert_present v none a e = cc
insert_present v (more w ws) a e =
    by_order v w
    (λ o. let f = before_apart v (more w ws) (before_first v w ws o a.0) in cc)
    (λ o. insert_same v w ws o)
    (λ o. insert_higher v w ws o ∙ ap (more w) (insert_present v ws a.1 (sym (cond-false (same v w) true (is_member v ws) (higher_apart v w o)) ∙ e)))

-- What is not there yet makes the items longer by its own size, and one more.
pub sizes_insert : (v : Value) (vs : Items) → is_member v vs ≡ false → sizes (insert v vs) ≡ size v + sizes vs
unfolding is_member insert size
sizes_insert v none e = omega arith
sizes_insert v (more w ws) e =
    by_order v w (λ o. ap sizes (insert_lower v w ws o)) (λ o. let z = ap is_eq o in cc)
    (λ o. let f = sizes_insert v ws (sym (cond-false (same v w) true (is_member v ws) (higher_apart v w o)) ∙ e) in let g = ap sizes (insert_higher v w ws o) in omega arith)

pub count_insert : (v : Value) (vs : Items) → is_member v vs ≡ false → count (insert v vs) ≡ suc (count vs)
unfolding is_member insert count
count_insert v none e = refl
count_insert v (more w ws) e =
    by_order v w (λ o. ap count (insert_lower v w ws o)) (λ o. let z = ap is_eq o in cc)
    (λ o. let f = count_insert v ws (sym (cond-false (same v w) true (is_member v ws) (higher_apart v w o)) ∙ e) in let g = ap count (insert_higher v w ws o) in omega arith)

-- Insertion never makes the items shorter.
pub sizes_grow : (v : Value) (vs : Items) → sizes vs ≤ sizes (insert v vs)
unfolding insert size
sizes_grow v none = omega arith
sizes_grow v (more w ws) =
    by_order v w (λ o. let g = ap sizes (insert_lower v w ws o) in omega arith) (λ o. let g = ap sizes (insert_same v w ws o) in omega arith)
    (λ o. let f = sizes_grow v ws in let g = ap sizes (insert_higher v w ws o) in omega arith)

-- ---- a set is its members

-- THEOREM: two strictly ascending lists of items with the same members are equal.
pub same_members : (vs ws : Items) → Ascending vs → Ascending ws → ((x : Value) → is_member x vs ≡ is_member x ws) → vs ≡ ws
unfolding Ascending Before is_member
same_members none none a b f = refl
same_members none (more w ws) a b f = let e = f w in let g = member_here w ws in cc
same_members (more v vs) none a b f = let e = f v in let g = member_here v vs in cc
same_members (more v vs) (more w ws) a b f =
    by_order v w
    (λ o. let e = f v in let g = member_here v vs in let h = before_apart v (more w ws) (before_first v w ws o b.0) in cc)
    (λ o.
    let q : v ≡ w = same_equal v w o in
    ap₂ more q (same_members vs ws a.1 b.1 (λ x. rest x q (before_apart v vs a.0) (before_apart w ws b.0))))
    (λ o.
    let l = higher_flip v w o in
    let e = f w in
    let g = member_here w ws in
    let h = before_apart w (more v vs) (before_first w v vs l a.0) in
    cc)
  where
    -- the rests have the same members: x is the first, and in neither, or another
    rest : (x : Value) → v ≡ w → is_member v vs ≡ false → is_member w ws ≡ false → is_member x vs ≡ is_member x ws
    rest x q l m = go (same x v) refl
      where
        go : (t : Bool) → same x v ≡ t → is_member x vs ≡ is_member x ws
        go true e =
            let i : x ≡ v = same_true x v e in
            ap (λ (y : Value). is_member y vs) i ∙ l ∙ sym (ap (λ (y : Value). is_member y ws) (i ∙ q) ∙ m)
        go false e =
            sym (cond-false (same x v) true (is_member x vs) e) ∙ f x ∙ cond-false (same x w) true (is_member x ws) (ap (same x) (sym q) ∙ e)
