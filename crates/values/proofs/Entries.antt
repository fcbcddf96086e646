-- Laws of maps: an entry put in order, what stands at a key, and that a map is what it maps its keys to.
use mathlib.Core.Path.{◌≡◌, refl, sym, ap, ap₂, ◌∙◌}
use mathlib.Core.Bool.{Bool, true, false, cond}
use mathlib.Core.Option.{Option, none as absent, some}
use Prim.Native.Nat.{◌+◌}
use native.Mathlib.Omega.{arith}
use Rattle.prelude.proofs.Absurd.{impossible}
use Rattle.prelude.proofs.Truth.{cond-true, cond-false}
use Rattle.std.specs.declared.cmp.Ordering.TheVariants.{Less, Equal, Greater}
use Rattle.std.specs.Ordering.{is_eq}
use Rattle.values.specs.Value.{Value, Items, none, more, every_other, keys, size, sizes, order, Before, Ascending, PairedFrom, Paired, Sound, SoundItems}
use Rattle.values.specs.Items.{same, is_member, insert, lookup, enter}
use Rattle.values.proofs.Order.{same_equal, order_refl, higher_flip, same_true}
use Rattle.values.proofs.Members.{lower_apart, higher_apart, before_first, insert_lower, insert_same, insert_higher, by_order, ascending_insert}

-- ---- entries by their first

pub enter_lower : (k v l : Value) (ws : Items) → order k l ≡ Less → enter k v (more l ws) ≡ more k (more v (more l ws))
unfolding enter
enter_lower k v l ws e = rw e

pub enter_same : (k v l w : Value) (vs : Items) → order k l ≡ Equal → enter k v (more l (more w vs)) ≡ more l (more v vs)
unfolding enter
enter_same k v l w vs e = rw e

pub enter_higher : (k v l w : Value) (vs : Items) → order k l ≡ Greater → enter k v (more l (more w vs)) ≡ more l (more w (enter k v vs))
unfolding enter
enter_higher k v l w vs e = rw e

pub lookup_first : (k l w : Value) (vs : Items) → lookup k (more l (more w vs)) ≡ cond (same k l) (some w) (lookup k vs)
unfolding lookup
lookup_first k l w vs = refl

-- A proof by entries: none, or a first entry and the rest.
module _ (P : Items → Type 0) (start : P none) (step : (k v : Value) (vs : Items) → Paired vs → P vs → P (more k (more v vs))) where
  mutual
    unfolding PairedFrom

    pub by_entries : (vs : Items) → Paired vs → P vs
    by_entries none p = start
    by_entries (more k ws) p = after_key k ws p

    after_key : (k : Value) (ws : Items) → PairedFrom false ws → P (more k ws)
    after_key k none p = absurd p
    after_key k (more v vs) p = step k v vs p (by_entries vs p)

-- ---- what entering keeps

pub paired_enter : (k v : Value) (vs : Items) → Paired vs → Paired (enter k v vs)
unfolding PairedFrom enter
paired_enter k v =
    by_entries (λ (vs : Items). Paired (enter k v vs)) tt
    (λ l w vs p r.
    by_order k l (λ o. rw (enter_lower k v l (more w vs) o) p) (λ o. rw (enter_same k v l w vs o) p) (λ o. rw (enter_higher k v l w vs o) r))

-- The keys are the keys before, and the one entered, in order.
keys_enter : (k v : Value) (vs : Items) → Paired vs → keys (enter k v vs) ≡ insert k (keys vs)
unfolding enter every_other insert
keys_enter k v =
    by_entries (λ (vs : Items). keys (enter k v vs) ≡ insert k (keys vs)) refl
    (λ l w vs p r.
    by_order k l (λ o. ap keys (enter_lower k v l (more w vs) o) ∙ sym (insert_lower k l (keys vs) o))
    (λ o. ap keys (enter_same k v l w vs o) ∙ sym (insert_same k l (keys vs) o))
    (λ o. ap keys (enter_higher k v l w vs o) ∙ ap (more l) r ∙ sym (insert_higher k l (keys vs) o)))

-- The keys of a map stay strictly ascending.
pub ascending_enter : (k v : Value) (vs : Items) → Paired vs → Ascending (keys vs) → Ascending (keys (enter k v vs))
ascending_enter k v vs p a = rw (keys_enter k v vs p) (ascending_insert k (keys vs) a)

pub sound_enter : (k v : Value) (vs : Items) → Paired vs → Sound k → Sound v → SoundItems vs → SoundItems (enter k v vs)
unfolding enter Sound
sound_enter k v vs p f g =
    by_entries (λ (vs : Items). SoundItems vs → SoundItems (enter k v vs)) (λ h. (f, (g, tt)))
    (λ l w vs p r h.
    by_order k l (λ o. rw (enter_lower k v l (more w vs) o) (f, (g, h))) (λ o. rw (enter_same k v l w vs o) (h.0, (g, h.1.1)))
    (λ o. rw (enter_higher k v l w vs o) (h.0, (h.1.0, r h.1.1))))
    vs p

-- ---- what stands at a key

-- One key's answer laid over another's: the same key, and two that differ.
over : (b c : Bool) (v w o : Option Value) → b ≡ c → cond c v o ≡ cond b v (cond c w o)
over true true v w o e = refl
over true false v w o e = cc
over false true v w o e = cc
over false false v w o e = refl

past : (b c : Bool) (v w o : Option Value) → (b ≡ true → c ≡ true → ⊥) → cond c w (cond b v o) ≡ cond b v (cond c w o)
past true true v w o f = absurd (f refl refl)
past true false v w o f = refl
past false c v w o f = refl

apart : (x k l : Value) → same k l ≡ false → same x k ≡ true → same x l ≡ true → ⊥
apart x k l f d e = let q = ap (λ (y : Value). same y l) (same_true x k d) in impossible cc

-- After entering, the new value stands at its key, and at every other key what stood there.
pub lookup_enter : (x k v : Value) (vs : Items) → Paired vs → lookup x (enter k v vs) ≡ cond (same x k) (some v) (lookup x vs)
unfolding enter lookup
lookup_enter x k v =
    by_entries (λ (vs : Items). lookup x (enter k v vs) ≡ cond (same x k) (some v) (lookup x vs)) refl
    (λ l w vs p r.
    by_order k l (λ o. ap (lookup x) (enter_lower k v l (more w vs) o))
    (λ o. ap (lookup x) (enter_same k v l w vs o) ∙ over (same x k) (same x l) (some v) (some w) (lookup x vs) (ap (same x) (same_equal k l o)))
    (λ o.
    ap (lookup x) (enter_higher k v l w vs o) ∙ ap (cond (same x l) (some w)) r
    ∙ past (same x k) (same x l) (some v) (some w) (lookup x vs) (apart x k l (higher_apart k l o))))

-- A key is there where something stands at it.
abbrev pub is_there : Option Value → Bool
is_there absent = false
is_there (some v) = true

either : (b : Bool) (c : Bool) (w : Value) (o : Option Value) → c ≡ is_there o → cond b true c ≡ is_there (cond b (some w) o)
either true c w o e = refl
either false c w o e = e

-- THEOREM: dom m is the set of the keys at which something stands
key_there : (k : Value) (vs : Items) → Paired vs → is_member k (keys vs) ≡ is_there (lookup k vs)
unfolding every_other is_member lookup
key_there k =
    by_entries (λ (vs : Items). is_member k (keys vs) ≡ is_there (lookup k vs)) refl
    (λ l w vs p r. either (same k l) (is_member k (keys vs)) w (lookup k vs) r)

-- What is before all keys has nothing at it.
pub before_nothing : (k : Value) (vs : Items) → Paired vs → Before k (keys vs) → lookup k vs ≡ absent
unfolding every_other Before lookup
before_nothing k =
    by_entries (λ (vs : Items). Before k (keys vs) → lookup k vs ≡ absent) (λ b. refl)
    (λ l w vs p r b. cond-false (same k l) (some w) (lookup k vs) (lower_apart k l b.0) ∙ r b.1)

-- What stands at the first key, and at another.
pub lookup-none : (k : Value) → lookup k none ≡ absent
unfolding lookup
lookup-none k = refl

pub lookup_here : (k l w : Value) (vs : Items) → order k l ≡ Equal → lookup k (more l (more w vs)) ≡ some w
unfolding lookup
lookup_here k l w vs o = cond-true (same k l) (some w) (lookup k vs) (ap is_eq o)

pub lookup_on : (k l w : Value) (vs : Items) → order k l ≡ Greater → lookup k (more l (more w vs)) ≡ lookup k vs
unfolding lookup
lookup_on k l w vs o = cond-false (same k l) (some w) (lookup k vs) (higher_apart k l o)

pub lookup_before : (k l w : Value) (vs : Items) → Paired vs → Before l (keys vs) → order k l ≡ Less → lookup k (more l (more w vs)) ≡ absent
unfolding every_other PairedFrom
lookup_before k l w vs p b o = before_nothing k (more l (more w vs)) p (before_first k l (keys vs) o b)

-- Entering what is there changes nothing.
pub enter_present : (k v : Value) (vs : Items) → Paired vs → Ascending (keys vs) → lookup k vs ≡ some v → enter k v vs ≡ vs
unfolding every_other Ascending lookup
enter_present k v =
    by_entries (λ (vs : Items). Ascending (keys vs) → lookup k vs ≡ some v → enter k v vs ≡ vs) (λ a e. cc)
    (λ l w vs p r a e.
    by_order k l (λ o. let f = lookup_before k l w vs p a.0 o in cc)
    (λ o. let f = lookup_here k l w vs o in let g : v ≡ w = cc in enter_same k v l w vs o ∙ ap (λ (y : Value). more l (more y vs)) g)
    (λ o. enter_higher k v l w vs o ∙ ap (λ (ws : Items). more l (more w ws)) (r a.1 (sym (lookup_on k l w vs o) ∙ e))))

-- A new key makes the items longer by the sizes of key and value, and two more.
pub sizes_enter : (k v : Value) (vs : Items) → Paired vs → lookup k vs ≡ absent → sizes (enter k v vs) ≡ size k + size v + sizes vs
unfolding enter size
sizes_enter k v =
    by_entries (λ (vs : Items). lookup k vs ≡ absent → sizes (enter k v vs) ≡ size k + size v + sizes vs) (λ e. omega arith)
    (λ l w vs p r e.
    by_order k l (λ o. let g = ap sizes (enter_lower k v l (more w vs) o) in omega arith)
    (λ o. let f = lookup_here k l w vs o in cc)
    (λ o. let f = r (sym (lookup_on k l w vs o) ∙ e) in let g = ap sizes (enter_higher k v l w vs o) in omega arith))

-- ---- a map is what it maps its keys to

-- The rests of two maps with one first key agree at every key.
module _ (k v w : Value) (vs ws : Items) (f : (x : Value) → lookup x (more k (more v vs)) ≡ lookup x (more k (more w ws))) (m : lookup k vs ≡ absent) (n : lookup k ws ≡ absent) where
  rests : (x : Value) → lookup x vs ≡ lookup x ws
  unfolding lookup
  rests x = go (same x k) refl
    where
      go : (t : Bool) → same x k ≡ t → lookup x vs ≡ lookup x ws
      go true e = let j : x ≡ k = same_true x k e in ap (λ (y : Value). lookup y vs) j ∙ m ∙ sym (ap (λ (y : Value). lookup y ws) j ∙ n)
      go false e = sym (cond-false (same x k) (some v) (lookup x vs) e) ∙ f x ∙ cond-false (same x k) (some w) (lookup x ws) e

Agree : Items → Items → Type 0
Agree vs ws = Ascending (keys vs) → Ascending (keys ws) → ((x : Value) → lookup x vs ≡ lookup x ws) → vs ≡ ws

-- THEOREM: two maps with the same value, or none, at every key are equal.
pub same_entries : (vs ws : Items) → Paired vs → Paired ws → Ascending (keys vs) → Ascending (keys ws) → ((x : Value) → lookup x vs ≡ lookup x ws) → vs ≡ ws
unfolding Agree every_other Ascending
same_entries vs ws p q =
    by_entries (λ (vs : Items). (ws : Items) → Paired ws → Agree vs ws)
    (by_entries (Agree none) (λ a b f. refl) (λ l w ws q r a b f. let e = f l in let g = lookup_here l l w ws (order_refl l) in let h = lookup-none l in cc))
    (λ k v vs p r.
    by_entries (Agree (more k (more v vs))) (λ a b f. let e = f k in let g = lookup_here k k v vs (order_refl k) in let h = lookup-none k in cc)
    (λ l w ws q r' a b f.
    by_order k l (λ o. let e = f k in let g = lookup_here k k v vs (order_refl k) in let h = lookup_before k l w ws q b.0 o in cc)
    (λ o.
    let i : k ≡ l = same_equal k l o in
    let e = f k in
    let g = lookup_here k k v vs (order_refl k) in
    let h = lookup_here k l w ws o in
    let j : v ≡ w = cc in
    let n : lookup k ws ≡ absent = ap (λ (y : Value). lookup y ws) i ∙ before_nothing l ws q b.0 in
    ap₂ more i
    (ap₂ more j
    (r ws q a.1 b.1 (rests k v w vs ws (λ x. f x ∙ ap (λ (y : Value). lookup x (more y (more w ws))) (sym i)) (before_nothing k vs p a.0) n))))
    (λ o. let e = f l in let g = lookup_here l l w ws (order_refl l) in let h = lookup_before l k v vs p a.0 (higher_flip k l o) in cc)))
    vs p ws q
