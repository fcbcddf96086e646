-- Laws of items gathered from items: who is among them, and that they stay in order, sound and short.
use mathlib.Core.Path.{◌≡◌, refl, sym, ap, ◌∙◌}
use mathlib.Core.Bool.{Bool, true, false, ◌&&◌, ◌||◌, and-eq-true_iff, or-false, cond, and-false}
use Prim.Native.Nat.{◌+◌, ◌≤◌}
use native.Mathlib.Omega.{arith}
use mathlib.Mathlib.Data.Bool.Basic.{and_intro, or_inl, or_inr}
use Rattle.prelude.proofs.Absurd.{never}
use Rattle.prelude.proofs.Truth.{cond-or, by_test}
use Rattle.values.specs.Value.{Value, boolean, integer, quote, collection, Items, none, more, count, size, sizes, Before, Ascending, Sound, SoundItems}
use Rattle.values.specs.Items.{same, join, is_member, insert}
use Rattle.values.proofs.Order.{same_true, true_same}
use Rattle.values.proofs.Encoding.{join_sizes, join_sound}
use Rattle.values.proofs.Members.{member_here, by_order, insert_lower, insert_same, insert_higher, member_insert, ascending_insert, sound_insert, sizes_grow}
use Rattle.values.proofs.Joined.{count_join}
use Rattle.operators.specs.Gather.{every_item, any_item, keep_items, insert_all, items_in, flatten, backwards}

pub same_refl : (v : Value) → same v v ≡ true
same_refl v = true_same {v = v} refl

-- ---- members

pub member_none : (x : Value) → is_member x none ≡ false
unfolding is_member
member_none x = refl

member_more : (x v : Value) (vs : Items) → is_member x (more v vs) ≡ same x v || is_member x vs
unfolding is_member
member_more x v vs = cond-or (same x v) (is_member x vs)

-- x is a member of v and vs: it is v, or a member of vs.
pub member_case : {P : Type 0} (x v : Value) (vs : Items) → is_member x (more v vs) ≡ true → (x ≡ v → P) → (is_member x vs ≡ true → P) → P
unfolding is_member
member_case {P} x v vs e f g = go (same x v) refl e
  where
    go : (b : Bool) → same x v ≡ b → cond b true (is_member x vs) ≡ true → P
    go true s e = f (same_true x v s)
    go false s e = g e

pub member_there : (x v : Value) (vs : Items) → is_member x vs ≡ true → is_member x (more v vs) ≡ true
member_there x v vs e = member_more x v vs ∙ or_inr (same x v) (is_member x vs) e

pub member_join : (x : Value) (vs ws : Items) → is_member x (join vs ws) ≡ is_member x vs || is_member x ws
unfolding join is_member
member_join x none ws = refl
member_join x (more v vs) ws =
    ap (cond (same x v) true) (member_join x vs ws) ∙ go (same x v) (is_member x vs) (is_member x ws)
  where
    go : (b c d : Bool) → cond b true (c || d) ≡ cond b true c || d
    go true c d = refl
    go false c d = refl

-- ---- every and any, by the members

pub every_at : (p : Value → Bool) (vs : Items) → every_item p vs ≡ true → (x : Value) → is_member x vs ≡ true → p x ≡ true
unfolding every_item
every_at p none e x m = never (sym (member_none x) ∙ m)
every_at p (more v vs) e x m =
    let h = (and-eq-true_iff (p v) (every_item p vs)).0 e in
    member_case x v vs m (λ q. ap p q ∙ h.0) (λ n. every_at p vs h.1 x n)

pub every_all : (p : Value → Bool) (vs : Items) → ((x : Value) → is_member x vs ≡ true → p x ≡ true) → every_item p vs ≡ true
unfolding every_item
every_all p none f = refl
every_all p (more v vs) f = and_intro (f v (member_here v vs)) (every_all p vs (λ x m. f x (member_there x v vs m)))

-- some member passes the test
pub record Some (p : Value → Bool) (vs : Items) : Type 0 where
  pub member : Value
  pub is_in : is_member member vs ≡ true
  pub passes : p member ≡ true

pub any_some : (p : Value → Bool) (vs : Items) → any_item p vs ≡ true → Some p vs
unfolding any_item
any_some p none e = never e
any_some p (more v vs) e = go (p v) refl e (λ f. any_some p vs f)
  where
    later : Some p vs → Some p (more v vs)
    later h = record { member = h.member; is_in = member_there h.member v vs h.is_in; passes = h.passes }

    go : (b : Bool) → p v ≡ b → b || any_item p vs ≡ true → (any_item p vs ≡ true → Some p vs) → Some p (more v vs)
    go true q e r = record { member = v; is_in = member_here v vs; passes = q }
    go false q e r = later (r e)

pub some_any : (p : Value → Bool) (vs : Items) (x : Value) → is_member x vs ≡ true → p x ≡ true → any_item p vs ≡ true
unfolding any_item
some_any p none x m e = never (sym (member_none x) ∙ m)
some_any p (more v vs) x m e =
    member_case x v vs m (λ q. or_inl (p v) (any_item p vs) (sym (ap p q) ∙ e)) (λ n. or_inr (p v) (any_item p vs) (some_any p vs x n e))

-- ---- items that pass a test

-- Those of vs that pass.
pub member_keep : (p : Value → Bool) (x : Value) (vs : Items) → is_member x (keep_items p vs) ≡ is_member x vs && p x
unfolding is_member keep_items
member_keep p x none = refl
member_keep p x (more v vs) =
    one (p v) (keep_items p vs) ∙ ap (λ (m : Bool). cond (p v) (cond (same x v) true m) m) (member_keep p x vs)
    ∙ kept (p v) (same x v) (is_member x vs) (p x) (λ e. ap p (same_true x v e))
  where
    one : (b : Bool) (us : Items) → is_member x (cond b (more v us) us) ≡ cond b (cond (same x v) true (is_member x us)) (is_member x us)
    one true us = refl
    one false us = refl

    kept : (b s m q : Bool) → (s ≡ true → q ≡ b) → cond b (cond s true (m && q)) (m && q) ≡ cond s true m && q
    kept true true m q f = sym (f refl)
    kept true false m q f = refl
    kept false true m q f = ap (λ (c : Bool). m && c) (f refl) ∙ and-false m ∙ sym (f refl)
    kept false false m q f = refl

before_keep : (p : Value → Bool) (u : Value) (vs : Items) → Before u vs → Before u (keep_items p vs)
unfolding Before keep_items
before_keep p u none b = tt
before_keep p u (more v vs) b = by_test (p v) (λ e. rw e (b.0, before_keep p u vs b.1)) (λ e. rw e (before_keep p u vs b.1))

pub ascending_keep : (p : Value → Bool) (vs : Items) → Ascending vs → Ascending (keep_items p vs)
unfolding Ascending keep_items
ascending_keep p none a = tt
ascending_keep p (more v vs) a =
    by_test (p v) (λ e. rw e (before_keep p v vs a.0, ascending_keep p vs a.1)) (λ e. rw e (ascending_keep p vs a.1))

pub sound_keep : (p : Value → Bool) (vs : Items) → SoundItems vs → SoundItems (keep_items p vs)
unfolding Sound keep_items
sound_keep p none s = tt
sound_keep p (more v vs) s = by_test (p v) (λ e. rw e (s.0, sound_keep p vs s.1)) (λ e. rw e (sound_keep p vs s.1))

pub sizes_keep : (p : Value → Bool) (vs : Items) → sizes (keep_items p vs) ≤ sizes vs
unfolding size keep_items
sizes_keep p none = omega arith
sizes_keep p (more v vs) = let h = sizes_keep p vs in by_test (p v) (λ e. rw e (omega arith)) (λ e. rw e (omega arith))

-- ---- members put into a set

pub member_insert_all : (x : Value) (vs ws : Items) → is_member x (insert_all vs ws) ≡ is_member x vs || is_member x ws
unfolding is_member insert_all
member_insert_all x vs none = sym (or-false (is_member x vs))
member_insert_all x vs (more w ws) =
    member_insert_all x (insert w vs) ws ∙ ap (λ (m : Bool). m || is_member x ws) (member_insert x w vs) ∙ go (same x w) (is_member x vs) (is_member x ws)
  where
    go : (s m n : Bool) → cond s true m || n ≡ m || cond s true n
    go true true n = refl
    go true false n = refl
    go false m n = refl

pub ascending_insert_all : (vs ws : Items) → Ascending vs → Ascending (insert_all vs ws)
unfolding insert_all
ascending_insert_all vs none a = a
ascending_insert_all vs (more w ws) a = ascending_insert_all (insert w vs) ws (ascending_insert w vs a)

pub sound_insert_all : (vs ws : Items) → SoundItems vs → SoundItems ws → SoundItems (insert_all vs ws)
unfolding Sound insert_all
sound_insert_all vs none s t = s
sound_insert_all vs (more w ws) s t = sound_insert_all (insert w vs) ws (sound_insert w vs t.0 s) t.1

-- One member makes the items longer by its own size at the most.
pub sizes_most : (v : Value) (vs : Items) → sizes (insert v vs) ≤ size v + sizes vs
unfolding insert size
sizes_most v none = omega arith
sizes_most v (more w ws) =
    by_order v w (λ o. let g = ap sizes (insert_lower v w ws o) in omega arith) (λ o. let g = ap sizes (insert_same v w ws o) in omega arith)
    (λ o. let f = sizes_most v ws in let g = ap sizes (insert_higher v w ws o) in omega arith)

pub sizes_insert_all : (vs ws : Items) → sizes (insert_all vs ws) ≤ sizes vs + sizes ws
unfolding insert_all size
sizes_insert_all vs none = omega arith
sizes_insert_all vs (more w ws) = omega (arith, sizes_insert_all (insert w vs) ws, sizes_most w vs)

pub sizes_grow_all : (vs ws : Items) → sizes vs ≤ sizes (insert_all vs ws)
unfolding insert_all
sizes_grow_all vs none = omega arith
sizes_grow_all vs (more w ws) = omega (arith, sizes_grow_all (insert w vs) ws, sizes_grow w vs)

-- ---- the items of each

pub member_flatten : (x : Value) (vs : Items) → is_member x (flatten vs) ≡ any_item (λ s. is_member x (items_in s)) vs
unfolding flatten any_item is_member
member_flatten x none = refl
member_flatten x (more v vs) = member_join x (items_in v) (flatten vs) ∙ ap (λ (m : Bool). is_member x (items_in v) || m) (member_flatten x vs)

sound_items_of : (v : Value) → Sound v → SoundItems (items_in v)
unfolding Sound
sound_items_of (boolean b) s = tt
sound_items_of (integer z) s = tt
sound_items_of (quote n) s = tt
sound_items_of (collection k vs) s = s.1

pub sound_flatten : (vs : Items) → SoundItems vs → SoundItems (flatten vs)
unfolding Sound flatten
sound_flatten none s = tt
sound_flatten (more v vs) s = join_sound (items_in v) (flatten vs) (sound_items_of v s.0) (sound_flatten vs s.1)

-- ---- backwards

pub count_backwards : (vs : Items) → count (backwards vs) ≡ count vs
unfolding backwards count
count_backwards none = refl
count_backwards (more v vs) = let e = count_backwards vs in let f = count_join (backwards vs) (more v none) in omega arith

pub sizes_backwards : (vs : Items) → sizes (backwards vs) ≡ sizes vs
unfolding backwards size
sizes_backwards none = refl
sizes_backwards (more v vs) = let e = sizes_backwards vs in let f = join_sizes (backwards vs) (more v none) in omega arith

pub sound_backwards : (vs : Items) → SoundItems vs → SoundItems (backwards vs)
unfolding backwards Sound
sound_backwards none s = tt
sound_backwards (more v vs) s = join_sound (backwards vs) (more v none) (sound_backwards vs s.1) (s.0, tt)
