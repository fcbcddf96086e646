-- Theorems on the operators on sets: who is a member of each result, in the words of source 000.
use mathlib.Core.Path.{◌≡◌, refl, sym, ap, ap₂, subst, ◌∙◌}
use mathlib.Core.Bool.{Bool, true, false, not, ◌&&◌, ◌||◌, and-eq-true_iff, cond}
use Prim.Native.Nat.{◌+◌, ◌≤◌}
use native.Mathlib.Omega.{arith}
use borrow.Author.Tests.{not-true}
use mathlib.Mathlib.Data.Bool.Basic.{and_intro}
use Rattle.prelude.proofs.Absurd.{never}
use Rattle.prelude.proofs.Truth.{cond-false, both_ways, by_test}
use Rattle.values.specs.Value.{Value, Items, none, more, count, size, sizes, Before, Ascending}
use Rattle.values.specs.Items.{same, join, snoc, is_member, insert}
use Rattle.values.proofs.Order.{same_true}
use Rattle.values.proofs.Joined.{join_join}
use Rattle.values.proofs.Members.{member_here, member_insert, before_apart, insert_present, sizes_insert, count_insert, ascending_insert, same_members}
use Rattle.operators.specs.Gather.{every_item, any_item, keep_items, insert_all, items_in, flatten}
use Rattle.operators.specs.Sets.{unite, intersect, subtract, is_subset, is_empty, unite_all, intersect_all}
use Rattle.operator_laws.proofs.Gather.{member_none, member_there, member_join, every_at, every_all, Some, any_some, some_any, member_keep, member_insert_all, ascending_insert_all, sizes_grow_all, member_flatten}

-- ---- union, inter, difference

-- THEOREM: s1 union s2 contains all the elements of both s1 and s2
member_unite : (x : Value) (vs ws : Items) → is_member x (unite vs ws) ≡ is_member x vs || is_member x ws
member_unite x vs ws = member_insert_all x vs ws

-- THEOREM: s1 inter s2 contains the elements that are in both s1 and s2
member_intersect : (x : Value) (vs ws : Items) → is_member x (intersect vs ws) ≡ is_member x vs && is_member x ws
member_intersect x vs ws = member_keep (λ v. is_member v ws) x vs

-- THEOREM: s1 \ s2 contains the elements from s1 that are not in s2
member_without : (x : Value) (vs ws : Items) → is_member x (subtract vs ws) ≡ is_member x vs && not (is_member x ws)
member_without x vs ws = member_keep (λ v. not (is_member v ws)) x vs

-- A set has its members in one way only: whatever is strictly ascending and has the members of the union is the union.
unite_only : (us vs ws : Items) → Ascending us → Ascending vs → ((x : Value) → is_member x us ≡ is_member x vs || is_member x ws) → us ≡ unite vs ws
unite_only us vs ws a b f = same_members us (unite vs ws) a (ascending_insert_all vs ws b) (λ x. f x ∙ sym (member_unite x vs ws))

-- ---- union, one member after another in order: what is passed of both sides, and then what is left of them

before_parts : (v : Value) (us vs : Items) → Before v (join us vs) → Before v us × Before v vs
unfolding join Before
before_parts v none vs b = (tt, b)
before_parts v (more u us) vs b = let h = before_parts v us vs b.1 in ((b.0, h.0), h.1)

before_join : (v : Value) (us vs : Items) → Before v us → Before v vs → Before v (join us vs)
unfolding join Before
before_join v none vs a b = b
before_join v (more u us) vs a b = (a.0, before_join v us vs a.1 b)

pub ascending_parts : (us vs : Items) → Ascending (join us vs) → Ascending us × Ascending vs
unfolding join Ascending
ascending_parts none vs a = (tt, a)
ascending_parts (more u us) vs a = let h = ascending_parts us vs a.1 in (((before_parts u us vs a.0).0, h.0), h.1)

-- A member above those passed, and below those left, goes between them.
pub ascending_between : (us : Items) (m : Value) (vs : Items) → Ascending (snoc us m) → Ascending (join us vs) → Before m vs → Ascending (join (snoc us m) vs)
unfolding join Ascending Before
ascending_between us m vs a b l = subst Ascending (sym (join_join us (more m none) vs)) (go us a b)
  where
    go : (us : Items) → Ascending (snoc us m) → Ascending (join us vs) → Ascending (join us (more m vs))
    go none a b = (l, b)
    go (more u us) a b =
        let h = before_parts u us (more m none) a.0 in
        (before_join u us (more m vs) h.0 (h.1.0, (before_parts u us vs b.0).1), go us a.1 b.1)

-- A member passed on the left, on the right or on both sides goes to the end of the union of those passed.
module _ (us xs : Items) (m : Value) (a : Ascending (snoc (unite us xs) m)) where
  passed : (vs ws : Items) → Ascending vs → ((x : Value) → is_member x vs || is_member x ws ≡ (is_member x us || is_member x xs) || is_member x (more m none)) → unite vs ws ≡ snoc (unite us xs) m
  passed vs ws b f =
      sym
      (unite_only (snoc (unite us xs) m) vs ws a b
      (λ x. member_join x (unite us xs) (more m none) ∙ ap (λ (c : Bool). c || is_member x (more m none)) (member_unite x us xs) ∙ sym (f x)))

  pub passed_left : Ascending (snoc us m) → unite (snoc us m) xs ≡ snoc (unite us xs) m
  passed_left b = passed (snoc us m) xs b (λ x. ap (λ (c : Bool). c || is_member x xs) (member_join x us (more m none)) ∙ go (is_member x us) (is_member x xs) (is_member x (more m none)))
    where
      go : (b c d : Bool) → (b || d) || c ≡ (b || c) || d
      go true c d = refl
      go false true true = refl
      go false true false = refl
      go false false true = refl
      go false false false = refl

  pub passed_right : Ascending us → unite us (snoc xs m) ≡ snoc (unite us xs) m
  passed_right b = passed us (snoc xs m) b (λ x. ap (λ (c : Bool). is_member x us || c) (member_join x xs (more m none)) ∙ go (is_member x us) (is_member x xs) (is_member x (more m none)))
    where
      go : (b c d : Bool) → b || (c || d) ≡ (b || c) || d
      go true c d = refl
      go false c d = refl

  pub passed_both : Ascending (snoc us m) → unite (snoc us m) (snoc xs m) ≡ snoc (unite us xs) m
  passed_both b =
      passed (snoc us m) (snoc xs m) b
      (λ x. ap₂ ◌||◌ (member_join x us (more m none)) (member_join x xs (more m none)) ∙ go (is_member x us) (is_member x xs) (is_member x (more m none)))
    where
      go : (b c d : Bool) → (b || d) || (c || d) ≡ (b || c) || d
      go true c d = refl
      go false true true = refl
      go false true false = refl
      go false false true = refl
      go false false false = refl

-- The union of those passed is never longer than the finished union.
pub sizes_passed : (us vs xs ws : Items) → Ascending (join us vs) → sizes (unite us xs) ≤ sizes (unite (join us vs) (join xs ws))
sizes_passed us vs xs ws a = subst (λ (ys : Items). sizes (unite us xs) ≤ sizes ys) (sym whole) (sizes_grow_all (unite us xs) (join vs ws))
  where
    go : (b c d e : Bool) → (b || c) || (d || e) ≡ (b || d) || (c || e)
    go true c d e = refl
    go false true true e = refl
    go false true false e = refl
    go false false d e = refl

    whole : unite (join us vs) (join xs ws) ≡ unite (unite us xs) (join vs ws)
    whole =
        unite_only (unite (join us vs) (join xs ws)) (unite us xs) (join vs ws) (ascending_insert_all (join us vs) (join xs ws) a) (ascending_insert_all us xs (ascending_parts us vs a).0)
        (λ x.
        member_unite x (join us vs) (join xs ws) ∙ ap₂ ◌||◌ (member_join x us vs) (member_join x xs ws)
        ∙ go (is_member x us) (is_member x vs) (is_member x xs) (is_member x ws)
        ∙ sym (ap₂ ◌||◌ (member_unite x us xs) (member_join x vs ws)))

-- ---- subset, psubset

-- THEOREM: s1 subset s2 where all elements from s1 are also in s2
subset_at : (vs ws : Items) → is_subset vs ws ≡ true → (x : Value) → is_member x vs ≡ true → is_member x ws ≡ true
subset_at vs ws e x m = every_at (λ v. is_member v ws) vs e x m

pub subset_all : (vs ws : Items) → ((x : Value) → is_member x vs ≡ true → is_member x ws ≡ true) → is_subset vs ws ≡ true
subset_all vs ws f = every_all (λ v. is_member v ws) vs f

-- Two sets that are subsets of each other are equal.
pub subset_equal : (vs ws : Items) → Ascending vs → Ascending ws → is_subset vs ws ≡ true → is_subset ws vs ≡ true → vs ≡ ws
subset_equal vs ws a b e f = same_members vs ws a b (λ x. both_ways (is_member x vs) (is_member x ws) (subset_at vs ws e x) (subset_at ws vs f x))

-- Some member is not in the other set.
pub record Extra (vs ws : Items) : Type 0 where
  pub member : Value
  pub is_in : is_member member ws ≡ true
  pub not_in : is_member member vs ≡ false

extra : (vs ws : Items) → not (is_empty (subtract ws vs)) ≡ true → Extra vs ws
extra vs ws e = go (subtract ws vs) refl e
  where
    go : (us : Items) → subtract ws vs ≡ us → not (is_empty us) ≡ true → Extra vs ws
    go none d e = never e
    go (more u us) d e =
        let m : is_member u (subtract ws vs) ≡ true = ap (is_member u) d ∙ member_here u us in
        let h = (and-eq-true_iff (is_member u ws) (not (is_member u vs))).0 (sym (member_without u ws vs) ∙ m) in
        record { member = u; is_in = h.0; not_in = not-true (is_member u vs) h.1 }

not_empty : (vs ws : Items) → Extra vs ws → not (is_empty (subtract ws vs)) ≡ true
not_empty vs ws h = go (subtract ws vs) (member_without h.member ws vs ∙ and_intro h.is_in (ap not h.not_in))
  where
    go : (us : Items) → is_member h.member us ≡ true → not (is_empty us) ≡ true
    go none m = never (sym (member_none h.member) ∙ m)
    go (more u us) m = refl

-- THEOREM: s1 psubset s2 where s1 is a subset and s2 has an element that is not in s1
psubset_parts : (vs ws : Items) → is_subset vs ws && not (is_empty (subtract ws vs)) ≡ true → (is_subset vs ws ≡ true) × Extra vs ws
psubset_parts vs ws e = let h = (and-eq-true_iff (is_subset vs ws) (not (is_empty (subtract ws vs)))).0 e in (h.0, extra vs ws h.1)

psubset_both : (vs ws : Items) → is_subset vs ws ≡ true → Extra vs ws → is_subset vs ws && not (is_empty (subtract ws vs)) ≡ true
psubset_both vs ws e h = and_intro e (not_empty vs ws h)

-- ---- dunion, dinter

-- THEOREM: dunion ss contains all the elements of all the sets of ss
member_unite_all : (x : Value) (vs : Items) → is_member x (unite_all vs) ≡ any_item (λ s. is_member x (items_in s)) vs
unfolding is_member
member_unite_all x vs = member_insert_all x none (flatten vs) ∙ member_flatten x vs

in_unite_all : (x : Value) (vs : Items) → is_member x (unite_all vs) ≡ true → Some (λ s. is_member x (items_in s)) vs
in_unite_all x vs e = any_some (λ s. is_member x (items_in s)) vs (sym (member_unite_all x vs) ∙ e)

unite_all_in : (x s : Value) (vs : Items) → is_member s vs ≡ true → is_member x (items_in s) ≡ true → is_member x (unite_all vs) ≡ true
unite_all_in x s vs m e = member_unite_all x vs ∙ some_any (λ s. is_member x (items_in s)) vs s m e

-- THEOREM: dinter ss contains the elements that are in all the sets of ss
member_intersect_all : (x v : Value) (vs : Items) → is_member x (intersect_all v vs) ≡ every_item (λ s. is_member x (items_in s)) (more v vs)
unfolding every_item
member_intersect_all x v vs = member_keep (λ x. every_item (λ s. is_member x (items_in s)) vs) x (items_in v)

-- ---- numbers and sizes

keep_same : (p q : Value → Bool) (vs : Items) → ((x : Value) → is_member x vs ≡ true → p x ≡ q x) → keep_items p vs ≡ keep_items q vs
unfolding keep_items
keep_same p q none f = refl
keep_same p q (more v vs) f =
    ap (λ (b : Bool). cond b (more v (keep_items p vs)) (keep_items p vs)) (f v (member_here v vs))
    ∙ ap (λ (us : Items). cond (q v) (more v us) us) (keep_same p q vs (λ x m. f x (member_there x v vs m)))

-- THEOREM: card (s1 \ s2) + card (s1 inter s2) = card s1
card_parts : (vs ws : Items) → count (subtract vs ws) + count (intersect vs ws) ≡ count vs
unfolding keep_items count
card_parts none ws = refl
card_parts (more v vs) ws = let h = card_parts vs ws in by_test (is_member v ws) (λ e. rw e (omega arith)) (λ e. rw e (omega arith))

-- A member put into a set does not change what another set has beside it, where that other set lacks the member.
without_insert : (w : Value) (vs ws : Items) → is_member w ws ≡ false → subtract ws (insert w vs) ≡ subtract ws vs
without_insert w vs ws n =
    keep_same (λ x. not (is_member x (insert w vs))) (λ x. not (is_member x vs)) ws
    (λ x m. ap not (member_insert x w vs ∙ by_test (same x w) (λ s. never (sym n ∙ sym (ap (λ (y : Value). is_member y ws) (same_true x w s)) ∙ m)) (λ s. cond-false (same x w) true (is_member x vs) s)))

-- THEOREM: s1 union s2 has the members of s1 and those of s2 \ s1, in number and in size
unite_counts : (vs ws : Items) → Ascending vs → Ascending ws
    → (count (unite vs ws) ≡ count vs + count (subtract ws vs)) × (sizes (unite vs ws) ≡ sizes vs + sizes (subtract ws vs))
unfolding Ascending insert_all keep_items count size
unite_counts vs none a b = (omega arith, omega arith)
unite_counts vs (more w ws) a b =
    let h = unite_counts (insert w vs) ws (ascending_insert w vs a) b.1 in
    let n : is_member w ws ≡ false = before_apart w ws b.0 in
    let c = ap count (without_insert w vs ws n) in
    let d = ap sizes (without_insert w vs ws n) in
    by_test (is_member w vs)
    (λ e.
    let i = ap count (insert_present w vs a e) in
    let j = ap sizes (insert_present w vs a e) in
    rw e (omega (arith, h.0), omega (arith, h.1)))
    (λ e.
    let i = count_insert w vs e in
    let j = sizes_insert w vs e in
    rw e (omega (arith, h.0), omega (arith, h.1)))
