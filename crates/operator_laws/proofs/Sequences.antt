-- Theorems on the operators on sequences: what stands at each index of each result.
use mathlib.Core.Path.{◌≡◌, refl, sym, ap, ◌∙◌}
use mathlib.Core.Bool.{◌&&◌, and-eq-true_iff}
use Prim.Native.Nat.{ℕ, zero, suc, ◌+◌, ◌<◌}
use native.Mathlib.Omega.{arith}
use borrow.Author.Tests.{leb-true, le-leb, lt-leb}
use lib.Dec.{leb}
use lib.IntN.{ℤ, pos, negsuc}
use lib.Signed.{le_z}
use mathlib.Mathlib.Data.Bool.Basic.{and_intro}
use Rattle.prelude.proofs.Truth.{both_ways}
use Rattle.values.specs.Value.{sequence, Value, integer, collection, Items, none, more, count}
use Rattle.values.specs.Items.{join, nth, is_member}
use Rattle.values.proofs.Joined.{join-none, join_join}
use Rattle.values.proofs.Entries.{is_there}
use Rattle.operators.specs.Gather.{insert_all, items_in, flatten, backwards, up_from}
use Rattle.operators.specs.Sequences.{item_at}
use Rattle.operator_laws.proofs.Gather.{member_insert_all, count_backwards}
use Rattle.operator_laws.proofs.Ranges.{le_up, up_le, member_up, up_member}

-- ---- elems, inds, l(i)

-- THEOREM: elems l contains all the elements of l
member_elements : (x : Value) (vs : Items) → is_member x (insert_all none vs) ≡ is_member x vs
unfolding is_member
member_elements x vs = member_insert_all x none vs

-- THEOREM: inds l is {1, ..., len l}
member_indexes : (i : ℤ) (n : ℕ) → is_member (integer i) (up_from (pos 1) n) ≡ le_z (pos 1) i && le_z i (pos n)
member_indexes i n =
    both_ways (is_member (integer i) (up_from (pos 1) n)) (le_z (pos 1) i && le_z i (pos n))
    (λ m. let w = member_up (pos 1) i n m in let l = w.low in let h = w.high in and_intro (up_le (pos 1) i l) (up_le i (pos n) (omega arith)))
    (λ b.
    let p = (and-eq-true_iff (le_z (pos 1) i) (le_z i (pos n))).0 b in
    let l = le_up (pos 1) i p.0 in
    let h = le_up i (pos n) p.1 in
    up_member (pos 1) i n (record { low = l; high = omega arith }))

leb_suc : (a b : ℕ) → leb a b ≡ leb (suc a) (suc b)
leb_suc a b =
    both_ways (leb a b) (leb (suc a) (suc b)) (λ e. le-leb (suc a) (suc b) (omega (arith, leb-true a b e)))
    (λ e. le-leb a b (omega (arith, leb-true (suc a) (suc b) e)))

nth_there : (vs : Items) (k : ℕ) → is_there (nth vs k) ≡ leb (suc k) (count vs)
unfolding nth count
nth_there none k = sym (lt-leb (suc k) 0 (omega arith))
nth_there (more v vs) zero = sym (le-leb 1 (suc (count vs)) (omega arith))
nth_there (more v vs) (suc k) = nth_there vs k ∙ leb_suc (suc k) (count vs)

-- THEOREM: l(i) is there exactly where i is in the indexes of l
item_there : (vs : Items) (i : ℤ) → is_there (item_at vs i) ≡ is_member (integer i) (up_from (pos 1) (count vs))
item_there vs i = go i ∙ sym (member_indexes i (count vs))
  where
    go : (i : ℤ) → is_there (item_at vs i) ≡ le_z (pos 1) i && le_z i (pos (count vs))
    go (pos zero) = refl
    go (pos (suc k)) = rw (le-leb 1 (suc k) (omega arith)) (nth_there vs k)
    go (negsuc n) = refl

-- ---- ^, conc, reverse

-- THEOREM: l1 ^ l2 has the elements of l1 followed by those of l2
nth_left : (vs ws : Items) (k : ℕ) → k < count vs → nth (join vs ws) k ≡ nth vs k
unfolding nth join count
nth_left none ws k h = absurd (omega arith)
nth_left (more v vs) ws zero h = refl
nth_left (more v vs) ws (suc k) h = nth_left vs ws k (omega arith)

nth_right : (vs ws : Items) (k : ℕ) → nth (join vs ws) (count vs + k) ≡ nth ws k
unfolding nth join count
nth_right none ws k = ap (nth ws) (let e : 0 + k ≡ k = omega arith in e)
nth_right (more v vs) ws k = ap (nth (more v (join vs ws))) (let e : suc (count vs) + k ≡ suc (count vs + k) = omega arith in e) ∙ nth_right vs ws k

-- THEOREM: conc [l1, l2] = l1 ^ l2, and so on
conc_first : (vs ws : Items) → flatten (more (collection sequence vs) ws) ≡ join vs (flatten ws)
unfolding flatten
conc_first vs ws = refl

conc_join : (vs ws : Items) → flatten (join vs ws) ≡ join (flatten vs) (flatten ws)
unfolding flatten join
conc_join none ws = refl
conc_join (more v vs) ws = ap (join (items_in v)) (conc_join vs ws) ∙ sym (join_join (items_in v) (flatten vs) (flatten ws))

-- THEOREM: reverse l has the elements of l in reverse order
nth_backwards : (vs : Items) (j k : ℕ) → suc (j + k) ≡ count vs → nth (backwards vs) k ≡ nth vs j
unfolding nth backwards count
nth_backwards none j k e = absurd (omega arith)
nth_backwards (more v vs) zero k e =
    let c = count_backwards vs in
    let d : k ≡ count (backwards vs) + 0 = omega arith in
    ap (nth (join (backwards vs) (more v none))) d ∙ nth_right (backwards vs) (more v none) 0
nth_backwards (more v vs) (suc j) k e =
    let c = count_backwards vs in
    nth_left (backwards vs) (more v none) k (omega arith) ∙ nth_backwards vs j k (omega arith)

backwards_join : (vs ws : Items) → backwards (join vs ws) ≡ join (backwards ws) (backwards vs)
unfolding backwards join
backwards_join none ws = sym (join-none (backwards ws))
backwards_join (more v vs) ws = ap (λ (us : Items). join us (more v none)) (backwards_join vs ws) ∙ join_join (backwards ws) (backwards vs) (more v none)

backwards_twice : (vs : Items) → backwards (backwards vs) ≡ vs
unfolding backwards join
backwards_twice none = refl
backwards_twice (more v vs) = backwards_join (backwards vs) (more v none) ∙ ap (more v) (backwards_twice vs)
