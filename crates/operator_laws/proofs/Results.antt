-- THEOREM: every value that an operator answers is well-formed, where its operands are; every refusal is from 20 to 28.
use mathlib.Core.Path.{◌≡◌, refl, sym, ap, subst, ◌∙◌}
use mathlib.Core.Bool.{Bool, true, false, not, and-eq-true_iff, cond}
use mathlib.Core.List.{List, [], ◌∷◌}
use mathlib.Core.Option.{Option, none as absent, some}
use Prim.Native.Nat.{ℕ, zero, suc, ◌+◌, ◌*◌, ◌≤◌}
use native.Mathlib.Omega.{arith}
use borrow.Author.Tests.{leb-true, eqb-true}
use lib.Dec.{leb, eqb}
use lib.IntN.{ℤ, pos, negsuc, neg_ℤ, nat_abs, ◌+ℤ◌, ◌-ℤ◌, ◌*ℤ◌}
use lib.ListN.{get_or}
use Rattle.prelude.proofs.Absurd.{impossible}
use Rattle.prelude.proofs.Truth.{cond-true, cond-false, by_test}
use Rattle.integers.specs.Whole as Whole
use Rattle.integers.specs.Whole.{Number, greatest_integer, in_range, InRange, ranged, divided, div_ℤ, rem_ℤ, mod_ℤ}
use Rattle.values.specs.Value.{Kind, set, sequence, map, tuple, number, Value, boolean, integer, quote, collection, Items, none, more, count, keys, mapped, size, sizes, value_limit, Ascending, Paired, Shaped, Sound, SoundItems, WellFormed}
use Rattle.values.specs.Items.{same, join, nth, lookup}
use Rattle.values.proofs.Order.{number_inj}
use Rattle.values.proofs.Encoding.{count_sizes, join_sound}
use Rattle.values.proofs.Entries.{by_entries}
use Rattle.operators.specs.Answer.{Answer, is, refused, wrong_kind, clash, as_boolean, as_integer, as_kind, needs, needs_both, found, sized, FineAnswer}
use Rattle.operators.specs.Booleans.{truth, negation, biimplication, Connective, and, or, implies, Left, settles, leaves, settled_by, left, right}
use Rattle.operators.specs.Arithmetic.{answered, on_integer, on_integers, compared}
use Rattle.operators.specs.Gather.{every_item, keep_items, insert_all, items_in, is_kind, flatten, backwards, up_from, keep_entries, enter_all}
use Rattle.operators.specs.Sets.{unite_all, intersection_of, how_many, consecutive, range_of}
use Rattle.operators.specs.Sequences.{first_item, tail_of, item_at}
use Rattle.operators.specs.Maps.{compatible, apply_items, apply_to}
use Rattle.operators.specs.Operators.{no_unary, unaries, unary, no_binary, binaries, binary}
use Rattle.operator_laws.proofs.Gather.{ascending_keep, sound_keep, sizes_keep, ascending_insert_all, sound_insert_all, sizes_insert_all, sound_flatten, sizes_backwards, sound_backwards}
use Rattle.operator_laws.proofs.Ranges.{up_le, sound_up, sound_range, ascending_up, sizes_up, counting_is}
use Rattle.operator_laws.proofs.Entries.{sound_every_other, sizes_every_other, paired_keep, ascending_keys, sound_keep_entries, sizes_keep_entries, paired_enter_all, ascending_enter_all, sound_enter_all}

-- ---- well-formed collections

-- What makes a collection well-formed.
pub record Good (k : Kind) (vs : Items) : Type 0 where
  pub shaped : Shaped k vs
  pub sound : SoundItems vs
  pub short : 4 + sizes vs ≤ value_limit

pub good : {k : Kind} {vs : Items} → WellFormed (collection k vs) → Good k vs
unfolding Sound size
good h = record { shaped = h.sound.0; sound = h.sound.1; short = h.short }

pub well_formed : {k : Kind} {vs : Items} → Good k vs → WellFormed (collection k vs)
unfolding Sound size
well_formed g = record { sound = (g.shaped, g.sound); short = g.short }

-- ---- fine answers

truth_fine : (b : Bool) → FineAnswer (truth b)
unfolding Sound size
truth_fine b = record { sound = tt; short = omega arith }

integer_fine : (z : ℤ) → InRange z → FineAnswer (is (integer z))
unfolding Sound size
integer_fine z h = record { sound = h; short = omega arith }

-- The number of items of a well-formed value.
count_fine : {k : Kind} {vs : Items} → Good k vs → FineAnswer (is (integer (pos (count vs))))
count_fine {k} {vs} g = let s = g.short in integer_fine (pos (count vs)) (up_le (pos (count vs)) greatest_integer (omega (arith, count_sizes vs)))

pub sized_fine : (k : Kind) (vs : Items) → Shaped k vs → SoundItems vs → FineAnswer (sized k vs)
sized_fine k vs p s =
    by_test (leb (4 + sizes vs) value_limit) (λ e. rw e (well_formed (record { shaped = p; sound = s; short = leb-true (4 + sizes vs) value_limit e }))) (λ e. rw e (omega arith))

found_fine : (o : Option Value) → ((v : Value) → o ≡ some v → Sound v × (size v ≤ value_limit)) → FineAnswer (found o)
found_fine absent f = omega arith
found_fine (some v) f = let h = f v refl in record { sound = h.0; short = h.1 }

-- An answer that is given where a test passes, and else a refusal.
unless_fine : (b : Bool) (x : Answer) (n : ℕ) → (20 ≤ n) × (n ≤ 28) → (b ≡ true → FineAnswer x) → FineAnswer (cond b x (refused n))
unless_fine true x n l f = f refl
unless_fine false x n l f = l

-- ---- kinds

kind_fine : (k : Kind) (f : Items → Answer) → ((vs : Items) → Good k vs → FineAnswer (f vs)) → (v : Value) → WellFormed v → FineAnswer (needs (as_kind k v) f)
kind_fine k f h (boolean b) w = omega arith
kind_fine k f h (integer z) w = omega arith
kind_fine k f h (quote n) w = omega arith
kind_fine k f h (collection l vs) w =
    by_test (eqb (number k) (number l))
    (λ e. rw e (h vs (subst (λ (j : Kind). Good j vs) (sym (number_inj k l (eqb-true (number k) (number l) e))) (good w))))
    (λ e. rw e (omega arith))

kinds_fine : (k l : Kind) (f : Items → Items → Answer) → ((vs ws : Items) → Good k vs → Good l ws → FineAnswer (f vs ws))
    → (v w : Value) → WellFormed v → WellFormed w → FineAnswer (needs_both (as_kind k v) (as_kind l w) f)
kinds_fine k l f h v w p q =
    kind_fine k (λ vs. needs (as_kind l w) (λ ws. f vs ws)) (λ vs g. kind_fine l (λ ws. f vs ws) (λ ws g'. h vs ws g g') w q) v p

boolean_fine : (f : Bool → Answer) → ((b : Bool) → FineAnswer (f b)) → (v : Value) → FineAnswer (needs (as_boolean v) f)
boolean_fine f h (boolean b) = h b
boolean_fine f h (integer z) = omega arith
boolean_fine f h (quote n) = omega arith
boolean_fine f h (collection k vs) = omega arith

whole_fine : (f : ℤ → Answer) → ((z : ℤ) → InRange z → FineAnswer (f z)) → (v : Value) → WellFormed v → FineAnswer (needs (as_integer v) f)
unfolding Sound
whole_fine f h (boolean b) w = omega arith
whole_fine f h (integer z) w = h z w.sound
whole_fine f h (quote n) w = omega arith
whole_fine f h (collection k vs) w = omega arith

wholes_fine : (f : ℤ → ℤ → Answer) → ((a b : ℤ) → InRange a → InRange b → FineAnswer (f a b)) → (v w : Value) → WellFormed v → WellFormed w → FineAnswer (needs_both (as_integer v) (as_integer w) f)
wholes_fine f h v w p q = whole_fine (λ a. needs (as_integer w) (λ b. f a b)) (λ a r. whole_fine (λ b. f a b) (λ b t. h a b r t) w q) v p

-- ---- booleans and integers

negation_fine : (v : Value) → WellFormed v → FineAnswer (negation v)
negation_fine v w = boolean_fine (λ b. truth (not b)) (λ b. truth_fine (not b)) v

biimplication_fine : (v w : Value) → WellFormed v → WellFormed w → FineAnswer (biimplication v w)
biimplication_fine v w p q = boolean_fine _ (λ a. boolean_fine _ (λ b. truth_fine _) w) v

answer_fine : (z : ℤ) → FineAnswer (answered (ranged z))
unfolding ranged
answer_fine z = by_test (in_range z) (λ e. rw e (integer_fine z e)) (λ e. rw e (omega arith))

divided_fine : (right z : ℤ) → FineAnswer (answered (divided right z))
divided_fine (pos zero) z = omega arith
divided_fine (pos (suc n)) z = answer_fine z
divided_fine (negsuc n) z = answer_fine z

on_integer_fine : (f : ℤ → Number) → ((a : ℤ) → FineAnswer (answered (f a))) → (v : Value) → WellFormed v → FineAnswer (on_integer f v)
on_integer_fine f h v w = whole_fine (λ a. answered (f a)) (λ a r. h a) v w

on_integers_fine : (f : ℤ → ℤ → Number) → ((a b : ℤ) → FineAnswer (answered (f a b))) → (v w : Value) → WellFormed v → WellFormed w → FineAnswer (on_integers f v w)
on_integers_fine f h v w p q = wholes_fine (λ a b. answered (f a b)) (λ a b r t. h a b) v w p q

compared_fine : (f : ℤ → ℤ → Bool) (v w : Value) → WellFormed v → WellFormed w → FineAnswer (compared f v w)
compared_fine f v w p q = wholes_fine (λ a b. truth (f a b)) (λ a b r t. truth_fine (f a b)) v w p q

-- ---- sets

-- A set of some members of another is no longer.
keep_fine : (p : Value → Bool) (vs : Items) → Good set vs → FineAnswer (is (collection set (keep_items p vs)))
keep_fine p vs g =
    let s = g.short in
    well_formed (record { shaped = ascending_keep p vs g.shaped; sound = sound_keep p vs g.sound; short = omega (arith, sizes_keep p vs) })

-- So is a set of some items, whatever their order.
insert_all_fine : (vs : Items) → SoundItems vs → 4 + sizes vs ≤ value_limit → FineAnswer (is (collection set (insert_all none vs)))
unfolding Ascending Sound size
insert_all_fine vs s h =
    well_formed (record { shaped = ascending_insert_all none vs tt; sound = sound_insert_all none vs tt s; short = omega (arith, sizes_insert_all none vs) })

unite_fine : (vs ws : Items) → Good set vs → Good set ws → FineAnswer (sized set (insert_all vs ws))
unite_fine vs ws g h = sized_fine set (insert_all vs ws) (ascending_insert_all vs ws g.shaped) (sound_insert_all vs ws g.sound h.sound)

unite_all_fine : (vs : Items) → Good set vs → FineAnswer (sized set (insert_all none (flatten vs)))
unfolding Ascending Sound
unite_all_fine vs g = sized_fine set (insert_all none (flatten vs)) (ascending_insert_all none (flatten vs) tt) (sound_insert_all none (flatten vs) tt (sound_flatten vs g.sound))

-- The items of a well-formed set whose members are sets.
first_good : (v : Value) → is_kind set v ≡ true → WellFormed v → Good set (items_in v)
first_good (boolean b) e w = impossible cc
first_good (integer i) e w = impossible cc
first_good (quote n) e w = impossible cc
first_good (collection l vs) e w = subst (λ (j : Kind). Good j vs) (sym (number_inj set l (eqb-true (number set) (number l) e))) (good w)

-- An item of a well-formed collection is well-formed.
item_fine : {k : Kind} (v : Value) (vs : Items) → Good k (more v vs) → WellFormed v
unfolding Sound size
item_fine v vs g = let h = g.short in record { sound = g.sound.0; short = omega arith }

intersection_of_fine : (vs : Items) → every_item (is_kind set) vs ≡ true → Good set vs → FineAnswer (intersection_of vs)
unfolding every_item
intersection_of_fine none e g = omega arith
intersection_of_fine (more v vs) e g =
    keep_fine _ (items_in v) (first_good v ((and-eq-true_iff (is_kind set v) (every_item (is_kind set) vs)).0 e).0 (item_fine v vs g))

counting_fine : (z : ℤ) (n : ℕ) → (8 * n + 4 ≤ value_limit → SoundItems (up_from z n)) → FineAnswer (consecutive z n)
counting_fine z n f =
    subst FineAnswer (sym (counting_is z n))
    (by_test (leb (4 + 8 * n) value_limit)
    (λ e.
    let h = leb-true (4 + 8 * n) value_limit e in
    rw e (well_formed (record { shaped = ascending_up z n; sound = f (omega arith); short = omega (arith, sizes_up z n) })))
    (λ e. rw e (omega arith)))

-- ---- sequences

head_of_fine : (vs : Items) → Good sequence vs → FineAnswer (first_item vs)
head_of_fine none g = omega arith
head_of_fine (more v vs) g = item_fine v vs g

tail_of_fine : (vs : Items) → Good sequence vs → FineAnswer (tail_of vs)
unfolding Sound size
tail_of_fine none g = omega arith
tail_of_fine (more v vs) g = let h = g.short in well_formed (record { shaped = tt; sound = g.sound.1; short = omega arith })

backwards_fine : (vs : Items) → Good sequence vs → FineAnswer (is (collection sequence (backwards vs)))
backwards_fine vs g = let h = g.short in well_formed (record { shaped = tt; sound = sound_backwards vs g.sound; short = omega (arith, sizes_backwards vs) })

one_in : InRange (pos 1)
one_in = refl

-- The indexes of a sequence are in range.
indexes_fine : (vs : Items) → Good sequence vs → FineAnswer (consecutive (pos 1) (count vs))
indexes_fine vs g =
    counting_fine (pos 1) (count vs)
    (λ h. sound_up (pos 1) greatest_integer one_in refl (pos 1) (count vs) (omega arith) (omega arith))

nth_fine : (vs : Items) (n : ℕ) → SoundItems vs → (v : Value) → nth vs n ≡ some v → Sound v × (size v ≤ sizes vs)
unfolding nth Sound size
nth_fine none n s v e = impossible cc
nth_fine (more w ws) zero s v e = let q : w ≡ v = cc in let d = ap size q in (subst Sound q s.0, omega arith)
nth_fine (more w ws) (suc n) s v e = let h = nth_fine ws n s.1 v e in (h.0, omega (arith, h.1))

item_at_fine : (vs : Items) (i : ℤ) → Good sequence vs → FineAnswer (found (item_at vs i))
item_at_fine vs (pos zero) g = omega arith
item_at_fine vs (pos (suc n)) g = let s = g.short in found_fine (nth vs n) (λ v e. let h = nth_fine vs n g.sound v e in (h.0, omega (arith, h.1)))
item_at_fine vs (negsuc n) g = omega arith

-- ---- maps

keys_fine : (vs : Items) → Good map vs → FineAnswer (is (collection set (keys vs)))
keys_fine vs g = let s = g.short in well_formed (record { shaped = g.shaped.1; sound = sound_every_other true vs g.sound; short = omega (arith, sizes_every_other true vs) })

mapped_fine : (vs : Items) → Good map vs → FineAnswer (is (collection set (insert_all none (mapped vs))))
mapped_fine vs g = let s = g.short in insert_all_fine (mapped vs) (sound_every_other false vs g.sound) (omega (arith, sizes_every_other false vs))

enter_all_fine : (vs ws : Items) → Good map vs → Good map ws → FineAnswer (sized map (enter_all vs ws))
enter_all_fine vs ws g h =
    let p = g.shaped.0 in
    let q = h.shaped.0 in
    sized_fine map (enter_all vs ws) (paired_enter_all vs ws p q, ascending_enter_all vs ws p q g.shaped.1) (sound_enter_all vs ws p q g.sound h.sound)

keep_entries_fine : (p : Value → Value → Bool) (vs : Items) → Good map vs → FineAnswer (is (collection map (keep_entries p vs)))
keep_entries_fine p vs g =
    let q = g.shaped.0 in
    let s = g.short in
    well_formed (record { shaped = (paired_keep p vs q, ascending_keys p vs q g.shaped.1); sound = sound_keep_entries p vs q g.sound; short = omega (arith, sizes_keep_entries p vs q) })

lookup_fine : (k : Value) (vs : Items) → Paired vs → SoundItems vs → (v : Value) → lookup k vs ≡ some v → Sound v × (size v ≤ sizes vs)
unfolding lookup Sound size
lookup_fine k vs p s v e =
    by_entries (λ (vs : Items). SoundItems vs → lookup k vs ≡ some v → Sound v × (size v ≤ sizes vs)) (λ s e. impossible cc)
    (λ l w vs p r s e.
    by_test (same k l)
    (λ t. let q : w ≡ v = cc (cond-true (same k l) (some w) (lookup k vs) t) in let d = ap size q in (subst Sound q s.1.0, omega arith))
    (λ t. let h = r s.1.1 (sym (cond-false (same k l) (some w) (lookup k vs) t) ∙ e) in (h.0, omega (arith, h.1))))
    vs p s e

-- ---- apply

apply_items_fine : (k : Kind) (vs : Items) (w : Value) → Good k vs → WellFormed w → FineAnswer (apply_items k vs w)
apply_items_fine set vs w g q = omega arith
apply_items_fine sequence vs w g q = whole_fine (λ i. found (item_at vs i)) (λ i r. item_at_fine vs i g) w q
apply_items_fine map vs w g q = let s = g.short in found_fine (lookup w vs) (λ v e. let h = lookup_fine w vs g.shaped.0 g.sound v e in (h.0, omega (arith, h.1)))
apply_items_fine tuple vs w g q = omega arith

-- THEOREM: applying a sequence or a map
pub apply_fine : (v w : Value) → WellFormed v → WellFormed w → FineAnswer (apply_to v w)
apply_fine (boolean b) w p q = omega arith
apply_fine (integer z) w p q = omega arith
apply_fine (quote n) w p q = omega arith
apply_fine (collection k vs) w p q = apply_items_fine k vs w (good p) q

-- THEOREM: a set range
pub range_fine : (v w : Value) → WellFormed v → WellFormed w → FineAnswer (range_of v w)
range_fine v w p q = wholes_fine (λ a b. consecutive a (how_many a b)) (λ a b r t. counting_fine a (how_many a b) (λ h. sound_range a b r t)) v w p q

-- THEOREM: what the left of and, or and => settles, and what the right gives
abbrev pub FineLeft : Left → Type 0
FineLeft (settles a) = FineAnswer a
FineLeft leaves = Unit {0}

settled_by_fine : (c : Connective) (b : Bool) → FineLeft (settled_by c b)
settled_by_fine and false = truth_fine false
settled_by_fine and true = tt
settled_by_fine or false = tt
settled_by_fine or true = truth_fine true
settled_by_fine implies false = truth_fine true
settled_by_fine implies true = tt

pub left_fine : (c : Connective) (v : Value) → FineLeft (left c v)
left_fine c (boolean b) = settled_by_fine c b
left_fine c (integer z) = omega arith
left_fine c (quote n) = omega arith
left_fine c (collection k vs) = omega arith

pub right_fine : (w : Value) → FineAnswer (right w)
right_fine w = boolean_fine (λ b. truth b) (λ b. truth_fine b) w

-- ---- by number

-- Every operator of a list is fine.
infixr 40 ◌▹◌
data Unaries : List (Value → Answer) → Type 0 where
  end : Unaries []
  ◌▹◌ : {f : Value → Answer} {fs : List (Value → Answer)} → ((v : Value) → WellFormed v → FineAnswer (f v)) → Unaries fs → Unaries (f ∷ fs)

infixr 40 ◌▸◌
data Binaries : List (Value → Value → Answer) → Type 0 where
  end₂ : Binaries []
  ◌▸◌ : {f : Value → Value → Answer} {fs : List (Value → Value → Answer)} → ((v w : Value) → WellFormed v → WellFormed w → FineAnswer (f v w)) → Binaries fs → Binaries (f ∷ fs)

no_unary_fine : (v : Value) → WellFormed v → FineAnswer (no_unary v)
no_unary_fine v w = omega arith

no_binary_fine : (v w : Value) → WellFormed v → WellFormed w → FineAnswer (no_binary v w)
no_binary_fine v w p q = omega arith

at_fine : {fs : List (Value → Answer)} → Unaries fs → (n : ℕ) (v : Value) → WellFormed v → FineAnswer (get_or fs n no_unary v)
at_fine end n v w = no_unary_fine v w
at_fine (f ▹ fs) zero v w = f v w
at_fine (f ▹ fs) (suc n) v w = at_fine fs n v w

at_fine₂ : {fs : List (Value → Value → Answer)} → Binaries fs → (n : ℕ) (v w : Value) → WellFormed v → WellFormed w → FineAnswer (get_or fs n no_binary v w)
at_fine₂ end₂ n v w p q = no_binary_fine v w p q
at_fine₂ (f ▸ fs) zero v w p q = f v w p q
at_fine₂ (f ▸ fs) (suc n) v w p q = at_fine₂ fs n v w p q

all_unaries : Unaries unaries
all_unaries =
    no_unary_fine
    ▹ negation_fine
    ▹ on_integer_fine (λ a. Whole.negation_of a) (λ a. answer_fine (neg_ℤ a))
    ▹ on_integer_fine (λ a. Whole.absolute_of a) (λ a. answer_fine (pos (nat_abs a)))
    ▹ kind_fine set _ (λ vs g. count_fine g)
    ▹ kind_fine set _ (λ vs g. unless_fine (every_item (is_kind set) vs) (sized set (unite_all vs)) wrong_kind (omega arith) (λ e. unite_all_fine vs g))
    ▹ kind_fine set _ (λ vs g. unless_fine (every_item (is_kind set) vs) (intersection_of vs) wrong_kind (omega arith) (λ e. intersection_of_fine vs e g))
    ▹ kind_fine sequence _ (λ vs g. count_fine g)
    ▹ kind_fine sequence _ head_of_fine
    ▹ kind_fine sequence _ tail_of_fine
    ▹ kind_fine sequence _ (λ vs g. insert_all_fine vs g.sound g.short)
    ▹ kind_fine sequence _ indexes_fine
    ▹ kind_fine sequence _ (λ vs g. unless_fine (every_item (is_kind sequence) vs) (sized sequence (flatten vs)) wrong_kind (omega arith) (λ e. sized_fine sequence (flatten vs) tt (sound_flatten vs g.sound)))
    ▹ kind_fine sequence _ backwards_fine
    ▹ kind_fine map _ keys_fine
    ▹ kind_fine map _ mapped_fine
    ▹ end

all_binaries : Binaries binaries
all_binaries =
    no_binary_fine ▸ no_binary_fine ▸ no_binary_fine ▸ no_binary_fine
    ▸ biimplication_fine
    ▸ (λ v w p q. truth_fine _)
    ▸ (λ v w p q. truth_fine _)
    ▸ on_integers_fine (λ a b. Whole.sum_of a b) (λ a b. answer_fine (a +ℤ b))
    ▸ on_integers_fine (λ a b. Whole.difference_of a b) (λ a b. answer_fine (a -ℤ b))
    ▸ on_integers_fine (λ a b. Whole.product_of a b) (λ a b. answer_fine (a *ℤ b))
    ▸ on_integers_fine (λ a b. Whole.quotient_of a b) (λ a b. divided_fine b (div_ℤ a b))
    ▸ on_integers_fine (λ a b. Whole.remainder_of a b) (λ a b. divided_fine b (rem_ℤ a b))
    ▸ on_integers_fine (λ a b. Whole.modulus_of a b) (λ a b. divided_fine b (mod_ℤ a b))
    ▸ compared_fine _ ▸ compared_fine _ ▸ compared_fine _ ▸ compared_fine _
    ▸ (λ v w p q. kind_fine set _ (λ ws g. truth_fine _) w q)
    ▸ (λ v w p q. kind_fine set _ (λ ws g. truth_fine _) w q)
    ▸ kinds_fine set set _ unite_fine
    ▸ kinds_fine set set _ (λ vs ws g h. keep_fine _ vs g)
    ▸ kinds_fine set set _ (λ vs ws g h. keep_fine _ vs g)
    ▸ kinds_fine set set _ (λ vs ws g h. truth_fine _)
    ▸ kinds_fine set set _ (λ vs ws g h. truth_fine _)
    ▸ kinds_fine sequence sequence _ (λ vs ws g h. sized_fine sequence (join vs ws) tt (join_sound vs ws g.sound h.sound))
    ▸ kinds_fine map map _ (λ vs ws g h. unless_fine (compatible vs ws) (sized map (enter_all vs ws)) clash (omega arith) (λ e. enter_all_fine vs ws g h))
    ▸ kinds_fine map map _ enter_all_fine
    ▸ kinds_fine set map _ (λ vs ws g h. keep_entries_fine _ ws h)
    ▸ kinds_fine map set _ (λ vs ws g h. keep_entries_fine _ vs g)
    ▸ end₂

-- THEOREM: a unary operator
pub unary_fine : (n : ℕ) (v : Value) → WellFormed v → FineAnswer (unary n v)
unfolding unary
unary_fine n v w = at_fine all_unaries n v w

-- THEOREM: a binary operator, 4 to 28
pub binary_fine : (n : ℕ) (v w : Value) → WellFormed v → WellFormed w → FineAnswer (binary n v w)
unfolding binary
binary_fine n v w p q = at_fine₂ all_binaries n v w p q
