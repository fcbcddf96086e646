-- Every refusal of an operator has a number from 20 to 30, other than 24.
use Rattle.std.specs.Prelude.{◌≡◌, refl, ◌⊎◌, Bool, true, false, cond, List, [], ◌∷◌, ℕ, zero, suc, ◌+◌, ◌≤◌, leb, ℤ, pos, negsuc, Ok, Err, get_or}
use Rattle.std.proofs.Math.Option.{Option, none as absent, some}
use Rattle.std.proofs.Common.{sym, subst, inl, inr, arith}
use Rattle.prelude.specs.declared.Refusal.TheVariants.{OutOfRange, ByZero}
use Rattle.integers.specs.Whole.{Number, in_range, ranged, divided}
use Rattle.values.specs.Value.{Kind, set, sequence, map, tuple, Value, boolean, integer, quote, collection, Items, none, more, sizes, value_limit, count}
use Rattle.values.specs.Items.{same, lookup, join, snoc, insert, enter}
use Rattle.operators.specs.Answer.{Answer, is, refused, Built, built, stopped, needs, needs_both, found, fitting, closed, sized, as_boolean, as_integer, as_set, as_sequence, as_map}
use Rattle.operators.specs.Booleans.{Connective, Left, settles, leaves, and, or, implies, of_left, left, right}
use Rattle.operators.specs.Arithmetic.{answered}
use Rattle.operators.specs.Gather.{every_item, is_kind, flatten, up_from, enter_all}
use Rattle.operators.specs.Sets.{range_of, consecutive, how_many, unite, unite_all, intersection_of}
use Rattle.operators.specs.Sequences.{first_item, tail_of, item_at}
use Rattle.operators.specs.Maps.{apply_to, compatible}
use Rattle.operators.specs.Enumerations.{add_member, add_item, add_entry, entry_added, build_on, add_members, add_items, add_entries, add_entries_at, set_of, sequence_of, map_of, tuple_of}
use Rattle.operators.specs.Operators.{unary, binary, unaries, binaries, no_unary, no_binary}
use Rattle.meaning.proofs.Laws.Proper.{◌&◌}

abbrev pub Ranged : ℕ → Type 0
Ranged n = (20 ≤ n) × (n ≤ 30)

-- Such a number other than 24, by which a let-be alone refuses.
abbrev pub Other : ℕ → Type 0
Other n = (20 ≤ n) × (n ≤ 30) × (n ≡ 24 → ⊥)

abbrev pub Answered : Answer → Type 0
Answered (is v) = Unit {0}
Answered (refused n) = Other n

abbrev pub BuiltSo : Built → Type 0
BuiltSo (built vs) = Unit {0}
BuiltSo (stopped n) = Other n

-- ---- the building blocks

if_needed : {A : Type 0} (x : Option A) (f : A → Answer) → ((a : A) → Answered (f a)) → Answered (needs x f)
if_needed absent f h = (omega arith, omega arith, λ e. omega arith)
if_needed (some a) f h = h a

if_both : {A B : Type 0} (x : Option A) (y : Option B) (f : A → B → Answer) → ((a : A) (b : B) → Answered (f a b)) → Answered (needs_both x y f)
if_both x y f h = if_needed x (λ a. needs y (λ b. f a b)) (λ a. if_needed y (λ b. f a b) (λ b. h a b))

if_picked : (b : Bool) (x y : Answer) → Answered x → Answered y → Answered (cond b x y)
if_picked true x y h k = h
if_picked false x y h k = k

if-found : (x : Option Value) → Answered (found x)
if-found absent = (omega arith, omega arith, λ e. omega arith)
if-found (some v) = tt

pick_built : (b : Bool) (vs : Items) (n : ℕ) → Other n → BuiltSo (cond b (built vs) (stopped n))
pick_built true vs n h = tt
pick_built false vs n h = h

pub if_fitting : (vs : Items) → BuiltSo (fitting vs)
if_fitting vs = pick_built (leb (4 + sizes vs) value_limit) vs 28 (omega arith, omega arith, λ e. omega arith)

if_closed : (k : Kind) (b : Built) → BuiltSo b → Answered (closed k b)
if_closed k (built vs) h = tt
if_closed k (stopped n) h = h

if_sized : (k : Kind) (vs : Items) → Answered (sized k vs)
if_sized k vs = if_closed k (fitting vs) (if_fitting vs)

-- What an operation on integers answers: an integer, or a refusal for the range or for a divisor of 0.
abbrev pub OfIntegers : Number → Type 0
OfIntegers n = ((z : ℤ) × (n ≡ Ok z)) ⊎ ((n ≡ Err OutOfRange) ⊎ (n ≡ Err ByZero))

pub if_number : (n : Number) → OfIntegers n → Answered (answered n)
if_number n (inl (z, e)) = subst (λ (m : Number). Answered (answered m)) (sym e) tt
if_number n (inr (inl e)) = subst (λ (m : Number). Answered (answered m)) (sym e) (omega arith, omega arith, λ e. omega arith)
if_number n (inr (inr e)) = subst (λ (m : Number). Answered (answered m)) (sym e) (omega arith, omega arith, λ e. omega arith)

pick_of_integers : (b : Bool) (z : ℤ) → OfIntegers (cond b (Ok z) (Err OutOfRange))
pick_of_integers true z = inl (z, refl)
pick_of_integers false z = inr (inl refl)

pick_number : (b : Bool) (z : ℤ) → Answered (answered (cond b (Ok z) (Err OutOfRange)))
pick_number b z = if_number (cond b (Ok z) (Err OutOfRange)) (pick_of_integers b z)

if_ranged : (z : ℤ) → Answered (answered (ranged z))
unfolding ranged
if_ranged z = pick_number (in_range z) z

if_divided : (d z : ℤ) → Answered (answered (divided d z))
if_divided (pos zero) z = if_number (Err ByZero) (inr (inr refl))
if_divided (pos (suc n)) z = if_ranged z
if_divided (negsuc n) z = if_ranged z

if_counting : (z : ℤ) (n : ℕ) → Answered (consecutive z n)
if_counting z n = if_sized set (up_from z n)

-- ---- operators by number

-- Each of a list of operators refuses with such a number.
abbrev All : List (Value → Answer) → Type 0
All [] = Unit {0}
All (f ∷ fs) = ((v : Value) → Answered (f v)) × All fs

abbrev All₂ : List (Value → Value → Answer) → Type 0
All₂ [] = Unit {0}
All₂ (f ∷ fs) = ((v w : Value) → Answered (f v w)) × All₂ fs

all-at : (fs : List (Value → Answer)) (n : ℕ) (v : Value) → All fs → Answered (get_or fs n no_unary v)
all-at [] n v h = (omega arith, omega arith, λ e. omega arith)
all-at (f ∷ fs) zero v h = h.0 v
all-at (f ∷ fs) (suc n) v h = all-at fs n v h.1

all_at₂ : (fs : List (Value → Value → Answer)) (n : ℕ) (v w : Value) → All₂ fs → Answered (get_or fs n no_binary v w)
all_at₂ [] n v w h = (omega arith, omega arith, λ e. omega arith)
all_at₂ (f ∷ fs) zero v w h = h.0 v w
all_at₂ (f ∷ fs) (suc n) v w h = all_at₂ fs n v w h.1

absent_number : Other 26
absent_number = (omega arith, omega arith, λ e. omega arith)

kind_number : Other 20
kind_number = (omega arith, omega arith, λ e. omega arith)

if_intersected : (vs : Items) → Answered (intersection_of vs)
if_intersected none = absent_number
if_intersected (more v vs) = tt

if_head : (vs : Items) → Answered (first_item vs)
if_head none = absent_number
if_head (more v vs) = tt

if-tail : (vs : Items) → Answered (tail_of vs)
if-tail none = absent_number
if-tail (more v vs) = tt

pub unary_operator_is : (n : ℕ) (v : Value) → Answered (unary n v)
unfolding unary
unary_operator_is n v = all-at unaries n v (
    (λ v. kind_number) &
    (λ v. if_needed (as_boolean v) _ (λ b. tt)) &
    (λ v. if_needed (as_integer v) _ (λ a. if_ranged _)) &
    (λ v. if_needed (as_integer v) _ (λ a. if_ranged _)) &
    (λ v. if_needed (as_set v) _ (λ vs. tt)) &
    (λ v. if_needed (as_set v) _ (λ vs. if_picked (every_item (is_kind set) vs) (sized set (unite_all vs)) (refused 20) (if_sized set (unite_all vs)) kind_number)) &
    (λ v. if_needed (as_set v) _ (λ vs. if_picked (every_item (is_kind set) vs) (intersection_of vs) (refused 20) (if_intersected vs) kind_number)) &
    (λ v. if_needed (as_sequence v) _ (λ vs. tt)) &
    (λ v. if_needed (as_sequence v) _ (λ vs. if_head vs)) &
    (λ v. if_needed (as_sequence v) _ (λ vs. if-tail vs)) &
    (λ v. if_needed (as_sequence v) _ (λ vs. tt)) &
    (λ v. if_needed (as_sequence v) _ (λ vs. if_counting (pos 1) (count vs))) &
    (λ v. if_needed (as_sequence v) _ (λ vs. if_picked (every_item (is_kind sequence) vs) (sized sequence (flatten vs)) (refused 20) (if_sized sequence (flatten vs)) kind_number)) &
    (λ v. if_needed (as_sequence v) _ (λ vs. tt)) &
    (λ v. if_needed (as_map v) _ (λ vs. tt)) &
    (λ v. if_needed (as_map v) _ (λ vs. tt)) &
    tt
    )

pub binary_operator_is : (n : ℕ) (v w : Value) → Answered (binary n v w)
unfolding binary
binary_operator_is n v w = all_at₂ binaries n v w (
    (λ v w. kind_number) & (λ v w. kind_number) & (λ v w. kind_number) & (λ v w. kind_number) &
    (λ v w. if_both (as_boolean v) (as_boolean w) _ (λ a b. tt)) &
    (λ v w. tt) &
    (λ v w. tt) &
    (λ v w. if_both (as_integer v) (as_integer w) _ (λ a b. if_ranged _)) &
    (λ v w. if_both (as_integer v) (as_integer w) _ (λ a b. if_ranged _)) &
    (λ v w. if_both (as_integer v) (as_integer w) _ (λ a b. if_ranged _)) &
    (λ v w. if_both (as_integer v) (as_integer w) _ (λ a b. if_divided b _)) &
    (λ v w. if_both (as_integer v) (as_integer w) _ (λ a b. if_divided b _)) &
    (λ v w. if_both (as_integer v) (as_integer w) _ (λ a b. if_divided b _)) &
    (λ v w. if_both (as_integer v) (as_integer w) _ (λ a b. tt)) &
    (λ v w. if_both (as_integer v) (as_integer w) _ (λ a b. tt)) &
    (λ v w. if_both (as_integer v) (as_integer w) _ (λ a b. tt)) &
    (λ v w. if_both (as_integer v) (as_integer w) _ (λ a b. tt)) &
    (λ v w. if_needed (as_set w) _ (λ ws. tt)) &
    (λ v w. if_needed (as_set w) _ (λ ws. tt)) &
    (λ v w. if_both (as_set v) (as_set w) _ (λ vs ws. if_sized set (unite vs ws))) &
    (λ v w. if_both (as_set v) (as_set w) _ (λ vs ws. tt)) &
    (λ v w. if_both (as_set v) (as_set w) _ (λ vs ws. tt)) &
    (λ v w. if_both (as_set v) (as_set w) _ (λ vs ws. tt)) &
    (λ v w. if_both (as_set v) (as_set w) _ (λ vs ws. tt)) &
    (λ v w. if_both (as_sequence v) (as_sequence w) _ (λ vs ws. if_sized sequence (join vs ws))) &
    (λ v w. if_both (as_map v) (as_map w) _ (λ vs ws. if_picked (compatible vs ws) (sized map (enter_all vs ws)) (refused 27) (if_sized map (enter_all vs ws)) (omega arith, omega arith, λ e. omega arith))) &
    (λ v w. if_both (as_map v) (as_map w) _ (λ vs ws. if_sized map (enter_all vs ws))) &
    (λ v w. if_both (as_set v) (as_map w) _ (λ vs ws. tt)) &
    (λ v w. if_both (as_map v) (as_set w) _ (λ vs ws. tt)) &
    tt
    )

-- ---- the others

pub range_number : (v w : Value) → Answered (range_of v w)
range_number v w = if_both (as_integer v) (as_integer w) _ (λ a b. if_counting a (how_many a b))

pub right_number : (w : Value) → Answered (right w)
right_number w = if_needed (as_boolean w) _ (λ b. tt)

abbrev pub LeftSo : Left → Type 0
LeftSo (settles a) = Answered a
LeftSo leaves = Unit {0}

pub left_number : (c : Connective) (v : Value) → LeftSo (left c v)
left_number c v = go c (as_boolean v)
  where
    go : (c : Connective) (x : Option Bool) → LeftSo (of_left c x)
    go c absent = kind_number
    go and (some false) = tt
    go and (some true) = tt
    go or (some false) = tt
    go or (some true) = tt
    go implies (some false) = tt
    go implies (some true) = tt

pub apply_number : (v w : Value) → Answered (apply_to v w)
apply_number (boolean b) w = kind_number
apply_number (integer z) w = kind_number
apply_number (quote n) w = kind_number
apply_number (collection set vs) w = kind_number
apply_number (collection sequence vs) w = if_needed (as_integer w) _ (λ i. if-found (item_at vs i))
apply_number (collection map vs) w = if-found (lookup w vs)
apply_number (collection tuple vs) w = kind_number

if_entered : (x : Option Value) (vs : Items) (k v : Value) → BuiltSo (entry_added x vs k v)
if_entered absent vs k v = if_fitting (enter k v vs)
if_entered (some w) vs k v = pick_built (same v w) vs 27 (omega arith, omega arith, λ e. omega arith)

pub entry_number : (vs : Items) (k v : Value) → BuiltSo (add_entry vs k v)
entry_number vs k v = if_entered (lookup k vs) vs k v

pub member_number : (vs : Items) (v : Value) → BuiltSo (add_member vs v)
member_number vs v = if_fitting (insert v vs)

pub item_number : (vs : Items) (v : Value) → BuiltSo (add_item vs v)
item_number vs v = if_fitting (snoc vs v)

if_onward : (b : Built) (f : Items → Built) → BuiltSo b → ((vs : Items) → BuiltSo (f vs)) → BuiltSo (build_on b f)
if_onward (built vs) f h k = k vs
if_onward (stopped n) f h k = h

members_number : (vs ws : Items) → BuiltSo (add_members vs ws)
unfolding add_members
members_number vs none = tt
members_number vs (more w ws) = if_onward (add_member vs w) (λ us. add_members us ws) (member_number vs w) (λ us. members_number us ws)

items_number : (vs ws : Items) → BuiltSo (add_items vs ws)
unfolding add_items
items_number vs none = tt
items_number vs (more w ws) = if_onward (add_item vs w) (λ us. add_items us ws) (item_number vs w) (λ us. items_number us ws)

mutual
  unfolding add_entries

  entries_number : (vs ws : Items) → BuiltSo (add_entries vs ws)
  entries_number vs none = tt
  entries_number vs (more k ws) = entries_number_at vs k ws

  entries_number_at : (vs : Items) (k : Value) (ws : Items) → BuiltSo (add_entries_at vs k ws)
  entries_number_at vs k none = tt
  entries_number_at vs k (more v ws) = if_onward (add_entry vs k v) (λ us. add_entries us ws) (entry_number vs k v) (λ us. entries_number us ws)

pub set_number : (vs : Items) → Answered (set_of vs)
set_number vs = if_closed set (add_members none vs) (members_number none vs)

pub sequence_number : (vs : Items) → Answered (sequence_of vs)
sequence_number vs = if_closed sequence (add_items none vs) (items_number none vs)

pub map_number : (vs : Items) → Answered (map_of vs)
map_number vs = if_closed map (add_entries none vs) (entries_number none vs)

pub tuple_number : (vs : Items) → Answered (tuple_of vs)
tuple_number vs = if_closed tuple (add_items none vs) (items_number none vs)
