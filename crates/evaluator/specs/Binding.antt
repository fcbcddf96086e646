-- What the functions for binders ask and promise: kinds 12 to 20. From the base of a binder on stand: its set, or the value of a let; at 512 the window
-- of its bindings; at 1,024 what a comprehension builds; at 1,536 what an operand gives under a binding; at 2,048 the value of a map comprehension, when
-- its key stands at 1,536.
use Rattle.std.specs.Prelude.{◌≡◌, Bool, true, false, cond, ◌⊎◌, List, [], ◌∷◌, ℕ, ◌+◌, ◌≤◌, ◌<◌, eqb, length, get_or, take, Ok, Err}
use Rattle.std.specs.declared.result.Result.{Result}
use Rattle.prelude.specs.declared.Refusal.{Refusal}
use Rattle.std.proofs.Math.Option.{some}
use Rattle.values.specs.Value.{Kind, Value, collection, Items}
use Rattle.values.specs.Place.{At}
use Rattle.choices.specs.Runs.{ways_reported}
use Rattle.choices.specs.State.{Choices}
use Rattle.choices.specs.Tree.{Tree, give, stop, bind}
use Rattle.operators.specs.Enumerations.{add_member, add_item}
use Rattle.tables.specs.Table.{kind_at}
use Rattle.tables.specs.Accepted.{records}
use Rattle.patterns.specs.Binding.{Binding, nothing}
use Rattle.patterns.specs.Pattern.{Pattern, list_of}
use Rattle.patterns.specs.Binder.{bound, formed}
use Rattle.patterns.specs.Read.{pattern_at}
use Rattle.calling.specs.Scratch.{Kept}
use Rattle.meaning.specs.State.{State, under, value_in}
use Rattle.meaning.specs.Meaning.{formed_at, members_at, integers_at, bindings_of, integer_bindings, holds, satisfying, add_one, add_pair, pattern_name}
use Rattle.lists.specs.Choosing.{due_for}
use Rattle.bindings.specs.declared.Cursor.{Cursor}
use Rattle.parts.specs.declared.words.Env.{Env}
use Rattle.evaluator.specs.declared.Refused.{Refused}
use Rattle.evaluator.specs.declared.Tally.{Tally}
use Rattle.bindings.specs.Window.{Values, Windowed, Reached, UnderBinding}
use Rattle.evaluator.specs.Building.{built_kind, enumeration_for}
use Rattle.evaluator.specs.Contract.{Ended, has_value, Ask, Evaluated, ended, Gives, meant, operand_at}

-- ---- answers, and where the bindings stand

-- What an evaluation in a binder came to, and where its bindings stand.
pub record Placed : Type 0 where
  pub outcome : Ended
  pub cursor : Cursor

abbrev pub placed : Ended → Cursor → Placed
placed o cursor = record { outcome = o; cursor = cursor }

-- Where there are no bindings.
abbrev pub nowhere : Cursor
nowhere = record { count = 0; names = 0; width = 0; from = 0 }

abbrev pub begun : Result Cursor Refused → Placed
begun (Ok cursor) = placed has_value cursor
begun (Err x) = placed (Err x) nowhere

-- What a condition came to under a binding.
pub record Held : Type 0 where
  pub outcome : Ended
  pub cursor : Cursor
  pub yes : Bool

abbrev pub held : Result Bool Refused → Cursor → Held
held (Ok t) cursor = record { outcome = has_value; cursor = cursor; yes = t }
held (Err x) cursor = record { outcome = Err x; cursor = cursor; yes = false }

-- How many bindings satisfy, and which of all is the wanted one of them.
pub record Counted : Type 0 where
  pub outcome : Ended
  pub cursor : Cursor
  pub count : ℕ
  pub at : ℕ

abbrev pub counted : Result Tally Refused → Counted
counted (Ok v) = record { outcome = has_value; cursor = v.cursor; count = v.count; at = v.at }
counted (Err x) = record { outcome = Err x; cursor = nowhere; count = 0; at = 0 }

-- ---- the bindings of a binder

abbrev pub Binder : ℕ → Type 0
Binder k = (12 ≤ k) × (k ≤ 20)

-- The quantifier that stops at the first such truth.
abbrev pub quantified : Bool → ℕ
quantified want = cond want 15 14

pub record Quantifies (k : ℕ) (b : Bool) : Type 0 where
  pub yes : b ≡ true → k ≡ quantified (eqb k 15)
  pub no : b ≡ false → (k ≡ 14 → ⊥) × (k ≡ 15 → ⊥)

-- The kinds that are left where those without a binder are taken out.
abbrev pub Remaining : ℕ → Type 0
Remaining k = (k ≡ 0) ⊎ ((12 ≤ k) × (k ≡ 21 → ⊥) × (k ≡ 22 → ⊥))

-- The kinds that test all bindings, and the kinds that ask for exactly one.
abbrev pub Surveyed : ℕ → Type 0
Surveyed k = (13 ≤ k) × (k ≤ 17)

abbrev pub Unique : ℕ → Type 0
Unique k = (16 ≤ k) × (k ≤ 17)

-- The pattern of a binder; a let binds to its whole value, the others to the members of a set.
abbrev pub pattern_for : List ℕ → ℕ → Pattern
pattern_for table r = pattern_at (records table) (operand_at table r 0)

abbrev pub wholly : ℕ → Bool
wholly k = eqb k 12

-- The bindings of the binder r, of kind k.
abbrev pub listed : List ℕ → ℕ → ℕ → State → Tree (List Binding)
listed table r k ρ =
    cond (eqb k 12) (bind (meant table (operand_at table r 1) ρ) (λ v. formed_at r (formed (pattern_for table r) (v ∷ []))))
    (cond (eqb k 19) (integer_bindings (meant table) r (pattern_for table r) (operand_at table r 1) ρ) (bindings_of (meant table) r (pattern_for table r) (operand_at table r 1) ρ))

-- The bindings bs of the binder r are those over what stands at base, and a window of them stands above it.
pub record Standing (table : List ℕ) (r : ℕ) (whole : Bool) (s : List ℕ) (base : ℕ) (cursor : Cursor) (bs : List Binding) : Type 0 where
  pub values : List Value
  pub are : Values (take (base + 512) s) base whole values
  pub formed_as : formed (pattern_for table r) values ≡ bound bs
  pub window : Windowed s (base + 512) cursor bs

-- ---- begin

-- The values that a binder of kind k binds to; 20 where it is no set, or for kind 19 no set of integers.
abbrev pub values_for : ℕ → ℕ → Value → Tree (List Value)
values_for k r v =
    cond (eqb k 12) (give (v ∷ [])) (bind (members_at r v) (λ vs. cond (eqb k 19) (bind (integers_at r vs) (λ ws. give (list_of ws))) (give (list_of vs))))

-- Does what stands at a place suit a binder of kind k?
pub data Suits (k : ℕ) (s : List ℕ) (at : ℕ) (b : Bool) : Type 0 where
  fit : b ≡ true → (vs : List Value) → Values s at (wholly k) vs → ((r : ℕ) (v : Value) → At s at v → values_for k r v ≡ give vs) → Suits k s at b
  unfit : b ≡ false → ((r : ℕ) (v : Value) → At s at v → values_for k r v ≡ stop 20 r) → Suits k s at b

abbrev pub Begins : List ℕ → ℕ → ℕ → List ℕ → List ℕ → ℕ → Env → Choices → Placed → Choices → Type 0
Begins table r k s t base env c b d = Gives (listed table r k) (Standing table r (wholly k) t base b.cursor) s t base env c (ended b.outcome d)

-- ---- under a binding

-- What is asked: the bindings stand there, and j is one of them.
pub record Stands (table : List ℕ) (r : ℕ) (whole : Bool) (s : List ℕ) (base : ℕ) (env : Env) (c : Choices) (cursor : Cursor) (j : ℕ) : Type 0 where
  pub asked : Ask table r s base env c
  pub binder : Binder (kind_at (records table) r)
  pub bindings : List Binding
  pub standing : Standing table r whole s base cursor bindings
  pub below : j < length bindings

-- The bindings give no name a value, and the window begins with the first.
pub record Nameless (cursor : Cursor) : Type 0 where
  pub names : cursor.names ≡ 0
  pub width : cursor.width ≡ 0
  pub from : cursor.from ≡ 0

-- What is asked and promised of binding the names of binding j: it is brought into the window, and the environment is the one under it.
pub record AsksNames (table : List ℕ) (r : ℕ) (whole : Bool) (s : List ℕ) (base : ℕ) (env : Env) (cursor : Cursor) (j : ℕ) : Type 0 where
  pub choices : Choices
  pub stands : Stands table r whole s base env choices cursor j

pub record BindsNames (table : List ℕ) (r : ℕ) (whole : Bool) (s t : List ℕ) (base : ℕ) (env : Env) (cursor : Cursor) (j : ℕ) (near : Cursor) (inner : Env) : Type 0 where
  pub reached : Reached table (operand_at table r 0) s t base whole (base + 512) cursor j near
  pub under : UnderBinding t (base + 512) near j env inner

-- What is promised of m: it is given, the binder's value stays, and its bindings stand there again.
pub record Turned {A : Type 0} (m : State → Tree A) (P : A → Type 0) (table : List ℕ) (r : ℕ) (whole : Bool) (bs : List Binding) (s t : List ℕ) (base : ℕ) (env : Env) (c : Choices) (e : Evaluated) (cursor : Cursor) : Type 0 where
  pub given : Gives m P s t base env c e
  pub low : Kept s t (base + 512)
  pub standing : Standing table r whole t base cursor bs

-- Values above the window and below a place stay.
abbrev pub Between : List ℕ → List ℕ → ℕ → ℕ → Type 0
Between s t base to = (at : ℕ) (v : Value) → base + 1024 ≤ at → at + 512 ≤ to → At s at v → At t at v

-- The operand q of the record r, evaluated under binding j at a place `up` bytes above base.
pub record Insides (table : List ℕ) (r q : ℕ) (whole : Bool) (s t : List ℕ) (base up : ℕ) (env : Env) (c : Choices) (cursor : Cursor) (j : ℕ) (x : Placed) (d : Choices) : Type 0 where
  pub turned : (bs : List Binding) → Standing table r whole s base cursor bs
      → Turned (λ ρ. meant table q (under ρ (get_or bs j nothing))) (At t (base + up)) table r whole bs s t base env c (ended x.outcome d) x.cursor
  pub between : Between s t base (base + up)

abbrev pub Upward : ℕ → Type 0
Upward up = (1024 ≤ up) × (up ≤ 2048)

-- The condition of the record r, tested under binding j.
abbrev pub holds_in : List ℕ → ℕ → State → Binding → Tree Bool
holds_in table r ρ b = holds (meant table) r (operand_at table r 2) ρ b

pub record Tests (table : List ℕ) (r : ℕ) (s t : List ℕ) (base : ℕ) (env : Env) (c : Choices) (cursor : Cursor) (j : ℕ) (h : Held) (d : Choices) : Type 0 where
  pub turned : (bs : List Binding) → Standing table r false s base cursor bs
      → Turned (λ ρ. holds_in table r ρ (get_or bs j nothing)) (λ t. h.yes ≡ t) table r false bs s t base env c (ended h.outcome d) h.cursor
  pub between : Between s t base (base + 1536)

-- ---- all bindings: 13, 16 and 17

-- Of the bindings bs those in sat satisfied, n of them; the one numbered `due`, where there is one, is binding k.
pub record Marks (bs sat : List Binding) (due n k : ℕ) : Type 0 where
  pub count : n ≡ length sat
  pub within : due < n → k < length bs
  pub is : due < n → get_or bs k nothing ≡ get_or sat due nothing

-- The bindings that make the condition of r true.
abbrev pub surveyed : List ℕ → ℕ → State → Tree (List Binding)
surveyed table r ρ = bind (bindings_of (meant table) r (pattern_for table r) (operand_at table r 1) ρ) (λ bs. satisfying (meant table) r (operand_at table r 2) ρ bs)

-- After a test: how many satisfied, and which is the wanted one.
abbrev pub counting : Bool → ℕ → ℕ
counting t n = cond t (n + 1) n

abbrev pub marking : Bool → ℕ → ℕ → ℕ → ℕ → ℕ
marking t n due j k = cond t (cond (eqb n due) j k) k

pub record Marked (table : List ℕ) (r : ℕ) (s : List ℕ) (base due : ℕ) (v : Counted) (sat : List Binding) : Type 0 where
  pub bindings : List Binding
  pub standing : Standing table r false s base v.cursor bindings
  pub marks : Marks bindings sat due v.count v.at
  pub few : v.count ≤ length bindings

abbrev pub Surveys : List ℕ → ℕ → ℕ → List ℕ → List ℕ → ℕ → Env → Choices → Counted → Choices → Type 0
Surveys table r k s t base env c v d = Gives (surveyed table r) (Marked table r t base (due_for k d) v) s t base env c (ended v.outcome d)

pub record Fetchable (table : List ℕ) (r : ℕ) (s : List ℕ) (base : ℕ) (env : Env) (cursor : Cursor) (j : ℕ) : Type 0 where
  pub choices : Choices
  pub stands : Stands table r false s base env choices cursor j
  pub iota : kind_at (records table) r ≡ 17

-- The value that binding j gives to the name of the pattern, left at base.
pub record Fetches (table : List ℕ) (r : ℕ) (s t : List ℕ) (base : ℕ) (cursor : Cursor) (j : ℕ) : Type 0 where
  pub kept : Kept s t base
  pub right : (bs : List Binding) → Standing table r false s base cursor bs → (v : Value) × (value_in (get_or bs j nothing) (pattern_name (pattern_for table r)) ≡ some v) × At t base v

-- ---- a choice: 12 and 13

-- The way taken, or the refusal of a choice of the record r among n bindings.
abbrev pub chosen : Result ℕ Refusal → ℕ → ℕ → Result ℕ Refused
chosen (Ok i) r n = Ok i
chosen (Err x) r n = Err (record { refusal = x; place = r; count = ways_reported x n })

-- ---- comprehensions: 18, 19 and 20

abbrev pub Comprehension : ℕ → Type 0
Comprehension k = (18 ≤ k) × (k ≤ 20)

-- The kind of value that a comprehension builds.
abbrev pub kind_for : ℕ → Kind
kind_for k = built_kind (enumeration_for k)

-- What is added under a binding to the items so far.
abbrev pub adds_in : List ℕ → ℕ → ℕ → State → Items → Binding → Tree Items
adds_in table r k ρ vs b =
    cond (eqb k 18) (add_one (meant table) r add_member (operand_at table r 3) ρ vs b)
    (cond (eqb k 19) (add_one (meant table) r add_item (operand_at table r 3) ρ vs b) (add_pair (meant table) r (operand_at table r 3) (operand_at table r 4) ρ vs b))

-- One binding: its condition, and where that holds what is added.
abbrev pub turn : (Binding → Tree Bool) → (Items → Binding → Tree Items) → Items → Binding → Tree Items
turn test add vs b = bind (test b) (λ t. cond t (add vs b) (give vs))

abbrev pub step_in : List ℕ → ℕ → ℕ → State → Items → Binding → Tree Items
step_in table r k ρ vs b = turn (holds_in table r ρ) (adds_in table r k ρ) vs b

-- What is built stands 1,024 bytes above base.
abbrev pub BuiltAt : ℕ → List ℕ → ℕ → Items → Type 0
BuiltAt k s base vs = At s (base + 1024) (collection (kind_for k) vs)

pub record Extends (table : List ℕ) (r k : ℕ) (s : List ℕ) (base : ℕ) (env : Env) (c : Choices) (cursor : Cursor) (j : ℕ) : Type 0 where
  pub stands : Stands table r false s base env c cursor j
  pub kind : kind_at (records table) r ≡ k
  pub comprehension : Comprehension k
  pub items : Items
  pub built : BuiltAt k s base items

-- What is built was built on by m under binding j.
abbrev pub Extended : (State → Items → Binding → Tree Items) → List ℕ → ℕ → ℕ → List ℕ → List ℕ → ℕ → Env → Choices → Cursor → ℕ → Placed → Choices → Type 0
Extended m table r k s t base env c cursor j x d = (bs : List Binding) (vs : Items) → Standing table r false s base cursor bs → BuiltAt k s base vs
    → Turned (λ ρ. m ρ vs (get_or bs j nothing)) (BuiltAt k t base) table r false bs s t base env c (ended x.outcome d) x.cursor
