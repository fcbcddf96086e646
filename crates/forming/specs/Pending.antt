-- The agenda as a list linked through an array, and what the functions that go through it ask and promise.
use Rattle.std.specs.Prelude.{◌≡◌, true, false, cond, List, [], ◌∷◌, ◌++◌, ℕ, ◌+◌, ◌*◌, ◌/◌, ◌%◌, ◌≤◌, ◌<◌, eqb, length, get_or, Option, Some, None}
use Rattle.values.specs.Value.{Value, boolean}
use Rattle.tables.specs.Record.{is_composed}
use Rattle.tables.specs.Table.{kind_at}
use Rattle.tables.specs.Accepted.{records}
use Rattle.parts.specs.declared.Part.{Part}
use Rattle.parts.specs.Part.{PartIs}
use Rattle.parts.specs.Word.{unpacked}
use Rattle.patterns.specs.Binding.{Binding}
use Rattle.patterns.specs.Members.{Alike}
use Rattle.patterns.specs.Pattern.{any, wide}
use Rattle.patterns.specs.Nodes.{is_large}
use Rattle.patterns.specs.Read.{Readable, pattern_at}
use Rattle.matching.specs.Leaf.{Stands, Grown}
use Rattle.matching.specs.Node.{PieceOf, inner_of, ways_of, met_by}
use Rattle.forming.specs.Inner.{Composed, count_of, inner}
use Rattle.forming.specs.declared.Queue.{Queue}
use Rattle.forming.specs.declared.taking.Left.{Left}
use Rattle.forming.specs.Onward.{Task, task, onward, zipped}
use Rattle.forming.specs.Frames.{KeptBelow, entries, agenda_words}

-- An entry of three numbers: the record of the pattern, the part that it meets, and the entry that follows, a lower one.
pub record Pending (table s a : List ℕ) (top head : ℕ) (t : Task) : Type 0 where
  pub some : 0 < head
  pub below : head < top
  pub falls : get_or a (3 * head + 2) 0 < head
  pub readable : Readable table (get_or a (3 * head) 0)
  pub pattern : t.what ≡ pattern_at (records table) (get_or a (3 * head) 0)
  pub here : PartIs s (unpacked (get_or a (3 * head + 1) 0)) t.value
  pub narrow : wide t.what t.value ≡ false

-- The entries from head on are the tasks.
abbrev pub AgendaIs : List ℕ → List ℕ → List ℕ → ℕ → ℕ → List Task → Type 0
AgendaIs table s a top head [] = head ≡ 0
AgendaIs table s a top head (t ∷ ts) = Pending table s a top head t × AgendaIs table s a top (get_or a (3 * head + 2) 0) ts

-- The entries that the tasks may need.
abbrev pub spaces : List Task → ℕ
spaces [] = 0
spaces (t ∷ ts) = inner t.what + spaces ts

-- ---- the parts of a pattern put before the rest

-- There is room for so many parts of a pattern, each with what it meets in the way d.
pub record Pushable (table : List ℕ) (p : ℕ) (s : List ℕ) (part : Part) (d : ℕ) (a : List ℕ) (next top count : ℕ) : Type 0 where
  pub composed : Composed table p
  pub short : length s ≤ 65536
  pub value : Value
  pub here : PartIs s part value
  pub narrow : is_large (kind_at (records table) p) value ≡ false
  pub below : d < length (ways_of table p value)
  pub low : next < top
  pub room : top + count ≤ entries
  pub long : length a ≡ agenda_words

pub record PartPushable (table : List ℕ) (p k n : ℕ) (s : List ℕ) (part : Part) (d i : ℕ) (a : List ℕ) (next top : ℕ) : Type 0 where
  pub held : Pushable table p s part d a next top 1
  pub of_kind : k ≡ kind_at (records table) p
  pub counted : n ≡ count_of table p
  pub within : i < count_of table p

-- Part i stands before the rest.
pub record PartPushed (table : List ℕ) (p : ℕ) (s : List ℕ) (part : Part) (d i : ℕ) (a : List ℕ) (next top : ℕ) (b : List ℕ) : Type 0 where
  pub kept : KeptBelow a b (3 * top)
  pub long : length b ≡ length a
  pub right : (v : Value) (ts : List Task) → PartIs s part v → wide (pattern_at (records table) p) v ≡ false → AgendaIs table s a top next ts
      → AgendaIs table s b (top + 1) top (task (get_or (inner_of table p) i any) (get_or (met_by table p v d) i (boolean true)) ∷ ts)

-- Part i meets the piece in some way, and there is room for it.
pub record PiecePushable (table : List ℕ) (p i : ℕ) (s : List ℕ) (piece : Part) (a : List ℕ) (next top : ℕ) : Type 0 where
  pub kind : ℕ
  pub count : ℕ
  pub part : Part
  pub way : ℕ
  pub held : PartPushable table p kind count s part way i a next top
  pub meets : PieceOf kind count s part way i piece

-- In whatever way it does, part i stands before the rest.
abbrev pub PiecePushed : List ℕ → ℕ → ℕ → List ℕ → Part → List ℕ → ℕ → ℕ → List ℕ → Type 0
PiecePushed table p i s piece a next top b =
    (k n : ℕ) (part : Part) (d : ℕ) → PartPushable table p k n s part d i a next top → PieceOf k n s part d i piece → PartPushed table p s part d i a next top b

-- The units whose bit is b, the first unit's bit being the lowest.
unfoldable pub with_bit : {A : Type 0} → ℕ → ℕ → List A → List A
with_bit m b [] = []
with_bit m b (x ∷ xs) = cond (eqb (m % 2) b) (x ∷ with_bit (m / 2) b xs) (with_bit (m / 2) b xs)

-- How many parts of pattern p have the bit.
abbrev pub how_many : List ℕ → ℕ → ℕ → ℕ → ℕ
how_many table p bits bit = length (with_bit bits bit (inner_of table p))

-- The parts that have the bit stand before the rest.
pub record PushedWhere (table : List ℕ) (p : ℕ) (s : List ℕ) (part : Part) (d : ℕ) (a : List ℕ) (next top bits bit : ℕ) (b : List ℕ) (r : Queue) : Type 0 where
  pub ends : r.top ≡ top + how_many table p bits bit
  pub low : r.head < r.top
  pub none : r.top ≡ top → r.head ≡ next
  pub kept : KeptBelow a b (3 * top)
  pub long : length b ≡ length a
  pub right : (v : Value) (ts : List Task) → PartIs s part v → wide (pattern_at (records table) p) v ≡ false → AgendaIs table s a top next ts
      → AgendaIs table s b r.top r.head (with_bit bits bit (zipped (inner_of table p) (met_by table p v d)) ++ ts)

-- All parts do, the tests first.
abbrev pub tests_first : ℕ → List Task → List Task → List Task
tests_first tests parts ts = with_bit tests 1 parts ++ (with_bit tests 0 parts ++ ts)

pub record Pushed (table : List ℕ) (p : ℕ) (s : List ℕ) (part : Part) (d : ℕ) (a : List ℕ) (next top tests : ℕ) (b : List ℕ) (r : ℕ) : Type 0 where
  pub low : r < top + count_of table p
  pub none : count_of table p ≡ 0 → r ≡ next
  pub kept : KeptBelow a b (3 * top)
  pub long : length b ≡ length a
  pub right : (v : Value) (ts : List Task) → PartIs s part v → wide (pattern_at (records table) p) v ≡ false → AgendaIs table s a top next ts
      → AgendaIs table s b (top + count_of table p) r (tests_first tests (zipped (inner_of table p) (met_by table p v d)) ts)

-- ---- leaves taken off an agenda

-- An entry with parts that waits, or none.
abbrev pub WaitsAre : List ℕ → List ℕ → List ℕ → ℕ → ℕ → List Task → Type 0
WaitsAre table s a top wait [] = wait ≡ 0
WaitsAre table s a top wait (t ∷ []) = Pending table s a top wait t × (is_composed (kind_at (records table) (get_or a (3 * wait) 0)) ≡ true)
WaitsAre table s a top wait (t ∷ u ∷ ts) = ⊥

-- What is left of the tasks ts, going on from b: the one that waits, and those from head on, with what is found now.
pub record LeftOf (table s a : List ℕ) (top wait head : ℕ) (found : List ℕ) (ts : List Task) (b : Binding) : Type 0 where
  pub waits : List Task
  pub tasks : List Task
  pub binding : Binding
  pub waits_are : WaitsAre table s a top wait waits
  pub are : AgendaIs table s a top head tasks
  pub stands : Stands s found binding
  pub alike : Alike (onward ts b) (onward (waits ++ tasks) binding)
  pub room : spaces (waits ++ tasks) ≤ spaces ts

pub record TakeHeld (table s a : List ℕ) (head : ℕ) (found : List ℕ) : Type 0 where
  pub top : ℕ
  pub tasks : List Task
  pub are : AgendaIs table s a top head tasks
  pub low : 0 < top
  pub room : top ≤ entries
  pub binding : Binding
  pub stands : Stands s found binding
  pub short : length s ≤ 65536

pub record Taken (table s a : List ℕ) (head : ℕ) (found after : List ℕ) (r : Option Left) : Type 0 where
  pub falls : (l : Left) → r ≡ Some l → 0 < l.wait → l.head < head
  pub stays : Grown found after
  pub ends : (l : Left) → r ≡ Some l → l.wait ≡ 0 → l.head ≡ 0
  pub none : r ≡ None → (top : ℕ) (ts : List Task) (b : Binding) → AgendaIs table s a top head ts → Stands s found b → Alike (onward ts b) []
  pub some : (l : Left) → r ≡ Some l → (top : ℕ) (ts : List Task) (b : Binding) → AgendaIs table s a top head ts → Stands s found b → LeftOf table s a top l.wait l.head after ts b
