-- The bindings of a binder, some of which stand in a window of scratch: what the evaluator asks, and what it is promised.
use Rattle.std.specs.Prelude.{◌≡◌, Bool, true, false, List, [], ◌∷◌, ℕ, ◌+◌, ◌-◌, ◌*◌, ◌/◌, ◌≤◌, ◌<◌, length, get_or, take, Result, Ok, Err}
use Rattle.integers.specs.Bytes.{bits32}
use Rattle.values.specs.Value.{Value}
use Rattle.values.specs.Place.{Outside}
use Rattle.tables.specs.Accepted.{records}
use Rattle.patterns.specs.Binding.{Cell, free, is, clash, Binding, names, nothing, cell_of}
use Rattle.patterns.specs.Binder.{most_bindings, Formed, bound, refused, formed}
use Rattle.patterns.specs.Read.{pattern_at}
use Rattle.parts.specs.Chosen.{odd}
use Rattle.parts.specs.Part.{PartIs}
use Rattle.parts.specs.Word.{unpacked}
use Rattle.parts.specs.declared.words.Env.{Env}
use Rattle.bindings.specs.declared.Cursor.{Cursor}
use Rattle.prelude.specs.declared.Refusal.{Refusal}
use Rattle.prelude.specs.Refusals.{number_of}
use Rattle.bindings.specs.Forming.{Values, Bindable}
pub use Rattle.bindings.specs.Forming.{Values, Bindable}

-- The size of a window, and how many words it holds.
abbrev pub window : ℕ
window = 512

abbrev pub most : ℕ
most = 128

-- ---- what stands in it

-- The word at a place of s stands for a value that lies in t, where the name has one.
abbrev pub CellAt : List ℕ → List ℕ → ℕ → Bool → Cell → Type 0
CellAt s t at true c = (v : Value) × (c ≡ is v) × PartIs t (unpacked (bits32 s at)) v
CellAt s t at false c = c ≡ free

abbrev pub past : Bool → ℕ → ℕ
past true at = at + 4
past false at = at

-- From a place up to e stand the words of those cells that the bits of a mask choose, four bytes each.
abbrev pub CellsAt : List ℕ → List ℕ → ℕ → ℕ → ℕ → List Cell → Type 0
CellsAt s t at e m [] = (m ≡ 0) × (at ≤ e)
CellsAt s t at e m (c ∷ cs) = CellAt s t at (odd m) c × CellsAt s t (past (odd m) at) e (m / 2) cs

-- Where binding k has its words.
abbrev pub place_of : ℕ → Cursor → ℕ → ℕ
place_of to c k = to + 4 * (c.width * (k - c.from))

-- Binding k stands in the window.
pub record InWindow (c : Cursor) (k : ℕ) : Type 0 where
  pub low : c.from ≤ k
  pub below : k < c.count
  pub fits : c.width * (k - c.from) + c.width ≤ most

-- The bindings bs: how many there are, and in the window from `to` on those from the cursor's first on, as far as they fit. Their values lie
-- below the window.
pub record Windowed (s : List ℕ) (to : ℕ) (c : Cursor) (bs : List Binding) : Type 0 where
  pub count : length bs ≡ c.count
  pub few : c.count ≤ most_bindings
  pub narrow : c.width ≤ names
  pub first : c.from ≤ most_bindings
  pub each : (k : ℕ) → InWindow c k → CellsAt s (take to s) (place_of to c k) (place_of to c k + 4 * c.width) c.names (get_or bs k nothing)
  pub sized : (k : ℕ) → k < length bs → length (get_or bs k nothing) ≡ names

-- ---- opening

-- The value, or the set whose members are bound, lies below `to`, and the window from there on.
pub record Lent (s : List ℕ) (at : ℕ) (whole : Bool) (to : ℕ) : Type 0 where
  pub bindable : Bindable (take to s) at whole
  pub room : to + window ≤ length s
  pub short : length s ≤ 65536

-- What is answered where the bindings from k on come first in the window.
abbrev pub TellsFrom : List ℕ → ℕ → ℕ → Formed → Result Cursor Refusal → Type 0
TellsFrom t to k (bound bs) (Ok c) = Windowed t to c bs × (c.from ≡ k)
TellsFrom t to k (bound bs) (Err j) = ⊥
TellsFrom t to k (refused i) (Ok c) = ⊥
TellsFrom t to k (refused i) (Err j) = i ≡ number_of j

abbrev pub TellsOpened : List ℕ → ℕ → Formed → Result Cursor Refusal → Type 0
TellsOpened t to = TellsFrom t to 0

pub record OpenedAs (table : List ℕ) (p : ℕ) (s t : List ℕ) (at : ℕ) (whole : Bool) (to : ℕ) (r : Result Cursor Refusal) : Type 0 where
  pub outside : Outside s t to (to + window)
  pub tells : (vs : List Value) → Values (take to s) at whole vs → TellsOpened t to (formed (pattern_at (records table) p) vs) r

-- ---- going to binding k

pub record Reachable (table : List ℕ) (p : ℕ) (s : List ℕ) (at : ℕ) (whole : Bool) (to : ℕ) (c : Cursor) (k : ℕ) : Type 0 where
  pub room : to + window ≤ length s
  pub short : length s ≤ 65536
  pub values : List Value
  pub are : Values (take to s) at whole values
  pub bindings : List Binding
  pub bound_are : formed (pattern_at (records table) p) values ≡ bound bindings
  pub window-is : Windowed s to c bindings
  pub below : k < c.count

pub record Reached (table : List ℕ) (p : ℕ) (s t : List ℕ) (at : ℕ) (whole : Bool) (to : ℕ) (c : Cursor) (k : ℕ) (r : Cursor) : Type 0 where
  pub outside : Outside s t to (to + window)
  pub count : r.count ≡ c.count
  pub window-is : (vs : List Value) (bs : List Binding) → Values (take to s) at whole vs → formed (pattern_at (records table) p) vs ≡ bound bs → Windowed s to c bs → Windowed t to r bs
  pub within : InWindow r k

-- ---- the environment under binding k

pub record Underneath (s : List ℕ) (to : ℕ) (c : Cursor) (k : ℕ) (env : Env) : Type 0 where
  pub room : to + window ≤ length s
  pub short : length s ≤ 65536
  pub bindings : List Binding
  pub window-is : Windowed s to c bindings
  pub within : InWindow c k
  pub sized : length env.words ≡ names

-- A name that the binding gives no value keeps what it stood for.
abbrev pub WordFor : List ℕ → ℕ → ℕ → Cell → Type 0
WordFor s old new free = new ≡ old
WordFor s old new (is v) = PartIs s (unpacked new) v
WordFor s old new clash = ⊥

pub record UnderBinding (s : List ℕ) (to : ℕ) (c : Cursor) (k : ℕ) (env r : Env) : Type 0 where
  pub sized : length r.words ≡ names
  pub cells : (bs : List Binding) → Windowed s to c bs → (x : ℕ) → x < names → WordFor (take to s) (get_or env.words x 0) (get_or r.words x 0) (cell_of (get_or bs k nothing) x)
