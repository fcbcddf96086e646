-- The stack of frames: what each stands for, what is still due, and what the functions that go down and back ask and promise.
use Rattle.std.specs.Prelude.{◌≡◌, false, ◌⊎◌, List, [], ◌∷◌, ◌++◌, ℕ, suc, ◌+◌, ◌*◌, ◌^◌, ◌≤◌, ◌<◌, length, get_or, drop, Result, Ok, Err}
use Rattle.prelude.specs.Membership.{In}
use Rattle.values.specs.Value.{Value}
use Rattle.tables.specs.Table.{kind_at}
use Rattle.tables.specs.Accepted.{records}
use Rattle.parts.specs.Part.{PartIs}
use Rattle.parts.specs.Word.{unpacked}
use Rattle.patterns.specs.Ways.{gather}
use Rattle.patterns.specs.Binding.{Binding, names, place}
use Rattle.patterns.specs.Binder.{most_bindings}
use Rattle.patterns.specs.Pattern.{wide}
use Rattle.patterns.specs.Nodes.{is_large}
use Rattle.patterns.specs.Read.{pattern_at}
use Rattle.matching.specs.Leaf.{Stands, Grown}
use Rattle.matching.specs.Node.{inner_of, ways_of}
use Rattle.forming.specs.declared.Step.{Step}
use Rattle.prelude.specs.declared.Refusal.{Refusal}
use Rattle.prelude.specs.declared.Refusal.TheVariants.{TooManyBindings}
use Rattle.forming.specs.declared.frames.Frame.{Frame}
use Rattle.forming.specs.Adding.{adding}
use Rattle.forming.specs.Inner.{Composed, inner}
use Rattle.forming.specs.Frames.{entries, agenda_words, frames_bytes, frame_at, heft, rank, mask_of}
use Rattle.forming.specs.Onward.{Task, task, onward, one_way}
use Rattle.forming.specs.Pending.{AgendaIs, spaces}
use Rattle.forming.specs.Rows.{RowIs, RowsAre, Entered, Appended}
use Rattle.forming.specs.Settled.{TellsSettled}
use Rattle.forming.specs.Sizes.{TellsSizes}

-- What a frame stands for: a pattern with parts that meets a value, before the rest of the tasks, going on from a binding and its words; the
-- matches of the ways that were gone through, of those that were gone into, and of those that are left; how many rows there were when it was
-- opened, and how many when its present way began.
pub record Level : Type 0 where
  pub value : Value
  pub tasks : List Task
  pub binding : Binding
  pub words : List ℕ
  pub past : List Binding
  pub done : List Binding
  pub due : List Binding
  pub since : ℕ
  pub seen : ℕ

-- The matches of one way of the pattern.
abbrev pub way_of : List ℕ → Frame → Level → List Value → List Binding
way_of table f l vs = one_way (inner_of table f.p) l.tasks l.binding vs

-- Each of the bindings is a match of some way, all matches of which are among them.
abbrev pub ByWays : List ℕ → Frame → Level → List Binding → Type 0
ByWays table f l bs = (o : Binding) → In o bs → (vs : List Value) × In vs (ways_of table f.p l.value) × In o (way_of table f l vs) × ((c : Binding) → In c (way_of table f l vs) → In c bs)

-- Frame i stands for the level.
pub record LevelIs (table s a : List ℕ) (i : ℕ) (f : Frame) (l : Level) : Type 0 where
  pub composed : Composed table f.p
  pub low : f.at < f.top
  pub here : PartIs s (unpacked (get_or a (3 * f.at + 1) 0)) l.value
  pub narrow : wide (pattern_at (records table) f.p) l.value ≡ false
  pub fits : is_large (kind_at (records table) f.p) l.value ≡ false
  pub are : AgendaIs table s a f.top f.next l.tasks
  pub room : f.top + (inner (pattern_at (records table) f.p) + spaces l.tasks) ≤ entries
  pub high : 2 * i + 2 ≤ f.top
  pub stands : Stands s l.words l.binding
  pub mask : f.mask ≡ mask_of l.words
  pub mask_low : f.mask < 65536
  pub ways : length (ways_of table f.p l.value) ≡ f.ways
  pub few : f.ways < 256
  pub within : f.way < f.ways
  pub settled : TellsSettled table f.p l.words f.once
  pub sizes : TellsSizes table l.binding f.p (kind_at (records table) f.p) f.sizes
  pub due : l.due ≡ gather (drop f.way (ways_of table f.p l.value)) (way_of table f l)
  pub done : ByWays table f l l.done
  pub past : ByWays table f l l.past
  pub since : f.since ≡ l.since
  pub seen : f.seen ≡ l.seen

-- The frames are the levels, the last first, below an entry of the agenda, with words that have grown since.
abbrev pub StackIs : List ℕ → List ℕ → List ℕ → List ℕ → ℕ → List ℕ → List Level → Type 0
StackIs table s a frames high found [] = 0 ≤ high
StackIs table s a frames high found (l ∷ ls) =
    LevelIs table s a (length ls) (frame_at frames (length ls)) l × ((frame_at frames (length ls)).top ≤ high) × Grown l.words found
    × StackIs table s a frames (frame_at frames (length ls)).top l.words ls

-- What is left to be entered.
abbrev pub dues : List Level → List Binding
dues [] = []
dues (l ∷ ls) = l.due ++ dues ls

-- Every match of what is above a level is one of its own; its matches so far are entered or pending; and the first levels, so many as were
-- hit, have a match.
abbrev pub Accounted : List Binding → List Binding → List Binding → ℕ → List Level → Type 0
Accounted all pending entered hit [] = 0 ≤ hit
Accounted all pending entered hit (l ∷ ls) =
    ((c : Binding) → In c all → In c l.done) × ((c : Binding) → In c l.done → In c entered ⊎ In c pending) × (length ls < hit → (c : Binding) × In c l.done)
    × Accounted (l.done ++ l.due) (pending ++ l.due) entered hit ls

-- Each row between two stands for one of the bindings.
abbrev pub RowsAmong : List ℕ → List ℕ → ℕ → ℕ → List Binding → Type 0
RowsAmong s rows from to bs = (r : ℕ) → from ≤ r → r < to → (o : Binding) × RowIs s rows r o × In o bs

-- The rows since a frame was opened are matches of its level; those of the ways gone through are so, and all matches of these ways are entered.
pub record RowsOf (s rows : List ℕ) (n : ℕ) (entered : List Binding) (l : Level) : Type 0 where
  pub few : l.seen ≤ n
  pub whole : (c : Binding) → In c l.past → In c entered
  pub past : RowsAmong s rows l.since l.seen l.past
  pub done : RowsAmong s rows l.since n l.done

abbrev pub Traced : List ℕ → List ℕ → ℕ → List Binding → List Level → Type 0
Traced s rows n entered [] = Unit {0}
Traced s rows n entered (l ∷ ls) = RowsOf s rows n entered l × Traced s rows n entered ls

-- What is entered now, the matches of more, and what is due are together the target.
pub record Stacked (table s a : List ℕ) (high : ℕ) (found frames : List ℕ) (depth hit : ℕ) (rows order : List ℕ) (n : ℕ) (more target : List Binding) : Type 0 where
  pub short : length s ≤ 65536
  pub long : length a ≡ agenda_words
  pub sized : length found ≡ names
  pub frames_long : length frames ≡ frames_bytes
  pub levels : List Level
  pub deep : length levels ≡ depth
  pub hits : hit ≤ depth
  pub stack : StackIs table s a frames high found levels
  pub bindings : List Binding
  pub rows_are : RowsAre s rows order n bindings
  pub accounted : Accounted more more bindings hit levels
  pub traced : Traced s rows n bindings levels
  pub right : adding (more ++ dues levels) bindings ≡ target

-- After a step: the target has more bindings than there may be, or is not reached yet.
pub record AfterStep (table s a : List ℕ) (found frames rows order : List ℕ) (r : Result Step Refusal) (target : List Binding) : Type 0 where
  pub long : length a ≡ agenda_words
  pub full : (e : Refusal) → r ≡ Err e → (e ≡ TooManyBindings) × (most_bindings < length target)
  pub going : (t : Step) → r ≡ Ok t → Stacked table s a entries found frames t.depth t.hit rows order t.n [] target

-- ---- a frame opened for an entry with parts

pub record Waiting (table s a : List ℕ) (at next top : ℕ) (found frames : List ℕ) (depth hit : ℕ) (rows order : List ℕ) (n : ℕ) (target : List Binding) : Type 0 where
  pub composed : Composed table (get_or a (3 * at) 0)
  pub below : at < top
  pub value : Value
  pub here : PartIs s (unpacked (get_or a (3 * at + 1) 0)) value
  pub narrow : wide (pattern_at (records table) (get_or a (3 * at) 0)) value ≡ false
  pub tasks : List Task
  pub are : AgendaIs table s a top next tasks
  pub room : top + (inner (pattern_at (records table) (get_or a (3 * at) 0)) + spaces tasks) ≤ entries
  pub low : 2 * depth + 2 ≤ top
  pub binding : Binding
  pub stands : Stands s found binding
  pub stacked : Stacked table s a top found frames depth hit rows order n (onward (task (pattern_at (records table) (get_or a (3 * at) 0)) value ∷ tasks) binding) target

pub record OpenHeld (table s a : List ℕ) (at next top : ℕ) (found frames : List ℕ) (depth n : ℕ) : Type 0 where
  pub hit : ℕ
  pub rows : List ℕ
  pub order : List ℕ
  pub target : List Binding
  pub waiting : Waiting table s a at next top found frames depth hit rows order n target

pub record Opened (table s a : List ℕ) (at next top : ℕ) (found frames : List ℕ) (depth n : ℕ) (frames' : List ℕ) (r : ℕ) : Type 0 where
  pub right : (hit : ℕ) (rows order : List ℕ) (target : List Binding) → Waiting table s a at next top found frames depth hit rows order n target
      → Stacked table s a entries found frames' r hit rows order n [] target
  pub less : rank frames' r < rank frames depth + 256 ^ suc (heft top next)

-- ---- a match

pub record MatchEntered (s found : List ℕ) (depth : ℕ) (rows order : List ℕ) (n : ℕ) (rows' order' : List ℕ) (r : Result Step Refusal) : Type 0 where
  pub full : (e : Refusal) → r ≡ Err e → (e ≡ TooManyBindings) × ((b : Binding) (bs : List Binding) → Stands s found b → RowsAre s rows order n bs → most_bindings < length (place b bs))
  pub going : (t : Step) → r ≡ Ok t → (t.depth ≡ depth) × (t.hit ≡ depth) × ((b : Binding) (bs : List Binding) → Stands s found b → RowsAre s rows order n bs → RowsAre s rows' order' t.n (place b bs)) × Appended s found rows n rows' t.n

-- ---- down

pub record Descending (table s a : List ℕ) (head top : ℕ) (found frames : List ℕ) (depth hit : ℕ) (rows order : List ℕ) (n : ℕ) (target : List Binding) : Type 0 where
  pub tasks : List Task
  pub are : AgendaIs table s a top head tasks
  pub room : top + spaces tasks ≤ entries
  pub low : 2 * depth + 2 ≤ top
  pub binding : Binding
  pub stands : Stands s found binding
  pub stacked : Stacked table s a top found frames depth hit rows order n (onward tasks binding) target

abbrev pub DownHeld : List ℕ → List ℕ → List ℕ → ℕ → ℕ → List ℕ → List ℕ → ℕ → ℕ → List ℕ → List ℕ → ℕ → Type 0
DownHeld table s a head top found frames depth hit rows order n = (target : List Binding) × Descending table s a head top found frames depth hit rows order n target

pub record WentDown (table s a : List ℕ) (head top : ℕ) (found frames : List ℕ) (depth hit : ℕ) (rows order : List ℕ) (n : ℕ) (found' frames' rows' order' : List ℕ) (r : Result Step Refusal) : Type 0 where
  pub right : (target : List Binding) → Descending table s a head top found frames depth hit rows order n target → AfterStep table s a found' frames' rows' order' r target
  pub less : (t : Step) → r ≡ Ok t → rank frames' t.depth < rank frames depth + 256 ^ heft top head

-- ---- back

pub record BackHeld (table s a found frames : List ℕ) (depth hit : ℕ) (rows order : List ℕ) (n : ℕ) : Type 0 where
  pub some : 0 < depth
  pub target : List Binding
  pub stacked : Stacked table s a entries found frames depth hit rows order n [] target

pub record WentBack (table s a found frames : List ℕ) (depth hit : ℕ) (rows order : List ℕ) (n : ℕ) (a' found' frames' rows' order' : List ℕ) (r : Result Step Refusal) : Type 0 where
  pub right : (target : List Binding) → Stacked table s a entries found frames depth hit rows order n [] target → AfterStep table s a' found' frames' rows' order' r target
  pub less : (t : Step) → r ≡ Ok t → rank frames' t.depth < rank frames depth

-- ---- until no frame is left

abbrev pub FinishHeld : List ℕ → List ℕ → List ℕ → List ℕ → List ℕ → Step → List ℕ → List ℕ → Type 0
FinishHeld table s a found frames first rows order = (target : List Binding) × AfterStep table s a found frames rows order (Ok first) target

pub record Finished (table s a found frames : List ℕ) (first : Step) (rows order a' rows' order' : List ℕ) (r : Result ℕ Refusal) : Type 0 where
  pub long : length a' ≡ agenda_words
  pub right : (target : List Binding) → AfterStep table s a found frames rows order (Ok first) target → Entered s rows' order' target r

-- ---- all matches of an agenda

pub record Solvable (table s a : List ℕ) (head top : ℕ) (m : List ℕ) (rows order : List ℕ) (n : ℕ) : Type 0 where
  pub short : length s ≤ 65536
  pub tasks : List Task
  pub are : AgendaIs table s a top head tasks
  pub long : length a ≡ agenda_words
  pub low : 2 ≤ top
  pub room : top + spaces tasks ≤ entries
  pub binding : Binding
  pub stands : Stands s m binding
  pub bindings : List Binding
  pub rows_are : RowsAre s rows order n bindings

pub record Solved (table s a : List ℕ) (head top : ℕ) (m : List ℕ) (rows order : List ℕ) (n : ℕ) (b rows' order' : List ℕ) (r : Result ℕ Refusal) : Type 0 where
  pub long : length b ≡ length a
  pub right : (k : Solvable table s a head top m rows order n) → Entered s rows' order' (adding (onward k.tasks k.binding) k.bindings) r
