-- Repeats: all that follows what is found is among the rows already.
use Rattle.std.specs.Prelude.{◌≡◌, Bool, true, false, ◌||◌, List, ℕ, ◌*◌, ◌≤◌, ◌<◌, length, get_or}
use Rattle.tables.specs.Accepted.{records}
use Rattle.patterns.specs.Binder.{most_bindings}
use Rattle.patterns.specs.Pattern.{Pattern, name, any, literal, each, halved, Patterns, nil, cons}
use Rattle.patterns.specs.Read.{Readable, pattern_at}
use Rattle.forming.specs.Frames.{entries, agenda_words, most_frames, frames_bytes, frame_at}
use Rattle.forming.specs.Rows.{SomeAgrees}
use Rattle.forming.specs.Settled.{Settled}

-- A pattern holds a wildcard.
unfoldable mutual
  pub holds_any : Pattern → Bool
  holds_any (name x) = false
  holds_any any = true
  holds_any (literal w) = false
  holds_any (each k ps) = some_any ps
  holds_any (halved k p q) = holds_any p || holds_any q

  pub some_any : Patterns → Bool
  some_any nil = false
  some_any (cons p ps) = holds_any p || some_any ps

abbrev pub TellsAny : List ℕ → ℕ → Bool → Type 0
TellsAny table p r = r ≡ holds_any (pattern_at (records table) p)

-- An entry of an agenda, and the frames of a stack, of patterns and rows that are there.
pub record RepeatHeld (table a : List ℕ) (at : ℕ) (frames : List ℕ) (depth : ℕ) : Type 0 where
  pub long : length a ≡ agenda_words
  pub below : at < entries
  pub waits : Readable table (get_or a (3 * at) 0)
  pub few : depth ≤ most_frames
  pub frames_long : length frames ≡ frames_bytes
  pub readable : (j : ℕ) → j < depth → Readable table (frame_at frames j).p
  pub low : (j : ℕ) → j < depth → (frame_at frames j).seen ≤ most_bindings

-- Each name of the pattern of some frame has a value, and a row of a way of it that was gone through agrees with what is found.
pub record Repeat (table found frames : List ℕ) (depth : ℕ) (rows : List ℕ) : Type 0 where
  pub frame : ℕ
  pub within : frame < depth
  pub settled : Settled (pattern_at (records table) (frame_at frames frame).p) found
  pub row : SomeAgrees found rows (frame_at frames frame).since (frame_at frames frame).seen

abbrev pub TellsRepeat : List ℕ → List ℕ → List ℕ → ℕ → List ℕ → Bool → Type 0
TellsRepeat table found frames depth rows r = r ≡ true → Repeat table found frames depth rows
