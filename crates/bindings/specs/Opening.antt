-- A window opened for a plain name or for `-`, and the cursor over rows: what the functions ask and promise each other.
use Rattle.std.specs.Prelude.{◌≡◌, Bool, List, [], ◌∷◌, map, ℕ, ◌+◌, ◌≤◌, ◌<◌, length, get_or, take, Result}
use Rattle.values.specs.Value.{Value}
use Rattle.values.specs.Place.{Outside}
use Rattle.tables.specs.Accepted.{records}
use Rattle.patterns.specs.Binding.{Binding, names, only}
use Rattle.patterns.specs.Binder.{most_bindings, bound, formed}
use Rattle.patterns.specs.Read.{pattern_at}
use Rattle.forming.specs.Rows.{rows_words}
use Rattle.bindings.specs.declared.Cursor.{Cursor}
use Rattle.prelude.specs.declared.Refusal.{Refusal}
use Rattle.bindings.specs.Window.{window, Values, Bindable, Windowed, TellsFrom}
use Rattle.bindings.specs.Filling.{row_words, NamesAre}

pub record PlainHeld (s : List ℕ) (at : ℕ) (whole : Bool) (to x : ℕ) : Type 0 where
  pub bindable : Bindable (take to s) at whole
  pub room : to + window ≤ length s
  pub short : length s ≤ 65536
  pub low : x < names

pub record PlainOpened (s t : List ℕ) (at : ℕ) (whole : Bool) (to x : ℕ) (r : Cursor) : Type 0 where
  pub outside : Outside s t to (to + window)
  pub right : (vs : List Value) → Values (take to s) at whole vs → Windowed t to r (map (only x) vs)
  pub starts : r.from ≡ 0

-- One binding without names over any values, none over none.
abbrev pub any_count : List Value → ℕ
any_count [] = 0
any_count (v ∷ vs) = 1

abbrev pub AnyOpened : List ℕ → ℕ → Bool → Cursor → Type 0
AnyOpened s at whole r = (vs : List Value) → Values s at whole vs → r ≡ record { count = any_count vs; names = 0; width = 0; from = 0 }

pub record CursorHeld (rows order : List ℕ) (n k : ℕ) : Type 0 where
  pub wide : length rows ≡ rows_words
  pub long : length order ≡ most_bindings
  pub few : n ≤ most_bindings
  pub row : 0 < n → get_or order 0 0 < most_bindings

pub record CursorOver (rows order : List ℕ) (n k : ℕ) (r : Cursor) : Type 0 where
  pub count : r.count ≡ n
  pub none : n ≡ 0 → (r.from ≡ 0) × (r.width ≡ 0)
  pub some : 0 < n → (r.from ≡ k) × NamesAre (row_words rows (get_or order 0 0)) (record { mask = r.names; width = r.width })

-- No fewer bindings than k.
pub record LentFrom (table : List ℕ) (p : ℕ) (s : List ℕ) (at : ℕ) (whole : Bool) (to k : ℕ) : Type 0 where
  pub room : to + window ≤ length s
  pub short : length s ≤ 65536
  pub values : List Value
  pub are : Values (take to s) at whole values
  pub low : (bs : List Binding) → formed (pattern_at (records table) p) values ≡ bound bs → k ≤ length bs

pub record FormedFrom (table : List ℕ) (p : ℕ) (s t : List ℕ) (at : ℕ) (whole : Bool) (to k : ℕ) (r : Result Cursor Refusal) : Type 0 where
  pub outside : Outside s t to (to + window)
  pub tells : (vs : List Value) → Values (take to s) at whole vs → TellsFrom t to k (formed (pattern_at (records table) p) vs) r
