-- Rows of words written into a window: what the functions ask and promise each other.
use Rattle.std.specs.Prelude.{◌≡◌, Bool, true, false, cond, List, [], ◌∷◌, ℕ, ◌+◌, ◌*◌, ◌/◌, ◌^◌, ◌≤◌, ◌<◌, eqb, length, get_or, take, drop}
use Rattle.integers.specs.Bytes.{bits32}
use Rattle.values.specs.Value.{Value, boolean}
use Rattle.values.specs.Place.{At, ItemsAt, HoldsItems, Outside}
use Rattle.patterns.specs.Pattern.{items_of}
use Rattle.patterns.specs.Binding.{names}
use Rattle.patterns.specs.Binder.{most_bindings}
use Rattle.parts.specs.Chosen.{odd}
use Rattle.forming.specs.Rows.{rows_words}
use Rattle.bindings.specs.declared.Cursor.{Cursor}
use Rattle.bindings.specs.declared.filling.Names.{Names}
use Rattle.bindings.specs.Window.{window, place_of, past, InWindow}

-- The words of row r.
abbrev pub row_words : List ℕ → ℕ → List ℕ
row_words rows r = take names (drop (names * r) rows)

-- The names that have a word, as a mask, and how many they are.
abbrev pub bit : ℕ → ℕ
bit w = cond (eqb w 0) 0 1

unfoldable pub mask_of : List ℕ → ℕ
mask_of [] = 0
mask_of (w ∷ ws) = bit w + 2 * mask_of ws

unfoldable pub filled : List ℕ → ℕ
filled [] = 0
filled (w ∷ ws) = bit w + filled ws

-- From a place up to e stand those words that the bits of a mask choose, four bytes each.
abbrev pub WordAt : List ℕ → ℕ → Bool → ℕ → Type 0
WordAt s at true w = bits32 s at ≡ w
WordAt s at false w = Unit {0}

abbrev pub WordsAt : List ℕ → ℕ → ℕ → ℕ → List ℕ → Type 0
WordsAt s at e m [] = (m ≡ 0) × (at ≤ e)
WordsAt s at e m (w ∷ ws) = WordAt s at (odd m) w × WordsAt s (past (odd m) at) e (m / 2) ws

-- ---- one row

pub record RowHeld (rows : List ℕ) (r : ℕ) : Type 0 where
  pub low : r < most_bindings
  pub wide : length rows ≡ rows_words

pub record NamesAre (ws : List ℕ) (r : Names) : Type 0 where
  pub mask : r.mask ≡ mask_of ws
  pub width : r.width ≡ filled ws
  pub small : r.mask < 65536
  pub narrow : r.width ≤ names

pub record RowPuttable (s : List ℕ) (out : ℕ) (rows : List ℕ) (r mask : ℕ) : Type 0 where
  pub held : RowHeld rows r
  pub is_mask : mask ≡ mask_of (row_words rows r)
  pub room : out + 4 * filled (row_words rows r) ≤ length s

pub record RowPut (s t : List ℕ) (out : ℕ) (rows : List ℕ) (r mask : ℕ) : Type 0 where
  pub words : WordsAt t out (out + 4 * filled (row_words rows r)) mask (row_words rows r)
  pub outside : Outside s t out (out + 4 * filled (row_words rows r))

-- ---- as many rows as fit

pub record FillHeld (s : List ℕ) (to : ℕ) (rows order : List ℕ) (c : Cursor) : Type 0 where
  pub room : to + window ≤ length s
  pub short : length s ≤ 65536
  pub few : c.count ≤ most_bindings
  pub first : c.from ≤ c.count
  pub narrow : c.width ≤ names
  pub wide : length rows ≡ rows_words
  pub long : length order ≡ most_bindings
  pub row : (j : ℕ) → j < c.count → get_or order j 0 < most_bindings
  pub mask : (j : ℕ) → j < c.count → c.names ≡ mask_of (row_words rows (get_or order j 0))
  pub width : (j : ℕ) → j < c.count → c.width ≡ filled (row_words rows (get_or order j 0))

pub record Filled (s t : List ℕ) (to : ℕ) (rows order : List ℕ) (c : Cursor) : Type 0 where
  pub outside : Outside s t to (to + window)
  pub each : (k : ℕ) → InWindow c k → WordsAt t (place_of to c k) (place_of to c k + 4 * c.width) c.names (row_words rows (get_or order k 0))

-- ---- a plain name

-- r is the mask of the name x alone.
pub record OneName (x r : ℕ) : Type 0 where
  pub is : r ≡ 2 ^ x
  pub small : r < 65536

-- Items lie below the window.
pub record MembersHeld (s : List ℕ) (to from end : ℕ) : Type 0 where
  pub items : HoldsItems (take to s) from end
  pub room : to + window ≤ length s
  pub short : length s ≤ 65536

-- The word at a place stands for a whole record.
pub record MemberAt (s t : List ℕ) (at : ℕ) (v : Value) : Type 0 where
  pub place : ℕ
  pub low : place ≤ 65536
  pub word-is : bits32 t at ≡ 1 + 4 * place
  pub here : At s place v

pub record MembersPut (s t : List ℕ) (to from end n : ℕ) : Type 0 where
  pub outside : Outside s t to (to + window)
  pub few : n ≤ 128
  pub right : (vs : List Value) → ItemsAt (take to s) from end (items_of vs) → (n ≡ length vs) × ((k : ℕ) → k < n → MemberAt (take to s) t (to + 4 * k) (get_or vs k (boolean true)))
