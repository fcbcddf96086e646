-- Bindings as rows of packed parts, in order by an array of row numbers.
use Rattle.std.specs.Prelude.{◌≡◌, List, ◌∷◌, ◌++◌, ℕ, suc, ◌+◌, ◌*◌, ◌%◌, ◌≤◌, ◌<◌, length, get_or, take, drop, Result, Ok, Err}
use Rattle.parts.specs.Part.{CellIs}
use Rattle.parts.specs.Word.{unpacked}
use Rattle.patterns.specs.Binding.{Binding, names, nothing, cell_of, place, sorted}
use Rattle.patterns.specs.Binder.{most_bindings}
use Rattle.matching.specs.Leaf.{Stands}
use Rattle.prelude.specs.declared.Refusal.{Refusal}
use Rattle.prelude.specs.declared.Refusal.TheVariants.{TooManyBindings}

-- The words of all rows: one for each name of each binding.
abbrev pub rows_words : ℕ
rows_words = most_bindings * names

-- Row r stands for the binding b.
pub record RowIs (s rows : List ℕ) (r : ℕ) (b : Binding) : Type 0 where
  pub sized : length b ≡ names
  pub cells : (x : ℕ) → x < names → CellIs s (unpacked (get_or rows (names * r + x) 0)) (cell_of b x)
  pub blank : (x : ℕ) → x < names → get_or rows (names * r + x) 0 % 4 ≡ 0 → get_or rows (names * r + x) 0 ≡ 0

pub record RowHeld (s rows : List ℕ) (r : ℕ) : Type 0 where
  pub low : r < most_bindings
  pub binding : Binding
  pub is : RowIs s rows r binding

-- Row r has the word of each name found.
abbrev pub Agrees : List ℕ → List ℕ → ℕ → Type 0
Agrees found rows r = (x : ℕ) → x < names → (get_or found x 0 ≡ 0 → ⊥) → get_or rows (names * r + x) 0 ≡ get_or found x 0

-- Some row between two does.
pub record SomeAgrees (found rows : List ℕ) (from to : ℕ) : Type 0 where
  pub row : ℕ
  pub low : from ≤ row
  pub high : row < to
  pub agrees : Agrees found rows row

-- The first n rows, in the order given, are the bindings bs, distinct and ascending.
pub record RowsAre (s rows order : List ℕ) (n : ℕ) (bs : List Binding) : Type 0 where
  pub wide : length rows ≡ rows_words
  pub long : length order ≡ most_bindings
  pub count : length bs ≡ n
  pub few : n ≤ most_bindings
  pub given : List Binding
  pub ordered : bs ≡ sorted given
  pub row : (j : ℕ) → j < n → get_or order j 0 < n
  pub each : (j : ℕ) → j < n → RowIs s rows (get_or order j 0) (get_or bs j nothing)

abbrev pub RowsHeld : List ℕ → List ℕ → List ℕ → ℕ → Type 0
RowsHeld s rows order n = (bs : List Binding) × RowsAre s rows order n bs

-- The place of a binding among the rows: it stands there, or belongs there.
abbrev pub SoughtIn : Binding → List Binding → ℕ → Result ℕ ℕ → Type 0
SoughtIn b bs n (Ok k) = (k < n) × (place b bs ≡ bs)
SoughtIn b bs n (Err k) = (k ≤ n) × (place b bs ≡ take k bs ++ (b ∷ drop k bs))

abbrev pub Sought : List ℕ → List ℕ → List ℕ → List ℕ → ℕ → Result ℕ ℕ → Type 0
Sought s m rows order n r = (b : Binding) (bs : List Binding) → Stands s m b → RowsAre s rows order n bs → SoughtIn b bs n r

-- Row r was written, and nothing before it changed.
pub record RowPut (s : List ℕ) (m : List ℕ) (rows after : List ℕ) (r : ℕ) : Type 0 where
  pub right : (b : Binding) → Stands s m b → RowIs s after r b
  pub before : (j : ℕ) → j < names * r → get_or after j 0 ≡ get_or rows j 0
  pub long : length after ≡ length rows

-- n was put in at a place.
pub record Shifted (order after : List ℕ) (at n : ℕ) : Type 0 where
  pub before : (j : ℕ) → j < at → get_or after j 0 ≡ get_or order j 0
  pub here : get_or after at 0 ≡ n
  pub long : length after ≡ length order
  pub from : (j : ℕ) → at ≤ j → j < n → get_or after (suc j) 0 ≡ get_or order j 0

pub record EntryHeld (s : List ℕ) (m : List ℕ) (rows order : List ℕ) (n : ℕ) : Type 0 where
  pub binding : Binding
  pub stands : Stands s m binding
  pub bindings : List Binding
  pub are : RowsAre s rows order n bindings

-- The bindings were entered, or they are too many.
abbrev pub Entered : List ℕ → List ℕ → List ℕ → List Binding → Result ℕ Refusal → Type 0
Entered s rows order bs (Ok n) = RowsAre s rows order n bs
Entered s rows order bs (Err k) = (k ≡ TooManyBindings) × (most_bindings < length bs)

-- The first n rows are as they were, and any other up to k stands for the binding.
pub record Appended (s m rows : List ℕ) (n : ℕ) (rows' : List ℕ) (k : ℕ) : Type 0 where
  pub low : n ≤ k
  pub kept : (j : ℕ) → j < names * n → get_or rows' j 0 ≡ get_or rows j 0
  pub new : (r : ℕ) → n ≤ r → r < k → (b : Binding) → Stands s m b → RowIs s rows' r b

pub record Entry (s m rows order : List ℕ) (n : ℕ) (rows' order' : List ℕ) (r : Result ℕ Refusal) : Type 0 where
  pub right : (b : Binding) (bs : List Binding) → Stands s m b → RowsAre s rows order n bs → Entered s rows' order' (place b bs) r
  pub appended : (k : ℕ) → r ≡ Ok k → Appended s m rows n rows' k
