-- What a binder's pattern is matched with, and what forming its bindings as rows asks and promises.
use Rattle.std.specs.Prelude.{◌≡◌, Bool, true, false, List, [], ◌∷◌, ℕ, ◌≤◌, length, Result, Ok, Err}
use Rattle.values.specs.Value.{Value, collection, set}
use Rattle.values.specs.Place.{At, ItemsAt}
use Rattle.tables.specs.Accepted.{records}
use Rattle.patterns.specs.Ways.{gather, exists}
use Rattle.patterns.specs.Binding.{Binding}
use Rattle.patterns.specs.Pattern.{items_of, matches, wide}
use Rattle.patterns.specs.Binder.{most_bindings, Formed as Outcome, bound, refused, formed}
use Rattle.patterns.specs.Read.{Readable, pattern_at}
use Rattle.prelude.specs.declared.Refusal.{Refusal}
use Rattle.prelude.specs.Refusals.{number_of}
use Rattle.forming.specs.Adding.{adding}
use Rattle.forming.specs.Frames.{agenda_words}
use Rattle.forming.specs.Rows.{rows_words, RowsAre, Entered}

-- The values of a binder: the one at a place, or the members of the set there.
abbrev pub Values : List ℕ → ℕ → Bool → List Value → Type 0
Values s at true vs = (v : Value) × At s at v × (vs ≡ v ∷ [])
Values s at false vs = At s at (collection set (items_of vs))

abbrev pub Bindable : List ℕ → ℕ → Bool → Type 0
Bindable s at whole = (vs : List Value) × Values s at whole vs

-- ---- number 29

-- r says whether one of the values has a set or map too large to split.
abbrev pub TellsWideIn : List ℕ → ℕ → List ℕ → ℕ → ℕ → Bool → Type 0
TellsWideIn table p s from to r = (vs : List Value) → ItemsAt s from to (items_of vs) → r ≡ exists vs (wide (pattern_at (records table) p))

abbrev pub TellsWide : List ℕ → ℕ → List ℕ → ℕ → Bool → Bool → Type 0
TellsWide table p s at whole r = (vs : List Value) → Values s at whole vs → r ≡ exists vs (wide (pattern_at (records table) p))

-- ---- the matches of one value, and of all members

pub record OneHeld (table : List ℕ) (p : ℕ) (s : List ℕ) (at : ℕ) (a rows order : List ℕ) (n : ℕ) : Type 0 where
  pub readable : Readable table p
  pub short : length s ≤ 65536
  pub value : Value
  pub here : At s at value
  pub narrow : wide (pattern_at (records table) p) value ≡ false
  pub long : length a ≡ agenda_words
  pub bindings : List Binding
  pub rows_are : RowsAre s rows order n bindings

pub record OneFormed (table : List ℕ) (p : ℕ) (s : List ℕ) (at : ℕ) (a b rows order : List ℕ) (n : ℕ) (rows' order' : List ℕ) (r : Result ℕ Refusal) : Type 0 where
  pub long : length b ≡ length a
  pub right : (v : Value) (bs : List Binding) → At s at v → wide (pattern_at (records table) p) v ≡ false → RowsAre s rows order n bs
      → Entered s rows' order' (adding (matches (pattern_at (records table) p) v) bs) r

pub record AllHeld (table : List ℕ) (p : ℕ) (s : List ℕ) (from to : ℕ) (a rows order : List ℕ) : Type 0 where
  pub readable : Readable table p
  pub short : length s ≤ 65536
  pub values : List Value
  pub here : ItemsAt s from to (items_of values)
  pub narrow : exists values (wide (pattern_at (records table) p)) ≡ false
  pub long : length a ≡ agenda_words
  pub rows_long : length rows ≡ rows_words
  pub order_long : length order ≡ most_bindings

abbrev pub AllFormed : List ℕ → ℕ → List ℕ → ℕ → ℕ → List ℕ → List ℕ → Result ℕ Refusal → Type 0
AllFormed table p s from to rows order r =
    (vs : List Value) → ItemsAt s from to (items_of vs) → exists vs (wide (pattern_at (records table) p)) ≡ false → Entered s rows order (adding (gather vs (matches (pattern_at (records table) p))) []) r

-- The rows are the bindings, or the answer is the refusal.
abbrev pub TellsRows : List ℕ → List ℕ → List ℕ → Outcome → Result ℕ Refusal → Type 0
TellsRows s rows order (bound bs) (Ok n) = RowsAre s rows order n bs
TellsRows s rows order (bound bs) (Err k) = ⊥
TellsRows s rows order (refused j) (Ok n) = ⊥
TellsRows s rows order (refused j) (Err k) = j ≡ number_of k

abbrev pub RowsFormed : List ℕ → ℕ → List ℕ → ℕ → Bool → List ℕ → List ℕ → Result ℕ Refusal → Type 0
RowsFormed table p s at whole rows order r = (vs : List Value) → Values s at whole vs → TellsRows s rows order (formed (pattern_at (records table) p) vs) r
