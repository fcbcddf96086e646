-- What masks choose of items whose records stand from a place on, and what the functions on them ask and promise.
use Rattle.std.specs.Prelude.{◌≡◌, List, ℕ, ◌^◌, ◌<◌, length}
use Rattle.std.specs.declared.cmp.Ordering.{Ordering}
use Rattle.values.specs.Value.{Value, order_items}
use Rattle.values.specs.Place.{ItemsAt}
use Rattle.patterns.specs.Pattern.{items_of}
use Rattle.parts.specs.Chosen.{keep}

-- A mask chooses vs of the items whose records stand from a place on.
pub record ChoiceIs (s : List ℕ) (at mask : ℕ) (vs : List Value) : Type 0 where
  pub all : List Value
  pub to : ℕ
  pub here : ItemsAt s at to (items_of all)
  pub below : mask < 2 ^ length all
  pub is : vs ≡ keep mask all

-- A mask that chooses some list of the items from a place on.
pub record ChoiceHeld (s : List ℕ) (at mask : ℕ) : Type 0 where
  pub items : List Value
  pub here : ChoiceIs s at mask items

-- o is the order of what two masks choose
abbrev pub OrderedChoices : List ℕ → ℕ → ℕ → ℕ → ℕ → Ordering → Type 0
OrderedChoices s a x b y o = (vs ws : List Value) → ChoiceIs s a x vs → ChoiceIs s b y ws → o ≡ order_items (items_of vs) (items_of ws)
