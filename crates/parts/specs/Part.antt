-- What a part denotes: a value, of which the bytes lie in a slice.
use Rattle.parts.specs.declared.How.TheVariants.{Nothing, Whole, Units, Span}
use Rattle.std.specs.Prelude.{◌≡◌, ◌⊎◌, List, ℕ, ◌+◌, ◌^◌, ◌≤◌, ◌<◌, length, true}
use Rattle.integers.specs.Bytes.{word}
use Rattle.values.specs.Value.{Kind, sequence, Value, collection, sizes, value_limit}
use Rattle.values.specs.Place.{At, ItemsAt}
use Rattle.patterns.specs.Binding.{Cell, free, is}
use Rattle.patterns.specs.Pattern.{items_of, UnitOf, items_in, is_unordered, most_split}
use Rattle.parts.specs.declared.How.{How}
use Rattle.parts.specs.declared.Part.{Part}
use Rattle.parts.specs.Chosen.{keep}

-- v is the set of the members, or the map of the entries, that the bits of a mask choose, of one small enough to be split whose record stands at a place.
pub record Selects (s : List ℕ) (at mask : ℕ) (v : Value) : Type 0 where
  pub kind : Kind
  pub unordered : is_unordered kind ≡ true
  pub all : List (UnitOf kind)
  pub here : At s at (collection kind (items_of (items_in kind all)))
  pub few : length all ≤ most_split
  pub below : mask < 2 ^ length all
  pub is : v ≡ collection kind (items_of (items_in kind (keep mask all)))

-- v is the sequence of the items whose records stand from a place up to another.
pub record Spans (s : List ℕ) (from to : ℕ) (v : Value) : Type 0 where
  pub items : List Value
  pub here : ItemsAt s from to (items_of items)
  pub short : 4 + sizes (items_of items) ≤ value_limit
  pub is : v ≡ collection sequence (items_of items)

-- A part denotes v.
abbrev pub PartIs : List ℕ → Part → Value → Type 0
PartIs s p v = ((p.how ≡ Whole) × At s p.at v) ⊎ (((p.how ≡ Units) × Selects s p.at p.extent v) ⊎ ((p.how ≡ Span) × Spans s p.at (p.at + p.extent) v))

-- A part that denotes some value.
pub record PartHeld (s : List ℕ) (p : Part) : Type 0 where
  pub value : Value
  pub here : PartIs s p value

-- How many bytes it takes: those of a span are told, any other part has the size of its record.
abbrev pub size_by : How → ℕ → ℕ → ℕ
size_by Nothing e w = w
size_by Whole e w = w
size_by Units e w = w
size_by Span e w = e

-- Where the bytes of a part end.
abbrev pub end_of : List ℕ → Part → ℕ
end_of s p = p.at + size_by p.how p.extent (word s p.at)

-- A part stands for what is said of a name: nothing, or a value.
abbrev pub CellIs : List ℕ → Part → Cell → Type 0
CellIs s p c = ((p.how ≡ Nothing) × (c ≡ free)) ⊎ ((v : Value) × (c ≡ is v) × PartIs s p v)
