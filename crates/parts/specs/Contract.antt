-- What the functions on parts ask and promise. Each promise is for whatever value the part denotes: by `part_one` there is one.
use Rattle.parts.specs.declared.How.TheVariants.{Whole, Units}
use Rattle.std.specs.Prelude.{◌≡◌, Bool, true, false, List, [], ℕ, ◌+◌, ◌-◌, ◌^◌, ◌≤◌, ◌<◌, length, get_or}
use Rattle.prelude.specs.Membership.{In}
use Rattle.std.specs.declared.cmp.Ordering.{Ordering}
use Rattle.values.specs.Value.{Kind, sequence, Value, collection, kind_of, size, order, value_limit}
use Rattle.values.specs.Place.{At, Outside}
use Rattle.patterns.specs.Ways.{Halves as Split, halves, splits, cuts}
use Rattle.patterns.specs.Pattern.{items_of, UnitOf, items_in, halves_in, is_unordered, left_of, right_of, most_split}
use Rattle.parts.specs.declared.Part.{Part}
use Rattle.parts.specs.declared.Halves.{Halves}
use Rattle.parts.specs.declared.runs.Run.{Run}
use Rattle.parts.specs.Part.{Selects, PartIs, end_of}
use Rattle.parts.specs.Run.{RunOf}

-- ---- reading

-- r is the kind of the value
abbrev pub KindOfPart : List ℕ → Part → ℕ → Type 0
KindOfPart s p r = (v : Value) → PartIs s p v → r ≡ kind_of v

-- A part denotes a collection.
pub record CollectionHeld (s : List ℕ) (p : Part) : Type 0 where
  pub kind : Kind
  pub items : List Value
  pub here : PartIs s p (collection kind (items_of items))

-- r is the number of its items
abbrev pub CountOfPart : List ℕ → Part → ℕ → Type 0
CountOfPart s p r = (k : Kind) (vs : List Value) → PartIs s p (collection k (items_of vs)) → r ≡ length vs

-- o is the order of the two values
abbrev pub OrderedParts : List ℕ → Part → Part → Ordering → Type 0
OrderedParts s p q o = (v w : Value) → PartIs s p v → PartIs s q w → o ≡ order v w

-- A part denotes a collection of more than k items, in a slice whose places fit.
pub record ItemHeld (s : List ℕ) (p : Part) (k : ℕ) : Type 0 where
  pub kind : Kind
  pub items : List Value
  pub here : PartIs s p (collection kind (items_of items))
  pub below : k < length items
  pub short : length s ≤ 65536

-- r denotes the k-th of them, a whole record
pub record ItemOfPart (s : List ℕ) (p : Part) (k : ℕ) (r : Part) : Type 0 where
  pub whole : r.how ≡ Whole
  pub right : (kind : Kind) (vs : List Value) (d : Value) → PartIs s p (collection kind (items_of vs)) → At s r.at (get_or vs k d)
  pub ends : end_of s r ≤ end_of s p

-- A run of the items of such a part, and what is its k-th item
pub record RunItemHeld (s : List ℕ) (r : Run) (k : ℕ) : Type 0 where
  pub part : Part
  pub held : ItemHeld s part k
  pub run : RunOf s part r

abbrev pub ItemOfRun : List ℕ → Run → ℕ → Part → Type 0
ItemOfRun s r k q = (p : Part) → ItemHeld s p k → RunOf s p r → ItemOfPart s p k q

-- The whole record at a place.
abbrev pub whole_at : ℕ → Part
whole_at at = record { at = at; extent = 0; how = Whole }

-- r says whether an item of the collection that p denotes has the value of q
abbrev pub HasItem : List ℕ → Part → Part → Bool → Type 0
HasItem s p q r = (k : Kind) (vs : List Value) (v : Value) → PartIs s p (collection k (items_of vs)) → PartIs s q v → (r ≡ true → In v vs) × (r ≡ false → In v vs → ⊥)

-- ---- halves

-- The two parts denote the two halves, of kind k.
pub record HalvesAre (s : List ℕ) (k : Kind) (h : Split Value) (r : Halves) : Type 0 where
  pub left : PartIs s r.left (left_of k h)
  pub right : PartIs s r.right (right_of k h)

-- The halves of a part end where the part ends, or before.
pub record Inside (s : List ℕ) (p : Part) (r : Halves) : Type 0 where
  pub left : end_of s r.left ≤ end_of s p
  pub right : end_of s r.right ≤ end_of s p

-- A part denotes the set or map of these units.
abbrev pub UnitsHere : List ℕ → Part → (k : Kind) → List (UnitOf k) → Type 0
UnitsHere s p k us = (is_unordered k ≡ true) × PartIs s p (collection k (items_of (items_in k us)))

-- A part denotes a set or map of at most seven.
pub record Countable (s : List ℕ) (p : Part) : Type 0 where
  pub kind : Kind
  pub units : List (UnitOf kind)
  pub here : UnitsHere s p kind units
  pub few : length units ≤ most_split

-- m chooses its units from those of the set or map whose record stands there
pub record MaskOf (s : List ℕ) (p : Part) (m : ℕ) : Type 0 where
  pub low : m < 128
  pub right : (k : Kind) (us : List (UnitOf k)) → UnitsHere s p k us → Selects s p.at m (collection k (items_of (items_in k us)))

-- A part denotes a set or map of at most seven, and d is the number of one of its splits.
pub record SplitHeld (s : List ℕ) (p : Part) (d : ℕ) : Type 0 where
  pub kind : Kind
  pub units : List (UnitOf kind)
  pub here : UnitsHere s p kind units
  pub few : length units ≤ most_split
  pub below : d < 2 ^ length units

-- r is the d-th split
pub record SplitOf (s : List ℕ) (p : Part) (d : ℕ) (r : Halves) : Type 0 where
  pub right : (k : Kind) (us : List (UnitOf k)) → UnitsHere s p k us → HalvesAre s k (halves_in k (get_or (splits us) d (halves [] []))) r
  pub inside : Inside s p r

-- The halves of a part at a place whose units m chooses, of which l chooses those on the left.
abbrev pub halves_at : ℕ → ℕ → ℕ → Halves
halves_at at m l = record { left = record { at = at; extent = l; how = Units }; right = record { at = at; extent = m - l; how = Units } }

abbrev pub halves_by : Part → ℕ → ℕ → Halves
halves_by p m l = halves_at p.at m l

-- A part denotes a sequence, in a slice whose places fit, and k is the number of one of its cuts.
pub record CutHeld (s : List ℕ) (p : Part) (k : ℕ) : Type 0 where
  pub items : List Value
  pub here : PartIs s p (collection sequence (items_of items))
  pub below : k ≤ length items
  pub short : length s ≤ 65536

-- r is the k-th cut
pub record CutOf (s : List ℕ) (p : Part) (k : ℕ) (r : Halves) : Type 0 where
  pub right : (vs : List Value) → PartIs s p (collection sequence (items_of vs)) → HalvesAre s sequence (get_or (cuts vs) k (halves [] [])) r
  pub inside : Inside s p r

-- ---- writing

-- A part lies below a place, with room for any value there.
pub record Puttable (s : List ℕ) (p : Part) (base : ℕ) : Type 0 where
  pub value : Value
  pub here : PartIs s p value
  pub below : end_of s p ≤ base
  pub room : base + value_limit ≤ length s

-- t is s with the record of the value at a place; it ends at r
pub record PutPart (s t : List ℕ) (p : Part) (base r : ℕ) : Type 0 where
  pub outside : Outside s t base r
  pub high : r ≤ base + value_limit
  pub ends : (v : Value) → PartIs s p v → r ≡ base + size v
  pub right : (v : Value) → PartIs s p v → At t base v
