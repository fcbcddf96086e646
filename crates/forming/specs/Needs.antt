-- What the names that have a value ask of a set or map that a pattern meets.
use Rattle.std.specs.Prelude.{◌≡◌, Bool, true, false, List, ℕ, ◌≤◌, ◌<◌, length, get_or, Option, Some, Result, Err}
use Rattle.prelude.specs.Membership.{In}
use Rattle.values.specs.Value.{Kind, number, Value, collection}
use Rattle.tables.specs.Accepted.{records}
use Rattle.parts.specs.declared.Part.{Part}
use Rattle.parts.specs.Part.{PartIs}
use Rattle.patterns.specs.Binding.{Binding, names}
use Rattle.patterns.specs.Pattern.{Pattern, name, items_of}
use Rattle.patterns.specs.Relation.{Matches}
use Rattle.patterns.specs.Nodes.{collection_of}
use Rattle.patterns.specs.Read.{Readable, pattern_at}
use Rattle.matching.specs.Leaf.{Stands, Standing}
use Rattle.matching.specs.Node.{is_split}
use Rattle.forming.specs.declared.needs.Lacking.{Lacking}
use Rattle.forming.specs.Compatible.{Compatible}

-- The pattern matches the value with no values that are compatible with the binding.
abbrev pub Unmatched : Binding → Pattern → Value → Type 0
Unmatched b p v = (a : Binding) → Matches p v a → Compatible b a → ⊥

-- No set or map, of kind k, of some of these items is matched with values that are compatible with the binding.
abbrev pub Lacks : Binding → Kind → Pattern → List Value → Type 0
Lacks b k p vs = (ts : List Value) → ((t : Value) → In t ts → In t vs) → Unmatched b p (collection k (items_of ts))

-- The kind c, where there is one, splits sets or maps, as the kind of this number says.
abbrev pub UnionOf : ℕ → Option ℕ → Type 0
UnionOf kind r = (c : ℕ) → r ≡ Some c → (is_split c ≡ true) × (kind ≡ number (collection_of c))

-- A pattern, and what is found, in a slice whose places fit.
pub record AskHeld (table : List ℕ) (p : ℕ) (s found : List ℕ) : Type 0 where
  pub readable : Readable table p
  pub short : length s ≤ 65536
  pub standing : Standing s found

-- The pattern has no match that is compatible with what is found, where it meets the part.
abbrev pub NoMatch : List ℕ → ℕ → List ℕ → Part → List ℕ → Type 0
NoMatch table p s part found = (v : Value) (b : Binding) → PartIs s part v → Stands s found b → Unmatched b (pattern_at (records table) p) v

-- Nor has it one where it meets some of what the part has, of the kind that kind c splits.
abbrev pub NoneMatch : List ℕ → ℕ → ℕ → List ℕ → Part → List ℕ → Type 0
NoneMatch table p c s part found =
    (vs : List Value) (b : Binding) → PartIs s part (collection (collection_of c) (items_of vs)) → Stands s found b → Lacks b (collection_of c) (pattern_at (records table) p) vs

-- An item that is lacked ends it; the other answers promise nothing.
abbrev pub TellsAsked : List ℕ → ℕ → List ℕ → Part → List ℕ → Result Bool Lacking → Type 0
TellsAsked table p s part found r = (e : Lacking) → r ≡ Err e → NoMatch table p s part found

abbrev pub TellsLacked : List ℕ → ℕ → ℕ → List ℕ → Part → List ℕ → Result Bool Lacking → Type 0
TellsLacked table p c s part found r = (e : Lacking) → r ≡ Err e → NoneMatch table p c s part found

abbrev pub TellsFit : List ℕ → ℕ → List ℕ → Part → List ℕ → Bool → Type 0
TellsFit table p s part found r = r ≡ false → NoMatch table p s part found

-- The pattern is a name, and w is its word.
abbrev pub WordAt : List ℕ → ℕ → List ℕ → Option ℕ → Type 0
WordAt table p found r = (w : ℕ) → r ≡ Some w → (w ≡ 0 → ⊥) × (x : ℕ) × (x < names) × (pattern_at (records table) p ≡ name x) × (w ≡ get_or found x 0)
