-- A match in the making, as words for parts of values in a slice, and a pattern more.
use Rattle.std.specs.Prelude.{◌≡◌, Bool, true, false, List, [], ◌∷◌, ℕ, ◌%◌, ◌<◌, length, get_or}
use Rattle.values.specs.Value.{Value}
use Rattle.tables.specs.Accepted.{records}
use Rattle.parts.specs.Part.{PartIs, CellIs}
use Rattle.parts.specs.Word.{unpacked}
use Rattle.patterns.specs.Members.{Alike}
use Rattle.patterns.specs.Binding.{Binding, names, cell_of, with_each}
use Rattle.patterns.specs.Pattern.{Pattern, name, matches}
use Rattle.patterns.specs.Read.{pattern_at}

-- The words stand for the binding b: a word for each name that has a value, 0 for the others.
pub record Stands (s found : List ℕ) (b : Binding) : Type 0 where
  pub sized : length found ≡ names
  pub binding_sized : length b ≡ names
  pub cells : (x : ℕ) → x < names → CellIs s (unpacked (get_or found x 0)) (cell_of b x)
  pub blank : (x : ℕ) → x < names → get_or found x 0 % 4 ≡ 0 → get_or found x 0 ≡ 0

abbrev pub Standing : List ℕ → List ℕ → Type 0
Standing s found = (b : Binding) × Stands s found b

-- The pattern p met v. It agrees: the words now stand for b with what p gives, which is one binding however often it is given; or nothing
-- agrees with b.
pub record Went (s : List ℕ) (b : Binding) (p : Pattern) (v : Value) (after : List ℕ) (agrees : Bool) : Type 0 where
  pub good : agrees ≡ true → (q : Binding) × Alike (with_each b (matches p v)) (q ∷ []) × Stands s after q
  pub bad : agrees ≡ false → with_each b (matches p v) ≡ []

-- Words that are there stay.
pub record Grown (before after : List ℕ) : Type 0 where
  pub sized : length after ≡ length before
  pub stays : (x : ℕ) → (get_or before x 0 ≡ 0 → ⊥) → get_or after x 0 ≡ get_or before x 0

abbrev pub Named : List ℕ → ℕ → ℕ → List ℕ → List ℕ → Bool → Type 0
Named s x word found after agrees = (v : Value) (b : Binding) → PartIs s (unpacked word) v → Stands s found b → Went s b (name x) v after agrees

abbrev pub LeafTold : List ℕ → ℕ → List ℕ → ℕ → List ℕ → List ℕ → Bool → Type 0
LeafTold table p s word found after agrees = (v : Value) (b : Binding) → PartIs s (unpacked word) v → Stands s found b → Went s b (pattern_at (records table) p) v after agrees
