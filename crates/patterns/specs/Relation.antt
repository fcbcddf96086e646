-- When a pattern matches a value with a binding, as source 001 (PatternMatch, SetChop, EnvMerge and UnionMatch) and document 01 say it, with
-- no list of all ways. Matched proves that `matches` lists exactly these bindings.
use Rattle.std.specs.Prelude.{◌≡◌, List, [], ◌∷◌, ◌++◌, ℕ, ◌<◌, length}
use Rattle.values.specs.Value.{Kind, set, sequence, map as mapping, tuple, Value, collection}
use Rattle.values.specs.Entries.{Entry}
use Rattle.patterns.specs.Units.{Parted, Permuted}
use Rattle.patterns.specs.Binding.{Cell, free, is, clash, Binding, names, nothing, only, cell_of}
use Rattle.patterns.specs.Pattern.{Pattern, name, any, literal, each, halved, Patterns, nil, cons, parts, items_of, entries_of, items_in}

-- ---- two bindings together

-- What two bindings say of one name: nothing; or what one of them says; or what both say, if that is the same value.
abbrev pub Agree : Cell → Cell → Cell → Type 0
Agree free free c = c ≡ free
Agree free (is w) c = c ≡ is w
Agree free clash c = ⊥
Agree (is v) free c = c ≡ is v
Agree (is v) (is w) c = (v ≡ w) × (c ≡ is v)
Agree (is v) clash c = ⊥
Agree clash a c = ⊥

-- The third binding says of each name what the first two say.
pub record Joined (a b c : Binding) : Type 0 where
  pub sized : length c ≡ names
  pub agreed : (x : ℕ) → x < names → Agree (cell_of a x) (cell_of b x) (cell_of c x)

-- ---- what the parts of a pattern meet

-- A set's members or a map's entries in some order; a tuple's and a sequence's items in their own.
abbrev pub Arranged : Kind → List Value → List Value → Type 0
Arranged set vs ws = Permuted vs ws
Arranged sequence vs ws = ws ≡ vs
Arranged mapping vs ws = (es : List Entry) × Permuted (entries_of vs) es × (ws ≡ items_in mapping es)
Arranged tuple vs ws = ws ≡ vs

-- Two disjoint sets that are the set together, or two maps with the map's entries, neither of them empty; two sequences that are the sequence one after
-- the other, empty ones too.
abbrev pub Divided : Kind → List Value → List Value → List Value → Type 0
Divided set vs ls rs = Parted vs ls rs
Divided sequence vs ls rs = vs ≡ ls ++ rs
Divided mapping vs ls rs = (es fs : List Entry) × Parted (entries_of vs) es fs × (ls ≡ items_in mapping es) × (rs ≡ items_in mapping fs)
Divided tuple vs ls rs = ⊥

-- ---- matching

unfoldable mutual
  -- The pattern matches the value with this binding.
  pub Matches : Pattern → Value → Binding → Type 0
  Matches (name x) v b = b ≡ only x v
  Matches any v b = b ≡ nothing
  Matches (literal w) v b = (v ≡ w) × (b ≡ nothing)
  Matches (each k ps) v b = (vs ws : List Value) × (v ≡ collection k (items_of vs)) × (parts ps ≡ length vs) × Arranged k vs ws × MatchesEach ps ws b
  Matches (halved k p q) v b =
      (vs ls rs : List Value) × (c d : Binding) × (v ≡ collection k (items_of vs)) × Divided k vs ls rs
      × Matches p (collection k (items_of ls)) c × Matches q (collection k (items_of rs)) d × Joined c d b

  -- Each pattern matches the value at its place, with one binding for all.
  pub MatchesEach : Patterns → List Value → Binding → Type 0
  MatchesEach nil vs b = b ≡ nothing
  MatchesEach (cons p ps) [] b = ⊥
  MatchesEach (cons p ps) (v ∷ vs) b = (c d : Binding) × Matches p v c × MatchesEach ps vs d × Joined c d b
