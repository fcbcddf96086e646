-- What writing consecutive integers asks and promises.
use Rattle.std.specs.Prelude.{List, ℕ, ◌+◌, ◌*◌, ◌≤◌, ℤ, length}
use Rattle.values.specs.Value.{SoundItems, value_limit}
use Rattle.values.specs.Place.{ItemsAt, Outside}
use Rattle.operators.specs.Gather.{up_from}

-- There is room at a place for n integers, from a given one up, which take 8 bytes each.
pub record IntegersRoom (s : List ℕ) (at : ℕ) (from : ℤ) (n : ℕ) : Type 0 where
  pub room : at + 8 * n ≤ length s
  pub few : 8 * n ≤ value_limit
  pub fine : SoundItems (up_from from n)

-- n integers, from a given one up, stand at a place.
pub record PutIntegers (s t : List ℕ) (at : ℕ) (from : ℤ) (n : ℕ) : Type 0 where
  pub outside : Outside s t at (at + 8 * n)
  pub here : ItemsAt t at (at + 8 * n) (up_from from n)

-- There is room at base for a value; the set of n integers that is asked for may be larger.
pub record CountingRoom (s : List ℕ) (base : ℕ) (from : ℤ) (n : ℕ) : Type 0 where
  pub room : base + value_limit ≤ length s
  pub few : n ≤ 4294967296
  pub fine : SoundItems (up_from from n)
