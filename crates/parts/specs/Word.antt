-- A word: a part packed into 32 bits. 0 is no part.
use Rattle.std.specs.Prelude.{◌≡◌, List, ℕ, zero, suc, ◌/◌, ◌%◌, ◌<◌}
use Rattle.std.specs.declared.cmp.Ordering.{Ordering}
use Rattle.patterns.specs.Binding.{Cell, order_cells}
use Rattle.parts.specs.declared.How.{How}
use Rattle.parts.specs.declared.How.TheVariants.{Nothing, Whole, Units, Span}
use Rattle.parts.specs.declared.Part.{Part}
use Rattle.parts.specs.Part.{CellIs}

-- The part that a word stands for: how in the lowest two bits, then 17 bits of the place, then the mask, or the size of a span.
abbrev pub how_of : ℕ → How
how_of zero = Nothing
how_of (suc zero) = Whole
how_of (suc (suc zero)) = Units
how_of (suc (suc (suc n))) = Span

abbrev pub code_of : How → ℕ
code_of Nothing = 0
code_of Whole = 1
code_of Units = 2
code_of Span = 3

abbrev pub unpacked : ℕ → Part
unpacked n = record { at = n / 4 % 131072; extent = n / 4 / 131072; how = how_of (n % 4) }

-- Something is said of a name by a part.
abbrev pub CellHeld : List ℕ → Part → Type 0
CellHeld s p = (c : Cell) × CellIs s p c

-- n stands for what a part stands for, and fits 28 bits.
pub record WordOf (s : List ℕ) (p : Part) (n : ℕ) : Type 0 where
  pub is : (c : Cell) → CellIs s p c → CellIs s (unpacked n) c
  pub small : n < 268435456
  pub blank : n % 4 ≡ 0 → n ≡ 0

-- A word that says something of a name; that of no part is 0.
pub record WordHeld (s : List ℕ) (n : ℕ) : Type 0 where
  pub cell : Cell
  pub is : CellIs s (unpacked n) cell
  pub blank : n % 4 ≡ 0 → n ≡ 0

-- o is the order of what two words say
abbrev pub OrderedWords : List ℕ → ℕ → ℕ → Ordering → Type 0
OrderedWords s a b o = (x y : Cell) → CellIs s (unpacked a) x → CellIs s (unpacked b) y → o ≡ order_cells x y
