-- Numbers of 16 bits and integers as bytes, the lowest byte first, and where they stand in a list of bytes.
use Rattle.std.specs.Prelude.{◌≡◌, List, [], ◌∷◌, cond, ℕ, suc, ◌+◌, ◌-◌, ◌*◌, ◌/◌, ◌%◌, ◌<◌, ltb, ℤ, pos, negsuc, get_or}

-- ---- as bytes

-- the two bytes of 16 bits
abbrev pub pair : ℕ → List ℕ
pair n = n % 256 ∷ n / 256 ∷ []

-- the four bytes of 32 bits: the two of the low half, then the two of the high one
abbrev pub four : ℕ → List ℕ
four n = n % 65536 % 256 ∷ n % 65536 / 256 ∷ n / 65536 % 256 ∷ n / 65536 / 256 ∷ []

-- the bits of an integer in two's complement: n for n, and 2^32 − n for −n
abbrev pub bits_of : ℤ → ℕ
bits_of (pos n) = n
bits_of (negsuc n) = 4294967296 - suc n

abbrev pub integer_bytes : ℤ → List ℕ
integer_bytes z = four (bits_of z)

-- ---- at a place

-- the 16 bits at a place
abbrev pub word : List ℕ → ℕ → ℕ
word s at = get_or s at 0 + 256 * get_or s (at + 1) 0

-- the 32 bits at a place
abbrev pub bits32 : List ℕ → ℕ → ℕ
bits32 s at = word s at + 65536 * word s (at + 2)

-- the integer of 32 bits in two's complement: n is n below 2^31, and from there on −(2^32 − n)
abbrev pub of_bits : ℕ → ℤ
of_bits n = cond (ltb n 2147483648) (pos n) (negsuc (4294967296 - suc n))

-- the integer at a place
abbrev pub integer_at : List ℕ → ℕ → ℤ
integer_at s at = of_bits (bits32 s at)

-- ---- what the readers promise

-- r is the 16 bits at a place
pub record IsWord (s : List ℕ) (at r : ℕ) : Type 0 where
  pub is : r ≡ word s at
  pub low : r < 65536
