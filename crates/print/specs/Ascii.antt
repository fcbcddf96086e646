-- Text as bytes: the code of each character, in ASCII.
use Rattle.std.specs.Prelude.{List, [] as []ᴸ, ◌∷◌ as ◌∷ᴸ◌, ℕ, ◌+◌}
use Prim.Native.Char.{code}
use Prim.Native.String.{String, [], ◌∷◌}

abbrev pub ascii : String → List ℕ
ascii [] = []ᴸ
ascii (c ∷ s) = code c ∷ᴸ ascii s

-- The digit d, from 0 to 9.
abbrev pub digit : ℕ → ℕ
digit d = code "0" + d

abbrev pub comma : ℕ
comma = code ","

abbrev pub hyphen : ℕ
hyphen = code "-"

abbrev pub equals : ℕ
equals = code "="

abbrev pub exclamation : ℕ
exclamation = code "!"

abbrev pub space : ℕ
space = code " "

abbrev pub newline : ℕ
newline = code "\n"
