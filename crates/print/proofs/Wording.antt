-- The constant table has the words of 20 to 31: its rule is one equation, computed over all its rows. They are short.
use mathlib.Core.Path.{◌≡◌, refl, sym, ap}
use mathlib.Core.List.{List, [], ◌∷◌, map as each}
use Prim.Native.Nat.{ℕ, ◌-◌, ◌≤◌}
use native.Mathlib.Omega.{arith}
use borrow.Author.Tests.{leb-true}
use denote.Bor.{Bor}
use lib.Dec.{leb}
use lib.ListN.{length, get_or, get_or-map, get_or-eq_default}
use Rattle.prelude.specs.declared.Refusal.{Refusal}
use Rattle.prelude.specs.declared.Refusal.TheVariants.{WrongKind, OutOfRange, ByZero, NoMatch, NoBinding, NotUnique, NotThere, Clash, TooLarge, TooLargeToSplit, TooManyBindings, TooManyChoices, ListTooShort, EntryTooHigh, EntriesLeft}
use Rattle.prelude.specs.Refusals.{number_of}
use Rattle.tables.proofs.Laws.Tests.{each as for_each}
use Rattle.print.specs.Ascii.{ascii}
use Rattle.print.specs.Text.{words, refusal_word}

abbrev spell : Bor (List ℕ) → List ℕ
spell row = row.now

abbrev row : ℕ × ℕ → List ℕ → Bor (List ℕ)
row place letters = record { ref_ptr = place; now = letters }

-- The code's table, wherever the letters of its rows stand.
abbrev rows : (ℕ → ℕ × ℕ) → List (Bor (List ℕ))
rows place =
    row (place 0) (ascii "kind")
    ∷ row (place 1) (ascii "range")
    ∷ row (place 2) (ascii "zero")
    ∷ row (place 3) (ascii "no-match")
    ∷ row (place 4) (ascii "no-binding")
    ∷ row (place 5) (ascii "not-unique")
    ∷ row (place 6) (ascii "absent")
    ∷ row (place 7) (ascii "clash")
    ∷ row (place 8) (ascii "large")
    ∷ row (place 9) (ascii "split")
    ∷ row (place 10) (ascii "bindings")
    ∷ row (place 11) (ascii "choices") ∷ []

-- every row spells its word
pub all_words : (place : ℕ → ℕ × ℕ) → each spell (rows place) ≡ words
all_words place = refl

pub spelled : (table : List (Bor (List ℕ))) (j : ℕ) (other : Bor (List ℕ)) → (get_or table j other).now ≡ get_or (each spell table) j other.now
spelled table j other = sym (get_or-map spell table j other)

module _ (x : ℕ) where
  pub word_of : (place : ℕ → ℕ × ℕ) → get_or (each spell (rows place)) (x - 20) [] ≡ refusal_word x
  unfolding refusal_word
  word_of place = ap (λ (ws : List (List ℕ)). get_or ws (x - 20) []) (all_words place)

  -- past the rows there is no word
  pub no_word : 12 ≤ x - 20 → [] ≡ refusal_word x
  unfolding refusal_word
  no_word h = sym (get_or-eq_default words [] h)

short : (n : ℕ) → n ≤ 34 → length (refusal_word n) ≤ 10
unfolding refusal_word
short n h = leb-true _ _ (for_each (λ j. leb (length (get_or words j [])) 10) 15 refl (n - 20) (omega arith))

pub number_most : (q : Refusal) → number_of q ≤ 34
number_most WrongKind = omega arith
number_most OutOfRange = omega arith
number_most ByZero = omega arith
number_most NoMatch = omega arith
number_most NoBinding = omega arith
number_most NotUnique = omega arith
number_most NotThere = omega arith
number_most Clash = omega arith
number_most TooLarge = omega arith
number_most TooLargeToSplit = omega arith
number_most TooManyBindings = omega arith
number_most TooManyChoices = omega arith
number_most ListTooShort = omega arith
number_most EntryTooHigh = omega arith
number_most EntriesLeft = omega arith

pub word_short : (q : Refusal) → length (refusal_word (number_of q)) ≤ 10
word_short q = short (number_of q) (number_most q)
