-- A collection's text as the code writes it: what it begins with, each item after what stands before it, what it ends with. And how long a text is.
use mathlib.Core.Path.{◌≡◌, refl, sym, ap, ◌∙◌}
use mathlib.Core.Bool.{Bool, true, false}
use mathlib.Core.List.{List, ◌∷◌, ◌++◌, append_assoc}
use Prim.Native.Nat.{ℕ, suc, ◌+◌, ◌*◌, ◌≤◌, ◌<◌}
use native.Mathlib.Omega.{arith}
use lib.IntN.{ℤ, pos, negsuc}
use lib.ListN.{length, length-append}
use Rattle.integers.specs.Whole.{InRange}
use Rattle.values.specs.Value.{Kind, set, sequence, map, tuple, Value, boolean, integer, quote, collection, Items, none, more, size, sizes, Shaped, PairedFrom, Paired, Sound, SoundItems}
use Rattle.print.specs.declared.Separator.{Separator}
use Rattle.print.specs.declared.Separator.TheVariants.{Nothing, Comma, Arrow}
use Rattle.print.specs.Ascii.{ascii, comma}
use Rattle.print.specs.Text.{integer_text, truth_text, quote_text, decimal, continued, comma_joined, pair_texts, entries_text, arrow, text, texts}
use Rattle.print.specs.Contract.{separator_text, following, spelled, opening, closing_bracket}
use Rattle.integers.proofs.Range.{range_fits}
use Rattle.values.proofs.Entries.{by_entries}
use Rattle.print.proofs.Decimals.{decimal_quote, decimal_integer}

-- ---- items joined by commas

spelled_continued : (vs : Items) → spelled false Comma vs ≡ continued (texts vs)
unfolding spelled text
spelled_continued none = refl
spelled_continued (more v vs) = ap (λ (l : List ℕ). (comma ∷ text v) ++ l) (spelled_continued vs)

pub spelled_joined : (vs : Items) → spelled false Nothing vs ≡ comma_joined (texts vs)
unfolding spelled text
spelled_joined none = refl
spelled_joined (more v vs) = ap (λ (l : List ℕ). text v ++ l) (spelled_continued vs)

-- ---- entries

-- a key, the arrow and a value
entry : (x y z : List ℕ) → x ++ ((arrow ++ y) ++ z) ≡ ((x ++ arrow) ++ y) ++ z
entry x y z = simp append_assoc

pairs_continued : (vs : Items) → Paired vs → spelled true Comma vs ≡ continued (pair_texts (texts vs))
unfolding spelled text
pairs_continued =
    by_entries (λ vs. spelled true Comma vs ≡ continued (pair_texts (texts vs))) refl
    λ k v vs p e. entry (comma ∷ text k) (text v) (spelled true Comma vs) ∙ ap (λ (l : List ℕ). ((comma ∷ text k) ++ arrow ++ text v) ++ l) e

pub spelled_entries : (v : Value) (vs : Items) → Paired (more v vs) → spelled true Nothing (more v vs) ≡ entries_text (texts (more v vs))
unfolding spelled text PairedFrom
spelled_entries k none h = absurd h
spelled_entries k (more v vs) h =
    entry (text k) (text v) (spelled true Comma vs) ∙ ap (λ (l : List ℕ). (text k ++ arrow ++ text v) ++ l) (pairs_continued vs h)

-- ---- a collection

abbrev pub is_none : Items → Bool
is_none none = true
is_none (more v vs) = false

abbrev pub is_map : Kind → Bool
is_map set = false
is_map sequence = false
is_map map = true
is_map tuple = false

pub text_is : (k : Kind) (vs : Items) → Shaped k vs → text (collection k vs) ≡ (opening k (is_none vs) ++ spelled (is_map k) Nothing vs) ++ closing_bracket k
unfolding spelled text
text_is set vs h = ap (λ (l : List ℕ). (opening set false ++ l) ++ closing_bracket set) (sym (spelled_joined vs))
text_is sequence vs h = ap (λ (l : List ℕ). (opening sequence false ++ l) ++ closing_bracket sequence) (sym (spelled_joined vs))
text_is map none h = refl
text_is map (more v vs) h = ap (λ (l : List ℕ). (opening map false ++ l) ++ closing_bracket map) (sym (spelled_entries v vs h.0))
text_is tuple vs h = ap (λ (l : List ℕ). (opening tuple false ++ l) ++ closing_bracket tuple) (sym (spelled_joined vs))

-- ---- how long

pub before_short : (x : Separator) → length (separator_text x) ≤ 3
before_short Nothing = omega arith
before_short Comma = omega arith
before_short Arrow = omega arith

pub opening_short : (k : Kind) (b : Bool) → length (opening k b) ≤ 4
opening_short set b = omega arith
opening_short sequence b = omega arith
opening_short map true = omega arith
opening_short map false = omega arith
opening_short tuple b = omega arith

closing_one : (k : Kind) → length (closing_bracket k) ≡ 1
closing_one set = refl
closing_one sequence = refl
closing_one map = refl
closing_one tuple = refl

pub truth_short : (b : Bool) → length (truth_text b) ≤ 5
truth_short true = omega arith
truth_short false = omega arith

pub integer_short : (z : ℤ) → InRange z → length (integer_text z) ≤ 11
integer_short (pos n) h =
    let f : n < 2147483648 = (range_fits (pos n) h).sfits in
    let d = decimal_integer n (omega arith) in
    omega arith
integer_short (negsuc n) h =
    let f : n < 2147483648 = (range_fits (negsuc n) h).sfits in
    let d = decimal_integer (suc n) (omega arith) in
    omega arith

pub quote_short : (n : ℕ) → n < 65536 → length (quote_text n) ≤ 7
quote_short n h = omega (arith, decimal_quote n h, length-append (decimal n) (ascii ">"))

mutual
  unfolding size Sound spelled text

  -- THEOREM: a text has at least 3 bytes less than twice its record
  pub text_short : (v : Value) → Sound v → length (text v) + 3 ≤ 2 * size v
  text_short (boolean b) h = let e = truth_short b in omega arith
  text_short (integer z) h = let e = integer_short z h in omega arith
  text_short (quote n) h = let e = quote_short n h in omega arith
  text_short (collection k vs) h =
      let e = ap length (text_is k vs h.0) in
      let xs = opening k (is_none vs) in
      let ys = spelled (is_map k) Nothing vs in
      let f = spelled_short (is_map k) Nothing vs h.1 in
      omega (arith, length-append (xs ++ ys) (closing_bracket k), length-append xs ys, opening_short k (is_none vs), closing_one k)

  pub spelled_short : (for_map : Bool) (x : Separator) (vs : Items) → SoundItems vs → length (spelled for_map x vs) ≤ 2 * sizes vs
  spelled_short for_map x none h = omega arith
  spelled_short for_map x (more v vs) h =
      let ys = spelled for_map (following for_map x) vs in
      let e = text_short v h.0 in
      let f = spelled_short for_map (following for_map x) vs h.1 in
      omega (arith, length-append (separator_text x ++ text v) ys, length-append (separator_text x) (text v), before_short x)
