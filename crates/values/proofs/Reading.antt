-- What a record that stands somewhere gives the code that reads it.
use mathlib.Core.Path.{◌≡◌, sym, ap, subst, ◌∙◌}
use mathlib.Core.Bool.{Bool}
use mathlib.Core.List.{List}
use Prim.Native.Nat.{ℕ, ◌+◌, ◌≤◌}
use native.Mathlib.Omega.{arith}
use lib.Dec.{eqb}
use lib.IntN.{ℤ}
use lib.ListN.{length, get_or}
use Rattle.integers.specs.Bytes.{word, integer_at}
use Rattle.values.specs.Value.{set, sequence, map, tuple, Value, boolean, integer, quote, collection, kind_of, size}
use Rattle.values.specs.Place.{At, Holds}
use Rattle.values.specs.Contract.{Length, KindAt, NumberAt}
use Rattle.values.proofs.Encoding.{bool_back}
use Rattle.values.proofs.Records.{word_size, word_kind, boolean_at, integer_at_lem, quote_at, is_boolean, is_integer, is_quote, held_as}

-- ---- length and kind

pub length_is : {s : List ℕ} {at r : ℕ} → r ≡ word s at → Holds s at → Length s at r
length_is e h = record { is = e; low = omega arith; high = omega arith; right = λ v a. e ∙ word_size a }

kind_range : (v : Value) → (1 ≤ kind_of v) × (kind_of v ≤ 7)
kind_range (boolean b) = (omega arith, omega arith)
kind_range (integer z) = (omega arith, omega arith)
kind_range (quote n) = (omega arith, omega arith)
kind_range (collection set vs) = (omega arith, omega arith)
kind_range (collection sequence vs) = (omega arith, omega arith)
kind_range (collection map vs) = (omega arith, omega arith)
kind_range (collection tuple vs) = (omega arith, omega arith)

pub kind_is : {s : List ℕ} {at r : ℕ} → r ≡ word s (at + 2) → Holds s at → KindAt s at r
kind_is e h =
    let k = word_kind h.here in
    let g = kind_range h.value in
    record { is = e; low = omega arith; high = omega arith; right = λ v a. e ∙ word_kind a }

-- ---- contents

module _ {s : List ℕ} {at : ℕ} (h : Holds s at) where
  pub boolean_room : word s (at + 2) ≡ 1 → at + 5 ≤ length s
  unfolding size
  boolean_room e = let (b, a) = held_as boolean is_boolean h e in let f : at + 5 ≤ length s = a.fits in f

  pub integer_room : word s (at + 2) ≡ 2 → at + 8 ≤ length s
  unfolding size
  integer_room e = let (z, a) = held_as integer is_integer h e in let f : at + 8 ≤ length s = a.fits in f

  pub quote_room : word s (at + 2) ≡ 7 → at + 6 ≤ length s
  unfolding size
  quote_room e = let (n, a) = held_as quote is_quote h e in let f : at + 6 ≤ length s = a.fits in f

  pub boolean_here : word s (at + 2) ≡ 1 → At s at (boolean (eqb (get_or s (at + 4) 0) 1))
  boolean_here e =
      let (b, a) = held_as boolean is_boolean h e in
      subst (λ (x : Bool). At s at (boolean x)) (sym (ap (λ (n : ℕ). eqb n 1) (boolean_at a) ∙ bool_back b)) a

  pub integer_here : {r : ℤ} → word s (at + 2) ≡ 2 → r ≡ integer_at s (at + 4) → At s at (integer r)
  integer_here e d = let (z, a) = held_as integer is_integer h e in subst (λ (x : ℤ). At s at (integer x)) (sym (d ∙ integer_at_lem a)) a

  pub quote_here : {r : ℕ} → word s (at + 2) ≡ 7 → r ≡ word s (at + 4) → At s at (quote r)
  quote_here e d = let (n, a) = held_as quote is_quote h e in subst (λ (x : ℕ). At s at (quote x)) (sym (d ∙ quote_at a)) a

-- ---- numbers

-- the number of a boolean is its byte, and that of a quote its two bytes
pub boolean_number : {s : List ℕ} {at : ℕ} → word s (at + 2) ≡ 1 → NumberAt s at (get_or s (at + 4) 0)
boolean_number e = record { truth = λ b a. boolean_at a; own = λ n a. absurd (omega (arith, word_kind a)) }

pub quote_number : {s : List ℕ} {at r : ℕ} → At s at (quote r) → NumberAt s at r
quote_number h = record { truth = λ b a. absurd (omega (arith, word_kind h, word_kind a)); own = λ n a. sym (quote_at h) ∙ quote_at a }
