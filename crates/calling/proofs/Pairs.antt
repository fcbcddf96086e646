-- Integers as the machine reads and writes them: operands that were read, and answers that were computed.
use mathlib.Core.Path.{◌≡◌, sym, ap, subst, ◌∙◌}
use mathlib.Core.List.{List}
use Prim.Native.Nat.{ℕ, ◌+◌}
use lib.IntN.{ℤ}
use mir.Syntax.{w32}
use mir.Val.{SFits, to_z, of_z}
use mir.Facts.{to_z-of_z}
use Rattle.integers.specs.Whole.{Number, InRange}
use Rattle.integers.proofs.Range.{range_fits}
use Rattle.values.specs.Value.{Value, integer}
use Rattle.values.specs.Place.{At}
use Rattle.values.specs.Contract.{Put}
use Rattle.values.proofs.Records.{integer_range}
use Rattle.operators.specs.Answer.{Answer, is, as_integer, needs_both, FineAnswer}
use Rattle.operators.specs.Arithmetic.{answered}
use Rattle.operators.specs.Operators.{binary}
use Rattle.operator_laws.proofs.Results.{binary_fine}
use Rattle.calling.specs.Applied.{Applied}
use Rattle.std.specs.Prelude.{Ok, Err}
use Rattle.prelude.specs.declared.Refusal.{Refusal}
use Rattle.calling.specs.Scratch.{second}
use Rattle.calling.specs.Applied.{Gives, OnTwo}
use Rattle.calling.specs.Operands.{Pair, PairAt, integers, others}
use Rattle.calling.proofs.Answering.{gives_same, gives_put, two_gives, two_off}

-- an integer by its 32 bits
abbrev pub machine : ℤ → ℤ
machine z = to_z w32 (of_z w32 z)

-- ---- an integer that stands at a place, or is an answer, as the machine reads it

pub place_fits : {s : List ℕ} {at : ℕ} {z : ℤ} → At s at (integer z) → SFits w32 z
place_fits {z = z} a = range_fits z (integer_range a.fine)

number_in : {n : Number} {z : ℤ} → n ≡ Ok z → FineAnswer (answered n) → InRange z
number_in e f = integer_range (subst (λ (m : Number). FineAnswer (answered m)) e f)

exact : {n : Number} {z : ℤ} → n ≡ Ok z → FineAnswer (answered n) → machine z ≡ z
exact {z = z} e f = to_z-of_z (range_fits z (number_in e f))

pub number_range : {n : Number} {z : ℤ} → n ≡ Ok z → FineAnswer (answered n) → InRange (machine z)
number_range e f = subst InRange (sym (exact e f)) (number_in e f)

pub number_gives : {n : Number} {z : ℤ} {s t : List ℕ} {base k r : ℕ} → n ≡ Ok z → FineAnswer (answered n) → Put s t base (integer (machine z)) k r → Gives (answered n) s t base (Ok tt)
number_gives e f p = gives_same (ap answered e ∙ ap (λ (x : ℤ). is (integer x)) (sym (exact e f))) (gives_put p)

-- ---- two integers that were read

both_of : {s : List ℕ} {base : ℕ} {a b : ℤ} → PairAt s base (Ok (a, b)) → At s base (integer a) × At s (base + second) (integer b)
both_of (integers x y) = (x, y)

neither_of : {s : List ℕ} {base : ℕ} {e : Refusal} {g : Value → Value → Answer} (f : ℤ → ℤ → Answer) → ((v w : Value) → g v w ≡ needs_both (as_integer v) (as_integer w) f) → PairAt s base (Err e) → OnTwo g s s base (Err e)
neither_of f h (others x) = two_off (λ v w a b. h v w ∙ x v w a b f)

pub integers_read : {s : List ℕ} {base : ℕ} {a b : ℤ} → At s base (integer a) → At s (base + second) (integer b) → PairAt s base (Ok (machine a, machine b))
integers_read {s} {base} x y =
    integers (subst (λ (z : ℤ). At s base (integer z)) (sym (to_z-of_z (place_fits x))) x)
    (subst (λ (z : ℤ). At s (base + second) (integer z)) (sym (to_z-of_z (place_fits y))) y)

module _ {s : List ℕ} {base : ℕ} {p : Pair} (read : PairAt s base p) where
  pub pair_left : {a b : ℤ} → p ≡ Ok (a, b) → At s base (integer (machine a))
  pair_left e = let h = (both_of (subst (PairAt s base) e read)).0 in subst (λ (z : ℤ). At s base (integer z)) (sym (to_z-of_z (place_fits h))) h

  pub pair_right : {a b : ℤ} → p ≡ Ok (a, b) → At s (base + second) (integer (machine b))
  pair_right e = let h = (both_of (subst (PairAt s base) e read)).1 in subst (λ (z : ℤ). At s (base + second) (integer z)) (sym (to_z-of_z (place_fits h))) h

  pub pair_fine : (operator : ℕ) {a b : ℤ} {x : Answer} → p ≡ Ok (a, b) → binary operator (integer (machine a)) (integer (machine b)) ≡ x → FineAnswer x
  pair_fine operator {a} {b} e h =
      subst FineAnswer h (binary_fine operator (integer (machine a)) (integer (machine b)) (pair_left e).fine (pair_right e).fine)

  pub pair_gives : {f : Value → Value → Answer} {a b : ℤ} {t : List ℕ} {r : Applied} {x : Answer} → p ≡ Ok (a, b) → f (integer (machine a)) (integer (machine b)) ≡ x → Gives x s t base r → OnTwo f s t base r
  pair_gives e h g = two_gives (pair_left e) (pair_right e) (gives_same h g)

  pub pair_off : (f : ℤ → ℤ → Answer) {g : Value → Value → Answer} → ((v w : Value) → g v w ≡ needs_both (as_integer v) (as_integer w) f) → {e : Refusal} → p ≡ Err e → OnTwo g s s base (Err e)
  pair_off f h d = neither_of f h (subst (PairAt s base) d read)
