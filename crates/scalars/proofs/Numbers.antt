-- The operators by number: what each of a run of numbers is, and what the machine computes of two integers that it read.
use mathlib.Core.Path.{◌≡◌, refl, sym, ap, ap₂, ◌∙◌}
use mathlib.Core.Bool.{Bool}
use Prim.Native.Nat.{ℕ, ◌≤◌}
use native.Mathlib.Omega.{arith}
use lib.IntN.{ℤ}
use lib.Signed.{lt_z, le_z}
use mir.Syntax.{w32}
use mir.Val.{SFits}
use mir.Facts.{to_z-of_z}
use Rattle.integers.specs.Whole.{Number}
use Rattle.integers.specs.Whole as Whole
use Rattle.values.specs.Value.{Value, integer}
use Rattle.operators.specs.Answer.{Answer, as_integer, needs, needs_both}
use Rattle.operators.specs.Booleans.{truth}
use Rattle.operators.specs.Arithmetic.{answered}
use Rattle.operators.specs.Operators.{unary, binary}
use Rattle.calling.proofs.Pairs.{machine}
use Rattle.calling.proofs.Numbered.{end, ◌▹◌, at_each}

-- ---- 7 to 16 ask for two integers

pub record OnIntegers (operator : ℕ) : Type 0 where
  pub f : ℤ → ℤ → Answer
  pub is : (v w : Value) → binary operator v w ≡ needs_both (as_integer v) (as_integer w) f

of_numbers : (operator : ℕ) (f : ℤ → ℤ → Number) → ((v w : Value) → binary operator v w ≡ needs_both (as_integer v) (as_integer w) (λ a b. answered (f a b))) → OnIntegers operator
of_numbers operator f e = record { f = λ a b. answered (f a b); is = e }

of_tests : (operator : ℕ) (f : ℤ → ℤ → Bool) → ((v w : Value) → binary operator v w ≡ needs_both (as_integer v) (as_integer w) (λ a b. truth (f a b))) → OnIntegers operator
of_tests operator f e = record { f = λ a b. truth (f a b); is = e }

pub on_integers : (operator : ℕ) → 7 ≤ operator → operator ≤ 16 → OnIntegers operator
unfolding binary
on_integers operator h g =
    at_each {P = OnIntegers}
    (of_numbers 7 (λ a b. Whole.sum_of a b) (λ v w. refl)
    ▹ of_numbers 8 (λ a b. Whole.difference_of a b) (λ v w. refl)
    ▹ of_numbers 9 (λ a b. Whole.product_of a b) (λ v w. refl)
    ▹ of_numbers 10 (λ a b. Whole.quotient_of a b) (λ v w. refl)
    ▹ of_numbers 11 (λ a b. Whole.remainder_of a b) (λ v w. refl)
    ▹ of_numbers 12 (λ a b. Whole.modulus_of a b) (λ v w. refl)
    ▹ of_tests 13 (λ a b. lt_z a b) (λ v w. refl)
    ▹ of_tests 14 (λ a b. le_z a b) (λ v w. refl)
    ▹ of_tests 15 (λ a b. lt_z b a) (λ v w. refl)
    ▹ of_tests 16 (λ a b. le_z b a) (λ v w. refl)
    ▹ end)
    operator h (omega arith)

-- ---- 2 and 3 ask for an integer

pub record OnInteger (operator : ℕ) : Type 0 where
  pub f : ℤ → Answer
  pub is : (v : Value) → unary operator v ≡ needs (as_integer v) f

pub on_integer : (operator : ℕ) → 2 ≤ operator → operator ≤ 3 → OnInteger operator
unfolding unary
on_integer operator h g =
    at_each {P = OnInteger}
    (record { f = λ a. answered (Whole.negation_of a); is = λ v. refl }
    ▹ record { f = λ a. answered (Whole.absolute_of a); is = λ v. refl }
    ▹ end)
    operator h (omega arith)

-- ---- an operator that has the number n, of integers as the machine reads them

pub by_unary : (n operator : ℕ) (f : ℤ → Answer) {x : ℤ} {a : Answer} → operator ≡ n → unary n (integer x) ≡ f x → SFits w32 x → a ≡ f (machine x) → unary operator (integer x) ≡ a
by_unary n operator f {x} e b p h = ap (λ (k : ℕ). unary k (integer x)) e ∙ b ∙ sym (h ∙ ap f (to_z-of_z p))

pub by_binary : (n operator : ℕ) (f : ℤ → ℤ → Answer) {x y : ℤ} {a : Answer} → operator ≡ n → binary n (integer x) (integer y) ≡ f x y → SFits w32 x → SFits w32 y → a ≡ f (machine x) (machine y) → binary operator (integer x) (integer y) ≡ a
by_binary n operator f {x} {y} e b p q h = ap (λ (k : ℕ). binary k (integer x) (integer y)) e ∙ b ∙ sym (h ∙ ap₂ f (to_z-of_z p) (to_z-of_z q))
