-- What a collection's text begins and ends with, by the number of its kind.
use mathlib.Core.Path.{◌≡◌, refl, sym, ap, ◌∙◌}
use mathlib.Core.Bool.{Bool}
use Prim.Native.Nat.{ℕ}
use Rattle.values.specs.Value.{Kind, set, sequence, map, tuple, number}
use Rattle.values.proofs.Order.{number_inj}
use Rattle.print.specs.Ascii.{ascii}
use Rattle.print.specs.Contract.{opening, closing_bracket}

pub opening_of : (j k : Kind) (b : Bool) {n : ℕ} → n ≡ number j → n ≡ number k → opening j b ≡ opening k b
opening_of j k b e f = ap (λ (i : Kind). opening i b) (number_inj j k (sym e ∙ f))

pub closing_of : (j k : Kind) {n : ℕ} → n ≡ number j → n ≡ number k → closing_bracket j ≡ closing_bracket k
closing_of j k e f = ap closing_bracket (number_inj j k (sym e ∙ f))

-- neither 3, 4 nor 6: a map
pub opening_else : (k : Kind) (b : Bool) {n : ℕ} → (n ≡ 3 → ⊥) → (n ≡ 4 → ⊥) → (n ≡ 6 → ⊥) → n ≡ number k → opening map b ≡ opening k b
opening_else set b f g h e = absurd (f e)
opening_else sequence b f g h e = absurd (g e)
opening_else map b f g h e = refl
opening_else tuple b f g h e = absurd (h e)

-- neither 4 nor 6: a set or a map
pub closing_else : (k : Kind) {n : ℕ} → (n ≡ 4 → ⊥) → (n ≡ 6 → ⊥) → n ≡ number k → ascii "}" ≡ closing_bracket k
closing_else set g h e = refl
closing_else sequence g h e = absurd (g e)
closing_else map g h e = refl
closing_else tuple g h e = absurd (h e)
