-- Whether some part of a pattern is so, for any test of patterns: by its halves, by all of its parts, and by one of them.
use Rattle.std.specs.Prelude.{◌≡◌, Bool, true, false, length, get_or}
use Rattle.std.proofs.Math.Path.{sym, ap, ap₂}
use Rattle.std.proofs.Common.{◌∙◌, arith}
use Rattle.std.proofs.Math.Bool.{◌||◌, or-false}
use mathlib.Core.List.{List, [], ◌∷◌}
use Prim.Native.Nat.{ℕ, zero, suc, ◌<◌}
use mathlib.Mathlib.Data.Bool.Basic.{or_inl, or_inr}
use Rattle.patterns.specs.Pattern.{Pattern, any, Patterns, nil, cons}
use Rattle.patterns.specs.Read.{patterns_of}

-- A test, and whether some of several patterns passes it.
module _ (test : Pattern → Bool) (some : Patterns → Bool) (none : some nil ≡ false) (more : (p : Pattern) (ps : Patterns) → some (cons p ps) ≡ test p || some ps) where
  pub some_halves : (ps : List Pattern) → length ps ≡ 2 → test (get_or ps 0 any) || test (get_or ps 1 any) ≡ some (patterns_of ps)
  unfolding patterns_of
  some_halves [] e = absurd (omega arith)
  some_halves (p ∷ []) e = absurd (omega arith)
  some_halves (p ∷ q ∷ []) e = sym (more p (cons q nil) ∙ ap (λ (b : Bool). test p || b) (more q nil ∙ ap (λ (b : Bool). test q || b) none ∙ or-false (test q)))
  some_halves (p ∷ q ∷ r ∷ ps) e = absurd (omega arith)

  pub some_at : (ps : List Pattern) (j : ℕ) → j < length ps → test (get_or ps j any) ≡ true → some (patterns_of ps) ≡ true
  unfolding patterns_of
  some_at [] j l e = absurd (omega arith)
  some_at (p ∷ ps) zero l e = more p (patterns_of ps) ∙ or_inl (test p) (some (patterns_of ps)) e
  some_at (p ∷ ps) (suc j) l e = more p (patterns_of ps) ∙ or_inr (test p) (some (patterns_of ps)) (some_at ps j (omega arith) e)

  pub some-none : (ps : List Pattern) → ((j : ℕ) → j < length ps → test (get_or ps j any) ≡ false) → some (patterns_of ps) ≡ false
  unfolding patterns_of
  some-none [] h = none
  some-none (p ∷ ps) h = more p (patterns_of ps) ∙ ap₂ ◌||◌ (h 0 (omega arith)) (some-none ps (λ j l. h (suc j) (omega arith)))
