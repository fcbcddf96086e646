-- By role.
use Rattle.tables.specs.declared.Role.{Role}
use Rattle.tables.specs.declared.Role.TheVariants.{Plain, Pattern, Name}
use Rattle.tables.specs.Record.{Record}
use Rattle.tables.specs.Accepted.{records}
use mathlib.Core.List.{List}
use Rattle.checking.specs.Scopes.{or_bits, given}
use Prim.Native.Nat.{ℕ}
use native.Mathlib.Omega.{arith}
use mathlib.Core.Logic.{◌⊎◌, ⊎_elim}
use mathlib.Core.Path.{◌≡◌, sym, ap, ◌∙◌}
use Rattle.checking.proofs.scope.given.Goals as goal

-- The other roles add nothing.
nothing : (rs : List Record) (q : ℕ) (x : Role) → (x ≡ Plain) ⊎ ((x ≡ Pattern) ⊎ (x ≡ Name)) → given rs q x ≡ 0
nothing rs q x e = ⊎_elim (λ f. rw f) (⊎_elim (λ f. rw f) (λ f. rw f)) e

pub pattern_bits-requires : goal.pattern_bits-requires
pattern_bits-requires c =
    record { operand = record { here = c.requires.operand.here; has = omega (arith, c.requires.operand.has) }; clear = c.requires.clear; below = c.requires.below }

pub pattern_bits-requires-in-Body : goal.pattern_bits-requires-in-Body
pattern_bits-requires-in-Body c =
    record { operand = record { here = c.requires.operand.here; has = omega (arith, c.requires.operand.has) }; clear = c.requires.clear; below = c.requires.below }

pub returns-in-Plain : goal.returns-in-Plain
returns-in-Plain c = sym (ap (given (records c.args.sheet.now) c.args.q) (sym c.role.ensures) ∙ nothing (records c.args.sheet.now) c.args.q c.role.result c.in-Plain.is)

pub returns-in-Condition : goal.returns-in-Condition
returns-in-Condition c =
    rw (sym c.role.ensures, c.in-Condition.is) (c.union.ensures ∙ ap (λ (k : ℕ). or_bits k 1) c.pattern_bits.ensures)

pub returns-in-Body : goal.returns-in-Body
returns-in-Body c = rw (sym c.role.ensures, c.in-Body.is) c.pattern_bits-in-Body.ensures
