-- What each operand of each kind is for, by tests: one test that is computed over all kinds and their operands.
use Rattle.std.specs.Prelude.{◌≡◌, refl, not, cond, ℕ, zero, suc, ◌≤◌, ◌<◌, eqb, length, get_or}
use Rattle.std.proofs.Common.{sym, ap, ◌∙◌, arith, eqb-true}
use Rattle.std.proofs.lemmas.Bool.{not-false}
use Rattle.tables.specs.declared.Role.{Role}
use Rattle.tables.specs.declared.Role.TheVariants.{Plain, Condition, Body, Pattern, Name}
use Rattle.tables.specs.Record.{last_kind, shape, is_pattern}
use Rattle.tables.specs.Shapes.{roles_of, binder_role}
use Rattle.tables.specs.Sheet.{any, is_binder}
use Rattle.tables.proofs.Laws.Tests.{any_none}

abbrev pub role_by : ℕ → ℕ → Role
role_by kind i = cond (is_pattern kind) Pattern (cond (is_binder kind) (binder_role kind i) Plain)

pub binder_later : (k i : ℕ) → (i ≡ 0 → ⊥) → (i ≡ 1 → ⊥) → (i ≡ 2 → ⊥) → binder_role k i ≡ Body
binder_later k zero a b c = absurd (a refl)
binder_later k (suc zero) a b c = absurd (b refl)
binder_later k (suc (suc zero)) a b c = absurd (c refl)
binder_later k (suc (suc (suc i))) a b c = refl

-- Roles as numbers, to be compared.
abbrev number : Role → ℕ
number Plain = 0
number Condition = 1
number Body = 2
number Pattern = 3
number Name = 4

abbrev role : ℕ → Role
role n = cond (eqb n 0) Plain (cond (eqb n 1) Condition (cond (eqb n 2) Body (cond (eqb n 3) Pattern Name)))

back : (x : Role) → role (number x) ≡ x
back Plain = refl
back Condition = refl
back Body = refl
back Pattern = refl
back Name = refl

pub role_by_lem : (k i : ℕ) → k ≤ last_kind → i < length (roles_of k) → get_or (roles_of k) i Plain ≡ role_by k i
unfolding shape
role_by_lem k i h l =
    sym (back (get_or (roles_of k) i Plain))
    ∙ ap role
    (eqb-true (number (get_or (roles_of k) i Plain)) (number (role_by k i)) (not-false _ (any_none (λ i. not (eqb (number (get_or (roles_of k) i Plain)) (number (role_by k i)))) (length (roles_of k))
    (any_none (λ k. any (λ i. not (eqb (number (get_or (roles_of k) i Plain)) (number (role_by k i)))) (length (roles_of k))) (suc last_kind) refl k (omega arith)) i l)))
    ∙ back (role_by k i)
