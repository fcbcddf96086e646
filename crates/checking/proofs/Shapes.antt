-- What a kind by itself tells the pass: what its operands are for, and what its records hold.
use mathlib.Core.Path.{◌≡◌, refl, sym, ap, subst, ◌∙◌}
use mathlib.Core.Bool.{Bool, true, false, not, ◌||◌, cond}
use mathlib.Core.Logic.{◌⊎◌, ⊎_elim}
use Prim.Native.Nat.{ℕ, ◌≤◌, ◌<◌}
use native.Mathlib.Omega.{arith}
use borrow.Author.Tests.{eqb-true, leb-true, not-true}
use lib.Dec.{eqb}
use lib.ListN.{length, get_or, drop}
use mathlib.Mathlib.Data.Bool.Basic.{and_elim_right}
use Rattle.prelude.proofs.Absurd.{never}
use Rattle.prelude.proofs.Truth.{by_test, implied}
use Rattle.tables.specs.declared.Role.{Role}
use Rattle.tables.specs.declared.Role.TheVariants.{Plain, Condition, Body, Pattern, Name}
use Rattle.tables.specs.Record.{Record, last_kind, shape, size, head_of, is_expression, is_pattern, is_fit, operands, named, role_at}
use Rattle.tables.specs.Sheet.{any, is_binder}
use Rattle.tables.proofs.Laws.Tests.{each}
use Rattle.tables.proofs.Laws.Kinds.{each_kind, not_loose, binder_most, pattern_least}
use Rattle.tables.specs.Shapes.{binder_role}
use Rattle.tables.proofs.Laws.Roles.{role_by, role_by_lem, binder_later}
use Rattle.tables.proofs.Laws.Operands.{operands_few, is_first, binder_roles}
use Rattle.tables.proofs.Laws.Accepted.{named_count, fit_least, fit_kind}
use Rattle.checking.specs.Scopes.{own}
use Rattle.tables.specs.Check.{is_of_sort}
use Rattle.checking.specs.Sweeps.{sort_of, asked, is_named, one_role}
use Rattle.checking.proofs.Below.{own_none}

pub binder_expression : (k : ℕ) → is_binder k ≡ true → is_pattern k ≡ false
binder_expression k e = by_test {P = is_pattern k ≡ false} (is_pattern k) (λ f. absurd (omega (arith, binder_most k e, pattern_least k f))) (λ f. f)

-- ---- what operands are for

-- No record has more operands than its kind has roles.
pub roles_many : (x : Record) → length (named x) ≤ length (shape x.kind).roles
unfolding operands
roles_many x = operands_few (shape x.kind).roles (drop (size (head_of x)) x.fields)

module _ (x : Record) (fit : is_fit x ≡ true) where
  role_told : (i : ℕ) → i < length (named x) → role_by x.kind i ≡ role_at x i
  role_told i h = sym (role_by_lem x.kind i (fit_kind x fit) (omega (arith, roles_many x)))

  pub one_role_lem : is_binder x.kind ≡ false → (i : ℕ) → i < length (named x) → one_role x.kind ≡ role_at x i
  one_role_lem e i h = sym (ap (cond (is_pattern x.kind) Pattern) (rw e)) ∙ role_told i h

  module _ (binds : is_binder x.kind ≡ true) where
    binder_told : (i : ℕ) → i < length (named x) → binder_role x.kind i ≡ role_at x i
    binder_told i h = rw (binder_expression x.kind binds, binds) at (role_told i h)

    pub second_role : 1 < length (named x) → Plain ≡ role_at x 1
    second_role h = binder_told 1 h

    pub body_role : (i : ℕ) → 3 ≤ i → i < length (named x) → Body ≡ role_at x i
    body_role i l h = sym (binder_later x.kind i (λ e. omega arith) (λ e. omega arith) (λ e. omega arith)) ∙ binder_told i h

    -- A binder has three operands or more.
    pub binder_some : 3 ≤ length (named x)
    binder_some =
        let few : 3 ≤ (shape x.kind).least = leb-true 3 _ (and_elim_right (is_first (get_or (shape x.kind).roles 0 Plain)) _ (binder_roles x.kind binds)) in
        omega (arith, named_count x fit, fit_least x fit)

-- ---- what records hold

pub expression_own : (x : Record) → is_pattern x.kind ≡ false → 0 ≡ own x
unfolding shape
expression_own x e = own_none x (λ same. never (sym e ∙ ap is_pattern same)) (not_loose x.kind e)

-- A boolean, an integer, a name that is read and any have no operands, hold nothing and bind nothing.
abbrev pub NoOperand : ℕ → Type 0
NoOperand k = (k < 4) ⊎ (k ≡ 33)

leaf : (test : ℕ → Bool) → any (λ k. not (test k)) 4 ≡ false → test 33 ≡ true → (k : ℕ) → NoOperand k → test k ≡ true
leaf test e f k b = ⊎_elim (λ h. each test 4 e k h) (λ g. subst (λ (j : ℕ). test j ≡ true) (sym g) f) b

pub leaf_none : (x : Record) → NoOperand x.kind → length (named x) ≡ 0
unfolding shape
leaf_none x b =
    omega (arith, roles_many x, eqb-true (length (shape x.kind).roles) 0 (leaf (λ k. eqb (length (shape k).roles) 0) refl refl x.kind b))

pub leaf_own : (x : Record) → NoOperand x.kind → 0 ≡ own x
unfolding shape
leaf_own x b = own_none x (λ e. ⊎_elim (λ h. omega arith) (λ h. omega arith) b) (not-true (shape x.kind).loose (leaf (λ k. not (shape k).loose) refl refl x.kind b))

pub leaf_free : (k : ℕ) → NoOperand k → is_binder k ≡ false
unfolding shape
leaf_free k b = not-true (is_binder k) (leaf (λ k. not (is_binder k)) refl refl k b)

-- ---- sorts

pub sort_literal : (k : ℕ) → k < 3 → 1 ≡ sort_of k
unfolding shape
sort_literal k h = sym (rw (not-true (is_pattern k) (each (λ k. not (is_pattern k)) 3 refl k h)))

pub sort_any : (k : ℕ) → k ≡ 33 → 2 ≡ sort_of k
unfolding shape
sort_any k e = subst (λ (j : ℕ). 2 ≡ sort_of j) (sym e) refl

-- A record of the sort that a role asks for.
expression_plain : (k : ℕ) → k ≤ last_kind → is_expression k ≡ true → is_pattern k ≡ false
unfolding shape
expression_plain k h e =
    not-true (is_pattern k) (implied (is_expression k) (not (is_pattern k)) (each_kind (λ k. not (is_expression k) || not (is_pattern k)) refl k h) e)

expression_sort : (x : Record) → is_fit x ≡ true → is_expression x.kind ≡ true → sort_of x.kind ≡ 1
expression_sort x fit e = rw (expression_plain x.kind (fit_kind x fit) e)

name_sort : (k : ℕ) → k ≡ 32 → sort_of k ≡ 2
unfolding shape
name_sort k e = subst (λ (j : ℕ). sort_of j ≡ 2) (sym e) refl

pub sort_asked : (role : Role) (x : Record) → is_fit x ≡ true → is_of_sort role x.kind ≡ true → sort_of x.kind ≡ asked role
sort_asked Plain x fit e = expression_sort x fit e
sort_asked Condition x fit e = expression_sort x fit e
sort_asked Body x fit e = expression_sort x fit e
sort_asked Pattern x fit e = rw e
sort_asked Name x fit e = name_sort x.kind (eqb-true x.kind 32 e)

pub named_asked : (role : Role) (k : ℕ) → is_of_sort role k ≡ true → is_named role k ≡ true
named_asked Plain k e = refl
named_asked Condition k e = refl
named_asked Body k e = refl
named_asked Pattern k e = refl
named_asked Name k e = e
