-- Rules 1 to 9 by their cases: what they answer, and what follows for each service.
use mathlib.Core.Path.{◌≡◌, refl, sym, ap, ◌∙◌, subst}
use mathlib.Core.Bool.{Bool, true, false, cond}
use mathlib.Core.List.{List}
use Prim.Native.Nat.{ℕ, ◌<◌, ◌≤◌}
use native.Mathlib.Omega.{arith}
use borrow.Author.Tests.{lt-ltb, le-ltb, ltb-false}
use lib.Dec.{ltb}
use Rattle.prelude.proofs.Absurd.{true_false, impossible}
use Rattle.choices.specs.Tree.{Final, refuses}
use Rattle.values.specs.Value.{value_limit as largest}
use Rattle.tables.specs.declared.Rule.{Rule}
use Rattle.tables.specs.declared.Rule.TheVariants.{ScratchTooShort, ResultTooShort}
use Rattle.tables.specs.declared.Fault.{Fault}
use Rattle.tables.specs.Faults.{Checked, faulty, number_of}
use Rattle.std.specs.Prelude.{Ok, Err}
use Rattle.tables.specs.Check.{check}
use Rattle.meaning.specs.Service.{scratch_bytes, unless, accepted}
use Rattle.meaning.specs.Lent.{is_early}
use Rattle.meaning.proofs.Laws.ReadBack.{SmallCheck, small_check}
use Rattle.services.specs.Left.{admits}

pub not_accepted : {X : Type 0} {x : Fault} {m : ℕ} → ◌≡◌ {A = Checked} (Err x) (Ok m) → X
not_accepted e = impossible cc

module _ (scratch buffer : ℕ) (table : List ℕ) where
  pub admits_1 : scratch < scratch_bytes → faulty ScratchTooShort 0 ≡ admits scratch buffer table
  admits_1 h = sym (rw (lt-ltb scratch scratch_bytes h))

  pub admits_2 : scratch_bytes ≤ scratch → buffer < largest → faulty ResultTooShort 0 ≡ admits scratch buffer table
  admits_2 h k = sym (rw (le-ltb scratch scratch_bytes h, lt-ltb buffer largest k))

  pub admits_9 : scratch_bytes ≤ scratch → largest ≤ buffer → check table ≡ admits scratch buffer table
  admits_9 h k = sym (rw (le-ltb scratch scratch_bytes h, le-ltb buffer largest k))

  -- The services' definitions order the rules so.
  by_rules : {A : Type 0} (f : ℕ → Final A) → unless (ltb scratch scratch_bytes) 1 (unless (ltb buffer largest) 2 (accepted (check table) f)) ≡ accepted (admits scratch buffer table) f
  by_rules f = go (ltb scratch scratch_bytes) (ltb buffer largest)
    where
      go : (a b : Bool) → unless a 1 (unless b 2 (accepted (check table) f)) ≡ accepted (cond a (faulty ScratchTooShort 0) (cond b (faulty ResultTooShort 0) (check table))) f
      go true b = refl
      go false true = refl
      go false false = refl

  pub accepted_due : {A : Type 0} (n : ℕ) → admits scratch buffer table ≡ Ok n → (f : ℕ → Final A) → unless (ltb scratch scratch_bytes) 1 (unless (ltb buffer largest) 2 (accepted (check table) f)) ≡ f n
  accepted_due n e f = by_rules f ∙ ap (λ (x : Checked). accepted x f) e

  pub refused_due : {A : Type 0} (x : Fault) → admits scratch buffer table ≡ Err x → (f : ℕ → Final A) → unless (ltb scratch scratch_bytes) 1 (unless (ltb buffer largest) 2 (accepted (check table) f)) ≡ refuses (number_of x.rule) x.place 0
  refused_due x e f = by_rules f ∙ ap (λ (y : Checked). accepted y f) e

  -- Where the table is accepted, what is lent is long enough.
  pub record Granted (n : ℕ) : Type 0 where
    pub enough : scratch_bytes ≤ scratch
    pub room : largest ≤ buffer
    pub ok : check table ≡ Ok n
    pub few : n ≤ 200

  pub granted : (n : ℕ) → admits scratch buffer table ≡ Ok n → Granted n
  granted n = go (ltb scratch scratch_bytes) (ltb buffer largest) refl refl
    where
      go : (a b : Bool) → ltb scratch scratch_bytes ≡ a → ltb buffer largest ≡ b → cond a (faulty ScratchTooShort 0) (cond b (faulty ResultTooShort 0) (check table)) ≡ Ok n → Granted n
      go true b e f g = impossible cc
      go false true e f g = impossible cc
      go false false e f g = record { enough = ltb-false scratch scratch_bytes e; room = ltb-false buffer largest f; ok = g; few = subst SmallCheck g (small_check table) }

  -- A refusal's number and place can be packed; its number tells whether what is lent is long enough.
  pub record Refuses (n p : ℕ) : Type 0 where
    pub number : n ≤ 9
    pub place : p < 600
    pub long : is_early n ≡ false → (scratch_bytes ≤ scratch) × (largest ≤ buffer)

  refuses_rule : (x : Fault) → admits scratch buffer table ≡ Err x → Refuses (number_of x.rule) x.place
  refuses_rule x = go (ltb scratch scratch_bytes) (ltb buffer largest) refl refl
    where
      early : (r : Rule) → number_of r ≤ 9 → is_early (number_of r) ≡ true → ◌≡◌ {A = Checked} (faulty r 0) (Err x) → Refuses (number_of x.rule) x.place
      early r u h g =
          let same : record { rule = r; place = 0 } ≡ x = cc in
          let told : number_of r ≡ number_of x.rule = ap (λ (y : Fault). number_of y.rule) same in
          let none : 0 ≡ x.place = ap (λ (y : Fault). y.place) same in
          record { number = omega (arith, u, told); place = omega (arith, none); long = λ l. true_false (sym h ∙ ap is_early told ∙ l) }

      go : (a b : Bool) → ltb scratch scratch_bytes ≡ a → ltb buffer largest ≡ b → cond a (faulty ScratchTooShort 0) (cond b (faulty ResultTooShort 0) (check table)) ≡ Err x → Refuses (number_of x.rule) x.place
      go true b e f g = early ScratchTooShort (omega arith) refl g
      go false true e f g = early ResultTooShort (omega arith) refl g
      go false false e f g =
          let small = subst SmallCheck g (small_check table) in
          record { number = small.1; place = small.2; long = λ l. (ltb-false scratch scratch_bytes e, ltb-false buffer largest f) }

  pub refused : (x : Fault) → admits scratch buffer table ≡ Err x → (n : ℕ) → n ≡ number_of x.rule → Refuses n x.place
  refused x e n q = subst (λ (m : ℕ). Refuses m x.place) (sym q) (refuses_rule x e)
