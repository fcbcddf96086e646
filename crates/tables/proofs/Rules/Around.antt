-- What lies below a record and what lies around it, in a table that keeps rule 6.
use mathlib.Core.Path.{◌≡◌, refl, sym, ◌∙◌}
use mathlib.Core.Bool.{Bool, true, false, ◌||◌}
use mathlib.Core.Logic.{◌⊎◌, inl, inr, ⊎_elim}
use mathlib.Core.List.{List, map}
use Prim.Native.Nat.{ℕ, zero, suc, ◌+◌, ◌<◌, ◌≤◌}
use native.Mathlib.Omega.{arith}
use lib.ListN.{length}
use mathlib.Mathlib.Data.Bool.Basic.{or_inl, or_inr}
use Rattle.prelude.proofs.Absurd.{never}
use Rattle.prelude.proofs.Truth.{by_lower, or_cases}
use Rattle.tables.specs.Record.{Record, named, operand}
use Rattle.tables.specs.Table.{record_at}
use Rattle.tables.specs.Sheet.{some, any_below}
use Rattle.tables.proofs.Laws.Below.{fold_at}
use Rattle.tables.proofs.Laws.Accepted.{lower, operand_lower, named_all}
use Rattle.tables.specs.Check.{Clear6}
use Rattle.tables.specs.Rules.{Names, Within, itself, below}
use Rattle.tables.proofs.Rules.Tells.{Tells, tells_by, tells_as, tells_or, tells_some, tells_true}
use Rattle.tables.proofs.Rules.Naming.{tells_named}

-- What lies below a record has its operands below it too.
pub within_operand : (rs : List Record) (q a i r : ℕ) → Within rs q a → Names rs q i r → Within rs r a
within_operand rs q a i r itself o = below i r o itself
within_operand rs q a i r (below j n p w) o = below j n p (within_operand rs q n i r w o)

module _ (rs : List Record) (clear6 : Clear6 rs) where
  pub names_lower : (q i n : ℕ) → Names rs q i n → n < q
  names_lower q i n o = omega (arith, o.is, operand_lower rs clear6 q i o.is_record o.is_operand)

  -- ---- below a record

  module _ (test : Record → Bool) where
    -- A record at or below p that passes the test.
    abbrev Found : ℕ → Type 0
    Found p = (q : ℕ) × Within rs q p × (test (record_at rs q) ≡ true)

    at : (p : ℕ) → p < length rs → any_below test rs p ≡ test (record_at rs p) || some (map (any_below test rs) (named (record_at rs p)))
    at p h = fold_at (λ q bs. test (record_at rs q) || some bs) false rs (lower rs clear6) p h

    find : (bound p : ℕ) → p < bound → p < length rs → Tells (any_below test rs p) (Found p)
    find zero p k h = absurd (omega arith)
    find (suc bound) p k h =
        tells_by (at p h)
        (tells_as (tells_or (tells_true (test (record_at rs p))) (tells_some (any_below test rs) Found (named (record_at rs p)) (λ i l. let m : operand (record_at rs p) i < p = operand_lower rs clear6 p i h l in find bound (operand (record_at rs p) i) (omega arith) (omega arith)))) to
        (λ e. let (q, w, f) = e in from p h q w f))
      where
        to : (test (record_at rs p) ≡ true) ⊎ ((i : ℕ) × (i < length (named (record_at rs p))) × Found (operand (record_at rs p) i)) → Found p
        to (inl e) = (p, itself, e)
        to (inr (i, l, (q, w, e))) = (q, below i (operand (record_at rs p) i) (record { is_record = h; is_operand = l; is = refl }) w, e)

        from : (p : ℕ) → p < length rs → (q : ℕ) → Within rs q p → test (record_at rs q) ≡ true → (test (record_at rs p) ≡ true) ⊎ ((i : ℕ) × (i < length (named (record_at rs p))) × Found (operand (record_at rs p) i))
        from p h q itself e = inl e
        from p h q (below i n o w) e = inr (i, o.is_operand, (q, rw o.is w, e))

    pub tells_below : (p : ℕ) → p < length rs → Tells (any_below test rs p) (Found p)
    tells_below p h = find (suc p) p (omega arith) h

  -- ---- above a record

  -- A test that an operand passes where its place tells so or its record passes it, and that the last record does not pass.
  module _ (test : ℕ → Bool) (place : ℕ → ℕ → Bool) (step : (q i : ℕ) → q < length rs → i < length (named (record_at rs q)) → test (operand (record_at rs q) i) ≡ place q i || test q) (top : (r : ℕ) → suc r ≡ length rs → test r ≡ false) where
    -- A record at or above r that is an operand at such a place.
    abbrev Reached : ℕ → Type 0
    Reached r = (q : ℕ) × (i : ℕ) × (n : ℕ) × Names rs q i n × (place q i ≡ true) × Within rs r n

    step_names : (q i n : ℕ) → Names rs q i n → test n ≡ place q i || test q
    step_names q i n o = rw (sym o.is) (step q i o.is_record o.is_operand)

    reach : (bound r : ℕ) → length rs ≤ r + bound → r < length rs → test r ≡ true → Reached r
    reach zero r b h e = absurd (omega arith)
    reach (suc bound) r b h e =
        by_lower (suc r) (length rs)
        (λ l.
        let (q, i, o) = (tells_named rs r).yes (named_all rs clear6 r l) in
        ⊎_elim (λ f. (q, i, r, o, f, itself))
        (λ f.
        let (s, j, n, p, g, w) = reach bound q (omega (arith, names_lower q i r o)) o.is_record f in
        (s, j, n, p, g, within_operand rs q n i r w o))
        (or_cases (place q i) (test q) (sym (step_names q i r o) ∙ e)))
        (λ l. never (sym (top r (omega arith)) ∙ e))

    down : (r n : ℕ) → Within rs r n → test n ≡ true → test r ≡ true
    down r n itself e = e
    down r n (below i m o w) e = down r m w (step_names n i m o ∙ or_inr (place n i) (test n) e)

    pub tells_around : (r : ℕ) → r < length rs → Tells (test r) (Reached r)
    tells_around r h =
        record {
          yes = reach (length rs) r (omega arith) h;
          back = λ e. let (q, i, n, o, f, w) = e in down r n w (step_names q i n o ∙ or_inl (place q i) (test q) f);
        }
