-- Rule 6: what the tests of operands and of names tell.
use mathlib.Core.Path.{◌≡◌, refl, sym, ap, ◌∙◌}
use mathlib.Core.Bool.{Bool, true, false, not, ◌||◌, cond}
use mathlib.Core.Logic.{◌⊎◌, inl, inr, ⊎_elim}
use mathlib.Core.List.{List, [], ◌∷◌}
use Prim.Native.Nat.{ℕ, zero, suc, ◌<◌, ◌≤◌}
use native.Mathlib.Omega.{arith}
use borrow.Author.Tests.{eqb-true, eqb-false}
use lib.Dec.{eqb}
use lib.ListN.{length, take, length-take}
use lib.Seq.{get_or-take}
use mathlib.Mathlib.Data.Bool.Basic.{or_inl, or_inr}
use Rattle.prelude.proofs.Absurd.{never}
use Rattle.prelude.proofs.Truth.{by_lower, or_cases}
use Rattle.tables.specs.declared.Role.{Role}
use Rattle.tables.specs.declared.Role.TheVariants.{Plain, Condition, Body, Pattern, Name}
use Rattle.tables.specs.Record.{Record, Sort, expression, pattern, neither, shape, of_expressions, of_patterns, is_pattern, named, operand, role_at}
use Rattle.tables.specs.Table.{no_record, record_at, kind_at}
use Rattle.tables.specs.Sheet.{is_in}
use Rattle.tables.specs.Check.{is_of_sort, all_named, named_before, is_bad, is_stray, fault6}
use Rattle.tables.proofs.Laws.Tests.{in_append, Place, in_place}
use Rattle.tables.specs.Rules.{Names, OfSort, Before, Fault6, not_lower, wrong_sort, is_named_before, never_named, pattern_last}
use Rattle.tables.proofs.Rules.Tells.{Tells, tells_as, tells_not, tells_or, tells_lower, tells_same, tells_any, tells_in}

-- ---- sorts

pub expressions : (s : Sort) → Tells (of_expressions s) (s ≡ expression)
expressions expression = record { yes = λ e. refl; back = λ e. refl }
expressions pattern = record { yes = λ e. never e; back = λ e. ap of_expressions e }
expressions neither = record { yes = λ e. never e; back = λ e. ap of_expressions e }

pub patterns : (s : Sort) → Tells (of_patterns s) (s ≡ pattern)
patterns expression = record { yes = λ e. never e; back = λ e. ap of_patterns e }
patterns pattern = record { yes = λ e. refl; back = λ e. refl }
patterns neither = record { yes = λ e. never e; back = λ e. ap of_patterns e }

of_sort : (role : Role) (kind : ℕ) → Tells (is_of_sort role kind) (OfSort role kind)
of_sort Plain kind = expressions (shape kind).sort
of_sort Condition kind = expressions (shape kind).sort
of_sort Body kind = expressions (shape kind).sort
of_sort Pattern kind = patterns (shape kind).sort
of_sort Name kind = tells_same kind 32

-- ---- numbers that records name

-- Some operand names n.
abbrev pub Named : List Record → ℕ → Type 0
Named rs n = (q : ℕ) × (i : ℕ) × Names rs q i n

named_rest : (x : Record) (rs : List Record) (q i n : ℕ) → Names rs q i n → Names (x ∷ rs) (suc q) i n
named_rest x rs q i n o = record { is_record = omega (arith, o.is_record); is_operand = o.is_operand; is = o.is }

named_in : (rs : List Record) (q i n : ℕ) → Names rs q i n → is_in n (all_named rs) ≡ true
named_in [] q i n o = absurd (omega (arith, o.is_record))
named_in (x ∷ rs) zero i n o =
    in_append n (named x) (all_named rs)
    ∙ or_inl (is_in n (named x)) (is_in n (all_named rs)) ((tells_in n (named x)).back (record { index = i; within = o.is_operand; is = o.is }))
named_in (x ∷ rs) (suc q) i n o =
    in_append n (named x) (all_named rs)
    ∙ or_inr (is_in n (named x)) (is_in n (all_named rs)) (named_in rs q i n (record { is_record = omega (arith, o.is_record); is_operand = o.is_operand; is = o.is }))

in_named : (n : ℕ) (rs : List Record) → is_in n (all_named rs) ≡ true → Named rs n
in_named n [] e = never e
in_named n (x ∷ rs) e =
    ⊎_elim
    (λ f. let p : Place (named x) n = in_place n (named x) f in (0, p.index, record { is_record = omega arith; is_operand = p.within; is = p.is }))
    (λ f. let (q, i, o) = in_named n rs f in (suc q, i, named_rest x rs q i n o))
    (or_cases (is_in n (named x)) (is_in n (all_named rs)) (sym (in_append n (named x) (all_named rs)) ∙ e))

pub tells_named : (rs : List Record) (n : ℕ) → Tells (is_in n (all_named rs)) (Named rs n)
tells_named rs n = record { yes = in_named n rs; back = λ e. let (q, i, o) = e in named_in rs q i n o }

-- The operands of the records below r are those of the records taken before r.
taken : (rs : List Record) (r q i n : ℕ) → Names (take r rs) q i n → Names rs q i n × (q < r)
taken rs r q i n o =
    let l : q < r = omega (arith, o.is_record, length-take r rs) in
    let same : record_at (take r rs) q ≡ record_at rs q = get_or-take r rs q no_record l in
    (record { is_record = omega (arith, o.is_record, length-take r rs); is_operand = rw same at o.is_operand; is = rw same at o.is }, l)

take_named : (rs : List Record) (r q i n : ℕ) → Names rs q i n → q < r → Names (take r rs) q i n
take_named rs r q i n o l =
    let same : record_at rs q ≡ record_at (take r rs) q = sym (get_or-take r rs q no_record l) in
    record { is_record = omega (arith, o.is_record, length-take r rs); is_operand = rw same at o.is_operand; is = rw same at o.is }

abbrev NamedBefore : List Record → ℕ → ℕ → ℕ → Type 0
NamedBefore rs r i n = (q : ℕ) × (j : ℕ) × Names rs q j n × Before q j r i

tells_before : (rs : List Record) (r i n : ℕ) → r < length rs → Tells (is_in n (named_before rs r i)) (NamedBefore rs r i n)
tells_before rs r i n h =
    record {
      yes =
          λ e.
          ⊎_elim
          (λ f.
          let (q, j, o) = in_named n (take r rs) f in
          let (p, l) = taken rs r q j n o in
          (q, j, p, inl l))
          (λ f.
          let p : Place (take i (named (record_at rs r))) n = in_place n (take i (named (record_at rs r))) f in
          let l : p.index < i = omega (arith, p.within, length-take i (named (record_at rs r))) in
          (r, p.index, record { is_record = h; is_operand = omega (arith, p.within, length-take i (named (record_at rs r))); is = sym (get_or-take i (named (record_at rs r)) p.index 0 l) ∙ p.is }, inr (refl, l)))
          (or_cases (is_in n (all_named (take r rs))) (is_in n (take i (named (record_at rs r)))) (sym (in_append n (all_named (take r rs)) (take i (named (record_at rs r)))) ∙ e));
      back = λ e. let (q, j, o, b) = e in in_append n (all_named (take r rs)) (take i (named (record_at rs r))) ∙ back q j o b;
    }
  where
    back : (q j : ℕ) → Names rs q j n → Before q j r i → is_in n (all_named (take r rs)) || is_in n (take i (named (record_at rs r))) ≡ true
    back q j o (inl l) = or_inl (is_in n (all_named (take r rs))) _ (named_in (take r rs) q j n (take_named rs r q j n o l))
    back q j o (inr (e, l)) =
        let own : Names rs r j n = rw e at o in
        or_inr (is_in n (all_named (take r rs))) (is_in n (take i (named (record_at rs r))))
        ((tells_in n (take i (named (record_at rs r)))).back
        (record {
          index = j;
          within = omega (arith, own.is_operand, length-take i (named (record_at rs r)));
          is = get_or-take i (named (record_at rs r)) j 0 l ∙ own.is;
        }))

-- ---- rule 6

abbrev Bad : List Record → ℕ → ℕ → Type 0
Bad rs r i =
    ((r ≤ operand (record_at rs r) i) ⊎ ¬ OfSort (role_at (record_at rs r) i) (kind_at rs (operand (record_at rs r) i))) ⊎ NamedBefore rs r i (operand (record_at rs r) i)

tells_bad : (rs : List Record) (r i : ℕ) → r < length rs → Tells (is_bad rs r i) (Bad rs r i)
tells_bad rs r i h =
    tells_or
    (tells_or
    (tells_as (tells_not (tells_lower (operand (record_at rs r) i) r)) (λ e. by_lower (operand (record_at rs r) i) r (λ k. absurd (e k)) (λ k. k)) (λ e k. omega arith))
    (tells_not (of_sort (role_at (record_at rs r) i) (kind_at rs (operand (record_at rs r) i)))))
    (tells_before rs r i (operand (record_at rs r) i) h)

abbrev Stray : List Record → ℕ → Type 0
Stray rs r = ((suc r ≡ length rs) × ((shape (kind_at rs r)).sort ≡ pattern)) ⊎ ((suc r < length rs) × ¬ Named rs r)

tells_stray : (rs : List Record) (r : ℕ) → r < length rs → Tells (is_stray rs r) (Stray rs r)
tells_stray rs r h = go (eqb (suc r) (length rs)) refl
  where
    go : (b : Bool) → eqb (suc r) (length rs) ≡ b → Tells (cond b (is_pattern (kind_at rs r)) (not (is_in r (all_named rs)))) (Stray rs r)
    go true e = tells_as (patterns (shape (kind_at rs r)).sort) (λ p. inl (eqb-true (suc r) (length rs) e, p)) (λ s. ⊎_elim (λ p. p.1) (λ p. absurd (omega (arith, p.0, eqb-true (suc r) (length rs) e))) s)
    go false e =
        tells_as (tells_not (tells_named rs r)) (λ p. inr (by_lower (suc r) (length rs) (λ l. l) (λ l. absurd (eqb-false (suc r) (length rs) e (omega arith))), p))
        (λ s. ⊎_elim (λ p. absurd (eqb-false (suc r) (length rs) e p.0)) (λ p. p.1) s)

pub tells6 : (rs : List Record) (r : ℕ) → r < length rs → Tells (fault6 rs r) (Fault6 rs r)
unfolding fault6
tells6 rs r h =
    tells_as (tells_or (tells_any (is_bad rs r) (Bad rs r) (length (named (record_at rs r))) (λ i k. tells_bad rs r i h)) (tells_stray rs r h)) to from
  where
    bad : (i : ℕ) → i < length (named (record_at rs r)) → Bad rs r i → Fault6 rs r
    bad i k (inl (inl e)) = not_lower i (operand (record_at rs r) i) (record { is_record = h; is_operand = k; is = refl }) e
    bad i k (inl (inr e)) = wrong_sort i (operand (record_at rs r) i) (record { is_record = h; is_operand = k; is = refl }) e
    bad i k (inr e) = is_named_before i (operand (record_at rs r) i) e.0 e.1 (record { is_record = h; is_operand = k; is = refl }) e.2 e.3

    to : ((i : ℕ) × (i < length (named (record_at rs r))) × Bad rs r i) ⊎ Stray rs r → Fault6 rs r
    to (inl e) = bad e.0 e.1 e.2
    to (inr (inl e)) = pattern_last e.0 e.1
    to (inr (inr e)) = never_named e.0 (λ q i o. e.1 (q, i, o))

    from : Fault6 rs r → ((i : ℕ) × (i < length (named (record_at rs r))) × Bad rs r i) ⊎ Stray rs r
    from (not_lower i n o e) = inl (i, o.is_operand, inl (inl (omega (arith, o.is))))
    from (wrong_sort i n o e) = inl (i, o.is_operand, inl (inr (rw o.is e)))
    from (is_named_before i n q j o p b) = inl (i, o.is_operand, inr (rw o.is (q, j, p, b)))
    from (never_named l f) = inr (inr (l, λ e. f e.0 e.1 e.2))
    from (pattern_last l e) = inr (inl (l, e))
