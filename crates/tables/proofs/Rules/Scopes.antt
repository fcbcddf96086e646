-- Rule 7, of a table that keeps rule 6: what is bound around a record, and the binder of a pattern.
use mathlib.Core.Path.{◌≡◌, refl, sym, ap, ◌∙◌}
use mathlib.Core.Bool.{Bool, true, false, ◌&&◌, ◌||◌, cond}
use mathlib.Core.Logic.{◌⊎◌, inl, inr}
use mathlib.Core.List.{List}
use Prim.Native.Nat.{ℕ, zero, suc, ◌+◌, ◌<◌, ◌≤◌}
use native.Mathlib.Omega.{arith}
use lib.Dec.{eqb}
use lib.ListN.{length, drop}
use Rattle.prelude.proofs.Absurd.{never}
use Rattle.prelude.proofs.Truth.{by_test, by_lower}
use Rattle.tables.specs.declared.Role.{Role}
use Rattle.tables.specs.declared.Role.TheVariants.{Plain, Condition, Body, Pattern, Name}
use Rattle.tables.specs.Record.{Record, pattern, shape, size, head_of, of_expressions, is_pattern, operands, named, role_at, name_of, is_fit}
use Rattle.tables.specs.Table.{record_at, kind_at}
use Rattle.tables.specs.Shapes.{binder_role}
use Rattle.tables.specs.Sheet.{is_name, holds_name, is_covered, is_binder, pattern_of, is_bound}
use Rattle.tables.specs.Check.{is_of_sort, fault7}
use Rattle.tables.proofs.Laws.Operands.{operands_few}
use Rattle.tables.proofs.Laws.Roles.{role_by_lem}
use Rattle.tables.proofs.Laws.Accepted.{operand_sort, bound_operand, bound_last, named_all, last_sort, pattern_role, fit_kind, fit_expression}
use Rattle.tables.specs.Check.{Clear6}
use Rattle.tables.specs.Rules.{Names, Within, itself, below, Holds, Covered, Bound, BinderOf, Fault7, unbound, bound_already}
use Rattle.tables.proofs.Rules.Tells.{Tells, tells_as, tells_not, tells_or, tells_and, tells_same}
use Rattle.tables.proofs.Rules.Naming.{expressions, patterns, tells_named}
use Rattle.tables.proofs.Rules.Around.{within_operand, names_lower, tells_below, tells_around}

covered : (role : Role) → Tells (is_covered role) (Covered role)
covered Plain = record { yes = λ e. never e; back = λ e. absurd e }
covered Condition = record { yes = λ e. tt; back = λ e. refl }
covered Body = record { yes = λ e. tt; back = λ e. refl }
covered Pattern = record { yes = λ e. never e; back = λ e. absurd e }
covered Name = record { yes = λ e. never e; back = λ e. absurd e }

-- An operand that is a pattern is not covered.
not_covered : (role : Role) (k : ℕ) → is_of_sort role k ≡ true → (shape k).sort ≡ pattern → is_covered role ≡ false
not_covered Plain k e f = refl
not_covered Condition k e f = never (sym (ap of_expressions f) ∙ e)
not_covered Body k e f = never (sym (ap of_expressions f) ∙ e)
not_covered Pattern k e f = refl
not_covered Name k e f = refl

-- An operand of an expression that is a pattern is its first operand.
only_first : (x : Record) (i k : ℕ) → is_fit x ≡ true → is_pattern x.kind ≡ false → i < length (named x) → is_of_sort (role_at x i) k ≡ true → (shape k).sort ≡ pattern → i ≡ 0
unfolding operands
only_first x i k fit e h f g =
    go (is_binder x.kind) i
    (sym (ap (λ (b : Bool). is_of_sort (cond b Pattern (cond (is_binder x.kind) (binder_role x.kind i) Plain)) k) e)
    ∙ sym (ap (λ (role : Role). is_of_sort role k) (role_by_lem x.kind i (fit_kind x fit) (omega (arith, operands_few (shape x.kind).roles (drop (size (head_of x)) x.fields)))))
    ∙ f)
  where
    no_expression : {A : Type 0} → of_expressions (shape k).sort ≡ true → A
    no_expression f = never (sym (ap of_expressions g) ∙ f)

    third : {A : Type 0} (c : Bool) → is_of_sort (cond c Body Condition) k ≡ true → A
    third true f = no_expression f
    third false f = no_expression f

    go : (b : Bool) (i : ℕ) → is_of_sort (cond b (binder_role x.kind i) Plain) k ≡ true → i ≡ 0
    go false i f = no_expression f
    go true zero f = refl
    go true (suc zero) f = no_expression f
    go true (suc (suc zero)) f = third (eqb x.kind 12) f
    go true (suc (suc (suc i))) f = no_expression f

module _ (rs : List Record) (clear6 : Clear6 rs) where
  -- ---- what is bound around a record

  tells_holds : (p n : ℕ) → p < length rs → Tells (holds_name rs p n) (Holds rs p n)
  unfolding holds_name
  tells_holds p n h =
      tells_as (tells_below rs clear6 (is_name n) p h)
      (λ e.
      let (q, w, f) = e in
      let (k, m) = (tells_and (tells_same (kind_at rs q) 32) (tells_same (name_of (record_at rs q)) n)).yes f in
      record { part = q; within = w; kind = k; is = m })
      (λ e. (e.part, e.within, (tells_and (tells_same (kind_at rs e.part) 32) (tells_same (name_of (record_at rs e.part)) n)).back (e.kind, e.is)))

  -- A record that has an operand has a first one.
  first : (q i n : ℕ) → Names rs q i n → Names rs q 0 (pattern_of rs q)
  first q i n o = record { is_record = o.is_record; is_operand = omega (arith, o.is_operand); is = refl }

  pub tells_bound : (r n : ℕ) → r < length rs → Tells (is_bound rs r n) (Bound rs r n)
  tells_bound r n h =
      tells_as
      (tells_around rs clear6 (λ q. is_bound rs q n) (λ q i. is_covered (role_at (record_at rs q) i) && holds_name rs (pattern_of rs q) n) (λ q i k l. bound_operand rs clear6 q i n k l) (λ q e. bound_last rs clear6 q n e) r h)
      (λ e.
      let (q, i, m, o, f, w) = e in
      let p : Names rs q 0 (pattern_of rs q) = first q i m o in
      let (c, d) = (tells_and (covered (role_at (record_at rs q) i)) (tells_holds (pattern_of rs q) n (omega (arith, names_lower rs clear6 q 0 (pattern_of rs q) p, o.is_record)))).yes f in
      record { binder = q; its_pattern = pattern_of rs q; first = p; holds = d; number = i; inner = m; names = o; covered = c; around = w })
      (λ e.
      let q : ℕ = e.binder in
      let i : ℕ = e.number in
      let l : pattern_of rs q < length rs = omega (arith, names_lower rs clear6 q 0 e.its_pattern e.first, e.first.is, e.first.is_record) in
      (q, i, e.inner, e.names, (tells_and (covered (role_at (record_at rs q) i)) (tells_holds (pattern_of rs q) n l)).back (e.covered, rw e.first.is e.holds), e.around))

  -- ---- the binder of a pattern

  -- Around an operand that its record's names do not cover is what is around the record.
  uncovered : (q i m n : ℕ) → Names rs q i m → is_covered (role_at (record_at rs q) i) ≡ false → is_bound rs m n ≡ is_bound rs q n
  uncovered q i m n o e =
      rw (sym o.is)
      (bound_operand rs clear6 q i n o.is_record o.is_operand
      ∙ ap (λ (b : Bool). (b && holds_name rs (pattern_of rs q) n) || is_bound rs q n) e)

  sort_of : (q i m : ℕ) → Names rs q i m → is_of_sort (role_at (record_at rs q) i) (kind_at rs m) ≡ true
  sort_of q i m o = rw o.is at (operand_sort rs clear6 q i o.is_record o.is_operand)

  -- Around the parts of a pattern is what is around the pattern.
  part_same : (r p n : ℕ) → Within rs r p → is_pattern (kind_at rs p) ≡ true → is_bound rs r n ≡ is_bound rs p n
  part_same r p n itself e = refl
  part_same r p n (below i m o w) e =
      let role : role_at (record_at rs p) i ≡ Pattern = pattern_role (record_at rs p) i e o.is_operand in
      part_same r m n w (sym (ap (λ (x : Role). is_of_sort x (kind_at rs m)) role) ∙ sort_of p i m o)
      ∙ uncovered p i m n o (ap is_covered role)

  -- Around the parts of a pattern is what is around its binder.
  binder_same : (r b n : ℕ) → BinderOf rs r b → is_bound rs r n ≡ is_bound rs b n
  binder_same r b n o =
      part_same r o.its_pattern n o.around ((patterns (shape (kind_at rs o.its_pattern)).sort).back o.is_pattern)
      ∙ uncovered b 0 o.its_pattern n o.first
      (not_covered (role_at (record_at rs b) 0) (kind_at rs o.its_pattern) (sort_of b 0 o.its_pattern o.first) o.is_pattern)

  module _ (fit : (r : ℕ) → r < length rs → is_fit (record_at rs r) ≡ true) where
    -- Every pattern has a binder.
    binder : (bound r : ℕ) → length rs ≤ r + bound → r < length rs → (shape (kind_at rs r)).sort ≡ pattern → (b : ℕ) × BinderOf rs r b
    binder zero r k h e = absurd (omega arith)
    binder (suc bound) r k h e =
        by_lower (suc r) (length rs)
        (λ l.
        let (q, i, o) = (tells_named rs r).yes (named_all rs clear6 r l) in
        by_test (is_pattern (kind_at rs q))
        (λ f.
        let (b, x) = binder bound q (omega (arith, names_lower rs clear6 q i r o)) o.is_record ((patterns (shape (kind_at rs q)).sort).yes f) in
        (b, record { its_pattern = x.its_pattern; first = x.first; binds = x.binds; is_pattern = x.is_pattern; around = within_operand rs q x.its_pattern i r x.around o }))
        (λ f.
        let same : i ≡ 0 = only_first (record_at rs q) i (kind_at rs r) (fit q o.is_record) f o.is_operand (sort_of q i r o) e in
        (q, record { its_pattern = r; first = rw same at o; binds = (expressions (shape (kind_at rs q)).sort).yes (fit_expression (record_at rs q) (fit q o.is_record) f); is_pattern = e; around = itself })))
        (λ l. never (sym (last_sort rs clear6 r (omega arith)) ∙ (patterns (shape (kind_at rs r)).sort).back e))

    pub tells7 : (r : ℕ) → r < length rs → Tells (fault7 rs r) (Fault7 rs r)
    unfolding fault7 shape
    tells7 r h =
        tells_as
        (tells_or (tells_and (tells_same (kind_at rs r) 3) (tells_not (tells_bound r (name_of (record_at rs r)) h))) (tells_and (tells_same (kind_at rs r) 32) (tells_bound r (name_of (record_at rs r)) h))) to from
      where
        to : ((kind_at rs r ≡ 3) × ¬ Bound rs r (name_of (record_at rs r))) ⊎ ((kind_at rs r ≡ 32) × Bound rs r (name_of (record_at rs r))) → Fault7 rs r
        to (inl (k, f)) = unbound k f
        to (inr (k, f)) =
            let (b, o) = binder (length rs) r (omega arith) h (ap (λ (j : ℕ). (shape j).sort) k) in
            let l : b < length rs = o.first.is_record in
            bound_already k b o
            ((tells_bound b (name_of (record_at rs r)) l).yes
            (sym (binder_same r b (name_of (record_at rs r)) o) ∙ (tells_bound r (name_of (record_at rs r)) h).back f))

        from : Fault7 rs r → ((kind_at rs r ≡ 3) × ¬ Bound rs r (name_of (record_at rs r))) ⊎ ((kind_at rs r ≡ 32) × Bound rs r (name_of (record_at rs r)))
        from (unbound k f) = inl (k, f)
        from (bound_already k b o f) = inr (k, (tells_bound r (name_of (record_at rs r)) h).yes (binder_same r b (name_of (record_at rs r)) o ∙ (tells_bound b (name_of (record_at rs r)) o.first.is_record).back f))
