-- Every record of a table but the last is named once: so the records of a pattern are no more than those of its table, and a way of matching
-- has no more choices than a path has digits.
use mathlib.Core.Path.{◌≡◌, refl, sym, ap, ap₂, subst, ◌∙◌}
use mathlib.Core.Bool.{Bool, true, false, ◌||◌}
use mathlib.Core.Logic.{◌⊎◌, inl, inr, ⊎_elim}
use mathlib.Core.List.{List, [], ◌∷◌, map}
use Prim.Native.Nat.{ℕ, zero, suc, ◌+◌, ◌≤◌, ◌<◌}
use native.Mathlib.Decide.{ℕ_discrete}
use native.Mathlib.Omega.{arith}
use lib.Dec.{eqb}
use lib.ListN.{length, get_or, take}
use borrow.Author.Tests.{eq-eqb, ne_eqb, eqb-true}
use Rattle.prelude.proofs.Truth.{by_test, or_false_right, or_cases}
use Rattle.tables.specs.Record.{Record, is_pattern, is_composed, named, operand}
use Rattle.tables.specs.Table.{record_at, kind_at}
use Rattle.tables.specs.Sheet.{fold, some, is_in, parent}
use Rattle.tables.specs.Check.{all_named}
use Rattle.tables.proofs.Laws.Below.{OperandsLower as Less, fold_at, parent_higher}
use Rattle.tables.proofs.Laws.Tests.{in_append}
use Rattle.tables.specs.Accepted.{records}
use Rattle.tables.proofs.Laws.Accepted.{lower, operand_lower, operand_first, operand_parent}
use Rattle.tables.specs.Check.{Clear6}
use Rattle.patterns.specs.Pattern.{Pattern, any}
use Rattle.forming.specs.Inner.{inner, inner_each}
use Rattle.matching.specs.Node.{inner_of}
use Rattle.matching.proofs.Records.{by_record, inner_length, count_two, operand_readable}
use Rattle.patterns.specs.Read.{Readable, patterns_of, pattern_of, pattern_at}
use Rattle.patterns.specs.Nodes.{is_halved}
use Rattle.patterns.proofs.Laws.Nodes.{on_leaf, on_composed}
use Rattle.prelude.proofs.Absurd.{true_false}

-- ---- truths

or_in : (a b : Bool) → (a ≡ true) ⊎ (b ≡ true) → (a || b) ≡ true
or_in true b h = refl
or_in false b (inl e) = true_false (sym e)
or_in false b (inr e) = e

-- ---- how many numbers below n pass a test

abbrev one : Bool → ℕ
one true = 1
one false = 0

unfoldable count : (ℕ → Bool) → ℕ → ℕ
count f zero = 0
count f (suc n) = count f n + one (f n)

one_both : (a b : Bool) → (a ≡ true → b ≡ true → ⊥) → one (a || b) ≡ one a + one b
one_both true true h = absurd (h refl refl)
one_both true false h = refl
one_both false true h = refl
one_both false false h = refl

count_both : (f g : ℕ → Bool) (n : ℕ) → ((x : ℕ) → f x ≡ true → g x ≡ true → ⊥) → count (λ x. f x || g x) n ≡ count f n + count g n
unfolding count
count_both f g zero h = refl
count_both f g (suc n) h = omega (arith, count_both f g n h, one_both (f n) (g n) (h n))

one_most : (b : Bool) → one b ≤ 1
one_most true = omega arith
one_most false = omega arith

count_most : (f : ℕ → Bool) (n : ℕ) → count f n ≤ n
unfolding count
count_most f zero = omega arith
count_most f (suc n) = omega (arith, count_most f n, one_most (f n))

count_none : (f : ℕ → Bool) (n : ℕ) → ((x : ℕ) → x < n → f x ≡ false) → count f n ≡ 0
unfolding count
count_none f zero h = refl
count_none f (suc n) h = omega (arith, count_none f n (λ x l. h x (omega arith)), ap one (h n (omega arith)))

count_self : (p n : ℕ) → p < n → count (λ x. eqb p x) n ≡ 1
unfolding count
count_self p zero h = absurd (omega arith)
count_self p (suc n) h = go (ℕ_discrete p n) (λ l. count_self p n l)
  where
    go : Dec (p ≡ n) → (p < n → count (λ x. eqb p x) n ≡ 1) → count (λ x. eqb p x) n + one (eqb p n) ≡ 1
    go (yes e) rest = omega (arith, count_none (λ x. eqb p x) n (λ x l. ne_eqb p x (λ q. omega arith)), ap one (eq-eqb p n e))
    go (no f) rest = omega (arith, rest (omega (arith, f)), ap one (ne_eqb p n f))

count_same : (f g : ℕ → Bool) (n : ℕ) → ((x : ℕ) → f x ≡ g x) → count f n ≡ count g n
unfolding count
count_same f g zero h = refl
count_same f g (suc n) h = ap₂ (λ (a b : ℕ). a + b) (count_same f g n h) (ap one (h n))

unfoldable sum : List ℕ → ℕ
sum [] = 0
sum (n ∷ ns) = n + sum ns

-- ---- what lies below a record

module _ (rs : List Record) (clear : Clear6 rs) where
  low : Less rs
  low = lower rs clear

  -- x is p, or lies below it
  unfoldable under : ℕ → ℕ → Bool
  under p x = fold (λ q bs. eqb q x || some bs) false rs p

  under_at : (p x : ℕ) → p < length rs → under p x ≡ (eqb p x || some (map (λ q. under q x) (named (record_at rs p))))
  unfolding under
  under_at p x h = fold_at (λ q bs. eqb q x || some bs) false rs low p h

  -- the operand under which it lies
  some_at : (ns : List ℕ) (x : ℕ) → some (map (λ q. under q x) ns) ≡ true → (i : ℕ) × (i < length ns) × (under (get_or ns i 0) x ≡ true)
  some_at [] x e = true_false (sym e)
  some_at (n ∷ ns) x e = go (or_cases (under n x) (some (map (λ q. under q x) ns)) e) (λ d. some_at ns x d)
    where
      go : (under n x ≡ true) ⊎ (some (map (λ q. under q x) ns) ≡ true) → (some (map (λ q. under q x) ns) ≡ true → (i : ℕ) × (i < length ns) × (under (get_or ns i 0) x ≡ true))
          → (i : ℕ) × (i < length (n ∷ ns)) × (under (get_or (n ∷ ns) i 0) x ≡ true)
      go (inl d) rest = (0, omega arith, d)
      go (inr d) rest = let (i, l, k) = rest d in (suc i, omega (arith, l), k)

  at_some : (ns : List ℕ) (x i : ℕ) → i < length ns → under (get_or ns i 0) x ≡ true → some (map (λ q. under q x) ns) ≡ true
  at_some [] x i l e = absurd (omega arith)
  at_some (n ∷ ns) x zero l e = or_in (under n x) (some (map (λ q. under q x) ns)) (inl e)
  at_some (n ∷ ns) x (suc i) l e = or_in (under n x) (some (map (λ q. under q x) ns)) (inr (at_some ns x i (omega arith) e))

  below_or : (p x : ℕ) → p < length rs → under p x ≡ true → (p ≡ x) ⊎ ((i : ℕ) × (i < length (named (record_at rs p))) × (under (operand (record_at rs p) i) x ≡ true))
  below_or p x h e =
      ⊎_elim (λ d. inl (eqb-true p x d)) (λ d. inr (some_at (named (record_at rs p)) x d))
      (or_cases (eqb p x) (some (map (λ q. under q x) (named (record_at rs p)))) (sym (under_at p x h) ∙ e))

  -- what lies below is not higher
  under_low : (b p x : ℕ) → p < b → p < length rs → under p x ≡ true → x ≤ p
  under_low zero p x k h e = absurd (omega arith)
  under_low (suc b) p x k h e = go (below_or p x h e) (λ q m n d. under_low b q x m n d)
    where
      go : (p ≡ x) ⊎ ((i : ℕ) × (i < length (named (record_at rs p))) × (under (operand (record_at rs p) i) x ≡ true)) → ((q : ℕ) → q < b → q < length rs → under q x ≡ true → x ≤ q) → x ≤ p
      go (inl d) rest = omega (arith, d)
      go (inr (i, l, d)) rest =
          let o : operand (record_at rs p) i < p = operand_lower rs clear p i h l in
          let r = rest (operand (record_at rs p) i) (omega arith) (omega arith) d in
          omega arith

  under_self : (p : ℕ) → p < length rs → under p p ≡ true
  under_self p h = under_at p p h ∙ or_in (eqb p p) (some (map (λ q. under q p) (named (record_at rs p)))) (inl (eq-eqb p p refl))

  -- what lies below q but is not q: the record that names it lies there too
  climbs : (b q x : ℕ) → q < b → q < length rs → under q x ≡ true → (q ≡ x → ⊥) → under q (parent rs x) ≡ true
  climbs zero q x k h e f = absurd (omega arith)
  climbs (suc b) q x k h e f = go (below_or q x h e) (λ r m n d g. climbs b r x m n d g)
    where
      go : (q ≡ x) ⊎ ((i : ℕ) × (i < length (named (record_at rs q))) × (under (operand (record_at rs q) i) x ≡ true))
          → ((r : ℕ) → r < b → r < length rs → under r x ≡ true → (r ≡ x → ⊥) → under r (parent rs x) ≡ true) → under q (parent rs x) ≡ true
      go (inl d) rest = absurd (f d)
      go (inr (i, l, d)) rest = next (ℕ_discrete (operand (record_at rs q) i) x)
        where
          o : operand (record_at rs q) i < q
          o = operand_lower rs clear q i h l

          next : Dec (operand (record_at rs q) i ≡ x) → under q (parent rs x) ≡ true
          next (yes g) = subst (λ (y : ℕ). under q y ≡ true) (sym (ap (parent rs) (sym g) ∙ operand_parent rs clear q i h l)) (under_self q h)
          next (no g) =
              let r = rest (operand (record_at rs q) i) (omega (arith, o)) (omega (arith, o)) d g in
              under_at q (parent rs x) h ∙ or_in (eqb q (parent rs x)) (some (map (λ y. under y (parent rs x)) (named (record_at rs q)))) (inr (at_some (named (record_at rs q)) (parent rs x) i l r))

  -- two operands of one record have nothing below them in common
  module _ (p : ℕ) (h : p < length rs) (i j : ℕ) (li : i < length (named (record_at rs p))) (lj : j < length (named (record_at rs p))) (ne : operand (record_at rs p) i ≡ operand (record_at rs p) j → ⊥) where
    qi : operand (record_at rs p) i < p
    qi = operand_lower rs clear p i h li

    qj : operand (record_at rs p) j < p
    qj = operand_lower rs clear p j h lj

    -- one of them does not lie below the other
    not_under : (a b : ℕ) (la : a < length (named (record_at rs p))) → operand (record_at rs p) b < p → (operand (record_at rs p) b ≡ operand (record_at rs p) a → ⊥) → under (operand (record_at rs p) b) (operand (record_at rs p) a) ≡ true → ⊥
    not_under a b la l n e =
        let c = climbs (suc (operand (record_at rs p) b)) (operand (record_at rs p) b) (operand (record_at rs p) a) (omega arith) (omega arith) e n in
        let u = under_low (suc (operand (record_at rs p) b)) (operand (record_at rs p) b) (parent rs (operand (record_at rs p) a)) (omega arith) (omega arith) c in
        omega (arith, u, l, operand_parent rs clear p a h la)

    higher : (x : ℕ) → under (operand (record_at rs p) i) (parent rs x) ≡ true → x < parent rs x
    higher x c =
        let u = under_low (suc (operand (record_at rs p) i)) (operand (record_at rs p) i) (parent rs x) (omega arith) (omega (arith, qi)) c in
        parent_higher rs low x (omega (arith, u, qi))

    -- from x up, to where they would meet
    meet : (x : ℕ) → under (operand (record_at rs p) i) x ≡ true → under (operand (record_at rs p) j) x ≡ true
        → (x < parent rs x → under (operand (record_at rs p) i) (parent rs x) ≡ true → under (operand (record_at rs p) j) (parent rs x) ≡ true → ⊥) → ⊥
    meet x a b up = go (ℕ_discrete (operand (record_at rs p) i) x) (ℕ_discrete (operand (record_at rs p) j) x)
      where
        go : Dec (operand (record_at rs p) i ≡ x) → Dec (operand (record_at rs p) j ≡ x) → ⊥
        go (yes e) d = not_under i j li qj (λ q. ne (sym q)) (subst (λ (y : ℕ). under (operand (record_at rs p) j) y ≡ true) (sym e) b)
        go (no n) (yes e) = not_under j i lj qi ne (subst (λ (y : ℕ). under (operand (record_at rs p) i) y ≡ true) (sym e) a)
        go (no n) (no o) =
            let c = climbs (suc (operand (record_at rs p) i)) (operand (record_at rs p) i) x (omega arith) (omega (arith, qi)) a n in
            let d = climbs (suc (operand (record_at rs p) j)) (operand (record_at rs p) j) x (omega arith) (omega (arith, qj)) b o in
            up (higher x c) c d

    apart : (k x : ℕ) → p ≤ x + k → under (operand (record_at rs p) i) x ≡ true → under (operand (record_at rs p) j) x ≡ true → ⊥
    apart zero x m a b =
        let u = under_low (suc (operand (record_at rs p) i)) (operand (record_at rs p) i) x (omega arith) (omega (arith, qi)) a in
        omega (arith, u, qi)
    apart (suc k) x m a b = meet x a b (λ l c d. apart k (parent rs x) (omega (arith, l)) c d)

  -- ---- how many lie below

  -- the records below each of some, one after the other
  count_list : (ns : List ℕ) (n : ℕ) → ((i j x : ℕ) → i < j → j < length ns → under (get_or ns i 0) x ≡ true → under (get_or ns j 0) x ≡ true → ⊥)
      → count (λ x. some (map (λ q. under q x) ns)) n ≡ sum (map (λ q. count (under q) n) ns)
  unfolding sum
  count_list [] n h = count_none (λ x. false) n (λ x l. refl)
  count_list (q ∷ ns) n h =
      count_both (under q) (λ x. some (map (λ y. under y x) ns)) n (λ x a b. let (i, l, d) = some_at ns x b in h 0 (suc i) x (omega arith) (omega (arith, l)) a d)
      ∙ ap (λ (k : ℕ). count (under q) n + k) (count_list ns n (λ i j x a l d e. h (suc i) (suc j) x (omega (arith, a)) (omega (arith, l)) d e))

  in_take : (ns : List ℕ) (i j : ℕ) → i < j → i < length ns → is_in (get_or ns i 0) (take j ns) ≡ true
  in_take [] i j a l = absurd (omega arith)
  in_take (n ∷ ns) i zero a l = absurd (omega arith)
  in_take (n ∷ ns) zero (suc j) a l = or_in (eqb n n) (is_in n (take j ns)) (inl (eq-eqb n n refl))
  in_take (n ∷ ns) (suc i) (suc j) a l = or_in (eqb (get_or ns i 0) n) (is_in (get_or ns i 0) (take j ns)) (inr (in_take ns i j (omega arith) (omega arith)))

  module _ (p : ℕ) (h : p < length rs) where
    distinct : (i j : ℕ) → i < j → j < length (named (record_at rs p)) → operand (record_at rs p) i ≡ operand (record_at rs p) j → ⊥
    distinct i j a l e =
        let f = operand_first rs clear p j h l in
        let g = or_false_right (is_in (operand (record_at rs p) j) (all_named (take p rs))) (is_in (operand (record_at rs p) j) (take j (named (record_at rs p)))) (sym (in_append (operand (record_at rs p) j) (all_named (take p rs)) (take j (named (record_at rs p)))) ∙ f) in
        let t = in_take (named (record_at rs p)) i j a (omega arith) in
        true_false (sym t ∙ ap (λ (n : ℕ). is_in n (take j (named (record_at rs p)))) e ∙ g)

    count_under : count (under p) (length rs) ≡ suc (sum (map (λ q. count (under q) (length rs)) (named (record_at rs p))))
    count_under =
        let a = count_same (under p) (λ x. eqb p x || some (map (λ q. under q x) (named (record_at rs p)))) (length rs) (λ x. under_at p x h) in
        let b = count_both (λ x. eqb p x) (λ x. some (map (λ q. under q x) (named (record_at rs p)))) (length rs) (λ x u v. no_self x u v) in
        let c = count_list (named (record_at rs p)) (length rs) (λ i j x u l v w. apart p h i j (omega arith) l (distinct i j u l) p x (omega arith) v w) in
        omega (arith, a, b, c, count_self p (length rs) h)
      where
        no_self : (x : ℕ) → eqb p x ≡ true → some (map (λ q. under q x) (named (record_at rs p))) ≡ true → ⊥
        no_self x u v =
            let e = eqb-true p x u in
            let (i, l, d) = some_at (named (record_at rs p)) x v in
            let o : operand (record_at rs p) i < p = operand_lower rs clear p i h l in
            let w = under_low (suc (operand (record_at rs p) i)) (operand (record_at rs p) i) x (omega arith) (omega arith) d in
            omega (arith, e, o, w)

-- ---- the parts inside a pattern

each_inner : (ps : List Pattern) → inner_each (patterns_of ps) ≡ sum (map (λ p. suc (inner p)) ps)
unfolding inner patterns_of sum
each_inner [] = refl
each_inner (p ∷ ps) = omega (arith, each_inner ps)

two_inner : (ps : List Pattern) → length ps ≡ 2 → suc (suc (inner (get_or ps 0 any) + inner (get_or ps 1 any))) ≤ sum (map (λ p. suc (inner p)) ps)
unfolding inner sum
two_inner [] e = absurd (omega arith)
two_inner (p ∷ []) e = absurd (omega arith)
two_inner (p ∷ q ∷ ps) e = omega arith

inner_of_lem : (r : Record) (ps : List Pattern) → is_composed r.kind ≡ true → (is_halved r.kind ≡ true → length ps ≡ 2) → inner (pattern_of r ps) ≤ sum (map (λ p. suc (inner p)) ps)
unfolding inner
inner_of_lem r ps c two = on_composed r ps (λ q. inner q ≤ sum (map (λ p. suc (inner p)) ps)) c (λ h. omega (arith, each_inner ps)) (λ h. two_inner ps (two h))

inner_leaf : (r : Record) (ps : List Pattern) → is_pattern r.kind ≡ true → is_composed r.kind ≡ false → inner (pattern_of r ps) ≡ 0
unfolding inner
inner_leaf r ps p c = on_leaf r ps (λ q. inner q ≡ 0) p c (λ e. refl) (λ e. refl) (λ w a b. refl)

module _ (table : List ℕ) where
  -- over operands: no more parts than records below
  module _ (rs : List Record) (clear : Clear6 rs) where
    sum_less : (ns : List ℕ) → ((i : ℕ) → i < length ns → suc (inner (pattern_at rs (get_or ns i 0))) ≤ count (under rs clear (get_or ns i 0)) (length rs))
        → sum (map (λ p. suc (inner p)) (map (pattern_at rs) ns)) ≤ sum (map (λ q. count (under rs clear q) (length rs)) ns)
    unfolding sum
    sum_less [] h = omega arith
    sum_less (n ∷ ns) h = omega (arith, h 0 (omega arith), sum_less ns (λ i l. h (suc i) (omega arith)))

  abbrev RS : List Record
  RS = records table

  inner_under : (clear : Clear6 RS) (b p : ℕ) (r : Readable table p) → p < b → suc (inner (pattern_at RS p)) ≤ count (under RS clear p) (length RS)
  unfolding inner
  inner_under clear zero p r k = absurd (omega arith)
  inner_under clear (suc b) p r k =
      by_test (is_composed (kind_at RS p))
      (λ c.
      let d = ap inner (by_record table p r) in
      let m = inner_of_lem (record_at RS p) (inner_of table p) c (λ q. inner_length table p r ∙ count_two table p r c q) in
      let l = sum_less RS clear (named (record_at RS p)) (λ i l. let o = operand_readable table p r i l (operand (record_at RS p) i) refl in inner_under clear b (operand (record_at RS p) i) o.0 (omega (arith, o.1))) in
      omega (arith, d, m, l, below))
      (λ c.
      let d = ap inner (by_record table p r) ∙ inner_leaf (record_at RS p) (inner_of table p) r.pattern c in
      omega (arith, d, below))
    where
      below : count (under RS clear p) (length RS) ≡ suc (sum (map (λ q. count (under RS clear q) (length RS)) (named (record_at RS p))))
      below = count_under RS clear p r.here

-- THEOREM: a pattern of an accepted table has fewer parts inside than the table has records
pub inner_few : (table : List ℕ) (p : ℕ) → Readable table p → inner (pattern_at (records table) p) < 200
inner_few table p r =
    omega (arith, inner_under table r.fine.clear6 (suc p) p r (omega arith), count_most (under (records table) r.fine.clear6 p) (length (records table)), r.fine.few)
