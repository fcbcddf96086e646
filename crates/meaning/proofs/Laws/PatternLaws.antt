-- The patterns that the meaning reads in an accepted table hold what the check's tests of their records say: the same names, and the same
-- looseness. So rule 8 and a choice speak of the same lets.
use Rattle.std.specs.Prelude.{◌≡◌, Bool, true, false, ◌&&◌, ◌||◌, List, [], ◌∷◌, map, ℕ, zero, suc, ◌+◌, ◌-◌, ◌≤◌, ◌<◌, length, get_or}
use Rattle.std.proofs.Math.Path.{refl, sym, ap}
use Rattle.std.proofs.Common.{◌∙◌, subst, arith}
use Rattle.std.proofs.Math.Bool.{or-false}
use Rattle.std.proofs.Math.Dec.{eqb}
use Rattle.std.proofs.lemmas.List.{length-map}
use Rattle.patterns.specs.Pattern.{Pattern, any, each, halved, is_unordered, loose as is_loose_at, loose_each}
use Rattle.values.specs.Value.{Kind, set, sequence, map as mapping, tuple}
use Rattle.patterns.specs.Pattern.{named_each}
use Rattle.patterns.specs.Pattern.{holds_named as holds_at}
use Rattle.std.specs.Prelude.{Ok}
use Rattle.tables.specs.Record.{Record, shape, is_pattern, is_fit, name_of, named as operands_of, operand}
use Rattle.tables.specs.Table.{record_at, kind_at}
use Rattle.tables.specs.Sheet.{some, is_name, holds_name, is_loose, loose, any_below}
use Rattle.tables.specs.Check.{check}
use Rattle.tables.proofs.Laws.Below.{fold_at}
use Rattle.tables.proofs.Laws.Kinds.{pattern_least}
use Rattle.tables.specs.Accepted.{records, Fine}
use Rattle.tables.proofs.Laws.Accepted.{accepted_fine, operand_lower, operand_sort, pattern_role, lower, fit_least, fit_most, fit_kind, named_count}
use Rattle.meaning.proofs.Laws.Proper.{◌&◌}
use Rattle.patterns.specs.Read.{patterns_of, patterns, pattern_of, pattern_at}

-- ---- the number of operands of a kind

-- As few as `least` and as many as there are roles.
pub record Counted (k n : ℕ) : Type 0 where
  pub low : (shape k).least ≤ n
  pub high : n ≤ length (shape k).roles

counted : (q : Record) (k : ℕ) → q.kind ≡ k → is_fit q ≡ true → Counted k (length (operands_of q))
counted q k e f =
    subst (λ m. Counted m (length (operands_of q))) e
    (record { low = omega (arith, named_count q f, fit_least q f); high = omega (arith, named_count q f, fit_most q f) })

-- ---- a test of records and the same of patterns

-- What a pattern of kind k holds is what its record or one of its parts holds.
abbrev Agrees : (Record → Bool) → (Pattern → Bool) → ℕ → (Record → List Pattern → Pattern) → Type 0
Agrees test m k f = (q : Record) → q.kind ≡ k → (ps : List Pattern) → Counted k (length ps) → m (f q ps) ≡ test q || some (map m ps)

abbrev EachAgrees : (Record → Bool) → (Pattern → Bool) → ℕ → List (Record → List Pattern → Pattern) → Type 0
EachAgrees test m k [] = Unit {0}
EachAgrees test m k (f ∷ fs) = Agrees test m k f × EachAgrees test m (suc k) fs

agrees_at : (test : Record → Bool) (m : Pattern → Bool) (k j : ℕ) (fs : List (Record → List Pattern → Pattern)) → j < length fs → EachAgrees test m k fs → Agrees test m (k + j) (get_or fs j (λ q qs. any))
agrees_at test m k j [] h a = absurd (omega arith)
agrees_at test m k zero (f ∷ fs) h a = let e : k ≡ k + 0 = omega arith in subst (λ i. Agrees test m i f) e a.0
agrees_at test m k (suc j) (f ∷ fs) h a =
    let e : suc k + j ≡ k + suc j = omega arith in
    subst (λ i. Agrees test m i (get_or fs j (λ q qs. any))) e (agrees_at test m (suc k) j fs (omega arith) a.1)

module _ (test : Record → Bool) (m : Pattern → Bool) (agree : EachAgrees test m 32 patterns) (rs : List Record) (fine : Fine rs) where
  -- A pattern record, by its parts.
  pattern_at_lem : (r : ℕ) → r < length rs → pattern_at rs r ≡ pattern_of (record_at rs r) (map (pattern_at rs) (operands_of (record_at rs r)))
  unfolding pattern_at
  pattern_at_lem r h = fold_at (λ q ps. pattern_of (record_at rs q) ps) any rs (lower rs fine.clear6) r h

  holds_at_lem : (r : ℕ) → r < length rs → any_below test rs r ≡ test (record_at rs r) || some (map (any_below test rs) (operands_of (record_at rs r)))
  holds_at_lem r h = fold_at (λ q bs. test (record_at rs q) || some bs) false rs (lower rs fine.clear6) r h

  kinds : (r : ℕ) → is_pattern (kind_at rs r) ≡ true → 32 ≤ kind_at rs r
  kinds r p = pattern_least (kind_at rs r) p

  by_kind : (r : ℕ) → r < length rs → is_pattern (kind_at rs r) ≡ true → (ps : List Pattern) → length ps ≡ length (operands_of (record_at rs r)) → m (pattern_of (record_at rs r) ps) ≡ test (record_at rs r) || some (map m ps)
  by_kind r h p ps n =
      let low = kinds r p in
      let high = fit_kind (record_at rs r) (fine.fit r h) in
      let e : kind_at rs r ≡ 32 + (kind_at rs r - 32) = omega arith in
      agrees_at test m 32 (kind_at rs r - 32) patterns (omega arith) agree (record_at rs r) e ps
      (subst (Counted _) (sym n) (counted (record_at rs r) _ e (fine.fit r h)))

  parts_same : (os : List ℕ) → ((i : ℕ) → i < length os → any_below test rs (get_or os i 0) ≡ m (pattern_at rs (get_or os i 0))) → map (any_below test rs) os ≡ map m (map (pattern_at rs) os)
  parts_same [] h = refl
  parts_same (a ∷ os) h =
      let here : any_below test rs a ≡ m (pattern_at rs a) = h 0 (omega arith) in
      let there : map (any_below test rs) os ≡ map m (map (pattern_at rs) os) = parts_same os (λ i j. h (suc i) (omega arith)) in
      cc

  part_is_pattern : (r i : ℕ) → r < length rs → i < length (operands_of (record_at rs r)) → is_pattern (kind_at rs r) ≡ true → is_pattern (kind_at rs (operand (record_at rs r) i)) ≡ true
  part_is_pattern r i h k p = rw (pattern_role (record_at rs r) i p k) at (operand_sort rs fine.clear6 r i h k)

  same_to : (n r : ℕ) → r < n → r < length rs → is_pattern (kind_at rs r) ≡ true → any_below test rs r ≡ m (pattern_at rs r)
  same_to zero r l h p = absurd (omega arith)
  same_to (suc n) r l h p =
      holds_at_lem r h
      ∙ ap (λ x. test (record_at rs r) || some x)
      (parts_same (operands_of (record_at rs r))
      (λ i k. same_to n (operand (record_at rs r) i) (omega (arith, operand_lower rs fine.clear6 r i h k)) (omega (arith, operand_lower rs fine.clear6 r i h k)) (part_is_pattern r i h k p)))
      ∙ sym (by_kind r h p (map (pattern_at rs) (operands_of (record_at rs r))) (length-map (operands_of (record_at rs r)) (pattern_at rs)))
      ∙ ap m (sym (pattern_at_lem r h))

-- ---- looseness

abbrev loose_kind : ℕ → Bool
loose_kind k = (shape k).loose

loose_parts : (ps : List Pattern) → loose_each (patterns_of ps) ≡ some (map is_loose_at ps)
unfolding is_loose_at patterns_of
loose_parts [] = refl
loose_parts (p ∷ ps) = ap (λ b. is_loose_at p || b) (loose_parts ps)

-- A record without parts.
no_parts : (m : Pattern → Bool) (k : ℕ) (ps : List Pattern) → length (shape k).roles ≡ 0 → Counted k (length ps) → some (map m ps) ≡ false
no_parts m k [] e c = refl
no_parts m k (p ∷ ps) e c = let h = c.high in absurd (omega arith)

or_both : {a b c d : Bool} → a ≡ c → b ≡ d → c || d ≡ a || b
or_both {a} {b} {c} {d} e f = sym (ap (λ x. x || b) e ∙ ap (λ x. c || x) f)

-- One part for each item, and two halves.
loose_each_lem : (k : ℕ) (d : Kind) → loose_kind k ≡ is_unordered d → Agrees is_loose is_loose_at k (λ r ps. each d (patterns_of ps))
unfolding is_loose_at
loose_each_lem k d u q e ps c = or_both (ap loose_kind e ∙ u) (sym (loose_parts ps))

loose_halves : (k : ℕ) (d : Kind) → loose_kind k ≡ true → Agrees is_loose is_loose_at k (λ r ps. halved d (get_or ps 0 any) (get_or ps 1 any))
unfolding is_loose_at
loose_halves k d u q e ps c = sym (ap (λ x. x || some (map is_loose_at ps)) (ap loose_kind e ∙ u))

all_loose : EachAgrees is_loose is_loose_at 32 patterns
unfolding is_loose_at shape
all_loose =
    (λ q e ps c. or_both (ap loose_kind e) (no_parts is_loose_at 32 ps refl c))
    & (λ q e ps c. or_both (ap loose_kind e) (no_parts is_loose_at 33 ps refl c))
    & (λ q e ps c. or_both (ap loose_kind e) (no_parts is_loose_at 34 ps refl c))
    & (λ q e ps c. or_both (ap loose_kind e) (no_parts is_loose_at 35 ps refl c))
    & loose_each_lem 36 tuple refl
    & loose_each_lem 37 set refl
    & loose_halves 38 set refl
    & loose_each_lem 39 sequence refl
    & loose_halves 40 sequence refl
    & loose_each_lem 41 mapping refl
    & loose_halves 42 mapping refl
    & (λ q e ps c. or_both (ap loose_kind e) (no_parts is_loose_at 43 ps refl c))
    & tt

-- ---- names

name_parts : (x : ℕ) (ps : List Pattern) → named_each (patterns_of ps) x ≡ some (map (λ p. holds_at p x) ps)
unfolding holds_at patterns_of
name_parts x [] = refl
name_parts x (p ∷ ps) = ap (λ b. holds_at p x || b) (name_parts x ps)

two_parts : (m : Pattern → Bool) (ps : List Pattern) → length ps ≡ 2 → some (map m ps) ≡ m (get_or ps 0 any) || m (get_or ps 1 any)
two_parts m [] e = absurd (omega arith)
two_parts m (p ∷ []) e = absurd (omega arith)
two_parts m (p ∷ q ∷ []) e = ap (λ b. m p || b) (or-false (m q))
two_parts m (p ∷ q ∷ s ∷ ps) e = absurd (omega arith)

abbrev name_kind : ℕ → ℕ → ℕ → Bool
name_kind x y k = eqb k 32 && eqb y x

module _ (x : ℕ) where
  abbrev named : Pattern → Bool
  named p = holds_at p x

  name_each : (k : ℕ) (d : Kind) → eqb k 32 ≡ false → Agrees (is_name x) named k (λ r ps. each d (patterns_of ps))
  unfolding holds_at
  name_each k d u q e ps c = or_both (ap (name_kind x (name_of q)) e ∙ ap (λ b. b && eqb (name_of q) x) u) (sym (name_parts x ps))

  name_halves : (k : ℕ) (d : Kind) → eqb k 32 ≡ false → (shape k).least ≡ 2 → length (shape k).roles ≡ 2 → Agrees (is_name x) named k (λ r ps. halved d (get_or ps 0 any) (get_or ps 1 any))
  unfolding holds_at
  name_halves k d u low high q e ps c =
      let l = c.low in
      let h = c.high in
      or_both (ap (name_kind x (name_of q)) e ∙ ap (λ b. b && eqb (name_of q) x) u) (two_parts named ps (omega arith))

  all_names : EachAgrees (is_name x) named 32 patterns
  unfolding holds_at shape
  all_names =
      (λ q e ps c. sym (or-false (eqb (name_of q) x)) ∙ or_both (ap (name_kind x (name_of q)) e) (no_parts named 32 ps refl c))
      & (λ q e ps c. or_both (ap (name_kind x (name_of q)) e) (no_parts named 33 ps refl c))
      & (λ q e ps c. or_both (ap (name_kind x (name_of q)) e) (no_parts named 34 ps refl c))
      & (λ q e ps c. or_both (ap (name_kind x (name_of q)) e) (no_parts named 35 ps refl c))
      & name_each 36 tuple refl
      & name_each 37 set refl
      & name_halves 38 set refl refl refl
      & name_each 39 sequence refl
      & name_halves 40 sequence refl refl refl
      & name_each 41 mapping refl
      & name_halves 42 mapping refl refl refl
      & (λ q e ps c. or_both (ap (name_kind x (name_of q)) e) (no_parts named 43 ps refl c))
      & tt

-- ---- of an accepted table

module _ (table : List ℕ) (n : ℕ) (ok : check table ≡ Ok n) where
  -- THEOREM: a pattern record is read over what its parts are read as.
  pub pattern_is : (r : ℕ) → r < length (records table) → pattern_at (records table) r ≡ pattern_of (record_at (records table) r) (map (pattern_at (records table)) (operands_of (record_at (records table) r)))
  pattern_is r h = pattern_at_lem is_loose is_loose_at all_loose (records table) (accepted_fine table n ok).0 r h

  -- THEOREM: a pattern is loose exactly when the check finds a 37, 38, 40, 41 or 42 in it.
  pub loose_is : (r : ℕ) → r < length (records table) → is_pattern (kind_at (records table) r) ≡ true → loose (records table) r ≡ is_loose_at (pattern_at (records table) r)
  unfolding loose
  loose_is r h p = same_to is_loose is_loose_at all_loose (records table) (accepted_fine table n ok).0 (suc r) r (omega arith) h p

  -- THEOREM: a pattern has the names that the check finds in it.
  pub names_are : (r x : ℕ) → r < length (records table) → is_pattern (kind_at (records table) r) ≡ true → holds_name (records table) r x ≡ holds_at (pattern_at (records table) r) x
  unfolding holds_name
  names_are r x h p = same_to (is_name x) (λ y. holds_at y x) (all_names x) (records table) (accepted_fine table n ok).0 (suc r) r (omega arith) h p
