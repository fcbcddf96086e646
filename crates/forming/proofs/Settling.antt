-- Patterns that are only a test: they give nothing new, and where they match in one way the others give the same.
use mathlib.Core.Path.{◌≡◌, refl, sym, ap, ap₂, subst, ◌∙◌}
use mathlib.Core.Bool.{Bool, true, false, cond}
use mathlib.Core.Logic.{inl, inr, ⊎_elim}
use mathlib.Core.List.{List, [], ◌∷◌, ◌++◌}
use Prim.Native.Nat.{◌%◌, ℕ, suc, ◌+◌, ◌*◌, ◌^◌, ◌≤◌, ◌<◌}
use native.Mathlib.Nat.{pow-suc}
use native.Mathlib.Omega.{arith}
use lib.Dec.{eqb}
use lib.ListN.{length, get_or}
use lib.Seq.{ext_get_or}
use lib.Pow.{pow_mono}
use borrow.Author.Tests.{eqb-true}
use Rattle.prelude.specs.Membership.{In}
use Rattle.prelude.proofs.Membership.{in_one}
use Rattle.values.specs.Value.{Value}
use Rattle.values.specs.Items.{same}
use Rattle.tables.specs.Record.{Record, is_pattern, is_composed, named as operands_of, operand, name_of}
use Rattle.tables.proofs.Laws.Kinds.{name_bare}
use Rattle.tables.proofs.Laws.Through.{EachTo, each_next}
use Rattle.tables.specs.Table.{record_at, kind_at}
use Rattle.tables.specs.Accepted.{records}
use Rattle.parts.specs.Part.{PartIs}
use Rattle.parts.proofs.Packing.{how_none}
use Rattle.parts.specs.Word.{unpacked}
use Rattle.patterns.specs.Binding.{Cell, free, is, clash, Binding, names, cell_of, agree, merge, consistent, with_each, together}
use Rattle.patterns.specs.Pattern.{Pattern, name, any, matches}
use Rattle.patterns.proofs.Laws.Named.{Told, told}
use Rattle.patterns.specs.Pattern.{named_each}
use Rattle.patterns.specs.Pattern.{holds_named as named}
use Rattle.patterns.proofs.Laws.Matched.{in_together, together_in, matched, match_sized, merge_sized}
use Rattle.prelude.proofs.Absurd.{true_false}
use Rattle.patterns.proofs.Laws.Together.{one_together}
use Rattle.patterns.specs.Nodes.{is_halved}
use Rattle.patterns.proofs.Laws.Nodes.{is_name, on_leaf, on_composed}
use Rattle.patterns.proofs.Laws.Some.{some_halves}
use Rattle.patterns.specs.Read.{Readable, patterns_of, pattern_of, pattern_at}
use Rattle.matching.specs.Leaf.{Stands}
use Rattle.matching.specs.Node.{inner_of}
use Rattle.matching.proofs.Records.{by_record, inner_length, count_two, name_small, no_part}
use Rattle.matching.proofs.Naming.{merge_cell, consistent_at}
use Rattle.patterns.proofs.Laws.Merging.{agree_free}
use Rattle.forming.specs.Settled.{Settled, TellsSettled, HasWord}
use Rattle.forming.specs.Onward.{Task, task, matches_all, onward, zipped}
use Rattle.forming.specs.Laws.Onward.{onward_first}

-- ---- the names of a pattern by its record

-- a name's record has its number
pub name_is : (table : List ℕ) (p : ℕ) → Readable table p → kind_at (records table) p ≡ 32 → (x : ℕ) → x ≡ name_of (record_at (records table) p) → (x < names) × (pattern_at (records table) p ≡ name x)
name_is table p h e x n = (omega (arith, n, name_small table p h e), by_record table p h ∙ is_name (record_at (records table) p) (inner_of table p) e ∙ ap name (sym n))

composed_names : (r : Record) (ps : List Pattern) → is_composed r.kind ≡ true → (is_halved r.kind ≡ true → length ps ≡ 2) → (y : ℕ) → named (pattern_of r ps) y ≡ named_each (patterns_of ps) y
unfolding named
composed_names r ps c two y =
    on_composed r ps (λ q. named q y ≡ named_each (patterns_of ps) y) c (λ h. refl) (λ h. some_halves (λ q. named q y) (λ qs. named_each qs y) refl (λ q qs. refl) ps (two h))

no_names : (r : Record) (ps : List Pattern) → (r.kind ≡ 32 → ⊥) → is_pattern r.kind ≡ true → is_composed r.kind ≡ false → (y : ℕ) → named (pattern_of r ps) y ≡ false
unfolding named
no_names r ps n p c y = on_leaf r ps (λ q. named q y ≡ false) p c (λ e. absurd (n e)) (λ e. refl) (λ w a b. refl)

only_name : (x : ℕ) (words : List ℕ) → (get_or words x 0 ≡ 0 → ⊥) → (y : ℕ) → eqb x y ≡ true → get_or words y 0 ≡ 0 → ⊥
only_name x words h y e z = h (ap (λ (n : ℕ). get_or words n 0) (eqb-true x y e) ∙ z)

-- ---- is_settled

-- the operands before i are settled
abbrev pub SettledTo : List ℕ → ℕ → List ℕ → ℕ → Type 0
SettledTo table p m i = EachTo (λ q. Settled (pattern_at (records table) q) m) (record_at (records table) p) i

module _ (table : List ℕ) (p : ℕ) (r : Readable table p) (m : List ℕ) where
  pub settled_name : kind_at (records table) p ≡ 32 → (x : ℕ) → x ≡ name_of (record_at (records table) p) → (t : Bool) → HasWord m x t → TellsSettled table p m t
  unfolding named
  settled_name e x q t h = record {
    says = λ k.
        subst (λ (w : Pattern). Settled w m) (sym (name_is table p r e x q).1) (λ y l n z. only_name x m (h.says k) y n z);
    each = λ k c. true_false (sym c ∙ name_bare e);
  }

  pub settled_leaf : (kind_at (records table) p ≡ 32 → ⊥) → is_composed (kind_at (records table) p) ≡ false → TellsSettled table p m true
  settled_leaf n l = record {
    says = λ k y b e z.
        true_false (sym e ∙ ap (λ (w : Pattern). named w y) (by_record table p r) ∙ no_names (record_at (records table) p) (inner_of table p) n r.pattern l y);
    each = λ k c. true_false (sym c ∙ l);
  }

  module _ (c : is_composed (kind_at (records table) p) ≡ true) where
    composed : (y : ℕ) → named (pattern_at (records table) p) y ≡ named_each (patterns_of (inner_of table p)) y
    composed y =
        ap (λ (w : Pattern). named w y) (by_record table p r)
        ∙ composed_names (record_at (records table) p) (inner_of table p) c (λ q. inner_length table p r ∙ count_two table p r c q) y

    pub settled_all : (i : ℕ) → SettledTo table p m i → length (operands_of (record_at (records table) p)) ≤ i → TellsSettled table p m true
    unfolding named
    settled_all i h l = record {
      -- where y has no word, no part names it
      says = λ k y b e z.
          true_false (sym e ∙ no_part (λ q. named q y) (λ qs. named_each qs y) refl (λ q qs. refl) table p r (composed y) i (λ j o. not_so (named (pattern_at (records table) (operand (record_at (records table) p) j)) y) (λ f. h j o y b f z)) l);
      each = λ k c j b. h j (omega arith);
    }
      where
        not_so : (t : Bool) → (t ≡ true → ⊥) → t ≡ false
        not_so true f = absurd (f refl)
        not_so false f = refl

pub settled_next : (table : List ℕ) (p : ℕ) (m : List ℕ) (i q : ℕ) → SettledTo table p m i → q ≡ operand (record_at (records table) p) i → (t : Bool) → TellsSettled table q m t → t ≡ true → SettledTo table p m (i + 1)
settled_next table p m i q h e t o k = each_next (λ q. Settled (pattern_at (records table) q) m) (record_at (records table) p) i q h e (o.says k)

pub settled_no : (table : List ℕ) (p : ℕ) (m : List ℕ) → TellsSettled table p m false
settled_no table p m = record { says = λ e. true_false (sym e); each = λ e. true_false (sym e) }

-- ---- a settled pattern gives nothing new

module _ (s : List ℕ) (m : List ℕ) (b : Binding) (h : Stands s m b) where
  pub has_value : (y : ℕ) → y < names → (get_or m y 0 ≡ 0 → ⊥) → (v : Value) × (cell_of b y ≡ is v) × PartIs s (unpacked (get_or m y 0)) v
  has_value y l f = ⊎_elim (λ z. absurd (f (h.blank y l (how_none (get_or m y 0 % 4) z.0)))) (λ z. z) (h.cells y l)

  abbrev is_fine : Cell → Bool
  is_fine free = true
  is_fine (is v) = true
  is_fine clash = false

  agreed : (v w : Value) (t : Bool) → is_fine (cond t (is v) clash) ≡ true → cond t (is v) clash ≡ is v
  agreed v w true e = refl
  agreed v w false e = true_false (sym e)

  -- two that agree on a name that has a value
  same_cell : (u : Bool) (c d : Cell) → (u ≡ true → (v : Value) × (c ≡ is v)) → Told u d → is_fine (agree c d) ≡ true → agree c d ≡ c
  same_cell true c d f (w, e) k =
      let (v, g) = f refl in
      let a : agree c d ≡ cond (same v w) (is v) clash = ap₂ agree g e in
      a ∙ agreed v w (same v w) (ap is_fine (sym a) ∙ k) ∙ sym g
  same_cell false c d f e k = ap (agree c) e ∙ agree_free c

  module _ (p : Pattern) (settled : Settled p m) (v : Value) where
    -- THEOREM: with what is found a settled pattern gives what is found
    settled_same : (c : Binding) → In c (matches p v) → consistent (merge b c) ≡ true → merge b c ≡ b
    settled_same c i k =
        let q = matched p v c i in
        let n = match_sized p v c q in
        let both : length b ≡ length c = h.binding_sized ∙ sym n in
        let long = merge_sized b c both in
        ext_get_or free (merge b c) b long (λ y l.
        let w : y < names = omega (arith, long, h.binding_sized) in
        merge_cell b c y both
        ∙ same_cell (named p y) (cell_of b y) (cell_of c y) (λ e. let (u, d, i) = has_value y w (settled y w e) in (u, d)) (told p v c q y w)
        (ap is_fine (sym (merge_cell b c y both)) ∙ consistent_at (merge b c) k y l))

    with_same : (ds : List Binding) → ((c : Binding) → In c ds → In c (matches p v)) → (c : Binding) → In c (with_each b ds) → c ≡ b
    unfolding with_each
    with_same [] f c i = absurd i
    with_same (d ∷ ds) f c i = go (consistent (merge b d)) refl i (λ j. with_same ds (λ e k. f e (inr k)) c j)
      where
        go : (t : Bool) → consistent (merge b d) ≡ t → In c (cond t (merge b d ∷ with_each b ds) (with_each b ds)) → (In c (with_each b ds) → c ≡ b) → c ≡ b
        go true e (inl q) on = q ∙ settled_same d (f d (inl refl)) e
        go true e (inr j) on = on j
        go false e j on = on j

    pub all_same : (c : Binding) → In c (with_each b (matches p v)) → c ≡ b
    all_same c i = with_same (matches p v) (λ d j. j) c i

  -- ---- before the rest of an agenda

  one_with : (ds : List Binding) (c : Binding) → In c (together (b ∷ []) ds) → In c (with_each b ds)
  one_with ds c i = subst (In c) (one_together b ds) i

  with_one : (ds : List Binding) (c : Binding) → In c (with_each b ds) → In c (together (b ∷ []) ds)
  with_one ds c i = subst (In c) (sym (one_together b ds)) i

  module _ (p : Pattern) (settled : Settled p m) (v : Value) (ts : List Task) where
    -- what goes on goes on without it
    pub settled_less : (c : Binding) → In c (onward (task p v ∷ ts) b) → In c (onward ts b)
    settled_less c i =
        let (a, d, j, k, t, e) = in_together c (with_each b (matches p v)) (matches_all ts) (subst (In c) (onward_first p v ts b) i) in
        let q = all_same p settled v a j in
        one_with (matches_all ts) c (subst (λ (x : Binding). In x (together (b ∷ []) (matches_all ts))) (sym e) (together_in a d (b ∷ []) (matches_all ts) (inl q) k t))

    -- and where something goes on, all does
    settled_more : (o : Binding) → In o (onward (task p v ∷ ts) b) → (c : Binding) → In c (onward ts b) → In c (onward (task p v ∷ ts) b)
    settled_more o i c l =
        let (a, d, j, k, t, e) = in_together o (with_each b (matches p v)) (matches_all ts) (subst (In o) (onward_first p v ts b) i) in
        let q = all_same p settled v a j in
        let there : In b (with_each b (matches p v)) = subst (λ (x : Binding). In x (with_each b (matches p v))) q j in
        let (a', d', j', k', t', e') = in_together c (b ∷ []) (matches_all ts) (with_one (matches_all ts) c l) in
        let q' : a' ≡ b = in_one a' j' in
        subst (In c) (sym (onward_first p v ts b))
        (subst (λ (x : Binding). In x (together (with_each b (matches p v)) (matches_all ts))) (sym e')
        (together_in a' d' (with_each b (matches p v)) (matches_all ts) (subst (λ (x : Binding). In x (with_each b (matches p v))) (sym q') there) k' t'))

  -- each of several patterns is settled
  abbrev EachSettled : List Pattern → Type 0
  EachSettled ps = (j : ℕ) → j < length ps → Settled (get_or ps j any) m

  pub several_more : (ps : List Pattern) (vs : List Value) (ts : List Task) → EachSettled ps → (o : Binding) → In o (onward (zipped ps vs ++ ts) b) → (c : Binding) → In c (onward ts b) → In c (onward (zipped ps vs ++ ts) b)
  unfolding zipped
  several_more [] vs ts f o i c l = l
  several_more (p ∷ ps) [] ts f o i c l = l
  several_more (p ∷ ps) (v ∷ vs) ts f o i c l =
      let less = settled_less p (f 0 (omega arith)) v (zipped ps vs ++ ts) o i in
      let on = several_more ps vs ts (λ j k. f (suc j) (omega arith)) o less c l in
      settled_more p (f 0 (omega arith)) v (zipped ps vs ++ ts) o i c on

-- ---- parts that are only tests

-- So many parts are told, a bit for each.
pub record ToldSoFar (n tests i : ℕ) : Type 0 where
  pub told : ℕ
  pub within : i + told ≡ n
  pub low : tests < 2 ^ told

pub told_start : (n : ℕ) → ToldSoFar n 0 n
told_start n = record { told = 0; within = omega arith; low = omega arith }

pub told_more : (n tests i j r : ℕ) → i ≡ j + 1 → r ≤ 2 * tests + 1 → ToldSoFar n tests i → ToldSoFar n r j
told_more n tests i j r e l h = record { told = suc h.told; within = omega (arith, h.within); low = omega (arith, h.low, pow-suc 2 h.told) }

pub told_few : (n tests i : ℕ) → n ≤ 8 → ToldSoFar n tests i → tests < 256
told_few n tests i l h = let p : 2 ^ h.told ≤ 256 = pow_mono {i = h.told} {j = 8} (omega (arith, h.within)) in omega (arith, h.low, p)
