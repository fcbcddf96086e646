-- What patterns take, how many the halves of a way have, and ways without a match.
use mathlib.Core.Path.{◌≡◌, refl, sym, ap, ap₂, subst, ◌∙◌}
use mathlib.Core.Bool.{Bool, true, false, ◌||◌}
use mathlib.Core.Logic.{◌⊎◌, inl, inr}
use mathlib.Core.List.{List, [], ◌∷◌, map, map-id}
use Prim.Native.Nat.{ℕ, zero, suc, ◌+◌, ◌-◌, ◌*◌, ◌/◌, ◌%◌, ◌^◌, ◌≤◌, ◌<◌}
use native.Mathlib.Nat.{pow-suc}
use native.Mathlib.Omega.{arith}
use lib.Count.{ones, ones_cat, ones-ones, ones_step}
use lib.ListN.{length, get_or, take, drop, length-append, length-map, length-drop}
use lib.Seq.{length-take-le}
use Rattle.prelude.proofs.Lists.{map_at}
use Rattle.prelude.proofs.Truth.{or_false_left, or_false_right}
use Rattle.values.specs.Value.{Kind, set, sequence, map as mapping, tuple, number, Value, collection}
use Rattle.tables.specs.Record.{Record, named as operands_of, operand, name_of}
use Rattle.tables.specs.Table.{record_at, kind_at}
use Rattle.tables.specs.Accepted.{records}
use Rattle.parts.proofs.Choosing.{split_left, split_right}
use Rattle.parts.specs.declared.Part.{Part}
use Rattle.parts.specs.Part.{PartIs, PartHeld}
use Rattle.parts.specs.Word.{unpacked}
use Rattle.parts.specs.Contract.{KindOfPart, CountOfPart}
use Rattle.parts.specs.Chosen.{split_at}
use Rattle.parts.proofs.Chosen.{proper_length, cuts_length, nth_proper, nth_cut}
use Rattle.patterns.proofs.Laws.Units.{shared_length}
use Rattle.patterns.proofs.Laws.Collected.{units_items}
use Rattle.patterns.specs.Ways.{Halves, halves, proper_splits}
use Rattle.patterns.specs.Binding.{is, Binding, names, cell_of}
use Rattle.patterns.specs.Pattern.{Pattern, name, each, halved, items_of, entries_of, UnitOf, units_of, items_in, halves_in, is_unordered, divisions}
use Rattle.patterns.specs.Relation.{Divided, Matches}
use Rattle.prelude.proofs.Absurd.{impossible, true_false}
use Rattle.forming.proofs.Told.{for_some}
use Rattle.patterns.specs.Nodes.{collection_of, width}
use Rattle.patterns.proofs.Laws.Named.{only_cell}
use Rattle.patterns.proofs.Laws.Nodes.{parts_length}
use Rattle.patterns.specs.Read.{Readable, patterns_of, pattern_of, pattern_at}
use Rattle.matching.specs.Leaf.{Stands, Standing}
use Rattle.matching.specs.Node.{inner_of}
use Rattle.matching.proofs.Records.{by_record, inner_length}
use Rattle.matching.proofs.Counting.{units_count}
use Rattle.forming.specs.declared.sizes.Size.{Size}
use Rattle.forming.specs.declared.sizes.Sizes.{Sizes}
use Rattle.std.specs.Prelude.{Option, Some, None}
use Rattle.forming.specs.declared.sizes.Range.{Range}
use Rattle.forming.specs.Sizes.{Splits, enumeration_of, fewest_of, Sized, SizeOfValue, Takes, TellsSize, Sum, HalvesTake, TellsSizes, RightsIn, Rights, FirstOf, SplitFrom, CutFrom, half_at, Barren, Divisible, From}
use Rattle.forming.proofs.Compatible.{joined_left, joined_right, compatible_within}
use Rattle.forming.proofs.Reducing.{items_same, by_splits, is_two}
use Rattle.forming.proofs.Settling.{name_is, has_value}

-- ---- two sizes together

pub sum_over : (l r : Size) → 255 < l.least + r.least → Sum l r (record { least = 255; more = true })
sum_over l r h = record { right = λ m n a b. record { least = omega (arith, a.least, b.least); exact = λ e. true_false e } }

pub sum_is : (l r : Size) (x : ℕ) → x ≡ l.least + r.least → (o : Bool) → o ≡ (l.more || r.more) → Sum l r (record { least = x; more = o })
sum_is l r x e o f = record {
  right = λ m n a b. record {
    least = omega (arith, a.least, b.least, e);
    exact = λ g.
        let c : (l.more || r.more) ≡ false = sym f ∙ g in
        omega (arith, a.exact (or_false_left l.more r.more c), b.exact (or_false_right l.more r.more c), e);
  };
}

-- ---- the kinds that are split or cut

-- what is not cut is split
pub is_split : (c : ℕ) → Splits c → (c ≡ 40 → ⊥) → is_unordered (collection_of c) ≡ true
is_split c u f =
    by_splits c u (λ e. ap (λ (k : ℕ). is_unordered (collection_of k)) e) (λ e. absurd (f e)) (λ e. ap (λ (k : ℕ). is_unordered (collection_of k)) e)

-- ---- how many units there are

pub units_paired : (c n : ℕ) → c ≡ 42 → n / 2 ≡ n / width (collection_of c)
units_paired c n e = ap (λ (k : ℕ). n / width (collection_of k)) (sym e)

pub units_single : (c n : ℕ) → (c ≡ 42 → ⊥) → Splits c → n ≡ n / width (collection_of c)
units_single c n f u =
    let one : n ≡ n / 1 = omega arith in
    one ∙ by_splits c u (λ q. ap (λ (k : ℕ). n / width (collection_of k)) (sym q)) (λ q. ap (λ (k : ℕ). n / width (collection_of k)) (sym q)) (λ q. absurd (f q))

units_told : (k : Kind) (us : List (UnitOf k)) (n : ℕ) → n ≡ length (items_in k us) → (r : ℕ) → r ≡ n / width k → Sized (record { least = r; more = false }) (length us)
units_told k us n e r f = let q : r ≡ length us = f ∙ ap (λ (m : ℕ). m / width k) e ∙ units_count k us in record { least = omega (arith, q); exact = λ t. sym q }

-- ---- how many a value has

pub word_held : (s found : List ℕ) (x : ℕ) → x < names → (get_or found x 0 ≡ 0 → ⊥) → Standing s found → PartHeld s (unpacked (get_or found x 0))
word_held s found x l f (b, st) = let (v, e, p) = has_value s found b st x l f in record { value = v; here = p }

module _ (s : List ℕ) (word c : ℕ) (part : Part) (e : part ≡ unpacked word) where
  as_part : (v : Value) → PartIs s (unpacked word) v → PartIs s part v
  as_part v i = subst (λ (p : Part). PartIs s p v) (sym e) i

  pub kind_other : (k : ℕ) → KindOfPart s part k → (k ≡ number (collection_of c) → ⊥) → (z : Size) → SizeOfValue s word c z
  kind_other k h f z us i = absurd (f (h (collection (collection_of c) (items_of (items_in (collection_of c) us))) (as_part (collection (collection_of c) (items_of (items_in (collection_of c) us))) i)))

  pub count-is : (n : ℕ) → CountOfPart s part n → (r : ℕ) → r ≡ n / width (collection_of c) → SizeOfValue s word c (record { least = r; more = false })
  count-is n h r t us i = units_told (collection_of c) us n (h (collection_of c) (items_in (collection_of c) us) (as_part (collection (collection_of c) (items_of (items_in (collection_of c) us))) i)) r t

-- ---- what a pattern takes

-- the units of both halves are the units of the whole
pub divided_counts : (k : Kind) (vs ls rs : List Value) → Divided k vs ls rs
    → (ms ns : List (UnitOf k)) × (ls ≡ items_in k ms) × (rs ≡ items_in k ns) × (length (units_of k vs) ≡ length ms + length ns) × (fewest_of k ≤ length ms) × (fewest_of k ≤ length ns)
divided_counts set vs ls rs (s, l, r) = (ls, rs, refl, refl, shared_length vs ls rs s, l, r)
divided_counts sequence vs ls rs h = (ls, rs, refl, refl, ap length h ∙ length-append ls rs, omega arith, omega arith)
divided_counts mapping vs ls rs (es, fs, (s, l, r), d, e) = (es, fs, d, e, shared_length (entries_of vs) es fs s, l, r)
divided_counts tuple vs ls rs h = absurd h

takes_each : (s : Binding) (k : Kind) (ps : List Pattern) (n : ℕ) → n ≡ length ps → (r : ℕ) → r ≡ n / width k → Takes s k (each k (patterns_of ps)) (record { least = r; more = false })
unfolding Matches
takes_each s k ps n e r t us b low (vs, ws, d, c, a, m) f = units_told k us n (e ∙ sym (parts_length ps) ∙ c ∙ ap length (sym (items_same k (items_in k us) vs d))) r t

takes_halved : (st : Binding) (k : Kind) (l r : Pattern) (x y z : Size) → Takes st k l x → Takes st k r y → Sum x y z → Takes st k (halved k l r) z
unfolding Matches
takes_halved st k l r x y z a b s us c low (vs, ls, rs, e, f, d, g, m, n, j) o =
    let (ms, ns, p, q, w, t, u) = divided_counts k vs ls rs g in
    let v : length ms + length ns ≡ length us =
    sym w ∙ ap (λ (is : List Value). length (units_of k is)) (sym (items_same k (items_in k us) vs d)) ∙ ap length (units_items k us) in
    subst (Sized z) v (s.right (length ms) (length ns)
    (a ms e t (subst (λ (is : List Value). Matches l (collection k (items_of is)) e) p m) (compatible_within e c st (joined_left e f c j) o))
    (b ns f u (subst (λ (is : List Value). Matches r (collection k (items_of is)) f) q n) (compatible_within f c st (joined_right e f c j) o)))

-- a name that has a value takes this alone
takes_name : (st : Binding) (k : Kind) (x : ℕ) → x < names → (w : Value) → cell_of st x ≡ is w → (z : Size) → ((us : List (UnitOf k)) → w ≡ collection k (items_of (items_in k us)) → Sized z (length us)) → Takes st k (name x) z
unfolding Matches
takes_name st k x l w e z h us a low m o =
    h us (o x l w (collection k (items_of (items_in k us))) e (ap (λ (b : Binding). cell_of b x) m ∙ only_cell x (collection k (items_of (items_in k us))) l))

pub each_by : (r : Record) (ps : List Pattern) (c : ℕ) → r.kind ≡ enumeration_of c → Splits c → pattern_of r ps ≡ each (collection_of c) (patterns_of ps)
each_by r ps c e u =
    by_splits c u
    (λ f. let d : r.kind ≡ 37 = e ∙ ap enumeration_of f in rw (d, f) refl)
    (λ f. let d : r.kind ≡ 39 = e ∙ ap enumeration_of f in rw (d, f) refl)
    (λ f. let d : r.kind ≡ 41 = e ∙ ap enumeration_of f in rw (d, f) refl)

pub size_any : (table : List ℕ) (st : Binding) (p c n : ℕ) → n ≡ fewest_of (collection_of c) → TellsSize table st p c (record { least = n; more = true })
size_any table st p c n e us b low m o = record { least = omega (arith, e, low); exact = λ e. true_false e }

module _ (table : List ℕ) (p : ℕ) (h : Readable table p) (c : ℕ) (u : Splits c) where
  pub size_each : kind_at (records table) p ≡ enumeration_of c → (n : ℕ) → n ≡ length (operands_of (record_at (records table) p)) → (r : ℕ) → r ≡ n / width (collection_of c) → (st : Binding) → TellsSize table st p c (record { least = r; more = false })
  size_each e n l r t st =
      subst (λ (q : Pattern). Takes st (collection_of c) q (record { least = r; more = false })) (sym (by_record table p h ∙ each_by (record_at (records table) p) (inner_of table p) c e u))
      (takes_each st (collection_of c) (inner_of table p) n (l ∙ sym (inner_length table p h)) r t)

  pub size_name : kind_at (records table) p ≡ 32 → (s found : List ℕ) (x : ℕ) → x ≡ name_of (record_at (records table) p) → (get_or found x 0 ≡ 0 → ⊥) → (z : Size) → SizeOfValue s (get_or found x 0) c z → (st : Binding) → Stands s found st → TellsSize table st p c z
  size_name e s found x q f z t st k =
      let (l, n) = name_is table p h e x q in
      let (w, d, i) = has_value s found st k x l f in
      subst (λ (q : Pattern). Takes st (collection_of c) q z) (sym n)
      (takes_name st (collection_of c) x l w d z (λ us g. t us (subst (PartIs s (unpacked (get_or found x 0))) g i)))

  module _ (e : kind_at (records table) p ≡ c) (l : ℕ) (el : l ≡ operand (record_at (records table) p) 0) (r : ℕ) (er : r ≡ operand (record_at (records table) p) 1) (x y : Size) (st : Binding) (tx : TellsSize table st l c x) (ty : TellsSize table st r c y) where
    left_takes : TellsSize table st (operand (record_at (records table) p) 0) c x
    left_takes = subst (λ (n : ℕ). TellsSize table st n c x) el tx

    right_takes : TellsSize table st (operand (record_at (records table) p) 1) c y
    right_takes = subst (λ (n : ℕ). TellsSize table st n c y) er ty

    pub size_halved : (z : Size) → Sum x y z → TellsSize table st p c z
    size_halved z s =
        subst (λ (q : Pattern). Takes st (collection_of c) q z) (sym (is_two table p h c e u))
        (takes_halved st (collection_of c) (pattern_at (records table) (operand (record_at (records table) p) 0)) (pattern_at (records table) (operand (record_at (records table) p) 1)) x y z left_takes right_takes s)

    pub sizes_told : TellsSizes table st p c (Some (record { left = x; right = y }))
    sizes_told = for_some (HalvesTake table st p c) (record { splits = u; left = left_takes; right = right_takes })

pub no_sizes : (table : List ℕ) (st : Binding) (p c : ℕ) → TellsSizes table st p c None
no_sizes table st p c y e = impossible cc

-- ---- how many the right half has

pub no_rights : (z : Sizes) (n : ℕ) → n < z.left.least + z.right.least → Rights z n None
no_rights z n l i j e a b = omega (arith, e, a.least, b.least)

pub rights_are : (z : Sizes) (n x y : ℕ) → z.left.least + z.right.least ≤ n → ((z.left.more ≡ true) × (x ≡ z.right.least)) ⊎ ((z.left.more ≡ false) × (x ≡ n - z.left.least)) → ((z.right.more ≡ true) × (y ≡ n - z.left.least)) ⊎ ((z.right.more ≡ false) × (y ≡ z.right.least)) → RightsIn z n (record { least = x; most = y })
rights_are z n x y l e f = record { low = high f; right = λ i j s a b. (from e i j s a b, to f i j s a b) }
  where
    high : ((z.right.more ≡ true) × (y ≡ n - z.left.least)) ⊎ ((z.right.more ≡ false) × (y ≡ z.right.least)) → y ≤ n
    high (inl (m, q)) = omega (arith, q)
    high (inr (m, q)) = omega (arith, q)

    from : ((z.left.more ≡ true) × (x ≡ z.right.least)) ⊎ ((z.left.more ≡ false) × (x ≡ n - z.left.least)) → (i j : ℕ) → i + j ≡ n → Sized z.left i → Sized z.right j → x ≤ j
    from (inl (m, q)) i j s a b = omega (arith, q, b.least)
    from (inr (m, q)) i j s a b = omega (arith, q, s, a.exact m)

    to : ((z.right.more ≡ true) × (y ≡ n - z.left.least)) ⊎ ((z.right.more ≡ false) × (y ≡ z.right.least)) → (i j : ℕ) → i + j ≡ n → Sized z.left i → Sized z.right j → j ≤ y
    to (inl (m, q)) i j s a b = omega (arith, q, s, a.least)
    to (inr (m, q)) i j s a b = omega (arith, q, b.exact m)

-- a range without a number
pub rights_apart : (z : Sizes) (n x y : ℕ) → RightsIn z n (record { least = x; most = y }) → y < x → Rights z n None
rights_apart z n x y h l i j e a b = let r = h.right i j e a b in omega (arith, r.0, r.1)

none_right : (z : Sizes) (n : ℕ) → Rights z n None → RightsIn z n (record { least = 1; most = 0 })
none_right z n h = record { low = omega arith; right = λ i j e a b. absurd (h i j e a b) }

-- ---- ways that are passed over

pub first-none : (f : ℕ → ℕ) (w d : ℕ) (r : Range) → FirstOf f w d r d
first-none f w d r = record { low = omega arith; within = λ l. l; passed = λ j l m. absurd (omega arith) }

-- no way gives so many
first_past : (f : ℕ → ℕ) (w d : ℕ) (r : Range) → d ≤ w → r.most < r.least → FirstOf f w d r w
first_past f w d r l m = record { low = l; within = λ k. omega arith; passed = λ j a b x y. omega arith }

pub first_more : (f : ℕ → ℕ) (w d : ℕ) (r : Range) (e : ℕ) → FirstOf f w d r e → e < w → (r.least ≤ f e → f e ≤ r.most → ⊥) → FirstOf f w d r (e + 1)
first_more f w d r e h l n = record { low = omega (arith, h.low); within = λ k. omega arith; passed = λ j a m. go j a m (e - j) refl }
  where
    go : (j : ℕ) → d ≤ j → j < e + 1 → (k : ℕ) → e - j ≡ k → r.least ≤ f j → f j ≤ r.most → ⊥
    go j a m zero k = let q : e ≡ j = omega arith in subst (λ (i : ℕ). r.least ≤ f i → f i ≤ r.most → ⊥) q n
    go j a m (suc i) k = h.passed j a (omega arith)

-- one more has at most one bit more
ones_next : (b n : ℕ) → n ≤ b → ones (suc n) ≤ suc (ones n)
ones_next zero n l = let e : n ≡ 0 = omega arith in subst (λ (m : ℕ). ones (suc m) ≤ suc (ones m)) (sym e) (omega (arith, ones_step 1, ones_step 0))
ones_next (suc b) n l = by (n % 2) refl (λ k. ones_next b (n / 2) k)
  where
    by : (m : ℕ) → n % 2 ≡ m → (n / 2 ≤ b → ones (suc (n / 2)) ≤ suc (ones (n / 2))) → ones (suc n) ≤ suc (ones n)
    by zero e h =
        let f : suc n / 2 ≡ n / 2 = omega arith in
        omega (arith, ones_step (suc n), ones_step n, ap ones f)
    by (suc m) e h =
        let f : suc n / 2 ≡ suc (n / 2) = omega arith in
        omega (arith, ones_step (suc n), ones_step n, ap ones f, h (omega arith))

ones_more : (n k : ℕ) → ones (n + k) ≤ ones n + k
ones_more n zero = let e : n + 0 ≡ n = omega arith in omega (arith, ap ones e)
ones_more n (suc k) = let e : n + suc k ≡ suc (n + k) = omega arith in omega (arith, ap ones e, ones_next (n + k) (n + k) (omega arith), ones_more n k)

-- splits that have too few on the right
pub first_on : (w d : ℕ) (r : Range) (e t : ℕ) → SplitFrom w d r e → e ≤ t → t ≤ w → t - e ≤ r.least - ones e → SplitFrom w d r t
first_on w d r e t h a b k = record { low = omega (arith, h.low); within = λ l. b; passed = λ j m n. go j m n (suc j - e) refl }
  where
    go : (j : ℕ) → d ≤ j → j < t → (i : ℕ) → suc j - e ≡ i → r.least ≤ ones j → ones j ≤ r.most → ⊥
    go j m n zero q = h.passed j m (omega arith)
    go j m n (suc i) q = λ x y. let f : j ≡ e + i = omega arith in omega (arith, k, ap ones f, ones_more e i)

-- in the cut j the right half has w - 1 - j
pub cut_none : (w d : ℕ) (r : Range) (e : ℕ) → d < w → r.most < w → (e ≡ w - 1 - r.most) ⊎ ((e ≡ d) × (w - 1 - r.most ≤ d)) → w - 1 - e < r.least → CutFrom w d r w
cut_none w d r e l m (inl q) h = record { low = omega arith; within = λ k. omega arith; passed = λ j a b x y. omega (arith, q) }
cut_none w d r e l m (inr (q, g)) h = record { low = omega arith; within = λ k. omega arith; passed = λ j a b x y. omega (arith, q) }

pub cut_first : (w d : ℕ) (r : Range) (e : ℕ) → d < w → r.most < w → ((e ≡ w - 1 - r.most) × (d < w - 1 - r.most)) ⊎ (e ≡ d) → CutFrom w d r e
cut_first w d r e l m (inl (q, g)) = record { low = omega arith; within = λ k. omega (arith, q); passed = λ j a b x y. omega (arith, q) }
cut_first w d r e l m (inr q) = record { low = omega arith; within = λ k. omega (arith, q); passed = λ j a b x y. absurd (omega (arith, q)) }

-- ---- how many are on either side of a split

-- the splits of a set or map are those of its units
divided_by : (k : Kind) → is_unordered k ≡ true → (vs : List Value) → divisions k vs ≡ map (halves_in k) (proper_splits (units_of k vs))
divided_by set u vs = sym (map-id (proper_splits vs))
divided_by sequence u vs = true_false (sym u)
divided_by mapping u vs = refl
divided_by tuple u vs = true_false (sym u)

module _ {A : Type 0} where
  abbrev Counted : List A → ℕ → Type 0
  Counted us d = (length (split_at us d).right ≡ ones d) × (length (split_at us d).left + length (split_at us d).right ≡ length us)

  -- the bits that are set are those of the units on the right
  split_counts : (us : List A) (d : ℕ) → d < 2 ^ length us → Counted us d
  unfolding split_at
  split_counts [] d l = let e : d ≡ 0 = omega arith in (sym (ap ones e ∙ ones-ones 0), refl)
  split_counts (x ∷ xs) d l = go (λ e k. split_counts xs e k) (suc d - 2 ^ length xs) refl
    where
      go : ((e : ℕ) → e < 2 ^ length xs → Counted xs e) → (k : ℕ) → suc d - 2 ^ length xs ≡ k → Counted (x ∷ xs) d
      go on zero e =
          let k : d < 2 ^ length xs = omega arith in
          let a = split_left x xs d k in
          let (r, s) = on d k in
          (ap (λ (h : Halves A). length h.right) a ∙ r, ap (λ (h : Halves A). length h.left + length h.right) a ∙ omega (arith, s))
      go on (suc n) q =
          let k : 2 ^ length xs ≤ d = omega arith in
          let a = split_right x xs d k in
          let e = d - 2 ^ length xs in
          let b : e < 2 ^ length xs = omega (arith, pow-suc 2 (length xs), l) in
          let c : d ≡ 1 * 2 ^ length xs + e = omega arith in
          let (r, s) = on e b in
          let o = ones_cat (length xs) 1 e b in
          let one = ones-ones 1 in
          (ap (λ (h : Halves A). length h.right) a ∙ omega (arith, r, o, ap ones c, one), ap (λ (h : Halves A). length h.left + length h.right) a ∙ omega (arith, s))

module _ (k : Kind) where
  -- the items of halves tell their units
  one_halves : (g h : Halves (UnitOf k)) → halves_in k g ≡ halves_in k h → g ≡ h
  one_halves g h e =
      ap₂ halves (sym (units_items k g.left) ∙ ap (λ (f : Halves Value). units_of k f.left) e ∙ units_items k h.left)
      (sym (units_items k g.right) ∙ ap (λ (f : Halves Value). units_of k f.right) e ∙ units_items k h.right)

  -- a set or map is split by its units
  module _ (u : is_unordered k ≡ true) (vs : List Value) where
    pub splits_count : length (divisions k vs) ≡ 2 ^ length (units_of k vs) - 2
    splits_count = ap length (divided_by k u vs) ∙ length-map (proper_splits (units_of k vs)) (halves_in k) ∙ proper_length (units_of k vs)

    split_half : (j : ℕ) → suc j + 1 < 2 ^ length (units_of k vs) → half_at k vs j ≡ halves_in k (split_at (units_of k vs) (suc j))
    split_half j l =
        ap (λ (hs : List (Halves Value)). get_or hs j (halves [] [])) (divided_by k u vs)
        ∙ map_at (halves_in k) (proper_splits (units_of k vs)) j (halves [] []) (halves [] []) (omega (arith, proper_length (units_of k vs)))
        ∙ ap (halves_in k) (nth_proper (units_of k vs) j (halves [] []) l)

-- ---- ways whose halves have no such sizes

module _ (c w : ℕ) (h : Divisible c w) where
  -- there are always two more splits
  pub even_ways : is_unordered (collection_of c) ≡ true → w % 2 ≡ 0
  even_ways u = go (length (units_of (collection_of c) h.values)) (sym h.ways ∙ splits_count (collection_of c) u h.values)
    where
      go : (n : ℕ) → w ≡ 2 ^ n - 2 → w % 2 ≡ 0
      go zero e = omega (arith, e)
      go (suc n) e = omega (arith, e, pow-suc 2 n)

  module _ (z : Sizes) (d : ℕ) (l : d < w) (r : Range) (e : ℕ) where
    -- way j is the split j + 1
    pub from_splits : is_unordered (collection_of c) ≡ true → RightsIn z (ones (w + 1)) r → SplitFrom (w + 1) (d + 1) r e → From c w d (Some z) (e - 1)
    from_splits u q k =
        let under : e ≤ w + 1 = k.within (omega arith) in record {
          low = omega (arith, k.low);
          within = λ i. omega arith;
          barren = λ j m n. (
            z,
            refl,
            λ vs g f s x y.
                let us = units_of (collection_of c) vs in
                let p : w ≡ 2 ^ length us - 2 = sym f ∙ splits_count (collection_of c) u vs in
                let a = one_halves (collection_of c) g (split_at us (suc j)) (sym s ∙ split_half (collection_of c) u vs j (omega arith)) in
                let (o, t) = split_counts us (suc j) (omega arith) in
                let last : w + 1 ≡ 2 ^ length us - 1 = omega arith in
                let all : length g.left + length g.right ≡ ones (w + 1) = ap (λ (i : Halves (UnitOf (collection_of c))). length i.left + length i.right) a ∙ t ∙ sym (ap ones last ∙ ones-ones (length us)) in
                let some : length g.right ≡ ones (suc j) = ap (λ (i : Halves (UnitOf (collection_of c))). length i.right) a ∙ o in
                let i = q.right (length g.left) (length g.right) all x y in
                k.passed (suc j) (omega arith) (omega arith) (omega (arith, i.0, some)) (omega (arith, i.1, some)),
          );
        }

    pub from_cuts : c ≡ 40 → RightsIn z (w - 1) r → CutFrom w d r e → From c w d (Some z) e
    from_cuts q u k = record { low = k.low; within = k.within; barren = λ j m n. (z, refl, subst (λ (i : Kind). Barren i w z j) (sym (ap collection_of q)) (none j m n)) }
      where
        none : (j : ℕ) → d ≤ j → j < e → Barren sequence w z j
        none j m n vs g f s x y =
            let p : w ≡ suc (length vs) = sym f ∙ cuts_length vs in
            let under : e ≤ w = k.within (omega arith) in
            let a : g ≡ halves (take j vs) (drop j vs) = sym s ∙ nth_cut vs j (halves [] []) (omega (arith, p)) in
            let o : length g.left ≡ j = ap (λ (i : Halves Value). length i.left) a ∙ length-take-le j vs (omega (arith, p)) in
            let t : length g.right ≡ w - 1 - j = ap (λ (i : Halves Value). length i.right) a ∙ length-drop j vs ∙ omega (arith, p) in
            let i = u.right (length g.left) (length g.right) (omega (arith, o, t)) x y in
            k.passed j m n (omega (arith, i.0, t)) (omega (arith, i.1, t))

-- no split, or no cut, gives the halves what they take
abbrev nothing_left : Range
nothing_left = record { least = 1; most = 0 }

pub splits_past : (c w : ℕ) → Divisible c w → (z : Sizes) (d : ℕ) → d < w → is_unordered (collection_of c) ≡ true → Rights z (ones (w + 1)) None → From c w d (Some z) w
splits_past c w h z d l q u =
    let e : w + 1 - 1 ≡ w = omega arith in
    subst (From c w d (Some z)) e (from_splits c w h z d l nothing_left (w + 1) q (none_right z (ones (w + 1)) u) (first_past ones (w + 1) (d + 1) nothing_left (omega arith) (omega arith)))

pub cuts_past : (c w : ℕ) → Divisible c w → (z : Sizes) (d : ℕ) → d < w → c ≡ 40 → Rights z (w - 1) None → From c w d (Some z) w
cuts_past c w h z d l q u =
    from_cuts c w h z d l nothing_left w q (none_right z (w - 1) u) (first_past (λ j. w - 1 - j) w d nothing_left (omega arith) (omega arith))

-- ---- the first way that may have a match

pub from_none : (c w d : ℕ) (z : Option Sizes) → From c w d z d
from_none c w d z = record { low = omega arith; within = λ l. l; barren = λ j l m. absurd (omega arith) }
