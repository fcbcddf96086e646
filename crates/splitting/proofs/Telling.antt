-- What the answers for the parts of a pattern say of the pattern.
use mathlib.Core.Path.{◌≡◌, refl, sym, ap, ap₂, subst, ◌∙◌}
use mathlib.Core.Bool.{Bool, true, false, not, ◌&&◌, ◌||◌}
use mathlib.Core.List.{List, [], ◌∷◌}
use Prim.Native.Nat.{ℕ, ◌+◌, ◌≤◌, ◌<◌}
use native.Mathlib.Numerals.{add-one}
use native.Mathlib.Omega.{arith}
use lib.ListN.{length, get_or, drop, length-map, drop_of_length-le}
use lib.Seq.{drop-cons}
use borrow.Author.Tests.{not-true}
use Rattle.prelude.proofs.Truth.{by_test, or_false_right}
use Rattle.values.specs.Value.{Value, boolean}
use Rattle.tables.specs.Record.{is_composed, named, operand}
use Rattle.tables.specs.Table.{record_at, kind_at}
use Rattle.tables.specs.Accepted.{records}
use Rattle.tables.proofs.Laws.Through.{EachTo, each_start, each_next}
use Rattle.tables.proofs.Laws.Accepted.{lower}
use Rattle.parts.specs.declared.Part.{Part}
use Rattle.parts.specs.Part.{PartIs, PartHeld}
use Rattle.parts.proofs.Laws.{part_one, part_well_formed}
use Rattle.patterns.specs.Ways.{exists}
use Rattle.patterns.specs.Pattern.{Pattern, any, wide, wide_each}
use Rattle.patterns.specs.Read.{patterns_of, pattern_of, pattern_at, Readable}
use Rattle.patterns.specs.Nodes.{is_halved, meetings, is_large}
use Rattle.patterns.proofs.Laws.Nodes.{pattern_at_lem}
use Rattle.std.specs.Prelude.{Result, Ok, Err}
use Rattle.matching.specs.declared.nodes.Misfit.{Misfit}
use Rattle.matching.specs.declared.nodes.Misfit.TheVariants.{Unfit, TooLarge}
use Rattle.matching.specs.Node.{is_split, MeetsAs, Meets, PieceHeld, PieceOf, inner_of, ways_of, met_by}
use Rattle.prelude.proofs.Lists.{map_at}
use Rattle.matching.proofs.Counting.{split_kind}
use Rattle.matching.proofs.Records.{count_few, count_two, some_part, no_part, meeting_length}
use Rattle.splitting.specs.Split.{has_split, some_split, shallow}
use Rattle.splitting.specs.Laws.Split.{no_split_narrow}
use Rattle.splitting.proofs.Composed.{split_composed, leaf_no_split, wide_composed, has_split_composed, shallow_split, shallow_fits, shallow_other}
use Rattle.splitting.specs.Told.{TellsSplit, TellsShallow, TellsWide, TellsWays, TellsWay, WaysHeld, WayHeld, wide_ways}

-- one more item is looked at
drop_next : {A : Type 0} (l : List A) (i : ℕ) (z : A) → i < length l → drop i l ≡ get_or l i z ∷ drop (i + 1) l
drop_next l i z h = drop-cons l i z h ∙ ap (λ (j : ℕ). get_or l i z ∷ drop j l) (sym (add-one i))

-- No part before i holds a union or munion pattern.
abbrev pub NoSplitTo : List ℕ → ℕ → ℕ → Type 0
NoSplitTo table p i = EachTo (λ q. has_split (pattern_at (records table) q) ≡ false) (record_at (records table) p) i

-- What is asked of the items from i on, and of the ways from d on, is asked of all of them.
abbrev pub PartsLeft : List ℕ → ℕ → List ℕ → Part → ℕ → ℕ → Type 0
PartsLeft table p s part d i =
    (v : Value) → PartIs s part v → wide_each (patterns_of (drop i (inner_of table p))) (drop i (met_by table p v d)) ≡ wide_each (patterns_of (inner_of table p)) (met_by table p v d)

abbrev pub WaysLeft : List ℕ → ℕ → List ℕ → Part → ℕ → Type 0
WaysLeft table p s part d =
    (v : Value) → PartIs s part v → wide_ways table p (drop d (ways_of table p v)) ≡ wide_ways table p (ways_of table p v)

pub split_start : (table : List ℕ) (p : ℕ) → NoSplitTo table p 0
split_start table p = each_start (λ q. has_split (pattern_at (records table) q) ≡ false) (record_at (records table) p)

pub split_next : (table : List ℕ) (p i q : ℕ) → NoSplitTo table p i → q ≡ operand (record_at (records table) p) i → (h : Bool) → TellsSplit table q h → h ≡ false → NoSplitTo table p (i + 1)
split_next table p i q n e h t y = each_next (λ q. has_split (pattern_at (records table) q) ≡ false) (record_at (records table) p) i q n e (sym t ∙ y)

-- A test of a kind is one of the kind that it equals.
pub split_told : {k c : ℕ} {b t : Bool} → k ≡ c → b ≡ is_split k → b ≡ t → is_split c ≡ t
split_told e f g = ap is_split (sym e) ∙ sym f ∙ g

module _ (table : List ℕ) (p : ℕ) (r : Readable table p) where
  by_record : pattern_at (records table) p ≡ pattern_of (record_at (records table) p) (inner_of table p)
  by_record = pattern_at_lem (records table) (lower (records table) r.fine.clear6) p r.here

  inner_length : length (inner_of table p) ≡ length (named (record_at (records table) p))
  inner_length = length-map (named (record_at (records table) p)) (pattern_at (records table))

  inner_at : (i q : ℕ) (z : Pattern) → i < length (named (record_at (records table) p)) → q ≡ operand (record_at (records table) p) i → get_or (inner_of table p) i z ≡ pattern_at (records table) q
  inner_at i q z l e = map_at (pattern_at (records table)) (named (record_at (records table) p)) i 0 z l ∙ ap (pattern_at (records table)) (sym e)

  inner_next : (i q : ℕ) → i < length (named (record_at (records table) p)) → q ≡ operand (record_at (records table) p) i → drop i (inner_of table p) ≡ pattern_at (records table) q ∷ drop (i + 1) (inner_of table p)
  inner_next i q l e = drop_next (inner_of table p) i any (omega (arith, inner_length)) ∙ ap (λ (x : Pattern). x ∷ drop (i + 1) (inner_of table p)) (inner_at i q any l e)

  inner_end : (i : ℕ) → length (named (record_at (records table) p)) ≤ i → drop i (inner_of table p) ≡ []
  inner_end i l = drop_of_length-le (inner_of table p) {i = i} (omega (arith, inner_length))

  two : is_composed (kind_at (records table) p) ≡ true → is_halved (kind_at (records table) p) ≡ true → length (inner_of table p) ≡ 2
  two c e = inner_length ∙ count_two table p r c e

  -- ---- has_split

  pub split_leaf : is_composed (kind_at (records table) p) ≡ false → TellsSplit table p false
  split_leaf l = sym (ap has_split by_record ∙ leaf_no_split (record_at (records table) p) (inner_of table p) r.pattern l)

  module _ (c : is_composed (kind_at (records table) p) ≡ true) where
    split_by : has_split (pattern_at (records table) p) ≡ is_split (kind_at (records table) p) || some_split (patterns_of (inner_of table p))
    split_by = ap has_split by_record ∙ has_split_composed (record_at (records table) p) (inner_of table p) c (two c)

    pub split_here : is_split (kind_at (records table) p) ≡ true → TellsSplit table p true
    split_here e = sym (split_by ∙ ap (λ (b : Bool). b || some_split (patterns_of (inner_of table p))) e)

    module _ (other : is_split (kind_at (records table) p) ≡ false) where
      split_parts : has_split (pattern_at (records table) p) ≡ some_split (patterns_of (inner_of table p))
      split_parts = split_by ∙ ap (λ (b : Bool). b || some_split (patterns_of (inner_of table p))) other

      pub split_none : (i : ℕ) → NoSplitTo table p i → length (named (record_at (records table) p)) ≤ i → TellsSplit table p false
      unfolding has_split
      split_none i h l = sym (no_part has_split some_split refl (λ q qs. refl) table p r split_parts i h l)

      pub split_found : (i q : ℕ) → i < length (named (record_at (records table) p)) → q ≡ operand (record_at (records table) p) i → (h : Bool) → TellsSplit table q h → h ≡ true → TellsSplit table p true
      unfolding has_split
      split_found i q l e h t y = sym (some_part has_split some_split refl (λ q qs. refl) table p r split_parts i q l e (sym t ∙ y))

  -- ---- is_shallow

  pub shallow_no_split : is_split (kind_at (records table) p) ≡ false → (h : Bool) → TellsSplit table p h → TellsShallow table p (not h)
  shallow_no_split other h t =
      sym (ap shallow by_record ∙ shallow_other (record_at (records table) p) (inner_of table p) r.pattern other ∙ ap (λ (x : Pattern). not (has_split x)) (sym by_record) ∙ ap not (sym t))

  module _ (e : is_split (kind_at (records table) p) ≡ true) where
    pub split_two : length (named (record_at (records table) p)) ≡ 2
    split_two = count_two table p r (split_composed (kind_at (records table) p) e) (split_kind (kind_at (records table) p) e).0

    module _ (a : ℕ) (ea : a ≡ operand (record_at (records table) p) 0) (x : Bool) (tx : TellsShallow table a x) where
      shallow_by : shallow (pattern_at (records table) p) ≡ x && shallow (get_or (inner_of table p) 1 any)
      shallow_by =
          ap shallow by_record ∙ shallow_split (record_at (records table) p) (inner_of table p) e
          ∙ ap (λ (b : Bool). b && shallow (get_or (inner_of table p) 1 any)) (ap shallow (inner_at 0 a any (omega (arith, split_two)) ea) ∙ sym tx)

      pub shallow_not : x ≡ false → TellsShallow table p false
      shallow_not y = sym (shallow_by ∙ ap (λ (b : Bool). b && shallow (get_or (inner_of table p) 1 any)) y)

      pub shallow_both : x ≡ true → (b : ℕ) → b ≡ operand (record_at (records table) p) 1 → (y : Bool) → TellsShallow table b y → TellsShallow table p y
      shallow_both o b eb y ty =
          sym (shallow_by ∙ ap (λ (t : Bool). t && shallow (get_or (inner_of table p) 1 any)) o ∙ ap shallow (inner_at 1 b any (omega (arith, split_two)) eb) ∙ sym ty)

  -- ---- too_large

  module _ (s : List ℕ) (part : Part) where
    pub wide_leaf : is_composed (kind_at (records table) p) ≡ false → TellsWide table p s part false
    wide_leaf l v q = sym (no_split_narrow (pattern_at (records table) p) v (sym (split_leaf l)))

    module _ (c : is_composed (kind_at (records table) p) ≡ true) where
      wide_by : (v : Value) → wide (pattern_at (records table) p) v
          ≡ is_large (kind_at (records table) p) v || wide_ways table p (ways_of table p v)
      wide_by v =
          ap (λ (x : Pattern). wide x v) by_record
          ∙ wide_composed (record_at (records table) p) (inner_of table p) c (two c) v
          ∙ ap (λ (n : ℕ). is_large (kind_at (records table) p) v || exists (meetings (kind_at (records table) p) n v) (λ vs. wide_each (patterns_of (inner_of table p)) vs)) inner_length

      module _ (m : Result ℕ Misfit) (h : Meets (kind_at (records table) p) (length (named (record_at (records table) p))) s part m) where
        pub wide_unfit : m ≡ Err Unfit → TellsWide table p s part false
        unfolding exists
        wide_unfit e v q =
            let a : MeetsAs (kind_at (records table) p) (length (named (record_at (records table) p))) v (Err Unfit) = subst (MeetsAs (kind_at (records table) p) (length (named (record_at (records table) p))) v) e (h v q) in
            sym (wide_by v ∙ rw (a.0, a.1))

        pub wide_large : m ≡ Err TooLarge → TellsWide table p s part true
        wide_large e v q =
            let a : is_large (kind_at (records table) p) v ≡ true = subst (MeetsAs (kind_at (records table) p) (length (named (record_at (records table) p))) v) e (h v q) in
            sym (wide_by v ∙ rw a)

        module _ (w : ℕ) (e : m ≡ Ok w) where
          ways_are : (v : Value) → PartIs s part v → MeetsAs (kind_at (records table) p) (length (named (record_at (records table) p))) v (Ok w)
          ways_are v q = subst (MeetsAs (kind_at (records table) p) (length (named (record_at (records table) p))) v) e (h v q)

          pub ways_held : PartHeld s part → length s ≤ 65536 → WaysHeld table p s part w
          ways_held q l = let a = ways_are q.value q.here in record { composed = c; value = q.value; here = q.here; narrow = a.0; count = a.1; short = l }

          pub wide_ways_lem : (b : Bool) → TellsWays table p s part b → TellsWide table p s part b
          wide_ways_lem b t v q = t v q ∙ sym (wide_by v ∙ rw (ways_are v q).0)

    -- ---- in_ways

    module _ (w : ℕ) (h : WaysHeld table p s part w) where
      -- a shallow pattern, on what it can split
      pub ways_shallow : (b : Bool) → TellsShallow table p b → b ≡ true → TellsWays table p s part false
      ways_shallow b t y v q =
          let narrow : is_large (kind_at (records table) p) v ≡ false = subst (λ (u : Value). is_large (kind_at (records table) p) u ≡ false) (sym (part_one q h.here)) h.narrow in
          sym (or_false_right (is_large (kind_at (records table) p) v) (wide_ways table p (ways_of table p v))
          (sym (wide_by h.composed v) ∙ by_test (is_split (kind_at (records table) p))
          (λ e. ap (λ (x : Pattern). wide x v) by_record ∙ shallow_fits (record_at (records table) p) (inner_of table p) e v (sym (ap shallow by_record) ∙ sym t ∙ y) narrow)
          (λ e.
          let none = shallow_no_split e (has_split (pattern_at (records table) p)) refl ∙ sym t ∙ y in
          no_split_narrow (pattern_at (records table) p) v (not-true (has_split (pattern_at (records table) p)) none))))

      pub ways_start : WaysLeft table p s part 0
      ways_start v q = refl

      module _ (d : ℕ) (left : WaysLeft table p s part d) where
        pub ways_none : w ≤ d → TellsWays table p s part false
        unfolding exists
        ways_none l v q =
            let n : length (ways_of table p v) ≤ d = subst (λ (u : Value). length (ways_of table p u) ≤ d) (sym (part_one q h.here)) (omega (arith, h.count)) in
            ap (wide_ways table p) (sym (drop_of_length-le (ways_of table p v) {i = d} n)) ∙ left v q

        module _ (l : d < w) where
          pub way_held : WayHeld table p s part d
          way_held = record { composed = h.composed; value = h.value; here = h.here; narrow = h.narrow; below = omega (arith, h.count); short = h.short }

          module _ (b : Bool) (t : TellsWay table p s part d b) where
            ways_step : (v : Value) → PartIs s part v
                → wide_ways table p (drop d (ways_of table p v))
                ≡ b || wide_ways table p (drop (d + 1) (ways_of table p v))
            unfolding exists
            ways_step v q =
                let n : d < length (ways_of table p v) = subst (λ (u : Value). d < length (ways_of table p u)) (sym (part_one q h.here)) (omega (arith, h.count)) in
                ap (wide_ways table p) (drop_next (ways_of table p v) d [] n)
                ∙ ap (λ (x : Bool). x || wide_ways table p (drop (d + 1) (ways_of table p v))) (sym (t v q))

            pub ways_found : b ≡ true → TellsWays table p s part true
            ways_found y v q = sym (sym (left v q) ∙ ways_step v q ∙ rw y)

            pub ways_next : b ≡ false → WaysLeft table p s part (d + 1)
            ways_next y v q = sym (ways_step v q ∙ rw y) ∙ left v q

    -- ---- in_way

    module _ (d : ℕ) (h : WayHeld table p s part d) where
      pub parts_start : PartsLeft table p s part d 0
      parts_start v q = refl

      module _ (i : ℕ) (left : PartsLeft table p s part d i) where
        pub parts_none : length (named (record_at (records table) p)) ≤ i → TellsWay table p s part d false
        unfolding wide patterns_of
        parts_none l v q = ap (λ (ps : List Pattern). wide_each (patterns_of ps) (drop i (met_by table p v d))) (sym (inner_end i l)) ∙ left v q

        parts_by : i < length (named (record_at (records table) p)) → (q : ℕ) → q ≡ operand (record_at (records table) p) i → (v : Value) → PartIs s part v
            → wide_each (patterns_of (drop i (inner_of table p))) (drop i (met_by table p v d))
            ≡ wide (pattern_at (records table) q) (get_or (met_by table p v d) i (boolean true)) || wide_each (patterns_of (drop (i + 1) (inner_of table p))) (drop (i + 1) (met_by table p v d))
        unfolding wide patterns_of
        parts_by l q e v z =
            let below : d < length (ways_of table p v) = subst (λ (u : Value). d < length (ways_of table p u)) (sym (part_one z h.here)) h.below in
            let long : length (met_by table p v d) ≡ length (named (record_at (records table) p)) = meeting_length (kind_at (records table) p) (length (named (record_at (records table) p))) v d (part_well_formed z) (count_two table p r h.composed) below in
            ap₂ (λ (ps : List Pattern) (vs : List Value). wide_each (patterns_of ps) vs) (inner_next i q l e) (drop_next (met_by table p v d) i (boolean true) (omega (arith, long)))

        -- a part without a union or munion is passed over
        pub parts_past : i < length (named (record_at (records table) p)) → (q : ℕ) → q ≡ operand (record_at (records table) p) i → (b : Bool) → TellsSplit table q b → b ≡ false → PartsLeft table p s part d (i + 1)
        parts_past l q e b t w v z =
            sym (parts_by l q e v z ∙ rw (no_split_narrow (pattern_at (records table) q) (get_or (met_by table p v d) i (boolean true)) (sym t ∙ w))) ∙ left v z

        module _ (l : i < length (named (record_at (records table) p))) (kind n : ℕ) (x : kind ≡ kind_at (records table) p) (y : n ≡ length (named (record_at (records table) p))) where
          pub piece_asked : PieceHeld kind n s part d i
          piece_asked = rw (x, y) (record {
            composed = h.composed;
            few = count_few table p r h.composed;
            two = count_two table p r h.composed;
            value = h.value;
            here = h.here;
            narrow = h.narrow;
            below = h.below;
            within = l;
            short = h.short;
          })

          module _ (a : Part) (o : PieceOf kind n s part d i a) where
            piece_is : (v : Value) → PartIs s part v → PartIs s a (get_or (met_by table p v d) i (boolean true))
            piece_is v q =
                subst (λ (c : ℕ). PartIs s a (get_or (get_or (meetings c (length (named (record_at (records table) p))) v) d []) i (boolean true))) x
                (subst (λ (k : ℕ). PartIs s a (get_or (get_or (meetings kind k v) d []) i (boolean true))) y (o v (boolean true) q))

            pub piece_held : PartHeld s a
            piece_held = record { value = get_or (met_by table p h.value d) i (boolean true); here = piece_is h.value h.here }

            module _ (q : ℕ) (e : q ≡ operand (record_at (records table) p) i) (b : Bool) (t : TellsWide table q s a b) where
              parts-step : (v : Value) → PartIs s part v
                  → wide_each (patterns_of (drop i (inner_of table p))) (drop i (met_by table p v d))
                  ≡ b || wide_each (patterns_of (drop (i + 1) (inner_of table p))) (drop (i + 1) (met_by table p v d))
              parts-step v z =
                  parts_by l q e v z
                  ∙ ap (λ (k : Bool). k || wide_each (patterns_of (drop (i + 1) (inner_of table p))) (drop (i + 1) (met_by table p v d))) (sym (t (get_or (met_by table p v d) i (boolean true)) (piece_is v z)))

              pub parts_found : b ≡ true → TellsWay table p s part d true
              parts_found w v z = sym (sym (left v z) ∙ parts-step v z ∙ rw w)

              pub parts_next : b ≡ false → PartsLeft table p s part d (i + 1)
              parts_next w v z = sym (parts-step v z ∙ rw w) ∙ left v z
