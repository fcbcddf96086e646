-- The records of patterns: what their kind says of their parts, and how many values a meeting has.
use mathlib.Core.Path.{◌≡◌, refl, sym, ap, subst, ◌∙◌}
use mathlib.Core.Bool.{Bool, true, false, ◌||◌, cond}
use mathlib.Core.Logic.{⊎_elim, inl, inr}
use mathlib.Core.Option.{Option}
use mathlib.Core.List.{List, [], ◌∷◌, map}
use Prim.Native.Nat.{ℕ, zero, suc, ◌*◌, ◌≤◌, ◌<◌}
use native.Mathlib.Decide.{ℕ_discrete}
use native.Mathlib.Omega.{arith}
use lib.Dec.{eqb, leb}
use lib.ListN.{length, get_or, length-map}
use borrow.Author.Tests.{leb-true, eqb-true}
use Rattle.values.specs.Value.{Kind, number, Value, kind_of, WellFormed}
use Rattle.tables.proofs.Laws.Kinds.{by_composed, by_leaf}
use Rattle.tables.specs.Record.{Record, is_composed, named, operand, name_of, shape, head_of, size, is_known}
use Rattle.tables.specs.Table.{record_at, kind_at}
use Rattle.tables.specs.Accepted.{records}
use Rattle.tables.proofs.Laws.Accepted.{lower, pattern_role, operand_lower, operand_sort, named_count, fit_least, fit_most, fit_known}
use Rattle.tables.proofs.Laws.Through.{EachTo}
use Rattle.tables.proofs.Laws.Below.{OperandsLower as Less}
use Rattle.tables.specs.Reading.{HasField, HasOperand}
use Rattle.parts.specs.declared.Part.{Part}
use Rattle.patterns.specs.Ways.{Halves, orders}
use Rattle.prelude.proofs.Lists.{map_at}
use Rattle.prelude.proofs.Membership.{at_in}
use Rattle.patterns.specs.Pattern.{Pattern, any, literal, Patterns, nil, cons, UnitOf, items_in, is_unordered, arrangements, contents, met, split}
use Rattle.patterns.proofs.Laws.Collected.{items_length, arrangements_units}
use Rattle.prelude.proofs.Absurd.{true_false}
use Rattle.prelude.proofs.Truth.{by_test}
use Rattle.patterns.proofs.Laws.Orders.{order_length}
use Rattle.patterns.specs.Read.{Readable, patterns_of, pattern_of, pattern_at}
use Rattle.patterns.proofs.Laws.Some.{some_at, some-none}
use Rattle.patterns.specs.Nodes.{collection_of, width, is_halved, meetings, both_halves}
use Rattle.patterns.proofs.Laws.Nodes.{is_boolean_literal, is_integer_literal, is_quote_literal, pattern_at_lem}
use Rattle.std.specs.Prelude.{Result}
use Rattle.matching.specs.declared.nodes.Misfit.{Misfit}
use Rattle.matching.specs.Node.{LiteralHeld, Meets, inner_of}
use Rattle.matching.proofs.Counting.{contents_other, contents_same, width_range, in_turn}

-- ---- the shapes of patterns with parts

pub record Shapely (c : ℕ) : Type 0 where
  pub no_head : size (shape c).head ≡ 0
  pub most : length (shape c).roles ≤ 4 * width (collection_of c)
  pub two : is_halved c ≡ true → (2 ≤ (shape c).least) × (length (shape c).roles ≤ 2)

shapely : (c : ℕ) → is_composed c ≡ true → Shapely c
unfolding shape
shapely c h =
    by_composed c h
    (λ e. subst Shapely (sym e) (record { no_head = refl; most = omega arith; two = λ e. true_false (sym e) }))
    (λ e. subst Shapely (sym e) (record { no_head = refl; most = omega arith; two = λ e. true_false (sym e) }))
    (λ e. subst Shapely (sym e) (record { no_head = refl; most = omega arith; two = λ e. (omega arith, omega arith) }))
    (λ e. subst Shapely (sym e) (record { no_head = refl; most = omega arith; two = λ e. true_false (sym e) }))
    (λ e. subst Shapely (sym e) (record { no_head = refl; most = omega arith; two = λ e. (omega arith, omega arith) }))
    (λ e. subst Shapely (sym e) (record { no_head = refl; most = omega arith; two = λ e. true_false (sym e) }))
    (λ e. subst Shapely (sym e) (record { no_head = refl; most = omega arith; two = λ e. (omega arith, omega arith) }))

named_head : (c : ℕ) (r : Record) → c ≡ 32 → (size (shape c).head ≡ 1) × (is_known (shape c).head r ≡ leb (name_of r) 15)
unfolding shape
named_head c r e = subst (λ (k : ℕ). (size (shape k).head ≡ 1) × (is_known (shape k).head r ≡ leb (name_of r) 15)) (sym e) (refl, refl)

module _ (table : List ℕ) (p : ℕ) (r : Readable table p) where
  within : p < length (records table)
  within = r.here

  low : Less (records table)
  low = lower (records table) r.fine.clear6

  -- ---- a name

  name_head : kind_at (records table) p ≡ 32 → (size (head_of (record_at (records table) p)) ≡ 1) × (is_known (head_of (record_at (records table) p)) (record_at (records table) p) ≡ leb (name_of (record_at (records table) p)) 15)
  name_head e = named_head (kind_at (records table) p) (record_at (records table) p) e

  pub name_field : kind_at (records table) p ≡ 32 → HasField table p 0
  name_field e = record { here = r.here; has = omega (arith, fit_least (record_at (records table) p) (r.fine.fit p within), (name_head e).0) }

  pub name_small : kind_at (records table) p ≡ 32 → name_of (record_at (records table) p) < 16
  name_small e =
      let k : name_of (record_at (records table) p) ≤ 15 = leb-true (name_of (record_at (records table) p)) 15 (sym (name_head e).1 ∙ fit_known (record_at (records table) p) (r.fine.fit p within)) in
      omega arith

  pub by_record : pattern_at (records table) p ≡ pattern_of (record_at (records table) p) (inner_of table p)
  by_record = pattern_at_lem (records table) low p within

  pub inner_length : length (inner_of table p) ≡ length (named (record_at (records table) p))
  inner_length = length-map (named (record_at (records table) p)) (pattern_at (records table))

  pub literal_held : (kind_at (records table) p ≡ 32 → ⊥) → (kind_at (records table) p ≡ 33 → ⊥) → is_composed (kind_at (records table) p) ≡ false → LiteralHeld table p
  literal_held a b k =
      by_leaf (kind_at (records table) p) r.pattern k (λ e. absurd (a e)) (λ e. absurd (b e)) (λ e. record { readable = r; kind = inl e }) (λ e. record { readable = r; kind = inr (inl e) })
      (λ e. record { readable = r; kind = inr (inr e) })

  pub is_literal : LiteralHeld table p → (w : Value) × (pattern_at (records table) p ≡ literal w)
  is_literal h =
      ⊎_elim (λ e. (_, by_record ∙ is_boolean_literal (record_at (records table) p) (inner_of table p) e))
      (⊎_elim (λ e. (_, by_record ∙ is_integer_literal (record_at (records table) p) (inner_of table p) e))
      (λ e. (_, by_record ∙ is_quote_literal (record_at (records table) p) (inner_of table p) e))) h.kind

  -- ---- parts

  module _ (c : is_composed (kind_at (records table) p) ≡ true) where
    shaped : Shapely (kind_at (records table) p)
    shaped = shapely (kind_at (records table) p) c

    -- four units at most,
    pub count_few : length (named (record_at (records table) p)) ≤ 4 * width (collection_of (kind_at (records table) p))
    count_few = omega (arith, named_count (record_at (records table) p) (r.fine.fit p within), fit_most (record_at (records table) p) (r.fine.fit p within), shaped.no_head, shaped.most)

    pub count_fits : (kind n : ℕ) → kind ≡ kind_at (records table) p → n ≡ length (named (record_at (records table) p)) → n ≤ 4 * width (collection_of kind)
    count_fits kind n x y = rw (x, y) count_few

    -- and so eight parts.
    pub count_most : length (named (record_at (records table) p)) ≤ 8
    count_most = omega (arith, count_few, (width_range (collection_of (kind_at (records table) p))).1)

    pub count_two : is_halved (kind_at (records table) p) ≡ true → length (named (record_at (records table) p)) ≡ 2
    count_two e =
        let t = shaped.two e in
        omega (arith, named_count (record_at (records table) p) (r.fine.fit p within), fit_least (record_at (records table) p) (r.fine.fit p within), fit_most (record_at (records table) p) (r.fine.fit p within), shaped.no_head, t.0, t.1)

  module _ (i : ℕ) (l : i < length (named (record_at (records table) p))) where
    pub has_operand : HasOperand table p i
    has_operand = record { here = r.here; has = l }

    pub operand_readable : (q : ℕ) → q ≡ operand (record_at (records table) p) i → Readable table q × (q < p)
    operand_readable q e =
        let lo : operand (record_at (records table) p) i < p = operand_lower (records table) r.fine.clear6 p i within l in
        let so = operand_sort (records table) r.fine.clear6 p i within l in
        let ro = pattern_role (record_at (records table) p) i r.pattern l in
        (record { fine = r.fine; here = omega arith; pattern = rw e (rw ro at so) }, omega arith)

-- ---- some part is so: a test of patterns, and whether some of several patterns passes it

module _ (test : Pattern → Bool) (some : Patterns → Bool) (none : some nil ≡ false) (more : (p : Pattern) (ps : Patterns) → some (cons p ps) ≡ test p || some ps)
    (table : List ℕ) (p : ℕ) (r : Readable table p) (by_parts : test (pattern_at (records table) p) ≡ some (patterns_of (inner_of table p))) where
  part_at : (j : ℕ) → j < length (named (record_at (records table) p)) → get_or (inner_of table p) j any ≡ pattern_at (records table) (operand (record_at (records table) p) j)
  part_at j l = map_at (pattern_at (records table)) (named (record_at (records table) p)) j 0 any l

  -- one of them is,
  pub some_part : (i q : ℕ) → i < length (named (record_at (records table) p)) → q ≡ operand (record_at (records table) p) i → test (pattern_at (records table) q) ≡ true → test (pattern_at (records table) p) ≡ true
  some_part i q l e t =
      by_parts ∙ some_at test some none more (inner_of table p) i (omega (arith, inner_length table p r))
      (ap test (part_at i l ∙ ap (pattern_at (records table)) (sym e)) ∙ t)

  -- or none up to the last.
  pub no_part : (i : ℕ) → EachTo (λ q. test (pattern_at (records table) q) ≡ false) (record_at (records table) p) i → length (named (record_at (records table) p)) ≤ i → test (pattern_at (records table) p) ≡ false
  no_part i h l =
      by_parts ∙ some-none test some none more (inner_of table p) (λ j k.
      let m : j < length (named (record_at (records table) p)) = omega (arith, inner_length table p r) in
      ap test (part_at j m) ∙ h j (omega arith))

pub recast_meets : {c k : ℕ} (kind n : ℕ) (s : List ℕ) (part : Part) (m : Result ℕ Misfit) → kind ≡ c → n ≡ k → Meets kind n s part m → Meets c k s part m
recast_meets {c} {k} kind n s part m e f h = subst (λ (x : ℕ). Meets x k s part m) e (subst (λ (y : ℕ). Meets kind y s part m) f h)

-- ---- a meeting has as many values as there are parts

picked_some : {A : Type 0} (t : Bool) (xs : List A) (d : ℕ) (z : A) → d < length (cond t xs []) → (t ≡ true) × (d < length xs) × (get_or (cond t xs []) d z ≡ get_or xs d z)
picked_some true xs d z h = (refl, h, refl)
picked_some false xs d z h = absurd (omega arith)

arranged_length : (k : Kind) (us : List (UnitOf k)) (d : ℕ) → d < length (arrangements k (items_in k us)) → length (get_or (arrangements k (items_in k us)) d []) ≡ length (items_in k us)
arranged_length k us d h = by_test (is_unordered k) (λ u. shuffled u) (λ u. in_order u d h)
  where
    shuffled : is_unordered k ≡ true → length (get_or (arrangements k (items_in k us)) d []) ≡ length (items_in k us)
    shuffled u =
        let e = arrangements_units k u us in
        let l : d < length (orders us) = omega (arith, h, ap length e, length-map (orders us) (items_in k)) in
        ap (λ (ws : List (List Value)). length (get_or ws d [])) e
        ∙ ap length (map_at (items_in k) (orders us) d [] [] l)
        ∙ items_length k (get_or (orders us) d [])
        ∙ ap (λ (n : ℕ). width k * n) (order_length us (get_or (orders us) d []) (at_in (orders us) d [] l))
        ∙ sym (items_length k us)

    in_order : is_unordered k ≡ false → (d : ℕ) → d < length (arrangements k (items_in k us)) → length (get_or (arrangements k (items_in k us)) d []) ≡ length (items_in k us)
    in_order u d h =
        let e = in_turn k u (items_in k us) in
        let z : d ≡ 0 = omega (arith, h, ap length e) in
        ap (λ (ws : List (List Value)). length (get_or ws d [])) e ∙ ap (λ (i : ℕ). length (get_or (items_in k us ∷ []) i [])) z

met_length : (k : Kind) (n : ℕ) (v : Value) (d : ℕ) → WellFormed v → d < length (met k n (contents k v)) → length (get_or (met k n (contents k v)) d []) ≡ n
met_length k n v d w h = go (ℕ_discrete (kind_of v) (number k))
  where
    go : Dec (kind_of v ≡ number k) → length (get_or (met k n (contents k v)) d []) ≡ n
    go (yes e) =
        let c = contents_same k v w e in
        let m = ap (met k n) c.has in
        let (f, l, g) = picked_some (eqb n (length (items_in k c.units))) (arrangements k (items_in k c.units)) d [] (omega (arith, h, ap length m)) in
        ap (λ (ws : List (List Value)). length (get_or ws d [])) m ∙ ap length g ∙ arranged_length k c.units d l ∙ sym (eqb-true n (length (items_in k c.units)) f)
    go (no f) = absurd (omega (arith, h, ap (λ (o : Option (List Value)). length (met k n o)) (contents_other k v f)))

pair_length : (k : Kind) (hs : List (Halves Value)) (d : ℕ) → d < length (map (both_halves k) hs) → length (get_or (map (both_halves k) hs) d []) ≡ 2
pair_length k [] d h = absurd (omega arith)
pair_length k (x ∷ hs) zero h = refl
pair_length k (x ∷ hs) (suc d) h = pair_length k hs d (omega arith)

pub meeting_length : (c n : ℕ) (v : Value) (d : ℕ) → WellFormed v → (is_halved c ≡ true → n ≡ 2) → d < length (meetings c n v) → length (get_or (meetings c n v) d []) ≡ n
meeting_length c n v d w two h = go (is_halved c) refl h
  where
    go : (t : Bool) → is_halved c ≡ t → d < length (cond t (map (both_halves (collection_of c)) (split (collection_of c) (contents (collection_of c) v))) (met (collection_of c) n (contents (collection_of c) v)))
        → length (get_or (cond t (map (both_halves (collection_of c)) (split (collection_of c) (contents (collection_of c) v))) (met (collection_of c) n (contents (collection_of c) v))) d []) ≡ n
    go true e l = pair_length (collection_of c) (split (collection_of c) (contents (collection_of c) v)) d l ∙ sym (two e)
    go false e l = met_length (collection_of c) n v d w l
