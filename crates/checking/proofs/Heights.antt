-- Heights: whether a record is low, told operand by operand; heights noted record by record; the lowest record that is too high.
use Rattle.std.specs.Prelude.{Option, Some, None, MatchOption, unwrap_or}
use Rattle.std.specs.Ordering.{ord_max, nat_cmp}
use Rattle.std.proofs.lemmas.Bool.Decides.{nat_tests}
use mathlib.Core.Path.{◌≡◌, refl, sym, ap, ◌∙◌}
use mathlib.Core.Bool.{true, false, not, ◌||◌, cond}
use mathlib.Core.List.{List, [], ◌∷◌, map}
use Prim.Native.Nat.{ℕ, zero, suc, ◌+◌, ◌-◌, ◌≤◌, ◌<◌, max}
use native.Mathlib.Omega.{arith}
use native.Mathlib.Numerals.{add-one}
use borrow.Author.Tests.{eqb-true, eq-eqb, lt-ltb, le-ltb, le-leb, lt-leb, leb-true, leb-false}
use lib.Dec.{eqb, ltb, leb}
use lib.ListN.{length, get_or, drop}
use lib.Seq.{drop-cons, drop-length}
use Rattle.prelude.proofs.Truth.{by_lower, both_ways, implied}
use Rattle.tables.specs.Record.{Record, last_kind, shape, is_leaf, is_fit, named, operand}
use Rattle.tables.specs.Shapes.{first_of}
use Rattle.tables.specs.Table.{record_at, kind_at}
use Rattle.tables.specs.Sheet.{greatest, height}
use Rattle.tables.specs.Check.{most_height, fault9}
use Rattle.tables.proofs.Laws.Kinds.{each_kind}
use Rattle.tables.proofs.Laws.Through.{EachTo, each_start, each_next}
use Rattle.tables.proofs.Laws.Operands.{greatest_most}
use Rattle.tables.proofs.Laws.Accepted.{fit_kind, operand_lower, height-at, height_operand}
use Rattle.tables.specs.Check.{Clear6}
use Rattle.checking.specs.Scopes.{Filled}
use Rattle.checking.specs.Answer.{found}
use Rattle.checking.specs.Heights.{Hangs, LeafFirst}
use Rattle.checking.proofs.Scan.{found_is}
use Rattle.checking.proofs.Shapes.{roles_many}
use Rattle.checking.proofs.Reaching.{from_last}

-- ---- kinds

-- Where the operands of a kind begin that is no leaf's.
inner_first : (k : ℕ) → is_leaf k ≡ false → k ≤ last_kind → first_of k ≡ cond (ltb k 6) 5 4
unfolding shape
inner_first k e h =
    eqb-true (first_of k) (cond (ltb k 6) 5 4) (rw e at (each_kind (λ k. is_leaf k || eqb (first_of k) (cond (ltb k 6) 5 4)) refl k h))

pub first_operator : (k : ℕ) → is_leaf k ≡ false → k ≤ last_kind → k < 6 → 5 ≡ first_of k
first_operator k e h l = sym (inner_first k e h ∙ rw (lt-ltb k 6 l))

pub first_other : (k : ℕ) → is_leaf k ≡ false → k ≤ last_kind → 6 ≤ k → 4 ≡ first_of k
first_other k e h l = sym (inner_first k e h ∙ rw (le-ltb k 6 l))

leaf_operands : (x : Record) → is_fit x ≡ true → is_leaf x.kind ≡ true → length (named x) ≡ 0
unfolding shape
leaf_operands x fit e =
    let none : length (shape x.kind).roles ≡ 0 = eqb-true _ 0 (implied (is_leaf x.kind) _ (each_kind (λ k. not (is_leaf k) || eqb (length (shape k).roles) 0) refl x.kind (fit_kind x fit)) e) in
    omega (arith, roles_many x)

-- std's `max` is that of numbers.
pub max_is : (a b : ℕ) → ord_max nat_cmp a b ≡ max a b
max_is a b = grind (arith, nat_tests)

-- ---- the first leaves

-- The records before the first that is no leaf, or all where each is one.
pub leaves_first : (rs : List Record) (n : ℕ) (r : Option ℕ) → MatchOption r ((k : ℕ) → 0 ≤ k → k < n → is_leaf (kind_at rs k) ≡ true) (λ i. (0 ≤ i) × (i < n) × Unit {0} × ((k : ℕ) → 0 ≤ k → k < i → is_leaf (kind_at rs k) ≡ true)) → LeafFirst rs n (unwrap_or r n)
leaves_first rs n None m = record { within = omega arith; leaf = λ r h. m r (omega arith) h }
leaves_first rs n (Some i) m = record { within = omega (arith, m.1); leaf = λ r h. m.3 r (omega arith) h }

-- ---- the height of one record

-- After i operands, the greatest height so far and those that are left make the greatest.
pub record Going (rs : List Record) (r high i : ℕ) : Type 0 where
  pub within : i ≤ length (named (record_at rs r))
  pub is : max high (greatest (map (height rs) (drop i (named (record_at rs r))))) ≡ greatest (map (height rs) (named (record_at rs r)))

-- The operands of record r before i are at most so high.
abbrev pub LowTo : List Record → ℕ → ℕ → ℕ → Type 0
LowTo rs r most i = EachTo (λ q. height rs q ≤ most) (record_at rs r) i

-- Whether record r is at most so high is whether q is, which lies at or below it and has room left.
pub record Down (rs : List Record) (r most q room : ℕ) : Type 0 where
  pub within : q ≤ r
  pub some : 0 < room
  pub same : leb (height rs r) most ≡ leb (height rs q) room

module _ (rs : List Record) (clear : Clear6 rs) where
  pub bare_height : (r : ℕ) → r < length rs → length (named (record_at rs r)) ≡ 0 → height rs r ≡ 1
  bare_height r h e =
      omega (arith, height-at rs clear r h, greatest_most (height rs) (named (record_at rs r)) 0 (λ i k. absurd (omega arith)))

  pub leaf_height : (r : ℕ) → r < length rs → is_fit (record_at rs r) ≡ true → is_leaf (kind_at rs r) ≡ true → height rs r ≡ 1
  leaf_height r h fit e = bare_height r h (leaf_operands (record_at rs r) fit e)

  -- Where all records below n have height 1, record n is at most 2 high, record n + 1 at most 3, and so on.
  height_most : (n : ℕ) → ((r : ℕ) → r < n → height rs r ≡ 1) → (bound r : ℕ) → r < bound → r < length rs → height rs r ≤ suc (suc r - n)
  height_most n leaf zero r b h = absurd (omega arith)
  height_most n leaf (suc bound) r b h =
      by_lower r n
      (λ l. omega (arith, leaf r l))
      (λ l.
      omega (arith, height-at rs clear r h, greatest_most (height rs) (named (record_at rs r)) (suc r - n) (λ i k. omega (arith, operand_lower rs clear r i h k, height_most n leaf bound (operand (record_at rs r) i) (omega (arith, operand_lower rs clear r i h k)) (omega (arith, operand_lower rs clear r i h k))))))

  -- A record has height 1 just where it has no operands.
  bare_low : (r k : ℕ) → r < length rs → k ≡ length (named (record_at rs r)) → eqb k 0 ≡ leb (height rs r) 1
  bare_low r k h is =
      both_ways (eqb k 0) (leb (height rs r) 1)
      (λ e. le-leb (height rs r) 1 (omega (arith, bare_height r h (sym is ∙ eqb-true k 0 e))))
      (λ e.
      by_lower 0 k
      (λ l. absurd (omega (arith, leb-true (height rs r) 1 e, height_operand rs clear r 0 h (omega arith), height-at rs clear (operand (record_at rs r) 0) (omega (arith, operand_lower rs clear r 0 h (omega arith))))))
      (λ l. eq-eqb k 0 (omega arith)))

  module _ (r : ℕ) (in_table : r < length rs) where
    -- ---- low or not

    pub low_start : (most : ℕ) → LowTo rs r most 0
    low_start most = each_start (λ q. height rs q ≤ most) (record_at rs r)

    pub low_more : (most i n : ℕ) → n ≡ operand (record_at rs r) i → LowTo rs r most i → height rs n ≤ most → LowTo rs r most (i + 1)
    low_more most i n is so h = each_next (λ q. height rs q ≤ most) (record_at rs r) i n so is h

    pub all_low : (most i : ℕ) → LowTo rs r most i → length (named (record_at rs r)) ≤ i → height rs r ≤ suc most
    all_low most i so l =
        omega (arith, height-at rs clear r in_table, greatest_most (height rs) (named (record_at rs r)) most (λ j k. so j (omega arith)))

    -- ---- all operands but the last

    module _ (most i n : ℕ) (has : i < length (named (record_at rs r))) (is : n ≡ operand (record_at rs r) i) where
      pub operand_high : leb (height rs n) most ≡ false → suc most < height rs r
      operand_high e =
          let same : height rs n ≡ height rs (operand (record_at rs r) i) = ap (height rs) is in
          omega (arith, leb-false (height rs n) most e, height_operand rs clear r i in_table has)

      pub operand_last : suc i ≡ length (named (record_at rs r)) → LowTo rs r most i → Hangs rs r most n
      operand_last last so =
          let same : height rs n ≡ height rs (operand (record_at rs r) i) = ap (height rs) is in
          record {
            lower = omega (arith, operand_lower rs clear r i in_table has);
            low = both_ways (leb (height rs r) (suc most)) (leb (height rs n) most)
                (λ e. le-leb (height rs n) most (omega (arith, leb-true (height rs r) (suc most) e, height_operand rs clear r i in_table has)))
                (λ e. le-leb (height rs r) (suc most) (all_low most (i + 1) (low_more most i n is so (leb-true (height rs n) most e)) (omega arith)));
          }

    -- ---- down to the last operand

    pub down_start : (most : ℕ) → 0 < most → Down rs r most r most
    down_start most h = record { within = omega arith; some = h; same = refl }

    module _ (most q room : ℕ) (down : Down rs r most q room) where
      pub down_bare : length (named (record_at rs q)) ≡ 0 → true ≡ leb (height rs r) most
      down_bare e = sym (down.same ∙ le-leb (height rs q) room (omega (arith, bare_height q (omega (arith, down.within)) e, down.some)))

      pub down_leaf : is_fit (record_at rs q) ≡ true → is_leaf (kind_at rs q) ≡ true → true ≡ leb (height rs r) most
      down_leaf fit e = down_bare (leaf_operands (record_at rs q) fit e)

      module _ (room' : ℕ) (less : suc room' ≡ room) where
        pub down_high : suc room' < height rs q → false ≡ leb (height rs r) most
        down_high high = sym (down.same ∙ lt-leb (height rs q) room (omega (arith, high)))

        pub down_more : {n : ℕ} → 0 < room' → Hangs rs q room' n → Down rs r most n room'
        down_more some last =
            record { within = omega (arith, down.within, last.lower); some = some; same = down.same ∙ ap (leb (height rs q)) (sym less) ∙ last.low }

      pub down_end : (k : ℕ) → room ≤ 1 → k ≡ length (named (record_at rs q)) → eqb k 0 ≡ leb (height rs r) most
      down_end k one is =
          let e : room ≡ 1 = omega (arith, down.some) in
          bare_low q k (omega (arith, down.within)) is ∙ ap (leb (height rs q)) (sym e) ∙ sym down.same

    -- ---- noted

    pub going_start : Going rs r 0 0
    going_start = record { within = omega arith; is = omega arith }

    pub going_more : (heights : List ℕ) (high high' h i n : ℕ) → Filled (height rs) heights r → Going rs r high i → i < length (named (record_at rs r)) → n ≡ operand (record_at rs r) i → h ≡ get_or heights n 0 → high' ≡ max high h → Going rs r high' (i + 1)
    going_more heights high high' h i n noted g k is e f =
        let ms : List ℕ = named (record_at rs r) in
        let cons : drop i ms ≡ n ∷ drop (suc i) ms = drop-cons ms i 0 k ∙ ap (λ (m : ℕ). m ∷ drop (suc i) ms) (sym is) in
        let old : max high (max (height rs n) (greatest (map (height rs) (drop (suc i) ms)))) ≡ greatest (map (height rs) ms) =
        sym (ap (λ (ns : List ℕ). max high (greatest (map (height rs) ns))) cons) ∙ g.is in
        record { within = omega arith; is = rw (add-one i) (omega (arith, old, noted.is n (omega (arith, operand_lower rs clear r i in_table k)))) }

    pub going_end : (high i : ℕ) → Going rs r high i → length (named (record_at rs r)) ≤ i → suc high ≡ height rs r
    going_end high i g over =
        let all : i ≡ length (named (record_at rs r)) = omega (arith, g.within) in
        let none : drop i (named (record_at rs r)) ≡ [] = rw all (drop-length (named (record_at rs r))) in
        let most : max high 0 ≡ greatest (map (height rs) (named (record_at rs r))) = sym (ap (λ (ns : List ℕ). max high (greatest (map (height rs) ns))) none) ∙ g.is in
        omega (arith, height-at rs clear r in_table)

  -- ---- all records

  -- The lowest that is too high, where all records before it are low; none, where all are.
  pub tall_first : (n r : ℕ) → r < n → ((q : ℕ) → q < r → height rs q ≤ most_height) → most_height < height rs r → Some r ≡ found (fault9 rs) n
  unfolding fault9
  tall_first n r w a h =
      found_is (fault9 rs) n (Some r) (w, lt-ltb most_height (height rs r) h, λ q k. le-ltb most_height (height rs q) (a q k))

  pub none_tall : (n : ℕ) → ((q : ℕ) → q < n → height rs q ≤ most_height) → None ≡ found (fault9 rs) n
  unfolding fault9
  none_tall n a = found_is (fault9 rs) n None (λ q k. le-ltb most_height (height rs q) (a q k))

  module _ (n : ℕ) (all : n ≡ length rs) where
    -- No record is higher than one more than there are records behind the first leaves.
    pub few_low : (leaves : ℕ) → ((r : ℕ) → r < leaves → height rs r ≡ 1) → n < leaves + most_height → None ≡ found (fault9 rs) n
    few_low leaves leaf l = none_tall n (λ q k. omega (arith, height_most leaves leaf (suc q) q (omega arith) (omega arith)))

    module _ (last : ℕ) (is_last : suc last ≡ n) where
      -- No record is higher than the last.
      pub last_low : true ≡ leb (height rs last) most_height → None ≡ found (fault9 rs) n
      last_low e =
          none_tall n
          (λ q k.
          omega (arith, leb-true (height rs last) most_height (sym e), from_last rs clear (λ r. height rs r ≤ height rs last) last (omega arith) (omega arith) (λ q i h k l. omega (arith, height_operand rs clear q i h k)) q (omega arith)))
