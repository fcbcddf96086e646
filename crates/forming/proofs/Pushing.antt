-- The parts of a pattern put before the rest of an agenda.
use mathlib.Core.Path.{◌≡◌, refl, sym, ap, ap₂, subst, ◌∙◌}
use mathlib.Core.Bool.{Bool, true, false, ◌||◌}
use mathlib.Core.Logic.{inl, inr}
use mathlib.Core.List.{List, [], ◌∷◌, ◌++◌}
use Prim.Native.Nat.{ℕ, zero, suc, ◌+◌, ◌*◌, ◌/◌, ◌%◌, ◌^◌, ◌≤◌, ◌<◌}
use native.Mathlib.Numerals.{add-one}
use native.Mathlib.Omega.{arith}
use lib.ListN.{length, get_or, set, drop, drop_of_length-le, length-set}
use lib.Seq.{drop-cons, get_or-set_same, get_or-set_other}
use lib.Pow.{shr-shr, shr_le}
use Rattle.prelude.proofs.Absurd.{impossible}
use Rattle.prelude.proofs.Lists.{map_at}
use Rattle.prelude.proofs.Truth.{or_false_left, or_false_right}
use Rattle.values.specs.Value.{Value, boolean, WellFormed}
use Rattle.tables.specs.Record.{named as operands_of, operand}
use Rattle.tables.specs.Table.{record_at, kind_at}
use Rattle.tables.specs.Accepted.{records}
use Rattle.parts.specs.declared.Part.{Part}
use Rattle.parts.specs.declared.Halves.{Halves}
use Rattle.parts.specs.Part.{PartIs, CellIs}
use Rattle.parts.specs.Contract.{SplitHeld, SplitOf, MaskOf, halves_by}
use Rattle.parts.specs.Mask.{Spread}
use Rattle.parts.proofs.Halving.{split_is}
use Rattle.parts.proofs.Laws.{part_one, part_well_formed}
use Rattle.patterns.specs.Ways.{exists}
use Rattle.patterns.specs.Binding.{is}
use Rattle.patterns.specs.Pattern.{Pattern, any, wide, wide_each}
use Rattle.patterns.specs.Read.{Readable, patterns_of, pattern_at}
use Rattle.patterns.specs.Nodes.{meetings, is_large, is_halved}
use Rattle.matching.specs.Node.{PieceHeld, PieceOf, is_split, inner_of, ways_of, met_by}
use Rattle.matching.proofs.Counting.{split_kind}
use Rattle.matching.proofs.Piecing.{next_low, split_held, split_meets}
use Rattle.matching.proofs.Records.{by_record, inner_length, count_few, count_two, operand_readable, meeting_length}
use Rattle.splitting.proofs.Composed.{wide_composed}
use Rattle.parts.specs.Word.{unpacked, CellHeld, WordOf}
use Rattle.forming.specs.declared.Queue.{Queue}
use Rattle.forming.specs.Frames.{KeptBelow, entries}
use Rattle.forming.specs.Onward.{Task, task, zipped}
use Rattle.forming.specs.Inner.{Composed, count_of}
use Rattle.forming.specs.Pending.{AgendaIs, with_bit, how_many, tests_first, Pushable, PartPushable, PartPushed, PushedWhere, Pushed}
use Rattle.forming.proofs.Joining.{with_is, with_not, no_bits, fewer_on, by_bits, shared_length}

-- ---- the agenda is kept where nothing below its top changed

pub agenda_kept : (table s a b : List ℕ) (top high head : ℕ) (ts : List Task) → top ≤ high → KeptBelow a b (3 * top) → AgendaIs table s a top head ts → AgendaIs table s b high head ts
agenda_kept table s a b top high head [] l k h = h
agenda_kept table s a b top high head (t ∷ ts) l k (p, h) =
    let e0 = k (3 * head) (omega (arith, p.below)) in
    let e1 = k (3 * head + 1) (omega (arith, p.below)) in
    let e2 = k (3 * head + 2) (omega (arith, p.below)) in (
      record {
        some = p.some;
        below = omega (arith, p.below);
        falls = omega (arith, p.falls, e2);
        readable = subst (Readable table) (sym e0) p.readable;
        pattern = p.pattern ∙ ap (pattern_at (records table)) (sym e0);
        here = subst (λ (n : ℕ). PartIs s (unpacked n) t.value) (sym e1) p.here;
        narrow = p.narrow;
      },
      subst (λ (n : ℕ). AgendaIs table s b high n ts) (sym e2) (agenda_kept table s a b top high (get_or a (3 * head + 2) 0) ts l k h),
    )

pub kept_then : (a b c : List ℕ) (m n : ℕ) → m ≤ n → KeptBelow a b m → KeptBelow b c n → KeptBelow a c m
kept_then a b c m n l h g j k = g j (omega arith) ∙ h j k

-- ---- an entry stored

pub record EntryPut (a b : List ℕ) (k x y z : ℕ) : Type 0 where
  pub first : get_or b k 0 ≡ x
  pub second : get_or b (k + 1) 0 ≡ y
  pub third : get_or b (k + 2) 0 ≡ z
  pub kept : KeptBelow a b k
  pub long : length b ≡ length a

entry_put : (a : List ℕ) (k x y z : ℕ) → k + 2 < length a → EntryPut a (set (set (set a k x) (k + 1) y) (k + 2) z) k x y z
entry_put a k x y z l =
    let a1 = set a k x in
    let a2 = set a1 (k + 1) y in
    let l1 : length a1 ≡ length a = length-set a k x in
    let l2 : length a2 ≡ length a = length-set a1 (k + 1) y ∙ l1 in
    record {
      first = get_or-set_other a2 (k + 2) k z 0 (λ e. absurd (omega arith)) ∙ get_or-set_other a1 (k + 1) k y 0 (λ e. absurd (omega arith)) ∙ get_or-set_same a k x 0 (omega arith);
      second = get_or-set_other a2 (k + 2) (k + 1) z 0 (λ e. absurd (omega arith)) ∙ get_or-set_same a1 (k + 1) y 0 (omega arith);
      third = get_or-set_same a2 (k + 2) z 0 (omega arith);
      kept = λ j h. get_or-set_other a2 (k + 2) j z 0 (λ e. absurd (omega arith)) ∙ get_or-set_other a1 (k + 1) j y 0 (λ e. absurd (omega arith)) ∙ get_or-set_other a k j x 0 (λ e. absurd (omega arith));
      long = length-set a2 (k + 2) z ∙ l2;
    }

-- ---- parts packed

pub packed_part : (s : List ℕ) (p : Part) (n : ℕ) (v : Value) → WordOf s p n → PartIs s p v → PartIs s (unpacked n) v
packed_part s p n v k h = go (k.is (is v) (inr (v, refl, h)))
  where
    go : CellIs s (unpacked n) (is v) → PartIs s (unpacked n) v
    go (inl g) = impossible (cc g.1)
    go (inr (w, e, g)) = let d : w ≡ v = cc in subst (PartIs s (unpacked n)) d g

-- ---- narrow parts

exists_at : {A : Type 0} (xs : List A) (f : A → Bool) (d : ℕ) (z : A) → exists xs f ≡ false → d < length xs → f (get_or xs d z) ≡ false
unfolding exists
exists_at [] f d z e l = absurd (omega arith)
exists_at (x ∷ xs) f zero z e l = or_false_left (f x) (exists xs f) e
exists_at (x ∷ xs) f (suc d) z e l = exists_at xs f d z (or_false_right (f x) (exists xs f) e) (omega arith)

each_at : (ps : List Pattern) (vs : List Value) (i : ℕ) (q : Pattern) (z : Value) → wide_each (patterns_of ps) vs ≡ false → i < length ps → i < length vs → wide (get_or ps i q) (get_or vs i z) ≡ false
unfolding wide patterns_of
each_at [] vs i q z e l m = absurd (omega arith)
each_at (p ∷ ps) [] i q z e l m = absurd (omega arith)
each_at (p ∷ ps) (v ∷ vs) zero q z e l m = or_false_left (wide p v) (wide_each (patterns_of ps) vs) e
each_at (p ∷ ps) (v ∷ vs) (suc i) q z e l m = each_at ps vs i q z (or_false_right (wide p v) (wide_each (patterns_of ps) vs) e) (omega arith) (omega arith)

module _ (table : List ℕ) (p : ℕ) (r : Composed table p) where
  two : is_halved (kind_at (records table) p) ≡ true → count_of table p ≡ 2
  two e = count_two table p r.readable r.composed e

  pub inner_two : is_halved (kind_at (records table) p) ≡ true → length (inner_of table p) ≡ 2
  inner_two e = inner_length table p r.readable ∙ two e

  pub wide_by : (v : Value) → wide (pattern_at (records table) p) v ≡ is_large (kind_at (records table) p) v || exists (ways_of table p v) (λ vs. wide_each (patterns_of (inner_of table p)) vs)
  wide_by v =
      ap (λ (x : Pattern). wide x v) (by_record table p r.readable)
      ∙ wide_composed (record_at (records table) p) (inner_of table p) r.composed inner_two v
      ∙ ap (λ (n : ℕ). is_large (kind_at (records table) p) v || exists (meetings (kind_at (records table) p) n v) (λ vs. wide_each (patterns_of (inner_of table p)) vs)) (inner_length table p r.readable)

  module _ (v : Value) (fine : WellFormed v) (d : ℕ) (l : d < length (ways_of table p v)) where
    pub met_long : length (met_by table p v d) ≡ count_of table p
    met_long = meeting_length (kind_at (records table) p) (count_of table p) v d fine two l

    narrow_part : wide (pattern_at (records table) p) v ≡ false → (i : ℕ) → i < count_of table p → wide (get_or (inner_of table p) i any) (get_or (met_by table p v d) i (boolean true)) ≡ false
    narrow_part w i k =
        each_at (inner_of table p) (met_by table p v d) i any (boolean true)
        (exists_at (ways_of table p v) (λ vs. wide_each (patterns_of (inner_of table p)) vs) d [] (or_false_right (is_large (kind_at (records table) p) v) (exists (ways_of table p v) (λ vs. wide_each (patterns_of (inner_of table p)) vs)) (sym (wide_by v) ∙ w)) l)
        (omega (arith, inner_length table p r.readable)) (omega (arith, met_long))

-- ---- one part

module _ (table : List ℕ) (p k n : ℕ) (s : List ℕ) (part : Part) (d i : ℕ) (a : List ℕ) (next top : ℕ) (g : PartPushable table p k n s part d i a next top) where
  abbrev h : Pushable table p s part d a next top 1
  h = g.held

  pub piece_asked : PieceHeld k n s part d i
  piece_asked = rw (g.of_kind, g.counted) (record {
    composed = h.composed.composed;
    few = count_few table p h.composed.readable h.composed.composed;
    two = two table p h.composed;
    value = h.value;
    here = h.here;
    narrow = h.narrow;
    below = h.below;
    within = g.within;
    short = h.short;
  })

  module _ (part' : Part) (o : PieceOf k n s part d i part') where
    piece_is : (v : Value) → PartIs s part v → PartIs s part' (get_or (met_by table p v d) i (boolean true))
    piece_is v q =
        subst (λ (c : ℕ). PartIs s part' (get_or (get_or (meetings c (count_of table p) v) d []) i (boolean true))) g.of_kind
        (subst (λ (c : ℕ). PartIs s part' (get_or (get_or (meetings k c v) d []) i (boolean true))) g.counted (o v (boolean true) q))

    pub piece_held : CellHeld s part'
    piece_held = (is (get_or (met_by table p h.value d) i (boolean true)), inr (get_or (met_by table p h.value d) i (boolean true), refl, piece_is h.value h.here))

    pub part_pushed : (q : ℕ) → q ≡ operand (record_at (records table) p) i → (cell : ℕ) → WordOf s part' cell → PartPushed table p s part d i a next top (set (set (set a (3 * top) q) (3 * top + 1) cell) (3 * top + 2) next)
    part_pushed q b cell pk = record { kept = put.kept; long = put.long; right = go }
      where
        put : EntryPut a (set (set (set a (3 * top) q) (3 * top + 1) cell) (3 * top + 2) next) (3 * top) q cell next
        put = entry_put a (3 * top) q cell next (omega (arith, h.long, h.room))

        go : (v : Value) (ts : List Task) → PartIs s part v → wide (pattern_at (records table) p) v ≡ false → AgendaIs table s a top next ts
            → AgendaIs table s (set (set (set a (3 * top) q) (3 * top + 1) cell) (3 * top + 2) next) (top + 1) top (task (get_or (inner_of table p) i any) (get_or (met_by table p v d) i (boolean true)) ∷ ts)
        go v ts z u f =
            let below : d < length (ways_of table p v) = subst (λ (e : Value). d < length (ways_of table p e)) (sym (part_one z h.here)) h.below in
            let it : get_or (inner_of table p) i any ≡ pattern_at (records table) q = map_at (pattern_at (records table)) (operands_of (record_at (records table) p)) i 0 any g.within ∙ ap (pattern_at (records table)) (sym b) in (
              record {
                some = omega (arith, h.low);
                below = omega arith;
                falls = omega (arith, put.third, h.low);
                readable = subst (Readable table) (sym put.first) (operand_readable table p h.composed.readable i g.within q b).0;
                pattern = it ∙ ap (pattern_at (records table)) (sym put.first);
                here = subst (λ (e : ℕ). PartIs s (unpacked e) (get_or (met_by table p v d) i (boolean true))) (sym put.second) (packed_part s part' cell (get_or (met_by table p v d) i (boolean true)) pk (piece_is v z));
                narrow = narrow_part table p h.composed v (part_well_formed z) d below u i g.within;
              },
              subst (λ (e : ℕ). AgendaIs table s (set (set (set a (3 * top) q) (3 * top + 1) cell) (3 * top + 2) next) (top + 1) e ts) (sym put.third)
                  (agenda_kept table s a (set (set (set a (3 * top) q) (3 * top + 1) cell) (3 * top + 2) next) top (top + 1) next ts (omega arith) put.kept f),
            )

-- ---- one after the other, the last first

-- The parts from i on that have the bit stand before the rest.
pub record PushSoFar (table : List ℕ) (p : ℕ) (s : List ℕ) (part : Part) (d : ℕ) (a : List ℕ) (next top bits bit : ℕ) (b : List ℕ) (head i to : ℕ) : Type 0 where
  pub within : i ≤ count_of table p
  pub ends : to ≡ top + length (with_bit (bits / 2 ^ i) bit (drop i (inner_of table p)))
  pub room : to ≤ entries
  pub low : head < to
  pub none : to ≡ top → head ≡ next
  pub kept : KeptBelow a b (3 * top)
  pub long : length b ≡ length a
  pub right : (v : Value) (ts : List Task) → PartIs s part v → wide (pattern_at (records table) p) v ≡ false → AgendaIs table s a top next ts
      → AgendaIs table s b to head (with_bit (bits / 2 ^ i) bit (zipped (drop i (inner_of table p)) (drop i (met_by table p v d))) ++ ts)

module _ (table : List ℕ) (p : ℕ) (s : List ℕ) (part : Part) (d : ℕ) (a : List ℕ) (next top bits bit : ℕ) (h : Pushable table p s part d a next top (how_many table p bits bit)) where
  pub push_start : (n : ℕ) → n ≡ count_of table p → PushSoFar table p s part d a next top bits bit a next n top
  unfolding zipped with_bit
  push_start n e = record {
    within = omega arith;
    ends = omega (arith, ap (λ (ps : List Pattern). length (with_bit (bits / 2 ^ n) bit ps)) z);
    room = omega (arith, h.room);
    low = h.low;
    none = λ q. refl;
    kept = λ j k. refl;
    long = refl;
    right = λ v ts q w g. subst (λ (ps : List Pattern). AgendaIs table s a top next (with_bit (bits / 2 ^ n) bit (zipped ps (drop n (met_by table p v d))) ++ ts)) (sym z) g;
  }
    where
      z : drop n (inner_of table p) ≡ []
      z = drop_of_length-le (inner_of table p) {i = n} (omega (arith, inner_length table p h.composed.readable))

  module _ (i suci : ℕ) (si : suci ≡ i + 1) (b : List ℕ) (head to : ℕ) (w : PushSoFar table p s part d a next top bits bit b head suci to) (some : 0 < suci) where
    within : i < count_of table p
    within = omega (arith, w.within)

    pats : drop i (inner_of table p) ≡ get_or (inner_of table p) i any ∷ drop suci (inner_of table p)
    pats = drop-cons (inner_of table p) i any (omega (arith, within, inner_length table p h.composed.readable)) ∙ ap (λ (j : ℕ). get_or (inner_of table p) i any ∷ drop j (inner_of table p)) (sym (add-one i) ∙ sym si)

    parts : (v : Value) → PartIs s part v → zipped (drop i (inner_of table p)) (drop i (met_by table p v d)) ≡ task (get_or (inner_of table p) i any) (get_or (met_by table p v d) i (boolean true)) ∷ zipped (drop suci (inner_of table p)) (drop suci (met_by table p v d))
    unfolding zipped
    parts v z =
        let below : d < length (ways_of table p v) = subst (λ (e : Value). d < length (ways_of table p e)) (sym (part_one z h.here)) h.below in
        ap₂ zipped pats
        (drop-cons (met_by table p v d) i (boolean true) (omega (arith, within, met_long table p h.composed v (part_well_formed z) d below)) ∙ ap (λ (j : ℕ). get_or (met_by table p v d) i (boolean true) ∷ drop j (met_by table p v d)) (sym (add-one i) ∙ sym si))

    shifted : bits / 2 ^ i / 2 ≡ bits / 2 ^ suci
    shifted = shr-shr bits i 1 ∙ ap (λ (j : ℕ). bits / 2 ^ j) (sym si)

    -- a part with the other bit
    pub push_not : (bits / 2 ^ i % 2 ≡ bit → ⊥) → PushSoFar table p s part d a next top bits bit b head i to
    push_not other = record {
      within = omega (arith, within);
      ends = w.ends ∙ ap (λ (k : ℕ). top + k) (sym (ap length (ap (with_bit (bits / 2 ^ i) bit) pats ∙ skip (get_or (inner_of table p) i any) (drop suci (inner_of table p)))));
      room = w.room;
      low = w.low;
      none = w.none;
      kept = w.kept;
      long = w.long;
      right = λ v ts z u g. subst (λ (us : List Task). AgendaIs table s b to head (us ++ ts)) (sym (ap (with_bit (bits / 2 ^ i) bit) (parts v z) ∙ skip _ _)) (w.right v ts z u g);
    }
      where
        skip : {A : Type 0} (x : A) (xs : List A) → with_bit (bits / 2 ^ i) bit (x ∷ xs) ≡ with_bit (bits / 2 ^ suci) bit xs
        skip x xs = with_not (bits / 2 ^ i) bit x xs other ∙ ap (λ (k : ℕ). with_bit k bit xs) shifted

    -- one with the bit
    module _ (this : bits / 2 ^ i % 2 ≡ bit) where
      taken : {A : Type 0} (x : A) (xs : List A) → with_bit (bits / 2 ^ i) bit (x ∷ xs) ≡ x ∷ with_bit (bits / 2 ^ suci) bit xs
      taken x xs = with_is (bits / 2 ^ i) bit x xs this ∙ ap (λ (k : ℕ). x ∷ with_bit k bit xs) shifted

      more_ends : to + 1 ≡ top + length (with_bit (bits / 2 ^ i) bit (drop i (inner_of table p)))
      more_ends = omega (arith, w.ends, ap length (ap (with_bit (bits / 2 ^ i) bit) pats ∙ taken (get_or (inner_of table p) i any) (drop suci (inner_of table p))))

      more_room : to + 1 ≤ entries
      more_room = omega (arith, more_ends, fewer_on bits bit i (inner_of table p), h.room)

      pub part_asked : (k n : ℕ) → k ≡ kind_at (records table) p → n ≡ count_of table p → (part' : Part) → part' ≡ part → PartPushable table p k n s part' d i b head to
      part_asked k n x y part' e = rw e (record {
        held = record {
          composed = h.composed;
          short = h.short;
          value = h.value;
          here = h.here;
          narrow = h.narrow;
          below = h.below;
          low = w.low;
          room = more_room;
          long = w.long ∙ h.long;
        };
        of_kind = x;
        counted = y;
        within = within;
      })

      pub push_more : (part' : Part) → part' ≡ part → (c : List ℕ) → PartPushed table p s part' d i b head to c → PushSoFar table p s part d a next top bits bit c to i (to + 1)
      push_more part' e c f = record {
        within = omega (arith, within);
        ends = more_ends;
        room = more_room;
        low = omega arith;
        none = λ z. absurd (omega (arith, w.ends));
        kept = kept_then a b c (3 * top) (3 * to) (omega (arith, w.ends)) w.kept f.kept;
        long = f.long ∙ w.long;
        right = λ v ts z u g. subst (λ (us : List Task). AgendaIs table s c (to + 1) to (us ++ ts)) (sym (ap (with_bit (bits / 2 ^ i) bit) (parts v z) ∙ taken _ _))
            (f.right v (with_bit (bits / 2 ^ suci) bit (zipped (drop suci (inner_of table p)) (drop suci (met_by table p v d))) ++ ts) (subst (λ (q : Part). PartIs s q v) (sym e) z) u (w.right v ts z u g));
      }

  pub push_end : (b : List ℕ) (head i to : ℕ) → i ≤ 0 → PushSoFar table p s part d a next top bits bit b head i to → PushedWhere table p s part d a next top bits bit b (record { head = head; top = to })
  push_end b head i to l w =
      let e : i ≡ 0 = omega arith in
      let f : bits / 2 ^ i ≡ bits = ap (λ (j : ℕ). bits / 2 ^ j) e ∙ omega arith in
      record {
        ends = w.ends ∙ ap₂ (λ (k j : ℕ). top + length (with_bit k bit (drop j (inner_of table p)))) f e;
        low = w.low;
        none = w.none;
        kept = w.kept;
        long = w.long;
        right = λ v ts q u g. subst (λ (us : List Task). AgendaIs table s b to head (us ++ ts)) (ap₂ (λ (k j : ℕ). with_bit k bit (zipped (drop j (inner_of table p)) (drop j (met_by table p v d)))) f e) (w.right v ts q u g);
      }

-- in 0 every bit is 0
pub zero_bit : (i : ℕ) → 0 / 2 ^ i % 2 ≡ 0
zero_bit i = let l : 0 / 2 ^ i ≤ 0 = shr_le 0 i in omega arith

-- ---- those that are no tests, then the tests

module _ (table : List ℕ) (p : ℕ) (s : List ℕ) (part : Part) (d : ℕ) (a : List ℕ) (next top tests : ℕ) (h : Pushable table p s part d a next top (count_of table p)) where
  all_parts : how_many table p tests 1 + how_many table p tests 0 ≡ count_of table p
  all_parts = shared_length (inner_of table p) (with_bit tests 1 (inner_of table p)) (with_bit tests 0 (inner_of table p)) (by_bits tests (inner_of table p)) ∙ inner_length table p h.composed.readable

  again : (b : List ℕ) (next' top' count : ℕ) → length b ≡ length a → next' < top' → top' + count ≤ entries → Pushable table p s part d b next' top' count
  again b next' top' count e l m = record { composed = h.composed; short = h.short; value = h.value; here = h.here; narrow = h.narrow; below = h.below; low = l; room = m; long = e ∙ h.long }

  pub others_asked : Pushable table p s part d a next top (how_many table p tests 0)
  others_asked = again a next top (how_many table p tests 0) refl h.low (omega (arith, h.room, all_parts))

  pub none_test : tests ≡ 0 → (b : List ℕ) (r : ℕ) → Pushed table p s part d a next top 0 b r → Pushed table p s part d a next top tests b r
  none_test e b r k = subst (λ (n : ℕ). Pushed table p s part d a next top n b r) (sym e) k

  module _ (b : List ℕ) (r : Queue) (k : PushedWhere table p s part d a next top tests 0 b r) where
    -- no tests
    pub pushed_all : tests ≡ 0 → Pushed table p s part d a next top tests b r.head
    pushed_all e =
        let none : with_bit tests 1 (inner_of table p) ≡ [] = ap (λ (m : ℕ). with_bit m 1 (inner_of table p)) e ∙ no_bits (inner_of table p) in
        let all : r.top ≡ top + count_of table p = omega (arith, k.ends, all_parts, ap length none) in
        record {
          low = omega (arith, k.low, all);
          none = λ z. k.none (omega (arith, all));
          kept = k.kept;
          long = k.long;
          right = λ v ts q u g.
              let zs = zipped (inner_of table p) (met_by table p v d) in
              let f : with_bit tests 1 zs ≡ [] = ap (λ (m : ℕ). with_bit m 1 zs) e ∙ no_bits zs in
              subst (λ (us : List Task). AgendaIs table s b (top + count_of table p) r.head (us ++ (with_bit tests 0 zs ++ ts))) (sym f)
              (subst (λ (j : ℕ). AgendaIs table s b j r.head (with_bit tests 0 zs ++ ts)) all (k.right v ts q u g));
        }

    -- some
    pub tests_asked : Pushable table p s part d b r.head r.top (how_many table p tests 1)
    tests_asked = again b r.head r.top (how_many table p tests 1) k.long k.low (omega (arith, h.room, k.ends, all_parts))

    pub pushed_both : (c : List ℕ) (q : Queue) → PushedWhere table p s part d b r.head r.top tests 1 c q → Pushed table p s part d a next top tests c q.head
    pushed_both c q j =
        let all : q.top ≡ top + count_of table p = omega (arith, k.ends, j.ends, all_parts) in
        record {
          low = omega (arith, j.low, all);
          none = λ z. j.none (omega (arith, j.ends, all_parts)) ∙ k.none (omega (arith, k.ends, all_parts));
          kept = kept_then a b c (3 * top) (3 * r.top) (omega (arith, k.ends)) k.kept j.kept;
          long = j.long ∙ k.long;
          right = λ v ts x u g. subst (λ (m : ℕ). AgendaIs table s c m q.head (tests_first tests (zipped (inner_of table p) (met_by table p v d)) ts)) all
              (j.right v (with_bit tests 0 (zipped (inner_of table p) (met_by table p v d)) ++ ts) x u (k.right v ts x u g));
        }

-- ---- the two halves of a split

module _ (table : List ℕ) (p : ℕ) (s : List ℕ) (part : Part) (d : ℕ) (a : List ℕ) (next top : ℕ) (h : Pushable table p s part d a next top (count_of table p)) (k : ℕ) (e : k ≡ kind_at (records table) p) (u : is_split k ≡ true) where
  count-is : 2 ≡ count_of table p
  count-is = sym (two table p h.composed (ap is_halved (sym e) ∙ (split_kind k u).0))

  asked : Pushable table p s part d a next top (how_many table p 0 0)
  asked = others_asked table p s part d a next top 0 h

  start : PushSoFar table p s part d a next top 0 0 a next 2 top
  start = push_start table p s part d a next top 0 0 asked 2 count-is

  pub second_asked : PartPushable table p k 2 s part d 1 a next top
  second_asked = part_asked table p s part d a next top 0 0 asked 1 2 refl a next top start (omega arith) (zero_bit 1) k 2 e count-is part refl

  second_held : PieceHeld k 2 s part d 1
  second_held = piece_asked table p k 2 s part d 1 a next top second_asked

  pub split_low : d + 1 < 128
  split_low = next_low k 2 s part d 1 second_held u

  pub split_asked : SplitHeld s part (d + 1)
  split_asked = split_held k 2 s part d 1 second_held u

  pub split_made : (m l : ℕ) → MaskOf s part m → Spread m (d + 1) l → (r : Halves) → r ≡ halves_by part m l → SplitOf s part (d + 1) r
  split_made m l g h r e = subst (SplitOf s part (d + 1)) (sym e) (split_is split_asked g h)

  module _ (r : Halves) (o : SplitOf s part (d + 1) r) where
    pub second_piece : PieceOf k 2 s part d 1 r.right
    second_piece = (split_meets k 2 s part d 1 second_held u r o).1 (λ z. omega arith)

    module _ (b : List ℕ) (f : PartPushed table p s part d 1 a next top b) where
      between : PushSoFar table p s part d a next top 0 0 b top 1 (top + 1)
      between = push_more table p s part d a next top 0 0 asked 1 2 refl a next top start (omega arith) (zero_bit 1) part refl b f

      pub first_asked : PartPushable table p k 2 s part d 0 b top (top + 1)
      first_asked = part_asked table p s part d a next top 0 0 asked 0 1 refl b top (top + 1) between (omega arith) (zero_bit 0) k 2 e count-is part refl

      pub first_piece : PieceOf k 2 s part d 0 r.left
      first_piece = (split_meets k 2 s part d 0 (piece_asked table p k 2 s part d 0 b top (top + 1) first_asked) u r o).0 refl

      pub halves_pushed : (c : List ℕ) → PartPushed table p s part d 0 b top (top + 1) c → Pushed table p s part d a next top 0 c (top + 1)
      halves_pushed c g =
          pushed_all table p s part d a next top 0 h c _
          (push_end table p s part d a next top 0 0 asked c (top + 1) 0 (top + 1 + 1) (omega arith)
          (push_more table p s part d a next top 0 0 asked 0 1 refl b top (top + 1) between (omega arith) (zero_bit 0) part refl c g))
          refl
