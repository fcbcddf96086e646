-- Repeats: two ways of a pattern that give its names the same values go on with the same matches.
use mathlib.Core.Path.{◌≡◌, refl, sym, ap, subst, ◌∙◌}
use mathlib.Core.Bool.{Bool, true, false}
use mathlib.Core.Logic.{inl, inr}
use mathlib.Core.List.{List, []}
use Prim.Native.Nat.{ℕ, ◌+◌, ◌*◌, ◌%◌, ◌≤◌, ◌<◌}
use native.Mathlib.Omega.{arith}
use lib.ListN.{length, get_or}
use lib.Seq.{ext_get_or}
use Rattle.prelude.specs.Membership.{In}
use Rattle.prelude.proofs.Truth.{by_lower}
use Rattle.values.specs.Value.{Value}
use Rattle.tables.specs.Record.{Record, is_pattern, is_composed, named as operands_of, operand}
use Rattle.tables.proofs.Laws.Through.{EachTo, each_next}
use Rattle.tables.specs.Table.{record_at, kind_at}
use Rattle.tables.specs.Accepted.{records}
use Rattle.parts.specs.Part.{CellIs}
use Rattle.parts.proofs.Packing.{how_none}
use Rattle.parts.specs.Word.{unpacked}
use Rattle.parts.proofs.Laws.{part_one}
use Rattle.patterns.specs.Binding.{Cell, free, is, Binding, names, nothing, cell_of, merge, consistent, with_each, together}
use Rattle.patterns.specs.Pattern.{Pattern, matches, match_each}
use Rattle.patterns.specs.Relation.{Joined}
use Rattle.patterns.proofs.Laws.Members.{gather_in}
use Rattle.patterns.proofs.Laws.Matched.{in_together, together_in, matched, matched_each, match_sized, each_sized, merge_joined}
use Rattle.patterns.proofs.Laws.Named.{Told, told}
use Rattle.patterns.specs.Pattern.{holds_named as named}
use Rattle.patterns.proofs.Laws.Together.{all_fine, each_consistent, with_nothing, together_nothing, together_with}
use Rattle.patterns.proofs.Laws.Some.{some_halves}
use Rattle.patterns.specs.Nodes.{is_halved}
use Rattle.patterns.proofs.Laws.Nodes.{is_any, on_leaf, on_composed}
use Rattle.patterns.specs.Read.{Readable, patterns_of, pattern_of, pattern_at}
use Rattle.matching.specs.Leaf.{Stands}
use Rattle.matching.specs.Node.{inner_of, ways_of}
use Rattle.matching.proofs.Records.{by_record, inner_length, count_two, some_part, no_part}
use Rattle.forming.specs.Inner.{Composed}
use Rattle.forming.specs.Onward.{Task, matches_all, onward, one_way}
use Rattle.forming.specs.Laws.Onward.{onward_one}
use Rattle.forming.specs.Repeats.{holds_any, some_any, TellsAny}
use Rattle.forming.specs.Rows.{RowIs, Agrees}
use Rattle.forming.proofs.Compatible.{agreed_left, agreed_right, sized_all, with_in}
use Rattle.forming.proofs.Solving.{whole}

-- ---- a binding, one of several, and one of others, together

pub record Apart (b : Binding) (xs rs : List Binding) (o : Binding) : Type 0 where
  pub first : Binding
  pub both : Binding
  pub rest : Binding
  pub first_in : In first xs
  pub both_in : In both (with_each b xs)
  pub rest_in : In rest rs
  pub both_is : both ≡ merge b first
  pub all-is : o ≡ merge both rest
  pub agrees : consistent (merge both rest) ≡ true
  pub left : Joined b first both
  pub right : Joined both rest o

module _ (b : Binding) (b_sized : length b ≡ names) (rs : List Binding) (rs_sized : (d : Binding) → In d rs → length d ≡ names) where
  apart : (xs : List Binding) → ((m : Binding) → In m xs → length m ≡ names) → (o : Binding) → In o (with_each b (together xs rs)) → Apart b xs rs o
  apart xs f o i =
      let (x, d, j, k, t, e) = in_together o (with_each b xs) rs (subst (In o) (sym (together_with b xs rs)) i) in
      let (m, n, t', is_both) = with_in b xs x j in
      let l : Joined b m x = subst (Joined b m) (sym is_both) (merge_joined b m b_sized (f m n) t') in
      record {
        first = m;
        both = x;
        rest = d;
        first_in = n;
        both_in = j;
        rest_in = k;
        both_is = is_both;
        all-is = e;
        agrees = t;
        left = l;
        right = subst (Joined x d) (sym e) (merge_joined x d l.sized (rs_sized d k) t);
      }

  -- what it says of a name that the first gives a value
  first_cell : (xs : List Binding) (o : Binding) (a : Apart b xs rs o) (y : ℕ) → y < names → Told true (cell_of a.first y) → cell_of a.first y ≡ cell_of o y
  first_cell xs o a y l (v, e) = e ∙ sym (agreed_left (cell_of a.both y) (cell_of a.rest y) (cell_of o y) v (a.right.agreed y l) (agreed_right (cell_of b y) (cell_of a.first y) (cell_of a.both y) v (a.left.agreed y l) e))

  -- THEOREM: where those of one list and those of the other give the same names values, what goes on with the other and has the same values goes on with the one
  same_names : (u : ℕ → Bool) (xs ys : List Binding) → ((m : Binding) → In m xs → (length m ≡ names) × ((y : ℕ) → y < names → Told (u y) (cell_of m y))) → ((m : Binding) → In m ys → (length m ≡ names) × ((y : ℕ) → y < names → Told (u y) (cell_of m y)))
      → (o : Binding) → In o (with_each b (together xs rs)) → (c : Binding) → In c (with_each b (together ys rs)) → ((y : ℕ) → y < names → u y ≡ true → cell_of o y ≡ cell_of c y) → In c (with_each b (together xs rs))
  same_names u xs ys f g o i c k h =
      let p = apart xs (λ m j. (f m j).0) o i in
      let q = apart ys (λ m j. (g m j).0) c k in
      let ls = f p.first p.first_in in
      let ms = g q.first q.first_in in
      let same : q.first ≡ p.first = ext_get_or free q.first p.first (ms.0 ∙ sym ls.0) (λ y l.
      let w : y < names = omega (arith, ms.0) in
      cell y (u y) (cell_of p.first y) (cell_of q.first y) (ls.1 y w) (ms.1 y w) (λ e.
      first_cell xs o p y w (subst (λ (t : Bool). Told t (cell_of p.first y)) e (ls.1 y w)) ∙ h y w e
      ∙ sym (first_cell ys c q y w (subst (λ (t : Bool). Told t (cell_of q.first y)) e (ms.1 y w))))) in
      let z : q.both ≡ p.both = q.both_is ∙ ap (merge b) same ∙ sym p.both_is in
      subst (In c) (together_with b xs rs)
      (subst (λ (x : Binding). In x (together (with_each b xs) rs)) (sym q.all-is)
      (together_in q.both q.rest (with_each b xs) rs (subst (λ (x : Binding). In x (with_each b xs)) (sym z) p.both_in) q.rest_in q.agrees))
    where
      cell : (y : ℕ) (t : Bool) (m n : Cell) → Told t m → Told t n → (t ≡ true → m ≡ n) → n ≡ m
      cell y true m n x w e = sym (e refl)
      cell y false m n x w e = w ∙ sym x

-- ---- two ways of a pattern

module _ (table : List ℕ) (p : ℕ) (r : Composed table p) (v : Value) where
  abbrev P : Pattern
  P = pattern_at (records table) p

  -- what the parts give in one way, the pattern gives
  way_match : (vs : List Value) → In vs (ways_of table p v) → (m : Binding) → In m (match_each (patterns_of (inner_of table p)) vs) → In m (matches (pattern_at (records table) p) v)
  unfolding matches_all
  way_match vs i m j =
      let fine = all_fine (match_each (patterns_of (inner_of table p)) vs) (λ b k. record { sized = each_sized (patterns_of (inner_of table p)) vs b (matched_each (patterns_of (inner_of table p)) vs b k); agrees = each_consistent (patterns_of (inner_of table p)) vs b k }) in
      let one : one_way (inner_of table p) [] nothing vs ≡ match_each (patterns_of (inner_of table p)) vs = ap (with_each nothing) (together_nothing (match_each (patterns_of (inner_of table p)) vs) fine) ∙ with_nothing (match_each (patterns_of (inner_of table p)) vs) fine in
      subst (In m) (sym (whole table p r v [] nothing) ∙ onward_one P v) (gather_in vs m (ways_of table p v) (one_way (inner_of table p) [] nothing) i (subst (In m) (sym one) j))

  way_told : (vs : List Value) → In vs (ways_of table p v) → (m : Binding) → In m (match_each (patterns_of (inner_of table p)) vs) → (length m ≡ names) × ((y : ℕ) → y < names → Told (named (pattern_at (records table) p) y) (cell_of m y))
  way_told vs i m j = let q = matched P v m (way_match vs i m j) in (match_sized P v m q, told P v m q)

  pub other_way : (ts : List Task) (b : Binding) → length b ≡ names → (vs us : List Value) → In vs (ways_of table p v) → In us (ways_of table p v) → (o : Binding) → In o (one_way (inner_of table p) ts b vs) → (c : Binding) → In c (one_way (inner_of table p) ts b us)
      → ((y : ℕ) → y < names → named (pattern_at (records table) p) y ≡ true → cell_of o y ≡ cell_of c y) → In c (one_way (inner_of table p) ts b vs)
  other_way ts b n vs us i j o x c z h =
      same_names b n (matches_all ts) (sized_all ts) (named P) (match_each (patterns_of (inner_of table p)) vs) (match_each (patterns_of (inner_of table p)) us) (way_told vs i) (way_told us j) o x c z h

-- ---- a pattern that holds a wildcard

any_composed : (r : Record) (ps : List Pattern) → is_composed r.kind ≡ true → (is_halved r.kind ≡ true → length ps ≡ 2) → holds_any (pattern_of r ps) ≡ some_any (patterns_of ps)
unfolding holds_any
any_composed r ps c two = on_composed r ps (λ q. holds_any q ≡ some_any (patterns_of ps)) c (λ h. refl) (λ h. some_halves holds_any some_any refl (λ q qs. refl) ps (two h))

any_bare : (r : Record) (ps : List Pattern) → (r.kind ≡ 33 → ⊥) → is_pattern r.kind ≡ true → is_composed r.kind ≡ false → holds_any (pattern_of r ps) ≡ false
unfolding holds_any
any_bare r ps n p c = on_leaf r ps (λ q. holds_any q ≡ false) p c (λ e. refl) (λ e. absurd (n e)) (λ w a b. refl)

-- the operands before i hold none
abbrev pub NoAnyTo : List ℕ → ℕ → ℕ → Type 0
NoAnyTo table p i = EachTo (λ q. holds_any (pattern_at (records table) q) ≡ false) (record_at (records table) p) i

pub any_next : (table : List ℕ) (p i q : ℕ) → NoAnyTo table p i → q ≡ operand (record_at (records table) p) i → (t : Bool) → TellsAny table q t → t ≡ false → NoAnyTo table p (i + 1)
any_next table p i q n e t h y = each_next (λ q. holds_any (pattern_at (records table) q) ≡ false) (record_at (records table) p) i q n e (sym h ∙ y)

module _ (table : List ℕ) (p : ℕ) (r : Readable table p) where
  pub any_here : kind_at (records table) p ≡ 33 → TellsAny table p true
  unfolding holds_any
  any_here e = sym (ap holds_any (by_record table p r ∙ is_any (record_at (records table) p) (inner_of table p) e))

  pub any_leaf : (kind_at (records table) p ≡ 33 → ⊥) → is_composed (kind_at (records table) p) ≡ false → TellsAny table p false
  any_leaf n c = sym (ap holds_any (by_record table p r) ∙ any_bare (record_at (records table) p) (inner_of table p) n r.pattern c)

  module _ (c : is_composed (kind_at (records table) p) ≡ true) where
    any_parts : holds_any (pattern_at (records table) p) ≡ some_any (patterns_of (inner_of table p))
    any_parts = ap holds_any (by_record table p r) ∙ any_composed (record_at (records table) p) (inner_of table p) c (λ q. inner_length table p r ∙ count_two table p r c q)

    pub any_found : (i q : ℕ) → i < length (operands_of (record_at (records table) p)) → q ≡ operand (record_at (records table) p) i → (t : Bool) → TellsAny table q t → t ≡ true → TellsAny table p true
    unfolding holds_any
    any_found i q l e t h y = sym (some_part holds_any some_any refl (λ q qs. refl) table p r any_parts i q l e (sym h ∙ y))

    pub any_none : (i : ℕ) → NoAnyTo table p i → length (operands_of (record_at (records table) p)) ≤ i → TellsAny table p false
    unfolding holds_any
    any_none i h l = sym (no_part holds_any some_any refl (λ q qs. refl) table p r any_parts i h l)

-- ---- a row that agrees with what is found

-- the names below x agree
abbrev pub AgreesTo : List ℕ → List ℕ → ℕ → ℕ → Type 0
AgreesTo found rows r x = (y : ℕ) → y < x → (get_or found y 0 ≡ 0 → ⊥) → get_or rows (16 * r + y) 0 ≡ get_or found y 0

pub agrees_more : (found rows : List ℕ) (r x : ℕ) → AgreesTo found rows r x → ((get_or found x 0 ≡ 0 → ⊥) → get_or rows (16 * r + x) 0 ≡ get_or found x 0) → AgreesTo found rows r (x + 1)
agrees_more found rows r x h e y l f = by_lower y x (λ k. h y k f) (λ k. let d : x ≡ y = omega arith in subst (λ (z : ℕ). (get_or found z 0 ≡ 0 → ⊥) → get_or rows (16 * r + z) 0 ≡ get_or found z 0) d e f)

word_cell : (s : List ℕ) (w : ℕ) (c d : Cell) → (w % 4 ≡ 0 → ⊥) → CellIs s (unpacked w) c → CellIs s (unpacked w) d → (v : Value) × (c ≡ is v) × (d ≡ is v)
word_cell s w c d f (inl h) k = absurd (f (how_none (w % 4) h.0))
word_cell s w c d f (inr h) (inl k) = absurd (f (how_none (w % 4) k.0))
word_cell s w c d f (inr (v, e, h)) (inr (u, g, k)) = (v, e, g ∙ ap is (sym (part_one {p = unpacked w} h k)))

pub row_same : (s found : List ℕ) (q : Binding) → Stands s found q → (rows : List ℕ) (r : ℕ) (o : Binding) → RowIs s rows r o → Agrees found rows r → (ts : List Task) (c : Binding) → In c (onward ts q) → (y : ℕ) → y < names → (get_or found y 0 ≡ 0 → ⊥) → cell_of o y ≡ cell_of c y
row_same s found q st rows r o ro g ts c i y l f =
    let (v, e, d) = word_cell s (get_or found y 0) (cell_of q y) (cell_of o y) (λ z. f (st.blank y l z)) (st.cells y l) (subst (λ (w : ℕ). CellIs s (unpacked w) (cell_of o y)) (g y l f) (ro.cells y l)) in
    let (x, k, t, m) = with_in q (matches_all ts) c i in
    let n = merge_joined q x st.binding_sized (sized_all ts x k) t in
    d ∙ sym (ap (λ (b : Binding). cell_of b y) m ∙ agreed_left (cell_of q y) (cell_of x y) (cell_of (merge q x) y) v (n.agreed y l) e)
