-- Ways that are passed over: their halves have other sizes than the patterns take, and so no match that is compatible with what is found.
use mathlib.Core.Path.{◌≡◌, sym, ap, ap₂, ◌∙◌}
use mathlib.Core.Option.{Option, none as absent, some}
use mathlib.Core.List.{List, [], ◌∷◌, ◌++◌, map}
use Prim.Native.Nat.{ℕ, zero, suc, ◌+◌, ◌-◌, ◌≤◌, ◌<◌}
use native.Mathlib.Omega.{arith}
use lib.ListN.{length, get_or, drop, length-map}
use lib.Seq.{drop-cons}
use Rattle.prelude.specs.Membership.{In}
use Rattle.prelude.proofs.Membership.{at_in}
use Rattle.values.specs.Value.{Kind, Value}
use Rattle.tables.specs.Record.{named as operands_of, operand}
use Rattle.tables.specs.Table.{record_at, kind_at}
use Rattle.tables.specs.Accepted.{records}
use Rattle.patterns.specs.Ways.{Halves, halves, gather}
use Rattle.patterns.specs.Binding.{Binding, names}
use Rattle.patterns.specs.Pattern.{Pattern, any, contents, UnitOf, halves_in, divisions, split, left_of, right_of, match_each}
use Rattle.patterns.specs.Relation.{Matches}
use Rattle.patterns.proofs.Laws.Matched.{in_divisions, matched_each}
use Rattle.patterns.specs.Nodes.{collection_of, both_halves, meetings}
use Rattle.patterns.proofs.Laws.Nodes.{two_of}
use Rattle.patterns.specs.Read.{Readable, patterns_of, pattern_at}
use Rattle.matching.specs.Node.{inner_of, ways_of, met_by}
use Rattle.matching.proofs.Records.{inner_length}
use Rattle.forming.specs.declared.sizes.Sizes.{Sizes}
use Rattle.forming.specs.Compatible.{Compatible}
use Rattle.forming.specs.Onward.{Task, one_way}
use Rattle.forming.specs.Inner.{count_of}
use Rattle.forming.specs.Sizes.{Splits, fewest_of, HalvesTake, TellsSizes, half_at, Barren, FromHeld, From}
use Rattle.prelude.proofs.Lists.{map_at}
use Rattle.forming.proofs.Compatible.{joined_left, joined_right, compatible_within, no_way}
use Rattle.forming.proofs.Reducing.{two_halves}
use Rattle.forming.proofs.Sizing.{divided_counts}

-- ---- lists

gather_skip : {A B : Type 0} (xs : List A) (z : A) (f : A → List B) (n d : ℕ) → d + n ≤ length xs → ((j : ℕ) → d ≤ j → j < d + n → f (get_or xs j z) ≡ []) → gather (drop (d + n) xs) f ≡ gather (drop d xs) f
unfolding gather
gather_skip {A} {B} xs z f zero d l h = let e : d + 0 ≡ d = omega arith in ap (λ (k : ℕ). gather (drop k xs) f) e
gather_skip {A} {B} xs z f (suc n) d l h =
    let here : drop d xs ≡ get_or xs d z ∷ drop (suc d) xs = drop-cons xs d z (omega arith) in
    let e : d + suc n ≡ suc d + n = omega arith in
    let on : gather (drop (suc d + n) xs) f ≡ gather (drop (suc d) xs) f = gather_skip xs z f n (suc d) (omega arith) (λ j a b. h j (omega arith) (omega arith)) in
    ap (λ (k : ℕ). gather (drop k xs) f) e ∙ on ∙ ap (λ (l : List B). l ++ gather (drop (suc d) xs) f) (sym (h d (omega arith) (omega arith))) ∙ ap (λ (l : List A). gather l f) (sym here)

-- ---- two parts of which one has no match that is compatible

no_pair : (b : Binding) (l r : Pattern) (x y : Value) → ((a d : Binding) → Matches l x a → Matches r y d → Compatible b a → Compatible b d → ⊥) → (m : Binding) → In m (match_each (patterns_of (l ∷ r ∷ [])) (x ∷ y ∷ [])) → Compatible b m → ⊥
unfolding Matches patterns_of
no_pair b l r x y h m i k =
    let (a, d, ma, (e, f, me, mf, j), j') = matched_each (patterns_of (l ∷ r ∷ [])) (x ∷ y ∷ []) m i in
    h a e ma me (compatible_within a m b (joined_left a d m j') k) (compatible_within e d b (joined_left e f d j) (compatible_within d m b (joined_right a d m j') k))

-- ---- the ways of a pattern with two halves

-- the units of the halves of a way
half_units : (k : Kind) (vs : List Value) (j : ℕ) → j < length (divisions k vs) → (h : Halves (UnitOf k)) × (half_at k vs j ≡ halves_in k h) × (fewest_of k ≤ length h.left) × (fewest_of k ≤ length h.right)
half_units k vs j l =
    let (ms, ns, d, e, n, x, y) = divided_counts k vs (half_at k vs j).left (half_at k vs j).right ((in_divisions k vs (half_at k vs j)).0 (at_in (divisions k vs) j (halves [] []) l)) in
    (halves ms ns, ap₂ halves d e, x, y)

meetings_two : (c n : ℕ) (v : Value) → Splits c → meetings c n v ≡ map (both_halves (collection_of c)) (split (collection_of c) (contents (collection_of c) v))
meetings_two c n v u = rw u

module _ (table : List ℕ) (p : ℕ) (h : Readable table p) (c : ℕ) (ec : c ≡ kind_at (records table) p) (u : Splits c) where
  abbrev K : Kind
  K = collection_of c

  abbrev half : ℕ → Pattern
  half i = pattern_at (records table) (operand (record_at (records table) p) i)

  inner_two : inner_of table p ≡ half 0 ∷ half 1 ∷ []
  inner_two =
      let two = two_halves table p h c (sym ec) u in
      sym (two_of (inner_of table p) (inner_length table p h ∙ two))
      ∙ ap (λ (x : Pattern). x ∷ get_or (inner_of table p) 1 any ∷ []) (map_at (pattern_at (records table)) (operands_of (record_at (records table) p)) 0 0 any (omega (arith, two)))
      ∙ ap (λ (x : Pattern). half 0 ∷ x ∷ []) (map_at (pattern_at (records table)) (operands_of (record_at (records table) p)) 1 0 any (omega (arith, two)))

  ways_two : (v : Value) → ways_of table p v ≡ map (both_halves K) (split K (contents K v))
  ways_two v = ap (λ (k : ℕ). meetings k (count_of table p) v) (sym ec) ∙ meetings_two c (count_of table p) v u

  -- there are some, so the value is a collection of the kind
  some_ways : (v : Value) (w : ℕ) → length (ways_of table p v) ≡ w → 0 < w → (vs : List Value) × (ways_of table p v ≡ map (both_halves K) (divisions K vs)) × (length (divisions K vs) ≡ w)
  some_ways v w e l = go (contents K v) (ways_two v)
    where
      go : (o : Option (List Value)) → ways_of table p v ≡ map (both_halves K) (split K o) → (vs : List Value) × (ways_of table p v ≡ map (both_halves K) (divisions K vs)) × (length (divisions K vs) ≡ w)
      go absent q = absurd (omega (arith, e, ap length q))
      go (some vs) q = (vs, q, sym (length-map (divisions K vs) (both_halves K)) ∙ ap length (sym q) ∙ e)

  -- a way whose halves have other sizes has no match that goes on from the binding
  barren_way : (st : Binding) → length st ≡ names → (z : Sizes) → HalvesTake table st p c z → (w j : ℕ) → j < w → Barren K w z j → (v : Value) → length (ways_of table p v) ≡ w → (ts : List Task) → one_way (inner_of table p) ts st (met_by table p v j) ≡ []
  barren_way st o z t w j l n v e ts =
      let (vs, q, d) = some_ways v w e (omega arith) in
      let (h, are, x, y) = half_units K vs j (omega (arith, d)) in
      go vs q d h are x y
    where
      go : (vs : List Value) → ways_of table p v ≡ map (both_halves K) (divisions K vs) → length (divisions K vs) ≡ w → (h : Halves (UnitOf K)) → half_at K vs j ≡ halves_in K h
          → fewest_of K ≤ length h.left → fewest_of K ≤ length h.right → one_way (inner_of table p) ts st (met_by table p v j) ≡ []
      go vs q d h are x y =
          let at : met_by table p v j ≡ both_halves K (halves_in K h) =
          ap (λ (ws : List (List Value)). get_or ws j []) q ∙ map_at (both_halves K) (divisions K vs) j (halves [] []) [] (omega (arith, d)) ∙ ap (both_halves K) are in
          ap (λ (x : List Value). one_way (inner_of table p) ts st x) at
          ∙ ap (λ (ps : List Pattern). one_way ps ts st (both_halves K (halves_in K h))) inner_two
          ∙ no_way (half 0 ∷ half 1 ∷ []) ts st o (both_halves K (halves_in K h))
          (no_pair st (half 0) (half 1) (left_of K (halves_in K h)) (right_of K (halves_in K h)) (λ a b m k f g. n vs h d are (t.left h.left a x m f) (t.right h.right b y k g)))

-- ---- ways that are passed over

module _ (table : List ℕ) (p : ℕ) (r : Readable table p) (c : ℕ) (ec : c ≡ kind_at (records table) p) (st : Binding) (z : _) (t : TellsSizes table st p c z) (v : Value) (w : ℕ) (n : length (ways_of table p v) ≡ w) where
  pub from_asked : 0 < w → FromHeld c w z
  from_asked l y b =
      let k = t y b in
      let (vs, q, d) = some_ways table p r c ec k.splits v w n l in
      record { splits = k.splits; values = vs; ways = d }

  pub passed_over : length st ≡ names → (ts : List Task) (d e : ℕ) → d ≤ w → From c w d z e → gather (drop e (ways_of table p v)) (one_way (inner_of table p) ts st) ≡ gather (drop d (ways_of table p v)) (one_way (inner_of table p) ts st)
  passed_over sized ts d e l k =
      let x : d + (e - d) ≡ e = omega (arith, k.low) in
      let y : e ≤ w = k.within l in
      ap (λ (j : ℕ). gather (drop j (ways_of table p v)) (one_way (inner_of table p) ts st)) (sym x)
      ∙ gather_skip (ways_of table p v) [] (one_way (inner_of table p) ts st) (e - d) d (omega (arith, n, x, y)) (λ j u o.
      let (y', bound, none) = k.barren j u (omega (arith, x)) in
      barren_way table p r c ec (t y' bound).splits st sized y' (t y' bound) w j (omega (arith, x, y)) none v n ts)
