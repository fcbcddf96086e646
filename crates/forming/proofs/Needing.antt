-- Items that names ask for: a set or map that lacks one is not matched.
use mathlib.Core.Path.{◌≡◌, refl, sym, ap, subst, ◌∙◌}
use mathlib.Core.Bool.{Bool, true, false}
use mathlib.Core.Logic.{inl, inr, ⊎_elim}
use mathlib.Core.List.{List, [], ◌∷◌}
use Prim.Native.Nat.{◌%◌, ℕ, ◌<◌}
use lib.ListN.{length, get_or}
use Rattle.prelude.specs.Membership.{In}
use Rattle.prelude.proofs.Membership.{at_in, map_in}
use Rattle.values.specs.Value.{Kind, number, Value}
use Rattle.tables.specs.Record.{named as operands_of, operand}
use Rattle.tables.specs.Table.{record_at, kind_at}
use Rattle.tables.specs.Accepted.{records}
use Rattle.parts.specs.declared.Part.{Part}
use Rattle.parts.specs.Part.{PartIs, PartHeld}
use Rattle.parts.specs.Contract.{KindOfPart, HasItem}
use Rattle.parts.proofs.Packing.{how_none}
use Rattle.parts.specs.Word.{unpacked}
use Rattle.parts.proofs.Laws.{of_kind}
use Rattle.patterns.specs.Binding.{is, Binding, names, only, cell_of}
use Rattle.patterns.specs.Units.{Permuted}
use Rattle.patterns.specs.Pattern.{Pattern, name, each, halved, UnitOf, units_of, items_in, is_unordered}
use Rattle.patterns.specs.Relation.{Divided, Matches, MatchesEach}
use Rattle.patterns.specs.Nodes.{collection_of}
use Rattle.patterns.specs.Read.{Readable, patterns_of, pattern_at}
use Rattle.patterns.proofs.Laws.Collected.{arranged_units, divided_units}
use Rattle.patterns.proofs.Laws.Named.{only_cell, PartOf, shared_left, shared_right, part_in, part_items, arranged_in}
use Rattle.matching.specs.Leaf.{Standing}
use Rattle.matching.specs.Node.{is_split, inner_of}
use Rattle.matching.proofs.Counting.{split_kind}
use Rattle.matching.proofs.Records.{by_record}
use Rattle.std.specs.Prelude.{Option, Some}
use Rattle.forming.specs.Needs.{Unmatched, Lacks, NoMatch, NoneMatch, WordAt}
use Rattle.forming.specs.Sizes.{Splits, enumeration_of}
use Rattle.forming.proofs.Compatible.{joined_left, joined_right, compatible_within}
use Rattle.forming.proofs.Reducing.{items_same, is_two}
use Rattle.forming.proofs.Sizing.{each_by}

-- ---- a name among the parts is bound to one of the items

name_part : (ps : List Pattern) (ws : List Value) (a : Binding) (x : ℕ) → x < names → In (name x) ps → MatchesEach (patterns_of ps) ws a → (t : Value) × In t ws × (cell_of a x ≡ is t)
unfolding Matches patterns_of
name_part [] ws a x l i m = absurd i
name_part (p ∷ ps) [] a x l i m = absurd m
name_part (p ∷ ps) (w ∷ ws) a x l (inl e) (c, d, m, n, j) =
    let o : c ≡ only x w = subst (λ (q : Pattern). Matches q w c) (sym e) m in
    (w, inl refl, joined_left c d a j x l w (ap (λ (b : Binding). cell_of b x) o ∙ only_cell x w l))
name_part (p ∷ ps) (w ∷ ws) a x l (inr i) (c, d, m, n, j) =
    let (t, k, e) = name_part ps ws d x l i n in
    (t, inr k, joined_right c d a j x l t e)

-- THEOREM: an enumeration that names an item which is not there matches no set or map of some of the items
each_lacks : (b : Binding) (k : Kind) (ps : List Pattern) (vs : List Value) (x : ℕ) → x < names → In (name x) ps → (v : Value) → cell_of b x ≡ is v → (In v vs → ⊥) → Lacks b k (each k (patterns_of ps)) vs
unfolding Matches
each_lacks b k ps vs x l i v e f ts g a (us, ws, d, n, h, m) c =
    let (t, j, q) = name_part ps ws a x l i m in
    let same : v ≡ t = c x l v t e q in
    f (subst (λ (z : Value). In z vs) (sym same) (g t (subst (In t) (sym (items_same k ts us d)) (arranged_in k t us ws h j))))

-- ---- a half has items of the whole alone

permuted_self : {A : Type 0} (xs : List A) → Permuted xs xs
permuted_self [] = refl
permuted_self (x ∷ xs) = (xs, permuted_self xs, ([], xs, refl, refl))

module _ (k : Kind) (u : is_unordered k ≡ true) (vs : List Value) where
  part_of : (ls : List Value) (ms : List (UnitOf k)) → PartOf ms (units_of k vs) → ls ≡ items_in k ms → (t : Value) → In t ls → In t vs
  part_of ls ms p e t i =
      arranged_in k t vs (items_in k (units_of k vs)) ((arranged_units k u vs (items_in k (units_of k vs))).1 (units_of k vs, permuted_self (units_of k vs), refl))
      (part_in (items_in k ms) (items_in k (units_of k vs)) (part_items k ms (units_of k vs) p) t (subst (In t) e i))

  left_in : (ls rs : List Value) → Divided k vs ls rs → (t : Value) → In t ls → In t vs
  left_in ls rs h = let (ms, ns, (s, l, r), d, e) = (divided_units k u vs ls rs).0 h in part_of ls ms (shared_left (units_of k vs) ms ns s) d

  right_in : (ls rs : List Value) → Divided k vs ls rs → (t : Value) → In t rs → In t vs
  right_in ls rs h = let (ms, ns, (s, l, r), d, e) = (divided_units k u vs ls rs).0 h in part_of rs ns (shared_right (units_of k vs) ms ns s) e

-- a union or munion lacks what a half of it lacks
left_half : (b : Binding) (k : Kind) → is_unordered k ≡ true → (p q : Pattern) (vs : List Value) → Lacks b k p vs → Lacks b k (halved k p q) vs
unfolding Matches
left_half b k u p q vs f ts g a (us, ls, rs, c, d, e, s, m, n, j) h =
    f ls (λ t i. g t (subst (In t) (sym (items_same k ts us e)) (left_in k u us ls rs s t i))) c m (compatible_within c a b (joined_left c d a j) h)

right_half : (b : Binding) (k : Kind) → is_unordered k ≡ true → (p q : Pattern) (vs : List Value) → Lacks b k q vs → Lacks b k (halved k p q) vs
unfolding Matches
right_half b k u p q vs f ts g a (us, ls, rs, c, d, e, s, m, n, j) h =
    f rs (λ t i. g t (subst (In t) (sym (items_same k ts us e)) (right_in k u us ls rs s t i))) d n (compatible_within d a b (joined_right c d a j) h)

-- ---- word_at

pub named_part : (table : List ℕ) (q : ℕ) (s found : List ℕ) → Standing s found → (r : Option ℕ) → WordAt table q found r → (word : ℕ) → r ≡ Some word → (value : Part) → value ≡ unpacked word → PartHeld s value
named_part table q s found (b, st) r k word re value e =
    let (f, x, l, pe, w) = k word re in
    ⊎_elim (λ n. absurd (f (w ∙ st.blank x l (how_none (get_or found x 0 % 4) n.0)))) (λ (v, d, g). record { value = v; here = subst (λ (z : Part). PartIs s z v) (sym (e ∙ ap unpacked w)) g }) (st.cells x l)

pub word_told : (table : List ℕ) (p : ℕ) (found : List ℕ) (x : ℕ) → x < names → pattern_at (records table) p ≡ name x → (get_or found x 0 ≡ 0 → ⊥) → WordAt table p found (Some (get_or found x 0))
word_told table p found x l n f w e = let q : get_or found x 0 ≡ w = cc in ((λ z. f (q ∙ z)), x, l, n, sym q)

-- ---- what the parts ask

module _ (table : List ℕ) (p : ℕ) (h : Readable table p) (s : List ℕ) (part : Part) (found : List ℕ) where
  pub names_lack : (c : ℕ) → Splits c → kind_at (records table) p ≡ enumeration_of c → (i : ℕ) → i < length (operands_of (record_at (records table) p)) → (q : ℕ) → q ≡ operand (record_at (records table) p) i → (r : Option ℕ) → WordAt table q found r → (word : ℕ) → r ≡ Some word
      → (value : Part) → value ≡ unpacked word → (t : Bool) → HasItem s part value t → t ≡ false → NoneMatch table p c s part found
  names_lack c u e i l q qe r k word re value ve t m z vs b o st =
      let (f, x, xl, pe, we) = k word re in
      let among : In (name x) (inner_of table p) =
      subst (λ (y : Pattern). In y (inner_of table p)) (ap (pattern_at (records table)) (sym qe) ∙ pe)
      (map_in (operand (record_at (records table) p) i) (pattern_at (records table)) (operands_of (record_at (records table) p)) (at_in (operands_of (record_at (records table) p)) i 0 l)) in
      subst (λ (y : Pattern). Lacks b (collection_of c) y vs) (sym (by_record table p h ∙ each_by (record_at (records table) p) (inner_of table p) c e u))
      (⊎_elim (λ n. absurd (f (we ∙ st.blank x xl (how_none (get_or found x 0 % 4) n.0))))
      (λ (v, d, g). each_lacks b (collection_of c) (inner_of table p) vs x xl among v d ((m (collection_of c) vs v o (subst (λ (y : Part). PartIs s y v) (sym (ve ∙ ap unpacked we)) g)).1 z))
      (st.cells x xl))

  module _ (c : ℕ) (u : is_split c ≡ true) (e : kind_at (records table) p ≡ c) where
    two : pattern_at (records table) p ≡ halved (collection_of c) (pattern_at (records table) (operand (record_at (records table) p) 0)) (pattern_at (records table) (operand (record_at (records table) p) 1))
    two = is_two table p h c e (split_kind c u).0

    pub left_lack : (l : ℕ) → l ≡ operand (record_at (records table) p) 0 → NoneMatch table l c s part found → NoneMatch table p c s part found
    left_lack l q f vs b o st =
        subst (λ (y : Pattern). Lacks b (collection_of c) y vs) (sym two)
        (left_half b (collection_of c) (split_kind c u).1 _ _ vs (subst (λ (n : ℕ). Lacks b (collection_of c) (pattern_at (records table) n) vs) q (f vs b o st)))

    pub right_lack : (r : ℕ) → r ≡ operand (record_at (records table) p) 1 → NoneMatch table r c s part found → NoneMatch table p c s part found
    right_lack r q f vs b o st =
        subst (λ (y : Pattern). Lacks b (collection_of c) y vs) (sym two)
        (right_half b (collection_of c) (split_kind c u).1 _ _ vs (subst (λ (n : ℕ). Lacks b (collection_of c) (pattern_at (records table) n) vs) q (f vs b o st)))

-- all items are some of them
pub whole_lacks : (table : List ℕ) (p c : ℕ) (s : List ℕ) (part : Part) (found : List ℕ) (k : ℕ) → KindOfPart s part k → k ≡ number (collection_of c) → NoneMatch table p c s part found → NoMatch table p s part found
whole_lacks table p c s part found k o e f v b h st =
    let (vs, d) = of_kind (collection_of c) v (sym (o v h) ∙ e) in
    subst (Unmatched b (pattern_at (records table) p)) (sym d) (f vs b (subst (PartIs s part) d h) st vs (λ t i. i))

pub met_by_word : (table : List ℕ) (p : ℕ) (s : List ℕ) (part : Part) (word : ℕ) → part ≡ unpacked word → (found : List ℕ) → NoMatch table p s part found → NoMatch table p s (unpacked word) found
met_by_word table p s part word e found f v b h st = f v b (subst (λ (k : Part). PartIs s k v) (sym e) h) st
