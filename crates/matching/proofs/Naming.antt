-- Names bound to parts, and the other patterns without parts.
use mathlib.Core.Path.{◌≡◌, refl, sym, ap, ap₂, subst, ◌∙◌}
use mathlib.Core.Bool.{Bool, true, false, cond}
use mathlib.Core.Logic.{inl, inr, ⊎_elim}
use mathlib.Core.List.{List, [], ◌∷◌}
use Prim.Native.Nat.{ℕ, zero, suc, ◌%◌, ◌<◌}
use native.Mathlib.Decide.{ℕ_discrete}
use native.Mathlib.Omega.{arith}
use lib.ListN.{length, get_or, set, length-set, replicate, get_or-replicate}
use lib.Seq.{get_or-set_same, get_or-set_other}
use Rattle.prelude.specs.Membership.{In}
use Rattle.std.specs.declared.cmp.Ordering.{Ordering}
use Rattle.std.specs.declared.cmp.Ordering.TheVariants.{Less, Equal, Greater}
use Rattle.values.specs.Value.{Value}
use Rattle.std.specs.Ordering.{is_eq}
use Rattle.values.specs.Items.{same}
use Rattle.tables.specs.Record.{name_of}
use Rattle.tables.specs.Table.{record_at, kind_at}
use Rattle.tables.specs.Accepted.{records}
use Rattle.parts.specs.declared.Part.{Part}
use Rattle.parts.specs.Part.{PartIs, PartHeld, CellIs}
use Rattle.parts.proofs.Packing.{how_none, some_how}
use Rattle.parts.specs.Word.{how_of, unpacked, WordHeld, OrderedWords}
use Rattle.patterns.specs.Members.{Alike}
use Rattle.patterns.specs.Binding.{Cell, free, is, clash, Binding, names, nothing, only, cell_of, agree, merge, consistent, with_each, order_cells}
use Rattle.patterns.specs.Pattern.{Pattern, name, any, literal, matches}
use Rattle.patterns.proofs.Laws.Matched.{merge_sized, only_sized}
use Rattle.patterns.proofs.Laws.Merging.{agree_free}
use Rattle.prelude.proofs.Absurd.{true_false}
use Rattle.patterns.proofs.Laws.Together.{Fine, with_only}
use Rattle.patterns.proofs.Laws.Nodes.{is_name, is_any}
use Rattle.patterns.specs.Read.{Readable, pattern_at}
use Rattle.matching.specs.Leaf.{Stands, Standing, Went, Grown, Named, LeafTold}
use Rattle.matching.specs.Node.{LiteralHeld, LiteralIs, inner_of}
use Rattle.matching.proofs.Records.{by_record, is_literal}

-- ---- cells

abbrev is_fine : Cell → Bool
is_fine free = true
is_fine (is v) = true
is_fine clash = false

pub merge_cell : (a b : Binding) (x : ℕ) → length a ≡ length b → cell_of (merge a b) x ≡ agree (cell_of a x) (cell_of b x)
unfolding merge
merge_cell [] [] x e = refl
merge_cell [] (y ∷ b) x e = absurd (omega arith)
merge_cell (c ∷ a) [] x e = absurd (omega arith)
merge_cell (c ∷ a) (y ∷ b) zero e = refl
merge_cell (c ∷ a) (y ∷ b) (suc x) e = merge_cell a b x (omega arith)

consistent_from : (a : Binding) → ((x : ℕ) → x < length a → is_fine (cell_of a x) ≡ true) → consistent a ≡ true
unfolding consistent
consistent_from [] h = refl
consistent_from (free ∷ a) h = consistent_from a (λ x l. h (suc x) (omega arith))
consistent_from (is v ∷ a) h = consistent_from a (λ x l. h (suc x) (omega arith))
consistent_from (clash ∷ a) h = h 0 (omega arith)

pub consistent_at : (a : Binding) → consistent a ≡ true → (x : ℕ) → x < length a → is_fine (cell_of a x) ≡ true
unfolding consistent
consistent_at [] e x l = absurd (omega arith)
consistent_at (free ∷ a) e zero l = refl
consistent_at (is v ∷ a) e zero l = refl
consistent_at (clash ∷ a) e zero l = e
consistent_at (free ∷ a) e (suc x) l = consistent_at a e x (omega arith)
consistent_at (is v ∷ a) e (suc x) l = consistent_at a e x (omega arith)
consistent_at (clash ∷ a) e (suc x) l = true_false (sym e)

clash_at : (a : Binding) (x : ℕ) → x < length a → is_fine (cell_of a x) ≡ false → consistent a ≡ false
clash_at a x l e = go (consistent a) refl
  where
    go : (t : Bool) → consistent a ≡ t → t ≡ false
    go true q = sym (consistent_at a q x l) ∙ e
    go false q = refl

cell_fine : (s : List ℕ) (p : Part) (c : Cell) → CellIs s p c → is_fine c ≡ true
cell_fine s p c h = ⊎_elim (λ w. ap is_fine w.1) (λ w. ap is_fine w.1) h

unlike : (o : Ordering) → (o ≡ Equal → ⊥) → (w : Value) → is_fine (cond (is_eq o) (is w) clash) ≡ false
unlike Less f w = refl
unlike Equal f w = absurd (f refl)
unlike Greater f w = refl

-- what a match stands for has no clash
pub stands_fine : (s : List ℕ) (m : List ℕ) (b : Binding) → Stands s m b → Fine b
stands_fine s m b h = record { sized = h.binding_sized; agrees = consistent_from b (λ x l. cell_fine s (unpacked (get_or m x 0)) (cell_of b x) (h.cells x (omega (arith, h.binding_sized)))) }

same_alike : (xs ys : List Binding) → xs ≡ ys → Alike xs ys
same_alike xs ys e c = (λ i. subst (In c) e i, λ i. subst (In c) (sym e) i)

-- ---- a name

with_name : (x : ℕ) (v : Value) (b : Binding) → with_each b (matches (name x) v) ≡ cond (consistent (merge b (only x v))) (merge b (only x v) ∷ []) []
unfolding with_each matches
with_name x v b = refl

module _ (s : List ℕ) (x : ℕ) (lt : x < names) (v : Value) (b : Binding) (sized : length b ≡ names) where
  only_here : cell_of (only x v) x ≡ is v
  only_here = get_or-set_same nothing x (is v) free lt

  only_there : (n : ℕ) → n < names → (n ≡ x → ⊥) → cell_of (only x v) n ≡ free
  only_there n l f = get_or-set_other nothing x n (is v) free f ∙ get_or-replicate names n free free l

  both_sized : length (merge b (only x v)) ≡ names
  both_sized = merge_sized b (only x v) (sized ∙ sym (only_sized x v)) ∙ sized

  at : (n : ℕ) → cell_of (merge b (only x v)) n ≡ agree (cell_of b n) (cell_of (only x v) n)
  at n = merge_cell b (only x v) n (sized ∙ sym (only_sized x v))

  -- elsewhere nothing changes
  there : (n : ℕ) → n < names → (n ≡ x → ⊥) → cell_of b n ≡ cell_of (merge b (only x v)) n
  there n l f = sym (at n ∙ ap (agree (cell_of b n)) (only_there n l f) ∙ agree_free (cell_of b n))

  -- where both stand, they agree
  went : (r : List ℕ) → Stands s r (merge b (only x v)) → Went s b (name x) v r true
  went r h = record {
    good = λ e. (
      merge b (only x v),
      same_alike (with_each b (matches (name x) v)) (merge b (only x v) ∷ []) (with_name x v b ∙ ap (λ (t : Bool). cond t (merge b (only x v) ∷ []) []) (stands_fine s r (merge b (only x v)) h).agrees),
      h,
    );
    bad = λ e. true_false e;
  }

-- ---- words that are there stay

pub grown_same : (m : List ℕ) → Grown m m
grown_same m = record { sized = refl; stays = λ x f. refl }

pub grown_then : {a b c : List ℕ} → Grown a b → Grown b c → Grown a c
grown_then h g = record { sized = g.sized ∙ h.sized; stays = λ x f. g.stays x (λ z. f (sym (h.stays x f) ∙ z)) ∙ h.stays x f }

pub grown_set : (m : List ℕ) (x word : ℕ) → get_or m x 0 ≡ 0 → Grown m (set m x word)
grown_set m x word e = record { sized = length-set m x word; stays = λ n f. get_or-set_other m x n word 0 (λ q. f (ap (λ (k : ℕ). get_or m k 0) q ∙ e)) }

pub part_word : (s : List ℕ) (word : ℕ) → PartHeld s (unpacked word) → WordHeld s word
part_word s word h = record {
  cell = is h.value;
  is = inr (h.value, refl, h.here);
  blank = λ z. absurd (some_how h.here (ap how_of z));
}

module _ (s : List ℕ) (x : ℕ) (lt : x < names) (word : ℕ) (m : List ℕ) where
  -- a name that has no value is bound
  pub binds : get_or m x 0 ≡ 0 → (r : List ℕ) → r ≡ set m x word → Named s x word m r true
  binds e r re v b hp h = went s x lt v b h.binding_sized r (record {
    sized = ap length re ∙ length-set m x word ∙ h.sized;
    binding_sized = both_sized s x lt v b h.binding_sized;
    cells = λ n l. subst (λ (q : List ℕ). CellIs s (unpacked (get_or q n 0)) (cell_of (merge b (only x v)) n)) (sym re) (cell n l (ℕ_discrete n x));
    blank = λ n l. subst (λ (q : List ℕ). get_or q n 0 % 4 ≡ 0 → get_or q n 0 ≡ 0) (sym re) (blank n l (ℕ_discrete n x));
  })
    where
      inside : x < length m
      inside = omega (arith, h.sized)

      was_free : cell_of b x ≡ free
      was_free = ⊎_elim (λ w. w.1) (λ w. absurd (some_how w.2 (ap (λ (k : ℕ). how_of (k % 4)) e))) (h.cells x lt)

      cell : (n : ℕ) → n < names → Dec (n ≡ x) → CellIs s (unpacked (get_or (set m x word) n 0)) (cell_of (merge b (only x v)) n)
      cell n l (yes q) =
          let d : get_or (set m x word) n 0 ≡ word = ap (λ (k : ℕ). get_or (set m x word) k 0) q ∙ get_or-set_same m x word 0 inside in
          let c : cell_of (merge b (only x v)) n ≡ is v = ap (cell_of (merge b (only x v))) q ∙ at s x lt v b h.binding_sized x ∙ ap₂ agree was_free (only_here s x lt v b h.binding_sized) in
          inr (v, c, subst (λ (k : ℕ). PartIs s (unpacked k) v) (sym d) hp)
      cell n l (no q) =
          let d : get_or (set m x word) n 0 ≡ get_or m n 0 = get_or-set_other m x n word 0 q in
          subst (λ (k : ℕ). CellIs s (unpacked k) (cell_of (merge b (only x v)) n)) (sym d)
          (subst (CellIs s (unpacked (get_or m n 0))) (there s x lt v b h.binding_sized n l q) (h.cells n l))

      how_some : word % 4 ≡ 0 → ⊥
      how_some z = some_how hp (ap how_of z)

      blank : (n : ℕ) → n < names → Dec (n ≡ x) → get_or (set m x word) n 0 % 4 ≡ 0 → get_or (set m x word) n 0 ≡ 0
      blank n l (yes q) z =
          let d : get_or (set m x word) n 0 ≡ word = ap (λ (k : ℕ). get_or (set m x word) k 0) q ∙ get_or-set_same m x word 0 inside in
          absurd (how_some (ap (λ (k : ℕ). k % 4) (sym d) ∙ z))
      blank n l (no q) z =
          let d : get_or (set m x word) n 0 ≡ get_or m n 0 = get_or-set_other m x n word 0 q in
          d ∙ h.blank n l (ap (λ (k : ℕ). k % 4) (sym d) ∙ z)

  -- a name that has one
  pub word_held : Standing s m → WordHeld s (get_or m x 0)
  word_held (b, h) = record { cell = cell_of b x; is = h.cells x lt; blank = h.blank x lt }

  module _ (f : get_or m x 0 ≡ 0 → ⊥) (o : Ordering) (c : OrderedWords s (get_or m x 0) word o) where
    has : (b : Binding) → Stands s m b → (w : Value) × (cell_of b x ≡ is w)
    has b h = ⊎_elim (λ z. absurd (f (h.blank x lt (how_none (get_or m x 0 % 4) z.0)))) (λ z. (z.0, z.1)) (h.cells x lt)

    met : (v : Value) (b : Binding) (hp : PartIs s (unpacked word) v) (h : Stands s m b) → cell_of (merge b (only x v)) x ≡ cond (is_eq o) (is (has b h).0) clash
    met v b hp h =
        let w = has b h in
        let d : o ≡ order_cells (is w.0) (is v) = c (is w.0) (is v) (subst (CellIs s (unpacked (get_or m x 0))) w.1 (h.cells x lt)) (inr (v, refl, hp)) in
        at s x lt v b h.binding_sized x ∙ ap₂ agree w.1 (only_here s x lt v b h.binding_sized) ∙ ap (λ (k : Ordering). cond (is_eq k) (is w.0) clash) (sym d)

    pub agrees : o ≡ Equal → Named s x word m m true
    agrees q v b hp h = went s x lt v b h.binding_sized m (record {
      sized = h.sized;
      binding_sized = both_sized s x lt v b h.binding_sized;
      cells = λ n l. cell n l (ℕ_discrete n x);
      blank = h.blank;
    })
      where
        cell : (n : ℕ) → n < names → Dec (n ≡ x) → CellIs s (unpacked (get_or m n 0)) (cell_of (merge b (only x v)) n)
        cell n l (yes d) =
            let w = has b h in
            let e : cell_of (merge b (only x v)) n ≡ cell_of b n = ap (cell_of (merge b (only x v))) d ∙ met v b hp h ∙ ap (λ (k : Ordering). cond (is_eq k) (is w.0) clash) q ∙ sym w.1 ∙ ap (cell_of b) (sym d) in
            subst (CellIs s (unpacked (get_or m n 0))) (sym e) (h.cells n l)
        cell n l (no d) = subst (CellIs s (unpacked (get_or m n 0))) (there s x lt v b h.binding_sized n l d) (h.cells n l)

    pub clashes : (o ≡ Equal → ⊥) → Named s x word m m false
    clashes q v b hp h = record {
      good = λ e. true_false (sym e);
      bad = λ e.
          with_name x v b ∙ ap (λ (t : Bool). cond t (merge b (only x v) ∷ []) [])
          (clash_at (merge b (only x v)) x (omega (arith, both_sized s x lt v b h.binding_sized)) (ap is_fine (met v b hp h) ∙ unlike o q (has b h).0));
    }

-- ---- nothing found

pub nothing_stands : (s : List ℕ) → Stands s (replicate names 0) nothing
nothing_stands s = record {
  sized = refl;
  binding_sized = refl;
  cells = λ n l. inl (ap (λ (k : ℕ). how_of (k % 4)) (get_or-replicate names n 0 0 l), get_or-replicate names n free free l);
  blank = λ n l e. get_or-replicate names n 0 0 l;
}

-- ---- any, and literals

with_any : (v : Value) (b : Binding) → Fine b → with_each b (matches any v) ≡ b ∷ []
unfolding matches
with_any v b h = with_only b h

with_literal : (w v : Value) (b : Binding) → Fine b → with_each b (matches (literal w) v) ≡ cond (same w v) (b ∷ []) []
unfolding matches with_each
with_literal w v b h = go (same w v)
  where
    go : (t : Bool) → with_each b (cond t (nothing ∷ []) []) ≡ cond t (b ∷ []) []
    go true = with_only b h
    go false = refl

module _ (table : List ℕ) (p : ℕ) (r : Readable table p) (s : List ℕ) (word : ℕ) (m : List ℕ) where
  pub leaf_name : (x : ℕ) (g : List ℕ) (t : Bool) → kind_at (records table) p ≡ 32 → x ≡ name_of (record_at (records table) p) → Named s x word m g t → LeafTold table p s word m g t
  leaf_name x g t e n h v b q z = subst (λ (k : Pattern). Went s b k v g t) (ap name n ∙ sym (by_record table p r ∙ is_name (record_at (records table) p) (inner_of table p) e)) (h v b q z)

  stays : (k : Pattern) (v : Value) (b : Binding) → with_each b (matches k v) ≡ b ∷ [] → Stands s m b → Went s b k v m true
  stays k v b e z = record { good = λ f. (b, same_alike (with_each b (matches k v)) (b ∷ []) e, z); bad = λ f. true_false f }

  pub leaf_any : kind_at (records table) p ≡ 33 → LeafTold table p s word m m true
  leaf_any e v b q z =
      subst (λ (k : Pattern). Went s b k v m true) (sym (by_record table p r ∙ is_any (record_at (records table) p) (inner_of table p) e))
      (stays any v b (with_any v b (stands_fine s m b z)) z)

  module _ (h : LiteralHeld table p) (part : Part) (pe : part ≡ unpacked word) (t : Bool) (l : LiteralIs table p s part t) where
    tells : (v : Value) (b : Binding) → PartIs s (unpacked word) v → Stands s m b → with_each b (matches (pattern_at (records table) p) v) ≡ cond t (b ∷ []) []
    tells v b q z =
        let (w, e) = is_literal table p r h in
        let y : t ≡ same w v = l v w (subst (λ (k : Part). PartIs s k v) (sym pe) q) e in
        ap (λ (k : Pattern). with_each b (matches k v)) e ∙ with_literal w v b (stands_fine s m b z) ∙ ap (λ (u : Bool). cond u (b ∷ []) []) (sym y)

    pub leaf_literal : LeafTold table p s word m m t
    leaf_literal v b q z = record {
      good = λ e. (stays (pattern_at (records table) p) v b (tells v b q z ∙ ap (λ (u : Bool). cond u (b ∷ []) []) e) z).good refl;
      bad = λ e. tells v b q z ∙ ap (λ (u : Bool). cond u (b ∷ []) []) e;
    }
