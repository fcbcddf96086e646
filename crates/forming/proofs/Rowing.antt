-- Rows of bindings: ordered, written, and entered in order.
use mathlib.Core.Path.{◌≡◌, refl, sym, ap, ap₂, subst, ◌∙◌}
use mathlib.Core.Logic.{◌⊎◌, inl, inr}
use mathlib.Core.List.{List, [], ◌∷◌, ◌++◌}
use Prim.Native.Nat.{ℕ, zero, suc, ◌+◌, ◌*◌, ◌%◌, ◌≤◌, ◌<◌}
use native.Mathlib.Numerals.{add-one}
use native.Mathlib.Decide.{ℕ_discrete}
use native.Mathlib.Omega.{arith}
use lib.ListN.{length, get_or, set, take, drop, drop_of_length-le}
use lib.Seq.{drop-cons, get_or-set_same, get_or-set_other}
use Rattle.prelude.proofs.Absurd.{impossible}
use Rattle.prelude.specs.Membership.{In}
use Rattle.std.specs.declared.cmp.Ordering.{Ordering}
use Rattle.std.specs.declared.cmp.Ordering.TheVariants.{Less, Equal, Greater}
use Rattle.values.specs.Value.{after}
use Rattle.parts.specs.Part.{CellIs}
use Rattle.prelude.proofs.Membership.{at_in}
use Rattle.patterns.specs.Binding.{free, Binding, names, nothing, cell_of, order_cells, order_bindings, place}
use Rattle.patterns.proofs.Laws.Ordered.{Rising, before_in, bindings_same, bindings_lower, higher_lower, sorted_rising}
use Rattle.matching.specs.Leaf.{Stands, Standing}
use Rattle.parts.specs.Word.{unpacked, WordHeld, OrderedWords}
use Rattle.parts.proofs.Comparing.{after_own}
use Rattle.std.specs.Prelude.{Result, Ok, Err}
use Rattle.prelude.specs.declared.Refusal.{Refusal}
use Rattle.forming.specs.Rows.{RowIs, RowHeld, RowsAre, RowsHeld, SoughtIn, Sought, RowPut, Shifted, Appended, EntryHeld, Entry, rows_words}
use Rattle.forming.specs.Stack.{MatchEntered}
use Rattle.forming.specs.declared.Step.{Step}
use Rattle.forming.proofs.Told.{for_ok}
use Rattle.forming.proofs.Framing.{put_below, put_within, put_length}
use borrow.Rule.Slice.PartMut.{put_mid}
use Rattle.forming.specs.Laws.Adding.{flip_higher, place_there, place_parted, placed_sorted}

-- ---- a stored cell

pub cell : {A : Type 0} (l : List A) (i j : ℕ) (a z r : A) → i < length l → (j ≡ i → a ≡ r) → ((j ≡ i → ⊥) → get_or l j z ≡ r) → get_or (set l i a) j z ≡ r
cell l i j a z r h f g = go (ℕ_discrete j i)
  where
    go : Dec (j ≡ i) → get_or (set l i a) j z ≡ r
    go (yes e) = ap (λ (n : ℕ). get_or (set l i a) n z) e ∙ get_or-set_same l i a z h ∙ f e
    go (no e) = get_or-set_other l i j a z e ∙ g e

-- ---- the order of a binding and a row

-- The names below x are equal.
pub record EvenRow (s : List ℕ) (f : List ℕ) (rows : List ℕ) (r x : ℕ) : Type 0 where
  pub within : x ≤ names
  pub rest : (b c : Binding) → Stands s f b → RowIs s rows r c → order_bindings (drop x b) (drop x c) ≡ order_bindings b c

abbrev RowOrdered : List ℕ → List ℕ → List ℕ → ℕ → Ordering → Type 0
RowOrdered s f rows r o = (b c : Binding) → Stands s f b → RowIs s rows r c → o ≡ order_bindings b c

pub row_start : (s : List ℕ) (f : List ℕ) (rows : List ℕ) (r : ℕ) → EvenRow s f rows r 0
row_start s f rows r = record { within = omega arith; rest = λ b c h g. refl }

module _ (s : List ℕ) (f : List ℕ) (rows : List ℕ) (r x : ℕ) (e : EvenRow s f rows r x) where
  pub row_words : Standing s f → RowHeld s rows r → x < names → WordHeld s (get_or f x 0) × WordHeld s (get_or rows (16 * r + x) 0)
  row_words h k l = (record { cell = cell_of h.0 x; is = h.1.cells x l; blank = h.1.blank x l }, record { cell = cell_of k.binding x; is = k.is.cells x l; blank = k.is.blank x l })

  pub row_end : names ≤ x → RowOrdered s f rows r Equal
  unfolding order_bindings
  row_end l b c h k =
      let p : drop x b ≡ [] = drop_of_length-le b {i = x} (omega (arith, h.binding_sized)) in
      let q : drop x c ≡ [] = drop_of_length-le c {i = x} (omega (arith, k.sized)) in
      sym (ap₂ order_bindings p q) ∙ e.rest b c h k

  module _ (l : x < names) (o : Ordering) (g : OrderedWords s (get_or f x 0) (get_or rows (16 * r + x) 0) o) where
    at : (b c : Binding) → Stands s f b → RowIs s rows r c → order_bindings b c ≡ after o (order_bindings (drop (x + 1) b) (drop (x + 1) c))
    unfolding order_bindings
    at b c h k =
        let p : drop x b ≡ cell_of b x ∷ drop (x + 1) b = drop-cons b x free (omega (arith, h.binding_sized)) ∙ ap (λ (j : ℕ). cell_of b x ∷ drop j b) (sym (add-one x)) in
        let i : drop x c ≡ cell_of c x ∷ drop (x + 1) c = drop-cons c x free (omega (arith, k.sized)) ∙ ap (λ (j : ℕ). cell_of c x ∷ drop j c) (sym (add-one x)) in
        let m : o ≡ order_cells (cell_of b x) (cell_of c x) = g (cell_of b x) (cell_of c x) (h.cells x l) (k.cells x l) in
        sym (e.rest b c h k) ∙ ap₂ order_bindings p i ∙ ap (λ (t : Ordering). after t (order_bindings (drop (x + 1) b) (drop (x + 1) c))) (sym m)

    pub row_apart : (o ≡ Equal → ⊥) → RowOrdered s f rows r o
    row_apart t b c h k = sym (at b c h k ∙ after_own o (order_bindings (drop (x + 1) b) (drop (x + 1) c)) t)

    pub row_more : o ≡ Equal → EvenRow s f rows r (x + 1)
    row_more t = record { within = omega arith; rest = λ b c h k. sym (at b c h k ∙ ap (λ (u : Ordering). after u (order_bindings (drop (x + 1) b) (drop (x + 1) c))) t) }

-- ---- where a binding has its place

rising_at : (bs : List Binding) (i j : ℕ) → Rising bs → i < j → j < length bs → order_bindings (get_or bs i nothing) (get_or bs j nothing) ≡ Less
rising_at [] i j h l m = absurd (omega arith)
rising_at (b ∷ bs) i zero h l m = absurd (omega arith)
rising_at (b ∷ bs) zero (suc j) h l m = before_in b bs (get_or bs j nothing) h.0 (at_in bs j nothing (omega arith))
rising_at (b ∷ bs) (suc i) (suc j) h l m = rising_at bs i j h.1 (omega arith) (omega arith)

-- The place is not below low and not above high.
pub record Between (s : List ℕ) (f : List ℕ) (rows order : List ℕ) (n low high : ℕ) : Type 0 where
  pub ordered : low ≤ high
  pub within : high ≤ n
  pub below : (b : Binding) (bs : List Binding) → Stands s f b → RowsAre s rows order n bs → (j : ℕ) → j < low → order_bindings b (get_or bs j nothing) ≡ Greater
  pub above : (b : Binding) (bs : List Binding) → Stands s f b → RowsAre s rows order n bs → (j : ℕ) → high ≤ j → j < n → order_bindings b (get_or bs j nothing) ≡ Less

pub rows_rising : {s rows order : List ℕ} {n : ℕ} {bs : List Binding} → RowsAre s rows order n bs → Rising bs
rows_rising h = subst Rising (sym h.ordered) (sorted_rising h.given)

pub row_held : (s rows order : List ℕ) (n : ℕ) → RowsHeld s rows order n → (m r : ℕ) → m < n → r ≡ get_or order m 0 → RowHeld s rows r
row_held s rows order n h m r l e = record {
  low = omega (arith, h.1.row m l, h.1.few);
  binding = get_or h.0 m nothing;
  is = subst (λ (i : ℕ). RowIs s rows i (get_or h.0 m nothing)) (sym e) (h.1.each m l);
}

module _ (s : List ℕ) (f : List ℕ) (rows order : List ℕ) (n : ℕ) where
  pub between_start : Between s f rows order n 0 n
  between_start = record { ordered = omega arith; within = omega arith; below = λ b bs h g j l. absurd (omega arith); above = λ b bs h g j l m. absurd (omega arith) }

  module _ (low high : ℕ) (w : Between s f rows order n low high) where
    pub between_end : high ≤ low → Sought s f rows order n (Err low)
    between_end l b bs h g = (
      omega (arith, w.within, w.ordered),
      place_parted b bs low (record {
        within = omega (arith, w.within, w.ordered, g.count);
        before = w.below b bs h g;
        from = λ j k m. w.above b bs h g j (omega (arith, w.ordered)) (omega (arith, g.count));
      }),
    )

    module _ (m r : ℕ) (i : low ≤ m) (k : m < high) (e : r ≡ get_or order m 0) (o : Ordering) (t : RowOrdered s f rows r o) where
      middle : (b : Binding) (bs : List Binding) → Stands s f b → RowsAre s rows order n bs → o ≡ order_bindings b (get_or bs m nothing)
      middle b bs h g = t b (get_or bs m nothing) h (subst (λ (j : ℕ). RowIs s rows j (get_or bs m nothing)) (sym e) (g.each m (omega (arith, w.within))))

      pub between_found : o ≡ Equal → Sought s f rows order n (Ok m)
      between_found q b bs h g =
          let d = bindings_same b (get_or bs m nothing) (sym (middle b bs h g) ∙ q) in
          (omega (arith, w.within), place_there b bs (rows_rising g) (subst (λ (c : Binding). In c bs) (sym d) (at_in bs m nothing (omega (arith, w.within, g.count)))))

      pub between_lower : o ≡ Less → Between s f rows order n low m
      between_lower q = record { ordered = i; within = omega (arith, w.within); below = w.below; above = go }
        where
          go : (b : Binding) (bs : List Binding) → Stands s f b → RowsAre s rows order n bs → (j : ℕ) → m ≤ j → j < n → order_bindings b (get_or bs j nothing) ≡ Less
          go b bs h g j l u = at_or (ℕ_discrete j m)
            where
              p : order_bindings b (get_or bs m nothing) ≡ Less
              p = sym (middle b bs h g) ∙ q

              at_or : Dec (j ≡ m) → order_bindings b (get_or bs j nothing) ≡ Less
              at_or (yes v) = ap (λ (x : ℕ). order_bindings b (get_or bs x nothing)) v ∙ p
              at_or (no v) = bindings_lower b (get_or bs m nothing) (get_or bs j nothing) p (rising_at bs m j (rows_rising g) (omega (arith, v)) (omega (arith, g.count)))

      pub between_higher : o ≡ Greater → Between s f rows order n (m + 1) high
      between_higher q = record { ordered = omega arith; within = w.within; below = go; above = w.above }
        where
          go : (b : Binding) (bs : List Binding) → Stands s f b → RowsAre s rows order n bs → (j : ℕ) → j < m + 1 → order_bindings b (get_or bs j nothing) ≡ Greater
          go b bs h g j l = at_or (ℕ_discrete j m)
            where
              p : order_bindings b (get_or bs m nothing) ≡ Greater
              p = sym (middle b bs h g) ∙ q

              at_or : Dec (j ≡ m) → order_bindings b (get_or bs j nothing) ≡ Greater
              at_or (yes v) = ap (λ (x : ℕ). order_bindings b (get_or bs x nothing)) v ∙ p
              at_or (no v) =
                  flip_higher (get_or bs j nothing) b
                  (bindings_lower (get_or bs j nothing) (get_or bs m nothing) b (rising_at bs j m (rows_rising g) (omega (arith, v)) (omega (arith, g.count, w.within))) (higher_lower b (get_or bs m nothing) p))

-- ---- a row written

pub row_written : (s f rows : List ℕ) (r k : ℕ) (ys : List ℕ) → r < 255 → length rows ≡ rows_words → k ≡ 16 → length f ≡ 16 → ys ≡ f → RowPut s f rows (put_mid (16 * r) k rows ys) r
row_written s f rows r k ys l wide kn fn e = record {
  right = λ b h. record {
    sized = h.binding_sized;
    cells = λ x m. subst (λ (n : ℕ). CellIs s (unpacked n) (cell_of b x)) (sym (there x m)) (h.cells x m);
    blank = λ x m z. there x m ∙ h.blank x m (ap (λ (n : ℕ). n % 4) (sym (there x m)) ∙ z);
  };
  before = λ j m. put_below (16 * r) k rows ys (omega (arith, wide)) j m;
  long = put_length (16 * r) k rows ys (omega (arith, wide, kn)) sized;
}
  where
    sized : length ys ≡ k
    sized = ap length e ∙ fn ∙ sym kn

    there : (x : ℕ) → x < names → get_or (put_mid (16 * r) k rows ys) (16 * r + x) 0 ≡ get_or f x 0
    there x m = put_within (16 * r) k rows ys (omega (arith, wide)) sized x (omega (arith, kn)) ∙ ap (λ (l : List ℕ). get_or l x 0) e

-- ---- a binding entered

inserted_length : (b : Binding) (bs : List Binding) (k : ℕ) → k ≤ length bs → length (take k bs ++ (b ∷ drop k bs)) ≡ suc (length bs)
inserted_length b bs zero h = refl
inserted_length b [] (suc k) h = absurd (omega arith)
inserted_length b (c ∷ bs) (suc k) h = ap suc (inserted_length b bs k (omega arith))

inserted_before : (b : Binding) (bs : List Binding) (k j : ℕ) → k ≤ length bs → j < k → get_or (take k bs ++ (b ∷ drop k bs)) j nothing ≡ get_or bs j nothing
inserted_before b bs zero j h l = absurd (omega arith)
inserted_before b [] (suc k) j h l = absurd (omega arith)
inserted_before b (c ∷ bs) (suc k) zero h l = refl
inserted_before b (c ∷ bs) (suc k) (suc j) h l = inserted_before b bs k j (omega arith) (omega arith)

inserted_here : (b : Binding) (bs : List Binding) (k : ℕ) → k ≤ length bs → get_or (take k bs ++ (b ∷ drop k bs)) k nothing ≡ b
inserted_here b bs zero h = refl
inserted_here b [] (suc k) h = absurd (omega arith)
inserted_here b (c ∷ bs) (suc k) h = inserted_here b bs k (omega arith)

inserted_after : (b : Binding) (bs : List Binding) (k j : ℕ) → k ≤ length bs → k ≤ j → get_or (take k bs ++ (b ∷ drop k bs)) (suc j) nothing ≡ get_or bs j nothing
inserted_after b bs zero j h l = refl
inserted_after b [] (suc k) j h l = absurd (omega arith)
inserted_after b (c ∷ bs) (suc k) zero h l = absurd (omega arith)
inserted_after b (c ∷ bs) (suc k) (suc j) h l = inserted_after b bs k j (omega arith) (omega arith)

sides : (j k : ℕ) → (j < k) ⊎ ((j ≡ k) ⊎ ((i : ℕ) × (j ≡ suc i) × (k ≤ i)))
sides zero zero = inr (inl refl)
sides zero (suc k) = inl (omega arith)
sides (suc j) zero = inr (inr (j, refl, omega arith))
sides (suc j) (suc k) = go (sides j k)
  where
    go : (j < k) ⊎ ((j ≡ k) ⊎ ((i : ℕ) × (j ≡ suc i) × (k ≤ i))) → (suc j < suc k) ⊎ ((suc j ≡ suc k) ⊎ ((i : ℕ) × (suc j ≡ suc i) × (suc k ≤ i)))
    go (inl h) = inl (omega arith)
    go (inr (inl e)) = inr (inl (ap suc e))
    go (inr (inr (i, e, h))) = inr (inr (suc i, ap suc e, omega arith))

pub row_kept : {s rows after : List ℕ} {r : ℕ} {b : Binding} (n : ℕ) → r < n → ((j : ℕ) → j < 16 * n → get_or after j 0 ≡ get_or rows j 0) → RowIs s rows r b → RowIs s after r b
row_kept {s} {rows} {after} {r} {b} n l k h = record { sized = h.sized; cells = λ x m. subst (λ (z : ℕ). CellIs s (unpacked z) (cell_of b x)) (sym (k (16 * r + x) (omega arith))) (h.cells x m); blank = λ x m z. k (16 * r + x) (omega arith) ∙ h.blank x m (ap (λ (n : ℕ). n % 4) (sym (k (16 * r + x) (omega arith))) ∙ z) }

pub enter_there : (s f rows order : List ℕ) (n m : ℕ) → Sought s f rows order n (Ok m) → (b : Binding) (bs : List Binding) → Stands s f b → RowsAre s rows order n bs → RowsAre s rows order n (place b bs)
enter_there s f rows order n m sought b bs h g = subst (RowsAre s rows order n) (sym (sought b bs h g).1) g

module _ (s : List ℕ) (f : List ℕ) (rows order : List ℕ) (n at : ℕ) (sought : Sought s f rows order n (Err at)) where
  pub enter_full : 255 ≤ n → (b : Binding) (bs : List Binding) → Stands s f b → RowsAre s rows order n bs → 255 < length (place b bs)
  enter_full l b bs h g =
      let k = sought b bs h g in
      let m : length (place b bs) ≡ suc (length bs) = ap length k.1 ∙ inserted_length b bs at (omega (arith, k.0, g.count)) in
      omega (arith, m, g.count)

  pub enter_new : n < 255 → (rows' order' : List ℕ) → RowPut s f rows rows' n → Shifted order order' at n → (b : Binding) (bs : List Binding) → Stands s f b → RowsAre s rows order n bs
      → RowsAre s rows' order' (n + 1) (place b bs)
  enter_new l rows' order' put shift b bs h g = record {
    wide = put.long ∙ g.wide;
    long = shift.long ∙ g.long;
    count = omega (arith, m, g.count);
    few = omega arith;
    given = b ∷ g.given;
    ordered = placed_sorted b bs g.given g.ordered;
    row = λ j i. row_of j i (sides j at);
    each = λ j i. subst (λ (c : List Binding). RowIs s rows' (get_or order' j 0) (get_or c j nothing)) (sym k.1) (each_of j i (sides j at));
  }
    where
      k : SoughtIn b bs n (Err at)
      k = sought b bs h g

      w : at ≤ length bs
      w = omega (arith, k.0, g.count)

      m : length (place b bs) ≡ suc (length bs)
      m = ap length k.1 ∙ inserted_length b bs at w

      row_of : (j : ℕ) → j < n + 1 → (j < at) ⊎ ((j ≡ at) ⊎ ((i : ℕ) × (j ≡ suc i) × (at ≤ i))) → get_or order' j 0 < n + 1
      row_of j i (inl d) = omega (arith, shift.before j d, g.row j (omega (arith, k.0)))
      row_of j i (inr (inl d)) = let z : get_or order' j 0 ≡ n = ap (λ (x : ℕ). get_or order' x 0) d ∙ shift.here in omega arith
      row_of j i (inr (inr (y, d, u))) =
          let z : get_or order' j 0 ≡ get_or order y 0 = ap (λ (x : ℕ). get_or order' x 0) d ∙ shift.from y u (omega arith) in
          omega (arith, g.row y (omega arith))

      each_of : (j : ℕ) → j < n + 1 → (j < at) ⊎ ((j ≡ at) ⊎ ((i : ℕ) × (j ≡ suc i) × (at ≤ i))) → RowIs s rows' (get_or order' j 0) (get_or (take at bs ++ (b ∷ drop at bs)) j nothing)
      each_of j i (inl d) =
          let v : j < n = omega (arith, k.0) in
          rw (shift.before j d, inserted_before b bs at j w d) (row_kept n (g.row j v) put.before (g.each j v))
      each_of j i (inr (inl d)) =
          rw d (rw (shift.here, inserted_here b bs at w) (put.right b h))
      each_of j i (inr (inr (y, d, u))) =
          let v : y < n = omega arith in
          rw d (rw (shift.from y u v, inserted_after b bs at y w u) (row_kept n (g.row y v) put.before (g.each y v)))

-- ---- rows are only appended

pub none_appended : (s f rows : List ℕ) (n k : ℕ) → ◌≡◌ {A = Result ℕ Refusal} (Ok n) (Ok k) → Appended s f rows n rows k
none_appended s f rows n k e =
    let d : n ≡ k = cc in
    record { low = omega arith; kept = λ j l. refl; new = λ r l m. absurd (omega arith) }

pub one_appended : (s f rows rows' : List ℕ) (n k : ℕ) → RowPut s f rows rows' n → ◌≡◌ {A = Result ℕ Refusal} (Ok (n + 1)) (Ok k) → Appended s f rows n rows' k
one_appended s f rows rows' n k put e =
    let d : n + 1 ≡ k = cc in
    record { low = omega arith; kept = put.before; new = λ r l m b h. let q : n ≡ r = omega arith in subst (λ (i : ℕ). RowIs s rows' i b) q (put.right b h) }

-- ---- a match entered

module _ (s f : List ℕ) (depth : ℕ) (rows order : List ℕ) (n : ℕ) (rows' order' : List ℕ) where
  pub match_made : (k : ℕ) → Entry s f rows order n rows' order' (Ok k) → MatchEntered s f depth rows order n rows' order' (Ok (record { n = k; depth = depth; hit = depth }))
  match_made k e = record {
    full = λ x q. impossible cc;
    going = for_ok (λ (t : Step). (t.depth ≡ depth) × (t.hit ≡ depth) × ((b : Binding) (bs : List Binding) → Stands s f b → RowsAre s rows order n bs → RowsAre s rows' order' t.n (place b bs)) × Appended s f rows n rows' t.n) (refl, refl, e.right, e.appended k refl);
  }

  pub match_refused : EntryHeld s f rows order n → (k : Refusal) → Entry s f rows order n rows' order' (Err k) → MatchEntered s f depth rows order n rows' order' (Err k)
  match_refused h k e = record {
    full = λ x q.
        let d : k ≡ x = cc in
        (sym d ∙ (e.right h.binding h.bindings h.stands h.are).0, λ b bs g i. (e.right b bs g i).1);
    going = λ x q. impossible cc;
  }
