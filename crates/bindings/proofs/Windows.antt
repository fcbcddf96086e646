-- From rows in a window to bindings, and from there to an environment.
use mathlib.Core.Path.{◌≡◌, refl, sym, ap, subst, ◌∙◌}
use mathlib.Core.Bool.{Bool, true, false, not, cond}
use mathlib.Core.Logic.{inl, inr}
use mathlib.Core.List.{List, [], ◌∷◌, map}
use Prim.Native.Nat.{ℕ, zero, suc, ◌+◌, ◌-◌, ◌*◌, ◌/◌, ◌%◌, ◌^◌, ◌≤◌, ◌<◌}
use native.Mathlib.Nat.{pow-suc, mul-zero, mul-le-mul}
use native.Mathlib.Numerals.{add-one}
use native.Mathlib.Decide.{ℕ_discrete}
use native.Mathlib.Omega.{arith}
use lib.Dec.{eqb, leb}
use lib.ListN.{length, get_or, take, drop, set as put, replicate, length-map, length-set, drop_of_length-le}
use lib.Seq.{drop-cons, take-take, get_or-drop, get_or-set_same, get_or-set_other, length-take-le}
use borrow.Author.Tests.{eq-eqb, ne_eqb, leb-true}
use Rattle.prelude.proofs.Absurd.{impossible}
use Rattle.integers.specs.Bytes.{bits32, word}
use Rattle.values.specs.Value.{Value, boolean, collection, set}
use Rattle.values.specs.Place.{At, ItemsAt, Holds}
use Rattle.values.proofs.Records.{holds, word_size}
use Rattle.values.proofs.Frame.{kept}
use Rattle.tables.specs.Record.{Record, named as operands_of, name_of, shape, is_known, size as size_of}
use Rattle.tables.specs.Table.{record_at, kind_at}
use Rattle.tables.specs.Accepted.{records}
use Rattle.tables.proofs.Laws.Accepted.{lower, fit_known, fit_least}
use Rattle.tables.specs.Reading.{HasField}
use Rattle.parts.specs.Part.{PartIs, CellIs}
use Rattle.parts.specs.Chosen.{odd}
use Rattle.parts.specs.Word.{how_of, unpacked}
use Rattle.parts.specs.declared.words.Env.{Env}
use Rattle.parts.proofs.Packing.{how_none, some_how, whole_how, cell_free, cell_value}
use Rattle.patterns.specs.Ways.{gather, exists}
use Rattle.prelude.proofs.Lists.{map_at}
use Rattle.prelude.proofs.Membership.{at_in}
use Rattle.patterns.proofs.Laws.Members.{in_gather}
use Rattle.patterns.specs.Binding.{Cell, free, is, Binding, names, nothing, only, cell_of, sorted, place}
use Rattle.patterns.specs.Pattern.{Pattern, name, items_of, matches, wide}
use Rattle.patterns.specs.Binder.{bindings, Formed as Outcome, bound, refused, formed}
use Rattle.patterns.proofs.Laws.Forming.{formed_bound}
use Rattle.patterns.proofs.Laws.Ordered.{in_sorted}
use Rattle.patterns.proofs.Laws.Named.{Told, told}
use Rattle.patterns.specs.Pattern.{holds_named as named}
use Rattle.patterns.proofs.Laws.Matched.{matched, only_sized, list_items}
use Rattle.patterns.proofs.Laws.Plain.{plain_formed}
use Rattle.patterns.specs.Read.{Readable, pattern_at}
use Rattle.patterns.proofs.Laws.Nodes.{is_name, pattern_at_lem}
use Rattle.std.specs.Prelude.{Result, Ok, Err}
use Rattle.std.specs.Result.{result_unwrap_or}
use Rattle.prelude.specs.declared.Refusal.{Refusal}
use Rattle.prelude.specs.Refusals.{number_of}
use Rattle.forming.specs.Rows.{RowsAre}
use Rattle.bindings.specs.declared.Cursor.{Cursor}
use Rattle.bindings.specs.Forming.{Values, Bindable, TellsRows, RowsFormed}
use Rattle.bindings.specs.Window.{window, CellAt, past, CellsAt, place_of, InWindow, Windowed, Lent, TellsFrom, OpenedAs, Reachable, Reached, Underneath, WordFor, UnderBinding}
use Rattle.bindings.specs.Laws.Window.{cells_end, all_free}
use Rattle.bindings.specs.Filling.{row_words, bit, mask_of, filled, WordAt, WordsAt, RowHeld, NamesAre, FillHeld, Filled, OneName, MembersHeld, MemberAt, MembersPut}
use Rattle.bindings.specs.Opening.{PlainHeld, PlainOpened, CursorHeld, CursorOver, LentFrom, FormedFrom}
use Rattle.bindings.proofs.Large.{values_at}
use Rattle.bindings.proofs.Writing.{mask_cons, filled_cons, mask_half, odd_some, odd_none, row_length, row_at}

-- ---- the words of a row stand for its cells

module _ (u t : List ℕ) where
  word_cell : (b : Bool) (at w : ℕ) (c : Cell) → b ≡ true → (w % 4 ≡ 0 → w ≡ 0) → (w ≡ 0 → ⊥) → WordAt u at b w → CellIs t (unpacked w) c → CellAt u t at b c
  word_cell true at w c e blank f h k =
      let (v, d, p) = cell_value {s = t} {p = unpacked w} {c = c} (λ z. f (blank (how_none (w % 4) z))) k in
      (v, d, subst (λ (n : ℕ). PartIs t (unpacked n) v) (sym h) p)
  word_cell false at w c e blank f h k = impossible cc

  no_cell : (b : Bool) (at w : ℕ) (c : Cell) → b ≡ false → w ≡ 0 → CellIs t (unpacked w) c → CellAt u t at b c
  no_cell true at w c e f k = impossible cc
  no_cell false at w c e f k = cell_free {s = t} {p = unpacked w} {c = c} (ap (λ (n : ℕ). how_of (n % 4)) f) k

  cell_of_lem : (m at w : ℕ) (ws : List ℕ) (c : Cell) → m ≡ mask_of (w ∷ ws) → (w % 4 ≡ 0 → w ≡ 0) → WordAt u at (odd m) w → CellIs t (unpacked w) c → CellAt u t at (odd m) c
  cell_of_lem m at w ws c e blank h k = go (ℕ_discrete w 0)
    where
      go : Dec (w ≡ 0) → CellAt u t at (odd m) c
      go (yes z) = no_cell (odd m) at w c (odd_none m w ws e z) z k
      go (no z) = word_cell (odd m) at w c (odd_some m w ws e z) blank z h k

  pub cells_of : (at e m : ℕ) (ws : List ℕ) (cs : List Cell) → length cs ≡ length ws → m ≡ mask_of ws
      → ((x : ℕ) → x < length ws → CellIs t (unpacked (get_or ws x 0)) (get_or cs x free)) → ((x : ℕ) → x < length ws → get_or ws x 0 % 4 ≡ 0 → get_or ws x 0 ≡ 0)
      → WordsAt u at e m ws → CellsAt u t at e m cs
  cells_of at e m [] [] l q c b h = h
  cells_of at e m [] (d ∷ cs) l q c b h = absurd (omega arith)
  cells_of at e m (w ∷ ws) [] l q c b h = absurd (omega arith)
  cells_of at e m (w ∷ ws) (d ∷ cs) l q c b h = (
    cell_of_lem m at w ws d q (b 0 (omega arith)) h.0 (c 0 (omega arith)),
    cells_of (past (odd m) at) e (m / 2) ws cs (omega arith) (ap (λ (n : ℕ). n / 2) q ∙ mask_half w ws) (λ x k. c (suc x) (omega arith)) (λ x k. b (suc x) (omega arith)) h.1,
  )

-- ---- rows of one pattern have words for the same names

mask_same : (ws us : List ℕ) → length ws ≡ length us → ((x : ℕ) → x < length ws → eqb (get_or ws x 0) 0 ≡ eqb (get_or us x 0) 0) → (mask_of ws ≡ mask_of us) × (filled ws ≡ filled us)
mask_same [] [] l h = (refl, refl)
mask_same [] (u ∷ us) l h = absurd (omega arith)
mask_same (w ∷ ws) [] l h = absurd (omega arith)
mask_same (w ∷ ws) (u ∷ us) l h =
    let (a, b) = mask_same ws us (omega arith) (λ x k. h (suc x) (omega arith)) in
    let c : bit w ≡ bit u = ap (λ (t : Bool). cond t 0 1) (h 0 (omega arith)) in
    (omega (arith, mask_cons w ws, mask_cons u us, a, c), omega (arith, filled_cons w ws, filled_cons u us, b, c))

told_at : (p : Pattern) (vs : List Value) (j x : ℕ) → j < length (bindings p vs) → x < names → Told (named p x) (cell_of (get_or (bindings p vs) j nothing) x)
told_at p vs j x l k =
    let (v, i, m) = in_gather (get_or (bindings p vs) j nothing) vs (matches p) (in_sorted (get_or (bindings p vs) j nothing) (gather vs (matches p)) (at_in (bindings p vs) j nothing l)) in
    told p v (get_or (bindings p vs) j nothing) (matched p v (get_or (bindings p vs) j nothing) m) x k

cell_zero : (s : List ℕ) (n : ℕ) (u : Bool) (c : Cell) → Told u c → CellIs s (unpacked n) c → (n % 4 ≡ 0 → n ≡ 0) → eqb n 0 ≡ not u
cell_zero s n true c (v, e) (inl h) b = let z : is v ≡ free = sym e ∙ h.1 in impossible (cc (z))
cell_zero s n true c (v, e) (inr (w, f, h)) b = ne_eqb n 0 (λ z. some_how h (ap (λ (k : ℕ). how_of (k % 4)) z))
cell_zero s n false c e (inl h) b = eq-eqb n 0 (b (how_none (n % 4) h.0))
cell_zero s n false c e (inr (w, f, h)) b = let z : free ≡ is w = sym e ∙ f in impossible (cc (z))

module _ (p : Pattern) (vs : List Value) (s rows order : List ℕ) (n : ℕ) (g : RowsAre s rows order n (bindings p vs)) where
  held : (j : ℕ) → j < n → RowHeld rows (get_or order j 0)
  held j l = record { low = omega (arith, g.row j l, g.few); wide = g.wide }

  row_zero : (j x : ℕ) → j < n → x < names → eqb (get_or (row_words rows (get_or order j 0)) x 0) 0 ≡ not (named p x)
  row_zero j x l k =
      let q : get_or (row_words rows (get_or order j 0)) x 0 ≡ get_or rows (16 * get_or order j 0 + x) 0 = row_at rows (get_or order j 0) (held j l) x k in
      let r = g.each j l in
      ap (λ (w : ℕ). eqb w 0) q ∙ cell_zero s (get_or rows (16 * get_or order j 0 + x) 0) (named p x) (cell_of (get_or (bindings p vs) j nothing) x) (told_at p vs j x (omega (arith, g.count)) k) (r.cells x k) (r.blank x k)

  alike : (i j : ℕ) → i < n → j < n → (mask_of (row_words rows (get_or order i 0)) ≡ mask_of (row_words rows (get_or order j 0))) × (filled (row_words rows (get_or order i 0)) ≡ filled (row_words rows (get_or order j 0)))
  alike i j a b =
      mask_same (row_words rows (get_or order i 0)) (row_words rows (get_or order j 0)) (row_length rows (get_or order i 0) (held i a) ∙ sym (row_length rows (get_or order j 0) (held j b)))
      (λ x k. let l : x < names = omega (arith, row_length rows (get_or order i 0) (held i a)) in row_zero i x a l ∙ sym (row_zero j x b l))

  module _ (k : ℕ) (low : k ≤ n) (c : Cursor) (o : CursorOver rows order n k c) where
    names_at : (j : ℕ) → j < n → NamesAre (row_words rows (get_or order 0 0)) (record { mask = c.names; width = c.width })
    names_at j l = (o.some (omega arith)).1

    fill_asked : (s₀ : List ℕ) (to : ℕ) → to + window ≤ length s₀ → length s₀ ≤ 65536 → FillHeld s₀ to rows order c
    fill_asked s₀ to room short = record {
      room = room;
      short = short;
      few = omega (arith, o.count, g.few);
      first = start (n - 0) refl;
      narrow = thin (n - 0) refl;
      wide = g.wide;
      long = g.long;
      row = λ j l. omega (arith, g.row j (omega (arith, o.count)), g.few);
      mask = λ j l. let i : j < n = omega (arith, o.count) in (names_at j i).mask ∙ (alike 0 j (omega arith) i).0;
      width = λ j l. let i : j < n = omega (arith, o.count) in (names_at j i).width ∙ (alike 0 j (omega arith) i).1;
    }
      where
        start : (d : ℕ) → n - 0 ≡ d → c.from ≤ c.count
        start zero e = omega (arith, (o.none (omega arith)).0)
        start (suc d) e = omega (arith, (o.some (omega arith)).0, o.count)

        thin : (d : ℕ) → n - 0 ≡ d → c.width ≤ 16
        thin zero e = omega (arith, (o.none (omega arith)).1)
        thin (suc d) e = omega (arith, (o.some (omega arith)).1.narrow)

    -- THEOREM: a window filled with the rows of the bindings holds them
    windowed_of : (s₀ t : List ℕ) (to : ℕ) → s ≡ take to s₀ → (f : FillHeld s₀ to rows order c) → Filled s₀ t to rows order c → Windowed t to c (bindings p vs)
    windowed_of s₀ t to e f w = record {
      count = g.count ∙ sym o.count;
      few = f.few;
      narrow = f.narrow;
      first = omega (arith, f.first, f.few);
      each = λ j i. at j i;
      sized = λ j l. (g.each j (omega (arith, g.count))).sized;
    }
      where
        below : take to t ≡ s
        below = w.outside.below ∙ sym e

        at : (j : ℕ) → InWindow c j → CellsAt t (take to t) (place_of to c j) (place_of to c j + 4 * c.width) c.names (get_or (bindings p vs) j nothing)
        at j i =
            let l : j < n = omega (arith, i.below, o.count) in
            let r = g.each j l in
            let rl = row_length rows (get_or order j 0) (held j l) in
            subst (λ (v : List ℕ). CellsAt t v (place_of to c j) (place_of to c j + 4 * c.width) c.names (get_or (bindings p vs) j nothing)) (sym below)
            (cells_of t s (place_of to c j) (place_of to c j + 4 * c.width) c.names (row_words rows (get_or order j 0)) (get_or (bindings p vs) j nothing) (r.sized ∙ sym rl) (f.mask j i.below)
            (λ x k. let q : x < names = omega (arith, rl) in subst (λ (y : ℕ). CellIs s (unpacked y) (cell_of (get_or (bindings p vs) j nothing) x)) (sym (row_at rows (get_or order j 0) (held j l) x q)) (r.cells x q))
            (λ x k z. let q : x < names = omega (arith, rl) in let d = row_at rows (get_or order j 0) (held j l) x q in d ∙ r.blank x q (ap (λ (y : ℕ). y % 4) (sym d) ∙ z))
            (w.each j i))

-- ---- opened over rows

module _ (s rows order : List ℕ) where
  some_rows : (o : Outcome) (n : ℕ) → TellsRows s rows order o (Ok n) → (bs : List Binding) × (o ≡ bound bs) × RowsAre s rows order n bs
  some_rows (bound bs) n h = (bs, refl, h)
  some_rows (refused j) n h = absurd h

  is_refused : (o : Outcome) (k : Refusal) → TellsRows s rows order o (Err k) → o ≡ refused (number_of k)
  is_refused (bound bs) k h = absurd h
  is_refused (refused j) k h = ap refused h

module _ (table : List ℕ) (p : ℕ) (s : List ℕ) (at : ℕ) (whole : Bool) (to : ℕ) (room : to + window ≤ length s) (short : length s ≤ 65536) (rows order : List ℕ) (r : Result ℕ Refusal)
    (h : RowsFormed table p (take to s) at whole rows order r) where
  abbrev P : Pattern
  P = pattern_at (records table) p

  formed_rows : (n : ℕ) → r ≡ Ok n → (vs : List Value) → Values (take to s) at whole vs → (formed P vs ≡ bound (bindings P vs)) × RowsAre (take to s) rows order n (bindings P vs)
  formed_rows n e vs i =
      let (bs, f, g) = some_rows (take to s) rows order (formed P vs) n (subst (TellsRows (take to s) rows order (formed P vs)) e (h vs i)) in
      let a = (formed_bound P vs bs f).all in
      (f ∙ ap bound a, subst (RowsAre (take to s) rows order n) a g)

  pub cursor_asked : (n : ℕ) → r ≡ Ok n → Bindable (take to s) at whole → (k : ℕ) → CursorHeld rows order n k
  cursor_asked n e (vs, i) k =
      let (f, g) = formed_rows n e vs i in
      record { wide = g.wide; long = g.long; few = g.few; row = λ l. omega (arith, g.row 0 l, g.few) }

  pub from_refused : (k : ℕ) (j : Refusal) → r ≡ Err j → FormedFrom table p s s at whole to k (Err j)
  from_refused k j e = record {
    outside = record { long = refl; below = refl; above = refl };
    tells = λ vs i. let f = is_refused (take to s) rows order (formed P vs) j (subst (TellsRows (take to s) rows order (formed P vs)) e (h vs i)) in rw f refl;
  }

  pub from_low : (n : ℕ) → r ≡ Ok n → (k : ℕ) → LentFrom table p s at whole to k → k ≤ n
  from_low n e k q = let (f, g) = formed_rows n e q.values q.are in omega (arith, q.low (bindings P q.values) f, g.count)

  module _ (n : ℕ) (e : r ≡ Ok n) (some : Bindable (take to s) at whole) (k : ℕ) (c : Cursor) (o : CursorOver rows order n k c) where
    pub filling_asked : k ≤ n → FillHeld s to rows order c
    filling_asked low =
        let (vs, i) = some in
        let (f, g) = formed_rows n e vs i in
        fill_asked P vs (take to s) rows order n g k low c o s to room short

    window_of : (low : k ≤ n) (t : List ℕ) → Filled s t to rows order c → (vs : List Value) → Values (take to s) at whole vs → Windowed t to c (bindings P vs)
    window_of low t w vs i =
        let (f, g) = formed_rows n e vs i in
        windowed_of P vs (take to s) rows order n g k low c o s t to refl (filling_asked low) w

    pub from_told : k ≤ n → (t : List ℕ) → Filled s t to rows order c → FormedFrom table p s t at whole to k (Ok c)
    from_told low t w = record {
      outside = w.outside;
      tells = λ vs i.
          let f = (formed_rows n e vs i).0 in
          rw f (window_of low t w vs i, starts (n - 0) refl);
    }
      where
        starts : (d : ℕ) → n - 0 ≡ d → c.from ≡ k
        starts zero d = omega (arith, (o.none (omega arith)).0)
        starts (suc m) d = (o.some (omega arith)).0

-- The first bindings, and those from binding k on.
pub first_lent : (table : List ℕ) (p : ℕ) (s : List ℕ) (at : ℕ) (whole : Bool) (to : ℕ) → Lent s at whole to → LentFrom table p s at whole to 0
first_lent table p s at whole to h = record { room = h.room; short = h.short; values = h.bindable.0; are = h.bindable.1; low = λ bs f. omega arith }

pub opened_first : (table : List ℕ) (p : ℕ) (s t : List ℕ) (at : ℕ) (whole : Bool) (to : ℕ) (r : Result Cursor Refusal) → FormedFrom table p s t at whole to 0 r → OpenedAs table p s t at whole to r
opened_first table p s t at whole to r h = record { outside = h.outside; tells = h.tells }

module _ (table : List ℕ) (p : ℕ) (s : List ℕ) (at : ℕ) (whole : Bool) (to : ℕ) (c : Cursor) (k : ℕ) (h : Reachable table p s at whole to c k) where
  pub reach_lent : LentFrom table p s at whole to k
  reach_lent = record {
    room = h.room;
    short = h.short;
    values = h.values;
    are = h.are;
    low = λ bs f.
        let e : bs ≡ h.bindings = (formed_bound (pattern_at (records table) p) h.values bs f).all ∙ sym (formed_bound (pattern_at (records table) p) h.values h.bindings h.bound_are).all in
        omega (arith, ap (length {A = Binding}) e, h.window-is.count, h.below);
  }

  module _ (t : List ℕ) (r : Result Cursor Refusal) (o : FormedFrom table p s t at whole to k r) where
    tells_here : TellsFrom t to k (bound h.bindings) r
    tells_here = subst (λ (x : Outcome). TellsFrom t to k x r) h.bound_are (o.tells h.values h.are)

    reach_never : (j : Refusal) → r ≡ Err j → ⊥
    reach_never j e = subst (TellsFrom t to k (bound h.bindings)) e tells_here

    reach_told : (d : Cursor) → r ≡ Ok d → Reached table p s t at whole to c k d
    reach_told d e = record {
      outside = o.outside;
      count = sym w.count ∙ h.window-is.count;
      window-is = λ vs bs i f v. (subst (TellsFrom t to k (bound bs)) e (subst (λ (x : Outcome). TellsFrom t to k x r) f (o.tells vs i))).0;
      within = record {
        low = omega (arith, from_is);
        below = omega (arith, w.count, h.window-is.count, h.below);
        fits =
            let y : k - d.from ≡ 0 = omega (arith, from_is) in
            let x : d.width * (k - d.from) ≡ 0 = ap (λ (m : ℕ). d.width * m) y ∙ mul-zero d.width in
            omega (arith, x, w.narrow);
      };
    }
      where
        here : TellsFrom t to k (bound h.bindings) (Ok d)
        here = subst (TellsFrom t to k (bound h.bindings)) e tells_here

        w : Windowed t to d h.bindings
        w = here.0

        from_is : d.from ≡ k
        from_is = here.1

-- a refusal is impossible, as the bindings were formed before
module _ (table : List ℕ) (p : ℕ) (s : List ℕ) (at : ℕ) (whole : Bool) (to : ℕ) (c : Cursor) (k : ℕ) (h : Reachable table p s at whole to c k) (t : List ℕ) (r : Result Cursor Refusal) (o : FormedFrom table p s t at whole to k r) where
  pub reach_or : Reached table p s t at whole to c k (result_unwrap_or r c)
  reach_or = go r refl
    where
      go : (q : Result Cursor Refusal) → r ≡ q → Reached table p s t at whole to c k (result_unwrap_or q c)
      go (Ok d) e = reach_told table p s at whole to c k h t r o d e
      go (Err j) e = absurd (reach_never table p s at whole to c k h t r o j e)

pub reach_there : (table : List ℕ) (p : ℕ) (s : List ℕ) (at : ℕ) (whole : Bool) (to : ℕ) (c : Cursor) (k : ℕ) → Reachable table p s at whole to c k → c.from ≤ k → 4 * (c.width * (k - c.from) + c.width) ≤ 512
    → Reached table p s s at whole to c k c
reach_there table p s at whole to c k h l m = record {
  outside = record { long = refl; below = refl; above = refl };
  count = refl;
  window-is = λ vs bs i f w. w;
  within = record { low = l; below = h.below; fits = omega arith };
}

-- ---- a plain name

module _ (u t : List ℕ) where
  pub frees : (at : ℕ) (n : ℕ) → CellsAt u t at at 0 (replicate n free)
  frees at zero = (refl, omega arith)
  frees at (suc n) = (refl, frees at n)

  only_cells : (n x at : ℕ) (v : Value) → x < n → PartIs t (unpacked (bits32 u at)) v → CellsAt u t at (at + 4) (2 ^ x) (put (replicate n free) x (is v))
  only_cells zero x at v l h = absurd (omega arith)
  only_cells (suc n) zero at v l h = ((v, refl, h), frees (at + 4) n)
  only_cells (suc n) (suc x) at v l h =
      let a : odd (2 ^ suc x) ≡ false = ne_eqb (2 ^ suc x % 2) 1 (λ z. omega (arith, pow-suc 2 x)) in
      let b : 2 ^ suc x / 2 ≡ 2 ^ x = omega (arith, pow-suc 2 x) in
      rw (a, b) (refl, only_cells n x at v (omega arith) h)

member_part : (s t : List ℕ) (at : ℕ) (v : Value) → MemberAt s t at v → PartIs s (unpacked (bits32 t at)) v
member_part s t at v m =
    rw m.word-is (inl (whole_how m.place, subst (λ (n : ℕ). At s n v) (omega (arith, m.low)) m.here))

module _ (s : List ℕ) (at : ℕ) (whole : Bool) (to x : ℕ) (h : PlainHeld s at whole to x) where
  taken : length (take to s) ≡ to
  taken = length-take-le to s (omega (arith, h.room))

  value_there : (w : Bool) (vs : List Value) → Values (take to s) at w vs → (v : Value) × At (take to s) at v
  value_there true vs (v, i, e) = (v, i)
  value_there false vs i = (collection set (items_of vs), i)

  pub plain_here : (v : Value) × At (take to s) at v
  plain_here = value_there whole h.bindable.0 h.bindable.1

  pub plain_holds : Holds s at
  plain_holds = let (v, i) = plain_here in holds (kept {base = to} (sym (take-take to to s (omega arith))) (omega (arith, h.room)) (omega (arith, i.fits, taken)) i)

  word_same : word s at ≡ word (take to s) at
  word_same = let (v, i) = plain_here in word_size (kept {base = to} (sym (take-take to to s (omega arith))) (omega (arith, h.room)) (omega (arith, i.fits, taken)) i) ∙ sym (word_size i)

  module _ (n : ℕ) (q : n ≡ word s at) (from : ℕ) (d : from ≡ cond whole at (at + 4)) where
    items_there : (vs : List Value) → Values (take to s) at whole vs → ItemsAt (take to s) from (at + n) (items_of vs)
    items_there vs i = values_at (take to s) at whole vs n from (q ∙ word_same) d i

    pub plain_asked : MembersHeld s to from (at + n)
    plain_asked = record { items = (items_of h.bindable.0, items_there h.bindable.0 h.bindable.1); room = h.room; short = h.short }

    pub plain_told : (t : List ℕ) (mask count : ℕ) → OneName x mask → MembersPut s t to from (at + n) count → PlainOpened s t at whole to x (record { count = count; names = mask; width = 1; from = 0 })
    plain_told t mask count o m = record {
      outside = m.outside;
      right = λ vs i. window vs (m.right vs (items_there vs i));
      starts = refl;
    }
      where
        window : (vs : List Value) → (count ≡ length vs) × ((k : ℕ) → k < count → MemberAt (take to s) t (to + 4 * k) (get_or vs k (boolean true))) → Windowed t to (record { count = count; names = mask; width = 1; from = 0 }) (map (only x) vs)
        window vs (e, each) = record {
          count = length-map vs (only x) ∙ sym e;
          few = omega (arith, m.few);
          narrow = omega arith;
          first = omega arith;
          each = λ k i.
              let l : k < length vs = omega (arith, i.below, e) in
              let a : to + 4 * (1 * (k - 0)) ≡ to + 4 * k = omega arith in
              let b : to + 4 * k + 4 * 1 ≡ to + 4 * k + 4 = omega arith in
              let y = member_part (take to s) t (to + 4 * k) (get_or vs k (boolean true)) (each k i.below) in
              rw (a, b, map_at (only x) vs k (boolean true) nothing l, m.outside.below, o.is) (only_cells t (take to s) names x (to + 4 * k) (get_or vs k (boolean true)) h.low y);
          sized = λ k l.
              let i : k < length vs = omega (arith, length-map vs (only x)) in
              ap length (map_at (only x) vs k (boolean true) nothing i) ∙ only_sized x (get_or vs k (boolean true));
        }

-- ---- the environment

pub record UnderSoFar (s : List ℕ) (to : ℕ) (c : Cursor) (k : ℕ) (env words : List ℕ) (left at x : ℕ) : Type 0 where
  pub sized : length words ≡ names
  pub within : x ≤ names
  pub old : (y : ℕ) → x ≤ y → get_or words y 0 ≡ get_or env y 0
  pub rest : (bs : List Binding) → Windowed s to c bs → CellsAt s (take to s) at (place_of to c k + 4 * c.width) left (drop x (get_or bs k nothing))
  pub done : (bs : List Binding) → Windowed s to c bs → (y : ℕ) → y < x → WordFor (take to s) (get_or env y 0) (get_or words y 0) (cell_of (get_or bs k nothing) y)

module _ (s : List ℕ) (to : ℕ) (c : Cursor) (k : ℕ) (env : Env) (h : Underneath s to c k env) where
  pub under_start : UnderSoFar s to c k env.words env.words c.names (place_of to c k) 0
  under_start = record { sized = h.sized; within = omega arith; old = λ y l. refl; rest = λ bs w. w.each k h.within; done = λ bs w y l. absurd (omega arith) }

  binding_sized : (bs : List Binding) → Windowed s to c bs → length (get_or bs k nothing) ≡ names
  binding_sized bs w = w.sized k (omega (arith, w.count, h.within.below))

  module _ (words : List ℕ) (left at x : ℕ) (g : UnderSoFar s to c k env.words words left at x) where
    pub under_in : 0 < left → x < names
    under_in l = go (names - x) refl
      where
        go : (d : ℕ) → names - x ≡ d → x < names
        go zero e =
            let b = get_or h.bindings k nothing in
            let z : drop x b ≡ [] = drop_of_length-le b {i = x} (omega (arith, binding_sized h.bindings h.window-is, g.within)) in
            let y : CellsAt s (take to s) at (place_of to c k + 4 * c.width) left [] = subst (CellsAt s (take to s) at (place_of to c k + 4 * c.width) left) z (g.rest h.bindings h.window-is) in
            absurd (omega (arith, y.0))
        go (suc d) e = omega arith

    pub under_end : left ≤ 0 → UnderBinding s to c k env (record { words = words })
    under_end l = record { sized = g.sized; cells = λ bs w y i. at_name bs w y i (suc y - x) refl }
      where
        at_name : (bs : List Binding) → Windowed s to c bs → (y : ℕ) → y < names → (d : ℕ) → suc y - x ≡ d → WordFor (take to s) (get_or env.words y 0) (get_or words y 0) (cell_of (get_or bs k nothing) y)
        at_name bs w y i zero e = g.done bs w y (omega arith)
        at_name bs w y i (suc d) e =
            let b = get_or bs k nothing in
            let z : left ≡ 0 = omega arith in
            let v = all_free s (take to s) at (place_of to c k + 4 * c.width) (drop x b) (subst (λ (m : ℕ). CellsAt s (take to s) at (place_of to c k + 4 * c.width) m (drop x b)) z (g.rest bs w)) (y - x) in
            let u : x + (y - x) ≡ y = omega arith in
            let f : cell_of b y ≡ free = ap (cell_of b) (sym u) ∙ sym (get_or-drop x b (y - x) free) ∙ v in
            rw f (g.old y (omega arith))

    module _ (l : 0 < left) where
      at_x : (bs : List Binding) → Windowed s to c bs → drop x (get_or bs k nothing) ≡ cell_of (get_or bs k nothing) x ∷ drop (x + 1) (get_or bs k nothing)
      at_x bs w = drop-cons (get_or bs k nothing) x free (omega (arith, under_in l, binding_sized bs w)) ∙ ap (λ (n : ℕ). cell_of (get_or bs k nothing) x ∷ drop n (get_or bs k nothing)) (sym (add-one x))

      here : (bs : List Binding) → Windowed s to c bs → CellsAt s (take to s) at (place_of to c k + 4 * c.width) left (cell_of (get_or bs k nothing) x ∷ drop (x + 1) (get_or bs k nothing))
      here bs w = subst (CellsAt s (take to s) at (place_of to c k + 4 * c.width) left) (at_x bs w) (g.rest bs w)

      module _ (o : left % 2 ≡ 1) where
        od : odd left ≡ true
        od = eq-eqb (left % 2) 1 o

        pub under_room : at + 4 ≤ length s
        under_room =
            let q = here h.bindings h.window-is in
            let y = cells_end s (take to s) (past (odd left) at) (place_of to c k + 4 * c.width) (left / 2) (drop (x + 1) (get_or h.bindings k nothing)) q.1 in
            let z : past (odd left) at ≡ at + 4 = ap (λ (b : Bool). past b at) od in
            omega (arith, y, z, h.within.fits, h.room)

        pub under_some : (n : ℕ) → n ≡ bits32 s at → UnderSoFar s to c k env.words (put words x n) (left / 2) (at + 4) (x + 1)
        under_some n e = record {
          sized = length-set words x n ∙ g.sized;
          within = omega (arith, under_in l);
          old = λ y i. get_or-set_other words x y n 0 (λ z. absurd (omega arith)) ∙ g.old y (omega arith);
          rest = λ bs w. subst (λ (b : Bool). CellsAt s (take to s) (past b at) (place_of to c k + 4 * c.width) (left / 2) (drop (x + 1) (get_or bs k nothing))) od (here bs w).1;
          done = λ bs w y i. name_at bs w y i (ℕ_discrete y x);
        }
          where
            name_at : (bs : List Binding) → Windowed s to c bs → (y : ℕ) → y < x + 1 → Dec (y ≡ x) → WordFor (take to s) (get_or env.words y 0) (get_or (put words x n) y 0) (cell_of (get_or bs k nothing) y)
            name_at bs w y i (yes z) =
                let (v, f, q) = subst (λ (b : Bool). CellAt s (take to s) at b (cell_of (get_or bs k nothing) x)) od (here bs w).0 in
                let a : cell_of (get_or bs k nothing) y ≡ is v = ap (cell_of (get_or bs k nothing)) z ∙ f in
                let b : get_or (put words x n) y 0 ≡ bits32 s at = ap (λ (m : ℕ). get_or (put words x n) m 0) z ∙ get_or-set_same words x n 0 (omega (arith, g.sized, under_in l)) ∙ e in
                rw (a, b) q
            name_at bs w y i (no z) =
                let b : get_or (put words x n) y 0 ≡ get_or words y 0 = get_or-set_other words x y n 0 z in
                rw b (g.done bs w y (omega (arith, z)))

      pub under_none : (left % 2 ≡ 1 → ⊥) → UnderSoFar s to c k env.words words (left / 2) at (x + 1)
      under_none o = record {
        sized = g.sized;
        within = omega (arith, under_in l);
        old = λ y i. g.old y (omega arith);
        rest = λ bs w. subst (λ (b : Bool). CellsAt s (take to s) (past b at) (place_of to c k + 4 * c.width) (left / 2) (drop (x + 1) (get_or bs k nothing))) ev (here bs w).1;
        done = λ bs w y i. name_at bs w y i (ℕ_discrete y x);
      }
        where
          ev : odd left ≡ false
          ev = ne_eqb (left % 2) 1 o

          name_at : (bs : List Binding) → Windowed s to c bs → (y : ℕ) → y < x + 1 → Dec (y ≡ x) → WordFor (take to s) (get_or env.words y 0) (get_or words y 0) (cell_of (get_or bs k nothing) y)
          name_at bs w y i (yes z) =
              let f : cell_of (get_or bs k nothing) x ≡ free = subst (λ (b : Bool). CellAt s (take to s) at b (cell_of (get_or bs k nothing) x)) ev (here bs w).0 in
              let a : cell_of (get_or bs k nothing) y ≡ free = ap (cell_of (get_or bs k nothing)) z ∙ f in
              rw a (g.old y (omega arith))
          name_at bs w y i (no z) = g.done bs w y (omega (arith, z))

-- What a turn leaves, for whatever cursor and environment the loop began with.
abbrev pub UnderInv : List ℕ → ℕ → ℕ → List ℕ → ℕ → ℕ → List ℕ → ℕ → ℕ → ℕ → Type 0
UnderInv s to k words₀ at₀ left₀ words at left x =
    (c : Cursor) (env : Env) → Underneath s to c k env → env.words ≡ words₀ → at₀ ≡ place_of to c k → left₀ ≡ c.names → UnderSoFar s to c k env.words words left at x

-- ---- what is lent to form rows

take_less : (n : ℕ) (l : List ℕ) → length (take n l) ≤ length l
take_less zero l = omega arith
take_less (suc n) [] = omega arith
take_less (suc n) (x ∷ l) = omega (arith, take_less n l)

pub rows_asked : (s : List ℕ) (at : ℕ) (whole : Bool) (to m : ℕ) → m ≡ to → Bindable (take to s) at whole → length s ≤ 65536 → Bindable (take m s) at whole × (length (take m s) ≤ 65536)
rows_asked s at whole to m e b l = (subst (λ (k : ℕ). Bindable (take k s) at whole) (sym e) b, omega (arith, take_less m s))

pub rows_over : (table : List ℕ) (p : ℕ) (s : List ℕ) (at : ℕ) (whole : Bool) (to m : ℕ) → m ≡ to → (rows order : List ℕ) (r : Result ℕ Refusal) → RowsFormed table p (take m s) at whole rows order r → RowsFormed table p (take to s) at whole rows order r
rows_over table p s at whole to m e rows order r h = subst (λ (k : ℕ). RowsFormed table p (take k s) at whole rows order r) e h

pub width_most : (table : List ℕ) (p : ℕ) (s : List ℕ) (at : ℕ) (whole : Bool) (to : ℕ) (c : Cursor) (k : ℕ) → Reachable table p s at whole to c k → c.width * (k - c.from) ≤ 16 * 255
width_most table p s at whole to c k h = mul-le-mul {n₁ = c.width} {m₁ = k - c.from} {n₂ = 16} {m₂ = 255} h.window-is.narrow (omega (arith, h.below, h.window-is.few))

-- ---- the bindings of a plain name

one_plain : (x : ℕ) (v : Value) → formed (name x) (v ∷ []) ≡ bound (map (only x) (v ∷ []))
unfolding exists wide gather matches sorted place
one_plain x v = refl

name_is_small : (c : ℕ) (r : Record) → c ≡ 32 → is_known (shape c).head r ≡ true → name_of r < 16
unfolding shape
name_is_small c r e h =
    let k : leb (name_of r) 15 ≡ true = subst (λ (n : ℕ). is_known (shape n).head r ≡ true) e h in
    let l : name_of r ≤ 15 = leb-true (name_of r) 15 k in
    omega arith

name_is_byte : (c : ℕ) → c ≡ 32 → size_of (shape c).head ≡ 1
unfolding shape
name_is_byte c e = subst (λ (n : ℕ). size_of (shape n).head ≡ 1) (sym e) refl

module _ (table : List ℕ) (p : ℕ) (c : Readable table p) (k : kind_at (records table) p ≡ 32) where
  small : name_of (record_at (records table) p) < 16
  small = name_is_small (kind_at (records table) p) (record_at (records table) p) k (fit_known (record_at (records table) p) (c.fine.fit p c.here))

  pub plain_field : HasField table p 0
  plain_field = record { here = c.here; has = omega (arith, fit_least (record_at (records table) p) (c.fine.fit p c.here), name_is_byte (kind_at (records table) p) k) }

  is_plain : pattern_at (records table) p ≡ name (name_of (record_at (records table) p))
  is_plain = pattern_at_lem (records table) (lower (records table) c.fine.clear6) p c.here ∙ is_name (record_at (records table) p) (map (pattern_at (records table)) (operands_of (record_at (records table) p))) k

  module _ (s : List ℕ) (at : ℕ) (whole : Bool) (to : ℕ) (h : Lent s at whole to) (x : ℕ) (e : x ≡ name_of (record_at (records table) p)) where
    pub plain_lent : PlainHeld s at whole to x
    plain_lent = record { bindable = h.bindable; room = h.room; short = h.short; low = omega (arith, e, small) }

    plain_are : (w : Bool) (vs : List Value) → Values (take to s) at w vs → formed (name x) vs ≡ bound (map (only x) vs)
    plain_are true vs (v, i, f) = ap (formed (name x)) f ∙ one_plain x v ∙ ap (λ (ws : List Value). bound (map (only x) ws)) (sym f)
    plain_are false vs i =
        ap (formed (name x)) (sym (list_items vs)) ∙ plain_formed x (items_of vs) plain_lent.low i.fine ∙ ap (λ (ws : List Value). bound (map (only x) ws)) (list_items vs)

    pub plain_opened : (t : List ℕ) (r : Cursor) → PlainOpened s t at whole to x r → OpenedAs table p s t at whole to (Ok r)
    plain_opened t r o = record {
      outside = o.outside;
      tells = λ vs i.
          let f : formed (pattern_at (records table) p) vs ≡ bound (map (only x) vs) = ap (λ (q : Pattern). formed q vs) (is_plain ∙ ap name (sym e)) ∙ plain_are whole vs i in
          rw f (o.right vs i, o.starts);
    }
