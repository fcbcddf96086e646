-- From the rows of one value to those of a binder.
use mathlib.Core.Path.{◌≡◌, refl, sym, ap, subst, ◌∙◌}
use mathlib.Core.Bool.{Bool, true, false, ◌||◌}
use mathlib.Core.Logic.{inl}
use mathlib.Core.List.{List, [], ◌∷◌, ◌++◌}
use Prim.Native.Nat.{ℕ, ◌+◌, ◌*◌, ◌≤◌, ◌<◌}
use native.Mathlib.Omega.{arith}
use lib.ListN.{length, get_or, set, length-set}
use lib.Seq.{get_or-set_same, get_or-set_other}
use borrow.Author.Tests.{le-leb, lt-leb}
use Rattle.prelude.proofs.Truth.{or_false_left, or_false_right}
use Rattle.integers.specs.Bytes.{word}
use Rattle.values.specs.Value.{Value}
use Rattle.values.specs.Place.{At, ItemsAt, Holds}
use Rattle.values.proofs.Records.{holds}
use Rattle.tables.specs.Accepted.{records}
use Rattle.parts.specs.Part.{PartIs}
use Rattle.patterns.specs.Ways.{gather, exists}
use Rattle.patterns.specs.Binding.{Binding, nothing, sorted}
use Rattle.patterns.specs.Pattern.{Pattern, items_of, matches, wide}
use Rattle.patterns.specs.Binder.{bindings, few, formed, most_bindings}
use Rattle.patterns.specs.Read.{Readable, pattern_at}
use Rattle.matching.specs.Leaf.{Stands}
use Rattle.bindings.proofs.Members.{first-of, none_left}
use Rattle.bindings.proofs.Large.{members_at}
use Rattle.std.specs.Prelude.{Result, Ok, Err}
use Rattle.prelude.specs.declared.Refusal.{Refusal}
use Rattle.prelude.specs.declared.Refusal.TheVariants.{TooLargeToSplit}
use Rattle.forming.specs.Onward.{task}
use Rattle.forming.specs.Laws.Onward.{onward_one}
use Rattle.forming.specs.Adding.{adding}
use Rattle.forming.specs.Laws.Adding.{adding_none, adding_more, adding_longer, adding_sorted}
use Rattle.parts.proofs.Packing.{whole_how}
use Rattle.parts.specs.Word.{unpacked}
use Rattle.forming.specs.Rows.{RowsAre, Entered}
use Rattle.forming.specs.Pending.{AgendaIs}
use Rattle.forming.specs.Stack.{Solvable, Solved}
use Rattle.bindings.specs.Forming.{Values, Bindable, TellsWide, OneHeld, OneFormed, AllHeld, AllFormed, TellsRows, RowsFormed}
use Rattle.bindings.proofs.Room.{inner_few}

-- ---- one value

abbrev pub seeded : List ℕ → ℕ → ℕ → List ℕ
seeded a p at = set (set (set a 3 p) 4 (1 + 4 * at)) 5 0

module _ (table : List ℕ) (p : ℕ) (s : List ℕ) (at : ℕ) (a rows order : List ℕ) (n : ℕ) (h : OneHeld table p s at a rows order n) where
  seed_long : length (seeded a p at) ≡ length a
  seed_long = length-set (set (set a 3 p) 4 (1 + 4 * at)) 5 0 ∙ length-set (set a 3 p) 4 (1 + 4 * at) ∙ length-set a 3 p

  seed_first : get_or (seeded a p at) 3 0 ≡ p
  seed_first =
      get_or-set_other (set (set a 3 p) 4 (1 + 4 * at)) 5 3 0 0 (λ e. absurd (omega arith)) ∙ get_or-set_other (set a 3 p) 4 3 (1 + 4 * at) 0 (λ e. absurd (omega arith)) ∙ get_or-set_same a 3 p 0 (omega (arith, h.long))

  seed_second : get_or (seeded a p at) 4 0 ≡ 1 + 4 * at
  seed_second = get_or-set_other (set (set a 3 p) 4 (1 + 4 * at)) 5 4 0 0 (λ e. absurd (omega arith)) ∙ get_or-set_same (set a 3 p) 4 (1 + 4 * at) 0 (omega (arith, h.long, length-set a 3 p))

  seed_third : get_or (seeded a p at) 5 0 ≡ 0
  seed_third = get_or-set_same (set (set a 3 p) 4 (1 + 4 * at)) 5 0 0 (omega (arith, h.long, length-set (set a 3 p) 4 (1 + 4 * at), length-set a 3 p))

  pub at_low : at ≤ 65536
  at_low = omega (arith, h.here.fits, h.short)

  seed_agenda : (v : Value) → At s at v → wide (pattern_at (records table) p) v ≡ false → AgendaIs table s (seeded a p at) 2 1 (task (pattern_at (records table) p) v ∷ [])
  seed_agenda v i w = (
    record {
      some = omega arith;
      below = omega arith;
      falls = omega (arith, seed_third);
      readable = subst (Readable table) (sym seed_first) h.readable;
      pattern = ap (pattern_at (records table)) (sym seed_first);
      here = subst (λ (c : ℕ). PartIs s (unpacked c) v) (sym seed_second) (inl (whole_how at, subst (λ (c : ℕ). At s c v) (omega (arith, at_low)) i));
      narrow = w;
    },
    seed_third,
  )

  module _ (f : List ℕ) (nothing_yet : (s : List ℕ) → Stands s f nothing) where
    asked_with : (v : Value) (bs : List Binding) → At s at v → wide (pattern_at (records table) p) v ≡ false → RowsAre s rows order n bs → Solvable table s (seeded a p at) 1 2 f rows order n
    asked_with v bs i w g = record {
      short = h.short;
      tasks = task (pattern_at (records table) p) v ∷ [];
      are = seed_agenda v i w;
      long = seed_long ∙ h.long;
      low = omega arith;
      room = omega (arith, inner_few table p h.readable);
      binding = nothing;
      stands = nothing_yet s;
      bindings = bs;
      rows_are = g;
    }

    pub one_asked : Solvable table s (seeded a p at) 1 2 f rows order n
    one_asked = asked_with h.value h.bindings h.here h.narrow h.rows_are

    pub one_formed : (b rows' order' : List ℕ) (r : Result ℕ Refusal) → Solved table s (seeded a p at) 1 2 f rows order n b rows' order' r → OneFormed table p s at a b rows order n rows' order' r
    unfolding asked_with
    one_formed b rows' order' r d = record {
      long = d.long ∙ seed_long;
      right = λ v bs i w g. subst (λ (l : List Binding). Entered s rows' order' (adding l bs) r) (onward_one (pattern_at (records table) p) v) (d.right (asked_with v bs i w g));
    }

-- ---- all members

none_sorted : [] ≡ sorted []
unfolding sorted
none_sorted = refl

pub no_rows : (s rows order : List ℕ) → length rows ≡ 4080 → length order ≡ 255 → RowsAre s rows order 0 []
no_rows s rows order l m = record { wide = l; long = m; count = refl; few = omega arith; given = []; ordered = none_sorted; row = λ j k. absurd (omega arith); each = λ j k. absurd (omega arith) }

pub record AllSoFar (table : List ℕ) (p : ℕ) (s : List ℕ) (from to : ℕ) (a b rows order : List ℕ) (n at : ℕ) : Type 0 where
  pub long : length b ≡ length a
  pub right : (vs : List Value) → ItemsAt s from to (items_of vs) → exists vs (wide (pattern_at (records table) p)) ≡ false
      → (ws : List Value) × (cs : List Binding) × ItemsAt s at to (items_of ws) × (exists ws (wide (pattern_at (records table) p)) ≡ false) × RowsAre s rows order n cs
      × (adding (gather ws (matches (pattern_at (records table) p))) cs ≡ adding (gather vs (matches (pattern_at (records table) p))) [])

module _ (table : List ℕ) (p : ℕ) (s : List ℕ) (from to : ℕ) (a rows₀ order₀ : List ℕ) (h : AllHeld table p s from to a rows₀ order₀) where
  abbrev P : Pattern
  P = pattern_at (records table) p

  pub all_start : AllSoFar table p s from to a a rows₀ order₀ 0 from
  all_start = record { long = refl; right = λ vs i w. (vs, [], i, w, no_rows s rows₀ order₀ h.rows_long h.order_long, refl) }

  module _ (b rows order : List ℕ) (n at : ℕ) (z : AllSoFar table p s from to a b rows order n at) where
    pub all_inside : at < to → (at + word s at ≤ to) × (to ≤ length s)
    all_inside l = let w = z.right h.values h.here h.narrow in ((first-of s at to w.0 l w.2).inside, w.2.fits)

    pub all_holds : at < to → Holds s at
    all_holds l = let w = z.right h.values h.here h.narrow in holds (first-of s at to w.0 l w.2).first-at

    cons_narrow : (ws us : List Value) (v : Value) → ws ≡ v ∷ us → exists ws (wide P) ≡ false → (wide P v ≡ false) × (exists us (wide P) ≡ false)
    unfolding exists
    cons_narrow ws us v e f = let g : (wide P v || exists us (wide P)) ≡ false = ap (λ (xs : List Value). exists xs (wide P)) (sym e) ∙ f in (or_false_left (wide P v) (exists us (wide P)) g, or_false_right (wide P v) (exists us (wide P)) g)

    pub one_held : at < to → OneHeld table p s at b rows order n
    one_held l =
        let w = z.right h.values h.here h.narrow in
        let f = first-of s at to w.0 l w.2 in
        record {
          readable = h.readable;
          short = h.short;
          value = f.first;
          here = f.first-at;
          narrow = (cons_narrow w.0 f.others f.first f.is w.3).0;
          long = z.long ∙ h.long;
          bindings = w.1;
          rows_are = w.4;
        }

    pub all_end : to ≤ at → AllFormed table p s from to rows order (Ok n)
    unfolding gather
    all_end l vs i u =
        let w = z.right vs i u in
        let e = none_left s at to w.0 l w.2 in
        subst (RowsAre s rows order n) (sym (adding_none w.1) ∙ ap (λ (xs : List Value). adding (gather xs (matches P)) w.1) (sym e) ∙ w.5) w.4

    module _ (l : at < to) (b' rows' order' : List ℕ) (r : Result ℕ Refusal) (o : OneFormed table p s at b b' rows order n rows' order' r) where
      step : (vs : List Value) → ItemsAt s from to (items_of vs) → exists vs (wide P) ≡ false
          → (us : List Value) × (ds : List Binding) × ItemsAt s (at + word s at) to (items_of us) × (exists us (wide P) ≡ false) × Entered s rows' order' ds r × (adding (gather us (matches P)) ds ≡ adding (gather vs (matches P)) [])
      step vs i u =
          let w = z.right vs i u in
          let f = first-of s at to w.0 l w.2 in
          let k = cons_narrow w.0 f.others f.first f.is w.3 in (
            f.others,
            adding (matches P f.first) w.1,
            f.others_at,
            k.1,
            o.right f.first w.1 f.first-at k.0 w.4,
            sym (adding_more f.first f.others (matches P) w.1) ∙ ap (λ (xs : List Value). adding (gather xs (matches P)) w.1) (sym f.is) ∙ w.5,
          )

      pub all_full : (j : Refusal) → r ≡ Err j → AllFormed table p s from to rows' order' (Err j)
      all_full j e vs i u =
          let w = step vs i u in
          let k : Entered s rows' order' w.1 (Err j) = subst (Entered s rows' order' w.1) e w.4 in
          let m = adding_longer (gather w.0 (matches P)) w.1 in
          let q : length (adding (gather w.0 (matches P)) w.1) ≡ length (adding (gather vs (matches P)) []) = ap length w.5 in
          (k.0, omega (arith, k.1, m, q))

      pub all_more : (j : ℕ) → r ≡ Ok j → (k : ℕ) → k ≡ word s at → AllSoFar table p s from to a b' rows' order' j (at + k)
      all_more j e k q = record {
        long = o.long ∙ z.long;
        right = λ vs i u.
            let w = step vs i u in
            (w.0, w.1, subst (λ (x : ℕ). ItemsAt s (at + x) to (items_of w.0)) (sym q) w.2, w.3, subst (Entered s rows' order' w.1) e w.4, w.5);
      }

-- ---- a binder

rows_few : (s rows order : List ℕ) (bs : List Binding) (r : Result ℕ Refusal) → Entered s rows order bs r → TellsRows s rows order (few bs) r
rows_few s rows order bs (Ok n) g = rw (le-leb (length bs) most_bindings (omega (arith, g.few, g.count))) g
rows_few s rows order bs (Err k) g = rw (lt-leb (length bs) most_bindings g.1, g.0) refl

rows_told : (table : List ℕ) (p : ℕ) (s rows order : List ℕ) (vs : List Value) (r : Result ℕ Refusal) → exists vs (wide (pattern_at (records table) p)) ≡ false
    → Entered s rows order (adding (gather vs (matches (pattern_at (records table) p))) []) r → TellsRows s rows order (formed (pattern_at (records table) p) vs) r
rows_told table p s rows order vs r w g =
    rw w (rows_few s rows order (bindings (pattern_at (records table) p) vs) r (subst (λ (l : List Binding). Entered s rows order l r) (adding_sorted (gather vs (matches (pattern_at (records table) p)))) g))

module _ (table : List ℕ) (p : ℕ) (s : List ℕ) (at : ℕ) (whole : Bool) (r : Bool) (t : TellsWide table p s at whole r) where
  pub form_wide : r ≡ true → (rows order : List ℕ) → RowsFormed table p s at whole rows order (Err TooLargeToSplit)
  form_wide e rows order vs i = let w : exists vs (wide (pattern_at (records table) p)) ≡ true = sym (t vs i) ∙ e in rw w refl

  module _ (n : r ≡ false) where
    narrow : (vs : List Value) → Values s at whole vs → exists vs (wide (pattern_at (records table) p)) ≡ false
    narrow vs i = sym (t vs i) ∙ n

    one_narrow : (v : Value) (vs : List Value) → vs ≡ v ∷ [] → exists vs (wide (pattern_at (records table) p)) ≡ false → wide (pattern_at (records table) p) v ≡ false
    unfolding exists
    one_narrow v vs e w = or_false_left (wide (pattern_at (records table) p) v) false (ap (λ (xs : List Value). exists xs (wide (pattern_at (records table) p))) (sym e) ∙ w)

    pub value_held : whole ≡ true → Bindable s at whole → (a rows order : List ℕ) → Readable table p → length s ≤ 65536 → length a ≡ 603 → length rows ≡ 4080 → length order ≡ 255
        → OneHeld table p s at a rows order 0
    value_held e b a rows order se l la lr lo =
        let (vs, i) = b in
        let (v, j, q) : (v : Value) × At s at v × (vs ≡ v ∷ []) = subst (λ (u : Bool). Values s at u vs) e i in
        record { readable = se; short = l; value = v; here = j; narrow = one_narrow v vs q (narrow vs i); long = la; bindings = []; rows_are = no_rows s rows order lr lo }

    one_gather : (v : Value) (vs : List Value) → vs ≡ v ∷ [] → gather vs (matches (pattern_at (records table) p)) ≡ matches (pattern_at (records table) p) v
    unfolding gather
    one_gather v vs e = ap (λ (xs : List Value). gather xs (matches (pattern_at (records table) p))) e ∙ append-nil (matches (pattern_at (records table) p) v)
      where
        append-nil : (xs : List Binding) → xs ++ [] ≡ xs
        append-nil [] = refl
        append-nil (x ∷ xs) = ap (λ (l : List Binding). x ∷ l) (append-nil xs)

    pub value_told : whole ≡ true → (a b rows order rows' order' : List ℕ) (q : Result ℕ Refusal) → length rows ≡ 4080 → length order ≡ 255 → OneFormed table p s at a b rows order 0 rows' order' q → RowsFormed table p s at whole rows' order' q
    value_told e a b rows order rows' order' q lr lo o vs i =
        let (v, j, d) : (v : Value) × At s at v × (vs ≡ v ∷ []) = subst (λ (u : Bool). Values s at u vs) e i in
        rows_told table p s rows' order' vs q (narrow vs i)
        (subst (λ (l : List Binding). Entered s rows' order' (adding l []) q) (sym (one_gather v vs d)) (o.right v [] j (one_narrow v vs d (narrow vs i)) (no_rows s rows order lr lo)))

    pub members_held : whole ≡ false → Bindable s at whole → (k : ℕ) → k ≡ word s at → (a rows order : List ℕ) → Readable table p → length s ≤ 65536 → length a ≡ 603 → length rows ≡ 4080 → length order ≡ 255
        → AllHeld table p s (at + 4) (at + k) a rows order
    members_held e b k q a rows order se l la lr lo =
        let (vs, i) = b in
        record { readable = se; short = l; values = vs; here = members_at s at vs k q (subst (λ (u : Bool). Values s at u vs) e i); narrow = narrow vs i; long = la; rows_long = lr; order_long = lo }

    pub members_told : whole ≡ false → (k : ℕ) → k ≡ word s at → (rows order : List ℕ) (q : Result ℕ Refusal) → AllFormed table p s (at + 4) (at + k) rows order q → RowsFormed table p s at whole rows order q
    members_told e k d rows order q o vs i = rows_told table p s rows order vs q (narrow vs i) (o vs (members_at s at vs k d (subst (λ (u : Bool). Values s at u vs) e i)) (narrow vs i))
