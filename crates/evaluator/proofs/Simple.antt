-- Literals, names, tests and what is built.
use mathlib.Core.Path.{◌≡◌, refl, sym, ap, subst, ◌∙◌}
use mathlib.Core.Bool.{Bool, true, false, cond}
use mathlib.Core.Option.{Option, some}
use mathlib.Core.Logic.{inl, inr}
use mathlib.Core.List.{List}
use Prim.Native.Nat.{ℕ, ◌+◌, ◌<◌}
use native.Mathlib.Omega.{arith}
use lib.IntN.{ℤ}
use lib.Dec.{eqb, leb}
use lib.ListN.{get_or, take}
use borrow.Author.Tests.{eq-eqb, ne_eqb}
use Rattle.values.specs.Value.{Kind, number, set, sequence, map, tuple, Value, boolean, integer, quote, collection, Items, size, sizes, value_limit, Sound}
use Rattle.values.specs.Items.{same, snoc, insert, lookup, enter}
use Rattle.values.specs.Place.{At, Holds}
use Rattle.integers.specs.Whole.{InRange}
use Rattle.values.specs.Contract.{Put}
use Rattle.values.proofs.Encoding.{collection_size}
use Rattle.values.proofs.Records.{one_value, collection_shaped, holds}
use Rattle.values.proofs.Order.{same_flip}
use Rattle.choices.specs.State.{Choices}
use Rattle.choices.specs.Tree.{give}
use Rattle.operators.specs.Answer.{as_boolean, Built, built, stopped, fitting, closed}
use Rattle.operators.specs.Enumerations.{build_on, add_entry}
use Rattle.operators.specs.Sets.{range_of}
use Rattle.operators.specs.Maps.{apply_to}
use Rattle.operators.specs.Operators.{binary}
use Rattle.operations.specs.Numbers.{Binary}
use Rattle.collections.specs.Finding.{HoldsKind, HoldsCollection}
use Rattle.values.proofs.Entries.{enter_present}
use Rattle.operator_laws.proofs.Gather.{same_refl}
use Rattle.operator_laws.proofs.Enumerations.{by_entry}
use Rattle.collections.specs.Building.{added, entry_answer, Room, EntryRoom, Adds, Maps, Enters, Retags}
use denote.Enum.Bare.{sameb}
use Rattle.parts.specs.contracts.How.{the_type}
use Rattle.parts.specs.declared.How.{How}
use Rattle.parts.specs.declared.How.TheVariants.{Nothing, Whole, Units, Span}
use Rattle.parts.specs.declared.Part.{Part}
use Rattle.parts.specs.Part.{PartIs, CellIs}
use Rattle.parts.specs.Contract.{Puttable, PutPart}
use Rattle.parts.proofs.Laws.{part_longer, whole_of}
use Rattle.patterns.specs.Binding.{Cell, free, is, cell_of}
use Rattle.tables.specs.Record.{field, integer_of, quote_of}
use Rattle.tables.specs.Table.{record_at, kind_at}
use Rattle.tables.specs.Accepted.{records}
use Rattle.calling.specs.Applied.{Applied, OnTwo}
use Rattle.calling.proofs.Framing.{kept_same, kept_outside, put_kept}
use Rattle.meaning.specs.State.{State, held_value as held}
use Rattle.meaning.specs.Meaning.{or_else}
use Rattle.evaluator.specs.Contract.{has_value}
use Rattle.parts.specs.declared.words.Env.{Env}
use Rattle.parts.specs.Word.{unpacked}
use Rattle.evaluator.specs.Contract.{Ask, Around, Gives, meant, value_as, refused_as}
use Rattle.evaluator.specs.Leaves.{of_two, OfTwo}
use Rattle.std.specs.Prelude.{Ok, Err}
use Rattle.prelude.specs.declared.Refusal.{Refusal}
use Rattle.prelude.specs.declared.Refusal.TheVariants.{WrongKind, TooLarge, Clash}
use Rattle.prelude.specs.Refusals.{number_of}
use Rattle.evaluator.specs.declared.Refused.{Refused}
use Rattle.evaluator.specs.Contract.{at_record}
use Rattle.evaluator.specs.Building.{SoFar, Enumerated, built_kind, final_kind, add_to, Pending, going, halted, AddHeld, AddsNext, EnterHeld, EntersNext, ShapedAs, Finishable, Answers, valued, unvalued, Finishes}
use Rattle.prelude.proofs.Absurd.{impossible}
use Rattle.evaluator.proofs.Coming.{comes_as, comes_value, comes_refused}
use Rattle.evaluator.proofs.Tables.{room_here, name_number}
use Rattle.evaluator.proofs.Equations.{mean_truth, mean_whole, mean_quote, mean_name}

pub told_boolean : {s : List ℕ} {at : ℕ} {b : Bool} → At s at (boolean b) → (v : Value) → At s at v → as_boolean v ≡ some b
told_boolean h v a = ap as_boolean (one_value a h)

pub whole_range : {s : List ℕ} {at : ℕ} {z z' : ℤ} → z' ≡ z → At s at (integer z) → InRange z'
unfolding Sound
whole_range e h = subst InRange (sym e) h.fine.sound

-- what a test of equality tells of how a part denotes its value
pub told_nothing : (h : How) {b : Bool} → b ≡ sameb the_type h Nothing → b ≡ true → h ≡ Nothing
told_nothing Nothing d e = refl
told_nothing Whole d e = cc
told_nothing Units d e = cc
told_nothing Span d e = cc

pub told_other : (h : How) {b : Bool} → b ≡ sameb the_type h Nothing → b ≡ false → h ≡ Nothing → ⊥
told_other Nothing d e f = cc
told_other Whole d e f = cc
told_other Units d e f = cc
told_other Span d e f = cc

pub told_whole : (h : How) {b : Bool} → b ≡ sameb the_type h Whole → b ≡ true → h ≡ Whole
told_whole Nothing d e = cc
told_whole Whole d e = refl
told_whole Units d e = cc
told_whole Span d e = cc

module _ {table : List ℕ} {r : ℕ} {s : List ℕ} {base : ℕ} {env : Env} {c : Choices} (a : Ask table r s base env c) where
  put-done : {v : Value} {t : List ℕ} {n m : ℕ} → Put s t base v n m → ((ρ : State) → meant table r ρ ≡ give v) → Gives (meant table r) (At t base) s t base env c (value_as c)
  put-done p q = record { kept = put_kept p; right = λ ρ u. comes_as (q ρ) (comes_value a.sound p.here) }

  pub truth_done : kind_at (records table) r ≡ 1 → {f : ℕ} → f ≡ field (record_at (records table) r) 0 → {t : List ℕ} {m : ℕ} → Put s t base (boolean (eqb f 1)) 5 m → Gives (meant table r) (At t base) s t base env c (value_as c)
  truth_done d {f} e {t} {m} p = put-done {n = 5} {m = m} (subst (λ (x : ℕ). Put s t base (boolean (eqb x 1)) 5 m) e p) (λ ρ. mean_truth a.legal r ρ d)

  pub whole_done : kind_at (records table) r ≡ 2 → {z : ℤ} → z ≡ integer_of (record_at (records table) r) → {t : List ℕ} {m : ℕ} → Put s t base (integer z) 8 m → Gives (meant table r) (At t base) s t base env c (value_as c)
  whole_done d e {t} {m} p = put-done {n = 8} {m = m} (subst (λ (x : ℤ). Put s t base (integer x) 8 m) e p) (λ ρ. mean_whole a.legal r ρ d)

  pub quote_done : kind_at (records table) r ≡ 22 → {n : ℕ} → n ≡ quote_of (record_at (records table) r) → {t : List ℕ} {m : ℕ} → Put s t base (quote n) 6 m → Gives (meant table r) (At t base) s t base env c (value_as c)
  quote_done d e {t} {m} p = put-done {n = 6} {m = m} (subst (λ (x : ℕ). Put s t base (quote x) 6 m) e p) (λ ρ. mean_quote a.legal r ρ d)

  module _ (d : kind_at (records table) r ≡ 3) {x : ℕ} (e : x ≡ field (record_at (records table) r) 0) where
    pub name_below : x < 16
    name_below = omega (arith, name_number a d)

    here_cell : (ρ : State) → Around s base env ρ → CellIs (take base s) (unpacked (get_or env.words x 0)) (cell_of ρ x)
    here_cell ρ u = u.cells x name_below

    no_part : {p : Part} {l : List ℕ} {v : Value} → p.how ≡ Nothing → PartIs l p v → ⊥
    no_part z (inl h) = let w = sym z ∙ h.0 in impossible cc
    no_part z (inr (inl h)) = let w = sym z ∙ h.0 in impossible cc
    no_part z (inr (inr h)) = let w = sym z ∙ h.0 in impossible cc

    meant_name : (ρ : State) → meant table r ρ ≡ or_else 20 r (held (cell_of ρ x))
    meant_name ρ = mean_name a.legal r ρ d ∙ ap (λ (y : ℕ). or_else 20 r (held (cell_of ρ y))) (sym e)

    name_free : (unpacked (get_or env.words x 0)).how ≡ Nothing → Gives (meant table r) (At s base) s s base env c (refused_as WrongKind r c)
    name_free z =
        record { kept = kept_same s base; right = λ ρ u. comes_as (meant_name ρ ∙ ap (λ (y : Cell). or_else 20 r (held y)) (free_cell ρ (here_cell ρ u))) (comes_refused WrongKind r a.sound) }
      where
        free_cell : (ρ : State) → CellIs (take base s) (unpacked (get_or env.words x 0)) (cell_of ρ x) → cell_of ρ x ≡ free
        free_cell ρ (inl h) = h.1
        free_cell ρ (inr (v, g, h)) = absurd (no_part {p = unpacked (get_or env.words x 0)} z h)

    bound_cell : (ρ : State) → ((unpacked (get_or env.words x 0)).how ≡ Nothing → ⊥) → CellIs (take base s) (unpacked (get_or env.words x 0)) (cell_of ρ x) → (v : Value) × (cell_of ρ x ≡ is v) × PartIs (take base s) (unpacked (get_or env.words x 0)) v
    bound_cell ρ z (inl h) = absurd (z h.0)
    bound_cell ρ z (inr h) = h

    name_held : ((unpacked (get_or env.words x 0)).how ≡ Nothing → ⊥) → Puttable s (unpacked (get_or env.words x 0)) base
    name_held z =
        let (v, q, h) = bound_cell a.state z (here_cell a.state a.around) in
        let (i, l) = part_longer {s = s} {p = unpacked (get_or env.words x 0)} {v = v} base (omega (arith, room_here a)) h in
        record { value = v; here = i; below = l; room = omega (arith, room_here a) }

    name_done : ((unpacked (get_or env.words x 0)).how ≡ Nothing → ⊥) → {t : List ℕ} {n : ℕ} → PutPart s t (unpacked (get_or env.words x 0)) base n → Gives (meant table r) (At t base) s t base env c (value_as c)
    name_done z {t} p =
        record {
          kept = kept_outside (omega arith) p.outside;
          right = λ ρ u.
              let (v, q, h) = bound_cell ρ z (here_cell ρ u) in
              let (i, l) = part_longer {s = s} {p = unpacked (get_or env.words x 0)} {v = v} base (omega (arith, room_here a)) h in
              comes_as (meant_name ρ ∙ ap (λ (y : Cell). or_else 20 r (held y)) q) (comes_value a.sound (p.right v i));
        }

  -- the same of a part read from its word
  module _ (d : kind_at (records table) r ≡ 3) {x : ℕ} (e : x ≡ field (record_at (records table) r) 0) {p : Part} (q : p ≡ unpacked (get_or env.words x 0)) where
    pub part_free : p.how ≡ Nothing → Gives (meant table r) (At s base) s s base env c (refused_as WrongKind r c)
    part_free z = name_free d e (ap (λ (y : Part). y.how) (sym q) ∙ z)

    pub part_held : (p.how ≡ Nothing → ⊥) → Puttable s p base
    part_held z = subst (λ (y : Part). Puttable s y base) (sym q) (name_held d e (λ w. z (ap (λ (y : Part). y.how) q ∙ w)))

    -- a whole record is where it says
    whole_here : p.how ≡ Whole → (ρ : State) → Around s base env ρ → (v : Value) × (cell_of ρ x ≡ is v) × At s p.at v
    whole_here z ρ u =
        let (v, g, h) = bound_cell d e ρ (λ w. let n = sym z ∙ ap (λ (y : Part). y.how) q ∙ w in impossible cc) (here_cell d e ρ u) in
        let (i, l) = part_longer {s = s} {p = unpacked (get_or env.words x 0)} {v = v} base (omega (arith, room_here a)) h in
        (v, g, whole_of z (subst (λ (y : Part). PartIs s y v) (sym q) i))

    pub part_whole : p.how ≡ Whole → Holds s p.at
    part_whole z = let (v, g, h) = whole_here z a.state a.around in holds h

    pub part_number : p.how ≡ Whole → {z z' : ℤ} → z' ≡ z → At s p.at (integer z) → {t : List ℕ} {m : ℕ} → Put s t base (integer z') 8 m → Gives (meant table r) (At t base) s t base env c (value_as c)
    part_number how {z} {z'} y i {t} k =
        record {
          kept = put_kept k;
          right = λ ρ u.
              let (v, g, h) = whole_here how ρ u in
              comes_as (meant_name d e ρ ∙ ap (λ (w : Cell). or_else 20 r (held w)) g) (comes_value a.sound (subst (At t base) (ap integer y ∙ one_value i h) k.here));
        }

    pub part_done : (p.how ≡ Nothing → ⊥) → {t : List ℕ} {n : ℕ} → PutPart s t p base n → Gives (meant table r) (At t base) s t base env c (value_as c)
    part_done z {t} {n} w = name_done d e (λ v. z (ap (λ (y : Part). y.how) q ∙ v)) (subst (λ (y : Part). PutPart s t y base n) q w)

-- ---- what is built

-- Where something is built, it is no refusal.
built_not : {X : Type 0} {q : SoFar} {x : Refusal} → q ≡ Ok tt → q ≡ Err x → X
built_not e f = let g = sym e ∙ f in impossible cc

module _ {k : ℕ} {s : List ℕ} {base : ℕ} {so_far : SoFar} where
  pub pending_none : so_far ≡ Ok tt → {b : Built} → Pending k s base so_far b → (vs : Items) × (b ≡ built vs) × At s base (collection (built_kind k) vs)
  pending_none e (going {vs = vs} d a) = (vs, refl, a)
  pending_none e (halted d) = built_not e d

  pub pending_some : {x : Refusal} → so_far ≡ Err x → {b : Built} → Pending k s base so_far b → b ≡ stopped (number_of x)
  pending_some e (going d a) = built_not d e
  pending_some {x} e (halted {x = y} d) = let f : ◌≡◌ {A = SoFar} (Err y) (Err x) = sym d ∙ e in let g : y ≡ x = cc in ap (λ (z : Refusal). stopped (number_of z)) g

  module _ (a : AddHeld k s base so_far) (K : Kind) (is_kind : built_kind k ≡ K) where
    pub add_room : so_far ≡ Ok tt → Room K s base (base + 512)
    add_room e =
        let (vs, q, h) = pending_none e a.pending in
        record { held = record { items = vs; here = subst (λ (l : Kind). At s base (collection l vs)) is_kind h }; room = omega (arith, a.room); item = a.item; apart = inr (omega arith) }

    pub add_done : (add : Items → Value → Items) → ((vs : Items) (v : Value) → add_to k vs v ≡ fitting (add vs v)) → so_far ≡ Ok tt → {t : List ℕ} {n : SoFar} → Adds K add s t base (base + 512) n → AddsNext k s t base so_far n
    add_done add same e {t} {n} h = record { kept = kept_outside (omega arith) h.frame; right = by }
      where
        fit : (ws : Items) → n ≡ added (size (collection K ws)) → (n ≡ Ok tt → At t base (collection K ws)) → Pending k t base n (fitting ws)
        fit ws q m = go (leb (4 + sizes ws) value_limit) (q ∙ ap added (collection_size K ws))
          where
            go : (y : Bool) → n ≡ cond y (Ok tt) (Err TooLarge) → Pending k t base n (cond y (built ws) (stopped 28))
            go true z = going z (subst (λ (l : Kind). At t base (collection l ws)) (sym is_kind) (m z))
            go false z = halted {x = TooLarge} z

        by : (b : Built) (v : Value) → Pending k s base so_far b → At s (base + 512) v → Pending k t base n (build_on b (λ vs. add_to k vs v))
        by b v p i =
            let (vs, q, g) = pending_none e p in
            let w = h.right vs v (subst (λ (l : Kind). At s base (collection l vs)) is_kind g) i in
            subst (λ (y : Built). Pending k t base n (build_on y (λ us. add_to k us v))) (sym q)
            (subst (Pending k t base n) (sym (same vs v)) (fit (add vs v) w.answers w.made))

  pub add_still : {x : Refusal} → so_far ≡ Err x → AddsNext k s s base so_far (Err x)
  add_still {x} e = record { kept = kept_same s base; right = λ b v p i. subst (λ (y : Built). Pending k s base (Err x) (build_on y (λ us. add_to k us v))) (sym (pending_some e p)) (halted refl) }

pub set_added : (k : ℕ) → k ≡ 7 → (built_kind k ≡ set) × ((vs : Items) (v : Value) → add_to k vs v ≡ fitting (insert v vs))
set_added k e = rw (eq-eqb k 7 e) (refl, λ vs v. refl)

pub sequence_added : {k : ℕ} → Enumerated k → (k ≡ 7 → ⊥) → (built_kind k ≡ sequence) × ((vs : Items) (v : Value) → add_to k vs v ≡ fitting (snoc vs v))
sequence_added {k} w e = rw (ne_eqb k 7 e, ne_eqb k 9 (no_map w)) (refl, λ vs v. refl)
  where
    no_map : Enumerated k → k ≡ 9 → ⊥
    no_map (inl x) y = omega arith
    no_map (inr (inl x)) y = omega arith
    no_map (inr (inr x)) y = omega arith

-- The number of the kind that is built.
pub built_small : (k : ℕ) {m : ℕ} → m ≡ number (built_kind k) → m < 65536
built_small k {m} e = go (eqb k 7) (eqb k 9) e
  where
    go : (a b : Bool) → m ≡ number (cond a set (cond b map sequence)) → m < 65536
    go true b q = omega arith
    go false true q = omega arith
    go false false q = omega arith

-- ---- entries

module _ {s : List ℕ} {base : ℕ} {so_far : SoFar} where
  pub enter_room : EnterHeld s base so_far → so_far ≡ Ok tt → EntryRoom s base (base + 512) (base + 1024)
  enter_room a e =
      let (vs, q, h) = pending_none e a.pending in
      let m : HoldsKind map s base = record { items = vs; here = h } in
      record { key = record { held = m; room = omega (arith, a.room); item = a.key; apart = inr (omega arith) }; value = record { held = m; room = omega (arith, a.room); item = a.value; apart = inr (omega arith) } }

  pub enter_still : {x : Refusal} → so_far ≡ Err x → EntersNext s s base so_far (Err x)
  enter_still {x} e = record { kept = kept_same s base; right = λ b k v p i j. subst (λ (y : Built). Pending 9 s base (Err x) (build_on y (λ us. add_entry us k v))) (sym (pending_some e p)) (halted refl) }

  pub enter_done : so_far ≡ Ok tt → {t : List ℕ} {n : SoFar} → Enters s t base (base + 512) (base + 1024) n → EntersNext s t base so_far n
  enter_done e {t} {n} h = record { kept = kept_outside (omega arith) h.frame; right = by }
    where
      by : (b : Built) (k v : Value) → Pending 9 s base so_far b → At s (base + 512) k → At s (base + 1024) v → Pending 9 t base n (build_on b (λ vs. add_entry vs k v))
      by b k v p i j =
          let (vs, q, g) = pending_none e p in
          subst (λ (y : Built). Pending 9 t base n (build_on y (λ us. add_entry us k v))) (sym q) (one vs k v g (h.right vs k v g i j))
        where
          one : (vs : Items) (k v : Value) → At s base (collection map vs) → Maps s t base vs k v n → Pending 9 t base n (add_entry vs k v)
          one vs k v g w =
              by_entry vs k v
              (λ l z. subst (Pending 9 t base n) (sym z) (fit (answer l ∙ ap added (collection_size map (enter k v vs)))))
              (λ l z. subst (Pending 9 t base n) (sym z) (there l (answer l ∙ ap same_or (same_refl v))))
              (λ u l y z. subst (Pending 9 t base n) (sym z) (halted {x = Clash} (answer l ∙ ap same_or (same_flip v u ∙ y))))
            where
              same_or : Bool → SoFar
              same_or b = cond b (Ok tt) (Err Clash)

              answer : {o : Option Value} → lookup k vs ≡ o → n ≡ entry_answer o v (size (collection map (enter k v vs)))
              answer l = w.answers ∙ ap (λ (o : Option Value). entry_answer o v (size (collection map (enter k v vs)))) l

              fit : n ≡ added (4 + sizes (enter k v vs)) → Pending 9 t base n (fitting (enter k v vs))
              fit z = go (leb (4 + sizes (enter k v vs)) value_limit) z
                where
                  go : (y : Bool) → n ≡ cond y (Ok tt) (Err TooLarge) → Pending 9 t base n (cond y (built (enter k v vs)) (stopped 28))
                  go true z = going z (w.made z)
                  go false z = halted {x = TooLarge} z

              there : lookup k vs ≡ some v → n ≡ Ok tt → Pending 9 t base n (built vs)
              there l z =
                  let f = collection_shaped g.fine in
                  going z (subst (λ (us : Items). At t base (collection map us)) (enter_present k v vs f.0 f.1 l) (w.made z))

-- ---- the end

-- What is no refusal is built.
pub finish_still : (q : SoFar) (r : ℕ) {u : Unit {0}} → at_record q r ≡ Ok u → q ≡ Ok tt
finish_still (Ok v) r e = refl
finish_still (Err x) r e = impossible cc

module _ {k : ℕ} {s : List ℕ} {base : ℕ} {so_far : SoFar} {r : ℕ} where
  pub finish_off : {y : Refused} → Err y ≡ at_record so_far r → Finishes k s s base so_far r (Err y)
  finish_off {y} e = record { kept = kept_same s base; right = λ b p h. go p }
    where
      go : {b : Built} → Pending k s base so_far b → Answers s base r (Err y) (closed (final_kind k) b)
      go (going d a) = let z = e ∙ ap (λ (m : SoFar). at_record m r) d in impossible cc
      go (halted {x = x} d) = unvalued {x = x} (e ∙ ap (λ (m : SoFar). at_record m r) d)

  pub finish_value : so_far ≡ Ok tt → (k ≡ 10 → ⊥) → Finishes k s s base so_far r has_value
  finish_value e n =
      record {
        kept = kept_same s base;
        right = λ b p h. let (vs, q, g) = pending_none e p in
            subst (λ (x : Built). Answers s base r has_value (closed (final_kind k) x)) (sym q) (rw (ne_eqb k 10 n) (valued refl g));
      }

  pub finish_tuple : so_far ≡ Ok tt → k ≡ 10 → {t : List ℕ} → Retags s t base 6 → Finishes k s t base so_far r has_value
  finish_tuple e n {t} h =
      record {
        kept = kept_outside (omega arith) h.frame;
        right = λ b p f. let (vs, q, g) = pending_none e p in
            subst (λ (x : Built). ShapedAs k x → Answers t base r has_value (closed (final_kind k) x)) (sym q) (λ f. rw (eq-eqb k 10 n) (valued refl (h.right (built_kind k) tuple vs g refl (f n)))) f;
      }

pub finish_held : {k : ℕ} {s : List ℕ} {base : ℕ} {so_far : SoFar} {r : ℕ} → Finishable k s base so_far r → so_far ≡ Ok tt → HoldsCollection s base
finish_held {k} f e = let (vs, q, g) = pending_none e f.pending in record { kind = built_kind k; items = vs; here = g }

-- ---- both operands

pub two_binary : (k op : ℕ) → k ≡ 5 → {s t : List ℕ} {base : ℕ} {x : Applied} → OnTwo (binary op) s t base x → OnTwo (of_two k op) s t base x
two_binary k op e h = rw (eq-eqb k 5 e) h

pub two_range : (k op : ℕ) → (k ≡ 5 → ⊥) → k ≡ 11 → {s t : List ℕ} {base : ℕ} {x : Applied} → OnTwo range_of s t base x → OnTwo (of_two k op) s t base x
two_range k op n e h = rw (ne_eqb k 5 n, eq-eqb k 11 e) h

pub two_apply : (k op : ℕ) → (k ≡ 5 → ⊥) → (k ≡ 11 → ⊥) → {s t : List ℕ} {base : ℕ} {x : Applied} → OnTwo apply_to s t base x → OnTwo (of_two k op) s t base x
two_apply k op n m h = rw (ne_eqb k 5 n, ne_eqb k 11 m) h

pub two_operator : {k op : ℕ} → OfTwo k op → k ≡ 5 → Binary op
two_operator (inl h) e = h.1
two_operator (inr (inl h)) e = absurd (omega arith)
two_operator (inr (inr h)) e = absurd (omega arith)
