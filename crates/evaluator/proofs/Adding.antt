-- 18, 19, 20: a law for each place of one binding of a comprehension.
use mathlib.Core.Path.{◌≡◌, refl, sym, ap, subst, ◌∙◌}
use mathlib.Core.Bool.{Bool, true, false, cond}
use mathlib.Core.Logic.{◌⊎◌, inl, inr}
use mathlib.Core.List.{List}
use Prim.Native.Nat.{ℕ, ◌+◌, ◌≤◌, ◌<◌}
use native.Mathlib.Omega.{arith}
use lib.ListN.{length, get_or}
use Rattle.values.specs.Value.{Value, collection, Items}
use Rattle.values.specs.Place.{At}
use Rattle.values.proofs.Records.{holds as held_at}
use Rattle.choices.specs.State.{Choices, Invariant}
use Rattle.choices.specs.Tree.{Tree, give, stop, bind}
use Rattle.operators.specs.Answer.{Built, built}
use Rattle.operators.specs.Enumerations.{add_entry}
use Rattle.tables.specs.Record.{named}
use Rattle.tables.specs.Table.{record_at}
use Rattle.tables.specs.Accepted.{records}
use Rattle.tables.proofs.Laws.Accepted.{height_operand, height-at, operand_lower}
use Rattle.patterns.specs.Binding.{Binding, nothing}
use Rattle.calling.specs.Scratch.{Kept}
use Rattle.calling.proofs.Framing.{kept_then, kept_less, kept_same}
use Rattle.meaning.specs.State.{State, under}
use Rattle.meaning.specs.Meaning.{built_at}
use Rattle.evaluator.specs.Contract.{Ended}
use Rattle.evaluator.specs.Contract.{has_value}
use Rattle.bindings.specs.declared.Cursor.{Cursor}
use Rattle.parts.specs.declared.words.Env.{Env}
use Rattle.evaluator.specs.Binding.{Placed, Held, Standing, Stands, Insides, holds_in, Tests, kind_for, adds_in, step_in, BuiltAt, Extends, Extended}
use Rattle.std.specs.Prelude.{Ok}
use Rattle.prelude.specs.Refusals.{number_of}
use Rattle.evaluator.specs.Contract.{Ended, at_record}
use Rattle.evaluator.specs.Building.{SoFar, Enumerated, built_kind, enumeration_for, add_to, Pending, going, halted, AddHeld, AddsNext, EnterHeld, EntersNext}
use Rattle.evaluator.specs.Contract.{Ask, Around, ended, Comes, meant, operand_at}
use Rattle.evaluator.proofs.Framing.{around_kept}
use Rattle.evaluator.proofs.Coming.{comes_on, comes_stop, comes_as, comes_sound, comes_held, comes_value, comes_refused}
use Rattle.evaluator.proofs.Standing.{standing_kept}
use Rattle.evaluator.proofs.Tables.{fine_of}
use Rattle.evaluator.proofs.Opening.{ask_again}

-- ---- room for a value above the level

module _ {table : List ℕ} {r : ℕ} {s : List ℕ} {base : ℕ} {env : Env} {c : Choices} (a : Ask table r s base env c) where
  pub room_two : {i : ℕ} → i < length (named (record_at (records table) r)) → base + 4096 ≤ length s
  room_two {i} l =
      let w = (fine_of a.legal).clear6 in
      let low = operand_lower (records table) w r i a.within l in
      omega (arith, a.room, height_operand (records table) w r i a.within l, height-at (records table) w (operand_at table r i) (omega (arith, a.within, low)))

-- ---- what was built, as an outcome

pending_comes : {k : ℕ} {t : List ℕ} {at : ℕ} {so_far : SoFar} {o : Ended} (r : ℕ) → o ≡ at_record so_far r → {c : Choices} {b : Built} → Invariant c → Pending k t at so_far b → Comes (built_at r b) (λ ws. At t at (collection (built_kind k) ws)) c (ended o c)
pending_comes {k} {t} {at} {so_far} r d {c} h (going {vs = vs} e a) = subst (λ (y : Ended). Comes (give vs) (λ ws. At t at (collection (built_kind k) ws)) c (ended y c)) (sym (d ∙ ap (λ (m : SoFar). at_record m r) e)) (comes_value h a)
pending_comes {k} {t} {at} {so_far} r d {c} h (halted {x = x} e) = subst (λ (y : Ended). Comes (stop (number_of x) r) (λ ws. At t at (collection (built_kind k) ws)) c (ended y c)) (sym (d ∙ ap (λ (m : SoFar). at_record m r) e)) (comes_refused x r h)

-- ---- an element: 18, 19

adds_one : (table : List ℕ) (r k : ℕ) (ρ : State) (vs : Items) (b : Binding) → (k ≡ 18) ⊎ (k ≡ 19) → adds_in table r k ρ vs b ≡ bind (meant table (operand_at table r 3) (under ρ b)) (λ v. built_at r (add_to (enumeration_for k) vs v))
adds_one table r k ρ vs b (inl e) = ap (λ (m : ℕ). adds_in table r m ρ vs b) e ∙ ap (λ (m : ℕ). bind (meant table (operand_at table r 3) (under ρ b)) (λ v. built_at r (add_to (enumeration_for m) vs v))) (sym e)
adds_one table r k ρ vs b (inr e) = ap (λ (m : ℕ). adds_in table r m ρ vs b) e ∙ ap (λ (m : ℕ). bind (meant table (operand_at table r 3) (under ρ b)) (λ v. built_at r (add_to (enumeration_for m) vs v))) (sym e)

module _ {table : List ℕ} {r k : ℕ} {s : List ℕ} {base : ℕ} {env : Env} {c : Choices} {cursor : Cursor} {j : ℕ} (a : Extends table r k s base env c cursor j) (one : (k ≡ 18) ⊎ (k ≡ 19)) {q : ℕ} (is_q : q ≡ operand_at table r 3)
    {t : List ℕ} {x : Placed} {d : Choices} (o : Insides table r q false s t base 1536 env c cursor j x d) where
  element : {bs : List Binding} → Standing table r false s base cursor bs → (ρ : State) → Around s base env ρ → Comes (meant table (operand_at table r 3) (under ρ (get_or bs j nothing))) (At t (base + 1536)) c (ended x.outcome d)
  element {bs} h ρ u = subst (λ (m : ℕ). Comes (meant table m (under ρ (get_or bs j nothing))) (At t (base + 1536)) c (ended x.outcome d)) is_q ((o.turned bs h).given.right ρ u)

  built_still : {vs : Items} → BuiltAt k s base vs → BuiltAt k t base vs
  built_still {vs} h = o.between (base + 1024) (collection (kind_for k) vs) (omega arith) (omega arith) h

  pub item_off : (x.outcome ≡ has_value → ⊥) → Extended (adds_in table r k) table r k s t base env c cursor j x d
  item_off n bs vs h g =
      let w = o.turned bs h in
      record {
        given = record { kept = w.given.kept; right = λ ρ u. comes_as (adds_one table r k ρ vs (get_or bs j nothing) one) (comes_stop (λ v. built_at r (add_to (enumeration_for k) vs v)) (element h ρ u) n) };
        low = w.low;
        standing = w.standing;
      }

  module _ (v : x.outcome ≡ has_value) where
    enumerated : (k ≡ 18) ⊎ (k ≡ 19) → Enumerated (enumeration_for k)
    enumerated (inl e) = inl (ap enumeration_for e)
    enumerated (inr e) = inr (inl (ap enumeration_for e))

    item_ready : 3 < length (named (record_at (records table) r)) → AddHeld (enumeration_for k) t (base + 1024) (Ok tt)
    item_ready l =
        let (w, i) = comes_held (element a.stands.standing a.stands.asked.state a.stands.asked.around) v in
        record {
          which = enumerated one;
          before = built a.items;
          pending = going refl (built_still a.built);
          item = held_at (subst (λ (n : ℕ). At t n w) (let z : base + 1536 ≡ base + 1024 + 512 = omega arith in z) i);
          room = omega (arith, room_two a.stands.asked l, (o.turned a.stands.bindings a.stands.standing).low.long);
        }

    pub item_held : {m : ℕ} → m ≡ enumeration_for k → 3 < length (named (record_at (records table) r)) → AddHeld m t (base + 1024) (Ok tt)
    item_held e l = subst (λ (n : ℕ). AddHeld n t (base + 1024) (Ok tt)) (sym e) (item_ready l)

    item_added : {u : List ℕ} {bad : SoFar} → AddsNext (enumeration_for k) t u (base + 1024) (Ok tt) bad → {y : Placed} → y.outcome ≡ at_record bad r → y.cursor ≡ x.cursor → Extended (adds_in table r k) table r k s u base env c cursor j y d
    item_added {u} {bad} f {y} e e' bs vs h g =
        let w = o.turned bs h in
        record {
          given = record {
            kept = kept_then w.given.kept (kept_less (omega arith) f.kept);
            right = λ ρ b. subst (λ (p : Ended). Comes (adds_in table r k ρ vs (get_or bs j nothing)) (BuiltAt k u base) c (ended p d)) (sym e)
                (comes_as (adds_one table r k ρ vs (get_or bs j nothing) one)
                (comes_on (λ v. built_at r (add_to (enumeration_for k) vs v)) (element h ρ b) v (λ z i. pending_comes r refl (comes_sound (element h ρ b))
                (f.right (built vs) z (going refl (built_still g)) (subst (λ (n : ℕ). At t n z) (let m : base + 1536 ≡ base + 1024 + 512 = omega arith in m) i)))));
          };
          low = kept_then w.low (kept_less (omega arith) f.kept);
          standing = subst (λ (p : Cursor). Standing table r false u base p bs) (sym e') (standing_kept {n = base + 1024} f.kept (omega arith) w.standing);
        }

    pub item_done : {m : ℕ} → m ≡ enumeration_for k → {u : List ℕ} {bad : SoFar} → AddsNext m t u (base + 1024) (Ok tt) bad → {y : Placed} → y.outcome ≡ at_record bad r → y.cursor ≡ x.cursor → Extended (adds_in table r k) table r k s u base env c cursor j y d
    item_done e {u} {bad} f {y} p q = item_added (subst (λ (n : ℕ). AddsNext n t u (base + 1024) (Ok tt) bad) e f) {y = y} p q

-- ---- a key and a value: 20

adds_pair : (table : List ℕ) (r k : ℕ) (ρ : State) (vs : Items) (b : Binding) → k ≡ 20
    → adds_in table r k ρ vs b ≡ bind (meant table (operand_at table r 3) (under ρ b)) (λ key. bind (meant table (operand_at table r 4) (under ρ b)) (λ v. built_at r (add_entry vs key v)))
adds_pair table r k ρ vs b e = ap (λ (m : ℕ). adds_in table r m ρ vs b) e

module _ {table : List ℕ} {r k : ℕ} {s : List ℕ} {base : ℕ} {env : Env} {c : Choices} {cursor : Cursor} {j : ℕ} (a : Extends table r k s base env c cursor j) (is_20 : k ≡ 20) {q : ℕ} (is_q : q ≡ operand_at table r 3)
    {t : List ℕ} {x : Placed} {d : Choices} (o : Insides table r q false s t base 1536 env c cursor j x d) where
  key : {bs : List Binding} → Standing table r false s base cursor bs → (ρ : State) → Around s base env ρ → Comes (meant table (operand_at table r 3) (under ρ (get_or bs j nothing))) (At t (base + 1536)) c (ended x.outcome d)
  key {bs} h ρ u = subst (λ (m : ℕ). Comes (meant table m (under ρ (get_or bs j nothing))) (At t (base + 1536)) c (ended x.outcome d)) is_q ((o.turned bs h).given.right ρ u)

  abbrev after : State → Items → Binding → Value → Tree Items
  after ρ vs b w = bind (meant table (operand_at table r 4) (under ρ b)) (λ v. built_at r (add_entry vs w v))

  pub pair_off : (x.outcome ≡ has_value → ⊥) → Extended (adds_in table r k) table r k s t base env c cursor j x d
  pair_off n bs vs h g =
      let w = o.turned bs h in
      record {
        given = record { kept = w.given.kept; right = λ ρ u. comes_as (adds_pair table r k ρ vs (get_or bs j nothing) is_20) (comes_stop (after ρ vs (get_or bs j nothing)) (key h ρ u) n) };
        low = w.low;
        standing = w.standing;
      }

  module _ (v : x.outcome ≡ has_value) where
    -- The value is asked for under the same binding.
    pub pair_stands : Stands table r false t base env d x.cursor j
    pair_stands =
        let b = a.stands in
        let w = o.turned b.bindings b.standing in
        record { asked = ask_again b.asked w.given.kept (comes_sound (w.given.right b.asked.state b.asked.around)); binder = b.binder; bindings = b.bindings; standing = w.standing; below = b.below }

    module _ {p : ℕ} (is_p : p ≡ operand_at table r 4) {u : List ℕ} {y : Placed} {f : Choices} (o' : Insides table r p false t u base 2048 env d x.cursor j y f) where
      value : {bs : List Binding} → Standing table r false s base cursor bs → (ρ : State) → Around s base env ρ → Comes (meant table (operand_at table r 4) (under ρ (get_or bs j nothing))) (At u (base + 2048)) d (ended y.outcome f)
      value {bs} h ρ b =
          let w = o.turned bs h in
          subst (λ (m : ℕ). Comes (meant table m (under ρ (get_or bs j nothing))) (At u (base + 2048)) d (ended y.outcome f)) is_p ((o'.turned bs w.standing).given.right ρ (around_kept w.given.kept b))

      built_up : {vs : Items} → BuiltAt k s base vs → BuiltAt k u base vs
      built_up {vs} h = o'.between (base + 1024) (collection (kind_for k) vs) (omega arith) (omega arith) (o.between (base + 1024) (collection (kind_for k) vs) (omega arith) (omega arith) h)

      as_map : {vs : Items} → BuiltAt k u base vs → At u (base + 1024) (collection (built_kind 9) vs)
      as_map {vs} h = subst (λ (m : ℕ). At u (base + 1024) (collection (kind_for m) vs)) is_20 h

      key_up : {w : Value} → At t (base + 1536) w → At u (base + 1536) w
      key_up {w} i = o'.between (base + 1536) w (omega arith) (omega arith) i

      both : (m : State → Items → Binding → Tree Items) {u' : List ℕ} {z : Placed} → Kept u u' (base + 1024) → z.cursor ≡ y.cursor → ((bs : List Binding) (vs : Items) → Standing table r false s base cursor bs → BuiltAt k s base vs → (ρ : State) → Around s base env ρ → Comes (m ρ vs (get_or bs j nothing)) (BuiltAt k u' base) c (ended z.outcome f))
          → Extended m table r k s u' base env c cursor j z f
      both m {u'} {z} l e g bs vs h b =
          let w = o.turned bs h in
          let w' = o'.turned bs w.standing in
          record {
            given = record { kept = kept_then w.given.kept (kept_then w'.given.kept (kept_less (omega arith) l)); right = λ ρ i. g bs vs h b ρ i };
            low = kept_then w.low (kept_then w'.low (kept_less (omega arith) l));
            standing = subst (λ (n : Cursor). Standing table r false u' base n bs) (sym e) (standing_kept {n = base + 1024} l (omega arith) w'.standing);
          }

      pub pair_value_off : (y.outcome ≡ has_value → ⊥) → Extended (adds_in table r k) table r k s u base env c cursor j y f
      pair_value_off n =
          both (adds_in table r k) (kept_same u (base + 1024)) refl (λ bs vs h g ρ b.
          comes_as (adds_pair table r k ρ vs (get_or bs j nothing) is_20)
          (comes_on (after ρ vs (get_or bs j nothing)) (key h ρ b) v (λ w i. comes_stop (λ z. built_at r (add_entry vs w z)) (value h ρ b) n)))

      module _ (v' : y.outcome ≡ has_value) where
        pub pair_held : 4 < length (named (record_at (records table) r)) → EnterHeld u (base + 1024) (Ok tt)
        pair_held l =
            let b = a.stands in
            let (w, i) = comes_held (key b.standing b.asked.state b.asked.around) v in
            let (w', i') = comes_held (value b.standing b.asked.state b.asked.around) v' in
            record {
              before = built a.items;
              pending = going refl (as_map (built_up a.built));
              key = held_at (subst (λ (n : ℕ). At u n w) (let z : base + 1536 ≡ base + 1024 + 512 = omega arith in z) (key_up i));
              value = held_at (subst (λ (n : ℕ). At u n w') (let z : base + 2048 ≡ base + 1024 + 1024 = omega arith in z) i');
              room = omega (arith, room_two b.asked l, (o.turned b.bindings b.standing).low.long, (o'.turned b.bindings (o.turned b.bindings b.standing).standing).low.long);
            }

        pub pair_done : {u' : List ℕ} {bad : SoFar} → EntersNext u u' (base + 1024) (Ok tt) bad → {z : Placed} → z.outcome ≡ at_record bad r → z.cursor ≡ y.cursor → Extended (adds_in table r k) table r k s u' base env c cursor j z f
        pair_done {u'} {bad} g {z} e e' =
            both (adds_in table r k) {z = z} g.kept e' (λ bs vs h b ρ n.
            subst (λ (p : Ended). Comes (adds_in table r k ρ vs (get_or bs j nothing)) (BuiltAt k u' base) c (ended p f)) (sym e)
            (comes_as (adds_pair table r k ρ vs (get_or bs j nothing) is_20)
            (comes_on (after ρ vs (get_or bs j nothing)) (key h ρ n) v (λ w i.
            comes_on (λ y. built_at r (add_entry vs w y)) (value h ρ n) v' (λ w' i'.
            subst (λ (m : ℕ). Comes (built_at r (add_entry vs w w')) (λ ws. At u' (base + 1024) (collection (kind_for m) ws)) f (ended (at_record bad r) f)) (sym is_20)
            (pending_comes r refl (comes_sound (value h ρ n))
            (g.right (built vs) w w' (going refl (as_map (built_up b)))
            (subst (λ (n : ℕ). At u n w) (let z : base + 1536 ≡ base + 1024 + 512 = omega arith in z) (key_up i))
            (subst (λ (n : ℕ). At u n w') (let z : base + 2048 ≡ base + 1024 + 1024 = omega arith in z) i'))))))))

-- ---- one binding

module _ {table : List ℕ} {r k : ℕ} {s : List ℕ} {base : ℕ} {env : Env} {c : Choices} {cursor : Cursor} {j : ℕ} (a : Extends table r k s base env c cursor j)
    {t : List ℕ} {h : Held} {d : Choices} (o : Tests table r s t base env c cursor j h d) where
  tested : {bs : List Binding} → Standing table r false s base cursor bs → (ρ : State) → Around s base env ρ → Comes (holds_in table r ρ (get_or bs j nothing)) (λ y. h.yes ≡ y) c (ended h.outcome d)
  tested {bs} g ρ u = (o.turned bs g).given.right ρ u

  pub step_off : (h.outcome ≡ has_value → ⊥) → {x : Placed} → x.outcome ≡ h.outcome → x.cursor ≡ h.cursor → Extended (step_in table r k) table r k s t base env c cursor j x d
  step_off n {x} e e' bs vs g b =
      let w = o.turned bs g in
      record {
        given = record { kept = w.given.kept; right = λ ρ u. subst (λ (p : Ended). Comes (step_in table r k ρ vs (get_or bs j nothing)) (BuiltAt k t base) c (ended p d)) (sym e) (comes_stop (λ y. cond y (adds_in table r k ρ vs (get_or bs j nothing)) (give vs)) (tested g ρ u) n) };
        low = w.low;
        standing = subst (λ (n : Cursor). Standing table r false t base n bs) (sym e') w.standing;
      }

  module _ (v : h.outcome ≡ has_value) where
    built_still' : {vs : Items} → BuiltAt k s base vs → BuiltAt k t base vs
    built_still' {vs} b = o.between (base + 1024) (collection (kind_for k) vs) (omega arith) (omega arith) b

    pub step_false : h.yes ≡ false → {x : Placed} → x.outcome ≡ has_value → x.cursor ≡ h.cursor → Extended (step_in table r k) table r k s t base env c cursor j x d
    step_false z {x} e e' bs vs g b =
        let w = o.turned bs g in
        record {
          given = record {
            kept = w.given.kept;
            right = λ ρ u. subst (λ (p : Ended). Comes (step_in table r k ρ vs (get_or bs j nothing)) (BuiltAt k t base) c (ended p d)) (sym e)
                (comes_on (λ y. cond y (adds_in table r k ρ vs (get_or bs j nothing)) (give vs)) (tested g ρ u) v (λ y y'.
                comes_as (ap (λ (m : Bool). cond m (adds_in table r k ρ vs (get_or bs j nothing)) (give vs)) (sym y' ∙ z)) (comes_value (comes_sound (tested g ρ u)) (built_still' b))));
          };
          low = w.low;
          standing = subst (λ (n : Cursor). Standing table r false t base n bs) (sym e') w.standing;
        }

    pub step_extends : Extends table r k t base env d h.cursor j
    step_extends =
        let b = a.stands in
        let w = o.turned b.bindings b.standing in
        record {
          stands = record { asked = ask_again b.asked w.given.kept (comes_sound (w.given.right b.asked.state b.asked.around)); binder = b.binder; bindings = b.bindings; standing = w.standing; below = b.below };
          kind = a.kind;
          comprehension = a.comprehension;
          items = a.items;
          built = built_still' a.built;
        }

    pub step_true : h.yes ≡ true → {u : List ℕ} {x : Placed} {f : Choices} → Extended (adds_in table r k) table r k t u base env d h.cursor j x f → Extended (step_in table r k) table r k s u base env c cursor j x f
    step_true z {u} {x} {f} n bs vs g b =
        let w = o.turned bs g in
        let m = n bs vs w.standing (built_still' b) in
        record {
          given = record {
            kept = kept_then w.given.kept m.given.kept;
            right = λ ρ i. comes_on (λ y. cond y (adds_in table r k ρ vs (get_or bs j nothing)) (give vs)) (tested g ρ i) v (λ y y'.
                comes_as (ap (λ (l : Bool). cond l (adds_in table r k ρ vs (get_or bs j nothing)) (give vs)) (sym y' ∙ z)) (m.given.right ρ (around_kept w.given.kept i)));
          };
          low = kept_then w.low m.low;
          standing = m.standing;
        }
