-- 18, 19, 20: a law for each place of the loop that builds a comprehension.
use mathlib.Core.Path.{◌≡◌, refl, sym, ap, subst, ◌∙◌}
use mathlib.Core.Bool.{Bool, false}
use mathlib.Core.List.{List, ◌∷◌}
use Prim.Native.Nat.{ℕ, suc, ◌+◌, ◌≤◌, ◌<◌}
use native.Mathlib.Omega.{arith}
use lib.ListN.{length, get_or, drop}
use lib.Seq.{drop-cons, drop-length}
use borrow.Author.Tests.{ne_eqb}
use Rattle.values.specs.Value.{Kind, number, Value, collection, Items, none}
use Rattle.values.specs.Place.{At}
use Rattle.values.specs.Contract.{Copyable, Copied}
use Rattle.values.proofs.Records.{holds as held_at, one_value}
use Rattle.choices.specs.State.{Choices, Invariant}
use Rattle.choices.specs.Tree.{Tree, bind}
use Rattle.collections.specs.Building.{Empties}
use Rattle.tables.specs.Table.{kind_at}
use Rattle.tables.specs.Accepted.{records}
use Rattle.patterns.specs.Binding.{Binding, nothing}
use Rattle.calling.specs.Scratch.{Kept}
use Rattle.calling.proofs.Framing.{kept_outside, kept_then, kept_less, kept_same, copyable_down, copied_kept}
use Rattle.meaning.specs.State.{State}
use Rattle.evaluator.specs.Contract.{has_value}
use Rattle.bindings.specs.declared.Cursor.{Cursor}
use Rattle.parts.specs.declared.words.Env.{Env}
use Rattle.evaluator.specs.Binding.{Placed, Binder, wholly, listed, Standing, Begins, Turned, holds_in, Comprehension, kind_for, adds_in, step_in, BuiltAt, Extends, Extended}
use Rattle.evaluator.specs.Building.{built_kind, enumeration_for}
use Rattle.evaluator.specs.Contract.{Ask, Around, Evaluated, ended, Comes, gave, off, Gives, Evaluates, meant, value_as}
use Rattle.evaluator.proofs.Framing.{around_kept}
use Rattle.evaluator.proofs.Coming.{value_refused, comes_sound, comes_held, comes_value}
use Rattle.evaluator.proofs.Leading.{Leads, leads_start, leads_as}
use Rattle.evaluator.proofs.Collecting.{building, building_end, building_off, building_on}
use Rattle.evaluator.proofs.Standing.{standing_kept, standing_one}
use Rattle.evaluator.proofs.Simple.{built_small}
use Rattle.evaluator.proofs.Enumerating.{shaped_none}
use Rattle.evaluator.proofs.Tables.{room_here}
use Rattle.evaluator.proofs.Meant.{build_in, mean_comprehension}
use Rattle.evaluator.proofs.Opening.{leads_comes, ask_again, opened_off, opened_asked, opened_standing, opened_on}

-- The bindings bs are still to come, and vs are built.
abbrev rest_in : List ℕ → ℕ → ℕ → State → Items → List Binding → Tree Value
rest_in table r k ρ vs bs = building (holds_in table r ρ) (adds_in table r k ρ) (kind_for k) vs bs

-- From s₀ and c₀, where nothing is built yet, up to binding j.
pub record Collects (table : List ℕ) (r k : ℕ) (s₀ : List ℕ) (base : ℕ) (env : Env) (c₀ : Choices) (n : ℕ) (s : List ℕ) (c : Choices) (cursor : Cursor) (j : ℕ) : Type 0 where
  pub asked : Ask table r s₀ base env c₀
  pub kind : kind_at (records table) r ≡ k
  pub comprehension : Comprehension k
  pub bindings : List Binding
  pub only : (k : Cursor) (bs : List Binding) → Standing table r false s₀ base k bs → bs ≡ bindings
  pub standing : Standing table r false s base cursor bindings
  pub number_of : n ≡ length bindings
  pub within : j ≤ n
  pub kept : Kept s₀ s (base + 512)
  pub sound : Invariant c
  pub items : Items
  pub built : BuiltAt k s base items
  pub right : (ρ : State) → Around s₀ base env ρ → Leads (build_in table r ρ k bindings) c₀ (rest_in table r k ρ items (drop j bindings)) c

binder_of : {k : ℕ} → Comprehension k → Binder k
binder_of h = (omega (arith, h.0), omega (arith, h.1))

collects_start : {table : List ℕ} {r k : ℕ} {s : List ℕ} {base : ℕ} {env : Env} {c : Choices} {n : ℕ} {cursor : Cursor} {bs : List Binding} → Ask table r s base env c → kind_at (records table) r ≡ k → Comprehension k
    → Standing table r false s base cursor bs → BuiltAt k s base none → n ≡ cursor.count → Collects table r k s base env c n s c cursor 0
collects_start {s = s} {base = base} {bs = bs} a d h w b e =
    record {
      asked = a;
      kind = d;
      comprehension = h;
      bindings = bs;
      only = λ k bs v. standing_one v w;
      standing = w;
      number_of = omega (arith, w.window.count);
      within = omega arith;
      kept = kept_same s (base + 512);
      sound = a.sound;
      items = none;
      built = b;
      right = λ ρ u. leads_start a.sound refl;
    }

items_one : {s : List ℕ} {at : ℕ} {K : Kind} {vs ws : Items} → At s at (collection K vs) → At s at (collection K ws) → vs ≡ ws
items_one a b = let e = one_value a b in cc

module _ {table : List ℕ} {r k : ℕ} {s₀ : List ℕ} {base : ℕ} {env : Env} {c₀ : Choices} {n : ℕ} {s : List ℕ} {c : Choices} {cursor : Cursor} {j : ℕ} (b : Collects table r k s₀ base env c₀ n s c cursor j) where
  low : Kept s₀ s base
  low = kept_less (omega arith) b.kept

  module _ (l : j < n) where
    pub collects_extends : Extends table r k s base env c cursor j
    collects_extends =
        record {
          stands = record { asked = ask_again b.asked low b.sound; binder = subst Binder (sym b.kind) (binder_of b.comprehension); bindings = b.bindings; standing = b.standing; below = omega (arith, b.number_of) };
          kind = b.kind;
          comprehension = b.comprehension;
          items = b.items;
          built = b.built;
        }

    module _ {t : List ℕ} {x : Placed} {d : Choices} (o : Extended (step_in table r k) table r k s t base env c cursor j x d) where
      abbrev here : Binding
      here = get_or b.bindings j nothing

      turned : Turned (λ ρ. step_in table r k ρ b.items here) (BuiltAt k t base) table r false b.bindings s t base env c (ended x.outcome d) x.cursor
      turned = o b.bindings b.items b.standing b.built

      opened : (ρ : State) → Around s₀ base env ρ → Leads (build_in table r ρ k b.bindings) c₀ (rest_in table r k ρ b.items (here ∷ drop (j + 1) b.bindings)) c
      opened ρ u =
          let z : suc j ≡ j + 1 = omega arith in
          leads_as (ap (rest_in table r k ρ b.items) (drop-cons b.bindings j nothing (omega (arith, b.number_of)) ∙ ap (λ (m : ℕ). here ∷ drop m b.bindings) z)) (b.right ρ u)

      stepped : (ρ : State) → Around s₀ base env ρ → Comes (step_in table r k ρ b.items here) (BuiltAt k t base) c (ended x.outcome d)
      stepped ρ u = turned.given.right ρ (around_kept low u)

      pub collects_off : (x.outcome ≡ has_value → ⊥) → {P : Value → Type 0} → Gives (λ ρ. build_in table r ρ k b.bindings) P s₀ t base env c₀ (ended x.outcome d)
      collects_off h {P} = record { kept = kept_then low turned.given.kept; right = λ ρ u. go ρ (opened ρ u) (stepped ρ u) }
        where
          go : (ρ : State) → Leads (build_in table r ρ k b.bindings) c₀ (rest_in table r k ρ b.items (here ∷ drop (j + 1) b.bindings)) c → Comes (step_in table r k ρ b.items here) (BuiltAt k t base) c (ended x.outcome d) → Comes (build_in table r ρ k b.bindings) P c₀ (ended x.outcome d)
          go ρ m (gave y p w) = absurd (h y)
          go ρ m (off y w) = off y (building_off (holds_in table r ρ) (adds_in table r k ρ) (kind_for k) b.items here (drop (j + 1) b.bindings) m w)

      pub collects_more : x.outcome ≡ has_value → {j' : ℕ} {cursor' : Cursor} → j' ≡ j + 1 → cursor' ≡ x.cursor → Collects table r k s₀ base env c₀ n t d cursor' j'
      collects_more v {j'} {cursor'} z y =
          let (ws, i) = comes_held (stepped b.asked.state b.asked.around) v in
          record {
            asked = b.asked;
            kind = b.kind;
            comprehension = b.comprehension;
            bindings = b.bindings;
            only = b.only;
            standing = subst (λ (m : Cursor). Standing table r false t base m b.bindings) (sym y) turned.standing;
            number_of = b.number_of;
            within = omega arith;
            kept = kept_then b.kept turned.low;
            sound = comes_sound (stepped b.asked.state b.asked.around);
            items = ws;
            built = i;
            right = λ ρ u. subst (λ (m : ℕ). Leads (build_in table r ρ k b.bindings) c₀ (rest_in table r k ρ ws (drop m b.bindings)) d) (sym z) (go ws i ρ (opened ρ u) (stepped ρ u));
          }
        where
          go : (ws : Items) → BuiltAt k t base ws → (ρ : State) → Leads (build_in table r ρ k b.bindings) c₀ (rest_in table r k ρ b.items (here ∷ drop (j + 1) b.bindings)) c → Comes (step_in table r k ρ b.items here) (BuiltAt k t base) c (ended x.outcome d)
              → Leads (build_in table r ρ k b.bindings) c₀ (rest_in table r k ρ ws (drop (j + 1) b.bindings)) d
          go ws i ρ m (gave y p w) =
              leads_as (ap (λ (us : Items). rest_in table r k ρ us (drop (j + 1) b.bindings)) (items_one p i))
              (building_on (holds_in table r ρ) (adds_in table r k ρ) (kind_for k) b.items here (drop (j + 1) b.bindings) m w)
          go ws i ρ m (off y w) = value_refused v y

  pub collects_copyable : Copyable s (base + 1024) base
  collects_copyable = copyable_down (omega arith) (held_at b.built)

  pub collects_end : n ≤ j → {t : List ℕ} {m : ℕ} → Copied s t (base + 1024) base m → Gives (λ ρ. build_in table r ρ k b.bindings) (At t base) s₀ t base env c₀ (value_as c)
  collects_end h {t} o =
      record {
        kept = kept_then low (copied_kept o);
        right = λ ρ u. leads_comes
            (leads_as (ap (rest_in table r k ρ b.items) (ap (λ (m : ℕ). drop m b.bindings) (let z : j ≡ length b.bindings = omega (arith, b.number_of, b.within) in z) ∙ drop-length b.bindings) ∙ building_end (holds_in table r ρ) (adds_in table r k ρ) (kind_for k) b.items) (b.right ρ u))
            (comes_value b.sound (o.here (collection (kind_for k) b.items) b.built));
      }

-- ---- from the start

-- The number of the kind that is built, by the enumeration that builds it.
pub kind_as : (k : ℕ) {e m : ℕ} → e ≡ enumeration_for k → m ≡ number (built_kind e) → m ≡ number (kind_for k)
kind_as k d q = q ∙ ap (λ (x : ℕ). number (built_kind x)) d

module _ {table : List ℕ} {r : ℕ} (k : ℕ) {s : List ℕ} {base : ℕ} {env : Env} {c : Choices} (a : Ask table r s base env c) (d : kind_at (records table) r ≡ k) (h : Comprehension k)
    {t : List ℕ} {x : Placed} {c₁ : Choices} (g : Begins table r k s t base env c x c₁) where
  equation : (ρ : State) → meant table r ρ ≡ bind (listed table r k ρ) (build_in table r ρ k)
  equation ρ = mean_comprehension a.legal r ρ k h.0 h.1 d

  not_whole : wholly k ≡ false
  not_whole = ne_eqb k 12 (λ e. omega (arith, h.0))

  pub collect_off : (x.outcome ≡ has_value → ⊥) → Evaluates table r s t base env c (ended x.outcome c₁)
  collect_off n = opened_off k a g (λ ρ. build_in table r ρ k) equation n

  pub collect_room : {m : ℕ} → m ≡ number (kind_for k) → (base + 1024 + 4 ≤ length t) × (m < 65536)
  collect_room e = (omega (arith, room_here a, g.kept.long), built_small (enumeration_for k) e)

  module _ (v : x.outcome ≡ has_value) {m : ℕ} (is_m : m ≡ number (kind_for k)) {u : List ℕ} (o : Empties t u (base + 1024) m) where
    kept-empty : Kept t u (base + 1024)
    kept-empty = kept_outside (omega arith) o.frame

    standing_at : (bs : List Binding) × Standing table r false t base x.cursor bs
    standing_at = let (bs, w) = opened_standing k a g v in (bs, subst (λ (y : Bool). Standing table r y t base x.cursor bs) not_whole w)

    pub collect_start : {n : ℕ} → n ≡ x.cursor.count → Collects table r k u base env c₁ n u c₁ x.cursor 0
    collect_start e =
        let (bs, w) = standing_at in
        collects_start (ask_again (opened_asked k a g v) (kept_less (omega arith) kept-empty) (opened_asked k a g v).sound) d h (standing_kept kept-empty (omega arith) w) (o.right (kind_for k) is_m (shaped_none (enumeration_for k))) e

    -- Whatever the loop comes to.
    pub collect_whole : {bs : List Binding} → ((k : Cursor) (bs' : List Binding) → Standing table r false u base k bs' → bs' ≡ bs) → {w : List ℕ} {P : Value → Type 0} {e : Evaluated} → Gives (λ ρ. build_in table r ρ k bs) P u w base env c₁ e → Gives (meant table r) P s w base env c e
    collect_whole {bs} only n =
        let (bs', w) = standing_at in
        opened_on k a g v (λ ρ. build_in table r ρ k) equation
        (subst (λ (y : Bool). Standing table r y t base x.cursor bs) (sym not_whole) (subst (Standing table r false t base x.cursor) (only x.cursor bs' (standing_kept kept-empty (omega arith) w)) w))
        (record { kept = kept_then (kept_less (omega arith) kept-empty) n.kept; right = λ ρ i. n.right ρ (around_kept (kept_less (omega arith) kept-empty) i) })
