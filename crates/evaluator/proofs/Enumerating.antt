-- Enumerations: operands are added as they come, and a refusal of the building waits for the end.
use mathlib.Core.Path.{◌≡◌, refl, sym, ap, subst, ◌∙◌}
use mathlib.Core.Bool.{Bool, true, false, cond}
use mathlib.Core.Option.{Option, none as absent, some}
use mathlib.Core.Logic.{◌⊎◌, inl, inr}
use mathlib.Core.List.{List, [], ◌∷◌}
use Prim.Native.Nat.{ℕ, suc, ◌+◌, ◌%◌, ◌≤◌, ◌<◌}
use native.Mathlib.Omega.{arith}
use lib.Dec.{eqb, leb}
use lib.ListN.{length, get_or, drop}
use lib.Seq.{drop-cons, drop-length}
use borrow.Author.Tests.{eq-eqb, ne_eqb, eqb-true}
use Rattle.prelude.proofs.Absurd.{impossible}
use Rattle.values.specs.Value.{Kind, number, Shaped, set, sequence, map, tuple, count, sizes, PairedFrom, every_other, Ascending, Value, Items, none, more, value_limit}
use Rattle.values.specs.Items.{snoc}
use Rattle.values.specs.Place.{At}
use Rattle.values.proofs.Records.{holds}
use Rattle.collections.specs.Building.{Empties}
use Rattle.values.proofs.Joined.{count_snoc}
use Rattle.choices.specs.State.{Choices, Invariant}
use Rattle.choices.specs.Tree.{Tree, give, bind}
use Rattle.choices.proofs.Came.{came_give, came_stop}
use Rattle.choices.proofs.Trees.{bind_assoc, bind_cong}
use Rattle.operators.specs.Answer.{Answer, Built, built, stopped, closed}
use Rattle.operators.specs.Enumerations.{build_on, add_item, add_entry, add_members, add_items, add_entries, add_entries_at}
use Rattle.tables.specs.Record.{named, operand}
use Rattle.tables.specs.Table.{record_at, kind_at}
use Rattle.tables.specs.Accepted.{records}
use Rattle.tables.specs.Reading.{HasOperand}
use Rattle.calling.specs.Scratch.{Kept}
use Rattle.calling.proofs.Framing.{kept_outside, kept_then, kept_less, kept_same}
use Rattle.meaning.specs.State.{State}
use Rattle.meaning.specs.Meaning.{Evaluation as Evaluates, at, all_of, enumerated}
use Rattle.evaluator.specs.Contract.{Ended}
use Rattle.evaluator.specs.Contract.{has_value}
use Rattle.parts.specs.declared.words.Env.{Env}
use Rattle.evaluator.specs.Contract.{Evaluated, ended, Ask, Around, Gives, Comes, gave, off, meant, level}
use Rattle.std.specs.Prelude.{Ok}
use Rattle.prelude.specs.Refusals.{number_of}
use Rattle.evaluator.specs.Building.{SoFar, Enumerated, built_kind, final_kind, add_to, Pending, going, halted, AddHeld, AddsNext, EnterHeld, EntersNext, ShapedAs, Finishable, Answers, valued, unvalued, Finishes}
use Rattle.evaluator.proofs.Leading.{Leads, leads_start, leads_as}
use Rattle.evaluator.proofs.Framing.{around_kept, around_up, at_kept}
use Rattle.evaluator.proofs.Coming.{comes_held, leads_comes, leads_stop, leads_on}
use Rattle.evaluator.proofs.Tables.{small_place, here, ask_down, lower_down, room_here}
use Rattle.evaluator.proofs.Equations.{mean_many, map_even, tuple_few}

-- ---- what is built, with these items added

abbrev ones : ℕ → Built → Items → Built
ones k b none = b
ones k b (more v vs) = ones k (build_on b (λ us. add_to k us v)) vs

-- of key and value; the key is there where it was just read
abbrev pairs : Built → Option Value → Items → Built
pairs b absent none = b
pairs b (some k) none = b
pairs b absent (more k vs) = pairs b (some k) vs
pairs b (some k) (more v vs) = pairs (build_on b (λ us. add_entry us k v)) absent vs

abbrev all : ℕ → Built → Items → Built
all k b vs = cond (eqb k 9) (pairs b absent vs) (ones k b vs)

ones_set : (b : Built) (vs : Items) → ones 7 b vs ≡ build_on b (λ us. add_members us vs)
unfolding add_members
ones_set (built us) none = refl
ones_set (stopped n) none = refl
ones_set (built us) (more v vs) = ones_set (add_to 7 us v) vs
ones_set (stopped n) (more v vs) = ones_set (stopped n) vs

ones_sequence : (k : ℕ) → eqb k 7 ≡ false → (b : Built) (vs : Items) → ones k b vs ≡ build_on b (λ us. add_items us vs)
unfolding add_items
ones_sequence k e (built us) none = refl
ones_sequence k e (stopped n) none = refl
ones_sequence k e (built us) (more v vs) = rw e (ones_sequence k e (add_item us v) vs)
ones_sequence k e (stopped n) (more v vs) = ones_sequence k e (stopped n) vs

abbrev from_key : Option Value → Items → Items → Built
from_key absent us vs = add_entries us vs
from_key (some k) us vs = add_entries_at us k vs

pairs_map : (b : Built) (o : Option Value) (vs : Items) → pairs b o vs ≡ build_on b (λ us. from_key o us vs)
unfolding add_entries add_entries_at
pairs_map (built us) absent none = refl
pairs_map (stopped n) absent none = refl
pairs_map (built us) (some k) none = refl
pairs_map (stopped n) (some k) none = refl
pairs_map (built us) absent (more k vs) = pairs_map (built us) (some k) vs
pairs_map (stopped n) absent (more k vs) = pairs_map (stopped n) (some k) vs
pairs_map (built us) (some k) (more v vs) = pairs_map (add_entry us k v) absent vs
pairs_map (stopped n) (some k) (more v vs) = pairs_map (stopped n) absent vs

-- ---- the operands os are still to come, and b is built

abbrev pub rest_of : ℕ → ℕ → Evaluates → List ℕ → State → Built → Tree Value
rest_of k r rec os ρ b = bind (all_of rec os ρ) (λ vs. at r (closed (final_kind k) (all k b vs)))

module _ (r : ℕ) (rec : Evaluates) (ρ : State) where
  as_ones : (k : ℕ) → eqb k 9 ≡ false → (os : List ℕ) (b : Built) → rest_of k r rec os ρ b ≡ bind (all_of rec os ρ) (λ vs. at r (closed (final_kind k) (ones k b vs)))
  as_ones k e os b = bind_cong (all_of rec os ρ) _ _ (λ vs. ap (λ (x : Bool). at r (closed (final_kind k) (cond x (pairs b absent vs) (ones k b vs)))) e)

  rest_more : (k : ℕ) → eqb k 9 ≡ false → (o : ℕ) (os : List ℕ) (b : Built) → rest_of k r rec (o ∷ os) ρ b ≡ bind (rec o ρ) (λ v. rest_of k r rec os ρ (build_on b (λ us. add_to k us v)))
  unfolding all_of
  rest_more k e o os b =
      as_ones k e (o ∷ os) b
      ∙ bind_assoc (rec o ρ) (λ v. bind (all_of rec os ρ) (λ vs. give (more v vs))) (λ vs. at r (closed (final_kind k) (ones k b vs)))
      ∙ bind_cong (rec o ρ) _ _ (λ v. bind_assoc (all_of rec os ρ) (λ vs. give (more v vs)) (λ vs. at r (closed (final_kind k) (ones k b vs))) ∙ sym (as_ones k e os (build_on b (λ us. add_to k us v))))

  rest_pair : (o o' : ℕ) (os : List ℕ) (b : Built) → rest_of 9 r rec (o ∷ o' ∷ os) ρ b ≡ bind (rec o ρ) (λ k. bind (rec o' ρ) (λ v. rest_of 9 r rec os ρ (build_on b (λ us. add_entry us k v))))
  unfolding all_of
  rest_pair o o' os b =
      bind_assoc (rec o ρ) (λ k. bind (bind (rec o' ρ) (λ v. bind (all_of rec os ρ) (λ vs. give (more v vs)))) (λ ws. give (more k ws))) (λ vs. at r (closed map (pairs b absent vs)))
      ∙ bind_cong (rec o ρ) _ _ (λ k.
      bind_assoc (bind (rec o' ρ) (λ v. bind (all_of rec os ρ) (λ vs. give (more v vs)))) (λ ws. give (more k ws)) (λ vs. at r (closed map (pairs b absent vs)))
      ∙ bind_assoc (rec o' ρ) (λ v. bind (all_of rec os ρ) (λ vs. give (more v vs))) (λ ws. at r (closed map (pairs b (some k) ws)))
      ∙ bind_cong (rec o' ρ) _ _ (λ v. bind_assoc (all_of rec os ρ) (λ vs. give (more v vs)) (λ ws. at r (closed map (pairs b (some k) ws)))))

  rest_none : (k : ℕ) (b : Built) → rest_of k r rec [] ρ b ≡ at r (closed (final_kind k) b)
  unfolding all_of
  rest_none k b = go (eqb k 9)
    where
      go : (x : Bool) → at r (closed (final_kind k) (cond x b b)) ≡ at r (closed (final_kind k) b)
      go true = refl
      go false = refl

pub not_nine : {k : ℕ} → Enumerated k → k ≡ 9 → ⊥
not_nine (inl x) y = omega arith
not_nine (inr (inl x)) y = omega arith
not_nine (inr (inr x)) y = omega arith

-- Enumerations, and maps among them.
abbrev pub Listed : ℕ → Type 0
Listed k = Enumerated k ⊎ (k ≡ 9)

module _ {table : List ℕ} {r : ℕ} {s : List ℕ} {base : ℕ} {env : Env} {c : Choices} (a : Ask table r s base env c) where
  rest_all : {k : ℕ} → kind_at (records table) r ≡ k → Listed k → (ρ : State) → meant table r ρ ≡ rest_of k r (meant table) (named (record_at (records table) r)) ρ (built none)
  rest_all {k} d w ρ = go w
    where
      to : (m : ℕ) (K : Kind) → k ≡ m → (((k ≡ 7) × (K ≡ set)) ⊎ (((k ≡ 8) × (K ≡ sequence)) ⊎ (((k ≡ 9) × (K ≡ map)) ⊎ ((k ≡ 10) × (K ≡ tuple))))) → ((vs : Items) → enumerated K vs ≡ closed (final_kind m) (all m (built none) vs)) → meant table r ρ ≡ rest_of k r (meant table) (named (record_at (records table) r)) ρ (built none)
      to m K e i f =
          mean_many a.legal r ρ K d i ∙ bind_cong (all_of (meant table) (named (record_at (records table) r)) ρ) _ _ (λ vs. ap (at r) (f vs))
          ∙ ap (λ (x : ℕ). rest_of x r (meant table) (named (record_at (records table) r)) ρ (built none)) (sym e)

      go : Listed k → meant table r ρ ≡ rest_of k r (meant table) (named (record_at (records table) r)) ρ (built none)
      go (inl (inl e)) = to 7 set e (inl (e, refl)) (λ vs. ap (closed set) (sym (ones_set (built none) vs)))
      go (inl (inr (inl e))) = to 8 sequence e (inr (inl (e, refl))) (λ vs. ap (closed sequence) (sym (ones_sequence 8 refl (built none) vs)))
      go (inl (inr (inr e))) = to 10 tuple e (inr (inr (inr (e, refl)))) (λ vs. ap (closed tuple) (sym (ones_sequence 10 refl (built none) vs)))
      go (inr e) = to 9 map e (inr (inr (inl (e, refl)))) (λ vs. ap (closed map) (sym (pairs_map (built none) absent vs)))

-- ---- so far

-- A tuple's items are as many as its operands so far.
abbrev pub Tallied : ℕ → Built → ℕ → Type 0
Tallied k (built vs) i = k ≡ 10 → count vs ≡ i
Tallied k (stopped n) i = Unit {0}

tallied_none : (k : ℕ) → Tallied k (built none) 0
unfolding count
tallied_none k = λ e. refl

tallied_more : (k : ℕ) (b : Built) (v : Value) (i : ℕ) → Tallied k b i → Tallied k (build_on b (λ us. add_to k us v)) (i + 1)
tallied_more k (stopped n) v i h = tt
tallied_more k (built us) v i h = go (ℕ-cases k)
  where
    fit : (x : Bool) → (k ≡ 10 → count (snoc us v) ≡ i + 1) → Tallied k (cond x (built (snoc us v)) (stopped 28)) (i + 1)
    fit true g = g
    fit false g = tt

    ℕ-cases : (k : ℕ) → (eqb k 7 ≡ true) ⊎ (eqb k 7 ≡ false)
    ℕ-cases k = by (eqb k 7)
      where
        by : (x : Bool) → (x ≡ true) ⊎ (x ≡ false)
        by true = inl refl
        by false = inr refl

    set_any : (b : Built) → (k ≡ 10 → ⊥) → Tallied k b (i + 1)
    set_any (built ws) g = λ e. absurd (g e)
    set_any (stopped n) g = tt

    go : (eqb k 7 ≡ true) ⊎ (eqb k 7 ≡ false) → Tallied k (add_to k us v) (i + 1)
    go (inl e) = set_any (add_to k us v) (λ z. let q : k ≡ 7 = eqb-true k 7 e in omega arith)
    go (inr e) = rw e (fit (leb (4 + sizes (snoc us v)) value_limit) (λ z. count_snoc us v ∙ (let q = h z in omega arith)))

-- In a state: what is built, and the run of the whole goes on as the run of what is left.
pub record Going (table : List ℕ) (r k : ℕ) (base : ℕ) (c₀ : Choices) (ρ : State) (s : List ℕ) (c : Choices) (bad : SoFar) (i : ℕ) : Type 0 where
  pub so_far : Built
  pub pending : Pending k s base bad so_far
  pub tallied : Tallied k so_far i
  pub leads : Leads (meant table r ρ) c₀ (rest_of k r (meant table) (drop i (named (record_at (records table) r))) ρ so_far) c

pub record Building (table : List ℕ) (r : ℕ) (s₀ : List ℕ) (base : ℕ) (env : Env) (k n : ℕ) (c₀ : Choices) (s : List ℕ) (c : Choices) (bad : SoFar) (i : ℕ) : Type 0 where
  pub asked : Ask table r s₀ base env c₀
  pub kind_is : kind_at (records table) r ≡ k
  pub which : Listed k
  pub count : n ≡ length (named (record_at (records table) r))
  pub within : i ≤ n
  pub even : k ≡ 9 → i % 2 ≡ 0
  pub kept : Kept s₀ s base
  pub right : (ρ : State) → Around s₀ base env ρ → Going table r k base c₀ ρ s c bad i

-- No items are in the shape of what is built.
pub shaped_none : (k : ℕ) → Shaped (built_kind k) none
unfolding Ascending PairedFrom every_other
shaped_none k = go (eqb k 7) (eqb k 9)
  where
    go : (a b : Bool) → Shaped (cond a set (cond b map sequence)) none
    go true b = tt
    go false true = (tt, tt)
    go false false = tt

pub empties_kept : {s t : List ℕ} {base m : ℕ} → Empties s t base m → Kept s t base
empties_kept h = kept_outside (omega arith) h.frame

asked_kept : {table : List ℕ} {r : ℕ} {s t : List ℕ} {base : ℕ} {env : Env} {c : Choices} → Kept s t base → Ask table r s base env c → Ask table r t base env c
asked_kept k a = record { legal = a.legal; within = a.within; room = omega (arith, a.room, k.long); low = omega (arith, a.low, k.long); state = a.state; around = around_kept k a.around; sound = a.sound }

-- from the entry of the function
pub from_entry : {m : State → Tree Value} {P : Value → Type 0} {s t u : List ℕ} {base : ℕ} {env : Env} {c : Choices} {e : Evaluated} → Kept s t base → Gives m P t u base env c e → Gives m P s u base env c e
from_entry k g = record { kept = kept_then k g.kept; right = λ ρ a. g.right ρ (around_kept k a) }

pub building_start : {table : List ℕ} {r : ℕ} {s t : List ℕ} {base : ℕ} {env : Env} {c : Choices} {k n m : ℕ} → Ask table r s base env c → kind_at (records table) r ≡ k → Listed k → n ≡ length (named (record_at (records table) r)) → m ≡ number (built_kind k) → Empties s t base m → Building table r t base env k n c t c (Ok tt) 0
building_start {t = t} {base = base} {c = c} {k = k} a d w q z h =
    record {
      asked = asked_kept (empties_kept h) a;
      kind_is = d;
      which = w;
      count = q;
      within = omega arith;
      even = λ e. refl;
      kept = kept_same t base;
      right = λ ρ u. record { so_far = built none; pending = going refl (h.right (built_kind k) z (shaped_none k)); tallied = tallied_none k; leads = leads_start a.sound (rest_all a d w ρ) };
    }

module _ {table : List ℕ} {r : ℕ} {s₀ : List ℕ} {base : ℕ} {env : Env} {k n : ℕ} {c₀ : Choices} {s : List ℕ} {c : Choices} {bad : SoFar} {i : ℕ} (b : Building table r s₀ base env k n c₀ s c bad i) where
  abbrev ops : List ℕ
  ops = named (record_at (records table) r)

  pub building_has : i < n → HasOperand table r i
  building_has l = record { here = here b.asked; has = omega (arith, b.count) }

  -- a map has a value for each key
  pub building_second : k ≡ 9 → i < n → i + 1 < n
  building_second e l = let z = map_even b.asked.legal r b.asked.state (b.kind_is ∙ e) in omega (arith, b.count, b.even e)

  pub building_even : k ≡ 9 → n % 2 ≡ 0
  building_even e = let z = map_even b.asked.legal r b.asked.state (b.kind_is ∙ e) in omega (arith, b.count)

  around_now : {ρ : State} {up : ℕ} → base ≤ up → up ≤ base + level → Around s₀ base env ρ → Around s up env ρ
  around_now h h' u = around_up h (omega (arith, room_here b.asked, b.kept.long)) (around_kept b.kept u)

  pub building_room : base + 2048 ≤ length s
  building_room = omega (arith, room_here b.asked, b.kept.long)

  pub building_ask : i < n → {o : ℕ} → o ≡ operand (record_at (records table) r) i → (o < r) × Ask table o s (base + 512) env c
  building_ask l q = (
    lower_down b.asked i (omega (arith, b.count)) q,
    ask_down b.asked i (omega (arith, b.count)) q {ρ = b.asked.state} b.kept.long (omega arith) (around_now (omega arith) (omega arith) b.asked.around) (b.right b.asked.state b.asked.around).leads.sound,
  )

  cons_at : (l : i < n) → drop i ops ≡ get_or ops i 0 ∷ drop (i + 1) ops
  cons_at l = let z : suc i ≡ i + 1 = omega arith in drop-cons ops i 0 (omega (arith, b.count)) ∙ ap (λ (m : ℕ). get_or ops i 0 ∷ drop m ops) z

  pending_up : {t : List ℕ} {up : ℕ} → Kept s t up → base + 512 ≤ up → up ≤ base + 2048 → {x : Built} → Pending k s base bad x → Pending k t base bad x
  pending_up {up = up} g h h' (going d a) = going d (at_kept {base = up} g (omega (arith, building_room)) (omega arith) a)
  pending_up g h h' (halted d) = halted d

  -- ---- one by one
  module _ (w : Enumerated k) (l : i < n) {o : ℕ} (q : o ≡ operand (record_at (records table) r) i) {t : List ℕ} {e : Evaluated} (g : Gives (meant table o) (At t (base + 512)) s t (base + 512) env c e) where
    not_map : eqb k 9 ≡ false
    not_map = go w
      where
        go : Enumerated k → eqb k 9 ≡ false
        go (inl z) = ne_eqb k 9 (λ y. omega arith)
        go (inr (inl z)) = ne_eqb k 9 (λ y. omega arith)
        go (inr (inr z)) = ne_eqb k 9 (λ y. omega arith)

    abbrev next : State → Built → Value → Tree Value
    next ρ x v = rest_of k r (meant table) (drop (i + 1) ops) ρ (build_on x (λ us. add_to k us v))

    here_more : (ρ : State) (x : Built) → rest_of k r (meant table) (drop i ops) ρ x ≡ bind (meant table o ρ) (next ρ x)
    here_more ρ x =
        ap (λ (os : List ℕ). rest_of k r (meant table) os ρ x) (cons_at l)
        ∙ rest_more r (meant table) ρ k not_map (get_or ops i 0) (drop (i + 1) ops) x
        ∙ ap (λ (m : ℕ). bind (meant table m ρ) (next ρ x)) (sym q)

    now_leads : (ρ : State) (u : Around s₀ base env ρ) → Leads (meant table r ρ) c₀ (bind (meant table o ρ) (next ρ (b.right ρ u).so_far)) c
    now_leads ρ u = leads_as (here_more ρ (b.right ρ u).so_far) (b.right ρ u).leads

    pub building_off : (e.outcome ≡ has_value → ⊥) → Gives (meant table r) (At t base) s₀ t base env c₀ e
    building_off h =
        record { kept = kept_then b.kept (kept_less (omega arith) g.kept); right = λ ρ u. leads_stop (next ρ (b.right ρ u).so_far) (now_leads ρ u) (g.right ρ (around_now (omega arith) (omega arith) u)) h }

    module _ (h : e.outcome ≡ has_value) where
      pub building_held : AddHeld k t base bad
      building_held =
          let x = b.right b.asked.state b.asked.around in
          let (v, j) = comes_held (g.right b.asked.state (around_now (omega arith) (omega arith) b.asked.around)) h in
          record { which = w; before = x.so_far; pending = pending_up g.kept (omega arith) (omega arith) x.pending; item = holds j; room = omega (arith, building_room, g.kept.long) }

      pub building_more : {u : List ℕ} {bad' : SoFar} {i' : ℕ} → i' ≡ i + 1 → AddsNext k t u base bad bad' → Building table r s₀ base env k n c₀ u e.choices bad' i'
      building_more {u} {bad'} {i'} z f =
          record {
            asked = b.asked;
            kind_is = b.kind_is;
            which = b.which;
            count = b.count;
            within = omega arith;
            even = λ y. absurd (never y);
            kept = kept_then b.kept (kept_then (kept_less (omega arith) g.kept) f.kept);
            right = λ ρ a. subst (λ (m : ℕ). Going table r k base c₀ ρ u e.choices bad' m) (sym z) (go ρ a (leads_on (next ρ (b.right ρ a).so_far) (now_leads ρ a) (g.right ρ (around_now (omega arith) (omega arith) a)) h));
          }
        where
          never : k ≡ 9 → ⊥
          never y = let x = sym not_map ∙ eq-eqb k 9 y in impossible cc

          go : (ρ : State) (a : Around s₀ base env ρ) → (v : Value) × At t (base + 512) v × Leads (meant table r ρ) c₀ (next ρ (b.right ρ a).so_far v) e.choices → Going table r k base c₀ ρ u e.choices bad' (i + 1)
          go ρ a (v, j, m) =
              let x = b.right ρ a in
              record {
                so_far = build_on x.so_far (λ us. add_to k us v);
                pending = f.right x.so_far v (pending_up g.kept (omega arith) (omega arith) x.pending) j;
                tallied = tallied_more k x.so_far v i x.tallied;
                leads = m;
              }

  -- ---- key and value
  module _ (w : k ≡ 9) (l : i < n) {o : ℕ} (q : o ≡ operand (record_at (records table) r) i) {t : List ℕ} {e : Evaluated} (g : Gives (meant table o) (At t (base + 512)) s t (base + 512) env c e) where
    abbrev rest_by : State → Built → Value → Value → Tree Value
    rest_by ρ x key v = rest_of k r (meant table) (drop (i + 2) ops) ρ (build_on x (λ us. add_entry us key v))

    abbrev after_key : State → Built → Value → Tree Value
    after_key ρ x key = bind (meant table (operand (record_at (records table) r) (i + 1)) ρ) (rest_by ρ x key)

    pair_more : (ρ : State) (x : Built) → rest_of k r (meant table) (drop i ops) ρ x ≡ bind (meant table o ρ) (after_key ρ x)
    pair_more ρ x =
        let l' = building_second w l in
        let z : suc (i + 1) ≡ i + 2 = omega arith in
        subst (λ (m : ℕ). rest_of m r (meant table) (drop i ops) ρ x ≡ bind (meant table o ρ) (λ key. bind (meant table (operand (record_at (records table) r) (i + 1)) ρ) (λ v. rest_of m r (meant table) (drop (i + 2) ops) ρ (build_on x (λ us. add_entry us key v))))) (sym w)
        (ap (λ (os : List ℕ). rest_of 9 r (meant table) os ρ x) (cons_at l ∙ ap (λ (os : List ℕ). get_or ops i 0 ∷ os) (drop-cons ops (i + 1) 0 (omega (arith, b.count)) ∙ ap (λ (m : ℕ). get_or ops (i + 1) 0 ∷ drop m ops) z))
        ∙ rest_pair r (meant table) ρ (get_or ops i 0) (get_or ops (i + 1) 0) (drop (i + 2) ops) x
        ∙ ap (λ (m : ℕ). bind (meant table m ρ) (λ key. bind (meant table (operand (record_at (records table) r) (i + 1)) ρ) (λ v. rest_of 9 r (meant table) (drop (i + 2) ops) ρ (build_on x (λ us. add_entry us key v))))) (sym q))

    key_leads : (ρ : State) (u : Around s₀ base env ρ) → Leads (meant table r ρ) c₀ (bind (meant table o ρ) (after_key ρ (b.right ρ u).so_far)) c
    key_leads ρ u = leads_as (pair_more ρ (b.right ρ u).so_far) (b.right ρ u).leads

    pub key_off : (e.outcome ≡ has_value → ⊥) → Gives (meant table r) (At t base) s₀ t base env c₀ e
    key_off h =
        record { kept = kept_then b.kept (kept_less (omega arith) g.kept); right = λ ρ u. leads_stop (after_key ρ (b.right ρ u).so_far) (key_leads ρ u) (g.right ρ (around_now (omega arith) (omega arith) u)) h }

    pub second_has : HasOperand table r (i + 1)
    second_has = record { here = here b.asked; has = omega (arith, building_second w l, b.count) }

    module _ (h : e.outcome ≡ has_value) {o' : ℕ} (q' : o' ≡ operand (record_at (records table) r) (i + 1)) where
      on_key : (ρ : State) (u : Around s₀ base env ρ) → (key : Value) × At t (base + 512) key × Leads (meant table r ρ) c₀ (after_key ρ (b.right ρ u).so_far key) e.choices
      on_key ρ u = leads_on (after_key ρ (b.right ρ u).so_far) (key_leads ρ u) (g.right ρ (around_now (omega arith) (omega arith) u)) h

      around_key : {ρ : State} → Around s₀ base env ρ → Around t (base + 1024) env ρ
      around_key u = around_up (omega arith) (omega (arith, building_room, g.kept.long)) (around_kept g.kept (around_now (omega arith) (omega arith) u))

      pub value_ask : (o' < r) × Ask table o' t (base + 1024) env e.choices
      value_ask =
          let u = b.asked.around in (
            lower_down b.asked (i + 1) second_has.has q',
            ask_down b.asked (i + 1) second_has.has q' {ρ = b.asked.state} (g.kept.long ∙ b.kept.long) (omega arith) (around_key u) (on_key b.asked.state u).2.sound,
          )

      module _ {t' : List ℕ} {f : Evaluated} (g' : Gives (meant table o') (At t' (base + 1024)) t t' (base + 1024) env e.choices f) where
        value_leads : (ρ : State) (u : Around s₀ base env ρ) → Leads (meant table r ρ) c₀ (bind (meant table o' ρ) (rest_by ρ (b.right ρ u).so_far (on_key ρ u).0)) e.choices
        value_leads ρ u = leads_as (ap (λ (m : ℕ). bind (meant table m ρ) (rest_by ρ (b.right ρ u).so_far (on_key ρ u).0)) (sym q')) (on_key ρ u).2

        kept_two : Kept s₀ t' base
        kept_two = kept_then b.kept (kept_then (kept_less (omega arith) g.kept) (kept_less (omega arith) g'.kept))

        pub value_off : (f.outcome ≡ has_value → ⊥) → Gives (meant table r) (At t' base) s₀ t' base env c₀ f
        value_off h' =
            record { kept = kept_two; right = λ ρ u. leads_stop (rest_by ρ (b.right ρ u).so_far (on_key ρ u).0) (value_leads ρ u) (g'.right ρ (around_key u)) h' }

        pending_two : {x : Built} → Pending k s base bad x → Pending k t' base bad x
        pending_two p = again (pending_up g.kept (omega arith) (omega arith) p)
          where
            again : {x : Built} → Pending k t base bad x → Pending k t' base bad x
            again (going d a) = going d (at_kept {base = base + 1024} g'.kept (omega (arith, building_room, g.kept.long)) (omega arith) a)
            again (halted d) = halted d

        key_still : {key : Value} → At t (base + 512) key → At t' (base + 512) key
        key_still a = at_kept {base = base + 1024} g'.kept (omega (arith, building_room, g.kept.long)) (omega arith) a

        pending_nine : {m : ℕ} {t : List ℕ} {bad : SoFar} {x : Built} → m ≡ 9 → Pending m t base bad x → Pending 9 t base bad x
        pending_nine {t = t} {bad} {x} e p = subst (λ (m : ℕ). Pending m t base bad x) e p

        module _ (h' : f.outcome ≡ has_value) where
          pub pair_held : EnterHeld t' base bad
          pair_held =
              let u = b.asked.around in
              let x = b.right b.asked.state u in
              let (v, j) = comes_held (g'.right b.asked.state (around_key u)) h' in
              record { before = x.so_far; pending = pending_nine w (pending_two x.pending); key = holds (key_still (on_key b.asked.state u).1); value = holds j; room = omega (arith, building_room, g.kept.long, g'.kept.long) }

          pub pair_next : {u : List ℕ} {bad' : SoFar} {i' : ℕ} → i' ≡ i + 2 → EntersNext t' u base bad bad' → Building table r s₀ base env k n c₀ u f.choices bad' i'
          pair_next {u} {bad'} {i'} z x =
              record {
                asked = b.asked;
                kind_is = b.kind_is;
                which = b.which;
                count = b.count;
                within = omega (arith, building_second w l);
                even = λ y. let y' = b.even y in omega arith;
                kept = kept_then kept_two x.kept;
                right = λ ρ a. subst (λ (m : ℕ). Going table r k base c₀ ρ u f.choices bad' m) (sym z) (go ρ a (leads_on (rest_by ρ (b.right ρ a).so_far (on_key ρ a).0) (value_leads ρ a) (g'.right ρ (around_key a)) h'));
              }
            where
              go : (ρ : State) (a : Around s₀ base env ρ) → (v : Value) × At t' (base + 1024) v × Leads (meant table r ρ) c₀ (rest_by ρ (b.right ρ a).so_far (on_key ρ a).0 v) f.choices → Going table r k base c₀ ρ u f.choices bad' (i + 2)
              go ρ a (v, j, m) =
                  let y = b.right ρ a in
                  let key = on_key ρ a in
                  let p = x.right y.so_far key.0 v (pending_nine w (pending_two y.pending)) (key_still key.1) j in
                  record {
                    so_far = build_on y.so_far (λ us. add_entry us key.0 v);
                    pending = subst (λ (m : ℕ). Pending m u base bad' (build_on y.so_far (λ us. add_entry us key.0 v))) (sym w) p;
                    tallied = no_tuple (build_on y.so_far (λ us. add_entry us key.0 v));
                    leads = m;
                  }
                where
                  no_tuple : (x : Built) → Tallied k x (i + 2)
                  no_tuple (built vs) = λ e. absurd (omega arith)
                  no_tuple (stopped n) = tt

  -- ---- the end
  pub building_finish : Finishable k s base bad r
  building_finish = let x = b.right b.asked.state b.asked.around in record { before = x.so_far; pending = x.pending; place = small_place b.asked }

  shaped_now : (x : Built) → n ≤ i → Tallied k x i → ShapedAs k x
  shaped_now (built vs) l h = λ e. let z = tuple_few b.asked.legal r b.asked.state (b.kind_is ∙ e) in let y = h e in (omega (arith, b.count, b.within, z.0), omega (arith, b.count, b.within, z.1))
  shaped_now (stopped m) l h = tt

  pub building_end : n ≤ i → {t : List ℕ} {o : Ended} → Finishes k s t base bad r o → Gives (meant table r) (At t base) s₀ t base env c₀ (ended o c)
  building_end l {t} {o} f =
      record {
        kept = kept_then b.kept f.kept;
        right = λ ρ u. let x = b.right ρ u in
            leads_comes
            (leads_as (ap (λ (os : List ℕ). rest_of k r (meant table) os ρ x.so_far) (ap (λ (m : ℕ). drop m ops) (let z : i ≡ length ops = omega (arith, b.count, b.within) in z) ∙ drop-length ops) ∙ rest_none r (meant table) ρ k x.so_far) x.leads)
            (finished x.leads.sound (f.right x.so_far x.pending (shaped_now x.so_far l x.tallied)));
      }
    where
      finished : {y : Answer} → Invariant c → Answers t base r o y → Comes (at r y) (At t base) c (ended o c)
      finished h (valued d a) = gave d a (came_give _ h)
      finished h (unvalued {x = x} d) = off d (came_stop (number_of x) r h)
