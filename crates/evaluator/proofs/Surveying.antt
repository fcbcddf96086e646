-- 13, 16, 17: a law for each place of the loop that tests all bindings.
use mathlib.Core.Path.{◌≡◌, refl, sym, ap, subst, ◌∙◌}
use mathlib.Core.Bool.{Bool, true, false, cond}
use mathlib.Core.Option.{Option, none as absent, some}
use mathlib.Core.List.{List, [], ◌∷◌}
use Prim.Native.Nat.{ℕ, suc, ◌+◌, ◌≤◌, ◌<◌}
use native.Mathlib.Omega.{arith}
use lib.Dec.{eqb}
use lib.ListN.{length, get_or, drop}
use lib.Seq.{drop-cons, drop-length}
use borrow.Author.Tests.{ne_eqb}
use Rattle.prelude.proofs.Absurd.{impossible}
use Rattle.choices.specs.State.{Choices, View, view, Invariant}
use Rattle.choices.specs.Tree.{Tree, give, stop, choose, result}
use Rattle.choices.specs.Runs.{Came}
use Rattle.choices.proofs.Came.{came_give}
use Rattle.operators.specs.Answer.{as_boolean}
use Rattle.tables.specs.Table.{kind_at}
use Rattle.tables.specs.Accepted.{records}
use Rattle.patterns.specs.Binding.{Binding, nothing}
use Rattle.calling.specs.Scratch.{Kept}
use Rattle.calling.proofs.Framing.{kept_then, kept_less, kept_same}
use Rattle.meaning.specs.State.{State, under}
use Rattle.meaning.specs.Meaning.{is_true, or_else, bindings_of, satisfying}
use Rattle.evaluator.specs.Contract.{Ended}
use Rattle.evaluator.specs.Contract.{has_value}
use Rattle.bindings.specs.declared.Cursor.{Cursor}
use Rattle.parts.specs.declared.words.Env.{Env}
use Rattle.lists.specs.Choosing.{first, due_for}
use Rattle.evaluator.specs.Binding.{Placed, Held, Counted, Binder, pattern_for, listed, Standing, Begins, Stands, Turned, holds_in, Tests, Marks, surveyed, counting, marking, Marked, Surveys}
use Rattle.meaning.proofs.Laws.Conditions.{OneLeaf}
use Rattle.evaluator.specs.Contract.{Ask, Around, ended, Comes, gave, off, Gives, meant, operand_at}
use Rattle.evaluator.proofs.Framing.{around_kept}
use Rattle.evaluator.proofs.Coming.{value_refused, comes_on, comes_stop, comes_sound, comes_held}
use Rattle.evaluator.proofs.Leading.{Leads, leads_start, leads_as, leads_came}
use Rattle.evaluator.proofs.Quieting.{leaf_bind}
use Rattle.evaluator.proofs.Satisfying.{testing, passing, testing_start, testing_end, testing_off, testing_on, marks_start, marks_more}
use Rattle.evaluator.proofs.Standing.{standing_one}
use Rattle.evaluator.proofs.Opening.{ask_again, opened_asked}

-- ---- a condition without a choice leaves the choices as they were

-- The condition of the record r holds no choice.
abbrev pub Quiet : List ℕ → ℕ → Type 0
Quiet table r = (σ : State) → OneLeaf (meant table (operand_at table r 2) σ)

else_leaf : {A : Type 0} (n r : ℕ) (o : Option A) → OneLeaf (or_else n r o)
else_leaf n r absent = tt
else_leaf n r (some a) = tt

test_leaf : (table : List ℕ) (r : ℕ) → Quiet table r → (ρ : State) (b : Binding) → OneLeaf (holds_in table r ρ b)
test_leaf table r q ρ b = leaf_bind (meant table (operand_at table r 2) (under ρ b)) (is_true r) (q (under ρ b)) (λ v. else_leaf 20 r (as_boolean v))

leaf_view : {A : Type 0} (t : Tree A) {c d : Choices} {a : A} → OneLeaf t → Came t c (result a) d → view d ≡ view c
leaf_view (give b) h w = cc w.right
leaf_view (stop n p) h w = impossible (cc w.right)
leaf_view (choose p n ways) h w = absurd h

due_same : (k : ℕ) (c d : Choices) → view d ≡ view c → due_for k d ≡ due_for k c
due_same k c d e = ap (λ (v : View). cond (eqb k 13) (first v.left) 0) e

-- ---- the loop

-- From s₀ and c₀, where the bindings stood open, up to binding j: `count` satisfied, and the wanted one is binding `at`.
pub record Counts (table : List ℕ) (r : ℕ) (s₀ : List ℕ) (base : ℕ) (env : Env) (c₀ : Choices) (due n : ℕ) (s : List ℕ) (c : Choices) (cursor : Cursor) (count at j : ℕ) : Type 0 where
  pub asked : Ask table r s₀ base env c₀
  pub binder : Binder (kind_at (records table) r)
  pub quiet : Quiet table r
  pub bindings : List Binding
  pub only : (k : Cursor) (bs : List Binding) → Standing table r false s₀ base k bs → bs ≡ bindings
  pub standing : Standing table r false s base cursor bindings
  pub number : n ≡ length bindings
  pub within : j ≤ n
  pub few : count ≤ j
  pub kept : Kept s₀ s (base + 512)
  pub sound : Invariant c
  pub same : view c ≡ view c₀
  pub sat : List Binding
  pub marks : Marks bindings sat due count at
  pub right : (ρ : State) → Around s₀ base env ρ → Leads (satisfying (meant table) r (operand_at table r 2) ρ bindings) c₀ (testing (meant table) r (operand_at table r 2) ρ sat (drop j bindings)) c

counts_start : {table : List ℕ} {r : ℕ} {s : List ℕ} {base : ℕ} {env : Env} {c : Choices} (due : ℕ) {n : ℕ} {cursor : Cursor} {bs : List Binding} → Ask table r s base env c → Binder (kind_at (records table) r) → Quiet table r
    → Standing table r false s base cursor bs → n ≡ cursor.count → Counts table r s base env c due n s c cursor 0 0 0
counts_start {table} {r = r} {s} {base} due {bs = bs} a b q h e =
    record {
      asked = a;
      binder = b;
      quiet = q;
      bindings = bs;
      only = λ k bs w. standing_one w h;
      standing = h;
      number = omega (arith, h.window.count);
      within = omega arith;
      few = omega arith;
      kept = kept_same s (base + 512);
      sound = a.sound;
      same = refl;
      sat = [];
      marks = marks_start bs due;
      right = λ ρ u. leads_start a.sound (testing_start (meant table) r (operand_at table r 2) ρ bs);
    }

module _ {table : List ℕ} {r : ℕ} {s₀ : List ℕ} {base : ℕ} {env : Env} {c₀ : Choices} {due n : ℕ} {s : List ℕ} {c : Choices} {cursor : Cursor} {count at j : ℕ} (b : Counts table r s₀ base env c₀ due n s c cursor count at j) where
  low : Kept s₀ s base
  low = kept_less (omega arith) b.kept

  abbrev all : State → Tree (List Binding)
  all ρ = satisfying (meant table) r (operand_at table r 2) ρ b.bindings

  -- All were tested.
  pub counts_end : n ≤ j → {v : Counted} → v.cursor ≡ cursor → v.count ≡ count → v.at ≡ at → v.outcome ≡ has_value → (k : ℕ) → due ≡ due_for k c₀ → Gives all (Marked table r s base (due_for k c) v) s₀ s base env c₀ (ended v.outcome c)
  counts_end h {v} y₁ y₂ y₃ y₄ k z =
      record {
        kept = low;
        right = λ ρ u. gave y₄ marked (leads_came (leads_as (ap (testing (meant table) r (operand_at table r 2) ρ b.sat) (ap (λ (m : ℕ). drop m b.bindings) ended_all ∙ drop-length b.bindings) ∙ testing_end (meant table) r (operand_at table r 2) ρ b.sat) (b.right ρ u)) (came_give b.sat b.sound));
      }
    where
      ended_all : j ≡ length b.bindings
      ended_all = omega (arith, b.number, b.within)

      marks_now : Marks b.bindings b.sat (due_for k c) v.count v.at
      marks_now =
          subst (λ (m : ℕ). Marks b.bindings b.sat m v.count v.at) (z ∙ sym (due_same k c₀ c b.same))
          (subst (λ (m : ℕ). Marks b.bindings b.sat due m v.at) (sym y₂) (subst (Marks b.bindings b.sat due count) (sym y₃) b.marks))

      marked : Marked table r s base (due_for k c) v b.sat
      marked =
          record {
            bindings = b.bindings;
            standing = subst (λ (k : Cursor). Standing table r false s base k b.bindings) (sym y₁) b.standing;
            marks = marks_now;
            few = omega (arith, b.few, b.number, b.within, y₂);
          }

  module _ (l : j < n) where
    pub counts_stands : Stands table r false s base env c cursor j
    counts_stands = record { asked = ask_again b.asked low b.sound; binder = b.binder; bindings = b.bindings; standing = b.standing; below = omega (arith, b.number) }

    module _ {t : List ℕ} {h : Held} {d : Choices} (o : Tests table r s t base env c cursor j h d) where
      abbrev here : Binding
      here = get_or b.bindings j nothing

      turned : Turned (λ ρ. holds_in table r ρ here) (λ y. h.yes ≡ y) table r false b.bindings s t base env c (ended h.outcome d) h.cursor
      turned = o.turned b.bindings b.standing

      opened : (ρ : State) → Around s₀ base env ρ → Leads (all ρ) c₀ (testing (meant table) r (operand_at table r 2) ρ b.sat (here ∷ drop (j + 1) b.bindings)) c
      opened ρ u =
          let z : suc j ≡ j + 1 = omega arith in
          leads_as (ap (testing (meant table) r (operand_at table r 2) ρ b.sat) (drop-cons b.bindings j nothing (omega (arith, b.number)) ∙ ap (λ (m : ℕ). here ∷ drop m b.bindings) z)) (b.right ρ u)

      tested : (ρ : State) → Around s₀ base env ρ → Comes (holds_in table r ρ here) (λ y. h.yes ≡ y) c (ended h.outcome d)
      tested ρ u = turned.given.right ρ (around_kept low u)

      pub counts_off : (h.outcome ≡ has_value → ⊥) → {P : List Binding → Type 0} → Gives all P s₀ t base env c₀ (ended h.outcome d)
      counts_off x {P} = record { kept = kept_then low turned.given.kept; right = λ ρ u. go ρ (opened ρ u) (tested ρ u) }
        where
          go : (ρ : State) → Leads (all ρ) c₀ (testing (meant table) r (operand_at table r 2) ρ b.sat (here ∷ drop (j + 1) b.bindings)) c → Comes (holds_in table r ρ here) (λ y. h.yes ≡ y) c (ended h.outcome d) → Comes (all ρ) P c₀ (ended h.outcome d)
          go ρ k (gave y p w) = absurd (x y)
          go ρ k (off y w) = off y (testing_off (meant table) r (operand_at table r 2) ρ b.sat here (drop (j + 1) b.bindings) k w)

      pub counts_more : h.outcome ≡ has_value → {j' count' at' : ℕ} {cursor' : Cursor} → j' ≡ j + 1 → cursor' ≡ h.cursor → at' ≡ marking h.yes count due j at → count' ≡ counting h.yes count
          → Counts table r s₀ base env c₀ due n t d cursor' count' at' j'
      counts_more v {j'} {count'} {at'} {cursor'} z y x₁ x₂ =
          record {
            asked = b.asked;
            binder = b.binder;
            quiet = b.quiet;
            bindings = b.bindings;
            only = b.only;
            standing = subst (λ (k : Cursor). Standing table r false t base k b.bindings) (sym y) turned.standing;
            number = b.number;
            within = omega arith;
            few = omega (arith, x₂, count_most h.yes, b.few);
            kept = kept_then b.kept turned.low;
            sound = comes_sound (tested b.asked.state b.asked.around);
            same = view_now b.asked.state (tested b.asked.state b.asked.around) ∙ b.same;
            sat = passing h.yes b.sat here;
            marks = subst (λ (m : ℕ). Marks b.bindings (passing h.yes b.sat here) due m at') (sym x₂)
                (subst (Marks b.bindings (passing h.yes b.sat here) due (counting h.yes count)) (sym x₁) (marks_more b.marks (omega (arith, b.number)) h.yes));
            right = λ ρ u. subst (λ (m : ℕ). Leads (all ρ) c₀ (testing (meant table) r (operand_at table r 2) ρ (passing h.yes b.sat here) (drop m b.bindings)) d) (sym z) (go ρ (opened ρ u) (tested ρ u));
          }
        where
          count_most : (t : Bool) → counting t count ≤ count + 1
          count_most true = omega arith
          count_most false = omega arith

          view_now : (ρ : State) → Comes (holds_in table r ρ here) (λ y. h.yes ≡ y) c (ended h.outcome d) → view d ≡ view c
          view_now ρ (gave y p w) = leaf_view (holds_in table r ρ here) (test_leaf table r b.quiet ρ here) w
          view_now ρ (off y w) = value_refused v y

          go : (ρ : State) → Leads (all ρ) c₀ (testing (meant table) r (operand_at table r 2) ρ b.sat (here ∷ drop (j + 1) b.bindings)) c → Comes (holds_in table r ρ here) (λ y. h.yes ≡ y) c (ended h.outcome d) → Leads (all ρ) c₀ (testing (meant table) r (operand_at table r 2) ρ (passing h.yes b.sat here) (drop (j + 1) b.bindings)) d
          go ρ k (gave {a = y'} y p w) =
              subst (λ (m : Bool). Leads (all ρ) c₀ (testing (meant table) r (operand_at table r 2) ρ (passing m b.sat here) (drop (j + 1) b.bindings)) d) (sym p)
              (testing_on (meant table) r (operand_at table r 2) ρ b.sat here (drop (j + 1) b.bindings) k w)
          go ρ k (off y w) = value_refused v y

-- ---- from the start

module _ {table : List ℕ} {r : ℕ} (k : ℕ) {s : List ℕ} {base : ℕ} {env : Env} {c : Choices} (a : Ask table r s base env c) (l : 13 ≤ k) (m : k ≤ 17) (d : kind_at (records table) r ≡ k) (q : Quiet table r)
    {t : List ℕ} {x : Placed} {c₁ : Choices} (g : Begins table r k s t base env c x c₁) where
  abbrev found : State → Tree (List Binding)
  found ρ = bindings_of (meant table) r (pattern_for table r) (operand_at table r 1) ρ

  not_let : eqb k 12 ≡ false
  not_let = ne_eqb k 12 (λ e. omega arith)

  listed_is : (ρ : State) → listed table r k ρ ≡ found ρ
  listed_is ρ = rw (not_let, ne_eqb k 19 (λ e. omega arith)) refl

  begun : (ρ : State) → Around s base env ρ → Comes (found ρ) (Standing table r false t base x.cursor) c (ended x.outcome c₁)
  begun ρ u =
      subst (λ (n : Tree (List Binding)). Comes n (Standing table r false t base x.cursor) c (ended x.outcome c₁)) (listed_is ρ)
      (subst (λ (y : Bool). Comes (listed table r k ρ) (Standing table r y t base x.cursor) c (ended x.outcome c₁)) not_let (g.right ρ u))

  abbrev after : State → List Binding → Tree (List Binding)
  after ρ bs = satisfying (meant table) r (operand_at table r 2) ρ bs

  pub survey_off : (x.outcome ≡ has_value → ⊥) → {v : Counted} → v.outcome ≡ x.outcome → Surveys table r k s t base env c v c₁
  survey_off h {v} y =
      subst (λ (o : Ended). Gives (surveyed table r) (Marked table r t base (due_for k c₁) v) s t base env c (ended o c₁)) (sym y)
      (record { kept = g.kept; right = λ ρ u. comes_stop (after ρ) (begun ρ u) h })

  module _ (h : x.outcome ≡ has_value) where
    pub survey_start : {n : ℕ} → n ≡ x.cursor.count → (due : ℕ) → Counts table r t base env c₁ due n t c₁ x.cursor 0 0 0
    survey_start e due =
        let (bs, w) = comes_held (begun a.state a.around) h in
        counts_start due (opened_asked k a g h) (subst Binder (sym d) (omega arith, omega arith)) q w e

    -- Whatever the loop comes to.
    pub survey_whole : {bs : List Binding} → ((k : Cursor) (bs' : List Binding) → Standing table r false t base k bs' → bs' ≡ bs) → {u : List ℕ} {v : Counted} {c₂ : Choices}
        → Gives (λ ρ. satisfying (meant table) r (operand_at table r 2) ρ bs) (Marked table r u base (due_for k c₂) v) t u base env c₁ (ended v.outcome c₂) → Surveys table r k s u base env c v c₂
    survey_whole {bs} only {u} {v} {c₂} n =
        record {
          kept = kept_then g.kept n.kept;
          right = λ ρ w. comes_on (after ρ) (begun ρ w) h (λ bs' w'. subst (λ (i : List Binding). Comes (after ρ i) (Marked table r u base (due_for k c₂) v) c₁ (ended v.outcome c₂)) (sym (only x.cursor bs' w')) (n.right ρ (around_kept g.kept w)));
        }
