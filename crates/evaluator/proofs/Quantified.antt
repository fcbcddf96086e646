-- 14, 15: a law for each place of the loop that is left as soon as a condition settles it.
use mathlib.Core.Path.{◌≡◌, refl, sym, ap, subst, ◌∙◌}
use mathlib.Core.Bool.{Bool, true, false, not}
use mathlib.Core.List.{List, ◌∷◌}
use Prim.Native.Nat.{ℕ, suc, ◌+◌, ◌≤◌, ◌<◌}
use native.Mathlib.Omega.{arith}
use lib.ListN.{length, get_or, drop}
use lib.Seq.{drop-cons, drop-length}
use Rattle.values.specs.Value.{Value, boolean}
use Rattle.values.specs.Contract.{Put}
use Rattle.choices.specs.State.{Choices, Invariant}
use Rattle.choices.specs.Tree.{give}
use Rattle.tables.specs.Table.{kind_at}
use Rattle.tables.specs.Accepted.{records}
use Rattle.patterns.specs.Binding.{Binding, nothing}
use Rattle.calling.specs.Scratch.{Kept}
use Rattle.calling.proofs.Framing.{kept_then, kept_less, kept_same, put_kept}
use Rattle.meaning.specs.State.{State}
use Rattle.evaluator.specs.Contract.{has_value}
use Rattle.bindings.specs.declared.Cursor.{Cursor}
use Rattle.parts.specs.declared.words.Env.{Env}
use Rattle.evaluator.specs.Binding.{Placed, Held, Binder, quantified, wholly, Standing, Begins, Stands, Turned, holds_in, Tests}
use Rattle.evaluator.specs.Contract.{Ask, Around, Evaluated, ended, Comes, gave, off, Gives, Evaluates, meant, operand_at, value_as}
use Rattle.evaluator.proofs.Framing.{around_kept}
use Rattle.evaluator.proofs.Coming.{value_refused, comes_sound, comes_value}
use Rattle.evaluator.proofs.Leading.{Leads, leads_start, leads_as}
use Rattle.evaluator.proofs.Scanning.{scan_none, scan_off, scan_settled, scan_on}
use Rattle.evaluator.proofs.Standing.{standing_one}
use Rattle.evaluator.proofs.Meant.{scan_in, mean_quantifier}
use Rattle.evaluator.proofs.Opening.{leads_comes, ask_again, opened_off, opened_asked, opened_standing, opened_on}

-- From s₀ and c₀, where the bindings stood open, up to binding j.
pub record Scans (table : List ℕ) (r : ℕ) (s₀ : List ℕ) (base : ℕ) (env : Env) (want : Bool) (c₀ : Choices) (n : ℕ) (s : List ℕ) (c : Choices) (cursor : Cursor) (found : Bool) (j : ℕ) : Type 0 where
  pub asked : Ask table r s₀ base env c₀
  pub binder : Binder (kind_at (records table) r)
  pub bindings : List Binding
  pub only : (k : Cursor) (bs : List Binding) → Standing table r false s₀ base k bs → bs ≡ bindings
  pub standing : Standing table r false s base cursor bindings
  pub count : n ≡ length bindings
  pub within : j ≤ n
  pub kept : Kept s₀ s (base + 512)
  pub open_yet : found ≡ not want
  pub sound : Invariant c
  pub right : (ρ : State) → Around s₀ base env ρ → Leads (scan_in table r ρ want bindings) c₀ (scan_in table r ρ want (drop j bindings)) c

-- Settled by a binding, or by the end.
pub record Settled (table : List ℕ) (r : ℕ) (s₀ : List ℕ) (base : ℕ) (env : Env) (want : Bool) (c₀ : Choices) (s : List ℕ) (c : Choices) (answer : Bool) : Type 0 where
  pub bindings : List Binding
  pub only : (k : Cursor) (bs : List Binding) → Standing table r false s₀ base k bs → bs ≡ bindings
  pub kept : Kept s₀ s base
  pub right : (ρ : State) → Around s₀ base env ρ → Leads (scan_in table r ρ want bindings) c₀ (give (boolean answer)) c

scans_start : {table : List ℕ} {r : ℕ} {s : List ℕ} {base : ℕ} {env : Env} {want : Bool} {c : Choices} {n : ℕ} {cursor : Cursor} {bs : List Binding} → Ask table r s base env c → Binder (kind_at (records table) r)
    → Standing table r false s base cursor bs → n ≡ cursor.count → Scans table r s base env want c n s c cursor (not want) 0
scans_start {s = s} {base = base} {bs = bs} a b h e =
    record {
      asked = a;
      binder = b;
      bindings = bs;
      only = λ k bs w. standing_one w h;
      standing = h;
      count = omega (arith, h.window.count);
      within = omega arith;
      kept = kept_same s (base + 512);
      open_yet = refl;
      sound = a.sound;
      right = λ ρ u. leads_start a.sound refl;
    }

module _ {table : List ℕ} {r : ℕ} {s₀ : List ℕ} {base : ℕ} {env : Env} {want : Bool} {c₀ : Choices} {n : ℕ} {s : List ℕ} {c : Choices} {cursor : Cursor} {found : Bool} {j : ℕ} (b : Scans table r s₀ base env want c₀ n s c cursor found j) where
  low : Kept s₀ s base
  low = kept_less (omega arith) b.kept

  pub scans_end : n ≤ j → Settled table r s₀ base env want c₀ s c found
  scans_end h =
      subst (Settled table r s₀ base env want c₀ s c) (sym b.open_yet)
      (record {
        bindings = b.bindings;
        only = b.only;
        kept = low;
        right = λ ρ u. leads_as (ap (scan_in table r ρ want) (ap (λ (m : ℕ). drop m b.bindings) (let z : j ≡ length b.bindings = omega (arith, b.count, b.within) in z) ∙ drop-length b.bindings) ∙ scan_none want (meant table) r (operand_at table r 2) ρ) (b.right ρ u);
      })

  module _ (l : j < n) where
    pub scans_stands : Stands table r false s base env c cursor j
    scans_stands = record { asked = ask_again b.asked low b.sound; binder = b.binder; bindings = b.bindings; standing = b.standing; below = omega (arith, b.count) }

    module _ {t : List ℕ} {h : Held} {d : Choices} (o : Tests table r s t base env c cursor j h d) where
      turned : Turned (λ ρ. holds_in table r ρ (get_or b.bindings j nothing)) (λ y. h.yes ≡ y) table r false b.bindings s t base env c (ended h.outcome d) h.cursor
      turned = o.turned b.bindings b.standing

      opened : (ρ : State) → Around s₀ base env ρ → Leads (scan_in table r ρ want b.bindings) c₀ (scan_in table r ρ want (get_or b.bindings j nothing ∷ drop (j + 1) b.bindings)) c
      opened ρ u =
          let z : suc j ≡ j + 1 = omega arith in
          leads_as (ap (scan_in table r ρ want) (drop-cons b.bindings j nothing (omega (arith, b.count)) ∙ ap (λ (m : ℕ). get_or b.bindings j nothing ∷ drop m b.bindings) z)) (b.right ρ u)

      tested : (ρ : State) → Around s₀ base env ρ → Comes (holds_in table r ρ (get_or b.bindings j nothing)) (λ y. h.yes ≡ y) c (ended h.outcome d)
      tested ρ u = turned.given.right ρ (around_kept low u)

      sound_now : Invariant d
      sound_now = comes_sound (tested b.asked.state b.asked.around)

      pub scans_off : (h.outcome ≡ has_value → ⊥) → {P : Value → Type 0} → Gives (λ ρ. scan_in table r ρ want b.bindings) P s₀ t base env c₀ (ended h.outcome d)
      scans_off x {P} = record { kept = kept_then low turned.given.kept; right = λ ρ u. go ρ (opened ρ u) (tested ρ u) }
        where
          go : (ρ : State) → Leads (scan_in table r ρ want b.bindings) c₀ (scan_in table r ρ want (get_or b.bindings j nothing ∷ drop (j + 1) b.bindings)) c → Comes (holds_in table r ρ (get_or b.bindings j nothing)) (λ y. h.yes ≡ y) c (ended h.outcome d) → Comes (scan_in table r ρ want b.bindings) P c₀ (ended h.outcome d)
          go ρ k (gave y p w) = absurd (x y)
          go ρ k (off y w) = off y (scan_off want (meant table) r (operand_at table r 2) ρ (get_or b.bindings j nothing) (drop (j + 1) b.bindings) k w)

      module _ (v : h.outcome ≡ has_value) where
        pub scans_hit : h.yes ≡ want → Settled table r s₀ base env want c₀ t d want
        scans_hit x = record { bindings = b.bindings; only = b.only; kept = kept_then low turned.given.kept; right = λ ρ u. go ρ (opened ρ u) (tested ρ u) }
          where
            go : (ρ : State) → Leads (scan_in table r ρ want b.bindings) c₀ (scan_in table r ρ want (get_or b.bindings j nothing ∷ drop (j + 1) b.bindings)) c → Comes (holds_in table r ρ (get_or b.bindings j nothing)) (λ y. h.yes ≡ y) c (ended h.outcome d) → Leads (scan_in table r ρ want b.bindings) c₀ (give (boolean want)) d
            go ρ k (gave y p w) = scan_settled want (meant table) r (operand_at table r 2) ρ (get_or b.bindings j nothing) (drop (j + 1) b.bindings) k w (sym p ∙ x)
            go ρ k (off y w) = value_refused v y

        pub scans_more : h.yes ≡ not want → {j' : ℕ} {cursor' : Cursor} → j' ≡ j + 1 → cursor' ≡ h.cursor → Scans table r s₀ base env want c₀ n t d cursor' found j'
        scans_more x {j'} {cursor'} z y =
            record {
              asked = b.asked;
              binder = b.binder;
              bindings = b.bindings;
              only = b.only;
              standing = subst (λ (k : Cursor). Standing table r false t base k b.bindings) (sym y) turned.standing;
              count = b.count;
              within = omega arith;
              kept = kept_then b.kept turned.low;
              open_yet = b.open_yet;
              sound = sound_now;
              right = λ ρ u. subst (λ (m : ℕ). Leads (scan_in table r ρ want b.bindings) c₀ (scan_in table r ρ want (drop m b.bindings)) d) (sym z) (go ρ (opened ρ u) (tested ρ u));
            }
          where
            go : (ρ : State) → Leads (scan_in table r ρ want b.bindings) c₀ (scan_in table r ρ want (get_or b.bindings j nothing ∷ drop (j + 1) b.bindings)) c → Comes (holds_in table r ρ (get_or b.bindings j nothing)) (λ y. h.yes ≡ y) c (ended h.outcome d) → Leads (scan_in table r ρ want b.bindings) c₀ (scan_in table r ρ want (drop (j + 1) b.bindings)) d
            go ρ k (gave y p w) = scan_on want (meant table) r (operand_at table r 2) ρ (get_or b.bindings j nothing) (drop (j + 1) b.bindings) k w (sym p ∙ x)
            go ρ k (off y w) = value_refused v y

-- Both exits of the loop meet here.
pub settled_as : {table : List ℕ} {r : ℕ} {s₀ : List ℕ} {base : ℕ} {env : Env} {want : Bool} {c₀ : Choices} {s s' : List ℕ} {c c' : Choices} {f f' : Bool} → s ≡ s' → c ≡ c' → f ≡ f' → Settled table r s₀ base env want c₀ s' c' f' → Settled table r s₀ base env want c₀ s c f
settled_as {table} {r} {s₀} {base} {env} {want} {c₀} {s} {s'} {c} {c'} {f} {f'} x y z d =
    subst (λ (i : List ℕ). Settled table r s₀ base env want c₀ i c f) (sym x)
    (subst (λ (i : Choices). Settled table r s₀ base env want c₀ s' i f) (sym y)
    (subst (λ (i : Bool). Settled table r s₀ base env want c₀ s' c' i) (sym z) d))

-- ---- from the start of the record

module _ {table : List ℕ} {r : ℕ} {s : List ℕ} {base : ℕ} {env : Env} {c : Choices} (a : Ask table r s base env c) (want : Bool) (d : kind_at (records table) r ≡ quantified want)
    {t : List ℕ} {x : Placed} {c₁ : Choices} (g : Begins table r (quantified want) s t base env c x c₁) where
  quant_binder : Binder (kind_at (records table) r)
  quant_binder = subst Binder (sym d) (go want)
    where
      go : (w : Bool) → Binder (quantified w)
      go true = (omega arith, omega arith)
      go false = (omega arith, omega arith)

  not_whole : wholly (quantified want) ≡ false
  not_whole = go want
    where
      go : (w : Bool) → wholly (quantified w) ≡ false
      go true = refl
      go false = refl

  pub quantify_off : (x.outcome ≡ has_value → ⊥) → Evaluates table r s t base env c (ended x.outcome c₁)
  quantify_off h = opened_off (quantified want) a g (λ ρ. scan_in table r ρ want) (λ ρ. mean_quantifier a.legal r ρ want d) h

  module _ (h : x.outcome ≡ has_value) where
    pub quantify_start : {n : ℕ} → n ≡ x.cursor.count → Scans table r t base env want c₁ n t c₁ x.cursor (not want) 0
    quantify_start e =
        let (bs, w) = opened_standing (quantified want) a g h in
        scans_start (opened_asked (quantified want) a g h) quant_binder (subst (λ (y : Bool). Standing table r y t base x.cursor bs) not_whole w) e

    -- What the loop's record comes to, the whole comes to.
    pub quantify_whole : {bs : List Binding} → ((k : Cursor) (bs' : List Binding) → Standing table r false t base k bs' → bs' ≡ bs) → {u : List ℕ} {P : Value → Type 0} {e : Evaluated} → Gives (λ ρ. scan_in table r ρ want bs) P t u base env c₁ e → Gives (meant table r) P s u base env c e
    quantify_whole {bs} only n =
        let (bs', w) = opened_standing (quantified want) a g h in
        opened_on (quantified want) a g h (λ ρ. scan_in table r ρ want) (λ ρ. mean_quantifier a.legal r ρ want d)
        (subst (Standing table r (wholly (quantified want)) t base x.cursor) (only x.cursor bs' (subst (λ (y : Bool). Standing table r y t base x.cursor bs') not_whole w)) w) n

    pub quantify_done : {u v : List ℕ} {c₂ : Choices} {answer : Bool} {m : ℕ} → Settled table r t base env want c₁ u c₂ answer → Put u v base (boolean answer) 5 m → Evaluates table r s v base env c (value_as c₂)
    quantify_done {c₂ = c₂} z p =
        quantify_whole z.only
        (record { kept = kept_then z.kept (put_kept p); right = λ ρ w. let l = z.right ρ w in leads_comes l (comes_value l.sound p.here) })
