-- An operand evaluated under a binding, and a condition tested there.
use mathlib.Core.Path.{◌≡◌, refl, sym, ap, subst, ◌∙◌}
use mathlib.Core.Bool.{Bool, true, false}
use mathlib.Core.List.{List}
use Prim.Native.Nat.{ℕ, ◌+◌, ◌-◌, ◌*◌, ◌≤◌, ◌<◌}
use native.Mathlib.Nat.{zero-mul}
use native.Mathlib.Omega.{arith}
use lib.ListN.{length, get_or, take}
use Rattle.values.specs.Place.{At, Holds}
use Rattle.values.proofs.Records.{holds as held_at}
use Rattle.values.proofs.Frame.{at_above}
use Rattle.choices.specs.State.{Choices, Invariant}
use Rattle.choices.specs.Tree.{Tree, give, stop}
use Rattle.tables.specs.Record.{named}
use Rattle.tables.specs.Table.{record_at}
use Rattle.tables.specs.Accepted.{records}
use Rattle.patterns.specs.Binding.{Binding, nothing}
use Rattle.patterns.specs.Binder.{formed}
use Rattle.patterns.specs.Read.{pattern_at}
use Rattle.calling.specs.Scratch.{Kept}
use Rattle.calling.proofs.Framing.{kept_outside, kept_then, kept_less}
use Rattle.meaning.specs.State.{State, under}
use Rattle.meaning.specs.Meaning.{is_true, or_else}
use Rattle.evaluator.specs.Contract.{Ended}
use Rattle.evaluator.specs.Contract.{has_value, refusal_at}
use Rattle.std.specs.declared.option.Option.{Option as Maybe}
use Rattle.std.specs.Prelude.{Some, None, Err}
use Rattle.prelude.specs.declared.Refusal.TheVariants.{WrongKind}
use Rattle.bindings.specs.declared.Cursor.{Cursor}
use Rattle.parts.specs.declared.words.Env.{Env}
use Rattle.evaluator.specs.Binding.{Placed, Held, Standing, Stands, Nameless, BindsNames, Upward, Insides, holds_in, Tests}
use Rattle.bindings.specs.Window.{Values, CellsAt, place_of, InWindow, Reachable, Reached, Underneath, UnderBinding}
use Rattle.bindings.specs.Laws.Window.{all_free}
use Rattle.evaluator.specs.Contract.{Ask, Around, Evaluated, ended, Comes, Gives, Evaluates, meant, operand_at}
use Rattle.evaluator.specs.Leaves.{read_as, Tells}
use Rattle.evaluator.proofs.Framing.{around_kept, around_up, at_kept}
use Rattle.evaluator.proofs.Coming.{comes_on, comes_stop, comes_as, comes_sound, comes_held, comes_value, comes_refused}
use Rattle.evaluator.proofs.Tables.{ask_down, lower_down, room_here}
use Rattle.evaluator.proofs.Standing.{standing_kept, around_under}

-- The bindings stand there again after a window was filled.
pub reached_standing : {table : List ℕ} {r : ℕ} {whole : Bool} {s : List ℕ} {base : ℕ} {env : Env} {c : Choices} {cursor : Cursor} {j : ℕ} → Stands table r whole s base env c cursor j → {p : ℕ} → p ≡ operand_at table r 0
    → {t : List ℕ} {near : Cursor} → Reached table p s t base whole (base + 512) cursor j near → {bs : List Binding} → Standing table r whole s base cursor bs → Standing table r whole t base near bs
reached_standing {table} {whole = whole} {base = base} a is_p o {bs} h =
    record {
      values = h.values;
      are = subst (λ (l : List ℕ). Values l base whole h.values) (sym o.outside.below) h.are;
      formed_as = h.formed_as;
      window = o.window-is h.values bs h.are (ap (λ (x : ℕ). formed (pattern_at (records table) x) h.values) is_p ∙ h.formed_as) h.window;
    }

module _ {table : List ℕ} {r : ℕ} {whole : Bool} {s : List ℕ} {base : ℕ} {env : Env} {c : Choices} {cursor : Cursor} {j : ℕ} (a : Stands table r whole s base env c cursor j) {up : ℕ} (upward : Upward up) where
  room : base + 2048 ≤ length s
  room = omega (arith, room_here a.asked)

  module _ {p : ℕ} (is_p : p ≡ operand_at table r 0) where
    pub inside_reachable : Reachable table p s base whole (base + 512) cursor j
    inside_reachable =
        let h = a.standing in
        record {
          room = omega (arith, room);
          short = a.asked.low;
          values = h.values;
          are = h.are;
          bindings = a.bindings;
          bound_are = ap (λ (x : ℕ). formed (pattern_at (records table) x) h.values) is_p ∙ h.formed_as;
          window-is = h.window;
          below = omega (arith, a.below, h.window.count);
        }

    module _ {t : List ℕ} {near : Cursor} (o : Reached table p s t base whole (base + 512) cursor j near) where
      kept_low : Kept s t (base + 512)
      kept_low = kept_outside (omega arith) o.outside

      reached : {bs : List Binding} → Standing table r whole s base cursor bs → Standing table r whole t base near bs
      reached h = reached_standing a is_p o h

      pub inside_under : Underneath t (base + 512) near j env
      inside_under =
          record { room = omega (arith, room, o.outside.long); short = omega (arith, a.asked.low, o.outside.long); bindings = a.bindings; window-is = (reached a.standing).window; within = o.within; sized = a.asked.around.words_sized }

      module _ {inner : Env} (u : UnderBinding t (base + 512) near j env inner) where
        inner_around : {bs : List Binding} → Standing table r whole s base cursor bs → {ρ : State} → Around s base env ρ → Around t (base + up) inner (under ρ (get_or bs j nothing))
        inner_around h w =
            around_up (omega arith) (omega (arith, room, o.outside.long))
            (around_under u (reached h).window (omega arith) (omega (arith, room, o.outside.long)) (around_kept (kept_less (omega arith) kept_low) w))

        module _ {i q : ℕ} (has : i < length (named (record_at (records table) r))) (is_q : q ≡ operand_at table r i) where
          pub inside_asked : (q < r) × Ask table q t (base + up) inner c
          inside_asked = (
            lower_down a.asked i has is_q,
            ask_down a.asked i has is_q {ρ = under a.asked.state (get_or a.bindings j nothing)} o.outside.long (omega arith) (inner_around a.standing a.asked.around) a.asked.sound,
          )

          pub inside_done : {v : List ℕ} {e : Evaluated} → Evaluates table q t v (base + up) inner c e → {x : Placed} → x.outcome ≡ e.outcome → x.cursor ≡ near → Insides table r q whole s v base up env c cursor j x e.choices
          inside_done {v} {e} g {x} y z =
              record {
                turned = λ bs h.
                    record {
                      given = subst (λ (w : Ended). Gives (λ ρ. meant table q (under ρ (get_or bs j nothing))) (At v (base + up)) s v base env c (ended w e.choices)) (sym y)
                          (record { kept = kept_less (omega arith) low; right = λ ρ w. g.right (under ρ (get_or bs j nothing)) (inner_around h w) });
                      low = low;
                      standing = subst (λ (k : Cursor). Standing table r whole v base k bs) (sym z) (standing_kept {n = base + up} g.kept (omega arith) (reached h));
                    };
                between = λ at w l m i. at_kept {base = base + up} g.kept (omega (arith, room, o.outside.long)) m (at_above o.outside (omega arith) i);
              }
            where
              low : Kept s v (base + 512)
              low = kept_then kept_low (kept_less (omega arith) g.kept)

-- ---- entering a binding, as one call

pub entering : {table : List ℕ} {r p : ℕ} → p ≡ operand_at table r 0 → {whole : Bool} {s t : List ℕ} {base : ℕ} {env : Env} {cursor : Cursor} {j : ℕ} {near : Cursor} {inner : Env} → Reached table p s t base whole (base + 512) cursor j near → UnderBinding t (base + 512) near j env inner → BindsNames table r whole s t base env cursor j near inner
entering {table} e {whole} {s} {t} {base} {cursor = cursor} {j} {near} h u = record { reached = subst (λ (m : ℕ). Reached table m s t base whole (base + 512) cursor j near) e h; under = u }

pub entered : {table : List ℕ} {r p : ℕ} → p ≡ operand_at table r 0 → {whole : Bool} {s t : List ℕ} {base : ℕ} {env : Env} {cursor : Cursor} {j : ℕ} {near : Cursor} {inner : Env} → BindsNames table r whole s t base env cursor j near inner → Reached table p s t base whole (base + 512) cursor j near
entered {table} e {whole} {s} {t} {base} {cursor = cursor} {j} {near} h = subst (λ (m : ℕ). Reached table m s t base whole (base + 512) cursor j near) (sym e) h.reached

-- Under a binding without names, which stands in the window, nothing is to be entered.
pub nameless_enters : {table : List ℕ} {r : ℕ} {whole : Bool} {s : List ℕ} {base : ℕ} {env : Env} {c : Choices} {cursor : Cursor} {j : ℕ} → Stands table r whole s base env c cursor j → Nameless cursor → BindsNames table r whole s s base env cursor j cursor env
nameless_enters {s = s} {base = base} {env = env} {cursor = cursor} {j = j} a n = record {
  reached = record { outside = record { long = refl; below = refl; above = refl }; count = refl; window-is = λ vs bs i f w. w; within = within };
  under = record {
    sized = a.asked.around.words_sized;
    cells = λ bs w x l.
        let q = subst (λ (m : ℕ). CellsAt s (take (base + 512) s) (place_of (base + 512) cursor j) (place_of (base + 512) cursor j + 4 * cursor.width) m (get_or bs j nothing)) n.names (w.each j within) in
        rw (all_free s (take (base + 512) s) (place_of (base + 512) cursor j) (place_of (base + 512) cursor j + 4 * cursor.width) (get_or bs j nothing) q x) refl;
  };
}
  where
    within : InWindow cursor j
    within = record {
      low = omega (arith, n.from);
      below = omega (arith, a.below, a.standing.window.count);
      fits = let z : cursor.width * (j - cursor.from) ≡ 0 = ap (λ (m : ℕ). m * (j - cursor.from)) n.width ∙ zero-mul (j - cursor.from) in omega (arith, z, n.width);
    }

-- ---- a condition

module _ {table : List ℕ} {r : ℕ} {s : List ℕ} {base : ℕ} {env : Env} {c : Choices} {cursor : Cursor} {j : ℕ} (a : Stands table r false s base env c cursor j) {q : ℕ} (is_q : q ≡ operand_at table r 2)
    {t : List ℕ} {x : Placed} {d : Choices} (o : Insides table r q false s t base 1536 env c cursor j x d) where
  abbrev test : State → List Binding → Tree Bool
  test ρ bs = holds_in table r ρ (get_or bs j nothing)

  -- whatever finishes after the operand
  tested : {h : Held} → h.cursor ≡ x.cursor → ((bs : List Binding) → Standing table r false s base cursor bs → (ρ : State) → Around s base env ρ → Comes (test ρ bs) (λ y. h.yes ≡ y) c (ended h.outcome d)) → Tests table r s t base env c cursor j h d
  tested {h} z k =
      record {
        turned = λ bs g. let w = o.turned bs g in
            record { given = record { kept = w.given.kept; right = λ ρ u. k bs g ρ u }; low = w.low; standing = subst (λ (y : Cursor). Standing table r false t base y bs) (sym z) w.standing };
        between = o.between;
      }

  value_part : (bs : List Binding) → Standing table r false s base cursor bs → (ρ : State) → Around s base env ρ → Comes (meant table (operand_at table r 2) (under ρ (get_or bs j nothing))) (At t (base + 1536)) c (ended x.outcome d)
  value_part bs g ρ u = subst (λ (m : ℕ). Comes (meant table m (under ρ (get_or bs j nothing))) (At t (base + 1536)) c (ended x.outcome d)) is_q ((o.turned bs g).given.right ρ u)

  pub test_off : (x.outcome ≡ has_value → ⊥) → {h : Held} → h.outcome ≡ x.outcome → h.cursor ≡ x.cursor → Tests table r s t base env c cursor j h d
  test_off n {h} y z =
      tested {h = h} z (λ bs g ρ u. subst (λ (w : Ended). Comes (test ρ bs) (λ y. h.yes ≡ y) c (ended w d)) (sym y) (comes_stop (is_true r) (value_part bs g ρ u) n))

  module _ (v : x.outcome ≡ has_value) where
    pub test_held : Holds t (base + 1536)
    test_held = let (w, i) = comes_held (value_part a.bindings a.standing a.asked.state a.asked.around) v in held_at i

    module _ (w : Maybe Bool) (told : Tells t (base + 1536) w) where
      by_truth : {h : Held} (x' : Maybe Bool) → w ≡ x' → h.cursor ≡ x.cursor → (Invariant d → Comes (or_else 20 r (read_as x')) (λ y. h.yes ≡ y) d (ended h.outcome d)) → Tests table r s t base env c cursor j h d
      by_truth {h} x' z y k =
          tested {h = h} y (λ bs g ρ u. let m = value_part bs g ρ u in comes_on (is_true r) m v (λ b i. comes_as (ap (or_else 20 r) (told b i ∙ ap read_as z)) (k (comes_sound m))))

      pub test_other : w ≡ None → {h : Held} → h.outcome ≡ Err (refusal_at WrongKind r) → h.cursor ≡ x.cursor → Tests table r s t base env c cursor j h d
      test_other z {h} y k = by_truth {h = h} None z k (λ l. subst (λ (o : Ended). Comes (stop 20 r) (λ y. h.yes ≡ y) d (ended o d)) (sym y) (comes_refused WrongKind r l))

      pub test_true : w ≡ Some true → {h : Held} → h.outcome ≡ has_value → h.cursor ≡ x.cursor → h.yes ≡ true → Tests table r s t base env c cursor j h d
      test_true z {h} y k b = by_truth {h = h} (Some true) z k (λ l. subst (λ (o : Ended). Comes (give true) (λ y. h.yes ≡ y) d (ended o d)) (sym y) (comes_value l b))

      pub test_false : w ≡ Some false → {h : Held} → h.outcome ≡ has_value → h.cursor ≡ x.cursor → h.yes ≡ false → Tests table r s t base env c cursor j h d
      test_false z {h} y k b = by_truth {h = h} (Some false) z k (λ l. subst (λ (o : Ended). Comes (give false) (λ y. h.yes ≡ y) d (ended o d)) (sym y) (comes_value l b))
