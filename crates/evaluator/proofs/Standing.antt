-- The bindings of a binder that stand open over its value, and the environment under one of them.
use mathlib.Core.Path.{◌≡◌, refl, sym, ap, subst, ◌∙◌}
use mathlib.Core.Bool.{Bool, true, false, not, ◌||◌}
use mathlib.Core.Logic.{inr}
use mathlib.Core.List.{List, [], ◌∷◌}
use Prim.Native.Nat.{ℕ, zero, suc, ◌+◌, ◌≤◌, ◌<◌}
use native.Mathlib.Omega.{arith}
use lib.Dec.{leb}
use lib.ListN.{length, get_or, take}
use borrow.Author.Tests.{leb-true}
use Rattle.prelude.proofs.Truth.{implied}
use Rattle.values.specs.Value.{Value}
use Rattle.values.proofs.Records.{one_value}
use Rattle.values.proofs.Frame.{below_less}
use Rattle.choices.specs.State.{Choices}
use Rattle.tables.proofs.Laws.Kinds.{binder_kind}
use Rattle.tables.specs.Record.{shape, is_pattern}
use Rattle.tables.specs.Table.{record_at, kind_at}
use Rattle.tables.proofs.Laws.Tests.{each}
use Rattle.tables.specs.Accepted.{records}
use Rattle.tables.proofs.Laws.Accepted.{fit_least, named_count, binder_pattern}
use Rattle.tables.specs.Sheet.{is_binder}
use Rattle.tables.specs.Reading.{HasOperand}
use Rattle.patterns.specs.Read.{Readable}
use Rattle.patterns.specs.Binding.{Cell, free, is, clash, Binding, nothing, cell_of}
use Rattle.patterns.specs.Pattern.{list_of, items_of}
use Rattle.patterns.specs.Binder.{bound, formed}
use Rattle.patterns.proofs.Laws.Matched.{list_items}
use Rattle.parts.specs.Part.{CellIs}
use Rattle.calling.specs.Scratch.{Kept}
use Rattle.meaning.specs.State.{State, over, under}
use Rattle.meaning.proofs.Laws.Reads.{under_length}
use Rattle.bindings.specs.declared.Cursor.{Cursor}
use Rattle.parts.specs.declared.words.Env.{Env}
use Rattle.parts.specs.Word.{unpacked}
use Rattle.bindings.specs.Window.{Values, Windowed, WordFor, UnderBinding}
use Rattle.bindings.specs.Laws.Window.{windowed_kept}
use Rattle.evaluator.specs.Contract.{Ask, Around, operand_at}
use Rattle.evaluator.specs.Binding.{Binder, pattern_for, Standing}
use Rattle.evaluator.proofs.Framing.{cell_up}
use Rattle.evaluator.proofs.Tables.{fine_of, here, lower_down}

-- ---- they stay

pub standing_kept : {table : List ℕ} {r : ℕ} {whole : Bool} {s t : List ℕ} {base n : ℕ} {cursor : Cursor} {bs : List Binding} → Kept s t n → base + 1024 ≤ n → Standing table r whole s base cursor bs → Standing table r whole t base cursor bs
standing_kept {whole = whole} {s = s} {t = t} {base = base} {n = n} k l h =
    record {
      values = h.values;
      are = subst (λ (l : List ℕ). Values l base whole h.values) (sym (below_less n (base + 512) s t (omega arith) k.below)) h.are;
      formed_as = h.formed_as;
      window = windowed_kept (below_less n (base + 512 + 512) s t (omega arith) k.below) h.window;
    }

-- There is one such list.
items_one : {vs ws : List Value} → items_of vs ≡ items_of ws → vs ≡ ws
items_one {vs} {ws} e = sym (list_items vs) ∙ ap list_of e ∙ list_items ws

values_one : (s : List ℕ) (at : ℕ) (whole : Bool) {vs ws : List Value} → Values s at whole vs → Values s at whole ws → vs ≡ ws
values_one s at true (v, a, d) (w, b, e) = d ∙ ap (λ (x : Value). x ∷ []) (one_value a b) ∙ sym e
values_one s at false a b = items_one (let e = one_value a b in cc)

pub standing_one : {table : List ℕ} {r : ℕ} {whole : Bool} {s : List ℕ} {base : ℕ} {k k' : Cursor} {bs bs' : List Binding} → Standing table r whole s base k bs → Standing table r whole s base k' bs' → bs ≡ bs'
standing_one {table} {r} {whole} {s} {base} {bs = bs} {bs' = bs'} h h' =
    let e : bound bs ≡ bound bs' = sym h.formed_as ∙ ap (formed (pattern_for table r)) (values_one (take (base + 512) s) base whole h.are h'.are) ∙ h'.formed_as in cc

-- ---- the environment under a binding

under_cell : (ρ b : State) (x : ℕ) → x < length ρ → cell_of (under ρ b) x ≡ over (cell_of ρ x) (cell_of b x)
unfolding under
under_cell [] b x l = absurd (omega arith)
under_cell (c ∷ cs) [] zero l = refl
under_cell (c ∷ cs) [] (suc x) l = refl
under_cell (c ∷ cs) (d ∷ ds) zero l = refl
under_cell (c ∷ cs) (d ∷ ds) (suc x) l = under_cell cs ds x (omega arith)

word_cell : (s : List ℕ) (old new : ℕ) (c d : Cell) → CellIs s (unpacked old) c → WordFor s old new d → CellIs s (unpacked new) (over c d)
word_cell s old new c free h w = subst (λ (n : ℕ). CellIs s (unpacked n) c) (sym w) h
word_cell s old new c (is v) h w = inr (v, refl, w)
word_cell s old new c clash h w = absurd w

pub around_under : {s : List ℕ} {base to : ℕ} {k : Cursor} {j : ℕ} {env inner : Env} {bs : List Binding} {ρ : State} → UnderBinding s to k j env inner → Windowed s to k bs → base ≤ to → to ≤ length s → Around s base env ρ → Around s to inner (under ρ (get_or bs j nothing))
around_under {s} {base} {to} {k} {j} {env} {inner} {bs} {ρ} u w h l a =
    record {
      words_sized = u.sized;
      sized = under_length ρ (get_or bs j nothing) ∙ a.sized;
      cells = λ x i.
          subst (CellIs (take to s) (unpacked (get_or inner.words x 0))) (sym (under_cell ρ (get_or bs j nothing) x (omega (arith, a.sized))))
          (word_cell (take to s) (get_or env.words x 0) (get_or inner.words x 0) (cell_of ρ x) (cell_of (get_or bs j nothing) x)
          (cell_up s h l (unpacked (get_or env.words x 0)) (cell_of ρ x) (a.cells x i)) (u.cells bs w x i));
    }

-- ---- the operands of a binder

binder_true : {k : ℕ} → Binder k → is_binder k ≡ true
binder_true {k} b = binder_kind k b.0 b.1

binder_least : (k : ℕ) → Binder k → 3 ≤ (shape k).least
unfolding shape
binder_least k b = leb-true _ _ (implied (is_binder k) _ (each (λ k. not (is_binder k) || leb 3 (shape k).least) 41 refl k (omega (arith, b.1))) (binder_true b))

module _ {table : List ℕ} {r : ℕ} {s : List ℕ} {base : ℕ} {env : Env} {c : Choices} (a : Ask table r s base env c) (b : Binder (kind_at (records table) r)) where
  pub binder_has : (i : ℕ) → i < 3 → HasOperand table r i
  binder_has i l =
      record {
        here = here a;
        has = omega (arith, named_count (record_at (records table) r) ((fine_of a.legal).fit r a.within), fit_least (record_at (records table) r) ((fine_of a.legal).fit r a.within), binder_least (kind_at (records table) r) b);
      }

  pub binder_readable : {p : ℕ} → p ≡ operand_at table r 0 → Readable table p
  binder_readable {p} e =
      record {
        fine = fine_of a.legal;
        here = omega (arith, a.within, lower_down a 0 (binder_has 0 (omega arith)).has e);
        pattern = ap (λ (x : ℕ). is_pattern (kind_at (records table) x)) e ∙ binder_pattern (records table) (fine_of a.legal) r a.within (binder_true b);
      }
