-- What stands in a window stays where nothing below its end changes.
use Rattle.std.specs.Prelude.{◌≡◌, refl, Bool, true, false, List, [], ◌∷◌, ℕ, zero, suc, ◌+◌, ◌*◌, ◌/◌, ◌≤◌, ◌<◌, get_or, take}
use Rattle.std.proofs.Common.{sym, ap, subst, ◌∙◌, arith, get_or-take, take-take}
use Rattle.integers.specs.Bytes.{bits32}
use Rattle.patterns.specs.Binding.{Cell, free, Binding, nothing}
use Rattle.parts.specs.Chosen.{odd}
use Rattle.parts.specs.Part.{PartIs}
use Rattle.parts.specs.Word.{unpacked}
use Rattle.bindings.specs.declared.Cursor.{Cursor}
use Rattle.bindings.specs.Window.{window, CellAt, past, CellsAt, place_of, Windowed}

pub bits_kept : (s t : List ℕ) (base at : ℕ) → take base t ≡ take base s → at + 4 ≤ base → bits32 t at ≡ bits32 s at
bits_kept s t base at e l =
    let a : (j : ℕ) → j < base → get_or t j 0 ≡ get_or s j 0 = λ j k. sym (get_or-take base t j 0 k) ∙ ap (λ (x : List ℕ). get_or x j 0) e ∙ get_or-take base s j 0 k in
    omega (arith, a at (omega arith), a (at + 1) (omega arith), a (at + 2) (omega arith), a (at + 2 + 1) (omega arith))

pub past_after : (b : Bool) (at : ℕ) → at ≤ past b at
past_after true at = omega arith
past_after false at = omega arith

pub cells_end : (s t : List ℕ) (at e m : ℕ) (cs : List Cell) → CellsAt s t at e m cs → at ≤ e
cells_end s t at e m [] h = h.1
cells_end s t at e m (c ∷ cs) h = omega (arith, past_after (odd m) at, cells_end s t (past (odd m) at) e (m / 2) cs h.1)

-- A mask without names: no name has a value.
pub all_free : (s t : List ℕ) (at e : ℕ) (cs : List Cell) → CellsAt s t at e 0 cs → (y : ℕ) → get_or cs y free ≡ free
all_free s t at e [] q y = refl
all_free s t at e (d ∷ cs) q zero = q.0
all_free s t at e (d ∷ cs) q (suc y) = all_free s t at e cs q.1 y

module _ (s s' t : List ℕ) (e : ℕ) (same : take e s' ≡ take e s) where
  cell_kept : (b : Bool) (at : ℕ) (c : Cell) → past b at ≤ e → CellAt s t at b c → CellAt s' t at b c
  cell_kept true at c l (v, f, h) = (v, f, subst (λ (w : ℕ). PartIs t (unpacked w) v) (sym (bits_kept s s' e at same l)) h)
  cell_kept false at c l h = h

  pub cells_kept : (at end m : ℕ) (cs : List Cell) → end ≤ e → CellsAt s t at end m cs → CellsAt s' t at end m cs
  cells_kept at end m [] l h = h
  cells_kept at end m (c ∷ cs) l h =
      let k = cells_end s t (past (odd m) at) end (m / 2) cs h.1 in
      (cell_kept (odd m) at c (omega arith) h.0, cells_kept (past (odd m) at) end (m / 2) cs l h.1)

-- THEOREM: a window holds what it held where nothing below its end changed
pub windowed_kept : {s t : List ℕ} {to : ℕ} {c : Cursor} {bs : List Binding} → take (to + window) t ≡ take (to + window) s → Windowed s to c bs → Windowed t to c bs
windowed_kept {s} {t} {to} {c} {bs} e h = record {
  count = h.count;
  few = h.few;
  narrow = h.narrow;
  first = h.first;
  each = λ k i. subst (λ (u : List ℕ). CellsAt t u (place_of to c k) (place_of to c k + 4 * c.width) c.names (get_or bs k nothing)) (sym below) (cells_kept s t (take to s) (to + window) e (place_of to c k) (place_of to c k + 4 * c.width) c.names (get_or bs k nothing) (omega (arith, i.fits)) (h.each k i));
  sized = h.sized;
}
  where
    below : take to t ≡ take to s
    below = sym (take-take to (to + window) t (omega arith)) ∙ ap (take to) e ∙ take-take to (to + window) s (omega arith)
