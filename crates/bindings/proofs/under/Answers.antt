use Rattle.bindings.proofs.Windows.{under_start, under_in, under_room, under_some, under_none, under_end}
use native.Mathlib.Omega.{arith}
use mathlib.Core.Path.{refl}
use Rattle.bindings.proofs.under.Goals as goal
use Rattle.bindings.proofs.under.Goals.{then-left-eq1, else-left-eq1}

pub overflow_sub-at : goal.overflow_sub-at
overflow_sub-at c = omega (arith, c.requires.within.low)

pub overflow_mul-at : goal.overflow_mul-at
overflow_mul-at c = omega (arith, c.requires.within.fits)

pub overflow_mul-at-2 : goal.overflow_mul-at-2
overflow_mul-at-2 c = omega (arith, c.requires.within.fits)

pub overflow_add-at : goal.overflow_add-at
overflow_add-at c = omega (arith, c.requires.within.fits, c.requires.room, c.requires.short)

pub loop-left-init : goal.loop-left-init
loop-left-init c = λ c' env h a b d. rw (← a, b, d) (under_start _ _ _ _ _ h)

pub read_word-requires : goal.read_word-requires
read_word-requires c =
    under_room _ _ _ _ _ c.requires _ _ _ _ (c.loop-left.invariant c.args.cursor (record { words = c.args.words.now }) c.requires refl refl refl) (omega arith) c.if-left-eq1.true

pub offset_bounds-words-x : goal.offset_bounds-words-x
offset_bounds-words-x c =
    omega (arith, under_in _ _ _ _ _ c.requires _ _ _ _ (c.loop-left.invariant c.args.cursor (record { words = c.args.words.now }) c.requires refl refl refl) (omega arith))

pub bounds-words-x : goal.bounds-words-x
bounds-words-x c =
    omega (arith, under_in _ _ _ _ _ c.requires _ _ _ _ (c.loop-left.invariant c.args.cursor (record { words = c.args.words.now }) c.requires refl refl refl) (omega arith))

pub overflow_add-at-then-left-eq1 : goal.overflow_add-at-then-left-eq1
overflow_add-at-then-left-eq1 c =
    omega (arith, under_room _ _ _ _ _ c.requires _ _ _ _ (c.loop-left.invariant c.args.cursor (record { words = c.args.words.now }) c.requires refl refl refl) (omega arith) c.if-left-eq1.true)

pub overflow_add-x : goal.overflow_add-x
overflow_add-x c =
    omega (arith, under_in _ _ _ _ _ c.requires _ _ _ _ (c.loop-left.invariant c.args.cursor (record { words = c.args.words.now }) c.requires refl refl refl) (omega arith))

pub loop-left-smaller : goal.loop-left-smaller
loop-left-smaller c = omega arith

pub loop-left-preserved : goal.loop-left-preserved
loop-left-preserved c =
    λ c' env h a b d. elim c.if-left-eq1.branch [
      | then-left-eq1 w ↦ rw (w.words-is, w.at-is) (under_some _ _ _ _ _ h _ _ _ _ (c.loop-left.invariant c' env h a b d) (omega arith) w.if-left-eq1.true _ w.read_word.ensures)
      | else-left-eq1 w ↦ rw (w.words-is, w.at-is) (under_none _ _ _ _ _ h _ _ _ _ (c.loop-left.invariant c' env h a b d) (omega arith) w.if-left-eq1.false)
    ]

pub returns : goal.returns
returns c =
    under_end _ _ _ _ _ c.requires _ _ _ _ (c.loop-left.invariant c.args.cursor (record { words = c.args.words.now }) c.requires refl refl refl) (omega arith)
