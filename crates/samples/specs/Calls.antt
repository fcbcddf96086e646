-- The sheet of "The walk print", whose complete lists are 0 and 1, on lent bytes: what the calls answer, and what they leave in the walk and the
-- result buffer.
use Rattle.std.specs.Prelude.{◌≡◌, refl, List, [], ◌∷◌, ◌++◌, ℕ, replicate}
use Rattle.choices.specs.Tree.{result, refuses}
use Rattle.values.specs.Value.{encode}
use Rattle.meaning.specs.Walk.{Walk, overwritten}
use Rattle.meaning.specs.Service.{scratch_bytes, evaluates, firsts, steps}
use Rattle.meaning.specs.Lent.{zeroed, filled_up, result_after, walk_after}
use Rattle.samples.specs.Notation.{computing}
use Rattle.samples.specs.Samples.{worked}

-- A walk with these first entries, zeros to 64 and two bytes beyond, and this length.
abbrev holding : List ℕ → ℕ → ℕ → Walk
holding l zeros len = record { entries = l ++ replicate zeros 0 ++ 9 ∷ 9 ∷ []; len = len }

-- The first list, whatever entries and length the walk held.
abbrev used : Walk
used = record { entries = replicate 66 9; len = 70 }

pub first_writes : walk_after (firsts scratch_bytes worked used) used ≡ holding (0 ∷ []) 63 1
unfolding computing overwritten
first_writes = refl

-- The step, twice.
pub step_writes : walk_after (steps scratch_bytes worked (holding (0 ∷ []) 63 1)) (holding (0 ∷ []) 63 1) ≡ holding (1 ∷ []) 63 1
unfolding computing overwritten
step_writes = refl

pub no_next_list : steps scratch_bytes worked (holding (1 ∷ []) 63 1) ≡ refuses 35 0 0
unfolding computing
no_next_list = refl

-- Only the entries below the length are read.
pub step_reads : steps scratch_bytes worked (holding (0 ∷ 7 ∷ 7 ∷ []) 61 1) ≡ result (1 ∷ [])
unfolding computing
step_reads = refl

-- A length over 64; too few entries.
pub length_70 : steps scratch_bytes worked used ≡ refuses 10 0 0
unfolding computing
length_70 = refl

pub entries_63 : firsts scratch_bytes worked (record { entries = replicate 63 0; len = 1 }) ≡ refuses 10 0 0
unfolding computing
entries_63 = refl

-- Lists that are not complete: used up, an entry not below the number of bindings, entries left over.
pub step_lent_short : steps scratch_bytes worked (holding [] 64 0) ≡ refuses 32 10 2
unfolding computing
step_lent_short = refl

pub step_beyond : steps scratch_bytes worked (holding (2 ∷ []) 63 1) ≡ refuses 33 10 2
unfolding computing
step_beyond = refl

pub step_left_over : steps scratch_bytes worked (holding (0 ∷ []) 63 2) ≡ refuses 34 10 0
unfolding computing
step_left_over = refl

-- Evaluating under 0 gives 2, and under no list 32: the result buffer, with two bytes beyond.
abbrev buffer : List ℕ
buffer = replicate 514 9

pub value_written : result_after (evaluates scratch_bytes 514 worked (0 ∷ [])) buffer ≡ 8 ∷ 0 ∷ 2 ∷ 0 ∷ 2 ∷ 0 ∷ 0 ∷ 0 ∷ replicate 504 0 ++ 9 ∷ 9 ∷ []
unfolding computing encode filled_up
value_written = refl

pub zeros_written : result_after (evaluates scratch_bytes 514 worked []) buffer ≡ replicate 512 0 ++ 9 ∷ 9 ∷ []
unfolding computing zeroed
zeros_written = refl
