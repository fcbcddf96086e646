-- What the four services answer and leave in every byte that they are lent, refusals included. Document 01: "1 and 2 change nothing. Otherwise
-- the first 65,536 scratch bytes end as zero; evaluating sets the first 512 result bytes to the value and then zeros, all zeros when refused.
-- Bytes beyond are untouched." A table and a list are never changed. An exported function's promise is that it computes one of these four.
use Rattle.std.specs.Prelude.{Bool, ◌||◌, cond, List, ◌++◌, ℕ, ◌-◌, eqb, length, drop, replicate}
use Rattle.choices.specs.Tree.{Final, result, refuses}
use Rattle.values.specs.Value.{Value, encode, value_limit as largest}
use Rattle.meaning.specs.Answer.{packed, uncounted, final_number, record_count}
use Rattle.meaning.specs.Walk.{Walk, overwritten}
use Rattle.meaning.specs.Service.{scratch_bytes, checks, evaluates, firsts, steps}

-- ---- bytes

-- The first n bytes as zeros, and the others as they are.
unfoldable pub zeroed : ℕ → List ℕ → List ℕ
zeroed n lent = replicate n 0 ++ drop n lent

-- The first n bytes as those given and then zeros, and the others as they are.
unfoldable pub filled_up : ℕ → List ℕ → List ℕ → List ℕ
filled_up n bytes lent = (bytes ++ replicate (n - length bytes) 0) ++ drop n lent

-- 1 and 2.
abbrev pub is_early : ℕ → Bool
is_early n = eqb n 1 || eqb n 2

abbrev pub scratch_after : {A : Type 0} → Final A → List ℕ → List ℕ
scratch_after answer scratch = cond (is_early (final_number answer)) scratch (zeroed scratch_bytes scratch)

abbrev pub result_after : Final Value → List ℕ → List ℕ
result_after (result v) buffer = filled_up largest (encode v) buffer
result_after (refuses n p k) buffer = cond (is_early n) buffer (zeroed largest buffer)

-- A refusal of either call leaves the walk.
abbrev pub walk_after : Final (List ℕ) → Walk → Walk
walk_after (result l) w = overwritten l w
walk_after (refuses n p k) w = w

-- ---- check

-- The answer, and what is left in the scratch.
pub record AfterCheck : Type 0 where
  pub answer : ℕ
  pub scratch : List ℕ

abbrev pub after_check : Final ℕ → List ℕ → AfterCheck
after_check due scratch = record { answer = packed record_count due; scratch = scratch_after due scratch }

-- The check of a table, with a scratch.
abbrev pub check_call : List ℕ → List ℕ → AfterCheck
check_call table scratch = after_check (checks (length scratch) table) scratch

-- ---- evaluate

-- The answer, and what is left in the scratch and the result buffer.
pub record AfterEvaluate : Type 0 where
  pub answer : ℕ
  pub scratch : List ℕ
  pub buffer : List ℕ

abbrev pub after_evaluate : Final Value → List ℕ → List ℕ → AfterEvaluate
after_evaluate due scratch buffer = record { answer = packed uncounted due; scratch = scratch_after due scratch; buffer = result_after due buffer }

-- Evaluating a table under a list, with a scratch and a result buffer.
abbrev pub evaluate_call : List ℕ → List ℕ → List ℕ → List ℕ → AfterEvaluate
evaluate_call table list scratch buffer = after_evaluate (evaluates (length scratch) (length buffer) table list) scratch buffer

-- ---- first list and step

-- The answer, and what is left in the scratch and the walk.
pub record AfterWalk : Type 0 where
  pub answer : ℕ
  pub scratch : List ℕ
  pub walk : Walk

abbrev pub after_walk : Final (List ℕ) → List ℕ → Walk → AfterWalk
after_walk due scratch w = record { answer = packed uncounted due; scratch = scratch_after due scratch; walk = walk_after due w }

-- The first list of a table into a walk, and the step of a walk, with a scratch.
abbrev pub first_call : List ℕ → Walk → List ℕ → AfterWalk
first_call table w scratch = after_walk (firsts (length scratch) table w) scratch w

abbrev pub step_call : List ℕ → Walk → List ℕ → AfterWalk
step_call table w scratch = after_walk (steps (length scratch) table w) scratch w
