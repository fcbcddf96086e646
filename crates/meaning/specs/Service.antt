-- What the four services answer, from their arguments alone: document 01, "From the input", "From the state of the run" and "The walk".
-- `result` is success, number 0 with place 0; `refuses` has number, place and count. A buffer enters by its length. What they leave in the
-- bytes that they are lent is in `Lent`.
use Rattle.std.specs.Prelude.{Bool, ◌||◌, cond, List, ℕ, ◌-◌, ltb, length}
use Rattle.std.proofs.Math.Option.{Option, none as absent, some}
use Rattle.choices.specs.Tree.{Tree, run, Final, result, refuses, final, most_choices}
use Rattle.choices.specs.Paths.{first_list, next_list}
use Rattle.values.specs.Value.{Value, value_limit as largest}
use Rattle.std.specs.Prelude.{Ok, Err}
use Rattle.tables.specs.Faults.{Checked, number_of}
use Rattle.tables.specs.Check.{check}
use Rattle.meaning.specs.State.{unbound}
use Rattle.meaning.specs.Meaning.{Sheet, meaning}
use Rattle.meaning.specs.Read.{sheet}
use Rattle.meaning.specs.Walk.{Walk, walk_list}

-- The scratch that every service is lent.
abbrev pub scratch_bytes : ℕ
scratch_bytes = 65536

-- The last record of a sheet, and its meaning with no name bound.
abbrev pub last : Sheet → ℕ
last s = s.size - 1

abbrev pub tree : List ℕ → Tree Value
tree table = meaning (sheet table) (last (sheet table)) unbound

-- ---- tests, in order

-- The refusal n with place 0 where the test is true, else what follows.
abbrev pub unless : {A : Type 0} → Bool → ℕ → Final A → Final A
unless bad n answer = cond bad (refuses n 0 0) answer

-- Rules 3 to 9, then what follows on the number of records.
abbrev pub accepted : {A : Type 0} → Checked → (ℕ → Final A) → Final A
accepted (Ok n) f = f n
accepted (Err e) f = refuses (number_of e.rule) e.place 0

-- ---- check and evaluate

-- An accepted check reports the number of records.
abbrev pub checks : ℕ → List ℕ → Final ℕ
checks scratch table = unless (ltb scratch scratch_bytes) 1 (accepted (check table) (λ n. result n))

-- What the run of a list answers: a value, 20 to 31, or 32, 33 or 34 where the list is not complete.
abbrev pub runs : List ℕ → List ℕ → Final Value
runs table list = final (last (sheet table)) (run (tree table) list)

abbrev pub evaluates : ℕ → ℕ → List ℕ → List ℕ → Final Value
evaluates scratch buffer table list =
    unless (ltb scratch scratch_bytes) 1
    (unless (ltb buffer largest) 2
    (accepted (check table) (λ n. unless (ltb most_choices (length list)) 10 (runs table list))))

-- ---- first list and step

-- The next list, or 35.
abbrev pub onward : Option (List ℕ) → Final (List ℕ)
onward absent = refuses 35 0 0
onward (some l) = result l

-- From a complete list, whose run answers a value or 20 to 31, on to the next. From any other, the 32, 33 or 34 that its run answers.
abbrev pub stepped_from : {A : Type 0} → Final A → Final (List ℕ) → Final (List ℕ)
stepped_from (result a) next = next
stepped_from (refuses n p k) next = cond (ltb n 32) next (refuses n p k)

-- 10: a walk lent with fewer than 64 entries.
abbrev pub firsts : ℕ → List ℕ → Walk → Final (List ℕ)
firsts scratch table w =
    unless (ltb scratch scratch_bytes) 1 (accepted (check table) (λ n. unless (ltb (length w.entries) most_choices) 10 (result (first_list (tree table)))))

-- 10: likewise, or a length over 64. Only the entries below the length are read.
abbrev pub steps : ℕ → List ℕ → Walk → Final (List ℕ)
steps scratch table w =
    unless (ltb scratch scratch_bytes) 1
    (accepted (check table)
    (λ n. unless (ltb (length w.entries) most_choices || ltb most_choices w.len) 10 (stepped_from (runs table (walk_list w)) (onward (next_list (tree table) (walk_list w))))))
