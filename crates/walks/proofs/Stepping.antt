-- The first list and the step, from what the runs come to.
use mathlib.Core.Path.{◌≡◌, refl, sym, ap, ◌∙◌, subst}
use mathlib.Core.Bool.{Bool, true, false, cond}
use mathlib.Core.Option.{Option}
use mathlib.Core.List.{List, [], ◌++◌, append-nil}
use Prim.Native.Nat.{ℕ, ◌<◌, ◌-◌}
use native.Mathlib.Omega.{arith}
use lib.ListN.{length, take, drop, drop_of_length-le, length-replicate}
use borrow.Author.Tests.{ltb-true}
use Rattle.choices.specs.State.{Choices, view, Invariant, Made, Moved}
use Rattle.choices.specs.Lists.{padded, Complete}
use Rattle.choices.specs.declared.list.Walk.{Walk as Held}
use Rattle.choices.specs.Tree.{Final, result, refuses, most_choices}
use Rattle.choices.specs.Paths.{first_list, next_list}
use Rattle.choices.specs.Listing.{Lists, Runnable, list_held}
use Rattle.choices.specs.Ran.{at_end}
use Rattle.choices.proofs.States.{Holds, end_holds}
use Rattle.choices.proofs.Walk.{Settles, complete_whole}
use Rattle.choices.proofs.Came.{came_complete, came_first, came_holds, came_next}
use Rattle.choices.proofs.Stepping.{step-none}
use Rattle.values.specs.Value.{Value}
use Rattle.values.specs.Place.{At}
use Rattle.lists.specs.Lent.{lent}
use Rattle.lists.specs.Runs.{UsedWhole as Used}
use Rattle.tables.specs.Accepted.{records}
use Rattle.tables.proofs.Laws.Accepted.{accepted_fine}
use Rattle.meaning.proofs.Laws.ReadBack.{SmallCheck, small_check}
use Rattle.meaning.specs.Read.{sheet}
use Rattle.meaning.specs.Answer.{pack}
use Rattle.meaning.specs.Walk.{overwritten}
use Rattle.meaning.specs.Service.{tree, last, runs, onward, stepped_from}
use Rattle.walks.specs.declared.Stepped.{Stepped}
use Rattle.std.specs.Prelude.{Ok, Err}
use Rattle.prelude.proofs.Absurd.{impossible}
use Rattle.prelude.specs.Refusals.{number_of}
use Rattle.evaluator.specs.declared.Refused.{Refused}
use Rattle.evaluator.specs.Contract.{Ended, Comes, ended}
use lib.Dec.{ltb}
use Rattle.evaluator.specs.Sheet.{Runnable as Asked}
use Rattle.walks.specs.Steps.{Walkable, settled, told, valueless, packed_refused, is_of_sheet, Ran, lent_of, Answers, AtEnd, Steps}
use Rattle.walks.proofs.Settling.{sure_tree, is_whole, Arrived, arrived, ran}

-- ---- the table

-- A table that is accepted can be run, and has at least one record.
module _ (table : List ℕ) (count : ℕ) (s : List ℕ) (y : Walkable table count s) where
  pub asked : (d : Choices) → Invariant d → Asked table count s d
  asked d k = record { accepted = y.ok; room = y.room; sound = k }

  pub count_all : count ≡ length (records table)
  count_all = (accepted_fine table count y.ok).1

  pub count_some : 0 < count
  count_some = omega (arith, count_all, (accepted_fine table count y.ok).0.some_record)

  pub count_few : count - 1 < 256
  count_few = omega (arith, subst SmallCheck y.ok (small_check table))

  -- What a run tells of its list.
  pub told_run : (l : List ℕ) (c : Choices) (o : Ended) (d : Choices) (t : List ℕ) → Made l false c → Comes (tree table) (At t 0) c (ended o d) → (r : Ended) → r ≡ settled o d (count - 1) → Ran table l t r
  told_run l c o d t m h r e = ran table l c o d t m (arrived table c o d t h) r (e ∙ ap (λ n. settled o d (n - 1)) count_all)

-- ---- the first list

module _ (w : Held) (h : Lists w []) where
  pub runnable_empty : Runnable w
  runnable_empty = record { sized = ap length h.padding ∙ length-replicate {A = ℕ} most_choices 0; short = omega (arith, h.long) }

  pub empty_list : list_held w ≡ []
  empty_list = ap (λ n. take n w.entries) h.long

module _ (table : List ℕ) (c : Choices) (o : Ended) (d : Choices) (t : List ℕ) (a : Arrived table c o d t) where
  first_holds : Made [] true c → Holds d (first_list (tree table))
  first_holds m = came_holds (tree table) (first_list (tree table)) true a.came (came_first (tree table) a.came (sure_tree table).full m)

  pub first_lists : (w : Held) → w.entries ≡ d.entries → w.len ≡ d.len → Made [] true c → Lists w (first_list (tree table)) × (length w.entries ≡ most_choices)
  first_lists w e n m = let h = first_holds m in (record { long = n ∙ h.len; padding = e ∙ h.entries }, ap length e ∙ a.came.sound.entries_sized)

  -- ---- the run of a complete list

  pub at-end : (w : Held) → Runnable w → Made (list_held w) false c → Complete (tree table) (list_held w) → (view d ≡ at_end (tree table) (list_held w) false) × (d.used ≡ d.len)
  at-end w k m full =
      let v = came_complete (tree table) a.came (list_held w) m full in
      (v, (came_holds (tree table) (list_held w) false a.came v).used)

whole_of : (o : Ended) (f : Final Value) → told o ≡ valueless f → is_whole o ≡ true → Settles f
whole_of o (result v) q e = tt
whole_of (Ok u) (refuses n p k) q e = impossible cc
whole_of (Err x) (refuses n p k) q e = let i : number_of x.refusal ≡ n = cc in omega (arith, ltb-true (number_of x.refusal) 32 e)

module _ (table l t : List ℕ) (o : Ended) (r : Ran table l t o) where
  pub complete_ran : is_whole o ≡ true → Complete (tree table) l
  complete_ran e =
      (complete_whole (tree table) l (last (sheet table)) (sure_tree table).numbered).1
      (whole_of o (runs table l) r.outcome e)

-- ---- answers

not_whole : (x : Refused) (f : Final Value) (next : Final (List ℕ)) (w : Held) → told (Err x) ≡ valueless f → Runnable w → is_of_sheet x.refusal ≡ false → Answers (stepped_from f next) w (record { answer = packed_refused x; walk = w })
not_whole x (result v) next w q y e = impossible cc
not_whole x (refuses n p k) next w q y e =
    let i : number_of x.refusal ≡ n = cc in
    let j : x.place ≡ p = cc in
    let l : x.count ≡ k = cc in
    subst (λ (f : Final Value). Answers (stepped_from f next) w (record { answer = packed_refused x; walk = w })) (λ z. refuses (i z) (j z) (l z))
    (subst (λ (f : Final (List ℕ)). Answers f w (record { answer = packed_refused x; walk = w })) (sym (ap (λ b. cond b next (refuses (number_of x.refusal) x.place x.count)) e)) (record { answer = refl; walk = refl; sized = y.sized }))

whole_on : (o : Ended) (f : Final Value) (next : Final (List ℕ)) → told o ≡ valueless f → is_whole o ≡ true → stepped_from f next ≡ next
whole_on o (result v) next q e = refl
whole_on (Ok u) (refuses n p k) next q e = impossible cc
whole_on (Err x) (refuses n p k) next q e = let i : number_of x.refusal ≡ n = cc in ap (λ b. cond b next (refuses n p k)) (sym (ap (λ m. ltb m 32) i) ∙ e)

module _ (table t : List ℕ) (w : Held) (o : Ended) (r : Ran table (list_held w) t o) where
  abbrev next : Final (List ℕ)
  next = onward (next_list (tree table) (list_held w))

  pub steps_other : Runnable w → (x : Refused) → o ≡ Err x → is_of_sheet x.refusal ≡ false → (a : ℕ) → a ≡ packed_refused x → Steps table w (record { answer = a; walk = w })
  steps_other y x h e a q =
      subst (λ z. Answers (stepped_from (runs table (list_held w)) next) w (record { answer = z; walk = w })) (sym q)
      (not_whole x (runs table (list_held w)) next w (ap told (sym h) ∙ r.outcome) y e)

  pub steps_on : is_whole o ≡ true → (s : Stepped) → Answers next w s → Steps table w s
  steps_on e s h = subst (λ x. Answers x w s) (sym (whole_on o (runs table (list_held w)) next r.outcome e)) h

-- A granted step overwrites all 64 entries.
walk_over : (w : Held) (m : List ℕ) (v : Held) → Runnable w → v.entries ≡ padded m → v.len ≡ length m → lent_of v ≡ overwritten m (lent_of w)
unfolding overwritten
walk_over w m v k e n =
    let gone : drop most_choices w.entries ≡ [] = drop_of_length-le w.entries {i = most_choices} (omega (arith, k.sized)) in
    (λ i. record { entries = (e ∙ sym (append-nil (padded m)) ∙ ap (λ (x : List ℕ). padded m ++ x) (sym gone)) i; len = n i })

module _ (table : List ℕ) (w : Held) (run₀ : List ℕ) (b : AtEnd table w run₀) where
  pub used_all : Used run₀
  used_all =
      record { sound = b.sound; used = (end_holds (tree table) (list_held w) false (lent run₀) b.sound b.ended).used }

  module _ (more : Bool) (run₁ : List ℕ) (k : Moved (lent run₀) (record { more = more; state = lent run₁ })) where
    pub answers_none : more ≡ false → (a : ℕ) → a ≡ pack 35 0 0 → Answers (onward (next_list (tree table) (list_held w))) w (record { answer = a; walk = w })
    answers_none q a e =
        subst (λ (o : Option (List ℕ)). Answers (onward o) w (record { answer = a; walk = w })) (sym (step-none (tree table) (list_held w) false (lent run₀) _ b.ended k q))
        (record { answer = e; walk = refl; sized = b.runnable.sized })

    pub answers_next : more ≡ true → (o : Ended) (d : Choices) (t : List ℕ) → Arrived table (lent run₁) o d t → (v : Held) → v.entries ≡ d.entries → v.len ≡ d.len → (a : ℕ) → a ≡ pack 0 0 0
        → Answers (onward (next_list (tree table) (list_held w))) w (record { answer = a; walk = v })
    answers_next q o d t h v e n a z =
        let f = came_next (tree table) (list_held w) false (sure_tree table).full b.complete b.ended k q h.came in
        let hold = came_holds (tree table) f.0 true h.came f.3 in
        subst (λ (x : Option (List ℕ)). Answers (onward x) w (record { answer = a; walk = v })) (sym f.1)
        (record { answer = z; walk = walk_over w f.0 v b.runnable (e ∙ hold.entries) (n ∙ hold.len); sized = ap length e ∙ h.came.sound.entries_sized })
