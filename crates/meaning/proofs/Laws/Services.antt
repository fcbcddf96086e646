-- The services case by case, in the order of document 01's tests: what they answer, and what they leave in the lent bytes.
use Rattle.std.specs.Prelude.{◌≡◌, refl, Bool, true, false, ◌||◌, cond, List, ℕ, ◌≤◌, ◌<◌, eqb, ltb, length}
use Rattle.std.proofs.Common.{ap, ◌∙◌, ⊎_elim, arith, lt-ltb, le-ltb, ne_eqb}
use mathlib.Mathlib.Data.Bool.Basic.{or_inl, or_inr}
use Rattle.prelude.proofs.Truth.{or_false_both}
use Rattle.choices.specs.Tree.{Final, result, refuses, most_choices}
use Rattle.choices.specs.Lists.{Complete}
use Rattle.choices.specs.Paths.{first_list, next_list}
use Rattle.choices.proofs.Walk.{Incomplete, incomplete, Settles, complete_whole}
use Rattle.values.specs.Value.{Value, encode, value_limit as largest}
use Rattle.std.specs.Prelude.{Ok}
use Rattle.tables.specs.declared.Rule.{Rule}
use Rattle.tables.specs.Faults.{Checked, faulty, number_of}
use Rattle.tables.specs.Check.{check}
use Rattle.meaning.specs.State.{unbound}
use Rattle.meaning.specs.Read.{sheet}
use Rattle.meaning.specs.Answer.{pack}
use Rattle.meaning.specs.Walk.{Walk, walk_list, overwritten}
use Rattle.meaning.specs.Service.{scratch_bytes, last, tree, unless, accepted, checks, runs, evaluates, onward, stepped_from, firsts, steps}
use Rattle.meaning.specs.Lent.{zeroed, filled_up, is_early, after_check, after_evaluate, after_walk}
use Rattle.meaning.proofs.Laws.Sure.{sure_meaning}

-- ---- tests

module _ {A : Type 0} (n : ℕ) (f : Final A) where
  pub unless_false : (b : Bool) → b ≡ false → unless b n f ≡ f
  unless_false b e = ap (λ x. unless x n f) e

  pub unless_true : (b : Bool) → b ≡ true → unless b n f ≡ refuses n 0 0
  unless_true b e = ap (λ x. unless x n f) e

-- A number other than 1 and 2.
pub late_number : (n : ℕ) → 3 ≤ n → is_early n ≡ false
late_number n h = or_false_both (eqb n 1) (eqb n 2) (ne_eqb n 1 (λ e. omega arith)) (ne_eqb n 2 (λ e. omega arith))

-- ---- from one list to the next

whole_stepped : {A : Type 0} (f : Final A) (next : Final (List ℕ)) → Settles f → stepped_from f next ≡ next
whole_stepped (result a) next h = refl
whole_stepped (refuses n p k) next h = ap (λ b. cond b next (refuses n p k)) (lt-ltb n 32 h)

other_stepped : {A : Type 0} (f : Final A) (next : Final (List ℕ)) (n p k : ℕ) → Incomplete f → f ≡ refuses n p k → stepped_from f next ≡ refuses n p k
other_stepped (result a) next n p k h e = absurd h
other_stepped (refuses m q j) next n p k h e =
    let low : 32 ≤ m = ⊎_elim (λ d. omega arith) (λ t. ⊎_elim (λ d. omega arith) (λ d. omega arith) t) h in
    ap (λ b. cond b next (refuses m q j)) (le-ltb m 32 low) ∙ cc

module _ (table l : List ℕ) (next : Final (List ℕ)) where
  -- A complete list's run leads on to the next list.
  pub complete_stepped : Complete (tree table) l → stepped_from (runs table l) next ≡ next
  complete_stepped c =
      whole_stepped (runs table l) next ((complete_whole (tree table) l (last (sheet table)) (sure_meaning (sheet table) (last (sheet table)) unbound).numbered).0 c)

  -- THEOREM: stepping from any other list gives the 32, 33 or 34, with its place and count, that evaluating under it gives.
  pub incomplete_stepped : (Complete (tree table) l → ⊥) → (n p k : ℕ) → runs table l ≡ refuses n p k → stepped_from (runs table l) next ≡ refuses n p k
  incomplete_stepped h n p k e = other_stepped (runs table l) next n p k (incomplete (tree table) l (last (sheet table)) h) e

-- ---- by what is lent

module _ (table : List ℕ) (scratch : ℕ) where
  -- 1: too little scratch.
  module _ (short : scratch < scratch_bytes) where
    refuse_1 : {A : Type 0} (f : Final A) → unless (ltb scratch scratch_bytes) 1 f ≡ refuses 1 0 0
    refuse_1 f = unless_true 1 f (ltb scratch scratch_bytes) (lt-ltb scratch scratch_bytes short)

    pub checks_1 : checks scratch table ≡ refuses 1 0 0
    checks_1 = refuse_1 _

    pub evaluates_1 : (buffer : ℕ) (l : List ℕ) → evaluates scratch buffer table l ≡ refuses 1 0 0
    evaluates_1 buffer l = refuse_1 _

    pub firsts_1 : (w : Walk) → firsts scratch table w ≡ refuses 1 0 0
    firsts_1 w = refuse_1 _

    pub steps_1 : (w : Walk) → steps scratch table w ≡ refuses 1 0 0
    steps_1 w = refuse_1 _

  module _ (enough : scratch_bytes ≤ scratch) where
    past_1 : {A : Type 0} (f : Final A) → unless (ltb scratch scratch_bytes) 1 f ≡ f
    past_1 f = unless_false 1 f (ltb scratch scratch_bytes) (le-ltb scratch scratch_bytes enough)

    -- 2: too short a result buffer.
    pub evaluates_2 : (buffer : ℕ) (l : List ℕ) → buffer < largest → evaluates scratch buffer table l ≡ refuses 2 0 0
    evaluates_2 buffer l short = past_1 _ ∙ unless_true 2 _ (ltb buffer largest) (lt-ltb buffer largest short)

    past_2 : {A : Type 0} (buffer : ℕ) (f : Final A) → largest ≤ buffer → unless (ltb scratch scratch_bytes) 1 (unless (ltb buffer largest) 2 f) ≡ f
    past_2 buffer f room = past_1 _ ∙ unless_false 2 f (ltb buffer largest) (le-ltb buffer largest room)

    -- 3 to 9: the table is refused.
    module _ (n : Rule) (p : ℕ) (no : check table ≡ faulty n p) where
      refuse_table : {A : Type 0} (f : ℕ → Final A) → accepted (check table) f ≡ refuses (number_of n) p 0
      refuse_table f = ap (λ (c : Checked). accepted c f) no

      pub checks_refused : checks scratch table ≡ refuses (number_of n) p 0
      checks_refused = past_1 _ ∙ refuse_table (λ k. result k)

      pub evaluates_refused : (buffer : ℕ) (l : List ℕ) → largest ≤ buffer → evaluates scratch buffer table l ≡ refuses (number_of n) p 0
      evaluates_refused buffer l room = past_2 buffer _ room ∙ refuse_table _

      pub firsts_refused : (w : Walk) → firsts scratch table w ≡ refuses (number_of n) p 0
      firsts_refused w = past_1 _ ∙ refuse_table _

      pub steps_refused : (w : Walk) → steps scratch table w ≡ refuses (number_of n) p 0
      steps_refused w = past_1 _ ∙ refuse_table _

    -- An accepted table.
    module _ (n : ℕ) (ok : check table ≡ Ok n) where
      on : {A : Type 0} (f : ℕ → Final A) → unless (ltb scratch scratch_bytes) 1 (accepted (check table) f) ≡ f n
      on f = past_1 (accepted (check table) f) ∙ ap (λ (c : Checked). accepted c f) ok

      pub checks_accepted : checks scratch table ≡ result n
      checks_accepted = on (λ k. result k)

      -- Evaluating. 10: a list longer than 64.
      module _ (buffer : ℕ) (l : List ℕ) (room : largest ≤ buffer) where
        evaluates_on : evaluates scratch buffer table l ≡ unless (ltb most_choices (length l)) 10 (runs table l)
        evaluates_on = past_2 buffer _ room ∙ ap (λ (c : Checked). accepted c (λ k. unless (ltb most_choices (length l)) 10 (runs table l))) ok

        pub evaluates_10 : most_choices < length l → evaluates scratch buffer table l ≡ refuses 10 0 0
        evaluates_10 long = evaluates_on ∙ unless_true 10 _ (ltb most_choices (length l)) (lt-ltb most_choices (length l) long)

        pub evaluates_run : length l ≤ most_choices → evaluates scratch buffer table l ≡ runs table l
        evaluates_run within = evaluates_on ∙ unless_false 10 _ (ltb most_choices (length l)) (le-ltb most_choices (length l) within)

      module _ (w : Walk) where
        -- 10: too few entries.
        module _ (few : length w.entries < most_choices) where
          pub firsts_10 : firsts scratch table w ≡ refuses 10 0 0
          firsts_10 = on _ ∙ unless_true 10 _ (ltb (length w.entries) most_choices) (lt-ltb (length w.entries) most_choices few)

          pub steps_10 : steps scratch table w ≡ refuses 10 0 0
          steps_10 =
              on _
              ∙ unless_true 10 _ (ltb (length w.entries) most_choices || ltb most_choices w.len)
              (or_inl (ltb (length w.entries) most_choices) (ltb most_choices w.len) (lt-ltb (length w.entries) most_choices few))

        -- 10: a length over 64, whatever the entries.
        pub steps_long : most_choices < w.len → steps scratch table w ≡ refuses 10 0 0
        steps_long long =
            on _
            ∙ unless_true 10 _ (ltb (length w.entries) most_choices || ltb most_choices w.len) (or_inr (ltb (length w.entries) most_choices) (ltb most_choices w.len) (lt-ltb most_choices w.len long))

        module _ (all : most_choices ≤ length w.entries) where
          pub firsts_granted : firsts scratch table w ≡ result (first_list (tree table))
          firsts_granted = on _ ∙ unless_false 10 _ (ltb (length w.entries) most_choices) (le-ltb (length w.entries) most_choices all)

          pub steps_run : w.len ≤ most_choices → steps scratch table w ≡ stepped_from (runs table (walk_list w)) (onward (next_list (tree table) (walk_list w)))
          steps_run within =
              on _
              ∙ unless_false 10 _ (ltb (length w.entries) most_choices || ltb most_choices w.len)
              (or_false_both (ltb (length w.entries) most_choices) (ltb most_choices w.len) (le-ltb (length w.entries) most_choices all) (le-ltb most_choices w.len within))

          -- From a complete list.
          pub steps_complete : (l : List ℕ) → walk_list w ≡ l → w.len ≤ most_choices → Complete (tree table) l → steps scratch table w ≡ onward (next_list (tree table) l)
          steps_complete l e within c =
              steps_run within
              ∙ ap (λ x. stepped_from (runs table x) (onward (next_list (tree table) x))) e
              ∙ complete_stepped table l (onward (next_list (tree table) l)) c

-- ---- what is left

-- A refusal other than 1 and 2 clears the scratch and the result buffer, and leaves the walk; success sets the result buffer or the walk.
module _ (scratch : List ℕ) where
  module _ (n p k : ℕ) (late : 3 ≤ n) where
    pub check_left : after_check (refuses n p k) scratch ≡ record { answer = pack n p k; scratch = zeroed scratch_bytes scratch }
    check_left = ap (λ (b : Bool). record { answer = pack n p k; scratch = cond b scratch (zeroed scratch_bytes scratch) }) (late_number n late)

    pub evaluate_left : (buffer : List ℕ) → after_evaluate (refuses n p k) scratch buffer ≡ record { answer = pack n p k; scratch = zeroed scratch_bytes scratch; buffer = zeroed largest buffer }
    evaluate_left buffer = ap (λ (b : Bool). record { answer = pack n p k; scratch = cond b scratch (zeroed scratch_bytes scratch); buffer = cond b buffer (zeroed largest buffer) }) (late_number n late)

    pub walk_left : (w : Walk) → after_walk (refuses n p k) scratch w ≡ record { answer = pack n p k; scratch = zeroed scratch_bytes scratch; walk = w }
    walk_left w = ap (λ (b : Bool). record { answer = pack n p k; scratch = cond b scratch (zeroed scratch_bytes scratch); walk = w }) (late_number n late)

  pub check_done : (n : ℕ) → after_check (result n) scratch ≡ record { answer = pack 0 0 n; scratch = zeroed scratch_bytes scratch }
  check_done n = refl

  pub evaluate_done : (v : Value) (buffer : List ℕ) → after_evaluate (result v) scratch buffer ≡ record { answer = pack 0 0 0; scratch = zeroed scratch_bytes scratch; buffer = filled_up largest (encode v) buffer }
  evaluate_done v buffer = refl

  pub walk_done : (l : List ℕ) (w : Walk) → after_walk (result l) scratch w ≡ record { answer = pack 0 0 0; scratch = zeroed scratch_bytes scratch; walk = overwritten l w }
  walk_done l w = refl
