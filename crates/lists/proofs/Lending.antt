-- The lent bytes of a run's choices: what is read there, and what a choice writes.
use mathlib.Core.Path.{◌≡◌, sym, ap, subst, ◌∙◌}
use mathlib.Core.List.{List}
use Prim.Native.Nat.{ℕ, ◌+◌, ◌≤◌, ◌<◌}
use native.Mathlib.Omega.{arith}
use lib.Dec.{eqb}
use lib.ListN.{length, get_or, take, drop, set, length-set}
use lib.Seq.{get_or-take, get_or-drop, get_or-set_same, get_or-set_other, take-set-le, take-set-lt, drop-set-add, drop-set-lt}
use borrow.Author.Tests.{eq-eqb, ne_eqb}
use Rattle.std.specs.Prelude.{Ok, Err}
use Rattle.prelude.specs.declared.Refusal.TheVariants.{TooManyChoices, ListTooShort, EntryTooHigh}
use Rattle.choices.specs.Tree.{most_choices}
use Rattle.choices.specs.State.{Invariant, Chosen, taking}
use Rattle.choices.proofs.States.{left_cons, left_nil}
use Rattle.choices.proofs.Choosing.{many_law, beyond_law, short_law, taken_law, grown_law}
use Rattle.lists.specs.Lent.{ways_from, run_bytes, lent}
use Rattle.lists.specs.Choosing.{first, due_for}
use Rattle.lists.proofs.Starting.{sound_long}

module _ (l : List ℕ) (s : Invariant (lent l)) where
  abbrev used : ℕ
  used = get_or l 1 0

  long : run_bytes ≤ length l
  long = sound_long l s

  entry-is : used < most_choices → get_or (take most_choices (drop 3 l)) used 0 ≡ get_or l (3 + used) 0
  entry-is h = get_or-take most_choices (drop 3 l) used 0 h ∙ get_or-drop 3 l used 0

  pub due_left : (k : ℕ) → k ≡ 13 → used < get_or l 0 0 → due_for k (lent l) ≡ get_or l (3 + used) 0
  due_left k e h = rw (eq-eqb k 13 e) (ap first (left_cons (take most_choices (drop 3 l)) used (get_or l 0 0) h (omega (arith, s.len_within, s.entries_sized))) ∙ entry-is (omega (arith, s.len_within)))

  pub due_none : (k : ℕ) → k ≡ 13 → get_or l 0 0 ≤ used → due_for k (lent l) ≡ 0
  due_none k e h = rw (eq-eqb k 13 e) (ap first (left_nil (take most_choices (drop 3 l)) used (get_or l 0 0) h))

  module _ (n : ℕ) where
    pub lent_many : most_choices ≤ used → Chosen (lent l) n (record { answer = Err TooManyChoices; state = lent l })
    lent_many h = many_law (lent l) n s h

    pub lent_beyond : used < most_choices → used < get_or l 0 0 → n ≤ get_or l (3 + used) 0 → Chosen (lent l) n (record { answer = Err EntryTooHigh; state = lent l })
    lent_beyond h k b = beyond_law (lent l) n s h k (omega (arith, entry-is h))

    pub lent_short : used < most_choices → get_or l 0 0 ≤ used → (get_or l 2 0 ≡ 1 → ⊥) → Chosen (lent l) n (record { answer = Err ListTooShort; state = lent l })
    lent_short h k b = short_law (lent l) n s h k (ne_eqb (get_or l 2 0) 1 b)

    module _ (h : used < most_choices) where
      abbrev written : List ℕ
      written = set l (ways_from + used) n

      long_written : run_bytes ≤ length written
      long_written = omega (arith, length-set l (ways_from + used) n, long)

      -- The entries are kept, and the number of ways is written.
      entries_kept : take most_choices (drop 3 written) ≡ take most_choices (drop 3 l)
      entries_kept =
          let z : ways_from + used ≡ 3 + (most_choices + used) = omega arith in
          ap (λ (i : ℕ). take most_choices (drop 3 (set l i n))) z ∙ ap (take most_choices) (drop-set-add 3 l (most_choices + used) n) ∙ take-set-le most_choices (drop 3 l) (most_choices + used) n (omega arith)

      counts_set : take most_choices (drop ways_from written) ≡ set (take most_choices (drop ways_from l)) used n
      counts_set = ap (take most_choices) (drop-set-add ways_from l used n) ∙ take-set-lt most_choices (drop ways_from l) used n h

      low_kept : (m i x : ℕ) → 3 ≤ m → i < 3 → (xs : List ℕ) → take most_choices (drop m (set xs i x)) ≡ take most_choices (drop m xs)
      low_kept m i x a b xs = ap (take most_choices) (drop-set-lt m xs i x (omega arith))

      number_kept : (i : ℕ) → i < 3 → get_or written i 0 ≡ get_or l i 0
      number_kept i b = get_or-set_other l (ways_from + used) i n 0 (λ e. omega arith)

      lent_taken : lent (set written 1 (used + 1)) ≡ taking (lent l) n (get_or l 0 0)
      lent_taken i =
          record {
            entries = (low_kept 3 1 (used + 1) (omega arith) (omega arith) written ∙ entries_kept) i;
            counts = (low_kept ways_from 1 (used + 1) (omega arith) (omega arith) written ∙ counts_set) i;
            len = (get_or-set_other written 1 0 (used + 1) 0 (λ e. omega arith) ∙ number_kept 0 (omega arith)) i;
            used = get_or-set_same written 1 (used + 1) 0 (omega (arith, long_written)) i;
            grow = ap (λ (x : ℕ). eqb x 1) (get_or-set_other written 1 2 (used + 1) 0 (λ e. omega arith) ∙ number_kept 2 (omega arith)) i;
          }

      pub lent_chosen : used < get_or l 0 0 → {x : ℕ} → x ≡ get_or l (3 + used) 0 → x < n → Chosen (lent l) n (record { answer = Ok x; state = lent (set written 1 (used + 1)) })
      lent_chosen k {x} e b =
          subst (λ (y : ℕ). Chosen (lent l) n (record { answer = Ok y; state = lent (set written 1 (used + 1)) })) (entry-is h ∙ sym e)
          (taken_law (lent l) n s (lent (set written 1 (used + 1))) lent_taken h k (omega (arith, entry-is h)))

      abbrev longer : List ℕ
      longer = set written 0 (used + 1)

      lent_grown : lent (set longer 1 (used + 1)) ≡ taking (lent l) n (used + 1)
      lent_grown i =
          record {
            entries = (low_kept 3 1 (used + 1) (omega arith) (omega arith) longer ∙ low_kept 3 0 (used + 1) (omega arith) (omega arith) written ∙ entries_kept) i;
            counts = (low_kept ways_from 1 (used + 1) (omega arith) (omega arith) longer ∙ low_kept ways_from 0 (used + 1) (omega arith) (omega arith) written ∙ counts_set) i;
            len = (get_or-set_other longer 1 0 (used + 1) 0 (λ e. omega arith) ∙ get_or-set_same written 0 (used + 1) 0 (omega (arith, long_written))) i;
            used = get_or-set_same longer 1 (used + 1) 0 (omega (arith, length-set written 0 (used + 1), long_written)) i;
            grow = ap (λ (x : ℕ). eqb x 1) (get_or-set_other longer 1 2 (used + 1) 0 (λ e. omega arith) ∙ get_or-set_other written 0 2 (used + 1) 0 (λ e. omega arith) ∙ number_kept 2 (omega arith)) i;
          }

      pub lent_extended : get_or l 0 0 ≤ used → get_or l 2 0 ≡ 1 → Chosen (lent l) n (record { answer = Ok 0; state = lent (set longer 1 (used + 1)) })
      lent_extended k b = grown_law (lent l) n s (lent (set longer 1 (used + 1))) lent_grown h k (eq-eqb (get_or l 2 0) 1 b)
