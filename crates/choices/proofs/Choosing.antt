-- What `choose` returns by each of its ways meets `Chosen`.
use mathlib.Core.Path.{◌≡◌, refl, sym, ap, ◌∙◌, subst}
use mathlib.Core.Bool.{true, false}
use mathlib.Core.List.{[], ◌∷◌, ◌++◌}
use Prim.Native.Nat.{ℕ, ◌+◌, ◌≤◌, ◌<◌}
use native.Mathlib.Numerals.{add-one}
use native.Mathlib.Omega.{arith}
use lib.ListN.{length, take, drop, get_or, set, length-set}
use lib.Seq.{take-suc, take-suc-set, length-take-le}
use borrow.Author.Tests.{lt-ltb, le-ltb, le-leb, lt-leb}
use Rattle.std.specs.Prelude.{Ok, Err}
use Rattle.prelude.specs.declared.Refusal.TheVariants.{TooManyChoices, ListTooShort, EntryTooHigh}
use Rattle.choices.specs.State.{Choices, view, Invariant, answer_left, answer_of, Chosen, taking, after_first}
use Rattle.choices.specs.Tree.{most_choices}
use Rattle.choices.proofs.States.{left_cons, left_nil}

module _ (c : Choices) (n : ℕ) (s : Invariant c) where
  past_length : c.used ≤ most_choices → length (take c.used c.entries) ≡ c.used
  past_length h = length-take-le c.used c.entries (omega arith)

  pub many_law : most_choices ≤ c.used → Chosen c n (record { answer = Err TooManyChoices; state = c })
  many_law h = record { answered = rw (past_length (omega arith), le-leb most_choices c.used h); viewed = refl; sound = s }

  -- with room for a choice the answer is by what is left
  room : c.used < most_choices → answer_of (view c) n ≡ answer_left (drop c.used (take c.len c.entries)) c.grow n
  room h = rw (past_length (omega arith), lt-leb most_choices c.used h)

  pub beyond_law : c.used < most_choices → c.used < c.len → n ≤ get_or c.entries c.used 0 → Chosen c n (record { answer = Err EntryTooHigh; state = c })
  beyond_law h k b =
      record {
        answered = sym (room h ∙ rw (left_cons c.entries c.used c.len k (omega arith), le-ltb (get_or c.entries c.used 0) n b));
        viewed = refl;
        sound = s;
      }

  pub short_law : c.used < most_choices → c.len ≤ c.used → c.grow ≡ false → Chosen c n (record { answer = Err ListTooShort; state = c })
  short_law h k b =
      record {
        answered = sym (room h ∙ rw (left_nil c.entries c.used c.len k, b));
        viewed = refl;
        sound = s;
      }

  -- one more entry is used, where x stands there
  past_more : (x : ℕ) → c.used < most_choices → get_or c.entries c.used 0 ≡ x → take (c.used + 1) c.entries ≡ take c.used c.entries ++ x ∷ []
  past_more x h e = rw add-one (take-suc c.entries c.used 0 (omega arith)) ∙ ap (λ (y : ℕ). take c.used c.entries ++ y ∷ []) e

  met_more : c.used < most_choices → take (c.used + 1) (set c.counts c.used n) ≡ take c.used c.counts ++ n ∷ []
  met_more h = rw add-one (take-suc-set c.counts c.used n (omega arith))

  sound_more : (len : ℕ) → c.used < len → c.len ≤ len → len ≤ most_choices → Invariant (taking c n len)
  sound_more len h k m =
      record { used_within = omega arith; len_within = m; entries_sized = s.entries_sized; counts_sized = simp length-set s.counts_sized; zeroed = λ j a. s.zeroed j (omega arith) }

  pub taken_law : (d : Choices) → d ≡ taking c n c.len → c.used < most_choices → c.used < c.len → get_or c.entries c.used 0 < n → Chosen c n (record { answer = Ok (get_or c.entries c.used 0); state = d })
  taken_law d e h k b =
      let f = left_cons c.entries c.used c.len k (omega arith) in
      let p = past_more (get_or c.entries c.used 0) h refl in
      let m = met_more h in
      let q : drop (c.used + 1) (take c.len c.entries) ≡ after_first (drop c.used (take c.len c.entries)) = rw (add-one, f) in
      subst (λ (x : Choices). Chosen c n (record { answer = Ok (get_or c.entries c.used 0); state = x })) (sym e)
      (record {
        answered = sym (room h ∙ rw (f, lt-ltb (get_or c.entries c.used 0) n b));
        viewed = λ i. record { past = p i; met = m i; left = q i; grow = c.grow };
        sound = sound_more c.len k (omega arith) s.len_within;
      })

  pub grown_law : (d : Choices) → d ≡ taking c n (c.used + 1) → c.used < most_choices → c.len ≤ c.used → c.grow ≡ true → Chosen c n (record { answer = Ok 0; state = d })
  grown_law d e h k b =
      let f = left_nil c.entries c.used c.len k in
      let p = past_more 0 h (s.zeroed c.used k) in
      let m = met_more h in
      let q : drop (c.used + 1) (take (c.used + 1) c.entries) ≡ after_first (drop c.used (take c.len c.entries)) = rw f (left_nil c.entries (c.used + 1) (c.used + 1) (omega arith)) in
      subst (λ (x : Choices). Chosen c n (record { answer = Ok 0; state = x })) (sym e)
      (record {
        answered = sym (room h ∙ rw (f, b));
        viewed = λ i. record { past = p i; met = m i; left = q i; grow = c.grow };
        sound = sound_more (c.used + 1) (omega arith) (omega arith) (omega arith);
      })
