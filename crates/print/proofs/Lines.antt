-- Outcomes and lines: what is known of an answer, the texts of the parts put together, and how long they are.
use mathlib.Core.Path.{◌≡◌, sym, ap, ◌∙◌}
use mathlib.Core.List.{List, [], ◌∷◌, ◌++◌, map as each, append_assoc}
use Prim.Native.Nat.{ℕ, suc, ◌+◌, ◌*◌, ◌≤◌, ◌<◌}
use native.Mathlib.Omega.{arith}
use lib.ListN.{length, get_or, set, length-append, length-set}
use Rattle.std.specs.Prelude.{Option, Some, None}
use Rattle.prelude.proofs.Absurd.{impossible}
use Rattle.prelude.specs.declared.Refusal.{Refusal}
use Rattle.prelude.specs.Refusals.{number_of}
use Rattle.choices.specs.Tree.{Final, refuses, most_choices}
use Rattle.values.specs.Value.{Value}
use Rattle.values.specs.Place.{Holds}
use Rattle.values.proofs.Records.{holds}
use Rattle.print.specs.Ascii.{newline, space, exclamation, equals}
use Rattle.print.specs.Text.{decimal, continued, list_text, refusal_word, outcome_text, line}
use Rattle.print.specs.Contract.{Wrote, Room, ValueRoom, ValueWritten, longest_outcome, longest_line, Answers, gave, refused, OutcomeRoom, OutcomeWritten, LineRoom, LineWritten}
use Rattle.print.proofs.Writing.{wrote_length, wrote_then, wrote_byte, wrote_after, wrote_as}
use Rattle.print.proofs.Decimals.{decimal_byte, decimal_any}
use Rattle.print.proofs.Spelling.{text_short}
use Rattle.print.proofs.Wording.{number_most, word_short}

-- ---- how long

module _ {s : List ℕ} {o : Option Refusal} where
  value_held : {answer : Final Value} → o ≡ None → Answers s o answer → Holds s 0
  value_held e (gave d v f h) = holds h
  value_held e (refused q d p k f) = impossible cc

  pub outcome_short : {answer : Final Value} → Answers s o answer → length (outcome_text answer) ≤ longest_outcome
  outcome_short (gave d v e h) =
      let l = text_short v h.fine.sound in
      let m = h.fine.short in
      omega (arith, ap length (ap outcome_text e))
  outcome_short (refused q d p k e) =
      let n = number_most q in
      let m = decimal_any (number_of q) (omega arith) in
      let w = word_short q in
      omega (arith, ap length (ap outcome_text e), length-append (decimal (number_of q)) (space ∷ refusal_word (number_of q)))

continued_short : (l : List ℕ) → ((i : ℕ) → get_or l i 0 < 256) → length (continued (each decimal l)) ≤ 4 * length l
continued_short [] h = omega arith
continued_short (c ∷ l) h =
    let d = decimal_byte c (h 0) in
    let r = continued_short l (λ i. h (suc i)) in
    omega (arith, length-append (decimal c) (continued (each decimal l)))

pub list_short : (l : List ℕ) → ((i : ℕ) → get_or l i 0 < 256) → length l ≤ 64 → length (list_text l) ≤ 255
list_short [] h few = omega arith
list_short (c ∷ l) h few =
    let d = decimal_byte c (h 0) in
    let r = continued_short l (λ i. h (suc i)) in
    omega (arith, length-append (decimal c) (continued (each decimal l)))

line_length : (l : List ℕ) (answer : Final Value) → length (line l answer) ≡ length (list_text l) + length (outcome_text answer) + 2
line_length l answer =
    omega (arith, length-append (list_text l ++ space ∷ outcome_text answer) (newline ∷ []), length-append (list_text l) (space ∷ outcome_text answer))

-- THEOREM: no line of a list of at most 64 bytes is longer than the longest line
pub longest_line_lem : (l : List ℕ) → ((i : ℕ) → get_or l i 0 < 256) → length l ≤ most_choices → {s : List ℕ} {o : Option Refusal} {answer : Final Value} → Answers s o answer → length (line l answer) ≤ longest_line
longest_line_lem l h few {s} {o} {answer} a = let d = list_short l h few in let e = outcome_short a in omega (arith, line_length l answer)

-- ---- an outcome

module _ {s out : List ℕ} {o : Option Refusal} {at : ℕ} (r : OutcomeRoom s o out at) where
  pub outcome_value : o ≡ None → ValueRoom s 0 (set out at equals) (at + 1)
  outcome_value e =
      let h = value_held e r.answered.answers in
      record { held = h; room = omega (arith, length-set out at equals) }

pub value_shown : {s out out' : List ℕ} {o : Option Refusal} {at r : ℕ} → o ≡ None → ValueWritten s 0 (set out at equals) out' (at + 1) r → OutcomeWritten s o out out' at r
value_shown {s} {out} {out'} {o} {at} {r} e w answer (gave d v f h) = wrote_as (ap outcome_text (sym f)) (wrote_after equals (w v h))
value_shown e w answer (refused q d p k f) = impossible cc

pub refusal_written : {s out t u : List ℕ} {o : Option Refusal} {at p q : ℕ} (r : Refusal) → o ≡ Some r → Wrote (set out at exclamation) t (at + 1) (decimal (number_of r)) p → Wrote (set t p space) u (p + 1) (refusal_word (number_of r)) q → OutcomeWritten s o out u at q
refusal_written r f x y answer (gave d w e h) = impossible cc
refusal_written r f x y answer (refused r' d p' k e) =
    let same : r' ≡ r = cc in
    wrote_as
    (append_assoc (exclamation ∷ decimal (number_of r)) (space ∷ []) (refusal_word (number_of r)) ∙ ap (λ (z : Refusal). outcome_text (refuses (number_of z) p' k)) (sym same) ∙ ap outcome_text (sym e))
    (wrote_then (wrote_byte space (wrote_after exclamation x)) y)

-- ---- a line

module _ {l s out : List ℕ} {o : Option Refusal} {at : ℕ} (bytes : (i : ℕ) → get_or l i 0 < 256) (r : LineRoom l o s out at) where
  short : length (list_text l) ≤ 255
  short = list_short l bytes r.few

  pub list_room : Room out at (list_text l)
  list_room = omega (arith, short)

  module _ {t : List ℕ} {p : ℕ} (w : Wrote out t at (list_text l) p) where
    pub space_room : p < length t
    space_room = omega (arith, short, wrote_length w)

    pub outcome_room : OutcomeRoom s o (set t p space) (p + 1)
    outcome_room = record { answered = r.answered; room = omega (arith, short, wrote_length w, length-set t p space) }

    module _ {u : List ℕ} {q : ℕ} (w' : OutcomeWritten s o (set t p space) u (p + 1) q) where
      last_low : q < at + longest_line
      last_low = let a = r.answered in omega (arith, short, w.ends, (w' a.answer a.answers).ends, outcome_short a.answers)

      pub newline_room : q < length u
      newline_room =
          let a = r.answered in
          omega (arith, last_low, wrote_length w, length-set t p space, wrote_length (w' a.answer a.answers))

      pub line_written : LineWritten l o s out (set u q newline) at (q + 1)
      line_written =
          record {
            right =
                λ answer a. wrote_as
                (ap (λ (ws : List ℕ). ws ++ newline ∷ []) (append_assoc (list_text l) (space ∷ []) (outcome_text answer)))
                (wrote_byte newline (wrote_then (wrote_byte space w) (w' answer a)));
            within = omega (arith, last_low);
          }
