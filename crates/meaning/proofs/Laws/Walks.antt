-- What a walk shows, what is written into it, and the parts of it that are lent.
use Rattle.std.specs.Prelude.{◌≡◌, refl, List, ◌++◌, ℕ, ◌+◌, ◌-◌, ◌≤◌, length, take, drop, replicate}
use Rattle.std.proofs.Common.{sym, ap, ◌∙◌, subst, ⊎_elim, append_assoc, arith, length-append, length-take, take-append-drop, take_at, drop_at, take-take, take-add}
use Rattle.std.proofs.lemmas.List.{length-replicate, drop-append-le}
use Rattle.std.proofs.Math.Seq.{take-append_seam}
use Rattle.choices.specs.Tree.{most_choices}
use Rattle.choices.specs.Lists.{padded}
use Rattle.meaning.specs.Walk.{Walk, walk_list, overwritten, Shows}
use Rattle.meaning.specs.Calls.{Part, returned, lent_walk}

pub padded_length : (l : List ℕ) → length l ≤ most_choices → length (padded l) ≡ most_choices
padded_length l h = omega (arith, length-append l (replicate (most_choices - length l) 0), length-replicate {A = ℕ} (most_choices - length l) 0)

-- ---- showing a list

module _ (w : Walk) (l : List ℕ) (s : Shows w l) where
  -- The list that a walk shows has at most 64 entries.
  pub shown_short : length l ≤ most_choices
  shown_short =
      omega (arith, ap length s.its_entries, length-take most_choices w.entries, length-append l (replicate (most_choices - length l) 0))

  pub shown_within : w.len ≤ most_choices
  shown_within = omega (arith, s.its_length, shown_short)

  -- The entries below the length are the list.
  pub listed_shown : walk_list w ≡ l
  listed_shown =
      ap (λ n. take n w.entries) s.its_length
      ∙ sym (take-take (length l) most_choices w.entries shown_short)
      ∙ ap (take (length l)) s.its_entries
      ∙ take-append_seam l (replicate (most_choices - length l) 0)

-- ---- writing

pub shows_written : (l : List ℕ) (w : Walk) → length l ≤ most_choices → Shows (overwritten l w) l
unfolding overwritten
shows_written l w h = record { its_length = refl; its_entries = take_at (padded l) (drop most_choices w.entries) most_choices (padded_length l h) }

pub written_beyond : (l : List ℕ) (w : Walk) → length l ≤ most_choices → drop most_choices (overwritten l w).entries ≡ drop most_choices w.entries
unfolding overwritten
written_beyond l w h = drop_at (padded l) (drop most_choices w.entries) most_choices (padded_length l h)

-- ---- lending

walk_with : (w : Walk) (es : List ℕ) → es ≡ w.entries → ◌≡◌ {A = Walk} (record { entries = es; len = w.len }) w
walk_with w es e = ap (λ (x : List ℕ). record { entries = x; len = w.len }) e

-- What is lent and left as it was is the walk again.
pub returned_lent : (p : Part) (w : Walk) → returned p w (lent_walk p w) ≡ w
returned_lent p w =
    walk_with w _
    (ap (λ (x : List ℕ). x ++ drop (p.from + p.count) w.entries) (sym (take-add p.from p.count w.entries))
    ∙ take-append-drop (p.from + p.count) w.entries)

-- A part of 64 entries starts with the first.
pub lent_first : (p : Part) (w : Walk) → most_choices ≤ length (lent_walk p w).entries → p.from ≡ 0
lent_first p w h =
    ⊎_elim (λ e. e) (λ few. absurd (omega (arith, length-take p.count (drop p.from w.entries)))) p.fair

from_first : (a n : ℕ) (l es : List ℕ) → a ≡ 0 → most_choices ≤ length (take n (drop a es))
    → take a es ++ (padded l ++ drop most_choices (take n (drop a es))) ++ drop (a + n) es ≡ padded l ++ drop most_choices es
from_first a n l es e h = subst (λ b. most_choices ≤ length (take n (drop b es)) → take b es ++ (padded l ++ drop most_choices (take n (drop b es))) ++ drop (b + n) es ≡ padded l ++ drop most_choices es) (sym e) start h
  where
    start : most_choices ≤ length (take n es) → (padded l ++ drop most_choices (take n es)) ++ drop (0 + n) es ≡ padded l ++ drop most_choices es
    start k =
        (let e : 0 + n ≡ n = omega arith in ap (λ m. (padded l ++ drop most_choices (take n es)) ++ drop m es) e)
        ∙ append_assoc (padded l) (drop most_choices (take n es)) (drop n es)
        ∙ ap (λ (x : List ℕ). padded l ++ x) (sym (drop-append-le most_choices (take n es) (drop n es) k) ∙ ap (drop most_choices) (take-append-drop n es))

-- What a granted call writes into such a part is written into the walk.
pub returned_written : (p : Part) (w : Walk) (l : List ℕ) → most_choices ≤ length (lent_walk p w).entries → returned p w (overwritten l (lent_walk p w)) ≡ overwritten l w
unfolding overwritten
returned_written p w l h = ap (λ (x : List ℕ). record { entries = x; len = length l }) (from_first p.from p.count l w.entries (lent_first p w h) h)

-- A step that is lent such a part reads the walk's list.
pub listed_lent : (p : Part) (w : Walk) → most_choices ≤ length (lent_walk p w).entries → w.len ≤ most_choices → walk_list (lent_walk p w) ≡ walk_list w
listed_lent p w h k =
    let n : most_choices ≤ p.count = omega (arith, length-take p.count (drop p.from w.entries)) in
    ap (λ a. take w.len (take p.count (drop a w.entries))) (lent_first p w h)
    ∙ take-take w.len p.count w.entries (omega arith)
