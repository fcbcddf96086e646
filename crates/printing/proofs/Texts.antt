-- The text that is still to come, line by line; and a text in the buffer after one that was there.
use mathlib.Core.Path.{◌≡◌, refl, sym, ap, ◌∙◌}
use mathlib.Core.Bool.{Bool, true, false, cond, ◌&&◌}
use mathlib.Core.List.{List, [], ◌∷◌, ◌++◌, append-nil, append_assoc}
use Prim.Native.Nat.{ℕ, suc, ◌+◌, ◌≤◌, ◌<◌, min}
use native.Mathlib.Omega.{arith}
use lib.Dec.{ltb}
use lib.ListN.{length, take, drop, get_or, length-take, length-append, drop_of_length-le}
use lib.Seq.{sets-eq, take_at, drop_at, length-take-le, drop-cons, get_or-take}
use borrow.Author.Tests.{ltb-true, ltb-false}
use Rattle.prelude.proofs.Absurd.{never}
use Rattle.choices.specs.State.{Choices}
use Rattle.choices.specs.Paths.{all_lists}
use Rattle.meaning.specs.Service.{tree, runs}
use Rattle.print.specs.Text.{line}
use Rattle.print.specs.Print.{most_lines, first_line, end_line, cut_line, lines, last_line}
use Rattle.print.specs.Contract.{Wrote, short_line}
use Rattle.print.proofs.Whole.{last_cut, last_end}
use Rattle.print.proofs.Writing.{wrote_length}
use Rattle.print.proofs.Decimals.{decimal_any}
use Rattle.printing.specs.declared.Progress.{Progress}
use Rattle.printing.specs.Due.{list_at, Due, Behind}
use Rattle.printing.specs.Rest.{from_list}
use Rattle.printing.specs.Contract.{Begun, due, closing, Closed}

-- ---- a text in the buffer

module _ (out out' bytes : List ℕ) (at r : ℕ) (w : Wrote out out' at bytes r) (room : at + length bytes ≤ length out) where
  pub wrote_inside : r ≤ length out'
  wrote_inside = omega (arith, w.ends, wrote_length w)

  -- It follows what was there.
  pub wrote_take : take r out' ≡ take at out ++ bytes
  wrote_take =
      let l : length (take at out ++ bytes) ≡ at + length bytes = length-append (take at out) bytes ∙ ap (λ (n : ℕ). n + length bytes) (length-take-le at out (omega arith)) in
      ap (λ (n : ℕ). take n out') w.ends
      ∙ ap (take (at + length bytes)) (w.bytes_set ∙ sets-eq bytes out at room)
      ∙ take_at (take at out ++ bytes) (drop (at + length bytes) out) (at + length bytes) l

  -- Behind it all is as it was.
  pub wrote_beyond : drop r out' ≡ drop r out
  wrote_beyond =
      let l : length (take at out ++ bytes) ≡ at + length bytes = length-append (take at out) bytes ∙ ap (λ (n : ℕ). n + length bytes) (length-take-le at out (omega arith)) in
      ap (λ (n : ℕ). drop n out') w.ends
      ∙ ap (drop (at + length bytes)) (w.bytes_set ∙ sets-eq bytes out at room)
      ∙ drop_at (take at out ++ bytes) (drop (at + length bytes) out) (at + length bytes) l
      ∙ sym (ap (λ (n : ℕ). drop n out) w.ends)

  -- With what comes after it, it is what was to come.
  pub wrote_next : (before after : List ℕ) → before ≡ bytes ++ after → take r out' ++ after ≡ take at out ++ before
  wrote_next before after e = ap (λ (l : List ℕ). l ++ after) wrote_take ∙ append_assoc (take at out) bytes after ∙ ap (λ (l : List ℕ). take at out ++ l) (sym e)

-- ---- what is to come

module _ (table : List ℕ) (k : ℕ) where
  abbrev all : List (List ℕ)
  all = all_lists (tree table)

  -- The line of the k-th list, and what comes after it.
  pub from_next : k < most_lines → k < length all → from_list table k ≡ line (list_at (tree table) k) (runs table (list_at (tree table) k)) ++ from_list table (suc k)
  from_next few below =
      let n : k < length (take most_lines all) = simp length-take (omega arith) in
      let e : drop k (take most_lines all) ≡ get_or all k [] ∷ drop (suc k) (take most_lines all) = drop-cons (take most_lines all) k [] n ∙ ap (λ (l : List ℕ). l ∷ drop (suc k) (take most_lines all)) (get_or-take most_lines all k [] few) in
      ap (λ (ls : List (List ℕ)). lines table ls ++ last_line (length all)) e
      ∙ append_assoc (line (list_at (tree table) k) (runs table (list_at (tree table) k))) (lines table (drop (suc k) (take most_lines all))) (last_line (length all))

  none_left : min most_lines (length all) ≤ k → from_list table k ≡ last_line (length all)
  none_left h = ap (λ (ls : List (List ℕ)). lines table ls ++ last_line (length all)) (drop_of_length-le (take most_lines all) {i = k} (simp length-take h))

  -- The last line, after the last list, and after the 10,000th.
  from_end : k ≤ most_lines → k ≡ length all → from_list table k ≡ end_line k
  from_end few e =
      none_left (omega arith)
      ∙ last_end (length all) (omega arith)
      ∙ ap end_line (sym e)

  from_cut : k ≡ most_lines → k < length all → from_list table k ≡ cut_line
  from_cut e below = none_left (omega arith) ∙ last_cut (length all) (omega arith)

-- ---- whether a list's line comes next

due_more : (p : Progress) → due p ≡ true → (p.more ≡ true) × (p.lists < most_lines)
due_more p e = go p.more refl e
  where
    go : (b : Bool) → p.more ≡ b → b && ltb p.lists most_lines ≡ true → (p.more ≡ true) × (p.lists < most_lines)
    go true h e = (h, ltb-true p.lists most_lines e)
    go false h e = never e

module _ (table : List ℕ) (p : Progress) (c : Choices) (b : Behind (tree table) p.lists p.more c) (few : p.lists ≤ most_lines) where
  pub is_due : due p ≡ true → Due (tree table) p.lists c × (p.lists < most_lines)
  is_due e = let m = due_more p e in (b.next m.0, m.1)

  -- It does not: the last line is what is to come.
  pub not_due : due p ≡ false → from_list table p.lists ≡ closing p
  not_due e = go p.more refl e
    where
      go : (m : Bool) → p.more ≡ m → m && ltb p.lists most_lines ≡ false → from_list table p.lists ≡ cond m cut_line (end_line p.lists)
      go true h e = from_cut table p.lists (omega (arith, ltb-false p.lists most_lines e)) (b.next h).below
      go false h e = from_end table p.lists few (b.none h)

-- ---- the last line is short

pub end_short : (n : ℕ) → n ≤ most_lines → length (end_line n) ≤ short_line
end_short n h = simp length-append (omega (arith, decimal_any n (omega arith)))

pub cut_short : length cut_line ≤ short_line
cut_short = simp length-append (omega (arith, decimal_any most_lines (omega arith)))

pub first_short : (n : ℕ) → n < 18446744073709551616 → length (first_line n) ≤ short_line
first_short n h = simp length-append (omega (arith, decimal_any n h))

-- ---- what the functions answer

pub begun_by : (out out' : List ℕ) (count r : ℕ) → Wrote out out' 0 (first_line count) r → count < 18446744073709551616 → short_line ≤ length out → Begun count out' out (record { lists = 0; more = true; over = false; at = r })
begun_by out out' count r w small room =
    let short = first_short count small in
    record { none_yet = refl; more = refl; going = refl; text = wrote_take out out' (first_line count) 0 r w (omega arith); beyond = wrote_beyond out out' (first_line count) 0 r w (omega arith); short = omega (arith, w.ends) }

pub due_none : (p : Progress) → p.more ≡ false → false ≡ due p
due_none p e = sym (ap (λ (b : Bool). b && ltb p.lists most_lines) e)

pub due_if : (p : Progress) → p.more ≡ true → (b : Bool) → b ≡ ltb p.lists most_lines → b ≡ due p
due_if p e b h = h ∙ sym (ap (λ (m : Bool). m && ltb p.lists most_lines) e)

pub closed_by : (out out' bytes : List ℕ) (p : Progress) (r : ℕ) → Wrote out out' p.at bytes r → bytes ≡ closing p → length bytes ≤ short_line → p.at + short_line ≤ length out → Closed out' out p (record { lists = p.lists; more = p.more; over = true; at = r })
closed_by out out' bytes p r w e short room =
    let fits : p.at + length bytes ≤ length out = omega arith in
    record {
      same_lists = refl;
      same_more = refl;
      inside = wrote_inside out out' bytes p.at r w fits;
      full = λ f. never (sym f);
      text = append-nil (take r out') ∙ wrote_take out out' bytes p.at r w fits ∙ ap (λ (l : List ℕ). take p.at out ++ l) e;
      longer = omega (arith, w.ends);
      beyond = wrote_beyond out out' bytes p.at r w fits;
    }

pub closing_cut : (p : Progress) → p.more ≡ true → cut_line ≡ closing p
closing_cut p e = sym (ap (λ (b : Bool). cond b cut_line (end_line p.lists)) e)

pub closing_end : (p : Progress) → p.more ≡ false → end_line p.lists ≡ closing p
closing_end p e = sym (ap (λ (b : Bool). cond b cut_line (end_line p.lists)) e)
