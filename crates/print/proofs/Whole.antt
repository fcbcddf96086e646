-- The print is one of all complete lists, whichever way they are told; and when it is refused or cut.
use Rattle.std.specs.Prelude.{◌≡◌, refl, ◌↔◌, Bool, true, false, ◌||◌, cond, List, ◌++◌, ℕ, ◌<◌, ◌≤◌, eqb, length}
use Rattle.std.proofs.Common.{ap, ◌∙◌, lt-ltb, le-ltb}
use Rattle.prelude.specs.Membership.{In}
use Rattle.choices.specs.Lists.{Complete, AscendingLists}
use Rattle.choices.specs.Paths.{all_lists, cut_after}
use Rattle.choices.specs.Tree.{most_choices}
use Rattle.choices.proofs.Order.{asc_same}
use Rattle.choices.proofs.Paths.{paths_ascend}
use Rattle.choices.proofs.Cut.{complete_path}
use Rattle.std.specs.Prelude.{Ok}
use Rattle.tables.specs.declared.Rule.{Rule}
use Rattle.tables.specs.Faults.{Checked, faulty, number_of}
use Rattle.tables.specs.declared.Rule.TheVariants.{WrongSize}
use Rattle.tables.specs.Check.{most_bytes, judged_cut, check}
use Rattle.tables.specs.Table.{cut}
use Rattle.meaning.specs.Service.{tree}
use Rattle.print.specs.Print.{most_lines, first_line, end_line, cut_line, last_line, refused_line, walked, printed, print_of}

-- All complete lists of a table, in dictionary order.
pub record AllComplete (table : List ℕ) (lists : List (List ℕ)) : Type 0 where
  pub ascending : AscendingLists lists
  pub exactly : (l : List ℕ) → In l lists ↔ Complete (tree table) l

-- THEOREM: the lists that the print goes through are all complete lists in dictionary order, and there is one such list of lists.
pub all_complete : (table : List ℕ) → AllComplete table (all_lists (tree table))
all_complete table =
    record { ascending = paths_ascend (cut_after most_choices (tree table)); exactly = λ l. let e = complete_path (tree table) l in (e.1, e.0) }

pub one_complete : (table : List ℕ) (ls ms : List (List ℕ)) → AllComplete table ls → AllComplete table ms → ls ≡ ms
one_complete table ls ms a b =
    asc_same ls ms a.ascending b.ascending (λ l. (λ h. (b.exactly l).1 ((a.exactly l).0 h), λ h. (a.exactly l).1 ((b.exactly l).0 h)))

-- THEOREM: the print of an accepted table, over all its complete lists in dictionary order.
pub print_accepted : (table : List ℕ) (count : ℕ) (lists : List (List ℕ)) → check table ≡ Ok count → AllComplete table lists → print_of table ≡ first_line count ++ walked table lists
print_accepted table count lists ok all =
    ap (printed table) ok ∙ ap (λ (ls : List (List ℕ)). first_line count ++ walked table ls) (one_complete table (all_lists (tree table)) lists (all_complete table) all)

-- A refused table prints only that.
pub print_refused : (table : List ℕ) (rule : Rule) (place : ℕ) → check table ≡ faulty rule place → print_of table ≡ refused_line (number_of rule) place
print_refused table rule place e = ap (printed table) e

-- More than 2,400 bytes are refused with 3 and place 0.
too_long : (table : List ℕ) → most_bytes < length table → check table ≡ faulty WrongSize 0
unfolding check
too_long table h = rw (lt-ltb most_bytes (length table) h) (go (eqb (length table) 0) (judged_cut (cut table)))
  where
    go : (b : Bool) (later : Checked) → cond (b || true) (faulty WrongSize 0) later ≡ faulty WrongSize 0
    go true later = refl
    go false later = refl

pub print_long : (table : List ℕ) → most_bytes < length table → print_of table ≡ refused_line 3 0
print_long table h = print_refused table WrongSize 0 (too_long table h)

-- The last line is `cut 10000` exactly when a 10,001st list exists.
pub last_cut : (count : ℕ) → most_lines < count → last_line count ≡ cut_line
last_cut count h = ap (λ (b : Bool). cond b cut_line (end_line count)) (lt-ltb most_lines count h)

pub last_end : (count : ℕ) → count ≤ most_lines → last_line count ≡ end_line count
last_end count h = ap (λ (b : Bool). cond b cut_line (end_line count)) (le-ltb most_lines count h)
