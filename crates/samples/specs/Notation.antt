-- The bytes of a table, from its records; values in short; and the lines that a walk over a table shows.
use Rattle.std.specs.Prelude.{List, [], ◌∷◌, ◌++◌, map, ℕ, zero, suc, ◌+◌, pos, neg_ℤ, length}
use Rattle.integers.specs.Bytes.{pair, integer_bytes}
use Rattle.integers.specs.Whole.{ranged}
use Rattle.choices.specs.Tree.{Final}
use Rattle.choices.specs.Paths.{all_lists}
use Rattle.integers.specs.Order.{order_ℕ, order_ℤ}
use Rattle.values.specs.Value.{Value, integer, collection, set, Items, none, more, value_limit, count, every_other, size, within}
use Rattle.values.specs.Entries.{flat}
use Rattle.values.specs.Items.{join, is_member, nth, insert, lookup, enter}
use Rattle.operators.specs.Gather.{every_item, any_item, keep_items, insert_all, flatten, backwards, up_from, every_entry, keep_entries, enter_all}
use Rattle.operators.specs.Enumerations.{add_members, add_items, add_entries}
use Rattle.operators.specs.Operators.{unary, binary}
use Rattle.patterns.specs.Ways.{gather, exists, splits, proper, cuts, at_every_place, orders}
use Rattle.patterns.specs.Binding.{merge, consistent, with_each, together, order_bindings, place, sorted}
use Rattle.patterns.specs.Pattern.{parts, list_of, items_of, entries_of, matches, wide, loose}
use Rattle.tables.specs.Record as Record
use Rattle.tables.specs.Table as Table
use Rattle.tables.specs.Sheet as Sheet
use Rattle.tables.specs.Check as Check
use Rattle.meaning.specs.State.{under}
use Rattle.meaning.specs.Meaning.{all_of, satisfying, until_false, until_true, collected, integers_at, means, meaning_to, meaning}
use Rattle.patterns.specs.Read.{patterns_of, pattern_at}
use Rattle.meaning.specs.Read.{node_of}
use Rattle.meaning.specs.Service.{scratch_bytes, tree, evaluates}

-- ---- a table's bytes

-- A record: length of the whole record, kind, fields.
abbrev pub row : ℕ → List ℕ → List ℕ
row kind fields = (4 + length fields) ∷ 0 ∷ kind ∷ 0 ∷ fields

abbrev pub rows : List (List ℕ) → List ℕ
rows [] = []
rows (r ∷ rs) = r ++ rows rs

-- A boolean literal, integer literals from 0 up and below 0, and a quote literal.
abbrev pub flag : ℕ → List ℕ
flag b = row 1 (b ∷ [])

abbrev pub whole : ℕ → List ℕ
whole k = row 2 (integer_bytes (pos k))

abbrev pub whole_below0 : ℕ → List ℕ
whole_below0 k = row 2 (integer_bytes (neg_ℤ (pos k)))

abbrev pub quoted : ℕ → List ℕ
quoted k = row 22 (pair k)

-- A name, a binary operator with its operands, and a pattern that is a name.
abbrev pub name : ℕ → List ℕ
name x = row 3 (x ∷ [])

abbrev pub operation : ℕ → ℕ → ℕ → List ℕ
operation op a b = row 5 (op ∷ a ∷ b ∷ [])

abbrev pub P : ℕ → List ℕ
P x = row 32 (x ∷ [])

-- The binder of this kind (14 to 17) over a in set {1, 2}, with the condition that a is in this relation to k.
abbrev pub tested : ℕ → ℕ → ℕ → List ℕ
tested kind op k = rows (P 0 ∷ whole 1 ∷ whole 2 ∷ row 7 (1 ∷ 2 ∷ []) ∷ name 0 ∷ whole k ∷ operation op 4 5 ∷ row kind (0 ∷ 3 ∷ 6 ∷ []) ∷ [])

-- ---- values

-- An integer from 0 up, one below 0, and the set of so many integers from a given one up.
abbrev pub n : ℕ → Value
n k = integer (pos k)

abbrev pub below0 : ℕ → Value
below0 k = integer (neg_ℤ (pos k))

abbrev pub members : ℕ → ℕ → Items
members k zero = none
members k (suc m) = more (n k) (members (suc k) m)

abbrev pub integers_from : ℕ → ℕ → Value
integers_from k m = collection set (members k m)

abbrev pub of : List Value → Items
of [] = none
of (v ∷ vs) = more v (of vs)

-- ---- what a walk shows

-- What evaluating a table under a list answers.
abbrev pub answer_under : List ℕ → List ℕ → Final Value
answer_under table l = evaluates scratch_bytes value_limit table l

-- Every complete list of a table, in dictionary order, and what evaluating under it answers.
abbrev pub walk : List ℕ → List (List ℕ × Final Value)
walk table = map (λ l. (l, answer_under table l)) (all_lists (tree table))

-- No choice is met: the empty list alone.
abbrev pub alone : Final Value → List (List ℕ × Final Value)
alone f = ([], f) ∷ []

-- To unfold this is to unfold everything that the walk over a table computes with.
unfoldable pub computing : ℕ
unfolding Check.check Check.judged_cut Check.judged Check.fault6 Check.fault7 Check.fault8 Check.fault9 Check.chooses Sheet.is_bound Sheet.in_condition Sheet.climb_by Sheet.height Sheet.loose Sheet.holds_name Sheet.fold_by Table.cut Table.cut_by Table.next Record.is_fit Record.operands Record.shape under all_of satisfying until_false until_true collected integers_at means meaning_to meaning node_of patterns_of pattern_at add_members add_items add_entries every_item any_item keep_items insert_all flatten backwards up_from every_entry keep_entries enter_all unary binary count every_other size order_ℕ order_ℤ within join is_member nth insert lookup enter ranged gather exists splits proper cuts at_every_place orders merge consistent with_each together order_bindings place sorted parts list_of items_of entries_of flat matches wide loose
computing = 0
