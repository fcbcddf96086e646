-- Building a set, a sequence, a map or a tuple part by part: of an enumeration's operands in written order, and of a comprehension's
-- elements binding by binding. A refusal comes as soon as the part built calls for it.
use Rattle.std.proofs.Math.Option.{Option, none as absent, some}
use Rattle.std.specs.Prelude.{cond}
use Rattle.values.specs.Value.{set, sequence, map, tuple, Value, Items, none, more}
use Rattle.values.specs.Items.{same, snoc, insert, lookup, enter}
use Rattle.operators.specs.Answer.{Answer, clash, Built, built, stopped, fitting, closed}

-- ---- one part more

abbrev pub add_member : Items → Value → Built
add_member vs v = fitting (insert v vs)

abbrev pub add_item : Items → Value → Built
add_item vs v = fitting (snoc vs v)

-- A key that is there already, with this value: nothing to add. With another: 27.
abbrev pub entry_added : Option Value → Items → Value → Value → Built
entry_added absent vs k v = fitting (enter k v vs)
entry_added (some w) vs k v = cond (same v w) (built vs) (stopped clash)

abbrev pub add_entry : Items → Value → Value → Built
add_entry vs k v = entry_added (lookup k vs) vs k v

-- ---- all parts

-- What is built goes on being built; what is stopped stays so.
abbrev pub build_on : Built → (Items → Built) → Built
build_on (built vs) f = f vs
build_on (stopped n) f = stopped n

unfoldable pub add_members : Items → Items → Built
add_members vs none = built vs
add_members vs (more w ws) = build_on (add_member vs w) (λ us. add_members us ws)

unfoldable pub add_items : Items → Items → Built
add_items vs none = built vs
add_items vs (more w ws) = build_on (add_item vs w) (λ us. add_items us ws)

-- Of key, value, key, value. (The second stands where the key k was just read.)
unfoldable mutual
  pub add_entries : Items → Items → Built
  add_entries vs none = built vs
  add_entries vs (more k ws) = add_entries_at vs k ws

  pub add_entries_at : Items → Value → Items → Built
  add_entries_at vs k none = built vs
  add_entries_at vs k (more v ws) = build_on (add_entry vs k v) (λ us. add_entries us ws)

-- ---- enumerations, of the values of all their operands

-- {e1, e2, ..., en} (source 000, page 62)
abbrev pub set_of : Items → Answer
set_of vs = closed set (add_members none vs)

-- [e1, e2, ..., en] (page 63)
abbrev pub sequence_of : Items → Answer
sequence_of vs = closed sequence (add_items none vs)

-- {d1 |-> r1, ..., dn |-> rn} (page 65), of d1, r1, ..., dn, rn
abbrev pub map_of : Items → Answer
map_of vs = closed map (add_entries none vs)

-- mk_(e1, e2, ..., en) (page 66)
abbrev pub tuple_of : Items → Answer
tuple_of vs = closed tuple (add_items none vs)
