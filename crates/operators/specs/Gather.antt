-- Items gathered from items: those that pass a test, all of them put into a set or a map, the items of each of them.
use Rattle.std.specs.Prelude.{Bool, true, false, ◌&&◌, ◌||◌, cond, ℕ, zero, suc, eqb, ℤ, pos, ◌+ℤ◌}
use Rattle.values.specs.Value.{Kind, number, Value, boolean, integer, quote, collection, Items, none, more}
use Rattle.values.specs.Items.{join, insert, enter}

-- ---- items and members

-- Does every item pass the test? Does some item?
unfoldable pub every_item : (Value → Bool) → Items → Bool
every_item p none = true
every_item p (more v vs) = p v && every_item p vs

unfoldable pub any_item : (Value → Bool) → Items → Bool
any_item p none = false
any_item p (more v vs) = p v || any_item p vs

-- The items that pass the test, in their order.
unfoldable pub keep_items : (Value → Bool) → Items → Items
keep_items p none = none
keep_items p (more v vs) = cond (p v) (more v (keep_items p vs)) (keep_items p vs)

-- The members of a set, and then each of these values put in, the first first.
unfoldable pub insert_all : Items → Items → Items
insert_all vs none = vs
insert_all vs (more w ws) = insert_all (insert w vs) ws

-- The items of a value: of a boolean or an integer, none.
abbrev pub items_in : Value → Items
items_in (boolean b) = none
items_in (integer z) = none
items_in (quote n) = none
items_in (collection k vs) = vs

-- Is it a collection of this kind?
abbrev pub is_kind : Kind → Value → Bool
is_kind k (boolean b) = false
is_kind k (integer z) = false
is_kind k (quote n) = false
is_kind k (collection l vs) = eqb (number k) (number l)

-- The items of the first, then those of the second, and so on.
unfoldable pub flatten : Items → Items
flatten none = none
flatten (more v vs) = join (items_in v) (flatten vs)

-- The items from the last to the first.
unfoldable pub backwards : Items → Items
backwards none = none
backwards (more v vs) = join (backwards vs) (more v none)

-- So many integers, one after another, from z up.
unfoldable pub up_from : ℤ → ℕ → Items
up_from z zero = none
up_from z (suc n) = more (integer z) (up_from (z +ℤ pos 1) n)

-- ---- the entries of a map: key, value, key, value (`values/Entries` says the same on a list of entries). The second of each pair stands where
-- the key k was just read.

-- Does every entry pass the test?
unfoldable mutual
  pub every_entry : (Value → Value → Bool) → Items → Bool
  every_entry p none = true
  every_entry p (more k vs) = every_entry_at p k vs

  pub every_entry_at : (Value → Value → Bool) → Value → Items → Bool
  every_entry_at p k none = true
  every_entry_at p k (more v vs) = p k v && every_entry p vs

-- The entries that pass the test, in their order.
unfoldable mutual
  pub keep_entries : (Value → Value → Bool) → Items → Items
  keep_entries p none = none
  keep_entries p (more k vs) = keep_entries_at p k vs

  pub keep_entries_at : (Value → Value → Bool) → Value → Items → Items
  keep_entries_at p k none = none
  keep_entries_at p k (more v vs) = cond (p k v) (more k (more v (keep_entries p vs))) (keep_entries p vs)

-- The entries of a map, and then each of these put in, the first first: a value gives way to a later one of the same key.
unfoldable mutual
  pub enter_all : Items → Items → Items
  enter_all vs none = vs
  enter_all vs (more k ws) = enter_all_at vs k ws

  pub enter_all_at : Items → Value → Items → Items
  enter_all_at vs k none = vs
  enter_all_at vs k (more v ws) = enter_all (enter k v vs) ws
