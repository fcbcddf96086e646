-- Document 01, "Values": the abstract values, their order, their size, their one encoding, and which of them are well-formed.
-- Nothing above this file speaks of bytes; only `encode` does.
use Rattle.std.specs.Prelude.{◌≡◌, Bool, true, false, List, [], ◌∷◌, ◌++◌, ℕ, suc, ◌+◌, ◌/◌, ◌%◌, ◌≤◌, ◌<◌, ℤ}
use Rattle.integers.specs.Bytes.{pair, integer_bytes}
use Rattle.integers.specs.Whole.{InRange}
use Rattle.integers.specs.Order.{order_ℕ, order_ℤ}
use Rattle.std.specs.declared.cmp.Ordering.{Ordering}
use Rattle.std.specs.declared.cmp.Ordering.TheVariants.{Less, Equal, Greater}

-- ---- values

-- The kinds of values that hold other values.
pub data Kind : Type 0 where
  set sequence map tuple : Kind

-- A boolean, an integer, a quote, which is a number by itself, or a collection of items. A map's items are key, value, key, value.
mutual
  pub data Value : Type 0 where
    boolean : Bool → Value
    integer : ℤ → Value
    quote : ℕ → Value
    collection : Kind → Items → Value

  pub data Items : Type 0 where
    none : Items
    more : Value → Items → Items

-- The number of a kind: 1 boolean, 2 integer, 3 set, 4 sequence, 5 map, 6 tuple, 7 quote.
abbrev pub number : Kind → ℕ
number set = 3
number sequence = 4
number map = 5
number tuple = 6

abbrev pub kind_of : Value → ℕ
kind_of (boolean b) = 1
kind_of (integer z) = 2
kind_of (quote n) = 7
kind_of (collection k vs) = number k

-- How many items there are.
unfoldable pub count : Items → ℕ
count none = 0
count (more v vs) = suc (count vs)

-- Every other item, from the first on (true) or from the second on (false).
unfoldable pub every_other : Bool → Items → Items
every_other b none = none
every_other true (more v vs) = more v (every_other false vs)
every_other false (more v vs) = every_other true vs

-- The keys of a map's items, and the values that they are mapped to.
abbrev pub keys : Items → Items
keys vs = every_other true vs

abbrev pub mapped : Items → Items
mapped vs = every_other false vs

-- ---- size and encoding

-- The number of bytes of a value's record, and of the records of items: length and kind take two bytes each.
unfoldable mutual
  pub size : Value → ℕ
  size (boolean b) = 5
  size (integer z) = 8
  size (quote n) = 6
  size (collection k vs) = 4 + sizes vs

  pub sizes : Items → ℕ
  sizes none = 0
  sizes (more v vs) = size v + sizes vs

-- False is 0 and true is 1.
abbrev pub byte_of : Bool → ℕ
byte_of false = 0
byte_of true = 1

-- A record: length of the whole record and kind, 16-bit little-endian, then the contents.
abbrev pub headed : ℕ → ℕ → List ℕ → List ℕ
headed n k bytes = n % 256 ∷ n / 256 ∷ k % 256 ∷ k / 256 ∷ bytes

unfoldable mutual
  pub encode : Value → List ℕ
  encode (boolean b) = headed 5 1 (byte_of b ∷ [])
  encode (integer z) = headed 8 2 (integer_bytes z)
  encode (quote n) = headed 6 7 (pair n)
  encode (collection k vs) = headed (4 + sizes vs) (number k) (encode_items vs)

  pub encode_items : Items → List ℕ
  encode_items none = []
  encode_items (more v vs) = encode v ++ encode_items vs

-- ---- the order

-- What the first says, and where that is Equal, what the second says.
abbrev pub after : Ordering → Ordering → Ordering
after Less o = Less
after Equal o = o
after Greater o = Greater

-- Within one kind: false before true; integers by size; quotes by number; the others item by item, a prefix before what extends it.
-- (Two kinds never meet here: `order` has told them apart, so what stands for them is of no account.)
unfoldable mutual
  pub within : Value → Value → Ordering
  within (boolean a) (boolean b) = order_ℕ (byte_of a) (byte_of b)
  within (boolean a) (integer b) = Equal
  within (boolean a) (quote b) = Equal
  within (boolean a) (collection l b) = Equal
  within (integer a) (boolean b) = Equal
  within (integer a) (integer b) = order_ℤ a b
  within (integer a) (quote b) = Equal
  within (integer a) (collection l b) = Equal
  within (quote a) (boolean b) = Equal
  within (quote a) (integer b) = Equal
  within (quote a) (quote b) = order_ℕ a b
  within (quote a) (collection l b) = Equal
  within (collection k a) (boolean b) = Equal
  within (collection k a) (integer b) = Equal
  within (collection k a) (quote b) = Equal
  within (collection k a) (collection l b) = order_items a b

  pub order_items : Items → Items → Ordering
  order_items none none = Equal
  order_items none (more w ws) = Less
  order_items (more v vs) none = Greater
  order_items (more v vs) (more w ws) = after (after (order_ℕ (kind_of v) (kind_of w)) (within v w)) (order_items vs ws)

-- The order of any two values: lower kind first.
abbrev pub order : Value → Value → Ordering
order v w = after (order_ℕ (kind_of v) (kind_of w)) (within v w)

-- ---- well-formed values

-- No value exceeds 512 bytes.
abbrev pub value_limit : ℕ
value_limit = 512

-- v is lower than each of the items.
unfoldable pub Before : Value → Items → Type 0
Before v none = Unit {0}
Before v (more w ws) = (order v w ≡ Less) × Before v ws

-- Strictly ascending: each item is lower than all that follow it.
unfoldable pub Ascending : Items → Type 0
Ascending none = Unit {0}
Ascending (more v vs) = Before v vs × Ascending vs

-- Key, value, key, value: no key without its value. (True where a key is next, false where a value is.)
unfoldable pub PairedFrom : Bool → Items → Type 0
PairedFrom true none = Unit {0}
PairedFrom false none = ⊥
PairedFrom true (more k vs) = PairedFrom false vs
PairedFrom false (more v vs) = PairedFrom true vs

abbrev pub Paired : Items → Type 0
Paired vs = PairedFrom true vs

-- What the items of a collection are: members strictly ascending, keys strictly ascending, two to four in a tuple.
abbrev pub Shaped : Kind → Items → Type 0
Shaped set vs = Ascending vs
Shaped sequence vs = Unit {0}
Shaped map vs = Paired vs × Ascending (keys vs)
Shaped tuple vs = (2 ≤ count vs) × (count vs ≤ 4)

-- Each integer is in range, each quote's number has 16 bits and each collection is shaped as its kind asks, at every depth.
unfoldable mutual
  pub Sound : Value → Type 0
  Sound (boolean b) = Unit {0}
  Sound (integer z) = InRange z
  Sound (quote n) = n < 65536
  Sound (collection k vs) = Shaped k vs × SoundItems vs

  pub SoundItems : Items → Type 0
  SoundItems none = Unit {0}
  SoundItems (more v vs) = Sound v × SoundItems vs

-- A value of document 01: sound, and of at most 512 bytes.
pub record WellFormed (v : Value) : Type 0 where
  pub sound : Sound v
  pub short : size v ≤ value_limit
