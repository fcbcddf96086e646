-- Bindings: a value for each name that a pattern holds; what two bindings say together; and their order.
use Rattle.std.specs.Prelude.{Bool, true, false, cond, List, [], ◌∷◌, ◌++◌, ℕ, get_or, replicate, set}
use Rattle.std.specs.declared.cmp.Ordering.{Ordering}
use Rattle.std.specs.declared.cmp.Ordering.TheVariants.{Less, Equal, Greater}
use Rattle.values.specs.Value.{Value, order, after}
use Rattle.values.specs.Items.{same, in_order}

-- What is said of a name: nothing, a value, or two different values.
pub data Cell : Type 0 where
  free : Cell
  is : Value → Cell
  clash : Cell

-- The names are 0 to 15.
abbrev pub names : ℕ
names = 16

-- A cell for each name.
abbrev pub Binding : Type 0
Binding = List Cell

-- No name has a value; one name has one.
abbrev pub nothing : Binding
nothing = replicate names free

abbrev pub only : ℕ → Value → Binding
only x v = set nothing x (is v)

-- What a name stands for.
abbrev pub cell_of : Binding → ℕ → Cell
cell_of b x = get_or b x free

-- ---- two bindings together (source 001, EnvMerge and UnionMatch)

-- A name repeated in one pattern must get equal values.
abbrev pub agree : Cell → Cell → Cell
agree free c = c
agree (is v) free = is v
agree (is v) (is w) = cond (same v w) (is v) clash
agree (is v) clash = clash
agree clash c = clash

unfoldable pub merge : Binding → Binding → Binding
merge [] cs = cs
merge (b ∷ bs) [] = b ∷ bs
merge (b ∷ bs) (c ∷ cs) = agree b c ∷ merge bs cs

-- No name has two different values.
unfoldable pub consistent : Binding → Bool
consistent [] = true
consistent (free ∷ bs) = consistent bs
consistent (is v ∷ bs) = consistent bs
consistent (clash ∷ bs) = false

-- Every binding of the one with every binding of the other, where they are consistent.
unfoldable pub with_each : Binding → List Binding → List Binding
with_each b [] = []
with_each b (c ∷ cs) = cond (consistent (merge b c)) (merge b c ∷ with_each b cs) (with_each b cs)

unfoldable pub together : List Binding → List Binding → List Binding
together [] cs = []
together (b ∷ bs) cs = with_each b cs ++ together bs cs

-- ---- the order of bindings

-- By value; bindings of one pattern have values for the same names, so what stands for the other cells is of no account.
abbrev pub order_cells : Cell → Cell → Ordering
order_cells free free = Equal
order_cells free (is w) = Less
order_cells free clash = Less
order_cells (is v) free = Greater
order_cells (is v) (is w) = order v w
order_cells (is v) clash = Less
order_cells clash free = Greater
order_cells clash (is w) = Greater
order_cells clash clash = Equal

-- By their values taken in rising name number.
unfoldable pub order_bindings : Binding → Binding → Ordering
order_bindings [] [] = Equal
order_bindings [] (c ∷ cs) = Less
order_bindings (b ∷ bs) [] = Greater
order_bindings (b ∷ bs) (c ∷ cs) = after (order_cells b c) (order_bindings bs cs)

-- A binding put in order among others, once.
unfoldable pub place : Binding → List Binding → List Binding
place b [] = b ∷ []
place b (c ∷ cs) = in_order (order_bindings b c) (b ∷ c ∷ cs) (c ∷ cs) (c ∷ place b cs)

-- The distinct ones, in order.
unfoldable pub sorted : List Binding → List Binding
sorted [] = []
sorted (b ∷ bs) = place b (sorted bs)
