-- A map as a list of entries, each a key and the value that it is mapped to: what stands at a key, an entry put in, entries put together and chosen.
-- `Items` (here) and `Gather` (operators) do the same over key, value, key, value. That they are these: `values/proofs/Listed`, `operator_laws/proofs/Listed`.
use Rattle.std.specs.Prelude.{Bool, cond, List, [], ◌∷◌}
use Rattle.std.proofs.Math.Option.{Option, none as absent, some}
use Rattle.values.specs.Value.{Value, Items, none, more, order, Ascending}
use Rattle.values.specs.Items.{same, in_order}

pub record Entry : Type 0 where
  pub key : Value
  pub value : Value

abbrev pub entry : Value → Value → Entry
entry k v = record { key = k; value = v }

-- The items of a map with these entries: key, value, key, value.
unfoldable pub flat : List Entry → Items
flat [] = none
flat (e ∷ es) = more e.key (more e.value (flat es))

-- Their keys, and the values that these are mapped to.
unfoldable pub keys_of : List Entry → Items
keys_of [] = none
keys_of (e ∷ es) = more e.key (keys_of es)

unfoldable pub values_of : List Entry → Items
values_of [] = none
values_of (e ∷ es) = more e.value (values_of es)

-- The entries of a map: keys strictly ascending.
abbrev pub Rising : List Entry → Type 0
Rising es = Ascending (keys_of es)

-- The value at a key.
unfoldable pub value_at : Value → List Entry → Option Value
value_at k [] = absent
value_at k (e ∷ es) = cond (same k e.key) (some e.value) (value_at k es)

-- An entry put in order; one with its key gives way to it.
unfoldable pub put : Entry → List Entry → List Entry
put e [] = e ∷ []
put e (f ∷ fs) = in_order (order e.key f.key) (e ∷ f ∷ fs) (e ∷ fs) (f ∷ put e fs)

-- The entries es, and then each of fs put in, the first first.
unfoldable pub put_all : List Entry → List Entry → List Entry
put_all es [] = es
put_all es (f ∷ fs) = put_all (put f es) fs

-- The entries that pass a test, in their order.
unfoldable pub passing : (Value → Value → Bool) → List Entry → List Entry
passing p [] = []
passing p (e ∷ es) = cond (p e.key e.value) (e ∷ passing p es) (passing p es)
