-- Maps as lists of entries: when two are compatible, and a map built entry by entry. The operators on maps (`Maps`, `Enumerations`) do the same
-- over key, value, key, value; that they are these is proved in `operator_laws/proofs/Listed`.
use Rattle.std.specs.Prelude.{◌≡◌, List, [], ◌∷◌}
use Rattle.std.proofs.Math.Option.{some}
use Rattle.values.specs.Value.{Value, Items}
use Rattle.values.specs.Entries.{Entry, value_at}
use Rattle.operators.specs.Answer.{Built, built}
use Rattle.operators.specs.Enumerations.{add_entry, build_on}

-- Two maps are compatible if any common key is mapped to the same value by both (source 000, page 19).
abbrev pub Compatible : List Entry → List Entry → Type 0
Compatible es fs = (k v w : Value) → value_at k es ≡ some v → value_at k fs ≡ some w → v ≡ w

-- Each of these entries added to what is built, the first first.
unfoldable pub add_listed : Items → List Entry → Built
add_listed vs [] = built vs
add_listed vs (e ∷ es) = build_on (add_entry vs e.key e.value) (λ us. add_listed us es)
