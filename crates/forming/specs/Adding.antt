-- Entering bindings one by one, in order, once.
use Rattle.std.specs.Prelude.{List, [], ◌∷◌}
use Rattle.patterns.specs.Binding.{Binding, place}

unfoldable pub adding : List Binding → List Binding → List Binding
adding [] bs = bs
adding (x ∷ xs) bs = adding xs (place x bs)
