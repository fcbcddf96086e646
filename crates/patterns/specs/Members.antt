-- Two lists with the same members. Contracts of matching and forming cite it.
use Rattle.std.specs.Prelude.{◌↔◌, List}
use Rattle.prelude.specs.Membership.{In}

-- Two lists have the same members, however often.
abbrev pub Alike : {A : Type 0} → List A → List A → Type 0
Alike {A} xs ys = (x : A) → In x xs ↔ In x ys
