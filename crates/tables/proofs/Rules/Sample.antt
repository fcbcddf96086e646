-- A table whose first record is fit and is followed by three bytes more: rule 4 refuses it at record 1, and it is not accepted.
use mathlib.Core.Path.{◌≡◌, refl}
use mathlib.Core.List.{List, [], ◌∷◌}
use Prim.Native.Nat.{ℕ}
use Rattle.prelude.proofs.Absurd.{impossible}
use Rattle.std.specs.Prelude.{Ok}
use Rattle.tables.specs.declared.Rule.TheVariants.{UnfitRecord}
use Rattle.tables.specs.Faults.{faulty}
use Rattle.tables.specs.Record.{shape, operands, is_fit}
use Rattle.tables.specs.Table.{next, cut_by, cut}
use Rattle.tables.specs.Check.{judged_cut, check}
use Rattle.tables.specs.Rules.{Refuses, Accepts}
use Rattle.tables.proofs.Rules.Exact.{check_exact}

abbrev bytes : List ℕ
bytes = 5 ∷ 0 ∷ 1 ∷ 0 ∷ 1 ∷ 4 ∷ 0 ∷ 33 ∷ []

refused : check bytes ≡ faulty UnfitRecord 1
unfolding check judged_cut cut cut_by next is_fit operands shape
refused = refl

by_rule_4 : Refuses bytes UnfitRecord 1
by_rule_4 = ((check_exact bytes).refused UnfitRecord 1).0 refused

not_accepted : (k : ℕ) → ¬ Accepts bytes k
not_accepted k a = let e : check bytes ≡ Ok k = ((check_exact bytes).accepted k).1 a in let f : check bytes ≡ faulty UnfitRecord 1 = refused in impossible cc
