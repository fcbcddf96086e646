-- `restrict_domain` meets its contract.
use mathlib.Core.Path.{refl}
use Rattle.values.specs.Value.{set, map}
use Rattle.operators.specs.Operators.{binary}
use Rattle.calling.proofs.Kinding.{has_two, off_two, on_two}
use Rattle.map_operators.proofs.Restricting.{on_domain, domain_restrictable, domain_copyable, domain_restricted}
use Rattle.map_operators.proofs.restrict_domain.Goals as goal

pub restrict-requires : goal.restrict-requires
restrict-requires c = domain_restrictable (has_two set map c.requires c.kinds_are.ensures c.if-kinds_are.true)

pub copy_value-requires : goal.copy_value-requires
copy_value-requires c =
    domain_copyable (has_two set map c.requires c.kinds_are.ensures c.if-kinds_are.true) c.restrict.ensures

pub returns-then-kinds_are : goal.returns-then-kinds_are
unfolding binary
returns-then-kinds_are c =
    let h = has_two set map c.requires c.kinds_are.ensures c.if-kinds_are.true in on_two (λ v w. refl) h (domain_restricted h c.restrict.ensures c.copy_value.ensures)

pub returns : goal.returns
unfolding binary
returns c = off_two set map {f = on_domain} (λ v w. refl) c.kinds_are.ensures c.if-kinds_are.false
