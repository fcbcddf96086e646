-- By its kind.
use Rattle.tables.proofs.Stand.{roles_more}
use lib.ListN.{length, get_or}
use Rattle.tables.specs.declared.Role.TheVariants.{Plain}
use Rattle.tables.specs.Shapes.{roles_of}
use Prim.Native.Nat.{ℕ}
use native.Mathlib.Omega.{arith}
use mathlib.Core.Path.{ap, ◌∙◌}
use Rattle.tables.proofs.sheet.Sheet.role.Goals as goal

pub role_of-requires : goal.role_of-requires
role_of-requires c =
    (c.kind.ensures.1, omega (arith, c.requires.has, roles_more c.args.self.now c.args.r c.requires.here, ap (λ (k : ℕ). length (roles_of k)) c.kind.ensures.0))

pub returns : goal.returns
returns c = c.role_of.ensures ∙ ap (λ (k : ℕ). get_or (roles_of k) c.args.i Plain) c.kind.ensures.0
