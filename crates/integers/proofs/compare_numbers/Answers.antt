-- `integers::compare_numbers` meets its contract: the machine's order of numbers is theirs.
use mathlib.Core.Path.{◌∙◌}
use Rattle.integers.proofs.Ordered.{order_ℕ_is}
use Rattle.integers.proofs.compare_numbers.Goals as goal

pub returns : goal.returns
returns c = c.cmp.ensures ∙ order_ℕ_is c.args.left c.args.right
