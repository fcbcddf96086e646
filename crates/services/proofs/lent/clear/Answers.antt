-- What is filled, and what stands behind it.
use mathlib.Core.Path.{ap, ◌∙◌}
use mathlib.Core.List.{List, ◌++◌}
use Prim.Native.Nat.{ℕ}
use lib.ListN.{drop, replicate}
use lib.Seq.{length-take-le}
use Rattle.meaning.specs.Lent.{zeroed}
use Rattle.services.proofs.lent.clear.Goals as goal

pub returns : goal.returns
unfolding zeroed
returns c =
    ap (λ (l : List ℕ). l ++ drop c.args.n c.args.bytes.now) (c.fill.ensures.after (λ y e. e) ∙ ap (λ m. replicate m 0) (length-take-le c.args.n c.args.bytes.now c.requires))
