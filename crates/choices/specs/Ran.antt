-- What a run under a list comes to on a state of the choices, and the state at a complete list's end.
use Rattle.std.specs.Prelude.{Bool, List, [], ℕ}
use Rattle.choices.specs.Tree.{Tree, most_choices, Run, gave, stopped, short, beyond}
use Rattle.choices.specs.Paths.{counts, cut_after}
use Rattle.choices.specs.State.{View}
use Rattle.choices.specs.Runs.{Ran, ran, refused}

-- What a run under a list comes to, with the state v after it. A list that is used up gives 32, an entry that is too high 33; both report the number of ways.
abbrev pub ran_as : {A : Type 0} → Run A → View → Ran A
ran_as (gave a k l) v = ran a v
ran_as (stopped r p l) v = refused r p 0 v
ran_as (short p n) v = refused 32 p n v
ran_as (beyond p n l) v = refused 33 p n v

-- The state at the end of the complete list l: all its entries are taken, each beside the number of ways that was met there, and none is left.
abbrev pub at_end : {A : Type 0} → Tree A → List ℕ → Bool → View
at_end t l g = record { past = l; met = counts (cut_after most_choices t) l; left = []; grow = g }
