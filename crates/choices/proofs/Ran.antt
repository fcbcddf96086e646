-- The state that a run leaves, and a run that goes on: what the laws of runs speak of.
use mathlib.Core.Bool.{false, cond}
use mathlib.Core.List.{List, [], ◌∷◌, ◌++◌}
use Prim.Native.Nat.{ℕ, zero, suc}
use lib.Dec.{ltb}
use Rattle.choices.specs.Tree.{Tree, give, stop, choose}
use Rattle.choices.specs.State.{View}
use Rattle.choices.specs.Runs.{Ran, ran, refused}

-- The state after it.
abbrev pub state_of : {A : Type 0} → Ran A → View
state_of (ran a v) = v
state_of (refused r p n v) = v

-- A run goes on where it came to a value.
abbrev pub further : {A B : Type 0} → Ran A → (A → View → Ran B) → Ran B
further (ran a v) f = f a v
further (refused r p n v) f = refused r p n v

-- The state after a run under a list, of which `left` was left and k choices were allowed.
abbrev pub trail : {A : Type 0} → Tree A → ℕ → List ℕ → List ℕ → List ℕ → View
trail (give a) k past met left = record { past = past; met = met; left = left; grow = false }
trail (stop r p) k past met left = record { past = past; met = met; left = left; grow = false }
trail (choose p n ways) zero past met left = record { past = past; met = met; left = left; grow = false }
trail (choose p n ways) (suc k) past met [] = record { past = past; met = met; left = []; grow = false }
trail (choose p n ways) (suc k) past met (c ∷ l) = cond (ltb c n) (trail (ways c) k (past ++ c ∷ []) (met ++ n ∷ []) l) (record { past = past; met = met; left = c ∷ l; grow = false })
