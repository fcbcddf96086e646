-- The outcomes of the complete lists are the outcomes at the leaves.
use mathlib.Core.Path.{◌≡◌, refl, sym, ◌∙◌}
use mathlib.Core.Bool.{Bool, true, false, cond}
use mathlib.Core.Logic.{◌⊎◌, inl, inr, ⊎_elim, ◌↔◌}
use mathlib.Core.List.{List, [], ◌∷◌}
use Prim.Native.Nat.{ℕ, zero, suc}
use lib.Dec.{ltb}
use borrow.Author.Tests.{ltb-true}
use Rattle.choices.specs.Tree.{Tree, give, stop, choose, most_choices, Run, gave, stopped, short, beyond, follow, run, Gives}
use Rattle.choices.specs.Outcome.{Outcome, value, refusal}
use Rattle.choices.specs.Lists.{Complete, run_outcome}
use Rattle.choices.proofs.Leaves.{NoMany}
use Rattle.choices.specs.Paths.{cut_after}
use Rattle.choices.proofs.Paths.{gives_leaf}
use Rattle.choices.proofs.Cut.{complete_leaf, leaf_complete, complete_outcome, gives_cut, no_many_within}

-- Some complete list's run has the outcome o.
abbrev pub Reached : {A : Type 0} → Tree A → Outcome A → Type 0
Reached t o = (l : List ℕ) × Complete t l × (o ≡ run_outcome (run t l))

-- The complete lists reach what the cut tree gives.
gives_cut_reached : {A : Type 0} (t : Tree A) (o : Outcome A) → Gives (cut_after most_choices t) o ↔ Reached t o
gives_cut_reached t o = (
  λ h.
      let w = (gives_leaf (cut_after most_choices t) o).0 h in
      let c = leaf_complete t w.0 w.1 in
      (w.0, c, w.2 ∙ sym (complete_outcome t w.0 c)),
  λ w. (gives_leaf (cut_after most_choices t) o).1 (w.0, complete_leaf t w.0 w.1, w.2 ∙ complete_outcome t w.0 w.1),
)

-- Where no run meets one choice too many, they reach exactly what the tree gives.
pub gives_reached : {A : Type 0} (t : Tree A) (o : Outcome A) → NoMany t → Gives t o ↔ Reached t o
gives_reached t o n = (
  λ h. (gives_cut_reached t o).0 ((gives_cut most_choices t o (no_many_within t n)).1 h),
  λ w. (gives_cut most_choices t o (no_many_within t n)).0 ((gives_cut_reached t o).1 w),
)

-- What a single run comes to, whatever the others meet: a value or a refusal that the tree gives, or 31.
abbrev pub Given : {A : Type 0} → Tree A → Run A → Type 0
Given t (gave a k l) = Gives t (value a)
Given t (stopped r p l) = Gives t (refusal r p) ⊎ (r ≡ 31)
Given t (short p n) = Unit {0}
Given t (beyond p n l) = Unit {0}

pub follow_given : {A : Type 0} (t : Tree A) (k : ℕ) (l : List ℕ) → Given t (follow t k l)
follow_given (give a) k l = refl
follow_given (stop r p) k l = inl refl
follow_given (choose p n ways) zero l = inr refl
follow_given (choose p n ways) (suc k) [] = tt
follow_given {A} (choose p n ways) (suc k) (c ∷ l) = go (ltb c n) refl (follow (ways c) k l) (follow_given (ways c) k l)
  where
    go : (b : Bool) → ltb c n ≡ b → (r : Run A) → Given (ways c) r → Given (choose p n ways) (cond b r (beyond p n (c ∷ l)))
    go true e (gave a j m) h = (c, ltb-true c n e, h)
    go true e (stopped r q m) h = ⊎_elim (λ g. inl (c, ltb-true c n e, g)) inr h
    go true e (short q m) h = tt
    go true e (beyond q m s) h = tt
    go false e r h = tt
