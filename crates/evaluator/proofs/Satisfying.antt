-- 13, 16, 17: all bindings are tested, the satisfying ones are counted, and the one with a wanted number is remembered as it passes.
use mathlib.Core.Path.{◌≡◌, refl, sym, ap, ◌∙◌}
use mathlib.Core.Bool.{Bool, true, false, cond}
use mathlib.Core.List.{List, [], ◌∷◌, ◌++◌, append-nil}
use Prim.Native.Nat.{ℕ, zero, suc, ◌+◌, ◌<◌}
use native.Mathlib.Omega.{arith}
use lib.Dec.{eqb}
use lib.ListN.{length, get_or, length-append}
use lib.Seq.{append_snoc}
use borrow.Author.Tests.{eqb-true, eqb-false}
use Rattle.choices.specs.State.{Choices}
use Rattle.choices.specs.Tree.{Tree, give, bind, result, refuses}
use Rattle.choices.specs.Runs.{Came}
use Rattle.choices.proofs.Trees.{bind_give, bind_assoc, bind_cong}
use Rattle.patterns.specs.Binding.{Binding, nothing}
use Rattle.meaning.specs.State.{State}
use Rattle.meaning.specs.Meaning.{Evaluation as Evaluates, holds, satisfying}
use Rattle.evaluator.specs.Binding.{Marks, counting, marking}
use Rattle.evaluator.proofs.Leading.{Leads, leads_as, leads_then, leads_off}

-- The bindings bs are still to be tested, and those in sat satisfied.
abbrev pub testing : Evaluates → ℕ → ℕ → State → List Binding → List Binding → Tree (List Binding)
testing rec r q ρ sat bs = bind (satisfying rec r q ρ bs) (λ more. give (sat ++ more))

-- One more was tested.
abbrev pub passing : Bool → List Binding → Binding → List Binding
passing t sat b = cond t (sat ++ b ∷ []) sat

module _ (rec : Evaluates) (r q : ℕ) (ρ : State) where
  pub testing_start : (bs : List Binding) → satisfying rec r q ρ bs ≡ testing rec r q ρ [] bs
  testing_start bs = sym (bind_give (satisfying rec r q ρ bs))

  pub testing_end : (sat : List Binding) → testing rec r q ρ sat [] ≡ give sat
  unfolding satisfying
  testing_end sat = ap give (append-nil sat)

  testing_more : (sat : List Binding) (b : Binding) (bs : List Binding) → testing rec r q ρ sat (b ∷ bs) ≡ bind (holds rec r q ρ b) (λ t. testing rec r q ρ (passing t sat b) bs)
  unfolding satisfying
  testing_more sat b bs =
      bind_assoc (holds rec r q ρ b) (λ t. bind (satisfying rec r q ρ bs) (λ more. give (cond t (b ∷ more) more))) (λ more. give (sat ++ more))
      ∙ bind_cong (holds rec r q ρ b) _ _ (λ t. bind_assoc (satisfying rec r q ρ bs) (λ more. give (cond t (b ∷ more) more)) (λ more. give (sat ++ more)) ∙ bind_cong (satisfying rec r q ρ bs) _ _ (λ more. ap give (one t more)))
    where
      one : (t : Bool) (more : List Binding) → sat ++ cond t (b ∷ more) more ≡ passing t sat b ++ more
      one true more = sym (append_snoc sat b more)
      one false more = refl

  module _ (sat : List Binding) (b : Binding) (bs : List Binding) {whole : Tree (List Binding)} {c d : Choices} (l : Leads whole c (testing rec r q ρ sat (b ∷ bs)) d) where
    opened : Leads whole c (bind (holds rec r q ρ b) (λ t. testing rec r q ρ (passing t sat b) bs)) d
    opened = leads_as (testing_more sat b bs) l

    pub testing_off : {e : Choices} {n p k : ℕ} → Came (holds rec r q ρ b) d (refuses n p k) e → Came whole c (refuses n p k) e
    testing_off w = leads_off (holds rec r q ρ b) (λ t. testing rec r q ρ (passing t sat b) bs) opened w

    pub testing_on : {e : Choices} {t : Bool} → Came (holds rec r q ρ b) d (result t) e → Leads whole c (testing rec r q ρ (passing t sat b) bs) e
    testing_on w = leads_then (holds rec r q ρ b) (λ t. testing rec r q ρ (passing t sat b) bs) opened w

-- ---- what is remembered

pub marks_start : (bs : List Binding) (due : ℕ) → Marks bs [] due 0 0
marks_start bs due = record { count = refl; within = λ h. absurd (omega arith); is = λ h. absurd (omega arith) }

snoc-last : (xs : List Binding) (x : Binding) → get_or (xs ++ x ∷ []) (length xs) nothing ≡ x
snoc-last [] x = refl
snoc-last (y ∷ xs) x = snoc-last xs x

snoc_early : (xs : List Binding) (x : Binding) (i : ℕ) → i < length xs → get_or (xs ++ x ∷ []) i nothing ≡ get_or xs i nothing
snoc_early [] x i h = absurd (omega arith)
snoc_early (y ∷ xs) x zero h = refl
snoc_early (y ∷ xs) x (suc i) h = snoc_early xs x i (omega arith)

pub marks_more : {bs sat : List Binding} {due n k j : ℕ} → Marks bs sat due n k → j < length bs → (t : Bool) → Marks bs (passing t sat (get_or bs j nothing)) due (counting t n) (marking t n due j k)
marks_more m l false = m
marks_more {bs} {sat} {due} {n} {k} {j} m l true = go (eqb n due) refl
  where
    b : Binding
    b = get_or bs j nothing

    one : n + 1 ≡ length (sat ++ b ∷ [])
    one = omega (arith, length-append sat (b ∷ []), m.count)

    go : (x : Bool) → eqb n due ≡ x → Marks bs (sat ++ b ∷ []) due (n + 1) (cond x j k)
    go true e =
        let d : due ≡ length sat = omega (arith, eqb-true n due e, m.count) in
        record { count = one; within = λ h. l; is = λ h. sym (ap (λ (i : ℕ). get_or (sat ++ b ∷ []) i nothing) d ∙ snoc-last sat b) }
    go false e =
        record {
          count = one;
          within = λ h. m.within (below h);
          is = λ h. let i : due < length sat = omega (arith, below h, m.count) in m.is (below h) ∙ sym (snoc_early sat b due i);
        }
      where
        below : due < n + 1 → due < n
        below h = omega (arith, eqb-false n due e)
