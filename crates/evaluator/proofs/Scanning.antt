-- 14, 15: the bindings are gone through in order, up to one that settles it.
use mathlib.Core.Path.{◌≡◌, refl, ap, ◌∙◌}
use mathlib.Core.Bool.{Bool, true, false, not, cond}
use mathlib.Core.List.{List, [], ◌∷◌}
use Prim.Native.Nat.{ℕ}
use Rattle.values.specs.Value.{Value, boolean}
use Rattle.choices.specs.State.{Choices}
use Rattle.choices.specs.Tree.{Tree, give, bind, result, refuses}
use Rattle.choices.specs.Runs.{Came}
use Rattle.choices.proofs.Trees.{bind_assoc, bind_cong}
use Rattle.patterns.specs.Binding.{Binding}
use Rattle.meaning.specs.Node.{Quantifier, forall, exists}
use Rattle.meaning.specs.State.{State}
use Rattle.meaning.specs.Meaning.{Evaluation as Evaluates, holds, until_false, until_true, quantify}
use Rattle.evaluator.proofs.Leading.{Leads, leads_as, leads_then, leads_off}

-- What stops at the first such truth.
abbrev pub stopping : Bool → Quantifier
stopping true = exists
stopping false = forall

-- From the bindings bs on.
abbrev pub scan : Bool → Evaluates → ℕ → ℕ → State → List Binding → Tree Value
scan want rec r q ρ bs = bind (quantify (stopping want) rec r q ρ bs) (λ t. give (boolean t))

-- After one condition: settled, or the rest.
abbrev settle : Bool → Bool → Tree Value → Tree Value
settle true t rest = cond t (give (boolean true)) rest
settle false t rest = cond t rest (give (boolean false))

scan_more : (want : Bool) (rec : Evaluates) (r q : ℕ) (ρ : State) (b : Binding) (bs : List Binding) → scan want rec r q ρ (b ∷ bs) ≡ bind (holds rec r q ρ b) (λ t. settle want t (scan want rec r q ρ bs))
unfolding until_true until_false
scan_more true rec r q ρ b bs =
    bind_assoc (holds rec r q ρ b) (λ t. cond t (give true) (until_true (holds rec r q ρ) bs)) (λ t. give (boolean t)) ∙ bind_cong (holds rec r q ρ b) _ _ one
  where
    one : (t : Bool) → bind (cond t (give true) (until_true (holds rec r q ρ) bs)) (λ u. give (boolean u)) ≡ settle true t (scan true rec r q ρ bs)
    one true = refl
    one false = refl
scan_more false rec r q ρ b bs =
    bind_assoc (holds rec r q ρ b) (λ t. cond t (until_false (holds rec r q ρ) bs) (give false)) (λ t. give (boolean t)) ∙ bind_cong (holds rec r q ρ b) _ _ one
  where
    one : (t : Bool) → bind (cond t (until_false (holds rec r q ρ) bs) (give false)) (λ u. give (boolean u)) ≡ settle false t (scan false rec r q ρ bs)
    one true = refl
    one false = refl

-- No binding settled it.
pub scan_none : (want : Bool) (rec : Evaluates) (r q : ℕ) (ρ : State) → scan want rec r q ρ [] ≡ give (boolean (not want))
unfolding until_true until_false
scan_none true rec r q ρ = refl
scan_none false rec r q ρ = refl

settled : (want : Bool) (rest : Tree Value) → settle want want rest ≡ give (boolean want)
settled true rest = refl
settled false rest = refl

unsettled : (want : Bool) (rest : Tree Value) → settle want (not want) rest ≡ rest
unsettled true rest = refl
unsettled false rest = refl

-- One condition more.
module _ (want : Bool) (rec : Evaluates) (r q : ℕ) (ρ : State) (b : Binding) (bs : List Binding) {whole : Tree Value} {c d : Choices} (l : Leads whole c (scan want rec r q ρ (b ∷ bs)) d) where
  opened : Leads whole c (bind (holds rec r q ρ b) (λ t. settle want t (scan want rec r q ρ bs))) d
  opened = leads_as (scan_more want rec r q ρ b bs) l

  pub scan_off : {e : Choices} {n p k : ℕ} → Came (holds rec r q ρ b) d (refuses n p k) e → Came whole c (refuses n p k) e
  scan_off w = leads_off (holds rec r q ρ b) (λ t. settle want t (scan want rec r q ρ bs)) opened w

  pub scan_settled : {e : Choices} {t : Bool} → Came (holds rec r q ρ b) d (result t) e → t ≡ want → Leads whole c (give (boolean want)) e
  scan_settled w z =
      leads_as (ap (λ (x : Bool). settle want x (scan want rec r q ρ bs)) z ∙ settled want (scan want rec r q ρ bs)) (leads_then (holds rec r q ρ b) (λ t. settle want t (scan want rec r q ρ bs)) opened w)

  pub scan_on : {e : Choices} {t : Bool} → Came (holds rec r q ρ b) d (result t) e → t ≡ not want → Leads whole c (scan want rec r q ρ bs) e
  scan_on w z =
      leads_as (ap (λ (x : Bool). settle want x (scan want rec r q ρ bs)) z ∙ unsettled want (scan want rec r q ρ bs)) (leads_then (holds rec r q ρ b) (λ t. settle want t (scan want rec r q ρ bs)) opened w)
