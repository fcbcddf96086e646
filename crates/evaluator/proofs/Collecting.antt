-- 18, 19, 20: binding by binding, what satisfies its condition is evaluated and added to what is built.
use mathlib.Core.Path.{◌≡◌, refl, sym, ap, ◌∙◌}
use mathlib.Core.Bool.{Bool, true, false, cond}
use mathlib.Core.Option.{Option, none as absent, some}
use mathlib.Core.List.{List, [], ◌∷◌}
use mathlib.Core.Logic.{◌⊎◌, inl, inr}
use Prim.Native.Nat.{ℕ}
use lib.IntN.{ℤ}
use Rattle.values.specs.Value.{Kind, Value, collection, Items, none, more}
use Rattle.choices.specs.State.{Choices}
use Rattle.choices.specs.Tree.{Tree, give, stop, bind, result, refuses}
use Rattle.choices.specs.Runs.{Came}
use Rattle.choices.proofs.Trees.{bind_assoc, bind_cong}
use Rattle.operators.specs.Answer.{as_integer}
use Rattle.patterns.specs.Binding.{Binding}
use Rattle.meaning.specs.Meaning.{or_else, collected, integers_at}
use Rattle.evaluator.specs.Binding.{turn}
use Rattle.evaluator.proofs.Leading.{Leads, leads_as, leads_then, leads_off}

-- ---- the tree

module _ (test : Binding → Tree Bool) (add : Items → Binding → Tree Items) where
  collected_more : (vs : Items) (b : Binding) (bs : List Binding) → collected test add vs (b ∷ bs) ≡ bind (turn test add vs b) (λ ws. collected test add ws bs)
  unfolding collected
  collected_more vs b bs =
      bind_cong (test b) _ _ one ∙ sym (bind_assoc (test b) (λ t. cond t (add vs b) (give vs)) (λ ws. collected test add ws bs))
    where
      one : (t : Bool) → cond t (bind (add vs b) (λ ws. collected test add ws bs)) (collected test add vs bs) ≡ bind (cond t (add vs b) (give vs)) (λ ws. collected test add ws bs)
      one true = refl
      one false = refl

  -- The bindings bs are still to come, and vs are built.
  abbrev pub building : Kind → Items → List Binding → Tree Value
  building k vs bs = bind (collected test add vs bs) (λ ws. give (collection k ws))

  pub building_end : (k : Kind) (vs : Items) → building k vs [] ≡ give (collection k vs)
  unfolding collected
  building_end k vs = refl

  building_more : (k : Kind) (vs : Items) (b : Binding) (bs : List Binding) → building k vs (b ∷ bs) ≡ bind (turn test add vs b) (λ ws. building k ws bs)
  building_more k vs b bs = ap (λ (t : Tree Items). bind t (λ ws. give (collection k ws))) (collected_more vs b bs) ∙ bind_assoc (turn test add vs b) (λ ws. collected test add ws bs) (λ ws. give (collection k ws))

  -- One binding more.
  module _ (k : Kind) (vs : Items) (b : Binding) (bs : List Binding) {whole : Tree Value} {c d : Choices} (l : Leads whole c (building k vs (b ∷ bs)) d) where
    opened : Leads whole c (bind (turn test add vs b) (λ ws. building k ws bs)) d
    opened = leads_as (building_more k vs b bs) l

    pub building_off : {e : Choices} {n p m : ℕ} → Came (turn test add vs b) d (refuses n p m) e → Came whole c (refuses n p m) e
    building_off w = leads_off (turn test add vs b) (λ ws. building k ws bs) opened w

    pub building_on : {e : Choices} {ws : Items} → Came (turn test add vs b) d (result ws) e → Leads whole c (building k ws bs) e
    building_on w = leads_then (turn test add vs b) (λ ws. building k ws bs) opened w

-- ---- a set of integers

-- All items are integers.
abbrev pub Integers : Items → Type 0
Integers none = Unit {0}
Integers (more v vs) = ((z : ℤ) × (as_integer v ≡ some z)) × Integers vs

pub integers_all : (r : ℕ) (vs : Items) → Integers vs → integers_at r vs ≡ give vs
unfolding integers_at
integers_all r none h = refl
integers_all r (more v vs) h =
    ap (λ (o : Option ℤ). bind (or_else 20 r o) (λ z. bind (integers_at r vs) (λ ws. give (more v ws)))) h.0.1
    ∙ ap (λ (t : Tree Items). bind t (λ ws. give (more v ws))) (integers_all r vs h.1)

-- Some item is none.
abbrev pub NotIntegers : Items → Type 0
NotIntegers none = ⊥
NotIntegers (more v vs) = (as_integer v ≡ absent) ⊎ NotIntegers vs

pub integers_not : (r : ℕ) (vs : Items) → NotIntegers vs → integers_at r vs ≡ stop 20 r
unfolding integers_at
integers_not r none h = absurd h
integers_not r (more v vs) (inl e) = ap (λ (o : Option ℤ). bind (or_else 20 r o) (λ z. bind (integers_at r vs) (λ ws. give (more v ws)))) e
integers_not r (more v vs) (inr h) = go (integers_not r vs h) (as_integer v)
  where
    go : integers_at r vs ≡ stop 20 r → (o : Option ℤ) → bind (or_else 20 r o) (λ z. bind (integers_at r vs) (λ ws. give (more v ws))) ≡ stop 20 r
    go e absent = refl
    go e (some z) = ap (λ (t : Tree Items). bind t (λ ws. give (more v ws))) e
