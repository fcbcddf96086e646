-- Kinds 7 to 10: evaluating all operands and then enumerating them is the same as adding each as it comes, where the first 27 or 28 of the
-- building is remembered and given once all operands are evaluated.
use Rattle.std.specs.Prelude.{◌≡◌, refl, ℕ}
use Rattle.std.proofs.Math.Path.{ap}
use Rattle.std.proofs.Common.{◌∙◌}
use mathlib.Core.List.{List, [], ◌∷◌}
use Rattle.choices.specs.Tree.{Tree, give, bind}
use Rattle.choices.proofs.Trees.{bind_assoc, bind_cong}
use Rattle.values.specs.Value.{Kind, set, sequence, map, tuple, Value, Items, none, more}
use Rattle.operators.specs.Answer.{Built, built, stopped, closed}
use Rattle.operators.specs.Enumerations.{add_member, add_item, add_entry, build_on, add_members, add_items, add_entries, add_entries_at}
use Rattle.patterns.specs.Pattern.{Pattern}
use Rattle.meaning.specs.Node.{enumeration}
use Rattle.meaning.specs.State.{State}
use Rattle.meaning.specs.Meaning.{Evaluation, at, all_of, means}

-- ---- adding as they come

-- The record r, with the operands os still to come and b built: each is evaluated and added. What is stopped stays so to the end.
abbrev pub one_by_one : Kind → (Items → Value → Built) → Evaluation → ℕ → List ℕ → State → Built → Tree Value
one_by_one k add rec r [] ρ b = at r (closed k b)
one_by_one k add rec r (o ∷ os) ρ b = bind (rec o ρ) (λ v. one_by_one k add rec r os ρ (build_on b (λ us. add us v)))

-- Operands key, value, key, value: both of a pair are evaluated, then entered. (A map enumeration has no key without a value.)
abbrev pub pair_by_pair : Evaluation → ℕ → List ℕ → State → Built → Tree Value
pair_by_pair rec r [] ρ b = at r (closed map b)
pair_by_pair rec r (o ∷ []) ρ b = bind (rec o ρ) (λ key. at r (closed map b))
pair_by_pair rec r (o ∷ q ∷ os) ρ b = bind (rec o ρ) (λ key. bind (rec q ρ) (λ v. pair_by_pair rec r os ρ (build_on b (λ us. add_entry us key v))))

abbrev pub as_they_come : Kind → Evaluation → ℕ → List ℕ → State → Built → Tree Value
as_they_come set rec r os ρ b = one_by_one set add_member rec r os ρ b
as_they_come sequence rec r os ρ b = one_by_one sequence add_item rec r os ρ b
as_they_come map rec r os ρ b = pair_by_pair rec r os ρ b
as_they_come tuple rec r os ρ b = one_by_one tuple add_item rec r os ρ b

-- ---- it is the same

-- The values of the operands, one more and then what is done with all.
module _ (rec : Evaluation) (ρ : State) where
  all_more : (o : ℕ) (os : List ℕ) (f : Items → Tree Value) → bind (all_of rec (o ∷ os) ρ) f ≡ bind (rec o ρ) (λ v. bind (all_of rec os ρ) (λ vs. f (more v vs)))
  unfolding all_of
  all_more o os f =
      bind_assoc (rec o ρ) (λ v. bind (all_of rec os ρ) (λ vs. give (more v vs))) f
      ∙ bind_cong (rec o ρ) _ _ (λ v. bind_assoc (all_of rec os ρ) (λ vs. give (more v vs)) f)

-- Adding all, for a way to add one.
module _ (k : Kind) (add : Items → Value → Built) (all : Items → Items → Built) (All-none : (us : Items) → all us none ≡ built us) (all_one : (us : Items) (v : Value) (vs : Items) → all us (more v vs) ≡ build_on (add us v) (λ ws. all ws vs)) where
  onward_none : (b : Built) → build_on b (λ us. all us none) ≡ b
  onward_none (built us) = All-none us
  onward_none (stopped n) = refl

  onward_one : (b : Built) (v : Value) (vs : Items) → build_on b (λ us. all us (more v vs)) ≡ build_on (build_on b (λ us. add us v)) (λ us. all us vs)
  onward_one (built us) v vs = all_one us v vs
  onward_one (stopped n) v vs = refl

  one_by_one_lem : (rec : Evaluation) (r : ℕ) (os : List ℕ) (ρ : State) (b : Built) → bind (all_of rec os ρ) (λ vs. at r (closed k (build_on b (λ us. all us vs)))) ≡ one_by_one k add rec r os ρ b
  unfolding all_of
  one_by_one_lem rec r [] ρ b = ap (λ (x : Built). at r (closed k x)) (onward_none b)
  one_by_one_lem rec r (o ∷ os) ρ b =
      all_more rec ρ o os (λ vs. at r (closed k (build_on b (λ us. all us vs))))
      ∙ bind_cong (rec o ρ) _ _
      (λ v.
      bind_cong (all_of rec os ρ) _ _ (λ vs. ap (λ (x : Built). at r (closed k x)) (onward_one b v vs))
      ∙ one_by_one_lem rec r os ρ (build_on b (λ us. add us v)))

onward_entry : (b : Built) (key v : Value) (vs : Items) → build_on b (λ us. add_entries us (more key (more v vs))) ≡ build_on (build_on b (λ us. add_entry us key v)) (λ us. add_entries us vs)
unfolding add_entries add_entries_at
onward_entry (built us) key v vs = refl
onward_entry (stopped n) key v vs = refl

onward_key : (b : Built) (key : Value) → build_on b (λ us. add_entries us (more key none)) ≡ b
unfolding add_entries add_entries_at
onward_key (built us) key = refl
onward_key (stopped n) key = refl

onward_no_entry : (b : Built) → build_on b (λ us. add_entries us none) ≡ b
unfolding add_entries
onward_no_entry (built us) = refl
onward_no_entry (stopped n) = refl

pair_by_pair_lem : (rec : Evaluation) (r : ℕ) (os : List ℕ) (ρ : State) (b : Built) → bind (all_of rec os ρ) (λ vs. at r (closed map (build_on b (λ us. add_entries us vs)))) ≡ pair_by_pair rec r os ρ b
unfolding all_of
pair_by_pair_lem rec r [] ρ b = ap (λ (x : Built). at r (closed map x)) (onward_no_entry b)
pair_by_pair_lem rec r (o ∷ []) ρ b =
    all_more rec ρ o [] (λ vs. at r (closed map (build_on b (λ us. add_entries us vs))))
    ∙ bind_cong (rec o ρ) _ _ (λ key. ap (λ (x : Built). at r (closed map x)) (onward_key b key))
pair_by_pair_lem rec r (o ∷ q ∷ os) ρ b =
    all_more rec ρ o (q ∷ os) (λ vs. at r (closed map (build_on b (λ us. add_entries us vs))))
    ∙ bind_cong (rec o ρ) _ _
    (λ key.
    all_more rec ρ q os (λ vs. at r (closed map (build_on b (λ us. add_entries us (more key vs)))))
    ∙ bind_cong (rec q ρ) _ _
    (λ v.
    bind_cong (all_of rec os ρ) _ _ (λ vs. ap (λ (x : Built). at r (closed map x)) (onward_entry b key v vs))
    ∙ pair_by_pair_lem rec r os ρ (build_on b (λ us. add_entry us key v))))

-- THEOREM: an enumeration of each kind is its operands added as they come.
pub enumeration_is : (pattern : ℕ → Pattern) (rec : Evaluation) (r : ℕ) (k : Kind) (os : List ℕ) (ρ : State) → means pattern rec r (enumeration k os) ρ ≡ as_they_come k rec r os ρ (built none)
unfolding means add_members add_items
enumeration_is pattern rec r set os ρ = one_by_one_lem set add_member add_members (λ us. refl) (λ us v vs. refl) rec r os ρ (built none)
enumeration_is pattern rec r sequence os ρ = one_by_one_lem sequence add_item add_items (λ us. refl) (λ us v vs. refl) rec r os ρ (built none)
enumeration_is pattern rec r map os ρ = pair_by_pair_lem rec r os ρ (built none)
enumeration_is pattern rec r tuple os ρ = one_by_one_lem tuple add_item add_items (λ us. refl) (λ us v vs. refl) rec r os ρ (built none)
