-- What a run tells of its list: an outcome for each final answer, and the value at the start of the scratch.
use mathlib.Core.Path.{◌≡◌, refl, sym, ap, ◌∙◌, subst}
use mathlib.Core.Bool.{Bool, true, false, cond}
use mathlib.Core.List.{List, [], ◌∷◌}
use Prim.Native.Nat.{ℕ}
use lib.Dec.{ltb}
use borrow.Author.Tests.{ltb-true, ltb-false}
use Rattle.prelude.proofs.Absurd.{impossible}
use Rattle.choices.specs.State.{Choices, View, view, Invariant, Made}
use Rattle.choices.specs.Tree.{Tree, Final, result, refuses, unless_left}
use Rattle.choices.specs.Runs.{Came, settle, ended_by}
use Rattle.choices.proofs.Came.{came_final, settled_value, settled_value_left, settled_refusal, settled_refusal_left, settled_list}
use Rattle.values.specs.Value.{Value}
use Rattle.values.specs.Place.{At}
use Rattle.std.specs.Prelude.{Ok, Err}
use Rattle.meaning.specs.State.{unbound}
use Rattle.meaning.specs.Read.{sheet}
use Rattle.meaning.proofs.Laws.Sure.{Sure, sure_meaning}
use Rattle.meaning.specs.Service.{tree, last, runs}
use Rattle.prelude.specs.declared.Refusal.TheVariants.{EntriesLeft}
use Rattle.prelude.specs.Refusals.{number_of}
use Rattle.evaluator.specs.declared.Refused.{Refused}
use Rattle.evaluator.specs.Contract.{Ended, Evaluated, Comes, gave, off, ended, refusal_at}
use Rattle.walks.specs.Steps.{told, valueless, is_of_sheet, left_over, settled, Ran}

pub sure_tree : (table : List ℕ) → Sure (tree table)
sure_tree table = sure_meaning (sheet table) (last (sheet table)) unbound

-- ---- the code's answers by cases

-- A list is complete whose run ended in a value or 20 to 31.
abbrev pub is_whole : Ended → Bool
is_whole (Ok u) = true
is_whole (Err e) = is_of_sheet e.refusal

module _ (o : Ended) (d : Choices) (last : ℕ) where
  pub settled_all : ltb d.used d.len ≡ false → o ≡ settled o d last
  settled_all h = sym (ap (λ b. cond b (left_over o last) o) h)

  pub settled_left : ltb d.used d.len ≡ true → settled o d last ≡ left_over o last
  settled_left h = ap (λ b. cond b (left_over o last) o) h

-- ---- settling as the definitions have it

module _ (d : Choices) (s : Invariant d) (last : ℕ) where
  refused_as : (e : Refused) (b : Bool) → ltb d.used d.len ≡ b → told (cond b (left_over (Err e) last) (Err e)) ≡ valueless (settle {A = Value} last (ended_by (refuses (number_of e.refusal) e.place e.count) (view d)))
  refused_as e b h = go (is_of_sheet e.refusal) refl b h
    where
      go : (low : Bool) → is_of_sheet e.refusal ≡ low → (b : Bool) → ltb d.used d.len ≡ b → told (cond b (left_over (Err e) last) (Err e)) ≡ valueless (settle {A = Value} last (ended_by (refuses (number_of e.refusal) e.place e.count) (view d)))
      go true l true h = ap (λ x. told (cond x (Err (refusal_at EntriesLeft e.place)) (Err e))) l ∙ ap valueless (sym (settled_refusal_left last d s (number_of e.refusal) e.place e.count (ltb-true (number_of e.refusal) 32 l) (ltb-true d.used d.len h)))
      go true l false h = ap valueless (sym (settled_refusal last d s (number_of e.refusal) e.place e.count (ltb-true (number_of e.refusal) 32 l) (ltb-false d.used d.len h)))
      go false l true h = ap (λ x. told (cond x (Err (refusal_at EntriesLeft e.place)) (Err e))) l ∙ ap valueless (sym (settled_list last d s (number_of e.refusal) e.place e.count (ltb-false (number_of e.refusal) 32 l)))
      go false l false h = ap valueless (sym (settled_list last d s (number_of e.refusal) e.place e.count (ltb-false (number_of e.refusal) 32 l)))

  settled_as : (o : Ended) (f : Final Value) → told o ≡ valueless f → (b : Bool) → ltb d.used d.len ≡ b → told (cond b (left_over o last) o) ≡ valueless (settle last (ended_by f (view d)))
  settled_as (Ok u) (result a) q true h = ap valueless (sym (settled_value_left last d s a (ltb-true d.used d.len h)))
  settled_as (Ok u) (result a) q false h = ap valueless (sym (settled_value last d s a (ltb-false d.used d.len h)))
  settled_as (Ok u) (refuses n p k) q b h = impossible cc
  settled_as (Err e) (result a) q b h = impossible cc
  settled_as (Err e) (refuses n p k) q b h =
      let i : number_of e.refusal ≡ n = cc in
      let j : e.place ≡ p = cc in
      let l : e.count ≡ k = cc in
      subst (λ (f : Final Value). told (cond b (left_over (Err e) last) (Err e)) ≡ valueless (settle last (ended_by f (view d)))) (λ x. refuses (i x) (j x) (l x)) (refused_as e b h)

-- A refusal is not settled as a value.
unless_refusal : {A : Type 0} (l : List ℕ) (p n q k : ℕ) (a : A) → unless_left l p (refuses n q k) ≡ result a → ⊥
unless_refusal [] p n q k a e = impossible cc
unless_refusal (c ∷ l) p n q k a e = impossible cc

settle_refusal : (last n p k : ℕ) (v : View) (a : Value) → settle last (ended_by (refuses n p k) v) ≡ result a → ⊥
settle_refusal last n p k v a e = go (ltb n 32) e
  where
    go : (b : Bool) → cond b (unless_left v.left p (refuses n p k)) (refuses n p k) ≡ result a → ⊥
    go true h = unless_refusal v.left p n p k a h
    go false h = impossible cc

unless_value : {A : Type 0} (l : List ℕ) (p : ℕ) (a b : A) → unless_left l p (result a) ≡ result b → a ≡ b
unless_value [] p a b e = cc
unless_value (c ∷ l) p a b e = impossible cc

-- ---- a run under a list

-- The choices after a run are in order.
pub comes_sound : {A : Type 0} {t : Tree A} {P : A → Type 0} {c : Choices} {e : Evaluated} → Comes t P c e → Invariant e.choices
comes_sound (gave q p h) = h.sound
comes_sound (off q h) = h.sound

-- What a run came to, as a final answer.
pub record Arrived (table : List ℕ) (c : Choices) (o : Ended) (d : Choices) (t : List ℕ) : Type 0 where
  pub final : Final Value
  pub outcome : told o ≡ valueless final
  pub came : Came (tree table) c final d
  pub value : (v : Value) → final ≡ result v → At t 0 v

pub arrived : (table : List ℕ) (c : Choices) (o : Ended) (d : Choices) (t : List ℕ) → Comes (tree table) (At t 0) c (ended o d) → Arrived table c o d t
arrived table c o d t (gave {a} e p h) = record { final = result a; outcome = ap told e; came = h; value = λ v q. subst (At t 0) (value-is v q) p }
  where
    value-is : (v : Value) → ◌≡◌ {A = Final Value} (result a) (result v) → a ≡ v
    value-is v q = cc
arrived table c o d t (off {x} e h) = record { final = refuses (number_of x.refusal) x.place x.count; outcome = ap told e; came = h; value = λ v q. impossible cc }

module _ (table l : List ℕ) (c : Choices) (o : Ended) (d : Choices) (t : List ℕ) (made : Made l false c) (a : Arrived table c o d t) where
  settled_runs : settle (last (sheet table)) (ended_by a.final (view d)) ≡ runs table l
  settled_runs = came_final (tree table) a.came l (last (sheet table)) (sure_tree table).numbered made

  pub ran : (r : Ended) → r ≡ settled o d (last (sheet table)) → Ran table l t r
  ran r e =
      record {
        outcome =
            ap told e
            ∙ settled_as d a.came.sound (last (sheet table)) o a.final a.outcome (ltb d.used d.len) refl
            ∙ ap valueless settled_runs;
        value = λ v q. go a.final a.value (settled_runs ∙ q);
      }
    where
      go : (f : Final Value) → ((v : Value) → f ≡ result v → At t 0 v) → {v : Value} → settle (last (sheet table)) (ended_by f (view d)) ≡ result v → At t 0 v
      go (result x) h {v} q = h v (ap result (unless_value (view d).left (last (sheet table)) x v q))
      go (refuses n p k) h {v} q = absurd (settle_refusal (last (sheet table)) n p k (view d) v q)
