-- What evaluating answers under the complete lists of bytes, against the loose meaning.
use Rattle.std.specs.Prelude.{◌≡◌, refl, Bool, true, false, cond, cond as choosing, ◌↔◌, List, [], ◌∷◌, ◌++◌, ℕ, zero, suc, ◌-◌, ◌≤◌, ◌<◌, ltb, eqb, length, drop, replicate}
use Rattle.std.proofs.Common.{sym, ap, ◌∙◌, subst, append_assoc, arith, ltb-true, ne_eqb}
use Rattle.prelude.proofs.Absurd.{impossible}
use Rattle.prelude.proofs.Truth.{or_false_both}
use Rattle.choices.specs.Tree.{Tree, give, stop, choose, Numbered, stopped, beyond, follow, run, most_choices, refuses, final, Gives}
use Rattle.choices.specs.Outcome.{Outcome, value, refusal}
use Rattle.choices.specs.Lists.{run_outcome}
use Rattle.choices.proofs.Leaves.{NoMany as NoManyAtAll}
use Rattle.choices.proofs.Trees.{numbered_gives}
use Rattle.choices.proofs.Walk.{final_of}
use Rattle.choices.proofs.Outcomes.{gives_reached}
use Rattle.values.specs.Value.{Value, encode, WellFormed, value_limit as largest}
use Rattle.values.proofs.Encoding.{value_of, value_back}
use Rattle.std.specs.Prelude.{Ok}
use Rattle.tables.specs.Check.{check}
use Rattle.meaning.specs.State.{unbound}
use Rattle.meaning.specs.Loose.{loose_meaning}
use Rattle.meaning.specs.Read.{sheet}
use Rattle.meaning.specs.Answer.{pack, packed, uncounted, number_part}
use Rattle.meaning.specs.Walk.{Bytes}
use Rattle.meaning.specs.Service.{scratch_bytes, last, tree, evaluates}
use Rattle.meaning.specs.Lent.{filled_up, zeroed, after_evaluate}
use Rattle.meaning.specs.Demand.{EvaluatesTo, Reached, NeverMany}
use Rattle.meaning.proofs.Agreement.{agreement}
use Rattle.meaning.proofs.Laws.Sure.{Narrow, sure_meaning, Bytes as NarrowBytes, complete_bytes}
use Rattle.meaning.proofs.Laws.WellFormed.{tree_well_formed}
use Rattle.meaning.proofs.Laws.Services.{evaluates_run}
use Rattle.meaning.proofs.Laws.Evaluating.{evaluating}

-- ---- bytes

-- The entries of a complete list are bytes.
bytes_of : (l : List ℕ) → NarrowBytes l → Bytes l
bytes_of [] h = tt
bytes_of (c ∷ l) h = (omega (arith, h.0), bytes_of l h.1)

-- A list of no more entries than choices are allowed, whose run meets one choice too many: they are bytes, and all were taken.
record Taken (l left : List ℕ) : Type 0 where
  bytes : Bytes l
  all : left ≡ []

many_taken : {A : Type 0} (t : Tree A) (k : ℕ) (l : List ℕ) (p : ℕ) (left : List ℕ) → Numbered t → Narrow t → length l ≤ k → follow t k l ≡ stopped 31 p left → Taken l left
many_taken (give a) k l p left m w h e = impossible cc
many_taken (stop n q) k l p left m w h e = let d : n ≡ 31 = cc in absurd (omega (arith, m.1))
many_taken (choose q n ways) zero [] p left m w h e = let d : [] ≡ left = cc in record { bytes = tt; all = sym d }
many_taken (choose q n ways) zero (c ∷ l) p left m w h e = absurd (omega arith)
many_taken (choose q n ways) (suc k) [] p left m w h e = impossible cc
many_taken (choose q n ways) (suc k) (c ∷ l) p left m w h e = go (ltb c n) refl e (λ i f. many_taken (ways c) k l p left (m c i) (w.1 c i) (omega arith) f)
  where
    go : (b : Bool) → ltb c n ≡ b → cond b (follow (ways c) k l) (beyond q n (c ∷ l)) ≡ stopped 31 p left → (c < n → follow (ways c) k l ≡ stopped 31 p left → Taken l left) → Taken (c ∷ l) left
    go true d f rest = let i = ltb-true c n d in let x = rest i f in record { bytes = (omega (arith, w.0), x.bytes); all = x.all }
    go false d f rest = impossible cc

-- ---- what evaluating answers

-- The value is read back from the result buffer.
buffer_value : (v w : Value) (buffer : List ℕ) → WellFormed v → WellFormed w → filled_up largest (encode v) buffer ≡ filled_up largest (encode w) buffer → v ≡ w
unfolding filled_up
buffer_value v w buffer f g e =
    sym (back v f) ∙ ap (value_of largest) e ∙ back w g
  where
    back : (x : Value) → WellFormed x → value_of largest ((encode x ++ replicate (largest - length (encode x)) 0) ++ drop largest buffer) ≡ x
    back x h =
        ap (value_of largest) (append_assoc (encode x) (replicate (largest - length (encode x)) 0) (drop largest buffer))
        ∙ value_back x largest (replicate (largest - length (encode x)) 0 ++ drop largest buffer) h.sound h.short

-- An outcome of document 01.
abbrev Proper : Outcome Value → Type 0
Proper (value v) = WellFormed v
Proper (refusal n p) = (20 ≤ n) × (n ≤ 31)

-- Evaluating that comes to the outcome x answers x and no other.
module _ (scratch buffer : List ℕ) where
  answers_one : (x o : Outcome Value) → Proper x → EvaluatesTo buffer (after_evaluate (final_of x) scratch buffer) o → o ≡ x
  answers_one (value v) (value w) f (g, a, b) = ap value (buffer_value w v buffer g f (sym b))
  answers_one (value v) (refusal n p) f (l, m, a, b) = absurd (omega (arith, a))
  answers_one (refusal n p) (value w) f (g, a, b) = absurd (omega (arith, a, f.0))
  answers_one (refusal n p) (refusal m q) f (l, u, a, b) =
      let d : m ≡ n = omega (arith, a, f.1) in
      let e : q ≡ p = omega (arith, a, f.1) in
      ap (λ x. refusal x q) d ∙ ap (λ x. refusal n x) e

  answers_so : (o : Outcome Value) → Proper o → ((n p : ℕ) → o ≡ refusal n p → n ≤ 30) → EvaluatesTo buffer (after_evaluate (final_of o) scratch buffer) o
  answers_so (value v) f h = (f, refl, refl)
  answers_so (refusal n p) f h = (
    f.0,
    h n p refl,
    refl,
    ap (λ b. choosing b buffer (zeroed largest buffer)) (or_false_both (eqb n 1) (eqb n 2) (ne_eqb n 1 (λ e. omega (arith, f.0))) (ne_eqb n 2 (λ e. omega (arith, f.0)))),
  )

-- ---- an accepted table

module _ (table : List ℕ) (n : ℕ) (ok : check table ≡ Ok n) where
  -- What the tree gives is an outcome of document 01.
  proper : (o : Outcome Value) → Gives (tree table) o → Proper o × ((m p : ℕ) → o ≡ refusal m p → m ≤ 30)
  proper (value v) g = (tree_well_formed table n ok v g, λ m p e. impossible cc)
  proper (refusal m p) g =
      let r = numbered_gives (tree table) m p (sure_meaning (sheet table) (last (sheet table)) unbound).numbered g in
      ((r.0, omega (arith, r.1)), λ i q e. let d : m ≡ i = cc in omega (arith, r.1))

  module _ (scratch buffer : List ℕ) (enough : scratch_bytes ≤ length scratch) (room : largest ≤ length buffer) (no : NeverMany table scratch buffer) where
    -- Evaluating ends in 31 where a run does, so none does.
    no_many : NoManyAtAll (tree table)
    no_many l p left within e =
        let sure = sure_meaning (sheet table) (last (sheet table)) unbound in
        let x = many_taken (tree table) most_choices l p left sure.numbered sure.narrow within e in
        let a : evaluates (length scratch) (length buffer) table l ≡ refuses 31 p 0 =
        evaluates_run table (length scratch) enough n ok (length buffer) l room within ∙ ap (final (last (sheet table))) (e ∙ ap (stopped 31 p) x.all) in
        no l x.bytes within (ap (λ f. number_part (packed uncounted f)) a ∙ (let z : number_part (pack 31 p 0) ≡ 31 = omega arith in z))

    -- THEOREM: some complete list of bytes evaluates to an outcome exactly when the loose meaning of the last record has it.
    pub outcomes : (o : Outcome Value) → Reached table scratch buffer o ↔ loose_meaning (sheet table) (last (sheet table)) unbound o
    outcomes o = (
      λ w.
          let x = run_outcome (run (tree table) w.list) in
          let g : Gives (tree table) x = (gives_reached (tree table) x no_many).1 (w.list, w.complete, refl) in
          let a = subst (λ e. EvaluatesTo buffer e o) (evaluating table n ok scratch buffer enough room w.list w.complete) w.answers in
          (agreement (sheet table) (last (sheet table)) unbound o).0 (subst (Gives (tree table)) (sym (answers_one scratch buffer x o (proper x g).0 a)) g),
      λ h.
          let g = (agreement (sheet table) (last (sheet table)) unbound o).1 h in
          let (l, c, e) = (gives_reached (tree table) o no_many).0 g in
          record {
            list = l;
            bytes = bytes_of l (complete_bytes (sheet table) (last (sheet table)) unbound l c);
            complete = c;
            answers = subst (λ x. EvaluatesTo buffer x o) (sym (evaluating table n ok scratch buffer enough room l c ∙ ap (λ y. after_evaluate (final_of y) scratch buffer) (sym e))) (answers_so scratch buffer o (proper o g).0 (proper o g).1);
          },
    )
