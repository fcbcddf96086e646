-- Evaluating under a complete list answers 24 at r exactly when its run reaches the let-be r and no binding of it will do.
use Rattle.std.specs.Prelude.{◌≡◌, refl, Bool, true, ◌↔◌, ℕ, zero, suc, ◌≤◌, ◌<◌, length}
use Rattle.std.proofs.Common.{sym, ap, ◌∙◌, arith}
use Rattle.std.proofs.Math.Path.{subst}
use Rattle.std.proofs.Math.Option.{Option, none as absent, some}
use Rattle.std.proofs.Math.Logic.{⊎_elim}
use mathlib.Core.List.{List, [], ◌∷◌}
use Rattle.prelude.proofs.Absurd.{impossible}
use Rattle.prelude.specs.Membership.{In}
use Rattle.choices.specs.Tree.{Tree, give, bind, Gives, Run, gave, stopped, short, beyond, follow, run, most_choices}
use Rattle.choices.specs.Outcome.{value}
use Rattle.choices.specs.Lists.{Ended, Complete, run_outcome}
use Rattle.choices.proofs.Trees.{stopped_out, gave_out}
use Rattle.choices.proofs.Outcomes.{Given, follow_given}
use Rattle.choices.proofs.Walk.{final_of, stopped_number}
use Rattle.values.specs.Value.{Value, boolean, Items, value_limit as largest}
use Rattle.operators.specs.Answer.{as_boolean, as_set}
use Rattle.patterns.specs.Binding.{Binding}
use Rattle.patterns.specs.Pattern.{Pattern, list_of}
use Rattle.patterns.specs.Binder.{Formed, bound, refused as unformed, formed}
use Rattle.std.specs.Prelude.{Ok}
use Rattle.tables.specs.Check.{check}
use Rattle.meaning.specs.Node.{let_be}
use Rattle.meaning.specs.State.{State, unbound, under}
use Rattle.meaning.specs.Meaning.{Evaluation, or_else, is_true, formed_at, holds, satisfying, meaning}
use Rattle.meaning.specs.Read.{sheet}
use Rattle.meaning.specs.Answer.{pack, packed, uncounted}
use Rattle.meaning.specs.Service.{scratch_bytes, last, tree}
use Rattle.meaning.specs.Lent.{AfterEvaluate, evaluate_call}
use Rattle.meaning.specs.Reaches.{Point, point, evaluated, Reaches, start, onward}
use Rattle.meaning.specs.Demand.{LetBe, ConditionIs, Settled, NoBinding, Unsatisfied}
use Rattle.meaning.proofs.Laws.Proper.{downward}
use Rattle.meaning.proofs.Laws.Equation.{NodesLower, Downward, meaning_is}
use Rattle.meaning.proofs.Laws.Closed.{FormedSo, formed_number}
use Rattle.meaning.proofs.Laws.Sure.{placed_meaning, follow_placed, sure_meaning}
use Rattle.meaning.proofs.Laws.Conditions.{let_be_condition, leaf_gives}
use Rattle.meaning.proofs.Laws.Tested.{boolean_value, set_value}
use Rattle.meaning.proofs.Laws.LetBe.{NoneTrue, after_bindings, after_set, let_be_is, let_be_run}
use Rattle.meaning.proofs.Laws.Reaching.{Stops, Told, told_under_all, told_node}
use Rattle.meaning.proofs.Laws.Evaluating.{evaluating}

gives_leaf : (t : Tree Value) (v : Value) → t ≡ give v → Gives t (value v)
gives_leaf t v e = subst (λ x. Gives x (value v)) (sym e) refl

module _ (table : List ℕ) (n : ℕ) (ok : check table ≡ Ok n) where
  down : Downward (sheet table)
  down = downward table n ok

  abbrev rec : Evaluation
  rec a σ = meaning (sheet table) a σ

  -- ---- a let-be, in any state

  -- THEOREM: a let-be whose set operand gives a set, with bindings within the limits and a condition true or false at each, ends in 24 exactly when no
  -- binding matches a member of its set and makes its condition true.
  pub let_be_ends : (r p t c b : ℕ) (ρ : State) (k : ℕ) (l : List ℕ) (vs : Items) (j : ℕ) (m : List ℕ) → LetBe table r p t c b ρ k l vs j m → Settled table p c ρ vs
      → ((left : List ℕ) × (follow (meaning (sheet table) r ρ) k l ≡ stopped 24 r left)) ↔ NoBinding table p c ρ vs
  let_be_ends r p t c b ρ k l vs j m h w = (
    λ s v β i y z. by_leaf.0 s v β i y (leaf β true z),
    λ s. by_leaf.1 (λ v β i y z. s v β i y (gives_leaf (meaning (sheet table) c (under ρ β)) (boolean true) z)),
  )
    where
      -- The condition is one leaf, so what it comes to is all that it is.
      leaf : (β : Binding) (x : Bool) → ConditionIs table c ρ β x → meaning (sheet table) c (under ρ β) ≡ give (boolean x)
      leaf β x g = leaf_gives (meaning (sheet table) c (under ρ β)) (boolean x) (let_be_condition table n ok r p t c b h.is_let_be (under ρ β)) g

      by_leaf : ((left : List ℕ) × (follow (meaning (sheet table) r ρ) k l ≡ stopped 24 r left)) ↔ NoneTrue (meaning (sheet table)) ((sheet table).pattern p) c ρ vs
      by_leaf =
          let_be_run (sheet table) down r p t c b h.is_let_be ρ k l vs j m h.given w.all w.within
          (λ β i. ((w.decided β i).0, leaf β (w.decided β i).0 (w.decided β i).1))

  -- ---- a let-be that ends in 24

  -- A lower record does not end in a refusal at r.
  not_there : (a r : ℕ) (ρ : State) (k : ℕ) (l : List ℕ) (i : ℕ) (m : List ℕ) → a < r → follow (rec a ρ) k l ≡ stopped i r m → ⊥
  not_there a r ρ k l i m h e = let g = follow_placed a (rec a ρ) k l i r m (placed_meaning (sheet table) down a ρ) e in absurd (omega arith)

  module _ (r p t c b : ℕ) (is : (sheet table).node r ≡ let_be p t c b) (ρ : State) where
    -- The condition is true or false where it is tested, and so under every binding where all were tested.
    tested_one : (β : Binding) (x : Bool) (k : ℕ) (l : List ℕ) (j : ℕ) (m : List ℕ) → follow (holds rec r c ρ β) k l ≡ gave x j m → (y : Bool) × ConditionIs table c ρ β y
    tested_one β x k l j m e =
        let w = gave_out (rec c (under ρ β)) (λ v. is_true r v) k l x j m e in
        go w.0 w.1 w.2 (as_boolean w.0) refl (subst (Given (rec c (under ρ β))) w.3 (follow_given (rec c (under ρ β)) k l)) w.4
      where
        go : (v : Value) (i : ℕ) (o : List ℕ) (z : Option Bool) → as_boolean v ≡ z → Gives (rec c (under ρ β)) (value v) → follow (or_else 20 r z) i o ≡ gave x j m → (y : Bool) × ConditionIs table c ρ β y
        go v i o absent d g f = impossible cc
        go v i o (some y) d g f = (y, subst (λ u. Gives (rec c (under ρ β)) (value u)) ((boolean_value v y).0 d) g)

    tested_all : (bs : List Binding) (k : ℕ) (l : List ℕ) (sat : List Binding) (j : ℕ) (m : List ℕ) → follow (satisfying rec r c ρ bs) k l ≡ gave sat j m → (β : Binding) → In β bs → (y : Bool) × ConditionIs table c ρ β y
    unfolding satisfying
    tested_all [] k l sat j m e β i = absurd i
    tested_all (γ ∷ bs) k l sat j m e β i =
        let w = gave_out (holds rec r c ρ γ) _ k l sat j m e in
        let v = gave_out (satisfying rec r c ρ bs) _ w.1 w.2 sat j m w.4 in
        ⊎_elim
        (λ d. subst (λ δ. (y : Bool) × ConditionIs table c ρ δ y) (sym d) (tested_one γ w.0 k l w.1 w.2 w.3))
        (λ h. tested_all bs w.1 w.2 v.0 v.1 v.2 v.3 β h) i

    condition_lower : c < r
    condition_lower = (subst (λ n. NodesLower r n) is (down r)).covered_ones.0

    set_lower : t < r
    set_lower = (subst (λ n. NodesLower r n) is (down r)).plain_ones.0

    -- The conditions do not end in 24 at r.
    tests_not_24 : (bs : List Binding) (k : ℕ) (l m : List ℕ) → follow (satisfying rec r c ρ bs) k l ≡ stopped 24 r m → ⊥
    tests_not_24 bs k l m e =
        let told = told_under_all (sheet table) r (λ q. ⊥) c ρ bs condition_lower in
        ⊎_elim
        (λ w. not_there w.0.at r w.0.state w.0.allowed w.0.entries 24 m (told.lower k l w.0 w.1) w.2)
        (λ z. z) (told.comes k l r m e)

    abbrev P : Pattern
    P = (sheet table).pattern p

    -- What stands where it ends in 24.
    record Stands (k : ℕ) (l : List ℕ) : Type 0 where
      vs : Items
      j : ℕ
      m : List ℕ
      letting : LetBe table r p t c b ρ k l vs j m
      settled : Settled table p c ρ vs

    stands : (k : ℕ) (l left : List ℕ) → follow (rec r ρ) k l ≡ stopped 24 r left → Stands k l
    stands k l left e =
        ⊎_elim
        (λ d. absurd (not_there t r ρ k l 24 left set_lower d))
        (λ w. members w.0 w.1 w.2 w.3 (as_set w.0) refl w.4)
        (stopped_out (rec t ρ) (λ v. after_set rec r P c b ρ v) k l 24 r left (ap (λ u. follow u k l) (sym (let_be_is (sheet table) down r p t c b is ρ)) ∙ e))
      where
        bindings : (v : Value) (j : ℕ) (m : List ℕ) → follow (rec t ρ) k l ≡ gave v j m → (vs : Items) → as_set v ≡ some vs → (x : Formed) → formed P (list_of vs) ≡ x → FormedSo x
            → follow (bind (formed_at r x) (λ bs. after_bindings rec r c b ρ bs)) j m ≡ stopped 24 r left → Stands k l
        bindings v j m g vs a (unformed i) d h f = let z : i ≡ 24 = cc in absurd (h.2 z)
        bindings v j m g vs a (bound bs) d h f =
            record {
              vs = vs;
              j = j;
              m = m;
              letting = record { is_let_be = is; given = g ∙ ap (λ u. gave u j m) ((set_value v vs).0 a) };
              settled =
                  record {
                    all = bs;
                    within = d;
                    decided = ⊎_elim (λ e. absurd (tests_not_24 bs j m left e)) (λ w. tested_all bs j m w.0 w.1 w.2 w.3) (stopped_out (satisfying rec r c ρ bs) _ j m 24 r left f);
                  };
            }

        members : (v : Value) (j : ℕ) (m : List ℕ) → follow (rec t ρ) k l ≡ gave v j m → (o : Option Items) → as_set v ≡ o
            → follow (bind (or_else 20 r o) (λ vs. bind (formed_at r (formed P (list_of vs))) (λ bs. after_bindings rec r c b ρ bs))) j m ≡ stopped 24 r left → Stands k l
        members v j m g absent a f = let z : ◌≡◌ {A = ℕ} 20 24 = cc in absurd (omega arith)
        members v j m g (some vs) a f = bindings v j m g vs a (formed P (list_of vs)) refl (formed_number P (list_of vs)) f

  -- ---- a run

  module _ (list : List ℕ) where
    told_point : (Own : ℕ → Type 0) (x : Point) → ((p t c b : ℕ) → (sheet table).node x.at ≡ let_be p t c b → Own x.at)
        → Told (sheet table) x.at Own (evaluated (sheet table) x.at ((sheet table).node x.at) x.state) (meaning (sheet table) x.at x.state)
    told_point Own x own =
        subst (λ u. Told (sheet table) x.at Own (evaluated (sheet table) x.at ((sheet table).node x.at) x.state) u) (sym (meaning_is (sheet table) down x.at x.state))
        (told_node (sheet table) x.at Own ((sheet table).node x.at) own (down x.at) x.state)

    -- THEOREM: a refusal of a record that a run reaches is the run's.
    pub reached_ends : (x : Point) → Reaches table list x → (i p : ℕ) (m : List ℕ) → Stops (sheet table) x i p m → run (tree table) list ≡ stopped i p m
    reached_ends x start i p m e = e
    reached_ends y (onward {x = x} h w) i p m e =
        reached_ends x h i p m ((told_point (λ q. Unit {0}) x (λ p t c b d. tt)).ends x.allowed x.entries y w i p m e)

    -- A let-be at q that the run reaches, and at which it ends in 24.
    record Found (q : ℕ) (left : List ℕ) : Type 0 where
      p : ℕ
      t : ℕ
      c : ℕ
      b : ℕ
      is : (sheet table).node q ≡ let_be p t c b
      ρ : State
      k : ℕ
      l : List ℕ
      reached : Reaches table list (point q ρ k l)
      ends : Stops (sheet table) (point q ρ k l) 24 q left

    -- The record r is q, which is a let-be.
    record Own (r q : ℕ) : Type 0 where
      same : r ≡ q
      p : ℕ
      t : ℕ
      c : ℕ
      b : ℕ
      is : (sheet table).node q ≡ let_be p t c b

    find : (f : ℕ) (x : Point) → x.at < f → Reaches table list x → (q : ℕ) (left : List ℕ) → Stops (sheet table) x 24 q left → Found q left
    find zero x h g q left e = absurd (omega arith)
    find (suc f) x h g q left e =
        let told = told_point (λ q. Own x.at q) x (λ p t c b d. record { same = refl; p = p; t = t; c = c; b = b; is = d }) in
        ⊎_elim
        (λ w. let low = told.lower x.allowed x.entries w.0 w.1 in find f w.0 (omega arith) (onward g w.1) q left w.2)
        (λ o.
        record {
          p = o.p;
          t = o.t;
          c = o.c;
          b = o.b;
          is = o.is;
          ρ = x.state;
          k = x.allowed;
          l = x.entries;
          reached = subst (λ a. Reaches table list (point a x.state x.allowed x.entries)) o.same g;
          ends = subst (λ a. Stops (sheet table) (point a x.state x.allowed x.entries) 24 q left) o.same e;
        })
        (told.comes x.allowed x.entries q left e)

    -- A run that ends in 24 at r has reached the let-be r, and no binding of it will do.
    unsatisfied : (r : ℕ) (left : List ℕ) → run (tree table) list ≡ stopped 24 r left → Unsatisfied table list r
    unsatisfied r left e =
        let f = find (suc (last (sheet table))) (point (last (sheet table)) unbound most_choices list) (omega arith) start r left e in
        let s = stands r f.p f.t f.c f.b f.is f.ρ f.k f.l left f.ends in
        record {
          pattern = f.p;
          set_operand = f.t;
          condition = f.c;
          body = f.b;
          state = f.ρ;
          allowed = f.k;
          entries = f.l;
          reached = f.reached;
          members = s.vs;
          allowed_after = s.j;
          entries_after = s.m;
          is_let_be = s.letting;
          settled = s.settled;
          none = (let_be_ends r f.p f.t f.c f.b f.ρ f.k f.l s.vs s.j s.m s.letting s.settled).0 (left, f.ends);
        }

    unsatisfied_ends : (r : ℕ) → Unsatisfied table list r → (left : List ℕ) × (run (tree table) list ≡ stopped 24 r left)
    unsatisfied_ends r u =
        let (left, e) =
        (let_be_ends r u.pattern u.set_operand u.condition u.body u.state u.allowed u.entries u.members u.allowed_after u.entries_after u.is_let_be u.settled).1 u.none in
        (left, reached_ends (point r u.state u.allowed u.entries) u.reached 24 r left e)

  -- ---- the exported call

  module _ (scratch buffer : List ℕ) (enough : scratch_bytes ≤ length scratch) (room : largest ≤ length buffer) (l : List ℕ) (complete : Complete (tree table) l) (r : ℕ) where
    answer_is : (evaluate_call table l scratch buffer).answer ≡ packed uncounted (final_of (run_outcome (run (tree table) l)))
    answer_is = ap (λ (a : AfterEvaluate). a.answer) (evaluating table n ok scratch buffer enough room l complete)

    ends_24 : (x : Run Value) → run (tree table) l ≡ x → Ended x → packed uncounted (final_of (run_outcome x)) ≡ pack 24 r 0 → run (tree table) l ≡ stopped 24 r []
    ends_24 (gave v k m) e h d = absurd (omega (arith, d))
    ends_24 (stopped i p m) e h d =
        let b = stopped_number (tree table) most_choices l i p m (sure_meaning (sheet table) (last (sheet table)) unbound).numbered e in
        let y : i ≡ 24 = omega (arith, d, b.1) in
        let z : p ≡ r = omega (arith, d, b.1) in
        e ∙ (λ u. stopped (y u) (z u) (h u))
    ends_24 (short p i) e h d = absurd h
    ends_24 (beyond p i m) e h d = absurd h

    -- THEOREM: evaluating answers 24 at r exactly when the run reaches the let-be r and no binding of it will do.
    pub no_binding : ((evaluate_call table l scratch buffer).answer ≡ pack 24 r 0) ↔ Unsatisfied table l r
    no_binding = (
      λ e. unsatisfied l r [] (ends_24 (run (tree table) l) refl complete (sym answer_is ∙ e)),
      λ u. let (left, e) = unsatisfied_ends l r u in answer_is ∙ ap (λ (x : Run Value). packed uncounted (final_of (run_outcome x))) e,
    )
