-- A binder's record in an accepted table: from its kind to its node, and from that to what is said of its bindings.
use Rattle.std.specs.Prelude.{◌≡◌, refl, Bool, ◌⊎◌, ◌↔◌, ℕ, ◌-◌, ◌<◌, length}
use Rattle.std.proofs.Common.{sym, ◌∙◌, arith, get_or-set_same}
use Rattle.std.proofs.Math.Path.{ap, subst}
use Rattle.std.proofs.Math.Bool.{true, false}
use Rattle.std.proofs.Math.Option.{some}
use Rattle.std.proofs.Math.Logic.{inl, inr, ⊎_elim}
use Rattle.std.proofs.Math.Logic.Iff
use mathlib.Core.List.{List, [], ◌∷◌, ◌++◌, map as lmap}
use Rattle.std.proofs.Math.ListN.{get_or, get_or-eq_default}
use borrow.Author.Tests.{eqb-true, leb-true}
use Rattle.prelude.specs.Membership.{In}
use Rattle.prelude.proofs.Membership.{in_one, in_left, in_right, in_joined}
use Rattle.choices.specs.Outcome.{value}
use Rattle.values.specs.Value.{Kind, set, sequence, map, Value, boolean, collection, Items, none, more, PairedFrom, Paired}
use Rattle.values.specs.Items.{lookup}
use Rattle.operators.specs.Answer.{is, Built, built, stopped, closed}
use Rattle.operators.specs.Enumerations.{add_member, add_item, add_entry, build_on, add_members, add_items, add_entries, add_entries_at}
use Rattle.patterns.specs.Binding.{is as valued, free, Binding, names, nothing, only}
use Rattle.patterns.proofs.Laws.Ordered.{Rising, sorted_rising}
use Rattle.patterns.specs.Ways.{gather}
use Rattle.patterns.specs.Pattern.{Pattern, name, any, list_of, items_of, matches}
use Rattle.patterns.specs.Relation.{Matches}
use Rattle.patterns.specs.Binder.{bound, formed}
use Rattle.patterns.proofs.Laws.Matched.{bindings_exactly}
use Rattle.patterns.proofs.Laws.Forming.{formed_bound}
use Rattle.tables.specs.declared.Role.{Role}
use Rattle.tables.specs.declared.Role.TheVariants.{Plain, Name}
use Rattle.std.specs.Prelude.{Ok}
use Rattle.tables.specs.Record.{Record, shape, head_of, is_known, name_of, named as operands_of, role_at}
use Rattle.tables.specs.Table.{no_record, record_at, kind_at}
use Rattle.tables.specs.Check.{check, is_of_sort}
use Rattle.prelude.proofs.Truth.{by_lower}
use Rattle.tables.specs.Accepted.{records, Fine}
use Rattle.tables.proofs.Laws.Accepted.{accepted_fine, operand_lower, operand_sort, fit_known, fit_least, named_count}
use Rattle.patterns.specs.Read.{patterns, pattern_at}
use Rattle.meaning.specs.Node.{Node, Quantifier, forall, exists, exists1, quantified}
use Rattle.meaning.specs.State.{State, under, held_value, value_in}
use Rattle.meaning.specs.Read.{nodes, node_of, none as no_node, sheet}
use Rattle.meaning.specs.Loose.{Outcomes, ◌then◌, gives, bindings_of, integer_bindings, built_at, holds, satisfying, quantify, unique, add_one, add_pair, comprehension, loose_of, loose_meaning}
use Rattle.meaning.specs.Kinds.{Binders, Comprehensions, Added, Integers, May, operand_of, name_in, Condition, Element, Over, MembersAre, EntriesAre, kind_in, Maplet}
use Rattle.meaning.proofs.Laws.Agreement.{loose_meaning_is}
use Rattle.meaning.proofs.Laws.Proper.{downward}
use Rattle.meaning.proofs.Laws.PatternLaws.{pattern_is}
use Rattle.choices.proofs.Trees.{value≢refusal}
use Rattle.meaning.proofs.Laws.Tested.{then_value, else_value, built_value, bindings_value, integer_bindings_value, tested_value, satisfying_one, collected_value, until_false_true, until_false_false, until_true_true, until_true_false, unique_true, unique_false, first-map, one_map, several_map, added_map}
use Rattle.meaning.proofs.Laws.Collected.{PairedIn, set_holds, sequence_holds, map_holds, added_sound, added_whole}

-- ---- from a record to its node

-- A record of a kind from 1 up is in the table.
pub in_table : (table : List ℕ) (r k : ℕ) → kind_in table r ≡ k → 0 < k → r < length (records table)
in_table table r k e h =
    by_lower r (length (records table)) (λ l. l)
    (λ l. let z : 0 ≡ k = ap (λ (q : Record). q.kind) (sym (get_or-eq_default (records table) no_record l)) ∙ e in absurd (omega arith))

module _ (table : List ℕ) (n : ℕ) (ok : check table ≡ Ok n) (r : ℕ) (ρ : State) where
  abbrev rec : ℕ → State → Outcomes Value
  rec a σ = loose_meaning (sheet table) a σ

  abbrev P : Pattern
  P = pattern_at (records table) (operand_of table r 0)

  said : (m : Node) → (sheet table).node r ≡ m → (v : Value) → May table r ρ v ↔ loose_of (sheet table).pattern rec r m ρ (value v)
  said m e v = subst (λ (x : Node). May table r ρ v ↔ loose_of (sheet table).pattern rec r x ρ (value v)) e (loose_meaning_is (sheet table) (downward table n ok) r ρ (value v))

  node_is : (k : ℕ) → kind_in table r ≡ k → (sheet table).node r ≡ get_or nodes k no_node (record_at (records table) r)
  unfolding node_of
  node_is k e = ap (λ (m : ℕ). get_or nodes m no_node (record_at (records table) r)) e

  rising : (vs : Items) (bs : List Binding) → formed P (list_of vs) ≡ bound bs → Rising bs
  rising vs bs e = subst Rising (sym (formed_bound P (list_of vs) bs e).all) (sorted_rising (gather (list_of vs) (matches P)))

  over-is : (G : List Binding → Outcomes Value) (v : Value) (Q : Items → List Binding → Type 0) → ((vs : Items) (bs : List Binding) → formed P (list_of vs) ≡ bound bs → G bs (value v) ↔ Q vs bs) → (bindings_of rec r P (operand_of table r 1) ρ then G) (value v) ↔ Over table r ρ Q
  over-is G v Q q = (
    λ h.
        let (bs, b, g) = (then_value (bindings_of rec r P (operand_of table r 1) ρ) G v).0 h in
        let (vs, s, f) = (bindings_value rec r ρ P (operand_of table r 1) bs).0 b in
        record { members = vs; all = bs; given = s; within = f; so = (q vs bs f).0 g },
    λ o. inl (o.all, (bindings_value rec r ρ P (operand_of table r 1) o.all).1 (o.members, o.given, o.within), (q o.members o.all o.within).1 o.so),
  )

  over_integers : (G : List Binding → Outcomes Value) (v : Value) (Q : List Binding → Type 0) → ((bs : List Binding) → G bs (value v) ↔ Q bs) → (integer_bindings rec r P (operand_of table r 1) ρ then G) (value v) ↔ Over table r ρ (λ ms bs. Integers ms × Q bs)
  over_integers G v Q q = (
    λ h.
        let (bs, b, g) = (then_value (integer_bindings rec r P (operand_of table r 1) ρ) G v).0 h in
        let (vs, s, i, f) = (integer_bindings_value rec r ρ P (operand_of table r 1) bs).0 b in
        record { members = vs; all = bs; given = s; within = f; so = (i, (q bs).0 g) },
    λ o. inl (o.all, (integer_bindings_value rec r ρ P (operand_of table r 1) o.all).1 (o.members, o.given, o.so.0, o.within), (q o.all).1 o.so.1),
  )

  truth_is : (T : Outcomes Bool) (t : Bool) → (T then (λ x. gives (boolean x))) (value (boolean t)) ↔ T (value t)
  truth_is T t = (
    λ h. let (x, k, e) = (then_value T (λ x. gives (boolean x)) (boolean t)).0 h in let d : x ≡ t = cc in subst (λ (y : Bool). T (value y)) d k,
    λ h. inl (t, h, refl),
  )

  to : (t : Bool) (β : Binding) → holds rec r (operand_of table r 2) ρ β (value t) → Condition table r ρ t β
  to t β = (tested_value rec r ρ (operand_of table r 2) β t).0

  from : (t : Bool) (β : Binding) → Condition table r ρ t β → holds rec r (operand_of table r 2) ρ β (value t)
  from t β = (tested_value rec r ρ (operand_of table r 2) β t).1

  quantified_is : (q : Quantifier) → (sheet table).node r ≡ quantified q (operand_of table r 0) (operand_of table r 1) (operand_of table r 2) → (t : Bool) (Q : List Binding → Type 0)
      → ((bs : List Binding) → Rising bs → quantify q rec r (operand_of table r 2) ρ bs (value t) ↔ Q bs) → May table r ρ (boolean t) ↔ Over table r ρ (λ ms bs. Q bs)
  unfolding loose_of
  quantified_is q e t Q k =
      Iff.trans (said _ e (boolean t))
      (over-is (λ bs. quantify q rec r (operand_of table r 2) ρ bs then (λ x. gives (boolean x))) (boolean t) (λ vs bs. Q bs)
      (λ vs bs f. Iff.trans (truth_is (quantify q rec r (operand_of table r 2) ρ bs) t) (k bs (rising vs bs f))))

  -- ---- one part more

  -- Building on with nothing to add.
  whole : (b : Built) → build_on b (λ us. built us) ≡ b
  whole (built us) = refl
  whole (stopped m) = refl

  module _ (add : Items → Value → Built) (all : Items → Items → Built) where
    one_is : ((us : Items) (w : Value) → all us (more w none) ≡ add us w) → (us : Items) (b : Binding) (ws : Items) → add_one rec r add (operand_of table r 3) ρ us b (value ws) ↔ ((new : List Value) × Element table r ρ b new × (all us (items_of new) ≡ built ws))
    unfolding items_of
    one_is k us b ws = (
      λ h.
          let (w, m, g) = (then_value (rec (operand_of table r 3) (under ρ b)) (λ w. built_at r (add us w)) ws).0 h in
          (w ∷ [], (w, m, refl), k us w ∙ (built_value r (add us w) ws).0 g),
      λ (new, (w, m, d), g). inl (w, m, (built_value r (add us w) ws).1 (sym (k us w) ∙ ap (λ (l : List Value). all us (items_of l)) (sym d) ∙ g)),
    )

    one_more : ((us : Items) (w : Value) (ws : Items) → all us (more w ws) ≡ build_on (add us w) (λ zs. all zs ws)) → ((us : Items) (w : Value) → all us (more w none) ≡ add us w) → (us : Items) (b : Binding) (new rest : List Value) → Element table r ρ b new → all us (items_of (new ++ rest)) ≡ build_on (all us (items_of new)) (λ zs. all zs (items_of rest))
    unfolding items_of
    one_more j k us b new rest (w, m, d) =
        ap (λ (l : List Value). all us (items_of (l ++ rest))) d ∙ j us w (items_of rest)
        ∙ ap (λ (x : Built). build_on x (λ zs. all zs (items_of rest))) (sym (k us w) ∙ ap (λ (l : List Value). all us (items_of l)) (sym d))

  pair_is : (us : Items) (b : Binding) (ws : Items) → add_pair rec r (operand_of table r 3) (operand_of table r 4) ρ us b (value ws) ↔ ((new : List Value) × Maplet table r ρ b new × (add_entries us (items_of new) ≡ built ws))
  unfolding items_of add_entries add_entries_at
  pair_is us b ws = (
    λ h.
        let (k, m, g) = (then_value (rec (operand_of table r 3) (under ρ b)) (λ k. rec (operand_of table r 4) (under ρ b) then (λ w. built_at r (add_entry us k w))) ws).0 h in
        let (w, o, d) = (then_value (rec (operand_of table r 4) (under ρ b)) (λ w. built_at r (add_entry us k w)) ws).0 g in
        (k ∷ w ∷ [], (k, w, m, o, refl), whole (add_entry us k w) ∙ (built_value r (add_entry us k w) ws).0 d),
    λ (new, (k, w, m, o, d), g).
        inl (k, m, inl (w, o, (built_value r (add_entry us k w) ws).1 (sym (whole (add_entry us k w)) ∙ ap (λ (l : List Value). add_entries us (items_of l)) (sym d) ∙ g))),
  )

  pair_more : (us : Items) (b : Binding) (new rest : List Value) → Maplet table r ρ b new → add_entries us (items_of (new ++ rest)) ≡ build_on (add_entries us (items_of new)) (λ zs. add_entries zs (items_of rest))
  unfolding items_of add_entries add_entries_at
  pair_more us b new rest (k, w, m, o, d) =
      ap (λ (l : List Value). add_entries us (items_of (l ++ rest))) d
      ∙ ap (λ (x : Built). build_on x (λ zs. add_entries zs (items_of rest))) (sym (whole (add_entry us k w)) ∙ ap (λ (l : List Value). add_entries us (items_of l)) (sym d))

  -- What the bindings add is enumerated.
  comprehension_is : (k : Kind) (add : Items → Binding → Outcomes Items) (all : Items → Items → Built) (part : Binding → List Value → Type 0) → ((us : Items) → all us none ≡ built us)
      → ((us : Items) (b : Binding) (ws : Items) → add us b (value ws) ↔ ((new : List Value) × part b new × (all us (items_of new) ≡ built ws)))
      → ((us : Items) (b : Binding) (new rest : List Value) → part b new → all us (items_of (new ++ rest)) ≡ build_on (all us (items_of new)) (λ ws. all ws (items_of rest)))
      → (bs : List Binding) (v : Value) → comprehension rec r k (operand_of table r 2) ρ add bs (value v) ↔ ((es : List Value) × Added (Condition table r ρ) part bs es × (closed k (all none (items_of es)) ≡ is v))
  comprehension_is k add all part f g j bs v =
      Iff.trans (collected_value (holds rec r (operand_of table r 2) ρ) add all part f g j k bs v)
      (λ (es, a, d). (es, added_map to part bs es a, d), λ (es, a, d). (es, added_map from part bs es a, d))

  -- ---- what bindings add, and what is held

  told : {Q R : Items → List Binding → Type 0} → ((ms : Items) (bs : List Binding) → Q ms bs → R ms bs) → Over table r ρ Q → Over table r ρ R
  told f o = record { members = o.members; all = o.all; given = o.given; within = o.within; so = f o.members o.all o.so }

  element_joined : (w : Value) (β : Binding) (new rest : List Value) → Element table r ρ β new → In w (new ++ rest) ↔ (In w new ⊎ In w rest)
  element_joined w β new rest p = (in_joined w new rest, λ h. ⊎_elim (in_left w new rest) (in_right w new rest) h)

  elements : (bs : List Binding) (es : List Value) (ws : Items) → Added (Condition table r ρ) (Element table r ρ) bs es → ((w : Value) → In w (list_of ws) ↔ In w es) → MembersAre table r ρ bs ws
  elements bs es ws a h =
      record {
        sound = λ w i.
            let (β, new, j, t, (v, m, d), l) = added_sound (Condition table r ρ) (Element table r ρ) In (λ x k. k) element_joined bs es a w ((h w).0 i) in
            (β, j, t, subst (May table (operand_of table r 3) (under ρ β)) (sym (in_one w (subst (In w) d l))) m);
        whole = λ β i.
            ⊎_elim (λ f. inl f) (λ (new, t, (v, m, d), on). inr (v, t, m, (h v).1 (on v (subst (In v) (sym d) (inl refl)))))
            (added_whole (Condition table r ρ) (Element table r ρ) In (λ x k. k) element_joined bs es a β i);
      }

  abbrev Held : Value × Value → List Value → Type 0
  Held e es = PairedIn e.0 e.1 es

  entry_joined : (e : Value × Value) (β : Binding) (new rest : List Value) → Maplet table r ρ β new → Held e (new ++ rest) ↔ (Held e new ⊎ Held e rest)
  entry_joined e β new rest (k, v, m, o, d) = subst (λ (l : List Value). Held e (l ++ rest) ↔ (Held e l ⊎ Held e rest)) (sym d) (
    λ h. ⊎_elim (λ x. inl (inl x)) (λ x. inr x) h,
    λ h. ⊎_elim (λ x. ⊎_elim (λ y. inl y) (λ z. absurd z) x) (λ x. inr x) h,
  )

  entries : (bs : List Binding) (es : List Value) (ws : Items) → Added (Condition table r ρ) (Maplet table r ρ) bs es → ((k v : Value) → (lookup k ws ≡ some v) ↔ PairedIn k v es) → EntriesAre table r ρ bs ws
  entries bs es ws a h =
      record {
        sound = λ k v i.
            let (β, new, j, t, (x, y, m, o, d), l) = added_sound (Condition table r ρ) (Maplet table r ρ) Held (λ z w. w) entry_joined bs es a (k, v) ((h k v).0 i) in
            let (e, f) = ⊎_elim (λ z. z) (λ z. absurd z) (subst (Held (k, v)) d l) in
            (β, j, t, subst (May table (operand_of table r 3) (under ρ β)) (sym e) m, subst (May table (operand_of table r 4) (under ρ β)) (sym f) o);
        whole = λ β i.
            ⊎_elim (λ f. inl f) (λ (new, t, (x, y, m, o, d), on). inr (x, y, t, m, o, (h x y).1 (on (x, y) (subst (Held (x, y)) (sym d) (inl (refl, refl))))))
            (added_whole (Condition table r ρ) (Maplet table r ρ) Held (λ z w. w) entry_joined bs es a β i);
      }

  paired_entries : (bs : List Binding) (es : List Value) → Added (Condition table r ρ) (Maplet table r ρ) bs es → Paired (items_of es)
  unfolding PairedFrom items_of
  paired_entries [] es e = subst (λ (l : List Value). Paired (items_of l)) (sym e) tt
  paired_entries (b ∷ bs) es (inl (h, a)) = paired_entries bs es a
  paired_entries (b ∷ bs) es (inr (new, rest, h, (k, v, m, o, d), e, a)) =
      subst (λ (l : List Value). Paired (items_of l)) (sym (e ∙ ap (λ (l : List Value). l ++ rest) d)) (paired_entries bs rest a)

  -- ---- the name of an iota

  fine : Fine (records table)
  fine = (accepted_fine table n ok).0

  iota_operands : kind_in table r ≡ 17 → 0 < length (operands_of (record_at (records table) r))
  unfolding shape
  iota_operands e =
      let q = record_at (records table) r in
      let f = fine.fit r (in_table table r 17 e (omega arith)) in
      let l : (shape q.kind).least ≡ 3 = ap (λ (k : ℕ). (shape k).least) e in
      omega (arith, named_count q f, fit_least q f)

  iota_pattern : kind_in table r ≡ 17 → kind_at (records table) (operand_of table r 0) ≡ 32
  unfolding shape
  iota_pattern e =
      let role : role_at (record_at (records table) r) 0 ≡ Name = ap (λ (k : ℕ). get_or (shape k).roles 0 Plain) e in
      eqb-true _ 32 (subst (λ (x : Role). is_of_sort x (kind_at (records table) (operand_of table r 0)) ≡ true) role (operand_sort (records table) fine.clear6 r 0 (in_table table r 17 e (omega arith)) (iota_operands e)))

  iota_lower : kind_in table r ≡ 17 → operand_of table r 0 < length (records table)
  iota_lower e = omega (arith, in_table table r 17 e (omega arith), operand_lower (records table) fine.clear6 r 0 (in_table table r 17 e (omega arith)) (iota_operands e))

  pub named_pattern : kind_in table r ≡ 17 → P ≡ name (name_in table r)
  named_pattern e =
      let q = record_at (records table) (operand_of table r 0) in
      pattern_is table n ok (operand_of table r 0) (iota_lower e)
      ∙ ap (λ (k : ℕ). get_or patterns (k - 32) (λ x xs. any) q (lmap (pattern_at (records table)) (operands_of q))) (iota_pattern e)

  pub named_low : kind_in table r ≡ 17 → name_in table r < names
  unfolding shape
  named_low e =
      let q = record_at (records table) (operand_of table r 0) in
      let known : is_known (head_of q) q ≡ true = fit_known q (fine.fit (operand_of table r 0) (iota_lower e)) in
      omega (arith, leb-true (name_of q) 15 (subst (λ (k : ℕ). is_known (shape k).head q ≡ true) (iota_pattern e) known))

  -- ---- exactly one

  pub cell_only : (x : ℕ) (v : Value) → x < names → value_in (only x v) x ≡ some v
  cell_only x v h = ap held_value (get_or-set_same nothing x (valued v) free h)

  only_same : (x : ℕ) (v w : Value) → x < names → only x v ≡ only x w → v ≡ w
  only_same x v w h e = let d : some v ≡ some w = sym (cell_only x v h) ∙ ap (λ (b : Binding). value_in b x) e ∙ cell_only x w h in cc

  module _ (x : ℕ) (named : P ≡ name x) (low : x < names) (vs : Items) (bs : List Binding) (f : formed P (list_of vs) ≡ bound bs) where
    in_bindings : (m : Value) → In m (list_of vs) → In (only x m) bs
    unfolding Matches
    in_bindings m i =
        subst (In (only x m)) (sym (formed_bound P (list_of vs) bs f).all)
        ((bindings_exactly P (list_of vs) (only x m)).1 (m, i, subst (λ (p : Pattern). Matches p m (only x m)) (sym named) refl))

    pub bindings_in : (β : Binding) → In β bs → (m : Value) × In m (list_of vs) × (β ≡ only x m)
    unfolding Matches
    bindings_in β i =
        let (m, j, k) = (bindings_exactly P (list_of vs) β).0 (subst (In β) (formed_bound P (list_of vs) bs f).all i) in
        (m, j, subst (λ (p : Pattern). Matches p m β) named k)

    abbrev Sole : Value → Type 0
    Sole v = In v (list_of vs) × Condition table r ρ true (only x v) × ((w : Value) → In w (list_of vs) → (w ≡ v → ⊥) → Condition table r ρ false (only x w))

    sole_out : (v : Value) (sat : List Binding) → satisfying rec r (operand_of table r 2) ρ bs (value sat) → unique r (name x) sat (value v) → Sole v
    sole_out v [] h e = absurd (value≢refusal e)
    sole_out v (β ∷ γ ∷ sat) h e = absurd (value≢refusal e)
    sole_out v (β ∷ []) h e =
        let o = (satisfying_one rec r (operand_of table r 2) ρ bs (rising vs bs f) β).0 h in
        let (m, i, d) = bindings_in β o.among in
        let g : some m ≡ some v = sym (cell_only x m low) ∙ ap (λ (b : Binding). value_in b x) (sym d) ∙ (else_value 25 r (value_in β x) v).0 e in
        let same : m ≡ v = cc in
        let here : β ≡ only x v = d ∙ ap (only x) same in (
          subst (λ (w : Value). In w (list_of vs)) same i,
          subst (Condition table r ρ true) here (to true β o.there),
          λ w j n. to false (only x w) (o.others (only x w) (in_bindings w j) (λ q. n (only_same x w v low (q ∙ here)))),
        )

    sole_in : (v : Value) → Sole v → (satisfying rec r (operand_of table r 2) ρ bs then (λ sat. unique r (name x) sat)) (value v)
    sole_in v (i, t, o) =
        inl (
          only x v ∷ [],
          (satisfying_one rec r (operand_of table r 2) ρ bs (rising vs bs f) (only x v)).1
              (record {
                among = in_bindings v i;
                there = from true (only x v) t;
                others = λ b j n. let (w, k, d) = bindings_in b j in subst (λ (c : Binding). holds rec r (operand_of table r 2) ρ c (value false)) (sym d) (from false (only x w) (o w k (λ q. n (d ∙ ap (only x) q))));
              }),
          (else_value 25 r (value_in (only x v) x) v).1 (cell_only x v low),
        )

    unique_is : (v : Value) → (satisfying rec r (operand_of table r 2) ρ bs then (λ sat. unique r P sat)) (value v) ↔ Sole v
    unique_is v =
        subst (λ (p : Pattern). (satisfying rec r (operand_of table r 2) ρ bs then (λ sat. unique r p sat)) (value v) ↔ Sole v) (sym named)
        (λ h. let (sat, k, e) = (then_value (satisfying rec r (operand_of table r 2) ρ bs) (λ sat. unique r (name x) sat) v).0 h in sole_out v sat k e, sole_in v)

  -- ---- the laws

  -- THEOREM: the laws of kinds 14 to 20.
  pub binders : Binders table r ρ
  unfolding loose_of add_members add_items add_entries add_entries_at
  binders =
      record {
        forall_true = λ e.
            quantified_is forall (node_is 14 e) true _
            (λ bs h. Iff.trans (until_false_true (holds rec r (operand_of table r 2) ρ) bs) (λ f β i. to true β (f β i), λ f β i. from true β (f β i)));
        forall_false = λ e.
            quantified_is forall (node_is 14 e) false _
            (λ bs h. Iff.trans (until_false_false (holds rec r (operand_of table r 2) ρ) bs) (first-map (to true) (to false), first-map (from true) (from false)));
        exists_true = λ e.
            quantified_is exists (node_is 15 e) true _
            (λ bs h. Iff.trans (until_true_true (holds rec r (operand_of table r 2) ρ) bs) (first-map (to false) (to true), first-map (from false) (from true)));
        exists_false = λ e.
            quantified_is exists (node_is 15 e) false _
            (λ bs h. Iff.trans (until_true_false (holds rec r (operand_of table r 2) ρ) bs) (λ f β i. to false β (f β i), λ f β i. from false β (f β i)));
        exists1_true = λ e.
            quantified_is exists1 (node_is 16 e) true _
            (λ bs h. Iff.trans (unique_true rec r (operand_of table r 2) ρ bs h) (λ (β, o). (β, one_map (to false) (to true) o), λ (β, o). (β, one_map (from false) (from true) o)));
        exists1_false = λ e.
            quantified_is exists1 (node_is 16 e) false _
            (λ bs h. Iff.trans (unique_false rec r (operand_of table r 2) ρ bs h) (
              λ w. ⊎_elim (λ f. inl (λ β i. to false β (f β i))) (λ (f, s). inr (λ β i. ((f β i).0, to (f β i).0 β (f β i).1), several_map (to true) s)) w,
              λ w. ⊎_elim (λ f. inl (λ β i. from false β (f β i))) (λ (f, s). inr (λ β i. ((f β i).0, from (f β i).0 β (f β i).1), several_map (from true) s)) w,
            ));
        iota_value = λ e v.
            Iff.trans (said _ (node_is 17 e) v)
            (over-is (λ bs. satisfying rec r (operand_of table r 2) ρ bs then (λ sat. unique r P sat)) v _ (λ vs bs f. unique_is (name_in table r) (named_pattern e) (named_low e) vs bs f v));
        set_comprehension_is = λ e v.
            Iff.trans (said _ (node_is 18 e) v)
            (over-is (λ bs. comprehension rec r set (operand_of table r 2) ρ (add_one rec r add_member (operand_of table r 3) ρ) bs) v _
            (λ vs bs f. comprehension_is set (add_one rec r add_member (operand_of table r 3) ρ) add_members (Element table r ρ) (λ us. refl) (one_is add_member add_members (λ us w. whole (add_member us w)))
            (one_more add_member add_members (λ us w ws. refl) (λ us w. whole (add_member us w))) bs v));
        sequence_comprehension_is = λ e v.
            Iff.trans (said _ (node_is 19 e) v)
            (over_integers (λ bs. comprehension rec r sequence (operand_of table r 2) ρ (add_one rec r add_item (operand_of table r 3) ρ) bs) v _
            (λ bs. comprehension_is sequence (add_one rec r add_item (operand_of table r 3) ρ) add_items (Element table r ρ) (λ us. refl) (one_is add_item add_items (λ us w. whole (add_item us w)))
            (one_more add_item add_items (λ us w ws. refl) (λ us w. whole (add_item us w))) bs v));
        map_comprehension_is = λ e v.
            Iff.trans (said _ (node_is 20 e) v)
            (over-is (λ bs. comprehension rec r map (operand_of table r 2) ρ (add_pair rec r (operand_of table r 3) (operand_of table r 4) ρ) bs) v _
            (λ vs bs f. comprehension_is map (add_pair rec r (operand_of table r 3) (operand_of table r 4) ρ) add_entries (Maplet table r ρ) (λ us. refl) pair_is pair_more bs v));
      }

  -- THEOREM: what comprehensions hold.
  pub comprehensions : Comprehensions table r ρ
  comprehensions =
      record {
        members = λ e ws h. told (λ ms bs (es, a, d). elements bs es ws a (set_holds es ws d)) ((binders.set_comprehension_is e (collection set ws)).0 h);
        items = λ e ws h.
            told (λ ms bs (i, (es, a, d)). (i, subst (Added (Condition table r ρ) (Element table r ρ) bs) (sym (sequence_holds es ws d)) a)) ((binders.sequence_comprehension_is e (collection sequence ws)).0 h);
        entries_are = λ e ws h.
            told (λ ms bs (es, a, d). entries bs es ws a (map_holds es ws (paired_entries bs es a) d)) ((binders.map_comprehension_is e (collection map ws)).0 h);
      }
