-- Every value that a run of an accepted table gives is well-formed: its integers are in range, its sets and keys strictly ascending, its tuples
-- of 2 to 4, and it takes at most 512 bytes. (What a run gives follows from table and list alone: evaluating is a function of the two.)
use Rattle.std.specs.Prelude.{◌≡◌, Bool, cond, ltb, length, get_or}
use Rattle.std.proofs.Math.Path.{refl, ap, subst}
use Rattle.std.proofs.Common.{sym, ◌∙◌, inl, inr, arith}
use Rattle.std.proofs.Math.Bool.{true, false}
use Rattle.std.proofs.Math.Option.{some}
use mathlib.Core.List.{List, [], ◌∷◌}
use Prim.Native.Nat.{ℕ, zero, suc, ◌+◌, ◌%◌, ◌≤◌, ◌<◌}
use Rattle.std.proofs.lemmas.List.{get_or-replicate}
use Rattle.prelude.proofs.Absurd.{impossible}
use Rattle.prelude.specs.Membership.{In}
use Rattle.prelude.proofs.Membership.{at_in}
use Rattle.choices.specs.Tree.{Tree, bind, Gives, Run, gave, stopped, short, beyond, run, Final, result, final, most_choices}
use Rattle.choices.specs.Outcome.{value}
use Rattle.choices.proofs.Outcomes.{follow_given, Given}
use Rattle.values.specs.Value.{Kind, set, sequence, map, tuple, Value, boolean, integer, quote, collection, Items, none, more, count, size, sizes, value_limit as largest, Sound, SoundItems, PairedFrom, WellFormed}
use Rattle.values.proofs.Records.{well_formed_boolean, well_formed_integer, well_formed_quote}
use Rattle.operators.specs.Answer.{Answer, is, refused, Built, built, stopped as unbuilt, as_integer, as_set, FineAnswer}
use Rattle.operators.specs.Booleans.{Left, settles, leaves, left, right}
use Rattle.operators.specs.Sets.{range_of}
use Rattle.operators.specs.Maps.{apply_to}
use Rattle.operators.specs.Enumerations.{add_member, add_item, add_entry}
use Rattle.operators.specs.Operators.{unary, binary}
use Rattle.operator_laws.proofs.Results.{Good, good, well_formed, unary_fine, binary_fine, apply_fine, range_fine, FineLeft, left_fine, right_fine}
use Rattle.operator_laws.proofs.Enumerations.{FineBuilt, add_member_fine, add_item_fine, add_entry_fine, no_members, built_none, no_entries, set_of_fine, sequence_of_fine, map_of_fine, tuple_of_fine}
use Rattle.patterns.specs.Binding.{Cell, free, is as valued, clash, Binding, names, nothing, cell_of}
use Rattle.patterns.specs.Pattern.{Pattern, loose, list_of}
use Rattle.patterns.specs.Binder.{Formed, bound, refused as unformed, formed, bindings}
use Rattle.patterns.proofs.Laws.Matched.{match_sized, bindings_exactly}
use Rattle.patterns.proofs.Laws.Forming.{formed_bound}
use Rattle.patterns.proofs.Laws.Named.{FineCell, fine}
use Rattle.std.specs.Prelude.{Ok, Err}
use Rattle.tables.specs.Faults.{Checked}
use Rattle.tables.specs.Check.{check}
use Rattle.meaning.specs.Node.{Node, truth, whole, named, unary_of, binary_of, connective, if, enumeration, range, let_in, let_be, quantified, iota, set_comprehension, sequence_comprehension, map_comprehension, application, quoted, no_expression}
use Rattle.meaning.specs.State.{State, unbound, over, under, held_value, value_in}
use Rattle.meaning.specs.Meaning.{Evaluation, at, built_at, or_else, all_of, both_of, right_of, is_true, enumerated, formed_at, members_at, bindings_of, holds, satisfying, chosen_binding, matched, satisfied, quantify, unique, collected, add_one, add_pair, integers_at, integer_bindings, comprehension, means, Sheet, meaning_to, meaning, pattern_name}
use Rattle.meaning.specs.Read.{sheet}
use Rattle.meaning.specs.Service.{scratch_bytes, last, tree, unless, accepted, evaluates}
use Rattle.meaning.proofs.Laws.Only.{Only, only_give, only_stop, only_bind, Any, only_any, only_cond, only_else}
use Rattle.meaning.proofs.Laws.Proper.{Literal, proper, WellNumbered}

-- ---- answers

only_at : (r : ℕ) (a : Answer) → FineAnswer a → Only WellFormed (at r a)
only_at r (is v) h = only_give WellFormed v h
only_at r (refused n) h = only_stop _ n r

only_built : (r : ℕ) (k : Kind) (b : Built) → FineBuilt k b → Only (Good k) (built_at r b)
only_built r k (built vs) h = only_give (Good k) vs h
only_built r k (unbuilt n) h = only_stop _ n r

-- ---- states of well-formed values

abbrev pub FineState : State → Type 0
FineState [] = Unit {0}
FineState (c ∷ cs) = FineCell c × FineState cs

fine_over : (c d : Cell) → FineCell c → FineCell d → FineCell (over c d)
fine_over c free h k = h
fine_over c (valued v) h k = k
fine_over c clash h k = h

fine_under : (ρ b : State) → FineState ρ → FineState b → FineState (under ρ b)
unfolding under
fine_under [] b h k = tt
fine_under (c ∷ cs) [] h k = h
fine_under (c ∷ cs) (d ∷ b) h k = (fine_over c d h.0 k.0, fine_under cs b h.1 k.1)

fine_cell : (ρ : State) (x : ℕ) → FineState ρ → FineCell (cell_of ρ x)
fine_cell [] x h = tt
fine_cell (c ∷ cs) zero h = h.0
fine_cell (c ∷ cs) (suc x) h = fine_cell cs x h.1

fine_held : (c : Cell) (v : Value) → FineCell c → held_value c ≡ some v → WellFormed v
fine_held free v h e = impossible cc
fine_held (valued w) v h e = let d : w ≡ v = cc in subst WellFormed d h
fine_held clash v h e = impossible cc

fine_value : (ρ : State) (x : ℕ) (v : Value) → FineState ρ → value_in ρ x ≡ some v → WellFormed v
fine_value ρ x v h e = fine_held (cell_of ρ x) v (fine_cell ρ x h) e

each_cell : (b : Binding) → ((y : ℕ) → y < length b → FineCell (cell_of b y)) → FineState b
each_cell [] h = tt
each_cell (c ∷ b) h = (h 0 (omega arith), each_cell b (λ y i. h (suc y) (omega arith)))

-- ---- bindings of well-formed values

abbrev AllFine : List Binding → Type 0
AllFine bs = (b : Binding) → In b bs → FineState b

abbrev AllWell : List Value → Type 0
AllWell vs = (v : Value) → In v vs → WellFormed v

bindings_fine : (p : Pattern) (vs : List Value) → AllWell vs → AllFine (bindings p vs)
bindings_fine p vs h b i =
    let (m, j, k) = (bindings_exactly p vs b).0 i in
    each_cell b (λ y l. fine p m b (h m j) k y (let e = match_sized p m b k in omega (arith, e, l)))

only_formed : (r : ℕ) (p : Pattern) (vs : List Value) → AllWell vs → Only AllFine (formed_at r (formed p vs))
only_formed r p vs h = go (formed p vs) refl
  where
    go : (x : Formed) → formed p vs ≡ x → Only AllFine (formed_at r x)
    go (bound bs) e = only_give AllFine bs (λ b i. bindings_fine p vs h b (subst (In b) (formed_bound p vs bs e).all i))
    go (unformed n) e = only_stop _ n r

one_well : (v : Value) → WellFormed v → AllWell (v ∷ [])
one_well v h w (inl e) = subst WellFormed (sym e) h
one_well v h w (inr i) = absurd i

items_well : (vs : Items) → SoundItems vs → 4 + sizes vs ≤ largest → AllWell (list_of vs)
unfolding list_of Sound size
items_well none s h v i = absurd i
items_well (more w vs) s h v (inl e) = subst WellFormed (sym e) (record { sound = s.0; short = omega arith })
items_well (more w vs) s h v (inr i) = items_well vs s.1 (omega arith) v i

members_well : (vs : Items) → WellFormed (collection set vs) → AllWell (list_of vs)
members_well vs h = let g = good h in items_well vs g.sound g.short

set_well : (v : Value) (vs : Items) → WellFormed v → as_set v ≡ some vs → WellFormed (collection set vs)
set_well (boolean b) vs h e = impossible cc
set_well (integer i) vs h e = impossible cc
set_well (quote n) vs h e = impossible cc
set_well (collection set ws) vs h e = let d : ws ≡ vs = cc in subst (λ (us : Items). WellFormed (collection set us)) d h
set_well (collection sequence ws) vs h e = impossible cc
set_well (collection map ws) vs h e = impossible cc
set_well (collection tuple ws) vs h e = impossible cc

only_members : (r : ℕ) (v : Value) → WellFormed v → Only (λ vs. WellFormed (collection set vs)) (members_at r v)
only_members r v h = only_else (λ vs. WellFormed (collection set vs)) 20 r (as_set v) (λ vs e. set_well v vs h e)

only_chosen : {A : Type 0} (P : A → Type 0) (r : ℕ) (bs : List Binding) (f : Binding → Tree A) → AllFine bs → ((b : Binding) → FineState b → Only P (f b)) → Only P (bind (chosen_binding r bs) f)
only_chosen P r bs f h k a g = k (get_or bs g.0 nothing) (h _ (at_in bs g.0 nothing g.1)) a g.2

only_matched : (r : ℕ) (l : Bool) (bs : List Binding) (f : Binding → Tree Value) → AllFine bs → ((b : Binding) → FineState b → Only WellFormed (f b)) → Only WellFormed (bind (matched r l bs) f)
only_matched r l [] f h k = only_stop _ 23 r
only_matched r true (b ∷ bs) f h k = only_chosen WellFormed r (b ∷ bs) f h k
only_matched r false (b ∷ bs) f h k = k b (h b (inl refl))

only_satisfied : (r : ℕ) (bs : List Binding) (f : Binding → Tree Value) → AllFine bs → ((b : Binding) → FineState b → Only WellFormed (f b)) → Only WellFormed (bind (satisfied r bs) f)
only_satisfied r [] f h k = only_stop _ 24 r
only_satisfied r (b ∷ bs) f h k = only_chosen WellFormed r (b ∷ bs) f h k

only_unique : (r : ℕ) (p : Pattern) (bs : List Binding) → AllFine bs → Only WellFormed (unique r p bs)
only_unique r p [] h = only_stop _ 25 r
only_unique r p (b ∷ []) h = only_else WellFormed 25 r (value_in b (pattern_name p)) (λ v e. fine_value b (pattern_name p) v (h b (inl refl)) e)
only_unique r p (b ∷ c ∷ bs) h = only_stop _ 25 r

-- ---- enumerations

-- So many items, all sound.
abbrev ItemsOf : ℕ → Items → Type 0
ItemsOf n vs = SoundItems vs × (count vs ≡ n)

-- An even number of items from a key on, an odd one from a value on.
abbrev parity : Bool → ℕ
parity true = 0
parity false = 1

paired_from : (b : Bool) (vs : Items) → count vs % 2 ≡ parity b → PairedFrom b vs
unfolding PairedFrom count
paired_from true none h = tt
paired_from false none h = absurd (omega arith)
paired_from true (more k vs) h = paired_from false vs (omega arith)
paired_from false (more v vs) h = paired_from true vs (omega arith)

enumerated_fine : (k : Kind) (n : ℕ) → WellNumbered k n → (vs : Items) → ItemsOf n vs → FineAnswer (enumerated k vs)
enumerated_fine set n h vs (s, c) = set_of_fine vs s
enumerated_fine sequence n h vs (s, c) = sequence_of_fine vs s
enumerated_fine map n h vs (s, c) = map_of_fine vs (paired_from true vs (ap (λ m. m % 2) c ∙ h)) s
enumerated_fine tuple n h vs (s, c) = let l = h.0 in let m = h.1 in tuple_of_fine vs (omega arith) (omega arith) s

-- ---- records, over records that give well-formed values

module _ (rec : Evaluation) (well : (a : ℕ) (ρ : State) → FineState ρ → Only WellFormed (rec a ρ)) where
  only_all : (os : List ℕ) (ρ : State) → FineState ρ → Only (ItemsOf (length os)) (all_of rec os ρ)
  unfolding all_of Sound count
  only_all [] ρ h = only_give (ItemsOf 0) none (tt, refl)
  only_all (a ∷ os) ρ h =
      only_bind WellFormed (ItemsOf (suc (length os))) (rec a ρ) _ (well a ρ h)
      (λ v w. only_bind (ItemsOf (length os)) (ItemsOf (suc (length os))) (all_of rec os ρ) _ (only_all os ρ h)
      (λ vs ws. only_give (ItemsOf (suc (length os))) (more v vs) ((w.sound, ws.0), ap suc ws.1)))

  only_both : (a b : ℕ) (ρ : State) → FineState ρ → (f : Value → Value → Tree Value) → ((v w : Value) → WellFormed v → WellFormed w → Only WellFormed (f v w)) → Only WellFormed (both_of rec a b ρ f)
  only_both a b ρ h f k =
      only_bind WellFormed WellFormed (rec a ρ) _ (well a ρ h) (λ v i. only_bind WellFormed WellFormed (rec b ρ) _ (well b ρ h) (λ w j. k v w i j))

  only_right : (r b : ℕ) (ρ : State) → FineState ρ → (l : Left) → FineLeft l → Only WellFormed (right_of rec r b ρ l)
  only_right r b ρ h (settles a) f = only_at r a f
  only_right r b ρ h leaves f = only_bind WellFormed WellFormed (rec b ρ) _ (well b ρ h) (λ w i. only_at r (right w) (right_fine w))

  only_bindings : (r : ℕ) (p : Pattern) (s : ℕ) (ρ : State) → FineState ρ → Only AllFine (bindings_of rec r p s ρ)
  only_bindings r p s ρ h =
      only_bind WellFormed AllFine (rec s ρ) _ (well s ρ h)
      (λ v i. only_bind (λ vs. WellFormed (collection set vs)) AllFine (members_at r v) _ (only_members r v i)
      (λ vs j. only_formed r p (list_of vs) (members_well vs j)))

  -- The integers of a set are its members.
  integers_same : (r : ℕ) (vs : Items) → Only (λ ws. ws ≡ vs) (integers_at r vs)
  unfolding integers_at
  integers_same r none = only_give (λ ws. ws ≡ none) none refl
  integers_same r (more v vs) =
      only_bind Any (λ ws. ws ≡ more v vs) (or_else 20 r (as_integer v)) _ (only_any (or_else 20 r (as_integer v)))
      (λ z i. only_bind (λ ws. ws ≡ vs) (λ ws. ws ≡ more v vs) (integers_at r vs) _ (integers_same r vs)
      (λ ws e. only_give (λ us. us ≡ more v vs) (more v ws) (ap (more v) e)))

  only_integer_bindings : (r : ℕ) (p : Pattern) (s : ℕ) (ρ : State) → FineState ρ → Only AllFine (integer_bindings rec r p s ρ)
  only_integer_bindings r p s ρ h =
      only_bind WellFormed AllFine (rec s ρ) _ (well s ρ h)
      (λ v i. only_bind (λ vs. WellFormed (collection set vs)) AllFine (members_at r v) _ (only_members r v i)
      (λ vs j. only_bind (λ ws. ws ≡ vs) AllFine (integers_at r vs) _ (integers_same r vs)
      (λ ws e. only_formed r p (list_of ws) (members_well ws (subst (λ (us : Items). WellFormed (collection set us)) (sym e) j)))))

  only_satisfying : (r c : ℕ) (ρ : State) (bs : List Binding) → AllFine bs → Only AllFine (satisfying rec r c ρ bs)
  unfolding satisfying
  only_satisfying r c ρ [] h = only_give AllFine [] h
  only_satisfying r c ρ (b ∷ bs) h =
      only_bind Any AllFine (holds rec r c ρ b) _ (only_any (holds rec r c ρ b))
      (λ t i. only_bind AllFine AllFine (satisfying rec r c ρ bs) _ (only_satisfying r c ρ bs (λ d j. h d (inr j)))
      (λ sat j. only_give AllFine (cond t (b ∷ sat) sat) (kept t sat j)))
    where
      kept : (t : Bool) (sat : List Binding) → AllFine sat → AllFine (cond t (b ∷ sat) sat)
      kept true sat j d (inl e) = subst FineState (sym e) (h b (inl refl))
      kept true sat j d (inr i) = j d i
      kept false sat j d i = j d i

  only_collected : (k : Kind) (test : Binding → Tree Bool) (add : Items → Binding → Tree Items) → ((vs : Items) (b : Binding) → Good k vs → FineState b → Only (Good k) (add vs b)) → (vs : Items) → Good k vs → (bs : List Binding) → AllFine bs → Only (Good k) (collected test add vs bs)
  unfolding collected
  only_collected k test add f vs g [] h = only_give (Good k) vs g
  only_collected k test add f vs g (b ∷ bs) h =
      only_bind Any (Good k) (test b) _ (only_any (test b))
      (λ t i. only_cond (Good k) t (bind (add vs b) (λ ws. collected test add ws bs)) (collected test add vs bs)
      (only_bind (Good k) (Good k) (add vs b) _ (f vs b g (h b (inl refl))) (λ ws j. only_collected k test add f ws j bs (λ d l. h d (inr l))))
      (only_collected k test add f vs g bs (λ d l. h d (inr l))))

  only_comprehension : (r : ℕ) (k : Kind) → Good k none → (c : ℕ) (ρ : State) (add : Items → Binding → Tree Items) → ((vs : Items) (b : Binding) → Good k vs → FineState b → Only (Good k) (add vs b)) → (bs : List Binding) → AllFine bs → Only WellFormed (comprehension rec r k c ρ add bs)
  only_comprehension r k g c ρ add f bs h =
      only_bind (Good k) WellFormed (collected (holds rec r c ρ) add none bs) _ (only_collected k (holds rec r c ρ) add f none g bs h)
      (λ vs i. only_give WellFormed (collection k vs) (well_formed i))

  only_one : (r : ℕ) (k : Kind) (add : Items → Value → Built) → ((vs : Items) (v : Value) → Good k vs → Sound v → FineBuilt k (add vs v)) → (e : ℕ) (ρ : State) → FineState ρ → (vs : Items) (b : Binding) → Good k vs → FineState b → Only (Good k) (add_one rec r add e ρ vs b)
  only_one r k add f e ρ h vs b g i =
      only_bind WellFormed (Good k) (rec e (under ρ b)) _ (well e (under ρ b) (fine_under ρ b h i)) (λ v w. only_built r k (add vs v) (f vs v g w.sound))

  only_pair : (r k e : ℕ) (ρ : State) → FineState ρ → (vs : Items) (b : Binding) → Good map vs → FineState b → Only (Good map) (add_pair rec r k e ρ vs b)
  only_pair r k e ρ h vs b g i =
      only_bind WellFormed (Good map) (rec k (under ρ b)) _ (well k (under ρ b) (fine_under ρ b h i))
      (λ key j. only_bind WellFormed (Good map) (rec e (under ρ b)) _ (well e (under ρ b) (fine_under ρ b h i))
      (λ v w. only_built r map (add_entry vs key v) (add_entry_fine vs key v g j.sound w.sound)))

  only_node : (pattern : ℕ → Pattern) (r : ℕ) (n : Node) → Literal n → (ρ : State) → FineState ρ → Only WellFormed (means pattern rec r n ρ)
  unfolding means
  only_node pattern r (truth b) l ρ h = only_give WellFormed (boolean b) (well_formed_boolean b)
  only_node pattern r (whole z) l ρ h = only_give WellFormed (integer z) (well_formed_integer l)
  only_node pattern r (named x) l ρ h = only_else WellFormed 20 r (value_in ρ x) (λ v e. fine_value ρ x v h e)
  only_node pattern r (unary_of op a) l ρ h = only_bind WellFormed WellFormed (rec a ρ) _ (well a ρ h) (λ v i. only_at r (unary op v) (unary_fine op v i))
  only_node pattern r (binary_of op a b) l ρ h = only_both a b ρ h _ (λ v w i j. only_at r (binary op v w) (binary_fine op v w i j))
  only_node pattern r (connective c a b) l ρ h = only_bind WellFormed WellFormed (rec a ρ) _ (well a ρ h) (λ v i. only_right r b ρ h (left c v) (left_fine c v))
  only_node pattern r (if t a b) l ρ h =
      only_bind Any WellFormed (rec t ρ) _ (only_any (rec t ρ))
      (λ v i. only_bind Any WellFormed (is_true r v) _ (only_any (is_true r v)) (λ y j. only_cond WellFormed y (rec a ρ) (rec b ρ) (well a ρ h) (well b ρ h)))
  only_node pattern r (enumeration k os) l ρ h =
      only_bind (ItemsOf (length os)) WellFormed (all_of rec os ρ) _ (only_all os ρ h) (λ vs i. only_at r (enumerated k vs) (enumerated_fine k (length os) l vs i))
  only_node pattern r (range a b) l ρ h = only_both a b ρ h _ (λ v w i j. only_at r (range_of v w) (range_fine v w i j))
  only_node pattern r (let_in p a b) l ρ h =
      only_bind WellFormed WellFormed (rec a ρ) _ (well a ρ h)
      (λ v i. only_bind AllFine WellFormed (formed_at r (formed (pattern p) (v ∷ []))) _ (only_formed r (pattern p) (v ∷ []) (one_well v i))
      (λ bs j. only_matched r (loose (pattern p)) bs (λ β. rec b (under ρ β)) j (λ β f. well b (under ρ β) (fine_under ρ β h f))))
  only_node pattern r (let_be p s c b) l ρ h =
      only_bind AllFine WellFormed (bindings_of rec r (pattern p) s ρ) _ (only_bindings r (pattern p) s ρ h)
      (λ bs i. only_bind AllFine WellFormed (satisfying rec r c ρ bs) _ (only_satisfying r c ρ bs i)
      (λ sat j. only_satisfied r sat (λ β. rec b (under ρ β)) j (λ β f. well b (under ρ β) (fine_under ρ β h f))))
  only_node pattern r (quantified q p s c) l ρ h =
      only_bind Any WellFormed (bindings_of rec r (pattern p) s ρ) _ (only_any (bindings_of rec r (pattern p) s ρ))
      (λ bs i. only_bind Any WellFormed (quantify q rec r c ρ bs) _ (only_any (quantify q rec r c ρ bs)) (λ t j. only_give WellFormed (boolean t) (well_formed_boolean t)))
  only_node pattern r (iota p s c) l ρ h =
      only_bind AllFine WellFormed (bindings_of rec r (pattern p) s ρ) _ (only_bindings r (pattern p) s ρ h)
      (λ bs i. only_bind AllFine WellFormed (satisfying rec r c ρ bs) _ (only_satisfying r c ρ bs i) (λ sat j. only_unique r (pattern p) sat j))
  only_node pattern r (set_comprehension p s c e) l ρ h =
      only_bind AllFine WellFormed (bindings_of rec r (pattern p) s ρ) _ (only_bindings r (pattern p) s ρ h)
      (λ bs i. only_comprehension r set no_members c ρ _ (only_one r set add_member add_member_fine e ρ h) bs i)
  only_node pattern r (sequence_comprehension p s c e) l ρ h =
      only_bind AllFine WellFormed (integer_bindings rec r (pattern p) s ρ) _ (only_integer_bindings r (pattern p) s ρ h)
      (λ bs i. only_comprehension r sequence built_none c ρ _ (only_one r sequence add_item add_item_fine e ρ h) bs i)
  only_node pattern r (map_comprehension p s c k e) l ρ h =
      only_bind AllFine WellFormed (bindings_of rec r (pattern p) s ρ) _ (only_bindings r (pattern p) s ρ h)
      (λ bs i. only_comprehension r map no_entries c ρ _ (only_pair r k e ρ h) bs i)
  only_node pattern r (application a b) l ρ h = only_both a b ρ h _ (λ v w i j. only_at r (apply_to v w) (apply_fine v w i j))
  only_node pattern r (quoted n) l ρ h = only_give WellFormed (quote n) (well_formed_quote (omega arith))
  only_node pattern r no_expression l ρ h = only_stop _ 20 r

only_to : (s : Sheet) → ((r : ℕ) → Literal (s.node r)) → (n r : ℕ) (ρ : State) → FineState ρ → Only WellFormed (meaning_to s n r ρ)
unfolding meaning_to
only_to s l zero r ρ h = only_stop _ 20 r
only_to s l (suc n) r ρ h = only_node (λ a σ. meaning_to s n a σ) (λ a σ k. only_to s l n a σ k) s.pattern r (s.node r) (l r) ρ h

-- THEOREM: in an accepted table, a record gives only well-formed values in a state whose values are well-formed.
pub well_formed_lem : (table : List ℕ) (n : ℕ) → check table ≡ Ok n → (r : ℕ) (ρ : State) → FineState ρ → (v : Value) → Gives (meaning (sheet table) r ρ) (value v) → WellFormed v
unfolding meaning
well_formed_lem table n ok r ρ h v g = only_to (sheet table) (λ q. (proper table n ok q).literal) (suc r) r ρ h v g

-- No name is bound in the state around the last record.
fine_unbound : FineState unbound
fine_unbound = each_cell unbound (λ y i. subst FineCell (sym (get_or-replicate names y free free i)) tt)

-- THEOREM: the values of a sheet's tree are well-formed.
pub tree_well_formed : (table : List ℕ) (n : ℕ) → check table ≡ Ok n → (v : Value) → Gives (tree table) (value v) → WellFormed v
tree_well_formed table n ok v g = well_formed_lem table n ok (last (sheet table)) unbound fine_unbound v g

-- THEOREM: the value of a run under a list is well-formed.
run_well_formed : (table : List ℕ) (n : ℕ) → check table ≡ Ok n → (l : List ℕ) (v : Value) (k : ℕ) (rest : List ℕ) → run (tree table) l ≡ gave v k rest → WellFormed v
run_well_formed table n ok l v k rest e =
    tree_well_formed table n ok v (subst (Given (tree table)) e (follow_given (tree table) most_choices l))

-- What evaluating answers as a value.
final_gave : (p : ℕ) (r : Run Value) (v : Value) → final p r ≡ result v → (k : ℕ) × (rest : List ℕ) × (r ≡ gave v k rest)
final_gave p (gave w k []) v e = let d : w ≡ v = cc in (k, [], ap (λ x. gave x k []) d)
final_gave p (gave w k (c ∷ l)) v e = impossible cc
final_gave p (stopped n q []) v e = impossible cc
final_gave p (stopped n q (c ∷ l)) v e = impossible cc
final_gave p (short q n) v e = impossible cc
final_gave p (beyond q n l) v e = impossible cc

unless_result : {A : Type 0} (b : Bool) (n : ℕ) (f : Final A) (v : A) → unless b n f ≡ result v → f ≡ result v
unless_result true n f v e = impossible cc
unless_result false n f v e = e

-- THEOREM: the value that evaluating answers is well-formed, whatever it is lent.
pub evaluates_well_formed : (scratch buffer : ℕ) (table l : List ℕ) (v : Value) → evaluates scratch buffer table l ≡ result v → WellFormed v
evaluates_well_formed scratch buffer table l v e = go (check table) refl (unless_result (ltb buffer largest) 2 _ v (unless_result (ltb scratch scratch_bytes) 1 _ v e))
  where
    go : (c : Checked) → check table ≡ c → accepted c (λ n. unless (ltb most_choices (length l)) 10 (final (last (sheet table)) (run (tree table) l))) ≡ result v → WellFormed v
    go (Ok n) ok f =
        let (k, rest, g) = final_gave (last (sheet table)) (run (tree table) l) v (unless_result (ltb most_choices (length l)) 10 _ v f) in
        run_well_formed table n ok l v k rest g
    go (Err e) ok f = impossible cc
