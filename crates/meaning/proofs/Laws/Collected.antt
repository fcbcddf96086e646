-- What enumerations hold, over lists of values; and what bindings add.
use Rattle.std.specs.Prelude.{◌≡◌, refl, Bool, true, false, cond, ◌⊎◌, ◌↔◌, List, [], ◌∷◌, ◌++◌}
use Rattle.std.proofs.Common.{sym, ap, ◌∙◌, subst, inl, inr, ⊎_elim}
use Rattle.std.proofs.Math.Bool.{and-eq-true_iff}
use Rattle.std.proofs.Math.Option.{some}
use Rattle.prelude.proofs.Absurd.{impossible}
use Rattle.prelude.specs.Membership.{In}
use Rattle.values.specs.Value.{Kind, set, sequence, map, Value, collection, Items, none, more, Paired}
use Rattle.values.specs.Items.{is_member, same, lookup}
use Rattle.values.proofs.Order.{same_true}
use Rattle.operators.specs.Answer.{is, built, stopped, closed, sized}
use Rattle.operators.specs.Gather.{insert_all, every_entry}
use Rattle.operators.specs.Enumerations.{set_of, sequence_of, map_of}
use Rattle.operator_laws.proofs.Gather.{same_refl, member_case, member_there, member_insert_all}
use Rattle.operator_laws.proofs.Enumerations.{by_fitting, set_of_is, sequence_of_is, maps_to, maps_is, map_of_entries}
use Rattle.patterns.specs.Binding.{Binding}
use Rattle.patterns.specs.Pattern.{list_of, items_of}
use Rattle.patterns.proofs.Laws.Matched.{list_items}
use Rattle.meaning.specs.Kinds.{Added}

-- ---- enumerations

-- What is finished is what was built.
sized_out : (k : Kind) (vs ws : Items) → sized k vs ≡ is (collection k ws) → ws ≡ vs
sized_out k vs ws e =
    by_fitting vs (λ h d. let f : closed k (built vs) ≡ is (collection k ws) = ap (closed k) (sym d) ∙ e in cc)
    (λ h d. let f : closed k (stopped 28) ≡ is (collection k ws) = ap (closed k) (sym d) ∙ e in impossible cc)

member_in : (w : Value) (vs : Items) → is_member w vs ≡ true → In w (list_of vs)
unfolding is_member list_of
member_in w none e = impossible cc
member_in w (more v vs) e = member_case w v vs e (λ d. inl d) (λ d. inr (member_in w vs d))

in_member : (w : Value) (vs : Items) → In w (list_of vs) → is_member w vs ≡ true
unfolding is_member list_of
in_member w none i = absurd i
in_member w (more v vs) (inl e) = subst (λ (x : Value). is_member w (more x vs) ≡ true) e (ap (λ (b : Bool). cond b true (is_member w vs)) (same_refl w))
in_member w (more v vs) (inr i) = member_there w v vs (in_member w vs i)

-- A set enumeration holds the values written, and nothing else.
pub set_holds : (es : List Value) (ws : Items) → set_of (items_of es) ≡ is (collection set ws) → (w : Value) → In w (list_of ws) ↔ In w es
unfolding is_member
set_holds es ws e w =
    let d : ws ≡ insert_all none (items_of es) = sized_out set (insert_all none (items_of es)) ws (sym (set_of_is (items_of es)) ∙ e) in
    let f : is_member w ws ≡ is_member w (items_of es) = ap (is_member w) d ∙ member_insert_all w none (items_of es) in (
      λ i. subst (In w) (list_items es) (member_in w (items_of es) (sym f ∙ in_member w ws i)),
      λ i. member_in w ws (f ∙ in_member w (items_of es) (subst (In w) (sym (list_items es)) i)),
    )

-- A sequence enumeration holds the values written, in their order.
pub sequence_holds : (es : List Value) (ws : Items) → sequence_of (items_of es) ≡ is (collection sequence ws) → list_of ws ≡ es
sequence_holds es ws e = ap list_of (sized_out sequence (items_of es) ws (sym (sequence_of_is (items_of es)) ∙ e)) ∙ list_items es

-- The key with the value is among these, written key, value, key, value.
abbrev pub PairedIn : Value → Value → List Value → Type 0
PairedIn k v [] = ⊥
PairedIn k v (a ∷ []) = ⊥
PairedIn k v (a ∷ b ∷ es) = ((k ≡ a) × (v ≡ b)) ⊎ PairedIn k v es

looked_in : (k v : Value) (es : List Value) → lookup k (items_of es) ≡ some v → PairedIn k v es
unfolding lookup items_of
looked_in k v [] e = impossible cc
looked_in k v (a ∷ []) e = impossible cc
looked_in k v (a ∷ b ∷ es) e = go (same k a) refl e (λ f. looked_in k v es f)
  where
    go : (t : Bool) → same k a ≡ t → cond t (some b) (lookup k (items_of es)) ≡ some v → (lookup k (items_of es) ≡ some v → PairedIn k v es) → PairedIn k v (a ∷ b ∷ es)
    go true s e rest = inl (same_true k a s, let z : v ≡ b = cc in z)
    go false s e rest = inr (rest e)

every_in : (p : Value → Value → Bool) (es : List Value) → every_entry p (items_of es) ≡ true → (k v : Value) → PairedIn k v es → p k v ≡ true
unfolding every_entry items_of
every_in p [] e k v i = absurd i
every_in p (a ∷ []) e k v i = absurd i
every_in p (a ∷ b ∷ es) e k v (inl (d, f)) = rw (d, f) ((and-eq-true_iff (p a b) (every_entry p (items_of es))).0 e).0
every_in p (a ∷ b ∷ es) e k v (inr i) = every_in p es ((and-eq-true_iff (p a b) (every_entry p (items_of es))).0 e).1 k v i

-- A map enumeration maps each key written to the value written with it, and nothing else.
pub map_holds : (es : List Value) (ws : Items) → Paired (items_of es) → map_of (items_of es) ≡ is (collection map ws) → (k v : Value) → (lookup k ws ≡ some v) ↔ PairedIn k v es
unfolding lookup
map_holds es ws p e k v =
    let m = map_of_entries (items_of es) ws p e in
    (λ d. looked_in k v es (sym (m.at k) ∙ d), λ i. maps_is ws k v (every_in (maps_to ws) es m.all k v i))

-- ---- what bindings add

-- H tells what a list holds, and what is added joins on to it.
module _ (so : Bool → Binding → Type 0) (part : Binding → List Value → Type 0) {I : Type 0} (H : I → List Value → Type 0) (never : (i : I) → H i [] → ⊥) (joined : (i : I) (β : Binding) (new rest : List Value) → part β new → H i (new ++ rest) ↔ (H i new ⊎ H i rest)) where
  -- What is held was added under a binding whose condition is true.
  pub added_sound : (bs : List Binding) (es : List Value) → Added so part bs es → (i : I) → H i es → (β : Binding) × (new : List Value) × In β bs × so true β × part β new × H i new
  added_sound [] es e i h = absurd (never i (subst (H i) e h))
  added_sound (b ∷ bs) es (inl (h, a)) i k = let (β, new, j, t, p, l) = added_sound bs es a i k in (β, new, inr j, t, p, l)
  added_sound (b ∷ bs) es (inr (new, rest, h, p, e, a)) i k =
      ⊎_elim (λ j. (b, new, inl refl, h, p, j)) (λ j. let (β, new', l, t, q, m) = added_sound bs rest a i j in (β, new', inr l, t, q, m)) ((joined i b new rest p).0 (subst (H i) e k))

  -- A binding adds, or its condition is false.
  pub added_whole : (bs : List Binding) (es : List Value) → Added so part bs es → (β : Binding) → In β bs → so false β ⊎ ((new : List Value) × so true β × part β new × ((i : I) → H i new → H i es))
  added_whole [] es e β j = absurd j
  added_whole (b ∷ bs) es (inl (h, a)) β (inl e) = inl (subst (so false) (sym e) h)
  added_whole (b ∷ bs) es (inl (h, a)) β (inr j) = added_whole bs es a β j
  added_whole (b ∷ bs) es (inr (new, rest, h, p, d, a)) β (inl e) =
      inr (new, subst (so true) (sym e) h, subst (λ (x : Binding). part x new) (sym e) p, λ i k. subst (H i) (sym d) ((joined i b new rest p).1 (inl k)))
  added_whole (b ∷ bs) es (inr (new, rest, h, p, d, a)) β (inr j) =
      ⊎_elim (λ f. inl f) (λ (new', t, q, on). inr (new', t, q, λ i k. subst (H i) (sym d) ((joined i b new rest p).1 (inr (on i k))))) (added_whole bs rest a β j)
