-- The operators on maps, on entries: what each does over key, value, key, value is what `Entries` and `Listed` say on a list of entries.
use mathlib.Core.Path.{◌≡◌, refl, sym, ap, ◌∙◌, subst}
use mathlib.Core.Bool.{Bool, true, false, and-eq-true_iff, cond}
use mathlib.Core.List.{List, [], ◌∷◌}
use mathlib.Core.Logic.{◌⊎◌, inl, inr}
use mathlib.Core.Option.{Option, none as absent, some}
use Rattle.prelude.specs.Membership.{In}
use Rattle.prelude.proofs.Truth.{by_test, cond-true, cond-false}
use mathlib.Mathlib.Data.Bool.Basic.{and_intro}
use Rattle.values.specs.Value.{Value, Items, more, Ascending}
use Rattle.values.specs.Items.{lookup}
use Rattle.values.specs.Entries.{Entry, flat, Rising, value_at, put, put_all, passing}
use Rattle.values.proofs.Listed.{keys_flat, paired_flat, lookup_flat, at_in, in_at, enter_flat, rising_put}
use Rattle.operators.specs.Answer.{Built, built, stopped}
use Rattle.operators.specs.Gather.{every_entry, keep_entries, enter_all}
use Rattle.operators.specs.Maps.{compatible}
use Rattle.operators.specs.Enumerations.{add_entry, build_on, add_entries}
use Rattle.operators.specs.Listed.{Compatible, add_listed}
use Rattle.operator_laws.proofs.Entries.{first_some, lookup_enter_all}
use Rattle.operator_laws.proofs.Maps.{compatible_at, compatible_all}

-- ---- every entry, and those that pass

-- THEOREM: every entry passes exactly when each of the list does
pub every_flat : (p : Value → Value → Bool) (es : List Entry) → every_entry p (flat es) ≡ true → (e : Entry) → In e es → p e.key e.value ≡ true
unfolding flat every_entry
every_flat p [] h e i = absurd i
every_flat p (f ∷ fs) h e (inl q) = ap (λ (g : Entry). p g.key g.value) q ∙ ((and-eq-true_iff (p f.key f.value) (every_entry p (flat fs))).0 h).0
every_flat p (f ∷ fs) h e (inr i) = every_flat p fs ((and-eq-true_iff (p f.key f.value) (every_entry p (flat fs))).0 h).1 e i

pub flat_every : (p : Value → Value → Bool) (es : List Entry) → ((e : Entry) → In e es → p e.key e.value ≡ true) → every_entry p (flat es) ≡ true
unfolding flat every_entry
flat_every p [] h = refl
flat_every p (f ∷ fs) h = and_intro (h f (inl refl)) (flat_every p fs (λ e i. h e (inr i)))

-- THEOREM: the entries kept are those of the list that pass
pub keep_flat : (p : Value → Value → Bool) (es : List Entry) → keep_entries p (flat es) ≡ flat (passing p es)
unfolding flat passing keep_entries
keep_flat p [] = refl
keep_flat p (f ∷ fs) = go (p f.key f.value) (keep_flat p fs)
  where
    go : (b : Bool) → keep_entries p (flat fs) ≡ flat (passing p fs)
        → cond b (more f.key (more f.value (keep_entries p (flat fs)))) (keep_entries p (flat fs)) ≡ flat (cond b (f ∷ passing p fs) (passing p fs))
    go true e = ap (λ (ws : Items). more f.key (more f.value ws)) e
    go false e = e

pub passing_in : (p : Value → Value → Bool) (e : Entry) (es : List Entry) → In e (passing p es) → In e es × (p e.key e.value ≡ true)
unfolding passing
passing_in p e [] i = absurd i
passing_in p e (f ∷ fs) i =
    by_test (p f.key f.value)
    (λ t. here t (λ j. passing_in p e fs j) (subst (In e) (cond-true (p f.key f.value) (f ∷ passing p fs) (passing p fs) t) i))
    (λ t. later (passing_in p e fs (subst (In e) (cond-false (p f.key f.value) (f ∷ passing p fs) (passing p fs) t) i)))
  where
    later : In e fs × (p e.key e.value ≡ true) → In e (f ∷ fs) × (p e.key e.value ≡ true)
    later h = (inr h.0, h.1)

    here : p f.key f.value ≡ true → (In e (passing p fs) → In e fs × (p e.key e.value ≡ true)) → In e (f ∷ passing p fs) → In e (f ∷ fs) × (p e.key e.value ≡ true)
    here t h (inl q) = (inl q, ap (λ (g : Entry). p g.key g.value) q ∙ t)
    here t h (inr j) = later (h j)

pub in_passing : (p : Value → Value → Bool) (e : Entry) (es : List Entry) → In e es → p e.key e.value ≡ true → In e (passing p es)
unfolding passing
in_passing p e [] i t = absurd i
in_passing p e (f ∷ fs) (inl q) t =
    subst (In e) (sym (cond-true (p f.key f.value) (f ∷ passing p fs) (passing p fs) (ap (λ (g : Entry). p g.key g.value) (sym q) ∙ t))) (inl q)
in_passing p e (f ∷ fs) (inr i) t = go (p f.key f.value) (in_passing p e fs i t)
  where
    go : (b : Bool) → In e (passing p fs) → In e (cond b (f ∷ passing p fs) (passing p fs))
    go true j = inr j
    go false j = j

-- ---- entries put together

-- THEOREM: entering all the items of a map is putting in all its entries
pub enter_all_flat : (es fs : List Entry) → enter_all (flat es) (flat fs) ≡ flat (put_all es fs)
unfolding flat put_all enter_all
enter_all_flat es [] = refl
enter_all_flat es (f ∷ fs) = ap (λ (vs : Items). enter_all vs (flat fs)) (enter_flat f es) ∙ enter_all_flat (put f es) fs

pub rising_put_all : (es fs : List Entry) → Rising es → Rising (put_all es fs)
unfolding put_all
rising_put_all es [] r = r
rising_put_all es (f ∷ fs) r = rising_put_all (put f es) fs (rising_put f es r)

value_put_all : (x : Value) (es fs : List Entry) → Rising fs → value_at x (put_all es fs) ≡ first_some (value_at x fs) (value_at x es)
value_put_all x es fs s =
    sym (ap (lookup x) (enter_all_flat es fs) ∙ lookup_flat x (put_all es fs))
    ∙ lookup_enter_all x (flat es) (flat fs) (paired_flat es) (paired_flat fs) (subst Ascending (sym (keys_flat fs)) s)
    ∙ ap (λ (o : Option Value). first_some o (lookup x (flat es))) (lookup_flat x fs)
    ∙ ap (first_some (value_at x fs)) (lookup_flat x es)

-- THEOREM: the entries are then those put in, and those before with a key that none put in has
pub put_all_in : (e : Entry) (es fs : List Entry) → Rising es → Rising fs → In e (put_all es fs) → In e fs ⊎ (In e es × (value_at e.key fs ≡ absent))
put_all_in e es fs r s i = go (value_at e.key fs) refl
  where
    is : first_some (value_at e.key fs) (value_at e.key es) ≡ some e.value
    is = sym (value_put_all e.key es fs s) ∙ in_at e.key e.value (put_all es fs) (rising_put_all es fs r) i

    go : (o : Option Value) → value_at e.key fs ≡ o → In e fs ⊎ (In e es × (value_at e.key fs ≡ absent))
    go absent n = inr (at_in e.key e.value es (sym (ap (λ (o : Option Value). first_some o (value_at e.key es)) n) ∙ is), n)
    go (some v) n = inl (at_in e.key e.value fs (n ∙ sym (ap (λ (o : Option Value). first_some o (value_at e.key es)) n) ∙ is))

pub in_put_all : (e : Entry) (es fs : List Entry) → Rising es → Rising fs → In e fs ⊎ (In e es × (value_at e.key fs ≡ absent)) → In e (put_all es fs)
in_put_all e es fs r s (inl i) =
    at_in e.key e.value (put_all es fs)
    (value_put_all e.key es fs s ∙ ap (λ (o : Option Value). first_some o (value_at e.key es)) (in_at e.key e.value fs s i))
in_put_all e es fs r s (inr h) =
    at_in e.key e.value (put_all es fs)
    (value_put_all e.key es fs s ∙ ap (λ (o : Option Value). first_some o (value_at e.key es)) h.1 ∙ in_at e.key e.value es r h.0)

-- ---- compatible maps, and a map built entry by entry

-- THEOREM: two maps are compatible exactly when they map each common key to the same value
pub compatible_flat : (es fs : List Entry) → compatible (flat es) (flat fs) ≡ true → Compatible es fs
compatible_flat es fs c k v w g h =
    compatible_at (flat es) (flat fs) (paired_flat fs) c k v w (lookup_flat k es ∙ g) (lookup_flat k fs ∙ h)

pub flat_compatible : (es fs : List Entry) → Rising fs → Compatible es fs → compatible (flat es) (flat fs) ≡ true
flat_compatible es fs s c =
    compatible_all (flat es) (flat fs) (paired_flat fs) (subst Ascending (sym (keys_flat fs)) s)
    (λ k v w g h. c k v w (sym (lookup_flat k es) ∙ g) (sym (lookup_flat k fs) ∙ h))

-- THEOREM: adding the items of entries is adding the entries
pub add_entries_flat : (vs : Items) (es : List Entry) → add_entries vs (flat es) ≡ add_listed vs es
unfolding flat add_entries add_listed
add_entries_flat vs [] = refl
add_entries_flat vs (e ∷ es) = go (add_entry vs e.key e.value) (λ us. add_entries_flat us es)
  where
    go : (b : Built) → ((us : Items) → add_entries us (flat es) ≡ add_listed us es) → build_on b (λ us. add_entries us (flat es)) ≡ build_on b (λ us. add_listed us es)
    go (built us) h = h us
    go (stopped n) h = refl
