-- A map's items are those of one list of entries, and what is looked up and entered among the items is looked up and put in among the entries.
use mathlib.Core.Path.{◌≡◌, refl, sym, ap, ap₂, ◌∙◌, subst}
use mathlib.Core.Bool.{cond}
use mathlib.Core.List.{List, [], ◌∷◌}
use mathlib.Core.Logic.{◌⊎◌, inl, inr}
use mathlib.Core.Option.{some}
use Rattle.prelude.specs.Membership.{In}
use Rattle.prelude.proofs.Absurd.{impossible}
use Rattle.prelude.proofs.Truth.{by_test, cond-true, cond-false}
use Rattle.std.specs.declared.cmp.Ordering.TheVariants.{Less, Equal, Greater}
use Rattle.values.specs.Value.{map, Value, Items, more, every_other, keys, mapped, order, Before, Ascending, PairedFrom, Paired, Shaped}
use Rattle.values.specs.Items.{same, lookup, enter}
use Rattle.values.specs.Entries.{Entry, entry, flat, keys_of, values_of, Rising, value_at, put}
use Rattle.values.proofs.Order.{same_equal, same_true, true_same, lower_flip}
use Rattle.values.proofs.Members.{by_order, higher_apart}
use Rattle.values.proofs.Entries.{enter_lower, enter_same, enter_higher, by_entries, ascending_enter, lookup_enter}

-- ---- entries and items

pub keys_flat : (es : List Entry) → keys (flat es) ≡ keys_of es
unfolding flat keys_of every_other
keys_flat [] = refl
keys_flat (e ∷ es) = ap (more e.key) (keys_flat es)

pub mapped_flat : (es : List Entry) → mapped (flat es) ≡ values_of es
unfolding flat values_of every_other
mapped_flat [] = refl
mapped_flat (e ∷ es) = ap (more e.value) (mapped_flat es)

pub paired_flat : (es : List Entry) → Paired (flat es)
unfolding flat PairedFrom
paired_flat [] = tt
paired_flat (e ∷ es) = paired_flat es

-- THEOREM: a map's items are those of entries with strictly ascending keys, and such entries make a map
pub flat_shaped : (es : List Entry) → Rising es → Shaped map (flat es)
flat_shaped es r = (paired_flat es, subst Ascending (sym (keys_flat es)) r)

listed : (vs : Items) → Paired vs → (es : List Entry) × (flat es ≡ vs)
unfolding flat
listed =
    by_entries (λ (vs : Items). (es : List Entry) × (flat es ≡ vs)) ([], refl)
    (λ k v vs p r. (entry k v ∷ r.0, ap (λ (ws : Items). more k (more v ws)) r.1))

pub shaped_flat : (vs : Items) → Shaped map vs → (es : List Entry) × (flat es ≡ vs) × Rising es
shaped_flat vs s = let (es, e) = listed vs s.0 in (es, e, subst Ascending (ap keys (sym e) ∙ keys_flat es) s.1)

-- THEOREM: they are the items of one list of entries only
pub flat_once : (es fs : List Entry) → flat es ≡ flat fs → es ≡ fs
unfolding flat
flat_once [] [] h = refl
flat_once [] (f ∷ fs) h = impossible cc
flat_once (e ∷ es) [] h = impossible cc
flat_once (e ∷ es) (f ∷ fs) h =
    let k : e.key ≡ f.key = cc in
    let v : e.value ≡ f.value = cc in
    let r : flat es ≡ flat fs = cc in
    ap₂ ◌∷◌ (ap₂ entry k v) (flat_once es fs r)

-- ---- what stands at a key

-- THEOREM: looking up a key among the items is looking it up among the entries
pub lookup_flat : (k : Value) (es : List Entry) → lookup k (flat es) ≡ value_at k es
unfolding flat value_at lookup
lookup_flat k [] = refl
lookup_flat k (e ∷ es) = ap (cond (same k e.key) (some e.value)) (lookup_flat k es)

before_in : (u : Value) (es : List Entry) (f : Entry) → Before u (keys_of es) → In f es → order u f.key ≡ Less
unfolding keys_of Before
before_in u [] f b i = absurd i
before_in u (e ∷ es) f b (inl q) = ap (λ (g : Entry). order u g.key) q ∙ b.0
before_in u (e ∷ es) f b (inr i) = before_in u es f b.1 i

-- THEOREM: a value stands at a key exactly when the two are an entry
pub at_in : (k v : Value) (es : List Entry) → value_at k es ≡ some v → In (entry k v) es
unfolding value_at
at_in k v [] h = impossible cc
at_in k v (e ∷ es) h =
    by_test (same k e.key)
    (λ s. let w : e.value ≡ v = cc (cond-true (same k e.key) (some e.value) (value_at k es) s) in inl (ap₂ entry (same_true k e.key s) (sym w)))
    (λ s. inr (at_in k v es (sym (cond-false (same k e.key) (some e.value) (value_at k es) s) ∙ h)))

pub in_at : (k v : Value) (es : List Entry) → Rising es → In (entry k v) es → value_at k es ≡ some v
unfolding value_at keys_of Ascending
in_at k v [] r i = absurd i
in_at k v (e ∷ es) r (inl q) =
    cond-true (same k e.key) (some e.value) (value_at k es) (true_same (ap (λ (g : Entry). g.key) q)) ∙ ap (λ (g : Entry). some g.value) (sym q)
in_at k v (e ∷ es) r (inr i) =
    cond-false (same k e.key) (some e.value) (value_at k es) (higher_apart k e.key (lower_flip e.key k (before_in e.key es (entry k v) r.0 i))) ∙ in_at k v es r.1 i

-- ---- an entry put in

put_lower : (e f : Entry) (fs : List Entry) → order e.key f.key ≡ Less → put e (f ∷ fs) ≡ e ∷ f ∷ fs
unfolding put
put_lower e f fs o = rw o

put_same : (e f : Entry) (fs : List Entry) → order e.key f.key ≡ Equal → put e (f ∷ fs) ≡ e ∷ fs
unfolding put
put_same e f fs o = rw o

put_higher : (e f : Entry) (fs : List Entry) → order e.key f.key ≡ Greater → put e (f ∷ fs) ≡ f ∷ put e fs
unfolding put
put_higher e f fs o = rw o

-- THEOREM: entering among the items is putting in among the entries
pub enter_flat : (e : Entry) (es : List Entry) → enter e.key e.value (flat es) ≡ flat (put e es)
unfolding flat put enter
enter_flat e [] = refl
enter_flat e (f ∷ fs) =
    let k = e.key in
    let v = e.value in
    let l = f.key in
    let w = f.value in
    by_order k l
    (λ o. enter_lower k v l (more w (flat fs)) o ∙ sym (ap flat (put_lower e f fs o)))
    (λ o. enter_same k v l w (flat fs) o ∙ ap (λ (x : Value). more x (more v (flat fs))) (sym (same_equal k l o)) ∙ sym (ap flat (put_same e f fs o)))
    (λ o. enter_higher k v l w (flat fs) o ∙ ap (λ (ws : Items). more l (more w ws)) (enter_flat e fs) ∙ sym (ap flat (put_higher e f fs o)))

pub rising_put : (e : Entry) (es : List Entry) → Rising es → Rising (put e es)
rising_put e es r =
    subst Ascending (ap keys (enter_flat e es) ∙ keys_flat (put e es))
    (ascending_enter e.key e.value (flat es) (paired_flat es) (subst Ascending (sym (keys_flat es)) r))

value_put : (x : Value) (e : Entry) (es : List Entry) → value_at x (put e es) ≡ cond (same x e.key) (some e.value) (value_at x es)
value_put x e es =
    sym (ap (lookup x) (enter_flat e es) ∙ lookup_flat x (put e es))
    ∙ lookup_enter x e.key e.value (flat es) (paired_flat es)
    ∙ ap (cond (same x e.key) (some e.value)) (lookup_flat x es)

-- THEOREM: the entries are then the one put in, and those with another key
pub put_in : (e f : Entry) (es : List Entry) → Rising es → In f (put e es) → (f ≡ e) ⊎ (In f es × (f.key ≡ e.key → ⊥))
put_in e f es r i =
    let h = sym (value_put f.key e es) ∙ in_at f.key f.value (put e es) (rising_put e es r) i in
    by_test (same f.key e.key)
    (λ s.
    let v : e.value ≡ f.value = cc (cond-true (same f.key e.key) (some e.value) (value_at f.key es) s) in
    inl (ap₂ entry (same_true f.key e.key s) (sym v)))
    (λ s.
    inr (
      at_in f.key f.value es (sym (cond-false (same f.key e.key) (some e.value) (value_at f.key es) s) ∙ h),
      λ q. let t = true_same q in impossible cc,
    ))

pub in_put : (e f : Entry) (es : List Entry) → Rising es → (f ≡ e) ⊎ (In f es × (f.key ≡ e.key → ⊥)) → In f (put e es)
in_put e f es r (inl q) =
    subst (λ (g : Entry). In g (put e es)) (sym q)
    (at_in e.key e.value (put e es)
    (value_put e.key e es ∙ cond-true (same e.key e.key) (some e.value) (value_at e.key es) (true_same {v = e.key} {w = e.key} refl)))
in_put e f es r (inr (i, n)) =
    at_in f.key f.value (put e es)
    (value_put f.key e es
    ∙ cond-false (same f.key e.key) (some e.value) (value_at f.key es)
    (by_test (same f.key e.key) (λ s. absurd (n (same_true f.key e.key s))) (λ s. s))
    ∙ in_at f.key f.value es r i)
