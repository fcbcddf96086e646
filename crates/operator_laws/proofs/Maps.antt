-- Theorems on the operators on maps: what each result maps a key to.
use mathlib.Core.Path.{◌≡◌, refl, sym, ap, ◌∙◌}
use mathlib.Core.Bool.{Bool, true, false, and-eq-true_iff, cond}
use mathlib.Core.Option.{Option, none as absent, some}
use Prim.Native.Nat.{◌+◌, ◌≤◌}
use native.Mathlib.Omega.{arith}
use mathlib.Mathlib.Data.Bool.Basic.{and_intro}
use Rattle.prelude.proofs.Absurd.{never, none-some}
use Rattle.prelude.proofs.Truth.{cond-true, cond-false, by_test}
use Rattle.values.specs.Value.{Value, Items, none, more, every_other, keys, mapped, sizes, value_limit, Before, Ascending, Paired}
use Rattle.values.specs.Items.{same, is_member, lookup, enter}
use Rattle.values.proofs.Order.{same_true, true_same}
use Rattle.values.proofs.Members.{member_here}
use Rattle.values.proofs.Entries.{by_entries, before_nothing, paired_enter, ascending_enter, lookup_enter, enter_present, sizes_enter}
use Rattle.operators.specs.Answer.{Built, built, fitting}
use Rattle.operators.specs.Gather.{insert_all, every_entry, keep_entries, enter_all}
use Rattle.operators.specs.Maps.{agrees_with, compatible}
use Rattle.operators.specs.Enumerations.{add_entry, build_on, add_entries}
use Rattle.operator_laws.proofs.Gather.{same_refl, member_none, member_case, member_there, member_insert_all}
use Rattle.operator_laws.proofs.Entries.{every_entry_at, entries_passing, lookup_keep, lookup_enter_all, first_some}
use Rattle.operator_laws.proofs.Enumerations.{fitting_built, fits_not, by_fitting, by_entry}

-- ---- dom, rng

-- Some key is mapped to the value.
pub record Mapped (x : Value) (vs : Items) : Type 0 where
  pub key : Value
  pub maps : lookup key vs ≡ some x

mapped_later : (x k v : Value) (vs : Items) → Paired vs → Before k (keys vs) → Mapped x vs → Mapped x (more k (more v vs))
unfolding lookup
mapped_later x k v vs p b h = record {
  key = h.key;
  maps =
      by_test (same h.key k)
      (λ s. none-some (ap (λ (y : Value). lookup y vs) (same_true h.key k s) ∙ before_nothing k vs p b) h.maps)
      (λ s. cond-false (same h.key k) (some v) (lookup h.key vs) s ∙ h.maps);
}

in_mapped : (x : Value) (vs : Items) → Paired vs → Ascending (keys vs) → is_member x (mapped vs) ≡ true → Mapped x vs
unfolding every_other Ascending lookup
in_mapped x =
    by_entries (λ (vs : Items). Ascending (keys vs) → is_member x (mapped vs) ≡ true → Mapped x vs) (λ a m. never (sym (member_none x) ∙ m))
    (λ k v vs p r a m.
    member_case x v (mapped vs) m (λ e. record { key = k; maps = cond-true (same k k) (some v) (lookup k vs) (same_refl k) ∙ ap some (sym e) })
    (λ n. mapped_later x k v vs p a.0 (r a.1 n)))

mapped_in : (k x : Value) (vs : Items) → Paired vs → lookup k vs ≡ some x → is_member x (mapped vs) ≡ true
unfolding every_other lookup
mapped_in k x =
    by_entries (λ (vs : Items). lookup k vs ≡ some x → is_member x (mapped vs) ≡ true) (λ e. none-some refl e)
    (λ l v vs p r e.
    by_test (same k l)
    (λ s. let i : x ≡ v = cc (cond-true (same k l) (some v) (lookup k vs) s) in rw i (member_here v (mapped vs)))
    (λ s. member_there x v (mapped vs) (r (sym (cond-false (same k l) (some v) (lookup k vs) s) ∙ e))))

-- THEOREM: rng m is the set of the values that m maps its keys to
range_maps : (x : Value) (vs : Items) → Paired vs → Ascending (keys vs) → is_member x (insert_all none (mapped vs)) ≡ true → Mapped x vs
unfolding is_member
range_maps x vs p a e = in_mapped x vs p a (sym (member_insert_all x none (mapped vs)) ∙ e)

maps_range : (k x : Value) (vs : Items) → Paired vs → lookup k vs ≡ some x → is_member x (insert_all none (mapped vs)) ≡ true
unfolding is_member
maps_range k x vs p e = member_insert_all x none (mapped vs) ∙ mapped_in k x vs p e

-- ---- munion, ++

-- THEOREM: two maps are compatible if any common key is mapped to the same value by both
pub compatible_at : (vs ws : Items) → Paired ws → compatible vs ws ≡ true → (k v w : Value) → lookup k vs ≡ some v → lookup k ws ≡ some w → v ≡ w
compatible_at vs ws q e k v w f g =
    let h = every_entry_at (λ k v. agrees_with (lookup k vs) v) ws q e k w g in
    sym (same_true w v (sym (ap (λ (o : Option Value). agrees_with o w) f) ∙ h))

every_entry_all : (p : Value → Value → Bool) (vs : Items) → Paired vs → Ascending (keys vs) → ((k v : Value) → lookup k vs ≡ some v → p k v ≡ true) → every_entry p vs ≡ true
unfolding every_other Ascending every_entry lookup
every_entry_all p =
    by_entries (λ (vs : Items). Ascending (keys vs) → ((k v : Value) → lookup k vs ≡ some v → p k v ≡ true) → every_entry p vs ≡ true) (λ a f. refl)
    (λ k v vs q r a f.
    and_intro (f k v (cond-true (same k k) (some v) (lookup k vs) (same_refl k))) (r a.1
    (λ l w e.
    f l w
    (by_test (same l k) (λ s. none-some (ap (λ (y : Value). lookup y vs) (same_true l k s) ∙ before_nothing k vs q a.0) e)
    (λ s. cond-false (same l k) (some v) (lookup l vs) s ∙ e)))))

pub compatible_all : (vs ws : Items) → Paired ws → Ascending (keys ws) → ((k v w : Value) → lookup k vs ≡ some v → lookup k ws ≡ some w → v ≡ w) → compatible vs ws ≡ true
compatible_all vs ws q a f = every_entry_all (λ k v. agrees_with (lookup k vs) v) ws q a (λ k w e. go k w (lookup k vs) refl e)
  where
    go : (k w : Value) (o : Option Value) → lookup k vs ≡ o → lookup k ws ≡ some w → agrees_with o w ≡ true
    go k w absent d e = refl
    go k w (some v) d e = true_same (sym (f k v w d e))

-- THEOREM: m1 munion m2 maps the keys of m1 as m1 does, and the keys of m2 as m2 does
module _ (vs ws : Items) (p : Paired vs) (q : Paired ws) (a : Ascending (keys ws)) where
  merge_right : (k v : Value) → lookup k ws ≡ some v → lookup k (enter_all vs ws) ≡ some v
  merge_right k v e = lookup_enter_all k vs ws p q a ∙ ap (λ (o : Option Value). first_some o (lookup k vs)) e

  merge_left : compatible vs ws ≡ true → (k v : Value) → lookup k vs ≡ some v → lookup k (enter_all vs ws) ≡ some v
  merge_left c k v e = lookup_enter_all k vs ws p q a ∙ go (lookup k ws) refl
    where
      go : (o : Option Value) → lookup k ws ≡ o → first_some o (lookup k vs) ≡ some v
      go absent d = e
      go (some w) d = ap some (sym (compatible_at vs ws q c k v w e d))

  merge_neither : (k : Value) → lookup k vs ≡ absent → lookup k ws ≡ absent → lookup k (enter_all vs ws) ≡ absent
  merge_neither k e f = lookup_enter_all k vs ws p q a ∙ ap (λ (o : Option Value). first_some o (lookup k vs)) f ∙ e

-- ---- munion part by part

-- A new key, which is none of ws, keeps two maps compatible.
compatible_enter : (vs ws : Items) (k v : Value) → Paired vs → Paired ws → Ascending (keys ws) → lookup k ws ≡ absent → compatible vs ws ≡ true → compatible (enter k v vs) ws ≡ true
compatible_enter vs ws k v p q a n c =
    compatible_all (enter k v vs) ws q a
    (λ l x y e f.
    by_test (same l k) (λ s. none-some (ap (λ (z : Value). lookup z ws) (same_true l k s) ∙ n) f)
    (λ s. compatible_at vs ws q c l x y (sym (lookup_enter l k v vs p ∙ cond-false (same l k) (some v) (lookup l vs) s) ∙ e) f))

-- The first entry of the second map beside the first map: its key is new, or has this value.
by_first : {P : Type 0} (vs ws : Items) (k v : Value) → compatible vs (more k (more v ws)) ≡ true
    → (lookup k vs ≡ absent → add_entry vs k v ≡ fitting (enter k v vs) → compatible vs ws ≡ true → P)
    → (lookup k vs ≡ some v → add_entry vs k v ≡ built vs → compatible vs ws ≡ true → P)
    → P
unfolding every_entry
by_first vs ws k v c f g =
    let h = (and-eq-true_iff (agrees_with (lookup k vs) v) (compatible vs ws)).0 c in
    by_entry vs k v (λ e d. f e d h.1) (λ e d. g e d h.1)
    (λ w e s d. never (sym s ∙ sym (ap (λ (o : Option Value). agrees_with o v) e) ∙ h.0))

-- Compatible maps merged are no shorter than the first.
merge_grows : (vs ws : Items) → Paired vs → Ascending (keys vs) → Paired ws → Ascending (keys ws) → compatible vs ws ≡ true → sizes vs ≤ sizes (enter_all vs ws)
unfolding every_other Ascending enter_all
merge_grows vs ws p a q b c =
    by_entries (λ (ws : Items). (vs : Items) → Paired vs → Ascending (keys vs) → Ascending (keys ws) → compatible vs ws ≡ true → sizes vs ≤ sizes (enter_all vs ws)) (λ vs p a b c. omega arith)
    (λ k v ws q r vs p a b c.
    by_first vs ws k v c
    (λ e d m.
    let s = sizes_enter k v vs p e in
    let n = compatible_enter vs ws k v p q b.1 (before_nothing k ws q b.0) m in
    let h = r (enter k v vs) (paired_enter k v vs p) (ascending_enter k v vs p a) b.1 n in
    omega arith)
    (λ e d m.
    let h = r vs p a b.1 m in
    let i = ap (λ (us : Items). sizes (enter_all us ws)) (enter_present k v vs p a e) in
    omega arith))
    ws q vs p a b c

-- THEOREM: the entries of a compatible map added one by one are the two maps merged, if that fits
add_entries_is : (vs ws : Items) → Paired vs → Ascending (keys vs) → Paired ws → Ascending (keys ws) → 4 + sizes vs ≤ value_limit → compatible vs ws ≡ true → add_entries vs ws ≡ fitting (enter_all vs ws)
unfolding every_other Ascending enter_all add_entries
add_entries_is vs ws p a q b l c =
    by_entries
    (λ (ws : Items). (vs : Items) → Paired vs → Ascending (keys vs) → Ascending (keys ws) → 4 + sizes vs ≤ value_limit → compatible vs ws ≡ true → add_entries vs ws ≡ fitting (enter_all vs ws))
    (λ vs p a b l c. sym (fitting_built vs l))
    (λ k v ws q r vs p a b l c.
    by_first vs ws k v c
    (λ e d m.
    let n = compatible_enter vs ws k v p q b.1 (before_nothing k ws q b.0) m in
    let pe = paired_enter k v vs p in
    let ae = ascending_enter k v vs p a in
    by_fitting (enter k v vs)
    (λ g f. ap (λ (x : Built). build_on x (λ us. add_entries us ws)) (d ∙ f) ∙ r (enter k v vs) pe ae b.1 g n)
    (λ g f.
    ap (λ (x : Built). build_on x (λ us. add_entries us ws)) (d ∙ f)
    ∙ sym (fits_not (enter_all (enter k v vs) ws) (omega (arith, merge_grows (enter k v vs) ws pe ae q b.1 n)))))
    (λ e d m.
    ap (λ (x : Built). build_on x (λ us. add_entries us ws)) d ∙ r vs p a b.1 l m
    ∙ sym (ap (λ (us : Items). fitting (enter_all us ws)) (enter_present k v vs p a e))))
    ws q vs p a b l c

-- ---- <:, :>

-- THEOREM: s <: m consists of the elements in m whose key is in s
lookup_domain : (x : Value) (vs ws : Items) → Paired ws → Ascending (keys ws) → lookup x (keep_entries (λ k v. is_member k vs) ws) ≡ cond (is_member x vs) (lookup x ws) absent
lookup_domain x vs ws p a = lookup_keep (λ k v. is_member k vs) x ws p a ∙ go (lookup x ws) (is_member x vs) refl
  where
    go : (o : Option Value) (b : Bool) → is_member x vs ≡ b → entries_passing (λ k v. is_member k vs) x o ≡ cond b o absent
    go absent true e = refl
    go absent false e = refl
    go (some v) b e = ap (λ (c : Bool). cond c (some v) absent) e

-- THEOREM: m :> s consists of the elements in m whose value is in s
lookup_range : (x : Value) (vs ws : Items) → Paired vs → Ascending (keys vs) → lookup x (keep_entries (λ k v. is_member v ws) vs) ≡ entries_passing (λ k v. is_member v ws) x (lookup x vs)
lookup_range x vs ws p a = lookup_keep (λ k v. is_member v ws) x vs p a
