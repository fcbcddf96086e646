-- A map that is a part of another is no longer; and what entering the first of some entries leaves to enter. Assumes nothing.
use mathlib.Core.Path.{◌≡◌, refl, sym, ap, ◌∙◌}
use mathlib.Core.Bool.{Bool, true, false, cond}
use mathlib.Core.Option.{Option, none as absent, some}
use Prim.Native.Nat.{◌≤◌}
use native.Mathlib.Omega.{arith}
use Rattle.prelude.proofs.Absurd.{none-some}
use Rattle.prelude.proofs.Truth.{cond-false, by_test}
use Rattle.values.specs.Value.{Value, Items, none, more, every_other, keys, size, sizes, Before, Ascending, PairedFrom, Paired}
use Rattle.values.specs.Items.{same, lookup, enter}
use Rattle.values.proofs.Order.{same_equal, order_refl, higher_flip, same_true}
use Rattle.values.proofs.Members.{by_order}
use Rattle.values.proofs.Entries.{by_entries, before_nothing, lookup_first, lookup-none, lookup_here, lookup_before, lookup_enter, paired_enter, ascending_enter, same_entries}
use Rattle.operators.specs.Gather.{enter_all}
use Rattle.operator_laws.proofs.Entries.{paired_enter_all, ascending_enter_all, lookup_enter_all, first_some}

-- ---- parts

-- What the one has at a key, the other has too.
Part : Items → Items → Type 0
Part us vs = (x y : Value) → lookup x us ≡ some y → lookup x vs ≡ some y

-- both start with the same key: their rests
part-rest : (k v l w : Value) (us vs : Items) → Paired us → Before k (keys us) → k ≡ l → Part (more k (more v us)) (more l (more w vs)) → Part us vs
unfolding Part
part-rest k v l w us vs p b i f x y e =
    by_test (same x k)
    (λ s. none-some (ap (λ (z : Value). lookup z us) (same_true x k s) ∙ before_nothing k us p b) e)
    (λ s.
    sym (cond-false (same x l) (some w) (lookup x vs) (ap (same x) (sym i) ∙ s)) ∙ sym (lookup_first x l w vs)
    ∙ f x y (lookup_first x k v us ∙ cond-false (same x k) (some v) (lookup x us) s ∙ e))

-- the other has a lower key first, which the one has not
part_past : (l w : Value) (us vs : Items) → lookup l us ≡ absent → Part us (more l (more w vs)) → Part us vs
unfolding Part
part_past l w us vs a f x y e =
    by_test (same x l) (λ s. none-some (ap (λ (z : Value). lookup z us) (same_true x l s) ∙ a) e)
    (λ s. sym (cond-false (same x l) (some w) (lookup x vs) s) ∙ sym (lookup_first x l w vs) ∙ f x y e)

Less : Items → Items → Type 0
Less us vs = Ascending (keys us) → Ascending (keys vs) → Part us vs → sizes us ≤ sizes vs

-- THEOREM: a part is no longer than the whole
sizes_part : (us vs : Items) → Paired us → Paired vs → Less us vs
unfolding Less Part every_other Ascending PairedFrom size
sizes_part us vs p q =
    by_entries (λ (vs : Items). (us : Items) → Paired us → Less us vs)
    (by_entries (λ (us : Items). Less us none) (λ a b f. omega arith)
    (λ k v us p r a b f. none-some (lookup-none k) (f k v (lookup_here k k v us (order_refl k)))))
    (λ l w vs q r.
    by_entries (λ (us : Items). Less us (more l (more w vs))) (λ a b f. omega arith)
    (λ k v us p r' a b f.
    let here = f k v (lookup_here k k v us (order_refl k)) in
    by_order k l (λ o. none-some (lookup_before k l w vs q b.0 o) here)
    (λ o.
    let i : k ≡ l = same_equal k l o in
    let g = lookup_here k l w vs o in
    let j : v ≡ w = cc in
    let m = r us p a.1 b.1 (part-rest k v l w us vs p a.0 i f) in
    let x = ap size i in
    let y = ap size j in
    omega arith)
    (λ o.
    let m = r (more k (more v us)) p a b.1 (part_past l w (more k (more v us)) vs (lookup_before l k v us p a.0 (higher_flip k l o)) f) in
    omega arith)))
    vs q us p

-- what is entered is a part of what comes of it
pub sizes_entered : (vs ws : Items) → Paired vs → Paired ws → Ascending (keys vs) → Ascending (keys ws) → sizes ws ≤ sizes (enter_all vs ws)
unfolding Less Part
sizes_entered vs ws p q a b =
    sizes_part ws (enter_all vs ws) q (paired_enter_all vs ws p q) b (ascending_enter_all vs ws p q a)
    (λ x y e. lookup_enter_all x vs ws p q b ∙ ap (λ (o : Option Value). first_some o (lookup x vs)) e)

-- ---- the first of the entries that are entered into

module _ (k v : Value) (vs ws : Items) (p : Paired vs) (q : Paired ws) (a : Ascending (keys (more k (more v vs)))) (b : Ascending (keys ws)) where
  first_paired : Paired (more k (more v vs))
  unfolding PairedFrom
  first_paired = p

  rest_ascending : Ascending (keys vs)
  unfolding every_other Ascending
  rest_ascending = a.1

  -- at each key: what the second has there, or the first entry, or those after it
  both : (x : Value) → lookup x (enter_all (more k (more v vs)) ws) ≡ first_some (lookup x ws) (cond (same x k) (some v) (lookup x vs))
  both x = lookup_enter_all x (more k (more v vs)) ws first_paired q b ∙ ap (first_some (lookup x ws)) (lookup_first x k v vs)

  -- a new key goes into the second
  pub entered_new : lookup k ws ≡ absent → enter_all (more k (more v vs)) ws ≡ enter_all vs (enter k v ws)
  entered_new n =
      let pe = paired_enter k v ws q in
      let ae = ascending_enter k v ws q b in
      same_entries (enter_all (more k (more v vs)) ws) (enter_all vs (enter k v ws)) (paired_enter_all (more k (more v vs)) ws first_paired q) (paired_enter_all vs (enter k v ws) p pe)
      (ascending_enter_all (more k (more v vs)) ws first_paired q a) (ascending_enter_all vs (enter k v ws) p pe rest_ascending)
      (λ x.
      both x
      ∙ go (same x k) (lookup x ws) (lookup x vs) (λ s. ap (λ (z : Value). lookup z ws) (same_true x k s) ∙ n)
      ∙ sym (lookup_enter_all x vs (enter k v ws) p pe ae ∙ ap (λ (o : Option Value). first_some o (lookup x vs)) (lookup_enter x k v ws q)))
    where
      go : (t : Bool) (o r : Option Value) → (t ≡ true → o ≡ absent) → first_some o (cond t (some v) r) ≡ first_some (cond t (some v) o) r
      go true o r f = ap (λ (o : Option Value). first_some o (some v)) (f refl)
      go false o r f = refl

  -- a key that is there leaves the second as it is
  pub entered_there : {w : Value} → lookup k ws ≡ some w → enter_all (more k (more v vs)) ws ≡ enter_all vs ws
  entered_there {w} n =
      same_entries (enter_all (more k (more v vs)) ws) (enter_all vs ws) (paired_enter_all (more k (more v vs)) ws first_paired q) (paired_enter_all vs ws p q)
      (ascending_enter_all (more k (more v vs)) ws first_paired q a) (ascending_enter_all vs ws p q rest_ascending)
      (λ x.
      both x ∙ go (same x k) (lookup x ws) (lookup x vs) (λ s. ap (λ (z : Value). lookup z ws) (same_true x k s) ∙ n) ∙ sym (lookup_enter_all x vs ws p q b))
    where
      go : (t : Bool) (o r : Option Value) → (t ≡ true → o ≡ some w) → first_some o (cond t (some v) r) ≡ first_some o r
      go true o r f = ap (λ (o : Option Value). first_some o (some v)) (f refl) ∙ sym (ap (λ (o : Option Value). first_some o r) (f refl))
      go false o r f = refl

-- entering into nothing
pub entered_none : (ws : Items) → Paired ws → Ascending (keys ws) → enter_all none ws ≡ ws
unfolding every_other Ascending PairedFrom
entered_none ws q b =
    same_entries (enter_all none ws) ws (paired_enter_all none ws tt q) q (ascending_enter_all none ws tt q tt) b
    (λ x. lookup_enter_all x none ws tt q b ∙ ap (first_some (lookup x ws)) (lookup-none x) ∙ go (lookup x ws))
  where
    go : (o : Option Value) → first_some o absent ≡ o
    go absent = refl
    go (some v) = refl
