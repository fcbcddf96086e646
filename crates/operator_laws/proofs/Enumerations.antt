-- Laws of enumerations and of the parts that they and comprehensions are built of.
use mathlib.Core.Path.{◌≡◌, refl, sym, ap, ◌∙◌}
use mathlib.Core.Bool.{Bool, true, false, and-eq-true_iff, cond}
use mathlib.Core.Option.{Option, none as absent, some}
use Prim.Native.Nat.{ℕ, ◌+◌, ◌≤◌, ◌<◌}
use native.Mathlib.Omega.{arith}
use borrow.Author.Tests.{leb-true, leb-false, le-leb, lt-leb}
use lib.Dec.{leb}
use mathlib.Mathlib.Data.Bool.Basic.{and_intro}
use Rattle.prelude.proofs.Absurd.{impossible}
use Rattle.prelude.proofs.Truth.{cond-true, cond-false, by_test}
use Rattle.values.specs.Value.{Kind, set, sequence, map, tuple, Value, collection, Items, none, more, count, every_other, size, sizes, value_limit, Ascending, PairedFrom, Paired, Shaped, Sound, SoundItems}
use Rattle.values.specs.Items.{same, join, snoc, insert, lookup, enter}
use Rattle.values.proofs.Order.{same_true, true_same}
use Rattle.values.proofs.Encoding.{join_sizes, join_sound, snoc_sizes}
use Rattle.values.proofs.Members.{ascending_insert, sound_insert}
use Rattle.values.proofs.Joined.{join-none, join_join}
use Rattle.values.proofs.Entries.{by_entries, paired_enter, ascending_enter, sound_enter, lookup_enter}
use Rattle.operators.specs.Answer.{is, Built, built, stopped, fitting, closed, sized, FineAnswer}
use Rattle.operators.specs.Gather.{insert_all, every_entry}
use Rattle.operators.specs.Enumerations.{add_member, add_item, entry_added, add_entry, build_on, add_members, add_items, add_entries, set_of, sequence_of, map_of, tuple_of}
use Rattle.operator_laws.proofs.Gather.{same_refl, sizes_grow_all, ascending_insert_all, sound_insert_all}
use Rattle.operator_laws.proofs.Entries.{first_some}
use Rattle.operator_laws.proofs.Results.{Good, well_formed, sized_fine}

-- ---- what fits

pub fitting_built : (vs : Items) → 4 + sizes vs ≤ value_limit → fitting vs ≡ built vs
fitting_built vs h = rw (le-leb (4 + sizes vs) value_limit h)

pub fits_not : (vs : Items) → value_limit < 4 + sizes vs → fitting vs ≡ stopped 28
fits_not vs h = rw (lt-leb (4 + sizes vs) value_limit h)

-- A proof by whether it fits.
pub by_fitting : {P : Type 0} (vs : Items) → (4 + sizes vs ≤ value_limit → fitting vs ≡ built vs → P) → (value_limit < 4 + sizes vs → fitting vs ≡ stopped 28 → P) → P
by_fitting vs f g =
    by_test (leb (4 + sizes vs) value_limit)
    (λ e. let h : 4 + sizes vs ≤ value_limit = leb-true (4 + sizes vs) value_limit e in f h (fitting_built vs h))
    (λ e. let h : value_limit < 4 + sizes vs = leb-false (4 + sizes vs) value_limit e in g h (fits_not vs h))

-- What was built is one thing alone.
built_one : {vs ws : Items} → built vs ≡ built ws → vs ≡ ws
built_one e = cc

never_built : {X : Type 0} {n : ℕ} {vs : Items} → stopped n ≡ built vs → X
never_built e = impossible cc

-- ---- sets, sequences, tuples: 28 comes exactly when what is finished is over 512 bytes

-- Members added one by one are the members added, if they fit.
add_members_is : (vs ws : Items) → 4 + sizes vs ≤ value_limit → add_members vs ws ≡ fitting (insert_all vs ws)
unfolding add_members insert_all
add_members_is vs none h = sym (fitting_built vs h)
add_members_is vs (more w ws) h =
    by_fitting (insert w vs) (λ g e. ap (λ (b : Built). build_on b (λ us. add_members us ws)) e ∙ add_members_is (insert w vs) ws g)
    (λ g e. ap (λ (b : Built). build_on b (λ us. add_members us ws)) e ∙ sym (fits_not (insert_all (insert w vs) ws) (omega (arith, sizes_grow_all (insert w vs) ws))))

-- Items added one by one are the items joined, if they fit.
add_items_is : (vs ws : Items) → 4 + sizes vs ≤ value_limit → add_items vs ws ≡ fitting (join vs ws)
unfolding add_items join size
add_items_is vs none h = sym (fitting_built vs h) ∙ ap fitting (sym (join-none vs))
add_items_is vs (more w ws) h =
    by_fitting (snoc vs w)
    (λ g e. ap (λ (b : Built). build_on b (λ us. add_items us ws)) e ∙ add_items_is (snoc vs w) ws g ∙ ap fitting (join_join vs (more w none) ws))
    (λ g e.
    ap (λ (b : Built). build_on b (λ us. add_items us ws)) e
    ∙ sym (fits_not (join vs (more w ws)) (omega (arith, snoc_sizes vs w, join_sizes vs (more w ws)))))

nothing_fits : 4 + sizes none ≤ value_limit
unfolding size
nothing_fits = omega arith

-- THEOREM: a set enumeration is the set of its operands' values
pub set_of_is : (vs : Items) → set_of vs ≡ sized set (insert_all none vs)
set_of_is vs = ap (closed set) (add_members_is none vs nothing_fits)

-- THEOREM: a sequence enumeration is the sequence of its operands' values, and a tuple the tuple
pub sequence_of_is : (vs : Items) → sequence_of vs ≡ sized sequence vs
unfolding join
sequence_of_is vs = ap (closed sequence) (add_items_is none vs nothing_fits)

tuple_of_is : (vs : Items) → tuple_of vs ≡ sized tuple vs
unfolding join
tuple_of_is vs = ap (closed tuple) (add_items_is none vs nothing_fits)

-- ---- maps

-- The items map the key to the value.
abbrev is_mapped : Option Value → Value → Bool
is_mapped absent v = false
is_mapped (some w) v = same v w

abbrev pub maps_to : Items → Value → Value → Bool
maps_to vs k v = is_mapped (lookup k vs) v

pub maps_is : (vs : Items) (k v : Value) → maps_to vs k v ≡ true → lookup k vs ≡ some v
maps_is vs k v e = go (lookup k vs) e
  where
    go : (o : Option Value) → is_mapped o v ≡ true → o ≡ some v
    go absent e = impossible cc
    go (some w) e = ap some (sym (same_true v w e))

is_maps : (vs : Items) (k v : Value) → lookup k vs ≡ some v → maps_to vs k v ≡ true
is_maps vs k v e = ap (λ (o : Option Value). is_mapped o v) e ∙ same_refl v

-- A proof by the three ways in which an entry is added.
module _ {P : Type 0} (vs : Items) (k v : Value) where
  pub by_entry : (lookup k vs ≡ absent → add_entry vs k v ≡ fitting (enter k v vs) → P)
      → (lookup k vs ≡ some v → add_entry vs k v ≡ built vs → P)
      → ((w : Value) → lookup k vs ≡ some w → same v w ≡ false → add_entry vs k v ≡ stopped 27 → P)
      → P
  by_entry f g h = go (lookup k vs) refl
    where
      go : (o : Option Value) → lookup k vs ≡ o → P
      go absent e = f e (ap (λ (o : Option Value). entry_added o vs k v) e)
      go (some w) e =
          by_test (same v w)
          (λ s. g (e ∙ ap some (sym (same_true v w s))) (ap (λ (o : Option Value). entry_added o vs k v) e ∙ cond-true (same v w) (built vs) (stopped 27) s))
          (λ s. h w e s (ap (λ (o : Option Value). entry_added o vs k v) e ∙ cond-false (same v w) (built vs) (stopped 27) s))

-- What is built of entries: at every key what stood there, or else what is written first, and every entry written.
pub record Entered (vs ws us : Items) : Type 0 where
  pub at : (x : Value) → lookup x us ≡ first_some (lookup x vs) (lookup x ws)
  pub all : every_entry (λ k v. maps_to us k v) ws ≡ true

or_else_absent : (o : Option Value) → o ≡ first_some o absent
or_else_absent absent = refl
or_else_absent (some v) = refl

-- what stood there stays
stays : {vs ws us : Items} → Entered vs ws us → (k v : Value) → lookup k vs ≡ some v → lookup k us ≡ some v
stays {vs} {ws} {us} h k v e = h.at k ∙ ap (λ (o : Option Value). first_some o (lookup k ws)) e

first_entered : (vs ws us : Items) (k v : Value) → Paired vs → lookup k vs ≡ absent → Entered (enter k v vs) ws us → Entered vs (more k (more v ws)) us
unfolding lookup every_entry
first_entered vs ws us k v p e h = record {
  at =
      λ x.
      let g = lookup_enter x k v vs p in
      h.at x ∙ ap (λ (o : Option Value). first_some o (lookup x ws)) g
      ∙ by_test (same x k)
      (λ s.
      let i : x ≡ k = same_true x k s in
      let a : lookup x vs ≡ absent = ap (λ (y : Value). lookup y vs) i ∙ e in
      ap (λ (o : Option Value). first_some o (lookup x ws)) (cond-true (same x k) (some v) (lookup x vs) s)
      ∙ sym (ap (λ (o : Option Value). first_some o (cond (same x k) (some v) (lookup x ws))) a ∙ cond-true (same x k) (some v) (lookup x ws) s))
      (λ s.
      ap (λ (o : Option Value). first_some o (lookup x ws)) (cond-false (same x k) (some v) (lookup x vs) s)
      ∙ sym (ap (first_some (lookup x vs)) (cond-false (same x k) (some v) (lookup x ws) s)));
  all =
      let g = lookup_enter k k v vs p ∙ cond-true (same k k) (some v) (lookup k vs) (same_refl k) in
      and_intro (is_maps us k v (stays h k v g)) h.all;
}

again_entered : (vs ws us : Items) (k v : Value) → lookup k vs ≡ some v → Entered vs ws us → Entered vs (more k (more v ws)) us
unfolding lookup every_entry
again_entered vs ws us k v e h = record {
  at =
      λ x.
      h.at x
      ∙ by_test (same x k)
      (λ s.
      let i : x ≡ k = same_true x k s in
      let a : lookup x vs ≡ some v = ap (λ (y : Value). lookup y vs) i ∙ e in
      ap (λ (o : Option Value). first_some o (lookup x ws)) a ∙ sym (ap (λ (o : Option Value). first_some o (cond (same x k) (some v) (lookup x ws))) a))
      (λ s. sym (ap (first_some (lookup x vs)) (cond-false (same x k) (some v) (lookup x ws) s)));
  all = and_intro (is_maps us k v (stays h k v e)) h.all;
}

-- THEOREM: what a map that is built maps its keys to
add_entries_built : (vs ws us : Items) → Paired vs → Paired ws → add_entries vs ws ≡ built us → Entered vs ws us
unfolding add_entries lookup every_entry
add_entries_built vs ws us p q e =
    by_entries (λ (ws : Items). (vs : Items) → Paired vs → add_entries vs ws ≡ built us → Entered vs ws us)
    (λ vs p e. record { at = λ x. ap (lookup x) (sym (built_one e)) ∙ or_else_absent (lookup x vs); all = refl })
    (λ k v ws q r vs p e.
    by_entry vs k v
    (λ a d.
    by_fitting (enter k v vs)
    (λ g f. first_entered vs ws us k v p a (r (enter k v vs) (paired_enter k v vs p) (sym (ap (λ (b : Built). build_on b (λ us. add_entries us ws)) (d ∙ f)) ∙ e)))
    (λ g f. never_built (sym (ap (λ (b : Built). build_on b (λ us. add_entries us ws)) (d ∙ f)) ∙ e)))
    (λ a d. again_entered vs ws us k v a (r vs p (sym (ap (λ (b : Built). build_on b (λ us. add_entries us ws)) d) ∙ e)))
    (λ w a s d. never_built (sym (ap (λ (b : Built). build_on b (λ us. add_entries us ws)) d) ∙ e)))
    ws q vs p e

-- THEOREM: 27 is given only where no map holds what stood there and every entry written
add_entries_clash : (vs ws us : Items) → Paired vs → Paired ws → add_entries vs ws ≡ stopped 27
    → ((x v : Value) → lookup x vs ≡ some v → lookup x us ≡ some v) → every_entry (λ k v. maps_to us k v) ws ≡ true → ⊥
unfolding add_entries every_entry
add_entries_clash vs ws us p q e h m =
    by_entries
    (λ (ws : Items). (vs : Items) → Paired vs → add_entries vs ws ≡ stopped 27 → ((x v : Value) → lookup x vs ≡ some v → lookup x us ≡ some v) → every_entry (λ k v. maps_to us k v) ws ≡ true → ⊥)
    (λ vs p e h m. never_built (sym e))
    (λ k v ws q r vs p e h m.
    let c = (and-eq-true_iff (maps_to us k v) (every_entry (λ k v. maps_to us k v) ws)).0 m in
    let n : lookup k us ≡ some v = maps_is us k v c.0 in
    by_entry vs k v
    (λ a d.
    by_fitting (enter k v vs)
    (λ g f.
    r (enter k v vs) (paired_enter k v vs p) (sym (ap (λ (b : Built). build_on b (λ us. add_entries us ws)) (d ∙ f)) ∙ e)
    (λ x w l. kept vs us k v p h n x w l) c.1)
    (λ g f.
    let z : stopped 28 ≡ stopped 27 = sym (ap (λ (b : Built). build_on b (λ us. add_entries us ws)) (d ∙ f)) ∙ e in
    let y : ◌≡◌ {A = ℕ} 28 27 = cc in
    omega arith))
    (λ a d. r vs p (sym (ap (λ (b : Built). build_on b (λ us. add_entries us ws)) d) ∙ e) h c.1)
    (λ w a s d.
    let t : lookup k us ≡ some w = h k w a in
    let j : v ≡ w = cc in
    let u = true_same j in
    impossible cc))
    ws q vs p e h m
  where
    kept : (vs us : Items) (k v : Value) → Paired vs → ((x w : Value) → lookup x vs ≡ some w → lookup x us ≡ some w) → lookup k us ≡ some v
        → (x w : Value) → lookup x (enter k v vs) ≡ some w → lookup x us ≡ some w
    kept vs us k v p h n x w l =
        by_test (same x k)
        (λ s.
        let i : x ≡ k = same_true x k s in
        let o : some v ≡ some w = sym (lookup_enter x k v vs p ∙ cond-true (same x k) (some v) (lookup x vs) s) ∙ l in
        ap (λ (y : Value). lookup y us) i ∙ n ∙ o)
        (λ s. h x w (sym (lookup_enter x k v vs p ∙ cond-false (same x k) (some v) (lookup x vs) s) ∙ l))

-- THEOREM: a map enumeration maps each key written to each value written with it, and nothing else
pub map_of_entries : (vs us : Items) → Paired vs → map_of vs ≡ is (collection map us) → Entered none vs us
unfolding PairedFrom
map_of_entries vs us p e = go (add_entries none vs) refl e
  where
    go : (b : Built) → add_entries none vs ≡ b → closed map b ≡ is (collection map us) → Entered none vs us
    go (built ws) d e = add_entries_built none vs us tt p (d ∙ let i : ws ≡ us = cc in ap built i)
    go (stopped n) d e = impossible cc

-- ---- all of these are well-formed

-- What is built makes a well-formed collection, or it is stopped by a refusal from 20 to 28.
abbrev pub FineBuilt : Kind → Built → Type 0
FineBuilt k (built vs) = Good k vs
FineBuilt k (stopped n) = (20 ≤ n) × (n ≤ 28)

closed_fine : (k : Kind) (b : Built) → FineBuilt k b → FineAnswer (closed k b)
closed_fine k (built vs) g = well_formed g
closed_fine k (stopped n) g = g

fitting_fine : (k : Kind) (vs : Items) → Shaped k vs → SoundItems vs → FineBuilt k (fitting vs)
fitting_fine k vs p s = by_fitting vs (λ h e. rw e (record { shaped = p; sound = s; short = h })) (λ h e. rw e (omega arith))

pub add_member_fine : (vs : Items) (v : Value) → Good set vs → Sound v → FineBuilt set (add_member vs v)
add_member_fine vs v g s = fitting_fine set (insert v vs) (ascending_insert v vs g.shaped) (sound_insert v vs s g.sound)

pub add_item_fine : (vs : Items) (v : Value) → Good sequence vs → Sound v → FineBuilt sequence (add_item vs v)
unfolding Sound
add_item_fine vs v g s = fitting_fine sequence (snoc vs v) tt (join_sound vs (more v none) g.sound (s, tt))

pub add_entry_fine : (vs : Items) (k v : Value) → Good map vs → Sound k → Sound v → FineBuilt map (add_entry vs k v)
add_entry_fine vs k v g s t =
    let p = g.shaped.0 in
    by_entry vs k v
    (λ a d. rw d (fitting_fine map (enter k v vs) (paired_enter k v vs p, ascending_enter k v vs p g.shaped.1) (sound_enter k v vs p s t g.sound)))
    (λ a d. rw d g) (λ w a n d. rw d (omega arith))

-- Nothing, of a set, a sequence or a map.
pub no_members : Good set none
unfolding Ascending Sound size
no_members = record { shaped = tt; sound = tt; short = omega arith }

pub built_none : Good sequence none
unfolding Sound size
built_none = record { shaped = tt; sound = tt; short = omega arith }

pub no_entries : Good map none
unfolding Ascending every_other PairedFrom Sound size
no_entries = record { shaped = (tt, tt); sound = tt; short = omega arith }

add_entries_fine : (vs ws : Items) → Paired ws → Good map vs → SoundItems ws → FineBuilt map (add_entries vs ws)
unfolding add_entries Sound
add_entries_fine vs ws q g s =
    by_entries (λ (ws : Items). (vs : Items) → Good map vs → SoundItems ws → FineBuilt map (add_entries vs ws)) (λ vs g s. g)
    (λ k v ws q r vs g s. go ws (add_entry vs k v) (add_entry_fine vs k v g s.0 s.1.0) (λ us h. r us h s.1.1))
    ws q vs g s
  where
    go : (ws : Items) (b : Built) → FineBuilt map b → ((us : Items) → Good map us → FineBuilt map (add_entries us ws)) → FineBuilt map (build_on b (λ us. add_entries us ws))
    go ws (built us) h f = f us h
    go ws (stopped n) h f = h

-- THEOREMS: enumerations of sound values
pub set_of_fine : (vs : Items) → SoundItems vs → FineAnswer (set_of vs)
unfolding Ascending Sound
set_of_fine vs s = rw (set_of_is vs) (sized_fine set (insert_all none vs) (ascending_insert_all none vs tt) (sound_insert_all none vs tt s))

pub sequence_of_fine : (vs : Items) → SoundItems vs → FineAnswer (sequence_of vs)
sequence_of_fine vs s = rw (sequence_of_is vs) (sized_fine sequence vs tt s)

pub tuple_of_fine : (vs : Items) → 2 ≤ count vs → count vs ≤ 4 → SoundItems vs → FineAnswer (tuple_of vs)
tuple_of_fine vs l h s = rw (tuple_of_is vs) (sized_fine tuple vs (l, h) s)

pub map_of_fine : (vs : Items) → Paired vs → SoundItems vs → FineAnswer (map_of vs)
map_of_fine vs p s = closed_fine map (add_entries none vs) (add_entries_fine none vs p no_entries s)
