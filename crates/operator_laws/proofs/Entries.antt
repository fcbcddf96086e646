-- Laws of the entries of a map: those that pass a test, and entries put into a map.
use mathlib.Core.Path.{◌≡◌, refl, sym, ap, ◌∙◌}
use mathlib.Core.Bool.{Bool, true, false, and-eq-true_iff, cond}
use mathlib.Core.Option.{Option, none as absent, some}
use Prim.Native.Nat.{◌≤◌}
use native.Mathlib.Omega.{arith}
use Rattle.prelude.proofs.Truth.{cond-true, cond-false, by_test}
use Rattle.values.specs.Value.{Value, Items, none, more, every_other, keys, size, sizes, Before, Ascending, PairedFrom, Paired, Sound, SoundItems}
use Rattle.values.specs.Items.{same, lookup, enter}
use Rattle.values.proofs.Order.{same_true}
use Rattle.values.proofs.Entries.{by_entries, paired_enter, ascending_enter, sound_enter, lookup_enter, before_nothing}
use Rattle.operators.specs.Gather.{every_entry, keep_entries, enter_all}

-- ---- keys and values

pub sound_every_other : (b : Bool) (vs : Items) → SoundItems vs → SoundItems (every_other b vs)
unfolding every_other Sound
sound_every_other true none s = tt
sound_every_other false none s = tt
sound_every_other true (more v vs) s = (s.0, sound_every_other false vs s.1)
sound_every_other false (more v vs) s = sound_every_other true vs s.1

pub sizes_every_other : (b : Bool) (vs : Items) → sizes (every_other b vs) ≤ sizes vs
unfolding every_other size
sizes_every_other true none = omega arith
sizes_every_other false none = omega arith
sizes_every_other true (more v vs) = let h = sizes_every_other false vs in omega arith
sizes_every_other false (more v vs) = let h = sizes_every_other true vs in omega arith

-- ---- every entry, by the keys

-- What stands at a key passes.
pub every_entry_at : (p : Value → Value → Bool) (vs : Items) → Paired vs → every_entry p vs ≡ true → (k v : Value) → lookup k vs ≡ some v → p k v ≡ true
unfolding every_entry lookup
every_entry_at p vs q e k v =
    by_entries (λ (vs : Items). every_entry p vs ≡ true → lookup k vs ≡ some v → p k v ≡ true) (λ e f. cc)
    (λ l w vs q r e f.
    let h = (and-eq-true_iff (p l w) (every_entry p vs)).0 e in
    by_test (same k l) (λ s. let i : k ≡ l = same_true k l s in let j : v ≡ w = cc (cond-true (same k l) (some w) (lookup k vs) s) in rw (i, j) h.0)
    (λ s. r h.1 (sym (cond-false (same k l) (some w) (lookup k vs) s) ∙ f)))
    vs q e

-- ---- entries that pass a test

module _ (p : Value → Value → Bool) where
  pub keep_true : (k v : Value) (vs : Items) → p k v ≡ true → keep_entries p (more k (more v vs)) ≡ more k (more v (keep_entries p vs))
  unfolding keep_entries
  keep_true k v vs e = rw e

  pub keep_false : (k v : Value) (vs : Items) → p k v ≡ false → keep_entries p (more k (more v vs)) ≡ keep_entries p vs
  unfolding keep_entries
  keep_false k v vs e = rw e

  pub paired_keep : (vs : Items) → Paired vs → Paired (keep_entries p vs)
  unfolding PairedFrom keep_entries
  paired_keep =
      by_entries (λ (vs : Items). Paired (keep_entries p vs)) tt
      (λ k v vs q r. by_test (p k v) (λ e. rw (keep_true k v vs e) r) (λ e. rw (keep_false k v vs e) r))

  before_keys : (u : Value) (vs : Items) → Paired vs → Before u (keys vs) → Before u (keys (keep_entries p vs))
  unfolding every_other Before keep_entries
  before_keys u =
      by_entries (λ (vs : Items). Before u (keys vs) → Before u (keys (keep_entries p vs))) (λ b. tt)
      (λ k v vs q r b. by_test (p k v) (λ e. rw (keep_true k v vs e) (b.0, r b.1)) (λ e. rw (keep_false k v vs e) (r b.1)))

  pub ascending_keys : (vs : Items) → Paired vs → Ascending (keys vs) → Ascending (keys (keep_entries p vs))
  unfolding every_other Ascending keep_entries
  ascending_keys =
      by_entries (λ (vs : Items). Ascending (keys vs) → Ascending (keys (keep_entries p vs))) (λ a. tt)
      (λ k v vs q r a.
      by_test (p k v) (λ e. rw (keep_true k v vs e) (before_keys k vs q a.0, r a.1)) (λ e. rw (keep_false k v vs e) (r a.1)))

  pub sound_keep_entries : (vs : Items) → Paired vs → SoundItems vs → SoundItems (keep_entries p vs)
  unfolding Sound keep_entries
  sound_keep_entries =
      by_entries (λ (vs : Items). SoundItems vs → SoundItems (keep_entries p vs)) (λ s. tt)
      (λ k v vs q r s. by_test (p k v) (λ e. rw (keep_true k v vs e) (s.0, (s.1.0, r s.1.1))) (λ e. rw (keep_false k v vs e) (r s.1.1)))

  pub sizes_keep_entries : (vs : Items) → Paired vs → sizes (keep_entries p vs) ≤ sizes vs
  unfolding size keep_entries
  sizes_keep_entries =
      by_entries (λ (vs : Items). sizes (keep_entries p vs) ≤ sizes vs) (omega arith)
      (λ k v vs q r. by_test (p k v) (λ e. let f = ap sizes (keep_true k v vs e) in omega arith) (λ e. let f = ap sizes (keep_false k v vs e) in omega arith))

-- What a key is mapped to, where that passes the test.
abbrev pub entries_passing : (Value → Value → Bool) → Value → Option Value → Option Value
entries_passing p k absent = absent
entries_passing p k (some v) = cond (p k v) (some v) absent

-- Of the entries that pass, what stands at a key is what stood there, if it passes.
pub lookup_keep : (p : Value → Value → Bool) (x : Value) (vs : Items) → Paired vs → Ascending (keys vs) → lookup x (keep_entries p vs) ≡ entries_passing p x (lookup x vs)
unfolding every_other Ascending keep_entries lookup
lookup_keep p x =
    by_entries (λ (vs : Items). Ascending (keys vs) → lookup x (keep_entries p vs) ≡ entries_passing p x (lookup x vs)) (λ a. refl)
    (λ k v vs q r a.
    by_test (same x k)
    (λ s.
    let i : x ≡ k = same_true x k s in
    let gone : lookup x vs ≡ absent = ap (λ (y : Value). lookup y vs) i ∙ before_nothing k vs q a.0 in
    by_test (p k v)
    (λ e.
    ap (lookup x) (keep_true p k v vs e) ∙ cond-true (same x k) (some v) (lookup x (keep_entries p vs)) s
    ∙ sym (ap (entries_passing p x) (cond-true (same x k) (some v) (lookup x vs) s) ∙ cond-true (p x v) (some v) absent (ap (λ (y : Value). p y v) i ∙ e)))
    (λ e.
    ap (lookup x) (keep_false p k v vs e) ∙ r a.1 ∙ ap (entries_passing p x) gone
    ∙ sym (ap (entries_passing p x) (cond-true (same x k) (some v) (lookup x vs) s) ∙ cond-false (p x v) (some v) absent (ap (λ (y : Value). p y v) i ∙ e))))
    (λ s.
    by_test (p k v)
    (λ e.
    ap (lookup x) (keep_true p k v vs e) ∙ cond-false (same x k) (some v) (lookup x (keep_entries p vs)) s ∙ r a.1
    ∙ sym (ap (entries_passing p x) (cond-false (same x k) (some v) (lookup x vs) s)))
    (λ e.
    ap (lookup x) (keep_false p k v vs e) ∙ r a.1 ∙ sym (ap (entries_passing p x) (cond-false (same x k) (some v) (lookup x vs) s)))))

-- ---- entries put into a map

pub paired_enter_all : (vs ws : Items) → Paired vs → Paired ws → Paired (enter_all vs ws)
unfolding enter_all
paired_enter_all vs ws p q =
    by_entries (λ (ws : Items). (vs : Items) → Paired vs → Paired (enter_all vs ws)) (λ vs p. p)
    (λ k v ws q r vs p. r (enter k v vs) (paired_enter k v vs p))
    ws q vs p

pub ascending_enter_all : (vs ws : Items) → Paired vs → Paired ws → Ascending (keys vs) → Ascending (keys (enter_all vs ws))
unfolding enter_all
ascending_enter_all vs ws p q a =
    by_entries (λ (ws : Items). (vs : Items) → Paired vs → Ascending (keys vs) → Ascending (keys (enter_all vs ws))) (λ vs p a. a)
    (λ k v ws q r vs p a. r (enter k v vs) (paired_enter k v vs p) (ascending_enter k v vs p a))
    ws q vs p a

pub sound_enter_all : (vs ws : Items) → Paired vs → Paired ws → SoundItems vs → SoundItems ws → SoundItems (enter_all vs ws)
unfolding enter_all Sound
sound_enter_all vs ws p q s t =
    by_entries (λ (ws : Items). (vs : Items) → Paired vs → SoundItems vs → SoundItems ws → SoundItems (enter_all vs ws)) (λ vs p s t. s)
    (λ k v ws q r vs p s t. r (enter k v vs) (paired_enter k v vs p) (sound_enter k v vs p t.0 t.1.0 s) t.1.1)
    ws q vs p s t

-- The first, or else the second.
abbrev pub first_some : Option Value → Option Value → Option Value
first_some absent o = o
first_some (some v) o = some v

-- What stands at a key is what the entries put in say of it, and else what stood there.
pub lookup_enter_all : (x : Value) (vs ws : Items) → Paired vs → Paired ws → Ascending (keys ws) → lookup x (enter_all vs ws) ≡ first_some (lookup x ws) (lookup x vs)
unfolding every_other Ascending enter_all lookup
lookup_enter_all x vs ws p q a =
    by_entries (λ (ws : Items). (vs : Items) → Paired vs → Ascending (keys ws) → lookup x (enter_all vs ws) ≡ first_some (lookup x ws) (lookup x vs)) (λ vs p a. refl)
    (λ k v ws q r vs p a.
    let f = r (enter k v vs) (paired_enter k v vs p) a.1 in
    let g = lookup_enter x k v vs p in
    by_test (same x k)
    (λ s.
    let gone : lookup x ws ≡ absent = ap (λ (y : Value). lookup y ws) (same_true x k s) ∙ before_nothing k ws q a.0 in
    f ∙ ap (λ (o : Option Value). first_some o (lookup x (enter k v vs))) gone ∙ g ∙ cond-true (same x k) (some v) (lookup x vs) s
    ∙ sym (ap (λ (o : Option Value). first_some o (lookup x vs)) (cond-true (same x k) (some v) (lookup x ws) s)))
    (λ s.
    f ∙ ap (first_some (lookup x ws)) (g ∙ cond-false (same x k) (some v) (lookup x vs) s)
    ∙ sym (ap (λ (o : Option Value). first_some o (lookup x vs)) (cond-false (same x k) (some v) (lookup x ws) s))))
    ws q vs p a
