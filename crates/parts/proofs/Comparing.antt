-- The order of two runs, said of lists, places and numbers alone.
use mathlib.Core.Path.{◌≡◌, refl, sym, ap, ap₂, subst, ◌∙◌}
use mathlib.Core.List.{List}
use Prim.Native.Nat.{ℕ, ◌<◌}
use native.Mathlib.Omega.{arith}
use Rattle.std.specs.declared.cmp.Ordering.{Ordering}
use Rattle.std.specs.declared.cmp.Ordering.TheVariants.{Less, Equal, Greater}
use Rattle.values.specs.Value.{Value, after, order_items, within}
use Rattle.values.specs.Contract.{Ordered}
use Rattle.patterns.specs.Pattern.{items_of}
use Rattle.parts.specs.declared.runs.Run.{Run}
use Rattle.parts.specs.Run.{RunIs, RunHeld, RestOf, OrderedRuns}
use Rattle.parts.proofs.Running.{Head, run_end, run_head, between}

-- a run that is not at its end
pub apart : {s : List ℕ} {r : Run} {vs : List Value} → (r.from ≡ r.to → ⊥) → RunIs s r vs → r.from < r.to
apart f h = let b = between h.all h.here in omega (arith, f)

pub after_own : (o p : Ordering) → (o ≡ Equal → ⊥) → after o p ≡ o
after_own Less p f = refl
after_own Equal p f = absurd (f refl)
after_own Greater p f = refl

module _ {s : List ℕ} {a b : Run} where
  pub both_end : a.from ≡ a.to → b.from ≡ b.to → OrderedRuns s a b Equal
  unfolding within items_of
  both_end e f vs ws h k = sym (ap₂ order_items (ap items_of (run_end vs (omega arith) h)) (ap items_of (run_end ws (omega arith) k)))

  pub first_end : a.from ≡ a.to → (b.from ≡ b.to → ⊥) → OrderedRuns s a b Less
  unfolding within items_of
  first_end e f vs ws h k = sym (ap₂ order_items (ap items_of (run_end vs (omega arith) h)) (ap items_of (run_head ws (apart f k) k).is))

  pub second_end : (a.from ≡ a.to → ⊥) → b.from ≡ b.to → OrderedRuns s a b Greater
  unfolding within items_of
  second_end e f vs ws h k = sym (ap₂ order_items (ap items_of (run_head vs (apart e h) h).is) (ap items_of (run_end ws (omega arith) k)))

  module _ {o : Ordering} (ea : a.from ≡ a.to → ⊥) (eb : b.from ≡ b.to → ⊥) (c : Ordered s a.from b.from o) where
    -- the order of the items at which they stand, and then that of the rests
    heads : (vs ws : List Value) (x : Head s a vs) (y : Head s b ws) → order_items (items_of vs) (items_of ws) ≡ after o (order_items (items_of x.others) (items_of y.others))
    unfolding within items_of
    heads vs ws x y =
        ap₂ order_items (ap items_of x.is) (ap items_of y.is)
        ∙ ap (λ (p : Ordering). after p (order_items (items_of x.others) (items_of y.others))) (sym (c x.first y.first x.first-at y.first-at))

    -- they are settled by the first items
    settled : (r : Ordering) → ((p : Ordering) → after o p ≡ r) → OrderedRuns s a b r
    settled r f vs ws h k =
        let x = run_head vs (apart ea h) h in
        let y = run_head ws (apart eb k) k in
        sym (heads vs ws x y ∙ f (order_items (items_of x.others) (items_of y.others)))

    pub first_settled : (o ≡ Equal → ⊥) → OrderedRuns s a b o
    first_settled f = settled o (λ p. after_own o p f)

    pub first-same : {x y : Run} (r : Ordering) → o ≡ Equal → RestOf s a x → RestOf s b y → OrderedRuns s x y r → OrderedRuns s a b r
    first-same r d ra rb q vs ws h k =
        let x = run_head vs (apart ea h) h in
        let y = run_head ws (apart eb k) k in
        q x.others y.others (ra.right x.first x.others (subst (RunIs s a) x.is h)) (rb.right y.first y.others (subst (RunIs s b) y.is k))
        ∙ sym (heads vs ws x y ∙ ap (λ (p : Ordering). after p (order_items (items_of x.others) (items_of y.others))) d)

pub rest_held : {s : List ℕ} {a x : Run} → (a.from ≡ a.to → ⊥) → RunHeld s a → RestOf s a x → RunHeld s x
rest_held {s} {a} f h ra =
    let x = run_head h.items (apart f h.here) h.here in
    record { items = x.others; here = ra.right x.first x.others (subst (RunIs s a) x.is h.here) }
