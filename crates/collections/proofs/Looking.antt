-- The loop of `seek`: what is found from here on is what is found from the start on. Assumes nothing.
use mathlib.Core.Path.{◌≡◌, refl, sym, ap, ap₂, subst, ◌∙◌}
use lib.IntN.{ℤ}
use Rattle.integers.specs.Order.{order_ℕ, order_ℤ}
use mathlib.Core.Bool.{Bool, true, false, not}
use mathlib.Core.List.{List}
use Prim.Native.Nat.{ℕ, ◌+◌, ◌≤◌, ◌<◌}
use native.Mathlib.Omega.{arith}
use Rattle.integers.specs.Bytes.{word}
use Rattle.std.specs.declared.cmp.Ordering.{Ordering}
use Rattle.std.specs.declared.cmp.Ordering.TheVariants.{Less, Equal, Greater}
use Rattle.std.specs.Ordering.{is_le}
use Rattle.prelude.proofs.Absurd.{never}
use Rattle.values.specs.Value.{Value, integer, Items, more, size, within, order}
use Rattle.values.specs.Items.{in_order}
use Rattle.values.specs.Place.{At, Holds}
use Rattle.values.proofs.Records.{word_size, one_value, is_integer, items_to, items_none}
use Rattle.values.specs.Contract.{Length, KindAt, Ordered}
use Rattle.collections.specs.Finding.{Sought}
use Rattle.std.specs.Prelude.{Ok, Err}
use Rattle.collections.specs.Finding.{HoldsCollection, seek, Seeks, SeeksOn}
use Rattle.collections.proofs.Walks.{Walk, walk_start, walk_run, walk_step, walk_end, first_left}

abbrev Look : List ℕ → ℕ → ℕ → Bool → ℕ → Bool → Items → Items → Type 0
Look s at x entries p key vs rest = (v : Value) → At s x v → seek entries true v vs (at + 4) ≡ seek entries key v rest p

abbrev pub Looking : List ℕ → ℕ → ℕ → Bool → ℕ → Bool → Type 0
Looking s at x entries p key = Walk s at (Look s at x entries p key) p

seek_key : (entries : Bool) (v w : Value) (ws : Items) (p : ℕ) → seek entries true v (more w ws) p ≡ in_order (order v w) (Err p) (Ok p) (seek entries (not entries) v ws (p + size w))
unfolding seek
seek_key entries v w ws p = refl

seek_value : (entries : Bool) (v w : Value) (ws : Items) (p : ℕ) → seek entries false v (more w ws) p ≡ seek entries true v ws (p + size w)
unfolding seek
seek_value entries v w ws p = refl

module _ (s : List ℕ) (at x : ℕ) (entries : Bool) where
  pub look_start : Looking s at x entries (at + 4) true
  look_start = walk_start (λ vs v h. refl)

  module _ (p : ℕ) (key : Bool) (w : Looking s at x entries p key) where
    pub look_end : at + word s at ≤ p → Seeks s at x entries (Err p)
    unfolding seek
    look_end le kind vs v h g = sym (walk_end w le kind vs h v g)

    module _ (lt : p < at + word s at) where
      module _ (is_key : key ≡ true) (o : Ordering) (c : Ordered s x p o) where
        -- the answer by how the value and the key stand to each other
        pub look-here : (r : Sought) → ((q : Sought) → in_order o (Err p) (Ok p) q ≡ r) → Seeks s at x entries r
        look-here r f kind vs v h g =
            let y = first_left lt (w.whole kind vs h) in
            let u = y.first in
            let us = y.rest in
            sym
            (y.so v g ∙ ap (λ (b : Bool). seek entries b v (more u us) p) is_key ∙ seek_key entries v u us p
            ∙ ap (λ (i : Ordering). in_order i (Err p) (Ok p) (seek entries (not entries) v us (p + size u))) (sym (c v u g y.first-at))
            ∙ f (seek entries (not entries) v us (p + size u)))

        pub look_on : o ≡ Greater → (n : ℕ) → n ≡ word s p → Looking s at x entries (p + n) (not entries)
        look_on d n e =
            walk_step w lt
            (λ vs us u a l v g.
            l v g ∙ ap (λ (b : Bool). seek entries b v (more u us) p) is_key ∙ seek_key entries v u us p
            ∙ ap (λ (i : Ordering). in_order i (Err p) (Ok p) (seek entries (not entries) v us (p + size u))) (sym (c v u g a) ∙ d)
            ∙ ap (λ (m : ℕ). seek entries (not entries) v us (p + m)) (sym (e ∙ word_size a)))
            n e

      pub look_past : key ≡ false → (n : ℕ) → n ≡ word s p → Looking s at x entries (p + n) true
      look_past is_value n e =
          walk_step w lt
          (λ vs us u a l v g.
          l v g ∙ ap (λ (b : Bool). seek entries b v (more u us) p) is_value ∙ seek_value entries v u us p ∙ ap (λ (m : ℕ). seek entries true v us (p + m)) (sym (e ∙ word_size a)))
          n e

-- ---- where seeking starts

pub looks_on : {s : List ℕ} {at x p : ℕ} {entries : Bool} → Looking s at x entries p true → SeeksOn s at x entries p
looks_on w = record { from = w.from; left = λ k vs h. let l = w.whole k vs h in (l.rest, l.here, l.so) }

pub looked : {s : List ℕ} {at x p : ℕ} {entries : Bool} → SeeksOn s at x entries p → Looking s at x entries p true
looked o = record { from = o.from; whole = λ k vs h. let (rest, here, so) = o.left k vs h in record { rest = rest; here = here; so = so } }

integer_long : {s : List ℕ} {p : ℕ} {y : ℤ} → At s p (integer y) → 8 ≡ word s p
unfolding size
integer_long g = sym (word_size g)

-- the length of a record that is an integer's
pub integer_length : {s : List ℕ} {p k : ℕ} → Holds s p → KindAt s p k → k ≡ 2 → Length s p 8
integer_length {s} {p} h a e =
    let (z, d) = is_integer h.value (sym (a.right h.value h.here) ∙ e) in
    let g : At s p (integer z) = subst (At s p) d h.here in
    record { is = integer_long g; low = omega arith; high = omega arith; right = λ v i. integer_long g ∙ word_size i }

integers_by_size : (z y : ℤ) → order (integer z) (integer y) ≡ order_ℤ z y
unfolding within order_ℕ
integers_by_size z y = refl

-- past an integer that is lower
pub look_higher : {s : List ℕ} {at x p : ℕ} {z y z' y' : ℤ} {o : Ordering} → Looking s at x false p true → p < at + word s at → At s x (integer z) → At s p (integer y) → z' ≡ z → y' ≡ y → o ≡ order_ℤ z' y' → o ≡ Greater → Looking s at x false (p + 8) true
look_higher {s} {at} {x} {p} {z} {y} {o = o} w lt h g e f q d =
    look_on s at x false p true w lt refl o (λ v u i j. q ∙ ap₂ order_ℤ e f ∙ sym (integers_by_size z y) ∙ ap₂ order (one_value h i) (one_value g j)) d 8 (integer_long g)

pub integer_inside : {s : List ℕ} {at x p : ℕ} {y : ℤ} → HoldsCollection s at → Looking s at x false p true → p < at + word s at → At s p (integer y) → p + 8 ≤ at + word s at
integer_inside h w lt g = omega (arith, (walk_run w lt h).inside, integer_long g)

-- of entries, or not
pub among : {s : List ℕ} {at x p : ℕ} {entries : Bool} → entries ≡ false → SeeksOn s at x false p → SeeksOn s at x entries p
among {s} {at} {x} {p} e h = subst (λ (b : Bool). SeeksOn s at x b p) (sym e) h

-- Nothing stands in what is empty.
pub seek-empty : (s : List ℕ) (at x n : ℕ) (entries : Bool) → n ≡ word s at → n ≡ 4 → Seeks s at x entries (Err (at + 4))
unfolding seek
seek-empty s at x n entries e f kind vs v h g = ap (λ (l : Items). seek entries true v l (at + 4)) (sym (items_none (omega arith) (items_to e h)))

-- ---- an order that is tested

pub not_le : {o : Ordering} → is_le o ≡ false → o ≡ Greater
not_le {o = Less} e = never (sym e)
not_le {o = Equal} e = never (sym e)
not_le {o = Greater} e = refl
