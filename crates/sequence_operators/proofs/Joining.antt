-- Two sequences one after the other. Assumes nothing.
use mathlib.Core.Path.{◌≡◌, sym, ap, subst}
use mathlib.Core.List.{List}
use Prim.Native.Nat.{ℕ, ◌+◌, ◌-◌, ◌≤◌, ◌<◌}
use native.Mathlib.Omega.{arith}
use lib.ListN.{take, drop}
use Rattle.prelude.specs.declared.Refusal.TheVariants.{TooLarge}
use Rattle.integers.specs.Bytes.{word}
use Rattle.values.specs.Value.{sequence, number, Items, sizes, value_limit}
use Rattle.values.specs.Items.{join}
use Rattle.values.specs.Place.{ItemsAt}
use Rattle.values.specs.Contract.{Movable, Moved, PutHead}
use Rattle.values.proofs.Records.{holds, items_to, joined}
use Rattle.values.proofs.Encoding.{join_sizes}
use Rattle.values.proofs.Frame.{items_moved, items_below, outside_then}
use Rattle.values.proofs.Written.{headed_collection}
use Rattle.operators.specs.Answer.{Answer, closed as answered, sized}
use Rattle.operator_laws.proofs.Enumerations.{fitting_built, fits_not}
use Rattle.calling.specs.Scratch.{second}
use Rattle.std.specs.Prelude.{Ok, Err}
use Rattle.calling.proofs.Answering.{is_done}
use Rattle.calling.proofs.Framing.{kept_outside}
use Rattle.calling.specs.Operands.{HasTwo, OnBoth}
use Rattle.calling.proofs.Kinding.{both_by, both_off}

-- what ^ answers on the items of its operands
abbrev pub concatenated : Items → Items → Answer
concatenated vs ws = sized sequence (join vs ws)

module _ {s : List ℕ} {base n m : ℕ} (e : n ≡ word s base) (d : m ≡ word s (base + second)) where
  pub join_full : value_limit < n + m - 4 → OnBoth sequence sequence concatenated s s base (Err TooLarge)
  join_full f =
      both_off
      (λ vs ws a b.
      let x = (items_to e a).ends in
      let y = (items_to d b).ends in
      ap (answered sequence) (fits_not (join vs ws) (omega (arith, join_sizes vs ws))))

  module _ (h : HasTwo sequence sequence s base) (f : n + m - 4 ≤ value_limit) where
    pub join_movable : Movable s (base + second + 4) (base + n) (m - 4)
    join_movable = let a = holds h.left.here in let b = holds h.right.here in let r = h.room in record { there = omega arith; room = omega arith }

    pub join_done : {t u : List ℕ} → Moved s t (base + second + 4) (base + n) (m - 4) → PutHead t u base (n + m - 4) (number sequence) → OnBoth sequence sequence concatenated s u base (Ok tt)
    join_done {t} {u} moved head =
        let a = holds h.left.here in
        let b = holds h.right.here in
        let r = h.room in
        let vs = h.left.items in
        let ws = h.right.items in
        let x = items_to e h.left.here in
        let y = items_to d h.right.here in
        let i = x.ends in
        let j = y.ends in
        let l = moved.outside.long in
        let k = join_sizes vs ws in
        let z : sizes ws ≡ m - 4 = omega arith in
        let bytes : take (sizes ws) (drop (base + n) t) ≡ take (sizes ws) (drop (base + second + 4) s) =
        subst (λ (g : ℕ). take g (drop (base + n) t) ≡ take g (drop (base + second + 4) s)) (sym z) moved.bytes in
        let right : ItemsAt t (base + n) (base + (n + m - 4)) ws = items_moved (base + n) (base + (n + m - 4)) (omega arith) (omega arith) bytes y in
        let both = joined (items_below moved.outside (omega arith) x) right (omega arith) in
        both_by {f = concatenated}
        (kept_outside {from = base} {to = base + (n + m - 4)} (omega arith) (outside_then base (base + (n + m - 4)) (omega arith) (omega arith) (omega arith) (omega arith) moved.outside head.outside))
        h.left.here h.right.here
        (is_done (ap (answered sequence) (fitting_built (join vs ws) (omega arith))) (headed_collection (n + m - 4) head.bytes (omega arith) f tt both))
