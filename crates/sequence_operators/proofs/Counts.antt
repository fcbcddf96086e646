-- The number of a sequence's items as an integer, and the integers up to it. Assumes nothing.
use mathlib.Core.Path.{◌≡◌, refl, sym, ap, subst, ◌∙◌}
use mathlib.Core.List.{List}
use Prim.Native.Nat.{ℕ, ◌<◌}
use native.Mathlib.Omega.{arith}
use lib.IntN.{pos}
use mir.Syntax.{w32}
use mir.Val.{SFits, to_z}
use mir.Facts.{to_z-of_z}
use Rattle.integers.specs.Whole.{greatest_integer, InRange}
use Rattle.integers.proofs.Range.{fits_range}
use Rattle.values.specs.Value.{sequence, integer, Items, count}
use Rattle.values.specs.Contract.{Put}
use Rattle.values.proofs.Encoding.{collection_size, count_sizes}
use Rattle.collections.specs.Finding.{Counted}
use Rattle.operators.specs.Answer.{Answer, is}
use Rattle.operators.specs.Sets.{consecutive}
use Rattle.operator_laws.proofs.Ranges.{sound_up}
use Rattle.calling.specs.Applied.{Applied}
use Rattle.std.specs.Prelude.{Ok}
use Rattle.calling.specs.Applied.{Applies, Gives}
use Rattle.gathering.specs.Consecutive.{CountingRoom}
use Rattle.calling.proofs.Answering.{is_done}
use Rattle.calling.proofs.Framing.{put_kept}
use Rattle.calling.specs.Operands.{Has, OnItems}
use Rattle.calling.proofs.Kinding.{items_by}

-- what len answers on the items of its operand
abbrev pub length_of : Items → Answer
length_of vs = is (integer (pos (count vs)))

module _ {s : List ℕ} {base n : ℕ} (h : Has sequence s base) (c : Counted s base n) where
  -- each item takes four bytes or more
  pub count_small : n < 128
  count_small =
      let vs = h.held.items in
      let l = h.held.here.fine.short in
      omega (arith, c sequence vs h.held.here, count_sizes vs, collection_size sequence vs)

  pub count_fits : SFits w32 (pos n)
  count_fits = let l = count_small in record { sfits = omega arith }

  exact : to_z w32 n ≡ pos n
  exact = to_z-of_z count_fits

  pub count_range : InRange (to_z w32 n)
  count_range = rw exact (fits_range (pos n) count_fits)

  pub len_done : {t : List ℕ} {r : ℕ} → Put s t base (integer (to_z w32 n)) 8 r → OnItems sequence length_of s t base (Ok tt)
  len_done {t} p =
      let a = h.held.here in
      let e : integer (to_z w32 n) ≡ integer (pos (count h.held.items)) = ap integer (exact ∙ ap pos (c sequence h.held.items a)) in
      items_by {f = length_of} (put_kept p) a (is_done (ap is (sym e)) p.here)

-- what inds answers on the items of its operand
abbrev pub indexed : Items → Answer
indexed vs = consecutive (pos 1) (count vs)

module _ {s : List ℕ} {base n : ℕ} (h : Has sequence s base) (c : Counted s base n) where
  pub index_room : CountingRoom s base (pos 1) n
  index_room =
      let l = count_small h c in
      let r = h.room in
      record { room = omega arith; few = omega arith; fine = sound_up (pos 1) greatest_integer refl refl (pos 1) n (omega arith) (omega arith) }

  pub index_done : {t : List ℕ} {r : Applied} → Gives (consecutive (pos 1) n) s t base r → OnItems sequence indexed s t base r
  index_done {t} {r} g =
      let a = h.held.here in
      items_by {f = indexed} g.kept a (subst (λ (k : ℕ). Applies t base r (consecutive (pos 1) k)) (c sequence h.held.items a) g.right)
