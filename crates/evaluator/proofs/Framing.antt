-- What stays around a record: the environment, and values that end below.
use mathlib.Core.Path.{sym, subst}
use mathlib.Core.Logic.{inl, inr}
use mathlib.Core.List.{List}
use Prim.Native.Nat.{ℕ, ◌+◌, ◌≤◌}
use native.Mathlib.Omega.{arith}
use lib.ListN.{length, get_or, take, length-take}
use lib.Seq.{take-take}
use Rattle.values.specs.Value.{Value, value_limit}
use Rattle.values.specs.Place.{At}
use Rattle.values.proofs.Frame.{kept}
use Rattle.parts.specs.declared.Part.{Part}
use Rattle.parts.specs.Part.{PartIs, CellIs}
use Rattle.parts.proofs.Laws.{part_longer}
use Rattle.patterns.specs.Binding.{Cell, cell_of}
use Rattle.calling.specs.Scratch.{Kept}
use Rattle.meaning.specs.State.{State}
use Rattle.parts.specs.declared.words.Env.{Env}
use Rattle.parts.specs.Word.{unpacked}
use Rattle.evaluator.specs.Contract.{Around}

pub around_kept : {s t : List ℕ} {base : ℕ} {env : Env} {ρ : State} → Kept s t base → Around s base env ρ → Around t base env ρ
around_kept {env = env} {ρ = ρ} k a =
    record {
      words_sized = a.words_sized;
      sized = a.sized;
      cells = λ x l. subst (λ (m : List ℕ). CellIs m (unpacked (get_or env.words x 0)) (cell_of ρ x)) (sym k.below) (a.cells x l);
    }

pub cell_up : (s : List ℕ) {n m : ℕ} → n ≤ m → m ≤ length s → (p : Part) (c : Cell) → CellIs (take n s) p c → CellIs (take m s) p c
cell_up s h l p c (inl g) = inl g
cell_up s {n} {m} h l p c (inr (v, e, g)) =
    inr (v, e, (part_longer {s = take m s} {p = p} {v = v} n (omega (arith, length-take m s)) (subst (λ (q : List ℕ). PartIs q p v) (sym (take-take n m s h)) g)).0)

pub around_up : {s : List ℕ} {n m : ℕ} {env : Env} {ρ : State} → n ≤ m → m ≤ length s → Around s n env ρ → Around s m env ρ
around_up {s} {env = env} {ρ = ρ} h l a =
    record { words_sized = a.words_sized; sized = a.sized; cells = λ x k. cell_up s h l (unpacked (get_or env.words x 0)) (cell_of ρ x) (a.cells x k) }

-- a value that ends below base stays
pub at_kept : {s t : List ℕ} {base at : ℕ} {v : Value} → Kept s t base → base ≤ length s → at + value_limit ≤ base → At s at v → At t at v
at_kept {base = base} k l h a = kept {base = base} k.below (omega (arith, k.long)) (omega (arith, a.fine.short)) a
