-- Piece after piece: each is what comes next of the print.
use Rattle.std.proofs.lemmas.Result.{err_from_is_err_and}
use mathlib.Core.Path.{refl, sym, ap, ◌∙◌, subst}
use Prim.Native.Nat.{ℕ}
use lib.ListN.{take}
use native.Mathlib.Omega.{arith}
use Rattle.std.specs.Io.KnownBytes.{Appends}
use Rattle.print.specs.Print.{print_of}
use Rattle.printing.specs.declared.Progress.{Progress}
use Rattle.walk.proofs.Handing.{filled_as, filled_next, filled_end, printing_next, arrived_on, arrived_whole, nothing_arrived}
use Rattle.walk.proofs.print_pieces.Goals as goal

pub loop-sent-init : goal.loop-sent-init
loop-sent-init g c = record { printing = c.requires.0; same_length = refl; bytes = nothing_arrived _ }

pub fill-q-requires : goal.fill-q-requires
fill-q-requires g c = rw c.requires.1 c.loop-sent.invariant.printing.ready

pub slice_bounds-hand_on-end : goal.slice_bounds-hand_on-end
slice_bounds-hand_on-end g c = c.fill-q.ensures.grew.inside

pub hand_on-requires : goal.hand_on-requires
hand_on-requires g c = filled_next _ _ _ _ _ _ _ c.loop-sent.invariant.printing _ _ _ _ (filled_as c.requires.1 c.fill-q.ensures) c.fill-q.auto.out

pub returns-in_err-sent-clause-count : goal.returns-in_err-sent-clause-count
returns-in_err-sent-clause-count g c =
    let p = err_from_is_err_and c.from_residual.result c.from_residual.ensures.1 in
    rw (p.1, p.2) (omega (arith, c.in_err-sent.ensures.count, c.loop-sent.invariant.printing.within))

pub returns-then-q-clause-count : goal.returns-then-q-clause-count
returns-then-q-clause-count g c =
    c.in_ok-sent.ensures.count ∙ filled_end _ _ _ _ _ _ _ c.loop-sent.invariant.printing _ _ _ _ (filled_as c.requires.1 c.fill-q.ensures) c.fill-q.auto.out c.if-q.true

pub returns-then-q-clause-bytes : goal.returns-then-q-clause-bytes
returns-then-q-clause-bytes g c =
    arrived_whole _ _ _
    (filled_next _ _ _ _ _ _ _ c.loop-sent.invariant.printing _ _ _ _ (filled_as c.requires.1 c.fill-q.ensures) c.fill-q.auto.out)
    _ _ _ c.loop-sent.invariant.bytes c.in_ok-sent.ensures.bytes
    (filled_end _ _ _ _ _ _ _ c.loop-sent.invariant.printing _ _ _ _ (filled_as c.requires.1 c.fill-q.ensures) c.fill-q.auto.out c.if-q.true)

pub loop-sent-smaller : goal.loop-sent-smaller
loop-sent-smaller g c =
    omega (arith, c.fill-q.ensures.further c.if-q.false, c.fill-q.ensures.grew.stands.few, ap (λ (x : Progress). x.lists) c.emptied-p.ensures)

pub loop-sent-preserved : goal.loop-sent-preserved
loop-sent-preserved g c =
    record {
      printing = printing_next _ _ _ _ _ _ _ c.loop-sent.invariant.printing _ _ _ _ (filled_as c.requires.1 c.fill-q.ensures) c.fill-q.auto.out c.if-q.false _ c.in_ok-sent.ensures.count _ c.emptied-p.ensures;
      same_length = c.fill-q.auto.out ∙ c.loop-sent.invariant.same_length;
      bytes =
          subst (λ (k : ℕ). Appends (g.W.Write.contents c.args.output.now) (g.W.Write.contents c.hand_on.new.output) (take k (print_of c.args.table.now)))
          (sym c.in_ok-sent.ensures.count)
          (arrived_on _ _ _ (filled_next _ _ _ _ _ _ _ c.loop-sent.invariant.printing _ _ _ _ (filled_as c.requires.1 c.fill-q.ensures) c.fill-q.auto.out) _ _ _ c.loop-sent.invariant.bytes c.in_ok-sent.ensures.bytes);
    }
