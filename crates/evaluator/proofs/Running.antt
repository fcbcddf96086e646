-- A whole run: rule 9 leaves room for every level, and nothing is bound.
use mathlib.Core.Path.{◌≡◌, refl, sym, ap, subst, ◌∙◌}
use mathlib.Core.Logic.{inl}
use mathlib.Core.List.{List}
use Prim.Native.Nat.{ℕ, ◌-◌, ◌≤◌, ◌<◌}
use native.Mathlib.Omega.{arith}
use lib.ListN.{length, get_or, replicate, get_or-replicate}
use Rattle.values.specs.Place.{At}
use Rattle.tables.specs.Accepted.{records}
use Rattle.tables.proofs.Laws.Accepted.{accepted_fine, height_most}
use Rattle.choices.specs.State.{Choices}
use Rattle.patterns.specs.Binding.{free}
use Rattle.parts.specs.declared.words.Env.{Env}
use Rattle.parts.specs.Word.{unpacked}
use Rattle.meaning.specs.State.{unbound}
use Rattle.evaluator.specs.Contract.{Evaluated, Around, Ask, Comes, Evaluates, meant}
use Rattle.evaluator.specs.Sheet.{Runnable, Runs}

nothing_around : (s : List ℕ) {env : Env} → env.words ≡ replicate 16 0 → Around s 0 env unbound
nothing_around s {env} e =
    record {
      words_sized = ap length e;
      sized = refl;
      cells = λ x h. inl (ap (λ (n : ℕ). (unpacked n).how) (ap (λ (l : List ℕ). get_or l x 0) e ∙ get_or-replicate 16 x 0 0 h), get_or-replicate 16 x free free h);
    }

module _ {table : List ℕ} {count : ℕ} {s : List ℕ} {c : Choices} (a : Runnable table count s c) where
  counted : length (records table) ≡ count
  counted = sym (accepted_fine table count a.accepted).1

  pub run_some : 1 ≤ count
  run_some = omega (arith, (accepted_fine table count a.accepted).0.some_record, counted)

  pub run_asks : {env : Env} {r : ℕ} → env.words ≡ replicate 16 0 → r ≡ count - 1 → Ask table r s 0 env c
  run_asks {env} {r} e q =
      let l : r < length (records table) = omega (arith, counted, run_some) in
      record {
        legal = record { count = count; ok = a.accepted };
        within = l;
        room = omega (arith, height_most (records table) (accepted_fine table count a.accepted).0 r l, a.room);
        low = omega (arith, a.room);
        state = unbound;
        around = nothing_around s e;
        sound = a.sound;
      }

  pub run_done : {env : Env} {r : ℕ} {t : List ℕ} {e : Evaluated} → env.words ≡ replicate 16 0 → r ≡ count - 1 → Evaluates table r s t 0 env c e → Runs table t c e
  run_done {env} {r} {t} {e} w q g =
      let z : r ≡ length (records table) - 1 = omega (arith, counted) in
      subst (λ (n : ℕ). Comes (meant table n unbound) (At t 0) c e) z (g.right unbound (nothing_around s w))
