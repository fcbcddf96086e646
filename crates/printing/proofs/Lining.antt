-- The line of the list that is due, from its run.
use mathlib.Core.Path.{◌≡◌, refl, sym, ap, ap₂, ◌∙◌, subst}
use mathlib.Core.Bool.{Bool, true, false}
use mathlib.Core.List.{List, [], ◌∷◌, ◌++◌}
use Prim.Native.Nat.{ℕ, suc, ◌+◌, ◌-◌, ◌≤◌, ◌<◌}
use native.Mathlib.Omega.{arith}
use lib.ListN.{length, take, replicate, length-take}
use lib.Seq.{take-append_seam}
use Rattle.std.specs.Prelude.{Option}
use Rattle.prelude.proofs.Absurd.{impossible}
use Rattle.prelude.specs.declared.Refusal.{Refusal}
use Rattle.prelude.specs.Refusals.{number_of}
use Rattle.choices.specs.State.{Choices, Advanced, Invariant, Moved}
use Rattle.choices.specs.declared.list.Walk.{Walk}
use Rattle.choices.specs.Tree.{Tree, Numbered, Run, gave, stopped, short, beyond, run, result, refuses, final, most_choices}
use Rattle.choices.specs.Lists.{Ended as IsEnded, Complete}
use Rattle.choices.proofs.Walk.{stopped_number}
use Rattle.choices.proofs.States.{Holds}
use Rattle.lists.specs.Lent.{lent}
use Rattle.lists.specs.Runs.{UsedWhole as Whole, SameList as Kept}
use Rattle.values.specs.Place.{At}
use Rattle.meaning.specs.Read.{sheet}
use Rattle.meaning.specs.Service.{tree, last, runs}
use Rattle.evaluator.specs.Contract.{Ended, Comes, gave as came_gave, off as came_off, ended}
use Rattle.walks.proofs.Settling.{sure_tree}
use Rattle.print.specs.Text.{line}
use Rattle.print.specs.Print.{most_lines}
use Rattle.print.specs.Contract.{longest_line, Wrote, Answers, gave as answers_gave, refused as answers_refused, LineRoom, LineWritten}
use Rattle.printing.specs.declared.Progress.{Progress}
use Rattle.printing.specs.Due.{list_at, Due, Behind}
use Rattle.printing.specs.Rest.{from_list}
use Rattle.printing.specs.Contract.{refusal_of, Worded, due, Ready, Lined}
use Rattle.printing.proofs.Walking.{complete_at, due_final, due_holds, due_behind}
use Rattle.printing.proofs.Texts.{is_due, from_next, wrote_inside, wrote_beyond, wrote_next}

-- A complete list's refusal is one of 20 to 31.
pub refusal_number : {A : Type 0} (t : Tree A) (l : List ℕ) (last n p k : ℕ) → Numbered t → Complete t l → refuses n p k ≡ final last (run t l) → (20 ≤ n) × (n ≤ 31)
refusal_number {A} t l last n p k m h e = go (run t l) refl h e
  where
    go : (r : Run A) → run t l ≡ r → IsEnded r → refuses n p k ≡ final last r → (20 ≤ n) × (n ≤ 31)
    go (gave a j []) q h e = impossible cc
    go (gave a j (c ∷ left)) q h e = impossible cc
    go (stopped r s []) q h e = let d : n ≡ r = cc in let b = stopped_number t most_choices l r s [] m q in (omega (arith, b.0), omega (arith, b.1))
    go (stopped r s (c ∷ left)) q h e = impossible cc
    go (short s j) q h e = absurd h
    go (beyond s j left) q h e = absurd h

-- What the run of the k-th list tells: its answer, the list itself, and where the advance leads.
pub record Told (table s run : List ℕ) (o : Ended) (k : ℕ) : Type 0 where
  pub worded : Worded (refusal_of o)
  pub answers : Answers s (refusal_of o) (runs table (list_at (tree table) k))
  pub holds : Holds (lent run) (list_at (tree table) k)
  pub sound : Invariant (lent run)
  pub onward : (r : Advanced) → Moved (lent run) r → Behind (tree table) (suc k) r.more r.state

module _ (table s run' : List ℕ) (o : Ended) (k : ℕ) (c : Choices) (d : Due (tree table) k c) where
  pub told : Comes (tree table) (At s 0) c (ended o (lent run')) → Told table s run' o k
  told (came_gave {a} e v h) =
      record {
        worded = subst Worded (sym (ap refusal_of e)) tt;
        answers = answers_gave (ap refusal_of e) a (sym (due_final (tree table) k c d (result a) (lent run') h (last (sheet table)))) v;
        holds = due_holds (tree table) k c d (result a) (lent run') h;
        sound = h.sound;
        onward = λ r m. due_behind (tree table) k c d (result a) (lent run') h (sure_tree table).full r m;
      }
  told (came_off {x} e h) =
      let answer = refuses (number_of x.refusal) x.place x.count in
      let f = due_final (tree table) k c d answer (lent run') h (last (sheet table)) in
      record {
        worded = subst Worded (sym (ap refusal_of e)) (refusal_number (tree table) (list_at (tree table) k) (last (sheet table)) (number_of x.refusal) x.place x.count (sure_tree table).numbered (complete_at (tree table) k d.below) f);
        answers = answers_refused x.refusal (ap refusal_of e) x.place x.count (sym f);
        holds = due_holds (tree table) k c d answer (lent run') h;
        sound = h.sound;
        onward = λ r m. due_behind (tree table) k c d answer (lent run') h (sure_tree table).full r m;
      }

module _ (table s run : List ℕ) (o : Ended) (k : ℕ) (t : Told table s run o k) where
  pub used_all : Whole run
  used_all = record { sound = t.sound; used = t.holds.used }

  module _ (w : Walk) (kept : Kept run w) where
    pub list_inside : w.len ≤ length w.entries
    list_inside = omega (arith, kept.len, ap length kept.entries, t.sound.entries_sized, t.sound.len_within)

    -- The walk's entries below its length are the list.
    list_is : take w.len w.entries ≡ list_at (tree table) k
    list_is =
        ap₂ (λ (n : ℕ) (l : List ℕ). take n l) (kept.len ∙ t.holds.len) (kept.entries ∙ t.holds.entries)
        ∙ take-append_seam (list_at (tree table) k) (replicate (most_choices - length (list_at (tree table) k)) 0)

    pub line_room : (n : Option Refusal) → n ≡ refusal_of o → (out : List ℕ) (at : ℕ) → at + longest_line ≤ length out → LineRoom (take w.len w.entries) n s out at
    line_room n e out at room =
        record {
          few = simp length-take (omega (arith, kept.len, t.sound.len_within));
          answered = record { answer = runs table (list_at (tree table) k); answers = subst (λ (x : Option Refusal). Answers s x (runs table (list_at (tree table) k))) (sym e) t.answers };
          room = room;
        }

-- ---- a line written

module _ (table : List ℕ) (count : ℕ) (s run out : List ℕ) (p : Progress) (y : Ready table count s run out p) (e : due p ≡ true) where
  pub ready_due : Due (tree table) p.lists (lent run)
  ready_due = (is_due table p (lent run) y.stands.behind y.stands.few e).0

  pub ready_few : p.lists < most_lines
  ready_few = (is_due table p (lent run) y.stands.behind y.stands.few e).1

  module _ (s' run' : List ℕ) (o : Ended) (t : Told table s' run' o p.lists) (w : Walk) (kept : Kept run' w) (n : Option Refusal) (q : n ≡ refusal_of o) (out' : List ℕ) (r : ℕ) (h : LineWritten (take w.len w.entries) n s' out out' p.at r) where
    abbrev list : List ℕ
    list = list_at (tree table) p.lists

    abbrev bytes : List ℕ
    bytes = line list (runs table list)

    wrote : Wrote out out' p.at bytes r
    wrote =
        subst (λ (l : List ℕ). Wrote out out' p.at (line l (runs table list)) r) (list_is table s' run' o p.lists t w kept)
        (h.right (runs table list) (subst (λ (x : Option Refusal). Answers s' x (runs table list)) (sym q) t.answers))

    fits : p.at + length bytes ≤ length out
    fits = omega (arith, h.within, wrote.ends, y.room)

    pub lined : (run'' : List ℕ) (more : Bool) → Moved (lent run') (record { more = more; state = lent run'' }) → length s' ≡ length s → (m : ℕ) → m ≡ suc p.lists → Lined table count s' run'' out' out p (record { lists = m; more = more; over = false; at = r })
    lined run'' more moved kept_s m i =
        record {
          grew =
              record {
                stands =
                    record {
                      walkable = record { ok = y.stands.walkable.ok; room = kept_s ∙ y.stands.walkable.room };
                      behind = subst (λ (x : ℕ). Behind (tree table) x more (lent run'')) (sym i) (t.onward (record { more = more; state = lent run'' }) moved);
                      few = omega (arith, ready_few);
                    };
                inside = wrote_inside out out' bytes p.at r wrote fits;
                text = wrote_next out out' bytes p.at r wrote fits (from_list table p.lists) (from_list table m) (from_next table p.lists ready_few ready_due.below ∙ ap (λ (x : ℕ). bytes ++ from_list table x) (sym i));
                longer = omega (arith, wrote.ends);
                beyond = wrote_beyond out out' bytes p.at r wrote fits;
              };
          next = omega arith;
          going = refl;
          short = h.within;
        }
