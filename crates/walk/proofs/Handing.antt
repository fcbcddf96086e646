-- The pieces that are handed to standard output: each is what comes next of the print, and the last ends where the print does.
use mathlib.Core.Path.{◌≡◌, sym, ap, ap₂, ◌∙◌, subst}
use mathlib.Core.Bool.{Bool, true, false, cond}
use mathlib.Core.List.{List, [], ◌++◌}
use Prim.Native.Nat.{ℕ, ◌+◌, ◌-◌, ◌≤◌}
use native.Mathlib.Omega.{arith}
use lib.ListN.{length, take, drop, length-append, length-drop}
use lib.Seq.{length-take-le, take-add, take-length, take-append_seam, drop-append_seam, drop-drop}
use Rattle.std.specs.Prelude.{Option, Ok, Err}
use Rattle.std.specs.declared.result.Result.{Result}
use Rattle.std.specs.Io.KnownBytes.{Appends}
use Rattle.std.proofs.KnownBytes.{Appends-nil, Appends-trans}
use Rattle.prelude.proofs.Absurd.{never}
use Rattle.choices.specs.declared.list.Walk.{Walk}
use Rattle.choices.specs.State.{Made}
use Rattle.choices.specs.Listing.{Lists, list_held}
use Rattle.lists.specs.Lent.{lent}
use Rattle.tables.specs.declared.Fault.{Fault}
use Rattle.tables.specs.Faults.{number_of}
use Rattle.tables.specs.Check.{check}
use Rattle.meaning.proofs.Laws.ReadBack.{SmallCheck, small_check}
use Rattle.meaning.specs.Service.{tree, scratch_bytes}
use Rattle.walks.proofs.Settling.{sure_tree}
use Rattle.print.specs.Print.{refused_line, printed, print_of}
use Rattle.print.specs.Contract.{Wrote, short_line}
use Rattle.print.proofs.Whole.{print_refused}
use Rattle.print.proofs.Decimals.{decimal_any}
use Rattle.printing.specs.declared.Progress.{Progress}
use Rattle.printing.specs.Due.{Due}
use Rattle.printing.specs.Rest.{from_list, to_come}
use Rattle.printing.specs.Contract.{Begun, Filled, most_piece, Printing}
use Rattle.printing.proofs.Walking.{first_due}
use Rattle.printing.proofs.Texts.{wrote_inside, wrote_take}
use Rattle.walk.specs.declared.Failure.{Failure}
use Rattle.walk.specs.Output.{Next, HandedOn, Printed, Arrived}

-- ---- a refused table

module _ (table : List ℕ) (x : Fault) (e : check table ≡ Err x) where
  refused_short : length (refused_line (number_of x.rule) x.place) ≤ short_line
  refused_short =
      let small = subst SmallCheck e (small_check table) in
      simp length-append (omega (arith, decimal_any (number_of x.rule) (omega (arith, small.1)), decimal_any x.place (omega (arith, small.2))))

  module _ (out out' : List ℕ) (r : ℕ) (w : Wrote out out' 0 (refused_line (number_of x.rule) x.place) r) (room : short_line ≤ length out) where
    pub refused_inside : r ≤ length out'
    refused_inside = wrote_inside out out' (refused_line (number_of x.rule) x.place) 0 r w (omega (arith, refused_short))

    -- It is the whole print.
    pub refused_whole : take r out' ≡ print_of table
    refused_whole =
        wrote_take out out' (refused_line (number_of x.rule) x.place) 0 r w (omega (arith, refused_short))
        ∙ sym (print_refused table x.rule x.place e)

    pub refused_next : Next table 0 (take r out')
    refused_next =
        record {
          piece_is = ap (take (length (take r out'))) (sym refused_whole) ∙ take-length (take r out');
          counted = omega (arith, ap length (wrote_take out out' (refused_line (number_of x.rule) x.place) 0 r w (omega (arith, refused_short))), refused_short);
        }

    -- What is told of the piece is told of the print.
    pub refused_printed : (s : Result ℕ Failure) → HandedOn 0 (take r out') s → Printed table s
    refused_printed (Ok n) h = let l : length (take r out') ≡ length (print_of table) = ap length refused_whole in omega (arith, h, l)
    refused_printed (Err f) h = omega (arith, h)

    pub refused_arrived : (a b : Option (List ℕ)) (s : Result ℕ Failure) → Arrived a b (take r out') s → Arrived a b (print_of table) s
    refused_arrived a b s h = subst (λ (l : List ℕ). Arrived a b l s) refused_whole h

-- ---- what arrived

-- Nothing of the print did.
pub nothing_arrived : (a : Option (List ℕ)) → Appends a a []
nothing_arrived a = Appends-nil a

-- A piece arrived behind what of the print had.
module _ (table : List ℕ) (sent : ℕ) (piece : List ℕ) (n : Next table sent piece) (a b c : Option (List ℕ)) (had : Appends a b (take sent (print_of table))) (got : Appends b c piece) where
  pub arrived_on : Appends a c (take (sent + length piece) (print_of table))
  arrived_on =
      subst (Appends a c)
      (ap (λ (l : List ℕ). take sent (print_of table) ++ l) (sym n.piece_is) ∙ sym (take-add sent (length piece) (print_of table)))
      (Appends-trans a b c (take sent (print_of table)) piece had got)

  pub arrived_whole : sent + length piece ≡ length (print_of table) → Appends a c (print_of table)
  arrived_whole e =
      subst (Appends a c) (ap (λ (k : ℕ). take k (print_of table)) e ∙ take-length (print_of table)) arrived_on

-- ---- the start

module _ (table : List ℕ) (count : ℕ) (ok : check table ≡ Ok count) where
  pub printing_start : (s run out out₀ : List ℕ) → length s ≡ scratch_bytes → Made [] true (lent run) → length out ≡ most_piece → (p : Progress) → Begun count out out₀ p → Printing table count s run out 0 p
  printing_start s run out out₀ room made long p b =
      record {
        ready =
            record {
              stands =
                  record {
                    walkable = record { ok = ok; room = room };
                    behind =
                        record {
                          next = λ e. subst (λ (k : ℕ). Due (tree table) k (lent run)) (sym b.none_yet) (first_due (tree table) (sure_tree table).full (lent run) made);
                          none = λ e. never (sym e ∙ b.more);
                        };
                    few = omega (arith, b.none_yet);
                  };
              going = b.going;
              room = omega (arith, b.short);
            };
        text =
            ap (printed table) ok
            ∙ ap₂ (λ (l : List ℕ) (k : ℕ). l ++ from_list table k) (sym b.text) (sym b.none_yet);
        within = omega arith;
        small = omega arith;
        counted = omega arith;
      }

-- ---- from piece to piece

module _ (table : List ℕ) (count : ℕ) (s run out : List ℕ) (sent : ℕ) (p : Progress) (h : Printing table count s run out sent p) (s' run' out' : List ℕ) (q : Progress) (f : Filled table count s' run' out' out p q) (long : length out' ≡ length out) where
  abbrev piece : List ℕ
  piece = take q.at out'

  filled_text : drop sent (print_of table) ≡ piece ++ to_come table q
  filled_text = h.text ∙ sym f.grew.text

  filled_long : length (print_of table) - sent ≡ length piece + length (to_come table q)
  filled_long = sym (length-drop sent (print_of table)) ∙ ap length filled_text ∙ length-append piece (to_come table q)

  filled_after : drop (sent + length piece) (print_of table) ≡ to_come table q
  filled_after =
      sym (drop-drop (length piece) sent (print_of table))
      ∙ ap (drop (length piece)) filled_text
      ∙ drop-append_seam piece (to_come table q)

  piece_long : length piece ≡ q.at
  piece_long = length-take-le q.at out' f.grew.inside

  pub filled_next : Next table sent piece
  filled_next =
      record {
        piece_is = ap (take (length piece)) filled_text ∙ take-append_seam piece (to_come table q);
        counted = omega (arith, piece_long, f.grew.inside, h.small, h.counted, h.ready.stands.few);
      }

  pub filled_end : q.over ≡ true → sent + length piece ≡ length (print_of table)
  filled_end o = omega (arith, filled_long, ap (λ (b : Bool). length (cond b [] (from_list table q.lists))) o, h.within)

  pub printing_next : q.over ≡ false → (m : ℕ) → m ≡ sent + length piece → (r : Progress) → r ≡ record { lists = q.lists; more = q.more; over = q.over; at = 0 } → Printing table count s' run' out' m r
  printing_next e m i r j =
      subst (λ (x : Progress). Printing table count s' run' out' m x) (sym j)
      (record {
        ready =
            record {
              stands = record { walkable = f.grew.stands.walkable; behind = f.grew.stands.behind; few = f.grew.stands.few };
              going = e;
              room = omega (arith, h.ready.room);
            };
        text =
            ap (λ (n : ℕ). drop n (print_of table)) i
            ∙ filled_after
            ∙ ap (λ (b : Bool). cond b [] (from_list table q.lists)) e;
        within = omega (arith, filled_long, h.within);
        small = omega (arith, h.small);
        counted = omega (arith, piece_long, f.grew.inside, h.small, h.counted, f.further e);
      })

-- What was filled of a sheet was filled of its table.
pub filled_as : {sheet table : List ℕ} {count : ℕ} {s run out out₀ : List ℕ} {p q : Progress} → sheet ≡ table → Filled sheet count s run out out₀ p q → Filled table count s run out out₀ p q
filled_as {sheet} {table} {count} {s} {run} {out} {out₀} {p} {q} e f = subst (λ (t : List ℕ). Filled t count s run out out₀ p q) e f

-- Choices made of the empty walk.
pub made_empty : (w : Walk) → Lists w [] → (run : List ℕ) → Made (list_held w) true (lent run) → Made [] true (lent run)
made_empty w h run m = subst (λ (l : List ℕ). Made l true (lent run)) (ap (λ (n : ℕ). take n w.entries) h.long) m
