-- The loop that writes as many lines as fit: what is in the buffer and what is to come stay together what they were.
use mathlib.Core.Path.{◌≡◌, refl, sym, ap, ◌∙◌, subst}
use mathlib.Core.Bool.{Bool, true, false, cond}
use mathlib.Core.List.{List, [], ◌++◌}
use Prim.Native.Nat.{ℕ, ◌+◌, ◌*◌, ◌-◌, ◌≤◌, ◌<◌}
use native.Mathlib.Omega.{arith}
use lib.ListN.{length, take, drop}
use lib.Seq.{drop-drop}
use Rattle.meaning.specs.Service.{tree}
use Rattle.lists.specs.Lent.{lent}
use Rattle.print.specs.Print.{most_lines}
use Rattle.print.specs.Contract.{longest_line}
use Rattle.printing.specs.declared.Progress.{Progress}
use Rattle.printing.specs.Due.{Behind}
use Rattle.printing.specs.Rest.{from_list, to_come}
use Rattle.printing.specs.Contract.{due, Ready, Grew, Lined, closing, Closed, Filled}
use Rattle.printing.proofs.Texts.{is_due, not_due}

-- It has gone on from p to q; each line took at most the longest line's length.
pub record Filling (table : List ℕ) (count : ℕ) (s run out out₀ : List ℕ) (p q : Progress) : Type 0 where
  pub grew : Grew table count s run out out₀ p q
  pub going : q.over ≡ false
  pub long : length out ≡ length out₀
  pub onward : p.lists ≤ q.lists
  pub bound : q.at + longest_line * p.lists ≤ p.at + longest_line * q.lists

-- A print that goes on has the lines of its lists to come.
going_on : (table : List ℕ) (p : Progress) → p.over ≡ false → to_come table p ≡ from_list table p.lists
going_on table p e = ap (λ (b : Bool). cond b [] (from_list table p.lists)) e

module _ (table : List ℕ) (count : ℕ) where
  pub filling_start : (s run out : List ℕ) (p : Progress) → Ready table count s run out p → Filling table count s run out out p p
  filling_start s run out p y =
      record {
        grew = record { stands = y.stands; inside = omega (arith, y.room); text = ap (λ (l : List ℕ). take p.at out ++ l) (going_on table p y.going); longer = omega arith; beyond = refl };
        going = y.going;
        long = refl;
        onward = omega arith;
        bound = omega arith;
      }

  module _ (s run out out₀ : List ℕ) (p q : Progress) (f : Filling table count s run out out₀ p q) where
    pub filling_full : p.lists < q.lists → Filled table count s run out out₀ p q
    filling_full h = record { grew = f.grew; further = λ e. h }

    pub filling_ready : q.at + longest_line ≤ length out → Ready table count s run out q
    filling_ready h = record { stands = f.grew.stands; going = f.going; room = h }

    pub filling_few : due q ≡ true → q.lists < most_lines
    filling_few e = (is_due table q (lent run) f.grew.stands.behind f.grew.stands.few e).1

    -- What was to come at q, in terms of p.
    whole : take q.at out ++ from_list table q.lists ≡ take p.at out₀ ++ from_list table p.lists
    whole = ap (λ (l : List ℕ). take q.at out ++ l) (sym (going_on table q f.going)) ∙ f.grew.text

    -- Behind a longer piece too the buffer is as it was.
    still_beyond : {r : ℕ} → q.at ≤ r → drop r out ≡ drop r out₀
    still_beyond {r} k =
        let e : q.at + (r - q.at) ≡ r = omega arith in
        ap (λ (n : ℕ). drop n out) (sym e)
        ∙ sym (drop-drop (r - q.at) q.at out)
        ∙ ap (drop (r - q.at)) f.grew.beyond
        ∙ drop-drop (r - q.at) q.at out₀
        ∙ ap (λ (n : ℕ). drop n out₀) e

    pub filling_more : (s' run' out' : List ℕ) (r : Progress) → Lined table count s' run' out' out q r → length out' ≡ length out → Filling table count s' run' out' out₀ p r
    filling_more s' run' out' r h k =
        record {
          grew =
              record {
                stands = h.grew.stands;
                inside = h.grew.inside;
                text = h.grew.text ∙ whole;
                longer = omega (arith, f.grew.longer, h.grew.longer);
                beyond = h.grew.beyond ∙ still_beyond h.grew.longer;
              };
          going = h.going;
          long = k ∙ f.long;
          onward = omega (arith, f.onward, h.next);
          bound = omega (arith, f.bound, h.next, h.short);
        }

    -- The last line is written, or there is no room for it.
    pub filling_end : due q ≡ false → p.at + longest_line ≤ length out₀ → (out' : List ℕ) (r : Progress) → Closed out' out q r → length out' ≡ length out → Filled table count s run out' out₀ p r
    filling_end e room out' r h k =
        let last : from_list table q.lists ≡ closing q = not_due table q (lent run) f.grew.stands.behind f.grew.stands.few e in
        record {
          grew =
              record {
                stands =
                    record {
                      walkable = f.grew.stands.walkable;
                      behind = subst (λ (m : Bool). Behind (tree table) r.lists m (lent run)) (sym h.same_more) (subst (λ (n : ℕ). Behind (tree table) n q.more (lent run)) (sym h.same_lists) f.grew.stands.behind);
                      few = omega (arith, h.same_lists, f.grew.stands.few);
                    };
                inside = h.inside;
                text =
                    ap (λ (l : List ℕ). take r.at out' ++ cond r.over [] l) (ap (from_list table) h.same_lists ∙ last)
                    ∙ h.text
                    ∙ ap (λ (l : List ℕ). take q.at out ++ l) (sym last)
                    ∙ whole;
                longer = omega (arith, f.grew.longer, h.longer);
                beyond = h.beyond ∙ still_beyond h.longer;
              };
          further = λ o. omega (arith, h.full o, h.same_lists, f.bound, f.long);
        }
