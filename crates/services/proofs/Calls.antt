-- Each service from what its parts leave: by the cases of what is due.
use mathlib.Core.Path.{◌≡◌, refl, sym, ap, ◌∙◌, subst}
use mathlib.Core.Bool.{cond}
use mathlib.Core.List.{List, [], ◌++◌, append-nil}
use Prim.Native.Nat.{ℕ, ◌-◌, ◌≤◌, ◌<◌}
use native.Mathlib.Omega.{arith}
use lib.ListN.{length, take, drop, drop_of_length-le, replicate, length-append, length-replicate, take-append-drop}
use lib.Seq.{take-append-le, drop_at, take-take, length-take-le}
use Rattle.std.specs.Prelude.{Ok, Err}
use Rattle.std.specs.declared.result.Result.{Result}
use Rattle.evaluator.specs.declared.Refused.{Refused}
use Rattle.evaluator.specs.Contract.{Ended}
use Rattle.prelude.specs.Refusals.{number_of as refusal_number}
use Rattle.tables.specs.declared.Fault.{Fault}
use Rattle.tables.specs.Faults.{number_of}
use Rattle.prelude.proofs.Absurd.{impossible}
use Rattle.choices.specs.declared.list.Walk.{Walk as Held}
use Rattle.choices.specs.Tree.{Final, result, refuses, most_choices}
use Rattle.choices.specs.Paths.{first_list, next_list}
use Rattle.choices.specs.Lists.{padded}
use Rattle.choices.specs.Listing.{Lists, Runnable, list_held}
use Rattle.values.specs.declared.Value.{Value as Copy}
use Rattle.values.specs.Value.{Value, encode, size, value_limit as largest}
use Rattle.values.proofs.Encoding.{encode_length}
use Rattle.values.specs.Place.{At, Holds}
use Rattle.values.proofs.Records.{holds}
use Rattle.values.specs.Contract.{ShowsAt}
use Rattle.tables.specs.Check.{check}
use Rattle.meaning.specs.Answer.{pack, packed, uncounted}
use Rattle.meaning.specs.Walk.{Walk, walk_list as listed, overwritten}
use Rattle.meaning.specs.Service.{scratch_bytes, tree, runs, firsts, steps, onward, stepped_from}
use Rattle.meaning.specs.Lent.{zeroed, filled_up as filled, is_early, AfterWalk, after_check, after_walk, after_evaluate, walk_after, result_after, check_call, evaluate_call, first_call, step_call}
use Rattle.meaning.proofs.Laws.ReadBack.{Late, first_late, step_late}
use Rattle.meaning.proofs.Laws.Services.{firsts_10, firsts_granted, steps_10, steps_long, steps_run}
use Rattle.walks.specs.declared.Stepped.{Stepped}
use Rattle.walks.specs.Steps.{Walkable, told, valueless, packed_refused, Ran, Answers, Steps}
use Rattle.services.specs.Left.{admits, Accepts, Loaded, walk_of, stored, Left, Given, Evaluated, answer_of, buffer_of}
use Rattle.services.proofs.Admitting.{accepted_due, refused_due, granted}

-- ---- the scratch that is lent on

pub part_long : (s : List ℕ) → scratch_bytes ≤ length s → scratch_bytes ≡ length (take scratch_bytes s)
part_long s h = sym (length-take-le scratch_bytes s h)

-- What is written into it leaves the rest.
module _ (s t : List ℕ) (long : length t ≡ scratch_bytes) where
  pub rest_kept : drop scratch_bytes (t ++ drop scratch_bytes s) ≡ drop scratch_bytes s
  rest_kept = drop_at t (drop scratch_bytes s) scratch_bytes long

  value_kept : (v : Value) → At t 0 v → At (t ++ drop scratch_bytes s) 0 v
  value_kept v a =
      record {
        fits = omega (arith, a.fits, length-append t (drop scratch_bytes s));
        fine = a.fine;
        bytes = take-append-le (size v) t (drop scratch_bytes s) (omega (arith, a.fits)) ∙ a.bytes;
      }

-- Clearing does not see what was there.
zeroed_same : (s t : List ℕ) → drop scratch_bytes t ≡ drop scratch_bytes s → zeroed scratch_bytes t ≡ zeroed scratch_bytes s
unfolding zeroed
zeroed_same s t e = ap (λ (x : List ℕ). replicate scratch_bytes 0 ++ x) e

module _ (table s : List ℕ) (n : ℕ) (ok : check table ≡ Ok n) (enough : scratch_bytes ≤ length s) where
  pub walkable : Walkable table n (take scratch_bytes s)
  walkable = record { ok = ok; room = length-take-le scratch_bytes s enough }

-- A sheet of an accepted table.
pub accepts : (table s : List ℕ) (buffer n : ℕ) → admits (length s) buffer table ≡ Ok n → (sheet : List ℕ) → sheet ≡ table → Accepts sheet n s
accepts table s buffer n e sheet q =
    let g = granted (length s) buffer table n e in record { ok = ap check q ∙ g.ok; enough = g.enough }

-- ---- refused by rules 1 to 9

module _ (table s : List ℕ) (x : Fault) (n : ℕ) (m : n ≡ number_of x.rule) (a : ℕ) (q : a ≡ pack n x.place 0) (s' : List ℕ) (d : s' ≡ cond (is_early n) s (zeroed scratch_bytes s)) where
  by_number : {A : Type 0} {due : Final A} → due ≡ refuses (number_of x.rule) x.place 0 → due ≡ refuses n x.place 0
  by_number e = e ∙ (λ i. refuses (sym m i) x.place 0)

  module _ (no : admits (length s) largest table ≡ Err x) where
    pub check_refused : check_call table s ≡ record { answer = a; scratch = s' }
    check_refused = ap (λ y. after_check y s) (by_number (refused_due (length s) largest table x no (λ k. result k))) ∙ (λ i. record { answer = sym q i; scratch = sym d i })

    walk_refused : (w : Walk) (due : Final (List ℕ)) → due ≡ refuses (number_of x.rule) x.place 0 → after_walk due s w ≡ record { answer = a; scratch = s'; walk = w }
    walk_refused w due e = ap (λ y. after_walk y s w) (by_number e) ∙ (λ i. record { answer = sym q i; scratch = sym d i; walk = w })

    pub first_refused : (w : Walk) → first_call table w s ≡ record { answer = a; scratch = s'; walk = w }
    first_refused w = walk_refused w _ (refused_due (length s) largest table x no _)

    pub step_refused : (w : Walk) → step_call table w s ≡ record { answer = a; scratch = s'; walk = w }
    step_refused w = walk_refused w _ (refused_due (length s) largest table x no _)

  pub evaluate_refused : (list buffer : List ℕ) → admits (length s) (length buffer) table ≡ Err x → (b' : List ℕ) → b' ≡ cond (is_early n) buffer (zeroed largest buffer) → evaluate_call table list s buffer ≡ record { answer = a; scratch = s'; buffer = b' }
  evaluate_refused list buffer off b' f =
      ap (λ y. after_evaluate y s buffer) (by_number (refused_due (length s) (length buffer) table x off _)) ∙ (λ i. record { answer = sym q i; scratch = sym d i; buffer = sym f i })

-- ---- check

pub check_accepted : (table s : List ℕ) (n : ℕ) → admits (length s) largest table ≡ Ok n → (a : ℕ) → a ≡ pack 0 0 n → (s' : List ℕ) → s' ≡ zeroed scratch_bytes s → check_call table s ≡ record { answer = a; scratch = s' }
check_accepted table s n ok a q s' d =
    ap (λ x. after_check x s) (accepted_due (length s) largest table n ok (λ k. result k)) ∙ (λ i. record { answer = sym q i; scratch = sym d i })

-- ---- evaluate

module _ (due : Final Value) (s : List ℕ) where
  pub evaluated_off : (n p k a : ℕ) → due ≡ refuses n p k → a ≡ pack n p k → Evaluated due s s (Err a)
  evaluated_off n p k a e q = record { given = subst (λ (f : Final Value). Given f (Err a)) (sym e) q; beyond = refl }

  -- The run of a list ended: its value is at the start of the scratch, or it is refused.
  module _ (table l t : List ℕ) (o : Ended) (e : due ≡ runs table l) (long : length t ≡ scratch_bytes) (r : Ran table l t o) where
    pub ran_holds : (u : Unit {0}) → o ≡ Ok u → Holds (t ++ drop scratch_bytes s) 0
    ran_holds u h = go (runs table l) (sym (ap told h) ∙ r.outcome) r.value
      where
        go : (f : Final Value) → result tt ≡ valueless f → ((v : Value) → f ≡ result v → At t 0 v) → Holds (t ++ drop scratch_bytes s) 0
        go (result v) q k = holds (value_kept s t long v (k v refl))
        go (refuses n p j) q k = impossible cc

    pub evaluated_value : (u : Unit {0}) → o ≡ Ok u → (c : Copy) → ShowsAt (t ++ drop scratch_bytes s) 0 c → Evaluated due s (t ++ drop scratch_bytes s) (Ok c)
    evaluated_value u h c w =
        record { given = subst (λ (f : Final Value). Given f (Ok c)) (sym e) (go (runs table l) (sym (ap told h) ∙ r.outcome) r.value); beyond = rest_kept s t long }
      where
        go : (f : Final Value) → result tt ≡ valueless f → ((v : Value) → f ≡ result v → At t 0 v) → Given f (Ok c)
        go (result v) q k =
            let a = value_kept s t long v (k v refl) in
            let shows = w v a in
            (shows, ap length shows.bytes ∙ length-append (encode v) (replicate (largest - length (encode v)) 0) ∙ omega (arith, encode_length v, a.fine.short, length-replicate {A = ℕ} (largest - length (encode v)) 0))
        go (refuses n p j) q k = impossible cc

    pub evaluated_refused : (x : Refused) → o ≡ Err x → (a : ℕ) → a ≡ packed_refused x → Evaluated due s (t ++ drop scratch_bytes s) (Err a)
    evaluated_refused x h a y =
        record { given = subst (λ (f : Final Value). Given f (Err a)) (sym e) (go (runs table l) (sym (ap told h) ∙ r.outcome)); beyond = rest_kept s t long }
      where
        go : (f : Final Value) → told (Err x) ≡ valueless f → Given f (Err a)
        go (result v) q = impossible cc
        go (refuses n p k) q =
            let i : refusal_number x.refusal ≡ n = cc in
            let j : x.place ≡ p = cc in
            let m : x.count ≡ k = cc in
            y ∙ (λ z. pack (i z) (j z) (m z))

-- What is handed out is what is due.
answer_due : (due : Final Value) (o : Result Copy ℕ) → Given due o → packed uncounted due ≡ answer_of o
answer_due (result v) (Ok c) g = refl
answer_due (result v) (Err a) g = absurd g
answer_due (refuses n p k) (Ok c) g = absurd g
answer_due (refuses n p k) (Err a) g = sym g

buffer_due : (due : Final Value) (o : Result Copy ℕ) (buffer : List ℕ) → Late due → Given due o → result_after due buffer ≡ buffer_of o buffer
unfolding zeroed filled
buffer_due (result v) (Ok c) buffer h g =
    ap (λ (x : List ℕ). x ++ drop largest buffer) (sym g.0.bytes) ∙ ap (λ (n : ℕ). c.bytes ++ drop n buffer) (sym g.1)
buffer_due (result v) (Err a) buffer h g = absurd g
buffer_due (refuses n p k) (Ok c) buffer h g = absurd g
buffer_due (refuses n p k) (Err a) buffer h g = ap (λ b. cond b buffer (zeroed largest buffer)) h

pub evaluate_done : (due : Final Value) (s t : List ℕ) (o : Result Copy ℕ) → Evaluated due s t o → (buffer : List ℕ) → Late due → (a : ℕ) → a ≡ answer_of o → (s' b' : List ℕ) → s' ≡ zeroed scratch_bytes t → b' ≡ buffer_of o buffer
    → after_evaluate due s buffer ≡ record { answer = a; scratch = s'; buffer = b' }
evaluate_done due s t o e buffer late a q s' b' d f =
    λ i.
    record {
      answer = (answer_due due o e.given ∙ sym q) i;
      scratch = (ap (λ x. cond x s (zeroed scratch_bytes s)) late ∙ sym (zeroed_same s t e.beyond) ∙ sym d) i;
      buffer = (buffer_due due o buffer late e.given ∙ sym f) i;
    }

-- ---- first list and step

walk_late : (due : Final (List ℕ)) (s : List ℕ) (w : Walk) (r : AfterWalk) → Late due → Left due w s r → (s' : List ℕ) → s' ≡ zeroed scratch_bytes r.scratch
    → after_walk due s w ≡ record { answer = r.answer; scratch = s'; walk = r.walk }
walk_late due s w r late l s' d =
    λ i.
    record {
      answer = sym l.answered i;
      scratch = (ap (λ x. cond x s (zeroed scratch_bytes s)) late ∙ sym (zeroed_same s r.scratch l.beyond) ∙ sym d) i;
      walk = sym l.walked i;
    }

left_off : (due : Final (List ℕ)) (w : Walk) (s : List ℕ) (n p k a : ℕ) → due ≡ refuses n p k → a ≡ pack n p k → Left due w s (record { answer = a; scratch = s; walk = w })
left_off due w s n p k a e q = record { answered = q ∙ sym (ap (packed uncounted) e); walked = sym (ap (λ x. walk_after x w) e); beyond = refl }

module _ (table s : List ℕ) (w : Walk) where
  module _ (enough : scratch_bytes ≤ length s) where
    pub first_call_lem : (sheet : List ℕ) → sheet ≡ table → (r : AfterWalk) → Left (firsts (length s) sheet w) w s r → (s' : List ℕ) → s' ≡ zeroed scratch_bytes r.scratch → first_call table w s ≡ record { answer = r.answer; scratch = s'; walk = r.walk }
    first_call_lem sheet q r l s' d =
        walk_late (firsts (length s) table w) s w r (first_late (length s) table enough w) (subst (λ (t : List ℕ). Left (firsts (length s) t w) w s r) q l) s' d

    pub step_call_lem : (sheet : List ℕ) → sheet ≡ table → (r : AfterWalk) → Left (steps (length s) sheet w) w s r → (s' : List ℕ) → s' ≡ zeroed scratch_bytes r.scratch → step_call table w s ≡ record { answer = r.answer; scratch = s'; walk = r.walk }
    step_call_lem sheet q r l s' d =
        walk_late (steps (length s) table w) s w r (step_late (length s) table enough w) (subst (λ (t : List ℕ). Left (steps (length s) t w) w s r) q l) s' d

    module _ (n : ℕ) (ok : check table ≡ Ok n) where
      module _ (a : ℕ) (q : a ≡ pack 10 0 0) where
        pub first_few : length w.entries < most_choices → Left (firsts (length s) table w) w s (record { answer = a; scratch = s; walk = w })
        first_few h = left_off _ w s 10 0 0 a (firsts_10 table (length s) enough n ok w h) q

        pub step_few : length w.entries < most_choices → Left (steps (length s) table w) w s (record { answer = a; scratch = s; walk = w })
        step_few h = left_off _ w s 10 0 0 a (steps_10 table (length s) enough n ok w h) q

        pub step_over : most_choices < w.len → Left (steps (length s) table w) w s (record { answer = a; scratch = s; walk = w })
        step_over h = left_off _ w s 10 0 0 a (steps_long table (length s) enough n ok w h) q

      module _ (all : most_choices ≤ length w.entries) (t : List ℕ) (long : length t ≡ scratch_bytes) where
        pub first_left : (v : Held) → Lists v (first_list (tree table)) → (v' : Walk) → v' ≡ stored v w.entries → (a : ℕ) → a ≡ pack 0 0 0
            → Left (firsts (length s) table w) w s (record { answer = a; scratch = t ++ drop scratch_bytes s; walk = v' })
        unfolding overwritten
        first_left v h v' e a q =
            let g = firsts_granted table (length s) enough n ok w all in
            record {
              answered = q ∙ sym (ap (packed uncounted) g);
              walked = e ∙ (λ i. record { entries = h.padding i ++ drop most_choices w.entries; len = h.long i }) ∙ sym (ap (λ x. walk_after x w) g);
              beyond = rest_kept s t long;
            }

        pub step_left : w.len ≤ most_choices → (v : Held) → Loaded w.entries w.len v → (r : Stepped) → Steps table v r → (v' : Walk) → v' ≡ stored r.walk w.entries
            → Left (steps (length s) table w) w s (record { answer = r.answer; scratch = t ++ drop scratch_bytes s; walk = v' })
        unfolding overwritten
        step_left within v h r k v' e =
            let due = stepped_from (runs table (listed w)) (onward (next_list (tree table) (listed w))) in
            let g = steps_run table (length s) enough n ok w all within in
            let same : list_held v ≡ listed w = ap (λ (m : ℕ). take m v.entries) h.len_is ∙ ap (take w.len) h.entries_are ∙ take-take w.len most_choices w.entries within in
            let j : Answers due v r = subst (λ (l : List ℕ). Answers (stepped_from (runs table l) (onward (next_list (tree table) l))) v r) same k in
            record {
              answered = j.answer ∙ sym (ap (packed uncounted) g);
              walked = e ∙ stored_after due j ∙ sym (ap (λ x. walk_after x w) g);
              beyond = rest_kept s t long;
            }
          where
            gone : drop most_choices v.entries ≡ []
            gone = drop_of_length-le v.entries {i = most_choices} (omega (arith, ap length h.entries_are, length-take-le most_choices w.entries all))

            stored_after : (due : Final (List ℕ)) → Answers due v r → stored r.walk w.entries ≡ walk_after due w
            stored_after (result l) j =
                λ i.
                record {
                  entries = (ap (λ (x : Walk). x.entries) j.walk ∙ ap (λ (x : List ℕ). padded l ++ x) gone ∙ append-nil (padded l)) i ++ drop most_choices w.entries;
                  len = (j.walk i).len;
                }
            stored_after (refuses m p x) j =
                λ i.
                record {
                  entries = (ap (λ (y : Walk). y.entries ++ drop most_choices w.entries) j.walk ∙ ap (λ (y : List ℕ). y ++ drop most_choices w.entries) h.entries_are ∙ take-append-drop most_choices w.entries) i;
                  len = (ap (λ (y : Walk). y.len) j.walk ∙ h.len_is) i;
                }

-- ---- walks and values in lent bytes

pub stored_is : (w : Held) (entries after : List ℕ) (len : ℕ) → length w.entries ≡ most_choices → after ≡ w.entries ++ drop (length w.entries) entries → len ≡ w.len → walk_of after len ≡ stored w entries
stored_is w entries after len long e q = λ i. record { entries = (e ∙ ap (λ n. w.entries ++ drop n entries) long) i; len = q i }

pub runnable_loaded : (entries : List ℕ) (len : ℕ) (w : Held) → most_choices ≤ length entries → len ≤ most_choices → Loaded entries len w → Runnable w
runnable_loaded entries len w all within h = record { sized = ap length h.entries_are ∙ length-take-le most_choices entries all; short = omega (arith, h.len_is) }
