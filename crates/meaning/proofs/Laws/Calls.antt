-- What the calls of the first list and the step answer on an accepted table, and what the walk shows after any list of them.
use Rattle.std.specs.Prelude.{◌≡◌, refl, Bool, true, false, ◌⊎◌, List, [], ◌∷◌, ℕ, ◌≤◌, ◌<◌, eqb, length, drop}
use Rattle.std.proofs.Common.{sym, ap, ◌∙◌, subst, inl, inr, arith}
use Rattle.std.proofs.Math.Option.{Option, none as absent, some}
use Rattle.choices.specs.Tree.{Final, result, refuses, most_choices, Full}
use Rattle.choices.specs.Lists.{Complete, CountBefore}
use Rattle.choices.specs.Paths.{first_list, next_list}
use Rattle.choices.proofs.Cut.{complete_length}
use Rattle.choices.proofs.Walk.{count_first, first_list_lem, next_list_lem, count_next, next_last}
use Rattle.std.specs.Prelude.{Ok}
use Rattle.tables.specs.Check.{check}
use Rattle.prelude.proofs.Truth.{by_lower}
use Rattle.meaning.specs.State.{unbound}
use Rattle.meaning.specs.Read.{sheet}
use Rattle.meaning.specs.Answer.{pack, packed, uncounted, number_part}
use Rattle.meaning.specs.Walk.{Walk, walk_list, overwritten, Shows}
use Rattle.meaning.specs.Service.{scratch_bytes, last, tree, onward, firsts, steps}
use Rattle.meaning.specs.Lent.{AfterWalk, walk_after, after_walk}
use Rattle.meaning.specs.Calls.{Service, first, step, Call, returned, serve, called, Granted, is_granted, after_all, tally, granted, Calls, steps_of, lent_walk, after_call, final_walk}
use Rattle.meaning.specs.Demand.{Held, Enough, Refusals, FirstAnswers, Stepped, NoNext}
use Rattle.meaning.proofs.Laws.Sure.{sure_meaning}
use Rattle.meaning.proofs.Laws.Walks.{listed_shown, shown_within, shows_written, written_beyond, returned_lent, returned_written, listed_lent}
use Rattle.meaning.proofs.Laws.Services.{firsts_1, steps_1, firsts_10, steps_10, firsts_granted, steps_complete}

-- ---- by what is due

-- What a call is due to answer.
abbrev due_of : Service → List ℕ → Walk → List ℕ → Final (List ℕ)
due_of first table w scratch = firsts (length scratch) table w
due_of step table w scratch = steps (length scratch) table w

serve_is : (s : Service) (table : List ℕ) (w : Walk) (scratch : List ℕ) → serve s table w scratch ≡ after_walk (due_of s table w scratch) scratch w
serve_is first table w scratch = refl
serve_is step table w scratch = refl

module _ (table : List ℕ) (c : Call) (w : Walk) where
  abbrev due : Final (List ℕ)
  due = due_of c.service table (lent_walk c.part w) c.scratch

  called_is : called table c w ≡ after_walk due c.scratch (lent_walk c.part w)
  called_is = serve_is c.service table (lent_walk c.part w) c.scratch

  answer_is : (f : Final (List ℕ)) → due ≡ f → (called table c w).answer ≡ packed uncounted f
  answer_is f e = ap (λ (x : AfterWalk). x.answer) called_is ∙ ap (packed uncounted) e

  after_is : (f : Final (List ℕ)) → due ≡ f → after_call table c w ≡ returned c.part w (walk_after f (lent_walk c.part w))
  after_is f e = ap (λ (x : AfterWalk). returned c.part w x.walk) called_is ∙ ap (λ (x : Final (List ℕ)). returned c.part w (walk_after x (lent_walk c.part w))) e

  -- A refusal leaves the walk.
  record Left (n : ℕ) : Type 0 where
    answer : (called table c w).answer ≡ pack n 0 0
    stays : after_call table c w ≡ w

  -- A granted call writes the list.
  record Wrote (l : List ℕ) : Type 0 where
    answer : (called table c w).answer ≡ pack 0 0 0
    writes : after_call table c w ≡ overwritten l w

  left_by : (n : ℕ) → due ≡ refuses n 0 0 → Left n
  left_by n e = record { answer = answer_is (refuses n 0 0) e; stays = after_is (refuses n 0 0) e ∙ returned_lent c.part w }

  wrote_by : (l : List ℕ) → most_choices ≤ length (lent_walk c.part w).entries → due ≡ result l → Wrote l
  wrote_by l h e = record { answer = answer_is (result l) e; writes = after_is (result l) e ∙ returned_written c.part w l h }

  -- A call that is not granted is refused.
  pub refused : (Granted table c w → ⊥) → after_call table c w ≡ w
  refused h = go due refl
    where
      go : (f : Final (List ℕ)) → due ≡ f → after_call table c w ≡ w
      go (result l) e = absurd (h (ap number_part (answer_is (result l) e)))
      go (refuses n p k) e = after_is (refuses n p k) e ∙ returned_lent c.part w

  granted_is : (n : ℕ) → (called table c w).answer ≡ pack n 0 0 → is_granted table c w ≡ eqb (number_part (pack n 0 0)) 0
  granted_is n e = ap (λ a. eqb (number_part a) 0) e

  -- Either there is enough, or 1 or 10 is due.
  by_buffers : {X : Type 0} → (length c.scratch < scratch_bytes → X) → (scratch_bytes ≤ length c.scratch → length (lent_walk c.part w).entries < most_choices → X) → (Enough c w → X) → X
  by_buffers f g h =
      by_lower (length c.scratch) scratch_bytes f
      (λ s. by_lower (length (lent_walk c.part w).entries) most_choices (g s) (λ e. h (record { enough_scratch = s; enough_entries = e })))

-- ---- an accepted table

module _ (table : List ℕ) (n : ℕ) (ok : check table ≡ Ok n) where
  full : Full (tree table)
  full = (sure_meaning (sheet table) (last (sheet table)) unbound).full

  short_by : (s : Service) (w : Walk) (scratch : List ℕ) → length scratch < scratch_bytes → due_of s table w scratch ≡ refuses 1 0 0
  short_by first w scratch h = firsts_1 table (length scratch) h w
  short_by step w scratch h = steps_1 table (length scratch) h w

  few_by : (s : Service) (w : Walk) (scratch : List ℕ) → scratch_bytes ≤ length scratch → length w.entries < most_choices → due_of s table w scratch ≡ refuses 10 0 0
  few_by first w scratch h k = firsts_10 table (length scratch) h n ok w k
  few_by step w scratch h k = steps_10 table (length scratch) h n ok w k

  module _ (c : Call) (w : Walk) where
    left_1 : length c.scratch < scratch_bytes → Left table c w 1
    left_1 h = left_by table c w 1 (short_by c.service (lent_walk c.part w) c.scratch h)

    left_10 : scratch_bytes ≤ length c.scratch → length (lent_walk c.part w).entries < most_choices → Left table c w 10
    left_10 h k = left_by table c w 10 (few_by c.service (lent_walk c.part w) c.scratch h k)

    -- A first list that is lent enough.
    first_wrote : c.service ≡ first → Enough c w → Wrote table c w (first_list (tree table))
    first_wrote e h =
        wrote_by table c w (first_list (tree table)) h.enough_entries
        (ap (λ (s : Service). due_of s table (lent_walk c.part w) c.scratch) e ∙ firsts_granted table (length c.scratch) h.enough_scratch n ok (lent_walk c.part w) h.enough_entries)

    -- A step of a complete list that is lent enough.
    module _ (l : List ℕ) (list_is : walk_list w ≡ l) (within : w.len ≤ most_choices) (complete : Complete (tree table) l) (e : c.service ≡ step) (h : Enough c w) where
      step_due : due table c w ≡ onward (next_list (tree table) l)
      step_due =
          ap (λ (s : Service). due_of s table (lent_walk c.part w) c.scratch) e
          ∙ steps_complete table (length c.scratch) h.enough_scratch n ok (lent_walk c.part w) h.enough_entries l (listed_lent c.part w h.enough_entries within ∙ list_is) within complete

      step_wrote : (m : List ℕ) → next_list (tree table) l ≡ some m → Wrote table c w m
      step_wrote m f = wrote_by table c w m h.enough_entries (step_due ∙ ap onward f)

      step_left : next_list (tree table) l ≡ absent → Left table c w 35
      step_left f = left_by table c w 35 (step_due ∙ ap onward f)

  -- ---- what the walk shows

  -- Nothing beyond 64 is touched.
  abbrev Beyond : Walk → Walk → Type 0
  Beyond w v = drop most_choices v.entries ≡ drop most_choices w.entries

  -- After calls that began with the walk v: w shows a complete list with k before it, and nothing beyond 64 entries was touched.
  record Goes (v w : Walk) (k : ℕ) : Type 0 where
    held : Held table w k
    beyond : Beyond v w

  goes_left : (v w u : Walk) (k : ℕ) → u ≡ w → Goes v w k → Goes v u k
  goes_left v w u k e g = subst (λ x. Goes v x k) (sym e) g

  written : (v w u : Walk) (l : List ℕ) (k : ℕ) → u ≡ overwritten l w → Complete (tree table) l → CountBefore (tree table) l k → Beyond v w → Goes v u k
  written v w u l k e c counted b =
      let short = complete_length (tree table) l c in
      subst (λ x. Goes v x k) (sym e)
      (record {
        held = record { list = l; shown = shows_written l w short; complete = c; counted = counted };
        beyond = written_beyond l w short ∙ b;
      })

  -- ---- one call

  tally_left : (s : Service) (b : Bool) (k : ℕ) → b ≡ false → tally s b k ≡ k
  tally_left first b k e = ap (λ x. tally first x k) e
  tally_left step b k e = ap (λ x. tally step x k) e

  module _ (v w : Walk) (k : ℕ) (c : Call) (g : Goes v w k) where
    -- The walk and the number after it.
    abbrev Onward : Service → Type 0
    Onward s = Goes v (after_call table c w) (tally s (is_granted table c w) k)

    stays_so : (s : Service) (m : ℕ) → Left table c w m → eqb (number_part (pack m 0 0)) 0 ≡ false → Onward s
    stays_so s m h e =
        subst (λ j. Goes v (after_call table c w) j) (sym (tally_left s (is_granted table c w) k (granted_is table c w m h.answer ∙ e)))
        (goes_left v w (after_call table c w) k h.stays g)

    writes_so : (s : Service) (l : List ℕ) → Wrote table c w l → Complete (tree table) l → CountBefore (tree table) l (tally s true k) → Onward s
    writes_so s l h d m =
        written v w (after_call table c w) l (tally s (is_granted table c w) k) h.writes d
        (subst (λ b. CountBefore (tree table) l (tally s b k)) (sym (granted_is table c w 0 h.answer)) m) g.beyond

    listed : walk_list w ≡ g.held.list
    listed = listed_shown w g.held.list g.held.shown

    within_64 : w.len ≤ most_choices
    within_64 = shown_within w g.held.list g.held.shown

    goes_step : (o : Option (List ℕ)) → next_list (tree table) g.held.list ≡ o → c.service ≡ step → Enough c w → Onward step
    goes_step absent f e h = stays_so step 35 (step_left c w g.held.list listed within_64 g.held.complete e h f) refl
    goes_step (some m) f e h =
        writes_so step m (step_wrote c w g.held.list listed within_64 g.held.complete e h m f)
        (next_list_lem (tree table) full g.held.list g.held.complete m f).complete
        (count_next (tree table) full g.held.list g.held.complete m k f g.held.counted)

    goes_service : (s : Service) → c.service ≡ s → Onward s
    goes_service first e =
        by_buffers table c w
        (λ s. stays_so first 1 (left_1 c w s) refl)
        (λ s f. stays_so first 10 (left_10 c w s f) refl)
        (λ h. writes_so first (first_list (tree table)) (first_wrote c w e h) (first_list_lem (tree table) full).complete (count_first (tree table) full))
    goes_service step e =
        by_buffers table c w
        (λ s. stays_so step 1 (left_1 c w s) refl)
        (λ s f. stays_so step 10 (left_10 c w s f) refl)
        (λ h. goes_step (next_list (tree table) g.held.list) refl e h)

    goes_call : Onward c.service
    goes_call = goes_service c.service refl

  -- ---- a list of calls

  goes_all : (cs : List Call) (v w : Walk) (k : ℕ) → Goes v w k → Goes v (after_all table cs w) (granted table cs w k)
  goes_all [] v w k g = g
  goes_all (c ∷ cs) v w k g = goes_all cs v (after_call table c w) (tally c.service (is_granted table c w) k) (goes_call v w k c g)

  tally_none : (s : Service) (b : Bool) → s ≡ first → tally s b 0 ≡ 0
  tally_none s true e = ap (λ x. tally x true 0) e
  tally_none s false e = ap (λ x. tally x false 0) e

  -- A granted first list.
  not_granted : (c : Call) (w : Walk) (m : ℕ) → Granted table c w → Left table c w m → 0 < number_part (pack m 0 0) → ⊥
  not_granted c w m g h p = let z : number_part (pack m 0 0) ≡ 0 = sym (ap number_part h.answer) ∙ g in omega arith

  goes_begun : (v : Walk) (c : Call) → c.service ≡ first → Granted table c v → Goes v (after_call table c v) 0
  goes_begun v c e g =
      by_buffers table c v
      (λ s. absurd (not_granted c v 1 g (left_1 c v s) (omega arith)))
      (λ s f. absurd (not_granted c v 10 g (left_10 c v s f) (omega arith)))
      (λ h. written v v (after_call table c v) (first_list (tree table)) 0 (first_wrote c v e h).writes (first_list_lem (tree table) full).complete (count_first (tree table) full) refl)

  goes : (cs : Calls table) → Goes cs.start (final_walk cs) (steps_of cs)
  goes cs =
      goes_all cs.more cs.start (after_call table cs.begin cs.start) (tally cs.begin.service (is_granted table cs.begin cs.start) 0)
      (subst (λ k. Goes cs.start (after_call table cs.begin cs.start) k) (sym (tally_none cs.begin.service (is_granted table cs.begin cs.start) cs.is_first))
      (goes_begun cs.start cs.begin cs.is_first cs.is_granted))

  -- THEOREM: after the calls the walk shows the complete list with as many complete lists before it as steps were granted.
  pub calls_held : (cs : Calls table) → Held table (final_walk cs) (steps_of cs)
  calls_held cs = (goes cs).held

  pub calls_untouched : (cs : Calls table) → drop most_choices (final_walk cs).entries ≡ drop most_choices cs.start.entries
  calls_untouched cs = (goes cs).beyond

  -- ---- a further call

  pub refusals : (w : Walk) → Refusals table w
  refusals w = record { short_scratch = λ c h. (left_1 c w h).answer; few_entries = λ c h k. (left_10 c w h k).answer }

  shows_after : (c : Call) (w : Walk) (l : List ℕ) → Wrote table c w l → Complete (tree table) l → Shows (after_call table c w) l
  shows_after c w l h d = subst (λ x. Shows x l) (sym h.writes) (shows_written l w (complete_length (tree table) l d))

  pub first_answers : (w : Walk) (c : Call) → c.service ≡ first → Enough c w → FirstAnswers table c w
  first_answers w c e h =
      let f = first_list_lem (tree table) full in
      let o = first_wrote c w e h in
      record { answer = o.answer; list = first_list (tree table); shown = shows_after c w (first_list (tree table)) o f.complete; is_first = f }

  module _ (w : Walk) (c : Call) (e : c.service ≡ step) (h : Enough c w) (within : w.len ≤ most_choices) (d : Complete (tree table) (walk_list w)) where
    abbrev l : List ℕ
    l = walk_list w

    -- THEOREM: a step of a walk whose list is complete is granted, or it is 35.
    pub step_from : Stepped table c w l ⊎ NoNext table c w l
    step_from = go (next_list (tree table) l) refl
      where
        go : (o : Option (List ℕ)) → next_list (tree table) l ≡ o → Stepped table c w l ⊎ NoNext table c w l
        go absent f =
            let o = step_left c w l refl within d e h f in
            inr (record { answer = o.answer; is_last = (next_last (tree table) full l d).0 f; stays = o.stays })
        go (some m) f =
            let x = next_list_lem (tree table) full l d m f in
            let o = step_wrote c w l refl within d e h m f in
            inl (record { answer = o.answer; list = m; shown = shows_after c w m o x.complete; is_next = x })

  pub calls_step : (cs : Calls table) (c : Call) → c.service ≡ step → Enough c (final_walk cs) → (l : List ℕ) → Shows (final_walk cs) l → Stepped table c (final_walk cs) l ⊎ NoNext table c (final_walk cs) l
  calls_step cs c e h l shown =
      let w = final_walk cs in
      let g = calls_held cs in
      let is : walk_list w ≡ l = listed_shown w l shown in
      subst (λ x. Stepped table c w x ⊎ NoNext table c w x) is
      (step_from w c e h (shown_within w l shown) (subst (Complete (tree table)) (sym (listed_shown w g.list g.shown)) g.complete))
