-- Going on with an agenda: no match, a match, or a pattern with parts.
use mathlib.Core.Path.{◌≡◌, refl, sym, ap, subst, ◌∙◌}
use mathlib.Core.Bool.{false}
use mathlib.Core.List.{List, [], ◌∷◌, ◌++◌}
use Prim.Native.Nat.{ℕ, suc, ◌+◌, ◌*◌, ◌^◌, ◌≤◌, ◌<◌}
use native.Mathlib.Omega.{arith}
use lib.ListN.{get_or}
use Rattle.prelude.specs.Membership.{In}
use Rattle.tables.specs.Accepted.{records}
use Rattle.patterns.specs.Members.{Alike}
use Rattle.patterns.specs.Binding.{Binding}
use Rattle.patterns.specs.Pattern.{Pattern, wide}
use Rattle.patterns.specs.Read.{pattern_at}
use Rattle.matching.proofs.Naming.{stands_fine}
use Rattle.forming.specs.declared.Step.{Step}
use Rattle.forming.specs.declared.taking.Left.{Left}
use Rattle.forming.specs.Frames.{entries, frame_at, heft, rank}
use Rattle.forming.specs.Onward.{Task, task, onward}
use Rattle.forming.specs.Laws.Onward.{onward_end}
use Rattle.forming.specs.Pending.{spaces, LeftOf, TakeHeld, Taken}
use Rattle.forming.specs.Repeats.{RepeatHeld, Repeat}
use Rattle.forming.specs.Rows.{EntryHeld}
use Rattle.forming.specs.Stack.{Stacked, AfterStep, Waiting, MatchEntered, Descending}
use Rattle.forming.proofs.Accounting.{LevelAt, level_at}
use Rattle.forming.proofs.Leaving.{none_waits, one_waits}
use Rattle.forming.proofs.Ranking.{not_opened_less, less_more}
use Rattle.std.specs.Prelude.{Option, Some, None, Result, Ok}
use Rattle.prelude.specs.declared.Refusal.{Refusal}
use Rattle.prelude.proofs.Absurd.{impossible}
use Rattle.forming.proofs.Told.{for_ok}
use Rattle.forming.proofs.Solving.{no_task}
use Rattle.forming.proofs.Repeating.{other_way, row_same}
use Rattle.forming.proofs.Stacking.{restacked, nothing_more, match_entered, match_full}

pub reached : (table s a found frames rows order : List ℕ) (n depth hit : ℕ) (target : List Binding) → Stacked table s a entries found frames depth hit rows order n [] target
    → AfterStep table s a found frames rows order (Ok (record { n = n; depth = depth; hit = hit })) target
reached table s a found frames rows order n depth hit target h = record {
  long = h.long;
  full = λ e q. impossible cc;
  going = for_ok (λ (t : Step). Stacked table s a entries found frames t.depth t.hit rows order t.n [] target) h;
}

module _ (table s a : List ℕ) (head top : ℕ) (found frames : List ℕ) (depth hit : ℕ) (rows order : List ℕ) (n : ℕ) (target : List Binding) (h : Descending table s a head top found frames depth hit rows order n target) where
  few : top ≤ entries
  few = omega (arith, h.room)

  pub take_asked : TakeHeld table s a head found
  take_asked = record { top = top; tasks = h.tasks; are = h.are; low = omega (arith, h.low); room = few; binding = h.binding; stands = h.stands; short = h.stacked.short }

  module _ (g : List ℕ) (r : Option Left) (k : Taken table s a head found g r) where
    stacked_with : (high : ℕ) → top ≤ high → (more : List Binding) → Alike (onward h.tasks h.binding) more → Stacked table s a high g frames depth hit rows order n more target
    stacked_with high u more e = restacked table s a top found frames depth hit rows order n (onward h.tasks h.binding) target h.stacked high u g k.stays frames refl (λ j m. refl) more e

    pub no_match : r ≡ None → AfterStep table s a g frames rows order (Ok (record { n = n; depth = depth; hit = hit })) target
    no_match e = reached table s a g frames rows order n depth hit target (stacked_with entries few [] (k.none e top h.tasks h.binding h.are h.stands))

    module _ (y : Left) (fit : r ≡ Some y) where
      left : LeftOf table s a top y.wait y.head g h.tasks h.binding
      left = k.some y fit top h.tasks h.binding h.are h.stands

      -- nothing is left
      module _ (e : y.wait ≡ 0) where
        all_done : Alike (onward h.tasks h.binding) (left.binding ∷ [])
        all_done =
            let none : left.waits ++ left.tasks ≡ [] =
            ap (λ (ws : List Task). ws ++ left.tasks) (none_waits table s a top y.wait left.waits left.waits_are (omega arith)) ∙ no_task table s a top y.head left.tasks left.are (omega (arith, k.ends y fit e)) in
            subst (Alike (onward h.tasks h.binding)) (ap (λ (vs : List Task). onward vs left.binding) none ∙ onward_end left.binding (stands_fine s g left.binding left.stands)) left.alike

        st : Stacked table s a top g frames depth hit rows order n (left.binding ∷ []) target
        st = stacked_with top (omega arith) (left.binding ∷ []) all_done

        pub enter_asked : EntryHeld s g rows order n
        enter_asked = record { binding = left.binding; stands = left.stands; bindings = h.stacked.bindings; are = h.stacked.rows_are }

        pub match_told : (rows' order' : List ℕ) (q : Result Step Refusal) → MatchEntered s g depth rows order n rows' order' q → AfterStep table s a g frames rows' order' q target
        match_told rows' order' q m = record {
          long = h.stacked.long;
          full = λ x e.
              let (z, o) = m.full x e in
              (z, match_full table s a top g frames depth hit rows order n (left.binding ∷ []) target st left.binding (λ c. (λ i. i, λ i. i)) (o left.binding st.bindings left.stands st.rows_are));
          going = λ x e.
              let (d, t, o, w) = m.going x e in
              subst (λ (z : ℕ). Stacked table s a entries g frames z x.hit rows' order' x.n [] target) (sym d)
              (subst (λ (z : ℕ). Stacked table s a entries g frames depth z rows' order' x.n [] target) (sym t)
              (match_entered table s a top g frames depth hit rows order n (left.binding ∷ []) target st left.binding (λ c. (λ i. i, λ i. i)) few rows' order' x.n (o left.binding st.bindings left.stands st.rows_are) left.stands w));
        }

      -- a pattern with parts is left
      module _ (m : 0 < y.wait) where
        pub open_asked : Waiting table s a y.wait y.head top g frames depth hit rows order n target
        open_asked =
            let (t, e, p, c) = one_waits table s a top y.wait left.waits left.waits_are m in
            let same : left.waits ++ left.tasks ≡ task (pattern_at (records table) (get_or a (3 * y.wait) 0)) t.value ∷ left.tasks =
            ap (λ (ws : List Task). ws ++ left.tasks) e ∙ ap (λ (z : Pattern). task z t.value ∷ left.tasks) p.pattern in
            let room : spaces (task (pattern_at (records table) (get_or a (3 * y.wait) 0)) t.value ∷ left.tasks) ≤ spaces h.tasks = subst (λ (ws : List Task). spaces ws ≤ spaces h.tasks) same left.room in
            record {
              composed = record { readable = p.readable; composed = c };
              below = p.below;
              value = t.value;
              here = p.here;
              narrow = subst (λ (z : Pattern). wide z t.value ≡ false) p.pattern p.narrow;
              tasks = left.tasks;
              are = left.are;
              room = omega (arith, room, h.room);
              low = h.low;
              binding = left.binding;
              stands = left.stands;
              stacked = stacked_with top (omega arith) (onward (task (pattern_at (records table) (get_or a (3 * y.wait) 0)) t.value ∷ left.tasks) left.binding)
                  (subst (λ (vs : List Task). Alike (onward h.tasks h.binding) (onward vs left.binding)) same left.alike);
            }

-- ---- all that follows is entered already

module _ (table s a : List ℕ) (at next top : ℕ) (found frames : List ℕ) (depth hit : ℕ) (rows order : List ℕ) (n : ℕ) (target : List Binding) (w : Waiting table s a at next top found frames depth hit rows order n target) where
  abbrev following : List Task
  following = task (pattern_at (records table) (get_or a (3 * at) 0)) w.value ∷ w.tasks

  at_level : (j : ℕ) → j < depth → LevelAt table s a frames rows n w.stacked.bindings (onward following w.binding) j
  at_level j l =
      level_at table s a frames rows n w.stacked.bindings (onward following w.binding) hit (onward following w.binding) (onward following w.binding) top found w.stacked.levels w.stacked.stack w.stacked.accounted w.stacked.traced (λ c i. i) j
      (omega (arith, w.stacked.deep))

  pub repeat_asked : RepeatHeld table a at frames depth
  repeat_asked = record {
    long = w.stacked.long;
    below = omega (arith, w.below, w.room);
    waits = w.composed.readable;
    few = omega (arith, w.low, w.room);
    frames_long = w.stacked.frames_long;
    readable = λ j l. (at_level j l).1.composed.readable;
    low = λ j l. omega (arith, (at_level j l).1.seen, (at_level j l).2.few, w.stacked.rows_are.few);
  }

  -- THEOREM: what goes on from here goes on in the way of the row that agrees, and that way is entered whole
  all_there : Repeat table found frames depth rows → (c : Binding) → In c (onward following w.binding) → In c w.stacked.bindings
  all_there h c i =
      let (l, x, y, z) = at_level h.frame h.within in
      let k = h.row in
      let (o, ro, oi) = y.past k.row (omega (arith, k.low, x.since)) (omega (arith, k.high, x.seen)) in
      let (vs, vi, ov, all) = x.past o oi in
      let (us, ui, cu, rest) = x.done c (z c i) in
      y.whole c
      (all c
      (other_way table (frame_at frames h.frame).p x.composed l.value l.tasks l.binding x.stands.binding_sized vs us vi ui o ov c cu
      (λ m b e. row_same s found w.binding w.stands rows k.row o ro k.agrees following c i m b (h.settled m b e))))

  pub repeated : Repeat table found frames depth rows → AfterStep table s a found frames rows order (Ok (record { n = n; depth = depth; hit = hit })) target
  repeated h =
      reached table s a found frames rows order n depth hit target
      (nothing_more table s a top found frames depth hit rows order n (onward following w.binding) target w.stacked (omega (arith, w.room)) (all_there h))

-- ---- what is left to be gone through

pub none_less : (frames : List ℕ) (n depth hit top head : ℕ) (t : Step) → ◌≡◌ {A = Result Step Refusal} (Ok (record { n = n; depth = depth; hit = hit })) (Ok t) → rank frames t.depth < rank frames depth + 256 ^ heft top head
none_less frames n depth hit top head = for_ok (λ (t : Step). rank frames t.depth < rank frames depth + 256 ^ heft top head) (not_opened_less frames depth (heft top head))

pub match_less : (s found : List ℕ) (depth : ℕ) (rows order : List ℕ) (n : ℕ) (rows' order' : List ℕ) (q : Result Step Refusal) → MatchEntered s found depth rows order n rows' order' q → (frames : List ℕ) (top head : ℕ) (t : Step) → q ≡ Ok t → rank frames t.depth < rank frames depth + 256 ^ heft top head
match_less s found depth rows order n rows' order' q m frames top head t e =
    subst (λ (z : ℕ). rank frames z < rank frames depth + 256 ^ heft top head) (sym (m.going t e).0) (not_opened_less frames depth (heft top head))

pub open_less : (frames frames' : List ℕ) (n depth hit r top next head : ℕ) → next < head → rank frames' r < rank frames depth + 256 ^ suc (heft top next)
    → (t : Step) → ◌≡◌ {A = Result Step Refusal} (Ok (record { n = n; depth = r; hit = hit })) (Ok t) → rank frames' t.depth < rank frames depth + 256 ^ heft top head
open_less frames frames' n depth hit r top next head l h =
    for_ok (λ (t : Step). rank frames' t.depth < rank frames depth + 256 ^ heft top head) (less_more (rank frames' r) (rank frames depth) (suc (heft top next)) (heft top head) (omega arith) h)
