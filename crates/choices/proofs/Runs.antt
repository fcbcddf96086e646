-- Running a tree on the state of the choices: one after the other, under a list that is given, and under one that grows.
use mathlib.Core.Path.{◌≡◌, refl, sym, ap, ◌∙◌}
use mathlib.Core.Bool.{Bool, true, false, cond}
use mathlib.Core.List.{List, [], ◌∷◌, ◌++◌, append-nil}
use Prim.Native.Nat.{ℕ, zero, suc, ◌+◌, ◌≤◌, ◌<◌}
use native.Mathlib.Omega.{arith}
use lib.ListN.{length, length-append}
use lib.Seq.{append_snoc}
use lib.Dec.{ltb, leb}
use borrow.Author.Tests.{lt-ltb, lt-leb, le-leb, ltb-true}
use Rattle.prelude.proofs.Absurd.{impossible}
use Rattle.std.specs.Prelude.{Ok, Err}
use Rattle.prelude.specs.declared.Refusal.TheVariants.{TooManyChoices, EntryTooHigh}
use Rattle.choices.specs.State.{Answer, Choices, Picked, View, view, fresh, answer_left, answer_of, afterwards, Chosen}
use Rattle.choices.specs.Tree.{Tree, give, stop, choose, bind, most_choices, Full, Numbered, Run, gave, stopped, short, beyond, follow, run, refuses, unless_left, final}
use Rattle.choices.specs.Outcome.{Outcome, value, refusal}
use Rattle.choices.specs.Lists.{Ended, Complete, run_outcome}
use Rattle.choices.specs.Paths.{counts, extend, cut_after}
use Rattle.choices.proofs.Leaves.{LeadsToLeaf, Prefix, outcome_at, AtMost}
use Rattle.choices.specs.Runs.{Ran, ran, refused, on_answer, run_on, settle}
use Rattle.choices.specs.Ran.{ran_as, at_end}
use Rattle.choices.proofs.Ran.{state_of, further, trail}
use Rattle.choices.proofs.Paths.{prefix_nil, extend_leaf, outcome_extend}
use Rattle.choices.proofs.Cut.{within_cut, full_cut, complete_leaf, leaf_complete, complete_outcome}
use Rattle.choices.proofs.Walk.{stopped_number}

-- ---- one after the other

at_same : {A : Type 0} (a : Answer) (p n : ℕ) (v : View) (f g : ℕ → Ran A) → ((c : ℕ) → f c ≡ g c) → on_answer a p n v f ≡ on_answer a p n v g
at_same (Ok c) p n v f g h = h c
at_same (Err r) p n v f g h = refl

further_at : {A B : Type 0} (a : Answer) (p n : ℕ) (v : View) (on : ℕ → Ran A) (f : A → View → Ran B) → further (on_answer a p n v on) f ≡ on_answer a p n v (λ c. further (on c) f)
further_at (Ok c) p n v on f = refl
further_at (Err r) p n v on f = refl

-- The run of `bind`: the second from the state that the first left.
pub run_on_bind : {A B : Type 0} (t : Tree A) (f : A → Tree B) (v : View) → run_on (bind t f) v ≡ further (run_on t v) (λ a w. run_on (f a) w)
run_on_bind (give a) f v = refl
run_on_bind (stop r p) f v = refl
run_on_bind (choose p n ways) f v =
    at_same (answer_of v n) p n v (λ c. run_on (bind (ways c) f) (afterwards v n (Ok c))) (λ c. further (run_on (ways c) (afterwards v n (Ok c))) (λ a w. run_on (f a) w))
    (λ c. run_on_bind (ways c) f (afterwards v n (Ok c)))
    ∙ sym (further_at (answer_of v n) p n v (λ c. run_on (ways c) (afterwards v n (Ok c))) (λ a w. run_on (f a) w))

pub bind_ran : {A B : Type 0} (t : Tree A) (f : A → Tree B) (v w : View) (a : A) → run_on t v ≡ ran a w → run_on (bind t f) v ≡ run_on (f a) w
bind_ran {A} {B} t f v w a e = run_on_bind t f v ∙ ap (λ (r : Ran A). further {B = B} r (λ b u. run_on (f b) u)) e

pub bind_refused : {A B : Type 0} (t : Tree A) (f : A → Tree B) (v w : View) (r p n : ℕ) → run_on t v ≡ refused r p n w → run_on (bind t f) v ≡ refused r p n w
bind_refused {A} {B} t f v w r p n e = run_on_bind t f v ∙ ap (λ (r : Ran A). further {B = B} r (λ b u. run_on (f b) u)) e

-- A choice that the code made, by its answer: on with the way taken, or 31, 32 or 33.
pub chosen_runs : {A : Type 0} (p : ℕ) (ways : ℕ → Tree A) (c : Choices) (n : ℕ) (r : Picked) → Chosen c n r → (a : Answer) → r.answer ≡ a → run_on (choose p n ways) (view c) ≡ on_answer a p n (view r.state) (λ i. run_on (ways i) (view r.state))
chosen_runs {A} p ways c n r k a e =
    ap (λ (b : Answer). on_answer b p n (view c) (λ i. run_on (ways i) (afterwards (view c) n (Ok i)))) (sym k.answered ∙ e)
    ∙ same a
    ∙ ap (λ (v : View). on_answer a p n v (λ i. run_on (ways i) v)) (sym (k.viewed ∙ ap (afterwards (view c) n) e))
  where
    same : (a : Answer) → on_answer {A = A} a p n (view c) (λ i. run_on (ways i) (afterwards (view c) n (Ok i))) ≡ on_answer a p n (afterwards (view c) n a) (λ i. run_on (ways i) (afterwards (view c) n a))
    same (Ok i) = refl
    same (Err r) = refl

-- ---- what is taken and given

pick_below : (b : Bool) (c n i : ℕ) → ltb c n ≡ b → cond b (Ok c) (Err EntryTooHigh) ≡ Ok i → i < n
pick_below true c n i e h = let d : c ≡ i = cc in omega (arith, ltb-true c n e)
pick_below false c n i e h = impossible cc

left_below : (l : List ℕ) (g : Bool) (n i : ℕ) → 0 < n → answer_left l g n ≡ Ok i → i < n
left_below [] true n i h e = let d : ◌≡◌ {A = ℕ} 0 i = cc in omega arith
left_below [] false n i h e = impossible cc
left_below (c ∷ l) g n i h e = pick_below (ltb c n) c n i refl e

room_below : (b : Bool) (l : List ℕ) (g : Bool) (n i : ℕ) → 0 < n → cond b (Err TooManyChoices) (answer_left l g n) ≡ Ok i → i < n
room_below true l g n i h e = impossible cc
room_below false l g n i h e = left_below l g n i h e

-- A way that is taken is one of the n.
pub taken_below : (v : View) (n i : ℕ) → 0 < n → answer_of v n ≡ Ok i → i < n
taken_below v n i h e = room_below (leb most_choices (length v.past)) v.left v.grow n i h e

pub chosen_below : (c : Choices) (n i : ℕ) (r : Picked) → 0 < n → Chosen c n r → r.answer ≡ Ok i → i < n
chosen_below c n i r h k e = taken_below (view c) n i h (sym k.answered ∙ e)

-- ---- under a list that is given

pub state_as : {A : Type 0} (r : Run A) (v : View) → state_of (ran_as r v) ≡ v
state_as (gave a k l) v = refl
state_as (stopped r p l) v = refl
state_as (short p n) v = refl
state_as (beyond p n l) v = refl

pick_ran : {A : Type 0} (b : Bool) (c p n : ℕ) (l : List ℕ) (v : View) (on : ℕ → Ran A) (r : Run A) (w : View) → on c ≡ ran_as r w → on_answer (cond b (Ok c) (Err EntryTooHigh)) p n v on ≡ ran_as (cond b r (beyond p n l)) (cond b w v)
pick_ran true c p n l v on r w h = h
pick_ran false c p n l v on r w h = refl

run_trail : {A : Type 0} (t : Tree A) (k : ℕ) (past met left : List ℕ) → k + length past ≡ most_choices → run_on t (record { past = past; met = met; left = left; grow = false }) ≡ ran_as (follow t k left) (trail t k past met left)
run_trail (give a) k past met left e = refl
run_trail (stop r p) k past met left e = refl
run_trail (choose p n ways) zero past met left e = rw (le-leb most_choices (length past) (omega arith))
run_trail (choose p n ways) (suc k) past met [] e = rw (lt-leb most_choices (length past) (omega arith))
run_trail (choose p n ways) (suc k) past met (c ∷ l) e =
    rw (lt-leb most_choices (length past) (omega arith))
    (pick_ran (ltb c n) c p n (c ∷ l) (record { past = past; met = met; left = c ∷ l; grow = false })
    (λ i. run_on (ways i) (record { past = past ++ i ∷ []; met = met ++ n ∷ []; left = l; grow = false }))
    (follow (ways c) k l)
    (trail (ways c) k (past ++ c ∷ []) (met ++ n ∷ []) l)
    (run_trail (ways c) k (past ++ c ∷ []) (met ++ n ∷ []) l (simp length-append (omega arith))))

-- A list that does not grow decides as following it does.
pub run_follow : {A : Type 0} (t : Tree A) (l : List ℕ) → run_on t (fresh l false) ≡ ran_as (run t l) (trail t most_choices [] [] l)
run_follow t l = run_trail t most_choices [] [] l refl

-- The entries that a run leaves.
abbrev left_of : {A : Type 0} → Run A → List ℕ
left_of (gave a k l) = l
left_of (stopped r p l) = l
left_of (short p n) = []
left_of (beyond p n l) = l

left_cond : {A : Type 0} (b : Bool) (p n c : ℕ) (l past met : List ℕ) (w : View) (r : Run A) → w.left ≡ left_of r → (cond b w (record { past = past; met = met; left = c ∷ l; grow = false })).left ≡ left_of (cond b r (beyond p n (c ∷ l)))
left_cond true p n c l past met w r h = h
left_cond false p n c l past met w r h = refl

pub trail_left : {A : Type 0} (t : Tree A) (k : ℕ) (past met left : List ℕ) → (trail t k past met left).left ≡ left_of (follow t k left)
trail_left (give a) k past met left = refl
trail_left (stop r p) k past met left = refl
trail_left (choose p n ways) zero past met left = refl
trail_left (choose p n ways) (suc k) past met [] = refl
trail_left (choose p n ways) (suc k) past met (c ∷ l) =
    left_cond (ltb c n) p n c l past met (trail (ways c) k (past ++ c ∷ []) (met ++ n ∷ []) l) (follow (ways c) k l) (trail_left (ways c) k (past ++ c ∷ []) (met ++ n ∷ []) l)

-- ---- what it finally answers

settle_stopped : {A : Type 0} (r p last : ℕ) (v : View) (l : List ℕ) → r ≤ 31 → v.left ≡ l → settle {A = A} last (refused r p 0 v) ≡ unless_left l p (refuses r p 0)
settle_stopped r p last v l h e = rw (lt-ltb r 32 (omega arith), e)

settle_run : {A : Type 0} (last : ℕ) (r : Run A) (v : View) → ((n p : ℕ) (l : List ℕ) → r ≡ stopped n p l → n ≤ 31) → v.left ≡ left_of r → settle last (ran_as r v) ≡ final last r
settle_run last (gave a k l) v h e = rw e
settle_run last (stopped r p l) v h e = settle_stopped r p last v l (h r p l refl) e
settle_run last (short p n) v h e = refl
settle_run last (beyond p n l) v h e = refl

-- What the run on the state finally answers is what the run of the list does.
pub run_final : {A : Type 0} (t : Tree A) (l : List ℕ) (last : ℕ) → Numbered t → settle last (run_on t (fresh l false)) ≡ final last (run t l)
run_final t l last m =
    ap (settle last) (run_follow t l)
    ∙ settle_run last (run t l) (trail t most_choices [] [] l) (λ r p left e. (stopped_number t most_choices l r p left m e).1) (trail_left t most_choices [] [] l)

-- ---- the state at the end of a complete list

ended_view : {A : Type 0} → Tree A → List ℕ → List ℕ → List ℕ → Bool → View
ended_view t past met l g = record { past = past ++ l; met = met ++ counts t l; left = []; grow = g }

ended_step : {A : Type 0} (p n : ℕ) (ways : ℕ → Tree A) (c : ℕ) (l past met : List ℕ) (g : Bool) → ended_view (ways c) (past ++ c ∷ []) (met ++ n ∷ []) l g ≡ ended_view (choose p n ways) past met (c ∷ l) g
unfolding ended_view
ended_step p n ways c l past met g = λ i. record { past = append_snoc past c l i; met = append_snoc met n (counts (ways c) l) i; left = []; grow = g }

trail_leaf : {A : Type 0} (t : Tree A) (k : ℕ) (past met l : List ℕ) → LeadsToLeaf (cut_after k t) l → trail t k past met l ≡ ended_view (cut_after k t) past met l false
unfolding ended_view
trail_leaf (give a) k past met [] h = simp append-nil
trail_leaf (give a) k past met (c ∷ l) h = absurd h
trail_leaf (stop r p) k past met [] h = simp append-nil
trail_leaf (stop r p) k past met (c ∷ l) h = absurd h
trail_leaf (choose p n ways) zero past met [] h = simp append-nil
trail_leaf (choose p n ways) zero past met (c ∷ l) h = absurd h
trail_leaf (choose p n ways) (suc k) past met [] h = absurd h
trail_leaf (choose p n ways) (suc k) past met (c ∷ l) h =
    rw (lt-ltb c n h.0)
    (trail_leaf (ways c) k (past ++ c ∷ []) (met ++ n ∷ []) l h.1 ∙ ended_step p n (λ i. cut_after k (ways i)) c l past met false)

-- A complete list leaves the state at its end.
pub run_complete : {A : Type 0} (t : Tree A) (l : List ℕ) → Complete t l → run_on t (fresh l false) ≡ ran_as (run t l) (at_end t l false)
unfolding ended_view
run_complete t l h = run_follow t l ∙ ap (ran_as (run t l)) (trail_leaf t most_choices [] [] l (complete_leaf t l h))

-- ---- under a list that grows

-- A run on the state does not see past one choice too many.
run_on_cut : {A : Type 0} (t : Tree A) (k : ℕ) (v : View) → k + length v.past ≡ most_choices → run_on t v ≡ run_on (cut_after k t) v
run_on_cut (give a) k v e = refl
run_on_cut (stop r p) k v e = refl
run_on_cut (choose p n ways) zero v e = rw (le-leb most_choices (length v.past) (omega arith))
run_on_cut (choose p n ways) (suc k) v e =
    at_same (answer_of v n) p n v (λ c. run_on (ways c) (afterwards v n (Ok c))) (λ c. run_on (cut_after k (ways c)) (afterwards v n (Ok c)))
    (λ c. run_on_cut (ways c) k (afterwards v n (Ok c)) (simp length-append (omega arith)))

abbrev finish : {A : Type 0} → Outcome A → View → Ran A
finish (value a) v = ran a v
finish (refusal r p) v = refused r p 0 v

run_within : {A : Type 0} (t : Tree A) (k : ℕ) (past met left : List ℕ) → Full t → AtMost k t → Prefix t left → k + length past ≡ most_choices → run_on t (record { past = past; met = met; left = left; grow = true }) ≡ finish (outcome_at t left) (ended_view t past met (extend t left) true)
unfolding ended_view
run_within (give a) k past met [] f w q e = simp append-nil
run_within (give a) k past met (c ∷ l) f w q e = absurd q
run_within (stop r p) k past met [] f w q e = simp append-nil
run_within (stop r p) k past met (c ∷ l) f w q e = absurd q
run_within (choose p n ways) zero past met left f w q e = absurd w
run_within (choose p n ways) (suc k) past met [] f w q e =
    rw (lt-leb most_choices (length past) (omega arith))
    (run_within (ways 0) k (past ++ 0 ∷ []) (met ++ n ∷ []) [] (f.1 0 f.0) (w 0 f.0) (prefix_nil (ways 0)) (simp length-append (omega arith))
    ∙ ap (finish (outcome_at (ways 0) [])) (ended_step p n ways 0 (extend (ways 0) []) past met true))
run_within (choose p n ways) (suc k) past met (c ∷ l) f w q e =
    rw (lt-leb most_choices (length past) (omega arith), lt-ltb c n q.0)
    (run_within (ways c) k (past ++ c ∷ []) (met ++ n ∷ []) l (f.1 c q.0) (w c q.0) q.1 (simp length-append (omega arith))
    ∙ ap (finish (outcome_at (ways c) l)) (ended_step p n ways c (extend (ways c) l) past met true))

finish_ended : {A : Type 0} (r : Run A) (v : View) → Ended r → finish (run_outcome r) v ≡ ran_as r v
finish_ended (gave a k l) v h = refl
finish_ended (stopped r p l) v h = refl
finish_ended (short p n) v h = absurd h
finish_ended (beyond p n l) v h = absurd h

-- A list that grows leads on by zeros to a complete list, as under that list, and leaves the state at its end.
pub run_grow : {A : Type 0} (t : Tree A) (l : List ℕ) → Full t → Prefix (cut_after most_choices t) l → let m : List ℕ = extend (cut_after most_choices t) l in Complete t m × (run_on t (fresh l true) ≡ ran_as (run t m) (at_end t m true))
unfolding ended_view
run_grow t l f q =
    let m = extend (cut_after most_choices t) l in
    let h = leaf_complete t m (extend_leaf (cut_after most_choices t) l (full_cut most_choices t f) q) in (
      h,
      run_on_cut t most_choices (fresh l true) refl
          ∙ run_within (cut_after most_choices t) most_choices [] [] l (full_cut most_choices t f) (within_cut most_choices t) q refl
          ∙ ap (λ o. finish o (at_end t m true)) (sym (outcome_extend (cut_after most_choices t) l) ∙ sym (complete_outcome t m h))
          ∙ finish_ended (run t m) (at_end t m true) h,
    )
