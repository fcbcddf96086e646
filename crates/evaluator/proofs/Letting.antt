-- 12, 13: a law for each place of a let and of a let-be.
use mathlib.Core.Path.{◌≡◌, refl, sym, ap, subst, ◌∙◌}
use mathlib.Core.Bool.{Bool, true, false}
use mathlib.Core.List.{List}
use Prim.Native.Nat.{ℕ, ◌+◌, ◌<◌}
use native.Mathlib.Omega.{arith}
use lib.ListN.{length, get_or}
use Rattle.prelude.proofs.Truth.{positive}
use Rattle.values.specs.Value.{Value}
use Rattle.values.specs.Place.{At}
use Rattle.values.specs.Contract.{Copyable, Copied}
use Rattle.values.proofs.Records.{holds as held_at}
use Rattle.choices.specs.State.{Answer, Choices, Invariant, Chosen}
use Rattle.choices.specs.Runs.{ways_reported}
use Rattle.choices.specs.Tree.{Tree, bind}
use Rattle.choices.proofs.Runs.{chosen_below}
use Rattle.tables.specs.Table.{kind_at}
use Rattle.tables.specs.Accepted.{records}
use Rattle.patterns.specs.Binding.{Binding, nothing}
use Rattle.patterns.specs.Pattern.{loose}
use Rattle.calling.specs.Scratch.{Kept}
use Rattle.calling.proofs.Framing.{kept_then, copyable_down, copied_kept}
use Rattle.meaning.specs.State.{State, under}
use Rattle.meaning.specs.Meaning.{chosen_binding as chosen}
use Rattle.evaluator.specs.Contract.{Ended}
use Rattle.evaluator.specs.Contract.{has_value, refusal_at}
use Rattle.bindings.specs.declared.Cursor.{Cursor}
use Rattle.parts.specs.declared.words.Env.{Env}
use Rattle.lists.specs.Choosing.{due_in, Picks, loosely, plainly}
use Rattle.evaluator.specs.Binding.{Placed, Counted, Binder, pattern_for, listed, Standing, Begins, Stands, Insides, Marked, Surveys, chosen as chosen_as}
use Rattle.std.specs.Prelude.{Ok, Err}
use Rattle.prelude.proofs.Absurd.{impossible}
use Rattle.prelude.specs.declared.Refusal.TheVariants.{NoMatch, NoBinding}
use Rattle.evaluator.specs.declared.Refused.{Refused}
use Rattle.evaluator.proofs.Coming.{as_ended}
use Rattle.evaluator.specs.Contract.{Ask, Around, Evaluated, ended, Comes, gave, off, Gives, Evaluates, meant, operand_at, value_as}
use Rattle.evaluator.proofs.Framing.{around_kept}
use Rattle.evaluator.proofs.Coming.{value_refused, comes_on, comes_stop, comes_as, comes_sound, comes_held, comes_anywhere, comes_refused}
use Rattle.evaluator.proofs.Choosing.{chosen_due, choice_taken, choice_off, matched_none, matched_loose, matched_plain, satisfied_none, satisfied_some}
use Rattle.evaluator.proofs.Meant.{body_in, let_in, such_in, mean_let, mean_let_be}
use Rattle.evaluator.proofs.Opening.{ask_again, opened_off, opened_asked, opened_standing, opened_on}

-- ---- the body under a binding, its value brought down to base

module _ {table : List ℕ} {r q : ℕ} {whole : Bool} {s t : List ℕ} {base : ℕ} {env : Env} {c : Choices} {cursor : Cursor} {j : ℕ} {x : Placed} {d : Choices} (o : Insides table r q whole s t base 1536 env c cursor j x d) {bs : List Binding} (h : Standing table r whole s base cursor bs) where
  body_part : Gives (λ ρ. meant table q (under ρ (get_or bs j nothing))) (At t (base + 1536)) s t base env c (ended x.outcome d)
  body_part = (o.turned bs h).given

  pub body_off : (x.outcome ≡ has_value → ⊥) → {P : Value → Type 0} → Gives (λ ρ. meant table q (under ρ (get_or bs j nothing))) P s t base env c (ended x.outcome d)
  body_off n = record { kept = body_part.kept; right = λ ρ u. comes_anywhere (body_part.right ρ u) n }

  module _ (v : x.outcome ≡ has_value) where
    pub body_copyable : (ρ : State) → Around s base env ρ → Copyable t (base + 1536) base
    body_copyable ρ u = let (w, i) = comes_held (body_part.right ρ u) v in copyable_down (omega arith) (held_at i)

    pub body_done : {u : List ℕ} {n : ℕ} → Copied t u (base + 1536) base n → Gives (λ ρ. meant table q (under ρ (get_or bs j nothing))) (At u base) s u base env c (value_as d)
    body_done {u} k =
        record {
          kept = kept_then body_part.kept (copied_kept k);
          right = λ ρ w. go (body_part.right ρ w);
        }
      where
        go : {m : Tree Value} → Comes m (At t (base + 1536)) c (ended x.outcome d) → Comes m (At u base) c (value_as d)
        go (gave {a = y} e i w) = gave refl (k.here y i) w
        go (off e w) = value_refused v e

-- ---- a choice

module _ (r : ℕ) (bs : List Binding) (body : Binding → Tree Value) {P : Value → Type 0} {c : Choices} {n : ℕ} (count : n ≡ length bs) {x : Answer} {d : Choices} (h : Chosen c n (record { answer = x; state = d })) where
  comes_taken : {i : ℕ} {e : Evaluated} → x ≡ Ok i → Comes (body (get_or bs i nothing)) P d e → Comes (bind (chosen r bs) body) P c e
  comes_taken z (gave o p w) = gave o p (choice_taken r bs body count h z w)
  comes_taken z (off o w) = off o (choice_taken r bs body count h z w)

  comes_untaken : {y : Refused} → Err y ≡ chosen_as x r n → Comes (bind (chosen r bs) body) P c (ended (Err y) d)
  comes_untaken {y} z = go x refl
    where
      go : (a : Answer) → x ≡ a → Comes (bind (chosen r bs) body) P c (ended (Err y) d)
      go (Ok i) e = let z' = z ∙ ap (λ (m : Answer). chosen_as m r n) e in impossible cc
      go (Err q) e =
          let z' = z ∙ ap (λ (m : Answer). chosen_as m r n) e in
          let is : y ≡ record { refusal = q; place = r; count = ways_reported q n } = cc in
          subst (λ (w : Refused). Comes (bind (chosen r bs) body) P c (ended (Err w) d)) (sym is) (off refl (choice_off r bs body count h e))

-- The way of a choice that was taken.
pub way_taken : (x : Answer) (r n : ℕ) {i : ℕ} → Ok i ≡ chosen_as x r n → x ≡ Ok i
way_taken (Ok j) r n {i} e = let e' : i ≡ j = cc in ap Ok (sym e')
way_taken (Err q) r n e = impossible cc

-- ---- let-be

module _ {table : List ℕ} {r : ℕ} {s : List ℕ} {base : ℕ} {env : Env} {c : Choices} (a : Ask table r s base env c) (is_13 : kind_at (records table) r ≡ 13)
    {t : List ℕ} {v : Counted} {c₁ : Choices} (g : Surveys table r 13 s t base env c v c₁) where
  pub let_be_off : (v.outcome ≡ has_value → ⊥) → Evaluates table r s t base env c (ended v.outcome c₁)
  let_be_off h = record { kept = g.kept; right = λ ρ u. comes_as (mean_let_be a.legal r ρ is_13) (comes_stop (such_in table r ρ) (g.right ρ u) h) }

  module _ (h : v.outcome ≡ has_value) where
    abbrev Found : List Binding → Type 0
    Found = Marked table r t base (due_in c₁) v

    -- whatever follows the satisfying ones
    onward : {u : List ℕ} {P : Value → Type 0} {e : Evaluated} → Kept t u base → ((ρ : State) → Around t base env ρ → (sat : List Binding) → Found sat → Comes (such_in table r ρ sat) P c₁ e) → Gives (meant table r) P s u base env c e
    onward l k =
        record {
          kept = kept_then g.kept l;
          right = λ ρ u. comes_as (mean_let_be a.legal r ρ is_13) (comes_on (such_in table r ρ) (g.right ρ u) h (λ sat w. k ρ (around_kept g.kept u) sat w));
        }

    sound_now : Invariant c₁
    sound_now = comes_sound (g.right a.state a.around)

    the_found : (sat : List Binding) × Found sat
    the_found = comes_held (g.right a.state a.around) h

    pub let_be_none : v.count ≡ 0 → {w : Ended} → w ≡ Err (refusal_at NoBinding r) → Evaluates table r s t base env c (ended w c₁)
    let_be_none z d =
        as_ended d
        (onward (record { long = refl; below = refl })
        (λ ρ u sat w. comes_as (ap (λ (m : Tree Binding). bind m (body_in table r ρ 3)) (satisfied_none r sat (omega (arith, w.marks.count)))) (comes_refused NoBinding r sound_now)))

    module _ (z : v.count ≡ 0 → ⊥) where
      pub let_be_some : Invariant c₁ × (0 < v.count) × (v.count < 256)
      let_be_some = let (sat, w) = the_found in (sound_now, positive v.count z, omega (arith, w.few, w.standing.window.count, w.standing.window.few))

      module _ {x : Answer} {c₂ : Choices} (k : Chosen c₁ v.count (record { answer = x; state = c₂ })) where
        chosen_is : (ρ : State) (sat : List Binding) → Found sat → such_in table r ρ sat ≡ bind (chosen r sat) (body_in table r ρ 3)
        chosen_is ρ sat w = ap (λ (m : Tree Binding). bind m (body_in table r ρ 3)) (satisfied_some r sat (omega (arith, w.marks.count, let_be_some.1)))

        pub let_be_unchosen : {y : Refused} → Err y ≡ chosen_as x r v.count → Evaluates table r s t base env c (ended (Err y) c₂)
        let_be_unchosen d = onward (record { long = refl; below = refl }) (λ ρ u sat w. comes_as (chosen_is ρ sat w) (comes_untaken r sat (body_in table r ρ 3) w.marks.count k d))

        module _ {i : ℕ} (e : x ≡ Ok i) where
          due_below : due_in c₁ < v.count
          due_below = subst (λ (m : ℕ). m < v.count) (chosen_due c₁ v.count i (record { answer = x; state = c₂ }) k e) (chosen_below c₁ v.count i (record { answer = x; state = c₂ }) let_be_some.1 k e)

          pub let_be_stands : Stands table r false t base env c₂ v.cursor v.at
          let_be_stands =
              let (sat, w) = the_found in
              record { asked = ask_again a g.kept k.sound; binder = subst Binder (sym is_13) (omega arith, omega arith); bindings = w.bindings; standing = w.standing; below = w.marks.within due_below }

          module _ {q : ℕ} (is_q : q ≡ operand_at table r 3) {u : List ℕ} {y : Placed} {c₃ : Choices} (w : Insides table r q false t u base 1536 env c₂ v.cursor v.at y c₃) where
            same_binding : (sat : List Binding) (m : Found sat) → get_or m.bindings v.at nothing ≡ get_or sat i nothing
            same_binding sat m = m.marks.is due_below ∙ ap (λ (n : ℕ). get_or sat n nothing) (sym (chosen_due c₁ v.count i (record { answer = x; state = c₂ }) k e))

            from_body : {u' : List ℕ} {P : Value → Type 0} {e' : Evaluated} → Kept t u' base → ((bs : List Binding) → Standing table r false t base v.cursor bs → Gives (λ ρ. meant table q (under ρ (get_or bs v.at nothing))) P t u' base env c₂ e') → Gives (meant table r) P s u' base env c e'
            from_body {P = P} {e' = e'} l f =
                onward l (λ ρ b sat m.
                comes_as (chosen_is ρ sat m)
                (comes_taken r sat (body_in table r ρ 3) m.marks.count k e
                (subst (λ (β : Binding). Comes (body_in table r ρ 3 β) P c₂ e') (same_binding sat m)
                (subst (λ (n : ℕ). Comes (meant table n (under ρ (get_or m.bindings v.at nothing))) P c₂ e') is_q ((f m.bindings m.standing).right ρ b)))))

            pub let_be_body_off : (y.outcome ≡ has_value → ⊥) → Evaluates table r s u base env c (ended y.outcome c₃)
            let_be_body_off n = let (sat, m) = the_found in from_body (w.turned m.bindings m.standing).given.kept (λ bs z. body_off w z n)

            module _ (p : y.outcome ≡ has_value) where
              pub let_be_copyable : Copyable u (base + 1536) base
              let_be_copyable = let (sat, m) = the_found in body_copyable w m.standing p a.state (around_kept g.kept a.around)

              pub let_be_done : {u' : List ℕ} {n : ℕ} → Copied u u' (base + 1536) base n → Evaluates table r s u' base env c (value_as c₃)
              let_be_done o = let (sat, m) = the_found in from_body (kept_then (w.turned m.bindings m.standing).given.kept (copied_kept o)) (λ bs z. body_done w z p o)

-- ---- let

module _ {table : List ℕ} {r : ℕ} {s : List ℕ} {base : ℕ} {env : Env} {c : Choices} (a : Ask table r s base env c) (is_12 : kind_at (records table) r ≡ 12)
    {t : List ℕ} {x : Placed} {c₁ : Choices} (g : Begins table r 12 s t base env c x c₁) where
  equation : (ρ : State) → meant table r ρ ≡ bind (listed table r 12 ρ) (let_in table r ρ)
  equation ρ = mean_let a.legal r ρ is_12

  pub let_in_off : (x.outcome ≡ has_value → ⊥) → Evaluates table r s t base env c (ended x.outcome c₁)
  let_in_off h = opened_off 12 a g (let_in table r) equation h

  module _ (h : x.outcome ≡ has_value) where
    sound_start : Invariant c₁
    sound_start = (opened_asked 12 a g h).sound

    from_list : {bs : List Binding} → Standing table r true t base x.cursor bs → {u : List ℕ} {P : Value → Type 0} {e : Evaluated} → Gives (λ ρ. let_in table r ρ bs) P t u base env c₁ e → Gives (meant table r) P s u base env c e
    from_list w n = opened_on 12 a g h (let_in table r) equation w n

    pub let_in_none : x.cursor.count ≡ 0 → {o : Ended} → o ≡ Err (refusal_at NoMatch r) → Evaluates table r s t base env c (ended o c₁)
    let_in_none z d =
        let (bs, w) = opened_standing 12 a g h in
        as_ended d
        (from_list w
        (record {
          kept = record { long = refl; below = refl };
          right = λ ρ u. comes_as (ap (λ (m : Tree Binding). bind m (body_in table r ρ 2)) (matched_none r (loose (pattern_for table r)) bs (omega (arith, w.window.count)))) (comes_refused NoMatch r sound_start);
        }))

    module _ (z : x.cursor.count ≡ 0 → ⊥) where
      pub let_in_some : Invariant c₁ × (0 < x.cursor.count) × (x.cursor.count < 256)
      let_in_some = let (bs, w) = opened_standing 12 a g h in (sound_start, positive x.cursor.count z, omega (arith, w.window.few))

      module _ {y : Answer} {c₂ : Choices} (k : Picks (loose (pattern_for table r)) c₁ x.cursor.count y c₂) where
        pub let_in_unchosen : {x' : Refused} → Err x' ≡ chosen_as y r x.cursor.count → Evaluates table r s t base env c (ended (Err x') c₂)
        let_in_unchosen {x'} d =
            let (bs, w) = opened_standing 12 a g h in
            from_list w (record { kept = record { long = refl; below = refl }; right = λ ρ u. go ρ bs w.window.count k })
          where
            go : (ρ : State) (bs : List Binding) → length bs ≡ x.cursor.count → Picks (loose (pattern_for table r)) c₁ x.cursor.count y c₂ → Comes (let_in table r ρ bs) (At t base) c₁ (ended (Err x') c₂)
            go ρ bs e (loosely l m) =
                comes_as (ap (λ (m : Tree Binding). bind m (body_in table r ρ 2)) (matched_loose r (loose (pattern_for table r)) bs l (omega (arith, e, let_in_some.1)))) (comes_untaken r bs (body_in table r ρ 2) (sym e) m d)
            go ρ bs e (plainly l m m') = let z' = d ∙ ap (λ (n : Answer). chosen_as n r x.cursor.count) m in impossible cc

        module _ {i : ℕ} (e : y ≡ Ok i) where
          taken_below : Picks (loose (pattern_for table r)) c₁ x.cursor.count y c₂ → i < x.cursor.count
          taken_below (loosely l m) = chosen_below c₁ x.cursor.count i (record { answer = y; state = c₂ }) let_in_some.1 m e
          taken_below (plainly l m m') = let d = sym e ∙ m in let d' : i ≡ 0 = cc in omega (arith, let_in_some.1)

          sound_picked : Picks (loose (pattern_for table r)) c₁ x.cursor.count y c₂ → Invariant c₂
          sound_picked (loosely l m) = m.sound
          sound_picked (plainly l m m') = subst Invariant (sym m') sound_start

          pub let_in_stands : Stands table r true t base env c₂ x.cursor i
          let_in_stands =
              let (bs, w) = opened_standing 12 a g h in
              record { asked = ask_again a g.kept (sound_picked k); binder = subst Binder (sym is_12) (omega arith, omega arith); bindings = bs; standing = w; below = omega (arith, taken_below k, w.window.count) }

          module _ {q : ℕ} (is_q : q ≡ operand_at table r 2) {u : List ℕ} {p : Placed} {c₃ : Choices} (w : Insides table r q true t u base 1536 env c₂ x.cursor i p c₃) where
            under_picked : {P : Value → Type 0} {e' : Evaluated} (ρ : State) (bs : List Binding) → length bs ≡ x.cursor.count → Picks (loose (pattern_for table r)) c₁ x.cursor.count y c₂ → Comes (meant table q (under ρ (get_or bs i nothing))) P c₂ e' → Comes (let_in table r ρ bs) P c₁ e'
            under_picked {P} {e'} ρ bs d (loosely l m) b =
                comes_as (ap (λ (m : Tree Binding). bind m (body_in table r ρ 2)) (matched_loose r (loose (pattern_for table r)) bs l (omega (arith, d, let_in_some.1))))
                (comes_taken r bs (body_in table r ρ 2) (sym d) m e (subst (λ (n : ℕ). Comes (meant table n (under ρ (get_or bs i nothing))) P c₂ e') is_q b))
            under_picked {P} {e'} ρ bs d (plainly l m m') b =
                let z = sym e ∙ m in let z' : i ≡ 0 = cc in
                comes_as (ap (λ (m : Tree Binding). bind m (body_in table r ρ 2)) (matched_plain r (loose (pattern_for table r)) bs l (omega (arith, d, let_in_some.1))))
                (subst (λ (k : Choices). Comes (body_in table r ρ 2 (get_or bs 0 nothing)) P k e') m'
                (subst (λ (n : ℕ). Comes (body_in table r ρ 2 (get_or bs n nothing)) P c₂ e') z'
                (subst (λ (n : ℕ). Comes (meant table n (under ρ (get_or bs i nothing))) P c₂ e') is_q b)))

            from_let : {u' : List ℕ} {P : Value → Type 0} {e' : Evaluated} → ((bs : List Binding) → Standing table r true t base x.cursor bs → Gives (λ ρ. meant table q (under ρ (get_or bs i nothing))) P t u' base env c₂ e') → Gives (meant table r) P s u' base env c e'
            from_let f =
                let (bs, m) = opened_standing 12 a g h in
                from_list m (record { kept = (f bs m).kept; right = λ ρ b. under_picked ρ bs m.window.count k ((f bs m).right ρ b) })

            pub let_in_body_off : (p.outcome ≡ has_value → ⊥) → Evaluates table r s u base env c (ended p.outcome c₃)
            let_in_body_off n = from_let (λ bs m. body_off w m n)

            module _ (v : p.outcome ≡ has_value) where
              pub let_in_copyable : Copyable u (base + 1536) base
              let_in_copyable = let (bs, m) = opened_standing 12 a g h in body_copyable w m v a.state (around_kept g.kept a.around)

              pub let_in_done : {u' : List ℕ} {n : ℕ} → Copied u u' (base + 1536) base n → Evaluates table r s u' base env c (value_as c₃)
              let_in_done o = from_let (λ bs m. body_done w m v o)
