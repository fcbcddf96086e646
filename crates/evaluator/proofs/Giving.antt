-- Members without a binder, each as laws over what its calls promised.
use mathlib.Core.Path.{◌≡◌, refl, sym, ap, subst, ◌∙◌}
use mathlib.Core.Bool.{Bool, true, false, cond}
use mathlib.Core.Option.{Option}
use mathlib.Core.List.{List}
use Prim.Native.Nat.{ℕ, ◌+◌, ◌≤◌, ◌<◌}
use native.Mathlib.Omega.{arith}
use lib.ListN.{length}
use Rattle.prelude.proofs.Absurd.{impossible}
use Rattle.values.specs.Value.{Value}
use Rattle.values.specs.Place.{At}
use Rattle.values.proofs.Records.{holds}
use Rattle.choices.specs.State.{Choices}
use Rattle.choices.specs.Tree.{Tree, stop, bind}
use Rattle.choices.proofs.Came.{came_give}
use Rattle.std.specs.declared.result.Result.{Result}
use Rattle.prelude.specs.declared.Refusal.{Refusal}
use Rattle.prelude.specs.declared.Refusal.TheVariants.{WrongKind}
use Rattle.prelude.specs.Refusals.{number_of}
use Rattle.operators.specs.Answer.{Answer, as_boolean}
use Rattle.operators.specs.Booleans.{Left, leaves, left, right}
use Rattle.tables.specs.Record.{named, operand}
use Rattle.tables.specs.Table.{record_at}
use Rattle.tables.specs.Accepted.{records}
use Rattle.calling.specs.declared.Tested.TheVariants.{Settled, Open}
use Rattle.calling.specs.Applied.{Applied, One, Two, OnOne, OnTwo}
use Rattle.calling.specs.Scratch.{Kept}
use Rattle.calling.proofs.Framing.{kept_then, kept_less, kept_same}
use Rattle.scalars.specs.Connectives.{connective, Test, Says, settled, undecided, off as not_said, TestsLeft}
use Rattle.meaning.specs.State.{State}
use Rattle.meaning.specs.Meaning.{at, or_else, right_of, is_true}
use Rattle.evaluator.specs.Contract.{Ended}
use Rattle.evaluator.specs.Contract.{has_value}
use Rattle.parts.specs.declared.words.Env.{Env}
use Rattle.std.specs.declared.option.Option.{Option as Maybe}
use Rattle.std.specs.Prelude.{Some, None, Ok, Err}
use Rattle.evaluator.specs.Contract.{Evaluated, ended, Around, Ask, Comes, gave, Gives, meant, level, refused_as, at_record}
use Rattle.evaluator.specs.Leaves.{read_as, Tells}
use Rattle.evaluator.proofs.Framing.{around_kept, around_up, at_kept}
use Rattle.evaluator.proofs.Coming.{comes_on, comes_stop, comes_as, comes_sound, comes_held, comes_refused, comes_applied}
use Rattle.evaluator.proofs.Tables.{ask_down, room_here}

-- ---- one part and what follows it

module _ {ma : State → Tree Value} {s t : List ℕ} {base : ℕ} {env : Env} {c : Choices} {e : Evaluated} (k : Gives ma (At t base) s t base env c e) where
  pub gives_stop : {m : State → Tree Value} (g : State → Value → Tree Value) → (e.outcome ≡ has_value → ⊥) → ((ρ : State) → m ρ ≡ bind (ma ρ) (g ρ)) → Gives m (At t base) s t base env c e
  gives_stop g h q = record { kept = k.kept; right = λ ρ u. comes_as (q ρ) (comes_stop (g ρ) (k.right ρ u) h) }

  pub gives_on : {m : State → Tree Value} (g : State → Value → Tree Value) {u : List ℕ} {f : Evaluated} → e.outcome ≡ has_value → Kept t u base → ((ρ : State) → Around s base env ρ → (v : Value) → At t base v → Comes (g ρ v) (At u base) e.choices f) → ((ρ : State) → m ρ ≡ bind (ma ρ) (g ρ)) → Gives m (At u base) s u base env c f
  gives_on g h l w q = record { kept = kept_then k.kept l; right = λ ρ u. comes_as (q ρ) (comes_on (g ρ) (k.right ρ u) h (w ρ u)) }

pub gives_at : (table : List ℕ) {a b : ℕ} {s t : List ℕ} {base : ℕ} {env : Env} {c : Choices} {e : Evaluated} → a ≡ b → Gives (meant table a) (At t base) s t base env c e → Gives (meant table b) (At t base) s t base env c e
gives_at table {s = s} {t} {base} {env} {c} {e} q k = subst (λ (x : ℕ). Gives (meant table x) (At t base) s t base env c e) q k

pub gives_refused : {m : State → Tree Value} (x : Refusal) (r : ℕ) {s : List ℕ} {base : ℕ} {env : Env} {c : Choices} {table : List ℕ} → Ask table r s base env c → ((ρ : State) → m ρ ≡ stop (number_of x) r) → Gives m (At s base) s s base env c (refused_as x r c)
gives_refused x r {s} {base} a q = record { kept = kept_same s base; right = λ ρ u. comes_as (q ρ) (comes_refused x r a.sound) }

-- ---- asking

module _ {table : List ℕ} {r : ℕ} {s : List ℕ} {base : ℕ} {env : Env} {c : Choices} (a : Ask table r s base env c) where
  pub ask_first : (i : ℕ) → i < length (named (record_at (records table) r)) → {b : ℕ} → b ≡ operand (record_at (records table) r) i → Ask table b s base env c
  ask_first i l q = ask_down a i l q {ρ = a.state} refl (omega arith) a.around a.sound

  module _ {ma : State → Tree Value} {t : List ℕ} {e : Evaluated} (k : Gives ma (At t base) s t base env c e) where
    pub ask_next : (i : ℕ) → i < length (named (record_at (records table) r)) → {b : ℕ} → b ≡ operand (record_at (records table) r) i → {u : List ℕ} {base' : ℕ} → Kept t u base → base ≤ base' → base' ≤ base + level → Ask table b u base' env e.choices
    ask_next i l q kp h h' =
        ask_down a i l q {ρ = a.state} (kp.long ∙ k.kept.long) h' (around_up h (omega (arith, room_here a, k.kept.long, kp.long)) (around_kept kp (around_kept k.kept a.around))) (comes_sound (k.right a.state a.around))

    pub single_held : e.outcome ≡ has_value → One t base
    single_held h = let (v, w) = comes_held (k.right a.state a.around) h in record { held = holds w; room = omega (arith, room_here a, k.kept.long) }

    pub around_next : {ρ : State} {base' : ℕ} → base ≤ base' → base' ≤ base + level → Around s base env ρ → Around t base' env ρ
    around_next h h' u = around_up h (omega (arith, room_here a, k.kept.long)) (around_kept k.kept u)

    module _ {mb : State → Tree Value} {u : List ℕ} {f : Evaluated} (l : Gives mb (At u (base + 512)) t u (base + 512) env e.choices f) where
      pub two-held : e.outcome ≡ has_value → f.outcome ≡ has_value → Two u base
      two-held h h' =
          let (v, w) = comes_held (k.right a.state a.around) h in
          let (v', w') = comes_held (l.right a.state (around_next (omega arith) (omega arith) a.around)) h' in
          record { left = holds (at_kept {base = base + 512} l.kept (omega (arith, room_here a, k.kept.long)) (omega arith) w); right = holds w'; room = omega (arith, room_here a, k.kept.long, l.kept.long) }

      pub gives_second_off : {m : State → Tree Value} (g : State → Value → Value → Tree Value) → e.outcome ≡ has_value → (f.outcome ≡ has_value → ⊥) → ((ρ : State) → m ρ ≡ bind (ma ρ) (λ v. bind (mb ρ) (g ρ v))) → Gives m (At u base) s u base env c f
      gives_second_off g h h' q =
          gives_on k (λ ρ v. bind (mb ρ) (g ρ v)) h (kept_less (omega arith) l.kept)
          (λ ρ b v w. comes_stop (g ρ v) (l.right ρ (around_next (omega arith) (omega arith) b)) h') q

      pub gives_both : {m : State → Tree Value} (g : Value → Value → Answer) {w : List ℕ} {x : Result (Unit {0}) Refusal} {z : Ended} → e.outcome ≡ has_value → f.outcome ≡ has_value → OnTwo g u w base x → z ≡ at_record x r → ((ρ : State) → m ρ ≡ bind (ma ρ) (λ v. bind (mb ρ) (λ y. at r (g v y)))) → Gives m (At w base) s w base env c (ended z f.choices)
      gives_both {m} g {w} {x} {z} h h' o d q =
          gives_on k (λ ρ v. bind (mb ρ) (λ y. at r (g v y))) h (kept_then (kept_less (omega arith) l.kept) o.kept)
          (λ ρ b v i. let n = l.right ρ (around_next (omega arith) (omega arith) b) in
          comes_on (λ y. at r (g v y)) n h' (λ y j.
          comes_applied x r (comes_sound n) (o.right v y (at_kept {base = base + 512} l.kept (omega (arith, room_here a, k.kept.long)) (omega arith) i) j) d)) q

    -- a unary operator
    pub gives_one : {m : State → Tree Value} (g : Value → Answer) {u : List ℕ} {x : Applied} {z : Ended} → e.outcome ≡ has_value → OnOne g t u base x → z ≡ at_record x r → ((ρ : State) → m ρ ≡ bind (ma ρ) (λ v. at r (g v))) → Gives m (At u base) s u base env c (ended z e.choices)
    gives_one g {x = x} h o d q =
        gives_on k (λ ρ v. at r (g v)) h o.kept
        (λ ρ b v i. comes_applied x r (comes_sound (k.right ρ b)) (o.right v i) d) q

    -- and, or, =>
    module _ (n : ℕ) {u : List ℕ} {x : Test} {m : State → Tree Value} (h : e.outcome ≡ has_value) (o : TestsLeft (connective n) t u base x) (rec : ℕ → State → Tree Value) (b : ℕ) (q : (ρ : State) → m ρ ≡ bind (ma ρ) (λ v. right_of rec r b ρ (left (connective n) v))) where
      said_settled : {l : Left} (ρ : State) → Comes (ma ρ) (At t base) c e → Says u base x l → x ≡ Ok Settled → Comes (right_of rec r b ρ l) (At u base) e.choices e
      said_settled ρ w (settled d i) z = gave h i (came_give _ (comes_sound w))
      said_settled ρ w (undecided d) z = let y = sym d ∙ z in impossible cc
      said_settled ρ w (not_said d g) z = let y = sym d ∙ z in impossible cc

      pub logic_settled : x ≡ Ok Settled → Gives m (At u base) s u base env c e
      logic_settled z = gives_on k (λ ρ v. right_of rec r b ρ (left (connective n) v)) h o.kept (λ ρ w v i. said_settled ρ (k.right ρ w) (o.right v i) z) q

      said_refused : {l : Left} (ρ : State) (y : Refusal) → Comes (ma ρ) (At t base) c e → Says u base x l → x ≡ Err y → Comes (right_of rec r b ρ l) (At u base) e.choices (refused_as y r e.choices)
      said_refused ρ y w (settled d i) z = let f = sym d ∙ z in impossible cc
      said_refused ρ y w (undecided d) z = let f = sym d ∙ z in impossible cc
      said_refused ρ y w (not_said {e = e'} {n = i} d g) z =
          let f = sym d ∙ z in
          let f' : e' ≡ y = cc in
          subst (λ (p : ℕ). Comes (stop p r) (At u base) e.choices (refused_as y r e.choices)) (sym (g ∙ ap number_of f')) (comes_refused y r (comes_sound w))

      pub logic_refused : (y : Refusal) → x ≡ Err y → Gives m (At u base) s u base env c (refused_as y r e.choices)
      logic_refused y z = gives_on k (λ ρ v. right_of rec r b ρ (left (connective n) v)) h o.kept (λ ρ w v i. said_refused ρ y (k.right ρ w) (o.right v i) z) q

      said_open : {l : Left} → Says u base x l → x ≡ Ok Open → l ≡ leaves
      said_open (settled d i) z = let y = sym d ∙ z in impossible cc
      said_open (undecided d) z = refl
      said_open (not_said d g) z = let y = sym d ∙ z in impossible cc

      module _ (z : x ≡ Ok Open) {w : List ℕ} {f : Evaluated} (l : Gives (rec b) (At w base) u w base env e.choices f) where
        by_right : {y : State → Tree Value} → ((ρ : State) → y ρ ≡ bind (rec b ρ) (λ v. at r (right v))) → {w' : List ℕ} {f' : Evaluated} → Gives y (At w' base) u w' base env e.choices f' → Gives m (At w' base) s w' base env c f'
        by_right {y} d {w'} {f'} g =
            gives_on k (λ ρ v. right_of rec r b ρ (left (connective n) v)) h (kept_then o.kept g.kept)
            (λ ρ b' v i. comes_as (ap (right_of rec r b ρ) (said_open (o.right v i) z) ∙ sym (d ρ)) (g.right ρ (around_kept o.kept (around_kept k.kept b')))) q

        pub logic_right_off : (f.outcome ≡ has_value → ⊥) → Gives m (At w base) s w base env c f
        logic_right_off h' = by_right (λ ρ. refl) (gives_stop l (λ ρ v. at r (right v)) h' (λ ρ. refl))

        pub logic_right : {x' : Applied} {z' : Ended} → f.outcome ≡ has_value → OnOne right w w base x' → z' ≡ at_record x' r → Gives m (At w base) s w base env c (ended z' f.choices)
        logic_right {x'} {z'} h' o' d =
            by_right (λ ρ. refl)
            (gives_on l (λ ρ v. at r (right v)) h' o'.kept
            (λ ρ b v i. comes_applied x' r (comes_sound (l.right ρ b)) (o'.right v i) d) (λ ρ. refl))

    -- if
    module _ (x : Maybe Bool) {m : State → Tree Value} (y n : State → Tree Value) (h : e.outcome ≡ has_value) (o : Tells t base x) (q : (ρ : State) → m ρ ≡ bind (ma ρ) (λ v. bind (is_true r v) (λ b. cond b (y ρ) (n ρ)))) where
      abbrev branch : State → Value → Tree Value
      branch ρ v = bind (is_true r v) (λ b. cond b (y ρ) (n ρ))

      test_is : {z : Option Bool} (ρ : State) (v : Value) → as_boolean v ≡ z → branch ρ v ≡ bind (or_else 20 r z) (λ b. cond b (y ρ) (n ρ))
      test_is ρ v d = ap (λ (z : Option Bool). bind (or_else 20 r z) (λ b. cond b (y ρ) (n ρ))) d

      pub if_other : x ≡ None → Gives m (At t base) s t base env c (refused_as WrongKind r e.choices)
      if_other z =
          gives_on k branch h (kept_same t base)
          (λ ρ b v i. comes_as (test_is ρ v (o v i ∙ ap read_as z)) (comes_refused WrongKind r (comes_sound (k.right ρ b)))) q

      pub if_true : {u : List ℕ} {f : Evaluated} → x ≡ Some true → Gives y (At u base) t u base env e.choices f → Gives m (At u base) s u base env c f
      if_true z l =
          gives_on k branch h l.kept
          (λ ρ b v i. comes_as (test_is ρ v (o v i ∙ ap read_as z)) (l.right ρ (around_kept k.kept b))) q

      pub if_false : {u : List ℕ} {f : Evaluated} → x ≡ Some false → Gives n (At u base) t u base env e.choices f → Gives m (At u base) s u base env c f
      if_false z l =
          gives_on k branch h l.kept
          (λ ρ b v i. comes_as (test_is ρ v (o v i ∙ ap read_as z)) (l.right ρ (around_kept k.kept b))) q
