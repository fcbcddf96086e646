-- What a record and its operands come to, operand by operand.
use Rattle.std.specs.Prelude.{Some, None, is_some}
use Rattle.std.specs.Bool.{then_some}
use mathlib.Core.Path.{◌≡◌, refl, sym, ap, subst, ◌∙◌}
use mathlib.Core.Bool.{Bool, true, false, not, ◌&&◌, ◌||◌, cond}
use mathlib.Core.List.{List, [], ◌∷◌, map, append-nil, append_assoc}
use mathlib.Core.Logic.{⊎_elim}
use Prim.Native.Nat.{ℕ, zero, suc, ◌+◌, ◌^◌, ◌≤◌, ◌<◌}
use native.Mathlib.Omega.{arith}
use native.Mathlib.Numerals.{add-one}
use borrow.Author.Tests.{eqb-true, eq-eqb, ne_eqb, lt-ltb, not-true}
use lib.Dec.{eqb}
use lib.ListN.{length, get_or, take}
use lib.Seq.{take-suc, take_all}
use mathlib.Mathlib.Data.Bool.Basic.{or_inl, or_inr, and_elim_left, and_elim_right}
use Rattle.prelude.proofs.Absurd.{impossible, never}
use Rattle.prelude.proofs.Truth.{by_lower, or_cases}
use Rattle.tables.specs.declared.Role.{Role}
use Rattle.tables.specs.declared.Role.TheVariants.{Plain, Condition, Body, Pattern, Name}
use Rattle.tables.specs.Record.{Record, last_kind, shape, is_fit, named, operand, role_at, name_of}
use Rattle.tables.specs.Shapes.{first_of, roles_of}
use Rattle.tables.specs.Table.{record_at, kind_at}
use Rattle.tables.specs.Sheet.{some, is_in, loose, holds_name, is_covered, is_condition, is_binder, pattern_of}
use Rattle.tables.specs.Check.{is_of_sort, all_named, named_before, is_bad, chooses}
use Rattle.tables.specs.Accepted.{records}
use Rattle.tables.proofs.Laws.Tests.{any_false}
use Rattle.tables.proofs.Laws.Kinds.{binder_kind, binder_from, binder_most, plain_begins}
use Rattle.tables.proofs.Laws.Accepted.{lower, operand_lower, operand_sort, operand_first, name_bound, choice_outside, fit_records, fit_kind}
use Rattle.tables.specs.Check.{Clear6}
use Rattle.checking.specs.declared.sweep.Sum.{Sum}
use Rattle.checking.specs.Scopes.{has_bit, or_bits, own, bits_below}
use Rattle.checking.specs.Sweeps.{without, apart, sort_of, Left, asked, is_named, covered_by, handed_on, choice_of, free_own, AskOperand, suits, Added, Adds, alone_of, one_role, names_of, AskKind, Passes, Allowed, Keeps, Known, Names, Sums, Gathered}
use Rattle.checking.proofs.Bits.{bit_union, bit_zero, bit-pow, held_name, held_loose, held_even}
use Rattle.checking.proofs.Marks.{all_more}
use Rattle.checking.proofs.Below.{Turn, turn_start, turn_more, turn_end}
use Rattle.checking.proofs.Shapes.{binder_expression, roles_many, one_role_lem, second_role, body_role, binder_some, expression_own, NoOperand, leaf_none, leaf_own, leaf_free, sort_asked, named_asked}
use Rattle.checking.proofs.Leaving.{Due, due, left_take, sort_expression, sort_pattern, not_bad, clear}
use Rattle.checking.proofs.Closing.{without_is, without_bit, low_bits, apart_bit, apart_all}
use Rattle.checking.proofs.Allowing.{allowed_both, operand_fresh, condition_plain, allowed_up}
use Rattle.checking.specs.Naming.{Listed}

-- ---- what is free at a record by itself

module _ (kind names : ℕ) where
  pub choice_let_be : kind ≡ 13 → 1 ≡ choice_of kind names
  unfolding choice_of
  choice_let_be e = rw e

  pub choice_let : (b : Bool) → kind ≡ 12 → b ≡ has_bit names 1 → cond b 1 0 ≡ choice_of kind names
  unfolding choice_of
  choice_let b e f = rw (e, f)

  pub choice_none : (kind ≡ 13 → ⊥) → (kind ≡ 12 → ⊥) → 0 ≡ choice_of kind names
  unfolding choice_of
  choice_none a b = rw (ne_eqb kind 13 a, ne_eqb kind 12 b)

module _ (x : Record) (names : ℕ) where
  pub free_name : (n : ℕ) → x.kind ≡ 3 → n ≡ name_of x → 2 ^ (n + 2) ≡ free_own x names
  unfolding free_own
  free_name n e f = sym (rw (eq-eqb x.kind 3 e, f))

  pub free_choice : (m : ℕ) → (x.kind ≡ 3 → ⊥) → m ≡ choice_of x.kind names → m ≡ free_own x names
  unfolding free_own
  free_choice m a e = rw (ne_eqb x.kind 3 a) e

  own_read : x.kind ≡ 3 → has_bit (free_own x names) (name_of x + 2) ≡ true
  own_read e = ap (λ (m : ℕ). has_bit m (name_of x + 2)) (sym (free_name (name_of x) e refl)) ∙ bit-pow (name_of x + 2) (name_of x + 2) ∙ eq-eqb (name_of x + 2) (name_of x + 2) refl

  own_choice : x.kind ≡ 13 → has_bit (free_own x names) 0 ≡ true
  own_choice e = ap (λ (m : ℕ). has_bit m 0) (sym (free_choice 1 (λ f. omega arith) (choice_let_be x.kind names e))) ∙ bit-pow 0 0

  own_loose : x.kind ≡ 12 → has_bit names 1 ≡ true → has_bit (free_own x names) 0 ≡ true
  own_loose e f = ap (λ (m : ℕ). has_bit m 0) (sym (free_choice 1 (λ g. omega arith) (choice_let x.kind names true e (sym f)))) ∙ bit-pow 0 0

let_binds : (k : ℕ) → k ≡ 12 → is_binder k ≡ true
unfolding shape
let_binds k e = rw e

own_chosen : (rs : List Record) (r names : ℕ) → Clear6 rs → Names rs r names → chooses rs r ≡ true → has_bit (free_own (record_at rs r) names) 0 ≡ true
unfolding chooses
own_chosen rs r names clear are e = go (eqb (kind_at rs r) 13) refl e
  where
    go : (b : Bool) → eqb (kind_at rs r) 13 ≡ b → b || (eqb (kind_at rs r) 12 && loose rs (pattern_of rs r)) ≡ true → has_bit (free_own (record_at rs r) names) 0 ≡ true
    go true f g = own_choice (record_at rs r) names (eqb-true (kind_at rs r) 13 f)
    go false f g =
        let is : kind_at rs r ≡ 12 = eqb-true (kind_at rs r) 12 (and_elim_left _ (loose rs (pattern_of rs r)) g) in
        own_loose (record_at rs r) names is
        (ap (λ (m : ℕ). has_bit m 1) (are.are clear (let_binds (kind_at rs r) is)) ∙ held_loose rs (pattern_of rs r) ∙ and_elim_right (eqb (kind_at rs r) 12) _ g)

-- Where rules 6 to 8 are kept, the bits that are free at a record by itself are allowed there.
choice_low : (kind names : ℕ) → choice_of kind names < 4
unfolding choice_of
choice_low kind names = go (eqb kind 13 || (eqb kind 12 && has_bit names 1))
  where
    go : (b : Bool) → cond b 1 0 < 4
    go true = omega arith
    go false = omega arith

choice_is : (kind names : ℕ) → has_bit (choice_of kind names) 0 ≡ true → eqb kind 13 || (eqb kind 12 && has_bit names 1) ≡ true
unfolding choice_of
choice_is kind names e = go (eqb kind 13 || (eqb kind 12 && has_bit names 1)) e
  where
    go : (b : Bool) → has_bit (cond b 1 0) 0 ≡ true → b ≡ true
    go true f = refl
    go false f = never (sym (bit_zero 0) ∙ f)

module _ (rs : List Record) (keeps : Keeps rs) (r names : ℕ) (in_table : r < length rs) (are : Names rs r names) where
  chosen_is : has_bit (choice_of (kind_at rs r) names) 0 ≡ true → chooses rs r ≡ true
  unfolding chooses
  chosen_is e =
      ⊎_elim (λ f. or_inl (eqb (kind_at rs r) 13) _ f)
      (λ f.
      let is : eqb (kind_at rs r) 12 ≡ true = and_elim_left _ (has_bit names 1) f in
      or_inr (eqb (kind_at rs r) 13) _
      (rw (is, sym (held_loose rs (pattern_of rs r)), sym (are.are keeps.clear6 (let_binds (kind_at rs r) (eqb-true (kind_at rs r) 12 is)))) (and_elim_right (eqb (kind_at rs r) 12) _ f)))
      (or_cases (eqb (kind_at rs r) 13) (eqb (kind_at rs r) 12 && has_bit names 1) (choice_is (kind_at rs r) names e))

  own_allowed : Allowed rs r (free_own (record_at rs r) names)
  unfolding free_own
  own_allowed = go (eqb (kind_at rs r) 3) refl
    where
      go : (b : Bool) → eqb (kind_at rs r) 3 ≡ b → Allowed rs r (cond b (2 ^ (name_of (record_at rs r) + 2)) (choice_of (kind_at rs r) names))
      go true f =
          record {
            bound =
                λ n e.
                let same : name_of (record_at rs r) + 2 ≡ n + 2 = eqb-true _ (n + 2) (sym (bit-pow (name_of (record_at rs r) + 2) (n + 2)) ∙ e) in
                let is : name_of (record_at rs r) ≡ n = omega arith in
                rw is at (name_bound rs r (keeps.clear7 r in_table) (eqb-true (kind_at rs r) 3 f));
            outside =
                λ e.
                let same : name_of (record_at rs r) + 2 ≡ 0 = eqb-true _ 0 (sym (bit-pow (name_of (record_at rs r) + 2) 0) ∙ e) in
                absurd (omega arith);
          }
      go false f =
          record {
            bound = λ n e. never (sym (low_bits (choice_of (kind_at rs r) names) n (choice_low (kind_at rs r) names)) ∙ e);
            outside = λ e. choice_outside rs r (keeps.clear8 r in_table) (chosen_is e);
          }

-- ---- one operand

pub asked_some : (x : Role) → 0 < asked x
asked_some Plain = omega arith
asked_some Condition = omega arith
asked_some Body = omega arith
asked_some Pattern = omega arith
asked_some Name = omega arith

sort_right : (x : Role) (y : Record) → is_fit y ≡ true → sort_of y.kind ≡ asked x → is_named x y.kind ≡ true → is_of_sort x y.kind ≡ true
sort_right Plain y fit e f = sort_expression y fit e
sort_right Condition y fit e f = sort_expression y fit e
sort_right Body y fit e f = sort_expression y fit e
sort_right Pattern y fit e f = sort_pattern y.kind e
sort_right Name y fit e f = f

-- What is handed on of the bits m: all but the names that cover the operand.
record Hand (role : Role) (names held m o : ℕ) : Type 0 where
  pass : (n : ℕ) → has_bit m n ≡ true → has_bit o n || (is_covered role && has_bit names n) ≡ true
  outside : has_bit m 0 ≡ true → is_condition role ≡ false
  fresh : (n : ℕ) → has_bit held (n + 2) ≡ true → is_covered role && has_bit names (n + 2) ≡ false
  from : (n : ℕ) → has_bit o n ≡ true → has_bit m n ≡ true
  taken : (n : ℕ) → has_bit o n ≡ true → is_covered role && has_bit names n ≡ false

hand_all : (role : Role) (names held m : ℕ) → is_covered role ≡ false → is_condition role ≡ false → Hand role names held m m
hand_all role names held m a b =
    record {
      pass = λ n f. or_inl (has_bit m n) _ f;
      outside = λ f. b;
      fresh = λ n f. rw a;
      from = λ n f. f;
      taken = λ n f. rw a;
    }

hand_covered : (role : Role) (names held m o : ℕ) → is_covered role ≡ true → (has_bit m 0 ≡ true → is_condition role ≡ false) → covered_by names held m ≡ Some o → Hand role names held m o
hand_covered role names held m o a b e = go (apart held names) refl e
  where
    off : without m names ≡ o → (n : ℕ) → has_bit o n ≡ true → has_bit m n && not (has_bit names n) ≡ true
    off k n l = sym (without_is m names n) ∙ ap (λ (q : ℕ). has_bit q n) k ∙ l

    go : (t : Bool) → apart held names ≡ t → then_some t (without m names) ≡ Some o → Hand role names held m o
    go true g k =
        let is : without m names ≡ o = cc in
        record {
          pass = λ n l. rw (sym is, a) (without_bit m names n l);
          outside = b;
          fresh = λ n l. rw a (apart_bit held names n g l);
          from = λ n l. and_elim_left (has_bit m n) (not (has_bit names n)) (off is n l);
          taken = λ n l. rw a (not-true (has_bit names n) (and_elim_right (has_bit m n) (not (has_bit names n)) (off is n l)));
        }
    go false g k = impossible cc

-- Something is handed on where no name is bound anew and a condition has no choice.
hand_fine : (role : Role) (names held m : ℕ) → (is_covered role ≡ true → apart held names ≡ true) → (is_condition role ≡ true → has_bit m 0 ≡ false) → is_some (handed_on role names held m) ≡ true
hand_fine Plain names held m a b = refl
hand_fine Condition names held m a b = rw (b refl, a refl)
hand_fine Body names held m a b = rw (a refl)
hand_fine Pattern names held m a b = refl
hand_fine Name names held m a b = refl

hand_plain : (role : Role) (names held m o : ℕ) → is_covered role ≡ false → is_condition role ≡ false → Some m ≡ Some o → Hand role names held m o
hand_plain role names held m o a b e = let is : m ≡ o = cc in subst (λ (x : ℕ). Hand role names held m x) is (hand_all role names held m a b)

hand_of : (role : Role) (names held m o : ℕ) → handed_on role names held m ≡ Some o → Hand role names held m o
hand_of Plain names held m o e = hand_plain Plain names held m o refl refl e
hand_of Condition names held m o e = go (has_bit m 0) refl e
  where
    go : (t : Bool) → has_bit m 0 ≡ t → cond t None (covered_by names held m) ≡ Some o → Hand Condition names held m o
    go true g k = impossible cc
    go false g k = hand_covered Condition names held m o refl (λ l. never (sym g ∙ l)) k
hand_of Body names held m o e = hand_covered Body names held m o refl (λ l. refl) e
hand_of Pattern names held m o e = hand_plain Pattern names held m o refl refl e
hand_of Name names held m o e = hand_plain Name names held m o refl refl e

-- A record with an operand that its names cover is a binder.
covered_some : (roles : List Role) (i : ℕ) → is_covered (get_or roles i Plain) ≡ true → some (map is_covered roles) ≡ true
covered_some [] i e = never e
covered_some (x ∷ xs) zero e = or_inl (is_covered x) (some (map is_covered xs)) e
covered_some (x ∷ xs) (suc i) e = or_inr (is_covered x) (some (map is_covered xs)) (covered_some xs i e)

union_left : (a b n : ℕ) → has_bit a n ≡ true → has_bit (or_bits a b) n ≡ true
union_left a b n e = bit_union a b n ∙ or_inl (has_bit a n) (has_bit b n) e

union_right : (a b n : ℕ) → has_bit b n ≡ true → has_bit (or_bits a b) n ≡ true
union_right a b n e = bit_union a b n ∙ or_inr (has_bit a n) (has_bit b n) e

or_map : (a b c d : Bool) → (a ≡ true → c ≡ true) → (b ≡ true → d ≡ true) → a || b ≡ true → c || d ≡ true
or_map true b c d f g e = or_inl c d (f refl)
or_map false b c d f g e = or_inr c d (g e)

module _ (rs : List Record) (r names : ℕ) (clear : Clear6 rs) (are : Names rs r names) where
  covered_is : (i b : ℕ) (t : Bool) → has_bit (bits_below rs (pattern_of rs r)) b ≡ t → is_covered (role_at (record_at rs r) i) && has_bit names b ≡ is_covered (role_at (record_at rs r) i) && t
  covered_is i b t e = go (is_covered (role_at (record_at rs r) i)) refl
    where
      go : (s : Bool) → is_covered (role_at (record_at rs r) i) ≡ s → s && has_bit names b ≡ s && t
      go true f = ap (λ (m : ℕ). has_bit m b) (are.are clear (covered_some (shape (kind_at rs r)).roles i f)) ∙ e
      go false f = refl

  passes : (i n m held o : ℕ) → n ≡ operand (record_at rs r) i → held ≡ bits_below rs n → Hand (role_at (record_at rs r) i) names held m o → Passes rs r i m o
  passes i n m held o is e h =
      record {
        name = λ k f. rw (covered_is i (k + 2) (holds_name rs (pattern_of rs r) k) (held_name rs (pattern_of rs r) k)) at (h.pass (k + 2) f);
        choice = λ f. plain (has_bit o 0) (is_covered (role_at (record_at rs r) i)) (rw (covered_is i 0 false (held_even rs (pattern_of rs r))) at (h.pass 0 f));
        outside = h.outside;
        fresh =
            λ k f.
            sym (covered_is i (k + 2) (holds_name rs (pattern_of rs r) k) (held_name rs (pattern_of rs r) k))
            ∙ h.fresh k (ap (λ (b : ℕ). has_bit b (k + 2)) (e ∙ ap (bits_below rs) is) ∙ held_name rs (operand (record_at rs r) i) k ∙ f);
      }
    where
      plain : (a b : Bool) → a || (b && false) ≡ true → a ≡ true
      plain true b f = refl
      plain false true f = f
      plain false false f = f

passes_more : (rs : List Record) (q i m o p : ℕ) → ((n : ℕ) → has_bit o n ≡ true → has_bit p n ≡ true) → Passes rs q i m o → Passes rs q i m p
passes_more rs q i m o p up h =
    record {
      name = λ n e. or_map (has_bit o (n + 2)) _ (has_bit p (n + 2)) _ (up (n + 2)) (λ f. f) (h.name n e);
      choice = λ e. up 0 (h.choice e);
      outside = h.outside;
      fresh = h.fresh;
    }

-- What is added was told by the tests.
pub added_told : {rs : List Record} {role : Role} {n names : ℕ} {left left' below frees : List ℕ} {s t : Sum} → Added rs role n names left left' below frees s t → Adds rs role n names left left' below frees s (Some t)
added_told {rs} {role} {n} {names} {left} {left'} {below} {frees} {s} {t} a =
    record {
      told = sym (rw (eq-eqb (get_or left n 0) (asked role) a.sort, a.kind, a.hands));
      added = λ u e. let same : t ≡ u = cc in subst (Added rs role n names left left' below frees s) same a;
    }

-- ---- the operands of a record

pub record Gathers (rs : List Record) (r : ℕ) (frees : List ℕ) (first : ℕ) (left : List ℕ) (s : Sum) (i : ℕ) : Type 0 where
  pub within : i ≤ length (named (record_at rs r))
  pub good : (j : ℕ) → j < i → is_bad rs r j ≡ false
  pub left_is : Left rs left r (named_before rs r i)
  pub held_is : Clear6 rs → Turn rs r s.held i
  pub allowed : Keeps rs → Allowed rs r s.free
  pub up : (n : ℕ) → has_bit first n ≡ true → has_bit s.free n ≡ true
  pub pass : Clear6 rs → (j : ℕ) → j < i → Passes rs r j (get_or frees (operand (record_at rs r) j) 0) s.free

pub gathers_start : (rs : List Record) (r : ℕ) (left frees : List ℕ) (held free : ℕ) (s : Sum) → r < length rs → Left rs left r (all_named (take r rs)) → held ≡ own (record_at rs r) → (names : ℕ) → Names rs r names → free ≡ free_own (record_at rs r) names → s ≡ alone_of held free → Gathers rs r frees free left s 0
gathers_start rs r left frees held free s h l e names are own_is f =
    rw f
    (record {
      within = omega arith;
      good = λ j k. absurd (omega arith);
      left_is = rw (append-nil (all_named (take r rs))) l;
      held_is = λ clear. turn_start rs r held (lower rs clear) h e;
      allowed = λ keeps. rw own_is (own_allowed rs keeps r names h are);
      up = λ n f. f;
      pass = λ clear j k. absurd (omega arith);
    })

-- What add_operand asks of operand n.
pub ask_operand : {table : List ℕ} {r : ℕ} {frees : List ℕ} {first : ℕ} {left : List ℕ} {s : Sum} {i : ℕ} (n : ℕ) → Listed table r → Gathers (records table) r frees first left s i → n < 256 → AskOperand table n left
ask_operand {table} {r} {frees} {first} {left} {s} {i} n here g byte =
    record {
      few = here.few;
      byte = byte;
      within = λ h. omega (arith, (due (records table) r (named_before (records table) r i) left n (get_or left n 0) g.left_is byte refl h).below, here.within);
    }

module _ {rs : List Record} {r names : ℕ} {below frees : List ℕ} (kept : Known rs below frees r) (are : Names rs r names) (fit : (q : ℕ) → q < length rs → is_fit (record_at rs q) ≡ true) (in_table : r < length rs) where
  gathers_more : {first : ℕ} {left left' : List ℕ} {s t : Sum} {i n : ℕ} {x : Role} → Gathers rs r frees first left s i → i < length (named (record_at rs r)) → n ≡ operand (record_at rs r) i → n < 256 → x ≡ role_at (record_at rs r) i → Added rs x n names left left' below frees s t → Gathers rs r frees first left' t (i + 1)
  gathers_more {first} {left} {left'} {s} {t} {i} {n} {x} g has is byte role a =
      let due_is : Due rs r (named_before rs r i) n (asked x) = due rs r (named_before rs r i) left n (asked x) g.left_is byte a.sort (asked_some x) in
      let lw : n < r = due_is.below in
      let mine : is_of_sort x (kind_at rs n) ≡ true = sort_right x (record_at rs n) (fit n (omega arith)) due_is.sort a.kind in
      let hand : Hand (role_at (record_at rs r) i) names (get_or below n 0) (get_or frees n 0) a.handed =
      subst (λ (y : Role). Hand y names (get_or below n 0) (get_or frees n 0) a.handed) role (hand_of x names (get_or below n 0) (get_or frees n 0) a.handed a.hands) in
      record {
        within = omega arith;
        good =
            λ j l.
            split_at j l g.good (not_bad rs r i n (asked x) is due_is (rw (sym role) mine));
        left_is =
            rw (add-one i, take-suc (named (record_at rs r)) i 0 has, sym (append_assoc (all_named (take r rs)) (take i (named (record_at rs r))) (operand (record_at rs r) i ∷ [])), sym is)
            (left_take rs r (named_before rs r i) left left' n g.left_is byte lw a.left_is);
        held_is = λ clear. turn_more rs r s.held i t.held (get_or below n 0) (g.held_is clear) has (kept.held clear n lw ∙ ap (bits_below rs) is) a.held;
        allowed =
            λ keeps.
            allowed_both (g.allowed keeps)
            (allowed_up rs keeps r i in_table has (get_or frees n 0) a.handed (subst (λ (k : ℕ). Allowed rs k (get_or frees n 0)) is (kept.allowed keeps n lw)) hand.from
            (λ k f. sym (covered_is rs r names keeps.clear6 are i (k + 2) (holds_name rs (pattern_of rs r) k) (held_name rs (pattern_of rs r) k)) ∙ hand.taken (k + 2) f))
            a.free;
        up = λ b l. rw a.free (union_left s.free a.handed b (g.up b l));
        pass =
            λ clear j l.
            split_at j l
            (λ m o. passes_more rs r m (get_or frees (operand (record_at rs r) m) 0) s.free t.free (λ b p. rw a.free (union_left s.free a.handed b p)) (g.pass clear m o))
            (subst (λ (k : ℕ). Passes rs r i (get_or frees k 0) t.free) is
            (passes_more rs r i (get_or frees n 0) a.handed t.free (λ b p. rw a.free (union_right s.free a.handed b p))
            (passes rs r names clear are i n (get_or frees n 0) (get_or below n 0) a.handed is (kept.held clear n lw) hand)));
      }
    where
      split_at : {P : ℕ → Type 0} (j : ℕ) → j < i + 1 → ((m : ℕ) → m < i → P m) → P i → P j
      split_at {P} j l a b = by_lower j i (λ m. a j m) (λ m. let same : i ≡ j = omega arith in subst P same b)

  -- Where rules 6 to 8 are kept, every operand suits.
  operand_suits : Keeps rs → {first : ℕ} {left : List ℕ} {s : Sum} {i n : ℕ} {x : Role} → Gathers rs r frees first left s i → i < length (named (record_at rs r)) → n ≡ operand (record_at rs r) i → n < 256 → x ≡ role_at (record_at rs r) i → suits rs x n names left below frees ≡ true
  operand_suits keeps {first} {left} {s} {i} {n} {x} g has is byte role =
      let clear : Clear6 rs = keeps.clear6 in
      let lw : n < r = omega (arith, operand_lower rs clear r i in_table has) in
      let right : is_of_sort x (kind_at rs n) ≡ true = rw (is, role) (operand_sort rs clear r i in_table has) in
      let new : is_in n (named_before rs r i) ≡ false = rw is (operand_first rs clear r i in_table has) in
      let sort : get_or left n 0 ≡ asked x = g.left_is.is n byte ∙ rw (lt-ltb n r lw, new) (sort_asked x (record_at rs n) (fit n (omega arith)) right) in
      let fine : is_some (handed_on x names (get_or below n 0) (get_or frees n 0)) ≡ true =
      rw role
      (hand_fine (role_at (record_at rs r) i) names (get_or below n 0) (get_or frees n 0) (λ c. apart_all (get_or below n 0) names (λ k f. new-name keeps i n k has is c (held_is clear n k lw f)))
      (condition_plain rs keeps r i in_table has (get_or frees n 0) (subst (λ (k : ℕ). Allowed rs k (get_or frees n 0)) is (kept.allowed keeps n lw)))) in
      rw (eq-eqb (get_or left n 0) (asked x) sort, named_asked x (kind_at rs n) right) fine
    where
      held_is : Clear6 rs → (n k : ℕ) → n < r → has_bit (get_or below n 0) (k + 2) ≡ true → holds_name rs n k ≡ true
      held_is clear n k lw f = sym (ap (λ (m : ℕ). has_bit m (k + 2)) (kept.held clear n lw) ∙ held_name rs n k) ∙ f

      new-name : (keeps : Keeps rs) (i n k : ℕ) → i < length (named (record_at rs r)) → n ≡ operand (record_at rs r) i → is_covered (role_at (record_at rs r) i) ≡ true → holds_name rs n k ≡ true → has_bit names (k + 2) ≡ false
      new-name keeps i n k has is c f =
          rw c at
          (covered_is rs r names keeps.clear6 are i (k + 2) (holds_name rs (pattern_of rs r) k) (held_name rs (pattern_of rs r) k)
          ∙ operand_fresh rs keeps r i in_table has k (rw is at f))

pub gathers_end : {rs : List Record} {r names : ℕ} {left frees : List ℕ} {s : Sum} {i first : ℕ} → r < length rs → Names rs r names → first ≡ free_own (record_at rs r) names → Gathers rs r frees first left s i → length (named (record_at rs r)) ≤ i → Gathered rs r left frees (Some s)
gathers_end {rs} {r} {names} {left} {frees} {s} {i} {first} h are own_is g l =
    record {
      told = λ keeps. refl;
      sums =
          λ t e.
          let same : s ≡ t = cc in
          subst (Sums rs r left frees) same
          (record {
            good = any_false (is_bad rs r) (length (named (record_at rs r))) (λ j k. g.good j (omega arith));
            left_is = rw (all_more rs r h, sym (take_all i (named (record_at rs r)) l)) g.left_is;
            held = λ clear. turn_end rs r s.held i (g.held_is clear) l;
            free =
                λ clear.
                record {
                  read = λ e. g.up (name_of (record_at rs r) + 2) (rw own_is (own_read (record_at rs r) names e));
                  chosen = λ e. g.up 0 (rw own_is (own_chosen rs r names clear are e));
                  pass = λ j k. g.pass clear j (omega arith);
                };
            allowed = g.allowed;
          });
    }

-- A record stops where one of its operands does not suit.
stopped : {rs : List Record} {r : ℕ} {left frees : List ℕ} → (Keeps rs → false ≡ true) → Gathered rs r left frees None
stopped told = record { told = told; sums = λ t f. impossible cc }

-- ---- the names that a record binds

no_names : (rs : List Record) (r : ℕ) → is_binder (kind_at rs r) ≡ false → Names rs r 0
no_names rs r e = record { are = λ clear f. never (sym e ∙ f) }

-- Those of its pattern, which is lower where rule 6 is kept.
pub pattern_names : {rs : List Record} {below frees : List ℕ} {r p m : ℕ} → Known rs below frees r → r < length rs → 0 < length (named (record_at rs r)) → p ≡ operand (record_at rs r) 0 → m ≡ names_of below r p → Names rs r m
pattern_names {rs} {below} {frees} {r} {p} {m} kept h has is e =
    record {
      are =
          λ clear f.
          let lw : p < r = omega (arith, operand_lower rs clear r 0 h has) in
          let all : names_of below r p ≡ get_or below p 0 = rw (lt-ltb p r lw) in
          e ∙ all ∙ kept.held clear p lw ∙ ap (bits_below rs) is;
    }

-- ---- records by kind

module _ {table : List ℕ} {r kind : ℕ} {left below frees : List ℕ} (ask : AskKind table r kind left below frees) where
  pub fit_here : is_fit (record_at (records table) r) ≡ true
  fit_here = fit_records table r ask.ask.here.within

  pub kind_most : kind ≤ last_kind
  kind_most = omega (arith, ask.is, fit_kind (record_at (records table) r) fit_here)

  -- One more operand of the record.
  pub operand_more : {names first : ℕ} {now next : List ℕ} {s t : Sum} {i n : ℕ} {x : Role} → Names (records table) r names → Gathers (records table) r frees first now s i → i < length (named (record_at (records table) r)) → n ≡ operand (record_at (records table) r) i → n < 256 → x ≡ role_at (record_at (records table) r) i → Adds (records table) x n names now next below frees s (Some t) → Gathers (records table) r frees first next t (i + 1)
  operand_more {t = t} are g has is byte role a = gathers_more ask.ask.kept are (fit_records table) ask.ask.here.within g has is byte role (a.added t refl)

  -- An operand that does not suit breaks a rule.
  pub operand_stops : {names first : ℕ} {now next last : List ℕ} {s : Sum} {i n : ℕ} {x : Role} → Names (records table) r names → Gathers (records table) r frees first now s i → i < length (named (record_at (records table) r)) → n ≡ operand (record_at (records table) r) i → n < 256 → x ≡ role_at (record_at (records table) r) i → Adds (records table) x n names now next below frees s None → Gathered (records table) r last frees None
  operand_stops are g has is byte role a = stopped (λ keeps. a.told ∙ operand_suits ask.ask.kept are (fit_records table) ask.ask.here.within keeps g has is byte role)

-- A record that binds nothing and reads no name.
pub record BindsNothing (rs : List Record) (r kind : ℕ) : Type 0 where
  pub names : Names rs r 0
  pub free : 0 ≡ free_own (record_at rs r) 0
  pub role : (i : ℕ) → i < length (named (record_at rs r)) → one_role kind ≡ role_at (record_at rs r) i

pub binds_nothing : {table : List ℕ} {r kind : ℕ} {left below frees : List ℕ} → AskKind table r kind left below frees → 3 < kind → is_binder kind ≡ false → BindsNothing (records table) r kind
binds_nothing {table} {r} {kind} ask h e =
    let none : is_binder (kind_at (records table) r) ≡ false = ap is_binder (sym ask.is) ∙ e in
    let outside : (n : ℕ) → 12 ≤ n → n ≤ 20 → kind_at (records table) r ≡ n → ⊥ = λ n l m f. never (sym none ∙ binder_kind (kind_at (records table) r) (omega arith) (omega arith)) in
    record {
      names = no_names (records table) r none;
      free =
          free_choice (record_at (records table) r) 0 0 (λ f. omega (arith, ask.is))
          (choice_none (kind_at (records table) r) 0 (outside 13 (omega arith) (omega arith)) (outside 12 (omega arith) (omega arith)));
      role = λ i k. ap one_role ask.is ∙ one_role_lem (record_at (records table) r) (fit_here ask) none i k;
    }

-- A binder.
pub record Binds (rs : List Record) (r kind : ℕ) : Type 0 where
  pub own_is : 0 ≡ own (record_at rs r)
  pub free : (names : ℕ) → choice_of kind names ≡ free_own (record_at rs r) names
  pub first : 4 ≡ first_of (kind_at rs r)
  pub some_roles : 3 ≤ length (roles_of kind)
  pub some_named : 3 ≤ length (named (record_at rs r))
  pub role : (i : ℕ) → get_or (roles_of kind) i Plain ≡ role_at (record_at rs r) i
  pub second : Plain ≡ role_at (record_at rs r) 1
  pub body : (i : ℕ) → 3 ≤ i → i < length (named (record_at rs r)) → Body ≡ role_at (record_at rs r) i

pub binder_is : {table : List ℕ} {r kind : ℕ} {left below frees : List ℕ} → AskKind table r kind left below frees → is_binder kind ≡ true → Binds (records table) r kind
binder_is {table} {r} {kind} ask e =
    let binder : is_binder (kind_at (records table) r) ≡ true = ap is_binder (sym ask.is) ∙ e in
    let three : 3 ≤ length (named (record_at (records table) r)) = binder_some (record_at (records table) r) (fit_here ask) binder in
    record {
      own_is = expression_own (record_at (records table) r) (binder_expression (kind_at (records table) r) binder);
      free = λ names. ap (λ (k : ℕ). choice_of k names) ask.is ∙ free_choice (record_at (records table) r) names _ (λ f. omega (arith, binder_from (kind_at (records table) r) binder)) refl;
      first = plain_begins (kind_at (records table) r) (omega (arith, binder_from (kind_at (records table) r) binder)) (omega (arith, binder_most (kind_at (records table) r) binder));
      some_roles = omega (arith, ap (λ (k : ℕ). length (roles_of k)) ask.is, roles_many (record_at (records table) r));
      some_named = three;
      role = λ i. ap (λ (k : ℕ). get_or (roles_of k) i Plain) ask.is;
      second = second_role (record_at (records table) r) (fit_here ask) binder (omega arith);
      body = body_role (record_at (records table) r) (fit_here ask) binder;
    }

-- The names of a binder's pattern, and what has been gathered before its first operand.
module _ {table : List ℕ} {r kind : ℕ} {left below frees : List ℕ} (ask : AskKind table r kind left below frees) (binder : is_binder kind ≡ true) where
  pub binder_names : {p names : ℕ} → p ≡ operand (record_at (records table) r) 0 → names ≡ names_of below r p → Names (records table) r names
  binder_names is e = pattern_names ask.ask.kept ask.ask.here.within (omega (arith, (binder_is ask binder).some_named)) is e

  pub binder_start : {names choice : ℕ} {s : Sum} → Names (records table) r names → choice ≡ choice_of kind names → s ≡ alone_of 0 choice → Gathers (records table) r frees (choice_of kind names) left s 0
  binder_start {names} {s = s} are e f =
      let b = binder_is ask binder in
      gathers_start (records table) r left frees 0 (choice_of kind names) s ask.ask.here.within ask.ask.left_is b.own_is names are (b.free names) (f ∙ ap (alone_of 0) e)

-- A record without operands.
pub leaf_sums : (rs : List Record) (r : ℕ) (left frees : List ℕ) (s : Sum) (free : ℕ) → r < length rs → NoOperand (kind_at rs r) → Left rs left r (all_named (take r rs)) → free ≡ free_own (record_at rs r) 0 → s ≡ alone_of 0 free → Gathered rs r left frees (Some s)
leaf_sums rs r left frees s free h b l f e =
    gathers_end h (no_names rs r (leaf_free (kind_at rs r) b)) f
    (gathers_start rs r left frees 0 free s h l (leaf_own (record_at rs r) b) 0 (no_names rs r (leaf_free (kind_at rs r) b)) f e)
    (omega (arith, leaf_none (record_at rs r) b))
