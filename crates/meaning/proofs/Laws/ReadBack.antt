-- How great the numbers, places and counts of the services' answers can be: each can be read back from the packed answer.
use Rattle.std.specs.Prelude.{◌≡◌, refl, Bool, true, false, not, ◌||◌, cond as choosing, cond, ℕ, zero, suc, ◌+◌, ◌*◌, ◌≤◌, ◌<◌, eqb, ltb, length}
use Rattle.std.proofs.Common.{ap, ◌∙◌, ltb-true, ltb-false, le-ltb, length-drop}
use Rattle.std.proofs.Math.Option.{Option, none as absent, some}
use mathlib.Core.List.{List, [], ◌∷◌}
use native.Mathlib.Omega.{arith}
use Rattle.std.proofs.lemmas.Bool.{eqb-false, not-true}
use Rattle.prelude.proofs.Absurd.{impossible}
use Rattle.prelude.proofs.Truth.{or_false_right}
use Rattle.integers.specs.Bytes.{word}
use Rattle.choices.specs.Tree.{Tree, give, stop, choose, Run, gave, stopped, short, beyond, follow, run, most_choices, Numbered, Final, result, refuses, final}
use Rattle.choices.specs.Paths.{next_list}
use Rattle.values.specs.Value.{value_limit as largest}
use Rattle.patterns.specs.Binder.{most_bindings}
use Rattle.std.specs.Prelude.{Ok, Err}
use Rattle.tables.specs.Faults.{Checked, faulty, number_of}
use Rattle.tables.specs.declared.Rule.TheVariants.{WrongSize, UnfitRecord, TooManyRecords, WrongNaming, WrongBinding, ChoiceInCondition, TooHigh}
use Rattle.tables.specs.Record.{Record}
use Rattle.tables.specs.Table.{Next, end, fault, one, next, Cut, cut_by, cut, on_next}
use Rattle.tables.specs.Sheet.{lowest}
use Rattle.tables.specs.Check.{most_bytes, most_records, Rule, judge, judged, judged_cut, check, rule, fault6, fault7, fault8, fault9}
use Rattle.tables.proofs.Laws.Accepted.{accepted_fine}
use Rattle.tables.proofs.Laws.Cutting.{next-is}
use Rattle.meaning.specs.State.{unbound}
use Rattle.meaning.specs.Read.{sheet}
use Rattle.meaning.specs.Answer.{uncounted, ReadBack, final_number, final_place, final_count, record_count}
use Rattle.meaning.specs.Walk.{Walk, walk_list}
use Rattle.meaning.specs.Service.{scratch_bytes, last, tree, unless, accepted, checks, runs, evaluates, onward, stepped_from, firsts, steps}
use Rattle.meaning.specs.Lent.{is_early}
use Rattle.meaning.proofs.Laws.Proper.{downward}
use Rattle.meaning.proofs.Laws.Sure.{Narrow, sure_meaning, Placed, placed_meaning}
use Rattle.meaning.proofs.Laws.Services.{late_number}

-- ---- the check

-- At most 200 records are counted. A rule's number is 3 to 9. Rule 4 can break at any of the 600 records that fit 2,400 bytes.
abbrev pub SmallCheck : Checked → Type 0
SmallCheck (Ok n) = n ≤ 200
SmallCheck (Err e) = (3 ≤ number_of e.rule) × (number_of e.rule ≤ 9) × (e.place < 600)

small_cond : (b : Bool) (x y : Checked) → (b ≡ true → SmallCheck x) → (b ≡ false → SmallCheck y) → SmallCheck (cond b x y)
small_cond true x y f g = f refl
small_cond false x y f g = g refl

-- Records have four bytes or more, and a record that is at fault has one.
abbrev broken : Bool → ℕ
broken true = 0
broken false = 1

fault_some : (bytes : List ℕ) → next bytes ≡ fault → 0 < length bytes
unfolding next
fault_some bytes e = go (eqb (length bytes) 0) _ refl e
  where
    go : (z : Bool) (x : Next) → eqb (length bytes) 0 ≡ z → cond z end x ≡ fault → 0 < length bytes
    go true x f k = impossible cc
    go false x f k = omega (arith, eqb-false (length bytes) 0 f)

cut_small : (bound : ℕ) (bytes : List ℕ) → 4 * length (cut_by bound bytes).records + broken (cut_by bound bytes).whole ≤ length bytes
unfolding cut_by
cut_small zero bytes = omega arith
cut_small (suc bound) bytes = go (next bytes) refl (λ rest. cut_small bound rest)
  where
    go : (n : Next) → next bytes ≡ n → ((rest : List ℕ) → 4 * length (cut_by bound rest).records + broken (cut_by bound rest).whole ≤ length rest) → 4 * length (on_next n (λ rest. cut_by bound rest)).records + broken (on_next n (λ rest. cut_by bound rest)).whole ≤ length bytes
    go end e f = omega arith
    go fault e f = omega (arith, fault_some bytes e)
    go (one x rest) e f =
        let is = next-is bytes x rest e in
        omega (arith, f rest, is.long, is.whole, ap length is.then, length-drop (word bytes 0) bytes)

module _ (rs : List Record) (few : length rs ≤ 200) where
  small_rule : (u : Rule) (us : List Rule) → 3 ≤ number_of u.name → number_of u.name ≤ 9 → SmallCheck (judge us rs) → SmallCheck (judge (u ∷ us) rs)
  small_rule u us l h later =
      small_cond (ltb (lowest (u.fault rs) (length rs)) (length rs)) (faulty u.name (lowest (u.fault rs) (length rs))) (judge us rs)
      (λ e. (l, h, omega (arith, ltb-true (lowest (u.fault rs) (length rs)) (length rs) e)))
      (λ e. later)

  small_judged : SmallCheck (judged rs)
  unfolding judged
  small_judged =
      small_rule (rule WrongNaming fault6) (rule WrongBinding fault7 ∷ rule ChoiceInCondition fault8 ∷ rule TooHigh fault9 ∷ []) (omega arith) (omega arith)
      (small_rule (rule WrongBinding fault7) (rule ChoiceInCondition fault8 ∷ rule TooHigh fault9 ∷ []) (omega arith) (omega arith)
      (small_rule (rule ChoiceInCondition fault8) (rule TooHigh fault9 ∷ []) (omega arith) (omega arith)
      (small_rule (rule TooHigh fault9) [] (omega arith) (omega arith) few)))

module _ (c : Cut) (short_enough : 4 * length c.records + broken c.whole ≤ most_bytes) where
  broken_small : c.whole ≡ false → length c.records < 600
  broken_small e = let one : broken c.whole ≡ 1 = ap broken e in omega (arith, short_enough, one)

  small_cut : SmallCheck (judged_cut c)
  unfolding judged_cut
  small_cut =
      small_cond (not c.whole) (faulty UnfitRecord (length c.records)) _
      (λ e. (omega arith, omega arith, broken_small (not-true c.whole e)))
      (λ e.
      small_cond (ltb most_records (length c.records)) (faulty TooManyRecords most_records) _
      (λ f. (omega arith, omega arith, omega arith))
      (λ f. small_judged c.records (ltb-false most_records (length c.records) f)))

-- Every answer of a check is small.
pub small_check : (table : List ℕ) → SmallCheck (check table)
unfolding check cut
small_check table =
    small_cond (eqb (length table) 0 || ltb most_bytes (length table)) (faulty WrongSize 0) _
    (λ e. (omega arith, omega arith, omega arith))
    (λ e.
    small_cut (cut table)
    (omega (arith, cut_small (length table) table, ltb-false most_bytes (length table) (or_false_right (eqb (length table) 0) (ltb most_bytes (length table)) e))))

-- ---- every service

abbrev RefusedSo : {A : Type 0} → Final A → Type 0
RefusedSo (result a) = Unit {0}
RefusedSo (refuses n p k) = 0 < n

-- Numbers go up to 35, places to 599, counts to 255. A refusal's number is not 0.
pub record Fits {A : Type 0} (counted : A → ℕ) (answer : Final A) : Type 0 where
  pub numbered : RefusedSo answer
  pub number_fits : final_number answer ≤ 35
  pub place_fits : final_place answer < 600
  pub count_fits : final_count counted answer ≤ 255

success : {A : Type 0} (answer : Final A) → RefusedSo answer → final_number answer ≡ 0 → (a : A) × (answer ≡ result a)
success (result a) h e = (a, refl)
success (refuses n p k) h e = absurd (omega arith)

-- Packed so, they are read back.
pub read_back : {A : Type 0} (counted : A → ℕ) (answer : Final A) → Fits counted answer → ReadBack counted answer
read_back counted answer f =
    let n = f.number_fits in
    let p = f.place_fits in
    record {
      number_back = omega arith;
      place-back = omega arith;
      count_back = omega arith;
      success_back = λ e. success answer f.numbered (omega arith);
    }

module _ {A : Type 0} (counted : A → ℕ) where
  fits_refusal : (n p k : ℕ) → 0 < n → n ≤ 35 → p < 600 → k ≤ 255 → Fits counted (refuses n p k)
  fits_refusal n p k l h i j = record { numbered = l; number_fits = h; place_fits = i; count_fits = j }

  fits_unless : (b : Bool) (n : ℕ) (f : Final A) → 0 < n → n ≤ 35 → Fits counted f → Fits counted (unless b n f)
  fits_unless true n f l h x = fits_refusal n 0 0 l h (omega arith) (omega arith)
  fits_unless false n f l h x = x

  fits_accepted : (checked : Checked) (f : ℕ → Final A) → SmallCheck checked → ((n : ℕ) → checked ≡ Ok n → Fits counted (f n)) → Fits counted (accepted checked f)
  fits_accepted (Ok n) f s h = h n refl
  fits_accepted (Err e) f s h = fits_refusal (number_of e.rule) e.place 0 (omega (arith, s.0)) (omega (arith, s.1)) s.2 (omega arith)

fits_result : {A : Type 0} (a : A) → Fits uncounted (result a)
fits_result a = record { numbered = tt; number_fits = omega arith; place_fits = omega arith; count_fits = omega arith }

-- ---- a run

abbrev FitsRun : {A : Type 0} → Run A → Type 0
FitsRun (gave a k l) = Unit {0}
FitsRun (stopped n p l) = (20 ≤ n) × (n ≤ 31) × (p < 600)
FitsRun (short p n) = (p < 600) × (n ≤ most_bindings)
FitsRun (beyond p n l) = (p < 600) × (n ≤ most_bindings)

follow_fits : {A : Type 0} (r : ℕ) (t : Tree A) (k : ℕ) (l : List ℕ) → r < 600 → Placed r t → Numbered t → Narrow t → FitsRun (follow t k l)
follow_fits r (give a) k l h p m w = tt
follow_fits r (stop n q) k l h p m w = (m.0, omega (arith, m.1), omega arith)
follow_fits r (choose q n ways) zero l h p m w = (omega arith, omega arith, omega (arith, p.0))
follow_fits r (choose q n ways) (suc k) [] h p m w = (omega (arith, p.0), w.0)
follow_fits {A} r (choose q n ways) (suc k) (c ∷ l) h p m w = go (ltb c n) refl (λ i. follow_fits r (ways c) k l h (p.1 c i) (m c i) (w.1 c i))
  where
    go : (b : Bool) → ltb c n ≡ b → (c < n → FitsRun (follow (ways c) k l)) → FitsRun (choosing b (follow (ways c) k l) (beyond q n (c ∷ l)))
    go true e f = f (ltb-true c n e)
    go false e f = (omega (arith, p.0), w.0)

fits_final : {A : Type 0} (place : ℕ) (r : Run A) → place < 600 → FitsRun r → Fits uncounted (final place r)
fits_final place (gave a k []) h f = fits_result a
fits_final place (gave a k (c ∷ l)) h f = fits_refusal uncounted 34 place 0 (omega arith) (omega arith) h (omega arith)
fits_final place (stopped n p []) h f = fits_refusal uncounted n p 0 (omega (arith, f.0)) (omega (arith, f.1)) f.2 (omega arith)
fits_final place (stopped n p (c ∷ l)) h f = fits_refusal uncounted 34 p 0 (omega arith) (omega arith) f.2 (omega arith)
fits_final place (short p n) h f = fits_refusal uncounted 32 p n (omega arith) (omega arith) f.0 f.1
fits_final place (beyond p n l) h f = fits_refusal uncounted 33 p n (omega arith) (omega arith) f.0 f.1

-- The run of a list of an accepted table, and what it answers.
module _ (table : List ℕ) (n : ℕ) (ok : check table ≡ Ok n) (l : List ℕ) where
  last_low : last (sheet table) < 600
  last_low = omega (arith, (accepted_fine table n ok).0.few)

  run_fits : FitsRun (run (tree table) l)
  run_fits =
      let sure = sure_meaning (sheet table) (last (sheet table)) unbound in
      follow_fits (last (sheet table)) (tree table) most_choices l last_low (placed_meaning (sheet table) (downward table n ok) (last (sheet table)) unbound) sure.numbered sure.narrow

  pub fits_runs : Fits uncounted (runs table l)
  fits_runs = fits_final (last (sheet table)) (run (tree table) l) last_low run_fits

fits_onward : (o : Option (List ℕ)) → Fits uncounted (onward o)
fits_onward absent = fits_refusal uncounted 35 0 0 (omega arith) (omega arith) (omega arith) (omega arith)
fits_onward (some l) = fits_result l

fits_stepped : {A : Type 0} (f : Final A) (next : Final (List ℕ)) → Fits uncounted f → Fits uncounted next → Fits uncounted (stepped_from f next)
fits_stepped (result a) next f h = h
fits_stepped (refuses n p k) next f h = go (ltb n 32)
  where
    go : (b : Bool) → Fits uncounted (choosing b next (refuses n p k))
    go true = h
    go false = fits_refusal uncounted n p k f.numbered f.number_fits f.place_fits f.count_fits

-- ---- the four services

module _ (scratch : ℕ) (table : List ℕ) where
  fits_check : Fits record_count (checks scratch table)
  fits_check =
      fits_unless record_count (ltb scratch scratch_bytes) 1 _ (omega arith) (omega arith)
      (go (check table) (small_check table))
    where
      go : (c : Checked) → SmallCheck c → Fits record_count (accepted c (λ n. result n))
      go (Ok n) s = record { numbered = tt; number_fits = omega arith; place_fits = omega arith; count_fits = omega arith }
      go (Err e) s = fits_refusal record_count (number_of e.rule) e.place 0 (omega (arith, s.0)) (omega (arith, s.1)) s.2 (omega arith)

  pub fits_evaluate : (buffer : ℕ) (list : List ℕ) → Fits uncounted (evaluates scratch buffer table list)
  fits_evaluate buffer list =
      fits_unless uncounted (ltb scratch scratch_bytes) 1 _ (omega arith) (omega arith)
      (fits_unless uncounted (ltb buffer largest) 2 _ (omega arith) (omega arith)
      (fits_accepted uncounted (check table) _ (small_check table) (λ n ok. fits_unless uncounted (ltb most_choices (length list)) 10 _ (omega arith) (omega arith) (fits_runs table n ok list))))

  fits-first : (w : Walk) → Fits uncounted (firsts scratch table w)
  fits-first w =
      fits_unless uncounted (ltb scratch scratch_bytes) 1 _ (omega arith) (omega arith)
      (fits_accepted uncounted (check table) _ (small_check table) (λ n ok. fits_unless uncounted (ltb (length w.entries) most_choices) 10 _ (omega arith) (omega arith) (fits_result _)))

  pub fits_step : (w : Walk) → Fits uncounted (steps scratch table w)
  fits_step w =
      fits_unless uncounted (ltb scratch scratch_bytes) 1 _ (omega arith) (omega arith)
      (fits_accepted uncounted (check table) _ (small_check table)
      (λ n ok.
      fits_unless uncounted (ltb (length w.entries) most_choices || ltb most_choices w.len) 10 _ (omega arith) (omega arith)
      (fits_stepped (runs table (walk_list w)) _ (fits_runs table n ok (walk_list w)) (fits_onward (next_list (tree table) (walk_list w))))))

  -- THEOREM: number, place and count of each service's answer are read back from the packed one.
  pub check_read_back : ReadBack record_count (checks scratch table)
  check_read_back = read_back record_count (checks scratch table) fits_check

  pub evaluate_read_back : (buffer : ℕ) (list : List ℕ) → ReadBack uncounted (evaluates scratch buffer table list)
  evaluate_read_back buffer list = read_back uncounted (evaluates scratch buffer table list) (fits_evaluate buffer list)

  pub first_read_back : (w : Walk) → ReadBack uncounted (firsts scratch table w)
  first_read_back w = read_back uncounted (firsts scratch table w) (fits-first w)

  pub step_read_back : (w : Walk) → ReadBack uncounted (steps scratch table w)
  step_read_back w = read_back uncounted (steps scratch table w) (fits_step w)

-- ---- 1 and 2

-- The answer is neither 1 nor 2, so the scratch is cleared and the result buffer set.
abbrev pub Late : {A : Type 0} → Final A → Type 0
Late answer = is_early (final_number answer) ≡ false

module _ {A : Type 0} where
  late_unless : (b : Bool) (n : ℕ) (f : Final A) → 3 ≤ n → Late f → Late (unless b n f)
  late_unless true n f h x = late_number n h
  late_unless false n f h x = x

  late_past : (b : Bool) (n : ℕ) (f : Final A) → b ≡ false → Late f → Late (unless b n f)
  late_past b n f e h = ap (λ x. is_early (final_number (unless x n f))) e ∙ h

  late_accepted : (checked : Checked) (f : ℕ → Final A) → SmallCheck checked → ((n : ℕ) → checked ≡ Ok n → Late (f n)) → Late (accepted checked f)
  late_accepted (Ok n) f s h = h n refl
  late_accepted (Err e) f s h = late_number (number_of e.rule) s.0

  late_final : (place : ℕ) (r : Run A) → FitsRun r → Late (final place r)
  late_final place (gave a k []) f = refl
  late_final place (gave a k (c ∷ l)) f = refl
  late_final place (stopped n p []) f = late_number n (omega (arith, f.0))
  late_final place (stopped n p (c ∷ l)) f = refl
  late_final place (short p n) f = refl
  late_final place (beyond p n l) f = refl

  late_stepped : (f : Final A) (next : Final (List ℕ)) → Late f → Late next → Late (stepped_from f next)
  late_stepped (result a) next f h = h
  late_stepped (refuses n p k) next f h = go (ltb n 32)
    where
      go : (b : Bool) → Late (choosing b next (refuses n p k))
      go true = h
      go false = f

late_onward : (o : Option (List ℕ)) → Late (onward o)
late_onward absent = refl
late_onward (some l) = refl

-- With long enough buffers no service answers 1 or 2.
module _ (scratch : ℕ) (table : List ℕ) (enough : scratch_bytes ≤ scratch) where
  past_1 : {A : Type 0} (f : Final A) → Late f → Late (unless (ltb scratch scratch_bytes) 1 f)
  past_1 f h = late_past (ltb scratch scratch_bytes) 1 f (le-ltb scratch scratch_bytes enough) h

  pub check_late : Late (checks scratch table)
  check_late = past_1 _ (late_accepted (check table) (λ n. result n) (small_check table) (λ n ok. refl))

  pub evaluate_late : (buffer : ℕ) (list : List ℕ) → largest ≤ buffer → Late (evaluates scratch buffer table list)
  evaluate_late buffer list room =
      past_1 _
      (late_past (ltb buffer largest) 2 _ (le-ltb buffer largest room)
      (late_accepted (check table) (λ n. unless (ltb most_choices (length list)) 10 (runs table list)) (small_check table)
      (λ n ok. late_unless (ltb most_choices (length list)) 10 (runs table list) (omega arith) (late_final (last (sheet table)) (run (tree table) list) (run_fits table n ok list)))))

  pub first_late : (w : Walk) → Late (firsts scratch table w)
  first_late w = past_1 _ (late_accepted (check table) _ (small_check table) (λ n ok. late_unless (ltb (length w.entries) most_choices) 10 _ (omega arith) refl))

  pub step_late : (w : Walk) → Late (steps scratch table w)
  step_late w =
      past_1 _
      (late_accepted (check table) _ (small_check table)
      (λ n ok.
      late_unless (ltb (length w.entries) most_choices || ltb most_choices w.len) 10 _ (omega arith)
      (late_stepped (runs table (walk_list w)) _ (late_final _ (run (tree table) (walk_list w)) (run_fits table n ok (walk_list w))) (late_onward (next_list (tree table) (walk_list w))))))
