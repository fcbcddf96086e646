-- From what each record leaves free, rules 7 and 8.
use mathlib.Core.Path.{◌≡◌, refl, sym, ap, ◌∙◌}
use mathlib.Core.Bool.{Bool, true, false, not, ◌&&◌, ◌||◌}
use mathlib.Core.List.{List, [], ◌∷◌, map}
use Prim.Native.Nat.{ℕ, zero, suc, ◌+◌, ◌*◌, ◌/◌, ◌%◌, ◌^◌, ◌<◌}
use native.Mathlib.Omega.{arith}
use borrow.Author.Tests.{eqb-true, eqb-false, eq-eqb, ne_eqb, ltb-true, lt-ltb}
use lib.Bits.{bit_and, bit_or, bit_xor, and_shr, and_mod, or_shr, or_mod, xor_shr, xor_mod}
use lib.Arith.{bin_ind}
use lib.Pow.{pow_pos, pow-add, shr_lt, shr-shr}
use lib.Dec.{eqb}
use lib.ListN.{length, get_or}
use mathlib.Mathlib.Data.Bool.Basic.{or_inl, or_inr}
use Rattle.prelude.proofs.Absurd.{never}
use Rattle.prelude.proofs.Truth.{by_test, or_false_both, by_lower}
use Rattle.tables.specs.Record.{Record, named, operand, role_at, name_of}
use Rattle.tables.specs.Table.{record_at, kind_at}
use Rattle.tables.specs.Sheet.{some, is_name, holds_name, is_covered, pattern_of, is_bound, in_condition}
use Rattle.tables.specs.Check.{chooses, fault7, fault8}
use Rattle.tables.proofs.Laws.Accepted.{condition_last, bound_operand, condition_operand, bound_last, holds_at_lem}
use Rattle.tables.specs.Check.{Clear6}
use Rattle.checking.specs.Scopes.{has_bit}
use Rattle.checking.specs.Sweeps.{without, apart, Passes, Frees}
use Rattle.checking.proofs.Reaching.{from_last}

-- ---- bits

digit_without : (u v : ℕ) → u < 2 → v < 2 → eqb (bit_xor (bit_or u v) v) 1 ≡ eqb u 1 && not (eqb v 1)
digit_without zero zero h k = refl
digit_without zero (suc zero) h k = refl
digit_without zero (suc (suc v)) h k = absurd (omega arith)
digit_without (suc zero) zero h k = refl
digit_without (suc zero) (suc zero) h k = refl
digit_without (suc zero) (suc (suc v)) h k = absurd (omega arith)
digit_without (suc (suc u)) v h k = absurd (omega arith)

pub without_is : (a b n : ℕ) → has_bit (without a b) n ≡ has_bit a n && not (has_bit b n)
unfolding has_bit without
without_is a b n =
    ap (λ (m : ℕ). eqb (m % 2) 1) (xor_shr (bit_or a b) b n ∙ ap (λ (m : ℕ). bit_xor m (b / 2 ^ n)) (or_shr a b n))
    ∙ ap (λ (m : ℕ). eqb m 1) (xor_mod (bit_or (a / 2 ^ n) (b / 2 ^ n)) (b / 2 ^ n) 1 ∙ ap (λ (m : ℕ). bit_xor m (b / 2 ^ n % 2)) (or_mod (a / 2 ^ n) (b / 2 ^ n) 1))
    ∙ digit_without (a / 2 ^ n % 2) (b / 2 ^ n % 2) (omega arith) (omega arith)

pub without_bit : (a b n : ℕ) → has_bit a n ≡ true → has_bit (without a b) n || has_bit b n ≡ true
without_bit a b n e = ap (λ (t : Bool). t || has_bit b n) (without_is a b n) ∙ go (has_bit a n) (has_bit b n) e
  where
    go : (s t : Bool) → s ≡ true → (s && not t) || t ≡ true
    go true true f = refl
    go true false f = refl
    go false t f = never f

-- A number below 4 has no bits from 2 on.
none_above : (m n : ℕ) → m < 4 → m / 2 ^ (n + 2) < 1
none_above m n h =
    let four : 2 ^ (n + 2) ≡ 2 ^ n * 4 = pow-add 2 n 2 in
    let some : 0 < 2 ^ n = pow_pos n in
    let same : 0 + (n + 2) ≡ n + 2 = omega arith in
    shr_lt {n = m} 0 (n + 2) (rw same (omega arith))

pub low_bits : (m n : ℕ) → m < 4 → has_bit m (n + 2) ≡ false
unfolding has_bit
low_bits m n h = ne_eqb (m / 2 ^ (n + 2) % 2) 1 (λ e. omega (arith, none_above m n h))

digit_and : (u v : ℕ) → u < 2 → v < 2 → eqb (bit_and u v) 1 ≡ eqb u 1 && eqb v 1
digit_and zero zero h k = refl
digit_and zero (suc zero) h k = refl
digit_and zero (suc (suc v)) h k = absurd (omega arith)
digit_and (suc zero) zero h k = refl
digit_and (suc zero) (suc zero) h k = refl
digit_and (suc zero) (suc (suc v)) h k = absurd (omega arith)
digit_and (suc (suc u)) v h k = absurd (omega arith)

and_bit : (a b n : ℕ) → has_bit (bit_and a b) n ≡ has_bit a n && has_bit b n
unfolding has_bit
and_bit a b n =
    ap (λ (m : ℕ). eqb (m % 2) 1) (and_shr a b n) ∙ ap (λ (m : ℕ). eqb m 1) (and_mod (a / 2 ^ n) (b / 2 ^ n) 1)
    ∙ digit_and (a / 2 ^ n % 2) (b / 2 ^ n % 2) (omega arith) (omega arith)

pub apart_bit : (a b n : ℕ) → apart a b ≡ true → has_bit a (n + 2) ≡ true → has_bit b (n + 2) ≡ false
unfolding apart
apart_bit a b n h e = rw e at (sym (and_bit a b (n + 2)) ∙ low_bits (bit_and a b) n (ltb-true (bit_and a b) 4 h))

-- A number without bits is 0, and one without bits from 2 on is below 4.
no_bits : (m : ℕ) → ((n : ℕ) → has_bit m n ≡ false) → m ≡ 0
unfolding has_bit
no_bits =
    bin_ind (λ m. ((n : ℕ) → eqb (m / 2 ^ n % 2) 1 ≡ false) → m ≡ 0) (λ e. refl)
    (λ m ih e.
    let half : m / 2 ≡ 0 = ih (λ n. ap (λ (k : ℕ). eqb (k % 2) 1) (shr-shr m 1 n) ∙ e (1 + n)) in
    let one : m / 2 ^ 0 ≡ m = omega arith in
    let even : m % 2 ≡ 1 → ⊥ = eqb-false (m % 2) 1 (ap (λ (k : ℕ). eqb (k % 2) 1) (sym one) ∙ e 0) in
    by_lower (m % 2) 1 (λ h. omega arith) (λ h. absurd (even (omega arith))))

pub few_bits : (m : ℕ) → ((n : ℕ) → has_bit m (n + 2) ≡ false) → m < 4
unfolding has_bit
few_bits m e =
    let high : m / 2 ^ 2 ≡ 0 = no_bits (m / 2 ^ 2) (λ n. let sum : 2 + n ≡ n + 2 = omega arith in ap (λ (k : ℕ). eqb (k % 2) 1) (shr-shr m 2 n ∙ ap (λ (j : ℕ). m / 2 ^ j) sum) ∙ e n) in
    omega arith

pub apart_all : (a b : ℕ) → ((n : ℕ) → has_bit a (n + 2) ≡ true → has_bit b (n + 2) ≡ false) → apart a b ≡ true
unfolding apart
apart_all a b f = lt-ltb (bit_and a b) 4 (few_bits (bit_and a b) (λ n. and_bit a b (n + 2) ∙ go (has_bit a (n + 2)) (has_bit b (n + 2)) (f n)))
  where
    go : (s t : Bool) → (s ≡ true → t ≡ false) → s && t ≡ false
    go true t e = e refl
    go false t e = refl

-- ---- around each record

-- What is free at a record is bound around it, what it holds is not, and its choices lie outside conditions.
record Around (rs : List Record) (frees : List ℕ) (r : ℕ) : Type 0 where
  bound : (n : ℕ) → has_bit (get_or frees r 0) (n + 2) ≡ true → is_bound rs r n ≡ true
  fresh : (n : ℕ) → holds_name rs r n ≡ true → is_bound rs r n ≡ false
  outside : has_bit (get_or frees r 0) 0 ≡ true → in_condition rs r ≡ false

some_in : (f : ℕ → Bool) (ms : List ℕ) (i : ℕ) → i < length ms → f (get_or ms i 0) ≡ true → some (map f ms) ≡ true
some_in f [] i h e = absurd (omega arith)
some_in f (m ∷ ms) zero h e = or_inl (f m) (some (map f ms)) e
some_in f (m ∷ ms) (suc i) h e = or_inr (f m) (some (map f ms)) (some_in f ms i (omega arith) e)

module _ (rs : List Record) (clear : Clear6 rs) (frees : List ℕ) (all : (q : ℕ) → q < length rs → Frees rs frees q (get_or frees q 0)) where
  holds_up : (q i n : ℕ) → q < length rs → i < length (named (record_at rs q)) → holds_name rs (operand (record_at rs q) i) n ≡ true → holds_name rs q n ≡ true
  holds_up q i n h k e =
      holds_at_lem rs clear q n h
      ∙ or_inr (is_name n (record_at rs q)) (some (map (λ q. holds_name rs q n) (named (record_at rs q)))) (some_in (λ q. holds_name rs q n) (named (record_at rs q)) i k e)

  down : (q i : ℕ) → q < length rs → i < length (named (record_at rs q)) → Around rs frees q → Around rs frees (operand (record_at rs q) i)
  down q i h k a =
      let p : Passes rs q i (get_or frees (operand (record_at rs q) i) 0) (get_or frees q 0) = (all q h).pass i k in
      record {
        bound =
            λ n e.
            let here : Bool = is_covered (role_at (record_at rs q) i) && holds_name rs (pattern_of rs q) n in
            bound_operand rs clear q i n h k
            ∙ by_test {P = here || is_bound rs q n ≡ true} here (λ f. or_inl here (is_bound rs q n) f)
            (λ f. or_inr here (is_bound rs q n) (a.bound n (left_true (has_bit (get_or frees q 0) (n + 2)) here (p.name n e) f)));
        fresh = λ n e. bound_operand rs clear q i n h k ∙ or_false_both _ _ (p.fresh n e) (a.fresh n (holds_up q i n h k e));
        outside = λ e. condition_operand rs clear q i h k ∙ or_false_both _ _ (p.outside e) (a.outside (p.choice e));
      }
    where
      left_true : (a b : Bool) → a || b ≡ true → b ≡ false → a ≡ true
      left_true true b e f = refl
      left_true false b e f = never (sym f ∙ e)

  module _ (last : ℕ) (is_last : suc last ≡ length rs) (none : (n : ℕ) → has_bit (get_or frees last 0) (n + 2) ≡ false) where
    top : Around rs frees last
    top =
        record {
          bound = λ n e. never (sym (none n) ∙ e);
          fresh = λ n e. bound_last rs clear last n is_last;
          outside = λ e. condition_last rs clear last is_last;
        }

    each_around : (r : ℕ) → r < length rs → Around rs frees r
    each_around = from_last rs clear (Around rs frees) last is_last top down

    pub closed7 : (r : ℕ) → r < length rs → fault7 rs r ≡ false
    unfolding fault7
    closed7 r h =
        let a : Around rs frees r = each_around r h in
        or_false_both _ _
        (by_test {P = eqb (kind_at rs r) 3 && not (is_bound rs r (name_of (record_at rs r))) ≡ false} (eqb (kind_at rs r) 3)
        (λ e. rw (e, a.bound (name_of (record_at rs r)) ((all r h).read (eqb-true _ 3 e)))) (λ e. rw e))
        (by_test {P = eqb (kind_at rs r) 32 && is_bound rs r (name_of (record_at rs r)) ≡ false} (eqb (kind_at rs r) 32)
        (λ e. rw (e, a.fresh (name_of (record_at rs r)) (own e))) (λ e. rw e))
      where
        own : eqb (kind_at rs r) 32 ≡ true → holds_name rs r (name_of (record_at rs r)) ≡ true
        own e =
            holds_at_lem rs clear r (name_of (record_at rs r)) h
            ∙ or_inl (is_name (name_of (record_at rs r)) (record_at rs r)) _ (rw (e, eq-eqb (name_of (record_at rs r)) (name_of (record_at rs r)) refl))

    pub closed8 : (r : ℕ) → r < length rs → fault8 rs r ≡ false
    unfolding fault8
    closed8 r h =
        let a : Around rs frees r = each_around r h in
        by_test {P = chooses rs r && in_condition rs r ≡ false} (chooses rs r) (λ e. rw (e, a.outside ((all r h).chosen e))) (λ e. rw e)
