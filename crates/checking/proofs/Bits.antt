-- What the bits say: names, looseness and conditions.
use mathlib.Core.Path.{◌≡◌, refl, sym, ap, ◌∙◌}
use mathlib.Core.Bool.{Bool, true, false, ◌&&◌, ◌||◌, or_assoc, or-false, or_comm, cond}
use mathlib.Core.List.{List, [], ◌∷◌, map}
use Prim.Native.Nat.{ℕ, zero, suc, ◌+◌, ◌-◌, ◌/◌, ◌%◌, ◌^◌, ◌≤◌, ◌<◌}
use native.Mathlib.Omega.{arith}
use native.Mathlib.Nat.{pow-suc}
use borrow.Author.Tests.{eq-eqb, ne_eqb, eqb-true, eqb-false}
use lib.Bits.{bit_or, or_shr, or_mod}
use lib.Pow.{pow-lt, pow-add, shr_lt, shl-shr, shr_le}
use lib.Dec.{eqb, ltb}
use lib.ListN.{length}
use Rattle.tables.specs.declared.Role.{Role}
use Rattle.tables.specs.declared.Role.TheVariants.{Plain, Condition, Body, Pattern, Name}
use Rattle.tables.specs.Record.{Record, shape, named, name_of}
use Rattle.tables.specs.Table.{record_at}
use Rattle.tables.specs.Sheet.{some, fold_by, is_name, holds_name, is_loose, loose, parent, role_in, climb_by, is_covered, is_condition, pattern_of, is_bound, in_condition}
use Rattle.prelude.proofs.Truth.{by_lower}
use Rattle.checking.specs.Scopes.{has_bit, or_bits, or_bits_all, own, bits_below, given, around}

-- ---- single bits

digit : (u v : ℕ) → u < 2 → v < 2 → eqb (bit_or u v) 1 ≡ eqb u 1 || eqb v 1
digit zero zero h k = refl
digit zero (suc zero) h k = refl
digit zero (suc (suc v)) h k = absurd (omega arith)
digit (suc zero) zero h k = refl
digit (suc zero) (suc zero) h k = refl
digit (suc zero) (suc (suc v)) h k = absurd (omega arith)
digit (suc (suc u)) v h k = absurd (omega arith)

pub bit_union : (a b n : ℕ) → has_bit (or_bits a b) n ≡ has_bit a n || has_bit b n
unfolding has_bit or_bits
bit_union a b n =
    ap (λ (m : ℕ). eqb (m % 2) 1) (or_shr a b n) ∙ ap (λ (m : ℕ). eqb m 1) (or_mod (a / 2 ^ n) (b / 2 ^ n) 1)
    ∙ digit (a / 2 ^ n % 2) (b / 2 ^ n % 2) (omega arith) (omega arith)

pub bit_zero : (n : ℕ) → has_bit 0 n ≡ false
unfolding has_bit
bit_zero n = ne_eqb (0 / 2 ^ n % 2) 1 (λ e. omega (arith, shr_le 0 n))

pub bit-pow : (k n : ℕ) → has_bit (2 ^ k) n ≡ eqb k n
unfolding has_bit
bit-pow k n =
    by_lower k n
    (λ h.
    let none : 2 ^ k / 2 ^ n < 1 = shr_lt {n = 2 ^ k} 0 n (rw (zero-add n) (pow-lt h)) in
    ne_eqb (2 ^ k / 2 ^ n % 2) 1 (λ e. omega arith) ∙ sym (ne_eqb k n (λ e. omega arith)))
    (λ h.
    let sum : k ≡ (k - n) + n = omega arith in
    let high : 2 ^ k / 2 ^ n ≡ 2 ^ (k - n) = ap (λ (j : ℕ). 2 ^ j / 2 ^ n) sum ∙ ap (λ (j : ℕ). j / 2 ^ n) (pow-add 2 (k - n) n) ∙ shl-shr (2 ^ (k - n)) n in
    ap (λ (j : ℕ). eqb (j % 2) 1) high ∙ low_bit (k - n) k n refl h)
  where
    zero-add : (n : ℕ) → 0 + n ≡ n
    zero-add n = omega arith

    low_bit : (d k n : ℕ) → d ≡ k - n → n ≤ k → eqb (2 ^ d % 2) 1 ≡ eqb k n
    low_bit zero k n e h = sym (eq-eqb k n (omega arith))
    low_bit (suc d) k n e h = ne_eqb (2 ^ suc d % 2) 1 (λ f. omega (arith, pow-suc 2 d)) ∙ sym (ne_eqb k n (λ f. omega arith))

-- ---- one record

same_name : (a b : ℕ) → eqb (a + 2) (b + 2) ≡ eqb a b
same_name a b = go (eqb a b) refl
  where
    go : (t : Bool) → eqb a b ≡ t → eqb (a + 2) (b + 2) ≡ t
    go true e = eq-eqb (a + 2) (b + 2) (ap (λ (n : ℕ). n + 2) (eqb-true a b e))
    go false e = ne_eqb (a + 2) (b + 2) (λ f. eqb-false a b e (omega arith))

own_name : (x : Record) (n : ℕ) → has_bit (own x) (n + 2) ≡ is_name n x
unfolding own
own_name x n = go (eqb x.kind 32) (is_loose x)
  where
    go : (t u : Bool) → has_bit (cond t (2 ^ (name_of x + 2)) (cond u 2 0)) (n + 2) ≡ t && eqb (name_of x) n
    go true u = bit-pow (name_of x + 2) (n + 2) ∙ same_name (name_of x) n
    go false true = bit-pow 1 (n + 2) ∙ ne_eqb 1 (n + 2) (λ e. omega arith)
    go false false = bit_zero (n + 2)

own_loose : (x : Record) → has_bit (own x) 1 ≡ is_loose x
unfolding own shape
own_loose x = go (eqb x.kind 32) refl
  where
    loose_of : (u : Bool) → has_bit (cond u 2 0) 1 ≡ u
    loose_of true = bit-pow 1 1
    loose_of false = bit_zero 1

    go : (t : Bool) → eqb x.kind 32 ≡ t → has_bit (cond t (2 ^ (name_of x + 2)) (cond (is_loose x) 2 0)) 1 ≡ is_loose x
    go true e = bit-pow (name_of x + 2) 1 ∙ ne_eqb (name_of x + 2) 1 (λ f. omega arith) ∙ sym (rw (eqb-true x.kind 32 e))
    go false e = loose_of (is_loose x)

own_even : (x : Record) → has_bit (own x) 0 ≡ false
unfolding own
own_even x = go (eqb x.kind 32) (is_loose x)
  where
    go : (t u : Bool) → has_bit (cond t (2 ^ (name_of x + 2)) (cond u 2 0)) 0 ≡ false
    go true u = bit-pow (name_of x + 2) 0 ∙ ne_eqb (name_of x + 2) 0 (λ f. omega arith)
    go false true = bit-pow 1 0
    go false false = bit_zero 0

-- ---- below a record

bit_all : (m n : ℕ) (xs : List ℕ) → has_bit (or_bits_all m xs) n ≡ has_bit m n || some (map (λ x. has_bit x n) xs)
bit_all m n [] = sym (or-false (has_bit m n))
bit_all m n (x ∷ xs) =
    bit_all (or_bits m x) n xs ∙ ap (λ (b : Bool). b || some (map (λ x. has_bit x n) xs)) (bit_union m x n)
    ∙ or_assoc (has_bit m n) (has_bit x n) (some (map (λ x. has_bit x n) xs))

some_same : (n : ℕ) (f : ℕ → ℕ) (g : ℕ → Bool) (ms : List ℕ) → ((k : ℕ) → has_bit (f k) n ≡ g k) → some (map (λ x. has_bit x n) (map f ms)) ≡ some (map g ms)
some_same n f g [] e = refl
some_same n f g (m ∷ ms) e = ap (λ (b : Bool). b || some (map (λ x. has_bit x n) (map f ms))) (e m) ∙ ap (λ (b : Bool). g m || b) (some_same n f g ms e)

module _ (n : ℕ) (test : Record → Bool) (is : (x : Record) → has_bit (own x) n ≡ test x) (rs : List Record) where
  fold_bit : (b r : ℕ) → has_bit (fold_by (λ q ms. or_bits_all (own (record_at rs q)) ms) 0 rs b r) n ≡ fold_by (λ q bs. test (record_at rs q) || some bs) false rs b r
  unfolding fold_by
  fold_bit zero r = bit_zero n
  fold_bit (suc b) r =
      bit_all (own (record_at rs r)) n (map (λ k. fold_by (λ q ms. or_bits_all (own (record_at rs q)) ms) 0 rs b k) (named (record_at rs r)))
      ∙ ap (λ (t : Bool). t || some (map (λ x. has_bit x n) (map (λ k. fold_by (λ q ms. or_bits_all (own (record_at rs q)) ms) 0 rs b k) (named (record_at rs r))))) (is (record_at rs r))
      ∙ ap (λ (t : Bool). test (record_at rs r) || t)
      (some_same n (λ k. fold_by (λ q ms. or_bits_all (own (record_at rs q)) ms) 0 rs b k) (λ k. fold_by (λ q bs. test (record_at rs q) || some bs) false rs b k) (named (record_at rs r)) (fold_bit b))

pub held_name : (rs : List Record) (p n : ℕ) → has_bit (bits_below rs p) (n + 2) ≡ holds_name rs p n
unfolding bits_below holds_name
held_name rs p n = fold_bit (n + 2) (is_name n) (λ x. own_name x n) rs (suc p) p

pub held_loose : (rs : List Record) (p : ℕ) → has_bit (bits_below rs p) 1 ≡ loose rs p
unfolding bits_below loose
held_loose rs p = fold_bit 1 is_loose own_loose rs (suc p) p

none_below : (rs : List Record) (b r : ℕ) → fold_by (λ q bs. false || some bs) false rs b r ≡ false
unfolding fold_by
none_below rs zero r = refl
none_below rs (suc b) r = go (named (record_at rs r)) (none_below rs b)
  where
    go : (ms : List ℕ) → ((k : ℕ) → fold_by (λ q bs. false || some bs) false rs b k ≡ false) → some (map (λ k. fold_by (λ q bs. false || some bs) false rs b k) ms) ≡ false
    go [] e = refl
    go (m ∷ ms) e = ap (λ (t : Bool). t || some (map (λ k. fold_by (λ q bs. false || some bs) false rs b k) ms)) (e m) ∙ go ms e

pub held_even : (rs : List Record) (p : ℕ) → has_bit (bits_below rs p) 0 ≡ false
unfolding bits_below
held_even rs p = fold_bit 0 (λ x. false) own_even rs (suc p) p ∙ none_below rs (suc p) p

-- ---- around a record

module _ (n : ℕ) (test : ℕ → Role → Bool) (rs : List Record) (is : (q : ℕ) (role : Role) → has_bit (given rs q role) n ≡ test q role) where
  climb_bit : (b r : ℕ) → has_bit (climb_by (λ q role up. or_bits up (given rs q role)) 0 rs b r) n ≡ climb_by (λ q role up. test q role || up) false rs b r
  unfolding climb_by
  climb_bit zero r = bit_zero n
  climb_bit (suc b) r = go (ltb (parent rs r) (length rs)) (parent rs r) (role_in rs (parent rs r) r) (climb_bit b (parent rs r))
    where
      go : (t : Bool) (q : ℕ) (role : Role) → has_bit (climb_by (λ q role up. or_bits up (given rs q role)) 0 rs b q) n ≡ climb_by (λ q role up. test q role || up) false rs b q → has_bit (cond t (or_bits (climb_by (λ q role up. or_bits up (given rs q role)) 0 rs b q) (given rs q role)) 0) n ≡ cond t (test q role || climb_by (λ q role up. test q role || up) false rs b q) false
      go true q role e =
          bit_union (climb_by (λ q role up. or_bits up (given rs q role)) 0 rs b q) (given rs q role) n
          ∙ or_comm (has_bit (climb_by (λ q role up. or_bits up (given rs q role)) 0 rs b q) n) (has_bit (given rs q role) n)
          ∙ ap (λ (t : Bool). t || has_bit (climb_by (λ q role up. or_bits up (given rs q role)) 0 rs b q) n) (is q role)
          ∙ ap (λ (t : Bool). test q role || t) e
      go false q role e = bit_zero n

given_name : (rs : List Record) (n q : ℕ) (role : Role) → has_bit (given rs q role) (n + 2) ≡ is_covered role && holds_name rs (pattern_of rs q) n
given_name rs n q Plain = bit_zero (n + 2)
given_name rs n q Condition =
    bit_union (bits_below rs (pattern_of rs q)) 1 (n + 2)
    ∙ ap (λ (t : Bool). has_bit (bits_below rs (pattern_of rs q)) (n + 2) || t) (bit-pow 0 (n + 2) ∙ ne_eqb 0 (n + 2) (λ e. omega arith))
    ∙ or-false (has_bit (bits_below rs (pattern_of rs q)) (n + 2)) ∙ held_name rs (pattern_of rs q) n
given_name rs n q Body = held_name rs (pattern_of rs q) n
given_name rs n q Pattern = bit_zero (n + 2)
given_name rs n q Name = bit_zero (n + 2)

given_condition : (rs : List Record) (q : ℕ) (role : Role) → has_bit (given rs q role) 0 ≡ is_condition role
given_condition rs q Plain = bit_zero 0
given_condition rs q Condition =
    bit_union (bits_below rs (pattern_of rs q)) 1 0
    ∙ ap (λ (t : Bool). t || has_bit 1 0) (held_even rs (pattern_of rs q)) ∙ bit-pow 0 0
given_condition rs q Body = held_even rs (pattern_of rs q)
given_condition rs q Pattern = bit_zero 0
given_condition rs q Name = bit_zero 0

pub around_name : (rs : List Record) (r n : ℕ) → has_bit (around rs r) (n + 2) ≡ is_bound rs r n
unfolding around is_bound
around_name rs r n = climb_bit (n + 2) (λ q role. is_covered role && holds_name rs (pattern_of rs q) n) rs (given_name rs n) (length rs) r

pub around_condition : (rs : List Record) (r : ℕ) → has_bit (around rs r) 0 ≡ in_condition rs r
unfolding around in_condition
around_condition rs r = climb_bit 0 (λ q role. is_condition role) rs (given_condition rs) (length rs) r
