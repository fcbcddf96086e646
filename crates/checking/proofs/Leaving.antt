-- Records left to be named, operand by operand and record by record.
use mathlib.Core.Path.{◌≡◌, refl, sym, ap, ◌∙◌}
use mathlib.Core.Bool.{Bool, true, false, not, ◌&&◌, cond}
use mathlib.Core.List.{List, [], ◌∷◌, ◌++◌}
use Prim.Native.Nat.{ℕ, suc, ◌+◌, ◌≤◌, ◌<◌}
use native.Mathlib.Omega.{arith}
use borrow.Author.Tests.{ltb-true, lt-ltb, le-ltb, eq-eqb, ne_eqb, not-true}
use lib.Dec.{ltb}
use lib.ListN.{length, get_or, set, length-set, replicate, length-replicate, get_or-replicate}
use lib.Seq.{get_or-set_same, get_or-set_other}
use mathlib.Mathlib.Data.Bool.Basic.{and_elim_left, and_elim_right}
use Rattle.prelude.proofs.Absurd.{never}
use Rattle.prelude.proofs.Truth.{by_test, or_false_both, by_lower}
use Rattle.tables.specs.Record.{Record, is_expression, is_pattern, is_fit, operand, role_at}
use Rattle.tables.specs.Table.{record_at, kind_at}
use Rattle.tables.specs.Sheet.{is_in}
use Rattle.tables.specs.Check.{is_of_sort, all_named, named_before, is_bad, has_bad, fault6}
use Rattle.tables.proofs.Laws.Accepted.{fit_expression}
use Rattle.tables.specs.Check.{Clear6}
use Rattle.checking.specs.Sweeps.{sort_of, left_at, Left}
use Rattle.checking.proofs.Marks.{in_more, in_last, bad_named}

off_and : (b : Bool) → b && false ≡ false
off_and true = refl
off_and false = refl

-- ---- one number

-- A record that is left: lower, not named, and of its sort.
pub record Due (rs : List Record) (r : ℕ) (ms : List ℕ) (n x : ℕ) : Type 0 where
  pub below : n < r
  pub new : is_in n ms ≡ false
  pub sort : sort_of (kind_at rs n) ≡ x

pub due : (rs : List Record) (r : ℕ) (ms left : List ℕ) (n x : ℕ) → Left rs left r ms → n < 256 → get_or left n 0 ≡ x → 0 < x → Due rs r ms n x
due rs r ms left n x l h e some = go (ltb n r && not (is_in n ms)) refl (sym (l.is n h) ∙ e)
  where
    go : (b : Bool) → ltb n r && not (is_in n ms) ≡ b → cond b (sort_of (kind_at rs n)) 0 ≡ x → Due rs r ms n x
    go true f g =
        record {
          below = ltb-true n r (and_elim_left (ltb n r) (not (is_in n ms)) f);
          new = not-true (is_in n ms) (and_elim_right (ltb n r) (not (is_in n ms)) f);
          sort = g;
        }
    go false f g = absurd (omega arith)

pub left_take : (rs : List Record) (r : ℕ) (ms left left' : List ℕ) (n : ℕ) → Left rs left r ms → n < 256 → n < r → left' ≡ set left n 0 → Left rs left' r (ms ++ (n ∷ []))
left_take rs r ms left left' n l h lw f =
    record {
      long = rw f (length-set left n 0 ∙ l.long);
      is =
          λ k m.
          by_lower k n (λ a. other k m (λ e. omega arith))
          (λ a.
          by_lower n k (λ b. other k m (λ e. omega arith))
          (λ b. let same : k ≡ n = omega arith in rw (f, same, get_or-set_same left n 0 0 (omega (arith, l.long)), in_last n ms, off_and (ltb n r))));
      lower =
          λ k e.
          by_lower k n (λ a. l.lower k (sym (in_more k n ms (λ g. omega arith)) ∙ e))
          (λ a.
          by_lower n k (λ b. l.lower k (sym (in_more k n ms (λ g. omega arith)) ∙ e)) (λ b. omega arith));
    }
  where
    other : (k : ℕ) → k < 256 → (k ≡ n → ⊥) → get_or left' k 0 ≡ left_at rs r (ms ++ (n ∷ [])) k
    other k m ne = rw (f, get_or-set_other left n k 0 0 ne, in_more k n ms ne) (l.is k m)

pub left_more : (rs : List Record) (r : ℕ) (ms left left' : List ℕ) (x : ℕ) → Left rs left r ms → r < 256 → x ≡ sort_of (kind_at rs r) → left' ≡ set left r x → Left rs left' (r + 1) ms
left_more rs r ms left left' x l h e f =
    record {
      long = rw f (length-set left r x ∙ l.long);
      is =
          λ k m.
          by_lower k r (λ a. rw (f, get_or-set_other left r k x 0 (λ g. omega arith), lt-ltb k (r + 1) (omega arith) ∙ sym (lt-ltb k r a)) (l.is k m))
          (λ a.
          by_lower r k (λ b. rw (f, get_or-set_other left r k x 0 (λ g. omega arith), le-ltb k (r + 1) (omega arith) ∙ sym (le-ltb k r a)) (l.is k m))
          (λ b. let same : k ≡ r = omega arith in rw (f, same, get_or-set_same left r x 0 (omega (arith, l.long)), lt-ltb r (r + 1) (omega arith), new) e));
      lower = λ k g. omega (arith, l.lower k g);
    }
  where
    new : is_in r ms ≡ false
    new = by_test {P = is_in r ms ≡ false} (is_in r ms) (λ g. absurd (omega (arith, l.lower r g))) (λ g. g)

pub left_start : (rs : List Record) → Left rs (replicate 256 0) 0 []
left_start rs =
    record {
      long = length-replicate {A = ℕ} 256 0;
      is = λ n h. get_or-replicate {A = ℕ} 256 n 0 0 h ∙ sym (rw (le-ltb n 0 (omega arith)));
      lower = λ n e. never e;
    }

-- ---- sorts

sort_plain : (k : ℕ) → sort_of k ≡ 1 → is_pattern k ≡ false
sort_plain k e = go (is_pattern k) e
  where
    go : (b : Bool) → ◌≡◌ {A = ℕ} (cond b 2 1) 1 → b ≡ false
    go true f = absurd (omega arith)
    go false f = refl

pub sort_expression : (x : Record) → is_fit x ≡ true → sort_of x.kind ≡ 1 → is_expression x.kind ≡ true
sort_expression x fit e = fit_expression x fit (sort_plain x.kind e)

pub sort_pattern : (k : ℕ) → sort_of k ≡ 2 → is_pattern k ≡ true
sort_pattern k e = go (is_pattern k) e
  where
    go : (b : Bool) → ◌≡◌ {A = ℕ} (cond b 2 1) 2 → b ≡ true
    go true f = refl
    go false f = absurd (omega arith)

-- ---- rule 6

pub not_bad : (rs : List Record) (r i n x : ℕ) → n ≡ operand (record_at rs r) i → Due rs r (named_before rs r i) n x → is_of_sort (role_at (record_at rs r) i) (kind_at rs n) ≡ true → is_bad rs r i ≡ false
not_bad rs r i n x is d s = sym (bad_named rs r i n is d.below s) ∙ d.new

pub clear : (rs : List Record) (left : List ℕ) (last : ℕ) → suc last ≡ length rs → length rs ≤ 200 → ((q : ℕ) → q < length rs → has_bad rs q ≡ false) → Left rs left (length rs) (all_named rs) → ((q : ℕ) → q < last → get_or left q 0 ≡ 0) → get_or left last 0 ≡ 1 → Clear6 rs
unfolding fault6
clear rs left last is few good l none one r h =
    or_false_both _ _ (good r h)
    (by_lower r last
    (λ k. rw (ne_eqb (suc r) (length rs) (λ e. omega arith)) (ap not (named r k)))
    (λ k.
    let same : r ≡ last = omega arith in
    rw (same, eq-eqb (suc last) (length rs) is) (sort_plain (kind_at rs last) (due rs (length rs) (all_named rs) left last 1 l (omega arith) one (omega arith)).sort)))
  where
    never_zero : (b : Bool) → ◌≡◌ {A = ℕ} (cond b 2 1) 0 → ⊥
    never_zero true e = omega arith
    never_zero false e = omega arith

    named : (q : ℕ) → q < last → is_in q (all_named rs) ≡ true
    named q k = go (is_in q (all_named rs)) refl
      where
        go : (b : Bool) → is_in q (all_named rs) ≡ b → b ≡ true
        go true e = refl
        go false e =
            absurd (never_zero (is_pattern (kind_at rs q)) (rw (lt-ltb q (length rs) (omega arith), e) at (sym (l.is q (omega arith)) ∙ none q k)))
