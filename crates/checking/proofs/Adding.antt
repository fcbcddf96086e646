-- Record by record, what is known of those that are added; and what follows for the whole table.
use mathlib.Core.Path.{◌≡◌, refl, sym, ap, subst, ◌∙◌}
use mathlib.Core.Bool.{false}
use mathlib.Core.List.{List, [], ◌∷◌}
use mathlib.Core.Logic.{◌⊎◌, inl, inr, ⊎_elim}
use Prim.Native.Nat.{ℕ, zero, suc, ◌+◌, ◌≤◌, ◌<◌}
use native.Mathlib.Omega.{arith}
use native.Mathlib.Numerals.{add-one}
use borrow.Author.Tests.{lt-ltb}
use lib.ListN.{length, get_or, set, length-set, take, replicate, length-replicate}
use lib.Seq.{take_all, get_or-set_other}
use Rattle.prelude.proofs.Absurd.{never}
use Rattle.prelude.proofs.Truth.{by_test, by_lower}
use Rattle.tables.specs.Record.{Record, operand}
use Rattle.tables.specs.Table.{record_at, kind_at}
use Rattle.tables.specs.Check.{all_named, has_bad}
use Rattle.tables.proofs.Laws.Accepted.{operand_lower, bound_last, named_all, last_sort}
use Rattle.tables.specs.Check.{Clear6}
use Rattle.checking.specs.declared.sweep.Sum.{Sum}
use Rattle.checking.specs.Scopes.{has_bit, bits_below}
use Rattle.checking.specs.Sweeps.{sort_of, Left, alone_of, Passes, Frees, Allowed, Keeps, Known, Sums, RecordAdded, Passed, Closed}
use Rattle.checking.proofs.Below.{set_more}
use Rattle.checking.proofs.Above.{zeros}
use Rattle.checking.proofs.Leaving.{left_more, clear}
use Rattle.checking.proofs.Reaching.{last_unnamed}
use Rattle.checking.proofs.Closing.{low_bits, few_bits, closed7, closed8}
use Rattle.checking.proofs.Gathering.{choice_none, free_choice, leaf_sums}

-- ---- one more record

-- What is free at a record stands when that of a higher one is set.
frees_set : (rs : List Record) (frees frees' : List ℕ) (r v q o : ℕ) → Clear6 rs → q < length rs → q ≤ r → frees' ≡ set frees r v → Frees rs frees q o → Frees rs frees' q o
frees_set rs frees frees' r v q o clear h k e f =
    record {
      read = f.read;
      chosen = f.chosen;
      pass =
          λ i l.
          subst (λ (m : ℕ). Passes rs q i m o)
          (sym (ap (λ (ys : List ℕ). get_or ys (operand (record_at rs q) i) 0) e ∙ get_or-set_other frees r (operand (record_at rs q) i) v 0 (λ same. omega (arith, operand_lower rs clear q i h l))))
          (f.pass i l);
    }

module _ (rs : List Record) (below frees : List ℕ) (r : ℕ) (left : List ℕ) (s : Sum) (few : length rs ≤ 200) (in_table : r < length rs) (kept : Known rs below frees r) (sums : Sums rs r left frees s) where
  pub record_added : (left' below' frees' : List ℕ) (x : ℕ) → x ≡ sort_of (kind_at rs r) → left' ≡ set left r x → below' ≡ set below r s.held → frees' ≡ set frees r s.free → RecordAdded rs r left' below' frees'
  record_added left' below' frees' x ex el eb ef =
      record {
        good = sums.good;
        left_is = left_more rs r (all_named (take (suc r) rs)) left left' x sums.left_is (omega arith) ex el;
        kept =
            record {
              long_below = rw eb (length-set below r s.held ∙ kept.long_below);
              long_frees = rw ef (length-set frees r s.free ∙ kept.long_frees);
              held = λ clear. set_more (λ q x. x ≡ bits_below rs q) below below' r s.held (omega (arith, kept.long_below)) (kept.held clear) (sums.held clear) eb;
              zero_below = λ q h. ap (λ (ys : List ℕ). get_or ys q 0) eb ∙ get_or-set_other below r q s.held 0 (λ same. omega arith) ∙ kept.zero_below q (omega arith);
              zero_frees = λ q h. ap (λ (ys : List ℕ). get_or ys q 0) ef ∙ get_or-set_other frees r q s.free 0 (λ same. omega arith) ∙ kept.zero_frees q (omega arith);
              free =
                  λ clear q h.
                  frees_set rs frees frees' r s.free q (get_or frees' q 0) clear (omega arith) (omega arith) ef
                  (set_more (λ q x. Frees rs frees q x) frees frees' r s.free (omega (arith, kept.long_frees)) (kept.free clear) (sums.free clear) ef q h);
              allowed = λ keeps. set_more (λ q x. Allowed rs q x) frees frees' r s.free (omega (arith, kept.long_frees)) (kept.allowed keeps) (sums.allowed keeps) ef;
            };
      }

-- To set an entry to what it is changes nothing.
set_own : (xs : List ℕ) (r : ℕ) → xs ≡ set xs r (get_or xs r 0)
set_own [] r = refl
set_own (x ∷ xs) zero = refl
set_own (x ∷ xs) (suc r) = ap (λ (ys : List ℕ). x ∷ ys) (set_own xs r)

-- A literal and any come to nothing.
abbrev Bare : ℕ → Type 0
Bare k = (k < 3) ⊎ (k ≡ 33)

pub bare_added : (rs : List Record) (below frees : List ℕ) (r : ℕ) (left : List ℕ) → length rs ≤ 200 → r < length rs → Bare (kind_at rs r) → Left rs left r (all_named (take r rs)) → Known rs below frees r → (x : ℕ) → x ≡ sort_of (kind_at rs r) → RecordAdded rs r (set left r x) below frees
bare_added rs below frees r left few h b l kept x e =
    record_added rs below frees r left (alone_of 0 0) few h kept
    ((leaf_sums rs r left frees (alone_of 0 0) 0 h
    (⊎_elim (λ k. inl (omega arith)) inr b) l
    (free_choice (record_at rs r) 0 0 (other 3 (omega arith) (omega arith))
    (choice_none (kind_at rs r) 0 (other 13 (omega arith) (omega arith)) (other 12 (omega arith) (omega arith))))
    refl).sums (alone_of 0 0) refl)
    (set left r x) below frees x e refl
    (set_own below r ∙ ap (set below r) (kept.zero_below r (omega arith))) (set_own frees r ∙ ap (set frees r) (kept.zero_frees r (omega arith)))
  where
    other : (n : ℕ) → 3 ≤ n → n < 33 → kind_at rs r ≡ n → ⊥
    other n l h e = ⊎_elim (λ i. omega arith) (λ i. omega arith) b

-- ---- all records

pub record Runs (rs : List Record) (left below frees : List ℕ) (r : ℕ) : Type 0 where
  pub within : r ≤ length rs
  pub good : (q : ℕ) → q < r → has_bad rs q ≡ false
  pub left_is : Left rs left r (all_named (take r rs))
  pub kept : Known rs below frees r

pub none_kept : (rs : List Record) → Known rs (replicate 200 0) (replicate 200 0) 0
none_kept rs =
    record {
      long_below = length-replicate {A = ℕ} 200 0;
      long_frees = length-replicate {A = ℕ} 200 0;
      held = λ clear q h. absurd (omega arith);
      zero_below = λ q h. zeros 200 q;
      zero_frees = λ q h. zeros 200 q;
      free = λ clear q h. absurd (omega arith);
      allowed = λ keeps q h. absurd (omega arith);
    }

pub runs_start : (rs : List Record) (left below frees : List ℕ) → Left rs left 0 [] → Known rs below frees 0 → Runs rs left below frees 0
runs_start rs left below frees l k = record { within = omega arith; good = λ q h. absurd (omega arith); left_is = l; kept = k }

pub runs-more : (rs : List Record) (left below frees left' below' frees' : List ℕ) (r : ℕ) → r < length rs → Runs rs left below frees r → RecordAdded rs r left' below' frees' → Runs rs left' below' frees' (r + 1)
runs-more rs left below frees left' below' frees' r h o e =
    record {
      within = omega arith;
      good = λ q k. by_lower q r (λ l. o.good q l) (λ l. let same : q ≡ r = omega arith in rw same e.good);
      left_is = subst (λ (n : ℕ). Left rs left' (r + 1) (all_named (take n rs))) (sym (add-one r)) e.left_is;
      kept = e.kept;
    }

pub runs_end : (rs : List Record) (left below frees : List ℕ) (r : ℕ) → Runs rs left below frees r → length rs ≤ r → Passed rs left frees
runs_end rs left below frees r o h =
    let all : r ≡ length rs = omega (arith, o.within) in
    record {
      good = λ q k. o.good q (omega arith);
      left_is = subst (λ (n : ℕ). Left rs left n (all_named rs)) all (subst (λ (xs : List Record). Left rs left r (all_named xs)) (take_all r rs h) o.left_is);
      free = λ clear q k. o.kept.free clear q (omega arith);
      allowed = λ keeps q k. o.kept.allowed keeps q (omega arith);
    }

-- ---- the last record

module _ (rs : List Record) (left frees : List ℕ) (last : ℕ) (is_last : suc last ≡ length rs) (few : length rs ≤ 200) (p : Passed rs left frees) where
  pub closed_keeps : Closed left frees last → Keeps rs
  closed_keeps c =
      let six : Clear6 rs = clear rs left last is_last few p.good p.left_is c.none c.one in
      record {
        clear6 = six;
        clear7 = closed7 rs six frees (p.free six) last is_last (λ n. low_bits (get_or frees last 0) n c.shut);
        clear8 = closed8 rs six frees (p.free six) last is_last (λ n. low_bits (get_or frees last 0) n c.shut);
      }

  pub keeps_closed : Keeps rs → Closed left frees last
  keeps_closed keeps =
      record {
        one = p.left_is.is last (omega arith) ∙ rw (lt-ltb last (length rs) (omega arith), last_unnamed rs keeps.clear6 last is_last, last_sort rs keeps.clear6 last is_last);
        none = λ q h. p.left_is.is q (omega arith) ∙ rw (lt-ltb q (length rs) (omega arith), named_all rs keeps.clear6 q (omega arith));
        shut =
            few_bits (get_or frees last 0)
            (λ n.
            by_test {P = has_bit (get_or frees last 0) (n + 2) ≡ false} (has_bit (get_or frees last 0) (n + 2))
            (λ e. never (sym (bound_last rs keeps.clear6 last n is_last) ∙ (p.allowed keeps last (omega arith)).bound n e)) (λ e. e));
      }
