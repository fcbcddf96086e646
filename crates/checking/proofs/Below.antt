-- The bits of a record and of all below it.
use mathlib.Core.Path.{◌≡◌, refl, sym, ap, subst, ◌∙◌}
use mathlib.Core.Bool.{true, false}
use mathlib.Core.List.{List, [], map}
use Prim.Native.Nat.{ℕ, suc, ◌+◌, ◌*◌, ◌^◌, ◌%◌, ◌≤◌, ◌<◌}
use native.Mathlib.Omega.{arith}
use native.Mathlib.Numerals.{add-one}
use borrow.Author.Tests.{eq-eqb, ne_eqb, leb-true}
use lib.Pow.{shl_exact}
use lib.ListN.{length, get_or, drop, set, length-set}
use lib.Seq.{drop-cons, drop-length, get_or-set_same, get_or-set_other}
use Rattle.tables.specs.Record.{Record, Head, name, shape, size, head_of, named, operand, name_of, is_known, is_fit}
use Rattle.tables.specs.Table.{record_at}
use Rattle.tables.specs.Sheet.{is_loose}
use Rattle.prelude.proofs.Truth.{by_lower}
use Rattle.tables.proofs.Laws.Below.{OperandsLower as Less, fold_at}
use Rattle.tables.proofs.Laws.Accepted.{fit_least, fit_known}
use Rattle.checking.specs.Scopes.{or_bits, or_bits_all, own, bits_below, Filled}

pub one_bit : (n : ℕ) → n < 32 → (1 * 2 ^ n) % 4294967296 ≡ 2 ^ n
one_bit n h = shl_exact {a = 1} 1 n 32 (omega arith) (omega arith) ∙ omega arith

-- ---- one record

-- A record whose head is a name has that name, from 0 to 15.
pub record Named (x : Record) : Type 0 where
  pub has : 0 < length x.fields
  pub low : name_of x ≤ 15

pub head_name : (x : Record) → is_fit x ≡ true → head_of x ≡ name → Named x
head_name x fit e =
    record {
      has = omega (arith, fit_least x fit, ap size e);
      low = leb-true (name_of x) 15 (sym (ap (λ (h : Head). is_known h x) e) ∙ fit_known x fit);
    }

pub name_pattern : (x : Record) → is_fit x ≡ true → x.kind ≡ 32 → Named x
unfolding shape
name_pattern x fit e = head_name x fit (ap (λ (k : ℕ). (shape k).head) e)

pub name_read : (x : Record) → is_fit x ≡ true → x.kind ≡ 3 → Named x
unfolding shape
name_read x fit e = head_name x fit (ap (λ (k : ℕ). (shape k).head) e)

pub own_name : (x : Record) (n : ℕ) → x.kind ≡ 32 → n ≡ name_of x → 2 ^ (n + 2) ≡ own x
unfolding own
own_name x n e f = sym (rw (eq-eqb x.kind 32 e, f))

pub own_loose : (x : Record) → (x.kind ≡ 32 → ⊥) → is_loose x ≡ true → 2 ≡ own x
unfolding own
own_loose x a e = rw (ne_eqb x.kind 32 a, e)

pub own_none : (x : Record) → (x.kind ≡ 32 → ⊥) → is_loose x ≡ false → 0 ≡ own x
unfolding own
own_none x a e = rw (ne_eqb x.kind 32 a, e)

-- ---- the operands of a record

pub record Turn (rs : List Record) (r m i : ℕ) : Type 0 where
  pub within : i ≤ length (named (record_at rs r))
  pub is : or_bits_all m (map (bits_below rs) (drop i (named (record_at rs r)))) ≡ bits_below rs r

pub turn_start : (rs : List Record) (r m : ℕ) → Less rs → r < length rs → m ≡ own (record_at rs r) → Turn rs r m 0
unfolding bits_below
turn_start rs r m lower h e =
    record {
      within = omega arith;
      is = ap (λ (k : ℕ). or_bits_all k (map (bits_below rs) (named (record_at rs r)))) e ∙ sym (fold_at (λ q ms. or_bits_all (own (record_at rs q)) ms) 0 rs lower r h);
    }

pub turn_more : (rs : List Record) (r m i n x : ℕ) → Turn rs r m i → i < length (named (record_at rs r)) → x ≡ bits_below rs (operand (record_at rs r) i) → n ≡ or_bits m x → Turn rs r n (i + 1)
turn_more rs r m i n x t h e f =
    record {
      within = omega arith;
      is =
          rw (add-one i)
          (ap (λ (k : ℕ). or_bits_all k (map (bits_below rs) (drop (suc i) (named (record_at rs r))))) (f ∙ ap (or_bits m) e)
          ∙ sym (ap (λ (ns : List ℕ). or_bits_all m (map (bits_below rs) ns)) (drop-cons (named (record_at rs r)) i 0 h)) ∙ t.is);
    }

pub turn_end : (rs : List Record) (r m i : ℕ) → Turn rs r m i → length (named (record_at rs r)) ≤ i → m ≡ bits_below rs r
turn_end rs r m i t h =
    let all : i ≡ length (named (record_at rs r)) = omega (arith, t.within) in
    let none : drop i (named (record_at rs r)) ≡ [] = rw all (drop-length (named (record_at rs r))) in
    sym (ap (λ (ns : List ℕ). or_bits_all m (map (bits_below rs) ns)) none) ∙ t.is

-- ---- all records

-- What holds of the entries below r of a list, and of one more, holds of those below r + 1.
pub set_more : (P : ℕ → ℕ → Type 0) (xs xs' : List ℕ) (r v : ℕ) → r < length xs → ((q : ℕ) → q < r → P q (get_or xs q 0)) → P r v → xs' ≡ set xs r v → (q : ℕ) → q < r + 1 → P q (get_or xs' q 0)
set_more P xs xs' r v h a b e q k =
    by_lower q r (λ l. subst (P q) (sym (ap (λ (ys : List ℕ). get_or ys q 0) e ∙ get_or-set_other xs r q v 0 (λ same. omega arith))) (a q l))
    (λ l.
    let same : r ≡ q = omega arith in
    subst (λ (p : ℕ). P p (get_or xs' p 0)) same (subst (P r) (sym (ap (λ (ys : List ℕ). get_or ys r 0) e ∙ get_or-set_same xs r v 0 h)) b))

pub filled_start : (f : ℕ → ℕ) (xs : List ℕ) → length xs ≡ 200 → Filled f xs 0
filled_start f xs h = record { long = h; is = λ q k. absurd (omega arith) }

pub filled_more : (f : ℕ → ℕ) (xs : List ℕ) (r m : ℕ) → r < 200 → Filled f xs r → m ≡ f r → Filled f (set xs r m) (r + 1)
filled_more f xs r m h b e =
    record { long = length-set xs r m ∙ b.long; is = set_more (λ q x. x ≡ f q) xs (set xs r m) r m (omega (arith, b.long)) b.is e refl }
