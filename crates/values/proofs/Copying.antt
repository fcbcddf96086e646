-- Bytes copied within one list, and bytes copied out of a list before zeros.
use mathlib.Core.Path.{◌≡◌, sym, ap, ap₂, subst, ◌∙◌}
use mathlib.Core.List.{List, ◌++◌, append_assoc}
use mathlib.Core.Logic.{inl, inr}
use Prim.Native.Nat.{ℕ, zero, suc, ◌+◌, ◌-◌, ◌<◌, ◌≤◌}
use native.Mathlib.Numerals.{add-one}
use native.Mathlib.Omega.{arith}
use lib.ListN.{length, get_or, take, drop, set, length-take, length-drop, get_or-append}
use lib.IntN.{ℤ}
use lib.Seq.{paste, paste-zero, paste-suc, length-paste, drop-paste, get_or-take, get_or-drop, take_at, drop_at, length-take-le}
use Rattle.std.specs.List.{copy_within}
use Rattle.integers.specs.Bytes.{word}
use Rattle.integers.specs.Whole.{InRange}
use Rattle.values.specs.Value.{integer, size, encode, value_limit}
use Rattle.values.specs.Place.{At, Outside}
use Rattle.values.specs.Contract.{Movable, IsApart, Moved, Put, Copyable, Copied, Length, zeros, ShowsAt}
use Rattle.values.proofs.Frame.{moved}
use Rattle.values.proofs.Encoding.{encode_length}
use Rattle.values.proofs.Records.{integer_range, word_size, one_value}

-- ---- within one list

-- the bytes at `from` put at `to`, as the library copies within a slice
pub moved_within : {s t : List ℕ} {from to n : ℕ} → Movable s from to n → t ≡ copy_within s from (from + n) to → Moved s t from to n
moved_within {s} {t} {from} {to} {n} m e =
    let d : from + n - from ≡ n = omega arith in
    let bytes = take n (drop from s) in
    let rest = drop (to + n) s in
    let source : n ≤ length (drop from s) = simp length-drop (omega (arith, m.there)) in
    let pasted : t ≡ paste s to (drop from s) n = e ∙ ap (paste s to (drop from s)) d in
    let all : t ≡ take to s ++ (bytes ++ rest) = pasted ∙ append_assoc (take to s) bytes rest in
    let first : length (take to s) ≡ to = length-take-le to s (omega (arith, m.room)) in
    record {
      outside = record {
        long = ap length pasted ∙ length-paste s to (drop from s) n (omega (arith, m.room)) source;
        below = ap (take to) all ∙ take_at (take to s) (bytes ++ rest) to first;
        above = ap (drop (to + n)) pasted ∙ drop-paste s to (drop from s) n (omega (arith, m.room)) source;
      };
      bytes =
          ap (λ (l : List ℕ). take n (drop to l)) all
          ∙ ap (take n) (drop_at (take to s) (bytes ++ rest) to first)
          ∙ take_at bytes rest n (length-take-le n (drop from s) source);
    }

-- ---- byte by byte, first to last

-- s with the i bytes at `from` put at `to`
abbrev pasted : List ℕ → ℕ → ℕ → ℕ → List ℕ
pasted s from to i = paste s to (drop from s) i

-- after i turns: what can be copied, of which i bytes are
pub record Copying (s : List ℕ) (from to n : ℕ) (t : List ℕ) (i : ℕ) : Type 0 where
  pub can : Movable s from to n
  pub apart : IsApart from to n
  pub some : i ≤ n
  pub is : t ≡ pasted s from to i

pub copying_none : {s : List ℕ} {from to n : ℕ} → Movable s from to n × IsApart from to n → Copying s from to n s 0
copying_none {s} {from} {to} m = record { can = m.0; apart = m.1; some = omega arith; is = paste-zero s to (drop from s) }

source : {s : List ℕ} {from to n : ℕ} → Movable s from to n → (i : ℕ) → i ≤ n → i ≤ length (drop from s)
source m i h = simp length-drop (omega (arith, m.there))

pasted_length : {s : List ℕ} {from to n : ℕ} → Movable s from to n → (i : ℕ) → i ≤ n → length (pasted s from to i) ≡ length s
pasted_length {s} {from} {to} m i h = length-paste s to (drop from s) i (omega (arith, m.room)) (source m i h)

pub copying_length : {s t : List ℕ} {from to n i : ℕ} → Copying s from to n t i → length t ≡ length s
copying_length {i = i} c = ap length c.is ∙ pasted_length c.can i c.some

-- the byte that is read next is as it was: below what is written, or above it
unread : {s : List ℕ} {from to n : ℕ} → Movable s from to n → (i : ℕ) → i < n → IsApart from to n → get_or (pasted s from to i) (from + i) 0 ≡ get_or (drop from s) i 0
unread {s} {from} {to} m i h (inl g) =
    let low : from + i < length (take to s) = simp length-take (omega (arith, m.room)) in
    ap (λ (l : List ℕ). get_or l (from + i) 0) (append_assoc (take to s) (take i (drop from s)) (drop (to + i) s))
    ∙ get_or-append (take to s) (take i (drop from s) ++ drop (to + i) s) 0 (from + i) low
    ∙ get_or-take to s (from + i) 0 (omega arith)
    ∙ sym (get_or-drop from s i 0)
unread {s} {from} {to} m i h (inr g) =
    let e : to + i + (from - to) ≡ from + i = omega arith in
    ap (λ (k : ℕ). get_or (pasted s from to i) k 0) (sym e)
    ∙ sym (get_or-drop (to + i) (pasted s from to i) (from - to) 0)
    ∙ ap (λ (l : List ℕ). get_or l (from - to) 0) (drop-paste s to (drop from s) i (omega (arith, m.room)) (source m i (omega arith)))
    ∙ get_or-drop (to + i) s (from - to) 0
    ∙ ap (λ (k : ℕ). get_or s k 0) e
    ∙ sym (get_or-drop from s i 0)

-- a turn of the loop, which reads the list that it writes
pub copying_more : {s t : List ℕ} {from to n i : ℕ} → Copying s from to n t i → i < n → Copying s from to n (set t (to + i) (get_or t (from + i) 0)) (i + 1)
copying_more {s} {t} {from} {to} {n} {i} c h =
    let m = c.can in
    let here : to + i < length s = omega (arith, m.room) in
    let there : i < length (drop from s) = simp length-drop (omega (arith, m.there)) in
    record {
      can = m;
      apart = c.apart;
      some = omega arith;
      is =
          ap (λ (l : List ℕ). set l (to + i) (get_or l (from + i) 0)) c.is
          ∙ ap (set (pasted s from to i) (to + i)) (unread m i h c.apart)
          ∙ paste-suc s to (drop from s) i 0 here there
          ∙ ap (pasted s from to) (sym (add-one i));
    }

pub copying_all : {s t : List ℕ} {from to n i : ℕ} → Copying s from to n t i → n ≤ i → Moved s t from to n
copying_all {s} {t} {from} {to} {n} {i} c g =
    let m = c.can in
    let d : i ≡ n = omega (arith, c.some) in
    let bytes : List ℕ = take n (drop from s) in
    let rest : List ℕ = drop (to + n) s in
    let all : t ≡ take to s ++ (bytes ++ rest) = c.is ∙ ap (pasted s from to) d ∙ append_assoc (take to s) bytes rest in
    let first : length (take to s) ≡ to = length-take-le to s (omega (arith, m.room)) in
    record {
      outside = record {
        long = copying_length c;
        below = ap (take to) all ∙ take_at (take to s) (bytes ++ rest) to first;
        above = ap (drop (to + n)) (c.is ∙ ap (pasted s from to) d) ∙ drop-paste s to (drop from s) n (omega (arith, m.room)) (source m n (omega arith));
      };
      bytes =
          ap (λ (l : List ℕ). take n (drop to l)) all
          ∙ ap (take n) (drop_at (take to s) (bytes ++ rest) to first)
          ∙ take_at bytes rest n (length-take-le n (drop from s) (source m n (omega arith)));
    }

-- ---- a record

pub movable : {s : List ℕ} {from to n : ℕ} → Copyable s from to → Length s from n → Movable s from to n
movable {s} {from} {to} {n} c l =
    let e = l.is in
    let h = c.held.whole in
    let g = c.room in
    record {
      there = omega arith;
      room = omega arith;
    }

pub apart_as : {s : List ℕ} {from to n : ℕ} → Copyable s from to → Length s from n → IsApart from to n
apart_as {from = from} {to} c l = subst (IsApart from to) (sym l.is) c.apart

pub copied : {s t : List ℕ} {from to n : ℕ} → Copyable s from to → Length s from n → Moved s t from to n → Copied s t from to (to + n)
copied {s} {t} {from} {to} {n} c l m =
    let e = l.is in
    let g = c.room in
    let d = m.outside.long in
    record {
      ends = ap (λ (k : ℕ). to + k) e;
      outside = m.outside;
      bytes = subst (λ (k : ℕ). take k (drop to t) ≡ take k (drop from s)) e m.bytes;
      here = λ v a.
          let w = l.right v a in
          moved to (omega arith) (subst (λ (k : ℕ). take k (drop to t) ≡ take k (drop from s)) w m.bytes) a;
    }

-- ---- an integer copied as a number

-- y is z as the machine holds it
module _ {s : List ℕ} {from : ℕ} {y z : ℤ} (e : y ≡ z) (i : At s from (integer z)) where
  held_number : At s from (integer y)
  held_number = subst (λ (x : ℤ). At s from (integer x)) (sym e) i

  eight : word s from ≡ 8
  unfolding size
  eight = word_size held_number

  pub number_room : {to : ℕ} → Copyable s from to → (to + 8 ≤ length s) × InRange y
  number_room c = let n = eight in let room = c.room in (omega arith, integer_range held_number.fine)

  pub number_copied : {t : List ℕ} {to r : ℕ} → Put s t to (integer y) 8 r → Copied s t from to r
  number_copied {t} {to} {r} p =
      record {
        ends = p.ends ∙ ap (λ (n : ℕ). to + n) (sym eight);
        outside = subst (Outside s t to) (sym p.ends) p.outside;
        bytes = subst (λ (n : ℕ). take n (drop to t) ≡ take n (drop from s)) (sym (word_size held_number)) (p.here.bytes ∙ sym held_number.bytes);
        here = λ v k. subst (At t to) (one_value held_number k) p.here;
      }

-- ---- out of a list, into zeros

drop_zeros : (n k : ℕ) → drop k (zeros n) ≡ zeros (n - k)
drop_zeros n zero = let e : n ≡ n - 0 = omega arith in ap zeros e
drop_zeros zero (suc k) = let e : 0 ≡ 0 - suc k = omega arith in ap zeros e
drop_zeros (suc n) (suc k) = let e : n - k ≡ suc n - suc k = omega arith in drop_zeros n k ∙ ap zeros e

pub shown : {s xs : List ℕ} {at n : ℕ} → Length s at n → xs ≡ take (at + n - at) (drop at s) → ShowsAt s at (record { bytes = xs ++ drop n (zeros value_limit); len = n })
shown {s} {xs} {at} {n} l e v a =
    let w : n ≡ size v = l.right v a in
    let d : at + n - at ≡ size v = omega arith in
    let m : n ≡ length (encode v) = w ∙ sym (encode_length v) in
    record {
      len = m;
      bytes = ap₂ {C = List ℕ} ◌++◌ (e ∙ ap (λ (k : ℕ). take k (drop at s)) d ∙ a.bytes) (drop_zeros value_limit n ∙ ap (λ (k : ℕ). zeros (value_limit - k)) m);
    }
