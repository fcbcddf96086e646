-- One store after another makes a heading, and the record of a boolean, of an integer or of a quote.
use mathlib.Core.Path.{◌≡◌, refl, ap, ◌∙◌}
use mathlib.Core.Bool.{Bool, true, false}
use mathlib.Core.List.{List, [], ◌∷◌}
use Prim.Native.Nat.{ℕ, ◌+◌, ◌≤◌, ◌<◌}
use native.Mathlib.Omega.{arith}
use lib.IntN.{ℤ}
use lib.ListN.{length, set}
use lib.Seq.{sets}
use mir.Val.{bool_byte}
use Rattle.integers.specs.Bytes.{pair, integer_bytes}
use Rattle.integers.specs.Whole.{InRange}
use Rattle.values.specs.Value.{Value, boolean, integer, quote, size, byte_of, headed, encode, WellFormed}
use Rattle.values.specs.Contract.{PutHead, Put, heading}
use Rattle.values.proofs.Records.{well_formed_boolean, well_formed_integer, well_formed_quote}
use Rattle.values.proofs.Encoding.{encode_length}
use Rattle.values.proofs.Written.{stored_outside, stores, written}

pub put_heading : (s t u : List ℕ) (at n k : ℕ) → t ≡ sets s at (pair n) → u ≡ sets t (at + 2) (pair k) → PutHead s u at n k
put_heading s t u at n k p q =
    let e : u ≡ sets s at (heading n k) = q ∙ ap (λ (l : List ℕ). sets l (at + 2) (pair k)) p ∙ stores s at (pair n) (pair k) refl in
    record { bytes = e; outside = stored_outside s (heading n k) e refl }

put : (s u : List ℕ) (at : ℕ) (v : Value) (n : ℕ) → size v ≡ n → u ≡ sets s at (encode v) → WellFormed v → at + n ≤ length s → Put s u at v n (at + n)
put s u at v n d e f h =
    record {
      ends = refl;
      sized = d;
      bytes = e;
      here = written s e f (omega arith);
      outside = stored_outside s (encode v) e (encode_length v ∙ d);
    }

-- what follows a heading
after_heading : (s t : List ℕ) (at n k : ℕ) (bs : List ℕ) → PutHead s t at n k → sets t (at + 4) bs ≡ sets s at (headed n k bs)
after_heading s t at n k bs p = ap (λ (l : List ℕ). sets l (at + 4) bs) p.bytes ∙ stores s at (heading n k) bs refl

pub byte-is : (b : Bool) → bool_byte b ≡ byte_of b
byte-is true = refl
byte-is false = refl

pub put_boolean : (s t : List ℕ) (at : ℕ) (b : Bool) → PutHead s t at 5 1 → at + 5 ≤ length s → Put s (set t (at + 4) (bool_byte b)) at (boolean b) 5 (at + 5)
unfolding size encode
put_boolean s t at b p h =
    put s (set t (at + 4) (bool_byte b)) at (boolean b) 5 refl
    (ap (set t (at + 4)) (byte-is b) ∙ after_heading s t at 5 1 (byte_of b ∷ []) p)
    (well_formed_boolean b) h

pub put_integer : (s t u : List ℕ) (at : ℕ) (z : ℤ) → InRange z → PutHead s t at 8 2 → u ≡ sets t (at + 4) (integer_bytes z) → at + 8 ≤ length s → Put s u at (integer z) 8 (at + 8)
unfolding size encode
put_integer s t u at z f p q h =
    put s u at (integer z) 8 refl (q ∙ after_heading s t at 8 2 (integer_bytes z) p) (well_formed_integer f) h

pub put_quote : (s t u : List ℕ) (at n : ℕ) → n < 65536 → PutHead s t at 6 7 → u ≡ sets t (at + 4) (pair n) → at + 6 ≤ length s → Put s u at (quote n) 6 (at + 6)
unfolding size encode
put_quote s t u at n f p q h = put s u at (quote n) 6 refl (q ∙ after_heading s t at 6 7 (pair n) p) (well_formed_quote f) h
