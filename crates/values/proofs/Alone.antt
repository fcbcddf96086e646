-- Bytes that are one record and nothing else: it stands at their start, and they are told from other bytes.
use mathlib.Core.Path.{◌≡◌, sym, ap, ◌∙◌}
use mathlib.Core.Bool.{Bool, false}
use mathlib.Core.List.{List}
use Prim.Native.Nat.{ℕ, ◌≤◌, ◌<◌}
use native.Mathlib.Omega.{arith}
use lib.Dec.{eqb}
use lib.ListN.{length}
use lib.Seq.{take_all}
use Rattle.integers.specs.Bytes.{IsWord}
use Rattle.values.specs.Value.{Value, size, value_limit}
use Rattle.values.specs.Place.{At}
use Rattle.values.specs.Validity.{Tells, Inside, Encodes, IsValue}
use Rattle.values.proofs.Encoding.{encode_length}
use Rattle.values.proofs.Records.{holds, word_size}
use Rattle.values.proofs.Telling.{tells_false, tells_of, told_false, tells_equal}

pub alone_length : {x : List ℕ} {v : Value} → Encodes x v → length x ≡ size v
alone_length {x} {v} o = ap length o.is ∙ encode_length v

pub alone_at : {x : List ℕ} {v : Value} → Encodes x v → At x 0 v
alone_at {x} {v} o =
    let e = alone_length o in
    record { fits = omega arith; fine = o.fine; bytes = take_all (size v) x (omega arith) ∙ o.is }

alone_low : {x : List ℕ} → IsValue x → length x ≤ value_limit
alone_low (v, o) = let e = alone_length o in let h = o.fine.short in omega arith

-- ---- told from other bytes

pub value_long : {x : List ℕ} → value_limit < length x → Tells (IsValue x) false
value_long h = tells_false (λ o. omega (arith, alone_low o))

inside_of : {x : List ℕ} → IsValue x → Inside x 0 (length x)
inside_of (v, o) =
    let a = alone_at o in
    let e = alone_length o in
    let w = word_size a in
    record { held = holds a; ends = omega arith }

pub alone_off : {x : List ℕ} {r : Bool} → Tells (Inside x 0 (length x)) r → r ≡ false → Tells (IsValue x) false
alone_off t e = tells_false (λ o. told_false t e (inside_of o))

pub alone_told : {x : List ℕ} {n : ℕ} → Inside x 0 (length x) → IsWord x 0 n → Tells (IsValue x) (eqb n (length x))
alone_told {x} {n} i w = tells_of there back (tells_equal n (length x))
  where
    there : n ≡ length x → IsValue x
    there e =
        let a = i.held.here in
        let d : length x ≡ size i.held.value = sym e ∙ w.is ∙ word_size a in
        (i.held.value, record { is = sym (take_all (size i.held.value) x (omega arith)) ∙ a.bytes; fine = a.fine })

    back : IsValue x → n ≡ length x
    back (v, o) = w.is ∙ word_size (alone_at o) ∙ sym (alone_length o)
