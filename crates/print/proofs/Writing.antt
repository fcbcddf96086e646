-- One text written after another, and bytes copied one by one.
use mathlib.Core.Path.{◌≡◌, refl, sym, ap, ◌∙◌}
use mathlib.Core.List.{List, [], ◌∷◌, ◌++◌, append_assoc}
use Prim.Native.Nat.{ℕ, ◌+◌, ◌≤◌}
use native.Mathlib.Omega.{arith}
use lib.ListN.{length, set, take, drop, length-append}
use lib.Seq.{sets, sets-eq, length-sets, drop-drop}
use borrow.Rule.Slice.PartMut.{put_mid}
use Rattle.integers.proofs.Written.{sets_then}
use Rattle.print.specs.Contract.{Wrote}

-- ---- texts

pub wrote_length : {s t : List ℕ} {at r : ℕ} {xs : List ℕ} → Wrote s t at xs r → length t ≡ length s
wrote_length {s} {t} {at} {r} {xs} w = ap length w.bytes_set ∙ length-sets s at xs

pub wrote_none : (s : List ℕ) (at : ℕ) → Wrote s s at [] at
wrote_none s at = record { bytes_set = refl; ends = omega arith }

pub wrote_one : (s : List ℕ) (at x : ℕ) → Wrote s (set s at x) at (x ∷ []) (at + 1)
wrote_one s at x = record { bytes_set = refl; ends = omega arith }

pub wrote_then : {s t u : List ℕ} {at p r : ℕ} {xs ys : List ℕ} → Wrote s t at xs p → Wrote t u p ys r → Wrote s u at (xs ++ ys) r
wrote_then {s} {t} {u} {at} {p} {r} {xs} {ys} v w =
    record {
      bytes_set = w.bytes_set ∙ ap (λ (l : List ℕ). sets l p ys) v.bytes_set ∙ ap (λ (q : ℕ). sets (sets s at xs) q ys) v.ends ∙ sets_then xs ys s at;
      ends = omega (arith, length-append xs ys);
    }

-- the text, and one byte after it
pub wrote_byte : {s t : List ℕ} {at p : ℕ} {xs : List ℕ} (x : ℕ) → Wrote s t at xs p → Wrote s (set t p x) at (xs ++ x ∷ []) (p + 1)
wrote_byte {s} {t} {at} {p} x w = wrote_then w (wrote_one t p x)

-- one byte, and the text after it
pub wrote_after : {s u : List ℕ} {at r : ℕ} {xs : List ℕ} (x : ℕ) → Wrote (set s at x) u (at + 1) xs r → Wrote s u at (x ∷ xs) r
wrote_after {s} {u} {at} x w = wrote_then (wrote_one s at x) w

-- the same text by another name
pub wrote_as : {s t : List ℕ} {at r : ℕ} {xs ys : List ℕ} → xs ≡ ys → Wrote s t at xs r → Wrote s t at ys r
wrote_as {s} {t} {at} {r} e w = rw e at w

-- ---- copying

-- A text that was copied over the part of a slice as long as it.
pub wrote_part : (out bytes copied : List ℕ) (at k : ℕ) → at + length bytes ≤ length out → copied ≡ bytes → k ≡ length bytes → put_mid at k out copied ≡ sets out at bytes
wrote_part out bytes copied at k room e f =
    let same : put_mid at k out copied ≡ take at out ++ (bytes ++ drop (at + length bytes) out) = rw (f, e) (ap (λ (zs : List ℕ). take at out ++ (bytes ++ zs)) (drop-drop (length bytes) at out)) in
    same ∙ sym (append_assoc (take at out) bytes (drop (at + length bytes) out)) ∙ sym (sets-eq bytes out at room)
