-- Records that stay and records that are moved: what a slice that changed elsewhere still holds.
use mathlib.Core.Path.{◌≡◌, refl, sym, ap, ap₂, ◌∙◌}
use mathlib.Core.List.{List, [], ◌∷◌}
use Prim.Native.Nat.{ℕ, zero, suc, ◌+◌, ◌*◌, ◌-◌, ◌≤◌, ◌<◌}
use native.Mathlib.Omega.{arith}
use lib.ListN.{length, get_or, take, drop}
use lib.Seq.{take-take, drop-drop, get_or-take, get_or-drop}
use Rattle.integers.specs.Bytes.{word}
use Rattle.values.specs.Value.{Value, Items, size, sizes}
use Rattle.values.specs.Place.{At, ItemsAt, Outside}

-- ---- moved: the bytes at one place are those that stood at another

pub moved : {s t : List ℕ} {a : ℕ} (b : ℕ) {v : Value} → b + size v ≤ length t → take (size v) (drop b t) ≡ take (size v) (drop a s) → At s a v → At t b v
moved b room e h = record { fits = room; fine = h.fine; bytes = e ∙ h.bytes }

pub items_moved : {s t : List ℕ} {from to : ℕ} (at end : ℕ) {vs : Items} → at + sizes vs ≡ end → end ≤ length t → take (sizes vs) (drop at t) ≡ take (sizes vs) (drop from s) → ItemsAt s from to vs → ItemsAt t at end vs
items_moved at end d room e h = record { ends = d; fits = room; fine = h.fine; short = h.short; bytes = e ∙ h.bytes }

-- ---- kept: what is below `base` is as it was

pub below_less : (base n : ℕ) (s t : List ℕ) → n ≤ base → take base t ≡ take base s → take n t ≡ take n s
below_less base n s t h e = sym (take-take n base t h) ∙ ap (take n) e ∙ take-take n base s h

window : (at n base : ℕ) (l : List ℕ) → at + n ≤ base → take n (drop at (take base l)) ≡ take n (drop at l)
window zero n base l h = take-take n base l (omega arith)
window (suc at) n zero l h = let z : ⊥ = omega arith in absurd z
window (suc at) n (suc base) [] h = refl
window (suc at) n (suc base) (x ∷ l) h = window at n base l (omega arith)

pub unchanged : (base at n : ℕ) (s t : List ℕ) → at + n ≤ base → take base t ≡ take base s → take n (drop at t) ≡ take n (drop at s)
unchanged base at n s t h e = sym (window at n base t h) ∙ ap (λ (l : List ℕ). take n (drop at l)) e ∙ window at n base s h

byte_kept : (base at : ℕ) (s t : List ℕ) → at < base → take base t ≡ take base s → get_or t at 0 ≡ get_or s at 0
byte_kept base at s t h e = sym (get_or-take base t at 0 h) ∙ ap (λ (l : List ℕ). get_or l at 0) e ∙ get_or-take base s at 0 h

pub word_kept : (base at : ℕ) (s t : List ℕ) → at + 2 ≤ base → take base t ≡ take base s → word t at ≡ word s at
word_kept base at s t h e =
    ap₂ (λ (x y : ℕ). x + 256 * y) (byte_kept base at s t (omega arith) e) (byte_kept base (at + 1) s t (omega arith) e)

pub kept : {s t : List ℕ} {base at : ℕ} {v : Value} → take base t ≡ take base s → base ≤ length t → at + size v ≤ base → At s at v → At t at v
kept {s} {t} {base} {at} {v} e g h a = record { fits = omega arith; fine = a.fine; bytes = unchanged base at (size v) s t h e ∙ a.bytes }

pub items_kept : {s t : List ℕ} {base from to : ℕ} {vs : Items} → take base t ≡ take base s → base ≤ length t → to ≤ base → ItemsAt s from to vs → ItemsAt t from to vs
items_kept {s} {t} {base} {from} {to} {vs} e g h a =
    let f = a.ends in
    record { ends = f; fits = omega arith; fine = a.fine; short = a.short; bytes = unchanged base from (sizes vs) s t (omega arith) e ∙ a.bytes }

-- ---- outside: what changed lies between two places

pub outside_none : (s : List ℕ) (from to : ℕ) → Outside s s from to
outside_none s from to = record { long = refl; below = refl; above = refl }

above_less : {to : ℕ} (n : ℕ) (s t : List ℕ) → to ≤ n → drop to t ≡ drop to s → drop n t ≡ drop n s
above_less {to} n s t h e =
    let d : to + (n - to) ≡ n = omega arith in
    ap (λ (k : ℕ). drop k t) (sym d) ∙ sym (drop-drop (n - to) to t) ∙ ap (drop (n - to)) e ∙ drop-drop (n - to) to s ∙ ap (λ (k : ℕ). drop k s) d

pub outside_wider : {s t : List ℕ} {from to from' to' : ℕ} → from' ≤ from → to ≤ to' → Outside s t from to → Outside s t from' to'
outside_wider {s} {t} {from} {to} {from'} {to'} h g o =
    record { long = o.long; below = below_less from from' s t h o.below; above = above_less to' s t g o.above }

pub outside_both : {s t u : List ℕ} {from to : ℕ} → Outside s t from to → Outside t u from to → Outside s u from to
outside_both o p = record { long = p.long ∙ o.long; below = p.below ∙ o.below; above = p.above ∙ o.above }

-- one change after another lies between the lower start and the higher end
pub outside_then : {s t u : List ℕ} {a b c d : ℕ} (from to : ℕ) → from ≤ a → b ≤ to → from ≤ c → d ≤ to → Outside s t a b → Outside t u c d → Outside s u from to
outside_then from to h₁ h₂ h₃ h₄ o p = outside_both (outside_wider h₁ h₂ o) (outside_wider h₃ h₄ p)

pub at_below : {s t : List ℕ} {from to at : ℕ} {v : Value} → Outside s t from to → at + size v ≤ from → At s at v → At t at v
at_below {s} {t} {from} {to} {at} {v} o h a =
    let l = o.long in
    let f = a.fits in
    record { fits = omega arith; fine = a.fine; bytes = unchanged from at (size v) s t h o.below ∙ a.bytes }

pub at_above : {s t : List ℕ} {from to at : ℕ} {v : Value} → Outside s t from to → to ≤ at → At s at v → At t at v
at_above {s} {t} {from} {to} {at} {v} o h a =
    let l = o.long in
    let f = a.fits in
    record { fits = omega arith; fine = a.fine; bytes = ap (take (size v)) (above_less at s t h o.above) ∙ a.bytes }

pub items_below : {s t : List ℕ} {from to a e : ℕ} {vs : Items} → Outside s t from to → e ≤ from → ItemsAt s a e vs → ItemsAt t a e vs
items_below {s} {t} {from} {to} {a} {e} {vs} o h x =
    let l = o.long in
    let f = x.ends in
    let g = x.fits in
    record { ends = f; fits = omega arith; fine = x.fine; short = x.short; bytes = unchanged from a (sizes vs) s t (omega arith) o.below ∙ x.bytes }

pub items_above : {s t : List ℕ} {from to a e : ℕ} {vs : Items} → Outside s t from to → to ≤ a → ItemsAt s a e vs → ItemsAt t a e vs
items_above {s} {t} {from} {to} {a} {e} {vs} o h x =
    let l = o.long in
    let g = x.fits in
    record { ends = x.ends; fits = omega arith; fine = x.fine; short = x.short; bytes = ap (take (sizes vs)) (above_less a s t h o.above) ∙ x.bytes }

-- bytes and words outside
pub byte_below : {s t : List ℕ} {from to : ℕ} → Outside s t from to → (at : ℕ) → at < from → get_or t at 0 ≡ get_or s at 0
byte_below {s} {t} {from} o at h = byte_kept from at s t h o.below

byte_above : {s t : List ℕ} {from to : ℕ} → Outside s t from to → (at : ℕ) → to ≤ at → get_or t at 0 ≡ get_or s at 0
byte_above {s} {t} {from} {to} o at h =
    let d : to + (at - to) ≡ at = omega arith in
    ap (λ (k : ℕ). get_or t k 0) (sym d) ∙ sym (get_or-drop to t (at - to) 0) ∙ ap (λ (l : List ℕ). get_or l (at - to) 0) o.above ∙ get_or-drop to s (at - to) 0 ∙ ap (λ (k : ℕ). get_or s k 0) d

pub word_below : {s t : List ℕ} {from to : ℕ} → Outside s t from to → (at : ℕ) → at + 2 ≤ from → word t at ≡ word s at
word_below {s} {t} {from} o at h = word_kept from at s t h o.below

pub word_above : {s t : List ℕ} {from to : ℕ} → Outside s t from to → (at : ℕ) → to ≤ at → word t at ≡ word s at
word_above o at h = ap₂ (λ (x y : ℕ). x + 256 * y) (byte_above o at h) (byte_above o (at + 1) (omega arith))
