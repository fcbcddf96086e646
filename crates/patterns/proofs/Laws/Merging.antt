-- Bindings put together: an order of putting together does not matter, and what is consistent together is so apart.
use Rattle.std.specs.Prelude.{◌≡◌, refl, Bool, true, false, cond, [], ◌∷◌, ℕ, zero, suc, length, replicate}
use Rattle.std.proofs.Common.{sym, ap, ap₂, ◌∙◌, arith}
use Rattle.prelude.proofs.Absurd.{true_false}
use Rattle.values.specs.Value.{Value}
use Rattle.values.specs.Items.{same}
use Rattle.values.proofs.Order.{same_true}
use Rattle.patterns.specs.Binding.{Cell, free, is, clash, Binding, names, nothing, agree, merge, consistent}

pub agree_free : (c : Cell) → agree c free ≡ c
agree_free free = refl
agree_free (is v) = refl
agree_free clash = refl

picked_free : (b : Bool) (v : Value) → agree (cond b (is v) clash) free ≡ cond b (is v) clash
picked_free true v = refl
picked_free false v = refl

picked_clash : (b : Bool) (v : Value) → agree (cond b (is v) clash) clash ≡ clash
picked_clash true v = refl
picked_clash false v = refl

picked_is : (v w u : Value) (b c : Bool) → same v w ≡ b → same w u ≡ c → agree (cond b (is v) clash) (is u) ≡ agree (is v) (cond c (is w) clash)
picked_is v w u true true e f =
    let q = same_true v w e in
    let g : same v u ≡ true = ap (λ (x : Value). same x u) q ∙ f in
    ap (λ (x : Bool). cond x (is v) clash) (g ∙ sym e)
picked_is v w u true false e f =
    let q = same_true v w e in
    ap (λ (x : Bool). cond x (is v) clash) (ap (λ (x : Value). same x u) q ∙ f)
picked_is v w u false true e f = ap (λ (x : Bool). cond x (is v) clash) (sym e)
picked_is v w u false false e f = refl

agree_assoc : (x y z : Cell) → agree (agree x y) z ≡ agree x (agree y z)
agree_assoc free y z = refl
agree_assoc (is v) free z = refl
agree_assoc (is v) (is w) free = picked_free (same v w) v
agree_assoc (is v) (is w) (is u) = picked_is v w u (same v w) (same w u) refl refl
agree_assoc (is v) (is w) clash = picked_clash (same v w) v
agree_assoc (is v) clash z = refl
agree_assoc clash y z = refl

pub merge_assoc : (a b c : Binding) → merge (merge a b) c ≡ merge a (merge b c)
unfolding merge
merge_assoc [] b c = refl
merge_assoc (x ∷ a) [] c = refl
merge_assoc (x ∷ a) (y ∷ b) [] = refl
merge_assoc (x ∷ a) (y ∷ b) (z ∷ c) = ap₂ ◌∷◌ (agree_assoc x y z) (merge_assoc a b c)

merge_frees : (n : ℕ) (a : Binding) → length a ≡ n → merge a (replicate n free) ≡ a
unfolding merge
merge_frees zero [] e = refl
merge_frees zero (x ∷ a) e = absurd (omega arith)
merge_frees (suc n) [] e = absurd (omega arith)
merge_frees (suc n) (x ∷ a) e = ap₂ ◌∷◌ (agree_free x) (merge_frees n a (omega arith))

pub merge_nothing : (a : Binding) → length a ≡ names → merge a nothing ≡ a
merge_nothing a e = merge_frees names a e

frees_merge : (n : ℕ) (b : Binding) → length b ≡ n → merge (replicate n free) b ≡ b
unfolding merge
frees_merge zero b e = refl
frees_merge (suc n) [] e = absurd (omega arith)
frees_merge (suc n) (y ∷ b) e = ap (λ (l : Binding). y ∷ l) (frees_merge n b (omega arith))

pub nothing_merge : (b : Binding) → length b ≡ names → merge nothing b ≡ b
nothing_merge b e = frees_merge names b e

-- ---- consistent

none_consistent : consistent [] ≡ true
unfolding consistent
none_consistent = refl

tail_consistent : (x : Cell) (a : Binding) → consistent (x ∷ a) ≡ true → consistent a ≡ true
unfolding consistent
tail_consistent free a e = e
tail_consistent (is v) a e = e
tail_consistent clash a e = true_false (sym e)

head_left : (x y : Cell) (a b : Binding) → consistent (agree x y ∷ a) ≡ true → consistent b ≡ true → consistent (x ∷ b) ≡ true
unfolding consistent
head_left free y a b e f = f
head_left (is v) y a b e f = f
head_left clash y a b e f = e

head_right : (x y : Cell) (a b : Binding) → consistent (agree x y ∷ a) ≡ true → consistent b ≡ true → consistent (y ∷ b) ≡ true
unfolding consistent
head_right x free a b e f = f
head_right x (is w) a b e f = f
head_right free clash a b e f = e
head_right (is v) clash a b e f = e
head_right clash clash a b e f = e

pub consistent_left : (a b : Binding) → consistent (merge a b) ≡ true → consistent a ≡ true
unfolding merge
consistent_left [] b e = none_consistent
consistent_left (x ∷ a) [] e = e
consistent_left (x ∷ a) (y ∷ b) e = head_left x y (merge a b) a e (consistent_left a b (tail_consistent (agree x y) (merge a b) e))

pub consistent_right : (a b : Binding) → consistent (merge a b) ≡ true → consistent b ≡ true
unfolding merge
consistent_right [] b e = e
consistent_right (x ∷ a) [] e = none_consistent
consistent_right (x ∷ a) (y ∷ b) e = head_right x y (merge a b) b e (consistent_right a b (tail_consistent (agree x y) (merge a b) e))
