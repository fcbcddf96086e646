-- Bindings by what they give to names: `merge` is without a clash exactly where some binding gives what both give, and it is that binding.
use Rattle.std.specs.Prelude.{◌≡◌, refl, true, ◌⊎◌, [], ◌∷◌, ℕ, zero, suc, ◌≤◌, ltb, length}
use Rattle.std.proofs.Common.{sym, ap, ◌∙◌, inl, inr, arith, ltb-true, ltb-false}
use Rattle.prelude.proofs.Absurd.{true_false, impossible}
use Rattle.prelude.proofs.Truth.{by_test}
use Rattle.values.specs.Value.{Value}
use Rattle.patterns.specs.Binding.{Cell, free, is, clash, Binding, names, cell_of, merge, consistent}
use Rattle.patterns.specs.Relation.{Agree, Joined}
use Rattle.patterns.specs.Given.{Gives, IsBinding, GivesBoth}
use Rattle.patterns.proofs.Laws.Matched.{joined_merge, merge_joined}

-- ---- a binding without a clash

consistent_clear : (b : Binding) → consistent b ≡ true → (x : ℕ) → cell_of b x ≡ clash → ⊥
unfolding consistent
consistent_clear [] h x e = impossible cc
consistent_clear (free ∷ b) h zero e = impossible cc
consistent_clear (is v ∷ b) h zero e = impossible cc
consistent_clear (clash ∷ b) h zero e = true_false (sym h)
consistent_clear (free ∷ b) h (suc x) e = consistent_clear b h x e
consistent_clear (is v ∷ b) h (suc x) e = consistent_clear b h x e
consistent_clear (clash ∷ b) h (suc x) e = true_false (sym h)

clear_consistent : (b : Binding) → ((x : ℕ) → cell_of b x ≡ clash → ⊥) → consistent b ≡ true
unfolding consistent
clear_consistent [] h = refl
clear_consistent (free ∷ b) h = clear_consistent b (λ x e. h (suc x) e)
clear_consistent (is v ∷ b) h = clear_consistent b (λ x e. h (suc x) e)
clear_consistent (clash ∷ b) h = absurd (h 0 refl)

-- ---- cell by cell

abbrev Told : Cell → Cell → Cell → Type 0
Told a b c = ((v : Value) → a ≡ is v → c ≡ is v) × ((v : Value) → b ≡ is v → c ≡ is v) × ((v : Value) → c ≡ is v → (a ≡ is v) ⊎ (b ≡ is v))

told_agree : (a b c : Cell) → (a ≡ clash → ⊥) → (b ≡ clash → ⊥) → (c ≡ clash → ⊥) → Told a b c → Agree a b c
told_agree free free free p q r t = refl
told_agree free free (is v) p q r t = go (t.2 v refl)
  where
    go : (free ≡ is v) ⊎ (free ≡ is v) → is v ≡ free
    go (inl e) = sym e
    go (inr e) = sym e
told_agree free free clash p q r t = absurd (r refl)
told_agree free (is w) c p q r t = t.1 w refl
told_agree free clash c p q r t = absurd (q refl)
told_agree (is v) free c p q r t = t.0 v refl
told_agree (is v) (is w) c p q r t = let e = sym (t.0 v refl) ∙ t.1 w refl in let same : v ≡ w = cc in (same, t.0 v refl)
told_agree (is v) clash c p q r t = absurd (q refl)
told_agree clash b c p q r t = absurd (p refl)

agree_told : (a b c : Cell) → Agree a b c → Told a b c
agree_told free free c h = (λ v e. h ∙ e, λ v e. h ∙ e, λ v e. inl (sym h ∙ e))
agree_told free (is w) c h = (λ v e. impossible cc, λ v e. h ∙ e, λ v e. inr (sym h ∙ e))
agree_told free clash c h = absurd h
agree_told (is u) free c h = (λ v e. h ∙ e, λ v e. impossible cc, λ v e. inl (sym h ∙ e))
agree_told (is u) (is w) c h = (λ v e. h.1 ∙ e, λ v e. h.1 ∙ ap is h.0 ∙ e, λ v e. inl (sym h.1 ∙ e))
agree_told (is u) clash c h = absurd h
agree_told clash b c h = absurd h

-- ---- there are no cells beyond the names

beyond : (b : Binding) (x : ℕ) → length b ≤ x → cell_of b x ≡ free
beyond [] x h = refl
beyond (c ∷ b) zero h = absurd (omega arith)
beyond (c ∷ b) (suc x) h = beyond b x (omega arith)

told_beyond : (a b c : Binding) (x : ℕ) → length a ≤ x → length b ≤ x → length c ≤ x → Told (cell_of a x) (cell_of b x) (cell_of c x)
told_beyond a b c x p q r = rw (beyond a x p, beyond b x q, beyond c x r) (agree_told free free free refl)

told_at : (a b c : Binding) → length a ≡ names → length b ≡ names → Joined a b c → (x : ℕ) → Told (cell_of a x) (cell_of b x) (cell_of c x)
told_at a b c p q j x =
    by_test (ltb x names)
    (λ e. agree_told (cell_of a x) (cell_of b x) (cell_of c x) (j.agreed x (ltb-true x names e)))
    (λ e. let l = ltb-false x names e in let s = j.sized in told_beyond a b c x (omega arith) (omega arith) (omega arith))

-- ---- the theorems

-- Where both give a name a value, it is the same.
pub same_given : {a b c : Binding} (x : ℕ) (v w : Value) → GivesBoth a b c → Gives a x v → Gives b x w → v ≡ w
same_given x v w g p q = let e = sym (g.first x v p) ∙ g.second x w q in cc

-- THEOREM: `Joined`, cell by cell, says that the third gives what both give
pub gives_joined : (a b c : Binding) → IsBinding a → IsBinding b → IsBinding c → GivesBoth a b c → Joined a b c
gives_joined a b c f g k h = record {
  sized = k.sized;
  agreed =
      λ x l.
      told_agree (cell_of a x) (cell_of b x) (cell_of c x) (f.clear x) (g.clear x) (k.clear x) (h.first x, h.second x, h.no_more x);
}

pub joined_gives : (a b c : Binding) → IsBinding a → IsBinding b → Joined a b c → IsBinding c × GivesBoth a b c
joined_gives a b c f g j =
    let t = told_at a b c f.sized g.sized j in
    let (e, d) = joined_merge a b c f.sized g.sized j in (
      record { sized = j.sized; clear = consistent_clear c (ap consistent e ∙ d) },
      record { first = λ x v p. (t x).0 v p; second = λ x v p. (t x).1 v p; no_more = λ x v p. (t x).2 v p },
    )

-- THEOREM: a merge without a clash gives what both give
pub merge_gives : (a b : Binding) → IsBinding a → IsBinding b → consistent (merge a b) ≡ true → IsBinding (merge a b) × GivesBoth a b (merge a b)
merge_gives a b f g h = joined_gives a b (merge a b) f g (merge_joined a b f.sized g.sized h)

-- THEOREM: where a binding gives what both give, the merge is without a clash and is that binding
pub gives_merge : (a b c : Binding) → IsBinding a → IsBinding b → IsBinding c → GivesBoth a b c → (consistent (merge a b) ≡ true) × (c ≡ merge a b)
gives_merge a b c f g k h = let (e, d) = joined_merge a b c f.sized g.sized (gives_joined a b c f g k h) in (d, e)

-- THEOREM: bindings are without a clash exactly where `consistent` says so
pub clear_exactly : (b : Binding) → length b ≡ names → ((consistent b ≡ true → IsBinding b) × (IsBinding b → consistent b ≡ true))
clear_exactly b p = (λ h. record { sized = p; clear = consistent_clear b h }, λ k. clear_consistent b k.clear)
