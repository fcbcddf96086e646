-- The functions on masks, said of numbers and lists alone.
use mathlib.Core.Path.{◌≡◌, refl, sym, ap, subst, ◌∙◌}
use mathlib.Core.List.{List, [], ◌∷◌}
use Prim.Native.Nat.{ℕ, zero, suc, ◌+◌, ◌*◌, ◌-◌, ◌/◌, ◌%◌, ◌^◌, ◌≤◌, ◌<◌}
use native.Mathlib.Nat.{pow-suc, mul_assoc, suc-mul, div-le_self}
use native.Mathlib.Omega.{arith}
use lib.ListN.{length, drop, get_or}
use Rattle.std.proofs.Common.{add-one}
use Rattle.std.proofs.lemmas.List.{drop-drop}
use Rattle.std.proofs.lemmas.Nat.{shr-shr}
use borrow.Author.Tests.{lt-ltb, le-ltb}
use Rattle.values.specs.Value.{Kind}
use Rattle.patterns.specs.Ways.{to_left, to_right}
use Rattle.patterns.specs.Pattern.{UnitOf}
use Rattle.parts.specs.declared.masks.Dealing.{Dealing}
use Rattle.parts.specs.Chosen.{keep, split_at}
use Rattle.parts.proofs.Chosen.{keep_zero, keep_none, keep_odd, keep_even}
use Rattle.parts.specs.Mask.{Full, Dealt, Deals, Spread}

-- ---- all ones

pub full_at : (k : ℕ) → k ≤ 7 → Full k (get_or (0 ∷ 1 ∷ 3 ∷ 7 ∷ 15 ∷ 31 ∷ 63 ∷ 127 ∷ []) k 0)
full_at zero h = record { power = refl; small = omega arith }
full_at (suc zero) h = record { power = refl; small = omega arith }
full_at (suc (suc zero)) h = record { power = refl; small = omega arith }
full_at (suc (suc (suc zero))) h = record { power = refl; small = omega arith }
full_at (suc (suc (suc (suc zero)))) h = record { power = refl; small = omega arith }
full_at (suc (suc (suc (suc (suc zero))))) h = record { power = refl; small = omega arith }
full_at (suc (suc (suc (suc (suc (suc zero)))))) h = record { power = refl; small = omega arith }
full_at (suc (suc (suc (suc (suc (suc (suc zero))))))) h = record { power = refl; small = omega arith }
full_at (suc (suc (suc (suc (suc (suc (suc (suc k)))))))) h = absurd (omega arith)

-- ---- the halves of a split

module _ {A : Type 0} where
  -- the d-th split of a unit and others
  pub split_left : (u : A) (us : List A) (d : ℕ) → d < 2 ^ length us → split_at (u ∷ us) d ≡ to_left u (split_at us d)
  unfolding split_at
  split_left u us d h = rw (lt-ltb d (2 ^ length us) h)

  pub split_right : (u : A) (us : List A) (d : ℕ) → 2 ^ length us ≤ d → split_at (u ∷ us) d ≡ to_right u (split_at us (d - 2 ^ length us))
  unfolding split_at
  split_right u us d h = rw (le-ltb d (2 ^ length us) h)

  split_none : (d : ℕ) → ((split_at {A = A} [] d).left ≡ []) × ((split_at {A = A} [] d).right ≡ [])
  unfolding split_at
  split_none d = (refl, refl)

  abbrev lefts : List A → ℕ → List A
  lefts us d = (split_at us d).left

  abbrev rights : List A → ℕ → List A
  rights us d = (split_at us d).right

  -- ---- units dealt out

  pub dealt_none : (d h : ℕ) (us : List A) → h ≡ 0 → Dealt d h 0 d us
  dealt_none d h us e =
      let n : keep h us ≡ [] = ap (λ (k : ℕ). keep k us) e ∙ keep_zero us in
      let p : 2 ^ length (keep h us) ≡ 1 = ap (λ (l : List A). 2 ^ length l) n in
      let i : d ≡ d * 1 + 0 = omega arith in
      record {
        number = 0;
        below = omega arith;
        is = i ∙ ap (λ (x : ℕ). d * x + 0) (sym p);
        left = keep_zero us ∙ sym (ap (λ (l : List A). lefts l 0) n ∙ (split_none 0).0);
        right = ap (λ (k : ℕ). keep (k - 0) us) e ∙ keep_zero us ∙ sym (ap (λ (l : List A). rights l 0) n ∙ (split_none 0).1);
      }

  -- nothing more is chosen
  dealt_same : (d m l e : ℕ) (ws us : List A) → keep (m / 2) ws ≡ keep m us → keep (2 * l) us ≡ keep l ws → keep (m - 2 * l) us ≡ keep (m / 2 - l) ws → Dealt d (m / 2) l e ws → Dealt d m (2 * l) e us
  dealt_same d m l e ws us q a b x = record {
    number = x.number;
    below = subst (λ (k : List A). x.number < 2 ^ length k) q x.below;
    is = x.is ∙ ap (λ (k : List A). e * 2 ^ length k + x.number) q;
    left = a ∙ x.left ∙ ap (λ (k : List A). lefts k x.number) q;
    right = b ∙ x.right ∙ ap (λ (k : List A). rights k x.number) q;
  }

  dealt_even : (m d l e : ℕ) → l ≤ m / 2 → m % 2 ≡ 0 → (us : List A) → Dealt d (m / 2) l e (drop 1 us) → Dealt d m (2 * l) e us
  dealt_even m d l e low z [] = dealt_same d m l e [] [] (keep_none (m / 2) ∙ sym (keep_none m)) (keep_none (2 * l) ∙ sym (keep_none l)) (keep_none (m - 2 * l) ∙ sym (keep_none (m / 2 - l)))
  dealt_even m d l e low z (u ∷ us) =
      dealt_same d m l e us (u ∷ us) (sym (keep_even m (m / 2) u us z refl)) (keep_even (2 * l) l u us (omega arith) (omega arith))
      (keep_even (m - 2 * l) (m / 2 - l) u us (omega arith) (omega arith))

  -- one unit more
  module _ (m : ℕ) (odd : m % 2 ≡ 1) (d l e : ℕ) (low : l ≤ m / 2) (u : A) (us : List A) (z : Dealt d (m / 2) l e us) where
    kept : keep m (u ∷ us) ≡ u ∷ keep (m / 2) us
    kept = keep_odd m (m / 2) u us odd refl

    power : 2 ^ length (keep m (u ∷ us)) ≡ 2 * 2 ^ length (keep (m / 2) us)
    power =
        let p = pow-suc 2 (length (keep (m / 2) us)) in
        let q : 2 ^ suc (length (keep (m / 2) us)) ≡ 2 * 2 ^ length (keep (m / 2) us) = omega arith in
        ap (λ (k : List A). 2 ^ length k) kept ∙ q

    -- what is left of the number, in twos
    twos : (q : ℕ) → q * 2 * 2 ^ length (keep (m / 2) us) ≡ q * 2 ^ length (keep m (u ∷ us))
    twos q = mul_assoc q 2 (2 ^ length (keep (m / 2) us)) ∙ ap (λ (x : ℕ). q * x) (sym power)

    dealt_left : e % 2 ≡ 0 → Dealt d m (2 * l + 1) (e / 2) (u ∷ us)
    dealt_left b =
        let y = z.below in
        let h : e ≡ e / 2 * 2 = omega arith in
        let w = ap (λ (k : List A). split_at k z.number) kept ∙ split_left u (keep (m / 2) us) z.number y in
        record {
          number = z.number;
          below = omega (arith, power);
          is = z.is ∙ ap (λ (x : ℕ). x + z.number) (ap (λ (x : ℕ). x * 2 ^ length (keep (m / 2) us)) h ∙ twos (e / 2));
          left = keep_odd (2 * l + 1) l u us (omega arith) (omega arith) ∙ ap (λ (k : List A). u ∷ k) z.left ∙ sym (ap (λ g. g.left) w);
          right = keep_even (m - (2 * l + 1)) (m / 2 - l) u us (omega arith) (omega arith) ∙ z.right ∙ sym (ap (λ g. g.right) w);
        }

    dealt_right : e % 2 ≡ 1 → Dealt d m (2 * l) (e / 2) (u ∷ us)
    dealt_right b =
        let y = z.below in
        let p = 2 ^ length (keep (m / 2) us) in
        let h : e ≡ suc (e / 2 * 2) = omega arith in
        let n : p + z.number - p ≡ z.number = omega arith in
        let w = ap (λ (k : List A). split_at k (p + z.number)) kept ∙ split_right u (keep (m / 2) us) (p + z.number) (omega arith) ∙ ap (λ (k : ℕ). to_right u (split_at (keep (m / 2) us) k)) n in
        let i : e * p ≡ e / 2 * 2 ^ length (keep m (u ∷ us)) + p = ap (λ (x : ℕ). x * p) h ∙ suc-mul (e / 2 * 2) p ∙ ap (λ (x : ℕ). x + p) (twos (e / 2)) in
        let j : e / 2 * 2 ^ length (keep m (u ∷ us)) + p + z.number ≡ e / 2 * 2 ^ length (keep m (u ∷ us)) + (p + z.number) = omega arith in
        record {
          number = p + z.number;
          below = omega (arith, power);
          is = z.is ∙ ap (λ (x : ℕ). x + z.number) i ∙ j;
          left = keep_even (2 * l) l u us (omega arith) (omega arith) ∙ z.left ∙ sym (ap (λ g. g.left) w);
          right = keep_odd (m - 2 * l) (m / 2 - l) u us (omega arith) (omega arith) ∙ ap (λ (k : List A). u ∷ k) z.right ∙ sym (ap (λ g. g.right) w);
        }

  -- where a bit is set, there is a unit for it
  dealt_odd : (m d l e i j : ℕ) → m % 2 ≡ 1 → ((u : A) (us : List A) → Dealt d (m / 2) l e us → Dealt d m i j (u ∷ us)) → (us : List A) → m < 2 ^ length us → Dealt d (m / 2) l e (drop 1 us) → Dealt d m i j us
  dealt_odd m d l e i j o f [] h z = absurd (omega arith)
  dealt_odd m d l e i j o f (u ∷ us) h z = f u us z

  -- a mask's higher bits fit what follows the first unit
  pub half_fits : (m : ℕ) (us : List A) → m < 2 ^ length us → m / 2 < 2 ^ length (drop 1 us)
  half_fits m [] h = omega arith
  half_fits m (u ∷ us) h = let p = pow-suc 2 (length us) in omega arith

pub deals_even : (m : ℕ) (x : Dealing) → x.left ≤ m / 2 → m % 2 ≡ 0 → Deals m x (record { left = 2 * x.left; rest = x.rest })
deals_even m x low e = record { low = omega arith; more = λ d k us h z. dealt_even m d x.left x.rest low e us z }

module _ (m : ℕ) (x : Dealing) (low : x.left ≤ m / 2) (odd : m % 2 ≡ 1) where
  pub deals_left : x.rest % 2 ≡ 0 → Deals m x (record { left = 2 * x.left + 1; rest = x.rest / 2 })
  deals_left b = record {
    low = omega arith;
    more = λ d k us. dealt_odd m d x.left x.rest (2 * x.left + 1) (x.rest / 2) odd (λ v vs z. dealt_left m odd d x.left x.rest low v vs z b) us;
  }

  pub deals_right : x.rest % 2 ≡ 1 → Deals m x (record { left = 2 * x.left; rest = x.rest / 2 })
  deals_right b = record {
    low = omega arith;
    more = λ d k us. dealt_odd m d x.left x.rest (2 * x.left) (x.rest / 2) odd (λ v vs z. dealt_right m odd d x.left x.rest low v vs z b) us;
  }

-- ---- all of them

-- what is left of the number of a split is 0
none_over : (e p n d : ℕ) → d ≡ e * p + n → d < p → n ≡ d
none_over zero p n d i h = omega arith
none_over (suc e) p n d i h = let q = suc-mul e p in absurd (omega arith)

pub dealt_all : (m d l : ℕ) → l ≤ m → ((k : Kind) (us : List (UnitOf k)) → m < 2 ^ length us → (e : ℕ) × Dealt d m l e us) → Spread m d l
dealt_all m d l low f = record {
  low = low;
  left = λ k us h b. let (e, z) = f k us h in z.left ∙ ap (λ (n : ℕ). lefts (keep m us) n) (none_over e (2 ^ length (keep m us)) z.number d z.is b);
  right = λ k us h b. let (e, z) = f k us h in z.right ∙ ap (λ (n : ℕ). rights (keep m us) n) (none_over e (2 ^ length (keep m us)) z.number d z.is b);
}

-- ---- bit by bit, the highest first

fits_past : (i m : ℕ) (k : Kind) (us : List (UnitOf k)) → m < 2 ^ length us → m / 2 ^ i < 2 ^ length (drop i us)
fits_past zero m k us h = omega arith
fits_past (suc i) m k us h =
    let g = half_fits (m / 2 ^ i) (drop i us) (fits_past i m k us h) in
    let e : m / 2 ^ i / 2 ≡ m / 2 ^ suc i = shr-shr m i 1 ∙ ap (λ (n : ℕ). m / 2 ^ n) (add-one i) in
    let f : drop 1 (drop i us) ≡ drop (suc i) us = drop-drop 1 i us ∙ ap (λ (n : ℕ). drop n us) (add-one i) in
    subst (λ (n : ℕ). n < 2 ^ length (drop (suc i) us)) e (subst (λ (l : List (UnitOf k)). m / 2 ^ i / 2 < 2 ^ length l) f g)

-- The units past the first i, of those that m chooses, are dealt out.
pub record Sharing (m d i : ℕ) (x : Dealing) : Type 0 where
  pub low : x.left ≤ m / 2 ^ i
  pub more : (k : Kind) (us : List (UnitOf k)) → m < 2 ^ length us → Dealt d (m / 2 ^ i) x.left x.rest (drop i us)

module _ {m d : ℕ} where
  pub sharing_start : m < 128 → Sharing m d 7 (record { left = 0; rest = d })
  sharing_start h = record { low = omega arith; more = λ k us l. dealt_none d (m / 2 ^ 7) (drop 7 us) (omega arith) }

  module _ {k : ℕ} {x : Dealing} (s : Sharing m d k x) (some : 0 < k) where
    next : k - 1 + 1 ≡ k
    next = omega arith

    pub sharing_low : m < 128 → (m / 2 ^ (k - 1) < 128) × (x.left ≤ m / 2 ^ (k - 1) / 2)
    sharing_low h =
        let e = shr-shr m (k - 1) 1 ∙ ap (λ (n : ℕ). m / 2 ^ n) next in
        (omega (arith, div-le_self m (2 ^ (k - 1))), omega (arith, s.low, e))

    pub sharing_more : {r : Dealing} → Deals (m / 2 ^ (k - 1)) x r → Sharing m d (k - 1) r
    sharing_more h = record {
      low = h.low;
      more = λ l us b.
          let e = shr-shr m (k - 1) 1 ∙ ap (λ (n : ℕ). m / 2 ^ n) next in
          let f = drop-drop 1 (k - 1) us ∙ ap (λ (n : ℕ). drop n us) next in
          h.more d l (drop (k - 1) us) (fits_past (k - 1) m l us b)
          (subst (λ (n : ℕ). Dealt d n x.left x.rest (drop 1 (drop (k - 1) us))) (sym e) (subst (Dealt d (m / 2 ^ k) x.left x.rest) (sym f) (s.more l us b)));
    }

  pub sharing_end : {k : ℕ} {x : Dealing} → Sharing m d k x → k ≤ 0 → Spread m d x.left
  sharing_end {k} {x} s h =
      let z : k ≡ 0 = omega arith in
      let e : m / 2 ^ k ≡ m = ap (λ (n : ℕ). m / 2 ^ n) z ∙ omega arith in
      dealt_all m d x.left (omega (arith, s.low, e)) (λ l us b.
      (x.rest, subst (λ (n : ℕ). Dealt d n x.left x.rest us) e (subst (λ (n : ℕ). Dealt d (m / 2 ^ k) x.left x.rest (drop n us)) z (s.more l us b))))
