-- Laws of units that the bits of a number choose, and of the splits, the proper splits and the cuts by their number.
use Rattle.std.specs.Prelude.{◌≡◌, Bool, eqb, ltb, length, get_or, take, drop}
use Rattle.std.proofs.Math.Path.{refl, sym, ap, ap₂}
use Rattle.std.proofs.Common.{◌∙◌, inl, inr, get_or-append-add, eq-eqb, ne_eqb, ltb-true, ltb-false}
use Rattle.std.proofs.Math.Bool.{true, false, cond}
use Rattle.std.proofs.Math.Logic.{⊎_elim}
use mathlib.Core.List.{List, [], ◌∷◌, ◌++◌, map, map-append, append_assoc}
use Prim.Native.Nat.{ℕ, zero, suc, ◌+◌, ◌*◌, ◌-◌, ◌/◌, ◌%◌, ◌^◌, ◌≤◌, ◌<◌}
use Rattle.std.proofs.Math.Nat.{pow-suc}
use native.Mathlib.Omega.{arith}
use Rattle.std.specs.Int.Count.{ones, ones_step, ones-ones}
use Rattle.std.proofs.Math.ListN.{length-append, length-map, get_or-append}
use Rattle.prelude.specs.Membership.{In}
use Rattle.prelude.proofs.Lists.{map_at}
use Rattle.prelude.proofs.Membership.{in_joined, in_map}
use Rattle.patterns.specs.Ways.{Halves, halves, to_left, to_right, splits, is_proper, proper, proper_splits, cuts}
use Rattle.patterns.specs.Units.{NonEmpty}
use Rattle.patterns.proofs.Laws.Units.{proper_halves}
use Rattle.parts.specs.Chosen.{keep, every_one, chosen, split_at}

pub power_pos : (n : ℕ) → 0 < 2 ^ n
power_pos zero = omega arith
power_pos (suc n) = let h = power_pos n in rw pow-suc (omega arith)

module _ {A : Type 0} where
  -- ---- laws of what is kept

  pub keep_zero : (xs : List A) → keep 0 xs ≡ []
  unfolding keep
  keep_zero [] = refl
  keep_zero (x ∷ xs) = keep_zero xs

  pub keep_none : (m : ℕ) → keep {A = A} m [] ≡ []
  unfolding keep
  keep_none m = refl

  pub keep_odd : (d e : ℕ) (x : A) (xs : List A) → d % 2 ≡ 1 → d / 2 ≡ e → keep d (x ∷ xs) ≡ x ∷ keep e xs
  unfolding keep
  keep_odd d e x xs h g = rw (eq-eqb (d % 2) 1 h) (ap (λ (k : ℕ). x ∷ keep k xs) g)

  pub keep_even : (d e : ℕ) (x : A) (xs : List A) → d % 2 ≡ 0 → d / 2 ≡ e → keep d (x ∷ xs) ≡ keep e xs
  unfolding keep
  keep_even d e x xs h g = rw (ne_eqb (d % 2) 1 (λ q. omega arith)) (ap (λ (k : ℕ). keep k xs) g)

  -- all ones keep all
  pub keep_full : (xs : List A) (m : ℕ) → m + 1 ≡ 2 ^ length xs → keep m xs ≡ xs
  keep_full [] m e = keep_none m
  keep_full (x ∷ xs) m e =
      let f : m + 1 ≡ 2 ^ length xs * 2 = e ∙ pow-suc 2 (length xs) in
      let p = power_pos (length xs) in
      let h : m % 2 ≡ 1 = omega arith in
      let g : m / 2 + 1 ≡ 2 ^ length xs = omega arith in
      keep_odd m (m / 2) x xs h refl ∙ ap (λ (l : List A). x ∷ l) (keep_full xs (m / 2) g)

  -- a mask chooses as many as it has bits that are set
  pub kept_length : (m : ℕ) (xs : List A) → m < 2 ^ length xs → length (keep m xs) ≡ ones m
  kept_length m [] h = let e : m ≡ 0 = omega arith in ap length (keep_none m) ∙ sym (ap ones e ∙ ones-ones 0)
  kept_length m (x ∷ xs) h = go (kept_length (m / 2) xs (omega (arith, pow-suc 2 (length xs)))) (m % 2) refl (omega arith)
    where
      go : length (keep (m / 2) xs) ≡ ones (m / 2) → (b : ℕ) → m % 2 ≡ b → b < 2 → length (keep m (x ∷ xs)) ≡ ones m
      go l zero e q = ap length (keep_even m (m / 2) x xs e refl) ∙ omega (arith, l, ones_step m)
      go l (suc zero) e q = ap length (keep_odd m (m / 2) x xs e refl) ∙ omega (arith, l, ones_step m)
      go l (suc (suc b)) e q = absurd (omega arith)

  -- ---- laws of what is chosen

  pub chosen_all : (xs : List A) → chosen every_one xs ≡ xs
  unfolding chosen
  chosen_all xs = refl

  pub chosen_keep : (m : ℕ) (xs : List A) → (m ≡ every_one → ⊥) → chosen m xs ≡ keep m xs
  unfolding chosen
  chosen_keep m xs f = rw (ne_eqb m every_one f)

  pub chosen_none : (m : ℕ) → chosen {A = A} m [] ≡ []
  unfolding chosen keep
  chosen_none m = go (eqb m every_one)
    where
      go : (t : Bool) → cond {A = List A} t [] [] ≡ []
      go true = refl
      go false = refl

  -- ---- splits and cuts by number

  pub splits_length : (xs : List A) → length (splits xs) ≡ 2 ^ length xs
  unfolding splits
  splits_length [] = refl
  splits_length (x ∷ xs) =
      let l = length-append (map (to_left x) (splits xs)) (map (to_right x) (splits xs)) in
      let a = length-map (splits xs) (to_left x) in
      let b = length-map (splits xs) (to_right x) in
      let n = splits_length xs in
      let p = pow-suc 2 (length xs) in
      omega arith

  pub cuts_length : (xs : List A) → length (cuts xs) ≡ suc (length xs)
  unfolding cuts
  cuts_length [] = refl
  cuts_length (x ∷ xs) = ap suc (length-map (cuts xs) (to_left x) ∙ cuts_length xs)

-- THEOREM: the d-th of the splits
pub nth_split : {A : Type 0} (xs : List A) (d : ℕ) (h : Halves A) → d < 2 ^ length xs → get_or (splits xs) d h ≡ split_at xs d
unfolding splits split_at
nth_split [] zero h lt = refl
nth_split [] (suc d) h lt = absurd (omega arith)
nth_split {A} (x ∷ xs) d h lt = go (ltb d (2 ^ length xs)) refl (λ e l. nth_split xs e h l)
  where
    ls : List (Halves A)
    ls = map (to_left x) (splits xs)

    rs : List (Halves A)
    rs = map (to_right x) (splits xs)

    n : length ls ≡ 2 ^ length xs
    n = length-map (splits xs) (to_left x) ∙ splits_length xs

    go : (t : Bool) → ltb d (2 ^ length xs) ≡ t → ((e : ℕ) → e < 2 ^ length xs → get_or (splits xs) e h ≡ split_at xs e)
        → get_or (ls ++ rs) d h ≡ cond t (to_left x (split_at xs d)) (to_right x (split_at xs (d - 2 ^ length xs)))
    go true e rec =
        let l = ltb-true d (2 ^ length xs) e in
        let m = splits_length xs in
        get_or-append ls rs h d (omega (arith, n)) ∙ map_at (to_left x) (splits xs) d h h (omega arith) ∙ ap (to_left x) (rec d l)
    go false e rec =
        let l = ltb-false d (2 ^ length xs) e in
        let m = splits_length xs in
        let p = pow-suc 2 (length xs) in
        let q : length ls + (d - 2 ^ length xs) ≡ d = omega (arith, n) in
        let r : d - 2 ^ length xs < 2 ^ length xs = omega arith in
        ap (λ (k : ℕ). get_or (ls ++ rs) k h) (sym q)
        ∙ get_or-append-add ls rs (d - 2 ^ length xs) h
        ∙ map_at (to_right x) (splits xs) (d - 2 ^ length xs) h h (omega arith)
        ∙ ap (to_right x) (rec (d - 2 ^ length xs) r)

-- ---- proper splits by number

module _ {A : Type 0} where
  -- the first split has nothing on the right, every other has something there
  first_split : (xs : List A) → (hs : List (Halves A)) × (splits xs ≡ halves xs [] ∷ hs) × ((h : Halves A) → In h hs → NonEmpty h.right)
  unfolding splits
  first_split [] = ([], refl, λ h i. absurd i)
  first_split (x ∷ xs) =
      let (hs, e, f) = first_split xs in (
        map (to_left x) hs ++ map (to_right x) (splits xs),
        ap (λ (l : List (Halves A)). map (to_left x) l ++ map (to_right x) (splits xs)) e,
        λ h i.
            ⊎_elim
            (λ j. let (g, k, d) = in_map h (to_left x) hs j in rw d (f g k))
            (λ j. let (g, k, d) = in_map h (to_right x) (splits xs) j in rw d (omega arith))
            (in_joined h (map (to_left x) hs) (map (to_right x) (splits xs)) i),
      )

  -- the last split has nothing on the left, every other has something there
  last_split : (xs : List A) → (hs : List (Halves A)) × (splits xs ≡ hs ++ halves [] xs ∷ []) × ((h : Halves A) → In h hs → NonEmpty h.left)
  unfolding splits
  last_split [] = ([], refl, λ h i. absurd i)
  last_split (x ∷ xs) =
      let (hs, e, f) = last_split xs in
      let ls = map (to_left x) (splits xs) in (
        ls ++ map (to_right x) hs,
        ap (λ (l : List (Halves A)). ls ++ map (to_right x) l) e ∙ ap (λ (l : List (Halves A)). ls ++ l) (map-append (to_right x) hs (halves [] xs ∷ [])) ∙ sym (append_assoc ls (map (to_right x) hs) (halves [] (x ∷ xs) ∷ [])),
        λ h i.
            ⊎_elim
            (λ j. let (g, k, d) = in_map h (to_left x) (splits xs) j in rw d (omega arith))
            (λ j. let (g, k, d) = in_map h (to_right x) hs j in rw d (f g k))
            (in_joined h ls (map (to_right x) hs) i),
      )

  -- all but the last are proper
  proper_before : (hs : List (Halves A)) (l : Halves A) → ((h : Halves A) → In h hs → is_proper h ≡ true) → is_proper l ≡ false → proper (hs ++ l ∷ []) ≡ hs
  unfolding proper
  proper_before [] l f e = rw e
  proper_before (h ∷ hs) l f e = rw (f h (inl refl)) (ap (λ (l : List (Halves A)). h ∷ l) (proper_before hs l (λ g i. f g (inr i)) e))

  -- THEOREM: the splits of some units are the one with all on the left, the proper ones, and the one with all on the right
  pub splits_proper : (xs : List A) → NonEmpty xs → splits xs ≡ halves xs [] ∷ (proper_splits xs ++ halves [] xs ∷ [])
  unfolding splits proper
  splits_proper [] n = absurd (omega arith)
  splits_proper (x ∷ xs) n =
      let (ls, e, f) = first_split xs in
      let (rs, d, g) = last_split xs in
      let between = map (to_left x) ls ++ map (to_right x) rs in
      let all : splits (x ∷ xs) ≡ halves (x ∷ xs) [] ∷ (between ++ halves [] (x ∷ xs) ∷ []) =
      ap₂ (λ (l r : List (Halves A)). map (to_left x) l ++ map (to_right x) r) e d
      ∙ ap (λ (r : List (Halves A)). map (to_left x) (halves xs [] ∷ ls) ++ r) (map-append (to_right x) rs (halves [] xs ∷ []))
      ∙ sym (append_assoc (map (to_left x) (halves xs [] ∷ ls)) (map (to_right x) rs) (halves [] (x ∷ xs) ∷ [])) in
      let those : proper_splits (x ∷ xs) ≡ between =
      ap proper all
      ∙ proper_before between (halves [] (x ∷ xs)) (λ h i.
      (proper_halves h).1
      (⊎_elim
      (λ j. let (k, u, q) = in_map h (to_left x) ls j in rw q (omega arith, f k u))
      (λ j. let (k, u, q) = in_map h (to_right x) rs j in rw q (g k u, omega arith))
      (in_joined h (map (to_left x) ls) (map (to_right x) rs) i)))
      refl in
      all ∙ ap (λ (l : List (Halves A)). halves (x ∷ xs) [] ∷ (l ++ halves [] (x ∷ xs) ∷ [])) (sym those)

  -- below two units none is proper
  pub proper_none : (xs : List A) → length xs < 2 → proper_splits xs ≡ []
  unfolding splits proper
  proper_none [] l = refl
  proper_none (x ∷ []) l = refl
  proper_none (x ∷ y ∷ xs) l = absurd (omega arith)

  -- all but two are proper
  pub proper_length : (xs : List A) → length (proper_splits xs) ≡ 2 ^ length xs - 2
  proper_length [] = ap length (proper_none [] (omega arith))
  proper_length (x ∷ xs) =
      let e = ap length (splits_proper (x ∷ xs) (omega arith)) in
      let l = length-append (proper_splits (x ∷ xs)) (halves [] (x ∷ xs) ∷ []) in
      let n = splits_length (x ∷ xs) in
      omega arith

-- THEOREM: the d-th of the proper splits is the next after the d-th of the splits
pub nth_proper : {A : Type 0} (xs : List A) (d : ℕ) (h : Halves A) → suc d + 1 < 2 ^ length xs → get_or (proper_splits xs) d h ≡ split_at xs (suc d)
nth_proper [] d h l = absurd (omega arith)
nth_proper {A} (x ∷ xs) d h l =
    let n = proper_length (x ∷ xs) in
    sym (get_or-append (proper_splits (x ∷ xs)) (halves [] (x ∷ xs) ∷ []) h d (omega arith))
    ∙ ap (λ (hs : List (Halves A)). get_or hs (suc d) h) (sym (splits_proper (x ∷ xs) (omega arith)))
    ∙ nth_split (x ∷ xs) (suc d) h (omega arith)

-- THEOREM: the k-th of the cuts
pub nth_cut : {A : Type 0} (xs : List A) (k : ℕ) (h : Halves A) → k ≤ length xs → get_or (cuts xs) k h ≡ halves (take k xs) (drop k xs)
unfolding cuts
nth_cut [] zero h le = refl
nth_cut [] (suc k) h le = absurd (omega arith)
nth_cut (x ∷ xs) zero h le = refl
nth_cut (x ∷ xs) (suc k) h le =
    let n = cuts_length xs in
    map_at (to_left x) (cuts xs) k h h (omega arith) ∙ ap (to_left x) (nth_cut xs k h (omega arith))
