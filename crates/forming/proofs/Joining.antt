-- Tasks in any order: two bindings together, in either order; two tasks; and tests before the other parts.
use mathlib.Core.Path.{◌≡◌, refl, sym, ap, subst, ◌∙◌}
use mathlib.Core.Logic.{inl, inr}
use mathlib.Core.List.{List, [], ◌∷◌, ◌++◌}
use Prim.Native.Nat.{ℕ, zero, suc, ◌+◌, ◌/◌, ◌%◌, ◌^◌, ◌≤◌}
use native.Mathlib.Decide.{ℕ_discrete}
use native.Mathlib.Omega.{arith}
use lib.ListN.{length, drop}
use lib.Pow.{shr-shr}
use borrow.Author.Tests.{eq-eqb, ne_eqb}
use Rattle.prelude.specs.Membership.{In}
use Rattle.values.specs.Value.{Value}
use Rattle.patterns.specs.Units.{Shared}
use Rattle.patterns.specs.Members.{Alike}
use Rattle.patterns.specs.Binding.{Cell, free, is, clash, Binding, cell_of, names, merge, together}
use Rattle.patterns.specs.Pattern.{Pattern, matches}
use Rattle.patterns.specs.Relation.{Agree, Joined}
use Rattle.patterns.proofs.Laws.Matched.{in_together, together_in, joined_merge, merge_joined, matched, match_sized}
use Rattle.patterns.proofs.Laws.Together.{together_assoc}
use Rattle.forming.specs.Inner.{inner}
use Rattle.forming.specs.Onward.{Task, matches_all, onward}
use Rattle.forming.specs.Laws.Onward.{alike_same, together_alike}
use Rattle.forming.specs.Pending.{spaces, with_bit, tests_first}
use Rattle.forming.proofs.Reducing.{with_alike}

-- ---- two bindings

agree_swap : (a b c : Cell) → Agree a b c → Agree b a c
agree_swap free free c h = h
agree_swap free (is w) c h = h
agree_swap free clash c h = absurd h
agree_swap (is v) free c h = h
agree_swap (is v) (is w) c h = (sym h.0, h.1 ∙ ap is h.0)
agree_swap (is v) clash c h = absurd h
agree_swap clash b c h = absurd h

joined_swap : (a b c : Binding) → Joined a b c → Joined b a c
joined_swap a b c h = record { sized = h.sized; agreed = λ x l. agree_swap (cell_of a x) (cell_of b x) (cell_of c x) (h.agreed x l) }

-- ---- two tasks

abbrev AllSized : List Binding → Type 0
AllSized xs = (b : Binding) → In b xs → length b ≡ names

together_swap : (xs ys : List Binding) → AllSized xs → AllSized ys → (c : Binding) → In c (together xs ys) → In c (together ys xs)
together_swap xs ys hx hy c i =
    let (a, d, m, n, t, e) = in_together c xs ys i in
    let (f, u) = joined_merge d a (merge a d) (hy d n) (hx a m) (joined_swap a d (merge a d) (merge_joined a d (hx a m) (hy d n) t)) in
    subst (λ (x : Binding). In x (together ys xs)) (sym (e ∙ f)) (together_in d a ys xs n m u)

matches_sized : (p : Pattern) (v : Value) → AllSized (matches p v)
matches_sized p v b i = match_sized p v b (matched p v b i)

all_swap : (t u : Task) (ts : List Task) → Alike (matches_all (t ∷ u ∷ ts)) (matches_all (u ∷ t ∷ ts))
unfolding matches_all
all_swap t u ts c = (λ i. go T U sized_t sized_u c i, λ i. go U T sized_u sized_t c i)
  where
    T : List Binding
    T = matches t.what t.value

    U : List Binding
    U = matches u.what u.value

    M : List Binding
    M = matches_all ts

    sized_t : AllSized T
    sized_t = matches_sized t.what t.value

    sized_u : AllSized U
    sized_u = matches_sized u.what u.value

    go : (xs ys : List Binding) → AllSized xs → AllSized ys → (c : Binding) → In c (together xs (together ys M)) → In c (together ys (together xs M))
    go xs ys hx hy c i =
        subst (In c) (together_assoc ys xs M)
        ((together_alike (together xs ys) (together ys xs) M M (λ d. (λ j. together_swap xs ys hx hy d j, λ j. together_swap ys xs hy hx d j)) (alike_same M) c).0
        (subst (In c) (sym (together_assoc xs ys M)) i))

-- THEOREM: two tasks may change places
pub onward_swap : (t u : Task) (ts : List Task) (b : Binding) → Alike (onward (t ∷ u ∷ ts) b) (onward (u ∷ t ∷ ts) b)
onward_swap t u ts b = with_alike b (matches_all (t ∷ u ∷ ts)) (matches_all (u ∷ t ∷ ts)) (all_swap t u ts)

-- ---- units by their bits

module _ {A : Type 0} where
  pub with_is : (m b : ℕ) (x : A) (xs : List A) → m % 2 ≡ b → with_bit m b (x ∷ xs) ≡ x ∷ with_bit (m / 2) b xs
  unfolding with_bit
  with_is m b x xs e = rw (eq-eqb (m % 2) b e)

  pub with_not : (m b : ℕ) (x : A) (xs : List A) → (m % 2 ≡ b → ⊥) → with_bit m b (x ∷ xs) ≡ with_bit (m / 2) b xs
  unfolding with_bit
  with_not m b x xs e = rw (ne_eqb (m % 2) b e)

  pub no_bits : (xs : List A) → with_bit 0 1 xs ≡ []
  unfolding with_bit
  no_bits [] = refl
  no_bits (x ∷ xs) = no_bits xs

  with_fewer : (m b : ℕ) (x : A) (xs : List A) → length (with_bit (m / 2) b xs) ≤ length (with_bit m b (x ∷ xs))
  with_fewer m b x xs = go (ℕ_discrete (m % 2) b)
    where
      go : Dec (m % 2 ≡ b) → length (with_bit (m / 2) b xs) ≤ length (with_bit m b (x ∷ xs))
      go (yes e) = omega (arith, ap length (with_is m b x xs e))
      go (no e) = omega (arith, ap length (with_not m b x xs e))

  -- those from i on are no more than all
  pub fewer_on : (m b i : ℕ) (xs : List A) → length (with_bit (m / 2 ^ i) b (drop i xs)) ≤ length (with_bit m b xs)
  unfolding with_bit
  fewer_on m b zero xs = let e : m / 1 ≡ m = omega arith in rw e (omega arith)
  fewer_on m b (suc i) [] = omega arith
  fewer_on m b (suc i) (x ∷ xs) =
      let e : m / 2 / 2 ^ i ≡ m / 2 ^ suc i = shr-shr m 1 i ∙ ap (λ (k : ℕ). m / 2 ^ k) (omega arith) in
      omega (arith, fewer_on (m / 2) b i xs, ap (λ (k : ℕ). length (with_bit k b (drop i xs))) e, with_fewer m b x xs)

  -- each has one bit or the other
  pub by_bits : (m : ℕ) (xs : List A) → Shared xs (with_bit m 1 xs) (with_bit m 0 xs)
  unfolding with_bit
  by_bits m [] = (refl, refl)
  by_bits m (x ∷ xs) = go (by_bits (m / 2) xs) (ℕ_discrete (m % 2) 1)
    where
      go : Shared xs (with_bit (m / 2) 1 xs) (with_bit (m / 2) 0 xs) → Dec (m % 2 ≡ 1) → Shared (x ∷ xs) (with_bit m 1 (x ∷ xs)) (with_bit m 0 (x ∷ xs))
      go h (yes e) = inl (with_bit (m / 2) 1 xs, with_is m 1 x xs e, subst (Shared xs (with_bit (m / 2) 1 xs)) (sym (with_not m 0 x xs (λ q. absurd (omega arith)))) h)
      go h (no e) = inr (with_bit (m / 2) 0 xs, with_is m 0 x xs (omega arith), subst (λ (l : List A). Shared xs l (with_bit (m / 2) 0 xs)) (sym (with_not m 1 x xs e)) h)

  pub shared_length : (xs ls rs : List A) → Shared xs ls rs → length ls + length rs ≡ length xs
  shared_length [] ls rs (e, f) = omega (arith, ap length e, ap length f)
  shared_length (x ∷ xs) ls rs (inl (ms, e, h)) = omega (arith, ap length e, shared_length xs ms rs h)
  shared_length (x ∷ xs) ls rs (inr (ms, e, h)) = omega (arith, ap length e, shared_length xs ls ms h)

-- ---- some tasks before the others

alike_then : (xs ys zs : List Binding) → Alike xs ys → Alike ys zs → Alike xs zs
alike_then xs ys zs g h c = (λ i. (h c).0 ((g c).0 i), λ i. (g c).1 ((h c).1 i))

behind : (t : Task) (us ts : List Task) → Alike (matches_all us) (matches_all ts) → Alike (matches_all (t ∷ us)) (matches_all (t ∷ ts))
unfolding matches_all
behind t us ts h = together_alike (matches t.what t.value) (matches t.what t.value) (matches_all us) (matches_all ts) (alike_same (matches t.what t.value)) h

-- a task goes behind others
moved : (t : Task) (us ts : List Task) → Alike (matches_all (t ∷ (us ++ ts))) (matches_all (us ++ t ∷ ts))
moved t [] ts = alike_same (matches_all (t ∷ ts))
moved t (u ∷ us) ts = alike_then (matches_all (t ∷ u ∷ (us ++ ts))) (matches_all (u ∷ t ∷ (us ++ ts))) (matches_all (u ∷ (us ++ t ∷ ts))) (all_swap t u (us ++ ts)) (behind u (t ∷ (us ++ ts)) (us ++ t ∷ ts) (moved t us ts))

shared_alike : (zs us ws ts : List Task) → Shared zs us ws → Alike (matches_all (zs ++ ts)) (matches_all (us ++ (ws ++ ts)))
shared_alike [] us ws ts (e, f) = rw (e, f) (alike_same (matches_all ts))
shared_alike (z ∷ zs) us ws ts (inl (ms, e, h)) = rw e (behind z (zs ++ ts) (ms ++ (ws ++ ts)) (shared_alike zs ms ws ts h))
shared_alike (z ∷ zs) us ws ts (inr (ms, e, h)) =
    rw e
    (alike_then (matches_all (z ∷ (zs ++ ts))) (matches_all (z ∷ (us ++ (ms ++ ts)))) (matches_all (us ++ z ∷ (ms ++ ts))) (behind z (zs ++ ts) (us ++ (ms ++ ts)) (shared_alike zs us ms ts h)) (moved z us (ms ++ ts)))

-- THEOREM: tests may go first
pub tests_alike : (m : ℕ) (zs ts : List Task) (b : Binding) → Alike (onward (zs ++ ts) b) (onward (tests_first m zs ts) b)
tests_alike m zs ts b = with_alike b (matches_all (zs ++ ts)) (matches_all (tests_first m zs ts)) (shared_alike zs (with_bit m 1 zs) (with_bit m 0 zs) ts (by_bits m zs))

spaces_behind : (us ts : List Task) (z : Task) → spaces (us ++ z ∷ ts) ≡ inner z.what + spaces (us ++ ts)
spaces_behind [] ts z = refl
spaces_behind (u ∷ us) ts z = omega (arith, spaces_behind us ts z)

shared_spaces : (zs us ws ts : List Task) → Shared zs us ws → spaces (us ++ (ws ++ ts)) ≡ spaces (zs ++ ts)
shared_spaces [] us ws ts (e, f) = rw (e, f) refl
shared_spaces (z ∷ zs) us ws ts (inl (ms, e, h)) = rw e (omega (arith, shared_spaces zs ms ws ts h))
shared_spaces (z ∷ zs) us ws ts (inr (ms, e, h)) = rw e (omega (arith, spaces_behind us (ms ++ ts) z, shared_spaces zs us ms ts h))

pub tests_room : (m : ℕ) (zs ts : List Task) → spaces (tests_first m zs ts) ≡ spaces (zs ++ ts)
tests_room m zs ts = shared_spaces zs (with_bit m 1 zs) (with_bit m 0 zs) ts (by_bits m zs)
