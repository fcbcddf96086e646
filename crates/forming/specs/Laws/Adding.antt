-- Entering bindings one by one, in order, once: it is the sorted list of all.
use Rattle.std.specs.Prelude.{◌≡◌, refl, ◌⊎◌, List, [], ◌∷◌, ◌++◌, ℕ, zero, suc, ◌≤◌, ◌<◌, length, get_or, take, drop}
use Rattle.std.proofs.Common.{sym, ap, ◌∙◌, inl, inr, ⊎_elim, arith}
use Rattle.prelude.specs.Membership.{In}
use Rattle.std.specs.declared.cmp.Ordering.{Ordering}
use Rattle.std.specs.declared.cmp.Ordering.TheVariants.{Less, Equal, Greater}
use Rattle.values.specs.Items.{in_order}
use Rattle.patterns.specs.Ways.{gather}
use Rattle.patterns.specs.Members.{Alike}
use Rattle.patterns.specs.Binding.{Binding, nothing, order_bindings, place, sorted}
use Rattle.patterns.proofs.Laws.Ordered.{Rising, before_in, bindings_refl, bindings_flip, sorted_rising, sorted_in, in_sorted, rising_unique}
use Rattle.forming.specs.Adding.{adding}

pub adding_append : (xs ys bs : List Binding) → adding (xs ++ ys) bs ≡ adding ys (adding xs bs)
unfolding adding
adding_append [] ys bs = refl
adding_append (x ∷ xs) ys bs = adding_append xs ys (place x bs)

pub adding_one : (b : Binding) (bs : List Binding) → adding (b ∷ []) bs ≡ place b bs
unfolding adding
adding_one b bs = refl

pub adding_none : (bs : List Binding) → adding [] bs ≡ bs
unfolding adding
adding_none bs = refl

pub adding_more : {A : Type 0} (x : A) (xs : List A) (f : A → List Binding) (bs : List Binding) → adding (gather (x ∷ xs) f) bs ≡ adding (gather xs f) (adding (f x) bs)
unfolding gather
adding_more x xs f bs = adding_append (f x) (gather xs f) bs

place_longer : (b : Binding) (cs : List Binding) → length cs ≤ length (place b cs)
unfolding place
place_longer b [] = omega arith
place_longer b (c ∷ cs) = go (order_bindings b c) (place_longer b cs)
  where
    go : (o : Ordering) → length cs ≤ length (place b cs) → suc (length cs) ≤ length (in_order o (b ∷ c ∷ cs) (c ∷ cs) (c ∷ place b cs))
    go Less h = omega arith
    go Equal h = omega arith
    go Greater h = omega arith

pub adding_longer : (xs bs : List Binding) → length bs ≤ length (adding xs bs)
unfolding adding
adding_longer [] bs = omega arith
adding_longer (x ∷ xs) bs = omega (arith, place_longer x bs, adding_longer xs (place x bs))

back : List Binding → List Binding → List Binding
back [] bs = bs
back (x ∷ xs) bs = back xs (x ∷ bs)

adding_back : (xs bs : List Binding) → adding xs (sorted bs) ≡ sorted (back xs bs)
unfolding adding sorted back
adding_back [] bs = refl
adding_back (x ∷ xs) bs = adding_back xs (x ∷ bs)

in_back : (c : Binding) (xs bs : List Binding) → In c (back xs bs) → In c xs ⊎ In c bs
unfolding back
in_back c [] bs i = inr i
in_back c (x ∷ xs) bs i = go (in_back c xs (x ∷ bs) i)
  where
    go : In c xs ⊎ In c (x ∷ bs) → In c (x ∷ xs) ⊎ In c bs
    go (inl j) = inl (inr j)
    go (inr (inl e)) = inl (inl e)
    go (inr (inr j)) = inr j

back_in : (c : Binding) (xs bs : List Binding) → In c xs ⊎ In c bs → In c (back xs bs)
unfolding back
back_in c [] bs (inl i) = absurd i
back_in c [] bs (inr i) = i
back_in c (x ∷ xs) bs (inl (inl e)) = back_in c xs (x ∷ bs) (inr (inl e))
back_in c (x ∷ xs) bs (inl (inr i)) = back_in c xs (x ∷ bs) (inl i)
back_in c (x ∷ xs) bs (inr i) = back_in c xs (x ∷ bs) (inr (inr i))

none_sorted : sorted [] ≡ []
unfolding sorted
none_sorted = refl

-- THEOREM: entered one by one from none, they are the distinct ones in order
pub adding_sorted : (xs : List Binding) → adding xs [] ≡ sorted xs
adding_sorted xs =
    ap (adding xs) (sym none_sorted)
    ∙ adding_back xs []
    ∙ rising_unique (sorted (back xs [])) (sorted xs) (sorted_rising (back xs [])) (sorted_rising xs)
    (λ c i. sorted_in c xs (⊎_elim (λ j. j) (λ j. absurd j) (in_back c xs [] (in_sorted c (back xs []) i))))
    (λ c i. sorted_in c (back xs []) (back_in c xs [] (inl (in_sorted c xs i))))

-- THEOREM: a list in order stays in order
pub placed_sorted : (b : Binding) (bs cs : List Binding) → bs ≡ sorted cs → place b bs ≡ sorted (b ∷ cs)
unfolding sorted
placed_sorted b bs cs e = ap (place b) e

pub flip_higher : (a b : Binding) → order_bindings a b ≡ Less → order_bindings b a ≡ Greater
flip_higher a b e = bindings_flip a b ∙ rw e

pub place_there : (b : Binding) (bs : List Binding) → Rising bs → In b bs → place b bs ≡ bs
unfolding place
place_there b [] h i = absurd i
place_there b (c ∷ cs) h (inl e) = let o : order_bindings b c ≡ Equal = ap (order_bindings b) (sym e) ∙ bindings_refl b in rw o
place_there b (c ∷ cs) h (inr i) =
    let o = flip_higher c b (before_in c cs b h.0 i) in
    rw o (ap (λ (l : List Binding). c ∷ l) (place_there b cs h.1 i))

-- Those before k are lower than b, those from k on are higher.
pub record Parted (b : Binding) (bs : List Binding) (k : ℕ) : Type 0 where
  pub within : k ≤ length bs
  pub before : (j : ℕ) → j < k → order_bindings b (get_or bs j nothing) ≡ Greater
  pub from : (j : ℕ) → k ≤ j → j < length bs → order_bindings b (get_or bs j nothing) ≡ Less

pub place_parted : (b : Binding) (bs : List Binding) (k : ℕ) → Parted b bs k → place b bs ≡ take k bs ++ (b ∷ drop k bs)
unfolding place
place_parted b [] zero h = refl
place_parted b [] (suc k) h = absurd (omega (arith, h.within))
place_parted b (c ∷ cs) zero h = rw (h.from 0 (omega arith) (omega arith))
place_parted b (c ∷ cs) (suc k) h =
    rw (h.before 0 (omega arith))
    (ap (λ (l : List Binding). c ∷ l) (place_parted b cs k (record { within = omega (arith, h.within); before = λ j l. h.before (suc j) (omega arith); from = λ j l m. h.from (suc j) (omega arith) (omega arith) })))

-- THEOREM: what is entered depends on what is among the list alone
pub adding_alike : (xs ys bs cs : List Binding) → bs ≡ sorted cs → Alike xs ys → adding xs bs ≡ adding ys bs
adding_alike xs ys bs cs e h =
    ap (adding xs) e ∙ adding_back xs cs
    ∙ rising_unique (sorted (back xs cs)) (sorted (back ys cs)) (sorted_rising (back xs cs)) (sorted_rising (back ys cs))
    (λ c i. sorted_in c (back ys cs) (back_in c ys cs (⊎_elim (λ j. inl ((h c).0 j)) (λ j. inr j) (in_back c xs cs (in_sorted c (back xs cs) i)))))
    (λ c i. sorted_in c (back xs cs) (back_in c xs cs (⊎_elim (λ j. inl ((h c).1 j)) (λ j. inr j) (in_back c ys cs (in_sorted c (back ys cs) i)))))
    ∙ sym (adding_back ys cs) ∙ ap (adding ys) (sym e)

-- entering again what is there changes nothing
pub adding_there : (xs bs : List Binding) → Rising bs → ((c : Binding) → In c xs → In c bs) → adding xs bs ≡ bs
unfolding adding
adding_there [] bs r h = refl
adding_there (x ∷ xs) bs r h = ap (adding xs) (place_there x bs r (h x (inl refl))) ∙ adding_there xs bs r (λ c i. h c (inr i))
