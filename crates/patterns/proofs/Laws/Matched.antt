-- `matches` lists exactly the bindings with which a pattern matches a value; a binder's bindings are exactly those of some value, in order.
use Rattle.std.specs.Prelude.{◌≡◌, refl, Bool, true, false, cond, ◌⊎◌, ◌↔◌, List, [], ◌∷◌, ℕ, zero, suc, ◌≤◌, ◌<◌, eqb, length}
use Rattle.std.proofs.Common.{sym, ap, ap₂, subst, ◌∙◌, inl, inr, arith, length-set, eq-eqb, eqb-true}
use Rattle.std.proofs.Math.Option.{Option, none as absent, some}
use Rattle.prelude.proofs.Absurd.{impossible}
use Rattle.prelude.specs.Membership.{In}
use Rattle.prelude.proofs.Membership.{in_one, in_left, in_right, in_joined, in_picked, picked_in, map_in, in_map}
use Rattle.values.specs.Value.{Kind, set, sequence, map as mapping, tuple, number, Value, boolean, integer, quote, collection, Items, none, more}
use Rattle.values.specs.Items.{same}
use Rattle.values.proofs.Order.{number_inj, same_true, true_same}
use Rattle.patterns.specs.Ways.{gather, Halves, halves, proper_splits, orders}
use Rattle.patterns.proofs.Laws.Members.{in_gather, gather_in}
use Rattle.patterns.proofs.Laws.Units.{shared_length, in_proper, in_cuts, in_orders}
use Rattle.patterns.specs.Binding.{Cell, free, is, clash, Binding, names, nothing, only, cell_of, agree, merge, consistent, with_each, together}
use Rattle.patterns.specs.Pattern.{Pattern, name, any, literal, each, halved, Patterns, nil, cons, parts, list_of, items_of, contents, entries_of, units_of, items_in, halves_in, is_unordered, arrangements, divisions, met, split, left_of, right_of, matches, match_each}
use Rattle.patterns.specs.Binder.{bindings}
use Rattle.patterns.proofs.Laws.Ordered.{sorted_in, in_sorted}
use Rattle.patterns.specs.Relation.{Agree, Joined, Arranged, Divided, Matches, MatchesEach}
use Rattle.patterns.proofs.Laws.Collected.{divided_units}

-- ---- bindings have a cell for each name

pub nothing_sized : length nothing ≡ names
nothing_sized = refl

pub only_sized : (x : ℕ) (v : Value) → length (only x v) ≡ names
only_sized x v = length-set nothing x (is v)

pub merge_sized : (a b : Binding) → length a ≡ length b → length (merge a b) ≡ length a
unfolding merge
merge_sized [] b e = sym e
merge_sized (x ∷ a) [] e = refl
merge_sized (x ∷ a) (y ∷ b) e = let d : length a ≡ length b = omega arith in ap suc (merge_sized a b d)

-- ---- two bindings together

-- cells that agree: what `agree` gives, and that is no clash
agree_is : (x y z : Cell) → Agree x y z → (z ≡ agree x y) × ((b : Binding) → consistent (agree x y ∷ b) ≡ consistent b)
unfolding consistent
agree_is free free z h = (h, λ b. refl)
agree_is free (is w) z h = (h, λ b. refl)
agree_is free clash z h = absurd h
agree_is (is v) free z h = (h, λ b. refl)
agree_is (is v) (is w) z h = rw (true_same h.0) (h.1, λ b. refl)
agree_is (is v) clash z h = absurd h
agree_is clash y z h = absurd h

-- and where that is no clash, they agree
is_agree : (x y : Cell) (b : Binding) → consistent (agree x y ∷ b) ≡ true → Agree x y (agree x y) × (consistent b ≡ true)
unfolding consistent
is_agree free free b h = (refl, h)
is_agree free (is w) b h = (refl, h)
is_agree free clash b h = impossible cc
is_agree (is v) free b h = (refl, h)
is_agree (is v) (is w) b h = go (same v w) refl h
  where
    go : (t : Bool) → same v w ≡ t → consistent (cond t (is v) clash ∷ b) ≡ true → ((v ≡ w) × (cond t (is v) clash ≡ is v)) × (consistent b ≡ true)
    go true e h = ((same_true v w e, refl), h)
    go false e h = impossible cc
is_agree (is v) clash b h = impossible cc
is_agree clash y b h = impossible cc

agreed_merge : (a b c : Binding) → length b ≡ length a → length c ≡ length a → ((x : ℕ) → x < length a → Agree (cell_of a x) (cell_of b x) (cell_of c x))
    → (c ≡ merge a b) × (consistent (merge a b) ≡ true)
unfolding merge consistent
agreed_merge [] [] [] p q h = (refl, refl)
agreed_merge [] [] (z ∷ c) p q h = absurd (omega arith)
agreed_merge [] (y ∷ b) c p q h = absurd (omega arith)
agreed_merge (x ∷ a) [] c p q h = absurd (omega arith)
agreed_merge (x ∷ a) (y ∷ b) [] p q h = absurd (omega arith)
agreed_merge (x ∷ a) (y ∷ b) (z ∷ c) p q h =
    let (e, f) = agree_is x y z (h 0 (omega arith)) in
    let (d, g) = agreed_merge a b c (omega arith) (omega arith) (λ n l. h (suc n) (omega arith)) in
    (ap₂ ◌∷◌ e d, f (merge a b) ∙ g)

merge_agreed : (a b : Binding) → length b ≡ length a → consistent (merge a b) ≡ true → (x : ℕ) → x < length a → Agree (cell_of a x) (cell_of b x) (cell_of (merge a b) x)
unfolding merge
merge_agreed [] b p h n l = absurd (omega arith)
merge_agreed (x ∷ a) [] p h n l = absurd (omega arith)
merge_agreed (x ∷ a) (y ∷ b) p h zero l = (is_agree x y (merge a b) h).0
merge_agreed (x ∷ a) (y ∷ b) p h (suc n) l = merge_agreed a b (omega arith) (is_agree x y (merge a b) h).1 n (omega arith)

-- THEOREM: bindings are joined exactly when the third is the merged one, and that is consistent
pub joined_merge : (a b c : Binding) → length a ≡ names → length b ≡ names → Joined a b c → (c ≡ merge a b) × (consistent (merge a b) ≡ true)
joined_merge a b c p q h = agreed_merge a b c (q ∙ sym p) (h.sized ∙ sym p) (λ x l. h.agreed x (omega arith))

pub merge_joined : (a b : Binding) → length a ≡ names → length b ≡ names → consistent (merge a b) ≡ true → Joined a b (merge a b)
merge_joined a b p q h = record { sized = merge_sized a b (p ∙ sym q) ∙ p; agreed = λ x l. merge_agreed a b (q ∙ sym p) h x (omega arith) }

-- ---- every one with every one

in_with_each : (c a : Binding) (bs : List Binding) → In c (with_each a bs) → (b : Binding) × In b bs × (consistent (merge a b) ≡ true) × (c ≡ merge a b)
unfolding with_each
in_with_each c a [] i = absurd i
in_with_each c a (b ∷ bs) i = go (consistent (merge a b)) refl i (λ j. in_with_each c a bs j)
  where
    go : (t : Bool) → consistent (merge a b) ≡ t → In c (cond t (merge a b ∷ with_each a bs) (with_each a bs))
        → (In c (with_each a bs) → (d : Binding) × In d bs × (consistent (merge a d) ≡ true) × (c ≡ merge a d))
        → (d : Binding) × In d (b ∷ bs) × (consistent (merge a d) ≡ true) × (c ≡ merge a d)
    go true e (inl f) rest = (b, inl refl, e, f)
    go true e (inr j) rest = let (d, k, f, g) = rest j in (d, inr k, f, g)
    go false e j rest = let (d, k, f, g) = rest j in (d, inr k, f, g)

with_each_in : (a b : Binding) (bs : List Binding) → In b bs → consistent (merge a b) ≡ true → In (merge a b) (with_each a bs)
unfolding with_each
with_each_in a b [] i e = absurd i
with_each_in a b (d ∷ bs) (inl p) e =
    let f : consistent (merge a d) ≡ true = ap (λ (w : Binding). consistent (merge a w)) (sym p) ∙ e in
    rw f (inl (ap (merge a) p))
with_each_in a b (d ∷ bs) (inr i) e = go (consistent (merge a d)) (with_each_in a b bs i e)
  where
    go : (t : Bool) → In (merge a b) (with_each a bs) → In (merge a b) (cond t (merge a d ∷ with_each a bs) (with_each a bs))
    go true j = inr j
    go false j = j

pub in_together : (c : Binding) (cs bs : List Binding) → In c (together cs bs) → (a b : Binding) × In a cs × In b bs × (consistent (merge a b) ≡ true) × (c ≡ merge a b)
unfolding together
in_together c [] bs i = absurd i
in_together c (a ∷ cs) bs i = go (in_joined c (with_each a bs) (together cs bs) i) (λ j. in_together c cs bs j)
  where
    go : In c (with_each a bs) ⊎ In c (together cs bs)
        → (In c (together cs bs) → (d b : Binding) × In d cs × In b bs × (consistent (merge d b) ≡ true) × (c ≡ merge d b))
        → (d b : Binding) × In d (a ∷ cs) × In b bs × (consistent (merge d b) ≡ true) × (c ≡ merge d b)
    go (inl j) rest = let (b, k, e, f) = in_with_each c a bs j in (a, b, inl refl, k, e, f)
    go (inr j) rest = let (d, b, k, l, e, f) = rest j in (d, b, inr k, l, e, f)

pub together_in : (a b : Binding) (cs bs : List Binding) → In a cs → In b bs → consistent (merge a b) ≡ true → In (merge a b) (together cs bs)
unfolding together
together_in a b [] bs i j e = absurd i
together_in a b (d ∷ cs) bs (inl p) j e =
    in_left (merge a b) (with_each d bs) (together cs bs) (subst (λ (w : Binding). In (merge a b) (with_each w bs)) p (with_each_in a b bs j e))
together_in a b (d ∷ cs) bs (inr i) j e = in_right (merge a b) (with_each d bs) (together cs bs) (together_in a b cs bs i j e)

-- ---- a value taken apart

pub items_list : (vs : Items) → items_of (list_of vs) ≡ vs
unfolding items_of list_of
items_list none = refl
items_list (more v vs) = ap (more v) (items_list vs)

pub list_items : (vs : List Value) → list_of (items_of vs) ≡ vs
unfolding items_of list_of
list_items [] = refl
list_items (v ∷ vs) = ap (λ (l : List Value). v ∷ l) (list_items vs)

-- THEOREM: the contents are there exactly when the value is a collection of that kind
pub contents_of : (k : Kind) (vs : List Value) → contents k (collection k (items_of vs)) ≡ some vs
contents_of k vs = rw (eq-eqb (number k) (number k) refl) (ap some (list_items vs))

pub of_contents : (k : Kind) (v : Value) (vs : List Value) → contents k v ≡ some vs → v ≡ collection k (items_of vs)
of_contents k (boolean b) vs e = impossible cc
of_contents k (integer z) vs e = impossible cc
of_contents k (quote n) vs e = impossible cc
of_contents k (collection l ws) vs e = go (eqb (number k) (number l)) refl e
  where
    go : (t : Bool) → eqb (number k) (number l) ≡ t → cond t (some (list_of ws)) absent ≡ some vs → collection l ws ≡ collection k (items_of vs)
    go true f e =
        let d : list_of ws ≡ vs = cc in
        ap₂ collection (sym (number_inj k l (eqb-true (number k) (number l) f))) (sym (items_list ws) ∙ ap items_of d)
    go false f e = impossible cc

-- ---- what the parts of a pattern meet

pub in_arrangements : (k : Kind) (vs ws : List Value) → In ws (arrangements k vs) ↔ Arranged k vs ws
in_arrangements set vs ws = in_orders vs ws
in_arrangements sequence vs ws = (in_one ws, λ e. inl e)
in_arrangements mapping vs ws = (
  λ i. let (es, j, e) = in_map ws (items_in mapping) (orders (entries_of vs)) i in (es, (in_orders (entries_of vs) es).0 j, e),
  λ (es, h, e). subst (λ (l : List Value). In l (arrangements mapping vs)) (sym e) (map_in es (items_in mapping) (orders (entries_of vs)) ((in_orders (entries_of vs) es).1 h)),
)
in_arrangements tuple vs ws = (in_one ws, λ e. inl e)

pub in_divisions : (k : Kind) (vs : List Value) (h : Halves Value) → In h (divisions k vs) ↔ Divided k vs h.left h.right
in_divisions set vs h = in_proper vs h
in_divisions sequence vs h = in_cuts vs h
in_divisions mapping vs h = (
  λ i.
      let (g, j, e) = in_map h (halves_in mapping) (proper_splits (entries_of vs)) i in
      (g.left, g.right, (in_proper (entries_of vs) g).0 j, ap (λ (f : Halves Value). f.left) e, ap (λ (f : Halves Value). f.right) e),
  λ (es, fs, p, d, e).
      subst (λ (g : Halves Value). In g (divisions mapping vs)) (sym (ap₂ halves d e)) (map_in (halves es fs) (halves_in mapping) (proper_splits (entries_of vs)) ((in_proper (entries_of vs) (halves es fs)).1 p)),
)
in_divisions tuple vs h = (λ i. i, λ i. i)

-- n items of kind k, arranged
abbrev pub Met : Kind → ℕ → Value → List Value → List Value → Type 0
Met k n v vs ws = (v ≡ collection k (items_of vs)) × (n ≡ length vs) × Arranged k vs ws

pub in_met : (k : Kind) (n : ℕ) (v : Value) (ws : List Value) → In ws (met k n (contents k v)) → (vs : List Value) × Met k n v vs ws
in_met k n v ws i = go (contents k v) refl i
  where
    go : (o : Option (List Value)) → contents k v ≡ o → In ws (met k n o) → (vs : List Value) × Met k n v vs ws
    go absent e i = absurd i
    go (some vs) e i =
        let (t, j) = in_picked ws (eqb n (length vs)) (arrangements k vs) i in
        (vs, (of_contents k v vs e, eqb-true n (length vs) t, (in_arrangements k vs ws).0 j))

pub met_in : (k : Kind) (n : ℕ) (v : Value) (vs ws : List Value) → Met k n v vs ws → In ws (met k n (contents k v))
met_in k n v vs ws (e, f, h) =
    subst (λ (o : Option (List Value)). In ws (met k n o)) (sym (ap (contents k) e ∙ contents_of k vs))
    (picked_in ws (eqb n (length vs)) (arrangements k vs) (eq-eqb n (length vs) f) ((in_arrangements k vs ws).1 h))

pub in_split : (k : Kind) (v : Value) (h : Halves Value) → In h (split k (contents k v)) → (vs : List Value) × (v ≡ collection k (items_of vs)) × Divided k vs h.left h.right
in_split k v h i = go (contents k v) refl i
  where
    go : (o : Option (List Value)) → contents k v ≡ o → In h (split k o) → (vs : List Value) × (v ≡ collection k (items_of vs)) × Divided k vs h.left h.right
    go absent e i = absurd i
    go (some vs) e i = (vs, of_contents k v vs e, (in_divisions k vs h).0 i)

pub split_in : (k : Kind) (v : Value) (vs ls rs : List Value) → v ≡ collection k (items_of vs) → Divided k vs ls rs → In (halves ls rs) (split k (contents k v))
split_in k v vs ls rs e d =
    subst (λ (o : Option (List Value)). In (halves ls rs) (split k o)) (sym (ap (contents k) e ∙ contents_of k vs)) ((in_divisions k vs (halves ls rs)).1 d)

-- ---- the theorem

mutual
  unfolding Matches

  -- a binding has a cell for each name
  pub match_sized : (p : Pattern) (v : Value) (b : Binding) → Matches p v b → length b ≡ names
  match_sized (name x) v b e = ap length e ∙ only_sized x v
  match_sized any v b e = ap length e
  match_sized (literal w) v b (f, e) = ap length e
  match_sized (each k ps) v b (vs, ws, e, n, a, m) = each_sized ps ws b m
  match_sized (halved k p q) v b (vs, ls, rs, c, d, e, s, m, n, j) = j.sized

  pub each_sized : (ps : Patterns) (vs : List Value) (b : Binding) → MatchesEach ps vs b → length b ≡ names
  each_sized nil vs b e = ap length e
  each_sized (cons p ps) [] b h = absurd h
  each_sized (cons p ps) (v ∷ vs) b (c, d, m, n, j) = j.sized

-- two that are listed, together
both_listed : (b c d : Binding) → length c ≡ names → length d ≡ names → consistent (merge c d) ≡ true → b ≡ merge c d → Joined c d b
both_listed b c d p q t e = subst (Joined c d) (sym e) (merge_joined c d p q t)

list_both : (b c d : Binding) (cs ds : List Binding) → length c ≡ names → length d ≡ names → In c cs → In d ds → Joined c d b → In b (together cs ds)
list_both b c d cs ds p q i k j =
    let (e, t) = joined_merge c d b p q j in
    subst (λ (w : Binding). In w (together cs ds)) (sym e) (together_in c d cs ds i k t)

mutual
  unfolding matches Matches

  pub matched : (p : Pattern) (v : Value) (b : Binding) → In b (matches p v) → Matches p v b
  matched (name x) v b i = in_one b i
  matched any v b i = in_one b i
  matched (literal w) v b i = let (t, j) = in_picked b (same w v) (nothing ∷ []) i in (sym (same_true w v t), in_one b j)
  matched (each k ps) v b i =
      let (ws, j, l) = in_gather b (met k (parts ps) (contents k v)) (λ vs. match_each ps vs) i in
      let (vs, m) = in_met k (parts ps) v ws j in
      (vs, ws, m.0, m.1, m.2, matched_each ps ws b l)
  matched (halved k p q) v b i =
      let (h, j, l) = in_gather b (split k (contents k v)) (λ h. together (matches p (left_of k h)) (matches q (right_of k h))) i in
      let (vs, e, s) = in_split k v h j in
      let (c, d, m, n, t, f) = in_together b (matches p (left_of k h)) (matches q (right_of k h)) l in
      let x = matched p (left_of k h) c m in
      let y = matched q (right_of k h) d n in
      (vs, h.left, h.right, c, d, e, s, x, y, both_listed b c d (match_sized p (left_of k h) c x) (match_sized q (right_of k h) d y) t f)

  pub matched_each : (ps : Patterns) (vs : List Value) (b : Binding) → In b (match_each ps vs) → MatchesEach ps vs b
  matched_each nil vs b i = in_one b i
  matched_each (cons p ps) [] b i = i
  matched_each (cons p ps) (v ∷ vs) b i =
      let (c, d, m, n, t, f) = in_together b (matches p v) (match_each ps vs) i in
      let x = matched p v c m in
      let y = matched_each ps vs d n in
      (c, d, x, y, both_listed b c d (match_sized p v c x) (each_sized ps vs d y) t f)

mutual
  unfolding matches Matches

  pub matching : (p : Pattern) (v : Value) (b : Binding) → Matches p v b → In b (matches p v)
  matching (name x) v b e = inl e
  matching any v b e = inl e
  matching (literal w) v b (f, e) = picked_in b (same w v) (nothing ∷ []) (true_same (sym f)) (inl e)
  matching (each k ps) v b (vs, ws, e, n, a, m) =
      gather_in ws b (met k (parts ps) (contents k v)) (λ vs. match_each ps vs) (met_in k (parts ps) v vs ws (e, n, a)) (matching_each ps ws b m)
  matching (halved k p q) v b (vs, ls, rs, c, d, e, s, m, n, j) =
      gather_in (halves ls rs) b (split k (contents k v)) (λ h. together (matches p (left_of k h)) (matches q (right_of k h))) (split_in k v vs ls rs e s)
      (list_both b c d (matches p (collection k (items_of ls))) (matches q (collection k (items_of rs))) (match_sized p (collection k (items_of ls)) c m) (match_sized q (collection k (items_of rs)) d n)
      (matching p (collection k (items_of ls)) c m) (matching q (collection k (items_of rs)) d n) j)

  pub matching_each : (ps : Patterns) (vs : List Value) (b : Binding) → MatchesEach ps vs b → In b (match_each ps vs)
  matching_each nil vs b e = inl e
  matching_each (cons p ps) [] b h = h
  matching_each (cons p ps) (v ∷ vs) b (c, d, m, n, j) =
      list_both b c d (matches p v) (match_each ps vs) (match_sized p v c m) (each_sized ps vs d n) (matching p v c m) (matching_each ps vs d n) j

-- THEOREM: a binding is listed exactly when the pattern matches the value with it
pub matches_exactly : (p : Pattern) (v : Value) (b : Binding) → In b (matches p v) ↔ Matches p v b
matches_exactly p v b = (matched p v b, matching p v b)

-- THEOREM: the bindings of a binder are exactly those with which the pattern matches one of the values
pub bindings_exactly : (p : Pattern) (vs : List Value) (b : Binding) → In b (bindings p vs) ↔ ((v : Value) × In v vs × Matches p v b)
bindings_exactly p vs b = (λ i. there i, λ h. back h)
  where
    there : In b (bindings p vs) → (v : Value) × In v vs × Matches p v b
    there i = let (v, j, k) = in_gather b vs (matches p) (in_sorted b (gather vs (matches p)) i) in (v, j, matched p v b k)

    back : (v : Value) × In v vs × Matches p v b → In b (bindings p vs)
    back (v, j, m) = sorted_in b (gather vs (matches p)) (gather_in v b vs (matches p) j (matching p v b m))

-- THEOREM: a union pattern matches only a set of two members or more, a munion pattern a map of two entries or more (wish 1)
pub halved_two : (k : Kind) → is_unordered k ≡ true → (p q : Pattern) (v : Value) (b : Binding) → Matches (halved k p q) v b → (vs : List Value) × (v ≡ collection k (items_of vs)) × (2 ≤ length (units_of k vs))
unfolding Matches
halved_two k u p q v b (vs, ls, rs, c, d, e, s, m, n, j) =
    let (ms, ns, (h, l, r), f, g) = (divided_units k u vs ls rs).0 s in
    (vs, e, omega (arith, shared_length (units_of k vs) ms ns h))
