-- Patterns with two halves; and wildcards beside wildcards: one half that matches all, beside one that takes in any more, adds nothing.
use mathlib.Core.Path.{◌≡◌, refl, sym, ap, ap₂, subst, ◌∙◌}
use mathlib.Core.Bool.{Bool, true, false}
use mathlib.Core.Logic.{inl, inr}
use mathlib.Core.List.{List, [], ◌∷◌, ◌++◌}
use Prim.Native.Nat.{ℕ, zero, suc, ◌-◌, ◌≤◌, ◌<◌}
use native.Mathlib.Omega.{arith}
use lib.Dec.{eqb}
use lib.ListN.{length, get_or}
use borrow.Author.Tests.{eqb-true}
use Rattle.prelude.proofs.Absurd.{true_false, never}
use Rattle.prelude.proofs.Truth.{by_test}
use Rattle.prelude.proofs.Lists.{map_at}
use Rattle.values.specs.Value.{Kind, sequence, Value, collection}
use Rattle.tables.proofs.Laws.Kinds.{union_composed, concatenation_composed, munion_composed}
use Rattle.tables.specs.Record.{Record, is_composed, named as operands_of, operand}
use Rattle.tables.specs.Table.{record_at, kind_at}
use Rattle.tables.specs.Accepted.{records}
use Rattle.patterns.specs.Members.{Alike}
use Rattle.patterns.specs.Binding.{Binding, nothing, merge, consistent, with_each, together}
use Rattle.patterns.specs.Pattern.{Pattern, any, halved, items_of, list_of, matches, wide}
use Rattle.patterns.specs.Relation.{Joined, Matches}
use Rattle.patterns.specs.Wide.{Wide}
use Rattle.patterns.proofs.Laws.Matched.{matched, matching, match_sized, joined_merge, merge_joined, nothing_sized, list_items}
use Rattle.patterns.proofs.Laws.Merging.{nothing_merge, merge_nothing}
use Rattle.patterns.proofs.Laws.Together.{one_together, append-nil, append_assoc, Fine, nothing_fine, match_consistent}
use Rattle.patterns.proofs.Laws.Widened.{wide_exactly}
use Rattle.patterns.specs.Nodes.{collection_of, is_halved}
use Rattle.patterns.proofs.Laws.Nodes.{is_any, on_composed}
use Rattle.patterns.specs.Read.{Readable, pattern_of, pattern_at}
use Rattle.matching.specs.Node.{inner_of}
use Rattle.matching.proofs.Records.{by_record, count_two}
use Rattle.forming.specs.Inner.{inner}
use Rattle.forming.specs.Onward.{Task, task, matches_all, onward}
use Rattle.forming.specs.Laws.Onward.{alike_same, together_alike}
use Rattle.forming.specs.Reduced.{AcceptsAll, TakesMore, TellsAll, TellsMore, Reduced, TellsSpare}
use Rattle.forming.specs.Sizes.{Splits}

-- ---- sequences

pub items_same : (k : Kind) (vs ws : List Value) → collection k (items_of vs) ≡ collection k (items_of ws) → vs ≡ ws
items_same k vs ws e = let f : items_of vs ≡ items_of ws = cc in sym (list_items vs) ∙ ap list_of f ∙ list_items ws

more_any : (side : ℕ) → TakesMore side any
unfolding Matches
more_any side vs es rs b h m = m

none_left : (b : Binding) → Fine b → Joined nothing b b
none_left b h =
    let e = nothing_merge b h.sized in
    subst (Joined nothing b) e (merge_joined nothing b nothing_sized h.sized (ap consistent e ∙ h.agrees))

none_right : (b : Binding) → Fine b → Joined b nothing b
none_right b h =
    let e = merge_nothing b h.sized in
    subst (Joined b nothing) e (merge_joined b nothing h.sized nothing_sized (ap consistent e ∙ h.agrees))

fine_of : (p : Pattern) (v : Value) (b : Binding) → Matches p v b → Fine b
fine_of p v b m = record { sized = match_sized p v b m; agrees = match_consistent p v b (matching p v b m) }

module _ (l r : Pattern) where
  -- a half that takes in more before, or after
  more_left : TakesMore 0 l → TakesMore 0 (halved sequence l r)
  unfolding Matches
  more_left t vs es rs b h (us, ls, qs, c, d, e, s, m, n, j) =
      (vs, es ++ ls, qs, c, d, refl, h ∙ ap (λ (x : List Value). es ++ x) (items_same sequence rs us e ∙ s) ∙ sym (append_assoc es ls qs), t (es ++ ls) es ls c refl m, n, j)

  more_right : TakesMore 1 r → TakesMore 1 (halved sequence l r)
  unfolding Matches
  more_right t vs es rs b h (us, ls, qs, c, d, e, s, m, n, j) =
      (vs, ls, qs ++ es, c, d, refl, h ∙ ap (λ (x : List Value). x ++ es) (items_same sequence rs us e ∙ s) ∙ append_assoc ls qs es, m, t (qs ++ es) es qs d refl n, j)

  -- both halves match all
  both_all : AcceptsAll l → AcceptsAll r → AcceptsAll (halved sequence l r)
  unfolding Matches
  both_all a b = record {
    all = λ vs. (vs, [], vs, nothing, nothing, refl, refl, a.all [], b.all vs, none_left nothing nothing_fine);
    only = λ v x (vs, ls, rs, c, d, e, s, m, n, j).
        (joined_merge c d x (match_sized l (collection sequence (items_of ls)) c m) (match_sized r (collection sequence (items_of rs)) d n) j).0
        ∙ ap₂ merge (a.only (collection sequence (items_of ls)) c m) (b.only (collection sequence (items_of rs)) d n)
        ∙ nothing_merge nothing nothing_sized;
  }

  -- ---- one half that matches all, beside one that takes in more

  -- what is matched is a sequence
  abbrev Matched : Pattern → Type 0
  Matched p = (v : Value) (b : Binding) → Matches p v b → (vs : List Value) × (v ≡ collection sequence (items_of vs))

  left_less : AcceptsAll l → TakesMore 0 r → (v : Value) (b : Binding) → Matches (halved sequence l r) v b → Matches r v b
  unfolding Matches
  left_less a t v b (vs, ls, rs, c, d, e, s, m, n, j) =
      let f : b ≡ d =
      (joined_merge c d b (match_sized l (collection sequence (items_of ls)) c m) (match_sized r (collection sequence (items_of rs)) d n) j).0
      ∙ ap (λ (x : Binding). merge x d) (a.only (collection sequence (items_of ls)) c m) ∙ nothing_merge d (match_sized r (collection sequence (items_of rs)) d n) in
      subst (λ (w : Value). Matches r w b) (sym e) (t vs ls rs b s (subst (Matches r (collection sequence (items_of rs))) (sym f) n))

  left_more : AcceptsAll l → Matched r → (v : Value) (b : Binding) → Matches r v b → Matches (halved sequence l r) v b
  unfolding Matches
  left_more a w v b m =
      let (vs, e) = w v b m in
      (vs, [], vs, nothing, b, e, refl, a.all [], subst (λ (x : Value). Matches r x b) e m, none_left b (fine_of r v b m))

  right_less : AcceptsAll r → TakesMore 1 l → (v : Value) (b : Binding) → Matches (halved sequence l r) v b → Matches l v b
  unfolding Matches
  right_less a t v b (vs, ls, rs, c, d, e, s, m, n, j) =
      let f : b ≡ c =
      (joined_merge c d b (match_sized l (collection sequence (items_of ls)) c m) (match_sized r (collection sequence (items_of rs)) d n) j).0
      ∙ ap (merge c) (a.only (collection sequence (items_of rs)) d n) ∙ merge_nothing c (match_sized l (collection sequence (items_of ls)) c m) in
      subst (λ (w : Value). Matches l w b) (sym e) (t vs rs ls b s (subst (Matches l (collection sequence (items_of ls))) (sym f) m))

  right_more : AcceptsAll r → Matched l → (v : Value) (b : Binding) → Matches l v b → Matches (halved sequence l r) v b
  unfolding Matches
  right_more a w v b m =
      let (vs, e) = w v b m in
      (vs, vs, [], b, nothing, e, sym (append-nil vs), subst (λ (x : Value). Matches l x b) e m, a.all [], none_right b (fine_of l v b m))

halved_matched : (x y : Pattern) (v : Value) (b : Binding) → Matches (halved sequence x y) v b → (vs : List Value) × (v ≡ collection sequence (items_of vs))
unfolding Matches
halved_matched x y v b (vs, ls, rs, c, d, e, s, m, n, j) = (vs, e)

alike_of : (p q : Pattern) (v : Value) → ((b : Binding) → Matches p v b → Matches q v b) → ((b : Binding) → Matches q v b → Matches p v b) → Alike (matches p v) (matches q v)
alike_of p q v f g b = (λ i. matching q v b (f b (matched p v b i)), λ i. matching p v b (g b (matched q v b i)))

-- ---- number 29

not_wide : (p q : Pattern) (v : Value) → (Wide q v → Wide p v) → wide p v ≡ false → wide q v ≡ false
not_wide p q v f e = go (wide q v) refl
  where
    go : (t : Bool) → wide q v ≡ t → t ≡ false
    go true h = true_false (sym ((wide_exactly p v).1 (f ((wide_exactly q v).0 h))) ∙ e)
    go false h = refl

left_wide : (l x y : Pattern) (v : Value) → Wide (halved sequence x y) v → Wide (halved sequence l (halved sequence x y)) v
unfolding Wide
left_wide l x y v (vs, e, w) = (vs, e, inr ([], vs, refl, inr (vs, refl, w)))

right_wide : (r x y : Pattern) (v : Value) → Wide (halved sequence x y) v → Wide (halved sequence (halved sequence x y) r) v
unfolding Wide
right_wide r x y v (vs, e, w) = (vs, e, inr (vs, [], sym (append-nil vs), inl (vs, refl, w)))

-- ---- by records

-- what follows from each of the kinds with two halves follows of all
pub by_splits : {A : Type 0} (c : ℕ) → Splits c → (c ≡ 38 → A) → (c ≡ 40 → A) → (c ≡ 42 → A) → A
by_splits c u union concatenation munion =
    by_test (eqb c 38) (λ e. union (eqb-true c 38 e)) (λ e.
    by_test (eqb c 40) (λ f. concatenation (eqb-true c 40 f)) (λ f. munion (eqb-true c 42 (rw (e, f) at u))))

splits_composed : (c : ℕ) → Splits c → is_composed c ≡ true
splits_composed c u = by_splits c u (λ e. union_composed e) (λ e. concatenation_composed e) (λ e. munion_composed e)

halved_by : (r : Record) (ps : List Pattern) (c : ℕ) → r.kind ≡ c → Splits c → pattern_of r ps ≡ halved (collection_of c) (get_or ps 0 any) (get_or ps 1 any)
halved_by r ps c e u =
    on_composed r ps (λ q. q ≡ halved (collection_of c) (get_or ps 0 any) (get_or ps 1 any)) (ap is_composed e ∙ splits_composed c u)
    (λ h. never (sym h ∙ ap is_halved e ∙ u)) (λ h. ap (λ (k : ℕ). halved (collection_of k) (get_or ps 0 any) (get_or ps 1 any)) e)

-- The pattern of a part.
abbrev half : List ℕ → ℕ → ℕ → Pattern
half table p i = pattern_at (records table) (operand (record_at (records table) p) i)

module _ (table : List ℕ) (p : ℕ) (h : Readable table p) where
  module _ (c : ℕ) (e : kind_at (records table) p ≡ c) (u : Splits c) where
    pub two_halves : length (operands_of (record_at (records table) p)) ≡ 2
    two_halves = count_two table p h (ap is_composed e ∙ splits_composed c u) (ap is_halved e ∙ u)

    pub is_two : pattern_at (records table) p ≡ halved (collection_of c) (half table p 0) (half table p 1)
    is_two =
        by_record table p h ∙ halved_by (record_at (records table) p) (inner_of table p) c e u
        ∙ ap₂ (halved (collection_of c)) (map_at (pattern_at (records table)) (operands_of (record_at (records table) p)) 0 0 any (omega (arith, two_halves)))
        (map_at (pattern_at (records table)) (operands_of (record_at (records table) p)) 1 0 any (omega (arith, two_halves)))

  -- ---- what accepts_all and takes_more tell

  pub all_any : kind_at (records table) p ≡ 33 → TellsAll table p true
  unfolding Matches
  all_any e t = subst AcceptsAll (sym (by_record table p h ∙ is_any (record_at (records table) p) (inner_of table p) e)) (record { all = λ vs. refl; only = λ v b m. m })

  pub more_wild : kind_at (records table) p ≡ 33 → (side : ℕ) → TellsMore table p side true
  more_wild e side t = subst (TakesMore side) (sym (by_record table p h ∙ is_any (record_at (records table) p) (inner_of table p) e)) (more_any side)

  pub no_all : TellsAll table p false
  no_all e = true_false (sym e)

  pub no_more : (side : ℕ) → TellsMore table p side false
  no_more side e = true_false (sym e)

  module _ (e : kind_at (records table) p ≡ 40) where
    pub concatenation_two : length (operands_of (record_at (records table) p)) ≡ 2
    concatenation_two = two_halves 40 e refl

    pub is_concatenation : pattern_at (records table) p ≡ halved sequence (half table p 0) (half table p 1)
    is_concatenation = is_two 40 e refl

    pub all_halves : (l : ℕ) → l ≡ operand (record_at (records table) p) 0 → (x : Bool) → TellsAll table l x → x ≡ true → (r : ℕ) → r ≡ operand (record_at (records table) p) 1 → (y : Bool) → TellsAll table r y → TellsAll table p y
    all_halves l el x a ex r er y b ey =
        let a' : AcceptsAll (half table p 0) = subst (λ (q : ℕ). AcceptsAll (pattern_at (records table) q)) el (a ex) in
        let b' : AcceptsAll (half table p 1) = subst (λ (q : ℕ). AcceptsAll (pattern_at (records table) q)) er (b ey) in
        subst AcceptsAll (sym is_concatenation) (both_all (half table p 0) (half table p 1) a' b')

    more_half : (side : ℕ) → side < 2 → TakesMore side (half table p side) → TakesMore side (pattern_at (records table) p)
    more_half zero s t = subst (TakesMore 0) (sym is_concatenation) (more_left (half table p 0) (half table p 1) t)
    more_half (suc zero) s t = subst (TakesMore 1) (sym is_concatenation) (more_right (half table p 0) (half table p 1) t)
    more_half (suc (suc n)) s t = absurd (omega arith)

    pub more_told : (side : ℕ) → side < 2 → (q : ℕ) → q ≡ operand (record_at (records table) p) side → (x : Bool) → TellsMore table q side x → TellsMore table p side x
    more_told side s q eq x m ex = more_half side s (subst (λ (n : ℕ). TakesMore side (pattern_at (records table) n)) eq (m ex))

-- ---- what is left of a pattern

-- The second pattern has the bindings of the first.
record Equal (p q : Pattern) : Type 0 where
  alike : (v : Value) → Alike (matches p v) (matches q v)
  narrow : (v : Value) → wide p v ≡ false → wide q v ≡ false
  fewer : inner q ≤ inner p

same_left : (l x y : Pattern) → AcceptsAll l → TakesMore 0 (halved sequence x y) → Equal (halved sequence l (halved sequence x y)) (halved sequence x y)
unfolding inner
same_left l x y a t = record {
  alike = λ v. alike_of (halved sequence l (halved sequence x y)) (halved sequence x y) v (left_less l (halved sequence x y) a t v) (left_more l (halved sequence x y) a (halved_matched x y) v);
  narrow = λ v. not_wide (halved sequence l (halved sequence x y)) (halved sequence x y) v (left_wide l x y v);
  fewer = omega arith;
}

same_right : (r x y : Pattern) → AcceptsAll r → TakesMore 1 (halved sequence x y) → Equal (halved sequence (halved sequence x y) r) (halved sequence x y)
unfolding inner
same_right r x y a t = record {
  alike = λ v. alike_of (halved sequence (halved sequence x y) r) (halved sequence x y) v (right_less (halved sequence x y) r a t v) (right_more (halved sequence x y) r a (halved_matched x y) v);
  narrow = λ v. not_wide (halved sequence (halved sequence x y) r) (halved sequence x y) v (right_wide r x y v);
  fewer = omega arith;
}

module _ (table : List ℕ) (p : ℕ) where
  pub no_spare : (side : ℕ) → TellsSpare table p side false
  no_spare side e = true_false (sym e)

  pub spare_left : (side : ℕ) (x : Bool) → TellsSpare table p side x → x ≡ true → (q : ℕ) → q ≡ operand (record_at (records table) p) (1 - side) → Reduced table p q
  spare_left side x h e q d = subst (Reduced table p) (sym d) (h e)

  pub reduced_then : (q r : ℕ) → Reduced table p q → Reduced table q r → Reduced table p r
  reduced_then q r a b = record {
    composed = b.composed;
    low = omega (arith, a.low, b.low);
    alike = λ v c. (λ i. (b.alike v c).0 ((a.alike v c).0 i), λ i. (a.alike v c).1 ((b.alike v c).1 i));
    narrow = λ v e. b.narrow v (a.narrow v e);
    fewer = omega (arith, a.fewer, b.fewer);
  }

  module _ (h : Readable table p) (e : kind_at (records table) p ≡ 40) where
    abbrev part : ℕ → ℕ
    part i = operand (record_at (records table) p) i

    -- one half is left
    left_with : (q : ℕ) → Readable table q → q < p → kind_at (records table) q ≡ 40 → Equal (pattern_at (records table) p) (pattern_at (records table) q) → Reduced table p q
    left_with q i l k s = record { composed = record { readable = i; composed = concatenation_composed k }; low = omega arith; alike = s.alike; narrow = s.narrow; fewer = s.fewer }

    pub spare_told : (side : ℕ) → side < 2 → (a : ℕ) → a ≡ part side → (x : Bool) → TellsAll table a x → x ≡ true → (q : ℕ) → q ≡ part (1 - side) → Readable table q × (q < p) → kind_at (records table) q ≡ 40
        → (y : Bool) → TellsMore table q side y → TellsSpare table p side y
    spare_told side s a ea x all ex q eq (i, l) k y more ey =
        subst (Reduced table p) eq (left_with q i l k (same side s (subst (λ (n : ℕ). AcceptsAll (pattern_at (records table) n)) ea (all ex)) eq (more ey)))
      where
        is_q : pattern_at (records table) q ≡ halved sequence (half table q 0) (half table q 1)
        is_q = is_concatenation table q i k

        same : (side : ℕ) → side < 2 → AcceptsAll (half table p side) → q ≡ part (1 - side) → TakesMore side (pattern_at (records table) q) → Equal (pattern_at (records table) p) (pattern_at (records table) q)
        same zero s a eq t =
            let e2 : pattern_at (records table) p ≡ halved sequence (half table p 0) (halved sequence (half table q 0) (half table q 1)) =
            is_concatenation table p h e ∙ ap (halved sequence (half table p 0)) (ap (pattern_at (records table)) (sym eq) ∙ is_q) in
            subst (λ (w : Pattern). Equal w (pattern_at (records table) q)) (sym e2)
            (subst (Equal (halved sequence (half table p 0) (halved sequence (half table q 0) (half table q 1)))) (sym is_q)
            (same_left (half table p 0) (half table q 0) (half table q 1) a (subst (TakesMore 0) is_q t)))
        same (suc zero) s a eq t =
            let e2 : pattern_at (records table) p ≡ halved sequence (halved sequence (half table q 0) (half table q 1)) (half table p 1) =
            is_concatenation table p h e ∙ ap (λ (w : Pattern). halved sequence w (half table p 1)) (ap (pattern_at (records table)) (sym eq) ∙ is_q) in
            subst (λ (w : Pattern). Equal w (pattern_at (records table) q)) (sym e2)
            (subst (Equal (halved sequence (halved sequence (half table q 0) (half table q 1)) (half table p 1))) (sym is_q)
            (same_right (half table p 1) (half table q 0) (half table q 1) a (subst (TakesMore 1) is_q t)))
        same (suc (suc n)) s a eq t = absurd (omega arith)

-- ---- before the rest of an agenda

pub with_alike : (b : Binding) (xs ys : List Binding) → Alike xs ys → Alike (with_each b xs) (with_each b ys)
with_alike b xs ys h =
    subst (λ (l : List Binding). Alike l (with_each b ys)) (one_together b xs)
    (subst (Alike (together (b ∷ []) xs)) (one_together b ys) (together_alike (b ∷ []) (b ∷ []) xs ys (alike_same (b ∷ [])) h))

pub onward_alike : (p q : Pattern) (v : Value) (ts : List Task) (b : Binding) → Alike (matches p v) (matches q v) → Alike (onward (task p v ∷ ts) b) (onward (task q v ∷ ts) b)
unfolding matches_all
onward_alike p q v ts b h = with_alike b (together (matches p v) (matches_all ts)) (together (matches q v) (matches_all ts)) (together_alike (matches p v) (matches q v) (matches_all ts) (matches_all ts) h (alike_same (matches_all ts)))
