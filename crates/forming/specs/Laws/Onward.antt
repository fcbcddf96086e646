-- Laws of the matches of an agenda, each one of lists.
use Rattle.std.specs.Prelude.{◌≡◌, true, List, [], ◌∷◌, ◌++◌, map, ℕ, length, get_or}
use Rattle.std.proofs.Common.{sym, ap, subst, ◌∙◌, arith}
use Rattle.prelude.specs.Membership.{In}
use Rattle.prelude.proofs.Membership.{in_one}
use Rattle.values.specs.Value.{Kind, Value}
use Rattle.tables.specs.Record.{Record, is_composed}
use Rattle.patterns.specs.Ways.{gather}
use Rattle.patterns.specs.Members.{Alike}
use Rattle.patterns.specs.Binding.{Binding, nothing, with_each, together}
use Rattle.patterns.specs.Pattern.{Pattern, any, each, halved, contents, met, split, left_of, right_of, matches, match_each}
use Rattle.patterns.proofs.Laws.Matched.{in_together, together_in}
use Rattle.patterns.proofs.Laws.Together.{gather_cong, gather_map, with_gather, together_with, together_gather, together_assoc, Fine, all_fine, nothing_fine, matches_fine, with_nothing, nothing_together, with_only, together_nothing, one_together}
use Rattle.patterns.specs.Read.{patterns_of, pattern_of}
use Rattle.patterns.specs.Nodes.{collection_of, is_halved, meetings, both_halves}
use Rattle.patterns.proofs.Laws.Nodes.{parts_length, two_of, on_composed}
use Rattle.forming.specs.Onward.{Task, task, matches_all, onward, zipped, one_way}

nothing_all : (ts : List Task) → together (nothing ∷ []) (matches_all ts) ≡ matches_all ts
unfolding matches_all
nothing_all [] = nothing_together (nothing ∷ []) (all_fine (nothing ∷ []) (λ b i. subst Fine (sym (in_one b i)) nothing_fine))
nothing_all (t ∷ ts) =
    sym (together_assoc (nothing ∷ []) (matches t.what t.value) (matches_all ts))
    ∙ ap (λ (l : List Binding). together l (matches_all ts)) (nothing_together (matches t.what t.value) (matches_fine t.what t.value))

pub onward_end : (b : Binding) → Fine b → onward [] b ≡ b ∷ []
unfolding matches_all
onward_end b h = with_only b h

-- THEOREM: one pattern, from nothing, has exactly its matches
pub onward_one : (p : Pattern) (v : Value) → onward (task p v ∷ []) nothing ≡ matches p v
unfolding matches_all
onward_one p v =
    let e = together_nothing (matches p v) (matches_fine p v) in
    ap (with_each nothing) e ∙ with_nothing (matches p v) (matches_fine p v)

pub onward_first : (p : Pattern) (v : Value) (ts : List Task) (b : Binding) → onward (task p v ∷ ts) b ≡ together (with_each b (matches p v)) (matches_all ts)
unfolding matches_all
onward_first p v ts b = sym (together_with b (matches p v) (matches_all ts))

pub alike_same : (xs : List Binding) → Alike xs xs
alike_same xs c = (λ i. i, λ i. i)

-- what is put together of the same is the same
pub together_alike : (xs ys ds es : List Binding) → Alike xs ys → Alike ds es → Alike (together xs ds) (together ys es)
together_alike xs ys ds es h k c = (go xs ys ds es (λ x i. (h x).0 i) (λ x i. (k x).0 i), go ys xs es ds (λ x i. (h x).1 i) (λ x i. (k x).1 i))
  where
    go : (us ws gs hs : List Binding) → ((x : Binding) → In x us → In x ws) → ((x : Binding) → In x gs → In x hs) → In c (together us gs) → In c (together ws hs)
    go us ws gs hs f g i =
        let (a, d, m, n, t, e) = in_together c us gs i in
        subst (λ (x : Binding). In x (together ws hs)) (sym e) (together_in a d ws hs (f a m) (g d n) t)

-- THEOREM: a pattern that gives one binding goes on with it
pub onward_went : (p : Pattern) (v : Value) (ts : List Task) (b q : Binding) → Alike (with_each b (matches p v)) (q ∷ []) → Alike (onward (task p v ∷ ts) b) (onward ts q)
onward_went p v ts b q h c =
    let a = together_alike (with_each b (matches p v)) (q ∷ []) (matches_all ts) (matches_all ts) h (alike_same (matches_all ts)) c in (
      λ i. subst (In c) (one_together q (matches_all ts)) (a.0 (subst (In c) (onward_first p v ts b) i)),
      λ i. subst (In c) (sym (onward_first p v ts b)) (a.1 (subst (In c) (sym (one_together q (matches_all ts))) i)),
    )

-- one that gives none ends all
pub onward_none : (p : Pattern) (v : Value) (ts : List Task) (b : Binding) → with_each b (matches p v) ≡ [] → onward (task p v ∷ ts) b ≡ []
unfolding together
onward_none p v ts b e = onward_first p v ts b ∙ ap (λ (l : List Binding). together l (matches_all ts)) e

-- the parts go before the rest
pub onward_each : (ps : List Pattern) (vs : List Value) (ts : List Task) → length vs ≡ length ps → together (match_each (patterns_of ps) vs) (matches_all ts) ≡ matches_all (zipped ps vs ++ ts)
unfolding matches patterns_of zipped matches_all
onward_each [] vs ts e = nothing_all ts
onward_each (p ∷ ps) [] ts e = absurd (omega arith)
onward_each (p ∷ ps) (v ∷ vs) ts e =
    together_assoc (matches p v) (match_each (patterns_of ps) vs) (matches_all ts)
    ∙ ap (together (matches p v)) (onward_each ps vs ts (omega arith))

pub one_way_lem : (ps : List Pattern) (ts : List Task) (b : Binding) (vs : List Value) → length vs ≡ length ps → one_way ps ts b vs ≡ onward (zipped ps vs ++ ts) b
one_way_lem ps ts b vs e = ap (with_each b) (onward_each ps vs ts e)

each_ways : (k : Kind) (ps : List Pattern) (v : Value) (ts : List Task) (b : Binding) → onward (task (each k (patterns_of ps)) v ∷ ts) b ≡ gather (met k (length ps) (contents k v)) (one_way ps ts b)
unfolding matches_all matches
each_ways k ps v ts b =
    ap (λ (n : ℕ). with_each b (together (gather (met k n (contents k v)) (λ vs. match_each (patterns_of ps) vs)) (matches_all ts))) (parts_length ps)
    ∙ ap (with_each b) (together_gather (met k (length ps) (contents k v)) (λ vs. match_each (patterns_of ps) vs) (matches_all ts))
    ∙ with_gather b (met k (length ps) (contents k v)) (λ vs. together (match_each (patterns_of ps) vs) (matches_all ts))

halved_ways : (k : Kind) (p q : Pattern) (v : Value) (ts : List Task) (b : Binding) → onward (task (halved k p q) v ∷ ts) b ≡ gather (map (both_halves k) (split k (contents k v))) (one_way (p ∷ q ∷ []) ts b)
unfolding matches_all matches patterns_of
halved_ways k p q v ts b =
    ap (with_each b) (together_gather (split k (contents k v)) (λ h. together (matches p (left_of k h)) (matches q (right_of k h))) (matches_all ts))
    ∙ with_gather b (split k (contents k v)) (λ h. together (together (matches p (left_of k h)) (matches q (right_of k h))) (matches_all ts))
    ∙ gather_cong (split k (contents k v)) (λ h. with_each b (together (together (matches p (left_of k h)) (matches q (right_of k h))) (matches_all ts))) (λ h. one_way (p ∷ q ∷ []) ts b (both_halves k h))
    (λ h. ap (λ (l : List Binding). with_each b (together (together (matches p (left_of k h)) l) (matches_all ts))) (sym (together_nothing (matches q (right_of k h)) (matches_fine q (right_of k h)))))
    ∙ sym (gather_map (both_halves k) (split k (contents k v)) (one_way (p ∷ q ∷ []) ts b))

-- THEOREM: a pattern with parts goes on in all its ways, one after the other
pub onward_ways : (r : Record) (ps : List Pattern) → is_composed r.kind ≡ true → (is_halved r.kind ≡ true → length ps ≡ 2) → (v : Value) (ts : List Task) (b : Binding)
    → onward (task (pattern_of r ps) v ∷ ts) b ≡ gather (meetings r.kind (length ps) v) (one_way ps ts b)
onward_ways r ps c two v ts b =
    on_composed r ps (λ q. onward (task q v ∷ ts) b ≡ gather (meetings r.kind (length ps) v) (one_way ps ts b)) c
    (λ h. rw h (each_ways (collection_of r.kind) ps v ts b)) (λ h. rw h (half (collection_of r.kind) (two h)))
  where
    half : (k : Kind) → length ps ≡ 2 → onward (task (halved k (get_or ps 0 any) (get_or ps 1 any)) v ∷ ts) b ≡ gather (map (both_halves k) (split k (contents k v))) (one_way ps ts b)
    half k e = halved_ways k (get_or ps 0 any) (get_or ps 1 any) v ts b ∙ ap (λ (qs : List Pattern). gather (map (both_halves k) (split k (contents k v))) (one_way qs ts b)) (two_of ps e)
