-- Bindings that may go together, and matches of which none goes with what is found.
use mathlib.Core.Path.{◌≡◌, refl, sym, ap, subst, ◌∙◌}
use mathlib.Core.Bool.{true}
use mathlib.Core.Logic.{inl}
use mathlib.Core.List.{List, [], ◌∷◌, ◌++◌}
use Prim.Native.Nat.{ℕ, ◌<◌}
use lib.ListN.{length}
use Rattle.prelude.specs.Membership.{In}
use Rattle.prelude.proofs.Membership.{in_one}
use Rattle.values.specs.Value.{Value}
use Rattle.patterns.specs.Members.{Alike}
use Rattle.patterns.specs.Binding.{Cell, free, is, clash, Binding, names, cell_of, merge, consistent, with_each}
use Rattle.patterns.specs.Pattern.{Pattern, matches, match_each}
use Rattle.patterns.specs.Relation.{Agree, Joined}
use Rattle.patterns.proofs.Laws.Matched.{in_together, matched, matched_each, match_sized, each_sized, merge_sized, merge_joined}
use Rattle.patterns.proofs.Laws.Together.{together_with, one_together}
use Rattle.patterns.specs.Read.{patterns_of}
use Rattle.forming.specs.Compatible.{Compatible}
use Rattle.forming.specs.Needs.{Unmatched}
use Rattle.forming.specs.Onward.{Task, matches_all, onward, one_way}

-- ---- what two say of a name that one of them gives a value

pub agreed_left : (a b c : Cell) (v : Value) → Agree a b c → a ≡ is v → c ≡ is v
agreed_left a free c v h e = subst (λ (x : Cell). Agree x free c) e h
agreed_left a (is w) c v h e = let g : Agree (is v) (is w) c = subst (λ (x : Cell). Agree x (is w) c) e h in g.1
agreed_left a clash c v h e = let g : Agree (is v) clash c = subst (λ (x : Cell). Agree x clash c) e h in absurd g

pub agreed_right : (a b c : Cell) (w : Value) → Agree a b c → b ≡ is w → c ≡ is w
agreed_right free b c w h e = subst (λ (x : Cell). Agree free x c) e h
agreed_right (is v) b c w h e = let g : Agree (is v) (is w) c = subst (λ (x : Cell). Agree (is v) x c) e h in g.1 ∙ ap is g.0
agreed_right clash b c w h e = absurd h

-- ---- matches have a cell for each name

pub sized_all : (ts : List Task) (d : Binding) → In d (matches_all ts) → length d ≡ names
unfolding matches_all
sized_all [] d i = ap length (in_one d i)
sized_all (t ∷ ts) d i =
    let (a, b, j, k, f, e) = in_together d (matches t.what t.value) (matches_all ts) i in
    let n = match_sized t.what t.value a (matched t.what t.value a j) in
    ap length e ∙ merge_sized a b (n ∙ sym (sized_all ts b k)) ∙ n

-- ---- one binding gives all that another gives

abbrev pub Within : Binding → Binding → Type 0
Within a b = (x : ℕ) → x < names → (v : Value) → cell_of a x ≡ is v → cell_of b x ≡ is v

pub joined_left : (a b c : Binding) → Joined a b c → Within a c
joined_left a b c h x l v e = agreed_left (cell_of a x) (cell_of b x) (cell_of c x) v (h.agreed x l) e

pub joined_right : (a b c : Binding) → Joined a b c → Within b c
joined_right a b c h x l v e = agreed_right (cell_of a x) (cell_of b x) (cell_of c x) v (h.agreed x l) e

-- two that one binding holds are compatible
within_compatible : (a b c : Binding) → Within a c → Within b c → Compatible a b
within_compatible a b c f g x l v w e d = let q : is v ≡ is w = sym (f x l v e) ∙ g x l w d in cc

pub compatible_within : (a b c : Binding) → Within a b → Compatible c b → Compatible c a
compatible_within a b c f h x l v w e d = h x l v w e (f x l w d)

-- ---- a binding with each of several

pub with_in : (b : Binding) (xs : List Binding) (x : Binding) → In x (with_each b xs) → (m : Binding) × In m xs × (consistent (merge b m) ≡ true) × (x ≡ merge b m)
with_in b xs x i =
    let (q, m, j, n, t, e) = in_together x (b ∷ []) xs (subst (In x) (sym (one_together b xs)) i) in
    let s : q ≡ b = in_one q j in
    (m, n, ap (λ (y : Binding). consistent (merge y m)) (sym s) ∙ t, e ∙ ap (λ (y : Binding). merge y m) s)

-- THEOREM: what goes on with a binding is compatible with it
with_compatible : (b : Binding) → length b ≡ names → (ds : List Binding) → ((d : Binding) → In d ds → length d ≡ names) → (o : Binding) → In o (with_each b ds) → (d : Binding) × In d ds × Compatible b d
with_compatible b n ds f o i =
    let (d, k, t, e) = with_in b ds o i in
    let h = merge_joined b d n (f d k) t in
    (d, k, within_compatible b d (merge b d) (joined_left b d (merge b d) h) (joined_right b d (merge b d) h))

-- ---- nothing is compatible with what is found

none_in : {A : Type 0} (xs : List A) → ((x : A) → In x xs → ⊥) → xs ≡ []
none_in [] h = refl
none_in (x ∷ xs) h = absurd (h x (inl refl))

-- THEOREM: a way in which no match of the parts is compatible with what is found gives nothing
pub no_way : (ps : List Pattern) (ts : List Task) (b : Binding) → length b ≡ names → (vs : List Value) → ((m : Binding) → In m (match_each (patterns_of ps) vs) → Compatible b m → ⊥) → one_way ps ts b vs ≡ []
no_way ps ts b n vs h =
    none_in (one_way ps ts b vs) (λ o i.
    let xs = match_each (patterns_of ps) vs in
    let (x, d, j, k, t, e) = in_together o (with_each b xs) (matches_all ts) (subst (In o) (sym (together_with b xs (matches_all ts))) i) in
    let (m, u, c) = with_compatible b n xs (λ m u. each_sized (patterns_of ps) vs m (matched_each (patterns_of ps) vs m u)) x j in
    h m u c)

-- each match of all tasks holds one of each of them
task_within : (us : List Task) (t : Task) (ts : List Task) (d : Binding) → In d (matches_all (us ++ t ∷ ts)) → (m : Binding) × In m (matches t.what t.value) × Within m d
unfolding matches_all
task_within [] t ts d i =
    let (a, c, j, k, f, e) = in_together d (matches t.what t.value) (matches_all ts) i in
    let h = merge_joined a c (match_sized t.what t.value a (matched t.what t.value a j)) (sized_all ts c k) f in
    (a, j, joined_left a c d (subst (Joined a c) (sym e) h))
task_within (u ∷ us) t ts d i =
    let (a, c, j, k, f, e) = in_together d (matches u.what u.value) (matches_all (us ++ t ∷ ts)) i in
    let h = merge_joined a c (match_sized u.what u.value a (matched u.what u.value a j)) (sized_all (us ++ t ∷ ts) c k) f in
    let (m, x, w) = task_within us t ts c k in
    (m, x, λ y l v q. joined_right a c d (subst (Joined a c) (sym e) h) y l v (w y l v q))

-- THEOREM: where one task has no match that is compatible with what is found, nothing goes on
pub none_onward : (us : List Task) (t : Task) (ts : List Task) (b : Binding) → length b ≡ names → Unmatched b t.what t.value → Alike (onward (us ++ t ∷ ts) b) []
none_onward us t ts b n f o = (
  λ i.
      let (d, j, c) = with_compatible b n (matches_all (us ++ t ∷ ts)) (sized_all (us ++ t ∷ ts)) o i in
      let (m, k, w) = task_within us t ts d j in
      f m (matched t.what t.value m k) (compatible_within m d b w c),
  λ i. absurd i,
)
