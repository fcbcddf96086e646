-- A plain name over a set: its bindings are the members, in order; never 29 or 30.
use Rattle.std.specs.Prelude.{◌≡◌, refl, false, List, [], ◌∷◌, map, ℕ, zero, suc, ◌≤◌, ◌<◌, length, set as put}
use Rattle.std.proofs.Common.{ap, ◌∙◌, arith, le-leb}
use Rattle.std.proofs.lemmas.List.{length-map}
use Rattle.std.specs.declared.cmp.Ordering.{Ordering}
use Rattle.std.specs.declared.cmp.Ordering.TheVariants.{Less, Equal, Greater}
use Rattle.values.specs.Value.{Value, collection, set, Items, none, more, count, order, after, Before, Ascending, WellFormed}
use Rattle.values.specs.Items.{in_order}
use Rattle.values.proofs.Order.{order_refl}
use Rattle.values.proofs.Encoding.{collection_size, count_sizes}
use Rattle.values.proofs.Records.{collection_shaped}
use Rattle.patterns.specs.Ways.{gather, exists}
use Rattle.patterns.specs.Binding.{Cell, free, is, clash, Binding, names, nothing, only, order_cells, order_bindings, place, sorted}
use Rattle.patterns.specs.Pattern.{name, list_of, matches, wide}
use Rattle.patterns.specs.Binder.{bindings, bound, formed, few}
use Rattle.patterns.proofs.Laws.Ordered.{bindings_refl, BeforeEach, Rising}

-- ---- one name's value decides

after-rest : (o : Ordering) → after o Equal ≡ o
after-rest Less = refl
after-rest Equal = refl
after-rest Greater = refl

pub cell_refl : (c : Cell) → order_cells c c ≡ Equal
cell_refl free = refl
cell_refl (is v) = order_refl v
cell_refl clash = refl

put_order : (b : Binding) (x : ℕ) (v w : Value) → x < length b → order_bindings (put b x (is v)) (put b x (is w)) ≡ order v w
unfolding order_bindings
put_order [] x v w h = absurd (omega arith)
put_order (c ∷ b) zero v w h = rw (bindings_refl b) (after-rest (order v w))
put_order (c ∷ b) (suc x) v w h = rw (cell_refl c) (put_order b x v w (omega arith))

-- two bindings of one name are ordered as its values
only_order : (x : ℕ) (v w : Value) → x < names → order_bindings (only x v) (only x w) ≡ order v w
only_order x v w h = put_order nothing x v w h

-- ---- in order already

place_first : (b : Binding) (cs : List Binding) → BeforeEach b cs → place b cs ≡ b ∷ cs
unfolding place
place_first b [] h = refl
place_first b (c ∷ cs) h = ap (λ (o : Ordering). in_order o (b ∷ c ∷ cs) (c ∷ cs) (c ∷ place b cs)) h.0

-- what is in order stays as it is
pub sorted_same : (bs : List Binding) → Rising bs → sorted bs ≡ bs
unfolding sorted
sorted_same [] h = refl
sorted_same (b ∷ bs) h = ap (place b) (sorted_same bs h.1) ∙ place_first b bs h.0

map_before : (x : ℕ) (v : Value) (vs : Items) → x < names → Before v vs → BeforeEach (only x v) (map (only x) (list_of vs))
unfolding Before list_of
map_before x v none l h = tt
map_before x v (more w vs) l h = (only_order x v w l ∙ h.0, map_before x v vs l h.1)

map_rising : (x : ℕ) (vs : Items) → x < names → Ascending vs → Rising (map (only x) (list_of vs))
unfolding Ascending list_of
map_rising x none l h = tt
map_rising x (more v vs) l h = (map_before x v vs l h.0, map_rising x vs l h.1)

gather_only : (x : ℕ) (vs : List Value) → gather vs (matches (name x)) ≡ map (only x) vs
unfolding gather matches
gather_only x [] = refl
gather_only x (v ∷ vs) = ap (λ (l : List Binding). only x v ∷ l) (gather_only x vs)

-- THEOREM: a name over members in order is bound to each of them, in order
pub plain : (x : ℕ) (vs : Items) → x < names → Ascending vs → bindings (name x) (list_of vs) ≡ map (only x) (list_of vs)
plain x vs l h = ap sorted (gather_only x (list_of vs)) ∙ sorted_same (map (only x) (list_of vs)) (map_rising x vs l h)

-- ---- neither 29 nor 30

plain_narrow : (x : ℕ) (vs : List Value) → exists vs (wide (name x)) ≡ false
unfolding exists wide
plain_narrow x [] = refl
plain_narrow x (v ∷ vs) = plain_narrow x vs

pub count_list : (vs : Items) → length (list_of vs) ≡ count vs
unfolding list_of count
count_list none = refl
count_list (more v vs) = ap suc (count_list vs)

-- THEOREM: a name over a set is bound to each member, in order, and nothing is refused
pub plain_formed : (x : ℕ) (vs : Items) → x < names → WellFormed (collection set vs) → formed (name x) (list_of vs) ≡ bound (map (only x) (list_of vs))
plain_formed x vs l h =
    let e = plain x vs l (collection_shaped h) in
    let n = length-map (list_of vs) (only x) in
    let m = count_list vs in
    let s = collection_size set vs in
    let z = h.short in
    let k : length (map (only x) (list_of vs)) ≤ 255 = omega (arith, count_sizes vs) in
    rw (plain_narrow x (list_of vs)) (ap few e ∙ (rw (le-leb (length (map (only x) (list_of vs))) 255 k)))
