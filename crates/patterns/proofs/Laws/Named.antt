-- What a binding says: each name of the pattern has a value, no other name has one, and no name has two. Every value is well-formed.
use Rattle.std.specs.Prelude.{◌≡◌, refl, Bool, true, false, ◌||◌, ◌⊎◌, List, [], ◌∷◌, ◌++◌, ℕ, ◌≤◌, ◌<◌, eqb, length}
use Rattle.std.proofs.Common.{sym, ap, subst, ◌∙◌, inl, inr, ⊎_elim, arith, get_or-set_same, get_or-set_other, eq-eqb, ne_eqb}
use Rattle.std.proofs.Math.Decide.{ℕ_discrete}
use Rattle.std.proofs.lemmas.List.{get_or-replicate}
use Rattle.prelude.proofs.Absurd.{true_false}
use Rattle.prelude.specs.Membership.{In}
use Rattle.prelude.proofs.Membership.{in_left, in_right, in_joined}
use Rattle.values.specs.Value.{Kind, set, sequence, map as mapping, tuple, Value, collection, keys, size, sizes, Before, Ascending, Shaped, Sound, SoundItems, WellFormed}
use Rattle.values.specs.Entries.{Entry, flat, keys_of}
use Rattle.values.proofs.Encoding.{collection_size}
use Rattle.values.proofs.Listed.{keys_flat, flat_shaped}
use Rattle.values.proofs.Records.{collection_shaped, collection_sound, well_formed_collection}
use Rattle.patterns.specs.Units.{Shared, Inserted, Permuted}
use Rattle.patterns.specs.Binding.{Cell, free, is, clash, Binding, names, nothing, only, cell_of}
use Rattle.patterns.specs.Pattern.{Pattern, name, any, literal, each, halved, Patterns, nil, cons, list_of, items_of, entries_of, UnitOf, units_of, items_in, is_unordered, matches, holds_named, named_each}
use Rattle.patterns.specs.Relation.{Agree, Arranged, Divided, Matches, MatchesEach}
use Rattle.patterns.proofs.Laws.Collected.{items_units}
use Rattle.patterns.proofs.Laws.Matched.{items_list, matched}

-- ---- the cells of one name and of nothing

nothing_cell : (y : ℕ) → y < names → cell_of nothing y ≡ free
nothing_cell y h = get_or-replicate names y free free h

pub only_cell : (x : ℕ) (v : Value) → x < names → cell_of (only x v) x ≡ is v
only_cell x v h = get_or-set_same nothing x (is v) free h

only_other : (x y : ℕ) (v : Value) → (x ≡ y → ⊥) → y < names → cell_of (only x v) y ≡ free
only_other x y v f h = get_or-set_other nothing x y (is v) free (λ e. f (sym e)) ∙ nothing_cell y h

-- ---- the names of a pattern

-- A name of the pattern has a value, any other has none.
abbrev pub Told : Bool → Cell → Type 0
Told true c = (v : Value) × (c ≡ is v)
Told false c = c ≡ free

-- what two say of a name, where they agree
told_both : (s t : Bool) (a b c : Cell) → Told s a → Told t b → Agree a b c → Told (s || t) c
told_both true true a b c (v, p) (w, q) h = let g : Agree (is v) (is w) c = rw (p, q) at h in (v, g.1)
told_both true false a b c (v, p) q h = let g : Agree (is v) free c = rw (p, q) at h in (v, g)
told_both false true a b c p (w, q) h = let g : Agree free (is w) c = rw (p, q) at h in (w, g)
told_both false false a b c p q h = rw (p, q) at h

told_name : (x y : ℕ) (v : Value) → y < names → Dec (x ≡ y) → Told (eqb x y) (cell_of (only x v) y)
told_name x y v h (yes e) = rw (eq-eqb x y e) (v, ap (cell_of (only x v)) (sym e) ∙ only_cell x v (omega arith))
told_name x y v h (no f) = rw (ne_eqb x y f) (only_other x y v f h)

mutual
  unfolding Matches holds_named

  -- THEOREM: the names with a value are those of the pattern; none clashes
  pub told : (p : Pattern) (v : Value) (b : Binding) → Matches p v b → (y : ℕ) → y < names → Told (holds_named p y) (cell_of b y)
  told (name x) v b e y h = rw e (told_name x y v h (ℕ_discrete x y))
  told any v b e y h = ap (λ (c : Binding). cell_of c y) e ∙ nothing_cell y h
  told (literal w) v b (f, e) y h = ap (λ (c : Binding). cell_of c y) e ∙ nothing_cell y h
  told (each k ps) v b (vs, ws, e, n, a, m) y h = told_each ps ws b m y h
  told (halved k p q) v b (vs, ls, rs, c, d, e, s, m, n, j) y h =
      told_both (holds_named p y) (holds_named q y) (cell_of c y) (cell_of d y) (cell_of b y) (told p (collection k (items_of ls)) c m y h) (told q (collection k (items_of rs)) d n y h) (j.agreed y h)

  told_each : (ps : Patterns) (vs : List Value) (b : Binding) → MatchesEach ps vs b → (y : ℕ) → y < names → Told (named_each ps y) (cell_of b y)
  told_each nil vs b e y h = ap (λ (c : Binding). cell_of c y) e ∙ nothing_cell y h
  told_each (cons p ps) [] b m y h = absurd m
  told_each (cons p ps) (v ∷ vs) b (c, d, m, n, j) y h =
      told_both (holds_named p y) (named_each ps y) (cell_of c y) (cell_of d y) (cell_of b y) (told p v c m y h) (told_each ps vs d n y h) (j.agreed y h)

-- ---- parts of a list

-- The first list has some of the units of the second, in their order.
abbrev pub PartOf : {A : Type 0} → List A → List A → Type 0
PartOf ls [] = ls ≡ []
PartOf {A} ls (x ∷ xs) = PartOf ls xs ⊎ ((ms : List A) × (ls ≡ x ∷ ms) × PartOf ms xs)

module _ {A : Type 0} where
  pub part_none : (xs : List A) → PartOf [] xs
  part_none [] = refl
  part_none (x ∷ xs) = inl (part_none xs)

  pub part_self : (xs : List A) → PartOf xs xs
  part_self [] = refl
  part_self (x ∷ xs) = inr (xs, refl, part_self xs)

  part_left : (ls rs : List A) → PartOf ls (ls ++ rs)
  part_left [] rs = part_none rs
  part_left (l ∷ ls) rs = inr (ls, refl, part_left ls rs)

  part_right : (ls rs : List A) → PartOf rs (ls ++ rs)
  part_right [] rs = part_self rs
  part_right (l ∷ ls) rs = inl (part_right ls rs)

  pub shared_left : (xs ls rs : List A) → Shared xs ls rs → PartOf ls xs
  shared_left [] ls rs h = h.0
  shared_left (x ∷ xs) ls rs (inl (ms, e, h)) = inr (ms, e, shared_left xs ms rs h)
  shared_left (x ∷ xs) ls rs (inr (ms, e, h)) = inl (shared_left xs ls ms h)

  pub shared_right : (xs ls rs : List A) → Shared xs ls rs → PartOf rs xs
  shared_right [] ls rs h = h.1
  shared_right (x ∷ xs) ls rs (inl (ms, e, h)) = inl (shared_right xs ms rs h)
  shared_right (x ∷ xs) ls rs (inr (ms, e, h)) = inr (ms, e, shared_right xs ls ms h)

  pub part_in : (ls xs : List A) → PartOf ls xs → (x : A) → In x ls → In x xs
  part_in ls [] e x i = subst (In x) e i
  part_in ls (y ∷ xs) (inl p) x i = inr (part_in ls xs p x i)
  part_in ls (y ∷ xs) (inr (ms, e, p)) x i = ⊎_elim (λ q. inl q) (λ j. inr (part_in ms xs p x j)) (subst (In x) e i)

  pub part_length : (ls xs : List A) → PartOf ls xs → length ls ≤ length xs
  part_length ls [] e = rw e (omega arith)
  part_length ls (x ∷ xs) (inl p) = omega (arith, part_length ls xs p)
  part_length ls (x ∷ xs) (inr (ms, e, p)) = rw e (omega (arith, part_length ms xs p))

-- some of the entries: their keys, and their items
part_keys : (es fs : List Entry) → PartOf es fs → PartOf (list_of (keys_of es)) (list_of (keys_of fs))
unfolding keys_of list_of
part_keys es [] e = rw e refl
part_keys es (f ∷ fs) (inl p) = inl (part_keys es fs p)
part_keys es (f ∷ fs) (inr (ms, e, p)) = rw e (inr (list_of (keys_of ms), refl, part_keys ms fs p))

part_flat : (es fs : List Entry) → PartOf es fs → PartOf (list_of (flat es)) (list_of (flat fs))
unfolding flat list_of
part_flat es [] e = rw e refl
part_flat es (f ∷ fs) (inl p) = inl (inl (part_flat es fs p))
part_flat es (f ∷ fs) (inr (ms, e, p)) = rw e (inr (f.value ∷ list_of (flat ms), refl, inr (list_of (flat ms), refl, part_flat ms fs p)))

-- some of the units: their items are some of the items
pub part_items : (k : Kind) (ls us : List (UnitOf k)) → PartOf ls us → PartOf (items_in k ls) (items_in k us)
part_items set ls us p = p
part_items sequence ls us p = p
part_items mapping ls us p = part_flat ls us p
part_items tuple ls us p = p

-- ---- parts of a well-formed collection

part_before : (v : Value) (ls vs : List Value) → PartOf ls vs → Before v (items_of vs) → Before v (items_of ls)
unfolding Before items_of
part_before v ls [] e h = rw e tt
part_before v ls (w ∷ vs) (inl p) h = part_before v ls vs p h.1
part_before v ls (w ∷ vs) (inr (ms, e, p)) h = rw e (h.0, part_before v ms vs p h.1)

pub part_ascending : (ls vs : List Value) → PartOf ls vs → Ascending (items_of vs) → Ascending (items_of ls)
unfolding Ascending items_of
part_ascending ls [] e h = rw e tt
part_ascending ls (w ∷ vs) (inl p) h = part_ascending ls vs p h.1
part_ascending ls (w ∷ vs) (inr (ms, e, p)) h = rw e (part_before w ms vs p h.0, part_ascending ms vs p h.1)

pub part_sound : (ls vs : List Value) → PartOf ls vs → SoundItems (items_of vs) → SoundItems (items_of ls)
unfolding SoundItems items_of
part_sound ls [] e h = rw e tt
part_sound ls (w ∷ vs) (inl p) h = part_sound ls vs p h.1
part_sound ls (w ∷ vs) (inr (ms, e, p)) h = rw e (h.0, part_sound ms vs p h.1)

pub part_sizes : (ls vs : List Value) → PartOf ls vs → sizes (items_of ls) ≤ sizes (items_of vs)
unfolding sizes items_of
part_sizes ls [] e = rw e (omega arith)
part_sizes ls (w ∷ vs) (inl p) = omega (arith, part_sizes ls vs p)
part_sizes ls (w ∷ vs) (inr (ms, e, p)) = rw e (omega (arith, part_sizes ms vs p))

-- sets, sequences and maps, of which some units are again one
abbrev pub Divides : Kind → Type 0
Divides set = Unit {0}
Divides sequence = Unit {0}
Divides mapping = Unit {0}
Divides tuple = ⊥

pub divides : (k : Kind) → is_unordered k ≡ true → Divides k
divides set u = tt
divides sequence u = true_false (sym u)
divides mapping u = tt
divides tuple u = true_false (sym u)

part_rising : (es fs : List Entry) → PartOf es fs → Shaped mapping (items_of (list_of (flat fs))) → Shaped mapping (items_of (list_of (flat es)))
part_rising es fs p h =
    let r : Ascending (keys_of fs) = subst Ascending (ap keys (items_list (flat fs)) ∙ keys_flat fs) h.1 in
    let q = part_ascending (list_of (keys_of es)) (list_of (keys_of fs)) (part_keys es fs p) (subst Ascending (sym (items_list (keys_of fs))) r) in
    subst (Shaped mapping) (sym (items_list (flat es))) (flat_shaped es (subst Ascending (items_list (keys_of es)) q))

pub part_shaped : (k : Kind) (ls us : List (UnitOf k)) → Divides k → PartOf ls us → Shaped k (items_of (items_in k us)) → Shaped k (items_of (items_in k ls))
part_shaped set ls us d p h = part_ascending ls us p h
part_shaped sequence ls us d p h = tt
part_shaped mapping ls us d p h = part_rising ls us p h
part_shaped tuple ls us d p h = absurd d

-- THEOREM: some units of a well-formed set, sequence or map are one again
pub part_fine : (k : Kind) (ls us : List (UnitOf k)) → Divides k → PartOf ls us → WellFormed (collection k (items_of (items_in k us))) → WellFormed (collection k (items_of (items_in k ls)))
part_fine k ls us d p h =
    let n = collection_size k (items_of (items_in k us)) in
    let s = h.short in
    let q = part_items k ls us p in
    well_formed_collection (part_shaped k ls us d p (collection_shaped h)) (part_sound (items_in k ls) (items_in k us) q (collection_sound h)) (omega (arith, part_sizes (items_in k ls) (items_in k us) q))

-- Both halves have some of the units.
abbrev Halved : (k : Kind) → List Value → List Value → List Value → Type 0
Halved k vs ls rs = (ms ns : List (UnitOf k)) × Divides k × PartOf ms (units_of k vs) × PartOf ns (units_of k vs) × (ls ≡ items_in k ms) × (rs ≡ items_in k ns)

halves_of : (k : Kind) (vs ls rs : List Value) → Divided k vs ls rs → Halved k vs ls rs
halves_of set vs ls rs (h, l, r) = (ls, rs, tt, shared_left vs ls rs h, shared_right vs ls rs h, refl, refl)
halves_of sequence vs ls rs e = (ls, rs, tt, subst (PartOf ls) (sym e) (part_left ls rs), subst (PartOf rs) (sym e) (part_right ls rs), refl, refl)
halves_of mapping vs ls rs (es, fs, (h, l, r), d, e) = (es, fs, tt, shared_left (entries_of vs) es fs h, shared_right (entries_of vs) es fs h, d, e)
halves_of tuple vs ls rs h = absurd h

-- and so each is well-formed
halves_fine : (k : Kind) (vs ls rs : List Value) → Divided k vs ls rs → WellFormed (collection k (items_of vs)) → WellFormed (collection k (items_of ls)) × WellFormed (collection k (items_of rs))
halves_fine k vs ls rs s h =
    let (ms, ns, t, l, r, d, e) = halves_of k vs ls rs s in
    let g = subst (λ (us : List Value). WellFormed (collection k (items_of us))) (sym (items_units k vs (collection_shaped h))) h in
    (rw d (part_fine k ms (units_of k vs) t l g), rw e (part_fine k ns (units_of k vs) t r g))

-- ---- the items of a well-formed collection

item_sound : (v : Value) (vs : List Value) → In v vs → SoundItems (items_of vs) → Sound v
unfolding SoundItems items_of
item_sound v [] i h = absurd i
item_sound v (w ∷ vs) (inl e) h = rw e h.0
item_sound v (w ∷ vs) (inr i) h = item_sound v vs i h.1

item_size : (v : Value) (vs : List Value) → In v vs → size v ≤ sizes (items_of vs)
unfolding sizes items_of
item_size v [] i = absurd i
item_size v (w ∷ vs) (inl e) = rw e (omega arith)
item_size v (w ∷ vs) (inr i) = omega (arith, item_size v vs i)

pub item_fine : (k : Kind) (vs : List Value) → WellFormed (collection k (items_of vs)) → (v : Value) → In v vs → WellFormed v
item_fine k vs h v i =
    let n = collection_size k (items_of vs) in
    let s = h.short in
    record { sound = item_sound v vs i (collection_sound h); short = omega (arith, item_size v vs i) }

module _ {A : Type 0} where
  inserted_in : (y x : A) (ys zs : List A) → Inserted x ys zs → In y zs → (y ≡ x) ⊎ In y ys
  inserted_in y x ys zs (l, r, p, q) i = go (in_joined y l (x ∷ r) (subst (In y) q i))
    where
      go : In y l ⊎ In y (x ∷ r) → (y ≡ x) ⊎ In y ys
      go (inl j) = inr (subst (In y) (sym p) (in_left y l r j))
      go (inr (inl e)) = inl e
      go (inr (inr j)) = inr (subst (In y) (sym p) (in_right y l r j))

  pub permuted_in : (y : A) (xs zs : List A) → Permuted xs zs → In y zs → In y xs
  permuted_in y [] zs e i = subst (In y) e i
  permuted_in y (x ∷ xs) zs (ys, p, h) i = ⊎_elim (λ e. inl e) (λ j. inr (permuted_in y xs ys p j)) (inserted_in y x ys zs h i)

-- an item of entries is the key or the value of one of them
flat_in : (v : Value) (es : List Entry) → In v (list_of (flat es)) → (e : Entry) × In e es × ((v ≡ e.key) ⊎ (v ≡ e.value))
unfolding flat list_of
flat_in v [] i = absurd i
flat_in v (e ∷ es) (inl p) = (e, inl refl, inl p)
flat_in v (e ∷ es) (inr (inl p)) = (e, inl refl, inr p)
flat_in v (e ∷ es) (inr (inr i)) = let (f, j, p) = flat_in v es i in (f, inr j, p)

in_entries : (v : Value) (vs : List Value) (e : Entry) → In e (entries_of vs) → (v ≡ e.key) ⊎ (v ≡ e.value) → In v vs
unfolding entries_of
in_entries v [] e i p = absurd i
in_entries v (k ∷ []) e i p = absurd i
in_entries v (k ∷ w ∷ vs) e (inl q) (inl p) = inl (p ∙ ap (λ (f : Entry). f.key) q)
in_entries v (k ∷ w ∷ vs) e (inl q) (inr p) = inr (inl (p ∙ ap (λ (f : Entry). f.value) q))
in_entries v (k ∷ w ∷ vs) e (inr i) p = inr (inr (in_entries v vs e i p))

pub arranged_in : (k : Kind) (v : Value) (vs ws : List Value) → Arranged k vs ws → In v ws → In v vs
arranged_in set v vs ws h i = permuted_in v vs ws h i
arranged_in sequence v vs ws e i = subst (In v) e i
arranged_in mapping v vs ws (es, h, e) i =
    let (f, j, p) = flat_in v es (subst (In v) e i) in
    in_entries v vs f (permuted_in f (entries_of vs) es h j) p
arranged_in tuple v vs ws e i = subst (In v) e i

-- ---- every value that is bound is well-formed

-- If the cell has a value, it is well-formed.
abbrev pub FineCell : Cell → Type 0
FineCell free = Unit {0}
FineCell (is v) = WellFormed v
FineCell clash = Unit {0}

fine_both : (a b c : Cell) → FineCell a → FineCell b → Agree a b c → FineCell c
fine_both free free c f g e = rw e tt
fine_both free (is w) c f g e = rw e g
fine_both free clash c f g e = absurd e
fine_both (is v) free c f g e = rw e f
fine_both (is v) (is w) c f g e = rw e.1 f
fine_both (is v) clash c f g e = absurd e
fine_both clash b c f g e = absurd e

fine_free : {c : Cell} → c ≡ free → FineCell c
fine_free e = rw e tt

fine_name : (x y : ℕ) (v : Value) → WellFormed v → y < names → Dec (x ≡ y) → FineCell (cell_of (only x v) y)
fine_name x y v f h (yes e) = let d : cell_of (only x v) y ≡ is v = ap (cell_of (only x v)) (sym e) ∙ only_cell x v (omega arith) in rw d f
fine_name x y v f h (no g) = fine_free (only_other x y v g h)

mutual
  unfolding Matches

  -- THEOREM: a well-formed value is matched with well-formed values alone
  pub fine : (p : Pattern) (v : Value) (b : Binding) → WellFormed v → Matches p v b → (y : ℕ) → y < names → FineCell (cell_of b y)
  fine (name x) v b f e y h = rw e (fine_name x y v f h (ℕ_discrete x y))
  fine any v b f e y h = fine_free (ap (λ (c : Binding). cell_of c y) e ∙ nothing_cell y h)
  fine (literal w) v b f (g, e) y h = fine_free (ap (λ (c : Binding). cell_of c y) e ∙ nothing_cell y h)
  fine (each k ps) v b f (vs, ws, e, n, a, m) y h =
      let g = subst WellFormed e f in
      fine_each ps ws b (λ w i. item_fine k vs g w (arranged_in k w vs ws a i)) m y h
  fine (halved k p q) v b f (vs, ls, rs, c, d, e, s, m, n, j) y h =
      let g = subst WellFormed e f in
      let (l, r) = halves_fine k vs ls rs s g in
      fine_both (cell_of c y) (cell_of d y) (cell_of b y)
      (fine p (collection k (items_of ls)) c l m y h)
      (fine q (collection k (items_of rs)) d r n y h)
      (j.agreed y h)

  fine_each : (ps : Patterns) (vs : List Value) (b : Binding) → ((v : Value) → In v vs → WellFormed v) → MatchesEach ps vs b → (y : ℕ) → y < names → FineCell (cell_of b y)
  fine_each nil vs b f e y h = fine_free (ap (λ (c : Binding). cell_of c y) e ∙ nothing_cell y h)
  fine_each (cons p ps) [] b f m y h = absurd m
  fine_each (cons p ps) (v ∷ vs) b f (c, d, m, n, j) y h =
      fine_both (cell_of c y) (cell_of d y) (cell_of b y) (fine p v c (f v (inl refl)) m y h) (fine_each ps vs d (λ w i. f w (inr i)) n y h) (j.agreed y h)

-- the same, of a binding that is listed and a value that it gives
pub bound_fine : (p : Pattern) (v : Value) (b : Binding) (y : ℕ) (w : Value) → WellFormed v → In b (matches p v) → y < names → cell_of b y ≡ is w → WellFormed w
bound_fine p v b y w f i h e = let g = fine p v b f (matched p v b i) y h in rw e at g
