-- What is among the splits, the proper ones of them, the cuts and the orders of units.
use Rattle.std.specs.Prelude.{◌≡◌, Bool, cond, ◌⊎◌, ◌↔◌, ◌+◌, length}
use Rattle.std.proofs.Math.Path.{refl, sym, ap, subst}
use Rattle.std.proofs.Common.{ap₂, ◌∙◌, arith}
use Rattle.std.proofs.Math.Bool.{true, false}
use Rattle.std.proofs.Math.Logic.{inl, inr}
use mathlib.Core.List.{List, [], ◌∷◌, ◌++◌, map}
use mathlib.Mathlib.Data.Bool.Basic.{and_intro, and_elim_left, and_elim_right}
use Rattle.prelude.proofs.Absurd.{impossible}
use Rattle.prelude.specs.Membership.{In}
use Rattle.prelude.proofs.Membership.{in_one, in_left, in_right, in_joined, map_in, in_map}
use Rattle.patterns.specs.Ways.{Halves, halves, to_left, to_right, splits, is_non_empty, is_proper, proper, proper_splits, cuts, at_every_place, orders}
use Rattle.patterns.specs.Units.{Shared, NonEmpty, Parted, Inserted, Permuted}
use Rattle.patterns.proofs.Laws.Members.{in_gather, gather_in}

module _ {A : Type 0} where
  -- ---- splits

  split_shared : (xs : List A) (h : Halves A) → In h (splits xs) → Shared xs h.left h.right
  unfolding splits
  split_shared [] h i = let e = in_one h i in (ap (λ (g : Halves A). g.left) e, ap (λ (g : Halves A). g.right) e)
  split_shared (x ∷ xs) h i = go (in_joined h (map (to_left x) (splits xs)) (map (to_right x) (splits xs)) i) (λ g j. split_shared xs g j)
    where
      go : In h (map (to_left x) (splits xs)) ⊎ In h (map (to_right x) (splits xs)) → ((g : Halves A) → In g (splits xs) → Shared xs g.left g.right) → Shared (x ∷ xs) h.left h.right
      go (inl j) rest =
          let (g, k, e) = in_map h (to_left x) (splits xs) j in
          inl (g.left, ap (λ (f : Halves A). f.left) e, subst (Shared xs g.left) (ap (λ (f : Halves A). f.right) (sym e)) (rest g k))
      go (inr j) rest =
          let (g, k, e) = in_map h (to_right x) (splits xs) j in
          inr (g.right, ap (λ (f : Halves A). f.right) e, subst (λ (l : List A). Shared xs l g.right) (ap (λ (f : Halves A). f.left) (sym e)) (rest g k))

  shared_split : (xs ls rs : List A) → Shared xs ls rs → In (halves ls rs) (splits xs)
  unfolding splits
  shared_split [] ls rs h = inl (ap₂ halves h.0 h.1)
  shared_split (x ∷ xs) ls rs (inl (ms, e, h)) =
      in_left (halves ls rs) (map (to_left x) (splits xs)) (map (to_right x) (splits xs))
      (subst (λ (l : List A). In (halves l rs) (map (to_left x) (splits xs))) (sym e) (map_in (halves ms rs) (to_left x) (splits xs) (shared_split xs ms rs h)))
  shared_split (x ∷ xs) ls rs (inr (ms, e, h)) =
      in_right (halves ls rs) (map (to_left x) (splits xs)) (map (to_right x) (splits xs))
      (subst (λ (l : List A). In (halves ls l) (map (to_right x) (splits xs))) (sym e) (map_in (halves ls ms) (to_right x) (splits xs) (shared_split xs ls ms h)))

  -- THEOREM: two halves are among the splits exactly when the units are shared out between them
  pub in_splits : (xs : List A) (h : Halves A) → In h (splits xs) ↔ Shared xs h.left h.right
  in_splits xs h = (split_shared xs h, shared_split xs h.left h.right)

  pub shared_length : (xs ls rs : List A) → Shared xs ls rs → length xs ≡ length ls + length rs
  shared_length [] ls rs h = rw (h.0, h.1) refl
  shared_length (x ∷ xs) ls rs (inl (ms, e, h)) = let l = shared_length xs ms rs h in rw e (omega (arith, l))
  shared_length (x ∷ xs) ls rs (inr (ms, e, h)) = let l = shared_length xs ls ms h in rw e (omega (arith, l))

  -- ---- proper splits

  kept_proper : (hs : List (Halves A)) (h : Halves A) → In h (proper hs) → In h hs × (is_proper h ≡ true)
  unfolding proper
  kept_proper [] h i = absurd i
  kept_proper (g ∷ hs) h i = go (is_proper g) refl i (λ j. kept_proper hs h j)
    where
      go : (t : Bool) → is_proper g ≡ t → In h (cond t (g ∷ proper hs) (proper hs)) → (In h (proper hs) → In h hs × (is_proper h ≡ true)) → In h (g ∷ hs) × (is_proper h ≡ true)
      go true e (inl p) rest = (inl p, ap is_proper p ∙ e)
      go true e (inr j) rest = let (k, t) = rest j in (inr k, t)
      go false e j rest = let (k, t) = rest j in (inr k, t)

  proper_kept : (hs : List (Halves A)) (h : Halves A) → In h hs → is_proper h ≡ true → In h (proper hs)
  unfolding proper
  proper_kept [] h i e = absurd i
  proper_kept (g ∷ hs) h (inl p) e = let f : is_proper g ≡ true = ap is_proper (sym p) ∙ e in rw f (inl p)
  proper_kept (g ∷ hs) h (inr i) e = go (is_proper g) (proper_kept hs h i e)
    where
      go : (t : Bool) → In h (proper hs) → In h (cond t (g ∷ proper hs) (proper hs))
      go true j = inr j
      go false j = j

  non_empty : (xs : List A) → (is_non_empty xs ≡ true) ↔ NonEmpty xs
  non_empty [] = (λ e. impossible cc, λ h. absurd (omega arith))
  non_empty (x ∷ xs) = (λ e. omega arith, λ h. refl)

  -- a split is proper exactly when neither half is empty
  pub proper_halves : (h : Halves A) → (is_proper h ≡ true) ↔ (NonEmpty h.left × NonEmpty h.right)
  proper_halves h = (
    λ e. ((non_empty h.left).0 (and_elim_left (is_non_empty h.left) (is_non_empty h.right) e), (non_empty h.right).0 (and_elim_right (is_non_empty h.left) (is_non_empty h.right) e)),
    λ (l, r). and_intro ((non_empty h.left).1 l) ((non_empty h.right).1 r),
  )

  -- THEOREM: two halves are among the proper splits exactly when the units are shared out between them and neither is empty
  pub in_proper : (xs : List A) (h : Halves A) → In h (proper_splits xs) ↔ Parted xs h.left h.right
  in_proper xs h = (
    λ i. let (j, e) = kept_proper (splits xs) h i in let (l, r) = (proper_halves h).0 e in ((in_splits xs h).0 j, l, r),
    λ (s, l, r). proper_kept (splits xs) h ((in_splits xs h).1 s) ((proper_halves h).1 (l, r)),
  )

  -- ---- cuts

  cut_joined : (xs : List A) (h : Halves A) → In h (cuts xs) → xs ≡ h.left ++ h.right
  unfolding cuts
  cut_joined [] h i = let e = in_one h i in sym (ap₂ ◌++◌ (ap (λ (g : Halves A). g.left) e) (ap (λ (g : Halves A). g.right) e))
  cut_joined (x ∷ xs) h (inl e) = sym (ap₂ ◌++◌ (ap (λ (g : Halves A). g.left) e) (ap (λ (g : Halves A). g.right) e))
  cut_joined (x ∷ xs) h (inr i) =
      let (g, k, e) = in_map h (to_left x) (cuts xs) i in
      ap (λ (l : List A). x ∷ l) (cut_joined xs g k) ∙ sym (ap₂ ◌++◌ (ap (λ (f : Halves A). f.left) e) (ap (λ (f : Halves A). f.right) e))

  joined_cut : (ls rs : List A) → In (halves ls rs) (cuts (ls ++ rs))
  unfolding cuts
  joined_cut [] [] = inl refl
  joined_cut [] (r ∷ rs) = inl refl
  joined_cut (l ∷ ls) rs = inr (map_in (halves ls rs) (to_left l) (cuts (ls ++ rs)) (joined_cut ls rs))

  -- THEOREM: two halves are among the cuts exactly when they are the whole, one after the other
  pub in_cuts : (xs : List A) (h : Halves A) → In h (cuts xs) ↔ (xs ≡ h.left ++ h.right)
  in_cuts xs h = (cut_joined xs h, λ e. subst (λ (l : List A). In h (cuts l)) (sym e) (joined_cut h.left h.right))

  -- ---- orders

  placed_inserted : (x : A) (ys zs : List A) → In zs (at_every_place x ys) → Inserted x ys zs
  unfolding at_every_place
  placed_inserted x [] zs i = ([], [], refl, in_one zs i)
  placed_inserted x (y ∷ ys) zs (inl e) = ([], y ∷ ys, refl, e)
  placed_inserted x (y ∷ ys) zs (inr i) =
      let (ws, k, e) = in_map zs (λ (l : List A). y ∷ l) (at_every_place x ys) i in
      let (l, r, p, q) = placed_inserted x ys ws k in
      (y ∷ l, r, ap (λ (m : List A). y ∷ m) p, e ∙ ap (λ (m : List A). y ∷ m) q)

  inserted_placed : (x : A) (l r : List A) → In (l ++ x ∷ r) (at_every_place x (l ++ r))
  unfolding at_every_place
  inserted_placed x [] [] = inl refl
  inserted_placed x [] (y ∷ r) = inl refl
  inserted_placed x (y ∷ l) r = inr (map_in (l ++ x ∷ r) (λ (m : List A). y ∷ m) (at_every_place x (l ++ r)) (inserted_placed x l r))

  -- one more unit, at every place
  pub in_placed : (x : A) (ys zs : List A) → In zs (at_every_place x ys) ↔ Inserted x ys zs
  in_placed x ys zs = (placed_inserted x ys zs, λ h. back h)
    where
      back : Inserted x ys zs → In zs (at_every_place x ys)
      back (l, r, p, q) = subst (λ (m : List A). In m (at_every_place x ys)) (sym q) (subst (λ (m : List A). In (l ++ x ∷ r) (at_every_place x m)) (sym p) (inserted_placed x l r))

  order_permuted : (xs zs : List A) → In zs (orders xs) → Permuted xs zs
  unfolding orders
  order_permuted [] zs i = in_one zs i
  order_permuted (x ∷ xs) zs i =
      let (ys, j, k) = in_gather zs (orders xs) (at_every_place x) i in
      (ys, order_permuted xs ys j, placed_inserted x ys zs k)

  permuted_order : (xs zs : List A) → Permuted xs zs → In zs (orders xs)
  unfolding orders
  permuted_order [] zs e = inl e
  permuted_order (x ∷ xs) zs (ys, p, h) = gather_in ys zs (orders xs) (at_every_place x) (permuted_order xs ys p) ((in_placed x ys zs).1 h)

  -- THEOREM: a list is among the orders exactly when it has the units in some order
  pub in_orders : (xs zs : List A) → In zs (orders xs) ↔ Permuted xs zs
  in_orders xs zs = (order_permuted xs zs, permuted_order xs zs)
