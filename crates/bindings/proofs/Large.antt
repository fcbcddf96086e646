-- The loop over the members for a set or map too large to split.
use mathlib.Core.Path.{◌≡◌, refl, sym, ap, subst, ◌∙◌}
use mathlib.Core.Bool.{Bool, true, false, ◌||◌, or-false, cond}
use mathlib.Core.Logic.{inl}
use mathlib.Core.List.{List, [], ◌∷◌}
use Prim.Native.Nat.{ℕ, ◌+◌, ◌≤◌, ◌<◌}
use lib.ListN.{length}
use Rattle.integers.specs.Bytes.{word}
use Rattle.values.specs.Value.{Value, size}
use Rattle.values.specs.Place.{ItemsAt, Holds, HoldsItems}
use Rattle.values.proofs.Records.{holds, items-of, word_size, one-item}
use Rattle.tables.specs.Accepted.{records}
use Rattle.parts.specs.Part.{PartIs}
use Rattle.parts.specs.Contract.{whole_at}
use Rattle.patterns.specs.Ways.{exists}
use Rattle.patterns.specs.Pattern.{Pattern, items_of, list_of, wide}
use Rattle.patterns.proofs.Laws.Matched.{items_list}
use Rattle.patterns.specs.Read.{pattern_at}
use Rattle.prelude.proofs.Absurd.{true_false}
use Rattle.bindings.specs.Forming.{Values, Bindable, TellsWideIn, TellsWide}
use Rattle.bindings.proofs.Members.{first-of, none_left}

-- What is told of the value at a place.
abbrev pub TellsAt : List ℕ → ℕ → List ℕ → ℕ → Bool → Type 0
TellsAt table p s at r = (v : Value) → PartIs s (whole_at at) v → r ≡ wide (pattern_at (records table) p) v

-- The members before a place have no set or map too large: the others tell.
abbrev pub Passing : List ℕ → ℕ → List ℕ → ℕ → ℕ → ℕ → Type 0
Passing table p s from to at =
    (vs : List Value) → ItemsAt s from to (items_of vs)
    → (ws : List Value) × ItemsAt s at to (items_of ws) × (exists ws (wide (pattern_at (records table) p)) ≡ exists vs (wide (pattern_at (records table) p)))

module _ (table : List ℕ) (p : ℕ) (s : List ℕ) (from to : ℕ) where
  abbrev P : Pattern
  P = pattern_at (records table) p

  pub passing_start : Passing table p s from to from
  passing_start vs i = (vs, i, refl)

  cons_exists : (ws us : List Value) (v : Value) → ws ≡ v ∷ us → exists ws (wide P) ≡ (wide P v || exists us (wide P))
  unfolding exists
  cons_exists ws us v e = ap (λ (xs : List Value). exists xs (wide P)) e

  none_exists : exists [] (wide P) ≡ false
  unfolding exists
  none_exists = refl

  module _ (at : ℕ) (z : Passing table p s from to at) where
    members : HoldsItems s from to → (ws : List Value) × ItemsAt s at to (items_of ws)
    members h = let w = z (list_of h.0) (subst (ItemsAt s from to) (sym (items_list h.0)) h.1) in (w.0, w.1)

    pub passing_holds : HoldsItems s from to → at < to → Holds s at
    passing_holds h l = let w = members h in holds (first-of s at to w.0 l w.1).first-at

    pub passing_inside : HoldsItems s from to → at < to → (at + word s at ≤ to) × (to ≤ length s)
    passing_inside h l = let w = members h in ((first-of s at to w.0 l w.1).inside, w.1.fits)

    module _ (l : at < to) (r : Bool) (t : TellsAt table p s at r) where
      told : (ws : List Value) (i : ItemsAt s at to (items_of ws)) → exists ws (wide P) ≡ (r || exists (first-of s at to ws l i).others (wide P))
      told ws i =
          let f = first-of s at to ws l i in
          cons_exists ws f.others f.first f.is ∙ ap (λ (b : Bool). b || exists f.others (wide P)) (sym (t f.first (inl (refl, f.first-at))))

      pub one_large : r ≡ true → TellsWideIn table p s from to true
      one_large e vs i =
          let w = z vs i in
          sym (sym w.2 ∙ told w.0 w.1 ∙ ap (λ (b : Bool). b || exists (first-of s at to w.0 l w.1).others (wide P)) e)

      pub passing_more : r ≡ false → (n : ℕ) → n ≡ word s at → Passing table p s from to (at + n)
      passing_more e n q vs i =
          let w = z vs i in
          let f = first-of s at to w.0 l w.1 in (
            f.others,
            subst (λ (k : ℕ). ItemsAt s (at + k) to (items_of f.others)) (sym q) f.others_at,
            sym (told w.0 w.1 ∙ ap (λ (b : Bool). b || exists f.others (wide P)) e) ∙ w.2,
          )

    pub none_large : to ≤ at → TellsWideIn table p s from to false
    none_large l vs i =
        let w = z vs i in
        sym (sym w.2 ∙ ap (λ (xs : List Value). exists xs (wide P)) (none_left s at to w.0 l w.1) ∙ none_exists)

-- ---- over the one value, or the members of the set

module _ (s : List ℕ) (at : ℕ) where
  pub one_held : (t : Bool) → t ≡ true → Bindable s at t → Holds s at
  one_held true e h = holds h.1.1
  one_held false e h = true_false (sym e)

  pub set_held : (t : Bool) → t ≡ false → Bindable s at t → Holds s at
  set_held true e h = true_false e
  set_held false e h = holds h.1

  pub members_at : (vs : List Value) (n : ℕ) → n ≡ word s at → Values s at false vs → ItemsAt s (at + 4) (at + n) (items_of vs)
  members_at vs n q i = subst (λ (k : ℕ). ItemsAt s (at + 4) (at + k) (items_of vs)) (sym (q ∙ word_size i)) (items-of i)

  -- The value at a place, or the members of the set there, stand one after the other.
  pub values_at : (t : Bool) (vs : List Value) (n from : ℕ) → n ≡ word s at → from ≡ cond t at (at + 4) → Values s at t vs → ItemsAt s from (at + n) (items_of vs)
  unfolding items_of
  values_at true vs n from q e (v, i, f) =
      let z : n ≡ size v = q ∙ word_size i in
      rw f (subst (λ (k : ℕ). ItemsAt s k (at + n) (items_of (v ∷ []))) (sym e) (subst (λ (k : ℕ). ItemsAt s at (at + k) (items_of (v ∷ []))) (sym z) (one-item i)))
  values_at false vs n from q e i = subst (λ (k : ℕ). ItemsAt s k (at + n) (items_of vs)) (sym e) (members_at vs n q i)

  pub members_held : (t : Bool) → t ≡ false → Bindable s at t → (n : ℕ) → n ≡ word s at → HoldsItems s (at + 4) (at + n)
  members_held true e h n q = true_false e
  members_held false e h n q = (items_of h.0, members_at h.0 n q h.1)

module _ (table : List ℕ) (p : ℕ) (s : List ℕ) (at : ℕ) (t : Bool) (r : Bool) where
  pub tells_one : t ≡ true → TellsAt table p s at r → TellsWide table p s at t r
  unfolding exists
  tells_one e h vs i = go t e i
    where
      go : (t : Bool) → t ≡ true → Values s at t vs → r ≡ exists vs (wide (pattern_at (records table) p))
      go true e (v, j, q) = h v (inl (refl, j)) ∙ sym (or-false (wide (pattern_at (records table) p) v)) ∙ sym (ap (λ (xs : List Value). exists xs (wide (pattern_at (records table) p))) q)
      go false e i = true_false (sym e)

  pub tells_all : t ≡ false → (n : ℕ) → n ≡ word s at → TellsWideIn table p s (at + 4) (at + n) r → TellsWide table p s at t r
  tells_all e n q h vs i = h vs (members_at s at vs n q (subst (λ (b : Bool). Values s at b vs) e i))
