-- What each answer of forming the bindings says.
use Rattle.std.specs.Prelude.{◌≡◌, refl, Bool, true, false, cond, List, [], ◌∷◌, ◌≤◌, leb, length}
use Rattle.std.proofs.Common.{leb-true, le-leb}
use Rattle.prelude.proofs.Absurd.{impossible}
use Rattle.values.specs.Value.{Value}
use Rattle.patterns.specs.Ways.{exists}
use Rattle.patterns.specs.Binding.{Binding}
use Rattle.patterns.specs.Pattern.{Pattern, wide, loose}
use Rattle.patterns.specs.Binder.{most_bindings, bindings, bound, refused, formed}
use Rattle.patterns.proofs.Laws.Single.{single}

-- The bindings were formed: neither 29 nor 30.
pub record Forms (p : Pattern) (vs : List Value) (bs : List Binding) : Type 0 where
  pub all : bs ≡ bindings p vs
  pub few_enough : length bs ≤ most_bindings
  pub narrow : exists vs (wide p) ≡ false

-- THEOREM: they are all the bindings, at most 255, and no set was too large
pub formed_bound : (p : Pattern) (vs : List Value) (bs : List Binding) → formed p vs ≡ bound bs → Forms p vs bs
formed_bound p vs bs e = go (exists vs (wide p)) refl (leb (length (bindings p vs)) most_bindings) refl e
  where
    go : (t : Bool) → exists vs (wide p) ≡ t → (u : Bool) → leb (length (bindings p vs)) most_bindings ≡ u → cond t (refused 29) (cond u (bound (bindings p vs)) (refused 30)) ≡ bound bs → Forms p vs bs
    go true f u g e = impossible cc
    go false f true g e =
        let d : bs ≡ bindings p vs = cc in
        record { all = d; few_enough = rw d (leb-true (length (bindings p vs)) most_bindings g); narrow = f }
    go false f false g e = impossible cc

pub bound_formed : (p : Pattern) (vs : List Value) → exists vs (wide p) ≡ false → length (bindings p vs) ≤ most_bindings → formed p vs ≡ bound (bindings p vs)
bound_formed p vs f h = rw (f, le-leb (length (bindings p vs)) most_bindings h)

-- THEOREM: a pattern that is not loose forms at most one binding for a value
pub single_formed : (p : Pattern) (v : Value) (bs : List Binding) → loose p ≡ false → formed p (v ∷ []) ≡ bound bs → length bs ≤ 1
single_formed p v bs l e = let f = formed_bound p (v ∷ []) bs e in rw f.all (single p v l)
