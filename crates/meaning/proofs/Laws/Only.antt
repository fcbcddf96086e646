-- Trees all of whose values are of some sort.
use Rattle.std.specs.Prelude.{◌≡◌, refl, Bool, true, false, cond, ℕ}
use Rattle.std.proofs.Common.{subst, ⊎_elim}
use Rattle.std.proofs.Math.Option.{Option, none as absent, some}
use Rattle.prelude.proofs.Absurd.{impossible}
use Rattle.choices.specs.Tree.{Tree, give, stop, bind, Gives}
use Rattle.choices.specs.Outcome.{value}
use Rattle.choices.proofs.Trees.{gives_bind_out}
use Rattle.meaning.specs.Meaning.{or_else}

-- Every value that the tree gives is so.
abbrev pub Only : {A : Type 0} → (A → Type 0) → Tree A → Type 0
Only {A} P t = (a : A) → Gives t (value a) → P a

pub only_give : {A : Type 0} (P : A → Type 0) (a : A) → P a → Only P (give a)
only_give P a h b e = let d : a ≡ b = cc in subst P d h

pub only_stop : {A : Type 0} (P : A → Type 0) (n r : ℕ) → Only P (stop n r)
only_stop P n r b e = impossible cc

pub only_bind : {A B : Type 0} (P : A → Type 0) (Q : B → Type 0) (t : Tree A) (f : A → Tree B) → Only P t → ((a : A) → P a → Only Q (f a)) → Only Q (bind t f)
only_bind P Q t f h k b g =
    ⊎_elim (λ w. let e = w.2 in impossible cc) (λ w. k w.0 (h w.0 w.1) b w.2) (gives_bind_out t f (value b) g)

-- Nothing is said of the values of the first.
abbrev pub Any : {A : Type 0} → A → Type 0
Any a = Unit {0}

pub only_any : {A : Type 0} (t : Tree A) → Only Any t
only_any t a g = tt

pub only_cond : {A : Type 0} (P : A → Type 0) (b : Bool) (t u : Tree A) → Only P t → Only P u → Only P (cond b t u)
only_cond P true t u h k = h
only_cond P false t u h k = k

pub only_else : {A : Type 0} (P : A → Type 0) (n r : ℕ) (x : Option A) → ((a : A) → x ≡ some a → P a) → Only P (or_else n r x)
only_else P n r absent h = only_stop P n r
only_else P n r (some a) h = only_give P a (h a refl)
