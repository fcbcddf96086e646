-- The laws of `bind`: what it keeps, following it under a list, and what it can come to.
use mathlib.Core.Path.{◌≡◌, refl, sym, ap, ◌∙◌, subst}
use mathlib.Core.Bool.{Bool, true, false, cond}
use mathlib.Core.Logic.{◌⊎◌, inl, inr, ⊎_elim}
use mathlib.Core.List.{List, [], ◌∷◌}
use Prim.Native.Nat.{ℕ, zero, suc, ◌≤◌}
use native.Mathlib.Omega.{arith}
use lib.Dec.{ltb}
use Rattle.prelude.proofs.Absurd.{impossible}
use Rattle.choices.specs.Tree.{Tree, give, stop, choose, bind, Full, Numbered, Run, gave, stopped, short, beyond, follow, Gives}
use Rattle.choices.specs.Outcome.{Outcome, value, refusal}

-- ---- equations

pub bind_cong : {A B : Type 0} (t : Tree A) (f g : A → Tree B) → ((a : A) → f a ≡ g a) → bind t f ≡ bind t g
bind_cong (give a) f g h = h a
bind_cong (stop r p) f g h = refl
bind_cong (choose p n ways) f g h = λ i. choose p n (λ c. bind_cong (ways c) f g h i)

pub bind_give : {A : Type 0} (t : Tree A) → bind t give ≡ t
bind_give (give a) = refl
bind_give (stop r p) = refl
bind_give (choose p n ways) = λ i. choose p n (λ c. bind_give (ways c) i)

pub bind_assoc : {A B C : Type 0} (t : Tree A) (f : A → Tree B) (g : B → Tree C) → bind (bind t f) g ≡ bind t (λ a. bind (f a) g)
bind_assoc (give a) f g = refl
bind_assoc (stop r p) f g = refl
bind_assoc (choose p n ways) f g = λ i. choose p n (λ c. bind_assoc (ways c) f g i)

-- ---- following

-- A run goes on where it gave a value.
abbrev pub then_run : {A B : Type 0} → Run A → (A → ℕ → List ℕ → Run B) → Run B
then_run (gave a k l) f = f a k l
then_run (stopped r p l) f = stopped r p l
then_run (short p n) f = short p n
then_run (beyond p n l) f = beyond p n l

onward_cond : {A B : Type 0} (b : Bool) (r s : Run A) (f : A → ℕ → List ℕ → Run B) → then_run (cond b r s) f ≡ cond b (then_run r f) (then_run s f)
onward_cond true r s f = refl
onward_cond false r s f = refl

-- Following one after the other: the second from the choices and entries that the first left.
pub follow_bind : {A B : Type 0} (t : Tree A) (f : A → Tree B) (k : ℕ) (l : List ℕ) → follow (bind t f) k l ≡ then_run (follow t k l) (λ a k' l'. follow (f a) k' l')
follow_bind (give a) f k l = refl
follow_bind (stop r p) f k l = refl
follow_bind (choose p n ways) f zero l = refl
follow_bind (choose p n ways) f (suc k) [] = refl
follow_bind (choose p n ways) f (suc k) (c ∷ l) =
    ap (λ r. cond (ltb c n) r (beyond p n (c ∷ l))) (follow_bind (ways c) f k l)
    ∙ sym (onward_cond (ltb c n) (follow (ways c) k l) (beyond p n (c ∷ l)) (λ a k' l'. follow (f a) k' l'))

-- t, followed from k and l, gives a value from which f comes to the run x.
abbrev pub RunThrough : {A B : Type 0} → Tree A → (A → Tree B) → ℕ → List ℕ → Run B → Type 0
RunThrough {A} t f k l x = (a : A) × (j : ℕ) × (m : List ℕ) × (follow t k l ≡ gave a j m) × (follow (f a) j m ≡ x)

pub run_through : {A B : Type 0} (t : Tree A) (f : A → Tree B) (k : ℕ) (l : List ℕ) (x : Run B) → RunThrough t f k l x → follow (bind t f) k l ≡ x
run_through t f k l x w = follow_bind t f k l ∙ ap (λ y. then_run y (λ a k' l'. follow (f a) k' l')) w.3 ∙ w.4

pub run_stopped : {A B : Type 0} (t : Tree A) (f : A → Tree B) (k : ℕ) (l : List ℕ) (r p : ℕ) (m : List ℕ) → follow t k l ≡ stopped r p m → follow (bind t f) k l ≡ stopped r p m
run_stopped t f k l r p m e = follow_bind t f k l ∙ ap (λ y. then_run y (λ a k' l'. follow (f a) k' l')) e

-- Where both come to a refusal, it is that of the first, or that of the second after a value.
pub stopped_out : {A B : Type 0} (t : Tree A) (f : A → Tree B) (k : ℕ) (l : List ℕ) (r p : ℕ) (m : List ℕ) → follow (bind t f) k l ≡ stopped r p m
    → (follow t k l ≡ stopped r p m) ⊎ RunThrough t f k l (stopped r p m)
stopped_out {A} {B} t f k l r p m e = go (follow t k l) refl (sym (follow_bind t f k l) ∙ e)
  where
    go : (x : Run A) → follow t k l ≡ x → then_run x (λ a k' l'. follow (f a) k' l') ≡ stopped r p m → (follow t k l ≡ stopped r p m) ⊎ RunThrough t f k l (stopped r p m)
    go (gave a j n) d g = inr (a, j, n, d, g)
    go (stopped s q n) d g = let e : s ≡ r = cc in let e' : q ≡ p = cc in let e'' : n ≡ m = cc in inl (d ∙ (λ i. stopped (e i) (e' i) (e'' i)))
    go (short q n) d g = impossible cc
    go (beyond q n y) d g = impossible cc

-- Where both come to a value, the first gave one.
pub gave_out : {A B : Type 0} (t : Tree A) (f : A → Tree B) (k : ℕ) (l : List ℕ) (b : B) (i : ℕ) (m : List ℕ) → follow (bind t f) k l ≡ gave b i m → RunThrough t f k l (gave b i m)
gave_out {A} {B} t f k l b i m e = go (follow t k l) refl (sym (follow_bind t f k l) ∙ e)
  where
    go : (x : Run A) → follow t k l ≡ x → then_run x (λ a k' l'. follow (f a) k' l') ≡ gave b i m → RunThrough t f k l (gave b i m)
    go (gave a j n) d g = (a, j, n, d, g)
    go (stopped s q n) d g = impossible cc
    go (short q n) d g = impossible cc
    go (beyond q n y) d g = impossible cc

-- ---- outcomes

-- The outcome o, of any type, is a refusal of t.
abbrev Refuses : {A B : Type 0} → Tree A → Outcome B → Type 0
Refuses t o = (r : ℕ) × (p : ℕ) × (o ≡ refusal r p) × Gives t (refusal r p)

-- t gives a value from which f gives o.
abbrev Through : {A B : Type 0} → Tree A → (A → Tree B) → Outcome B → Type 0
Through {A} t f o = (a : A) × Gives t (value a) × Gives (f a) o

pub value≢refusal : {A : Type 0} {a : A} {r p : ℕ} → ◌≡◌ {A = Outcome A} (value a) (refusal r p) → ⊥
value≢refusal e = impossible cc

pub gives_bind_out : {A B : Type 0} (t : Tree A) (f : A → Tree B) (o : Outcome B) → Gives (bind t f) o → Refuses t o ⊎ Through t f o
gives_bind_out (give a) f o h = inr (a, refl, h)
gives_bind_out (stop r p) f o h = inl (r, p, h, refl)
gives_bind_out (choose p n ways) f o h =
    ⊎_elim
    (λ w. inl (w.0, w.1, w.2, (h.0, h.1, w.3)))
    (λ w. inr (w.0, (h.0, h.1, w.1), w.2))
    (gives_bind_out (ways h.0) f o h.2)

pub gives_bind_in : {A B : Type 0} (t : Tree A) (f : A → Tree B) (o : Outcome B) → Refuses t o ⊎ Through t f o → Gives (bind t f) o
gives_bind_in (give a) f o (inl w) = absurd (value≢refusal (sym w.3))
gives_bind_in (give a) f o (inr w) = let e : w.0 ≡ a = cc w.1 in subst (λ b. Gives (f b) o) e w.2
gives_bind_in (stop r p) f o (inl w) = w.2 ∙ (let e : ◌≡◌ {A = ℕ} w.0 r = cc w.3 in let e' : ◌≡◌ {A = ℕ} w.1 p = cc w.3 in cc)
gives_bind_in (stop r p) f o (inr w) = absurd (value≢refusal w.1)
gives_bind_in (choose p n ways) f o (inl w) = (w.3.0, w.3.1, gives_bind_in (ways w.3.0) f o (inl (w.0, w.1, w.2, w.3.2)))
gives_bind_in (choose p n ways) f o (inr w) = (w.1.0, w.1.1, gives_bind_in (ways w.1.0) f o (inr (w.0, w.1.2, w.2)))

-- ---- what `bind` keeps

pub full_bind : {A B : Type 0} (t : Tree A) (f : A → Tree B) → Full t → ((a : A) → Gives t (value a) → Full (f a)) → Full (bind t f)
full_bind (give a) f h k = k a refl
full_bind (stop r p) f h k = tt
full_bind (choose p n ways) f h k = (h.0, λ i lt. full_bind (ways i) f (h.1 i lt) (λ a g. k a (i, lt, g)))

pub numbered_bind : {A B : Type 0} (t : Tree A) (f : A → Tree B) → Numbered t → ((a : A) → Gives t (value a) → Numbered (f a)) → Numbered (bind t f)
numbered_bind (give a) f h k = k a refl
numbered_bind (stop r p) f h k = h
numbered_bind (choose p n ways) f h k = λ i lt. numbered_bind (ways i) f (h i lt) (λ a g. k a (i, lt, g))

-- A refusal that the tree gives is one of 20 to 30.
pub numbered_gives : {A : Type 0} (t : Tree A) (r p : ℕ) → Numbered t → Gives t (refusal r p) → (20 ≤ r) × (r ≤ 30)
numbered_gives (give a) r p h g = absurd (value≢refusal (sym g))
numbered_gives (stop s q) r p h g = let e : r ≡ s = cc in (omega (arith, h.0), omega (arith, h.1))
numbered_gives (choose q n ways) r p h g = numbered_gives (ways g.0) r p (h g.0 g.1) g.2
