-- Every choice has 1 to 255 ways, every refusal in a tree is one of 20 to 30, and its place is the record or one below it.
use Rattle.std.specs.Prelude.{◌≡◌, refl, Bool, true, false, cond, List, [], ◌∷◌, ℕ, zero, suc, ◌≤◌, ◌<◌, ltb}
use Rattle.std.proofs.Common.{arith, ltb-true}
use Rattle.prelude.proofs.Absurd.{impossible}
use Rattle.choices.specs.Tree.{Tree, give, stop, choose, bind, Gives, Full, Numbered, stopped, beyond, follow, most_choices}
use Rattle.choices.specs.Outcome.{value}
use Rattle.choices.specs.Lists.{Ended, Complete}
use Rattle.choices.proofs.Trees.{full_bind, numbered_bind}
use Rattle.values.specs.Value.{Value}
use Rattle.patterns.specs.Binder.{most_bindings}
use Rattle.meaning.specs.State.{State, under}
use Rattle.meaning.specs.Meaning.{Sheet, meaning_to, meaning}
use Rattle.meaning.proofs.Laws.Equation.{covered, Each, AllBelow, Downward, plain_operands}
use Rattle.meaning.proofs.Laws.Closed.{Closed, closed_node}

-- ---- ways and numbers

-- No choice has more than 255 ways: an entry is a byte.
abbrev pub Narrow : {A : Type 0} → Tree A → Type 0
Narrow (give a) = Unit {0}
Narrow (stop n p) = Unit {0}
Narrow (choose p n ways) = (n ≤ most_bindings) × ((i : ℕ) → i < n → Narrow (ways i))

narrow_bind : {A B : Type 0} (t : Tree A) (f : A → Tree B) → Narrow t → ((a : A) → Gives t (value a) → Narrow (f a)) → Narrow (bind t f)
narrow_bind (give a) f h k = k a refl
narrow_bind (stop n p) f h k = tt
narrow_bind (choose p n ways) f h k = (h.0, λ i l. narrow_bind (ways i) f (h.1 i l) (λ a g. k a (i, l, g)))

pub record Sure {A : Type 0} (t : Tree A) : Type 0 where
  pub full : Full t
  pub numbered : Numbered t
  pub narrow : Narrow t

sure_closed : (r : ℕ) → Closed (λ A t. Sure t) (Unit {0}) r
sure_closed r =
    record {
      of_give = λ A a. record { full = tt; numbered = tt; narrow = tt };
      of_stop = λ A n h. record { full = tt; numbered = h; narrow = tt };
      of_choice = λ may bs h k. record { full = (h, λ i l. tt); numbered = λ i l. tt; narrow = (k, λ i l. tt) };
      of_bind = λ A B t f h k.
          record {
            full = full_bind t f h.full (λ a g. (k a g).full);
            numbered = numbered_bind t f h.numbered (λ a g. (k a g).numbered);
            narrow = narrow_bind t f h.narrow (λ a g. (k a g).narrow);
          };
    }

-- What holds of all records holds of each of these.
each-one : (P : ℕ → Type 0) → ((a : ℕ) → P a) → (os : List ℕ) → Each P os
each-one P h [] = tt
each-one P h (a ∷ os) = (h a, each-one P h os)

sure_to : (s : Sheet) (n r : ℕ) (ρ : State) → Sure (meaning_to s n r ρ)
unfolding meaning_to
sure_to s zero r ρ = (sure_closed r).of_stop Value 20 (omega arith, omega arith)
sure_to s (suc n) r ρ =
    closed_node (λ A t. Sure t) (Unit {0}) r (sure_closed r) (λ a σ. meaning_to s n a σ) ρ s.pattern (s.node r) (λ c. tt)
    (each-one (λ a. Sure (meaning_to s n a ρ)) (λ a. sure_to s n a ρ) (plain_operands (s.node r)))
    (each-one _ (λ a β c. sure_to s n a (under ρ β)) (covered (s.node r)))

-- THEOREM: a run never meets a choice with no way or with more than 255, and refuses only by the numbers of document 01.
pub sure_meaning : (s : Sheet) (r : ℕ) (ρ : State) → Sure (meaning s r ρ)
unfolding meaning
sure_meaning s r ρ = sure_to s (suc r) r ρ

-- Every entry is below 255.
abbrev pub Bytes : List ℕ → Type 0
Bytes [] = Unit {0}
Bytes (c ∷ l) = (c < most_bindings) × Bytes l

follow_bytes : {A : Type 0} (t : Tree A) (k : ℕ) (l : List ℕ) → Narrow t → Ended (follow t k l) → Bytes l
follow_bytes (give a) k [] h e = tt
follow_bytes (give a) k (c ∷ l) h e = impossible cc
follow_bytes (stop n p) k [] h e = tt
follow_bytes (stop n p) k (c ∷ l) h e = impossible cc
follow_bytes (choose p n ways) zero [] h e = tt
follow_bytes (choose p n ways) zero (c ∷ l) h e = impossible cc
follow_bytes (choose p n ways) (suc k) [] h e = absurd e
follow_bytes (choose p n ways) (suc k) (c ∷ l) h e = go (ltb c n) refl e (λ i f. follow_bytes (ways c) k l (h.1 c i) f)
  where
    go : (b : Bool) → ltb c n ≡ b → Ended (cond b (follow (ways c) k l) (beyond p n (c ∷ l))) → (c < n → Ended (follow (ways c) k l) → Bytes l) → Bytes (c ∷ l)
    go true d e rest = let i = ltb-true c n d in let m = h.0 in (omega arith, rest i e)
    go false d e rest = absurd e

-- THEOREM: the entries of a complete list are bytes.
pub complete_bytes : (s : Sheet) (r : ℕ) (ρ : State) (l : List ℕ) → Complete (meaning s r ρ) l → Bytes l
complete_bytes s r ρ l e = follow_bytes (meaning s r ρ) most_choices l (sure_meaning s r ρ).narrow e

-- ---- places

-- Every refusal and every choice is at the record r or at one below it.
abbrev pub Placed : {A : Type 0} → ℕ → Tree A → Type 0
Placed r (give a) = Unit {0}
Placed r (stop n p) = p ≤ r
Placed r (choose p n ways) = (p ≤ r) × ((i : ℕ) → i < n → Placed r (ways i))

placed_bind : {A B : Type 0} (r : ℕ) (t : Tree A) (f : A → Tree B) → Placed r t → ((a : A) → Gives t (value a) → Placed r (f a)) → Placed r (bind t f)
placed_bind r (give a) f h k = k a refl
placed_bind r (stop n p) f h k = h
placed_bind r (choose p n ways) f h k = (h.0, λ i l. placed_bind r (ways i) f (h.1 i l) (λ a g. k a (i, l, g)))

placed_up : {A : Type 0} (q r : ℕ) (t : Tree A) → q ≤ r → Placed q t → Placed r t
placed_up q r (give a) l h = tt
placed_up q r (stop n p) l h = omega arith
placed_up q r (choose p n ways) l h = let m = h.0 in (omega arith, λ i j. placed_up q r (ways i) l (h.1 i j))

placed_closed : (r : ℕ) → Closed (λ A t. Placed r t) (Unit {0}) r
placed_closed r =
    record {
      of_give = λ A a. tt;
      of_stop = λ A n h. omega arith;
      of_choice = λ may bs h k. (omega arith, λ i l. tt);
      of_bind = λ A B t f h k. placed_bind r t f h k;
    }

each_lower : (r : ℕ) (P : ℕ → Type 0) → ((a : ℕ) → a < r → P a) → (os : List ℕ) → AllBelow r os → Each P os
each_lower r P h [] l = tt
each_lower r P h (a ∷ os) l = (h a l.0, each_lower r P h os l.1)

placed_to : (s : Sheet) → Downward s → (n r : ℕ) (ρ : State) → Placed r (meaning_to s n r ρ)
unfolding meaning_to
placed_to s d zero r ρ = omega arith
placed_to s d (suc n) r ρ =
    closed_node (λ A t. Placed r t) (Unit {0}) r (placed_closed r) (λ a σ. meaning_to s n a σ) ρ s.pattern (s.node r) (λ c. tt)
    (each_lower r _ (λ a l. placed_up a r (meaning_to s n a ρ) (omega arith) (placed_to s d n a ρ)) (plain_operands (s.node r)) (d r).plain_ones)
    (each_lower r _ (λ a l β c. placed_up a r (meaning_to s n a (under ρ β)) (omega arith) (placed_to s d n a (under ρ β))) (covered (s.node r)) (d r).covered_ones)

-- THEOREM: the place of a refusal is the record evaluated or one below it.
pub placed_meaning : (s : Sheet) → Downward s → (r : ℕ) (ρ : State) → Placed r (meaning s r ρ)
unfolding meaning
placed_meaning s d r ρ = placed_to s d (suc r) r ρ

-- Where every place of a tree is at most r, so is the place of a run's refusal.
pub follow_placed : {A : Type 0} (r : ℕ) (t : Tree A) (k : ℕ) (l : List ℕ) (n p : ℕ) (m : List ℕ) → Placed r t → follow t k l ≡ stopped n p m → p ≤ r
follow_placed r (give a) k l n p m h e = impossible cc
follow_placed r (stop x q) k l n p m h e = let d : q ≡ p = cc in omega arith
follow_placed r (choose q x ways) zero l n p m h e = let d : q ≡ p = cc in let i = h.0 in omega arith
follow_placed r (choose q x ways) (suc k) [] n p m h e = impossible cc
follow_placed {A} r (choose q x ways) (suc k) (c ∷ l) n p m h e = go (ltb c x) refl e (λ i f. follow_placed r (ways c) k l n p m (h.1 c i) f)
  where
    go : (b : Bool) → ltb c x ≡ b → cond b (follow (ways c) k l) (beyond q x (c ∷ l)) ≡ stopped n p m → (c < x → follow (ways c) k l ≡ stopped n p m → p ≤ r) → p ≤ r
    go true d e rest = rest (ltb-true c x d) e
    go false d e rest = impossible cc
