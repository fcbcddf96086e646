-- What is entered and what is due, level by level, and the rows of each level.
use mathlib.Core.Path.{◌≡◌, sym, subst}
use mathlib.Core.Logic.{◌⊎◌, inl, inr}
use mathlib.Core.List.{List, [], ◌∷◌, ◌++◌}
use Prim.Native.Nat.{ℕ, ◌≤◌, ◌<◌}
use native.Mathlib.Decide.{ℕ_discrete}
use native.Mathlib.Omega.{arith}
use lib.ListN.{length}
use Rattle.prelude.specs.Membership.{In}
use Rattle.prelude.proofs.Membership.{in_left, in_right, in_joined}
use Rattle.prelude.proofs.Truth.{by_lower}
use Rattle.patterns.specs.Binding.{Binding}
use Rattle.matching.specs.Leaf.{Stands}
use Rattle.forming.specs.Rows.{Appended}
use Rattle.forming.specs.Frames.{frame_at}
use Rattle.forming.specs.Stack.{Level, LevelIs, StackIs, Accounted, RowsAmong, RowsOf, Traced}
use Rattle.forming.proofs.Rowing.{row_kept}

-- fewer matches above, more entered or pending, fewer levels hit
pub accounted_with : (all all' pending pending' entered entered' : List Binding) (hit hit' : ℕ) (ls : List Level) → ((c : Binding) → In c all' → In c all) → ((c : Binding) → In c entered ⊎ In c pending → In c entered' ⊎ In c pending') → hit' ≤ hit
    → Accounted all pending entered hit ls → Accounted all' pending' entered' hit' ls
accounted_with all all' pending pending' entered entered' hit hit' [] f g k h = omega arith
accounted_with all all' pending pending' entered entered' hit hit' (l ∷ ls) f g k (x, y, z, w) = (
  λ c i. x c (f c i),
  λ c i. g c (y c i),
  λ m. z (omega arith),
  accounted_with (l.done ++ l.due) (l.done ++ l.due) (pending ++ l.due) (pending' ++ l.due) entered entered' hit hit' ls (λ c i. i) more k w,
)
  where
    old : (c : Binding) → In c entered' ⊎ In c pending' → In c entered' ⊎ In c (pending' ++ l.due)
    old c (inl i) = inl i
    old c (inr i) = inr (in_left c pending' l.due i)

    joined : (c : Binding) → In c pending ⊎ In c l.due → In c entered' ⊎ In c (pending' ++ l.due)
    joined c (inl i) = old c (g c (inr i))
    joined c (inr i) = inr (in_right c pending' l.due i)

    more : (c : Binding) → In c entered ⊎ In c (pending ++ l.due) → In c entered' ⊎ In c (pending' ++ l.due)
    more c (inl i) = old c (g c (inl i))
    more c (inr i) = joined c (in_joined c pending l.due i)

-- a match is one of every level's
pub accounted_hit : (all pending entered : List Binding) (hit hit' : ℕ) (ls : List Level) (b : Binding) → In b all → Accounted all pending entered hit ls → Accounted all pending entered hit' ls
accounted_hit all pending entered hit hit' [] b i h = omega arith
accounted_hit all pending entered hit hit' (l ∷ ls) b i (x, y, z, w) =
    (x, y, λ m. (b, x b i), accounted_hit (l.done ++ l.due) (pending ++ l.due) entered hit hit' ls b (in_left b l.done l.due (x b i)) w)

-- ---- rows appended

module _ (s found rows : List ℕ) (n : ℕ) (rows' : List ℕ) (n' : ℕ) (h : Appended s found rows n rows' n') (b : Binding) (st : Stands s found b) where
  -- those that were there stay
  among_kept : (from to : ℕ) (bs : List Binding) → to ≤ n → RowsAmong s rows from to bs → RowsAmong s rows' from to bs
  among_kept from to bs l f r u m = let (o, i, j) = f r u m in (o, row_kept n (omega arith) h.kept i, j)

  -- and a new one is the match
  among_more : (from : ℕ) (bs : List Binding) → In b bs → RowsAmong s rows from n bs → RowsAmong s rows' from n' bs
  among_more from bs i f r u m = by_lower r n (λ k. among_kept from n bs (omega arith) f r u k) (λ k. (b, h.new r k m b st, i))

  pub traced_with : (all pending entered entered' : List Binding) (hit : ℕ) (ls : List Level) → In b all → ((c : Binding) → In c entered → In c entered') → Accounted all pending entered hit ls → Traced s rows n entered ls → Traced s rows' n' entered' ls
  traced_with all pending entered entered' hit [] i f k t = tt
  traced_with all pending entered entered' hit (l ∷ ls) i f (x, y, z, w) (t, ts) = (
    record {
      few = omega (arith, t.few, h.low);
      whole = λ c j. f c (t.whole c j);
      past = among_kept l.since l.seen l.past t.few t.past;
      done = among_more l.since l.done (x b i) t.done;
    },
    traced_with (l.done ++ l.due) (pending ++ l.due) entered entered' hit ls (in_left b l.done l.due (x b i)) f w ts,
  )

-- ---- one of the levels

-- its frame, its rows, and what is above it
abbrev pub LevelAt : List ℕ → List ℕ → List ℕ → List ℕ → List ℕ → ℕ → List Binding → List Binding → ℕ → Type 0
LevelAt table s a frames rows n entered more j = (l : Level) × LevelIs table s a j (frame_at frames j) l × RowsOf s rows n entered l × ((c : Binding) → In c more → In c l.done)

module _ (table s a frames rows : List ℕ) (n : ℕ) (entered more : List Binding) (hit : ℕ) where
  pub level_at : (all pending : List Binding) (high : ℕ) (found : List ℕ) (ls : List Level) → StackIs table s a frames high found ls → Accounted all pending entered hit ls → Traced s rows n entered ls → ((c : Binding) → In c more → In c all) → (j : ℕ) → j < length ls
      → LevelAt table s a frames rows n entered more j
  level_at all pending high found [] st ac tr f j m = absurd (omega arith)
  level_at all pending high found (l ∷ ls) (x, u, g, w) (p, q, r, t) (v, vs) f j m =
      go (ℕ_discrete j (length ls)) (λ k. level_at (l.done ++ l.due) (pending ++ l.due) (frame_at frames (length ls)).top l.words ls w t vs (λ c i. in_left c l.done l.due (p c (f c i))) j k)
    where
      go : Dec (j ≡ length ls) → (j < length ls → LevelAt table s a frames rows n entered more j) → LevelAt table s a frames rows n entered more j
      go (yes e) on = (l, subst (λ (i : ℕ). LevelIs table s a i (frame_at frames i) l) (sym e) x, v, λ c i. p c (f c i))
      go (no e) on = on (omega (arith, e))
