-- What a sound state holds: its list, with zeros after it; whether entries are left; and what it holds at the end of a list.
use mathlib.Core.Path.{◌≡◌, sym, ap, ap₂, ◌∙◌}
use mathlib.Core.Bool.{Bool}
use mathlib.Core.List.{List, [], ◌∷◌, ◌++◌, append-nil}
use Prim.Native.Nat.{ℕ, suc, ◌+◌, ◌-◌, ◌≤◌, ◌<◌}
use native.Mathlib.Omega.{arith}
use lib.ListN.{length, take, drop, get_or, length-take, length-drop, drop_of_length-le, take-append-drop, replicate, length-replicate, get_or-replicate}
use lib.Seq.{drop-cons, get_or-take, get_or-drop, length-take-le, take-take, ext_get_or}
use Rattle.choices.specs.State.{Choices, View, view, Invariant}
use Rattle.choices.specs.Lists.{padded}
use Rattle.choices.specs.Tree.{Tree, most_choices, Final, refuses, unless_left}
use Rattle.choices.specs.Ran.{at_end}

-- ---- the entries left

-- An entry is left: it is the first of those left.
pub left_cons : (e : List ℕ) (used len : ℕ) → used < len → len ≤ length e → drop used (take len e) ≡ get_or e used 0 ∷ drop (suc used) (take len e)
left_cons e used len h k =
    let l : used < length (take len e) = simp length-take-le (omega arith) in
    drop-cons (take len e) used 0 l ∙ rw get_or-take

pub left_nil : (e : List ℕ) (used len : ℕ) → len ≤ used → drop used (take len e) ≡ []
left_nil e used len h = drop_of_length-le (take len e) {i = used} (simp length-take (omega arith))

module _ (c : Choices) (s : Invariant c) where
  -- A test of the numbers tells whether entries are left.
  nothing_left : c.len ≤ c.used → (view c).left ≡ []
  nothing_left h = left_nil c.entries c.used c.len h

  left_some : c.used < c.len → (view c).left ≡ get_or c.entries c.used 0 ∷ drop (suc c.used) (take c.len c.entries)
  left_some h = left_cons c.entries c.used c.len h (omega arith)

  pub unless_none : {A : Type 0} (p : ℕ) (f : Final A) → c.len ≤ c.used → unless_left (view c).left p f ≡ f
  unless_none p f h = rw (nothing_left h)

  pub unless_some : {A : Type 0} (p : ℕ) (f : Final A) → c.used < c.len → unless_left (view c).left p f ≡ refuses 34 p 0
  unless_some p f h = rw (left_some h)

  -- ---- the list that the state holds

  list_split : (view c).past ++ (view c).left ≡ take c.len c.entries
  list_split =
      ap (λ (l : List ℕ). l ++ drop c.used (take c.len c.entries)) (sym (take-take c.used c.len c.entries s.used_within))
      ∙ take-append-drop c.used (take c.len c.entries)

  -- Its length is that of the entries taken and the entries left.
  pub list_length : c.len ≡ length ((view c).past ++ (view c).left)
  list_length = sym (ap length list_split ∙ length-take-le c.len c.entries (omega arith))

  zeros : drop c.len c.entries ≡ replicate (most_choices - c.len) 0
  zeros =
      let d : length (drop c.len c.entries) ≡ most_choices - c.len = simp length-drop (omega arith) in
      ext_get_or 0 (drop c.len c.entries) (replicate (most_choices - c.len) 0) (d ∙ sym (length-replicate (most_choices - c.len) 0))
      (λ i h. get_or-drop c.len c.entries i 0 ∙ s.zeroed (c.len + i) (omega arith) ∙ sym (get_or-replicate (most_choices - c.len) i 0 0 (omega arith)))

  -- They are its entries, with zeros after them.
  list_entries : c.entries ≡ padded ((view c).past ++ (view c).left)
  list_entries =
      sym (take-append-drop c.len c.entries)
      ∙ ap₂ (λ (a b : List ℕ). a ++ b) (sym list_split) (zeros ∙ ap (λ (n : ℕ). replicate (most_choices - n) 0) list_length)

-- ---- at the end of a complete list

-- The state holds the list l, all used.
pub record Holds (c : Choices) (l : List ℕ) : Type 0 where
  pub len : c.len ≡ length l
  pub used : c.used ≡ c.len
  pub entries : c.entries ≡ padded l

pub end_holds : {A : Type 0} (t : Tree A) (l : List ℕ) (g : Bool) (c : Choices) → Invariant c → view c ≡ at_end t l g → Holds c l
end_holds t l g c s e =
    let p : (view c).past ≡ l = ap (λ (v : View). v.past) e in
    let q : (view c).left ≡ [] = ap (λ (v : View). v.left) e in
    let j : (view c).past ++ (view c).left ≡ l = ap₂ (λ (a b : List ℕ). a ++ b) p q ∙ append-nil l in
    let n : c.len ≡ length l = list_length c s ∙ ap length j in
    let u : c.used ≡ length l = sym (length-take-le c.used c.entries (omega arith)) ∙ ap length p in
    record { len = n; used = u ∙ sym n; entries = list_entries c s ∙ ap padded j }
