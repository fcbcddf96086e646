-- Theorems on the operators on booleans, and on equality.
use mathlib.Core.Path.{◌≡◌, refl, ap, ◌∙◌}
use mathlib.Core.Bool.{Bool, true, false, not, ◌&&◌, ◌||◌, beq}
use Rattle.values.specs.Value.{Value, boolean, within}
use Rattle.integers.specs.Order.{order_ℕ}
use Rattle.values.specs.Items.{same}
use Rattle.values.proofs.Order.{same_true, true_same}
use Rattle.operators.specs.Answer.{Answer, refused, wrong_kind}
use Rattle.operators.specs.Booleans.{Connective, and, or, implies, Left, settles, leaves, left, right, truth, negation, biimplication, equality}

-- What the left settles, or else what the right gives.
abbrev pub decided : Left → Answer → Answer
decided (settles a) b = a
decided leaves b = b

-- The truth tables of page 7.
abbrev table : Connective → Bool → Bool → Bool
table and a b = a && b
table or a b = a || b
table implies a b = not a || b

-- THEOREM: and, or and => of two booleans are as in the tables
connective_table : (c : Connective) (a b : Bool) → decided (left c (boolean a)) (right (boolean b)) ≡ truth (table c a b)
connective_table and true b = refl
connective_table and false b = refl
connective_table or true b = refl
connective_table or false b = refl
connective_table implies true b = refl
connective_table implies false b = refl

-- THEOREM: a right that is no boolean is wrong only where the left leaves it to the right
connective_right : (c : Connective) (a : Bool) (w : Value) → right w ≡ refused wrong_kind → left c (boolean a) ≡ leaves → decided (left c (boolean a)) (right w) ≡ refused wrong_kind
connective_right c a w e l = ap (λ (x : Left). decided x (right w)) l ∙ e

-- THEOREM: not and <=>
negation_table : (b : Bool) → negation (boolean b) ≡ truth (not b)
negation_table b = refl

pub biimplication_table : (a b : Bool) → biimplication (boolean a) (boolean b) ≡ truth (beq a b)
unfolding within order_ℕ
biimplication_table true true = refl
biimplication_table true false = refl
biimplication_table false true = refl
biimplication_table false false = refl

-- THEOREM: = is true of equal values and of no others
equality_true : (v w : Value) → equality v w ≡ truth true → v ≡ w
equality_true v w e = same_true v w (let f : same v w ≡ true = cc in f)

true_equality : (v w : Value) → v ≡ w → equality v w ≡ truth true
true_equality v w e = ap truth (true_same e)
