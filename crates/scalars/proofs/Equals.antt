-- Answers of the operators on scalars: they are fine, and two values are compared.
use mathlib.Core.Path.{◌≡◌, sym, ap, subst, ◌∙◌}
use mathlib.Core.Bool.{Bool, beq}
use mathlib.Core.List.{List}
use Prim.Native.Nat.{ℕ, ◌+◌}
use lib.IntN.{ℤ}
use Rattle.values.specs.Value.{Value, boolean, integer}
use Rattle.values.specs.Items.{same}
use Rattle.values.specs.Place.{At}
use Rattle.values.specs.Contract.{AreEqual}
use Rattle.operators.specs.Answer.{Answer, FineAnswer}
use Rattle.operators.specs.Booleans.{truth}
use Rattle.operators.specs.Operators.{unary, binary}
use Rattle.operator_laws.proofs.Booleans.{biimplication_table}
use Rattle.operator_laws.proofs.Results.{unary_fine}
use Rattle.calling.specs.Applied.{Applied}
use Rattle.calling.specs.Scratch.{second}
use Rattle.calling.specs.Applied.{Two, Gives, OnTwo}
use Rattle.calling.proofs.Answering.{gives_same, two_gives}

pub fine_one : (operator : ℕ) {s : List ℕ} {at : ℕ} {z : ℤ} {x : Answer} → At s at (integer z) → unary operator (integer z) ≡ x → FineAnswer x
fine_one operator {z = z} a e = subst FineAnswer e (unary_fine operator (integer z) a.fine)

-- ---- two operands of which r says whether they are equal

pub equal_gives : (n : ℕ) {operator : ℕ} (f : Bool → Bool) {s t : List ℕ} {base : ℕ} {q : Applied} {r : Bool} → ((v w : Value) → binary n v w ≡ truth (f (same v w))) → operator ≡ n → Two s base → AreEqual s base (base + second) r → Gives (truth (f r)) s t base q → OnTwo (binary operator) s t base q
equal_gives n {operator} f {r = r} h e two eq g =
    let a = two.left in
    let b = two.right in
    let i : binary operator a.value b.value ≡ truth (f r) =
    ap (λ (k : ℕ). binary k a.value b.value) e ∙ h a.value b.value ∙ ap (λ (x : Bool). truth (f x)) (sym (eq a.value b.value a.here b.here)) in
    two_gives a.here b.here (gives_same i g)

pub booleans_give : {s t : List ℕ} {base : ℕ} {q : Applied} {a b : Bool} → At s base (boolean a) → At s (base + second) (boolean b) → Gives (truth (beq a b)) s t base q → OnTwo (binary 4) s t base q
unfolding binary
booleans_give {a = a} {b = b} x y g = two_gives x y (gives_same (biimplication_table a b) g)
