-- What an accepted table says of a record by its kind, and what is asked of an operand.
use mathlib.Core.Path.{◌≡◌, sym, ap, subst}
use mathlib.Core.Bool.{true}
use mathlib.Core.List.{List}
use Prim.Native.Nat.{ℕ, ◌+◌, ◌≤◌, ◌<◌}
use native.Mathlib.Omega.{arith}
use lib.Dec.{leb}
use lib.ListN.{length}
use borrow.Author.Tests.{leb-true}
use mathlib.Mathlib.Data.Bool.Basic.{and_elim_left, and_elim_right}
use Rattle.integers.specs.Whole.{InRange}
use Rattle.tables.specs.Record.{shape, size, named, operand, name_of, is_known, head_of, integer_of}
use Rattle.tables.specs.Table.{record_at, kind_at}
use Rattle.tables.specs.Accepted.{records, Fine}
use Rattle.tables.proofs.Laws.Accepted.{accepted_fine, operand_lower, height_operand, height-at, fit_least, fit_known, named_count}
use Rattle.tables.specs.Reading.{Here, HasField, HasOperand}
use Rattle.choices.specs.State.{Choices, Invariant}
use Rattle.operations.specs.Numbers.{Unary}
use Rattle.meaning.specs.State.{State}
use Rattle.parts.specs.declared.words.Env.{Env}
use Rattle.evaluator.specs.Contract.{Legal, Around, Ask, level, operator_at}

pub fine_of : {table : List ℕ} → Legal table → Fine (records table)
fine_of {table} L = (accepted_fine table L.count L.ok).0

pub here : {table : List ℕ} {r : ℕ} {s : List ℕ} {base : ℕ} {env : Env} {c : Choices} → Ask table r s base env c → Here table r
here a = a.within

module _ {table : List ℕ} (L : Legal table) {r k : ℕ} (w : r < length (records table)) (e : kind_at (records table) r ≡ k) where
  fit_here : size (shape k).head + (shape k).least ≤ length (record_at (records table) r).fields
  fit_here = subst (λ (m : ℕ). size (shape m).head + (shape m).least ≤ length (record_at (records table) r).fields) e (fit_least (record_at (records table) r) ((fine_of L).fit r w))

  pub operand_here : (i : ℕ) → i < (shape k).least → i < length (named (record_at (records table) r))
  operand_here i l =
      let n = named_count (record_at (records table) r) ((fine_of L).fit r w) in
      let d : size (head_of (record_at (records table) r)) ≡ size (shape k).head = ap (λ (m : ℕ). size (shape m).head) e in
      omega (arith, fit_here)

  field_here : (i : ℕ) → i < size (shape k).head → i < length (record_at (records table) r).fields
  field_here i l = omega (arith, fit_here)

  pub known_here : is_known (shape k).head (record_at (records table) r) ≡ true
  known_here = subst (λ (m : ℕ). is_known (shape m).head (record_at (records table) r) ≡ true) e (fit_known (record_at (records table) r) ((fine_of L).fit r w))

-- a record's number is small
pub small_place : {table : List ℕ} {r : ℕ} {s : List ℕ} {base : ℕ} {env : Env} {c : Choices} → Ask table r s base env c → r < 256
small_place a = omega (arith, a.within, (fine_of a.legal).few)

-- every record has a level
pub room_here : {table : List ℕ} {r : ℕ} {s : List ℕ} {base : ℕ} {env : Env} {c : Choices} → Ask table r s base env c → base + level ≤ length s
room_here {table} {r = r} a = omega (arith, a.room, height-at (records table) (fine_of a.legal).clear6 r a.within)

pub has_field : {table : List ℕ} {r k : ℕ} {s : List ℕ} {base : ℕ} {env : Env} {c : Choices} → Ask table r s base env c → kind_at (records table) r ≡ k → (i : ℕ) → i < size (shape k).head → HasField table r i
has_field a e i l = record { here = here a; has = field_here a.legal a.within e i l }

pub has_operand : {table : List ℕ} {r k : ℕ} {s : List ℕ} {base : ℕ} {env : Env} {c : Choices} → Ask table r s base env c → kind_at (records table) r ≡ k → (i : ℕ) → i < (shape k).least → HasOperand table r i
has_operand a e i l = record { here = here a; has = operand_here a.legal a.within e i l }

pub unary_number : {table : List ℕ} {r : ℕ} {s : List ℕ} {base : ℕ} {env : Env} {c : Choices} → Ask table r s base env c → kind_at (records table) r ≡ 4 → Unary (operator_at table r)
unfolding shape
unary_number {table} {r = r} a e =
    let k = known_here a.legal a.within e in
    record { low = leb-true 1 (operator_at table r) (and_elim_left _ (leb (operator_at table r) 15) k); high = leb-true (operator_at table r) 15 (and_elim_right (leb 1 (operator_at table r)) _ k) }

pub binary_number : {table : List ℕ} {r : ℕ} {s : List ℕ} {base : ℕ} {env : Env} {c : Choices} → Ask table r s base env c → kind_at (records table) r ≡ 5 → (1 ≤ operator_at table r) × (operator_at table r ≤ 28)
unfolding shape
binary_number {table} {r = r} a e =
    let k = known_here a.legal a.within e in
    (leb-true 1 (operator_at table r) (and_elim_left _ (leb (operator_at table r) 28) k), leb-true (operator_at table r) 28 (and_elim_right (leb 1 (operator_at table r)) _ k))

pub name_number : {table : List ℕ} {r : ℕ} {s : List ℕ} {base : ℕ} {env : Env} {c : Choices} → Ask table r s base env c → kind_at (records table) r ≡ 3 → name_of (record_at (records table) r) < 16
unfolding shape
name_number {table} {r = r} a e = let k = leb-true (name_of (record_at (records table) r)) 15 (known_here a.legal a.within e) in omega arith

pub integer_number : {table : List ℕ} {r : ℕ} {s : List ℕ} {base : ℕ} {env : Env} {c : Choices} → Ask table r s base env c → kind_at (records table) r ≡ 2 → InRange (integer_of (record_at (records table) r))
unfolding shape
integer_number a e = known_here a.legal a.within e

-- what is asked of an operand
pub ask_down : {table : List ℕ} {r : ℕ} {s : List ℕ} {base : ℕ} {env : Env} {c : Choices} → Ask table r s base env c → (i : ℕ) → i < length (named (record_at (records table) r)) → {a : ℕ} → a ≡ operand (record_at (records table) r) i
    → {t : List ℕ} {base' : ℕ} {env' : Env} {c' : Choices} {ρ : State} → length t ≡ length s → base' ≤ base + level → Around t base' env' ρ → Invariant c' → Ask table a t base' env' c'
ask_down {table} {r} {s} {base} q i l e {t} {base'} {env'} {c'} {ρ} d b u k =
    subst (λ (a : ℕ). Ask table a t base' env' c') (sym e)
    (record {
      legal = q.legal;
      within = omega (arith, q.within, operand_lower (records table) (fine_of q.legal).clear6 r i q.within l);
      room = omega (arith, q.room, height_operand (records table) (fine_of q.legal).clear6 r i q.within l);
      low = omega (arith, q.low);
      state = ρ;
      around = u;
      sound = k;
    })

pub lower_down : {table : List ℕ} {r : ℕ} {s : List ℕ} {base : ℕ} {env : Env} {c : Choices} → Ask table r s base env c → (i : ℕ) → i < length (named (record_at (records table) r)) → {a : ℕ} → a ≡ operand (record_at (records table) r) i → a < r
lower_down {table} {r = r} q i l e = omega (arith, operand_lower (records table) (fine_of q.legal).clear6 r i q.within l)

pub field_one : {table : List ℕ} {r : ℕ} {s : List ℕ} {base : ℕ} {env : Env} {c : Choices} → Ask table r s base env c → kind_at (records table) r ≡ 1 → HasField table r 0
unfolding shape
field_one a e = has_field a e 0 (omega arith)

pub field_four : {table : List ℕ} {r : ℕ} {s : List ℕ} {base : ℕ} {env : Env} {c : Choices} → Ask table r s base env c → kind_at (records table) r ≡ 2 → HasField table r 3
unfolding shape
field_four a e = has_field a e 3 (omega arith)

pub field_quote : {table : List ℕ} {r : ℕ} {s : List ℕ} {base : ℕ} {env : Env} {c : Choices} → Ask table r s base env c → kind_at (records table) r ≡ 22 → HasField table r 1
unfolding shape
field_quote a e = has_field a e 1 (omega arith)

pub field_name : {table : List ℕ} {r : ℕ} {s : List ℕ} {base : ℕ} {env : Env} {c : Choices} → Ask table r s base env c → kind_at (records table) r ≡ 3 → HasField table r 0
unfolding shape
field_name a e = has_field a e 0 (omega arith)
