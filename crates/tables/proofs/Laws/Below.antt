-- Laws of what lies below a record and of the way up from it, where operands are lower than their record.
use Rattle.std.specs.Prelude.{◌≡◌, Bool, true, false, List, [], ◌∷◌, map, eqb, ltb, length, get_or, take, drop}
use Rattle.std.proofs.Math.Path.{refl, ap}
use Rattle.std.proofs.Common.{sym, ◌∙◌, arith, ltb-true, lt-ltb, le-ltb, eq-eqb}
use Rattle.std.proofs.Math.Bool.{cond}
use Prim.Native.Nat.{ℕ, zero, suc, ◌+◌, ◌<◌, ◌≤◌}
use Rattle.prelude.proofs.Truth.{by_lower, or_false_left, or_false_right}
use Rattle.tables.specs.declared.Role.{Role}
use Rattle.tables.specs.declared.Role.TheVariants.{Plain}
use Rattle.tables.specs.Record.{Record, size, head_of, operands_of, shape, operands, numbers, named, operand, role_at}
use Rattle.tables.specs.Table.{record_at, kind_at}
use Rattle.tables.specs.Sheet.{is_in, fold_by, fold, parent, role_of, role_in, climb_by, climb}
use Rattle.tables.specs.Check.{all_named, named_before}
use Rattle.tables.proofs.Laws.Tests.{low, lowest_is, in_append, in_get_d, Place, in_place}

-- ---- numbers that records name

is_named_before : (n : ℕ) (rs : List Record) (r q : ℕ) → is_in n (all_named (take r rs)) ≡ false → q < r → is_in n (named (record_at rs q)) ≡ false
unfolding operands shape
is_named_before n [] r q e h = refl
is_named_before n (x ∷ xs) zero q e h = absurd (omega arith)
is_named_before n (x ∷ xs) (suc r) zero e h = or_false_left _ _ (sym (in_append n (named x) (all_named (take r xs))) ∙ e)
is_named_before n (x ∷ xs) (suc r) (suc q) e h =
    is_named_before n xs r q (or_false_right (is_in n (named x)) _ (sym (in_append n (named x) (all_named (take r xs))) ∙ e)) (omega arith)

-- The first operand with a number has the role that its place gives it.
role_at_lem : (roles : List Role) (bytes : List ℕ) (i : ℕ) → i < length (numbers (operands_of roles bytes)) → is_in (get_or (numbers (operands_of roles bytes)) i 0) (take i (numbers (operands_of roles bytes))) ≡ false → role_of (get_or (numbers (operands_of roles bytes)) i 0) (operands_of roles bytes) ≡ get_or roles i Plain
role_at_lem [] bytes i h e = absurd (omega arith)
role_at_lem (role ∷ roles) [] i h e = absurd (omega arith)
role_at_lem (role ∷ roles) (b ∷ bytes) zero h e = rw (eq-eqb b b refl)
role_at_lem (role ∷ roles) (b ∷ bytes) (suc i) h e =
    rw (or_false_left (eqb (get_or (numbers (operands_of roles bytes)) i 0) b) _ e)
    (role_at_lem roles bytes i (omega arith) (or_false_right (eqb (get_or (numbers (operands_of roles bytes)) i 0) b) _ e))

-- ---- tables in which operands are lower than their record

abbrev pub OperandsLower : List Record → Type 0
OperandsLower rs = (r i : ℕ) → r < length rs → i < length (named (record_at rs r)) → operand (record_at rs r) i < r

-- Two functions that agree on the entries of a list.
map_same : {A : Type 0} (f g : ℕ → A) (ms : List ℕ) → ((i : ℕ) → i < length ms → f (get_or ms i 0) ≡ g (get_or ms i 0)) → map f ms ≡ map g ms
map_same f g [] e = refl
map_same f g (m ∷ ms) e =
    let here : f m ≡ g m = e 0 (omega arith) in
    let there : map f ms ≡ map g ms = map_same f g ms (λ i h. e (suc i) (omega arith)) in
    cc

module _ {A : Type 0} (node : ℕ → List A → A) (none : A) (rs : List Record) (lower : OperandsLower rs) where
  -- Every bound above the record's number gives the same.
  fold_enough : (b d r : ℕ) → r < b → r < d → r < length rs → fold_by node none rs b r ≡ fold_by node none rs d r
  unfolding fold_by
  fold_enough zero d r h k l = absurd (omega arith)
  fold_enough (suc b) zero r h k l = absurd (omega arith)
  fold_enough (suc b) (suc d) r h k l =
      ap (node r)
      (map_same (λ n. fold_by node none rs b n) (λ n. fold_by node none rs d n) (named (record_at rs r))
      (λ i m. fold_enough b d (operand (record_at rs r) i) (omega (arith, lower r i l m)) (omega (arith, lower r i l m)) (omega (arith, lower r i l m))))

  -- What a record gives, by what its operands give.
  pub fold_at : (r : ℕ) → r < length rs → fold node none rs r ≡ node r (map (fold node none rs) (named (record_at rs r)))
  unfolding fold_by
  fold_at r l =
      ap (node r)
      (map_same (λ n. fold_by node none rs r n) (fold node none rs) (named (record_at rs r))
      (λ i m. fold_enough r (suc (operand (record_at rs r) i)) (operand (record_at rs r) i) (lower r i l m) (omega arith) (omega (arith, lower r i l m))))

-- A record is lower than the one that names it.
pub parent_higher : (rs : List Record) → OperandsLower rs → (r : ℕ) → parent rs r < length rs → r < parent rs r
parent_higher rs lower r h =
    let p : Place (named (record_at rs (parent rs r))) r = in_place r _ ((low (λ q. is_in r (named (record_at rs q))) (length rs)).hit h) in
    omega (arith, lower (parent rs r) p.index h p.within, p.is)

pick_same : {A : Type 0} (b : Bool) (x y z : A) → (b ≡ true → x ≡ y) → cond b x z ≡ cond b y z
pick_same true x y z e = e refl
pick_same false x y z e = refl

module _ {A : Type 0} (step : ℕ → Role → A → A) (none : A) (rs : List Record) (lower : OperandsLower rs) where
  -- Nothing lies above what stands past the table.
  past : (r : ℕ) → length rs ≤ r → ltb (parent rs r) (length rs) ≡ false
  past r h = by_lower (parent rs r) (length rs) (λ k. absurd (omega (arith, parent_higher rs lower r k))) (λ k. le-ltb _ _ k)

  -- Every bound above the number of steps gives the same.
  climb_enough : (b d r : ℕ) → length rs ≤ r + b → length rs ≤ r + d → climb_by step none rs b r ≡ climb_by step none rs d r
  unfolding climb_by
  climb_enough zero zero r h k = refl
  climb_enough zero (suc d) r h k = rw (past r (omega arith))
  climb_enough (suc b) zero r h k = rw (past r (omega arith))
  climb_enough (suc b) (suc d) r h k =
      pick_same (ltb (parent rs r) (length rs)) (step (parent rs r) (role_in rs (parent rs r) r) (climb_by step none rs b (parent rs r)))
      (step (parent rs r) (role_in rs (parent rs r) r) (climb_by step none rs d (parent rs r))) none
      (λ e.
      let l : r < parent rs r = parent_higher rs lower r (ltb-true _ _ e) in
      ap (step (parent rs r) (role_in rs (parent rs r) r)) (climb_enough b d (parent rs r) (omega arith) (omega arith)))

  -- The way up from r is the way up from the record that names it, and one step.
  pub climb_up : (r q : ℕ) → parent rs r ≡ q → q < length rs → climb step none rs r ≡ step q (role_in rs q r) (climb step none rs q)
  unfolding climb_by
  climb_up r q e h =
      climb_enough (length rs) (suc (length rs)) r (omega arith) (omega arith)
      ∙ ap (λ (p : ℕ). cond (ltb p (length rs)) (step p (role_in rs p r) (climb_by step none rs (length rs) p)) none) e
      ∙ ap (λ (b : Bool). cond b (step q (role_in rs q r) (climb_by step none rs (length rs) q)) none) (lt-ltb q (length rs) h)

  -- There is no way up from a record that none names.
  pub climb_top : (r : ℕ) → length rs ≤ parent rs r → climb step none rs r ≡ none
  unfolding climb_by
  climb_top r h =
      climb_enough (length rs) (suc (length rs)) r (omega arith) (omega arith)
      ∙ ap (λ (b : Bool). cond b (step (parent rs r) (role_in rs (parent rs r) r) (climb_by step none rs (length rs) (parent rs r))) none) (le-ltb (parent rs r) (length rs) h)

-- ---- an operand whose number is not named before

module _ (rs : List Record) (r i : ℕ) (in_table : r < length rs) (is_operand : i < length (named (record_at rs r))) (first : is_in (operand (record_at rs r) i) (named_before rs r i) ≡ false) where
  not_lower : is_in (operand (record_at rs r) i) (all_named (take r rs)) ≡ false
  not_lower = or_false_left _ _ (sym (in_append (operand (record_at rs r) i) (all_named (take r rs)) (take i (named (record_at rs r)))) ∙ first)

  not_earlier : is_in (operand (record_at rs r) i) (take i (named (record_at rs r))) ≡ false
  not_earlier = or_false_right (is_in (operand (record_at rs r) i) (all_named (take r rs))) _ (sym (in_append (operand (record_at rs r) i) (all_named (take r rs)) (take i (named (record_at rs r)))) ∙ first)

  -- Its record is the one that names it.
  pub parent_is : parent rs (operand (record_at rs r) i) ≡ r
  parent_is =
      lowest_is (λ q. is_in (operand (record_at rs r) i) (named (record_at rs q))) (length rs) r in_table (in_get_d (named (record_at rs r)) i is_operand)
      (λ q h. is_named_before (operand (record_at rs r) i) rs r q not_lower h)

  -- And it is there for what its place says.
  pub role_is : role_in rs r (operand (record_at rs r) i) ≡ role_at (record_at rs r) i
  unfolding operands
  role_is = role_at_lem (shape (kind_at rs r)).roles (drop (size (head_of (record_at rs r))) (record_at rs r).fields) i is_operand not_earlier
