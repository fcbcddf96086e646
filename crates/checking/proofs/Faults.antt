-- Rules 7 and 8, by kind.
use mathlib.Core.Path.{◌≡◌, sym, ap, ◌∙◌}
use mathlib.Core.Bool.{Bool, true, false, not, or-false}
use mathlib.Core.List.{List}
use Prim.Native.Nat.{ℕ}
use borrow.Author.Tests.{ne_eqb}
use Rattle.tables.specs.Record.{Record, name_of}
use Rattle.tables.specs.Table.{record_at, kind_at}
use Rattle.tables.specs.Sheet.{loose, pattern_of, is_bound, in_condition}
use Rattle.tables.specs.Check.{fault7, chooses, fault8}
pub use Rattle.tables.proofs.Laws.Accepted.{let_operand}

module _ (rs : List Record) (r : ℕ) (b : Bool) where
  pub read7 : kind_at rs r ≡ 3 → b ≡ is_bound rs r (name_of (record_at rs r)) → not b ≡ fault7 rs r
  unfolding fault7
  read7 e f = rw e (ap not f ∙ sym (or-false (not (is_bound rs r (name_of (record_at rs r))))))

  pub pattern7 : kind_at rs r ≡ 32 → b ≡ is_bound rs r (name_of (record_at rs r)) → b ≡ fault7 rs r
  unfolding fault7
  pattern7 e f = rw e f

  pub let_be8 : kind_at rs r ≡ 13 → b ≡ in_condition rs r → b ≡ fault8 rs r
  unfolding fault8 chooses
  let_be8 e f = rw e f

  pub let8 : kind_at rs r ≡ 12 → loose rs (pattern_of rs r) ≡ true → b ≡ in_condition rs r → b ≡ fault8 rs r
  unfolding fault8 chooses
  let8 e l f = rw (e, l) f

module _ (rs : List Record) (r : ℕ) where
  pub other7 : (kind_at rs r ≡ 3 → ⊥) → (kind_at rs r ≡ 32 → ⊥) → false ≡ fault7 rs r
  unfolding fault7
  other7 a b = rw (ne_eqb (kind_at rs r) 3 a, ne_eqb (kind_at rs r) 32 b)

  pub other8 : (kind_at rs r ≡ 13 → ⊥) → (kind_at rs r ≡ 12 → ⊥) → false ≡ fault8 rs r
  unfolding fault8 chooses
  other8 a b = rw (ne_eqb (kind_at rs r) 13 a, ne_eqb (kind_at rs r) 12 b)

  pub plain8 : kind_at rs r ≡ 12 → loose rs (pattern_of rs r) ≡ false → false ≡ fault8 rs r
  unfolding fault8 chooses
  plain8 e l = rw (e, l)
