-- The record at the start of some bytes is fit for its kind: what the tests of its kind, length and first field say.
use mathlib.Core.Path.{◌≡◌, refl, sym, ap, ◌∙◌}
use mathlib.Core.Bool.{Bool, true, false, ◌&&◌, ◌||◌}
use mathlib.Core.List.{List}
use Prim.Native.Nat.{ℕ, ◌+◌, ◌-◌, ◌≤◌, ◌<◌}
use native.Mathlib.Omega.{arith}
use lib.Dec.{leb}
use lib.ListN.{length, get_or, take, drop, length-drop}
use lib.Seq.{length-take-le, get_or-take, get_or-drop}
use borrow.Author.Tests.{leb-true, le-leb}
use mathlib.Mathlib.Data.Bool.Basic.{and_elim_left}
use Rattle.integers.specs.Bytes.{word, bits32, integer_at}
use Rattle.integers.specs.Whole.{in_range}
use Rattle.integers.proofs.Written.{bits_range}
use Rattle.tables.specs.Record.{Record, Head, nothing, boolean, integer, quote, name, unary, binary, unknown, Shape, last_kind, shape, is_expression, is_pattern, size, head_of, field, fits, is_known, is_fit}
use Rattle.tables.specs.Table.{first_record}
use Rattle.tables.specs.Shapes.{is_tested, known_first}
use Rattle.prelude.proofs.Absurd.{never}
use Rattle.prelude.proofs.Truth.{by_lower}
use Rattle.tables.proofs.Laws.Accepted.{fit_kind}
use Rattle.tables.proofs.Heads.{untested_known, tested_long}

-- A place in a record, from its start and from its fields.
pub plus_zero : (a : ℕ) → a + 0 ≡ a
plus_zero a = omega arith

pub plus_four : (a i : ℕ) → a + (4 + i) ≡ a + 4 + i
plus_four a i = omega arith

-- Four bytes are an integer in range.
bytes_range : (fs : List ℕ) → ((i : ℕ) → i < 4 → get_or fs i 0 < 256) → in_range (integer_at fs 0) ≡ true
bytes_range fs small =
    bits_range (bits32 fs 0) (omega (arith, small 0 (omega arith), small 1 (omega arith), small 2 (omega arith), small 3 (omega arith)))

-- Two bytes are a quote.
bytes_quote : (fs : List ℕ) → ((i : ℕ) → i < 2 → get_or fs i 0 < 256) → leb (word fs 0) 65535 ≡ true
bytes_quote fs small = le-leb (word fs 0) 65535 (omega (arith, small 0 (omega arith), small 1 (omega arith)))

known_first_lem : (h : Head) (r : Record) → ((i : ℕ) → i < size h → field r i < 256) → is_known h r ≡ known_first h (field r 0)
known_first_lem nothing r small = refl
known_first_lem boolean r small = refl
known_first_lem integer r small = bytes_range r.fields small
known_first_lem quote r small = bytes_quote r.fields small
known_first_lem name r small = refl
known_first_lem unary r small = refl
known_first_lem binary r small = refl
known_first_lem unknown r small = refl

pub fit_beyond : (bytes : List ℕ) → last_kind < word bytes 2 → false ≡ is_fit (first_record bytes)
fit_beyond bytes h = go (is_fit (first_record bytes)) refl
  where
    go : (b : Bool) → is_fit (first_record bytes) ≡ b → false ≡ b
    go true e = absurd (omega (arith, fit_kind (first_record bytes) e))
    go false e = refl

module _ (bytes : List ℕ) (len : ℕ) (is : len ≡ word bytes 0) (four : 4 ≤ len) (whole : len ≤ length bytes) where
  pub fields_long : length (first_record bytes).fields ≡ len - 4
  fields_long = length-take-le (word bytes 0 - 4) (drop 4 bytes) (omega (arith, length-drop 4 bytes)) ∙ ap (λ (n : ℕ). n - 4) (sym is)

  pub field_at : (i : ℕ) → i < len - 4 → get_or (first_record bytes).fields i 0 ≡ get_or bytes (4 + i) 0
  field_at i h = get_or-take (word bytes 0 - 4) (drop 4 bytes) i 0 (omega arith) ∙ get_or-drop 4 bytes i 0

  pub fit_unfit : false ≡ fits (shape (word bytes 2)) (len - 4) → false ≡ is_fit (first_record bytes)
  unfolding is_fit
  fit_unfit e =
      sym (ap (λ (n : ℕ). fits (shape (word bytes 2)) n && is_known (head_of (first_record bytes)) (first_record bytes)) fields_long
      ∙ ap (λ (b : Bool). b && is_known (head_of (first_record bytes)) (first_record bytes)) (sym e))

  known_fit : true ≡ fits (shape (word bytes 2)) (len - 4) → is_fit (first_record bytes) ≡ is_known (head_of (first_record bytes)) (first_record bytes)
  unfolding is_fit
  known_fit e =
      ap (λ (n : ℕ). fits (shape (word bytes 2)) n && is_known (head_of (first_record bytes)) (first_record bytes)) fields_long
      ∙ ap (λ (b : Bool). b && is_known (head_of (first_record bytes)) (first_record bytes)) (sym e)

  -- The head of a record that fits lies within it.
  head_within : true ≡ fits (shape (word bytes 2)) (len - 4) → size (head_of (first_record bytes)) ≤ len - 4
  head_within e =
      let s : Shape = shape (word bytes 2) in
      omega (arith, leb-true (size s.head + s.least) (len - 4) (and_elim_left _ (leb (len - 4) (size s.head + length s.roles)) (and_elim_left _ _ (sym e))))

  fit_empty : true ≡ fits (shape (word bytes 2)) (len - 4) → len ≡ 4 → is_fit (first_record bytes) ≡ known_first (shape (word bytes 2)).head 0
  fit_empty e l =
      known_fit e
      ∙ known_first_lem (head_of (first_record bytes)) (first_record bytes) (λ i h. absurd (omega (arith, head_within e)))
      ∙ ap (λ (n : ℕ). known_first (head_of (first_record bytes)) (get_or (take (n - 4) (drop 4 bytes)) 0 0)) (sym is ∙ l)

  pub fit_first : true ≡ fits (shape (word bytes 2)) (len - 4) → 4 < len → ((i : ℕ) → get_or bytes i 0 < 256) → is_fit (first_record bytes) ≡ known_first (shape (word bytes 2)).head (get_or bytes 4 0)
  fit_first e l small =
      known_fit e
      ∙ known_first_lem (head_of (first_record bytes)) (first_record bytes)
      (λ i h. rw (field_at i (omega (arith, head_within e))) (small (4 + i)))
      ∙ ap (known_first (head_of (first_record bytes))) (field_at 0 (omega arith))

  module _ (fit : true ≡ fits (shape (word bytes 2)) (len - 4)) (known : word bytes 2 ≤ last_kind) where
    pub fit_untested : is_tested (word bytes 2) ≡ false → ((i : ℕ) → get_or bytes i 0 < 256) → is_fit (first_record bytes) ≡ is_expression (word bytes 2) || is_pattern (word bytes 2)
    fit_untested u small =
        by_lower 4 len (λ l. fit_first fit l small ∙ sym (untested_known (word bytes 2) (get_or bytes 4 0) known u))
        (λ l. fit_empty fit (omega arith) ∙ sym (untested_known (word bytes 2) 0 known u))

    pub tested_within : is_tested (word bytes 2) ≡ true → 4 < len
    tested_within t =
        by_lower 4 len (λ l. l)
        (λ l.
        let none : len - 4 ≡ 0 = omega arith in
        never (sym (tested_long (word bytes 2) known t) ∙ sym (fit ∙ ap (fits (shape (word bytes 2))) none)))

-- An integer literal of eight bytes is fit.
pub integer_fit : (bytes : List ℕ) → word bytes 0 ≡ 8 → word bytes 2 ≡ 2 → 8 ≤ length bytes → ((i : ℕ) → get_or bytes i 0 < 256) → is_fit (first_record bytes) ≡ true
unfolding shape
integer_fit bytes e k h small =
    fit_untested bytes 8 (sym e) (omega arith) h (sym (ap (λ (n : ℕ). fits (shape n) 4) k)) (omega arith) (ap is_tested k) small
    ∙ ap (λ (n : ℕ). is_expression n || is_pattern n) k
