-- Laws of cutting a table: what stands next, and what every record that is cut out has.
use Rattle.std.specs.Prelude.{◌≡◌, refl, Bool, true, false, ◌||◌, cond, List, ℕ, zero, suc, ◌<◌, ◌≤◌, eqb, ltb, length, drop}
use Rattle.std.proofs.Common.{sym, ap, ◌∙◌, arith, ltb-false, eqb-true}
use Rattle.prelude.proofs.Absurd.{never, impossible}
use Rattle.integers.specs.Bytes.{word}
use Rattle.tables.specs.Record.{Record, is_fit}
use Rattle.tables.specs.Table.{Next, end, fault, one, next, first_record, cut_by, record_at, on_next}

-- What is known where a record stands next.
pub record IsNext (bytes : List ℕ) (r : Record) (rest : List ℕ) : Type 0 where
  pub four : 4 ≤ length bytes
  pub long : 4 ≤ word bytes 0
  pub whole : word bytes 0 ≤ length bytes
  pub fit : is_fit r ≡ true
  pub is : first_record bytes ≡ r
  pub then : drop (word bytes 0) bytes ≡ rest

is_next : (bytes : List ℕ) (b c d e : Bool) (r : Record) (rest : List ℕ) → ltb (length bytes) 4 ≡ b → ltb (word bytes 0) 4 ≡ c → ltb (length bytes) (word bytes 0) ≡ d → is_fit (first_record bytes) ≡ e → (z : Bool) → cond z end (cond (b || c || d) fault (cond e (one (first_record bytes) (drop (word bytes 0) bytes)) fault)) ≡ one r rest → IsNext bytes r rest
is_next bytes b c d e r rest hb hc hd he true k = impossible cc
is_next bytes true c d e r rest hb hc hd he false k = impossible cc
is_next bytes false true d e r rest hb hc hd he false k = impossible cc
is_next bytes false false true e r rest hb hc hd he false k = impossible cc
is_next bytes false false false false r rest hb hc hd he false k = impossible cc
is_next bytes false false false true r rest hb hc hd he false k =
    let same : first_record bytes ≡ r = cc in
    record {
      four = ltb-false _ _ hb;
      long = ltb-false _ _ hc;
      whole = ltb-false _ _ hd;
      fit = sym (ap is_fit same) ∙ he;
      is = same;
      then = cc;
    }

pub next-is : (bytes : List ℕ) (r : Record) (rest : List ℕ) → next bytes ≡ one r rest → IsNext bytes r rest
unfolding next
next-is bytes r rest e = is_next bytes _ _ _ _ r rest refl refl refl refl (eqb (length bytes) 0) e

-- Each record that was cut out is fit for its kind.
pub cut_fit : (bound : ℕ) (bytes : List ℕ) (r : ℕ) → r < length (cut_by bound bytes).records → is_fit (record_at (cut_by bound bytes).records r) ≡ true
unfolding cut_by
cut_fit zero bytes r h = absurd (omega arith)
cut_fit (suc bound) bytes r h = go (next bytes) refl r h (λ rest q k. cut_fit bound rest q k)
  where
    go : (n : Next) → next bytes ≡ n → (r : ℕ) → r < length (on_next n (λ rest. cut_by bound rest)).records → ((rest : List ℕ) (q : ℕ) → q < length (cut_by bound rest).records → is_fit (record_at (cut_by bound rest).records q) ≡ true) → is_fit (record_at (on_next n (λ rest. cut_by bound rest)).records r) ≡ true
    go end e r k f = absurd (omega arith)
    go fault e r k f = absurd (omega arith)
    go (one x rest) e zero k f = (next-is bytes x rest e).fit
    go (one x rest) e (suc r) k f = f rest r (omega arith)

-- A table with a byte that is cut to its end has a record.
pub cut_some : (bound : ℕ) (bytes : List ℕ) → 0 < length bytes → (cut_by (suc bound) bytes).whole ≡ true → 0 < length (cut_by (suc bound) bytes).records
unfolding cut_by next
cut_some bound bytes h e =
    go (eqb (length bytes) 0) (ltb (length bytes) 4 || ltb (word bytes 0) 4 || ltb (length bytes) (word bytes 0)) (is_fit (first_record bytes)) refl e
  where
    go : (z t u : Bool) → eqb (length bytes) 0 ≡ z → (on_next (cond z end (cond t fault (cond u (one (first_record bytes) (drop (word bytes 0) bytes)) fault))) (λ rest. cut_by bound rest)).whole ≡ true → 0 < length (on_next (cond z end (cond t fault (cond u (one (first_record bytes) (drop (word bytes 0) bytes)) fault))) (λ rest. cut_by bound rest)).records
    go true t u f k = absurd (omega (arith, eqb-true (length bytes) 0 f))
    go false true u f k = never k
    go false false true f k = omega arith
    go false false false f k = never k
