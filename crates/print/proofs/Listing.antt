-- The entries of a list, written one after the other.
use mathlib.Core.Path.{◌≡◌, refl, sym, ap, ◌∙◌}
use mathlib.Core.List.{List, [], ◌∷◌, ◌++◌, map as each}
use Prim.Native.Nat.{ℕ, suc, ◌+◌, ◌≤◌, ◌<◌}
use native.Mathlib.Omega.{arith}
use lib.ListN.{length, get_or, drop, length-append}
use lib.Seq.{sets, drop-cons, drop-length}
use Rattle.integers.proofs.Written.{sets_then}
use Rattle.print.specs.Ascii.{comma, hyphen}
use Rattle.print.specs.Text.{decimal, continued, list_text}
use Rattle.print.specs.Contract.{Wrote, Room}
use Rattle.print.proofs.Writing.{wrote_length}

-- the entries from i on, each after a comma
abbrev pub tails : List ℕ → ℕ → List ℕ
tails list i = continued (each decimal (drop i list))

module _ (list : List ℕ) where
  pub list_first : 0 < length list → list_text list ≡ decimal (get_or list 0 0) ++ tails list 1
  list_first h = go list h
    where
      go : (l : List ℕ) → 0 < length l → list_text l ≡ decimal (get_or l 0 0) ++ tails l 1
      go [] h = absurd (omega arith)
      go (c ∷ l) h = refl

  pub listing_length : 0 < length list → length (list_text list) ≡ length (decimal (get_or list 0 0)) + length (tails list 1)
  listing_length h = ap length (list_first h) ∙ length-append (decimal (get_or list 0 0)) (tails list 1)

  pub list_none : length list ≡ 0 → list_text list ≡ hyphen ∷ []
  list_none e = go list e
    where
      go : (l : List ℕ) → length l ≡ 0 → list_text l ≡ hyphen ∷ []
      go [] e = refl
      go (c ∷ l) e = absurd (omega arith)

  pub tails_cons : {i : ℕ} → i < length list → tails list i ≡ (comma ∷ decimal (get_or list i 0)) ++ tails list (i + 1)
  tails_cons {i} h =
      let e : suc i ≡ i + 1 = omega arith in
      ap (λ (l : List ℕ). continued (each decimal l)) (drop-cons list i 0 h) ∙ ap (λ (j : ℕ). (comma ∷ decimal (get_or list i 0)) ++ tails list j) e

  pub tails_length : {i : ℕ} → i < length list → length (tails list i) ≡ 1 + length (decimal (get_or list i 0)) + length (tails list (i + 1))
  tails_length {i} h =
      ap length (tails_cons h) ∙ length-append (comma ∷ decimal (get_or list i 0)) (tails list (i + 1)) ∙ omega arith

  tails_none : {i : ℕ} → length list ≡ i → tails list i ≡ []
  tails_none {i} e = ap (λ (j : ℕ). tails list j) (sym e) ∙ ap (λ (l : List ℕ). continued (each decimal l)) (drop-length list)

  -- the entries below i are written: what is left of them comes to the same as all after the first, and there is room for it
  pub record Listing (out₀ : List ℕ) (end₀ : ℕ) (out : List ℕ) (end i : ℕ) : Type 0 where
    pub within : i ≤ length list
    pub long : length out ≡ length out₀
    pub room : end + length (tails list i) ≤ length out
    pub ends : end + length (tails list i) ≡ end₀ + length (tails list 1)
    pub rest : sets out end (tails list i) ≡ sets out₀ end₀ (tails list 1)

  -- the first entry is written, and there was room for the whole list
  pub listing_start : {out₀ out : List ℕ} {at end : ℕ} → 0 < length list → Wrote out₀ out at (decimal (get_or list 0 0)) end → Room out₀ at (list_text list) → Listing out end out end 1
  listing_start h w r =
      let e = listing_length h in
      let m = wrote_length w in
      record { within = h; long = refl; room = omega arith; ends = refl; rest = refl }

  pub listing_more : {out₀ out out' : List ℕ} {end₀ end end' i : ℕ} → i < length list → Listing out₀ end₀ out end i
      → Wrote out out' end (comma ∷ decimal (get_or list i 0)) end' → Listing out₀ end₀ out' end' (i + 1)
  listing_more {out₀} {out} {out'} {end₀} {end} {end'} {i} h l w =
      let xs = comma ∷ decimal (get_or list i 0) in
      let ys = tails list (i + 1) in
      let n = tails_length h in
      let m = wrote_length w in
      record {
        within = omega arith;
        long = m ∙ l.long;
        room = omega arith;
        ends = omega arith;
        rest =
            ap (λ (s : List ℕ). sets s end' ys) w.bytes_set
            ∙ ap (λ (q : ℕ). sets (sets out end xs) q ys) w.ends
            ∙ sets_then xs ys out end
            ∙ ap (λ (zs : List ℕ). sets out end zs) (sym (tails_cons h))
            ∙ l.rest;
      }

  pub listing_end : {out₀ out : List ℕ} {end₀ end i : ℕ} → length list ≤ i → Listing out₀ end₀ out end i → Wrote out₀ out end₀ (tails list 1) end
  listing_end {out₀} {out} {end₀} {end} {i} h l =
      let e : length list ≡ i = omega arith in
      let n = ap length (tails_none e) in
      record { bytes_set = ap (λ (zs : List ℕ). sets out end zs) (sym (tails_none e)) ∙ l.rest; ends = omega arith }
