-- Parts as numbers, and the order of cells.
use Rattle.parts.specs.declared.How.TheVariants.{Nothing, Whole, Units, Span}
use mathlib.Core.Path.{◌≡◌, refl, sym, ap, ap₂, subst, ◌∙◌}
use mathlib.Core.Logic.{inl, inr}
use mathlib.Core.List.{List}
use Rattle.parts.specs.declared.How.{How}
use Prim.Native.Nat.{ℕ, zero, suc, ◌+◌, ◌*◌, ◌/◌, ◌%◌, ◌≤◌}
use native.Mathlib.Omega.{arith}
use lib.ListN.{length}
use Rattle.std.specs.declared.cmp.Ordering.{Ordering}
use Rattle.std.specs.declared.cmp.Ordering.TheVariants.{Less, Greater}
use Rattle.values.specs.Value.{Value}
use Rattle.values.specs.Place.{At}
use Rattle.parts.specs.declared.Part.{Part}
use Rattle.parts.specs.Part.{PartIs, CellIs}
use Rattle.parts.specs.Contract.{OrderedParts}
use Rattle.patterns.specs.Binding.{Cell, free, is, order_cells}
use Rattle.parts.specs.Word.{how_of, code_of, unpacked, CellHeld, WordOf}
use Rattle.parts.proofs.Laws.{selects_low}

pub code_low : (h : How) → code_of h ≤ 3
code_low Nothing = omega arith
code_low Whole = omega arith
code_low Units = omega arith
code_low Span = omega arith

how_code : (h : How) → how_of (code_of h) ≡ h
how_code Nothing = refl
how_code Whole = refl
how_code Units = refl
how_code Span = refl

code_none : (h : How) → code_of h ≡ 0 → h ≡ Nothing
code_none Nothing e = refl
code_none Whole e = absurd (omega arith)
code_none Units e = absurd (omega arith)
code_none Span e = absurd (omega arith)

-- a word of no part
pub how_none : (n : ℕ) → how_of n ≡ Nothing → n ≡ 0
how_none zero e = refl
how_none (suc zero) e = cc
how_none (suc (suc zero)) e = cc
how_none (suc (suc (suc n))) e = cc

-- a part that denotes a value is some
pub some_how : {s : List ℕ} {p : Part} {v : Value} → PartIs s p v → p.how ≡ Nothing → ⊥
some_how (inl h) e = cc (h.0)
some_how (inr (inl h)) e = cc (h.0)
some_how (inr (inr h)) e = cc (h.0)

-- the word of a whole record
pub whole_how : (n : ℕ) → how_of ((1 + 4 * n) % 4) ≡ Whole
whole_how n = let e : (1 + 4 * n) % 4 ≡ 1 = omega arith in ap how_of e

pub cell_free : {s : List ℕ} {p : Part} {c : Cell} → p.how ≡ Nothing → CellIs s p c → c ≡ free
cell_free e (inl h) = h.1
cell_free e (inr (v, f, inl h)) = (cc (h.0))
cell_free e (inr (v, f, inr (inl h))) = (cc (h.0))
cell_free e (inr (v, f, inr (inr h))) = (cc (h.0))

pub cell_value : {s : List ℕ} {p : Part} {c : Cell} → (p.how ≡ Nothing → ⊥) → CellIs s p c → (v : Value) × (c ≡ is v) × PartIs s p v
cell_value f (inl h) = absurd (f h.0)
cell_value f (inr h) = h

-- ---- packing

module _ (s : List ℕ) (p : Part) where
  pub pack_none : p.how ≡ Nothing → WordOf s p 0
  pack_none e = record { is = λ c h. inl (refl, cell_free e h); small = omega arith; blank = λ e. refl }

  -- What the bounds of a part are, by how.
  pub record Low : Type 0 where
    pub at : p.at ≤ 65536
    pub extent : (p.how ≡ Whole → ⊥) → p.extent ≤ 508

  module _ (short : length s ≤ 65536) where
    part_low : (v : Value) → PartIs s p v → Low
    part_low v (inl h) = record { at = omega (arith, h.1.fits); extent = λ f. absurd (f h.0) }
    part_low v (inr (inl h)) = record { at = omega (arith, h.1.here.fits); extent = λ f. omega (arith, selects_low h.1) }
    part_low v (inr (inr h)) = record { at = omega (arith, h.1.here.fits, h.1.here.ends); extent = λ f. omega (arith, h.1.here.ends, h.1.short) }

    pub cell_low : (p.how ≡ Nothing → ⊥) → CellHeld s p → Low
    cell_low f h = let x = cell_value f h.1 in part_low x.0 x.2

    pub pack_whole : p.how ≡ Whole → CellHeld s p → WordOf s p (1 + 4 * p.at)
    pack_whole e z = record { is = λ c h. go c (cell_value {s = s} {p = p} {c = c} (λ z. cc) h); small = omega (arith, (cell_low (λ z. cc) z).at); blank = λ e. absurd (omega arith) }
      where
        go : (c : Cell) → (v : Value) × (c ≡ is v) × PartIs s p v → CellIs s (unpacked (1 + 4 * p.at)) c
        go c (v, f, inl k) =
            let i : p.at ≤ 65536 = omega (arith, k.1.fits) in
            let d : p.at ≡ (1 + 4 * p.at) / 4 % 131072 = omega arith in
            let one : (1 + 4 * p.at) % 4 ≡ 1 = omega arith in
            inr (v, f, inl (ap how_of one, subst (λ (n : ℕ). At s n v) d k.1))
        go c (v, f, inr (inl k)) = (cc (k.0))
        go c (v, f, inr (inr k)) = (cc (k.0))

    -- units and spans have their extent in the word
    pub pack_wide : (p.how ≡ Nothing → ⊥) → (p.how ≡ Whole → ⊥) → CellHeld s p → WordOf s p (code_of p.how + 4 * (p.at + 131072 * p.extent))
    pack_wide f0 f1 z =
        let l = cell_low f0 z in
        record { is = λ c h. go c (cell_value {s = s} {p = p} {c = c} f0 h); small = omega (arith, code_low p.how, l.at, l.extent f1); blank = λ e. absurd (f0 (code_none p.how (omega (arith, code_low p.how, e)))) }
      where
        same : Low → unpacked (code_of p.how + 4 * (p.at + 131072 * p.extent)) ≡ p
        same l =
            let n = code_of p.how + 4 * (p.at + 131072 * p.extent) in
            let q : p.at + 131072 * p.extent ≡ n / 4 = omega (arith, code_low p.how) in
            let h : n % 4 ≡ code_of p.how = omega (arith, code_low p.how) in
            let a : n / 4 % 131072 ≡ p.at = ap (λ (y : ℕ). y % 131072) (sym q) ∙ omega (arith, l.at) in
            let x : n / 4 / 131072 ≡ p.extent = ap (λ (y : ℕ). y / 131072) (sym q) ∙ omega (arith, l.at) in
            rw (h, how_code p.how, a, x)

        go : (c : Cell) → (v : Value) × (c ≡ is v) × PartIs s p v → CellIs s (unpacked (code_of p.how + 4 * (p.at + 131072 * p.extent))) c
        go c (v, f, k) = inr (v, f, subst (λ (y : Part). PartIs s y v) (sym (same (part_low v k))) k)

-- ---- the order of cells

abbrev pub CellsOrdered : List ℕ → Part → Part → Ordering → Type 0
CellsOrdered s p q r = (a b : Cell) → CellIs s p a → CellIs s q b → r ≡ order_cells a b

module _ (s : List ℕ) (p q : Part) where
  pub order_left : p.how ≡ Nothing → (q.how ≡ Nothing → ⊥) → CellsOrdered s p q Less
  order_left e f a b h g = sym (ap₂ order_cells (cell_free e h) (cell_value f g).1)

  pub order_right : (p.how ≡ Nothing → ⊥) → q.how ≡ Nothing → CellsOrdered s p q Greater
  order_right e f a b h g = sym (ap₂ order_cells (cell_value e h).1 (cell_free f g))

  pub order_both : (p.how ≡ Nothing → ⊥) → (q.how ≡ Nothing → ⊥) → (o : Ordering) → OrderedParts s p q o → CellsOrdered s p q o
  order_both e f o c a b h g =
      let x = cell_value e h in
      let y = cell_value f g in
      c x.0 y.0 x.2 y.2 ∙ sym (ap₂ order_cells x.1 y.1)
