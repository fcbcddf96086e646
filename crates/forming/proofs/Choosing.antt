-- A whole set or map that is to be split, as a choice of all its members or entries.
use Rattle.parts.specs.declared.How.TheVariants.{Whole, Units}
use mathlib.Core.Path.{◌≡◌, refl, sym, ap, subst, ◌∙◌}
use mathlib.Core.Bool.{true}
use mathlib.Core.Logic.{inl, inr}
use mathlib.Core.List.{List, map}
use Prim.Native.Nat.{ℕ, ◌+◌, ◌^◌, ◌≤◌}
use native.Mathlib.Decide.{ℕ_discrete}
use native.Mathlib.Omega.{arith}
use lib.ListN.{length, length-map}
use borrow.Author.Tests.{ltb-false}
use Rattle.values.specs.Value.{Kind, number, collection, kind_of}
use Rattle.values.specs.Place.{At}
use Rattle.parts.specs.declared.Part.{Part}
use Rattle.parts.specs.Part.{PartIs}
use Rattle.parts.proofs.Chosen.{keep_full, proper_length}
use Rattle.parts.specs.Word.{unpacked, WordOf}
use Rattle.parts.proofs.Laws.{whole_of, part_one, part_well_formed}
use Rattle.patterns.specs.Ways.{proper_splits}
use Rattle.patterns.specs.Pattern.{items_of, UnitOf, items_in, halves_in, most_split}
use Rattle.patterns.specs.Nodes.{collection_of, both_halves}
use Rattle.matching.specs.Node.{is_split}
use Rattle.matching.proofs.Counting.{split_kind, contents_other, contents_same, none_meets, meets_splits}
use Rattle.forming.specs.Whole.{WordMet, SameValue}
use Rattle.forming.proofs.Pushing.{packed_part}

module _ (s : List ℕ) (c word ways : ℕ) (h : WordMet s c word ways) where
  abbrev K : Kind
  K = collection_of c

  -- a set or map of few units, of which there are so many splits and two more
  abbrev Few : Type 0
  Few = (us : List (UnitOf K)) × (h.value ≡ collection K (items_of (items_in K us))) × (length us ≤ most_split) × (2 ^ length us ≡ ways + 2)

  is_few : is_split c ≡ true → Few
  is_few e = go (ℕ_discrete (kind_of h.value) (number K))
    where
      go : Dec (kind_of h.value ≡ number K) → Few
      go (yes d) =
          let w = contents_same K h.value (part_well_formed h.here) d in
          let (m, l) = meets_splits c h.count h.value w.units w.has e in
          let n = ap length m ∙ length-map (map (halves_in K) (proper_splits w.units)) (both_halves K) ∙ length-map (proper_splits w.units) (halves_in K) ∙ proper_length w.units in
          (w.units, w.is, ltb-false most_split (length w.units) (sym l ∙ h.narrow), omega (arith, n, h.met, h.some))
      go (no f) = absurd (omega (arith, h.some, h.met, ap length (none_meets c h.count h.value (contents_other K h.value f)).1))

  pub all_units : is_split c ≡ true → (p : Part) → p ≡ unpacked word → p.how ≡ Whole → (m : ℕ) → m ≡ ways + 1 → PartIs s (record { at = p.at; extent = m; how = Units }) h.value
  all_units u p pe e m f =
      let (us, v, few, w) = is_few u in
      let here : At s p.at (collection K (items_of (items_in K us))) = subst (At s p.at) v (whole_of e (subst (λ (q : Part). PartIs s q h.value) (sym pe) h.here)) in
      let q : m + 1 ≡ 2 ^ length us = omega (arith, f, w) in
      inr (inl (
        refl,
        record {
          kind = K;
          unordered = (split_kind c u).1;
          all = us;
          here = here;
          few = few;
          below = omega (arith, q);
          is = v ∙ ap (λ (l : List (UnitOf K)). collection K (items_of (items_in K l))) (sym (keep_full us m q));
        },
      ))

  pub packed_same : (p : Part) → PartIs s p h.value → (r : ℕ) → WordOf s p r → SameValue s word r
  packed_same p g r k v i =
      let e : h.value ≡ v = part_one h.here i in
      packed_part s p r v k (subst (PartIs s p) e g)
