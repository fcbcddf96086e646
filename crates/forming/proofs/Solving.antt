-- An agenda, and the ways of a pattern with parts before the rest of it.
use mathlib.Core.Path.{◌≡◌, refl, sym, ap, subst, ◌∙◌}
use mathlib.Core.Bool.{Bool, true, false, cond}
use mathlib.Core.Option.{Option, none as absent, some}
use mathlib.Core.List.{List, [], ◌∷◌, ◌++◌, map}
use Prim.Native.Nat.{ℕ, zero, suc, ◌+◌, ◌*◌, ◌≤◌, ◌<◌}
use native.Mathlib.Omega.{arith}
use lib.Dec.{eqb}
use lib.ListN.{length, get_or}
use borrow.Author.Tests.{eqb-true}
use Rattle.prelude.specs.Membership.{In}
use Rattle.prelude.proofs.Lists.{map_at}
use Rattle.prelude.proofs.Membership.{in_at}
use Rattle.values.specs.Value.{Kind, set, sequence, map as mapping, tuple, Value, WellFormed}
use Rattle.tables.specs.Record.{Record, is_composed, named as operands_of}
use Rattle.tables.specs.Table.{record_at, kind_at}
use Rattle.tables.specs.Accepted.{records}
use Rattle.parts.specs.declared.Part.{Part}
use Rattle.parts.specs.Part.{PartIs, PartHeld}
use Rattle.parts.specs.Word.{unpacked}
use Rattle.patterns.specs.Ways.{gather, orders, at_every_place}
use Rattle.patterns.specs.Binding.{Binding}
use Rattle.patterns.specs.Pattern.{Pattern, any, contents, entries_of, arrangements, met, split}
use Rattle.patterns.specs.Read.{patterns_of, pattern_of, pattern_at}
use Rattle.patterns.proofs.Laws.Nodes.{on_composed}
use Rattle.patterns.specs.Nodes.{collection_of, is_halved, both_halves, meetings}
use Rattle.std.specs.Prelude.{Result}
use Rattle.matching.specs.declared.nodes.Misfit.{Misfit}
use Rattle.matching.specs.Leaf.{Stands}
use Rattle.matching.specs.Node.{Meets, inner_of, ways_of, met_by}
use Rattle.matching.proofs.Records.{by_record, inner_length, count_two, recast_meets}
use Rattle.forming.specs.Frames.{entries, heft}
use Rattle.forming.specs.Inner.{Composed, count_of, inner, inner_each}
use Rattle.forming.specs.Onward.{Task, task, onward, zipped, one_way}
use Rattle.forming.specs.Laws.Onward.{onward_ways, one_way_lem}
use Rattle.forming.specs.Pending.{Pending, AgendaIs, spaces}
use Rattle.forming.specs.Settled.{Settled, TellsSettled}
use Rattle.forming.proofs.Pushing.{inner_two, met_long}
use Rattle.forming.proofs.Settling.{settled_less, several_more}

-- ---- the agenda

pub some-task : (table s a : List ℕ) (top head : ℕ) (ts : List Task) → AgendaIs table s a top head ts → 0 < head
    → (t : Task) × (us : List Task) × (ts ≡ t ∷ us) × Pending table s a top head t × AgendaIs table s a top (get_or a (3 * head + 2) 0) us
some-task table s a top head [] h l = absurd (omega (arith, h))
some-task table s a top head (t ∷ ts) h l = (t, ts, refl, h.0, h.1)

pub no_task : (table s a : List ℕ) (top head : ℕ) (ts : List Task) → AgendaIs table s a top head ts → head ≤ 0 → ts ≡ []
no_task table s a top head [] h l = refl
no_task table s a top head (t ∷ ts) h l = absurd (omega (arith, h.0.some))

pub agenda_low : (table s a : List ℕ) (top head : ℕ) (ts : List Task) → 0 < top → AgendaIs table s a top head ts → head < top
agenda_low table s a top head [] l h = omega (arith, h)
agenda_low table s a top head (t ∷ ts) l h = h.0.below

-- ---- a pattern with parts

-- the agenda grows, or it loses its first entry
pub falls_on : (top next c head : ℕ) → top + c ≤ entries → head < top + c → (c ≡ 0 → head ≡ next) → heft (top + c) head ≤ heft top next
falls_on top next zero head l h e = omega (arith, e refl)
falls_on top next (suc c) head l h e = omega arith

pub recast_word : (word : ℕ) {c k : ℕ} (kind n : ℕ) (s : List ℕ) (part : Part) (m : Result ℕ Misfit) → kind ≡ c → n ≡ k → part ≡ unpacked word → Meets kind n s part m → Meets c k s (unpacked word) m
recast_word word {c} {k} kind n s part m e d p h = subst (λ (q : Part). Meets c k s q m) p (recast_meets kind n s part m e d h)

pub part_of : (s : List ℕ) (word : ℕ) (part : Part) (v : Value) → part ≡ unpacked word → PartIs s (unpacked word) v → PartHeld s part
part_of s word part v e h = record { value = v; here = subst (λ (k : Part). PartIs s k v) (sym e) h }

inner_composed : (r : Record) (ps : List Pattern) → is_composed r.kind ≡ true → (is_halved r.kind ≡ true → length ps ≡ 2) → inner (pattern_of r ps) ≡ inner_each (patterns_of ps)
unfolding inner patterns_of
inner_composed r ps c two = on_composed r ps (λ q. inner q ≡ inner_each (patterns_of ps)) c (λ g. refl) (λ g. half ps (two g))
  where
    half : (ps : List Pattern) → length ps ≡ 2 → suc (suc (inner (get_or ps 0 any) + inner (get_or ps 1 any))) ≡ inner_each (patterns_of ps)
    half [] e = absurd (omega arith)
    half (p ∷ []) e = absurd (omega arith)
    half (p ∷ q ∷ []) e = omega arith
    half (p ∷ q ∷ r ∷ ps) e = absurd (omega arith)

inner_least : (ps : List Pattern) → length ps ≤ inner_each (patterns_of ps)
unfolding inner patterns_of
inner_least [] = omega arith
inner_least (p ∷ ps) = omega (arith, inner_least ps)

spaces_zipped : (ps : List Pattern) (vs : List Value) (ts : List Task) → spaces (zipped ps vs ++ ts) + length ps ≤ inner_each (patterns_of ps) + spaces ts
unfolding zipped patterns_of inner
spaces_zipped [] vs ts = omega arith
spaces_zipped (p ∷ ps) [] ts = omega (arith, inner_least ps)
spaces_zipped (p ∷ ps) (v ∷ vs) ts = omega (arith, spaces_zipped ps vs ts)

-- several ways are those of two parts or more
few_orders : (k : Kind) (vs : List Value) → length vs < 2 → length (arrangements k vs) < 2
unfolding orders gather at_every_place entries_of
few_orders set [] l = omega arith
few_orders set (v ∷ []) l = omega arith
few_orders set (v ∷ w ∷ vs) l = absurd (omega arith)
few_orders sequence vs l = omega arith
few_orders mapping [] l = omega arith
few_orders mapping (k ∷ []) l = omega arith
few_orders mapping (k ∷ v ∷ vs) l = absurd (omega arith)
few_orders tuple vs l = omega arith

few_met : (k : Kind) (n : ℕ) (o : Option (List Value)) → n < 2 → length (met k n o) < 2
few_met k n absent l = omega arith
few_met k n (some vs) l = go (eqb n (length vs)) refl
  where
    go : (t : Bool) → eqb n (length vs) ≡ t → length (cond t (arrangements k vs) []) < 2
    go true e = few_orders k vs (omega (arith, eqb-true n (length vs) e))
    go false e = omega arith

not-below : (n : ℕ) → (n < 2 → ⊥) → 2 ≤ n
not-below zero f = absurd (f (omega arith))
not-below (suc zero) f = absurd (f (omega arith))
not-below (suc (suc n)) f = omega arith

two_parts : (c n : ℕ) (v : Value) → (is_halved c ≡ true → n ≡ 2) → 2 ≤ length (meetings c n v) → 2 ≤ n
two_parts c n v two h = go (is_halved c) refl h
  where
    go : (t : Bool) → is_halved c ≡ t → 2 ≤ length (cond t (map (both_halves (collection_of c)) (split (collection_of c) (contents (collection_of c) v))) (met (collection_of c) n (contents (collection_of c) v))) → 2 ≤ n
    go true e l = omega (arith, two e)
    go false e l = not-below n (λ k. absurd (omega (arith, few_met (collection_of c) n (contents (collection_of c) v) k)))

module _ (table : List ℕ) (p : ℕ) (r : Composed table p) where
  abbrev P : Pattern
  P = pattern_at (records table) p

  pub whole : (v : Value) (ts : List Task) (b : Binding) → onward (task P v ∷ ts) b ≡ gather (ways_of table p v) (one_way (inner_of table p) ts b)
  whole v ts b =
      ap (λ (q : Pattern). onward (task q v ∷ ts) b) (by_record table p r.readable)
      ∙ onward_ways (record_at (records table) p) (inner_of table p) r.composed (inner_two table p r) v ts b
      ∙ ap (λ (k : ℕ). gather (meetings (kind_at (records table) p) k v) (one_way (inner_of table p) ts b)) (inner_length table p r.readable)

  placed_inside : inner P ≡ inner_each (patterns_of (inner_of table p))
  placed_inside = ap inner (by_record table p r.readable) ∙ inner_composed (record_at (records table) p) (inner_of table p) r.composed (inner_two table p r)

  pub several_parts : (v : Value) → 2 ≤ length (ways_of table p v) → 2 ≤ count_of table p
  several_parts v l = two_parts (kind_at (records table) p) (count_of table p) v (count_two table p r.readable r.composed) l

  module _ (top : ℕ) (ts : List Task) (room : top + (inner P + spaces ts) ≤ entries) where
    pub count_room : top + count_of table p ≤ entries
    count_room = omega (arith, room, placed_inside, inner_least (inner_of table p), inner_length table p r.readable)

    pub parts_room : (vs : List Value) → top + count_of table p + spaces (zipped (inner_of table p) vs ++ ts) ≤ entries
    parts_room vs = omega (arith, room, placed_inside, spaces_zipped (inner_of table p) vs ts, inner_length table p r.readable)

  -- what one way gives
  pub same_way : (v : Value) → WellFormed v → (ts : List Task) (b : Binding) (d : ℕ) → d < length (ways_of table p v) → one_way (inner_of table p) ts b (met_by table p v d) ≡ onward (zipped (inner_of table p) (met_by table p v d) ++ ts) b
  same_way v fine ts b d l = one_way_lem (inner_of table p) ts b (met_by table p v d) (met_long table p r v fine d l ∙ sym (inner_length table p r.readable))

  -- of a pattern that is only a test one way with a match gives all that the others give
  pub enough : (s words : List ℕ) (b : Binding) → Stands s words b → TellsSettled table p words true → (v : Value) → WellFormed v → (ts : List Task) (vs : List Value) → In vs (ways_of table p v) → (x : Binding) → In x (one_way (inner_of table p) ts b vs)
      → (c : Binding) → In c (gather (ways_of table p v) (one_way (inner_of table p) ts b)) → In c (one_way (inner_of table p) ts b vs)
  enough s words b st t v fine ts vs i x j c k =
      let (d, l, e) = in_at vs (ways_of table p v) [] i in
      let way : one_way (inner_of table p) ts b vs ≡ onward (zipped (inner_of table p) vs ++ ts) b =
      ap (one_way (inner_of table p) ts b) e ∙ same_way v fine ts b d l ∙ ap (λ (us : List Value). onward (zipped (inner_of table p) us ++ ts) b) (sym e) in
      let rest = settled_less s words b st P (t.says refl) v ts c (subst (In c) (sym (whole v ts b)) k) in
      subst (In c) (sym way)
      (several_more s words b st (inner_of table p) vs ts
      (λ n m.
      let q : n < count_of table p = omega (arith, inner_length table p r.readable) in
      subst (λ (y : Pattern). Settled y words) (sym (map_at (pattern_at (records table)) (operands_of (record_at (records table) p)) n 0 any q)) (t.each refl r.composed n q))
      x (subst (In x) way j) c rest)
