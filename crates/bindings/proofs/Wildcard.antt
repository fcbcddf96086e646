-- `-` over values: one binding, which gives no name a value, or none where there are no values; and the window over it, which holds no word.
use mathlib.Core.Path.{◌≡◌, refl, sym, ap, ◌∙◌}
use mathlib.Core.Bool.{Bool, true, false, cond}
use mathlib.Core.List.{List, [], ◌∷◌, map}
use Prim.Native.Nat.{ℕ, ◌+◌, ◌-◌, ◌*◌, ◌≤◌, ◌<◌}
use native.Mathlib.Omega.{arith}
use lib.ListN.{length, take}
use lib.Seq.{take-take, length-take-le}
use Rattle.integers.specs.Bytes.{word}
use Rattle.std.specs.declared.cmp.Ordering.{Ordering}
use Rattle.values.specs.Value.{Value, collection, set}
use Rattle.values.specs.Items.{in_order}
use Rattle.values.specs.Place.{At, Holds}
use Rattle.values.proofs.Records.{holds}
use Rattle.values.proofs.Frame.{kept}
use Rattle.tables.specs.Record.{named as operands_of}
use Rattle.tables.specs.Table.{record_at, kind_at}
use Rattle.tables.specs.Accepted.{records}
use Rattle.tables.proofs.Laws.Accepted.{lower}
use Rattle.patterns.specs.Ways.{gather, exists}
use Rattle.patterns.specs.Binding.{Binding, names, nothing, sorted, place}
use Rattle.patterns.specs.Pattern.{Pattern, any, items_of, matches, wide}
use Rattle.patterns.specs.Binder.{bindings, bound, formed, few}
use Rattle.patterns.specs.Read.{Readable, pattern_at}
use Rattle.patterns.proofs.Laws.Ordered.{bindings_refl}
use Rattle.patterns.proofs.Laws.Nodes.{is_any, pattern_at_lem}
use Rattle.bindings.specs.declared.Cursor.{Cursor}
use Rattle.std.specs.Prelude.{Ok}
use mir.Val.{bool_byte}
use lib.Dec.{ltb}
use borrow.Author.Tests.{lt-ltb, le-ltb}
use Rattle.prelude.proofs.Truth.{by_lower}
use Rattle.bindings.specs.Forming.{Values, Bindable}
use Rattle.bindings.specs.Window.{Windowed, Lent, OpenedAs}
use Rattle.bindings.specs.Opening.{any_count, AnyOpened}
use Rattle.bindings.proofs.Large.{values_at}
use Rattle.bindings.proofs.Members.{first-of, none_left}
use Rattle.bindings.proofs.Windows.{frees}

-- ---- the bindings of `-`

any_narrow : (vs : List Value) → exists vs (wide any) ≡ false
unfolding exists wide
any_narrow [] = refl
any_narrow (v ∷ vs) = any_narrow vs

any_sorted : (v : Value) (vs : List Value) → bindings any (v ∷ vs) ≡ nothing ∷ []
unfolding gather matches sorted place
any_sorted v [] = refl
any_sorted v (w ∷ vs) = ap (place nothing) (any_sorted w vs) ∙ ap (λ (o : Ordering). in_order o (nothing ∷ nothing ∷ []) (nothing ∷ []) (nothing ∷ nothing ∷ [])) (bindings_refl nothing)

abbrev any_bindings : List Value → List Binding
any_bindings [] = []
any_bindings (v ∷ vs) = nothing ∷ []

any_formed : (vs : List Value) → formed any vs ≡ bound (any_bindings vs)
unfolding exists wide gather sorted
any_formed [] = refl
any_formed (v ∷ vs) = rw (any_narrow (v ∷ vs)) (ap few (any_sorted v vs))

-- ---- the window

any_windowed : (s : List ℕ) (to : ℕ) (vs : List Value) → Windowed s to (record { count = any_count vs; names = 0; width = 0; from = 0 }) (any_bindings vs)
any_windowed s to [] = record { count = refl; few = omega arith; narrow = omega arith; first = omega arith; each = λ k i. absurd (omega (arith, i.below)); sized = λ k l. absurd (omega arith) }
any_windowed s to (v ∷ vs) = record {
  count = refl;
  few = omega arith;
  narrow = omega arith;
  first = omega arith;
  each = λ k i.
      let e : k ≡ 0 = omega (arith, i.below) in
      let a : to + 4 * (0 * (0 - 0)) ≡ to = omega arith in
      let b : to + 4 * 0 ≡ to = omega arith in
      rw (e, a, b) (frees s (take to s) to names);
  sized = λ k l.
      let e : k ≡ 0 = omega arith in
      rw e refl;
}

-- ---- what is asked and told

values_kept : (s : List ℕ) (at : ℕ) (w : Bool) (to : ℕ) (vs : List Value) → to ≤ length s → Values (take to s) at w vs → Values s at w vs
values_kept s at w to vs l i = go w i
  where
    here : (v : Value) → At (take to s) at v → At s at v
    here v j = kept {base = to} (sym (take-take to to s (omega arith))) l (omega (arith, j.fits, length-take-le to s l)) j

    go : (w : Bool) → Values (take to s) at w vs → Values s at w vs
    go true (v, j, e) = (v, here v j, e)
    go false j = here (collection set (items_of vs)) j

pub any_asked : (s : List ℕ) (at : ℕ) (w : Bool) (to : ℕ) → Lent s at w to → Bindable s at w × (length s ≤ 65536)
any_asked s at w to h = ((h.bindable.0, values_kept s at w to h.bindable.0 (omega (arith, h.room)) h.bindable.1), h.short)

module _ (s : List ℕ) (at : ℕ) (w : Bool) where
  value_there : (t : Bool) (vs : List Value) → Values s at t vs → (v : Value) × At s at v
  value_there true vs (v, i, e) = (v, i)
  value_there false vs i = (collection set (items_of vs), i)

  pub any_holds : Bindable s at w → Holds s at
  any_holds (vs, i) = holds (value_there w vs i).1

  module _ (n from : ℕ) (q : n ≡ word s at) (d : from ≡ cond w at (at + 4)) where
    any_some : from < at + n → AnyOpened s at w (record { count = 1; names = 0; width = 0; from = 0 })
    any_some l vs i = let f = first-of s from (at + n) vs l (values_at s at w vs n from q d i) in rw f.is refl

    any_none : at + n ≤ from → AnyOpened s at w (record { count = 0; names = 0; width = 0; from = 0 })
    any_none l vs i = rw (none_left s from (at + n) vs l (values_at s at w vs n from q d i)) refl

    pub any_told : AnyOpened s at w (record { count = bool_byte (ltb from (at + n)); names = 0; width = 0; from = 0 })
    any_told = by_lower from (at + n) (λ l. rw (lt-ltb from (at + n) l) (any_some l)) (λ l. rw (le-ltb from (at + n) l) (any_none l))

module _ (table : List ℕ) (p : ℕ) (c : Readable table p) (k : kind_at (records table) p ≡ 33) where
  is_wildcard : pattern_at (records table) p ≡ any
  is_wildcard = pattern_at_lem (records table) (lower (records table) c.fine.clear6) p c.here ∙ is_any (record_at (records table) p) (map (pattern_at (records table)) (operands_of (record_at (records table) p))) k

  -- THEOREM: `-` is opened with one binding without names over any values, and with none over none
  pub any_opened : (s : List ℕ) (at : ℕ) (w : Bool) (to : ℕ) → Lent s at w to → (r : Cursor) → AnyOpened s at w r → OpenedAs table p s s at w to (Ok r)
  any_opened s at w to h r o = record {
    outside = record { long = refl; below = refl; above = refl };
    tells = λ vs i.
        let f : formed (pattern_at (records table) p) vs ≡ bound (any_bindings vs) = ap (λ (q : Pattern). formed q vs) is_wildcard ∙ any_formed vs in
        let e = o vs (values_kept s at w to vs (omega (arith, h.room)) i) in
        rw (f, e) (any_windowed s to vs, refl);
  }
