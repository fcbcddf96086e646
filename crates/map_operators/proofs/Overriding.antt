-- The loop of `enter_all`: what is left of the first map, entered into by what is made of the second, is the whole. Assumes nothing.
use mathlib.Core.Path.{◌≡◌, refl, sym, ap, subst, ◌∙◌}
use mathlib.Core.Bool.{Bool, true, false, cond}
use mathlib.Core.List.{List}
use mathlib.Core.Logic.{inl}
use mathlib.Core.Option.{Option, none as absent, some}
use Prim.Native.Nat.{ℕ, ◌+◌, ◌≤◌, ◌<◌}
use native.Mathlib.Omega.{arith}
use borrow.Author.Tests.{leb-false}
use lib.Dec.{leb}
use Rattle.prelude.proofs.Absurd.{impossible, never}
use Rattle.integers.specs.Bytes.{word}
use Rattle.values.specs.Value.{map, Value, collection, Items, more, every_other, keys, size, sizes, Ascending, Paired, value_limit}
use Rattle.values.specs.Items.{same, lookup, enter}
use Rattle.values.specs.Place.{At, ItemsAt, Outside}
use Rattle.values.specs.Contract.{Copyable, Copied}
use Rattle.values.proofs.Order.{same_true}
use Rattle.values.proofs.Encoding.{collection_size}
use Rattle.values.proofs.Records.{holds, items_to, items_none, collection_shaped}
use Rattle.values.proofs.Frame.{outside_none, outside_both, items_below}
use Rattle.collections.specs.Building.{Added}
use Rattle.std.specs.Prelude.{Ok, Err}
use Rattle.std.specs.Result.{result_eq}
use Rattle.std.specs.contracts.prelude.UnitPartialEq.TheImpl as unit
use Rattle.prelude.specs.contracts.RefusalPartialEq.TheImpl as equal
use Rattle.prelude.specs.declared.Refusal.{Refusal}
use Rattle.prelude.specs.declared.Refusal.TheVariants.{WrongKind, OutOfRange, ByZero, NoMatch, NoBinding, NotUnique, NotThere, Clash, TooLarge, TooLargeToSplit, TooManyBindings, TooManyChoices, ListTooShort, EntryTooHigh, EntriesLeft}
use Rattle.values.proofs.Entries.{enter_present, paired_enter, ascending_enter}
use Rattle.collections.specs.Building.{entry_answer, EntryRoom, Maps, Enters}
use Rattle.operators.specs.Answer.{closed, sized}
use Rattle.operators.specs.Gather.{enter_all}
use Rattle.operator_laws.proofs.Enumerations.{fitting_built, fits_not}
use Rattle.calling.specs.Scratch.{second}
use Rattle.calling.proofs.Answering.{is_done, is_off}
use Rattle.calling.proofs.Framing.{kept_then, kept_outside, copyable_down, copied_kept}
use Rattle.calling.specs.Operands.{HasTwo, OnBoth}
use Rattle.calling.proofs.Kinding.{both_by}
use Rattle.map_operators.proofs.Pairs.{NextEntry, next_entry}
use Rattle.map_operators.proofs.Agreeing.{entered_all}
use Rattle.map_operators.proofs.Parts.{sizes_entered, entered_new, entered_there, entered_none}

pub record Overriding (s t : List ℕ) (base end p : ℕ) : Type 0 where
  pub maps : HasTwo map map s base
  pub short : end ≤ base + value_limit
  pub made : Items
  pub rest : Items
  pub so : enter_all maps.left.items maps.right.items ≡ enter_all rest made
  pub paired : Paired rest
  pub ascending : Ascending (keys rest)
  pub made_at : At t (base + second) (collection map made)
  pub rest_at : ItemsAt t p end rest
  pub frame : Outside s t (base + second) (base + second + value_limit)

pub over_start : {s : List ℕ} {base n : ℕ} → n ≡ word s base → HasTwo map map s base → Overriding s s base (base + n) (base + 4)
over_start {s} {base} {n} e h =
    let a = h.left.here in
    let b = holds a in
    record {
      maps = h;
      short = omega arith;
      made = h.right.items;
      rest = h.left.items;
      so = refl;
      paired = (collection_shaped a.fine).0;
      ascending = (collection_shaped a.fine).1;
      made_at = h.right.here;
      rest_at = items_to e a;
      frame = outside_none s (base + second) (base + second + value_limit);
    }

-- ---- what an answer says

full_over : {n : ℕ} (b : Bool) → b ≡ leb n value_limit → ◌≡◌ {A = Added} (Err TooLarge) (cond b (Ok tt) (Err TooLarge)) → value_limit < n
full_over true e d = impossible cc
full_over {n} false e d = leb-false n value_limit (sym e)

not_full : {r : Added} (b : Bool) → r ≡ cond b (Ok tt) (Err TooLarge) → (r ≡ Err TooLarge → ⊥) → r ≡ Ok tt
not_full true e f = e
not_full false e f = absurd (f e)

there_full : {X : Type 0} (b : Bool) → ◌≡◌ {A = Added} (Err TooLarge) (cond b (Ok tt) (Err Clash)) → X
there_full true e = impossible cc
there_full false e = impossible cc

-- the code's test of an answer
is_large : (e : Refusal) → (equal.eq-value).it e TooLarge ≡ true → e ≡ TooLarge
is_large WrongKind e = never e
is_large OutOfRange e = never e
is_large ByZero e = never e
is_large NoMatch e = never e
is_large NoBinding e = never e
is_large NotUnique e = never e
is_large NotThere e = never e
is_large Clash e = never e
is_large TooLarge e = refl
is_large TooLargeToSplit e = never e
is_large TooManyBindings e = never e
is_large TooManyChoices e = never e
is_large ListTooShort e = never e
is_large EntryTooHigh e = never e
is_large EntriesLeft e = never e

pub told_full : (r : Added) → result_eq (unit.eq-value).it (equal.eq-value).it r (Err TooLarge) ≡ true → r ≡ Err TooLarge
told_full (Ok u) e = never e
told_full (Err why) e = ap Err (is_large why e)

pub told_not_full : (r : Added) → result_eq (unit.eq-value).it (equal.eq-value).it r (Err TooLarge) ≡ false → r ≡ Err TooLarge → ⊥
told_not_full r e d = never (sym e ∙ ap (λ (q : Added). result_eq (unit.eq-value).it (equal.eq-value).it q (Err TooLarge)) d)

-- a key that is there: nothing changes
there-same : {s t : List ℕ} {at x y : ℕ} {vs : Items} {k v w : Value} {r : Added} → Paired vs → Ascending (keys vs) → Enters s t at x y r → Maps s t at vs k v r → lookup k vs ≡ some w → t ≡ s
there-same {s} {t} {at} {x} {y} {vs} {k} {v} {w} {r} p a e m l = go (same w v) refl
  where
    go : (b : Bool) → same w v ≡ b → t ≡ s
    go true q = m.still (enter_present k v vs p a (l ∙ ap some (same_true w v q)))
    go false q =
        e.refused Clash
        (m.answers ∙ ap (λ (o : Option Value). entry_answer o v (size (collection map (enter k v vs)))) l ∙ ap (λ (b : Bool). cond b (Ok tt) (Err Clash)) q)

module _ {s t : List ℕ} {base end p m l : ℕ} (w : Overriding s t base end p) (lt : p < end) (e : m ≡ word t p) (d : l ≡ word t (p + m)) where
  pub over_next : NextEntry t p m l end w.rest
  over_next = next_entry lt e d w.rest_at w.paired

  pub over_room : EntryRoom t (base + second) p (p + m)
  over_room =
      let y = over_next in
      let r = w.maps.room in
      let i = w.short in
      let n = w.frame.long in
      record {
        key = record { held = record { items = w.made; here = w.made_at }; room = omega arith; item = holds y.key_at; apart = inl (omega arith) };
        value = record { held = record { items = w.made; here = w.made_at }; room = omega arith; item = holds y.value_at; apart = inl (omega arith) };
      }

module _ {s t u : List ℕ} {base end p m l : ℕ} {r : Added} (w : Overriding s t base end p) (y : NextEntry t p m l end w.rest) (x : Enters t u (base + second) p (p + m) r) where
  answer : Maps t u (base + second) w.made y.key y.value r
  answer = x.right w.made y.key y.value w.made_at y.key_at y.value_at

  rising : Ascending (keys (more y.key (more y.value y.rest)))
  rising = subst (λ (vs : Items). Ascending (keys vs)) y.is w.ascending

  rest_rising : Ascending (keys y.rest)
  unfolding every_other Ascending
  rest_rising = rising.1

  -- the whole, where the key is new and where it is there
  whole_new : lookup y.key w.made ≡ absent → enter_all w.maps.left.items w.maps.right.items ≡ enter_all y.rest (enter y.key y.value w.made)
  whole_new n =
      let h = collection_shaped w.made_at.fine in
      w.so ∙ ap (λ (vs : Items). enter_all vs w.made) y.is ∙ entered_new y.key y.value y.rest w.made y.paired h.0 rising h.1 n

  whole_there : {z : Value} → lookup y.key w.made ≡ some z → enter_all w.maps.left.items w.maps.right.items ≡ enter_all y.rest w.made
  whole_there n =
      let h = collection_shaped w.made_at.fine in
      w.so ∙ ap (λ (vs : Items). enter_all vs w.made) y.is ∙ entered_there y.key y.value y.rest w.made y.paired h.0 rising h.1 n

  -- 28: what is made already is over 512 bytes, and so is the whole
  too_long : r ≡ Err TooLarge → (o : Option Value) → lookup y.key w.made ≡ o → value_limit < 4 + sizes (enter_all w.maps.left.items w.maps.right.items)
  too_long f absent n =
      let made = enter y.key y.value w.made in
      let h = collection_shaped w.made_at.fine in
      let big : value_limit < size (collection map made) =
      full_over (leb (size (collection map made)) value_limit) refl (sym f ∙ answer.answers ∙ ap (λ (o : Option Value). entry_answer o y.value (size (collection map made))) n) in
      let part = sizes_entered y.rest made y.paired (paired_enter y.key y.value w.made h.0) rest_rising (ascending_enter y.key y.value w.made h.0 h.1) in
      omega (arith, collection_size map made, ap sizes (whole_new n))
  too_long f (some z) n =
      there_full (same z y.value)
      (sym f ∙ answer.answers ∙ ap (λ (o : Option Value). entry_answer o y.value (size (collection map (enter y.key y.value w.made)))) n)

  pub over_full : r ≡ Err TooLarge → OnBoth map map entered_all s u base (Err TooLarge)
  over_full f =
      let vs = w.maps.left.items in
      let ws = w.maps.right.items in
      both_by {f = entered_all} (kept_outside (omega arith) (outside_both w.frame x.frame)) w.maps.left.here w.maps.right.here
      (is_off (ap (closed map) (fits_not (enter_all vs ws) (too_long f (lookup y.key w.made) refl))))

  -- on to the next entry
  onward : (made : Items) → enter_all w.maps.left.items w.maps.right.items ≡ enter_all y.rest made → At u (base + second) (collection map made) → Overriding s u base end (p + m + l)
  onward made e a =
      let i = w.short in
      record {
        maps = w.maps;
        short = i;
        made = made;
        rest = y.rest;
        so = e;
        paired = y.paired;
        ascending = rest_rising;
        made_at = a;
        rest_at = items_below x.frame (omega arith) y.rest_at;
        frame = outside_both w.frame x.frame;
      }

  step : (r ≡ Err TooLarge → ⊥) → (o : Option Value) → lookup y.key w.made ≡ o → Overriding s u base end (p + m + l)
  step f absent n =
      let made = enter y.key y.value w.made in
      onward made (whole_new n)
      (answer.made
      (not_full (leb (size (collection map made)) value_limit) (answer.answers ∙ ap (λ (o : Option Value). entry_answer o y.value (size (collection map made))) n) f))
  step f (some z) n =
      let h = collection_shaped w.made_at.fine in
      onward w.made (whole_there n) (subst (λ (b : List ℕ). At b (base + second) (collection map w.made)) (sym (there-same h.0 h.1 x answer n)) w.made_at)

  pub over-step : (r ≡ Err TooLarge → ⊥) → Overriding s u base end (p + m + l)
  over-step f = step f (lookup y.key w.made) refl

module _ {s t : List ℕ} {base end p : ℕ} (w : Overriding s t base end p) where
  pub over_copyable : Copyable t (base + second) base
  over_copyable = copyable_down (omega arith) (holds w.made_at)

  pub over_end : {u : List ℕ} {r : ℕ} → end ≤ p → Copied t u (base + second) base r → OnBoth map map entered_all s u base (Ok tt)
  over_end {u} le c =
      let vs = w.maps.left.items in
      let ws = w.maps.right.items in
      let h = collection_shaped w.made_at.fine in
      let e : enter_all vs ws ≡ w.made = w.so ∙ ap (λ (us : Items). enter_all us w.made) (items_none le w.rest_at) ∙ entered_none w.made h.0 h.1 in
      let l = w.made_at.fine.short in
      let z = collection_size map w.made in
      both_by {f = entered_all} (kept_then (kept_outside (omega arith) w.frame) (copied_kept c)) w.maps.left.here w.maps.right.here
      (is_done (ap (sized map) e ∙ ap (closed map) (fitting_built w.made (omega arith))) (c.here (collection map w.made) w.made_at))
