-- What `seek` found, in a set and in a map. Assumes nothing.
use mathlib.Core.Path.{◌≡◌, sym, subst}
use mathlib.Core.Bool.{true, false}
use mathlib.Core.List.{List}
use mathlib.Core.Option.{none as absent, some}
use Prim.Native.Nat.{ℕ, ◌+◌, ◌≤◌}
use native.Mathlib.Omega.{arith}
use Rattle.integers.specs.Bytes.{word}
use Rattle.values.specs.Value.{set, map, Value, Items, more, collection, size, sizes}
use Rattle.values.specs.Items.{is_member, join, lookup}
use Rattle.values.specs.Place.{At, ItemsAt}
use Rattle.values.proofs.Records.{word_size, collection_shaped, items-of, parted, first-of}
use Rattle.std.specs.Prelude.{Ok, Err, Some, None, is_ok}
use Rattle.std.specs.Result.{result_ok}
use Rattle.prelude.proofs.Absurd.{impossible}
use Rattle.collections.specs.Finding.{Sought}
use Rattle.collections.proofs.Seeking.{Member, Key, present, belongs, seek_member, seek_key}
use Rattle.collections.specs.Finding.{Seeks, FindsIn, found, missing, Contains, AtKey}

-- ---- in a set

pub sight : {s : List ℕ} {at x : ℕ} {r : Sought} {vs : Items} {v : Value} → Seeks s at x false r → At s at (collection set vs) → At s x v → Member v vs (at + 4) r
sight {s} {at} {x} {r} {vs} {v} f h g = subst (Member v vs (at + 4)) (sym (f set vs v h g)) (seek_member v vs (at + 4) (collection_shaped h.fine))

is_found : {v : Value} {vs : Items} {p : ℕ} {r : Sought} → Member v vs p r → is_ok r ≡ is_member v vs
is_found (present q e) = sym e
is_found (belongs q us ws e f g h) = sym e

pub contained : {s : List ℕ} {at x : ℕ} {r : Sought} → Seeks s at x false r → Contains s at x (is_ok r)
contained f vs v h g = is_found (sight f h g)

-- ---- in a map

pub key_sight : {s : List ℕ} {at x : ℕ} {r : Sought} {vs : Items} {v : Value} → Seeks s at x true r → At s at (collection map vs) → At s x v → Key v vs (at + 4) r
key_sight {s} {at} {x} {r} {vs} {v} f h g =
    let m = collection_shaped h.fine in
    subst (Key v vs (at + 4)) (sym (f map vs v h g)) (seek_key v vs m.0 (at + 4) m.1)

-- the key stands at q, and its value after it
pub record Entry (s : List ℕ) (at : ℕ) (vs : Items) (v : Value) (q : ℕ) : Type 0 where
  pub key : Value
  pub value : Value
  pub key_at : At s q key
  pub value_at : At s (q + word s q) value
  pub looked : lookup v vs ≡ some value
  pub from : at + 4 ≤ q
  pub to : q + word s q + size value ≤ at + word s at

entry_at : {s : List ℕ} {at : ℕ} {vs : Items} {v : Value} {q : ℕ} → At s at (collection map vs) → Key v vs (at + 4) (Ok q) → Entry s at vs v q
entry_at {s} {at} {vs} {v} h (present q us ws l w d i j) =
    let items : ItemsAt s (at + 4) (at + size (collection map vs)) (join us (more l (more w ws))) = subst (λ (l : Items). ItemsAt s (at + 4) (at + size (collection map vs)) l) i (items-of h) in
    let first = first-of (parted us (more l (more w ws)) items).1 in
    let second = first-of first.1 in
    let key : At s q l = subst (λ (m : ℕ). At s m l) (sym j) first.0 in
    let e = word_size key in
    let m : at + 4 + sizes us + size l ≡ q + word s q = omega arith in
    let n = word_size h in
    let last = second.1.ends in
    record {
      key = l;
      value = w;
      key_at = key;
      value_at = subst (λ (m : ℕ). At s m w) m second.0;
      looked = d;
      from = omega arith;
      to = omega arith;
    }

module _ {s : List ℕ} {at x : ℕ} {r : Sought} (f : Seeks s at x true r) (q : ℕ) where
  pub entry : r ≡ Ok q → (vs : Items) (v : Value) → At s at (collection map vs) → At s x v → Entry s at vs v q
  entry e vs v h g = entry_at h (subst (Key v vs (at + 4)) e (key_sight f h g))

  pub at_key : r ≡ Ok q → (n : ℕ) → n ≡ word s q → AtKey s at x (Some (q + n))
  at_key e n d vs v h g =
      let y = entry e vs v h g in
      let low = y.from in
      let high = y.to in
      let z = word_size h in
      rw d (subst (FindsIn s at (collection map vs) (Some (q + word s q))) (sym y.looked) (found y.value_at (omega arith) (omega arith)))

pub ok_at : {r : Sought} {q : ℕ} → result_ok r ≡ Some q → r ≡ Ok q
ok_at {r = Ok p} e = cc
ok_at {r = Err p} e = impossible cc

pub no_key : {s : List ℕ} {at x : ℕ} {r : Sought} → Seeks s at x true r → result_ok r ≡ None → AtKey s at x None
no_key {s} {at} f e vs v h g = subst (FindsIn s at (collection map vs) None) (go (key_sight f h g) e) missing
  where
    go : {r : Sought} → Key v vs (at + 4) r → result_ok r ≡ None → absent ≡ lookup v vs
    go (present q us ws l w d i j) e = impossible cc
    go (belongs q us ws d i j k) e = sym d
