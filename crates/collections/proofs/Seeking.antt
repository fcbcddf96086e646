-- Where a value stands among the members of a set, or among the keys of a map, and where it belongs.
use mathlib.Core.Path.{◌≡◌, refl, ap, ◌∙◌}
use mathlib.Core.Bool.{true, false}
use mathlib.Core.Option.{none as absent, some}
use Prim.Native.Nat.{ℕ, ◌+◌}
use native.Mathlib.Omega.{arith}
use Rattle.prelude.proofs.Truth.{cond-true, cond-false}
use Rattle.std.specs.declared.cmp.Ordering.{Ordering}
use Rattle.std.specs.declared.cmp.Ordering.TheVariants.{Less, Equal, Greater}
use Rattle.std.specs.Ordering.{is_eq}
use Rattle.values.specs.Value.{Value, Items, none, more, every_other, keys, size, sizes, order, Ascending, Paired}
use Rattle.values.specs.Items.{same, is_member, in_order, join, insert, lookup, enter}
use Rattle.collections.specs.Finding.{Sought}
use Rattle.std.specs.Prelude.{Ok, Err}
use Rattle.collections.specs.Finding.{seek}
use Rattle.values.proofs.Members.{higher_apart, before_first, before_apart, insert_lower, insert_higher}
use Rattle.values.proofs.Entries.{by_entries, enter_lower, enter_higher, lookup_here, lookup_on, lookup_before, lookup-none}

-- ---- among members

-- What a place says of insertion: v is a member, or the members part there, and v belongs between.
pub data Member (v : Value) (vs : Items) (p : ℕ) : Sought → Type 0 where
  present : (q : ℕ) → is_member v vs ≡ true → Member v vs p (Ok q)
  belongs : (q : ℕ) (us ws : Items) → is_member v vs ≡ false → vs ≡ join us ws → q ≡ p + sizes us → insert v vs ≡ join us (more v ws) → Member v vs p (Err q)

member_on : (v w : Value) (ws : Items) (p : ℕ) {r : Sought} → order v w ≡ Greater → Member v ws (p + size w) r → Member v (more w ws) p r
unfolding is_member join size
member_on v w ws p o (present q e) = present q (cond-false (same v w) true (is_member v ws) (higher_apart v w o) ∙ e)
member_on v w ws p o (belongs q us ws' e f g h) =
    belongs q (more w us) ws' (cond-false (same v w) true (is_member v ws) (higher_apart v w o) ∙ e) (ap (more w) f) (omega arith) (insert_higher v w ws o ∙ ap (more w) h)

pub seek_member : (v : Value) (vs : Items) (p : ℕ) → Ascending vs → Member v vs p (seek false true v vs p)
unfolding seek Ascending is_member join insert size
seek_member v none p a = belongs p none none refl refl (omega arith) refl
seek_member v (more w ws) p a = go (order v w) refl (seek_member v ws (p + size w) a.1)
  where
    go : (o : Ordering) → order v w ≡ o → Member v ws (p + size w) (seek false true v ws (p + size w)) → Member v (more w ws) p (in_order o (Err p) (Ok p) (seek false true v ws (p + size w)))
    go Less e m = belongs p none (more w ws) (before_apart v (more w ws) (before_first v w ws e a.0)) refl (omega arith) (insert_lower v w ws e)
    go Equal e m = present p (cond-true (same v w) true (is_member v ws) (ap is_eq e))
    go Greater e m = member_on v w ws p e m

-- ---- among keys

-- What a place says of a key: it stands there with its value, or the entries part there, and it belongs between.
pub data Key (k : Value) (vs : Items) (p : ℕ) : Sought → Type 0 where
  present : (q : ℕ) (us ws : Items) (l w : Value) → lookup k vs ≡ some w → vs ≡ join us (more l (more w ws)) → q ≡ p + sizes us → Key k vs p (Ok q)
  belongs : (q : ℕ) (us ws : Items) → lookup k vs ≡ absent → vs ≡ join us ws → q ≡ p + sizes us → ((v : Value) → enter k v vs ≡ join us (more k (more v ws))) → Key k vs p (Err q)

key_on : (k l w : Value) (vs : Items) (p : ℕ) {r : Sought} → order k l ≡ Greater → Key k vs (p + size l + size w) r → Key k (more l (more w vs)) p r
unfolding join size
key_on k l w vs p o (present q us ws l' w' e f g) = present q (more l (more w us)) ws l' w' (lookup_on k l w vs o ∙ e) (ap (λ (ws : Items). more l (more w ws)) f) (omega arith)
key_on k l w vs p o (belongs q us ws e f g h) =
    belongs q (more l (more w us)) ws (lookup_on k l w vs o ∙ e) (ap (λ (ws : Items). more l (more w ws)) f) (omega arith)
    (λ v. enter_higher k v l w vs o ∙ ap (λ (ws : Items). more l (more w ws)) (h v))

key_first : (k l w : Value) (vs : Items) (p : ℕ) (o : Ordering) (r : Sought) → Paired vs → Ascending (keys (more l (more w vs))) → order k l ≡ o
    → Key k vs (p + size l + size w) r → Key k (more l (more w vs)) p (in_order o (Err p) (Ok p) r)
unfolding every_other Ascending join size
key_first k l w vs p Less r q a e m =
    belongs p none (more l (more w vs)) (lookup_before k l w vs q a.0 e) refl (omega arith) (λ v. enter_lower k v l (more w vs) e)
key_first k l w vs p Equal r q a e m = present p none vs l w (lookup_here k l w vs e) refl (omega arith)
key_first k l w vs p Greater r q a e m = key_on k l w vs p e m

pub seek_key : (k : Value) (vs : Items) → Paired vs → (p : ℕ) → Ascending (keys vs) → Key k vs p (seek true true k vs p)
unfolding seek every_other Ascending join enter size
seek_key k =
    by_entries (λ (vs : Items). (p : ℕ) → Ascending (keys vs) → Key k vs p (seek true true k vs p))
    (λ p a. belongs p none none (lookup-none k) refl (omega arith) (λ v. refl))
    (λ l w vs q r p a. key_first k l w vs p (order k l) (seek true true k vs (p + size l + size w)) q a refl (r (p + size l + size w) a.1))
