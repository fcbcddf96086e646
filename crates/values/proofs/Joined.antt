-- Laws of items one after the other and of their number. (Their sizes, bytes and soundness: Encoding.)
use mathlib.Core.Path.{◌≡◌, refl, ap}
use Prim.Native.Nat.{suc, ◌+◌}
use native.Mathlib.Omega.{arith}
use Rattle.values.specs.Value.{Value, Items, none, more, count}
use Rattle.values.specs.Items.{join, snoc}

pub join-none : (vs : Items) → join vs none ≡ vs
unfolding join
join-none none = refl
join-none (more v vs) = ap (more v) (join-none vs)

pub join_join : (us vs ws : Items) → join (join us vs) ws ≡ join us (join vs ws)
unfolding join
join_join none vs ws = refl
join_join (more u us) vs ws = ap (more u) (join_join us vs ws)

pub count_join : (vs ws : Items) → count (join vs ws) ≡ count vs + count ws
unfolding join count
count_join none ws = omega arith
count_join (more v vs) ws = let e = count_join vs ws in omega arith

pub count_snoc : (vs : Items) (w : Value) → count (snoc vs w) ≡ suc (count vs)
unfolding count
count_snoc vs w = let e = count_join vs (more w none) in omega arith
