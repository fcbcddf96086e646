-- One member passed, of those left of two sets: the least of them, on the side that an order says.
use mathlib.Core.Path.{◌≡◌, refl, sym, ap, subst, ◌∙◌}
use Prim.Native.Nat.{◌+◌, ◌<◌}
use native.Mathlib.Omega.{arith}
use Rattle.std.specs.declared.cmp.Ordering.{Ordering}
use Rattle.std.specs.declared.cmp.Ordering.TheVariants.{Less, Equal, Greater}
use Rattle.values.specs.Value.{Value, Items, none, more, sizes, Before, Ascending}
use Rattle.values.specs.Items.{join, snoc, in_order}
use Rattle.values.proofs.Order.{same_equal, higher_flip}
use Rattle.values.proofs.Encoding.{none_sizes}
use Rattle.values.proofs.Joined.{join_join}
use Rattle.values.proofs.Members.{before_first, by_order}
use Rattle.operators.specs.Sets.{unite}
use Rattle.operator_laws.proofs.Sets.{ascending_parts, ascending_between, passed_left, passed_right, passed_both}
use Rattle.set_operators.specs.Members.{least_on}

-- us and xs are passed, vs and ws are left; then the least of those left, m, is passed too
pub record Passes (us xs vs ws : Items) (o : Ordering) : Type 0 where
  pub m : Value
  pub us' : Items
  pub vs' : Items
  pub xs' : Items
  pub ws' : Items
  pub left_is : vs ≡ in_order o (more m vs') (more m vs') vs'
  pub right_is : ws ≡ in_order o ws' (more m ws') (more m ws')
  pub left_so : join us vs ≡ join us' vs'
  pub right_so : join xs ws ≡ join xs' ws'
  pub is : unite us' xs' ≡ snoc (unite us xs) m
  pub left_above : Ascending (join (snoc (unite us xs) m) vs')
  pub right_above : Ascending (join (snoc (unite us xs) m) ws')

-- the first of those left, behind those passed
over : (us : Items) (v : Value) (vs : Items) → join us (more v vs) ≡ join (snoc us v) vs
unfolding join
over us v vs = sym (join_join us (more v none) vs)

ascending_over : (us : Items) (v : Value) (vs : Items) → Ascending (join us (more v vs)) → Ascending (snoc us v)
ascending_over us v vs a = (ascending_parts (snoc us v) vs (subst Ascending (over us v vs) a)).0

module _ (us xs : Items) where
  on_left : (v : Value) (vs ws : Items) → Ascending (join us (more v vs)) → Ascending (join (unite us xs) (more v vs)) → Ascending (join (unite us xs) ws) → Before v ws → Passes us xs (more v vs) ws Less
  on_left v vs ws a b c l =
      let d = ascending_over (unite us xs) v vs b in
      record {
        m = v;
        us' = snoc us v;
        vs' = vs;
        xs' = xs;
        ws' = ws;
        left_is = refl;
        right_is = refl;
        left_so = over us v vs;
        right_so = refl;
        is = passed_left us xs v d (ascending_over us v vs a);
        left_above = subst Ascending (over (unite us xs) v vs) b;
        right_above = ascending_between (unite us xs) v ws d c l;
      }

  on_right : (w : Value) (vs ws : Items) → Ascending us → Ascending (join (unite us xs) vs) → Ascending (join (unite us xs) (more w ws)) → Before w vs → Passes us xs vs (more w ws) Greater
  on_right w vs ws a b c l =
      let d = ascending_over (unite us xs) w ws c in
      record {
        m = w;
        us' = us;
        vs' = vs;
        xs' = snoc xs w;
        ws' = ws;
        left_is = refl;
        right_is = refl;
        left_so = refl;
        right_so = over xs w ws;
        is = passed_right us xs w d a;
        left_above = ascending_between (unite us xs) w vs d b l;
        right_above = subst Ascending (over (unite us xs) w ws) c;
      }

  on_both : (v w : Value) (vs ws : Items) → v ≡ w → Ascending (join us (more v vs)) → Ascending (join (unite us xs) (more v vs)) → Ascending (join (unite us xs) (more w ws)) → Passes us xs (more v vs) (more w ws) Equal
  on_both v w vs ws e a b c =
      let f : Ascending (join (unite us xs) (more v ws)) = subst (λ (z : Value). Ascending (join (unite us xs) (more z ws))) (sym e) c in
      record {
        m = v;
        us' = snoc us v;
        vs' = vs;
        xs' = snoc xs v;
        ws' = ws;
        left_is = refl;
        right_is = ap (λ (z : Value). more z ws) (sym e);
        left_so = over us v vs;
        right_so = ap (λ (z : Value). join xs (more z ws)) (sym e) ∙ over xs v ws;
        is = passed_both us xs v (ascending_over (unite us xs) v vs b) (ascending_over us v vs a);
        left_above = subst Ascending (over (unite us xs) v vs) b;
        right_above = subst Ascending (over (unite us xs) v ws) f;
      }

  -- the order says on which side the least is
  pub passes : (vs ws : Items) → 0 < sizes vs + sizes ws → Ascending (join us vs) → Ascending (join (unite us xs) vs) → Ascending (join (unite us xs) ws) → Passes us xs vs ws (least_on vs ws)
  unfolding Before Ascending
  passes none none lt a b c = absurd (omega (arith, none_sizes))
  passes (more v vs) none lt a b c = on_left v vs none a b c tt
  passes none (more w ws) lt a b c = on_right w none ws (ascending_parts us none a).0 b c tt
  passes (more v vs) (more w ws) lt a b c =
      by_order v w
      (λ e. subst (Passes us xs (more v vs) (more w ws)) (sym e) (on_left v vs (more w ws) a b c (before_first v w ws e (ascending_parts (unite us xs) (more w ws) c).1.0)))
      (λ e. subst (Passes us xs (more v vs) (more w ws)) (sym e) (on_both v w vs ws (same_equal v w e) a b c))
      (λ e.
      subst (Passes us xs (more v vs) (more w ws)) (sym e)
      (on_right w (more v vs) ws (ascending_parts us (more v vs) a).0 b c (before_first w v vs (higher_flip v w e) (ascending_parts (unite us xs) (more v vs) b).1.0)))
