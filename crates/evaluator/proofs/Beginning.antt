-- The set of a binder, or the value of a let, is evaluated, and its bindings are formed.
use mathlib.Core.Path.{◌≡◌, refl, sym, ap, subst, ◌∙◌}
use mathlib.Core.Bool.{Bool, true, false, cond}
use mathlib.Core.List.{List, [], ◌∷◌}
use Prim.Native.Nat.{ℕ, ◌+◌, ◌≤◌}
use native.Mathlib.Omega.{arith}
use lib.Dec.{eqb, leb}
use lib.ListN.{length, take, length-take}
use lib.Seq.{take-take}
use Rattle.prelude.proofs.Absurd.{impossible}
use Rattle.values.specs.Value.{Value}
use Rattle.values.specs.Place.{At, Holds}
use Rattle.values.proofs.Records.{holds as held_at}
use Rattle.values.proofs.Frame.{kept}
use Rattle.choices.specs.State.{Choices, Invariant}
use Rattle.choices.specs.Tree.{Tree, give, stop, bind}
use Rattle.choices.proofs.Trees.{bind_assoc, bind_cong}
use Rattle.tables.specs.Accepted.{records}
use Rattle.patterns.specs.Binding.{Binding}
use Rattle.patterns.specs.Ways.{exists}
use Rattle.patterns.specs.Pattern.{Pattern, list_of, wide}
use Rattle.patterns.specs.Binder.{Formed, bound, refused, formed, bindings, most_bindings}
use Rattle.patterns.specs.Read.{pattern_at}
use Rattle.calling.specs.Scratch.{Kept}
use Rattle.calling.proofs.Framing.{kept_outside, kept_then, kept_less}
use Rattle.meaning.specs.State.{State}
use Rattle.meaning.specs.Meaning.{formed_at, members_at, integers_at}
use Rattle.evaluator.specs.Contract.{Ended}
use Rattle.evaluator.specs.Contract.{has_value, refusal_at}
use Rattle.bindings.specs.declared.Cursor.{Cursor}
use Rattle.parts.specs.declared.words.Env.{Env}
use Rattle.std.specs.Prelude.{Ok, Err, Result}
use Rattle.prelude.specs.declared.Refusal.{Refusal}
use Rattle.prelude.specs.declared.Refusal.TheVariants.{WrongKind}
use Rattle.evaluator.specs.Contract.{refused_as}
use Rattle.evaluator.specs.Binding.{Placed, pattern_for, wholly, listed, Standing, values_for, Suits, fit, unfit, Begins}
use Rattle.bindings.specs.Window.{Values, Lent, TellsOpened, OpenedAs}
use Rattle.evaluator.specs.Contract.{Ask, Around, Evaluated, ended, Comes, Gives, Evaluates, meant, operand_at}
use Rattle.evaluator.proofs.Coming.{comes_on, comes_stop, comes_as, comes_sound, comes_held, comes_value, comes_refused}
use Rattle.evaluator.proofs.Tables.{room_here}

-- ---- the tree

-- The bindings over some values.
abbrev over : List ℕ → ℕ → List Value → Tree (List Binding)
over table r vs = formed_at r (formed (pattern_for table r) vs)

abbrev after : List ℕ → ℕ → ℕ → Value → Tree (List Binding)
after table r k v = bind (values_for k r v) (over table r)

listed_is : (table : List ℕ) (r k : ℕ) (ρ : State) → listed table r k ρ ≡ bind (meant table (operand_at table r 1) ρ) (after table r k)
listed_is table r k ρ = go (eqb k 12) (eqb k 19)
  where
    m : Tree Value
    m = meant table (operand_at table r 1) ρ

    go : (x y : Bool)
        → cond x (bind m (λ v. over table r (v ∷ []))) (cond y (bind m (λ v. bind (members_at r v) (λ vs. bind (integers_at r vs) (λ ws. over table r (list_of ws))))) (bind m (λ v. bind (members_at r v) (λ vs. over table r (list_of vs)))))
        ≡ bind m (λ v. bind (cond x (give (v ∷ [])) (bind (members_at r v) (λ vs. cond y (bind (integers_at r vs) (λ ws. give (list_of ws))) (give (list_of vs))))) (over table r))
    go true y = refl
    go false true =
        bind_cong m _ _ (λ v. sym (bind_assoc (members_at r v) (λ vs. bind (integers_at r vs) (λ ws. give (list_of ws))) (over table r)
        ∙ bind_cong (members_at r v) _ _ (λ vs. bind_assoc (integers_at r vs) (λ ws. give (list_of ws)) (over table r))))
    go false false = bind_cong m _ _ (λ v. sym (bind_assoc (members_at r v) (λ vs. give (list_of vs)) (over table r)))

-- Refusals of forming are 29 and 30.
formed_number : (p : Pattern) (vs : List Value) (i : ℕ) → formed p vs ≡ refused i → (20 ≤ i) × (i ≤ 30)
formed_number p vs i e = go (exists vs (wide p)) (leb (length (bindings p vs)) most_bindings) e
  where
    go : (t u : Bool) → cond t (refused 29) (cond u (bound (bindings p vs)) (refused 30)) ≡ refused i → (20 ≤ i) × (i ≤ 30)
    go true u e = let d : 29 ≡ i = cc in (omega arith, omega arith)
    go false true e = impossible cc
    go false false e = let d : 30 ≡ i = cc in (omega arith, omega arith)

-- ---- what stands below the window

at_take : {s : List ℕ} {base : ℕ} {v : Value} → base + 512 ≤ length s → At s base v → At (take (base + 512) s) base v
at_take {s} {base} l a = kept {base = base + 512} (take-take (base + 512) (base + 512) s (omega arith)) (omega (arith, length-take (base + 512) s)) (omega (arith, a.fine.short)) a

values_take : (s : List ℕ) (base : ℕ) (whole : Bool) (vs : List Value) → base + 512 ≤ length s → Values s base whole vs → Values (take (base + 512) s) base whole vs
values_take s base true vs l (v, a, e) = (v, at_take l a, e)
values_take s base false vs l a = at_take l a

-- ---- the places

module _ {table : List ℕ} {r : ℕ} {s : List ℕ} {base : ℕ} {env : Env} {c : Choices} (a : Ask table r s base env c) (k : ℕ) {q : ℕ} (is_q : q ≡ operand_at table r 1)
    {t : List ℕ} {e : Evaluated} (g : Evaluates table q s t base env c e) where
  operand_part : (ρ : State) → Around s base env ρ → Comes (meant table (operand_at table r 1) ρ) (At t base) c e
  operand_part ρ u = subst (λ (m : ℕ). Comes (meant table m ρ) (At t base) c e) is_q (g.right ρ u)

  room : base + 2048 ≤ length t
  room = omega (arith, room_here a, g.kept.long)

  pub begin_off : (e.outcome ≡ has_value → ⊥) → {x : Placed} → x.outcome ≡ e.outcome → Begins table r k s t base env c x e.choices
  begin_off h {x} y =
      subst (λ (o : Ended). Gives (listed table r k) (Standing table r (wholly k) t base x.cursor) s t base env c (ended o e.choices)) (sym y)
      (record { kept = g.kept; right = λ ρ u. comes_as (listed_is table r k ρ) (comes_stop (after table r k) (operand_part ρ u) h) })

  module _ (h : e.outcome ≡ has_value) where
    pub begin_held : Holds t base
    begin_held = let (v, i) = comes_held (operand_part a.state a.around) h in held_at i

    -- whatever finishes from the value on
    onward : {u : List ℕ} {P : List Binding → Type 0} {o : Ended} → Kept t u base → ((v : Value) → At t base v → Invariant e.choices → Comes (after table r k v) P e.choices (ended o e.choices)) → Gives (listed table r k) P s u base env c (ended o e.choices)
    onward l w =
        record {
          kept = kept_then g.kept l;
          right = λ ρ u. let m = operand_part ρ u in comes_as (listed_is table r k ρ) (comes_on (after table r k) m h (λ v i. w v i (comes_sound m)));
        }

    module _ {b : Bool} (w : Suits k t base b) where
      pub begin_unfit : b ≡ false → {x : Placed} → x.outcome ≡ Err (refusal_at WrongKind r) → Begins table r k s t base env c x e.choices
      begin_unfit z {x} y =
          subst (λ (o : Ended). Gives (listed table r k) (Standing table r (wholly k) t base x.cursor) s t base env c (ended o e.choices)) (sym y)
          (onward (record { long = refl; below = refl }) (λ v i l. comes_as (ap (λ (m : Tree (List Value)). bind m (over table r)) (not_fit w v i)) (comes_refused WrongKind r l)))
        where
          not_fit : Suits k t base b → (v : Value) → At t base v → values_for k r v ≡ stop 20 r
          not_fit (fit y vs n m) v i = let d = sym y ∙ z in impossible cc
          not_fit (unfit y m) v i = m r v i

      module _ (z : b ≡ true) where
        record Fits : Type 0 where
          values : List Value
          are : Values t base (wholly k) values
          so : (v : Value) → At t base v → values_for k r v ≡ give values

        fits : Fits
        fits = go w
          where
            go : Suits k t base b → Fits
            go (fit y vs n m) = record { values = vs; are = n; so = m r }
            go (unfit y m) = let d = sym y ∙ z in impossible cc

        are_low : Values (take (base + 512) t) base (wholly k) fits.values
        are_low = values_take t base (wholly k) fits.values (omega (arith, room)) fits.are

        pub begin_lent : Lent t base (wholly k) (base + 512)
        begin_lent = record { bindable = (fits.values, are_low); room = omega (arith, room); short = omega (arith, a.low, g.kept.long) }

        module _ {p : ℕ} (is_p : p ≡ operand_at table r 0) {u : List ℕ} {n : Result Cursor Refusal} (o : OpenedAs table p t u base (wholly k) (base + 512) n) where
          kept_low : Kept t u (base + 512)
          kept_low = kept_outside (omega arith) o.outside

          told : TellsOpened u (base + 512) (formed (pattern_for table r) fits.values) n
          told = subst (λ (m : ℕ). TellsOpened u (base + 512) (formed (pattern_at (records table) m) fits.values) n) is_p (o.tells fits.values are_low)

          from_values : {P : List Binding → Type 0} {o : Ended} (f : Formed) → formed (pattern_for table r) fits.values ≡ f → (Invariant e.choices → Comes (formed_at r f) P e.choices (ended o e.choices)) → Gives (listed table r k) P s u base env c (ended o e.choices)
          from_values f y w =
              onward (kept_less (omega arith) kept_low) (λ v i l. comes_as (ap (λ (m : Tree (List Value)). bind m (over table r)) (fits.so v i) ∙ ap (formed_at r) y) (w l))

          pub begin_bound : (cursor : Cursor) → n ≡ Ok cursor → {x : Placed} → x.outcome ≡ has_value → x.cursor ≡ cursor → Begins table r k s u base env c x e.choices
          begin_bound cursor d {x} y y' =
              subst (λ (o : Ended). Gives (listed table r k) (Standing table r (wholly k) u base x.cursor) s u base env c (ended o e.choices)) (sym y)
              (subst (λ (m : Cursor). Gives (listed table r k) (Standing table r (wholly k) u base m) s u base env c (ended has_value e.choices)) (sym y')
              (go (formed (pattern_for table r) fits.values) refl (subst (TellsOpened u (base + 512) (formed (pattern_for table r) fits.values)) d told)))
            where
              go : (f : Formed) → formed (pattern_for table r) fits.values ≡ f → TellsOpened u (base + 512) f (Ok cursor) → Gives (listed table r k) (Standing table r (wholly k) u base cursor) s u base env c (ended has_value e.choices)
              go (bound bs) y w =
                  from_values (bound bs) y (λ l. comes_value l (record { values = fits.values; are = subst (λ (m : List ℕ). Values m base (wholly k) fits.values) (sym kept_low.below) are_low; formed_as = y; window = w.0 }))
              go (refused m) y w = absurd w

          pub begin_refused : (y : Refusal) → n ≡ Err y → {x : Placed} → x.outcome ≡ Err (refusal_at y r) → Begins table r k s u base env c x e.choices
          begin_refused y d {x} z =
              subst (λ (o : Ended). Gives (listed table r k) (Standing table r (wholly k) u base x.cursor) s u base env c (ended o e.choices)) (sym z)
              (go (formed (pattern_for table r) fits.values) refl (subst (TellsOpened u (base + 512) (formed (pattern_for table r) fits.values)) d told))
            where
              go : (f : Formed) → formed (pattern_for table r) fits.values ≡ f → TellsOpened u (base + 512) f (Err y) → Gives (listed table r k) (Standing table r (wholly k) u base x.cursor) s u base env c (refused_as y r e.choices)
              go (bound bs) y' w = absurd w
              go (refused i) y' w =
                  from_values (refused i) y' (λ j. subst (λ (v : ℕ). Comes (stop v r) (Standing table r (wholly k) u base x.cursor) e.choices (refused_as y r e.choices)) (sym w) (comes_refused y r j))
