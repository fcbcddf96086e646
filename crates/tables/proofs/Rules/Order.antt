-- Rules tested in an order: the first that is broken, at its lowest record.
use mathlib.Core.Path.{◌≡◌, refl, sym, ap, ◌∙◌, subst}
use mathlib.Core.Bool.{Bool, true, false, cond}
use mathlib.Core.Logic.{◌⊎◌, inl, inr}
use mathlib.Core.List.{List, [], ◌∷◌, ◌++◌}
use Prim.Native.Nat.{ℕ, ◌<◌}
use native.Mathlib.Omega.{arith}
use Rattle.prelude.proofs.Truth.{by_lower}
use Rattle.prelude.proofs.Absurd.{impossible}
use Rattle.std.specs.Prelude.{Ok}
use Rattle.tables.specs.declared.Rule.{Rule as RuleName}
use Rattle.tables.specs.declared.Fault.{Fault}
use Rattle.tables.specs.Faults.{Checked, faulty}
use Rattle.tables.specs.Rules.{Rule, rules, Kept, Refuses}

module _ (table : List ℕ) where
  abbrev pub Nowhere : Rule → Type 0
  Nowhere u = (p : ℕ) → ¬ u.BrokenAt table p

  -- A rule is broken at p, and at no lower record.
  pub record Lowest (u : Rule) (p : ℕ) : Type 0 where
    pub here : u.BrokenAt table p
    pub lower : (q : ℕ) → q < p → ¬ u.BrokenAt table q

  lowest_same : (u : Rule) (p q : ℕ) → Lowest u p → Lowest u q → p ≡ q
  lowest_same u p q a b = by_lower p q (λ l. absurd (b.lower p l a.here)) (λ l. by_lower q p (λ k. absurd (a.lower q k b.here)) (λ k. omega arith))

  -- The first of some rules that is broken is rule n, at p.
  abbrev pub First : List Rule → RuleName → ℕ → Type 0
  First [] n p = ⊥
  First (u ∷ us) n p = ((u.name ≡ n) × Lowest u p) ⊎ (Nowhere u × First us n p)

  -- At most one rule is the first that is broken, at one record, and then not all rules are kept.
  first-same : (us : List Rule) (n : RuleName) (p : ℕ) (m : RuleName) (q : ℕ) → First us n p → First us m q → (n ≡ m) × (p ≡ q)
  first-same [] n p m q a b = absurd a
  first-same (u ∷ us) n p m q (inl a) (inl b) = (sym a.0 ∙ b.0, lowest_same u p q a.1 b.1)
  first-same (u ∷ us) n p m q (inl a) (inr b) = absurd (b.0 p a.1.here)
  first-same (u ∷ us) n p m q (inr a) (inl b) = absurd (a.0 q b.1.here)
  first-same (u ∷ us) n p m q (inr a) (inr b) = first-same us n p m q a.1 b.1

  first-kept : (us : List Rule) (n : RuleName) (p : ℕ) → First us n p → ¬ Kept us table
  first-kept [] n p a k = a
  first-kept (u ∷ us) n p (inl a) k = k.0 p a.1.here
  first-kept (u ∷ us) n p (inr a) k = first-kept us n p a.1 k.1

  -- ---- an answer

  -- An answer by some rules in order, of a table of k records.
  pub data Says (us : List Rule) (k : ℕ) (x : Checked) : Type 0 where
    refuses : (n : RuleName) (p : ℕ) → x ≡ faulty n p → First us n p → Says us k x
    accepts : x ≡ Ok k → Kept us table → Says us k x

  -- A test tells whether a rule is broken, and if so where first.
  pub record Tests (u : Rule) (b : Bool) (p : ℕ) : Type 0 where
    pub hit : b ≡ true → Lowest u p
    pub miss : b ≡ false → Nowhere u

  pub tested : (u : Rule) (us : List Rule) (k : ℕ) (b : Bool) (p : ℕ) (x : Checked) → Tests u b p → (b ≡ false → Says us k x) → Says (u ∷ us) k (cond b (faulty u.name p) x)
  tested u us k true p x t f = refuses u.name p refl (inl (refl, t.hit refl))
  tested u us k false p x t f = go (f refl)
    where
      go : Says us k x → Says (u ∷ us) k x
      go (refuses n q e a) = refuses n q e (inr (t.miss refl, a))
      go (accepts e a) = accepts e (t.miss refl, a)

  refused_same : {n : RuleName} {p : ℕ} {m : RuleName} {q : ℕ} → faulty n p ≡ faulty m q → (n ≡ m) × (p ≡ q)
  refused_same {n} {p} {m} {q} e =
      let f : ◌≡◌ {A = Fault} (record { rule = n; place = p }) (record { rule = m; place = q }) = cc in
      (ap (λ (x : Fault). x.rule) f, ap (λ (x : Fault). x.place) f)

  -- An answer is a refusal exactly by the first rule that is broken, and accepts exactly where all are kept.
  module _ (us : List Rule) (k : ℕ) (x : Checked) where
    pub refused_first : (n : RuleName) (p : ℕ) → Says us k x → x ≡ faulty n p → First us n p
    refused_first n p (refuses m q e a) f = let (same, place) = refused_same (sym e ∙ f) in rw (same, place) at a
    refused_first n p (accepts e a) f = impossible cc

    pub first_refused : (n : RuleName) (p : ℕ) → Says us k x → First us n p → x ≡ faulty n p
    first_refused n p (refuses m q e a) f = let (same, place) = first-same us m q n p a f in cc
    first_refused n p (accepts e a) f = absurd (first-kept us n p f a)

    pub accepted_kept : (m : ℕ) → Says us k x → x ≡ Ok m → Kept us table × (m ≡ k)
    accepted_kept m (refuses n q e a) f = impossible cc
    accepted_kept m (accepts e a) f = (a, cc)

    pub kept_accepted : Says us k x → Kept us table → x ≡ Ok k
    kept_accepted (refuses n q e a) f = absurd (first-kept us n q a f)
    kept_accepted (accepts e a) f = e

  -- ---- the first rule that is broken, with those before it and after it

  split : (us : List Rule) (n : RuleName) (p : ℕ) → First us n p → (earlier : List Rule) × (u : Rule) × (later : List Rule) × (us ≡ earlier ++ u ∷ later) × (u.name ≡ n) × Lowest u p × Kept earlier table
  split [] n p a = absurd a
  split (u ∷ us) n p (inl a) = ([], u, us, refl, a.0, a.1, tt)
  split (u ∷ us) n p (inr a) =
      let (earlier, v, later, e, m, l, k) = split us n p a.1 in
      (u ∷ earlier, v, later, ap (λ (ws : List Rule). u ∷ ws) e, m, l, (a.0, k))

  joined : (earlier : List Rule) (u : Rule) (later : List Rule) (n : RuleName) (p : ℕ) → u.name ≡ n → Lowest u p → Kept earlier table → First (earlier ++ u ∷ later) n p
  joined [] u later n p m l k = inl (m, l)
  joined (v ∷ earlier) u later n p m l k = inr (k.0, joined earlier u later n p m l k.1)

  pub first_refuses : (n : RuleName) (p : ℕ) → First rules n p → Refuses table n p
  first_refuses n p a =
      let (earlier, u, later, e, m, l, k) = split rules n p a in
      record { earlier = earlier; broken = u; later = later; in_order = e; name = m; here = l.here; lowest = l.lower; kept = k }

  pub refuses_first : (n : RuleName) (p : ℕ) → Refuses table n p → First rules n p
  refuses_first n p a =
      subst (λ (us : List Rule). First us n p) (sym a.in_order)
      (joined a.earlier a.broken a.later n p a.name (record { here = a.here; lower = a.lowest }) a.kept)
