-- 16, 17: a law for each place of exists1 and of iota.
use mathlib.Core.Path.{◌≡◌, refl, sym, ap, subst, ◌∙◌}
use mathlib.Core.Bool.{Bool, true, false}
use mathlib.Core.List.{List, [], ◌∷◌, map}
use Prim.Native.Nat.{ℕ, ◌+◌, ◌≤◌, ◌<◌}
use native.Mathlib.Omega.{arith}
use lib.Dec.{eqb}
use lib.ListN.{length, get_or, take}
use borrow.Author.Tests.{eq-eqb, eqb-true, leb-true}
use Rattle.prelude.specs.Membership.{In}
use Rattle.values.specs.Value.{Value, boolean}
use Rattle.values.specs.Place.{At}
use Rattle.values.specs.Contract.{Put, Copyable, Copied}
use Rattle.values.proofs.Records.{holds as held_at}
use Rattle.choices.specs.State.{Choices, Invariant}
use Rattle.choices.specs.Tree.{stop}
use Rattle.tables.specs.declared.Role.{Role}
use Rattle.tables.specs.declared.Role.TheVariants.{Plain, Name}
use Rattle.tables.specs.Record.{Record, field, name_of as name_of_record, shape, size, is_known, named}
use Rattle.tables.specs.Table.{record_at, kind_at}
use Rattle.tables.specs.Check.{is_of_sort}
use Rattle.tables.specs.Accepted.{records}
use Rattle.tables.proofs.Laws.Accepted.{fit_least, fit_known, lower, operand_sort}
use Rattle.tables.specs.Reading.{HasField}
use Rattle.patterns.specs.Read.{Readable, pattern_at}
use Rattle.patterns.specs.Binding.{is, Binding, nothing, cell_of}
use Rattle.patterns.specs.Ways.{gather}
use Rattle.patterns.proofs.Laws.Members.{in_gather}
use Rattle.prelude.proofs.Membership.{at_in}
use Rattle.patterns.proofs.Laws.Ordered.{in_sorted}
use Rattle.patterns.proofs.Laws.Named.{Told, told}
use Rattle.patterns.specs.Pattern.{holds_named as names_of}
use Rattle.patterns.specs.Pattern.{Pattern, name, matches}
use Rattle.patterns.specs.Binder.{bindings}
use Rattle.patterns.proofs.Laws.Forming.{formed_bound}
use Rattle.patterns.proofs.Laws.Matched.{matched}
use Rattle.parts.specs.declared.Part.{Part}
use Rattle.parts.specs.Part.{PartIs}
use Rattle.parts.specs.Contract.{Puttable, PutPart}
use Rattle.parts.proofs.Laws.{part_longer}
use Rattle.patterns.proofs.Laws.Nodes.{is_name, pattern_at_lem}
use Rattle.calling.specs.Scratch.{Kept}
use Rattle.calling.proofs.Framing.{kept_outside, kept_then, kept_less, put_kept, copyable_down, copied_kept}
use Rattle.meaning.specs.State.{value_in, held_value as held}
use Rattle.meaning.specs.Meaning.{or_else, unique, pattern_name}
use Rattle.evaluator.specs.Contract.{has_value, refusal_at}
use Rattle.bindings.specs.declared.Cursor.{Cursor}
use Rattle.parts.specs.declared.words.Env.{Env}
use Rattle.evaluator.specs.Binding.{Counted, Binder, pattern_for, Standing, Stands, Marked, Surveys, Fetches}
use Rattle.parts.specs.Word.{unpacked}
use Rattle.bindings.specs.Window.{WordFor, Reached, UnderBinding}
use Rattle.evaluator.specs.Contract.{Ask, ended, Comes, Evaluates, operand_at, value_as}
use Rattle.std.specs.Prelude.{Err}
use Rattle.prelude.specs.declared.Refusal.TheVariants.{NotUnique}
use Rattle.evaluator.specs.Contract.{Ended}
use Rattle.evaluator.proofs.Coming.{as_ended}
use Rattle.evaluator.proofs.Coming.{comes_on, comes_stop, comes_as, comes_sound, comes_held, comes_value, comes_refused}
use Rattle.evaluator.proofs.Tables.{fine_of, room_here}
use Rattle.evaluator.proofs.Standing.{binder_has, binder_readable}
use Rattle.evaluator.proofs.Entering.{reached_standing}
use Rattle.evaluator.proofs.Meant.{count_in, unique_in, mean_exists1, mean_iota}
use Rattle.evaluator.proofs.Opening.{ask_again}

-- ---- a name's value under a binding

name_role : {k : ℕ} → k ≡ 17 → get_or (shape k).roles 0 Plain ≡ Name
unfolding shape
name_role e = ap (λ (x : ℕ). get_or (shape x).roles 0 Plain) e

plain_small : (k : ℕ) (fields : Record) → k ≡ 32 → is_known (shape k).head fields ≡ true → name_of_record fields < 16
unfolding shape
plain_small k q e h = let m = leb-true (name_of_record q) 15 (subst (λ (n : ℕ). is_known (shape n).head q ≡ true) e h) in omega arith

plain_size : (k : ℕ) → k ≡ 32 → size (shape k).head ≡ 1
unfolding shape
plain_size k e = ap (λ (n : ℕ). size (shape n).head) e

named_itself : (x : ℕ) → names_of (name x) x ≡ true
unfolding names_of
named_itself x = eq-eqb x x refl

module _ {table : List ℕ} {r : ℕ} {s : List ℕ} {base : ℕ} {env : Env} {c : Choices} {cursor : Cursor} {j : ℕ} (a : Stands table r false s base env c cursor j) (is_17 : kind_at (records table) r ≡ 17) {p : ℕ} (is_p : p ≡ operand_at table r 0) where
  readable : Readable table p
  readable = binder_readable a.asked a.binder is_p

  is_plain : kind_at (records table) p ≡ 32
  is_plain =
      eqb-true (kind_at (records table) p) 32
      (ap (λ (x : ℕ). eqb (kind_at (records table) x) 32) is_p
      ∙ subst (λ (x : Role). is_of_sort x (kind_at (records table) (operand_at table r 0)) ≡ true) (name_role is_17) (operand_sort (records table) (fine_of a.asked.legal).clear6 r 0 a.asked.within (binder_has a.asked a.binder 0 (omega arith)).has))

  pub fetch_field : HasField table p 0
  fetch_field = record { here = readable.here; has = omega (arith, fit_least (record_at (records table) p) (readable.fine.fit p readable.here), plain_size (kind_at (records table) p) is_plain) }

  module _ {x : ℕ} (is_x : x ≡ field (record_at (records table) p) 0) where
    pub fetch_name : x < 16
    fetch_name = omega (arith, plain_small (kind_at (records table) p) (record_at (records table) p) is_plain (fit_known (record_at (records table) p) (readable.fine.fit p readable.here)))

    pattern_is : pattern_for table r ≡ name x
    pattern_is =
        ap (pattern_at (records table)) (sym is_p) ∙ pattern_at_lem (records table) (lower (records table) readable.fine.clear6) p readable.here
        ∙ is_name (record_at (records table) p) (map (pattern_at (records table)) (named (record_at (records table) p))) is_plain ∙ ap name (sym is_x)

    -- Every binding gives it a value.
    given : {bs : List Binding} → Standing table r false s base cursor bs → (v : Value) × (cell_of (get_or bs j nothing) x ≡ is v)
    given {bs} h = go (formed_bound (pattern_for table r) h.values bs h.formed_as).all
      where
        below : j < length bs
        below = omega (arith, a.below, a.standing.window.count, h.window.count)

        go : bs ≡ bindings (pattern_for table r) h.values → (v : Value) × (cell_of (get_or bs j nothing) x ≡ is v)
        go e =
            let b = get_or bs j nothing in
            let i = subst (λ (l : List Binding). In b l) e (at_in bs j nothing below) in
            let (v, m, n) = in_gather b h.values (matches (pattern_for table r)) (in_sorted b (gather h.values (matches (pattern_for table r))) i) in
            subst (λ (t : Bool). Told t (cell_of b x)) (ap (λ (q : Pattern). names_of q x) pattern_is ∙ named_itself x) (told (pattern_for table r) v b (matched (pattern_for table r) v b n) x fetch_name)

    module _ {t : List ℕ} {near : Cursor} (o : Reached table p s t base false (base + 512) cursor j near) {inner : Env} (u : UnderBinding t (base + 512) near j env inner) where
      kept_low : Kept s t (base + 512)
      kept_low = kept_outside (omega arith) o.outside

      room : base + 2048 ≤ length t
      room = omega (arith, room_here a.asked, o.outside.long)

      part : {bs : List Binding} (h : Standing table r false s base cursor bs) → PartIs (take (base + 512) t) (unpacked (get_or inner.words x 0)) (given h).0
      part {bs} h = subst (WordFor (take (base + 512) t) (get_or env.words x 0) (get_or inner.words x 0)) (given h).1 (u.cells bs (reached_standing a is_p o h).window x fetch_name)

      whole_part : {bs : List Binding} (h : Standing table r false s base cursor bs) → PartIs t (unpacked (get_or inner.words x 0)) (given h).0
      whole_part h = (part_longer {s = t} {p = unpacked (get_or inner.words x 0)} {v = (given h).0} (base + 512) (omega (arith, room)) (part h)).0

      module _ {q : Part} (is_q : q ≡ unpacked (get_or inner.words x 0)) where
        part_here : {bs : List Binding} (h : Standing table r false s base cursor bs) → PartIs t q (given h).0
        part_here h = subst (λ (y : Part). PartIs t y (given h).0) (sym is_q) (whole_part h)

        pub fetch_puttable : Puttable t q (base + 1536)
        fetch_puttable =
            let (i, l) = part_longer {s = t} {p = unpacked (get_or inner.words x 0)} {v = (given a.standing).0} (base + 512) (omega (arith, room)) (part a.standing) in
            subst (λ (y : Part). Puttable t y (base + 1536)) (sym is_q) (record { value = (given a.standing).0; here = i; below = omega (arith, l); room = omega (arith, room) })

        module _ {v : List ℕ} {n : ℕ} (k : PutPart t v q (base + 1536) n) where
          pub fetch_copyable : Copyable v (base + 1536) base
          fetch_copyable = copyable_down (omega arith) (held_at (k.right (given a.standing).0 (part_here a.standing)))

          pub fetch_done : {w : List ℕ} {m : ℕ} → Copied v w (base + 1536) base m → Fetches table r s w base cursor j
          fetch_done {w} e =
              record {
                kept = kept_then (kept_less (omega arith) kept_low) (kept_then (kept_outside (omega arith) k.outside) (copied_kept e));
                right = λ bs h. ((given h).0, ap (λ (q : Pattern). value_in (get_or bs j nothing) (pattern_name q)) pattern_is ∙ ap held (given h).1, e.here (given h).0 (k.right (given h).0 (part_here h)));
              }

-- ---- exists1 and iota

unique_one : (r : ℕ) (p : Pattern) (sat : List Binding) → length sat ≡ 1 → unique r p sat ≡ or_else 25 r (value_in (get_or sat 0 nothing) (pattern_name p))
unique_one r p [] e = absurd (omega arith)
unique_one r p (b ∷ []) e = refl
unique_one r p (b ∷ c ∷ sat) e = absurd (omega arith)

unique_not : (r : ℕ) (p : Pattern) (sat : List Binding) → (length sat ≡ 1 → ⊥) → unique r p sat ≡ stop 25 r
unique_not r p [] e = refl
unique_not r p (b ∷ []) e = absurd (e refl)
unique_not r p (b ∷ c ∷ sat) e = refl

module _ {table : List ℕ} {r : ℕ} {s : List ℕ} {base : ℕ} {env : Env} {c : Choices} (a : Ask table r s base env c) where
  -- 16
  module _ (is_16 : kind_at (records table) r ≡ 16) {t : List ℕ} {v : Counted} {c₁ : Choices} (g : Surveys table r 16 s t base env c v c₁) where
    pub exists1_off : (v.outcome ≡ has_value → ⊥) → Evaluates table r s t base env c (ended v.outcome c₁)
    exists1_off h = record { kept = g.kept; right = λ ρ u. comes_as (mean_exists1 a.legal r ρ is_16) (comes_stop (count_in table r ρ) (g.right ρ u) h) }

    pub exists1_done : v.outcome ≡ has_value → {u : List ℕ} {m : ℕ} → Put t u base (boolean (eqb v.count 1)) 5 m → Evaluates table r s u base env c (value_as c₁)
    exists1_done h {u} p =
        record {
          kept = kept_then g.kept (put_kept p);
          right = λ ρ w. comes_as (mean_exists1 a.legal r ρ is_16) (comes_on (count_in table r ρ) (g.right ρ w) h (λ sat m.
              comes_value (comes_sound (g.right ρ w)) (subst (λ (n : ℕ). At u base (boolean (eqb n 1))) m.marks.count p.here)));
        }

  -- 17
  module _ (is_17 : kind_at (records table) r ≡ 17) {t : List ℕ} {v : Counted} {c₁ : Choices} (g : Surveys table r 17 s t base env c v c₁) where
    pub iota_off : (v.outcome ≡ has_value → ⊥) → Evaluates table r s t base env c (ended v.outcome c₁)
    iota_off h = record { kept = g.kept; right = λ ρ u. comes_as (mean_iota a.legal r ρ is_17) (comes_stop (unique_in table r ρ) (g.right ρ u) h) }

    module _ (h : v.outcome ≡ has_value) where
      pub iota_not : (v.count ≡ 1 → ⊥) → {w : Ended} → w ≡ Err (refusal_at NotUnique r) → Evaluates table r s t base env c (ended w c₁)
      iota_not n y =
          as_ended y
          (record {
            kept = g.kept;
            right = λ ρ w. comes_as (mean_iota a.legal r ρ is_17) (comes_on (unique_in table r ρ) (g.right ρ w) h (λ sat m.
                comes_as (unique_not r (pattern_for table r) sat (λ e. n (m.marks.count ∙ e))) (comes_refused NotUnique r (comes_sound (g.right ρ w)))));
          })

      module _ (n : v.count ≡ 1) where
        pub iota_stands : Stands table r false t base env c₁ v.cursor v.at
        iota_stands =
            let (sat, m) = comes_held (g.right a.state a.around) h in
            record { asked = ask_again a g.kept (comes_sound (g.right a.state a.around)); binder = subst Binder (sym is_17) (omega arith, omega arith); bindings = m.bindings; standing = m.standing; below = m.marks.within (omega arith) }

        pub iota_done : {u : List ℕ} → Fetches table r t u base v.cursor v.at → Evaluates table r s u base env c (value_as c₁)
        iota_done {u} f =
            record {
              kept = kept_then g.kept f.kept;
              right = λ ρ w. comes_as (mean_iota a.legal r ρ is_17) (comes_on (unique_in table r ρ) (g.right ρ w) h (λ sat m. go (comes_sound (g.right ρ w)) sat m));
            }
          where
            go : Invariant c₁ → (sat : List Binding) → Marked table r t base 0 v sat → Comes (unique r (pattern_for table r) sat) (At u base) c₁ (value_as c₁)
            go l sat m =
                let (w, e, i) = f.right m.bindings m.standing in
                comes_as
                (unique_one r (pattern_for table r) sat (sym m.marks.count ∙ n)
                ∙ ap (λ (b : Binding). or_else 25 r (value_in b (pattern_name (pattern_for table r)))) (sym (m.marks.is (omega arith)))
                ∙ ap (or_else 25 r) e)
                (comes_value l i)
