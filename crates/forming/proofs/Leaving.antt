-- Leaves taken off an agenda before the pattern with parts that stands before them: tasks go in any order.
use mathlib.Core.Path.{◌≡◌, refl, sym, ap, subst, ◌∙◌}
use mathlib.Core.Bool.{Bool, true, false}
use mathlib.Core.List.{List, [], ◌∷◌, ◌++◌}
use Prim.Native.Nat.{ℕ, ◌+◌, ◌*◌, ◌≤◌, ◌<◌}
use native.Mathlib.Omega.{arith}
use lib.ListN.{length, get_or}
use Rattle.prelude.specs.Membership.{In}
use Rattle.std.specs.Prelude.{Some, None}
use Rattle.prelude.proofs.Absurd.{impossible}
use Rattle.forming.specs.declared.taking.Left.{Left}
use Rattle.forming.proofs.Told.{for_some}
use Rattle.values.specs.Value.{Value}
use Rattle.tables.specs.Record.{is_composed}
use Rattle.tables.specs.Table.{kind_at}
use Rattle.tables.specs.Accepted.{records}
use Rattle.parts.specs.Part.{PartHeld}
use Rattle.parts.specs.Word.{unpacked}
use Rattle.patterns.specs.Members.{Alike}
use Rattle.patterns.specs.Binding.{Binding, with_each}
use Rattle.patterns.specs.Pattern.{Pattern, matches}
use Rattle.patterns.specs.Read.{Readable}
use Rattle.forming.specs.Needs.{Unmatched, AskHeld, TellsFit}
use Rattle.forming.specs.Frames.{entries}
use Rattle.matching.specs.Leaf.{Stands, Standing, Grown, LeafTold}
use Rattle.matching.specs.Node.{LeafHeld}
use Rattle.matching.proofs.Naming.{grown_same, grown_then}
use Rattle.forming.specs.Onward.{Task, task, onward}
use Rattle.forming.specs.Laws.Onward.{onward_went, onward_none}
use Rattle.forming.specs.Pending.{Pending, AgendaIs, spaces, WaitsAre, LeftOf, TakeHeld, Taken}
use Rattle.forming.proofs.Compatible.{none_onward}
use Rattle.forming.proofs.Joining.{onward_swap}
use Rattle.forming.proofs.Solving.{some-task, agenda_low}

-- ---- a leaf behind

-- a task behind at most one other
went_behind : (ws us : List Task) (p : Pattern) (v : Value) (b q : Binding) → length ws ≤ 1 → Alike (with_each b (matches p v)) (q ∷ []) → Alike (onward (ws ++ task p v ∷ us) b) (onward (ws ++ us) q)
went_behind [] us p v b q l h = onward_went p v us b q h
went_behind (w ∷ []) us p v b q l h =
    λ c.
    let s = onward_swap w (task p v) us b c in
    let o = onward_went p v (w ∷ us) b q h c in
    (λ i. o.0 (s.0 i), λ i. s.1 (o.1 i))
went_behind (w ∷ x ∷ ws) us p v b q l h = absurd (omega arith)

none_behind : (ws us : List Task) (p : Pattern) (v : Value) (b : Binding) → length ws ≤ 1 → with_each b (matches p v) ≡ [] → Alike (onward (ws ++ task p v ∷ us) b) []
none_behind [] us p v b l e c = (λ i. subst (In c) (onward_none p v us b e) i, λ i. absurd i)
none_behind (w ∷ []) us p v b l e c = (λ i. subst (In c) (onward_none p v (w ∷ us) b e) ((onward_swap w (task p v) us b c).0 i), λ i. absurd i)
none_behind (w ∷ x ∷ ws) us p v b l e c = absurd (omega arith)

-- ---- what waits

few_wait : (table s a : List ℕ) (top wait : ℕ) (ws : List Task) → WaitsAre table s a top wait ws → length ws ≤ 1
few_wait table s a top wait [] h = omega arith
few_wait table s a top wait (t ∷ []) h = omega arith
few_wait table s a top wait (t ∷ u ∷ ws) h = absurd h

pub none_waits : (table s a : List ℕ) (top wait : ℕ) (ws : List Task) → WaitsAre table s a top wait ws → wait ≤ 0 → ws ≡ []
none_waits table s a top wait [] h l = refl
none_waits table s a top wait (t ∷ []) h l = absurd (omega (arith, h.0.some))
none_waits table s a top wait (t ∷ u ∷ ws) h l = absurd h

pub one_waits : (table s a : List ℕ) (top wait : ℕ) (ws : List Task) → WaitsAre table s a top wait ws → 0 < wait → (t : Task) × (ws ≡ t ∷ []) × Pending table s a top wait t × (is_composed (kind_at (records table) (get_or a (3 * wait) 0)) ≡ true)
one_waits table s a top wait [] h l = absurd (omega (arith, h))
one_waits table s a top wait (t ∷ []) h l = (t, refl, h.0, h.1)
one_waits table s a top wait (t ∷ u ∷ ws) h l = absurd h

spaces_less : (ws us : List Task) (t : Task) → spaces (ws ++ us) ≤ spaces (ws ++ t ∷ us)
spaces_less [] us t = omega arith
spaces_less (w ∷ ws) us t = omega (arith, spaces_less ws us t)

-- ---- take_leaves

pub record TakeSoFar (table s a : List ℕ) (head₀ : ℕ) (f : List ℕ) (head wait : ℕ) (g : List ℕ) : Type 0 where
  pub falls : head ≤ head₀
  pub before : 0 < wait → head < head₀
  pub stays : Grown f g
  pub right : (top : ℕ) (ts : List Task) (b : Binding) → AgendaIs table s a top head₀ ts → Stands s f b → LeftOf table s a top wait head g ts b

module _ (table s a : List ℕ) (head₀ : ℕ) (f : List ℕ) (h : TakeHeld table s a head₀ f) where
  pub take_start : TakeSoFar table s a head₀ f head₀ 0 f
  take_start = record {
    falls = omega arith;
    before = λ l. absurd (omega arith);
    stays = grown_same f;
    right = λ top ts b k z. record { waits = []; tasks = ts; binding = b; waits_are = refl; are = k; stands = z; alike = λ c. (λ i. i, λ i. i); room = omega arith };
  }

  module _ (head wait : ℕ) (g : List ℕ) (w : TakeSoFar table s a head₀ f head wait g) where
    now : LeftOf table s a h.top wait head g h.tasks h.binding
    now = w.right h.top h.tasks h.binding h.are h.stands

    pub head_low : head < entries
    head_low = omega (arith, agenda_low table s a h.top head now.tasks h.low now.are, h.room)

    module _ (l : 0 < head) where
      abbrev W : ℕ
      W = get_or a (3 * head + 1) 0

      abbrev Q : ℕ
      Q = get_or a (3 * head) 0

      abbrev N : ℕ
      N = get_or a (3 * head + 2) 0

      pub entry_readable : Readable table Q
      entry_readable = let (t, us, e, p, k) = some-task table s a h.top head now.tasks now.are l in p.readable

      pub entry_low : Q < 256
      entry_low = omega (arith, entry_readable.here, entry_readable.fine.few)

      pub next_lower : N < head
      next_lower = let (t, us, e, p, k) = some-task table s a h.top head now.tasks now.are l in p.falls

      pub leaf_asked : is_composed (kind_at (records table) Q) ≡ false → LeafHeld table Q × (PartHeld s (unpacked W) × Standing s g)
      leaf_asked c =
          let (t, us, e, p, k) = some-task table s a h.top head now.tasks now.are l in
          (record { readable = p.readable; leaf = c }, (record { value = t.value; here = p.here }, (now.binding, now.stands)))

      pub ask_asked : AskHeld table Q s g × PartHeld s (unpacked W)
      ask_asked =
          let (t, us, e, p, k) = some-task table s a h.top head now.tasks now.are l in
          (record { readable = p.readable; short = h.short; standing = (now.binding, now.stands) }, record { value = t.value; here = p.here })

      -- nothing goes on with the entry
      module _ (g' : List ℕ) (gr : Grown g g') where
        take_ended : ((top : ℕ) (ws us : List Task) (t : Task) (b : Binding) → length ws ≤ 1 → Pending table s a top head t → Stands s g b → Alike (onward (ws ++ t ∷ us) b) []) → Taken table s a head₀ f g' None
        take_ended f = record {
          falls = λ y e. impossible cc;
          stays = grown_then w.stays gr;
          ends = λ y e. impossible cc;
          none = λ x top ts b k z.
              let r = w.right top ts b k z in
              let (t, us, e, p, m) = some-task table s a top head r.tasks r.are l in
              let al : Alike (onward ts b) (onward (r.waits ++ t ∷ us) r.binding) = subst (λ (vs : List Task). Alike (onward ts b) (onward (r.waits ++ vs) r.binding)) e r.alike in
              λ c. (λ i. (f top r.waits us t r.binding (few_wait table s a top wait r.waits r.waits_are) p r.stands c).0 ((al c).0 i), λ i. absurd i);
          some = λ y e. impossible cc;
        }

      -- the pattern with parts lacks a member
      pub take_lacked : (fits : Bool) → TellsFit table Q s (unpacked W) g fits → fits ≡ false → Taken table s a head₀ f g None
      take_lacked fits o fit =
          take_ended g (grown_same g) (λ top ws us t b k p z.
          none_onward ws t us b z.binding_sized (subst (λ (q : Pattern). Unmatched b q t.value) (sym p.pattern) (o fit t.value b p.here z)))

      -- a pattern with parts waits
      pub take_wait : is_composed (kind_at (records table) Q) ≡ true → wait ≤ 0 → TakeSoFar table s a head₀ f N head g
      take_wait c o = record {
        falls = omega (arith, next_lower, w.falls);
        before = λ m. omega (arith, next_lower, w.falls);
        stays = w.stays;
        right = λ top ts b k z.
            let r = w.right top ts b k z in
            let (t, us, e, p, m) = some-task table s a top head r.tasks r.are l in
            let q : r.waits ++ r.tasks ≡ t ∷ us = ap (λ (ws : List Task). ws ++ r.tasks) (none_waits table s a top wait r.waits r.waits_are o) ∙ e in
            record {
              waits = t ∷ [];
              tasks = us;
              binding = r.binding;
              waits_are = (p, c);
              are = m;
              stands = r.stands;
              alike = subst (λ (vs : List Task). Alike (onward ts b) (onward vs r.binding)) q r.alike;
              room = subst (λ (vs : List Task). spaces vs ≤ spaces ts) q r.room;
            };
      }

      module _ (g' : List ℕ) (fits : Bool) (o : LeafTold table Q s W g g' fits) (gr : Grown g g') where
        -- a leaf that agrees
        pub take_leaf : fits ≡ true → TakeSoFar table s a head₀ f N wait g'
        take_leaf fit = record {
          falls = omega (arith, next_lower, w.falls);
          before = λ m. omega (arith, next_lower, w.before m);
          stays = grown_then w.stays gr;
          right = λ top ts b k z.
              let r = w.right top ts b k z in
              let (t, us, e, p, m) = some-task table s a top head r.tasks r.are l in
              let (q, al, st) = (o t.value r.binding p.here r.stands).good fit in
              let al' : Alike (with_each r.binding (matches t.what t.value)) (q ∷ []) = subst (λ (x : Pattern). Alike (with_each r.binding (matches x t.value)) (q ∷ [])) (sym p.pattern) al in
              let on = went_behind r.waits us t.what t.value r.binding q (few_wait table s a top wait r.waits r.waits_are) al' in
              let al'' : Alike (onward ts b) (onward (r.waits ++ t ∷ us) r.binding) = subst (λ (vs : List Task). Alike (onward ts b) (onward (r.waits ++ vs) r.binding)) e r.alike in
              let ro : spaces (r.waits ++ t ∷ us) ≤ spaces ts = subst (λ (vs : List Task). spaces (r.waits ++ vs) ≤ spaces ts) e r.room in
              record {
                waits = r.waits;
                tasks = us;
                binding = q;
                waits_are = r.waits_are;
                are = m;
                stands = st;
                alike = λ c. (λ i. (on c).0 ((al'' c).0 i), λ i. (al'' c).1 ((on c).1 i));
                room = omega (arith, spaces_less r.waits us t, ro);
              };
        }

        -- one that does not
        pub take_none : fits ≡ false → Taken table s a head₀ f g' None
        take_none fit =
            take_ended g' gr (λ top ws us t b k p z.
            none_behind ws us t.what t.value b k (ap (λ (y : Pattern). with_each b (matches y t.value)) p.pattern ∙ (o t.value b p.here z).bad fit))

    -- the second pattern with parts, or the end
    taken : (wait ≡ 0 → head ≡ 0) → Taken table s a head₀ f g (Some (record { wait = wait; head = head }))
    taken z = record {
      falls = for_some (λ (y : Left). 0 < y.wait → y.head < head₀) w.before;
      stays = w.stays;
      ends = for_some (λ (y : Left). y.wait ≡ 0 → y.head ≡ 0) z;
      none = λ e. impossible cc;
      some = for_some (λ (y : Left). (top : ℕ) (ts : List Task) (b : Binding) → AgendaIs table s a top head₀ ts → Stands s f b → LeftOf table s a top y.wait y.head g ts b) w.right;
    }

    pub take_full : 0 < wait → Taken table s a head₀ f g (Some (record { wait = wait; head = head }))
    take_full m = taken (λ e. absurd (omega arith))

    pub take_end : head ≤ 0 → Taken table s a head₀ f g (Some (record { wait = wait; head = head }))
    take_end m = taken (λ e. omega arith)
