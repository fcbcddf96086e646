-- The order of what two masks choose of items that stand from two places on, said of lists, places and numbers alone.
use Rattle.parts.specs.declared.How.TheVariants.{Units}
use mathlib.Core.Path.{◌≡◌, refl, sym, ap, ap₂, subst, ◌∙◌}
use mathlib.Core.List.{List, [], ◌∷◌}
use Prim.Native.Nat.{ℕ, ◌+◌, ◌*◌, ◌/◌, ◌%◌, ◌^◌, ◌<◌}
use native.Mathlib.Nat.{pow-suc}
use native.Mathlib.Omega.{arith}
use lib.ListN.{length}
use Rattle.std.specs.declared.cmp.Ordering.{Ordering}
use Rattle.std.specs.declared.cmp.Ordering.TheVariants.{Less, Equal, Greater}
use Rattle.integers.specs.Bytes.{word}
use Rattle.values.specs.Value.{number, Value, collection, size, order, after, order_items}
use Rattle.values.specs.Place.{At, Holds}
use Rattle.values.specs.Contract.{KindAt, Ordered}
use Rattle.values.proofs.Order.{same_equal}
use Rattle.values.proofs.Records.{holds, items-of, word_size}
use Rattle.patterns.specs.Pattern.{items_of, items_in}
use Rattle.parts.specs.declared.Part.{Part}
use Rattle.parts.specs.Chosen.{keep}
use Rattle.parts.proofs.Chosen.{keep_zero, keep_odd, keep_even}
use Rattle.parts.specs.Choice.{ChoiceIs, ChoiceHeld, OrderedChoices}
use Rattle.parts.specs.Mask.{ItemMask}
use Rattle.parts.specs.Part.{PartIs, PartHeld}
use Rattle.parts.specs.Contract.{OrderedParts}
use Rattle.parts.proofs.Laws.{selects_of}
use Rattle.parts.proofs.Parting.{items_chosen, collections_order}
use Rattle.parts.proofs.Running.{Stand, Lead, lead_cons}
use Rattle.parts.proofs.Comparing.{after_own}
use Rattle.parts.proofs.Masking.{items_more, none_none, none_lower, some_higher, keep_some}

-- ---- what a mask chooses

lead_some : {s : List ℕ} {at to m : ℕ} (all : List Value) → Stand s at to all → m < 2 ^ length all → (m ≡ 0 → ⊥) → Lead s at to all
lead_some [] h b f = absurd (f (omega arith))
lead_some (v ∷ vs) h b f = lead_cons v vs h

-- the first that is chosen, and the others
pub record Taken (s : List ℕ) (at m : ℕ) (vs : List Value) : Type 0 where
  pub first : Value
  pub others : List Value
  pub is : vs ≡ first ∷ others
  pub first-at : At s at first
  pub rest : ChoiceIs s (at + word s at) (m / 2) others

module _ {s : List ℕ} {at m : ℕ} {vs : List Value} (h : ChoiceIs s at m vs) where
  choice_none : m ≡ 0 → vs ≡ []
  choice_none e = h.is ∙ ap (λ (k : ℕ). keep k h.all) e ∙ keep_zero h.all

  module _ (f : m ≡ 0 → ⊥) where
    choice_some : (v : Value) × (ws : List Value) × (vs ≡ v ∷ ws)
    choice_some = let r = keep_some m h.all f h.below in (r.first, r.others, h.is ∙ r.is)

    choice_lead : Lead s at h.to h.all
    choice_lead = lead_some h.all h.here h.below f

    half_below : m / 2 < 2 ^ length choice_lead.others
    half_below =
        let p : 2 ^ length h.all ≡ 2 ^ length choice_lead.others * 2 = ap (λ (l : List Value). 2 ^ length l) choice_lead.is ∙ pow-suc 2 (length choice_lead.others) in
        let b = h.below in
        omega arith

    choice_skip : m % 2 ≡ 0 → ChoiceIs s (at + word s at) (m / 2) vs
    choice_skip e =
        let l = choice_lead in
        record { all = l.others; to = h.to; here = l.others_at; below = half_below; is = h.is ∙ ap (keep m) l.is ∙ keep_even m (m / 2) l.first l.others e refl }

    choice_take : m % 2 ≡ 1 → Taken s at m vs
    choice_take e =
        let l = choice_lead in
        record {
          first = l.first;
          others = keep (m / 2) l.others;
          is = h.is ∙ ap (keep m) l.is ∙ keep_odd m (m / 2) l.first l.others e refl;
          first-at = l.first-at;
          rest = record { all = l.others; to = h.to; here = l.others_at; below = half_below; is = refl };
        }

-- an item stands where a mask chooses some
pub choice_first : {s : List ℕ} {at m : ℕ} → ChoiceHeld s at m → (m ≡ 0 → ⊥) → Holds s at
choice_first h f = holds (choice_lead h.here f).first-at

-- ---- from item to item

-- The order of what m and n choose from i and j on is that of what x and y choose from a and b on.
abbrev pub ChoicesLeft : List ℕ → ℕ → ℕ → ℕ → ℕ → ℕ → ℕ → ℕ → ℕ → Type 0
ChoicesLeft s a x b y i m j n =
    (vs ws : List Value) → ChoiceIs s a x vs → ChoiceIs s b y ws
    → (us : List Value) × (ts : List Value) × ChoiceIs s i m us × ChoiceIs s j n ts × (order_items (items_of us) (items_of ts) ≡ order_items (items_of vs) (items_of ws))

pub choices_start : (s : List ℕ) (a x b y : ℕ) → ChoicesLeft s a x b y a x b y
choices_start s a x b y vs ws h k = (vs, ws, h, k, refl)

module _ {s : List ℕ} {a x b y i m j n : ℕ} (l : ChoicesLeft s a x b y i m j n) where
  pub choices_held : ChoiceHeld s a x → ChoiceHeld s b y → ChoiceHeld s i m × ChoiceHeld s j n
  choices_held h k =
      let (us, ts, p, q, e) = l h.items k.items h.here k.here in
      (record { items = us; here = p }, record { items = ts; here = q })

  pub choices_same : m ≡ 0 → n ≡ 0 → OrderedChoices s a x b y Equal
  choices_same f g vs ws h k =
      let (us, ts, p, q, e) = l vs ws h k in
      sym (sym e ∙ ap₂ (λ (c d : List Value). order_items (items_of c) (items_of d)) (choice_none p f) (choice_none q g) ∙ none_none)

  pub choices_lower : m ≡ 0 → (n ≡ 0 → ⊥) → OrderedChoices s a x b y Less
  choices_lower f g vs ws h k =
      let (us, ts, p, q, e) = l vs ws h k in
      let (v, others, d) = choice_some q g in
      sym (sym e ∙ ap₂ (λ (c d : List Value). order_items (items_of c) (items_of d)) (choice_none p f) d ∙ none_lower v others)

  module _ (f : m ≡ 0 → ⊥) where
    pub choices_higher : n ≡ 0 → OrderedChoices s a x b y Greater
    choices_higher g vs ws h k =
        let (us, ts, p, q, e) = l vs ws h k in
        let (v, others, d) = choice_some p f in
        sym (sym e ∙ ap₂ (λ (c d : List Value). order_items (items_of c) (items_of d)) d (choice_none q g) ∙ some_higher v others)

    pub skip_first : m % 2 ≡ 0 → (k : ℕ) → k ≡ word s i → ChoicesLeft s a x b y (i + k) (m / 2) j n
    skip_first o k d vs ws h g =
        let (us, ts, p, q, e) = l vs ws h g in
        (us, ts, subst (λ (z : ℕ). ChoiceIs s (i + z) (m / 2) us) (sym d) (choice_skip p f o), q, e)

    module _ (g : n ≡ 0 → ⊥) where
      pub skip_second : n % 2 ≡ 0 → (k : ℕ) → k ≡ word s j → ChoicesLeft s a x b y i m (j + k) (n / 2)
      skip_second o k d vs ws h z =
          let (us, ts, p, q, e) = l vs ws h z in
          (us, ts, p, subst (λ (y : ℕ). ChoiceIs s (j + y) (n / 2) ts) (sym d) (choice_skip q g o), e)

      module _ (om : m % 2 ≡ 1) (on : n % 2 ≡ 1) (o : Ordering) (c : Ordered s i j o) where
        -- the order of the items that stand there, and then that of the others
        heads : {us ts : List Value} (p : Taken s i m us) (q : Taken s j n ts) → order_items (items_of us) (items_of ts) ≡ after o (order_items (items_of p.others) (items_of q.others))
        heads p q =
            ap₂ (λ (c d : List Value). order_items (items_of c) (items_of d)) p.is q.is
            ∙ items_more p.first q.first p.others q.others
            ∙ ap (λ (z : Ordering). after z (order_items (items_of p.others) (items_of q.others))) (sym (c p.first q.first p.first-at q.first-at))

        pub choices_settled : (o ≡ Equal → ⊥) → OrderedChoices s a x b y o
        choices_settled z vs ws h k =
            let (us, ts, p, q, e) = l vs ws h k in
            let u = choice_take p f om in
            let t = choice_take q g on in
            sym (sym e ∙ heads u t ∙ after_own o (order_items (items_of u.others) (items_of t.others)) z)

        pub choices_more : o ≡ Equal → (k : ℕ) → k ≡ word s i → ChoicesLeft s a x b y (i + k) (m / 2) (j + k) (n / 2)
        choices_more z k d vs ws h r =
            let (us, ts, p, q, e) = l vs ws h r in
            let u = choice_take p f om in
            let t = choice_take q g on in
            let v : u.first ≡ t.first = same_equal u.first t.first (sym (c u.first t.first u.first-at t.first-at) ∙ z) in
            let w : k ≡ word s j = d ∙ word_size u.first-at ∙ ap size v ∙ sym (word_size t.first-at) in (
              u.others,
              t.others,
              subst (λ (y : ℕ). ChoiceIs s (i + y) (m / 2) u.others) (sym d) u.rest,
              subst (λ (y : ℕ). ChoiceIs s (j + y) (n / 2) t.others) (sym w) t.rest,
              sym (heads u t ∙ ap (λ (y : Ordering). after y (order_items (items_of u.others) (items_of t.others))) z) ∙ e,
            )

        -- equal items are of one size
        pub same_size : o ≡ Equal → ChoiceHeld s i m → ChoiceHeld s j n → word s j ≡ word s i
        same_size z h k =
            let u = choice_take h.here f om in
            let t = choice_take k.here g on in
            let v : u.first ≡ t.first = same_equal u.first t.first (sym (c u.first t.first u.first-at t.first-at) ∙ z) in
            word_size t.first-at ∙ ap size (sym v) ∙ sym (word_size u.first-at)

-- ---- two parts that choose units

module _ {s : List ℕ} {p : Part} {kind m : ℕ} (e : p.how ≡ Units) (d : KindAt s p.at kind) (i : ItemMask kind p.extent m) where
  part_choice : {v : Value} (h : PartIs s p v) → ChoiceIs s (p.at + 4) m (items_in (selects_of e h).kind (keep p.extent (selects_of e h).all))
  part_choice h =
      let x = selects_of e h in
      let c = items_chosen e d i h in
      record { all = items_in x.kind x.all; to = p.at + size (collection x.kind (items_of (items_in x.kind x.all))); here = items-of x.here; below = c.below; is = sym c.is }

  pub units_held : PartHeld s p → ChoiceHeld s (p.at + 4) m
  units_held h = let x = selects_of e h.here in record { items = items_in x.kind (keep p.extent x.all); here = part_choice h.here }

pub units_order : {s : List ℕ} {p q : Part} {kind m n : ℕ} → p.how ≡ Units → q.how ≡ Units → KindAt s p.at kind → KindAt s q.at kind → ItemMask kind p.extent m → ItemMask kind q.extent n
    → (o : Ordering) → OrderedChoices s (p.at + 4) m (q.at + 4) n o → OrderedParts s p q o
units_order {p = p} {q = q} e f kp kq mp mq o c v w h k =
    let x = selects_of e h in
    let y = selects_of f k in
    let vs = items_in x.kind (keep p.extent x.all) in
    let ws = items_in y.kind (keep q.extent y.all) in
    let n : number x.kind ≡ number y.kind = sym (kp.right (collection x.kind (items_of (items_in x.kind x.all))) x.here) ∙ kq.right (collection y.kind (items_of (items_in y.kind y.all))) y.here in
    c vs ws (part_choice e kp mp h) (part_choice f kq mq k) ∙ sym (ap₂ order x.is y.is ∙ collections_order x.kind y.kind vs ws n)
