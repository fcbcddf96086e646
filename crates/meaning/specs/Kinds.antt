-- Kinds 14 to 20 as a reader of document 01 expects them, by kind number and operands: what each gives, from what its operands give. All of
-- it is proved of every record of an accepted table, in every state (`binders`). It speaks of the values that the loose meaning gives;
-- `agreement` carries it to the trees, and so to runs.
use Rattle.std.specs.Prelude.{◌≡◌, Bool, true, false, ◌⊎◌, ◌↔◌, List, [], ◌∷◌, ◌++◌, ℕ}
use Rattle.std.proofs.Math.Option.{some}
use Rattle.prelude.specs.Membership.{In}
use Rattle.choices.specs.Outcome.{value}
use Rattle.values.specs.Value.{set, sequence, map, Value, boolean, integer, quote, collection, Items, none, more}
use Rattle.values.specs.Items.{lookup}
use Rattle.operators.specs.Answer.{is}
use Rattle.operators.specs.Enumerations.{set_of, sequence_of, map_of}
use Rattle.patterns.specs.Binding.{Binding, only}
use Rattle.patterns.specs.Pattern.{list_of, items_of}
use Rattle.patterns.specs.Binder.{bound, formed}
use Rattle.tables.specs.Record.{operand, name_of}
use Rattle.tables.specs.Table.{record_at, kind_at}
use Rattle.tables.specs.Accepted.{records}
use Rattle.patterns.specs.Read.{pattern_at}
use Rattle.meaning.specs.State.{State, under}
use Rattle.meaning.specs.Read.{sheet}
use Rattle.meaning.specs.Loose.{loose_meaning}

-- ---- of bindings

-- B holds of one of these bindings, and A of all before it.
pub record FirstOf (A B : Binding → Type 0) (bs : List Binding) : Type 0 where
  pub earlier : List Binding
  pub binding : Binding
  pub later : List Binding
  pub in_order : bs ≡ earlier ++ binding ∷ later
  pub before : (β : Binding) → In β earlier → A β
  pub there : B binding

-- B holds of this one of the bindings, and A of all others.
pub record OnlyOne (A B : Binding → Type 0) (bs : List Binding) (β : Binding) : Type 0 where
  pub among : In β bs
  pub there : B β
  pub others : (b : Binding) → In b bs → (b ≡ β → ⊥) → A b

-- B holds of two different ones of the bindings.
pub record Several (B : Binding → Type 0) (bs : List Binding) : Type 0 where
  pub one : Binding
  pub another : Binding
  pub different : one ≡ another → ⊥
  pub one_in : In one bs
  pub another_in : In another bs
  pub one_there : B one
  pub another_there : B another

-- What the bindings add, in their order: `part` under those whose condition is true, nothing under those whose condition is false.
abbrev pub Added : (Bool → Binding → Type 0) → (Binding → List Value → Type 0) → List Binding → List Value → Type 0
Added so part [] es = es ≡ []
Added so part (β ∷ bs) es = (so false β × Added so part bs es) ⊎ ((new rest : List Value) × so true β × part β new × (es ≡ new ++ rest) × Added so part bs rest)

-- Every item is an integer.
abbrev pub Integers : Items → Type 0
Integers none = Unit {0}
Integers (more (boolean b) vs) = ⊥
Integers (more (integer z) vs) = Integers vs
Integers (more (quote n) vs) = ⊥
Integers (more (collection k us) vs) = ⊥

-- ---- of a binder's record

module _ (table : List ℕ) where
  -- v is one of the values of the record a in a state.
  abbrev pub May : ℕ → State → Value → Type 0
  May a ρ v = loose_meaning (sheet table) a ρ (value v)

  -- The i-th operand of the record r.
  abbrev pub operand_of : ℕ → ℕ → ℕ
  operand_of r i = operand (record_at (records table) r) i

  abbrev pub kind_in : ℕ → ℕ
  kind_in r = kind_at (records table) r

  -- The name of its pattern, where that is a name.
  abbrev pub name_in : ℕ → ℕ
  name_in r = name_of (record_at (records table) (operand_of r 0))

  module _ (r : ℕ) (ρ : State) where
    -- The condition of the binder r is so under a binding.
    abbrev pub Condition : Bool → Binding → Type 0
    Condition t β = May (operand_of r 2) (under ρ β) (boolean t)

    -- What a binding adds: the value of the element; the values of key and value.
    abbrev pub Element : Binding → List Value → Type 0
    Element β new = (v : Value) × May (operand_of r 3) (under ρ β) v × (new ≡ v ∷ [])

    abbrev pub Maplet : Binding → List Value → Type 0
    Maplet β new = (k v : Value) × May (operand_of r 3) (under ρ β) k × May (operand_of r 4) (under ρ β) v × (new ≡ k ∷ v ∷ [])

    -- The set operand of the binder r may give a set, forming its bindings gives neither 29 nor 30, and Q holds of members and bindings. (The
    -- bindings are those with which P matches a member, distinct and in order: `bindings_exactly`, `sorted_rising` in `patterns`.)
    pub record Over (Q : Items → List Binding → Type 0) : Type 0 where
      pub members : Items
      pub all : List Binding
      pub given : May (operand_of r 1) ρ (collection set members)
      pub within : formed (pattern_at (records table) (operand_of r 0)) (list_of members) ≡ bound all
      pub so : Q members all

    -- The set's members are values of the element under bindings whose condition is true, one for each such binding.
    pub record MembersAre (bs : List Binding) (ws : Items) : Type 0 where
      pub sound : (w : Value) → In w (list_of ws) → (β : Binding) × In β bs × Condition true β × May (operand_of r 3) (under ρ β) w
      pub whole : (β : Binding) → In β bs → Condition false β ⊎ ((w : Value) × Condition true β × May (operand_of r 3) (under ρ β) w × In w (list_of ws))

    -- The map's entries are values of key and value under bindings whose condition is true, one for each such binding.
    pub record EntriesAre (bs : List Binding) (ws : Items) : Type 0 where
      pub sound : (k v : Value) → lookup k ws ≡ some v → (β : Binding) × In β bs × Condition true β × May (operand_of r 3) (under ρ β) k × May (operand_of r 4) (under ρ β) v
      pub whole : (β : Binding) → In β bs
          → Condition false β ⊎ ((k v : Value) × Condition true β × May (operand_of r 3) (under ρ β) k × May (operand_of r 4) (under ρ β) v × (lookup k ws ≡ some v))

    -- ---- what they give

    pub record Binders : Type 0 where
      -- ---- 14 forall
      -- It is true exactly when the condition is true under every binding.
      pub forall_true : kind_in r ≡ 14 → May r ρ (boolean true) ↔ Over (λ ms bs. (β : Binding) → In β bs → Condition true β)
      -- It is false exactly when the condition is false under a binding and true under those before it.
      pub forall_false : kind_in r ≡ 14 → May r ρ (boolean false) ↔ Over (λ ms bs. FirstOf (Condition true) (Condition false) bs)
      -- ---- 15 exists
      -- It is true exactly when the condition is true under a binding and false under those before it.
      pub exists_true : kind_in r ≡ 15 → May r ρ (boolean true) ↔ Over (λ ms bs. FirstOf (Condition false) (Condition true) bs)
      -- It is false exactly when the condition is false under every binding.
      pub exists_false : kind_in r ≡ 15 → May r ρ (boolean false) ↔ Over (λ ms bs. (β : Binding) → In β bs → Condition false β)
      -- ---- 16 exists1
      -- It is true exactly when the condition is true under one binding and false under all others.
      pub exists1_true : kind_in r ≡ 16 → May r ρ (boolean true) ↔ Over (λ ms bs. (β : Binding) × OnlyOne (Condition false) (Condition true) bs β)
      -- It is false exactly when the condition is false under every binding, or it is boolean under every binding and true under two.
      pub exists1_false : kind_in r ≡ 16 → May r ρ (boolean false) ↔ Over (λ ms bs.
          ((β : Binding) → In β bs → Condition false β) ⊎ (((β : Binding) → In β bs → (t : Bool) × Condition t β) × Several (Condition true) bs))
      -- ---- 17 iota
      -- Its value is the member of the set under which the condition is true; it is false under all others. P is a name.
      pub iota_value : kind_in r ≡ 17 → (v : Value) → May r ρ v ↔ Over (λ ms bs.
          In v (list_of ms) × Condition true (only (name_in r) v) × ((w : Value) → In w (list_of ms) → (w ≡ v → ⊥) → Condition false (only (name_in r) w)))
      -- ---- 18 set, 19 sequence, 20 map comprehension
      -- The comprehension's values are those of the enumeration of what the bindings add, in their order.
      pub set_comprehension_is : kind_in r ≡ 18 → (v : Value) → May r ρ v ↔ Over (λ ms bs. (es : List Value) × Added Condition Element bs es × (set_of (items_of es) ≡ is v))
      -- Kind 19 needs a set of integers.
      pub sequence_comprehension_is : kind_in r ≡ 19 → (v : Value) → May r ρ v ↔ Over (λ ms bs. Integers ms × ((es : List Value) × Added Condition Element bs es × (sequence_of (items_of es) ≡ is v)))
      pub map_comprehension_is : kind_in r ≡ 20 → (v : Value) → May r ρ v ↔ Over (λ ms bs. (es : List Value) × Added Condition Maplet bs es × (map_of (items_of es) ≡ is v))

    -- What comprehensions hold.
    pub record Comprehensions : Type 0 where
      pub members : kind_in r ≡ 18 → (ws : Items) → May r ρ (collection set ws) → Over (λ ms bs. MembersAre bs ws)
      -- In the bindings' order.
      pub items : kind_in r ≡ 19 → (ws : Items) → May r ρ (collection sequence ws) → Over (λ ms bs. Integers ms × Added Condition Element bs (list_of ws))
      pub entries_are : kind_in r ≡ 20 → (ws : Items) → May r ρ (collection map ws) → Over (λ ms bs. EntriesAre bs ws)
