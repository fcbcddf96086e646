-- The operators on maps: source 000, section 3.2.3, pages 19 and 20; applying a sequence or a map, page 68.
use Rattle.std.specs.Prelude.{Bool, true, cond}
use Rattle.std.proofs.Math.Option.{Option, none as absent, some}
use Rattle.values.specs.Value.{Kind, set, sequence, map, tuple, Value, boolean, integer, quote, collection, Items, none, keys, mapped}
use Rattle.values.specs.Items.{same, is_member, lookup}
use Rattle.operators.specs.Answer.{Answer, is, refused, wrong_kind, clash, as_set, as_map, as_integer, needs, needs_both, found, sized}
use Rattle.operators.specs.Gather.{insert_all, every_entry, keep_entries, enter_all}
use Rattle.operators.specs.Sequences.{item_at}

-- dom m (page 19)
abbrev pub domain : Value → Answer
domain v = needs (as_map v) (λ vs. is (collection set (keys vs)))

-- rng m (page 19)
abbrev pub range : Value → Answer
range v = needs (as_map v) (λ vs. is (collection set (insert_all none (mapped vs))))

-- A value beside what a key is mapped to: the same, if it is mapped at all.
abbrev pub agrees_with : Option Value → Value → Bool
agrees_with absent v = true
agrees_with (some w) v = same v w

-- Two maps are compatible if any common key is mapped to the same value by both (page 19).
abbrev pub compatible : Items → Items → Bool
compatible vs ws = every_entry (λ k v. agrees_with (lookup k vs) v) ws

-- m1 munion m2 (page 20): the two must be compatible, which is tested first; over 512 bytes, 28
abbrev pub map_union : Value → Value → Answer
map_union v w = needs_both (as_map v) (as_map w) (λ vs ws. cond (compatible vs ws) (sized map (enter_all vs ws)) (refused clash))

-- m1 ++ m2 (page 20): any common keys are mapped as by m2; the finished map over 512 bytes, 28
abbrev pub override : Value → Value → Answer
override v w = needs_both (as_map v) (as_map w) (λ vs ws. sized map (enter_all vs ws))

-- s <: m (page 20): the entries whose key is in s
abbrev pub domain_restriction : Value → Value → Answer
domain_restriction v w = needs_both (as_set v) (as_map w) (λ vs ws. is (collection map (keep_entries (λ k x. is_member k vs) ws)))

-- m :> s (page 20): the entries whose value is in s
abbrev pub range_restriction : Value → Value → Answer
range_restriction v w = needs_both (as_map v) (as_set w) (λ vs ws. is (collection map (keep_entries (λ k x. is_member x ws) vs)))

-- ---- l(i) (page 17), m(d) (page 20)

abbrev pub apply_items : Kind → Items → Value → Answer
apply_items set vs w = refused wrong_kind
apply_items sequence vs w = needs (as_integer w) (λ i. found (item_at vs i))
apply_items map vs w = found (lookup w vs)
apply_items tuple vs w = refused wrong_kind

abbrev pub apply_to : Value → Value → Answer
apply_to (boolean b) w = refused wrong_kind
apply_to (integer z) w = refused wrong_kind
apply_to (quote n) w = refused wrong_kind
apply_to (collection k vs) w = apply_items k vs w
