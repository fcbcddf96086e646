-- The operators on sequences: source 000, section 3.2.2, page 17.
use Rattle.std.proofs.Math.Option.{Option, none as absent}
use Rattle.std.specs.Prelude.{zero, suc, ℤ, pos, negsuc, cond}
use Rattle.values.specs.Value.{set, sequence, Value, integer, collection, Items, none, more, count}
use Rattle.values.specs.Items.{join, nth}
use Rattle.operators.specs.Answer.{Answer, is, refused, wrong_kind, not_there, as_sequence, needs, needs_both, sized}
use Rattle.operators.specs.Gather.{every_item, insert_all, is_kind, flatten, backwards}
use Rattle.operators.specs.Sets.{consecutive}

-- hd l: l must be non-empty
abbrev pub first_item : Items → Answer
first_item none = refused not_there
first_item (more v vs) = is v

abbrev pub head : Value → Answer
head v = needs (as_sequence v) (λ vs. first_item vs)

-- tl l: l must be non-empty
abbrev pub tail_of : Items → Answer
tail_of none = refused not_there
tail_of (more v vs) = is (collection sequence vs)

abbrev pub tail : Value → Answer
tail v = needs (as_sequence v) (λ vs. tail_of vs)

-- len l
abbrev pub len : Value → Answer
len v = needs (as_sequence v) (λ vs. is (integer (pos (count vs))))

-- elems l
abbrev pub elements : Value → Answer
elements v = needs (as_sequence v) (λ vs. is (collection set (insert_all none vs)))

-- inds l: the set {1, ..., len l}; over 512 bytes, 28
abbrev pub indexes : Value → Answer
indexes v = needs (as_sequence v) (λ vs. consecutive (pos 1) (count vs))

-- reverse l
abbrev pub reverse : Value → Answer
reverse v = needs (as_sequence v) (λ vs. is (collection sequence (backwards vs)))

-- l1 ^ l2: over 512 bytes, 28
abbrev pub concatenation : Value → Value → Answer
concatenation v w = needs_both (as_sequence v) (as_sequence w) (λ vs ws. sized sequence (join vs ws))

-- conc ll: a sequence of sequences; over 512 bytes, 28
abbrev pub distributed_concatenation : Value → Answer
distributed_concatenation v = needs (as_sequence v) (λ vs. cond (every_item (is_kind sequence) vs) (sized sequence (flatten vs)) (refused wrong_kind))

-- l(i): i must be in the indexes of l, which start at 1
abbrev pub item_at : Items → ℤ → Option Value
item_at vs (pos zero) = absent
item_at vs (pos (suc k)) = nth vs k
item_at vs (negsuc n) = absent
