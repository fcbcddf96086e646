-- The frames of a stack in an array of bytes, and the names that have a value as bits.
use Rattle.std.specs.Prelude.{◌≡◌, cond, ◌⊎◌, List, [], ◌∷◌, ℕ, zero, suc, ◌+◌, ◌-◌, ◌*◌, ◌/◌, ◌^◌, ◌≤◌, ◌<◌, eqb, length, get_or, take, drop, Option, Some, None}
use Rattle.tables.specs.Check.{most_records}
use Rattle.patterns.specs.Binding.{names}
use Rattle.matching.specs.Leaf.{Grown}
use Rattle.forming.specs.declared.frames.Frame.{Frame}
use Rattle.forming.specs.declared.sizes.Sizes.{Sizes}

-- Nothing below a place changed.
abbrev pub KeptBelow : List ℕ → List ℕ → ℕ → Type 0
KeptBelow a b n = (j : ℕ) → j < n → get_or b j 0 ≡ get_or a j 0

-- The entries of an agenda, of three words each: entry 0 is none, one is for the whole pattern, and one for each of its parts.
abbrev pub entries : ℕ
entries = most_records + 1

abbrev pub agenda_words : ℕ
agenda_words = 3 * entries

-- ---- frames

-- A frame takes so many bytes, and two of the records of a table at least: so many frames, and bytes of them, are enough.
abbrev pub frame_bytes : ℕ
frame_bytes = 18

abbrev pub most_frames : ℕ
most_frames = most_records / 2

abbrev pub frames_bytes : ℕ
frames_bytes = most_frames * frame_bytes

-- Sizes from their five bytes.
abbrev pub sizes_of : List ℕ → Option Sizes
sizes_of b = cond (eqb (get_or b 0 0) 1) (Some (record {
  left = record { least = get_or b 1 0; more = eqb (get_or b 2 0) 1 };
  right = record { least = get_or b 3 0; more = eqb (get_or b 4 0) 1 };
})) None

-- A frame from its bytes.
abbrev pub frame_of : List ℕ → Frame
frame_of b = record {
  p = get_or b 0 0;
  at = get_or b 1 0;
  next = get_or b 2 0;
  top = get_or b 3 0;
  way = get_or b 4 0;
  ways = get_or b 6 0;
  mask = get_or b 7 0 + 256 * get_or b 8 0;
  once = eqb (get_or b 9 0) 1;
  sizes = sizes_of (get_or b 10 0 ∷ get_or b 11 0 ∷ get_or b 12 0 ∷ get_or b 13 0 ∷ get_or b 14 0 ∷ []);
  tests = get_or b 15 0;
  since = get_or b 16 0;
  seen = get_or b 5 0;
  asks = eqb (get_or b 17 0) 1;
}

-- The bytes of frame i, and the frame.
abbrev pub slot_at : List ℕ → ℕ → List ℕ
slot_at a i = take frame_bytes (drop (frame_bytes * i) a)

abbrev pub frame_at : List ℕ → ℕ → Frame
frame_at a i = frame_of (slot_at a i)

-- A frame with another way next, where there are n rows.
abbrev pub onto : Frame → ℕ → ℕ → Frame
onto f e n = record { p = f.p; at = f.at; next = f.next; top = f.top; way = e; ways = f.ways; mask = f.mask; once = f.once; sizes = f.sizes; tests = f.tests; since = f.since; seen = n; asks = f.asks }

pub record FrameFits (f : Frame) : Type 0 where
  pub record_small : f.p < 256
  pub at_small : f.at < 256
  pub next_small : f.next < 256
  pub top_small : f.top < 256
  pub way_small : f.way < 256
  pub ways_small : f.ways < 256
  pub mask_small : f.mask < 65536
  pub tests_small : f.tests < 256
  pub since_small : f.since < 256
  pub seen_small : f.seen < 256

pub record SlotPut (a : List ℕ) (i : ℕ) (bytes b : List ℕ) : Type 0 where
  pub here : slot_at b i ≡ bytes
  pub kept : KeptBelow a b (frame_bytes * i)
  pub long : length b ≡ length a

pub record Stored (a : List ℕ) (i : ℕ) (f : Frame) (b : List ℕ) : Type 0 where
  pub here : frame_at b i ≡ f
  pub kept : KeptBelow a b (frame_bytes * i)
  pub long : length b ≡ length a

-- The last frame, i, was stored with a way that is left, or none is left; r frames are there.
pub record Advanced (a : List ℕ) (i : ℕ) (f : Frame) (b : List ℕ) (r : ℕ) : Type 0 where
  pub kept : KeptBelow a b (frame_bytes * i)
  pub long : length b ≡ length a
  pub how : ((r ≡ suc i) × (f.way < f.ways) × (frame_at b i ≡ f)) ⊎ ((r ≡ i) × (f.ways ≤ f.way))

-- ---- how much is left: the ways of each frame, weighed by the rest of the agenda that they go on with

abbrev pub heft : ℕ → ℕ → ℕ
heft top next = entries * (entries - top) + next

abbrev pub burden : Frame → ℕ
burden f = (f.ways - f.way) * 256 ^ heft f.top f.next

unfoldable pub rank : List ℕ → ℕ → ℕ
rank a zero = 0
rank a (suc i) = rank a i + burden (frame_at a i)

-- ---- names that have a value

abbrev pub has_word : ℕ → ℕ
has_word w = cond (eqb w 0) 0 1

-- A bit for each, the first as the lowest.
unfoldable pub mask_of : List ℕ → ℕ
mask_of [] = 0
mask_of (w ∷ ws) = 2 * mask_of ws + has_word w

-- The words are again what they were when the mask was made of them.
abbrev pub Cleared : List ℕ → ℕ → List ℕ → Type 0
Cleared before mask after = (ws : List ℕ) → mask ≡ mask_of ws → length ws ≡ names → Grown ws before → after ≡ ws
