-- The stack of frames: kept, a match entered, a frame opened, gone back to, and left.
use mathlib.Core.Path.{◌≡◌, refl, sym, ap, subst, ◌∙◌}
use mathlib.Core.Bool.{Bool, false}
use mathlib.Core.Logic.{◌⊎◌, inl, inr, ⊎_elim}
use mathlib.Core.List.{List, [], ◌∷◌}
use Prim.Native.Nat.{ℕ, suc, ◌+◌, ◌*◌, ◌≤◌, ◌<◌}
use native.Mathlib.Omega.{arith}
use lib.ListN.{length, get_or, drop, drop_of_length-le}
use Rattle.prelude.specs.Membership.{In}
use Rattle.prelude.proofs.Absurd.{true_false}
use Rattle.prelude.proofs.Membership.{in_one}
use Rattle.prelude.proofs.Truth.{or_false_left}
use Rattle.values.specs.Value.{Value}
use Rattle.tables.specs.Table.{kind_at}
use Rattle.tables.specs.Accepted.{records}
use Rattle.parts.specs.declared.Part.{Part}
use Rattle.parts.specs.Part.{PartIs}
use Rattle.parts.specs.Word.{unpacked}
use Rattle.patterns.specs.Ways.{gather}
use Rattle.patterns.specs.Members.{Alike}
use Rattle.patterns.specs.Binding.{Binding, place}
use Rattle.patterns.specs.Pattern.{wide}
use Rattle.patterns.proofs.Laws.Ordered.{sorted_in, in_sorted}
use Rattle.patterns.specs.Nodes.{is_large}
use Rattle.patterns.specs.Read.{pattern_at}
use Rattle.std.specs.Prelude.{Option, Result, Ok, Err}
use Rattle.matching.specs.declared.nodes.Misfit.{Misfit}
use Rattle.matching.specs.declared.nodes.Misfit.TheVariants.{Unfit, TooLarge}
use Rattle.matching.specs.Leaf.{Stands, Grown}
use Rattle.matching.specs.Node.{MeetsAs, Meets, inner_of, ways_of}
use Rattle.matching.proofs.Naming.{grown_same, grown_then}
use Rattle.forming.specs.declared.frames.Frame.{Frame}
use Rattle.forming.specs.declared.sizes.Sizes.{Sizes}
use Rattle.forming.specs.Adding.{adding}
use Rattle.forming.specs.Laws.Adding.{adding_append, adding_one, adding_longer, adding_alike, adding_there, placed_sorted}
use Rattle.forming.specs.Frames.{entries, KeptBelow, frame_at, FrameFits, Advanced, mask_of}
use Rattle.forming.specs.Onward.{Task, task, onward, one_way}
use Rattle.forming.specs.Inner.{count_of}
use Rattle.forming.specs.Needs.{NoMatch}
use Rattle.forming.specs.Reduced.{Reduced}
use Rattle.forming.specs.Rows.{RowsAre, Appended}
use Rattle.forming.specs.Settled.{TellsSettled}
use Rattle.forming.specs.Sizes.{TellsSizes, FromHeld, From}
use Rattle.forming.specs.Stack.{Level, LevelIs, StackIs, dues, Stacked, Waiting}
use Rattle.forming.proofs.Accounting.{accounted_with, accounted_hit, traced_with}
use Rattle.forming.proofs.Compatible.{none_onward}
use Rattle.forming.proofs.Framing.{frame_kept}
use Rattle.forming.proofs.Pushing.{agenda_kept, wide_by}
use Rattle.forming.proofs.Reducing.{onward_alike}
use Rattle.forming.proofs.Rowing.{rows_rising}
use Rattle.forming.proofs.Skipping.{from_asked, passed_over}
use Rattle.forming.proofs.Solving.{recast_word, agenda_low, whole}

-- ---- kept

pub level_kept : (table s a b : List ℕ) (i : ℕ) (f : Frame) (l : Level) → KeptBelow a b (3 * f.top) → LevelIs table s a i f l → LevelIs table s b i f l
level_kept table s a b i f l k h = record {
  composed = h.composed;
  low = h.low;
  here = subst (λ (n : ℕ). PartIs s (unpacked n) l.value) (sym (k (3 * f.at + 1) (omega (arith, h.low)))) h.here;
  narrow = h.narrow;
  fits = h.fits;
  are = agenda_kept table s a b f.top f.top f.next l.tasks (omega arith) k h.are;
  room = h.room;
  high = h.high;
  stands = h.stands;
  mask = h.mask;
  mask_low = h.mask_low;
  ways = h.ways;
  few = h.few;
  within = h.within;
  settled = h.settled;
  sizes = h.sizes;
  due = h.due;
  done = h.done;
  past = h.past;
  since = h.since;
  seen = h.seen;
}

pub stack_kept : (table s a b frames frames' : List ℕ) (high high' : ℕ) (found found' : List ℕ) (ls : List Level) → KeptBelow a b (3 * high) → high ≤ high' → Grown found found' → length frames ≡ 1800 → length frames' ≡ length frames → KeptBelow frames frames' (18 * length ls)
    → StackIs table s a frames high found ls → StackIs table s b frames' high' found' ls
stack_kept table s a b frames frames' high high' found found' [] k u g e d q h = omega arith
stack_kept table s a b frames frames' high high' found found' (l ∷ ls) k u g e d q (x, y, z, w) =
    let same = frame_kept frames frames' (length ls) (suc (length ls)) (omega arith) (omega (arith, x.high, x.room)) e d q in
    let below : KeptBelow a b (3 * (frame_at frames (length ls)).top) = λ j m. k j (omega (arith, y)) in
    subst (λ (f : Frame). LevelIs table s b (length ls) f l × (f.top ≤ high') × Grown l.words found' × StackIs table s b frames' f.top l.words ls) (sym same) (
      level_kept table s a b (length ls) (frame_at frames (length ls)) l below x,
      omega (arith, y),
      grown_then z g,
      stack_kept table s a b frames frames' (frame_at frames (length ls)).top (frame_at frames (length ls)).top l.words l.words ls below (omega arith) (grown_same l.words) e d (λ j m. q j (omega arith)) w,
    )

-- ---- the matches above are others that are alike; a match is entered

module _ (table s a : List ℕ) (high : ℕ) (found frames : List ℕ) (depth hit : ℕ) (rows order : List ℕ) (n : ℕ) (more target : List Binding) (h : Stacked table s a high found frames depth hit rows order n more target) where
  abbrev cs : List Binding
  cs = h.bindings

  swapped : (more' : List Binding) → Alike more more' → adding (dues h.levels) (adding more' h.bindings) ≡ target
  swapped more' e =
      ap (adding (dues h.levels)) (sym (adding_alike more more' cs h.rows_are.given h.rows_are.ordered e))
      ∙ sym (adding_append more (dues h.levels) cs) ∙ h.right

  pub restacked : (high' : ℕ) → high ≤ high' → (found' : List ℕ) → Grown found found' → (frames' : List ℕ) → length frames' ≡ length frames → KeptBelow frames frames' (18 * depth) → (more' : List Binding) → Alike more more'
      → Stacked table s a high' found' frames' depth hit rows order n more' target
  restacked high' u found' g frames' d k more' e = record {
    short = h.short;
    long = h.long;
    sized = g.sized ∙ h.sized;
    frames_long = d ∙ h.frames_long;
    levels = h.levels;
    deep = h.deep;
    hits = h.hits;
    stack = stack_kept table s a a frames frames' high high' found found' h.levels (λ j m. refl) u g h.frames_long d (λ j m. k j (omega (arith, h.deep))) h.stack;
    bindings = cs;
    rows_are = h.rows_are;
    accounted = accounted_with more more' more more' cs cs hit hit h.levels (λ c i. (e c).1 i) (λ c i. ⊎_elim (λ j. inl j) (λ j. inr ((e c).0 j)) i) (omega arith) h.accounted;
    traced = h.traced;
    right = adding_append more' (dues h.levels) cs ∙ swapped more' e;
  }

  -- all of them are entered already
  pub nothing_more : high ≤ entries → ((c : Binding) → In c more → In c h.bindings) → Stacked table s a entries found frames depth hit rows order n [] target
  nothing_more u there = record {
    short = h.short;
    long = h.long;
    sized = h.sized;
    frames_long = h.frames_long;
    levels = h.levels;
    deep = h.deep;
    hits = h.hits;
    stack = stack_kept table s a a frames frames high entries found found h.levels (λ j m. refl) u (grown_same found) h.frames_long refl (λ j m. refl) h.stack;
    bindings = cs;
    rows_are = h.rows_are;
    accounted = accounted_with more [] more [] cs cs hit hit h.levels (λ c i. absurd i) (λ c i. inl (⊎_elim (λ j. j) (λ j. there c j) i)) (omega arith) h.accounted;
    traced = h.traced;
    right =
        ap (adding (dues h.levels)) (sym (adding_there more cs (rows_rising h.rows_are) there))
        ∙ sym (adding_append more (dues h.levels) cs) ∙ h.right;
  }

  module _ (b : Binding) (e : Alike more (b ∷ [])) where
    all_with : adding (dues h.levels) (place b h.bindings) ≡ target
    all_with = ap (adding (dues h.levels)) (sym (adding_one b cs)) ∙ swapped (b ∷ []) e

    in_place : (c : Binding) → In c h.bindings ⊎ In c more → In c (place b h.bindings)
    in_place c i = subst (In c) (sym (placed_sorted b cs h.rows_are.given h.rows_are.ordered)) (sorted_in c (b ∷ h.rows_are.given) (⊎_elim (λ j. inr (in_sorted c h.rows_are.given (subst (In c) h.rows_are.ordered j))) (λ j. inl (in_one c ((e c).0 j))) i))

    pub match_entered : high ≤ entries → (rows' order' : List ℕ) (n' : ℕ) → RowsAre s rows' order' n' (place b h.bindings) → Stands s found b → Appended s found rows n rows' n' → Stacked table s a entries found frames depth depth rows' order' n' [] target
    match_entered u rows' order' n' r st ap' = record {
      short = h.short;
      long = h.long;
      sized = h.sized;
      frames_long = h.frames_long;
      levels = h.levels;
      deep = h.deep;
      hits = omega arith;
      stack = stack_kept table s a a frames frames high entries found found h.levels (λ j m. refl) u (grown_same found) h.frames_long refl (λ j m. refl) h.stack;
      bindings = place b cs;
      rows_are = r;
      accounted = accounted_with more [] more [] cs (place b cs) depth depth h.levels (λ c i. absurd i) (λ c i. inl (in_place c i)) (omega arith) (accounted_hit more more cs hit depth h.levels b ((e b).1 (inl refl)) h.accounted);
      traced = traced_with s found rows n rows' n' ap' b st more more cs (place b cs) hit h.levels ((e b).1 (inl refl)) (λ c i. in_place c (inl i)) h.accounted h.traced;
      right = all_with;
    }

    pub match_full : 255 < length (place b h.bindings) → 255 < length target
    match_full l = omega (arith, l, adding_longer (dues h.levels) (place b cs), ap length all_with)

-- ---- a frame opened

abbrev pub framed : ℕ → ℕ → ℕ → ℕ → ℕ → ℕ → ℕ → Bool → Option Sizes → ℕ → ℕ → Bool → Frame
framed p at next top way ways mask once sizes tests n asks = record { p = p; at = at; next = next; top = top; way = way; ways = ways; mask = mask; once = once; sizes = sizes; tests = tests; since = n; seen = n; asks = asks }

module _ (table s a : List ℕ) (at next top : ℕ) (found frames : List ℕ) (depth hit : ℕ) (rows order : List ℕ) (n : ℕ) (target : List Binding) (w : Waiting table s a at next top found frames depth hit rows order n target) where
  abbrev v : Value
  v = w.value

  abbrev ts : List Task
  ts = w.tasks

  abbrev b : Binding
  b = w.binding

  pub top_few : top ≤ entries
  top_few = omega (arith, w.room)

  pub depth_few : depth < 100
  depth_few = omega (arith, w.low, w.room)

  module _ (p : ℕ) (x : Reduced table (get_or a (3 * at) 0) p) where
    pub met_as : (kind count : ℕ) (part : Part) (m : Result ℕ Misfit) → kind ≡ kind_at (records table) p → count ≡ count_of table p → part ≡ unpacked (get_or a (3 * at + 1) 0) → Meets kind count s part m → Meets (kind_at (records table) p) (count_of table p) s (unpacked (get_or a (3 * at + 1) 0)) m
    met_as kind count part m ke ce pe h = recast_word (get_or a (3 * at + 1) 0) kind count s part m ke ce pe h

    narrow_now : wide (pattern_at (records table) p) w.value ≡ false
    narrow_now = x.narrow v w.narrow

    -- all ways
    all_ways : Alike (onward (task (pattern_at (records table) (get_or a (3 * at) 0)) w.value ∷ w.tasks) w.binding) (gather (ways_of table p w.value) (one_way (inner_of table p) w.tasks w.binding))
    all_ways = subst (Alike (onward (task (pattern_at (records table) (get_or a (3 * at) 0)) v ∷ ts) b)) (whole table p x.composed v ts b) (onward_alike (pattern_at (records table) (get_or a (3 * at) 0)) (pattern_at (records table) p) v ts b (x.alike v))

    unopened : (frames' : List ℕ) → length frames' ≡ length frames → KeptBelow frames frames' (18 * depth) → gather (ways_of table p w.value) (one_way (inner_of table p) w.tasks w.binding) ≡ [] → Stacked table s a entries found frames' depth hit rows order n [] target
    unopened frames' d k e =
        restacked table s a top found frames depth hit rows order n (onward (task (pattern_at (records table) (get_or a (3 * at) 0)) v ∷ ts) b) target w.stacked entries top_few found (grown_same found) frames' d k []
        (subst (Alike (onward (task (pattern_at (records table) (get_or a (3 * at) 0)) v ∷ ts) b)) e all_ways)

    -- the pattern has no match that is compatible with what is found
    pub unmatched : (part : Part) → part ≡ unpacked (get_or a (3 * at + 1) 0) → NoMatch table p s part found → Stacked table s a entries found frames depth hit rows order n [] target
    unmatched part e f =
        restacked table s a top found frames depth hit rows order n (onward (task (pattern_at (records table) (get_or a (3 * at) 0)) v ∷ ts) b) target w.stacked entries top_few found (grown_same found) frames refl (λ j m. refl) []
        (λ c.
        let o = onward_alike (pattern_at (records table) (get_or a (3 * at) 0)) (pattern_at (records table) p) v ts b (x.alike v) c in
        let z = none_onward [] (task (pattern_at (records table) p) v) ts b w.stands.binding_sized (f v b (subst (λ (k : Part). PartIs s k v) (sym e) w.here) w.stands) c in
        (λ i. z.0 (o.0 i), λ i. absurd i))

    module _ (m : Result ℕ Misfit) (met : Meets (kind_at (records table) p) (count_of table p) s (unpacked (get_or a (3 * at + 1) 0)) m) where
      pub no_ways : ((k : ℕ) → m ≡ Ok k → ⊥) → Stacked table s a entries found frames depth hit rows order n [] target
      unfolding gather
      no_ways nope = unopened frames refl (λ j m. refl) (ap (λ (ws : List (List Value)). gather ws (one_way (inner_of table p) ts b)) (go m nope (met v w.here)))
        where
          go : (y : Result ℕ Misfit) → ((k : ℕ) → y ≡ Ok k → ⊥) → MeetsAs (kind_at (records table) p) (count_of table p) w.value y → ways_of table p w.value ≡ []
          go (Err Unfit) f k = k.1
          go (Err TooLarge) f k = true_false (sym k ∙ or_false_left (is_large (kind_at (records table) p) v) _ (sym (wide_by table p x.composed v) ∙ narrow_now))
          go (Ok z) f k = absurd (f z refl)

      module _ (ways : ℕ) (me : m ≡ Ok ways) (k : ℕ) (ek : k ≡ kind_at (records table) p) (sizes : Option Sizes) (told : (b : Binding) → Stands s found b → TellsSizes table b p k sizes) where
        t : TellsSizes table w.binding p k sizes
        t = told b w.stands

        there : MeetsAs (kind_at (records table) p) (count_of table p) w.value (Ok ways)
        there = subst (MeetsAs (kind_at (records table) p) (count_of table p) v) me (met v w.here)

        pub ways_few : ways < 256
        ways_few = there.3

        pub first_asked : FromHeld k ways sizes
        first_asked = from_asked table p x.composed.readable k ek b sizes t v ways there.1 there.2

        module _ (way : ℕ) (fr : From k ways 0 sizes way) (once : Bool) (so : TellsSettled table p found once) (mask : ℕ) (ms : (mask ≡ mask_of found) × (mask < 65536)) (tests : ℕ) (few : tests < 256) (asks : Bool) where
          pub frame_fits : FrameFits (framed p at next top way ways mask once sizes tests n asks)
          frame_fits = record {
            record_small = omega (arith, x.composed.readable.here, x.composed.readable.fine.few);
            at_small = omega (arith, w.below, top_few);
            next_small = omega (arith, top_few, agenda_low table s a top next ts (omega (arith, w.low)) w.are);
            top_small = omega (arith, top_few);
            way_small = omega (arith, fr.within (omega arith), ways_few);
            ways_small = ways_few;
            mask_small = ms.1;
            tests_small = few;
            since_small = omega (arith, w.stacked.rows_are.few);
            seen_small = omega (arith, w.stacked.rows_are.few);
          }

          skipped : gather (drop way (ways_of table p w.value)) (one_way (inner_of table p) w.tasks w.binding) ≡ gather (ways_of table p w.value) (one_way (inner_of table p) w.tasks w.binding)
          skipped = passed_over table p x.composed.readable k ek b sizes t v ways there.1 w.stands.binding_sized ts 0 way (omega arith) fr

          level : Level
          level = record { value = w.value; tasks = w.tasks; binding = w.binding; words = found; past = []; done = []; due = gather (drop way (ways_of table p w.value)) (one_way (inner_of table p) w.tasks w.binding); since = n; seen = n }

          level_is : way < ways → LevelIs table s a depth (framed p at next top way ways mask once sizes tests n asks) level
          unfolding level
          level_is l = record {
            composed = x.composed;
            low = w.below;
            here = w.here;
            narrow = narrow_now;
            fits = there.0;
            are = w.are;
            room = omega (arith, w.room, x.fewer);
            high = w.low;
            stands = w.stands;
            mask = ms.0;
            mask_low = ms.1;
            ways = there.1;
            few = ways_few;
            within = l;
            settled = so;
            sizes = subst (λ (c : ℕ). TellsSizes table b p c sizes) ek t;
            due = refl;
            done = λ o i. absurd i;
            past = λ o i. absurd i;
            since = refl;
            seen = refl;
          }

          module _ (frames' : List ℕ) (r : ℕ) (ad : Advanced frames depth (framed p at next top way ways mask once sizes tests n asks) frames' r) where
            same_due : Alike (onward (task (pattern_at (records table) (get_or a (3 * at) 0)) w.value ∷ w.tasks) w.binding) (gather (drop way (ways_of table p w.value)) (one_way (inner_of table p) w.tasks w.binding))
            same_due = subst (Alike (onward (task (pattern_at (records table) (get_or a (3 * at) 0)) v ∷ ts) b)) (sym skipped) all_ways

            stays : way < ways → frame_at frames' depth ≡ framed p at next top way ways mask once sizes tests n asks → Stacked table s a entries found frames' (suc depth) hit rows order n [] target
            unfolding level
            stays l fe =
                let st = restacked table s a top found frames depth hit rows order n (onward (task (pattern_at (records table) (get_or a (3 * at) 0)) v ∷ ts) b) target w.stacked top (omega arith) found (grown_same found) frames' ad.long ad.kept (gather (drop way (ways_of table p v)) (one_way (inner_of table p) ts b)) same_due in
                record {
                  short = st.short;
                  long = st.long;
                  sized = st.sized;
                  frames_long = st.frames_long;
                  levels = level ∷ st.levels;
                  deep = ap suc st.deep;
                  hits = omega (arith, st.hits);
                  stack = subst (λ (i : ℕ). LevelIs table s a i (frame_at frames' i) level × ((frame_at frames' i).top ≤ entries) × Grown found found × StackIs table s a frames' (frame_at frames' i).top found st.levels) (sym st.deep)
                      (subst (λ (f : Frame). LevelIs table s a depth f level × (f.top ≤ entries) × Grown found found × StackIs table s a frames' f.top found st.levels) (sym fe) (level_is l, top_few, grown_same found, st.stack));
                  bindings = st.bindings;
                  rows_are = st.rows_are;
                  accounted = (λ c i. absurd i, λ c i. absurd i, λ m. absurd (omega (arith, st.hits, st.deep)), st.accounted);
                  traced = (record { few = omega arith; whole = λ c i. absurd i; past = λ r l m. absurd (omega arith); done = λ r l m. absurd (omega arith) }, st.traced);
                  right = st.right;
                }

            pub frame_opened : Stacked table s a entries found frames' r hit rows order n [] target
            unfolding gather
            frame_opened = go ad.how
              where
                go : ((r ≡ suc depth) × (way < ways) × (frame_at frames' depth ≡ framed p at next top way ways mask once sizes tests n asks)) ⊎ ((r ≡ depth) × (ways ≤ way)) → Stacked table s a entries found frames' r hit rows order n [] target
                go (inl (e, l, fe)) = subst (λ (y : ℕ). Stacked table s a entries found frames' y hit rows order n [] target) (sym e) (stays l fe)
                go (inr (e, l)) =
                    let none : drop way (ways_of table p v) ≡ [] = drop_of_length-le (ways_of table p v) {i = way} (omega (arith, there.1)) in
                    subst (λ (y : ℕ). Stacked table s a entries found frames' y hit rows order n [] target) (sym e)
                    (unopened frames' ad.long ad.kept (sym skipped ∙ ap (λ (ws : List (List Value)). gather ws (one_way (inner_of table p) ts b)) none))
