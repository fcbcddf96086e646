-- Going back to the last frame: its next way, or it is left.
use mathlib.Core.Path.{◌≡◌, refl, sym, ap, subst, ◌∙◌}
use mathlib.Core.Bool.{true}
use mathlib.Core.Logic.{◌⊎◌, inl, inr, ⊎_elim}
use mathlib.Core.List.{List, [], ◌∷◌, ◌++◌}
use Prim.Native.Nat.{ℕ, zero, suc, ◌+◌, ◌*◌, ◌^◌, ◌≤◌, ◌<◌}
use native.Mathlib.Numerals.{add-one}
use native.Mathlib.Omega.{arith}
use lib.ListN.{length, get_or, drop, drop_of_length-le}
use lib.Seq.{drop-cons}
use Rattle.std.specs.Prelude.{Result}
use Rattle.prelude.specs.Membership.{In}
use Rattle.prelude.specs.declared.Refusal.{Refusal}
use Rattle.prelude.proofs.Membership.{in_left, in_right, in_joined, at_in}
use Rattle.values.specs.Value.{Value}
use Rattle.tables.specs.Table.{kind_at}
use Rattle.tables.specs.Accepted.{records}
use Rattle.parts.specs.Word.{unpacked}
use Rattle.parts.proofs.Laws.{part_well_formed}
use Rattle.patterns.specs.Ways.{gather}
use Rattle.patterns.specs.Binding.{Binding, place}
use Rattle.patterns.proofs.Laws.Members.{in_gather, gather_in}
use Rattle.patterns.proofs.Laws.Together.{append-nil, append_assoc}
use Rattle.matching.specs.Leaf.{Stands, Grown}
use Rattle.matching.specs.Node.{inner_of, ways_of, met_by}
use Rattle.matching.proofs.Naming.{grown_same, stands_fine}
use Rattle.forming.specs.Inner.{count_of}
use Rattle.forming.specs.declared.frames.Frame.{Frame}
use Rattle.forming.specs.Adding.{adding}
use Rattle.forming.specs.Laws.Adding.{adding_append, adding_one, adding_there}
use Rattle.forming.specs.Frames.{entries, agenda_words, frame_at, onto, Advanced, Cleared, heft, rank}
use Rattle.forming.specs.Onward.{Task, onward, zipped, one_way}
use Rattle.forming.specs.Laws.Onward.{onward_end}
use Rattle.forming.specs.Pending.{AgendaIs, tests_first, Pushable, Pushed}
use Rattle.forming.specs.Rows.{RowsAre, EntryHeld, Entered, Entry}
use Rattle.forming.specs.Settled.{TellsSettled}
use Rattle.forming.specs.Sizes.{TellsSizes, FromHeld, From}
use Rattle.forming.specs.Whole.{WordMet, SameValue}
use Rattle.forming.specs.Stack.{Level, LevelIs, StackIs, dues, Accounted, RowsOf, Traced, Stacked, Descending, Solvable, Solved}
use Rattle.forming.proofs.Accounting.{accounted_with}
use Rattle.forming.proofs.Joining.{tests_alike, tests_room}
use Rattle.forming.proofs.Ranking.{back_less}
use Rattle.forming.proofs.Rowing.{rows_rising}
use Rattle.forming.proofs.Skipping.{from_asked, passed_over}
use Rattle.forming.proofs.Solving.{no_task, agenda_low, falls_on, several_parts, count_room, parts_room, same_way, enough}
use Rattle.forming.proofs.Stacking.{level_kept, stack_kept, restacked}

in_drop : {A : Type 0} (n : ℕ) (xs : List A) (x : A) → In x (drop n xs) → In x xs
in_drop zero xs x i = i
in_drop (suc n) [] x i = i
in_drop (suc n) (y ∷ xs) x i = inr (in_drop n xs x i)

-- The last level, i, with its frame, and those below.
pub record Last (table s a found frames : List ℕ) (hit : ℕ) (rows order : List ℕ) (n : ℕ) (target : List Binding) (i : ℕ) (f : Frame) : Type 0 where
  pub short : length s ≤ 65536
  pub long : length a ≡ agenda_words
  pub sized : length found ≡ 16
  pub frames_long : length frames ≡ 1800
  pub level : Level
  pub others : List Level
  pub count : length others ≡ i
  pub is : LevelIs table s a i f level
  pub grown : Grown level.words found
  pub below : StackIs table s a frames f.top level.words others
  pub bindings : List Binding
  pub rows_are : RowsAre s rows order n bindings
  pub done_in : (c : Binding) → In c level.done → In c bindings
  pub hit_some : i < hit → (c : Binding) × In c level.done
  pub accounted : Accounted (level.done ++ level.due) level.due bindings hit others
  pub rows_of : RowsOf s rows n bindings level
  pub traced : Traced s rows n bindings others
  pub right : adding (level.due ++ dues others) bindings ≡ target

pub last_of : (table s a found frames : List ℕ) (depth hit : ℕ) (rows order : List ℕ) (n : ℕ) (target : List Binding) → Stacked table s a entries found frames depth hit rows order n [] target → (i : ℕ) → depth ≡ suc i → (f : Frame) → f ≡ frame_at frames i
    → Last table s a found frames hit rows order n target i f
last_of table s a found frames depth hit rows order n target h i e f fe = go h.levels h.deep h.stack h.accounted h.traced h.right
  where
    go : (ls : List Level) → length ls ≡ depth → StackIs table s a frames entries found ls → Accounted [] [] h.bindings hit ls → Traced s rows n h.bindings ls → adding (dues ls) h.bindings ≡ target → Last table s a found frames hit rows order n target i f
    go [] d x y v z = absurd (omega arith)
    go (l ∷ ls) d (x, u, g, w) (p, q, r, t) v z =
        let c : length ls ≡ i = omega arith in
        let same : frame_at frames (length ls) ≡ f = ap (frame_at frames) c ∙ sym fe in
        record {
          short = h.short;
          long = h.long;
          sized = h.sized;
          frames_long = h.frames_long;
          level = l;
          others = ls;
          count = c;
          is = subst (λ (j : ℕ). LevelIs table s a j f l) c (subst (λ (y : Frame). LevelIs table s a (length ls) y l) same x);
          grown = g;
          below = subst (λ (y : Frame). StackIs table s a frames y.top l.words ls) same w;
          bindings = h.bindings;
          rows_are = h.rows_are;
          done_in = λ b j. ⊎_elim (λ k. k) (λ k. absurd k) (q b j);
          hit_some = λ m. r (omega arith);
          accounted = t;
          rows_of = v.0;
          traced = v.1;
          right = z;
        }

module _ (table s a found frames : List ℕ) (hit : ℕ) (rows order : List ℕ) (n : ℕ) (target : List Binding) (i : ℕ) (f : Frame) (h : Last table s a found frames hit rows order n target i f) where
  abbrev L : Level
  L = h.level

  abbrev way : List Value → List Binding
  way = one_way (inner_of table f.p) h.level.tasks h.level.binding

  pub last_few : i < 100
  last_few = omega (arith, h.is.high, h.is.room)

  pub top_low : f.top ≤ entries
  top_low = omega (arith, h.is.room)

  pub top_room : f.top + count_of table f.p ≤ entries
  top_room = count_room table f.p h.is.composed f.top L.tasks h.is.room

  -- ---- it is only a test, and has a match

  pub last_left : f.once ≡ true → i < hit → Stacked table s a entries found frames i i rows order n [] target
  last_left o l = record {
    short = h.short;
    long = h.long;
    sized = h.sized;
    frames_long = h.frames_long;
    levels = h.others;
    deep = h.count;
    hits = omega arith;
    stack = stack_kept table s a a frames frames f.top entries L.words found h.others (λ j m. refl) top_low h.grown h.frames_long refl (λ j m. refl) h.below;
    bindings = h.bindings;
    rows_are = h.rows_are;
    accounted = accounted_with (L.done ++ L.due) [] L.due [] h.bindings h.bindings hit i h.others (λ c j. absurd j) (λ c j. inl (⊎_elim (λ k. k) (λ k. there c k) j)) (omega arith) h.accounted;
    traced = h.traced;
    right = ap (adding (dues h.others)) (sym (adding_there L.due h.bindings (rows_rising h.rows_are) (λ c j. there c j))) ∙ sym (adding_append L.due (dues h.others) h.bindings) ∙ h.right;
  }
    where
      there : (c : Binding) → In c h.level.due → In c h.bindings
      there c j =
          let (x, xi) = h.hit_some l in
          let (vs, vi, xv, all) = h.is.done x xi in
          let (us, ui, k) = in_gather c (drop f.way (ways_of table f.p L.value)) way (subst (In c) h.is.due j) in
          h.done_in c (all c (enough table f.p h.is.composed s L.words L.binding h.is.stands (subst (TellsSettled table f.p L.words) o h.is.settled) L.value (part_well_formed h.is.here) L.tasks vs vi x xv c
          (gather_in us c (ways_of table f.p L.value) way (in_drop f.way (ways_of table f.p L.value) us ui) k)))

  -- ---- its next way

  module _ (k : ℕ) (ek : k ≡ kind_at (records table) f.p) where
    sizes_told : TellsSizes table h.level.binding f.p k f.sizes
    sizes_told = subst (λ (c : ℕ). TellsSizes table L.binding f.p c f.sizes) (sym ek) h.is.sizes

    pub next_asked : FromHeld k f.ways f.sizes
    next_asked = from_asked table f.p h.is.composed.readable k ek L.binding f.sizes sizes_told L.value f.ways h.is.ways (omega (arith, h.is.within))

    pub word_met : (word : ℕ) → word ≡ get_or a (3 * f.at + 1) 0 → WordMet s k word f.ways
    word_met word e = record {
      short = h.short;
      value = L.value;
      here = rw e h.is.here;
      narrow = rw ek h.is.fits;
      count = count_of table f.p;
      met = rw ek h.is.ways;
      some = omega (arith, h.is.within);
      few = h.is.few;
    }

    pub next_low : f.next < f.top
    next_low = agenda_low table s a f.top f.next L.tasks (omega (arith, h.is.low)) h.is.are

    module _ (e : ℕ) (fr : From k f.ways (f.way + 1) f.sizes e) where
      module _ (word : ℕ) (we : SameValue s (get_or a (3 * f.at + 1) 0) word) where
        pub push_asked : Pushable table f.p s (unpacked word) f.way a f.next f.top (count_of table f.p)
        push_asked = record {
          composed = h.is.composed;
          short = h.short;
          value = L.value;
          here = we L.value h.is.here;
          narrow = h.is.fits;
          below = omega (arith, h.is.within, h.is.ways);
          low = next_low;
          room = top_room;
          long = h.long;
        }

        module _ (b : List ℕ) (head : ℕ) (pushed : Pushed table f.p s (unpacked word) f.way a f.next f.top f.tests b head) (frames' : List ℕ) (left : ℕ) (ad : Advanced frames i (onto f e n) frames' left)
            (found' : List ℕ) (cl : Cleared found f.mask found') (c : ℕ) (ec : c ≡ count_of table f.p) (hit' : ℕ) (hl : hit' ≤ hit) (hd : hit' ≤ left) where
          head_falls : heft (f.top + c) head ≤ heft f.top f.next
          head_falls = falls_on f.top f.next c head (omega (arith, ec, top_room)) (omega (arith, ec, pushed.low)) (λ z. pushed.none (omega (arith, ec, z)))

          pub next_less : (depth : ℕ) → depth ≡ suc i → f ≡ frame_at frames i → (x : ℕ) → x < rank frames' left + 256 ^ heft (f.top + c) head → x < rank frames depth
          next_less depth de fe x l = back_less frames i depth de f fe h.is.within last_few h.frames_long e n (omega (arith, fr.low)) frames' left ad x (heft (f.top + c) head) head_falls l

          words_again : found' ≡ h.level.words
          words_again = cl L.words h.is.mask h.is.stands.sized h.grown

          abbrev parts : List Task
          parts = zipped (inner_of table f.p) (met_by table f.p h.level.value f.way)

          now : List Task
          now = tests_first f.tests parts h.level.tasks

          more : List Binding
          more = onward (parts ++ h.level.tasks) h.level.binding

          due' : List Binding
          due' = gather (drop e (ways_of table f.p h.level.value)) way

          inside : f.way < length (ways_of table f.p h.level.value)
          inside = omega (arith, h.is.within, h.is.ways)

          this_way : way (met_by table f.p h.level.value f.way) ≡ more
          unfolding more
          this_way = same_way table f.p h.is.composed L.value (part_well_formed h.is.here) L.tasks L.binding f.way inside

          due_is : h.level.due ≡ more ++ due'
          unfolding gather due'
          due_is =
              h.is.due
              ∙ ap (λ (ws : List (List Value)). gather ws way) (drop-cons (ways_of table f.p L.value) f.way [] inside ∙ ap (λ (j : ℕ). met_by table f.p L.value f.way ∷ drop j (ways_of table f.p L.value)) (sym (add-one f.way)))
              ∙ ap (λ (xs : List Binding). xs ++ gather (drop (f.way + 1) (ways_of table f.p L.value)) way) this_way
              ∙ ap (λ (xs : List Binding). more ++ xs) (sym (passed_over table f.p h.is.composed.readable k ek L.binding f.sizes sizes_told L.value f.ways h.is.ways h.is.stands.binding_sized L.tasks (f.way + 1) e (omega (arith, h.is.within)) fr))

          others_kept : (high : ℕ) → f.top ≤ high → StackIs table s b frames' high h.level.words h.others
          others_kept high u = stack_kept table s a b frames frames' f.top high L.words L.words h.others pushed.kept u (grown_same L.words) h.frames_long ad.long (λ j m. ad.kept j (omega (arith, h.count))) h.below

          level' : Level
          level' = record { value = h.level.value; tasks = h.level.tasks; binding = h.level.binding; words = h.level.words; past = h.level.done; done = h.level.done ++ more; due = due'; since = h.level.since; seen = n }

          level_on : e < f.ways → LevelIs table s b i (onto f e n) level'
          unfolding level' due'
          level_on l =
              let x = level_kept table s a b i f L pushed.kept h.is in
              record {
                composed = x.composed;
                low = x.low;
                here = x.here;
                narrow = x.narrow;
                fits = x.fits;
                are = x.are;
                room = x.room;
                high = x.high;
                stands = x.stands;
                mask = x.mask;
                mask_low = x.mask_low;
                ways = x.ways;
                few = x.few;
                within = l;
                settled = x.settled;
                sizes = x.sizes;
                due = refl;
                done = λ o j. go o (in_joined o L.done more j);
                past = h.is.done;
                since = h.is.since;
                seen = refl;
              }
            where
              go : (o : Binding) → In o h.level.done ⊎ In o more → (vs : List Value) × In vs (ways_of table f.p h.level.value) × In o (way vs) × ((d : Binding) → In d (way vs) → In d (h.level.done ++ more))
              go o (inl j) = let (vs, vi, ov, all) = h.is.done o j in (vs, vi, ov, λ d m. in_left d L.done more (all d m))
              go o (inr j) = (met_by table f.p L.value f.way, at_in (ways_of table f.p L.value) f.way [] inside, subst (In o) (sym this_way) j, λ d m. in_right d L.done more (subst (In d) this_way m))

          abbrev Now : ℕ → List ℕ → Type 0
          Now d words = Stacked table s b (f.top + c) words frames' d hit' rows order n more target

          stays_on : left ≡ suc i → e < f.ways → frame_at frames' i ≡ onto f e n → Now left h.level.words
          unfolding level'
          stays_on le l fe = subst (λ (d : ℕ). hit' ≤ d → Now d L.words) (sym le) (λ hs. record {
            short = h.short;
            long = pushed.long ∙ h.long;
            sized = h.is.stands.sized;
            frames_long = ad.long ∙ h.frames_long;
            levels = level' ∷ h.others;
            deep = ap suc h.count;
            hits = hs;
            stack = subst (λ (j : ℕ). LevelIs table s b j (frame_at frames' j) level' × ((frame_at frames' j).top ≤ f.top + c) × Grown L.words L.words × StackIs table s b frames' (frame_at frames' j).top L.words h.others) (sym h.count)
                (subst (λ (g : Frame). LevelIs table s b i g level' × (g.top ≤ f.top + c) × Grown L.words L.words × StackIs table s b frames' g.top L.words h.others) (sym fe) (level_on l, omega arith, grown_same L.words, others_kept f.top (omega arith)));
            bindings = h.bindings;
            rows_are = h.rows_are;
            accounted = (
              λ x j. in_right x L.done more j,
              λ x j. ⊎_elim (λ m. inl (h.done_in x m)) (λ m. inr m) (in_joined x L.done more j),
              λ m. let (x, xi) = h.hit_some (omega (arith, h.count)) in (x, in_left x L.done more xi),
              accounted_with (L.done ++ L.due) ((L.done ++ more) ++ due') L.due (more ++ due') h.bindings h.bindings hit hit' h.others
                  (λ x j. subst (λ (ys : List Binding). In x (L.done ++ ys)) (sym due_is) (subst (In x) (append_assoc L.done more due') j))
                  (λ x j. ⊎_elim (λ m. inl m) (λ m. inr (subst (In x) due_is m)) j) hl h.accounted,
            );
            traced = (
              record {
                few = omega arith;
                whole = h.done_in;
                past = h.rows_of.done;
                done = λ r u m. let (o, x, j) = h.rows_of.done r u m in (o, x, in_left o L.done more j);
              },
              h.traced,
            );
            right = ap (λ (xs : List Binding). adding xs h.bindings) (sym (append_assoc more due' (dues h.others)) ∙ ap (λ (xs : List Binding). xs ++ dues h.others) (sym due_is)) ∙ h.right;
          }) hd

          leaves_off : left ≡ i → f.ways ≤ e → Now left h.level.words
          unfolding due' gather
          leaves_off le l =
              let none : drop e (ways_of table f.p L.value) ≡ [] = drop_of_length-le (ways_of table f.p L.value) {i = e} (omega (arith, h.is.ways)) in
              let all : L.due ≡ more = due_is ∙ ap (λ (ws : List (List Value)). more ++ gather ws way) none ∙ append-nil more in
              record {
                short = h.short;
                long = pushed.long ∙ h.long;
                sized = h.is.stands.sized;
                frames_long = ad.long ∙ h.frames_long;
                levels = h.others;
                deep = h.count ∙ sym le;
                hits = hd;
                stack = others_kept (f.top + c) (omega arith);
                bindings = h.bindings;
                rows_are = h.rows_are;
                accounted = accounted_with (L.done ++ L.due) more L.due more h.bindings h.bindings hit hit' h.others
                    (λ x j. in_right x L.done L.due (subst (In x) (sym all) j)) (λ x j. ⊎_elim (λ m. inl m) (λ m. inr (subst (In x) all m)) j) hl h.accounted;
                traced = h.traced;
                right = ap (λ (xs : List Binding). adding (xs ++ dues h.others) h.bindings) (sym all) ∙ h.right;
              }

          low_enough : (((left ≡ suc i) × (e < f.ways) × (frame_at frames' i ≡ onto f e n)) ⊎ ((left ≡ i) × (f.ways ≤ e))) → 2 * left + 2 ≤ f.top + c
          low_enough (inl (x, y, z)) = omega (arith, h.is.high, ec, fr.low, several_parts table f.p h.is.composed L.value (omega (arith, fr.low, h.is.ways)))
          low_enough (inr (x, y)) = omega (arith, h.is.high)

          pub going_down : Descending table s b head (f.top + c) found' frames' left hit' rows order n target
          unfolding now more
          going_down = record {
            tasks = now;
            are = subst (λ (m : ℕ). AgendaIs table s b (f.top + m) head now) (sym ec) (pushed.right L.value L.tasks (we L.value h.is.here) h.is.narrow h.is.are);
            room = omega (arith, ec, tests_room f.tests parts L.tasks, parts_room table f.p h.is.composed f.top L.tasks h.is.room (met_by table f.p L.value f.way));
            low = low_enough ad.how;
            binding = L.binding;
            stands = subst (λ (ws : List ℕ). Stands s ws L.binding) (sym words_again) h.is.stands;
            stacked = restacked table s b (f.top + c) found' frames' left hit' rows order n more target (subst (λ (ws : List ℕ). Now left ws) (sym words_again) (⊎_elim (λ (x, y, z). stays_on x y z) (λ (x, y). leaves_off x y) ad.how))
                (f.top + c) (omega arith) found' (grown_same found') frames' refl (λ j m. refl) (onward now L.binding) (tests_alike f.tests parts L.tasks L.binding);
          }

-- ---- the first step, and the end

pub starting : (table s a : List ℕ) (head top : ℕ) (m rows order : List ℕ) (n : ℕ) (h : Solvable table s a head top m rows order n) (frames : List ℕ) → length frames ≡ 1800
    → Descending table s a head top m frames 0 0 rows order n (adding (onward h.tasks h.binding) h.bindings)
starting table s a head top m rows order n h frames e = record {
  tasks = h.tasks;
  are = h.are;
  room = h.room;
  low = omega (arith, h.low);
  binding = h.binding;
  stands = h.stands;
  stacked = record {
    short = h.short;
    long = h.long;
    sized = h.stands.sized;
    frames_long = e;
    levels = [];
    deep = refl;
    hits = omega arith;
    stack = omega arith;
    bindings = h.bindings;
    rows_are = h.rows_are;
    accounted = omega arith;
    traced = tt;
    right = ap (λ (xs : List Binding). adding xs h.bindings) (append-nil (onward h.tasks h.binding));
  };
}

pub ended : (table s a found frames : List ℕ) (depth hit : ℕ) (rows order : List ℕ) (n : ℕ) (target : List Binding) → Stacked table s a entries found frames depth hit rows order n [] target → depth ≤ 0 → RowsAre s rows order n target
unfolding adding
ended table s a found frames depth hit rows order n target h l = go h.levels h.deep h.right
  where
    go : (ls : List Level) → length ls ≡ depth → adding (dues ls) h.bindings ≡ target → RowsAre s rows order n target
    go [] d z = subst (RowsAre s rows order n) z h.rows_are
    go (x ∷ ls) d z = absurd (omega arith)

-- ---- an agenda without entries

-- what is found is its one match
pub entry_alone : (table s a : List ℕ) (head top : ℕ) (m rows order : List ℕ) (n : ℕ) → Solvable table s a head top m rows order n → EntryHeld s m rows order n
entry_alone table s a head top m rows order n h = record { binding = h.binding; stands = h.stands; bindings = h.bindings; are = h.rows_are }

pub solved_alone : (table s a : List ℕ) (head top : ℕ) (m rows order : List ℕ) (n : ℕ) → head ≤ 0 → (rows' order' : List ℕ) (r : Result ℕ Refusal) → Entry s m rows order n rows' order' r
    → Solved table s a head top m rows order n a rows' order' r
solved_alone table s a head top m rows order n l rows' order' r o = record {
  long = refl;
  right = λ k.
      let one : onward k.tasks k.binding ≡ k.binding ∷ [] =
      ap (λ (ts : List Task). onward ts k.binding) (no_task table s a top head k.tasks k.are l) ∙ onward_end k.binding (stands_fine s m k.binding k.stands) in
      let all : adding (onward k.tasks k.binding) k.bindings ≡ place k.binding k.bindings = ap (λ (bs : List Binding). adding bs k.bindings) one ∙ adding_one k.binding k.bindings in
      subst (λ (bs : List Binding). Entered s rows' order' bs r) (sym all) (o.right k.binding k.bindings k.stands k.rows_are);
}
