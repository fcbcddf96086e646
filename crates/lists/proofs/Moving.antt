-- What holds of the bytes while `advance` looks for the last entry that can go up, and when it is found.
use mathlib.Core.Path.{◌≡◌, refl, sym, ap, ◌∙◌, subst}
use mathlib.Core.Bool.{true, false}
use mathlib.Core.List.{List, []}
use Prim.Native.Nat.{ℕ, suc, ◌+◌, ◌≤◌, ◌<◌}
use native.Mathlib.Omega.{arith}
use lib.Dec.{eqb}
use lib.ListN.{length, take, drop, get_or, set, length-set, length-take, length-drop}
use lib.Seq.{take-set-lt, get_or-take, get_or-drop, drop-set-add, drop-set-lt, get_or-set_same, get_or-set_other}
use Rattle.choices.specs.State.{Choices, Made, Moved}
use Rattle.choices.specs.Tree.{most_choices}
use Rattle.choices.proofs.Raising.{Seeking, seeking_all, turn_at, raised_moved, ended_moved}
use Rattle.lists.specs.Lent.{ways_from, run_bytes, lent}
use Rattle.lists.proofs.Starting.{sound_long}
use Rattle.lists.specs.Runs.{UsedWhole, restarted}

-- The run's entries, and the numbers of ways as they were.
pub record Looking (run₀ run : List ℕ) (i : ℕ) : Type 0 where
  pub sized : run_bytes ≤ length run
  pub seeking : Seeking (lent run₀).entries (lent run₀).counts (lent run₀).used (lent run).entries i
  pub ways : drop ways_from run ≡ drop ways_from run₀

pub looking_all : (run : List ℕ) → UsedWhole run → (i : ℕ) → i ≡ get_or run 1 0 → Looking run run i
looking_all run w i e =
    record {
      sized = sound_long run w.sound;
      seeking = subst (Seeking (lent run).entries (lent run).counts (lent run).used (lent run).entries) (sym e) (seeking_all (lent run) w.sound w.used);
      ways = refl;
    }

-- An entry is stored among the entries.
stored : (run : List ℕ) (j a : ℕ) → j < most_choices → (lent (set run (3 + j) a)).entries ≡ set (lent run).entries j a
stored run j a h = ap (take most_choices) (drop-set-add 3 run j a) ∙ take-set-lt most_choices (drop 3 run) j a h

ways_stored : (run : List ℕ) (j a : ℕ) → j < most_choices → drop ways_from (set run (3 + j) a) ≡ drop ways_from run
ways_stored run j a h = drop-set-lt ways_from run (3 + j) a (omega arith)

entry_at : (run : List ℕ) (j : ℕ) → j < most_choices → get_or (lent run).entries j 0 ≡ get_or run (3 + j) 0
entry_at run j h = get_or-take most_choices (drop 3 run) j 0 h ∙ get_or-drop 3 run j 0

ways_at : (run : List ℕ) (j : ℕ) → j < most_choices → get_or (lent run).counts j 0 ≡ get_or run (ways_from + j) 0
ways_at run j h = get_or-take most_choices (drop ways_from run) j 0 h ∙ get_or-drop ways_from run j 0

-- ---- the restart

module _ (run : List ℕ) (len : ℕ) (long : run_bytes ≤ length run) where
  abbrev again : List ℕ
  again = restarted run len

  again_drop : (n : ℕ) → 3 ≤ n → drop n again ≡ drop n run
  again_drop n h = drop-set-lt n (set (set run 0 len) 1 0) 2 1 (omega arith) ∙ drop-set-lt n (set run 0 len) 1 0 (omega arith) ∙ drop-set-lt n run 0 len (omega arith)

  again_is : lent again ≡ record { entries = (lent run).entries; counts = take most_choices (drop ways_from run); len = len; used = 0; grow = true }
  again_is =
      λ i.
      record {
        entries = take most_choices (again_drop 3 (omega arith) i);
        counts = take most_choices (again_drop ways_from (omega arith) i);
        len =
            (get_or-set_other (set (set run 0 len) 1 0) 2 0 1 0 (omega arith)
            ∙ get_or-set_other (set run 0 len) 1 0 0 0 (omega arith)
            ∙ get_or-set_same run 0 len 0 (omega (arith, long)))
            i;
        used = (get_or-set_other (set (set run 0 len) 1 0) 2 1 1 0 (omega arith) ∙ get_or-set_same (set run 0 len) 1 0 0 (omega (arith, long, length-set run 0 len))) i;
        grow = eqb (get_or-set_same (set (set run 0 len) 1 0) 2 1 0 (omega (arith, long, length-set run 0 len, length-set (set run 0 len) 1 0)) i) 1;
      }

-- ---- in a turn

module _ (run₀ run : List ℕ) (w : UsedWhole run₀) (i : ℕ) (g : Looking run₀ run i) (j : ℕ) (e : i ≡ suc j) where
  pub turn_low : j < most_choices
  turn_low = omega (arith, g.seeking.within, w.sound.used_within, w.sound.len_within)

  same_ways : get_or (lent run₀).counts j 0 ≡ get_or run (ways_from + j) 0
  same_ways = ways_at run₀ j turn_low ∙ sym (get_or-drop ways_from run₀ j 0) ∙ ap (λ (x : List ℕ). get_or x j 0) (sym g.ways) ∙ get_or-drop ways_from run j 0

  -- the entry there, and its number of ways
  module _ (entry ways : ℕ) (entry-is : entry ≡ get_or run (3 + j) 0) (ways_is : ways ≡ get_or run (ways_from + j) 0) where
    pub looking_on : ways ≤ entry + 1 → Looking run₀ (set run (3 + j) 0) j
    looking_on h =
        record {
          sized = omega (arith, length-set run (3 + j) 0, g.sized);
          seeking =
              subst (λ (x : List ℕ). Seeking (lent run₀).entries (lent run₀).counts (lent run₀).used x j) (sym (stored run j 0 turn_low))
              (turn_at (lent run₀) w.sound (lent run).entries i g.seeking j e (omega (arith, same_ways, entry_at run j turn_low, entry-is, ways_is, h)));
          ways = ways_stored run j 0 turn_low ∙ g.ways;
        }

    module _ (h : entry + 1 < ways) where
      abbrev up : List ℕ
      up = set run (3 + j) (entry + 1)

      up_long : run_bytes ≤ length up
      up_long = omega (arith, length-set run (3 + j) (entry + 1), g.sized)

      pub looking_up : Moved (lent run₀) (record { more = true; state = lent (restarted up i) })
      looking_up =
          subst (λ (c : Choices). Moved (lent run₀) (record { more = true; state = c })) (sym state-is)
          (raised_moved (lent run₀) w.sound (lent run).entries i g.seeking j e (omega (arith, same_ways, entry_at run j turn_low, entry-is, ways_is, h)))
        where
          state-is : lent (restarted up i) ≡ record { entries = set (lent run).entries j (get_or (lent run).entries j 0 + 1); counts = (lent run₀).counts; len = i; used = 0; grow = true }
          state-is =
              again_is up i up_long
              ∙ (λ z.
              record {
                entries = (stored run j (entry + 1) turn_low ∙ ap (λ a. set (lent run).entries j (a + 1)) (entry-is ∙ sym (entry_at run j turn_low))) z;
                counts = take most_choices ((ways_stored run j (entry + 1) turn_low ∙ g.ways) z);
                len = i;
                used = 0;
                grow = true;
              })

-- ---- none goes up

module _ (run₀ run : List ℕ) (w : UsedWhole run₀) (i : ℕ) (g : Looking run₀ run i) (low : i ≤ 0) where
  all_zero : (k : ℕ) → get_or (lent run).entries k 0 ≡ 0
  all_zero k = g.seeking.zeroed k (omega arith)

  made_none : Made [] true (lent (restarted run 0))
  made_none =
      subst (Made [] true) (sym (again_is run 0 g.sized))
      (record {
        viewed = refl;
        sound = record {
          used_within = omega arith;
          len_within = omega arith;
          entries_sized = simp (length-take, length-drop) (omega (arith, g.sized));
          counts_sized = simp (length-take, length-drop) (omega (arith, g.sized));
          zeroed = λ k h. all_zero k;
        };
      })

  pub looking_none : Moved (lent run₀) (record { more = false; state = lent (restarted run 0) })
  looking_none = ended_moved (lent run₀) w.sound (lent run).entries i g.seeking (lent (restarted run 0)) low made_none
