-- What a run leaves where it is broken off, and how the next call puts it right.
-- A run makes its new files before it reads anything, that of the results first. It writes the results, then the state, and then
-- renames both in this order. The first rename makes it count: before it, what is left is removed, the state's new file first;
-- after it, the state's new file is whole and takes its place. So the names that are there tell what was done, and nothing else is asked.
use Rattle.std.specs.Prelude.{ℕ, ◌≡◌, Bool, true, false, cond, List, [], take}
use Rattle.recovery.specs.declared.left.Left.{Left}
use Rattle.recovery.specs.declared.left.Left.TheVariants.{Nothing, Begun, Half}

-- what is left, by which of the new files are there: that of the results, that of the state
abbrev pub left_of : Bool → Bool → Left
left_of results state = cond results Begun (cond state Half Nothing)

-- the bytes of results and state that belong together
pub record Pair : Type 0 where
  pub results : List ℕ
  pub state : List ℕ

-- a new file: none, or one with these bytes
pub data New : Type 0 where
  none : New
  there : List ℕ → New

-- all files of a run: the two that it is given, and the two that it makes
pub record Files : Type 0 where
  pub given : Pair
  pub results_new : New
  pub state_new : New

-- a file is there
abbrev pub is_there : New → Bool
is_there none = false
is_there (there b) = true

-- no new file beside the two
abbrev pub alone : Pair → Files
alone p = record { given = p; results_new = none; state_new = none }

-- how far a run has come with its files, step by step; of a file that is being written any number of bytes may be there
pub data Stage : Type 0 where
  not_begun : Stage
  results_made : Stage
  both_made : Stage
  results_written : ℕ → Stage
  state_written : ℕ → Stage
  results_renamed : Stage
  both_renamed : Stage

-- the files at a stage of a run that makes the new pair of the old one
abbrev pub files_at : Pair → Pair → Stage → Files
files_at old new not_begun = alone old
files_at old new results_made = record { given = old; results_new = there []; state_new = none }
files_at old new both_made = record { given = old; results_new = there []; state_new = there [] }
files_at old new (results_written n) = record { given = old; results_new = there (take n new.results); state_new = there [] }
files_at old new (state_written n) = record { given = old; results_new = there new.results; state_new = there (take n new.state) }
files_at old new results_renamed =
    record { given = record { results = new.results; state = old.state }; results_new = none; state_new = there new.state }
files_at old new both_renamed = alone new

-- the run counts from the first rename on
abbrev pub counts : Stage → Bool
counts not_begun = false
counts results_made = false
counts both_made = false
counts (results_written n) = false
counts (state_written n) = false
counts results_renamed = true
counts both_renamed = true

-- a new state in the place of the old one, where there is a new one
abbrev pub placed : List ℕ → New → List ℕ
placed old none = old
placed old (there b) = b

-- what the next call makes of what is left
abbrev pub mended_by : Left → Files → Files
mended_by Nothing f = f
mended_by Begun f = alone f.given
mended_by Half f = alone (record { results = f.given.results; state = placed f.given.state f.state_new })

-- the same, told by the names alone
abbrev pub mended : Files → Files
mended f = mended_by (left_of (is_there f.results_new) (is_there f.state_new)) f

-- a call that was itself broken off between the two files that it removes
abbrev pub half_removed : Files → Files
half_removed f = record { given = f.given; results_new = f.results_new; state_new = none }

-- wherever a run is broken off, the next call leaves results and state that belong together: those of the run if it counts, else those before
abbrev pub Mends : Type 0
Mends = (old new : Pair) (s : Stage) → mended (files_at old new s) ≡ alone (cond (counts s) new old)

-- and so does a call after one that was broken off while it removed what was left
abbrev pub MendsAgain : Type 0
MendsAgain = (old new : Pair) (s : Stage) → counts s ≡ false → mended (half_removed (files_at old new s)) ≡ alone old
