-- The journal of a run that sums one column beside another, with one worker: four Opens, and the steps between them.
use Rattle.std.specs.Prelude.{List, [], ◌∷◌}
use Rattle.ps_turns.specs.Tasks.{rows}
use Rattle.ps_world.specs.World.{Record, claimed, closed, ended, handed_in, opened, pulled}

abbrev pub sum_journal : List Record
sum_journal =
    opened 1 ∷ claimed 0 0 0 0 ∷ handed_in 0 0 0 0 (rows 3) ∷ pulled 1 0 0 ∷ claimed 2 0 0 0 ∷ handed_in 2 0 0 0 (rows 1) ∷ closed 0 ∷ closed 1 ∷ closed 2 ∷ ended 1 ∷ opened 2 ∷ claimed 2 0 0 0 ∷ handed_in 2 0 0 0 (rows 1) ∷ pulled 3 0 0 ∷ pulled 3 1 0 ∷ closed 2 ∷ closed 1 ∷ closed 3 ∷ closed 4 ∷ closed 5 ∷ ended 2 ∷ opened 3 ∷ claimed 3 0 0 0 ∷ handed_in 3 0 0 0 (rows 3) ∷ claimed 4 0 0 0 ∷ handed_in 4 0 0 0 (rows 3) ∷ pulled 5 0 0 ∷ closed 3 ∷ closed 4 ∷ closed 5 ∷ ended 3 ∷ opened 4 ∷ []
