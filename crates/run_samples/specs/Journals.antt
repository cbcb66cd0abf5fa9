-- A small journal, as the code writes it and as the definitions have it; and which workers have pieces out.
use Rattle.std.specs.Prelude.{ℕ, List, [], ◌∷◌, Option, Some, None}
use Rattle.ps_outs.specs.Out.{Place}
use Rattle.ps_outs.specs.declared.outs.Out.{Out}
use Rattle.ps_turns.specs.Tasks.{rows}
use Rattle.ps_world.specs.World.{Record, claimed, closed, ended, handed_in, opened, pulled}
use Rattle.world_records.specs.declared.records.Handed.TheVariants as answer
use Rattle.world_records.specs.declared.records.Record.{Record as Written}
use Rattle.world_records.specs.declared.records.Record.TheVariants as entry

-- a piece of node 3 for its input 1 is claimed and handed in, another node pulls what came of it, and the phase ends
abbrev pub written : List Written
written = entry.Open 1 ∷ entry.Claim 3 1 7 2 ∷ entry.HandIn 3 1 7 2 (answer.Rows 5) ∷ entry.Pull 4 0 7 ∷ entry.Close 3 ∷ entry.End 1 ∷ []

abbrev pub told : List Record
told = opened 1 ∷ claimed 3 1 7 2 ∷ handed_in 3 1 7 2 (rows 5) ∷ pulled 4 0 7 ∷ closed 3 ∷ ended 1 ∷ []

abbrev pub out_of : (node input : ℕ) → Out
out_of n i = record { node = n; input = i }

abbrev pub place : (worker node input : ℕ) → Place
place w n i = record { worker = w; node = n; input = i }

-- the first and the last of three workers have a piece of node 5 out
abbrev pub two_out : List (Option Out)
two_out = Some (out_of 5 0) ∷ None ∷ Some (out_of 5 1) ∷ []
