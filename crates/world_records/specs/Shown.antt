-- Which records and moves of the definitions those of the code show.
use Rattle.std.specs.Prelude.{◌≡◌, Bool, true, false, List, Option, Some, None, map}
use Rattle.ps_frame.specs.Functions.{Functions}
use Rattle.ps_turns.specs.Tasks.{Handed, rows, fault}
use Rattle.ps_world.specs.Step.{Steps}
use Rattle.ps_world.specs.World.{Record, World, opened, claimed, handed_in, pulled, closed, ended}
use Rattle.world_records.specs.declared.records.Handed.{Handed as Answered}
use Rattle.world_records.specs.declared.records.Handed.TheVariants as answer
use Rattle.world_records.specs.declared.records.Move.{Move}
use Rattle.world_records.specs.declared.records.Move.TheVariants as turn
use Rattle.world_records.specs.declared.records.Record.{Record as Written}
use Rattle.world_records.specs.declared.records.Record.TheVariants as entry

abbrev pub handed_shown : Answered → Handed
handed_shown (answer.Rows n) = rows n
handed_shown (answer.Fault f) = fault f

abbrev pub record_shown : Written → Record
record_shown (entry.Open phase) = opened phase
record_shown (entry.Claim node input number worker) = claimed node input number worker
record_shown (entry.HandIn node input number worker a) = handed_in node input number worker (handed_shown a)
record_shown (entry.Pull node input number) = pulled node input number
record_shown (entry.Close node) = closed node
record_shown (entry.End phase) = ended phase

abbrev pub journal_shown : List Written → List Record
journal_shown rs = map record_shown rs

abbrev pub is_claimed : Record → Bool
is_claimed (claimed node input number worker) = true
is_claimed _ = false

-- the move that a record tells of; a hand-in is none
abbrev pub move_made : Record → Option Move
move_made (opened phase) = Some turn.Open
move_made (claimed node input number worker) = Some (turn.Claim node input)
move_made (handed_in node input number worker a) = None
move_made (pulled node input number) = Some (turn.Pull node input)
move_made (closed node) = Some (turn.Close node)
move_made (ended phase) = Some turn.End

-- a move that may be made in a world: some step makes it
abbrev pub IsEnabled : Functions → World → Move → Type 0
IsEnabled F w m = (r : Record) × (v : World) × (move_made r ≡ Some m) × Steps F w r v
