-- What an update finds by the table that it would make is found by the definitions of a run.
use Rattle.std.proofs.Common.{Bool, true, false, ◌&&◌, inl, inr, not, refl}
use Rattle.std.specs.Prelude.{IsTrue, ◌||◌}
use Rattle.bare_nodes.specs.Uncalled.{no_functions}
use Rattle.ps_frame.specs.Causes.{Cause}
use Rattle.ps_nodes.specs.Seen.{Finds, kind_of, options_of, progress_of, seen}
use Rattle.ps_nodes.specs.declared.flow.FlowNode.{FlowNode}
use Rattle.ps_ports.specs.Ports.{Sides}
use Rattle.ps_turns.specs.Progress.{is_user_map, makes_table}
use Rattle.ps_turns.specs.Updates.{is_waiting, starts_giving}
use Rattle.turn_laws.specs.Updating.{FindsFault}

or_waits : (makes waits starts : Bool) → IsTrue (makes && starts) → IsTrue (makes && (waits || starts))
or_waits true true starts h = refl
or_waits true false starts h = h
or_waits false waits starts h = h

pub found_in_runs : (a : FlowNode) (given : Sides) (c : Cause) → Finds a given c → FindsFault no_functions (options_of a) (seen a) given c
found_in_runs a given c (inl shape) = inl shape
found_in_runs a given c (inr (starts, breaks)) =
    inr (or_waits (makes_table (kind_of a)) (is_waiting (kind_of a) (progress_of a) given) (starts_giving (options_of a) (kind_of a) (progress_of a) given && not (is_user_map (kind_of a))) starts, breaks)
