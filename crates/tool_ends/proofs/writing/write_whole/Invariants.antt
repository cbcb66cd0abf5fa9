use Rattle.std.proofs.Common.{◌≤◌, ◌-◌, length, take}
use Rattle.tool_ends.specs.Outside.{Appends}
use Rattle.tool_ends.proofs.writing.write_whole.Given as goal

abbrev pub invariant-pieces : goal.invariant-pieces
invariant-pieces g l = record {
  written : Appends (g.K.Sink.written l.initial.sink) (take l.done l.text) (g.K.Sink.written l.sink);
  counted : g.K.Sink.faults l.initial.sink ≤ g.K.Sink.faults l.sink;
  inside : l.done ≤ length l.text;
}

abbrev pub decreases-pieces : goal.decreases-pieces
decreases-pieces g l = length l.text - l.done
