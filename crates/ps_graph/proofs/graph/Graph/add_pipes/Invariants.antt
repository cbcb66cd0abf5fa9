-- The pipes of the inputs so far are added, with a key for each.
use Rattle.std.proofs.Common.{◌≡◌, length, take}
use Rattle.ps_graph.specs.Adding.{WithPipes, fresh_wires}
use Rattle.ps_graph.proofs.graph.Graph.add_pipes.Given as goal

abbrev pub invariant-loop-input : goal.invariant-loop-input
invariant-loop-input g l = record {
  added : WithPipes l.fn.self l.self (fresh_wires l.receiver.0 0 (take l.input l.inputs)) l.keys.items;
  counted : length l.keys.items ≡ l.input;
}
