-- An update leaves what the trials know of a map.
use Rattle.std.proofs.Common.{◌≡◌, length}
use Rattle.std.proofs.lemmas.Result.{on_ok_weaker}
use Rattle.node_states.specs.Views.{sides_of}
use Rattle.ps_nodes.specs.Seen.{Updates}
use Rattle.ps_nodes.specs.declared.flow.FlowNode.TheVariants as flow
use Rattle.map_flow_trials.specs.Shown.{shown_of}
use Rattle.map_flow_trials.proofs.Fitting.{has_input}
use Rattle.map_flow_trials.proofs.Turned.{turned}
use Rattle.map_flow_trials.proofs.maps.InMemoryMapNodeTurns.turn.Goals as goal

pub update-requires-clause-inputs : goal.update-requires-clause-inputs
update-requires-clause-inputs c = has_input c.args.self.now (length c.args.recv.now) c.requires.input c.requires.able

pub returns : goal.returns
returns c =
    on_ok_weaker {P = Updates (flow.InMemoryMap c.args.self.now) (sides_of c.args.recv.now c.args.send.now) (flow.InMemoryMap c.update.new.self) (sides_of c.update.new.recv c.update.new.send)} {Q = shown_of c.update.new.self ≡ shown_of c.args.self.now} c.update.result
    (λ u. turned c.args.self.now c.update.new.self _ _ u)
    c.update.ensures.updated
