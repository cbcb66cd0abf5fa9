-- The error of a map or of a join is one of the node that it is.
use Rattle.std.proofs.Common.{◌≡◌, ◌⊎◌, subst, sym}
use Rattle.std.specs.Prelude.{IfErr}
use Rattle.node_states.specs.Views.{sides_of}
use Rattle.ps_frame.specs.declared.refusal.PolarsError.{PolarsError}
use Rattle.ps_frame.specs.declared.refusal.PolarsError.TheVariants as error
use Rattle.ps_nodes.specs.Seen.{Faults}
use Rattle.ps_nodes.specs.declared.flow.FlowNode.{FlowNode}
use Rattle.ps_nodes.proofs.flow.FlowNodeComputeNode.update_state.Goals as goal

pub returns-in-InMemoryMap-clause-fault : goal.returns-in-InMemoryMap-clause-fault
returns-in-InMemoryMap-clause-fault c =
    subst (λ (n : FlowNode). IfErr c.update-in-InMemoryMap.result (λ (e : PolarsError). (e ≡ error.OutOfMemory) ⊎ Faults n (sides_of c.args.recv.now c.args.send.now) e)) (sym c.in-InMemoryMap.is) c.update-in-InMemoryMap.ensures.fault

pub returns-in-InMemoryJoin-clause-fault : goal.returns-in-InMemoryJoin-clause-fault
returns-in-InMemoryJoin-clause-fault c =
    subst (λ (n : FlowNode). IfErr c.update-in-InMemoryJoin.result (λ (e : PolarsError). (e ≡ error.OutOfMemory) ⊎ Faults n (sides_of c.args.recv.now c.args.send.now) e)) (sym c.in-InMemoryJoin.is) c.update-in-InMemoryJoin.ensures.fault
