-- The keys' pipes are at ports of the node, before and after the first half; then the wires are those with the answer.
use Rattle.std.proofs.Common.{◌≡◌, List, length, sym, subst, ap, ◌∙◌}
use Rattle.ps_ports.specs.declared.port_state.PortState.{PortState}
use Rattle.ps_graph.specs.declared.end.End.TheVariants as at
use Rattle.ps_graph.specs.Ends.{AreAt, Told}
use Rattle.ps_graph.specs.Marking.{is_marked}
use Rattle.ps_graph.specs.Shown.{numbers}
use Rattle.ps_graph.specs.Turning.{sides_of}
use Rattle.ps_graph.proofs.Reading.{at_inputs, at_outputs}
use Rattle.ps_graph.proofs.Telling.{still_at}
use Rattle.ps_graph.proofs.Writing.{join_alike, tells_readers, tells_senders, wires_written}
use Rattle.ps_graph.proofs.turns.tell_node.Goals as goal

pub tell-requires : goal.tell-requires
tell-requires c =
    let long : length c.args.outputs.now ≡ length c.as_slice.result.now = sym (ap length c.as_slice.ensures.value ∙ c.requires.outputs) in
    record { there = subst (λ n. AreAt at.Sender n (numbers c.args.outputs.now) c.args.pipes.now.slots) long (at_outputs c.args._number c.args.inputs.now c.args.outputs.now c.args.pipes.now.slots c.requires.keys) }

pub tell-requires-2 : goal.tell-requires-2
tell-requires-2 c =
    let long : length c.args.inputs.now ≡ length c.as_slice-2.result.now = sym (ap length c.as_slice-2.ensures.value ∙ c.requires.inputs) in
    let first = at_inputs c.args._number c.args.inputs.now c.args.outputs.now c.args.pipes.now.slots c.requires.keys in
    let still = still_at at.Sender at.Receiver c.as_slice.result.now (numbers c.args.outputs.now) (numbers c.args.inputs.now) c.args.pipes.now.slots c.tell.new.pipes.slots (is_marked c.args.readers.now) (is_marked c.tell.new.marks)
    (length c.args.inputs.now) c.in_ok-tell.ensures.told first in
    record { there = subst (λ n. AreAt at.Receiver n (numbers c.args.inputs.now) c.tell.new.pipes.slots) long still }

pub returns-clause-written : goal.returns-clause-written
returns-clause-written c =
    let sends = subst (λ (l : List PortState). Told at.Sender l (numbers c.args.outputs.now) c.args.pipes.now.slots c.tell.new.pipes.slots (is_marked c.args.readers.now) (is_marked c.tell.new.marks)) c.as_slice.ensures.value c.in_ok-tell.ensures.told in
    let receives =
    subst (λ (l : List PortState). Told at.Receiver l (numbers c.args.inputs.now) c.tell.new.pipes.slots c.tell-2.new.pipes.slots (is_marked c.args.senders.now) (is_marked c.tell-2.new.marks)) c.as_slice-2.ensures.value c.in_ok-tell-2.ensures.told in
    wires_written c.args._number c.args.inputs.now c.args.outputs.now c.args.pipes.now.slots c.tell.new.pipes.slots c.tell-2.new.pipes.slots c.requires.keys (sides_of c.args.answer.now) (is_marked c.args.readers.now) (is_marked c.tell.new.marks)
    (is_marked c.args.senders.now) (is_marked c.tell-2.new.marks) sends receives

pub returns-clause-readers : goal.returns-clause-readers
returns-clause-readers c =
    let sends = subst (λ (l : List PortState). Told at.Sender l (numbers c.args.outputs.now) c.args.pipes.now.slots c.tell.new.pipes.slots (is_marked c.args.readers.now) (is_marked c.tell.new.marks)) c.as_slice.ensures.value c.in_ok-tell.ensures.told in
    let receives =
    subst (λ (l : List PortState). Told at.Receiver l (numbers c.args.inputs.now) c.tell.new.pipes.slots c.tell-2.new.pipes.slots (is_marked c.args.senders.now) (is_marked c.tell-2.new.marks)) c.as_slice-2.ensures.value c.in_ok-tell-2.ensures.told in
    tells_readers c.args._number c.args.inputs.now c.args.outputs.now c.args.pipes.now.slots c.tell.new.pipes.slots c.tell-2.new.pipes.slots c.requires.keys (sides_of c.args.answer.now) (is_marked c.args.readers.now) (is_marked c.tell.new.marks)
    (is_marked c.args.senders.now) (is_marked c.tell-2.new.marks) sends receives

pub returns-clause-senders : goal.returns-clause-senders
returns-clause-senders c =
    let sends = subst (λ (l : List PortState). Told at.Sender l (numbers c.args.outputs.now) c.args.pipes.now.slots c.tell.new.pipes.slots (is_marked c.args.readers.now) (is_marked c.tell.new.marks)) c.as_slice.ensures.value c.in_ok-tell.ensures.told in
    let receives =
    subst (λ (l : List PortState). Told at.Receiver l (numbers c.args.inputs.now) c.tell.new.pipes.slots c.tell-2.new.pipes.slots (is_marked c.args.senders.now) (is_marked c.tell-2.new.marks)) c.as_slice-2.ensures.value c.in_ok-tell-2.ensures.told in
    tells_senders c.args._number c.args.inputs.now c.args.outputs.now c.args.pipes.now.slots c.tell.new.pipes.slots c.tell-2.new.pipes.slots c.requires.keys (sides_of c.args.answer.now) (is_marked c.args.readers.now) (is_marked c.tell.new.marks)
    (is_marked c.args.senders.now) (is_marked c.tell-2.new.marks) sends receives

pub returns-clause-joins : goal.returns-clause-joins
returns-clause-joins c =
    let sends = subst (λ (l : List PortState). Told at.Sender l (numbers c.args.outputs.now) c.args.pipes.now.slots c.tell.new.pipes.slots (is_marked c.args.readers.now) (is_marked c.tell.new.marks)) c.as_slice.ensures.value c.in_ok-tell.ensures.told in
    let receives =
    subst (λ (l : List PortState). Told at.Receiver l (numbers c.args.inputs.now) c.tell.new.pipes.slots c.tell-2.new.pipes.slots (is_marked c.args.senders.now) (is_marked c.tell-2.new.marks)) c.as_slice-2.ensures.value c.in_ok-tell-2.ensures.told in
    join_alike c.args._number c.args.inputs.now c.args.outputs.now c.args.pipes.now.slots c.tell.new.pipes.slots c.tell-2.new.pipes.slots c.requires.keys (sides_of c.args.answer.now) (is_marked c.args.readers.now) (is_marked c.tell.new.marks)
    (is_marked c.args.senders.now) (is_marked c.tell-2.new.marks) sends receives
