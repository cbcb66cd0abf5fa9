-- The first key out of a node is that of the one pipe that leaves it.
use Rattle.std.proofs.Common.{rules, ◌≡◌, ◌∙◌, None, Some, ap, slice_get}
use Rattle.keyed_slots.specs.Slots.{value_at}
use Rattle.ps_flow.proofs.OutputKeys.{no_key, no_node, some_key}
use Rattle.ps_flow.proofs.outputs.output_key.Goals as goal

pub returns-in-Some-clause-key : goal.returns-in-Some-clause-key
returns-in-Some-clause-key g c =
    let at : value_at c.args.graph.now.nodes.slots c.args.node ≡ Some c.in-Some.found.now = search rules in
    some_key c.args.graph.now c.args.node c.in-Some.found.now at c.key_at.result (c.key_at.ensures ∙ ap (λ l. slice_get l 0) c.as_slice.ensures.value)

pub returns-in-Some-clause-none : goal.returns-in-Some-clause-none
returns-in-Some-clause-none g c =
    let at : value_at c.args.graph.now.nodes.slots c.args.node ≡ Some c.in-Some.found.now = search rules in
    no_key c.args.graph.now c.args.node c.in-Some.found.now at c.key_at.result (c.key_at.ensures ∙ ap (λ l. slice_get l 0) c.as_slice.ensures.value)

pub returns-in-None-clause-none : goal.returns-in-None-clause-none
returns-in-None-clause-none g c = λ ps p linked wires among.
    let none : value_at c.args.graph.now.nodes.slots c.args.node ≡ None = search rules in
    no_node c.args.graph.now linked ps wires c.args.node none p among
