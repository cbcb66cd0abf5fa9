use Rattle.std.proofs.Common.{◌-◌, ◌^◌, get_or, sym, arith, ◌∙◌}
use Rattle.std.proofs.lemmas.Option.{slice_get-get_or}
use Rattle.ps_frame.specs.Trees.{tree_at}
use Rattle.ps_phys.specs.declared.phys.PhysNodeKey.{PhysNodeKey}
use Rattle.plan_graphs.proofs.Building.{next-underway, node-count, pipe-room, senders}
use Rattle.graph_parts.proofs.Ordered.{of-sound}
use Rattle.plan_graphs.proofs.graphs.add_next.Goals as goal

pub flow_node-requires : goal.flow_node-requires
flow_node-requires c =
    let key : PhysNodeKey = get_or c.args.order.now c.args.place (record { 0 = 0 }) in
    of-sound (tree_at c.args.expr_arena.now.items) c.args.phys.now.slots c.args.order.now c.requires.sound.functions c.requires.sound.sound c.args.place key c.in-Some.node.now c.requires.place (slice_get-get_or c.args.order.now c.args.place (record { 0 = 0 }) c.requires.place)
    (sym c.in-Some.ensures)

pub add_node-requires-clause-senders : goal.add_node-requires-clause-senders
add_node-requires-clause-senders c =
    let key : PhysNodeKey = get_or c.args.order.now c.args.place (record { 0 = 0 }) in
    senders (tree_at c.args.expr_arena.now.items) c.args.phys.now.slots c.args.order.now c.args.place key c.in-Some.node.now c.args.graph.now c.args.keys.now.slots c.requires.sound c.requires.place
    (slice_get-get_or c.args.order.now c.args.place (record { 0 = 0 }) c.requires.place) (sym c.in-Some.ensures) c.requires.before c.as_slice.result.now (record { 0 = 2 ^ 32 - 1 }) (c.as_slice.ensures.value ∙ c.in_ok-inputs.ensures.ports)

pub add_node-requires-clause-nodes : goal.add_node-requires-clause-nodes
add_node-requires-clause-nodes c =
    let key : PhysNodeKey = get_or c.args.order.now c.args.place (record { 0 = 0 }) in
    let count = node-count (tree_at c.args.expr_arena.now.items) c.args.phys.now.slots c.args.order.now c.args.place key c.in-Some.node.now c.args.graph.now c.args.keys.now.slots c.requires.sound c.requires.place
    (slice_get-get_or c.args.order.now c.args.place (record { 0 = 0 }) c.requires.place) (sym c.in-Some.ensures) c.requires.before in
    let few = c.requires.sound.few in
    omega (arith, count, few, c.requires.place)

pub add_node-requires-clause-pipes : goal.add_node-requires-clause-pipes
add_node-requires-clause-pipes c =
    let key : PhysNodeKey = get_or c.args.order.now c.args.place (record { 0 = 0 }) in
    pipe-room (tree_at c.args.expr_arena.now.items) c.args.phys.now.slots c.args.order.now c.args.place key c.in-Some.node.now c.args.graph.now c.args.keys.now.slots c.requires.sound c.requires.place
    (slice_get-get_or c.args.order.now c.args.place (record { 0 = 0 }) c.requires.place) (sym c.in-Some.ensures) c.requires.before c.as_slice.result.now (record { 0 = 2 ^ 32 - 1 }) (c.as_slice.ensures.value ∙ c.in_ok-inputs.ensures.ports)

pub returns-clause-next : goal.returns-clause-next
returns-clause-next c =
    let key : PhysNodeKey = get_or c.args.order.now c.args.place (record { 0 = 0 }) in
    next-underway (tree_at c.args.expr_arena.now.items) c.args.phys.now.slots c.args.order.now c.args.place key c.in-Some.node.now c.args.graph.now c.args.keys.now.slots c.requires.sound c.requires.place
    (slice_get-get_or c.args.order.now c.args.place (record { 0 = 0 }) c.requires.place) (sym c.in-Some.ensures) c.requires.before c.add_node.new.self c.note.new.keys.slots c.in_ok-compute.compute c.in_ok-number.number (record { 0 = 2 ^ 32 - 1 }) c.as_slice.result.now
    (c.as_slice.ensures.value ∙ c.in_ok-inputs.ensures.ports) c.in_ok-compute.ensures.made c.in_ok-number.ensures.key c.in_ok-number.ensures.nodes c.in_ok-number.ensures.origins c.in_ok-number.ensures.wires c.in_ok-number.ensures.linked c.in_ok-note.ensures.keyed
