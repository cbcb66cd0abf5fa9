use Rattle.ps_frame.specs.Trees.{tree_at}
use Rattle.ps_owned_maps.specs.Owned.{step_of}
use Rattle.plan_graphs.proofs.Making.{map_made}
use Rattle.keyed_slots.specs.Slots.{value_at}
use Rattle.ps_meaning.specs.Maps.{map_step}
use Rattle.ps_phys.specs.Shown.{stream_of}
use Rattle.graph_parts.specs.Read.{slot_schema}
use Rattle.plan_graphs.proofs.kinds.map.Goals as goal

pub returns-clause-made : goal.returns-clause-made
returns-clause-made c =
    λ s.
    let f = tree_at c.args.arena.now.items in
    map_made (map_step f c.args.map.now) (step_of c.in_ok-map.map) s (slot_schema (value_at c.args.phys.now.slots (stream_of c.args.input).0)) c.in_ok-schema.schema c.new-node.result c.in_ok-map.ensures.same c.in_ok-schema.ensures.schema c.new-node.ensures.new
    (c.new-node.ensures.cut, c.new-node.ensures.waits)
