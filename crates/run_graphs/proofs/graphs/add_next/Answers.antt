-- The node at the place, with the schema there, became the last one.
use Rattle.std.proofs.Common.{◌∙◌, ℕ, Option, Some, ap, subst, sym}
use Rattle.std.specs.Prelude.{slice_get}
use Rattle.keyed_slots.specs.Slots.{value_at}
use Rattle.ps_frame.specs.Tables.{Fields}
use Rattle.ps_graph.specs.declared.graph.GraphNode.{GraphNode}
use Rattle.ps_graph.specs.declared.key.GraphNodeKey.{GraphNodeKey}
use Rattle.ps_nodes.specs.declared.flow.FlowNode.{FlowNode}
use Rattle.run_graphs.proofs.Becoming.{item_found}
use Rattle.run_graphs.proofs.graphs.add_next.Goals as goal
use Rattle.run_graphs.specs.Runs.{IsNextIn}

pub returns-in-Ok-insert-clause-next : goal.returns-in-Ok-insert-clause-next
returns-in-Ok-insert-clause-next c =
    let made = c.args.made.now.slots in
    let after = c.insert.new.self.slots in
    let there = c.in-Some.ensures.value ∙ ap (λ (k : ℕ). value_at c.args.nodes.now.slots k) (ap (λ (k : GraphNodeKey). k.0) c.from_number-key.ensures) in
    let schema = item_found c.args.schemas.now c.args.place c.index-schemas-place.result c.requires.place c.index-schemas-place.is in
    subst (λ (x : Option (GraphNode FlowNode)). IsNextIn x (slice_get c.args.schemas.now c.args.place) made after) there (
    subst (λ (y : Option Fields). IsNextIn (Some c.in-Some.node) y made after) (sym schema) (c.in-Ok.node, c.in-Ok.ensures.runs, c.in-Ok-insert.ensures.added)
    )
