-- What the nodes of a graph keep, by the world that it shows.
use Rattle.std.proofs.Common.{◌≡◌, ◌≢◌, ℕ, ◌<◌, Bool, List, length, Option, None, Some, refl, sym, ap, ◌∙◌, arith}
use Rattle.std.specs.Prelude.{slice_get}
use Rattle.std.proofs.lemmas.Option.{slice_get_within}
use Rattle.keyed_slots.specs.Slots.{value_at}
use Rattle.ps_flow.specs.Openings.{IsSink, table_of}
use Rattle.ps_flow.specs.Standing.{Stands, answer_kept, kept_by, seen_as}
use Rattle.ps_flow.specs.declared.world.World.{World as Held}
use Rattle.ps_frame.specs.Tables.{Frame}
use Rattle.ps_graph.proofs.Places.{length_there, value_there}
use Rattle.ps_graph.specs.Shown.{nodes_of, values}
use Rattle.ps_graph.specs.declared.graph.GraphNode.{GraphNode}
use Rattle.ps_meaning.specs.Shape.{PhysicalKind, equi_join, filter_node, group_by_node, in_memory_join, in_memory_map, in_memory_sink, in_memory_source, independent_select, multiplexer, negative_slice, ordered_union, reduce, select_node, simple_projection, stream_map, streaming_slice, with_row_index, zip_node}
use Rattle.ps_options.specs.declared.options.Options.{Options}
use Rattle.ps_settle.proofs.Members.{at_both, item_at, length_map, map_at}
use Rattle.ps_world.specs.World.{Node, World, shape_of}
use Rattle.turn_laws.specs.Updating.{SeenNode}

-- only a sink keeps a table
keeper_is : (kind : PhysicalKind) (x : SeenNode) (t : Frame) → kept_by kind x ≡ Some t → kind ≡ in_memory_sink
keeper_is in_memory_sink x t e = refl
keeper_is (in_memory_source f) x t e = absurd (let clash : None ≡ Some t = e in cc)
keeper_is (select_node exprs extends) x t e = absurd (let clash : None ≡ Some t = e in cc)
keeper_is (with_row_index name offset) x t e = absurd (let clash : None ≡ Some t = e in cc)
keeper_is (independent_select exprs) x t e = absurd (let clash : None ≡ Some t = e in cc)
keeper_is (reduce exprs) x t e = absurd (let clash : None ≡ Some t = e in cc)
keeper_is (streaming_slice offset n) x t e = absurd (let clash : None ≡ Some t = e in cc)
keeper_is (negative_slice back n) x t e = absurd (let clash : None ≡ Some t = e in cc)
keeper_is (filter_node predicate) x t e = absurd (let clash : None ≡ Some t = e in cc)
keeper_is (simple_projection names) x t e = absurd (let clash : None ≡ Some t = e in cc)
keeper_is (in_memory_map step) x t e = absurd (let clash : None ≡ Some t = e in cc)
keeper_is (stream_map step) x t e = absurd (let clash : None ≡ Some t = e in cc)
keeper_is ordered_union x t e = absurd (let clash : None ≡ Some t = e in cc)
keeper_is (zip_node extend) x t e = absurd (let clash : None ≡ Some t = e in cc)
keeper_is multiplexer x t e = absurd (let clash : None ≡ Some t = e in cc)
keeper_is (group_by_node keys aggregates) x t e = absurd (let clash : None ≡ Some t = e in cc)
keeper_is (equi_join j) x t e = absurd (let clash : None ≡ Some t = e in cc)
keeper_is (in_memory_join j) x t e = absurd (let clash : None ≡ Some t = e in cc)

module _ {N : Type 0} (Has : Options → N → SeenNode → Type 0) (w : World) (h : Held N) (stands : Stands Has w h) where
  -- each of the world's nodes stands in the graph
  pub node_of : (k : ℕ) (x : Node) → slice_get w.nodes k ≡ Some x → (node : GraphNode N) × (value_at h.graph.nodes.slots k ≡ Some node)
  node_of k x at =
      let within = slice_get_within w.nodes k x at in
      let long = stands.nodes.long in
      let mapped = length_map (λ (y : GraphNode N). y.compute) (values h.graph.nodes.slots) in
      let node = item_at (values h.graph.nodes.slots) k (omega (arith, within, long, mapped)) in
      (node.0, value_there h.graph.nodes.slots stands.linked.nodes_there k ∙ node.1)

  pub inside_graph : (k : ℕ) (x : Node) → slice_get w.nodes k ≡ Some x → k < length h.graph.nodes.slots
  inside_graph k x at =
      let within = slice_get_within w.nodes k x at in
      let long = stands.nodes.long in
      let mapped = length_map (λ (y : GraphNode N). y.compute) (values h.graph.nodes.slots) in
      let there = length_there h.graph.nodes.slots stands.linked.nodes_there in
      omega (arith, within, long, mapped, there)

  pub seen_slot : (k : ℕ) → k < length h.graph.nodes.slots → (node : GraphNode N) × (value_at h.graph.nodes.slots k ≡ Some node)
  seen_slot k inside =
      let there = length_there h.graph.nodes.slots stands.linked.nodes_there in
      let node = item_at (values h.graph.nodes.slots) k (omega (arith, inside, there)) in
      (node.0, value_there h.graph.nodes.slots stands.linked.nodes_there k ∙ node.1)

  module _ (k : ℕ) (node : GraphNode N) (at : value_at h.graph.nodes.slots k ≡ Some node) where
    there : slice_get (nodes_of h.graph.nodes.slots) k ≡ Some node.compute
    there = map_at (λ (y : GraphNode N). y.compute) (values h.graph.nodes.slots) k node (sym (value_there h.graph.nodes.slots stands.linked.nodes_there k) ∙ at)

    seen_there : (x : Node) × (slice_get w.nodes k ≡ Some x) × ((es : List Bool) × Has w.options node.compute (seen_as (shape_of w) x es))
    seen_there =
        let within = slice_get_within (nodes_of h.graph.nodes.slots) k node.compute there in
        let long = stands.nodes.long in
        let x = item_at w.nodes k (omega (arith, within, long)) in
        (x.0, x.1, stands.nodes.each k x.0 node.compute x.1 there)

    module _ (table : Option Frame) (told : (o : Options) (x : SeenNode) → Has o node.compute x → table ≡ answer_kept x) where
      -- a node without a table is no sink
      pub no_sink : table ≡ None → (x : Node) → slice_get w.nodes k ≡ Some x → x.node.kind ≢ in_memory_sink
      no_sink none x at_x is =
          let seen = seen_there in
          let same : seen.0 ≡ x = at_both w.nodes k seen.0 x seen.1 at_x in
          let kind : seen.0.node.kind ≡ in_memory_sink = ap (λ (y : Node). y.node.kind) same ∙ is in
          absurd (let clash : None ≡ Some (table_of seen.0) = sym none ∙ told w.options (seen_as (shape_of w) seen.0 seen.2.0) seen.2.1 ∙ ap (λ d. kept_by d (seen_as (shape_of w) seen.0 seen.2.0)) kind in cc)

      -- and the table of a node is that of the sink
      pub sink_table : (t : Frame) → table ≡ Some t → (n : ℕ) (x : Node) → IsSink w n x → t ≡ table_of x
      sink_table t is n x sink =
          let seen = seen_there in
          let kept : Some t ≡ kept_by seen.0.node.kind (seen_as (shape_of w) seen.0 seen.2.0) = sym is ∙ told w.options (seen_as (shape_of w) seen.0 seen.2.0) seen.2.1 in
          let kind = keeper_is seen.0.node.kind (seen_as (shape_of w) seen.0 seen.2.0) t (sym kept) in
          let here : k ≡ n = sink.only k seen.0 seen.1 kind in
          let same : seen.0 ≡ x = at_both w.nodes k seen.0 x seen.1 (ap (slice_get w.nodes) here ∙ sink.there) in
          let table : t ≡ table_of seen.0 = (let both : Some t ≡ Some (table_of seen.0) = kept ∙ ap (λ d. kept_by d (seen_as (shape_of w) seen.0 seen.2.0)) kind in cc) in
          table ∙ ap table_of same
