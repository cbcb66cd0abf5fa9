-- What stands for the parts of a world, each looked at by itself.
use Rattle.std.proofs.Common.{◌≡◌, ◌∙◌, ◌<◌, ◌^◌, length, sym, ap, subst}
use Rattle.ps_flow.specs.Standing.{Stands, setting_of}
use Rattle.ps_flow.specs.declared.world.World.{World as Held}
use Rattle.ps_graph.proofs.Places.{length_there}
use Rattle.ps_graph.specs.Shown.{IsLinked, values, wires_of}
use Rattle.ps_graph.specs.declared.graph.Graph.{Graph}
use Rattle.ps_graph.specs.declared.graph.GraphNode.{GraphNode}
use Rattle.ps_options.specs.declared.options.Options.{Options}
use Rattle.ps_outs.specs.Out.{AreOut}
use Rattle.ps_outs.specs.declared.outs.Outs.{Outs}
use Rattle.ps_settle.proofs.Members.{length_map}
use Rattle.ps_world.specs.World.{World, shape_of, wires_of as world_wires}
use Rattle.turn_laws.specs.Updating.{SeenNode}
use Rattle.world_pipes.specs.Shown.{AreShown}
use Rattle.world_pipes.specs.declared.pipes.Pipes.{Pipes}

module _ {N : Type 0} (Has : Options → N → SeenNode → Type 0) (w : World) (h : Held N) (stands : Stands Has w h) where
  pub graph_linked : (g : Graph N) → g ≡ h.graph → IsLinked g
  graph_linked g same = subst (λ (x : Graph N). IsLinked x) (sym same) stands.linked

  pub graph_wires : (g : Graph N) → g ≡ h.graph → wires_of g.pipes.slots ≡ world_wires w
  graph_wires g same = ap (λ (x : Graph N). wires_of x.pipes.slots) same ∙ stands.wires

  pub pipes_shown : (ps : Pipes) → ps ≡ h.pipes → AreShown (setting_of (shape_of w) w.options) w.pipes ps
  pipes_shown ps same = subst (AreShown (setting_of (shape_of w) w.options) w.pipes) (sym same) stands.pipes

  pub outs_out : (o : Outs) → o ≡ h.outs → AreOut w.options.workers w.outs o
  outs_out o same = subst (AreOut w.options.workers w.outs) (sym same) stands.outs

  -- as many nodes as the graph has
  pub nodes_many : (g : Graph N) → g ≡ h.graph → length w.nodes ≡ length g.nodes.slots
  nodes_many g same =
      sym stands.nodes.long ∙ length_map (λ (x : GraphNode N). x.compute) (values h.graph.nodes.slots) ∙ length_there h.graph.nodes.slots stands.linked.nodes_there
      ∙ ap (λ (x : Graph N). length x.nodes.slots) (sym same)

pub few_nodes : {N : Type 0} (h : Held N) (g : Graph N) → g ≡ h.graph → IsLinked h.graph → length g.nodes.slots < 2 ^ 32
few_nodes {N} h g same linked = subst (λ (x : Graph N). length x.nodes.slots < 2 ^ 32) (sym same) linked.few_nodes
