use Rattle.std.proofs.Common.{List, ap, subst, sym, ◌∙◌}
use Rattle.ps_frame.specs.Trees.{tree_at}
use Rattle.ps_phys.specs.Shown.{shown}
use Rattle.ps_phys.specs.Underway.{AreThere, numbers_in}
use Rattle.ps_phys.specs.declared.phys.PhysNodeKey.{PhysNodeKey}
use Rattle.graph_parts.specs.Orders.{ordered}
use Rattle.plan_graphs.proofs.Completing.{built-complete}
use Rattle.plan_graphs.proofs.Whole.{all_built, all_keyed, sound_order, starts}
use Rattle.plan_graphs.proofs.graphs.physical_plan_to_graph.Goals as goal

pub add_all-requires-clause-sound : goal.add_all-requires-clause-sound
add_all-requires-clause-sound c =
    let f = tree_at c.args.expr_arena.now.items in
    let P : List PhysNodeKey → Type 0 = λ ks. AreThere c.args.phys_sm.now.slots ks in
    sound_order f c.args.phys_sm.now.slots c.as_slice.result.now c.args.root.0 (ap numbers_in c.as_slice.ensures.value ∙ c.in_ok-order.ensures.order f) (subst P (sym c.as_slice.ensures.value) c.in_ok-order.ensures.there) c.requires.sound c.requires.nodes c.requires.inputs

pub add_all-requires-clause-before : goal.add_all-requires-clause-before
add_all-requires-clause-before c =
    let f = tree_at c.args.expr_arena.now.items in
    starts (ordered f c.args.phys_sm.now.slots c.as_slice.result.now) (numbers_in c.as_slice.result.now) c.in_ok-graph.graph c.new-keys.result.slots c.in_ok-graph.ensures.nodes c.in_ok-graph.ensures.pipes c.in_ok-graph.ensures.linked c.new-keys.ensures

pub returns-clause-built : goal.returns-clause-built
returns-clause-built c =
    let f = tree_at c.args.expr_arena.now.items in
    all_built f c.args.phys_sm.now.slots c.as_slice.result.now c.args.root.0 (ap numbers_in c.as_slice.ensures.value ∙ c.in_ok-order.ensures.order f) c.add_all.new.graph c.add_all.new.keys.slots c.in_ok-add_all.ensures.all

pub returns-clause-linked : goal.returns-clause-linked
returns-clause-linked c = c.in_ok-add_all.ensures.all.linked

pub returns-clause-complete : goal.returns-clause-complete
returns-clause-complete c =
    let f = tree_at c.args.expr_arena.now.items in
    built-complete c.requires.sound.0 (shown f c.args.phys_sm.now.slots c.args.root.0) c.add_all.new.graph c.requires.sound.1
    (all_built f c.args.phys_sm.now.slots c.as_slice.result.now c.args.root.0 (ap numbers_in c.as_slice.ensures.value ∙ c.in_ok-order.ensures.order f) c.add_all.new.graph c.add_all.new.keys.slots c.in_ok-add_all.ensures.all)

pub returns-clause-keys : goal.returns-clause-keys
returns-clause-keys c =
    let f = tree_at c.args.expr_arena.now.items in
    all_keyed f c.args.phys_sm.now.slots c.as_slice.result.now c.args.root.0 (ap numbers_in c.as_slice.ensures.value ∙ c.in_ok-order.ensures.order f) c.add_all.new.graph c.add_all.new.keys.slots c.in_ok-add_all.ensures.all
