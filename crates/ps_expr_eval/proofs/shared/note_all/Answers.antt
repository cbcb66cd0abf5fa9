use Rattle.std.proofs.Common.{◌∙◌, ap}
use Rattle.pu_base.specs.declared.arena.Node.{Node}
use Rattle.ps_expr_eval.proofs.Taking.{complete-at, noted, noted-within, noting-none, passed}
use Rattle.ps_frame.specs.Trees.{tree_at}
use Rattle.ps_expr_eval.proofs.shared.note_all.Goals as goal
use Rattle.ps_expr_eval.proofs.shared.note_all.Goals.{then-takes-gt0+in_ok-is_first_reader+then-branch+in_ok-push, else-takes-gt0}

pub loop-node-init : goal.loop-node-init
loop-node-init c = noting-none (tree_at c.args.arena.now.items) c.args.nodes.now c.args.left.now.items c.requires.left

pub entry-requires : goal.entry-requires
entry-requires c =
    let d : Node = record { 0 = 0 } in
    complete-at (tree_at c.args.arena.now.items) c.args.nodes.now c.loop-node.node-index d c.loop-node-test.true c.requires.nodes

pub loop-node-preserved : goal.loop-node-preserved
loop-node-preserved c =
    let tree = tree_at c.args.arena.now.items in
    let d : Node = record { 0 = 0 } in
    let ns = c.args.nodes.now in
    elim c.if-takes-gt0.branch [
      | then-takes-gt0+in_ok-is_first_reader+then-branch+in_ok-push w ↦ noted tree ns c.loop-node.node-index d c.args.left.now.items c.loop-node.left.items c.if-takes-gt0.left.items c.loop-node-test.true c.requires.nodes (ap (λ v. v.items) w.left-is ∙ w.in_ok-push.ensures.items) c.loop-node.invariant
      | else-takes-gt0 w ↦ passed tree ns c.loop-node.node-index d c.args.left.now.items c.loop-node.left.items c.if-takes-gt0.left.items c.loop-node-test.true (ap (λ v. v.items) w.left-is) c.loop-node.invariant
    ]

pub returns-clause-complete : goal.returns-clause-complete
returns-clause-complete c = c.loop-node.invariant.complete

pub returns-clause-more : goal.returns-clause-more
returns-clause-more c = noted-within (tree_at c.args.arena.now.items) c.args.nodes.now c.loop-node.node-index c.args.left.now.items c.loop-node.left.items c.loop-node.invariant
