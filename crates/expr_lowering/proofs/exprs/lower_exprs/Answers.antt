use Rattle.std.proofs.Common.{ap, refl, subst, sym, ◌∙◌}
use Rattle.std.specs.List.{AllByRecursion}
use Rattle.ps_frame.specs.Trees.{IsComplete, tree_at}
use Rattle.ps_phys.specs.Shown.{stream_of}
use Rattle.lowering_parts.specs.Gathered.{trees_at}
use Rattle.lowering_parts.proofs.Going.{goes_built, goes_nowhere}
use Rattle.expr_lowering.proofs.CallLemmas.{call_adds, call_exprs, call_new_exprs, call_nodes, call_stream}
use Rattle.expr_lowering.proofs.exprs.lower_exprs.Goals as goal

pub together-requires-clause-exprs : goal.together-requires-clause-exprs
together-requires-clause-exprs c =
    subst (AllByRecursion IsComplete) (sym (ap (trees_at (tree_at c.args.expr_arena.now.items)) c.as_slice.ensures.value ∙ c.in_ok-nodes.ensures.trees (tree_at c.args.expr_arena.now.items))) c.requires.whole

pub returns-clause-nodes : goal.returns-clause-nodes
returns-clause-nodes c =
    call_nodes (stream_of c.args.input) c.args.exprs.now c.as_slice.result.now c.as_slice-2.result.now c.in_ok-named.named.items c.args.expr_arena.now.items c.together.new.arena.items c.args.low.now c.together.new.low c.finish.new.low c.in_ok-bundle.bundle c.in_ok-stream.stream
    (ap (trees_at (tree_at c.args.expr_arena.now.items)) c.as_slice.ensures.value ∙ c.in_ok-nodes.ensures.trees (tree_at c.args.expr_arena.now.items)) c.in_ok-bundle.ensures.gathers c.in_ok-stream.ensures.made (c.as_slice-2.ensures.value ∙ c.in_ok-stream.ensures.exprs) c.in_ok-named.ensures.named

pub returns-clause-stream : goal.returns-clause-stream
returns-clause-stream c =
    call_stream (stream_of c.args.input) c.args.exprs.now c.as_slice.result.now c.as_slice-2.result.now c.in_ok-named.named.items c.args.expr_arena.now.items c.together.new.arena.items c.args.low.now c.together.new.low c.finish.new.low c.in_ok-bundle.bundle c.in_ok-stream.stream
    (ap (trees_at (tree_at c.args.expr_arena.now.items)) c.as_slice.ensures.value ∙ c.in_ok-nodes.ensures.trees (tree_at c.args.expr_arena.now.items)) c.in_ok-bundle.ensures.gathers c.in_ok-stream.ensures.made (c.as_slice-2.ensures.value ∙ c.in_ok-stream.ensures.exprs) c.in_ok-named.ensures.named

pub returns-clause-exprs : goal.returns-clause-exprs
returns-clause-exprs c =
    call_exprs (stream_of c.args.input) c.args.exprs.now c.as_slice.result.now c.as_slice-2.result.now c.in_ok-named.named.items c.args.expr_arena.now.items c.together.new.arena.items c.args.low.now c.together.new.low c.finish.new.low c.in_ok-bundle.bundle c.in_ok-stream.stream
    (ap (trees_at (tree_at c.args.expr_arena.now.items)) c.as_slice.ensures.value ∙ c.in_ok-nodes.ensures.trees (tree_at c.args.expr_arena.now.items)) c.in_ok-bundle.ensures.gathers c.in_ok-stream.ensures.made (c.as_slice-2.ensures.value ∙ c.in_ok-stream.ensures.exprs) c.in_ok-named.ensures.named

pub returns-clause-new_exprs : goal.returns-clause-new_exprs
returns-clause-new_exprs c =
    call_new_exprs (stream_of c.args.input) c.args.exprs.now c.as_slice.result.now c.as_slice-2.result.now c.in_ok-named.named.items c.args.expr_arena.now.items c.together.new.arena.items c.args.low.now c.together.new.low c.finish.new.low c.in_ok-bundle.bundle c.in_ok-stream.stream
    (ap (trees_at (tree_at c.args.expr_arena.now.items)) c.as_slice.ensures.value ∙ c.in_ok-nodes.ensures.trees (tree_at c.args.expr_arena.now.items)) c.in_ok-bundle.ensures.gathers c.in_ok-stream.ensures.made (c.as_slice-2.ensures.value ∙ c.in_ok-stream.ensures.exprs) c.in_ok-named.ensures.named

pub returns-clause-inserts : goal.returns-clause-inserts
returns-clause-inserts c =
    call_adds (stream_of c.args.input) c.args.exprs.now c.as_slice.result.now c.as_slice-2.result.now c.in_ok-named.named.items c.args.expr_arena.now.items c.together.new.arena.items c.args.low.now c.together.new.low c.finish.new.low c.in_ok-bundle.bundle c.in_ok-stream.stream
    (ap (trees_at (tree_at c.args.expr_arena.now.items)) c.as_slice.ensures.value ∙ c.in_ok-nodes.ensures.trees (tree_at c.args.expr_arena.now.items)) c.in_ok-bundle.ensures.gathers c.in_ok-stream.ensures.made (c.as_slice-2.ensures.value ∙ c.in_ok-stream.ensures.exprs) c.in_ok-named.ensures.named

pub returns-in_err-nodes-clause-grows : goal.returns-in_err-nodes-clause-grows
returns-in_err-nodes-clause-grows c = goes_nowhere c.args.expr_arena.now.items c.args.low.now c.args.low.now c.requires.cache refl

pub returns-in_err-bundle-clause-grows : goal.returns-in_err-bundle-clause-grows
returns-in_err-bundle-clause-grows c = c.together.ensures.goes_on

pub returns-in_err-stream-clause-grows : goal.returns-in_err-stream-clause-grows
returns-in_err-stream-clause-grows c = goes_built c.args.expr_arena.now.items c.together.new.arena.items c.args.low.now c.together.new.low c.finish.new.low c.together.ensures.goes_on c.finish.ensures.nodes c.finish.ensures.others

pub returns-in_err-named-clause-grows : goal.returns-in_err-named-clause-grows
returns-in_err-named-clause-grows c = goes_built c.args.expr_arena.now.items c.together.new.arena.items c.args.low.now c.together.new.low c.finish.new.low c.together.ensures.goes_on c.finish.ensures.nodes c.finish.ensures.others

pub returns-clause-grows : goal.returns-clause-grows
returns-clause-grows c = goes_built c.args.expr_arena.now.items c.together.new.arena.items c.args.low.now c.together.new.low c.finish.new.low c.together.ensures.goes_on c.finish.ensures.nodes c.finish.ensures.others
