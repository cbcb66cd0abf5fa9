use Rattle.std.proofs.Common.{ap, refl, subst, sym, ◌∙◌}
use Rattle.std.specs.List.{AllByRecursion}
use Rattle.ps_frame.specs.Trees.{IsComplete, tree_at}
use Rattle.ps_phys.specs.Shown.{stream_of}
use Rattle.lowering_parts.specs.Gathered.{trees_at}
use Rattle.lowering_parts.proofs.Going.{goes_nowhere}
use Rattle.expr_lowering.proofs.CallLemmas.{asked_count, select_inserted, select_makes}
use Rattle.expr_lowering.proofs.exprs.build_select_stream.Goals as goal

pub select-requires-clause-exprs : goal.select-requires-clause-exprs
select-requires-clause-exprs c =
    subst (AllByRecursion IsComplete) (sym (ap (trees_at (tree_at c.args.expr_arena.now.items)) c.as_slice.ensures.value ∙ c.in_ok-nodes.ensures.trees (tree_at c.args.expr_arena.now.items))) c.requires.whole

pub returns-clause-makes : goal.returns-clause-makes
returns-clause-makes c =
    select_makes (stream_of c.args.input) c.args.exprs.now c.as_slice.result.now c.in_ok-names.names.items c.args.expr_arena.now.items c.select.new.arena.items c.args.low.now c.select.new.low
    (ap (trees_at (tree_at c.args.expr_arena.now.items)) c.as_slice.ensures.value ∙ c.in_ok-nodes.ensures.trees (tree_at c.args.expr_arena.now.items)) c.in_ok-names.ensures.names c.select.result c.select.ensures.makes

pub returns-clause-inserts : goal.returns-clause-inserts
returns-clause-inserts c =
    select_inserted (stream_of c.args.input) c.args.exprs.now c.as_slice.result.now c.in_ok-names.names.items c.args.expr_arena.now.items c.select.new.arena.items c.args.low.now c.select.new.low
    (ap (trees_at (tree_at c.args.expr_arena.now.items)) c.as_slice.ensures.value ∙ c.in_ok-nodes.ensures.trees (tree_at c.args.expr_arena.now.items)) c.in_ok-names.ensures.names c.select.result c.select.ensures.makes

pub returns-in_err-nodes-clause-grows : goal.returns-in_err-nodes-clause-grows
returns-in_err-nodes-clause-grows c = goes_nowhere c.args.expr_arena.now.items c.args.low.now c.args.low.now c.requires.cache refl

pub returns-in_err-names-clause-grows : goal.returns-in_err-names-clause-grows
returns-in_err-names-clause-grows c = goes_nowhere c.args.expr_arena.now.items c.args.low.now c.args.low.now c.requires.cache refl

pub returns-clause-grows : goal.returns-clause-grows
returns-clause-grows c = c.select.ensures.goes_on

pub select-requires-clause-names : goal.select-requires-clause-names
select-requires-clause-names c =
    asked_count (tree_at c.args.expr_arena.now.items) c.args.exprs.now c.as_slice.result.now c.in_ok-names.names.items (ap (trees_at (tree_at c.args.expr_arena.now.items)) c.as_slice.ensures.value ∙ c.in_ok-nodes.ensures.trees (tree_at c.args.expr_arena.now.items)) c.in_ok-names.ensures.names
