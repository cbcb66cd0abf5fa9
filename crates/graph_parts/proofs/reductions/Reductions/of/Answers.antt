use Rattle.std.proofs.Common.{◌≡◌, List, subst, sym}
use Rattle.std.specs.Prelude.{IfOk, map}
use Rattle.std.specs.List.{AllByRecursion}
use Rattle.ps_frame.specs.Trees.{IsComplete, tree_at}
use Rattle.ps_meaning.specs.Schemas.{expr_names}
use Rattle.ps_meaning.specs.Sound.{IsReduction}
use Rattle.ps_meaning.specs.Steps.{key_trees, named_trees}
use Rattle.ps_meaning.specs.declared.options.ExprIR.{ExprIR}
use Rattle.plain_nodes.specs.Exprs.{expr_shown}
use Rattle.plain_nodes.specs.Reductions.{reduced}
use Rattle.graph_parts.proofs.reductions.Reductions.of.Goals as goal

pub of_each-requires-clause-complete : goal.of_each-requires-clause-complete
of_each-requires-clause-complete c = subst (λ (es : List ExprIR). AllByRecursion IsComplete (key_trees (tree_at c.args.arena.now.items) es)) (sym c.as_slice.ensures) c.requires.complete

pub of_each-requires-clause-reductions : goal.of_each-requires-clause-reductions
of_each-requires-clause-reductions c = subst (λ (es : List ExprIR). AllByRecursion IsReduction (key_trees (tree_at c.args.arena.now.items) es)) (sym c.as_slice.ensures) c.requires.reductions

pub returns-clause-shown : goal.returns-clause-shown
returns-clause-shown c =
    subst (λ (es : List ExprIR). IfOk c.of_each.result (λ r. reduced (expr_names (named_trees (tree_at c.args.arena.now.items) es)) (map expr_shown r.selectors.items) r.reductions.items ≡ named_trees (tree_at c.args.arena.now.items) es)) c.as_slice.ensures c.of_each.ensures.shown
