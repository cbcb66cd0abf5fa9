use Rattle.std.proofs.Common.{◌≡◌, List, subst, sym}
use Rattle.std.specs.Prelude.{IfOk, map}
use Rattle.std.specs.List.{AllByRecursion}
use Rattle.ps_frame.specs.Trees.{IsComplete, tree_at}
use Rattle.ps_meaning.specs.Steps.{key_trees, named_trees}
use Rattle.ps_meaning.specs.declared.options.ExprIR.{ExprIR}
use Rattle.plain_nodes.specs.Exprs.{expr_shown}
use Rattle.graph_parts.proofs.columns.copied.Goals as goal

pub each_copied-requires : goal.each_copied-requires
each_copied-requires c = subst (λ (es : List ExprIR). AllByRecursion IsComplete (key_trees (tree_at c.args.arena.now.items) es)) (sym c.as_slice.ensures) c.requires

pub returns-clause-shown : goal.returns-clause-shown
returns-clause-shown c = subst (λ (es : List ExprIR). IfOk c.each_copied.result (λ copies. map expr_shown copies.items ≡ named_trees (tree_at c.args.arena.now.items) es)) c.as_slice.ensures c.each_copied.ensures.shown
