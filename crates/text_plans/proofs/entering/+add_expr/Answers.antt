use Rattle.std.proofs.Common.{◌∙◌, ap, sym}
use Rattle.std.proofs.lemmas.Result.{IfOk-weaker}
use Rattle.ps_frame.specs.Trees.{Tree}
use Rattle.text_plans.proofs.Wholes.{entered-stays, entered-whole}
use Rattle.text_plans.specs.QueryPlans.{expr_tree}
use Rattle.text_queries.specs.Views.{expr_of}
use Rattle.text_queries.specs.declared.query.TextExpr.{TextExpr}
use Rattle.text_plans.proofs.entering.+add_expr.Goals as goal

pub add_call-requires : goal.add_call-requires
add_call-requires t c = entered-whole c.add_expr.new.into.items c.in_ok-input-in-Call.input (expr_of c.deref.result.now) c.in_ok-input-in-Call.ensures.tree

pub add-requires-in-Binary : goal.add-requires-in-Binary
add-requires-in-Binary t c = (
  entered-whole c.add_expr-in-Binary-2.new.into.items c.in_ok-left-in-Binary.left (expr_of c.deref-in-Binary.result.now)
      (entered-stays c.add_expr-in-Binary.new.into.items c.add_expr-in-Binary-2.new.into.items c.in_ok-left-in-Binary.left (expr_of c.deref-in-Binary.result.now) c.in_ok-right-in-Binary.ensures.kept c.in_ok-left-in-Binary.ensures.tree),
  entered-whole c.add_expr-in-Binary-2.new.into.items c.in_ok-right-in-Binary.right (expr_of c.deref-in-Binary-2.result.now) c.in_ok-right-in-Binary.ensures.tree,
)

pub returns-in_ok-right-in-Binary-clause-tree : goal.returns-in_ok-right-in-Binary-clause-tree
returns-in_ok-right-in-Binary-clause-tree t c =
    let left = entered-stays c.add_expr-in-Binary.new.into.items c.add_expr-in-Binary-2.new.into.items c.in_ok-left-in-Binary.left (expr_of c.deref-in-Binary.result.now) c.in_ok-right-in-Binary.ensures.kept c.in_ok-left-in-Binary.ensures.tree in
    IfOk-weaker c.add-in-Binary.result _ _
    (λ n e.
    e
    ∙ (λ i. Tree.binary c.in-Binary.op (left i) (c.in_ok-right-in-Binary.ensures.tree i))
    ∙ (λ i. Tree.binary c.in-Binary.op (expr_tree (expr_of (c.deref-in-Binary.ensures i))) (expr_tree (expr_of (c.deref-in-Binary-2.ensures i))))
    ∙ sym (ap (λ (x : TextExpr). expr_tree (expr_of x)) c.in-Binary.is))
    c.add-in-Binary.ensures.tree
