use Rattle.std.proofs.Common.{◌∙◌}
use Rattle.ps_frame.specs.Trees.{tree_at}
use Rattle.ps_owned_maps.proofs.FieldSteps.{fields-more}
use Rattle.ps_copies.proofs.NamedCopies.{complete-at}
use Rattle.ps_owned_maps.proofs.fields.push_fields.Goals as goal

pub expr_kind-requires : goal.expr_kind-requires
expr_kind-requires c = complete-at (tree_at c.args.arena.now.items) c.args.exprs.now c.loop-expr.expr-index c.expr-item.result c.loop-expr-test.true c.expr-item.is c.requires

pub loop-expr-preserved : goal.loop-expr-preserved
loop-expr-preserved c =
    λ before h.
    fields-more (tree_at c.args.arena.now.items) c.args.input.now c.args.exprs.now c.loop-expr.expr-index c.expr-item.result c.loop-expr-test.true c.expr-item.is c.loop-expr.schema c.push.new.self c.in-Ok-try_clone.name c.in-Ok.dtype (c.in-Ok-try_clone.ensures.same ∙ c.name_of.ensures) c.in-Ok.ensures.kind c.in-Ok-push.ensures.added before (c.loop-expr.invariant before h)
