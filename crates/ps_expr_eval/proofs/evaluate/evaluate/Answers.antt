use Rattle.ps_frame.specs.Eval.{eval}
use Rattle.ps_frame.specs.Tables.{whole}
use Rattle.ps_frame.specs.Trees.{tree_at}
use Rattle.std.proofs.Common.{◌∙◌, ap, sym}
use Rattle.std.specs.Prelude.{Some}
use Rattle.std.proofs.lemmas.Result.{IfOk-weaker}
use Rattle.ps_expr_eval.proofs.evaluate.evaluate.Goals as goal

pub returns-in-Ok-clause-stands : goal.returns-in-Ok-clause-stands
returns-in-Ok-clause-stands c = IfOk-weaker c.evaluated.result _ _ (λ e h node. h (eval node (whole c.args.df.now) (tree_at c.args.arena.now.items c.args.expr)) (c.in-Ok.ensures.keeps node)) c.evaluated.ensures.stands

pub returns-in-Ok-clause-kind : goal.returns-in-Ok-clause-kind
returns-in-Ok-clause-kind c = IfOk-weaker c.evaluated.result _ _ (λ e same. c.in-Ok.ensures.kind ∙ ap Some (sym same)) c.evaluated.ensures.kind
