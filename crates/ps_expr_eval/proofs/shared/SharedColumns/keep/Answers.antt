use Rattle.std.specs.BTreeMap.{get}
use Rattle.std.specs.Ordering.{nat_cmp}
use Rattle.ps_expr_eval.proofs.Remembering.{added}
use Rattle.ps_expr_eval.proofs.Walking.{copy-evaluates}
use Rattle.ps_frame.specs.Trees.{tree_at}
use Rattle.ps_expr_eval.proofs.shared.SharedColumns.keep.Goals as goal

pub returns : goal.returns
returns c = λ t a h e. added t a (get nat_cmp c.args.self.now.columns) (get nat_cmp c.put_column.new.columns) c.args.expr.0 c.in_ok-copy.copy c.in_ok-put_column.ensures.others c.in_ok-put_column.ensures.put
    (copy-evaluates t (tree_at a c.args.expr) c.args.column.now c.in_ok-copy.copy c.in_ok-copy.ensures.kind c.in_ok-copy.ensures.cells c.in_ok-copy.ensures.fault e) h
