use Rattle.std.specs.BTreeMap.{get}
use Rattle.std.specs.Ordering.{nat_cmp}
use Rattle.std.specs.Prelude.{Some}
use Rattle.ps_expr_eval.proofs.Remembering.{known-here, removed}
use Rattle.ps_expr_eval.proofs.Walking.{copy-evaluates}
use Rattle.ps_frame.specs.Trees.{tree_at}
use Rattle.ps_expr_eval.proofs.shared.SharedColumns.take.Goals as goal

pub returns-then-left-lt2-clause-found : goal.returns-then-left-lt2-clause-found
returns-then-left-lt2-clause-found c = λ t a h. known-here t a (get nat_cmp c.args.self.now.columns) c.args.expr c.take_column.result c.take_column.ensures.value h

pub returns-then-left-lt2-clause-kept : goal.returns-then-left-lt2-clause-kept
returns-then-left-lt2-clause-kept c = λ t a h. removed t a (get nat_cmp c.args.self.now.columns) (get nat_cmp c.take_column.new.columns) c.args.expr.0 c.take_column.ensures.others c.take_column.ensures.gone h

pub returns-in_ok-insert-in-Some-clause-found : goal.returns-in_ok-insert-in-Some-clause-found
returns-in_ok-insert-in-Some-clause-found c = λ t a h. copy-evaluates t (tree_at a c.args.expr) c.in-Some.column.now c.in_ok-copy-in-Some.copy c.in_ok-copy-in-Some.ensures.kind c.in_ok-copy-in-Some.ensures.cells c.in_ok-copy-in-Some.ensures.fault (known-here t a (get nat_cmp c.args.self.now.columns) c.args.expr (Some c.in-Some.column.now) c.in-Some.ensures h)
