use Rattle.std.proofs.Common.{◌∷◌, ◌∙◌, ap, sym}
use Rattle.ps_expr_eval.specs.Lengths.{ending_fault}
use Rattle.ps_expr_eval.proofs.LaneRows.{sorted-early}
use Rattle.ps_expr_eval.proofs.sort_by.sorted_parts.Goals as goal

pub returns-in-Some-clause-cells : goal.returns-in-Some-clause-cells
returns-in-Some-clause-cells c =
    sorted-early c.args.directions.now (c.args.input.now ∷ c.args.keys.now) _ c.in-Some.fault
    (sym (c.early_fault.ensures ∙ ap ending_fault (c.as_slice-2.ensures.value ∙ c.in_ok-endings.ensures)) ∙ c.in-Some.is) c.computed_ended.ensures.cells c.computed_ended.ensures.fault
