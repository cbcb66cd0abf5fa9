use Rattle.lowering_trials.proofs.WholeSteps.{aggregates_whole, group_keys_whole, hstack_whole, left_whole, right_whole, select_whole}
use Rattle.lowering_trials.proofs.steps.step_stream.Goals as goal

pub selected-requires-clause-whole : goal.selected-requires-clause-whole
selected-requires-clause-whole c = select_whole c.args.exprs.now.items c.args.step.now c.requires.whole c.in-Select.input c.in-Select.expr c.as_slice-in-Select.result.now c.in-Select.is c.as_slice-in-Select.ensures

pub extended-requires-clause-whole : goal.extended-requires-clause-whole
extended-requires-clause-whole c = hstack_whole c.args.exprs.now.items c.args.step.now c.requires.whole c.in-HStack.input c.in-HStack.further c.in-HStack.is

pub grouped-requires-clause-keys : goal.grouped-requires-clause-keys
grouped-requires-clause-keys c =
    group_keys_whole c.args.exprs.now.items c.args.step.now c.requires.whole c.in-GroupBy.input c.in-GroupBy.keys c.in-GroupBy.aggs c.in-GroupBy.maintain_order c.in-GroupBy.options c.in-GroupBy.is c.as_slice-in-GroupBy-2.result.now c.as_slice-in-GroupBy-2.ensures

pub grouped-requires-clause-aggs : goal.grouped-requires-clause-aggs
grouped-requires-clause-aggs c =
    aggregates_whole c.args.exprs.now.items c.args.step.now c.requires.whole c.in-GroupBy.input c.in-GroupBy.keys c.in-GroupBy.aggs c.in-GroupBy.maintain_order c.in-GroupBy.options c.in-GroupBy.is c.as_slice-in-GroupBy-3.result.now c.as_slice-in-GroupBy-3.ensures

pub joined-requires-clause-left : goal.joined-requires-clause-left
joined-requires-clause-left c = left_whole c.args.exprs.now.items c.args.step.now c.requires.whole c.in-Join.input_left c.in-Join.input_right c.in-Join.left_on c.in-Join.right_on c.in-Join.options c.in-Join.is

pub joined-requires-clause-right : goal.joined-requires-clause-right
joined-requires-clause-right c = right_whole c.args.exprs.now.items c.args.step.now c.requires.whole c.in-Join.input_left c.in-Join.input_right c.in-Join.left_on c.in-Join.right_on c.in-Join.options c.in-Join.is
