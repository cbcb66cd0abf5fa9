-- What each operation asks of its parameters, and what it gives or fails by, as that of the step.
use Rattle.std.proofs.Common.{◌∙◌, ◌+◌, List, Some, ap, subst, sym}
use Rattle.std.specs.Prelude.{unwrap_or}
use Rattle.std.specs.List.{AllByRecursion}
use Rattle.std.proofs.lemmas.Result.{IfErr-weaker, IfOk-weaker}
use Rattle.ps_frame.specs.Trees.{IsComplete, tree_at}
use Rattle.ps_meaning.specs.Steps.{Name, filter, hstack, key_trees, named_trees, project, row_index, select}
use Rattle.ps_meaning.specs.declared.options.ExprIR.{ExprIR}
use Rattle.ps_pieces.specs.Operations.{step_computed, step_in}
use Rattle.ps_pieces.proofs.Fitting.{alone-whole, fails-by, filter-whole, gives-by, hstack-whole, index-schema, select-whole}
use Rattle.ps_pieces.proofs.computed.computed.Goals as goal

pub selected-requires-clause-expressions : goal.selected-requires-clause-expressions
selected-requires-clause-expressions g c =
    let F = g.F.Functions.told c.args.functions.now in
    subst (λ (es : List ExprIR). AllByRecursion IsComplete (key_trees (tree_at c.args.parameters.now.exprs.items) es)) (sym c.as_slice.ensures.value)
    (select-whole F c.args.parameters.now c.args.before c.args.table.now c.requires.fit c.in-Select.selectors c.in-Select.is)

pub stacked-requires-clause-expressions : goal.stacked-requires-clause-expressions
stacked-requires-clause-expressions g c =
    let F = g.F.Functions.told c.args.functions.now in
    subst (λ (es : List ExprIR). AllByRecursion IsComplete (key_trees (tree_at c.args.parameters.now.exprs.items) es)) (sym c.as_slice-in-HStack.ensures.value)
    (hstack-whole F c.args.parameters.now c.args.before c.args.table.now c.requires.fit c.in-HStack.selectors c.in-HStack.is)

pub selected-requires-in-IndependentSelect-clause-expressions : goal.selected-requires-in-IndependentSelect-clause-expressions
selected-requires-in-IndependentSelect-clause-expressions g c =
    let F = g.F.Functions.told c.args.functions.now in
    subst (λ (es : List ExprIR). AllByRecursion IsComplete (key_trees (tree_at c.args.parameters.now.exprs.items) es)) (sym c.as_slice-in-IndependentSelect.ensures.value)
    (alone-whole F c.args.parameters.now c.args.before c.args.table.now c.requires.fit c.in-IndependentSelect.selectors c.in-IndependentSelect.is)

pub filtered-requires-clause-expression : goal.filtered-requires-clause-expression
filtered-requires-clause-expression g c =
    filter-whole (g.F.Functions.told c.args.functions.now) c.args.parameters.now c.args.before c.args.table.now c.requires.fit c.in-Filter.predicate c.in-Filter.is

pub returns-in-Select-clause-table : goal.returns-in-Select-clause-table
returns-in-Select-clause-table g c =
    let trees = tree_at c.args.parameters.now.exprs.items in
    gives-by (g.F.Functions.told c.args.functions.now) c.args.parameters.now.origin.0 c.args.table.now c.selected.result (select (named_trees trees c.as_slice.result.now)) (step_computed c.args.parameters.now c.args.before)
    (ap (λ (es : List ExprIR). select (named_trees trees es)) c.as_slice.ensures.value ∙ ap (step_in trees c.args.before) (sym c.in-Select.is)) c.selected.ensures.table

pub returns-in-Select-clause-fault : goal.returns-in-Select-clause-fault
returns-in-Select-clause-fault g c =
    let trees = tree_at c.args.parameters.now.exprs.items in
    fails-by (g.F.Functions.told c.args.functions.now) c.args.parameters.now.origin.0 c.args.table.now c.selected.result (select (named_trees trees c.as_slice.result.now)) (step_computed c.args.parameters.now c.args.before)
    (ap (λ (es : List ExprIR). select (named_trees trees es)) c.as_slice.ensures.value ∙ ap (step_in trees c.args.before) (sym c.in-Select.is)) c.selected.ensures.fault

pub returns-in-HStack-clause-table : goal.returns-in-HStack-clause-table
returns-in-HStack-clause-table g c =
    let trees = tree_at c.args.parameters.now.exprs.items in
    gives-by (g.F.Functions.told c.args.functions.now) c.args.parameters.now.origin.0 c.args.table.now c.stacked.result (hstack (named_trees trees c.as_slice-in-HStack.result.now)) (step_computed c.args.parameters.now c.args.before)
    (ap (λ (es : List ExprIR). hstack (named_trees trees es)) c.as_slice-in-HStack.ensures.value ∙ ap (step_in trees c.args.before) (sym c.in-HStack.is)) c.stacked.ensures.table

pub returns-in-HStack-clause-fault : goal.returns-in-HStack-clause-fault
returns-in-HStack-clause-fault g c =
    let trees = tree_at c.args.parameters.now.exprs.items in
    fails-by (g.F.Functions.told c.args.functions.now) c.args.parameters.now.origin.0 c.args.table.now c.stacked.result (hstack (named_trees trees c.as_slice-in-HStack.result.now)) (step_computed c.args.parameters.now c.args.before)
    (ap (λ (es : List ExprIR). hstack (named_trees trees es)) c.as_slice-in-HStack.ensures.value ∙ ap (step_in trees c.args.before) (sym c.in-HStack.is)) c.stacked.ensures.fault

pub returns-in-IndependentSelect-clause-table : goal.returns-in-IndependentSelect-clause-table
returns-in-IndependentSelect-clause-table g c =
    let trees = tree_at c.args.parameters.now.exprs.items in
    gives-by (g.F.Functions.told c.args.functions.now) c.args.parameters.now.origin.0 c.args.table.now c.selected-in-IndependentSelect.result (select (named_trees trees c.as_slice-in-IndependentSelect.result.now)) (step_computed c.args.parameters.now c.args.before)
    (ap (λ (es : List ExprIR). select (named_trees trees es)) c.as_slice-in-IndependentSelect.ensures.value ∙ ap (step_in trees c.args.before) (sym c.in-IndependentSelect.is)) c.selected-in-IndependentSelect.ensures.table

pub returns-in-IndependentSelect-clause-fault : goal.returns-in-IndependentSelect-clause-fault
returns-in-IndependentSelect-clause-fault g c =
    let trees = tree_at c.args.parameters.now.exprs.items in
    fails-by (g.F.Functions.told c.args.functions.now) c.args.parameters.now.origin.0 c.args.table.now c.selected-in-IndependentSelect.result (select (named_trees trees c.as_slice-in-IndependentSelect.result.now)) (step_computed c.args.parameters.now c.args.before)
    (ap (λ (es : List ExprIR). select (named_trees trees es)) c.as_slice-in-IndependentSelect.ensures.value ∙ ap (step_in trees c.args.before) (sym c.in-IndependentSelect.is)) c.selected-in-IndependentSelect.ensures.fault

pub returns-in-Filter-clause-table : goal.returns-in-Filter-clause-table
returns-in-Filter-clause-table g c =
    let trees = tree_at c.args.parameters.now.exprs.items in
    gives-by (g.F.Functions.told c.args.functions.now) c.args.parameters.now.origin.0 c.args.table.now c.filtered.result (filter (trees c.in-Filter.predicate.node)) (step_computed c.args.parameters.now c.args.before)
    (ap (step_in trees c.args.before) (sym c.in-Filter.is)) c.filtered.ensures.table

pub returns-in-Filter-clause-fault : goal.returns-in-Filter-clause-fault
returns-in-Filter-clause-fault g c =
    let trees = tree_at c.args.parameters.now.exprs.items in
    fails-by (g.F.Functions.told c.args.functions.now) c.args.parameters.now.origin.0 c.args.table.now c.filtered.result (filter (trees c.in-Filter.predicate.node)) (step_computed c.args.parameters.now c.args.before)
    (ap (step_in trees c.args.before) (sym c.in-Filter.is)) c.filtered.ensures.fault

pub returns-in-SimpleProjection-clause-table : goal.returns-in-SimpleProjection-clause-table
returns-in-SimpleProjection-clause-table g c =
    let trees = tree_at c.args.parameters.now.exprs.items in
    gives-by (g.F.Functions.told c.args.functions.now) c.args.parameters.now.origin.0 c.args.table.now c.projected.result (project c.as_slice-in-SimpleProjection.result.now) (step_computed c.args.parameters.now c.args.before)
    (ap (λ (ns : List Name). project ns) c.as_slice-in-SimpleProjection.ensures.value ∙ ap (step_in trees c.args.before) (sym c.in-SimpleProjection.is))
    (IfOk-weaker c.projected.result _ _ (λ f h F. h F c.args.parameters.now.origin.0) c.projected.ensures.table)

pub returns-in-SimpleProjection-clause-fault : goal.returns-in-SimpleProjection-clause-fault
returns-in-SimpleProjection-clause-fault g c =
    let trees = tree_at c.args.parameters.now.exprs.items in
    fails-by (g.F.Functions.told c.args.functions.now) c.args.parameters.now.origin.0 c.args.table.now c.projected.result (project c.as_slice-in-SimpleProjection.result.now) (step_computed c.args.parameters.now c.args.before)
    (ap (λ (ns : List Name). project ns) c.as_slice-in-SimpleProjection.ensures.value ∙ ap (step_in trees c.args.before) (sym c.in-SimpleProjection.is))
    (IfErr-weaker c.projected.result _ _ (λ e h F. h F c.args.parameters.now.origin.0) c.projected.ensures.fault)

pub returns-in-WithRowIndex-clause-table : goal.returns-in-WithRowIndex-clause-table
returns-in-WithRowIndex-clause-table g c =
    let trees = tree_at c.args.parameters.now.exprs.items in
    gives-by (g.F.Functions.told c.args.functions.now) c.args.parameters.now.origin.0 c.args.table.now c.numbered.result (row_index c.in-WithRowIndex.name (Some (unwrap_or c.in-WithRowIndex.offset 0 + c.args.before))) (step_computed c.args.parameters.now c.args.before)
    (ap (step_in trees c.args.before) (sym c.in-WithRowIndex.is))
    (IfOk-weaker c.numbered.result _ _ (λ f h F. h F c.in-WithRowIndex.name (index-schema (g.F.Functions.told c.args.functions.now) c.args.parameters.now c.args.before c.args.table.now c.requires.fit c.in-WithRowIndex.name c.in-WithRowIndex.offset c.in-WithRowIndex.is)) c.numbered.ensures.table)

pub returns-in-WithRowIndex-clause-fault : goal.returns-in-WithRowIndex-clause-fault
returns-in-WithRowIndex-clause-fault g c =
    let trees = tree_at c.args.parameters.now.exprs.items in
    fails-by (g.F.Functions.told c.args.functions.now) c.args.parameters.now.origin.0 c.args.table.now c.numbered.result (row_index c.in-WithRowIndex.name (Some (unwrap_or c.in-WithRowIndex.offset 0 + c.args.before))) (step_computed c.args.parameters.now c.args.before)
    (ap (step_in trees c.args.before) (sym c.in-WithRowIndex.is))
    (IfErr-weaker c.numbered.result _ _ (λ e h F. h F c.in-WithRowIndex.name) c.numbered.ensures.fault)
