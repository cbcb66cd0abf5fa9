use Rattle.std.proofs.Common.{◌≡◌, ◌+◌, List, [], ◌∷◌, arith, inl, inr, refl, sym, subst, ◌∙◌, ap}
use Rattle.std.specs.List.{AllByRecursion}
use Rattle.std.specs.Prelude.{◌⊎◌, IfErr, None, Option, Result, Some, ℤ, ℕ}
use Rattle.ps_frame.specs.Functions.{Functions}
use Rattle.ps_frame.specs.Tables.{Fields}
use Rattle.ps_frame.specs.Trees.{IsComplete, Tree, tree_at}
use Rattle.ps_frame.specs.declared.refusal.PolarsError.{PolarsError}
use Rattle.pu_base.specs.declared.arena.Node.{Node}
use Rattle.ps_meaning.specs.PlanTrees.{all_sizes}
use Rattle.ps_meaning.specs.Steps.{Name, Step, cache, distinct, exprs_of, filter, group_step, hconcat, hstack, join, key_trees, named_trees, project, row_index, scan, select, sink, slice, sort, sort_step, step_exprs, union}
use Rattle.ps_plan.specs.Entries.{entry_inputs, entry_step}
use Rattle.ps_meaning.specs.declared.options.DistinctOptions.{DistinctOptions}
use Rattle.ps_meaning.specs.declared.options.ExprIR.{ExprIR}
use Rattle.ps_meaning.specs.declared.options.FunctionIR.TheVariants as call
use Rattle.ps_plan.specs.declared.ir.IR.{IR}
use Rattle.ps_plan.specs.declared.ir.IR.TheVariants as entry
use Rattle.ps_meaning.specs.declared.options.JoinArgs.{JoinArgs}
use Rattle.ps_meaning.specs.declared.options.SinkType.{SinkType}
use Rattle.ps_validate.proofs.Arms.{arm-given, arm-refused, sizes-append}
use Rattle.valid_plans.proofs.Growing.{left-complete, right-complete}
use Rattle.ps_validate.proofs.nodes.node_schema.Goals as goal
use Rattle.valid_plans.specs.Known.{Known, schema_in, schemas_in}
use Rattle.ps_validate.specs.Nodes.{IsNodeError, PassesColumns}

-- a join by its keys, and a distinct by its columns
abbrev join-by : (Node → Tree) → JoinArgs → List ExprIR → List ExprIR → Step
join-by f args right left = join (record { left_on = key_trees f left; right_on = key_trees f right; args = args })

abbrev distinct-by : DistinctOptions → Option (List Name) → Step
distinct-by o subset = distinct (record { subset = subset; maintain_order = o.maintain_order; keep = o.keep_strategy; cut = o.slice })

-- a slice, a sink or a cache
module _ (F : Functions) (at : Node) (f : Node → Tree) (known : Known) (x : IR) (input : Node) (s : Fields) (is : schema_in known input ∷ [] ≡ s ∷ []) (r : Result Fields PolarsError) (h : IfErr r (λ e. (F : Functions) (step : Step) → PassesColumns step → IsNodeError F at step (s ∷ []) e)) where
  passed-refused : ((offset : ℤ) × (len : ℕ) × (x ≡ entry.Slice input offset len)) ⊎ (((payload : SinkType) × (x ≡ entry.Sink input payload)) ⊎ ((id : ℕ) × (hits : ℕ) × (x ≡ entry.Cache input id hits))) → IfErr r (λ e. IsNodeError F at (entry_step f x) (schemas_in known (entry_inputs x)) e)
  passed-refused (inl w) = arm-refused F at f known x (entry.Slice input w.0 w.1) w.2 (slice w.0 w.1) (s ∷ []) refl is r h (λ e p. p F (slice w.0 w.1) tt)
  passed-refused (inr (inl w)) = arm-refused F at f known x (entry.Sink input w.0) w.1 (sink w.0) (s ∷ []) refl is r h (λ e p. p F (sink w.0) tt)
  passed-refused (inr (inr w)) = arm-refused F at f known x (entry.Cache input w.0 w.1) w.2 (cache w.0) (s ∷ []) refl is r h (λ e p. p F (cache w.0) tt)

-- both lists of expressions
exprs-complete : (f : Node → Tree) (x e : IR) → x ≡ e → AllByRecursion IsComplete (step_exprs (entry_step f x)) → AllByRecursion IsComplete (step_exprs (entry_step f e))
exprs-complete f x e is h = subst (λ e. AllByRecursion IsComplete (step_exprs (entry_step f e))) is h

pub returns-in-None-clause-given : goal.returns-in-None-clause-given
returns-in-None-clause-given g c =
    arm-given (g.F.Functions.told c.args.functions.now) c.args.at (tree_at c.args.exprs.now.items) c.args.schemas.now c.args.entry.now (entry.DataFrameScan c.in-DataFrameScan.df None) (c.in-DataFrameScan.is ∙ ap (entry.DataFrameScan c.in-DataFrameScan.df) c.in-None.is) (scan c.in-DataFrameScan.df None) [] refl refl c.scan_schema.result c.scan_schema.ensures.given (λ s p. p (g.F.Functions.told c.args.functions.now))

pub returns-in-None-clause-refused : goal.returns-in-None-clause-refused
returns-in-None-clause-refused g c =
    arm-refused (g.F.Functions.told c.args.functions.now) c.args.at (tree_at c.args.exprs.now.items) c.args.schemas.now c.args.entry.now (entry.DataFrameScan c.in-DataFrameScan.df None) (c.in-DataFrameScan.is ∙ ap (entry.DataFrameScan c.in-DataFrameScan.df) c.in-None.is) (scan c.in-DataFrameScan.df None) [] refl refl c.scan_schema.result c.scan_schema.ensures.refused (λ s p. p (g.F.Functions.told c.args.functions.now))

pub returns-in-Some-clause-given : goal.returns-in-Some-clause-given
returns-in-Some-clause-given g c =
    arm-given (g.F.Functions.told c.args.functions.now) c.args.at (tree_at c.args.exprs.now.items) c.args.schemas.now c.args.entry.now (entry.DataFrameScan c.in-DataFrameScan.df (Some c.in-Some.names)) (c.in-DataFrameScan.is ∙ ap (entry.DataFrameScan c.in-DataFrameScan.df) c.in-Some.is) (scan c.in-DataFrameScan.df (Some c.as_slice.result.now)) [] (ap (λ ns. scan c.in-DataFrameScan.df (Some ns)) (sym c.as_slice.ensures)) refl c.named_scan_schema.result c.named_scan_schema.ensures.given (λ s p. p (g.F.Functions.told c.args.functions.now))

pub returns-in-Some-clause-refused : goal.returns-in-Some-clause-refused
returns-in-Some-clause-refused g c =
    arm-refused (g.F.Functions.told c.args.functions.now) c.args.at (tree_at c.args.exprs.now.items) c.args.schemas.now c.args.entry.now (entry.DataFrameScan c.in-DataFrameScan.df (Some c.in-Some.names)) (c.in-DataFrameScan.is ∙ ap (entry.DataFrameScan c.in-DataFrameScan.df) c.in-Some.is) (scan c.in-DataFrameScan.df (Some c.as_slice.result.now)) [] (ap (λ ns. scan c.in-DataFrameScan.df (Some ns)) (sym c.as_slice.ensures)) refl c.named_scan_schema.result c.named_scan_schema.ensures.refused (λ s p. p (g.F.Functions.told c.args.functions.now))

pub returns-in-SimpleProjection-clause-given : goal.returns-in-SimpleProjection-clause-given
returns-in-SimpleProjection-clause-given g c =
    arm-given (g.F.Functions.told c.args.functions.now) c.args.at (tree_at c.args.exprs.now.items) c.args.schemas.now c.args.entry.now (entry.SimpleProjection c.in-SimpleProjection.input c.in-SimpleProjection.columns) c.in-SimpleProjection.is (project c.as_slice-in-SimpleProjection.result.now) (c.get.result.now ∷ []) (ap project (sym c.as_slice-in-SimpleProjection.ensures)) (ap (λ (s : Fields). s ∷ []) (sym c.get.ensures)) c.project_schema.result c.project_schema.ensures.given (λ s p. p (g.F.Functions.told c.args.functions.now))

pub returns-in-SimpleProjection-clause-refused : goal.returns-in-SimpleProjection-clause-refused
returns-in-SimpleProjection-clause-refused g c =
    arm-refused (g.F.Functions.told c.args.functions.now) c.args.at (tree_at c.args.exprs.now.items) c.args.schemas.now c.args.entry.now (entry.SimpleProjection c.in-SimpleProjection.input c.in-SimpleProjection.columns) c.in-SimpleProjection.is (project c.as_slice-in-SimpleProjection.result.now) (c.get.result.now ∷ []) (ap project (sym c.as_slice-in-SimpleProjection.ensures)) (ap (λ (s : Fields). s ∷ []) (sym c.get.ensures)) c.project_schema.result c.project_schema.ensures.refused (λ s p. p (g.F.Functions.told c.args.functions.now))

pub returns-in-Select-clause-given : goal.returns-in-Select-clause-given
returns-in-Select-clause-given g c =
    arm-given (g.F.Functions.told c.args.functions.now) c.args.at (tree_at c.args.exprs.now.items) c.args.schemas.now c.args.entry.now (entry.Select c.in-Select.input c.in-Select.expr) c.in-Select.is (select (named_trees (tree_at c.args.exprs.now.items) c.as_slice-in-Select.result.now)) (c.get-in-Select.result.now ∷ []) (ap (λ es. select (named_trees (tree_at c.args.exprs.now.items) es)) (sym c.as_slice-in-Select.ensures)) (ap (λ (s : Fields). s ∷ []) (sym c.get-in-Select.ensures)) c.select_schema.result c.select_schema.ensures.given (λ s p. p (g.F.Functions.told c.args.functions.now))

pub returns-in-Select-clause-refused : goal.returns-in-Select-clause-refused
returns-in-Select-clause-refused g c =
    arm-refused (g.F.Functions.told c.args.functions.now) c.args.at (tree_at c.args.exprs.now.items) c.args.schemas.now c.args.entry.now (entry.Select c.in-Select.input c.in-Select.expr) c.in-Select.is (select (named_trees (tree_at c.args.exprs.now.items) c.as_slice-in-Select.result.now)) (c.get-in-Select.result.now ∷ []) (ap (λ es. select (named_trees (tree_at c.args.exprs.now.items) es)) (sym c.as_slice-in-Select.ensures)) (ap (λ (s : Fields). s ∷ []) (sym c.get-in-Select.ensures)) c.select_schema.result c.select_schema.ensures.refused (λ s p. p (g.F.Functions.told c.args.functions.now))

pub returns-in-HStack-clause-given : goal.returns-in-HStack-clause-given
returns-in-HStack-clause-given g c =
    arm-given (g.F.Functions.told c.args.functions.now) c.args.at (tree_at c.args.exprs.now.items) c.args.schemas.now c.args.entry.now (entry.HStack c.in-HStack.input c.in-HStack.added) c.in-HStack.is (hstack (named_trees (tree_at c.args.exprs.now.items) c.as_slice-in-HStack.result.now)) (c.get-in-HStack.result.now ∷ []) (ap (λ es. hstack (named_trees (tree_at c.args.exprs.now.items) es)) (sym c.as_slice-in-HStack.ensures)) (ap (λ (s : Fields). s ∷ []) (sym c.get-in-HStack.ensures)) c.hstack_schema.result c.hstack_schema.ensures.given (λ s p. p (g.F.Functions.told c.args.functions.now))

pub returns-in-HStack-clause-refused : goal.returns-in-HStack-clause-refused
returns-in-HStack-clause-refused g c =
    arm-refused (g.F.Functions.told c.args.functions.now) c.args.at (tree_at c.args.exprs.now.items) c.args.schemas.now c.args.entry.now (entry.HStack c.in-HStack.input c.in-HStack.added) c.in-HStack.is (hstack (named_trees (tree_at c.args.exprs.now.items) c.as_slice-in-HStack.result.now)) (c.get-in-HStack.result.now ∷ []) (ap (λ es. hstack (named_trees (tree_at c.args.exprs.now.items) es)) (sym c.as_slice-in-HStack.ensures)) (ap (λ (s : Fields). s ∷ []) (sym c.get-in-HStack.ensures)) c.hstack_schema.result c.hstack_schema.ensures.refused (λ s p. p (g.F.Functions.told c.args.functions.now))

pub returns-in-Filter-clause-given : goal.returns-in-Filter-clause-given
returns-in-Filter-clause-given g c =
    arm-given (g.F.Functions.told c.args.functions.now) c.args.at (tree_at c.args.exprs.now.items) c.args.schemas.now c.args.entry.now (entry.Filter c.in-Filter.input c.in-Filter.predicate) c.in-Filter.is (filter (tree_at c.args.exprs.now.items c.in-Filter.predicate.node)) (c.get-in-Filter.result.now ∷ []) refl (ap (λ (s : Fields). s ∷ []) (sym c.get-in-Filter.ensures)) c.filter_schema.result c.filter_schema.ensures.given (λ s p. p (g.F.Functions.told c.args.functions.now))

pub returns-in-Filter-clause-refused : goal.returns-in-Filter-clause-refused
returns-in-Filter-clause-refused g c =
    arm-refused (g.F.Functions.told c.args.functions.now) c.args.at (tree_at c.args.exprs.now.items) c.args.schemas.now c.args.entry.now (entry.Filter c.in-Filter.input c.in-Filter.predicate) c.in-Filter.is (filter (tree_at c.args.exprs.now.items c.in-Filter.predicate.node)) (c.get-in-Filter.result.now ∷ []) refl (ap (λ (s : Fields). s ∷ []) (sym c.get-in-Filter.ensures)) c.filter_schema.result c.filter_schema.ensures.refused (λ s p. p (g.F.Functions.told c.args.functions.now))

pub returns-in-RowIndex-clause-given : goal.returns-in-RowIndex-clause-given
returns-in-RowIndex-clause-given g c =
    arm-given (g.F.Functions.told c.args.functions.now) c.args.at (tree_at c.args.exprs.now.items) c.args.schemas.now c.args.entry.now (entry.MapFunction c.in-MapFunction.input (call.RowIndex c.in-RowIndex.name c.in-RowIndex.offset)) (c.in-MapFunction.is ∙ ap (entry.MapFunction c.in-MapFunction.input) c.in-RowIndex.is) (row_index c.in-RowIndex.name c.in-RowIndex.offset) (c.get-in-RowIndex.result.now ∷ []) refl (ap (λ (s : Fields). s ∷ []) (sym c.get-in-RowIndex.ensures)) c.row_index_schema.result c.row_index_schema.ensures.given (λ s p. p (g.F.Functions.told c.args.functions.now) c.in-RowIndex.offset)

pub returns-in-RowIndex-clause-refused : goal.returns-in-RowIndex-clause-refused
returns-in-RowIndex-clause-refused g c =
    arm-refused (g.F.Functions.told c.args.functions.now) c.args.at (tree_at c.args.exprs.now.items) c.args.schemas.now c.args.entry.now (entry.MapFunction c.in-MapFunction.input (call.RowIndex c.in-RowIndex.name c.in-RowIndex.offset)) (c.in-MapFunction.is ∙ ap (entry.MapFunction c.in-MapFunction.input) c.in-RowIndex.is) (row_index c.in-RowIndex.name c.in-RowIndex.offset) (c.get-in-RowIndex.result.now ∷ []) refl (ap (λ (s : Fields). s ∷ []) (sym c.get-in-RowIndex.ensures)) c.row_index_schema.result c.row_index_schema.ensures.refused (λ s p. p (g.F.Functions.told c.args.functions.now) c.in-RowIndex.offset)

pub returns-in-Sort-clause-given : goal.returns-in-Sort-clause-given
returns-in-Sort-clause-given g c =
    arm-given (g.F.Functions.told c.args.functions.now) c.args.at (tree_at c.args.exprs.now.items) c.args.schemas.now c.args.entry.now (entry.Sort c.in-Sort.input c.in-Sort.by_column c.in-Sort.slice c.in-Sort.sort_options) c.in-Sort.is (sort (record { keys = key_trees (tree_at c.args.exprs.now.items) c.as_slice-in-Sort.result.now; descending = c.in-Sort.sort_options.descending; nulls_last = c.in-Sort.sort_options.nulls_last; cut = c.in-Sort.slice })) (c.get-in-Sort.result.now ∷ []) (ap (λ es. sort_step (tree_at c.args.exprs.now.items) es c.in-Sort.slice c.in-Sort.sort_options) (sym c.as_slice-in-Sort.ensures)) (ap (λ (s : Fields). s ∷ []) (sym c.get-in-Sort.ensures)) c.sort_schema.result c.sort_schema.ensures.given (λ s p. p (g.F.Functions.told c.args.functions.now) c.in-Sort.sort_options.descending c.in-Sort.sort_options.nulls_last c.in-Sort.slice)

pub returns-in-Sort-clause-refused : goal.returns-in-Sort-clause-refused
returns-in-Sort-clause-refused g c =
    arm-refused (g.F.Functions.told c.args.functions.now) c.args.at (tree_at c.args.exprs.now.items) c.args.schemas.now c.args.entry.now (entry.Sort c.in-Sort.input c.in-Sort.by_column c.in-Sort.slice c.in-Sort.sort_options) c.in-Sort.is (sort (record { keys = key_trees (tree_at c.args.exprs.now.items) c.as_slice-in-Sort.result.now; descending = c.in-Sort.sort_options.descending; nulls_last = c.in-Sort.sort_options.nulls_last; cut = c.in-Sort.slice })) (c.get-in-Sort.result.now ∷ []) (ap (λ es. sort_step (tree_at c.args.exprs.now.items) es c.in-Sort.slice c.in-Sort.sort_options) (sym c.as_slice-in-Sort.ensures)) (ap (λ (s : Fields). s ∷ []) (sym c.get-in-Sort.ensures)) c.sort_schema.result c.sort_schema.ensures.refused (λ s p. p (g.F.Functions.told c.args.functions.now) c.in-Sort.sort_options.descending c.in-Sort.sort_options.nulls_last c.in-Sort.slice)

pub returns-in-Union-clause-given : goal.returns-in-Union-clause-given
returns-in-Union-clause-given g c =
    arm-given (g.F.Functions.told c.args.functions.now) c.args.at (tree_at c.args.exprs.now.items) c.args.schemas.now c.args.entry.now (entry.Union c.in-Union.inputs c.in-Union.options) c.in-Union.is (union c.in-Union.options.slice) (schemas_in c.args.schemas.now c.as_slice-in-Union.result.now) refl (ap (schemas_in c.args.schemas.now) (sym c.as_slice-in-Union.ensures)) c.union_schema.result c.union_schema.ensures.given (λ s p. p (g.F.Functions.told c.args.functions.now) c.in-Union.options.slice)

pub returns-in-HConcat-clause-given : goal.returns-in-HConcat-clause-given
returns-in-HConcat-clause-given g c =
    arm-given (g.F.Functions.told c.args.functions.now) c.args.at (tree_at c.args.exprs.now.items) c.args.schemas.now c.args.entry.now (entry.HConcat c.in-HConcat.inputs) c.in-HConcat.is hconcat (schemas_in c.args.schemas.now c.as_slice-in-HConcat.result.now) refl (ap (schemas_in c.args.schemas.now) (sym c.as_slice-in-HConcat.ensures)) c.hconcat_schema.result c.hconcat_schema.ensures.given (λ s p. p (g.F.Functions.told c.args.functions.now))

pub returns-in-GroupBy-clause-given : goal.returns-in-GroupBy-clause-given
returns-in-GroupBy-clause-given g c =
    arm-given (g.F.Functions.told c.args.functions.now) c.args.at (tree_at c.args.exprs.now.items) c.args.schemas.now c.args.entry.now (entry.GroupBy c.in-GroupBy.input c.in-GroupBy.keys c.in-GroupBy.aggs c.in-GroupBy.maintain_order c.in-GroupBy.options) c.in-GroupBy.is (group_step (tree_at c.args.exprs.now.items) c.as_slice-in-GroupBy.result.now c.as_slice-in-GroupBy-2.result.now c.in-GroupBy.maintain_order c.in-GroupBy.options.slice) (c.get-in-GroupBy.result.now ∷ []) (ap (λ ks. group_step (tree_at c.args.exprs.now.items) ks c.in-GroupBy.aggs c.in-GroupBy.maintain_order c.in-GroupBy.options.slice) (sym c.as_slice-in-GroupBy.ensures) ∙ ap (λ as'. group_step (tree_at c.args.exprs.now.items) c.as_slice-in-GroupBy.result.now as' c.in-GroupBy.maintain_order c.in-GroupBy.options.slice) (sym c.as_slice-in-GroupBy-2.ensures)) (ap (λ (s : Fields). s ∷ []) (sym c.get-in-GroupBy.ensures)) c.group_by_schema.result c.group_by_schema.ensures.given (λ s p. p (g.F.Functions.told c.args.functions.now) c.in-GroupBy.maintain_order c.in-GroupBy.options.slice)

pub returns-in-GroupBy-clause-refused : goal.returns-in-GroupBy-clause-refused
returns-in-GroupBy-clause-refused g c =
    arm-refused (g.F.Functions.told c.args.functions.now) c.args.at (tree_at c.args.exprs.now.items) c.args.schemas.now c.args.entry.now (entry.GroupBy c.in-GroupBy.input c.in-GroupBy.keys c.in-GroupBy.aggs c.in-GroupBy.maintain_order c.in-GroupBy.options) c.in-GroupBy.is (group_step (tree_at c.args.exprs.now.items) c.as_slice-in-GroupBy.result.now c.as_slice-in-GroupBy-2.result.now c.in-GroupBy.maintain_order c.in-GroupBy.options.slice) (c.get-in-GroupBy.result.now ∷ []) (ap (λ ks. group_step (tree_at c.args.exprs.now.items) ks c.in-GroupBy.aggs c.in-GroupBy.maintain_order c.in-GroupBy.options.slice) (sym c.as_slice-in-GroupBy.ensures) ∙ ap (λ as'. group_step (tree_at c.args.exprs.now.items) c.as_slice-in-GroupBy.result.now as' c.in-GroupBy.maintain_order c.in-GroupBy.options.slice) (sym c.as_slice-in-GroupBy-2.ensures)) (ap (λ (s : Fields). s ∷ []) (sym c.get-in-GroupBy.ensures)) c.group_by_schema.result c.group_by_schema.ensures.refused (λ s p. p (g.F.Functions.told c.args.functions.now) c.in-GroupBy.maintain_order c.in-GroupBy.options.slice)

pub returns-in-Join-clause-given : goal.returns-in-Join-clause-given
returns-in-Join-clause-given g c =
    arm-given (g.F.Functions.told c.args.functions.now) c.args.at (tree_at c.args.exprs.now.items) c.args.schemas.now c.args.entry.now (entry.Join c.in-Join.input_left c.in-Join.input_right c.in-Join.left_on c.in-Join.right_on c.in-Join.options) c.in-Join.is (join (record { left_on = key_trees (tree_at c.args.exprs.now.items) c.as_slice-in-Join.result.now; right_on = key_trees (tree_at c.args.exprs.now.items) c.as_slice-in-Join-2.result.now; args = c.in-Join.options })) (c.get-in-Join.result.now ∷ c.get-in-Join-2.result.now ∷ []) (ap (join-by (tree_at c.args.exprs.now.items) c.in-Join.options c.in-Join.right_on) (sym c.as_slice-in-Join.ensures) ∙ ap (λ rs. join-by (tree_at c.args.exprs.now.items) c.in-Join.options rs c.as_slice-in-Join.result.now) (sym c.as_slice-in-Join-2.ensures)) (ap (λ (s : Fields). s ∷ schema_in c.args.schemas.now c.in-Join.input_right ∷ []) (sym c.get-in-Join.ensures) ∙ ap (λ (s : Fields). c.get-in-Join.result.now ∷ s ∷ []) (sym c.get-in-Join-2.ensures)) c.join_schema.result c.join_schema.ensures.given (λ s p. p (g.F.Functions.told c.args.functions.now))

pub returns-in-Join-clause-refused : goal.returns-in-Join-clause-refused
returns-in-Join-clause-refused g c =
    arm-refused (g.F.Functions.told c.args.functions.now) c.args.at (tree_at c.args.exprs.now.items) c.args.schemas.now c.args.entry.now (entry.Join c.in-Join.input_left c.in-Join.input_right c.in-Join.left_on c.in-Join.right_on c.in-Join.options) c.in-Join.is (join (record { left_on = key_trees (tree_at c.args.exprs.now.items) c.as_slice-in-Join.result.now; right_on = key_trees (tree_at c.args.exprs.now.items) c.as_slice-in-Join-2.result.now; args = c.in-Join.options })) (c.get-in-Join.result.now ∷ c.get-in-Join-2.result.now ∷ []) (ap (join-by (tree_at c.args.exprs.now.items) c.in-Join.options c.in-Join.right_on) (sym c.as_slice-in-Join.ensures) ∙ ap (λ rs. join-by (tree_at c.args.exprs.now.items) c.in-Join.options rs c.as_slice-in-Join.result.now) (sym c.as_slice-in-Join-2.ensures)) (ap (λ (s : Fields). s ∷ schema_in c.args.schemas.now c.in-Join.input_right ∷ []) (sym c.get-in-Join.ensures) ∙ ap (λ (s : Fields). c.get-in-Join.result.now ∷ s ∷ []) (sym c.get-in-Join-2.ensures)) c.join_schema.result c.join_schema.ensures.refused (λ s p. p (g.F.Functions.told c.args.functions.now))

pub returns-in-None-subset-clause-given : goal.returns-in-None-subset-clause-given
returns-in-None-subset-clause-given g c =
    arm-given (g.F.Functions.told c.args.functions.now) c.args.at (tree_at c.args.exprs.now.items) c.args.schemas.now c.args.entry.now (entry.Distinct c.in-Distinct.input c.in-Distinct.options) c.in-Distinct.is (distinct (record { subset = None; maintain_order = c.in-Distinct.options.maintain_order; keep = c.in-Distinct.options.keep_strategy; cut = c.in-Distinct.options.slice })) (c.get-in-None-subset.result.now ∷ []) (ap (distinct-by c.in-Distinct.options) c.in-None-subset.is) (ap (λ (s : Fields). s ∷ []) (sym c.get-in-None-subset.ensures)) c.distinct_schema.result c.distinct_schema.ensures.given (λ s p. p (g.F.Functions.told c.args.functions.now) c.in-Distinct.options.maintain_order c.in-Distinct.options.keep_strategy c.in-Distinct.options.slice)

pub returns-in-None-subset-clause-refused : goal.returns-in-None-subset-clause-refused
returns-in-None-subset-clause-refused g c =
    arm-refused (g.F.Functions.told c.args.functions.now) c.args.at (tree_at c.args.exprs.now.items) c.args.schemas.now c.args.entry.now (entry.Distinct c.in-Distinct.input c.in-Distinct.options) c.in-Distinct.is (distinct (record { subset = None; maintain_order = c.in-Distinct.options.maintain_order; keep = c.in-Distinct.options.keep_strategy; cut = c.in-Distinct.options.slice })) (c.get-in-None-subset.result.now ∷ []) (ap (distinct-by c.in-Distinct.options) c.in-None-subset.is) (ap (λ (s : Fields). s ∷ []) (sym c.get-in-None-subset.ensures)) c.distinct_schema.result c.distinct_schema.ensures.refused (λ s p. p (g.F.Functions.told c.args.functions.now) c.in-Distinct.options.maintain_order c.in-Distinct.options.keep_strategy c.in-Distinct.options.slice)

pub returns-in-Some-subset-clause-given : goal.returns-in-Some-subset-clause-given
returns-in-Some-subset-clause-given g c =
    arm-given (g.F.Functions.told c.args.functions.now) c.args.at (tree_at c.args.exprs.now.items) c.args.schemas.now c.args.entry.now (entry.Distinct c.in-Distinct.input c.in-Distinct.options) c.in-Distinct.is (distinct (record { subset = Some c.as_slice-in-Some-subset.result.now; maintain_order = c.in-Distinct.options.maintain_order; keep = c.in-Distinct.options.keep_strategy; cut = c.in-Distinct.options.slice })) (c.get-in-Some-subset.result.now ∷ []) (ap (distinct-by c.in-Distinct.options) (c.in-Some-subset.is ∙ ap Some (sym c.as_slice-in-Some-subset.ensures))) (ap (λ (s : Fields). s ∷ []) (sym c.get-in-Some-subset.ensures)) c.named_distinct_schema.result c.named_distinct_schema.ensures.given (λ s p. p (g.F.Functions.told c.args.functions.now) c.in-Distinct.options.maintain_order c.in-Distinct.options.keep_strategy c.in-Distinct.options.slice)

pub returns-in-Some-subset-clause-refused : goal.returns-in-Some-subset-clause-refused
returns-in-Some-subset-clause-refused g c =
    arm-refused (g.F.Functions.told c.args.functions.now) c.args.at (tree_at c.args.exprs.now.items) c.args.schemas.now c.args.entry.now (entry.Distinct c.in-Distinct.input c.in-Distinct.options) c.in-Distinct.is (distinct (record { subset = Some c.as_slice-in-Some-subset.result.now; maintain_order = c.in-Distinct.options.maintain_order; keep = c.in-Distinct.options.keep_strategy; cut = c.in-Distinct.options.slice })) (c.get-in-Some-subset.result.now ∷ []) (ap (distinct-by c.in-Distinct.options) (c.in-Some-subset.is ∙ ap Some (sym c.as_slice-in-Some-subset.ensures))) (ap (λ (s : Fields). s ∷ []) (sym c.get-in-Some-subset.ensures)) c.named_distinct_schema.result c.named_distinct_schema.ensures.refused (λ s p. p (g.F.Functions.told c.args.functions.now) c.in-Distinct.options.maintain_order c.in-Distinct.options.keep_strategy c.in-Distinct.options.slice)

pub group_by_schema-requires-clause-aggregates : goal.group_by_schema-requires-clause-aggregates
group_by_schema-requires-clause-aggregates g c =
    subst (λ es. AllByRecursion IsComplete (exprs_of (named_trees (tree_at c.args.exprs.now.items) es))) (sym c.as_slice-in-GroupBy-2.ensures)
    (right-complete (exprs_of (named_trees (tree_at c.args.exprs.now.items) c.in-GroupBy.keys)) (exprs_of (named_trees (tree_at c.args.exprs.now.items) c.in-GroupBy.aggs)) (exprs-complete (tree_at c.args.exprs.now.items) c.args.entry.now (entry.GroupBy c.in-GroupBy.input c.in-GroupBy.keys c.in-GroupBy.aggs c.in-GroupBy.maintain_order c.in-GroupBy.options) c.in-GroupBy.is c.requires.complete))

pub join_schema-requires-clause-left_keys : goal.join_schema-requires-clause-left_keys
join_schema-requires-clause-left_keys g c =
    subst (λ es. AllByRecursion IsComplete (key_trees (tree_at c.args.exprs.now.items) es)) (sym c.as_slice-in-Join.ensures)
    (left-complete (key_trees (tree_at c.args.exprs.now.items) c.in-Join.left_on) (key_trees (tree_at c.args.exprs.now.items) c.in-Join.right_on) (exprs-complete (tree_at c.args.exprs.now.items) c.args.entry.now (entry.Join c.in-Join.input_left c.in-Join.input_right c.in-Join.left_on c.in-Join.right_on c.in-Join.options) c.in-Join.is c.requires.complete))

pub join_schema-requires-clause-right_keys : goal.join_schema-requires-clause-right_keys
join_schema-requires-clause-right_keys g c =
    subst (λ es. AllByRecursion IsComplete (key_trees (tree_at c.args.exprs.now.items) es)) (sym c.as_slice-in-Join-2.ensures)
    (right-complete (key_trees (tree_at c.args.exprs.now.items) c.in-Join.left_on) (key_trees (tree_at c.args.exprs.now.items) c.in-Join.right_on) (exprs-complete (tree_at c.args.exprs.now.items) c.args.entry.now (entry.Join c.in-Join.input_left c.in-Join.input_right c.in-Join.left_on c.in-Join.right_on c.in-Join.options) c.in-Join.is c.requires.complete))

pub returns-in-GroupBy-clause-steps : goal.returns-in-GroupBy-clause-steps
returns-in-GroupBy-clause-steps g c =
    let whole : all_sizes (step_exprs (entry_step (tree_at c.args.exprs.now.items) c.args.entry.now)) ≡ all_sizes (exprs_of (named_trees (tree_at c.args.exprs.now.items) c.as_slice-in-GroupBy.result.now)) + all_sizes (exprs_of (named_trees (tree_at c.args.exprs.now.items) c.as_slice-in-GroupBy-2.result.now)) =
    ap (λ x. all_sizes (step_exprs (entry_step (tree_at c.args.exprs.now.items) x))) c.in-GroupBy.is ∙ sizes-append (exprs_of (named_trees (tree_at c.args.exprs.now.items) c.in-GroupBy.keys)) (exprs_of (named_trees (tree_at c.args.exprs.now.items) c.in-GroupBy.aggs))
    ∙ ap (λ es. all_sizes (exprs_of (named_trees (tree_at c.args.exprs.now.items) es)) + all_sizes (exprs_of (named_trees (tree_at c.args.exprs.now.items) c.in-GroupBy.aggs))) (sym c.as_slice-in-GroupBy.ensures)
    ∙ ap (λ es. all_sizes (exprs_of (named_trees (tree_at c.args.exprs.now.items) c.as_slice-in-GroupBy.result.now)) + all_sizes (exprs_of (named_trees (tree_at c.args.exprs.now.items) es))) (sym c.as_slice-in-GroupBy-2.ensures) in
    let few = c.group_by_schema.ensures.steps in
    omega arith

pub returns-in-Join-clause-steps : goal.returns-in-Join-clause-steps
returns-in-Join-clause-steps g c =
    let whole : all_sizes (step_exprs (entry_step (tree_at c.args.exprs.now.items) c.args.entry.now)) ≡ all_sizes (key_trees (tree_at c.args.exprs.now.items) c.as_slice-in-Join.result.now) + all_sizes (key_trees (tree_at c.args.exprs.now.items) c.as_slice-in-Join-2.result.now) =
    ap (λ x. all_sizes (step_exprs (entry_step (tree_at c.args.exprs.now.items) x))) c.in-Join.is ∙ sizes-append (key_trees (tree_at c.args.exprs.now.items) c.in-Join.left_on) (key_trees (tree_at c.args.exprs.now.items) c.in-Join.right_on)
    ∙ ap (λ es. all_sizes (key_trees (tree_at c.args.exprs.now.items) es) + all_sizes (key_trees (tree_at c.args.exprs.now.items) c.in-Join.right_on)) (sym c.as_slice-in-Join.ensures)
    ∙ ap (λ es. all_sizes (key_trees (tree_at c.args.exprs.now.items) c.as_slice-in-Join.result.now) + all_sizes (key_trees (tree_at c.args.exprs.now.items) es)) (sym c.as_slice-in-Join-2.ensures) in
    let few = c.join_schema.ensures.steps in
    omega arith

pub returns-in-Slice-clause-refused : goal.returns-in-Slice-clause-refused
returns-in-Slice-clause-refused g c =
    passed-refused (g.F.Functions.told c.args.functions.now) c.args.at (tree_at c.args.exprs.now.items) c.args.schemas.now c.args.entry.now c.in-Slice.input c.get-in-Slice.result.now (ap (λ (s : Fields). s ∷ []) (sym c.get-in-Slice.ensures)) c.passed_schema.result c.passed_schema.ensures.refused c.in-Slice.is
