use Rattle.std.proofs.Common.{◌≡◌, ◌+◌, ◌-◌, List, ℕ, length, ap, sym, ◌∙◌}
use Rattle.std.specs.Prelude.{Some, option_map, slice_get}
use Rattle.ps_frame.specs.Trees.{IsComplete, tree_at}
use Rattle.ps_frame.specs.declared.value.DataType.{DataType}
use Rattle.ps_meaning.specs.declared.options.ExprIR.{ExprIR}
use Rattle.ps_groups.specs.GroupTables.{group_tables}
use Rattle.ps_groups.proofs.AggregateLoops.{all-image, columns-more, error-of-any, kind-of-field, kinds-more}
use Rattle.ps_groups.proofs.aggregates.aggregate_columns.Goals as goal

pub aggregate_column-requires-clause-expression : goal.aggregate_column-requires-clause-expression
aggregate_column-requires-clause-expression c =
    all-image IsComplete (λ (e : ExprIR). tree_at c.args.arena.now.items e.node) c.args.aggs.now c.loop-i.i c.index-aggs-i.result c.loop-i-test.true c.index-aggs-i.is c.requires.complete

pub aggregate_column-requires-clause-kind : goal.aggregate_column-requires-clause-kind
aggregate_column-requires-clause-kind c =
    let f = tree_at c.args.arena.now.items in
    let aggs = c.args.aggs.now in
    let schema = c.args.schema.now in
    let i = c.loop-i.i in
    let there : option_map (λ (g : List ℕ × DataType). g.1) (slice_get schema (length schema - length aggs + i)) ≡ Some c.kind-dtype.result =
    ap (λ n. option_map (λ (g : List ℕ × DataType). g.1) (slice_get schema (n - length aggs + i))) (sym c.len.ensures) ∙ c.kind-dtype.ensures in
    kind-of-field f aggs schema i c.index-aggs-i.result c.kind-dtype.result c.loop-i-test.true c.index-aggs-i.is there c.args.df.now.schema c.requires.kinds

pub loop-i-preserved : goal.loop-i-preserved
loop-i-preserved c =
    let f = tree_at c.args.arena.now.items in
    let aggs = c.args.aggs.now in
    let schema = c.args.schema.now in
    let i = c.loop-i.i in
    let agg = c.index-aggs-i.result in
    let k = c.kind-dtype.result in
    let there : option_map (λ (g : List ℕ × DataType). g.1) (slice_get schema (length schema - length aggs + i)) ≡ Some k =
    ap (λ n. option_map (λ (g : List ℕ × DataType). g.1) (slice_get schema (n - length aggs + i))) (sym c.len.ensures) ∙ c.kind-dtype.ensures in
    let cs = c.loop-i.columns.items in
    let new = c.push.new.self.items in
    record {
      kinds = kinds-more f aggs schema i agg k c.loop-i-test.true c.index-aggs-i.is there c.in-Ok.column cs new c.loop-i.invariant.kinds c.in-Ok.ensures.kind c.in_ok-push-in-Ok.ensures.items;
      columns = columns-more f aggs schema i agg k c.loop-i-test.true c.index-aggs-i.is there c.args.at.0 (group_tables c.args.df.now c.args.numbering.now) c.in-Ok.column cs new c.loop-i.invariant.columns c.in-Ok.ensures.column c.in_ok-push-in-Ok.ensures.items;
      apart = c.in-Ok.ensures.apart;
      together = c.in-Ok.ensures.together;
    }

pub returns-in-Err-clause-fault : goal.returns-in-Err-clause-fault
returns-in-Err-clause-fault c =
    let f = tree_at c.args.arena.now.items in
    let aggs = c.args.aggs.now in
    let schema = c.args.schema.now in
    let i = c.loop-i.i in
    let k = c.kind-dtype.result in
    let there : option_map (λ (g : List ℕ × DataType). g.1) (slice_get schema (length schema - length aggs + i)) ≡ Some k =
    ap (λ n. option_map (λ (g : List ℕ × DataType). g.1) (slice_get schema (n - length aggs + i))) (sym c.len.ensures) ∙ c.kind-dtype.ensures in
    error-of-any f aggs schema i c.index-aggs-i.result k c.loop-i-test.true c.index-aggs-i.is there c.args.at.0 (group_tables c.args.df.now c.args.numbering.now) c.in-Err.error c.in-Err.ensures.error
