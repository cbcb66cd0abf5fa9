use Rattle.std.proofs.Common.{◌≡◌, ◌≤◌, List, length, map, subst}
use Rattle.std.specs.Prelude.{Some}
use Rattle.std.specs.List.{AllZip}
use Rattle.std.proofs.lemmas.List.{length-map}
use Rattle.ps_frame.specs.Frames.{kinds_of}
use Rattle.ps_frame.specs.Tables.{Frame}
use Rattle.ps_frame.specs.Trees.{tree_at}
use Rattle.ps_frame.specs.Typing.{kind_over}
use Rattle.ps_meaning.specs.Steps.{key_trees}
use Rattle.ps_meaning.specs.declared.options.ExprIR.{ExprIR}
use Rattle.ps_zip.proofs.Results.{if_err, if_ok}
use Rattle.ps_groups.specs.Errors.{IsErrorAt}
use Rattle.ps_groups.specs.Grouped.{IsAggregate, IsFaultOfAny, key_frames, keyed_rows, last_fields}
use Rattle.ps_groups.specs.GroupTables.{group_tables}
use Rattle.ps_groups.proofs.Grouping.{aggregates-count, below-count, fault-of-any, frames-are, keys-long, last-kinds}
use Rattle.ps_groups.proofs.group_by.values_of_groups.Goals as goal

pub aggregate_columns-requires-clause-kinds : goal.aggregate_columns-requires-clause-kinds
aggregate_columns-requires-clause-kinds c =
    let t = c.args.keyed.now.table in
    let aggs = c.args.aggs.now in
    let trees = key_trees (tree_at c.args.arena.now.items) aggs in
    let schema = c.args.schema.now in
    let many : length trees ≡ length aggs = length-map aggs (λ (e : ExprIR). tree_at c.args.arena.now.items e.node) in
    subst (λ m. map (kind_over t.schema) trees ≡ map Some (kinds_of (last_fields m schema))) many (last-kinds t c.args.keyed.now.keys.items trees schema c.requires.groups)

pub aggregate_columns-requires-clause-count : goal.aggregate_columns-requires-clause-count
aggregate_columns-requires-clause-count c =
    let aggs = c.args.aggs.now in
    subst (λ m. m ≤ length c.args.schema.now) (length-map aggs (λ (e : ExprIR). tree_at c.args.arena.now.items e.node))
    (aggregates-count c.args.keyed.now.table c.args.keyed.now.keys.items (key_trees (tree_at c.args.arena.now.items) aggs) c.args.schema.now c.requires.groups)

pub aggregate_columns-requires-clause-groups : goal.aggregate_columns-requires-clause-groups
aggregate_columns-requires-clause-groups c =
    let t = c.args.keyed.now.table in
    let keys = c.args.keyed.now.keys.items in
    let trees = key_trees (tree_at c.args.arena.now.items) c.args.aggs.now in
    record {
      below = below-count t keys trees c.args.schema.now c.requires.groups c.args.numbering.now c.requires.numbers;
      long = keys-long t keys trees c.args.schema.now c.requires.groups c.args.numbering.now c.requires.numbers;
    }

pub returns-clause-columns : goal.returns-clause-columns
returns-clause-columns c =
    let t = c.args.keyed.now.table in
    let keys = c.args.keyed.now.keys.items in
    let trees = key_trees (tree_at c.args.arena.now.items) c.args.aggs.now in
    let is : group_tables t c.args.numbering.now ≡ key_frames t.schema (keyed_rows t keys) = frames-are t keys trees c.args.schema.now c.requires.groups c.args.numbering.now c.requires.numbers in
    if_ok c.aggregate_columns.result _ _ (λ columns are. subst (λ (fs : List Frame). AllZip (IsAggregate c.args.at.0 fs) trees columns.items) is are) c.aggregate_columns.ensures.columns

pub returns-clause-fault : goal.returns-clause-fault
returns-clause-fault c =
    let t = c.args.keyed.now.table in
    let keys = c.args.keyed.now.keys.items in
    let trees = key_trees (tree_at c.args.arena.now.items) c.args.aggs.now in
    let is : group_tables t c.args.numbering.now ≡ key_frames t.schema (keyed_rows t keys) = frames-are t keys trees c.args.schema.now c.requires.groups c.args.numbering.now c.requires.numbers in
    if_err c.aggregate_columns.result _ _
    (λ e h. fault-of-any t keys trees c.args.schema.now c.requires.groups c.args.at.0 e (subst (λ (fs : List Frame). IsErrorAt c.args.at.0 (IsFaultOfAny c.args.at.0 fs trees) e) is h))
    c.aggregate_columns.ensures.fault
