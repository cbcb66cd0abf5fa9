use Rattle.std.proofs.Common.{◌≡◌, ℕ, ◌<◌, ◌≤◌, List, ◌++◌, length, map, subst, sym, take, ◌∙◌}
use Rattle.std.specs.List.{All}
use Rattle.std.proofs.lemmas.List.{length-map}
use Rattle.ps_frame.specs.Aggregates.{max_rows}
use Rattle.ps_frame.specs.Frames.{HasKinds, IsFrame, column_values}
use Rattle.ps_frame.specs.Gathered.{gathered}
use Rattle.ps_frame.specs.Tables.{rows_of}
use Rattle.ps_frame.specs.Trees.{tree_at}
use Rattle.ps_frame.specs.Series.{Series}
use Rattle.ps_meaning.specs.Steps.{key_trees}
use Rattle.ps_meaning.specs.declared.options.ExprIR.{ExprIR}
use Rattle.ps_zip.proofs.Results.{if_ok}
use Rattle.ps_groups.specs.Grouped.{last_fields}
use Rattle.ps_groups.proofs.Grouping.{few, firsts-inside, group-frame, groups-clean, key-frame, keys-count, rows-of-groups}
use Rattle.ps_groups.proofs.Results.{memory-error, on_ok}
use Rattle.ps_groups.proofs.group_by.groups_of.Goals as goal

pub rows_of_groups-requires-clause-width : goal.rows_of_groups-requires-clause-width
rows_of_groups-requires-clause-width c =
    let trees = key_trees (tree_at c.args.arena.now.items) c.args.aggs.now in
    subst (λ (cs : List Series). length cs ≤ length c.args.schema.now) (sym c.as_slice-keys.ensures.value) (keys-count c.args.keyed.now.table c.args.keyed.now.keys.items trees c.args.schema.now c.requires)

pub rows_of_groups-requires-clause-own : goal.rows_of_groups-requires-clause-own
rows_of_groups-requires-clause-own c =
    let trees = key_trees (tree_at c.args.arena.now.items) c.args.aggs.now in
    let own = key-frame c.args.keyed.now.table c.args.keyed.now.keys.items trees c.args.schema.now c.requires c.in_ok-numbering.ensures.small in
    subst (λ (cs : List Series). IsFrame (take (length cs) c.args.schema.now) cs c.height-height.result) (sym c.as_slice-keys.ensures.value)
    (subst (λ m. IsFrame (take (length c.args.keyed.now.keys.items) c.args.schema.now) c.args.keyed.now.keys.items m) (sym c.height-height.ensures.rows) own)

pub rows_of_groups-requires-clause-there : goal.rows_of_groups-requires-clause-there
rows_of_groups-requires-clause-there c =
    let trees = key_trees (tree_at c.args.arena.now.items) c.args.aggs.now in
    let inside = firsts-inside c.args.keyed.now.table c.args.keyed.now.keys.items trees c.args.schema.now c.requires c.in_ok-numbering.numbering c.in_ok-numbering.ensures.numbers in
    subst (All (λ i. i < c.height-height.result)) (sym c.as_slice.ensures.value) (subst (λ m. All (λ i. i < m) c.in_ok-numbering.numbering.firsts.items) (sym c.height-height.ensures.rows) inside)

pub rows_of_groups-requires-clause-few : goal.rows_of_groups-requires-clause-few
rows_of_groups-requires-clause-few c =
    let trees = key_trees (tree_at c.args.arena.now.items) c.args.aggs.now in
    subst (λ (ns : List ℕ). length ns ≤ max_rows) (sym c.as_slice.ensures.value)
    (few c.args.keyed.now.table c.args.keyed.now.keys.items trees c.args.schema.now c.requires c.in_ok-numbering.numbering c.in_ok-numbering.ensures.numbers c.in_ok-numbering.ensures.small)

pub rows_of_groups-requires-clause-fields : goal.rows_of_groups-requires-clause-fields
rows_of_groups-requires-clause-fields c =
    let keys = c.args.keyed.now.keys.items in
    let aggs = c.args.aggs.now in
    let trees = key_trees (tree_at c.args.arena.now.items) aggs in
    let schema = c.args.schema.now in
    let firsts = c.in_ok-numbering.numbering.firsts.items in
    let values = c.in-Ok.values.items in
    let many : length trees ≡ length aggs = length-map aggs (λ (e : ExprIR). tree_at c.args.arena.now.items e.node) in
    let kinds = subst (λ m. HasKinds (last_fields m schema) values) (sym many) c.in-Ok.ensures.kinds in
    subst (λ (ns : List ℕ). IsFrame schema (map (gathered ns) c.as_slice-keys.result.now ++ values) (length ns)) (sym c.as_slice.ensures.value)
    (subst (λ (cs : List Series). IsFrame schema (map (gathered firsts) cs ++ values) (length firsts)) (sym c.as_slice-keys.ensures.value)
    (group-frame c.args.keyed.now.table keys trees schema c.requires c.in_ok-numbering.numbering c.in_ok-numbering.ensures.numbers c.args.at.0 values c.in-Ok.ensures.columns c.in_ok-numbering.ensures.small kinds))

pub returns-in-Ok-clause-rows : goal.returns-in-Ok-clause-rows
returns-in-Ok-clause-rows c =
    let keys = c.args.keyed.now.keys.items in
    let trees = key_trees (tree_at c.args.arena.now.items) c.args.aggs.now in
    let values = c.in-Ok.values.items in
    if_ok c.rows_of_groups.result _ _
    (λ f rows.
    rows ∙ (λ i. rows_of (length (c.as_slice.ensures.value i)) (column_values (map (gathered (c.as_slice.ensures.value i)) (c.as_slice-keys.ensures.value i) ++ values)))
    ∙ rows-of-groups c.args.keyed.now.table keys trees c.args.schema.now c.requires c.in_ok-numbering.numbering c.in_ok-numbering.ensures.numbers c.args.at.0 values c.in-Ok.ensures.columns)
    c.rows_of_groups.ensures.rows

pub returns-in-Ok-clause-clean : goal.returns-in-Ok-clause-clean
returns-in-Ok-clause-clean c =
    let keys = c.args.keyed.now.keys.items in
    let trees = key_trees (tree_at c.args.arena.now.items) c.args.aggs.now in
    on_ok c.rows_of_groups.result _
    (groups-clean c.args.keyed.now.table keys trees c.args.schema.now c.requires c.in_ok-numbering.numbering c.in_ok-numbering.ensures.numbers c.args.at.0 c.in-Ok.values.items c.in-Ok.ensures.columns)

pub returns-in-Ok-clause-fault : goal.returns-in-Ok-clause-fault
returns-in-Ok-clause-fault c = memory-error c.args.at.0 _ c.rows_of_groups.result c.rows_of_groups.ensures.memory
