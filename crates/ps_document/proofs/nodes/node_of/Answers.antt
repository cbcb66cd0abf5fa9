use Rattle.std.specs.Prelude.{map}
use Rattle.serde_json.specs.View.{view}
use Rattle.ps_document.proofs.Lists.{if_some, where_none, where_nothing, where_some}
use Rattle.ps_document.proofs.NoNode.{no_cache, no_distinct, no_filter, no_group_by, no_hconcat, no_hstack, no_join, no_left_out, no_map, no_other, no_project, no_row_index, no_scan, no_select, no_slice, no_sort, no_union}
use Rattle.ps_document.proofs.nodes.node_of.Goals as goal

pub returns-in-scan-clause-some : goal.returns-in-scan-clause-some
returns-in-scan-clause-some c = rw c.in-scan.is c.scan_of.ensures.some

pub returns-in-scan-clause-none : goal.returns-in-scan-clause-none
returns-in-scan-clause-none c = rw c.in-scan.is (where_none c.scan_of.result (no_scan c.args.tables.now.items (map view c.args.parts.now)) c.scan_of.ensures.none)

pub returns-in-project-clause-some : goal.returns-in-project-clause-some
returns-in-project-clause-some c = rw c.in-project.is (where_some c.projection_of.result (λ e is. is c.args.tables.now.items) c.projection_of.ensures.some)

pub returns-in-project-clause-none : goal.returns-in-project-clause-none
returns-in-project-clause-none c = rw c.in-project.is (where_none c.projection_of.result (no_project c.args.tables.now.items (map view c.args.parts.now)) c.projection_of.ensures.none)

pub returns-in-select-clause-some : goal.returns-in-select-clause-some
returns-in-select-clause-some c = rw c.in-select.is (where_some c.select_of.result (λ e is. is c.args.tables.now.items) c.select_of.ensures.some)

pub returns-in-select-clause-none : goal.returns-in-select-clause-none
returns-in-select-clause-none c = rw c.in-select.is (where_none c.select_of.result (no_select c.args.tables.now.items (map view c.args.parts.now)) c.select_of.ensures.none)

pub returns-in-hstack-clause-some : goal.returns-in-hstack-clause-some
returns-in-hstack-clause-some c = rw c.in-hstack.is (where_some c.hstack_of.result (λ e is. is c.args.tables.now.items) c.hstack_of.ensures.some)

pub returns-in-hstack-clause-none : goal.returns-in-hstack-clause-none
returns-in-hstack-clause-none c = rw c.in-hstack.is (where_none c.hstack_of.result (no_hstack c.args.tables.now.items (map view c.args.parts.now)) c.hstack_of.ensures.none)

pub returns-in-filter-clause-some : goal.returns-in-filter-clause-some
returns-in-filter-clause-some c = rw c.in-filter.is (where_some c.filter_of.result (λ e is. is c.args.tables.now.items) c.filter_of.ensures.some)

pub returns-in-filter-clause-none : goal.returns-in-filter-clause-none
returns-in-filter-clause-none c = rw c.in-filter.is (where_none c.filter_of.result (no_filter c.args.tables.now.items (map view c.args.parts.now)) c.filter_of.ensures.none)

pub returns-in-slice-clause-some : goal.returns-in-slice-clause-some
returns-in-slice-clause-some c = rw c.in-slice.is (if_some c.slice_of.result (λ e is. is c.args.tables.now.items) c.slice_of.ensures.some)

pub returns-in-slice-clause-none : goal.returns-in-slice-clause-none
returns-in-slice-clause-none c = rw c.in-slice.is (where_nothing c.slice_of.result (no_slice c.args.tables.now.items (map view c.args.parts.now)) c.slice_of.ensures.none)

pub returns-in-row_index-clause-some : goal.returns-in-row_index-clause-some
returns-in-row_index-clause-some c = rw c.in-row_index.is (where_some c.row_index_of.result (λ e is. is c.args.tables.now.items) c.row_index_of.ensures.some)

pub returns-in-row_index-clause-none : goal.returns-in-row_index-clause-none
returns-in-row_index-clause-none c = rw c.in-row_index.is (where_none c.row_index_of.result (no_row_index c.args.tables.now.items (map view c.args.parts.now)) c.row_index_of.ensures.none)

pub returns-in-map-clause-some : goal.returns-in-map-clause-some
returns-in-map-clause-some c = rw c.in-map.is (if_some c.map_of.result (λ e is. is c.args.tables.now.items) c.map_of.ensures.some)

pub returns-in-map-clause-none : goal.returns-in-map-clause-none
returns-in-map-clause-none c = rw c.in-map.is (where_nothing c.map_of.result (no_map c.args.tables.now.items (map view c.args.parts.now)) c.map_of.ensures.none)

pub returns-in-sort-clause-some : goal.returns-in-sort-clause-some
returns-in-sort-clause-some c = rw c.in-sort.is (where_some c.sort_of.result (λ e is. is c.args.tables.now.items) c.sort_of.ensures.some)

pub returns-in-sort-clause-none : goal.returns-in-sort-clause-none
returns-in-sort-clause-none c = rw c.in-sort.is (where_none c.sort_of.result (no_sort c.args.tables.now.items (map view c.args.parts.now)) c.sort_of.ensures.none)

pub returns-in-union-clause-some : goal.returns-in-union-clause-some
returns-in-union-clause-some c = rw c.in-union.is (where_some c.union_of.result (λ e is. is c.args.tables.now.items) c.union_of.ensures.some)

pub returns-in-union-clause-none : goal.returns-in-union-clause-none
returns-in-union-clause-none c = rw c.in-union.is (where_none c.union_of.result (no_union c.args.tables.now.items (map view c.args.parts.now)) c.union_of.ensures.none)

pub returns-in-hconcat-clause-some : goal.returns-in-hconcat-clause-some
returns-in-hconcat-clause-some c = rw c.in-hconcat.is (where_some c.hconcat_of.result (λ e is. is c.args.tables.now.items) c.hconcat_of.ensures.some)

pub returns-in-hconcat-clause-none : goal.returns-in-hconcat-clause-none
returns-in-hconcat-clause-none c = rw c.in-hconcat.is (where_none c.hconcat_of.result (no_hconcat c.args.tables.now.items (map view c.args.parts.now)) c.hconcat_of.ensures.none)

pub returns-in-cache-clause-some : goal.returns-in-cache-clause-some
returns-in-cache-clause-some c = rw c.in-cache.is (if_some c.cache_of.result (λ e is. is c.args.tables.now.items) c.cache_of.ensures.some)

pub returns-in-cache-clause-none : goal.returns-in-cache-clause-none
returns-in-cache-clause-none c = rw c.in-cache.is (where_nothing c.cache_of.result (no_cache c.args.tables.now.items (map view c.args.parts.now)) c.cache_of.ensures.none)

pub returns-in-group_by-clause-some : goal.returns-in-group_by-clause-some
returns-in-group_by-clause-some c = rw c.in-group_by.is (where_some c.group_by_of.result (λ e is. is c.args.tables.now.items) c.group_by_of.ensures.some)

pub returns-in-group_by-clause-none : goal.returns-in-group_by-clause-none
returns-in-group_by-clause-none c = rw c.in-group_by.is (where_none c.group_by_of.result (no_group_by c.args.tables.now.items (map view c.args.parts.now)) c.group_by_of.ensures.none)

pub returns-in-join-clause-some : goal.returns-in-join-clause-some
returns-in-join-clause-some c = rw c.in-join.is (where_some c.join_node_of.result (λ e is. is c.args.tables.now.items) c.join_node_of.ensures.some)

pub returns-in-join-clause-none : goal.returns-in-join-clause-none
returns-in-join-clause-none c = rw c.in-join.is (where_none c.join_node_of.result (no_join c.args.tables.now.items (map view c.args.parts.now)) c.join_node_of.ensures.none)

pub returns-in-distinct-clause-some : goal.returns-in-distinct-clause-some
returns-in-distinct-clause-some c = rw c.in-distinct.is (where_some c.distinct_of.result (λ e is. is c.args.tables.now.items) c.distinct_of.ensures.some)

pub returns-in-distinct-clause-none : goal.returns-in-distinct-clause-none
returns-in-distinct-clause-none c = rw c.in-distinct.is (where_none c.distinct_of.result (no_distinct c.args.tables.now.items (map view c.args.parts.now)) c.distinct_of.ensures.none)

pub returns-in-left_out-clause-some : goal.returns-in-left_out-clause-some
returns-in-left_out-clause-some c = rw c.in-left_out.is (if_some c.left_out_node_of.result (λ e is. is c.args.tables.now.items) c.left_out_node_of.ensures.some)

pub returns-in-left_out-clause-none : goal.returns-in-left_out-clause-none
returns-in-left_out-clause-none c = rw c.in-left_out.is (where_nothing c.left_out_node_of.result (no_left_out c.args.tables.now.items (map view c.args.parts.now)) c.left_out_node_of.ensures.none)

pub returns-in_default-clause-some : goal.returns-in_default-clause-some
returns-in_default-clause-some c = if_some c.sink_node_of.result (λ e is. is c.args.tables.now.items) c.sink_node_of.ensures.some

pub returns-in_default-clause-none : goal.returns-in_default-clause-none
returns-in_default-clause-none c =
    let d = c.in_default in
    where_nothing c.sink_node_of.result (no_other c.args.tables.now.items (map view c.args.parts.now) c.args.word.now d.not-scan d.not-project d.not-select d.not-hstack d.not-filter d.not-slice d.not-row_index d.not-map d.not-sort d.not-union d.not-hconcat d.not-cache d.not-group_by d.not-join d.not-distinct d.not-left_out) c.sink_node_of.ensures.none
