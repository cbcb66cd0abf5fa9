use Rattle.std.specs.Prelude.{map}
use Rattle.serde_json.specs.View.{view}
use Rattle.ps_document.proofs.Lists.{none_of_three, where_none, where_nothing}
use Rattle.ps_document.proofs.NoExpr.{no_bool, no_cast, no_col, no_count, no_filter, no_gather, no_idx, no_int, no_left_out, no_len, no_null, no_other, no_slice, no_sort, no_sort_by, no_str, no_ternary}
use Rattle.ps_document.proofs.exprs.expression_of.Goals as goal

pub returns-in-col-clause-some : goal.returns-in-col-clause-some
returns-in-col-clause-some c = rw c.in-col.is c.column_of.ensures.some

pub returns-in-col-clause-none : goal.returns-in-col-clause-none
returns-in-col-clause-none c = rw c.in-col.is (where_none c.column_of.result (no_col (map view c.args.parts.now)) c.column_of.ensures.none)

pub returns-in-null-clause-some : goal.returns-in-null-clause-some
returns-in-null-clause-some c = rw c.in-null.is c.null_of.ensures.some

pub returns-in-null-clause-none : goal.returns-in-null-clause-none
returns-in-null-clause-none c = rw c.in-null.is (where_nothing c.null_of.result (no_null (map view c.args.parts.now)) c.null_of.ensures.none)

pub returns-in-bool-clause-some : goal.returns-in-bool-clause-some
returns-in-bool-clause-some c = rw c.in-bool.is c.truth_literal_of.ensures.some

pub returns-in-bool-clause-none : goal.returns-in-bool-clause-none
returns-in-bool-clause-none c = rw c.in-bool.is (where_nothing c.truth_literal_of.result (no_bool (map view c.args.parts.now)) c.truth_literal_of.ensures.none)

pub returns-in-int-clause-some : goal.returns-in-int-clause-some
returns-in-int-clause-some c = rw c.in-int.is c.int_of.ensures.some

pub returns-in-int-clause-none : goal.returns-in-int-clause-none
returns-in-int-clause-none c = rw c.in-int.is (where_nothing c.int_of.result (no_int (map view c.args.parts.now)) c.int_of.ensures.none)

pub returns-in-idx-clause-some : goal.returns-in-idx-clause-some
returns-in-idx-clause-some c = rw c.in-idx.is c.idx_of.ensures.some

pub returns-in-idx-clause-none : goal.returns-in-idx-clause-none
returns-in-idx-clause-none c = rw c.in-idx.is (where_nothing c.idx_of.result (no_idx (map view c.args.parts.now)) c.idx_of.ensures.none)

pub returns-in-str-clause-some : goal.returns-in-str-clause-some
returns-in-str-clause-some c = rw c.in-str.is c.string_of.ensures.some

pub returns-in-str-clause-none : goal.returns-in-str-clause-none
returns-in-str-clause-none c = rw c.in-str.is (where_none c.string_of.result (no_str (map view c.args.parts.now)) c.string_of.ensures.none)

pub returns-in-cast-clause-some : goal.returns-in-cast-clause-some
returns-in-cast-clause-some c = rw c.in-cast.is c.cast_of.ensures.some

pub returns-in-cast-clause-none : goal.returns-in-cast-clause-none
returns-in-cast-clause-none c = rw c.in-cast.is (where_nothing c.cast_of.result (no_cast (map view c.args.parts.now)) c.cast_of.ensures.none)

pub returns-in-sort-clause-some : goal.returns-in-sort-clause-some
returns-in-sort-clause-some c = rw c.in-sort.is c.sort_of.ensures.some

pub returns-in-sort-clause-none : goal.returns-in-sort-clause-none
returns-in-sort-clause-none c = rw c.in-sort.is (where_nothing c.sort_of.result (no_sort (map view c.args.parts.now)) c.sort_of.ensures.none)

pub returns-in-sort_by-clause-some : goal.returns-in-sort_by-clause-some
returns-in-sort_by-clause-some c = rw c.in-sort_by.is c.sort_by_of.ensures.some

pub returns-in-sort_by-clause-none : goal.returns-in-sort_by-clause-none
returns-in-sort_by-clause-none c = rw c.in-sort_by.is (where_none c.sort_by_of.result (no_sort_by (map view c.args.parts.now)) c.sort_by_of.ensures.none)

pub returns-in-gather-clause-some : goal.returns-in-gather-clause-some
returns-in-gather-clause-some c = rw c.in-gather.is c.gather_of.ensures.some

pub returns-in-gather-clause-none : goal.returns-in-gather-clause-none
returns-in-gather-clause-none c = rw c.in-gather.is (where_nothing c.gather_of.result (no_gather (map view c.args.parts.now)) c.gather_of.ensures.none)

pub returns-in-filter-clause-some : goal.returns-in-filter-clause-some
returns-in-filter-clause-some c = rw c.in-filter.is c.filter_of.ensures.some

pub returns-in-filter-clause-none : goal.returns-in-filter-clause-none
returns-in-filter-clause-none c = rw c.in-filter.is (where_nothing c.filter_of.result (no_filter (map view c.args.parts.now)) c.filter_of.ensures.none)

pub returns-in-slice-clause-some : goal.returns-in-slice-clause-some
returns-in-slice-clause-some c = rw c.in-slice.is c.slice_of.ensures.some

pub returns-in-slice-clause-none : goal.returns-in-slice-clause-none
returns-in-slice-clause-none c = rw c.in-slice.is (where_nothing c.slice_of.result (no_slice (map view c.args.parts.now)) c.slice_of.ensures.none)

pub returns-in-ternary-clause-some : goal.returns-in-ternary-clause-some
returns-in-ternary-clause-some c = rw c.in-ternary.is c.ternary_of.ensures.some

pub returns-in-ternary-clause-none : goal.returns-in-ternary-clause-none
returns-in-ternary-clause-none c = rw c.in-ternary.is (where_nothing c.ternary_of.result (no_ternary (map view c.args.parts.now)) c.ternary_of.ensures.none)

pub returns-in-count-clause-some : goal.returns-in-count-clause-some
returns-in-count-clause-some c = rw c.in-count.is c.count_of.ensures.some

pub returns-in-count-clause-none : goal.returns-in-count-clause-none
returns-in-count-clause-none c = rw c.in-count.is (where_nothing c.count_of.result (no_count (map view c.args.parts.now)) c.count_of.ensures.none)

pub returns-in-len-clause-some : goal.returns-in-len-clause-some
returns-in-len-clause-some c = rw c.in-len.is c.len_of.ensures.some

pub returns-in-len-clause-none : goal.returns-in-len-clause-none
returns-in-len-clause-none c = rw c.in-len.is (where_nothing c.len_of.result (no_len (map view c.args.parts.now)) c.len_of.ensures.none)

pub returns-in-left_out-clause-some : goal.returns-in-left_out-clause-some
returns-in-left_out-clause-some c = rw c.in-left_out.is c.left_out_expression_of.ensures.some

pub returns-in-left_out-clause-none : goal.returns-in-left_out-clause-none
returns-in-left_out-clause-none c = rw c.in-left_out.is (where_nothing c.left_out_expression_of.result (no_left_out (map view c.args.parts.now)) c.left_out_expression_of.ensures.none)

pub returns-in_default-clause-some : goal.returns-in_default-clause-some
returns-in_default-clause-some c = c.operation_of.ensures.some

pub returns-in_default-clause-none : goal.returns-in_default-clause-none
returns-in_default-clause-none c =
    let d = c.in_default in
    let told = c.operation_of.ensures in
    none_of_three c.operation_of.result (no_other (map view c.args.parts.now) c.args.word.now d.not-col d.not-null d.not-bool d.not-int d.not-idx d.not-str d.not-cast d.not-sort d.not-sort_by d.not-gather d.not-filter d.not-slice d.not-ternary d.not-count d.not-len d.not-left_out) told.no_binary told.no_function told.no_aggregate
