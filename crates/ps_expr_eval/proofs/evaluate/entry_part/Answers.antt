use Rattle.std.proofs.Common.{◌∷◌, [], sym, ◌∙◌, ap}
use Rattle.std.specs.Prelude.{Some}
use Rattle.ps_expr_eval.specs.Evaluations.{operands_of}
use Rattle.ps_expr_eval.specs.Walks.{operands_at}
use Rattle.ps_expr_eval.specs.Wholes.{aggregated_of, aggregation_of}
use Rattle.ps_expr_eval.proofs.Operators.{aggregate-evaluates, binary-evaluates, cast-evaluates, filter-evaluates, gather-evaluates, known, slice-evaluates, sort-evaluates, sort_by-evaluates, ternary-evaluates}
use Rattle.ps_expr_eval.proofs.Taking.{aggregate-tree}
use Rattle.ps_expr_eval.proofs.Walking.{operands-are, these-evaluate}
use Rattle.ps_frame.specs.Trees.{Tree, entry_tree, tree_at, trees_of}
use Rattle.ps_frame.specs.declared.expr.AExpr.TheVariants as entry
use Rattle.ps_expr_eval.proofs.evaluate.entry_part.Goals as goal

pub returns-in-BinaryExpr : goal.returns-in-BinaryExpr
returns-in-BinaryExpr c =
    let a = c.args.arena.now.items in
    let tree = tree_at a in
    let is = c.typed_entry.ensures.tree ∙ ap (λ e. entry_tree tree (Some e)) c.in-BinaryExpr.is in
    let x = entry.BinaryExpr c.in-BinaryExpr.left c.in-BinaryExpr.op c.in-BinaryExpr.right in
    let held = these-evaluate c.args.df.now tree (operands_at a c.args.expr) (operands_of x) c.args.taken.items (c.both-left.result.0 ∷ c.both-left.result.1 ∷ []) (operands-are a c.args.expr c.typed_entry.result.now x c.typed_entry.ensures.entry c.in-BinaryExpr.is) c.both-left.ensures c.requires.taken in
    known c.args.df.now _ (Tree.binary c.in-BinaryExpr.op (tree c.in-BinaryExpr.left) (tree c.in-BinaryExpr.right)) c.binary_part.result is c.requires.typed.kind
    (binary-evaluates c.args.df.now c.in-BinaryExpr.op (tree c.in-BinaryExpr.left) (tree c.in-BinaryExpr.right) _ _ c.binary_part.result held.0 held.1.0 c.binary_part.ensures.kind c.binary_part.ensures.cells)

pub returns-in-Cast : goal.returns-in-Cast
returns-in-Cast c =
    let a = c.args.arena.now.items in
    let tree = tree_at a in
    let is = c.typed_entry.ensures.tree ∙ ap (λ e. entry_tree tree (Some e)) c.in-Cast.is in
    let x = entry.Cast c.in-Cast.expr c.in-Cast.dtype c.in-Cast.strict in
    let held = these-evaluate c.args.df.now tree (operands_at a c.args.expr) (operands_of x) c.args.taken.items (c.only-input.result ∷ []) (operands-are a c.args.expr c.typed_entry.result.now x c.typed_entry.ensures.entry c.in-Cast.is) c.only-input.ensures c.requires.taken in
    known c.args.df.now _ (Tree.cast c.in-Cast.dtype c.in-Cast.strict (tree c.in-Cast.expr)) c.unary_part.result is c.requires.typed.kind
    (cast-evaluates c.args.df.now c.in-Cast.dtype c.in-Cast.strict (tree c.in-Cast.expr) _ c.unary_part.result held.0 c.unary_part.ensures.kind c.unary_part.ensures.cells)

pub returns-in-Sort : goal.returns-in-Sort
returns-in-Sort c =
    let a = c.args.arena.now.items in
    let tree = tree_at a in
    let is = c.typed_entry.ensures.tree ∙ ap (λ e. entry_tree tree (Some e)) c.in-Sort.is in
    let x = entry.Sort c.in-Sort.expr c.in-Sort.descending c.in-Sort.nulls_last in
    let held = these-evaluate c.args.df.now tree (operands_at a c.args.expr) (operands_of x) c.args.taken.items (c.only-input-in-Sort.result ∷ []) (operands-are a c.args.expr c.typed_entry.result.now x c.typed_entry.ensures.entry c.in-Sort.is) c.only-input-in-Sort.ensures c.requires.taken in
    known c.args.df.now _ (Tree.sort c.in-Sort.descending c.in-Sort.nulls_last (tree c.in-Sort.expr)) c.sorted_part.result is c.requires.typed.kind
    (sort-evaluates c.args.df.now c.in-Sort.descending c.in-Sort.nulls_last (tree c.in-Sort.expr) _ c.sorted_part.result held.0 c.sorted_part.ensures.kind c.sorted_part.ensures.cells)

pub returns-in-SortBy : goal.returns-in-SortBy
returns-in-SortBy c =
    let a = c.args.arena.now.items in
    let tree = tree_at a in
    let is = c.typed_entry.ensures.tree ∙ ap (λ e. entry_tree tree (Some e)) c.in-SortBy.is
    ∙ ap (λ z. Tree.sort_by z c.in-SortBy.nulls_last (tree c.in-SortBy.expr) (trees_of tree c.in-SortBy.by)) (sym c.as_slice.ensures)
    ∙ ap (λ z. Tree.sort_by c.as_slice.result.now z (tree c.in-SortBy.expr) (trees_of tree c.in-SortBy.by)) (sym c.as_slice-in-SortBy.ensures) in
    let x = entry.SortBy c.in-SortBy.expr c.in-SortBy.by c.in-SortBy.descending c.in-SortBy.nulls_last in
    let held = these-evaluate c.args.df.now tree (operands_at a c.args.expr) (operands_of x) c.args.taken.items (c.one_and_others-input.result.0 ∷ c.one_and_others-input.result.1.items) (operands-are a c.args.expr c.typed_entry.result.now x c.typed_entry.ensures.entry c.in-SortBy.is) c.one_and_others-input.ensures c.requires.taken in
    known c.args.df.now _ (Tree.sort_by c.as_slice.result.now c.as_slice-in-SortBy.result.now (tree c.in-SortBy.expr) (trees_of tree c.in-SortBy.by)) c.sorted_by_part.result is c.requires.typed.kind
    (sort_by-evaluates c.args.df.now c.as_slice.result.now c.as_slice-in-SortBy.result.now (tree c.in-SortBy.expr) (trees_of tree c.in-SortBy.by) _ c.one_and_others-input.result.1.items c.sorted_by_part.result held.0 held.1 c.sorted_by_part.ensures.kind c.sorted_by_part.ensures.cells)

pub returns-in-Gather : goal.returns-in-Gather
returns-in-Gather c =
    let a = c.args.arena.now.items in
    let tree = tree_at a in
    let is = c.typed_entry.ensures.tree ∙ ap (λ e. entry_tree tree (Some e)) c.in-Gather.is in
    let x = entry.Gather c.in-Gather.expr c.in-Gather.idx c.in-Gather.returns_scalar in
    let held = these-evaluate c.args.df.now tree (operands_at a c.args.expr) (operands_of x) c.args.taken.items (c.both-input.result.0 ∷ c.both-input.result.1 ∷ []) (operands-are a c.args.expr c.typed_entry.result.now x c.typed_entry.ensures.entry c.in-Gather.is) c.both-input.ensures c.requires.taken in
    known c.args.df.now _ (Tree.gather c.in-Gather.returns_scalar (tree c.in-Gather.expr) (tree c.in-Gather.idx)) c.gathered_part.result is c.requires.typed.kind
    (gather-evaluates c.args.df.now c.in-Gather.returns_scalar (tree c.in-Gather.expr) (tree c.in-Gather.idx) _ _ c.gathered_part.result held.0 held.1.0 c.gathered_part.ensures.kind c.gathered_part.ensures.cells)

pub returns-in-Filter : goal.returns-in-Filter
returns-in-Filter c =
    let a = c.args.arena.now.items in
    let tree = tree_at a in
    let is = c.typed_entry.ensures.tree ∙ ap (λ e. entry_tree tree (Some e)) c.in-Filter.is in
    let x = entry.Filter c.in-Filter.input c.in-Filter.by in
    let held = these-evaluate c.args.df.now tree (operands_at a c.args.expr) (operands_of x) c.args.taken.items (c.both-input-in-Filter.result.0 ∷ c.both-input-in-Filter.result.1 ∷ []) (operands-are a c.args.expr c.typed_entry.result.now x c.typed_entry.ensures.entry c.in-Filter.is) c.both-input-in-Filter.ensures c.requires.taken in
    known c.args.df.now _ (Tree.filter (tree c.in-Filter.input) (tree c.in-Filter.by)) c.kept_part.result is c.requires.typed.kind
    (filter-evaluates c.args.df.now (tree c.in-Filter.input) (tree c.in-Filter.by) _ _ c.kept_part.result held.0 held.1.0 c.kept_part.ensures.kind c.kept_part.ensures.cells)

pub returns-in-Agg : goal.returns-in-Agg
returns-in-Agg c =
    let a = c.args.arena.now.items in
    let tree = tree_at a in
    let is = c.typed_entry.ensures.tree ∙ ap (λ e. entry_tree tree (Some e)) c.in-Agg.is ∙ aggregate-tree tree c.in-Agg.aggregate in
    let x = entry.Agg c.in-Agg.aggregate in
    let held = these-evaluate c.args.df.now tree (operands_at a c.args.expr) (operands_of x) c.args.taken.items (c.only-input-in-Agg.result ∷ []) (operands-are a c.args.expr c.typed_entry.result.now x c.typed_entry.ensures.entry c.in-Agg.is) c.only-input-in-Agg.ensures c.requires.taken in
    known c.args.df.now _ (Tree.aggregate (aggregation_of c.in-Agg.aggregate) (tree (aggregated_of c.in-Agg.aggregate))) c.aggregated_part.result is c.requires.typed.kind
    (aggregate-evaluates c.args.df.now (aggregation_of c.in-Agg.aggregate) (tree (aggregated_of c.in-Agg.aggregate)) _ c.aggregated_part.result held.0 c.aggregated_part.ensures.kind c.aggregated_part.ensures.cells)

pub returns-in-Ternary : goal.returns-in-Ternary
returns-in-Ternary c =
    let a = c.args.arena.now.items in
    let tree = tree_at a in
    let is = c.typed_entry.ensures.tree ∙ ap (λ e. entry_tree tree (Some e)) c.in-Ternary.is in
    let x = entry.Ternary c.in-Ternary.predicate c.in-Ternary.truthy c.in-Ternary.falsy in
    let held = these-evaluate c.args.df.now tree (operands_at a c.args.expr) (operands_of x) c.args.taken.items (c.all_three-predicate.result.0 ∷ c.all_three-predicate.result.1 ∷ c.all_three-predicate.result.2 ∷ []) (operands-are a c.args.expr c.typed_entry.result.now x c.typed_entry.ensures.entry c.in-Ternary.is) c.all_three-predicate.ensures c.requires.taken in
    known c.args.df.now _ (Tree.ternary (tree c.in-Ternary.predicate) (tree c.in-Ternary.truthy) (tree c.in-Ternary.falsy)) c.ternary_part.result is c.requires.typed.kind
    (ternary-evaluates c.args.df.now (tree c.in-Ternary.predicate) (tree c.in-Ternary.truthy) (tree c.in-Ternary.falsy) _ _ _ c.ternary_part.result held.0 held.1.0 held.1.1.0 c.ternary_part.ensures.kind c.ternary_part.ensures.cells)

pub returns-in-Slice : goal.returns-in-Slice
returns-in-Slice c =
    let a = c.args.arena.now.items in
    let tree = tree_at a in
    let is = c.typed_entry.ensures.tree ∙ ap (λ e. entry_tree tree (Some e)) c.in-Slice.is in
    let x = entry.Slice c.in-Slice.input c.in-Slice.offset c.in-Slice.length in
    let held = these-evaluate c.args.df.now tree (operands_at a c.args.expr) (operands_of x) c.args.taken.items (c.all_three-input.result.0 ∷ c.all_three-input.result.1 ∷ c.all_three-input.result.2 ∷ []) (operands-are a c.args.expr c.typed_entry.result.now x c.typed_entry.ensures.entry c.in-Slice.is) c.all_three-input.ensures c.requires.taken in
    known c.args.df.now _ (Tree.slice (tree c.in-Slice.input) (tree c.in-Slice.offset) (tree c.in-Slice.length)) c.sliced_part.result is c.requires.typed.kind
    (slice-evaluates c.args.df.now (tree c.in-Slice.input) (tree c.in-Slice.offset) (tree c.in-Slice.length) _ _ _ c.sliced_part.result held.0 held.1.0 held.1.1.0 c.sliced_part.ensures.kind c.sliced_part.ensures.cells)
