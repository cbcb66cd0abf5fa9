-- Each error of an operand is one of the expression.
use Rattle.std.proofs.Common.{List, ◌++◌, sym, subst, ◌∙◌, arith}
use Rattle.std.proofs.lemmas.Grind.{common_steps}
use Rattle.pu_base.specs.declared.arena.Node.{Node}
use Rattle.ps_frame.specs.Parts.{tree_parts, trees_parts}
use Rattle.ps_frame.specs.Trees.{Tree, tree_at, trees_of}
use Rattle.ps_typing.proofs.Broken.{aggregate_tree-is, among-left_keys, passed-among, passed-on, passed-whole, sort_by-refused, sort_by-typed, tree-is}
use Rattle.ps_typing.specs.Operands.{aggregated, aggregation_of}
use Rattle.ps_typing.proofs.Parts.{AreAmong, among-left, among-right, among-then, below-one, of-aggregate, of-cast, of-function, of-keys, of-sort, of-sorted}
use Rattle.ps_typing.proofs.kinds.+typing.Goals as goal

pub type_expr-returns-in_err-from-in-Cast-clause-refused : goal.type_expr-returns-in_err-from-in-Cast-clause-refused
type_expr-returns-in_err-from-in-Cast-clause-refused g t c =
    passed-on c.args.at c.args.schema.now (tree_parts (tree_at c.args.arena.now.items c.in-Cast.expr)) (Tree.cast c.in-Cast.dtype c.in-Cast.strict (tree_at c.args.arena.now.items c.in-Cast.expr)) (tree_at c.args.arena.now.items c.args.expr) c.in_err-from-in-Cast.field-0.0 c.from_residual-in_err-from-in-Cast.result c.from_residual-in_err-from-in-Cast.ensures.1
    (tree-is (tree_at c.args.arena.now.items) (tree_at c.args.arena.now.items c.args.expr) c.entry.result.now _ c.entry.ensures.tree c.in-Cast.is)
    (of-cast c.in-Cast.dtype c.in-Cast.strict (tree_at c.args.arena.now.items c.in-Cast.expr)) c.in_err-from-in-Cast.ensures.refused

pub type_expr-returns-in_err-sorted-in-SortBy-clause-refused : goal.type_expr-returns-in_err-sorted-in-SortBy-clause-refused
type_expr-returns-in_err-sorted-in-SortBy-clause-refused g t c =
    passed-on c.args.at c.args.schema.now (tree_parts (tree_at c.args.arena.now.items c.in-SortBy.expr)) (Tree.sort_by c.in-SortBy.descending c.in-SortBy.nulls_last (tree_at c.args.arena.now.items c.in-SortBy.expr) (trees_of (tree_at c.args.arena.now.items) c.in-SortBy.by)) (tree_at c.args.arena.now.items c.args.expr) c.in_err-sorted-in-SortBy.field-0.0 c.from_residual-in_err-sorted-in-SortBy.result c.from_residual-in_err-sorted-in-SortBy.ensures.1
    (tree-is (tree_at c.args.arena.now.items) (tree_at c.args.arena.now.items c.args.expr) c.entry.result.now _ c.entry.ensures.tree c.in-SortBy.is)
    (of-sorted c.in-SortBy.descending c.in-SortBy.nulls_last (tree_at c.args.arena.now.items c.in-SortBy.expr) (trees_of (tree_at c.args.arena.now.items) c.in-SortBy.by)) c.in_err-sorted-in-SortBy.ensures.refused

pub type_expr-returns-in_err-input-in-Function-clause-refused : goal.type_expr-returns-in_err-input-in-Function-clause-refused
type_expr-returns-in_err-input-in-Function-clause-refused g t c =
    passed-on c.args.at c.args.schema.now (tree_parts (tree_at c.args.arena.now.items c.in-Function.input)) (Tree.function c.in-Function.function (tree_at c.args.arena.now.items c.in-Function.input)) (tree_at c.args.arena.now.items c.args.expr) c.in_err-input-in-Function.field-0.0 c.from_residual-in_err-input-in-Function.result c.from_residual-in_err-input-in-Function.ensures.1
    (tree-is (tree_at c.args.arena.now.items) (tree_at c.args.arena.now.items c.args.expr) c.entry.result.now _ c.entry.ensures.tree c.in-Function.is)
    (of-function c.in-Function.function (tree_at c.args.arena.now.items c.in-Function.input)) c.in_err-input-in-Function.ensures.refused

pub type_expr-returns-in-Sort-clause-refused : goal.type_expr-returns-in-Sort-clause-refused
type_expr-returns-in-Sort-clause-refused g t c =
    passed-whole c.args.at c.args.schema.now (tree_parts (tree_at c.args.arena.now.items c.in-Sort.expr)) (Tree.sort c.in-Sort.descending c.in-Sort.nulls_last (tree_at c.args.arena.now.items c.in-Sort.expr)) (tree_at c.args.arena.now.items c.args.expr) c.type_expr-in-Sort.result
    (tree-is (tree_at c.args.arena.now.items) (tree_at c.args.arena.now.items c.args.expr) c.entry.result.now _ c.entry.ensures.tree c.in-Sort.is)
    (of-sort c.in-Sort.descending c.in-Sort.nulls_last (tree_at c.args.arena.now.items c.in-Sort.expr)) c.type_expr-in-Sort.ensures.refused

pub type_expr-returns-in_err-input-in-Agg-clause-refused : goal.type_expr-returns-in_err-input-in-Agg-clause-refused
type_expr-returns-in_err-input-in-Agg-clause-refused g t c =
    let whole : Tree = Tree.aggregate (aggregation_of c.in-Agg.aggregate) (tree_at c.args.arena.now.items (aggregated c.in-Agg.aggregate)) in
    passed-on c.args.at c.args.schema.now (tree_parts (tree_at c.args.arena.now.items c.aggregated.result)) whole (tree_at c.args.arena.now.items c.args.expr) c.in_err-input-in-Agg.field-0.0 c.from_residual-in_err-input-in-Agg.result c.from_residual-in_err-input-in-Agg.ensures.1
    (tree-is (tree_at c.args.arena.now.items) (tree_at c.args.arena.now.items c.args.expr) c.entry.result.now _ c.entry.ensures.tree c.in-Agg.is ∙ aggregate_tree-is (tree_at c.args.arena.now.items) c.in-Agg.aggregate)
    (subst (λ (n : Node). AreAmong (tree_parts (tree_at c.args.arena.now.items n)) (tree_parts whole)) (sym c.aggregated.ensures) (of-aggregate (aggregation_of c.in-Agg.aggregate) (tree_at c.args.arena.now.items (aggregated c.in-Agg.aggregate)))) c.in_err-input-in-Agg.ensures.refused

pub type_expr-returns-in_err-keys-in-SortBy-clause-refused : goal.type_expr-returns-in_err-keys-in-SortBy-clause-refused
type_expr-returns-in_err-keys-in-SortBy-clause-refused g t c =
    let whole : Tree = Tree.sort_by c.in-SortBy.descending c.in-SortBy.nulls_last (tree_at c.args.arena.now.items c.in-SortBy.expr) (trees_of (tree_at c.args.arena.now.items) c.in-SortBy.by) in
    passed-on c.args.at c.args.schema.now (trees_parts (trees_of (tree_at c.args.arena.now.items) c.as_slice.result.now)) whole (tree_at c.args.arena.now.items c.args.expr) c.in_err-keys-in-SortBy.field-0.0 c.from_residual-in_err-keys-in-SortBy.result c.from_residual-in_err-keys-in-SortBy.ensures.1
    (tree-is (tree_at c.args.arena.now.items) (tree_at c.args.arena.now.items c.args.expr) c.entry.result.now _ c.entry.ensures.tree c.in-SortBy.is)
    (subst (λ (ns : List Node). AreAmong (trees_parts (trees_of (tree_at c.args.arena.now.items) ns)) (tree_parts whole)) (sym c.as_slice.ensures) (of-keys c.in-SortBy.descending c.in-SortBy.nulls_last (tree_at c.args.arena.now.items c.in-SortBy.expr) (trees_of (tree_at c.args.arena.now.items) c.in-SortBy.by))) c.in_err-keys-in-SortBy.ensures.refused

pub type_expr-returns-then-not-have_keys-clause-refused : goal.type_expr-returns-then-not-have_keys-clause-refused
type_expr-returns-then-not-have_keys-clause-refused g t c =
    sort_by-refused c.args.at c.args.schema.now (tree_at c.args.arena.now.items) (tree_at c.args.arena.now.items c.args.expr) (tree_at c.args.arena.now.items c.in-SortBy.expr) c.in-SortBy.by c.as_slice-in-SortBy.result.now c.in-SortBy.descending c.in-SortBy.nulls_last c.as_slice-in-SortBy-2.result.now c.as_slice-in-SortBy-3.result.now c.have_keys.result
    (tree-is (tree_at c.args.arena.now.items) (tree_at c.args.arena.now.items c.args.expr) c.entry.result.now _ c.entry.ensures.tree c.in-SortBy.is)
    c.as_slice-in-SortBy.ensures c.as_slice-in-SortBy-2.ensures c.as_slice-in-SortBy-3.ensures c.have_keys.ensures c.if-not-have_keys.true

pub type_expr-returns-after-sorted-clause-kind : goal.type_expr-returns-after-sorted-clause-kind
type_expr-returns-after-sorted-clause-kind g t c =
    sort_by-typed c.args.schema.now (tree_at c.args.arena.now.items) (tree_at c.args.arena.now.items c.args.expr) (tree_at c.args.arena.now.items c.in-SortBy.expr) c.in-SortBy.by c.as_slice-in-SortBy.result.now c.as_slice.result.now c.in-SortBy.descending c.in-SortBy.nulls_last c.as_slice-in-SortBy-2.result.now c.as_slice-in-SortBy-3.result.now c.have_keys.result c.in_ok-sorted-in-SortBy.sorted.dtype
    (tree-is (tree_at c.args.arena.now.items) (tree_at c.args.arena.now.items c.args.expr) c.entry.result.now _ c.entry.ensures.tree c.in-SortBy.is)
    c.as_slice-in-SortBy.ensures c.as_slice.ensures c.as_slice-in-SortBy-2.ensures c.as_slice-in-SortBy-3.ensures c.have_keys.ensures c.if-not-have_keys.false
    c.in_ok-keys-in-SortBy.ensures.kinds c.in_ok-sorted-in-SortBy.ensures.kind

pub type_keys-loop-key-preserved : goal.type_keys-loop-key-preserved
type_keys-loop-key-preserved g t c =
    record {
      complete = grind (arith, common_steps);
      kinds = grind (arith, common_steps);
      scalar = grind (arith, common_steps);
      among = among-then _ _ _ (among-left_keys (tree_at c.args.arena.now.items) c.args.keys.now c.loop-key.key-index c.args.at c.loop-key-test.true) c.loop-key.invariant.among;
      small = grind (arith, common_steps);
      steps = grind (arith, common_steps);
    }

pub type_expr-returns-in_err-left-in-BinaryExpr-clause-refused : goal.type_expr-returns-in_err-left-in-BinaryExpr-clause-refused
type_expr-returns-in_err-left-in-BinaryExpr-clause-refused g t c =
    let tree = tree_at c.args.arena.now.items in
    passed-on c.args.at c.args.schema.now (tree_parts (tree c.in-BinaryExpr.left) ++ tree_parts (tree c.in-BinaryExpr.right)) (Tree.binary c.in-BinaryExpr.op (tree c.in-BinaryExpr.left) (tree c.in-BinaryExpr.right)) (tree c.args.expr) c.in_err-left-in-BinaryExpr.field-0.0 c.from_residual-in_err-left-in-BinaryExpr.result c.from_residual-in_err-left-in-BinaryExpr.ensures.1
    (tree-is tree (tree c.args.expr) c.entry.result.now _ c.entry.ensures.tree c.in-BinaryExpr.is)
    (below-one (Tree.binary c.in-BinaryExpr.op (tree c.in-BinaryExpr.left) (tree c.in-BinaryExpr.right)) (tree_parts (tree c.in-BinaryExpr.left) ++ tree_parts (tree c.in-BinaryExpr.right))) c.in_err-left-in-BinaryExpr.ensures.refused

pub type_expr-returns-in_err-gathered-in-Gather-clause-refused : goal.type_expr-returns-in_err-gathered-in-Gather-clause-refused
type_expr-returns-in_err-gathered-in-Gather-clause-refused g t c =
    let tree = tree_at c.args.arena.now.items in
    passed-on c.args.at c.args.schema.now (tree_parts (tree c.in-Gather.expr) ++ tree_parts (tree c.in-Gather.idx)) (Tree.gather c.in-Gather.returns_scalar (tree c.in-Gather.expr) (tree c.in-Gather.idx)) (tree c.args.expr) c.in_err-gathered-in-Gather.field-0.0 c.from_residual-in_err-gathered-in-Gather.result c.from_residual-in_err-gathered-in-Gather.ensures.1
    (tree-is tree (tree c.args.expr) c.entry.result.now _ c.entry.ensures.tree c.in-Gather.is)
    (below-one (Tree.gather c.in-Gather.returns_scalar (tree c.in-Gather.expr) (tree c.in-Gather.idx)) (tree_parts (tree c.in-Gather.expr) ++ tree_parts (tree c.in-Gather.idx))) c.in_err-gathered-in-Gather.ensures.refused

pub type_expr-returns-in_err-input-in-Filter-clause-refused : goal.type_expr-returns-in_err-input-in-Filter-clause-refused
type_expr-returns-in_err-input-in-Filter-clause-refused g t c =
    let tree = tree_at c.args.arena.now.items in
    passed-on c.args.at c.args.schema.now (tree_parts (tree c.in-Filter.input) ++ tree_parts (tree c.in-Filter.by)) (Tree.filter (tree c.in-Filter.input) (tree c.in-Filter.by)) (tree c.args.expr) c.in_err-input-in-Filter.field-0.0 c.from_residual-in_err-input-in-Filter.result c.from_residual-in_err-input-in-Filter.ensures.1
    (tree-is tree (tree c.args.expr) c.entry.result.now _ c.entry.ensures.tree c.in-Filter.is)
    (below-one (Tree.filter (tree c.in-Filter.input) (tree c.in-Filter.by)) (tree_parts (tree c.in-Filter.input) ++ tree_parts (tree c.in-Filter.by))) c.in_err-input-in-Filter.ensures.refused

pub type_expr-returns-in_err-predicate-in-Ternary-clause-refused : goal.type_expr-returns-in_err-predicate-in-Ternary-clause-refused
type_expr-returns-in_err-predicate-in-Ternary-clause-refused g t c =
    let tree = tree_at c.args.arena.now.items in
    passed-on c.args.at c.args.schema.now (tree_parts (tree c.in-Ternary.predicate) ++ (tree_parts (tree c.in-Ternary.truthy) ++ tree_parts (tree c.in-Ternary.falsy))) (Tree.ternary (tree c.in-Ternary.predicate) (tree c.in-Ternary.truthy) (tree c.in-Ternary.falsy)) (tree c.args.expr) c.in_err-predicate-in-Ternary.field-0.0 c.from_residual-in_err-predicate-in-Ternary.result c.from_residual-in_err-predicate-in-Ternary.ensures.1
    (tree-is tree (tree c.args.expr) c.entry.result.now _ c.entry.ensures.tree c.in-Ternary.is)
    (below-one (Tree.ternary (tree c.in-Ternary.predicate) (tree c.in-Ternary.truthy) (tree c.in-Ternary.falsy)) (tree_parts (tree c.in-Ternary.predicate) ++ (tree_parts (tree c.in-Ternary.truthy) ++ tree_parts (tree c.in-Ternary.falsy)))) c.in_err-predicate-in-Ternary.ensures.refused

pub type_expr-returns-in_err-input-in-Slice-clause-refused : goal.type_expr-returns-in_err-input-in-Slice-clause-refused
type_expr-returns-in_err-input-in-Slice-clause-refused g t c =
    let tree = tree_at c.args.arena.now.items in
    passed-on c.args.at c.args.schema.now (tree_parts (tree c.in-Slice.input) ++ (tree_parts (tree c.in-Slice.offset) ++ tree_parts (tree c.in-Slice.length))) (Tree.slice (tree c.in-Slice.input) (tree c.in-Slice.offset) (tree c.in-Slice.length)) (tree c.args.expr) c.in_err-input-in-Slice.field-0.0 c.from_residual-in_err-input-in-Slice.result c.from_residual-in_err-input-in-Slice.ensures.1
    (tree-is tree (tree c.args.expr) c.entry.result.now _ c.entry.ensures.tree c.in-Slice.is)
    (below-one (Tree.slice (tree c.in-Slice.input) (tree c.in-Slice.offset) (tree c.in-Slice.length)) (tree_parts (tree c.in-Slice.input) ++ (tree_parts (tree c.in-Slice.offset) ++ tree_parts (tree c.in-Slice.length)))) c.in_err-input-in-Slice.ensures.refused

pub type_two-returns-in_err-first-clause-refused : goal.type_two-returns-in_err-first-clause-refused
type_two-returns-in_err-first-clause-refused g t c =
    let tree = tree_at c.args.arena.now.items in
    passed-among c.args.at c.args.schema.now (tree_parts (tree c.args.first)) (tree_parts (tree c.args.first) ++ tree_parts (tree c.args.second)) c.in_err-first.field-0.0 c.from_residual.result c.from_residual.ensures.1 (among-left (tree_parts (tree c.args.first)) (tree_parts (tree c.args.second))) c.in_err-first.ensures.refused

pub type_two-returns-in_err-second-clause-refused : goal.type_two-returns-in_err-second-clause-refused
type_two-returns-in_err-second-clause-refused g t c =
    let tree = tree_at c.args.arena.now.items in
    passed-among c.args.at c.args.schema.now (tree_parts (tree c.args.second)) (tree_parts (tree c.args.first) ++ tree_parts (tree c.args.second)) c.in_err-second.field-0.0 c.from_residual-in_err-second.result c.from_residual-in_err-second.ensures.1 (among-right (tree_parts (tree c.args.first)) (tree_parts (tree c.args.second))) c.in_err-second.ensures.refused

pub type_three-returns-in_err-first-clause-refused : goal.type_three-returns-in_err-first-clause-refused
type_three-returns-in_err-first-clause-refused g t c =
    let tree = tree_at c.args.arena.now.items in
    passed-among c.args.at c.args.schema.now (tree_parts (tree c.args.first)) (tree_parts (tree c.args.first) ++ (tree_parts (tree c.args.second) ++ tree_parts (tree c.args.third))) c.in_err-first.field-0.0 c.from_residual.result c.from_residual.ensures.1 (among-left (tree_parts (tree c.args.first)) (tree_parts (tree c.args.second) ++ tree_parts (tree c.args.third))) c.in_err-first.ensures.refused

pub type_three-returns-in_err-second-clause-refused : goal.type_three-returns-in_err-second-clause-refused
type_three-returns-in_err-second-clause-refused g t c =
    let tree = tree_at c.args.arena.now.items in
    passed-among c.args.at c.args.schema.now (tree_parts (tree c.args.second)) (tree_parts (tree c.args.first) ++ (tree_parts (tree c.args.second) ++ tree_parts (tree c.args.third))) c.in_err-second.field-0.0 c.from_residual-in_err-second.result c.from_residual-in_err-second.ensures.1 (among-then (tree_parts (tree c.args.second)) (tree_parts (tree c.args.second) ++ tree_parts (tree c.args.third)) (tree_parts (tree c.args.first) ++ (tree_parts (tree c.args.second) ++ tree_parts (tree c.args.third))) (among-left (tree_parts (tree c.args.second)) (tree_parts (tree c.args.third))) (among-right (tree_parts (tree c.args.first)) (tree_parts (tree c.args.second) ++ tree_parts (tree c.args.third)))) c.in_err-second.ensures.refused

pub type_three-returns-in_err-third-clause-refused : goal.type_three-returns-in_err-third-clause-refused
type_three-returns-in_err-third-clause-refused g t c =
    let tree = tree_at c.args.arena.now.items in
    passed-among c.args.at c.args.schema.now (tree_parts (tree c.args.third)) (tree_parts (tree c.args.first) ++ (tree_parts (tree c.args.second) ++ tree_parts (tree c.args.third))) c.in_err-third.field-0.0 c.from_residual-in_err-third.result c.from_residual-in_err-third.ensures.1 (among-then (tree_parts (tree c.args.third)) (tree_parts (tree c.args.second) ++ tree_parts (tree c.args.third)) (tree_parts (tree c.args.first) ++ (tree_parts (tree c.args.second) ++ tree_parts (tree c.args.third))) (among-right (tree_parts (tree c.args.second)) (tree_parts (tree c.args.third))) (among-right (tree_parts (tree c.args.first)) (tree_parts (tree c.args.second) ++ tree_parts (tree c.args.third)))) c.in_err-third.ensures.refused
