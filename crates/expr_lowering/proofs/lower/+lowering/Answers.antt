use Rattle.std.proofs.Common.{◌≡◌, [], ◌∷◌, suc, ◌+◌, ◌*◌, ◌<◌, List, ap, arith, get_or, length, refl, sym, subst, ◌∙◌}
use Rattle.std.specs.Prelude.{None, Some, map}
use Rattle.std.specs.List.{AllByRecursion}
use Rattle.pu_base.specs.declared.arena.Node.{Node}
use Rattle.ps_frame.specs.Trees.{AreComplete, IsComplete, Tree, entry_tree, tree_at, tree_size, trees_of, trees_size}
use Rattle.ps_frame.specs.declared.expr.AExpr.{AExpr}
use Rattle.ps_meaning.specs.Shape.{filter_node, in_memory_map}
use Rattle.ps_meaning.specs.Steps.{Name, key_trees, sort}
use Rattle.ps_meaning.specs.declared.options.ExprIR.{ExprIR}
use Rattle.ps_phys.specs.Shown.{stream_of}
use Rattle.ps_rules.specs.Lowered.{as_operand, lower}
use Rattle.ps_rules.specs.Calls.{left_to_map}
use Rattle.ps_rules.specs.Rules.{first_tree, sorted_by, together}
use Rattle.ps_rules.specs.Slots.{under, with_columns}
use Rattle.ps_phys.specs.declared.phys.PhysNodeKind.TheVariants as phys
use Rattle.lowering_parts.specs.Gathered.{Gathers, state_of, trees_at}
use Rattle.lowering_parts.specs.Operations.{aggregation_of, are_own, operation_tree}
use Rattle.lowering_parts.specs.Reads.{aggregate_operand}
use Rattle.lowering_parts.proofs.Going.{begins_then, goes_added, goes_built, goes_knowing, goes_nowhere, goes_then}
use Rattle.lowering_parts.proofs.Grown.{kept-then}
use Rattle.expr_lowering.proofs.Following.{expr_later, goes_cached, goes_fresh, goes_renamed}
use Rattle.expr_lowering.proofs.Arms.{filter_follows, ok_then, operator_follows, sort_by_arm, sort_by_follows, sort_follows, stay_follows, tree_later}
use Rattle.expr_lowering.proofs.Ends.{aggregate_left, aggregate_reduced, apart_ok, gather_ok, same_follows, select_apart_ok, select_computed_ok, select_own_ok}
use Rattle.expr_lowering.proofs.Reductions.{reduce_alone, reduce_apart}
use Rattle.expr_lowering.proofs.EachLemmas.{each_follows, item_smaller, item_whole}
use Rattle.expr_lowering.proofs.Ruled.{all_complete, as_many_names}
use Rattle.expr_lowering.proofs.Selections.{under_whole}
use Rattle.expr_lowering.proofs.Arms.{pushed_two}
use Rattle.expr_lowering.proofs.lower.+lowering.Goals as goal

pub lower-returns-then-elementwise-clause-follows : goal.lower-returns-then-elementwise-clause-follows
lower-returns-then-elementwise-clause-follows t c =
    stay_follows c.args.low.now.origin.0 (stream_of c.args.input) (tree_at c.args.arena.now.items c.args.expr) (sym c.in_ok-elementwise.ensures.is ∙ c.if-elementwise.true) c.stay.result c.args.arena.now.items c.args.arena.now.items
    c.args.low.now (record c.args.low.now { cache = c.is_elementwise.new.cache }) c.stay.new.low c.args.call.now c.stay.new.call (λ f. refl) (goes_knowing c.args.arena.now.items c.args.low.now c.is_elementwise.new.cache c.is_elementwise.ensures.cache) c.stay.ensures.follows

pub lower-returns-in_err-elementwise-clause-goes_on : goal.lower-returns-in_err-elementwise-clause-goes_on
lower-returns-in_err-elementwise-clause-goes_on t c = goes_knowing c.args.arena.now.items c.args.low.now c.is_elementwise.new.cache c.is_elementwise.ensures.cache

pub lower-returns-then-elementwise-clause-goes_on : goal.lower-returns-then-elementwise-clause-goes_on
lower-returns-then-elementwise-clause-goes_on t c = goes_then c.args.arena.now.items c.args.arena.now.items c.args.arena.now.items c.args.low.now (record c.args.low.now { cache = c.is_elementwise.new.cache }) c.stay.new.low (goes_knowing c.args.arena.now.items c.args.low.now c.is_elementwise.new.cache c.is_elementwise.ensures.cache) c.stay.ensures.goes_on

pub lower-returns-clause-goes_on : goal.lower-returns-clause-goes_on
lower-returns-clause-goes_on t c = goes_then c.args.arena.now.items c.args.arena.now.items c.lower_entry.new.arena.items c.args.low.now (record c.args.low.now { cache = c.is_elementwise.new.cache }) c.lower_entry.new.low (goes_knowing c.args.arena.now.items c.args.low.now c.is_elementwise.new.cache c.is_elementwise.ensures.cache) c.lower_entry.ensures.goes_on

pub lower_entry-lower_sort_by-requires : goal.lower_entry-lower_sort_by-requires
lower_entry-lower_sort_by-requires t c =
    let complete : IsComplete (tree_at c.args.arena.now.items c.in-SortBy.expr) × AreComplete (trees_of (tree_at c.args.arena.now.items) c.in-SortBy.by) = (subst (λ (e : AExpr). IsComplete (entry_tree (tree_at c.args.arena.now.items) (Some e))) c.in-SortBy.is c.entry.ensures.complete) in
    let less : 16 * (tree_size (tree_at c.args.arena.now.items c.in-SortBy.expr) + trees_size (trees_of (tree_at c.args.arena.now.items) c.as_slice-keys.result.now)) + 7 < 16 * tree_size (tree_at c.args.arena.now.items c.args.expr) + 2 = (let whole-tree : tree_size (tree_at c.args.arena.now.items c.args.expr) ≡ suc (tree_size (tree_at c.args.arena.now.items c.in-SortBy.expr) + trees_size (trees_of (tree_at c.args.arena.now.items) c.in-SortBy.by)) = ap tree_size (c.entry.ensures.tree ∙ ap (λ (e : AExpr). entry_tree (tree_at c.args.arena.now.items) (Some e)) c.in-SortBy.is) in
    let keys = ap (λ (ns : List Node). trees_size (trees_of (tree_at c.args.arena.now.items) ns)) (c.as_slice-keys.ensures.value ∙ c.in_ok-copied-in-SortBy.ensures.same) in
    omega arith) in
    let falls : 16 * (tree_size (tree_at c.args.arena.now.items c.in-SortBy.expr) + trees_size (trees_of (tree_at c.args.arena.now.items) c.as_slice-keys.result.now)) + 7 < t = omega arith in (
      falls,
      (
        complete.0,
        (
          subst (λ (ns : List Node). AllByRecursion IsComplete (trees_at (tree_at c.args.arena.now.items) ns)) (sym (c.as_slice-keys.ensures.value ∙ c.in_ok-copied-in-SortBy.ensures.same)) (all_complete (tree_at c.args.arena.now.items) c.in-SortBy.by complete.1),
          (c.requires.cache, c.requires.whole),
        ),
      ),
    )

pub lower_entry-returns-in_ok-options-in-SortBy-clause-follows : goal.lower_entry-returns-in_ok-options-in-SortBy-clause-follows
lower_entry-returns-in_ok-options-in-SortBy-clause-follows t c =
    same_follows (sorted_by c.args.low.now.origin.0 (stream_of c.args.input) c.in_ok-options-in-SortBy.options.descending c.in_ok-options-in-SortBy.options.nulls_last (as_operand c.args.low.now.origin.0 (stream_of c.args.input) (tree_at c.args.arena.now.items c.in-SortBy.expr)) (map (as_operand c.args.low.now.origin.0 (stream_of c.args.input)) (trees_at (tree_at c.args.arena.now.items) c.as_slice-keys.result.now))) (lower c.args.low.now.origin.0 (stream_of c.args.input) (tree_at c.args.arena.now.items c.args.expr))
    (sym (sort_by_arm c.args.low.now.origin.0 (stream_of c.args.input) (tree_at c.args.arena.now.items) (tree_at c.args.arena.now.items c.args.expr) c.in-SortBy.expr c.in-SortBy.by c.as_slice-keys.result.now c.in-SortBy.descending c.in-SortBy.nulls_last c.in_ok-options-in-SortBy.options.descending c.in_ok-options-in-SortBy.options.nulls_last
    (c.entry.ensures.tree ∙ ap (λ (e : AExpr). entry_tree (tree_at c.args.arena.now.items) (Some e)) c.in-SortBy.is) c.requires.apart (c.as_slice-keys.ensures.value ∙ c.in_ok-copied-in-SortBy.ensures.same) c.in_ok-options-in-SortBy.ensures.descending c.in_ok-options-in-SortBy.ensures.nulls_last)) c.lower_sort_by.result c.args.arena.now.items c.lower_sort_by.new.arena.items c.args.low.now c.lower_sort_by.new.low c.args.call.now c.lower_sort_by.new.call c.lower_sort_by.ensures.follows

pub lower_entry-lower_filter-requires : goal.lower_entry-lower_filter-requires
lower_entry-lower_filter-requires t c =
    let complete : IsComplete (tree_at c.args.arena.now.items c.in-Filter.values) × IsComplete (tree_at c.args.arena.now.items c.in-Filter.by) = (subst (λ (e : AExpr). IsComplete (entry_tree (tree_at c.args.arena.now.items) (Some e))) c.in-Filter.is c.entry.ensures.complete) in
    let less : 16 * (tree_size (tree_at c.args.arena.now.items c.in-Filter.values) + tree_size (tree_at c.args.arena.now.items c.in-Filter.by)) + 7 < 16 * tree_size (tree_at c.args.arena.now.items c.args.expr) + 2 = (let whole-tree : tree_size (tree_at c.args.arena.now.items c.args.expr) ≡ suc (tree_size (tree_at c.args.arena.now.items c.in-Filter.values) + tree_size (tree_at c.args.arena.now.items c.in-Filter.by)) = ap tree_size (c.entry.ensures.tree ∙ ap (λ (e : AExpr). entry_tree (tree_at c.args.arena.now.items) (Some e)) c.in-Filter.is) in omega arith) in
    let falls : 16 * (tree_size (tree_at c.args.arena.now.items c.in-Filter.values) + tree_size (tree_at c.args.arena.now.items c.in-Filter.by)) + 7 < t = omega arith in (
      falls,
      (
        complete.0,
        (
          complete.1,
          (c.requires.cache, c.requires.whole),
        ),
      ),
    )

pub lower_entry-returns-in_err-copied-in-SortBy-clause-goes_on : goal.lower_entry-returns-in_err-copied-in-SortBy-clause-goes_on
lower_entry-returns-in_err-copied-in-SortBy-clause-goes_on t c = goes_nowhere c.args.arena.now.items c.args.low.now c.args.low.now c.requires.cache refl

pub lower_entry-returns-in_err-options-in-SortBy-clause-goes_on : goal.lower_entry-returns-in_err-options-in-SortBy-clause-goes_on
lower_entry-returns-in_err-options-in-SortBy-clause-goes_on t c = goes_nowhere c.args.arena.now.items c.args.low.now c.args.low.now c.requires.cache refl

pub lower_entry-returns-in-Column-clause-goes_on : goal.lower_entry-returns-in-Column-clause-goes_on
lower_entry-returns-in-Column-clause-goes_on t c = goes_nowhere c.args.arena.now.items c.args.low.now c.args.low.now c.requires.cache refl

pub lower_operands-returns-clause-follows : goal.lower_operands-returns-clause-follows
lower_operands-returns-clause-follows t c =
    ok_then c.give_bundle.result
    (λ es er ee em. operator_follows _ (operation_tree c.args.operation) c.args.arena.now.items c.together.new.arena.items c.add_expr.new.arena.items c.args.low.now c.together.new.low c.args.call.now c.give_bundle.new.self c.in_ok-bundle.bundle c.in_ok-expr.expr _
    c.in_ok-bundle.ensures.gathers c.requires.whole c.add_expr.ensures.entries c.add_expr.ensures.kept c.in_ok-expr.ensures.tree (c.in-Some.ensures.complete (tree_at c.together.new.arena.items) (subst (λ (ns : List Node). AllByRecursion IsComplete (trees_at (tree_at c.together.new.arena.items) ns)) (sym c.as_slice.ensures.value) c.in_ok-bundle.ensures.gathers.whole.exprs))
    (c.in-Some.ensures.tree (tree_at c.together.new.arena.items) ∙ ap (λ (ns : List Node). operation_tree c.args.operation (trees_at (tree_at c.together.new.arena.items) ns)) c.as_slice.ensures.value)
    es er ee em) c.give_bundle.ensures.streams c.give_bundle.ensures.reduced c.give_bundle.ensures.exprs c.give_bundle.ensures.mapped

pub lower_operands-returns-in_err-bundle-clause-goes_on : goal.lower_operands-returns-in_err-bundle-clause-goes_on
lower_operands-returns-in_err-bundle-clause-goes_on t c = c.together.ensures.goes_on

pub lower_operands-returns-in_err-expr-clause-goes_on : goal.lower_operands-returns-in_err-expr-clause-goes_on
lower_operands-returns-in_err-expr-clause-goes_on t c = goes_added c.args.arena.now.items c.together.new.arena.items c.add_expr.new.arena.items c.args.low.now c.together.new.low c.together.ensures.goes_on c.add_expr.ensures.entries c.add_expr.ensures.kept

pub lower_operands-returns-clause-goes_on : goal.lower_operands-returns-clause-goes_on
lower_operands-returns-clause-goes_on t c = goes_added c.args.arena.now.items c.together.new.arena.items c.add_expr.new.arena.items c.args.low.now c.together.new.low c.together.ensures.goes_on c.add_expr.ensures.entries c.add_expr.ensures.kept

pub lower_sort-returns-clause-follows : goal.lower_sort-returns-clause-follows
lower_sort-returns-clause-follows t c =
    ok_then c.give.result
    (λ es er ee em. sort_follows (stream_of c.args.input) c.args.expr c.args.descending c.args.nulls_last c.args.arena.now.items c.select.new.arena.items c.add_column.new.arena.items c.args.low.now c.fresh.new.low c.select.new.low c.over_same_columns.new.low c.args.call.now c.give.new.self
    c.in_ok-name.name c.in_ok-names.names.items c.in_ok-stream.stream c.in_ok-sorted.sorted c.in_ok-column.column c.sort_of.result c.requires.cache c.requires.whole c.in_ok-name.ensures.name c.in_ok-name.ensures.next (c.in_ok-names.ensures.one ∙ ap (λ n. n ∷ []) c.in_ok-copied.ensures.same) c.in_ok-stream.ensures.makes
    c.add_column.ensures.entries c.add_column.ensures.kept c.in_ok-column.ensures.tree
    (λ f. c.sort_of.ensures.kind f ∙ (λ i. in_memory_map (sort (record { keys = (ap (key_trees f) c.in_ok-keys.ensures.one ∙ ap (λ n. f n ∷ []) c.under_name.ensures.node) i; descending = (c.new.ensures ∙ c.in_ok-one_of.ensures.one) i; nulls_last = (c.new-2.ensures ∙ c.in_ok-one_of-2.ensures.one) i; cut = None }))))
    c.in_ok-sorted.ensures.made c.over_same_columns.ensures.nodes c.over_same_columns.ensures.others es er ee em) c.give.ensures.streams c.give.ensures.reduced c.give.ensures.exprs c.give.ensures.mapped

pub lower_sort-returns-in_err-name-clause-goes_on : goal.lower_sort-returns-in_err-name-clause-goes_on
lower_sort-returns-in_err-name-clause-goes_on t c = goes_fresh c.fresh.result c.args.arena.now.items c.args.low.now c.fresh.new.low c.requires.cache c.fresh.ensures.next c.fresh.ensures.same

pub lower_sort-returns-in_err-copied-clause-goes_on : goal.lower_sort-returns-in_err-copied-clause-goes_on
lower_sort-returns-in_err-copied-clause-goes_on t c = goes_fresh c.fresh.result c.args.arena.now.items c.args.low.now c.fresh.new.low c.requires.cache c.fresh.ensures.next c.fresh.ensures.same

pub lower_sort-returns-in_err-names-clause-goes_on : goal.lower_sort-returns-in_err-names-clause-goes_on
lower_sort-returns-in_err-names-clause-goes_on t c = goes_fresh c.fresh.result c.args.arena.now.items c.args.low.now c.fresh.new.low c.requires.cache c.fresh.ensures.next c.fresh.ensures.same

pub lower_sort-returns-in_err-stream-clause-goes_on : goal.lower_sort-returns-in_err-stream-clause-goes_on
lower_sort-returns-in_err-stream-clause-goes_on t c = goes_then c.args.arena.now.items c.args.arena.now.items c.select.new.arena.items c.args.low.now c.fresh.new.low c.select.new.low (goes_fresh c.fresh.result c.args.arena.now.items c.args.low.now c.fresh.new.low c.requires.cache c.fresh.ensures.next c.fresh.ensures.same) c.select.ensures.goes_on

pub lower_sort-returns-in_err-column-clause-goes_on : goal.lower_sort-returns-in_err-column-clause-goes_on
lower_sort-returns-in_err-column-clause-goes_on t c = goes_added c.args.arena.now.items c.select.new.arena.items c.add_column.new.arena.items c.args.low.now c.select.new.low (goes_then c.args.arena.now.items c.args.arena.now.items c.select.new.arena.items c.args.low.now c.fresh.new.low c.select.new.low (goes_fresh c.fresh.result c.args.arena.now.items c.args.low.now c.fresh.new.low c.requires.cache c.fresh.ensures.next c.fresh.ensures.same) c.select.ensures.goes_on) c.add_column.ensures.entries c.add_column.ensures.kept

pub lower_sort-returns-in_err-keys-clause-goes_on : goal.lower_sort-returns-in_err-keys-clause-goes_on
lower_sort-returns-in_err-keys-clause-goes_on t c = goes_added c.args.arena.now.items c.select.new.arena.items c.add_column.new.arena.items c.args.low.now c.select.new.low (goes_then c.args.arena.now.items c.args.arena.now.items c.select.new.arena.items c.args.low.now c.fresh.new.low c.select.new.low (goes_fresh c.fresh.result c.args.arena.now.items c.args.low.now c.fresh.new.low c.requires.cache c.fresh.ensures.next c.fresh.ensures.same) c.select.ensures.goes_on) c.add_column.ensures.entries c.add_column.ensures.kept

pub lower_sort-returns-in_err-one_of-clause-goes_on : goal.lower_sort-returns-in_err-one_of-clause-goes_on
lower_sort-returns-in_err-one_of-clause-goes_on t c = goes_added c.args.arena.now.items c.select.new.arena.items c.add_column.new.arena.items c.args.low.now c.select.new.low (goes_then c.args.arena.now.items c.args.arena.now.items c.select.new.arena.items c.args.low.now c.fresh.new.low c.select.new.low (goes_fresh c.fresh.result c.args.arena.now.items c.args.low.now c.fresh.new.low c.requires.cache c.fresh.ensures.next c.fresh.ensures.same) c.select.ensures.goes_on) c.add_column.ensures.entries c.add_column.ensures.kept

pub lower_sort-returns-in_err-one_of-2-clause-goes_on : goal.lower_sort-returns-in_err-one_of-2-clause-goes_on
lower_sort-returns-in_err-one_of-2-clause-goes_on t c = goes_added c.args.arena.now.items c.select.new.arena.items c.add_column.new.arena.items c.args.low.now c.select.new.low (goes_then c.args.arena.now.items c.args.arena.now.items c.select.new.arena.items c.args.low.now c.fresh.new.low c.select.new.low (goes_fresh c.fresh.result c.args.arena.now.items c.args.low.now c.fresh.new.low c.requires.cache c.fresh.ensures.next c.fresh.ensures.same) c.select.ensures.goes_on) c.add_column.ensures.entries c.add_column.ensures.kept

pub lower_sort-returns-in_err-sorted-clause-goes_on : goal.lower_sort-returns-in_err-sorted-clause-goes_on
lower_sort-returns-in_err-sorted-clause-goes_on t c = goes_built c.args.arena.now.items c.add_column.new.arena.items c.args.low.now c.select.new.low c.over_same_columns.new.low (goes_added c.args.arena.now.items c.select.new.arena.items c.add_column.new.arena.items c.args.low.now c.select.new.low (goes_then c.args.arena.now.items c.args.arena.now.items c.select.new.arena.items c.args.low.now c.fresh.new.low c.select.new.low (goes_fresh c.fresh.result c.args.arena.now.items c.args.low.now c.fresh.new.low c.requires.cache c.fresh.ensures.next c.fresh.ensures.same) c.select.ensures.goes_on) c.add_column.ensures.entries c.add_column.ensures.kept) c.over_same_columns.ensures.nodes c.over_same_columns.ensures.others

pub lower_sort-returns-clause-goes_on : goal.lower_sort-returns-clause-goes_on
lower_sort-returns-clause-goes_on t c = goes_built c.args.arena.now.items c.add_column.new.arena.items c.args.low.now c.select.new.low c.over_same_columns.new.low (goes_added c.args.arena.now.items c.select.new.arena.items c.add_column.new.arena.items c.args.low.now c.select.new.low (goes_then c.args.arena.now.items c.args.arena.now.items c.select.new.arena.items c.args.low.now c.fresh.new.low c.select.new.low (goes_fresh c.fresh.result c.args.arena.now.items c.args.low.now c.fresh.new.low c.requires.cache c.fresh.ensures.next c.fresh.ensures.same) c.select.ensures.goes_on) c.add_column.ensures.entries c.add_column.ensures.kept) c.over_same_columns.ensures.nodes c.over_same_columns.ensures.others

pub lower_sort_by-select-requires : goal.lower_sort_by-select-requires
lower_sort_by-select-requires t c =
    let less : 16 * trees_size (trees_of (tree_at c.args.arena.now.items) c.as_slice-operands.result.now) + 6 < 16 * (tree_size (tree_at c.args.arena.now.items c.args.values) + trees_size (trees_of (tree_at c.args.arena.now.items) c.args.by.now)) + 7 = (let all : trees_size (trees_of (tree_at c.args.arena.now.items) c.as_slice-operands.result.now) ≡ tree_size (tree_at c.args.arena.now.items c.args.values) + trees_size (trees_of (tree_at c.args.arena.now.items) c.args.by.now) = ap (λ (ns : List Node). trees_size (trees_of (tree_at c.args.arena.now.items) ns)) (c.as_slice-operands.ensures.value ∙ c.in_ok-listed.ensures.all) in omega arith) in
    let falls : 16 * trees_size (trees_of (tree_at c.args.arena.now.items) c.as_slice-operands.result.now) + 6 < t = omega arith in (
      falls,
      (
        subst (λ (ns : List Node). AllByRecursion IsComplete (trees_at (tree_at c.args.arena.now.items) ns)) (sym (c.as_slice-operands.ensures.value ∙ c.in_ok-listed.ensures.all)) (c.requires.values, c.requires.by),
        (
          (goes_renamed c.args.arena.now.items c.args.low.now c.fresh_names.new.low c.requires.cache c.fresh_names.ensures.known c.fresh_names.ensures.others).cache,
          ap length (c.in_ok-asked.ensures.same ∙ c.as_slice-names.ensures.value ∙ c.in_ok-given.ensures.names (tree_at c.args.arena.now.items)) ∙ as_many_names c.as_slice-operands.result.now (state_of (tree_at c.args.arena.now.items) c.args.low.now),
        ),
      ),
    )

pub lower_sort_by-returns-clause-follows : goal.lower_sort_by-returns-clause-follows
lower_sort_by-returns-clause-follows t c =
    ok_then c.give.result
    (sort_by_follows (stream_of c.args.input) c.args.values c.args.by.now c.args.options.descending c.args.options.nulls_last c.args.arena.now.items c.select.new.arena.items c.value_and_keys.new.arena.items c.args.low.now c.fresh_names.new.low c.select.new.low c.over_same_columns.new.low
    c.as_slice-names.result.now c.in_ok-asked.asked.items c.in_ok-stream.stream c.in_ok-sorted.sorted c.in_ok-column.column c.in_ok-column.keys.items c.sort_of.result c.as_slice-operands.result.now
    (c.as_slice-operands.ensures.value ∙ c.in_ok-listed.ensures.all) (λ f. c.as_slice-names.ensures.value ∙ c.in_ok-given.ensures.names f) c.in_ok-given.ensures.next (goes_renamed c.args.arena.now.items c.args.low.now c.fresh_names.new.low c.requires.cache c.fresh_names.ensures.known c.fresh_names.ensures.others) c.fresh_names.ensures.others c.in_ok-asked.ensures.same c.in_ok-stream.ensures.makes
    c.value_and_keys.ensures.entries c.value_and_keys.ensures.kept c.in_ok-column.ensures.value c.in_ok-column.ensures.keys c.sort_of.ensures.kind c.in_ok-sorted.ensures.made c.over_same_columns.ensures.nodes c.over_same_columns.ensures.others
    c.columns_of.new.low c.in_ok-kept.kept (λ f. c.in_ok-kept.ensures.made f ∙ ap (λ (ns : List Name). with_columns c.over_same_columns.new.low.origin.0 ns (stream_of c.in_ok-sorted.sorted) (state_of f c.over_same_columns.new.low)) c.in_ok-alone.ensures.first) c.columns_of.ensures.nodes c.columns_of.ensures.others
    c.args.call.now c.give.new.self c.requires.whole) c.give.ensures.streams c.give.ensures.reduced c.give.ensures.exprs c.give.ensures.mapped

pub lower_sort_by-returns-in_err-listed-clause-goes_on : goal.lower_sort_by-returns-in_err-listed-clause-goes_on
lower_sort_by-returns-in_err-listed-clause-goes_on t c = goes_nowhere c.args.arena.now.items c.args.low.now c.args.low.now c.requires.cache refl

pub lower_sort_by-returns-in_err-given-clause-goes_on : goal.lower_sort_by-returns-in_err-given-clause-goes_on
lower_sort_by-returns-in_err-given-clause-goes_on t c = goes_renamed c.args.arena.now.items c.args.low.now c.fresh_names.new.low c.requires.cache c.fresh_names.ensures.known c.fresh_names.ensures.others

pub lower_sort_by-returns-in_err-asked-clause-goes_on : goal.lower_sort_by-returns-in_err-asked-clause-goes_on
lower_sort_by-returns-in_err-asked-clause-goes_on t c = goes_renamed c.args.arena.now.items c.args.low.now c.fresh_names.new.low c.requires.cache c.fresh_names.ensures.known c.fresh_names.ensures.others

pub lower_sort_by-returns-in_err-stream-clause-goes_on : goal.lower_sort_by-returns-in_err-stream-clause-goes_on
lower_sort_by-returns-in_err-stream-clause-goes_on t c = goes_then c.args.arena.now.items c.args.arena.now.items c.select.new.arena.items c.args.low.now c.fresh_names.new.low c.select.new.low (goes_renamed c.args.arena.now.items c.args.low.now c.fresh_names.new.low c.requires.cache c.fresh_names.ensures.known c.fresh_names.ensures.others) c.select.ensures.goes_on

pub lower_sort_by-returns-in_err-column-clause-goes_on : goal.lower_sort_by-returns-in_err-column-clause-goes_on
lower_sort_by-returns-in_err-column-clause-goes_on t c = goes_added c.args.arena.now.items c.select.new.arena.items c.value_and_keys.new.arena.items c.args.low.now c.select.new.low (goes_then c.args.arena.now.items c.args.arena.now.items c.select.new.arena.items c.args.low.now c.fresh_names.new.low c.select.new.low (goes_renamed c.args.arena.now.items c.args.low.now c.fresh_names.new.low c.requires.cache c.fresh_names.ensures.known c.fresh_names.ensures.others) c.select.ensures.goes_on) c.value_and_keys.ensures.entries c.value_and_keys.ensures.kept

pub lower_sort_by-returns-in_err-sorted-clause-goes_on : goal.lower_sort_by-returns-in_err-sorted-clause-goes_on
lower_sort_by-returns-in_err-sorted-clause-goes_on t c = goes_built c.args.arena.now.items c.value_and_keys.new.arena.items c.args.low.now c.select.new.low c.over_same_columns.new.low (goes_added c.args.arena.now.items c.select.new.arena.items c.value_and_keys.new.arena.items c.args.low.now c.select.new.low (goes_then c.args.arena.now.items c.args.arena.now.items c.select.new.arena.items c.args.low.now c.fresh_names.new.low c.select.new.low (goes_renamed c.args.arena.now.items c.args.low.now c.fresh_names.new.low c.requires.cache c.fresh_names.ensures.known c.fresh_names.ensures.others) c.select.ensures.goes_on) c.value_and_keys.ensures.entries c.value_and_keys.ensures.kept) c.over_same_columns.ensures.nodes c.over_same_columns.ensures.others

pub lower_sort_by-returns-in_err-alone-clause-goes_on : goal.lower_sort_by-returns-in_err-alone-clause-goes_on
lower_sort_by-returns-in_err-alone-clause-goes_on t c = goes_built c.args.arena.now.items c.value_and_keys.new.arena.items c.args.low.now c.select.new.low c.over_same_columns.new.low (goes_added c.args.arena.now.items c.select.new.arena.items c.value_and_keys.new.arena.items c.args.low.now c.select.new.low (goes_then c.args.arena.now.items c.args.arena.now.items c.select.new.arena.items c.args.low.now c.fresh_names.new.low c.select.new.low (goes_renamed c.args.arena.now.items c.args.low.now c.fresh_names.new.low c.requires.cache c.fresh_names.ensures.known c.fresh_names.ensures.others) c.select.ensures.goes_on) c.value_and_keys.ensures.entries c.value_and_keys.ensures.kept) c.over_same_columns.ensures.nodes c.over_same_columns.ensures.others

pub lower_sort_by-returns-in_err-kept-clause-goes_on : goal.lower_sort_by-returns-in_err-kept-clause-goes_on
lower_sort_by-returns-in_err-kept-clause-goes_on t c = goes_built c.args.arena.now.items c.value_and_keys.new.arena.items c.args.low.now c.over_same_columns.new.low c.columns_of.new.low (goes_built c.args.arena.now.items c.value_and_keys.new.arena.items c.args.low.now c.select.new.low c.over_same_columns.new.low (goes_added c.args.arena.now.items c.select.new.arena.items c.value_and_keys.new.arena.items c.args.low.now c.select.new.low (goes_then c.args.arena.now.items c.args.arena.now.items c.select.new.arena.items c.args.low.now c.fresh_names.new.low c.select.new.low (goes_renamed c.args.arena.now.items c.args.low.now c.fresh_names.new.low c.requires.cache c.fresh_names.ensures.known c.fresh_names.ensures.others) c.select.ensures.goes_on) c.value_and_keys.ensures.entries c.value_and_keys.ensures.kept) c.over_same_columns.ensures.nodes c.over_same_columns.ensures.others) c.columns_of.ensures.nodes c.columns_of.ensures.others

pub lower_sort_by-returns-clause-goes_on : goal.lower_sort_by-returns-clause-goes_on
lower_sort_by-returns-clause-goes_on t c = goes_built c.args.arena.now.items c.value_and_keys.new.arena.items c.args.low.now c.over_same_columns.new.low c.columns_of.new.low (goes_built c.args.arena.now.items c.value_and_keys.new.arena.items c.args.low.now c.select.new.low c.over_same_columns.new.low (goes_added c.args.arena.now.items c.select.new.arena.items c.value_and_keys.new.arena.items c.args.low.now c.select.new.low (goes_then c.args.arena.now.items c.args.arena.now.items c.select.new.arena.items c.args.low.now c.fresh_names.new.low c.select.new.low (goes_renamed c.args.arena.now.items c.args.low.now c.fresh_names.new.low c.requires.cache c.fresh_names.ensures.known c.fresh_names.ensures.others) c.select.ensures.goes_on) c.value_and_keys.ensures.entries c.value_and_keys.ensures.kept) c.over_same_columns.ensures.nodes c.over_same_columns.ensures.others) c.columns_of.ensures.nodes c.columns_of.ensures.others

pub lower_filter-select-requires : goal.lower_filter-select-requires
lower_filter-select-requires t c =
    let less : 16 * (tree_size (tree_at c.args.arena.now.items c.args.values) + (tree_size (tree_at c.args.arena.now.items c.args.by) + 0)) + 6 < 16 * (tree_size (tree_at c.args.arena.now.items c.args.values) + tree_size (tree_at c.args.arena.now.items c.args.by)) + 7 = omega arith in
    let falls : 16 * (tree_size (tree_at c.args.arena.now.items c.args.values) + (tree_size (tree_at c.args.arena.now.items c.args.by) + 0)) + 6 < t = omega arith in (
      falls,
      (
        (c.requires.values, (c.requires.by, tt)),
        (
          (goes_fresh c.fresh-2.result c.args.arena.now.items c.fresh.new.low c.fresh-2.new.low (goes_fresh c.fresh.result c.args.arena.now.items c.args.low.now c.fresh.new.low c.requires.cache c.fresh.ensures.next c.fresh.ensures.same).cache c.fresh-2.ensures.next c.fresh-2.ensures.same).cache,
          ap length (pushed_two c.in_ok-names.ensures.one c.in_ok-copied.ensures.same c.in_ok-copied-2.ensures.same c.in_ok-push.ensures.items),
        ),
      ),
    )

pub lower_filter-returns-clause-follows : goal.lower_filter-returns-clause-follows
lower_filter-returns-clause-follows t c =
    ok_then c.give.result
    (λ es er ee em. filter_follows (stream_of c.args.input) c.args.values c.args.by c.args.arena.now.items c.select.new.arena.items c.add_column-2.new.arena.items c.args.low.now c.fresh.new.low c.fresh-2.new.low c.select.new.low c.over_same_columns.new.low c.args.call.now c.give.new.self
    c.in_ok-value_name.value_name c.in_ok-by_name.by_name c.push.new.self.items c.in_ok-stream.stream c.in_ok-filtered.filtered c.in_ok-value.value c.in_ok-add_column.field-0 (phys.Filter c.in_ok-stream.stream c.under_name-predicate.result) c.requires.cache c.requires.whole
    c.in_ok-value_name.ensures.name c.in_ok-value_name.ensures.next c.in_ok-by_name.ensures.name c.in_ok-by_name.ensures.next (pushed_two c.in_ok-names.ensures.one c.in_ok-copied.ensures.same c.in_ok-copied-2.ensures.same c.in_ok-push.ensures.items)
    c.in_ok-stream.ensures.makes (begins_then c.select.new.arena.items c.add_column.new.arena.items c.add_column-2.new.arena.items c.add_column.ensures.entries c.add_column-2.ensures.entries) (kept-then c.select.new.arena.items c.add_column.new.arena.items c.add_column-2.new.arena.items c.add_column.ensures.kept c.add_column-2.ensures.kept)
    (tree_later c.add_column.new.arena.items c.add_column-2.new.arena.items c.add_column-2.ensures.kept c.in_ok-value.value (Tree.column c.in_ok-value_name.value_name) c.in_ok-value.ensures.tree tt) c.in_ok-add_column.ensures.tree
    (λ f. ap (λ (n : Node). filter_node (f n)) c.under_name-predicate.ensures.node) c.in_ok-filtered.ensures.made c.over_same_columns.ensures.nodes c.over_same_columns.ensures.others es er ee em) c.give.ensures.streams c.give.ensures.reduced c.give.ensures.exprs c.give.ensures.mapped

pub lower_filter-returns-in_err-value_name-clause-goes_on : goal.lower_filter-returns-in_err-value_name-clause-goes_on
lower_filter-returns-in_err-value_name-clause-goes_on t c = goes_fresh c.fresh.result c.args.arena.now.items c.args.low.now c.fresh.new.low c.requires.cache c.fresh.ensures.next c.fresh.ensures.same

pub lower_filter-returns-in_err-by_name-clause-goes_on : goal.lower_filter-returns-in_err-by_name-clause-goes_on
lower_filter-returns-in_err-by_name-clause-goes_on t c = goes_then c.args.arena.now.items c.args.arena.now.items c.args.arena.now.items c.args.low.now c.fresh.new.low c.fresh-2.new.low (goes_fresh c.fresh.result c.args.arena.now.items c.args.low.now c.fresh.new.low c.requires.cache c.fresh.ensures.next c.fresh.ensures.same) (goes_fresh c.fresh-2.result c.args.arena.now.items c.fresh.new.low c.fresh-2.new.low (goes_fresh c.fresh.result c.args.arena.now.items c.args.low.now c.fresh.new.low c.requires.cache c.fresh.ensures.next c.fresh.ensures.same).cache c.fresh-2.ensures.next c.fresh-2.ensures.same)

pub lower_filter-returns-in_err-copied-clause-goes_on : goal.lower_filter-returns-in_err-copied-clause-goes_on
lower_filter-returns-in_err-copied-clause-goes_on t c = goes_then c.args.arena.now.items c.args.arena.now.items c.args.arena.now.items c.args.low.now c.fresh.new.low c.fresh-2.new.low (goes_fresh c.fresh.result c.args.arena.now.items c.args.low.now c.fresh.new.low c.requires.cache c.fresh.ensures.next c.fresh.ensures.same) (goes_fresh c.fresh-2.result c.args.arena.now.items c.fresh.new.low c.fresh-2.new.low (goes_fresh c.fresh.result c.args.arena.now.items c.args.low.now c.fresh.new.low c.requires.cache c.fresh.ensures.next c.fresh.ensures.same).cache c.fresh-2.ensures.next c.fresh-2.ensures.same)

pub lower_filter-returns-in_err-names-clause-goes_on : goal.lower_filter-returns-in_err-names-clause-goes_on
lower_filter-returns-in_err-names-clause-goes_on t c = goes_then c.args.arena.now.items c.args.arena.now.items c.args.arena.now.items c.args.low.now c.fresh.new.low c.fresh-2.new.low (goes_fresh c.fresh.result c.args.arena.now.items c.args.low.now c.fresh.new.low c.requires.cache c.fresh.ensures.next c.fresh.ensures.same) (goes_fresh c.fresh-2.result c.args.arena.now.items c.fresh.new.low c.fresh-2.new.low (goes_fresh c.fresh.result c.args.arena.now.items c.args.low.now c.fresh.new.low c.requires.cache c.fresh.ensures.next c.fresh.ensures.same).cache c.fresh-2.ensures.next c.fresh-2.ensures.same)

pub lower_filter-returns-in_err-copied-2-clause-goes_on : goal.lower_filter-returns-in_err-copied-2-clause-goes_on
lower_filter-returns-in_err-copied-2-clause-goes_on t c = goes_then c.args.arena.now.items c.args.arena.now.items c.args.arena.now.items c.args.low.now c.fresh.new.low c.fresh-2.new.low (goes_fresh c.fresh.result c.args.arena.now.items c.args.low.now c.fresh.new.low c.requires.cache c.fresh.ensures.next c.fresh.ensures.same) (goes_fresh c.fresh-2.result c.args.arena.now.items c.fresh.new.low c.fresh-2.new.low (goes_fresh c.fresh.result c.args.arena.now.items c.args.low.now c.fresh.new.low c.requires.cache c.fresh.ensures.next c.fresh.ensures.same).cache c.fresh-2.ensures.next c.fresh-2.ensures.same)

pub lower_filter-returns-in_err-push-clause-goes_on : goal.lower_filter-returns-in_err-push-clause-goes_on
lower_filter-returns-in_err-push-clause-goes_on t c = goes_then c.args.arena.now.items c.args.arena.now.items c.args.arena.now.items c.args.low.now c.fresh.new.low c.fresh-2.new.low (goes_fresh c.fresh.result c.args.arena.now.items c.args.low.now c.fresh.new.low c.requires.cache c.fresh.ensures.next c.fresh.ensures.same) (goes_fresh c.fresh-2.result c.args.arena.now.items c.fresh.new.low c.fresh-2.new.low (goes_fresh c.fresh.result c.args.arena.now.items c.args.low.now c.fresh.new.low c.requires.cache c.fresh.ensures.next c.fresh.ensures.same).cache c.fresh-2.ensures.next c.fresh-2.ensures.same)

pub lower_filter-returns-in_err-stream-clause-goes_on : goal.lower_filter-returns-in_err-stream-clause-goes_on
lower_filter-returns-in_err-stream-clause-goes_on t c = goes_then c.args.arena.now.items c.args.arena.now.items c.select.new.arena.items c.args.low.now c.fresh-2.new.low c.select.new.low (goes_then c.args.arena.now.items c.args.arena.now.items c.args.arena.now.items c.args.low.now c.fresh.new.low c.fresh-2.new.low (goes_fresh c.fresh.result c.args.arena.now.items c.args.low.now c.fresh.new.low c.requires.cache c.fresh.ensures.next c.fresh.ensures.same) (goes_fresh c.fresh-2.result c.args.arena.now.items c.fresh.new.low c.fresh-2.new.low (goes_fresh c.fresh.result c.args.arena.now.items c.args.low.now c.fresh.new.low c.requires.cache c.fresh.ensures.next c.fresh.ensures.same).cache c.fresh-2.ensures.next c.fresh-2.ensures.same)) c.select.ensures.goes_on

pub lower_filter-returns-in_err-value-clause-goes_on : goal.lower_filter-returns-in_err-value-clause-goes_on
lower_filter-returns-in_err-value-clause-goes_on t c = goes_added c.args.arena.now.items c.select.new.arena.items c.add_column.new.arena.items c.args.low.now c.select.new.low (goes_then c.args.arena.now.items c.args.arena.now.items c.select.new.arena.items c.args.low.now c.fresh-2.new.low c.select.new.low (goes_then c.args.arena.now.items c.args.arena.now.items c.args.arena.now.items c.args.low.now c.fresh.new.low c.fresh-2.new.low (goes_fresh c.fresh.result c.args.arena.now.items c.args.low.now c.fresh.new.low c.requires.cache c.fresh.ensures.next c.fresh.ensures.same) (goes_fresh c.fresh-2.result c.args.arena.now.items c.fresh.new.low c.fresh-2.new.low (goes_fresh c.fresh.result c.args.arena.now.items c.args.low.now c.fresh.new.low c.requires.cache c.fresh.ensures.next c.fresh.ensures.same).cache c.fresh-2.ensures.next c.fresh-2.ensures.same)) c.select.ensures.goes_on) c.add_column.ensures.entries c.add_column.ensures.kept

pub lower_filter-returns-in_err-copied-3-clause-goes_on : goal.lower_filter-returns-in_err-copied-3-clause-goes_on
lower_filter-returns-in_err-copied-3-clause-goes_on t c = goes_added c.args.arena.now.items c.select.new.arena.items c.add_column.new.arena.items c.args.low.now c.select.new.low (goes_then c.args.arena.now.items c.args.arena.now.items c.select.new.arena.items c.args.low.now c.fresh-2.new.low c.select.new.low (goes_then c.args.arena.now.items c.args.arena.now.items c.args.arena.now.items c.args.low.now c.fresh.new.low c.fresh-2.new.low (goes_fresh c.fresh.result c.args.arena.now.items c.args.low.now c.fresh.new.low c.requires.cache c.fresh.ensures.next c.fresh.ensures.same) (goes_fresh c.fresh-2.result c.args.arena.now.items c.fresh.new.low c.fresh-2.new.low (goes_fresh c.fresh.result c.args.arena.now.items c.args.low.now c.fresh.new.low c.requires.cache c.fresh.ensures.next c.fresh.ensures.same).cache c.fresh-2.ensures.next c.fresh-2.ensures.same)) c.select.ensures.goes_on) c.add_column.ensures.entries c.add_column.ensures.kept

pub lower_filter-returns-in_err-add_column-clause-goes_on : goal.lower_filter-returns-in_err-add_column-clause-goes_on
lower_filter-returns-in_err-add_column-clause-goes_on t c = goes_added c.args.arena.now.items c.add_column.new.arena.items c.add_column-2.new.arena.items c.args.low.now c.select.new.low (goes_added c.args.arena.now.items c.select.new.arena.items c.add_column.new.arena.items c.args.low.now c.select.new.low (goes_then c.args.arena.now.items c.args.arena.now.items c.select.new.arena.items c.args.low.now c.fresh-2.new.low c.select.new.low (goes_then c.args.arena.now.items c.args.arena.now.items c.args.arena.now.items c.args.low.now c.fresh.new.low c.fresh-2.new.low (goes_fresh c.fresh.result c.args.arena.now.items c.args.low.now c.fresh.new.low c.requires.cache c.fresh.ensures.next c.fresh.ensures.same) (goes_fresh c.fresh-2.result c.args.arena.now.items c.fresh.new.low c.fresh-2.new.low (goes_fresh c.fresh.result c.args.arena.now.items c.args.low.now c.fresh.new.low c.requires.cache c.fresh.ensures.next c.fresh.ensures.same).cache c.fresh-2.ensures.next c.fresh-2.ensures.same)) c.select.ensures.goes_on) c.add_column.ensures.entries c.add_column.ensures.kept) c.add_column-2.ensures.entries c.add_column-2.ensures.kept

pub lower_filter-returns-in_err-filtered-clause-goes_on : goal.lower_filter-returns-in_err-filtered-clause-goes_on
lower_filter-returns-in_err-filtered-clause-goes_on t c = goes_built c.args.arena.now.items c.add_column-2.new.arena.items c.args.low.now c.select.new.low c.over_same_columns.new.low (goes_added c.args.arena.now.items c.add_column.new.arena.items c.add_column-2.new.arena.items c.args.low.now c.select.new.low (goes_added c.args.arena.now.items c.select.new.arena.items c.add_column.new.arena.items c.args.low.now c.select.new.low (goes_then c.args.arena.now.items c.args.arena.now.items c.select.new.arena.items c.args.low.now c.fresh-2.new.low c.select.new.low (goes_then c.args.arena.now.items c.args.arena.now.items c.args.arena.now.items c.args.low.now c.fresh.new.low c.fresh-2.new.low (goes_fresh c.fresh.result c.args.arena.now.items c.args.low.now c.fresh.new.low c.requires.cache c.fresh.ensures.next c.fresh.ensures.same) (goes_fresh c.fresh-2.result c.args.arena.now.items c.fresh.new.low c.fresh-2.new.low (goes_fresh c.fresh.result c.args.arena.now.items c.args.low.now c.fresh.new.low c.requires.cache c.fresh.ensures.next c.fresh.ensures.same).cache c.fresh-2.ensures.next c.fresh-2.ensures.same)) c.select.ensures.goes_on) c.add_column.ensures.entries c.add_column.ensures.kept) c.add_column-2.ensures.entries c.add_column-2.ensures.kept) c.over_same_columns.ensures.nodes c.over_same_columns.ensures.others

pub lower_filter-returns-clause-goes_on : goal.lower_filter-returns-clause-goes_on
lower_filter-returns-clause-goes_on t c = goes_built c.args.arena.now.items c.add_column-2.new.arena.items c.args.low.now c.select.new.low c.over_same_columns.new.low (goes_added c.args.arena.now.items c.add_column.new.arena.items c.add_column-2.new.arena.items c.args.low.now c.select.new.low (goes_added c.args.arena.now.items c.select.new.arena.items c.add_column.new.arena.items c.args.low.now c.select.new.low (goes_then c.args.arena.now.items c.args.arena.now.items c.select.new.arena.items c.args.low.now c.fresh-2.new.low c.select.new.low (goes_then c.args.arena.now.items c.args.arena.now.items c.args.arena.now.items c.args.low.now c.fresh.new.low c.fresh-2.new.low (goes_fresh c.fresh.result c.args.arena.now.items c.args.low.now c.fresh.new.low c.requires.cache c.fresh.ensures.next c.fresh.ensures.same) (goes_fresh c.fresh-2.result c.args.arena.now.items c.fresh.new.low c.fresh-2.new.low (goes_fresh c.fresh.result c.args.arena.now.items c.args.low.now c.fresh.new.low c.requires.cache c.fresh.ensures.next c.fresh.ensures.same).cache c.fresh-2.ensures.next c.fresh-2.ensures.same)) c.select.ensures.goes_on) c.add_column.ensures.entries c.add_column.ensures.kept) c.add_column-2.ensures.entries c.add_column-2.ensures.kept) c.over_same_columns.ensures.nodes c.over_same_columns.ensures.others

pub lower_aggregate-returns-then-reduced-clause-follows : goal.lower_aggregate-returns-then-reduced-clause-follows
lower_aggregate-returns-then-reduced-clause-follows t c =
    same_follows _ (lower c.args.low.now.origin.0 (stream_of c.args.input) (tree_at c.args.arena.now.items c.args.expr))
    (sym (aggregate_reduced c.args.low.now.origin.0 (stream_of c.args.input) (tree_at c.args.arena.now.items) (tree_at c.args.arena.now.items c.args.expr) c.args.aggregate c.requires.tree (sym c.is_reduced-reduced.ensures ∙ c.if-reduced.true)))
    c.reduce.result c.args.arena.now.items c.reduce.new.arena.items c.args.low.now c.reduce.new.low c.args.call.now c.reduce.new.call c.reduce.ensures.follows

pub lower_aggregate-returns-clause-follows : goal.lower_aggregate-returns-clause-follows
lower_aggregate-returns-clause-follows t c =
    same_follows (left_to_map (tree_at c.args.arena.now.items c.args.expr)) (lower c.args.low.now.origin.0 (stream_of c.args.input) (tree_at c.args.arena.now.items c.args.expr))
    (sym (aggregate_left c.args.low.now.origin.0 (stream_of c.args.input) (tree_at c.args.arena.now.items) (tree_at c.args.arena.now.items c.args.expr) c.args.aggregate c.requires.tree (sym c.is_reduced-reduced.ensures ∙ c.if-reduced.false)))
    c.leave_to_map.result c.args.arena.now.items c.leave_to_map.new.arena.items c.args.low.now c.leave_to_map.new.low c.args.call.now c.leave_to_map.new.call c.leave_to_map.ensures.follows

pub reduce-returns-then-is_input_alone-clause-follows : goal.reduce-returns-then-is_input_alone-clause-follows
reduce-returns-then-is_input_alone-clause-follows t c =
    ok_then c.give_reduction.result
    (reduce_alone (stream_of c.args.input) (aggregation_of c.args.aggregate) (aggregate_operand c.args.aggregate) c.args.arena.now.items c.together.new.arena.items c.reduction_of.new.arena.items c.args.low.now c.together.new.low c.reduction_of.new.low c.args.call.now c.give_reduction.new.self c.in_ok-bundle.bundle c.in_ok-column.column c.in_ok-column.reduction c.requires.whole
    (subst (λ (n : Node). Gathers (together c.args.low.now.origin.0 (stream_of c.args.input) (map (as_operand c.args.low.now.origin.0 (stream_of c.args.input)) (trees_at (tree_at c.args.arena.now.items) (n ∷ [])))) c.args.arena.now.items c.together.new.arena.items c.args.low.now c.together.new.low c.in_ok-bundle.bundle) c.aggregated.ensures c.in_ok-bundle.ensures.gathers)
    (λ f. sym (c.is_input_alone.ensures f) ∙ c.if-is_input_alone.true) c.in_ok-column.ensures.next c.reduction_of.ensures.goes_on.entries c.reduction_of.ensures.goes_on.trees c.in_ok-column.ensures.column c.in_ok-column.ensures.whole (c.in_ok-column.ensures.tree ∙ ap (λ (ns : List Node). Tree.aggregate (aggregation_of c.args.aggregate) (first_tree (trees_at (tree_at c.together.new.arena.items) ns))) c.as_slice.ensures.value) c.in_ok-column.ensures.name)
    c.give_reduction.ensures.streams c.give_reduction.ensures.reduced c.give_reduction.ensures.exprs c.give_reduction.ensures.mapped

pub reduce-returns-clause-follows : goal.reduce-returns-clause-follows
reduce-returns-clause-follows t c =
    ok_then c.give.result
    (reduce_apart (stream_of c.args.input) (aggregation_of c.args.aggregate) (aggregate_operand c.args.aggregate) c.args.arena.now.items c.together.new.arena.items c.reduction_of-2.new.arena.items c.args.low.now c.together.new.low c.finish.new.low c.reduction_of-2.new.low c.over_selection.new.low c.args.call.now c.give.new.self c.in_ok-bundle.bundle c.in_ok-stream.stream c.in_ok-reduced.reduced c.in_ok-name.name c.in_ok-name.reduction c.in_ok-exprs.exprs.items c.requires.whole
    (subst (λ (n : Node). Gathers (together c.args.low.now.origin.0 (stream_of c.args.input) (map (as_operand c.args.low.now.origin.0 (stream_of c.args.input)) (trees_at (tree_at c.args.arena.now.items) (n ∷ [])))) c.args.arena.now.items c.together.new.arena.items c.args.low.now c.together.new.low c.in_ok-bundle.bundle) c.aggregated.ensures c.in_ok-bundle.ensures.gathers)
    (λ f. sym (c.is_input_alone.ensures f) ∙ c.if-is_input_alone.false) c.in_ok-stream.ensures.made c.finish.ensures.nodes c.finish.ensures.others c.in_ok-name.ensures.next c.reduction_of-2.ensures.goes_on.entries c.reduction_of-2.ensures.goes_on.trees c.in_ok-name.ensures.column c.in_ok-name.ensures.whole
    (c.in_ok-name.ensures.tree ∙ ap (λ (ns : List Node). Tree.aggregate (aggregation_of c.args.aggregate) (first_tree (trees_at (tree_at c.together.new.arena.items) ns))) (c.as_slice-2.ensures.value ∙ c.in_ok-stream.ensures.exprs)) c.in_ok-name.ensures.name c.in_ok-exprs.ensures.one c.in_ok-reduced.ensures.made c.over_selection.ensures.nodes c.over_selection.ensures.others)
    c.give.ensures.streams c.give.ensures.reduced c.give.ensures.exprs c.give.ensures.mapped

pub reduce-returns-in_err-bundle-clause-goes_on : goal.reduce-returns-in_err-bundle-clause-goes_on
reduce-returns-in_err-bundle-clause-goes_on t c = c.together.ensures.goes_on

pub reduce-returns-in_err-column-clause-goes_on : goal.reduce-returns-in_err-column-clause-goes_on
reduce-returns-in_err-column-clause-goes_on t c = goes_then c.args.arena.now.items c.together.new.arena.items c.reduction_of.new.arena.items c.args.low.now c.together.new.low c.reduction_of.new.low c.together.ensures.goes_on c.reduction_of.ensures.goes_on

pub reduce-returns-then-is_input_alone-clause-goes_on : goal.reduce-returns-then-is_input_alone-clause-goes_on
reduce-returns-then-is_input_alone-clause-goes_on t c = goes_then c.args.arena.now.items c.together.new.arena.items c.reduction_of.new.arena.items c.args.low.now c.together.new.low c.reduction_of.new.low c.together.ensures.goes_on c.reduction_of.ensures.goes_on

pub reduce-returns-in_err-stream-clause-goes_on : goal.reduce-returns-in_err-stream-clause-goes_on
reduce-returns-in_err-stream-clause-goes_on t c = goes_built c.args.arena.now.items c.together.new.arena.items c.args.low.now c.together.new.low c.finish.new.low c.together.ensures.goes_on c.finish.ensures.nodes c.finish.ensures.others

pub reduce-returns-in_err-name-clause-goes_on : goal.reduce-returns-in_err-name-clause-goes_on
reduce-returns-in_err-name-clause-goes_on t c = goes_then c.args.arena.now.items c.together.new.arena.items c.reduction_of-2.new.arena.items c.args.low.now c.finish.new.low c.reduction_of-2.new.low (goes_built c.args.arena.now.items c.together.new.arena.items c.args.low.now c.together.new.low c.finish.new.low c.together.ensures.goes_on c.finish.ensures.nodes c.finish.ensures.others) c.reduction_of-2.ensures.goes_on

pub reduce-returns-in_err-exprs-clause-goes_on : goal.reduce-returns-in_err-exprs-clause-goes_on
reduce-returns-in_err-exprs-clause-goes_on t c = goes_then c.args.arena.now.items c.together.new.arena.items c.reduction_of-2.new.arena.items c.args.low.now c.finish.new.low c.reduction_of-2.new.low (goes_built c.args.arena.now.items c.together.new.arena.items c.args.low.now c.together.new.low c.finish.new.low c.together.ensures.goes_on c.finish.ensures.nodes c.finish.ensures.others) c.reduction_of-2.ensures.goes_on

pub reduce-returns-in_err-reduced-clause-goes_on : goal.reduce-returns-in_err-reduced-clause-goes_on
reduce-returns-in_err-reduced-clause-goes_on t c = goes_built c.args.arena.now.items c.reduction_of-2.new.arena.items c.args.low.now c.reduction_of-2.new.low c.over_selection.new.low (goes_then c.args.arena.now.items c.together.new.arena.items c.reduction_of-2.new.arena.items c.args.low.now c.finish.new.low c.reduction_of-2.new.low (goes_built c.args.arena.now.items c.together.new.arena.items c.args.low.now c.together.new.low c.finish.new.low c.together.ensures.goes_on c.finish.ensures.nodes c.finish.ensures.others) c.reduction_of-2.ensures.goes_on) c.over_selection.ensures.nodes c.over_selection.ensures.others

pub reduce-returns-clause-goes_on : goal.reduce-returns-clause-goes_on
reduce-returns-clause-goes_on t c = goes_built c.args.arena.now.items c.reduction_of-2.new.arena.items c.args.low.now c.reduction_of-2.new.low c.over_selection.new.low (goes_then c.args.arena.now.items c.together.new.arena.items c.reduction_of-2.new.arena.items c.args.low.now c.finish.new.low c.reduction_of-2.new.low (goes_built c.args.arena.now.items c.together.new.arena.items c.args.low.now c.together.new.low c.finish.new.low c.together.ensures.goes_on c.finish.ensures.nodes c.finish.ensures.others) c.reduction_of-2.ensures.goes_on) c.over_selection.ensures.nodes c.over_selection.ensures.others

pub select-together-requires : goal.select-together-requires
select-together-requires t c =
    let less : 16 * trees_size (trees_of (tree_at c.args.arena.now.items) c.args.exprs.now) + 5 < 16 * trees_size (trees_of (tree_at c.args.arena.now.items) c.args.exprs.now) + 6 = omega arith in
    let falls : 16 * trees_size (trees_of (tree_at c.args.arena.now.items) c.args.exprs.now) + 5 < t = omega arith in
    (falls, (c.requires.exprs, c.are_independent.ensures.cache))

pub select-independent-requires : goal.select-independent-requires
select-independent-requires t c =
    record {
      whole = under_whole (tree_at c.args.arena.now.items) c.as_slice.result.now c.args.exprs.now c.in_ok-named.named.items (c.in_ok-named.ensures.named (tree_at c.args.arena.now.items)) c.requires.exprs;
    }

pub select-returns-then-all_apart-clause-makes : goal.select-returns-then-all_apart-clause-makes
select-returns-then-all_apart-clause-makes t c =
    select_apart_ok (stream_of c.args.input) c.args.names.items c.args.exprs.now c.args.arena.now.items c.args.low.now c.are_independent.new.low c.requires.names c.are_independent.ensures.others c.independent.result c.independent.new.low c.in_ok-named.named.items c.requires.exprs (sym c.in_ok-all_apart.ensures.are ∙ c.if-all_apart.true) c.are_independent.ensures.cache
    (λ f. c.in_ok-named.ensures.named f ∙ ap (λ (ns : List Name). under ns (trees_at f c.args.exprs.now)) c.as_slice.ensures.value) c.independent.ensures.made c.independent.ensures.nodes c.independent.ensures.others

pub select-returns-then-are_own_columns-clause-makes : goal.select-returns-then-are_own_columns-clause-makes
select-returns-then-are_own_columns-clause-makes t c =
    select_own_ok (stream_of c.args.input) c.args.names.items c.args.exprs.now c.args.arena.now.items c.args.low.now c.are_independent.new.low c.requires.names c.are_independent.ensures.others c.columns_of.result c.columns_of.new.low (sym c.in_ok-all_apart.ensures.are ∙ c.if-all_apart.false) (ap (λ (ns : List Name). are_own ns (trees_at (tree_at c.args.arena.now.items) c.args.exprs.now)) (sym c.as_slice-2.ensures.value) ∙ sym c.are_own_columns.ensures ∙ c.if-are_own_columns.true) c.are_independent.ensures.cache c.columns_of.ensures.made c.columns_of.ensures.nodes c.columns_of.ensures.others

pub select-over_selection-requires : goal.select-over_selection-requires
select-over_selection-requires t c =
    record {
      whole = under_whole (tree_at c.together.new.arena.items) c.as_slice-3.result.now c.as_slice-4.result.now c.in_ok-selected.selected.items (c.in_ok-selected.ensures.named (tree_at c.together.new.arena.items))
          (subst (λ (ns : List Node). AllByRecursion IsComplete (trees_at (tree_at c.together.new.arena.items) ns)) (sym (c.as_slice-4.ensures.value ∙ c.in_ok-stream.ensures.exprs)) c.in_ok-bundle.ensures.gathers.whole.exprs);
    }

pub select-returns-clause-makes : goal.select-returns-clause-makes
select-returns-clause-makes t c =
    select_computed_ok (stream_of c.args.input) c.args.names.items c.args.exprs.now c.args.arena.now.items c.args.low.now c.are_independent.new.low c.requires.names c.are_independent.ensures.others c.over_selection.result c.as_slice-4.result.now c.together.new.arena.items c.together.new.low c.finish.new.low c.over_selection.new.low c.in_ok-bundle.bundle c.in_ok-selected.selected.items c.in_ok-stream.stream (sym c.in_ok-all_apart.ensures.are ∙ c.if-all_apart.false) (ap (λ (ns : List Name). are_own ns (trees_at (tree_at c.args.arena.now.items) c.args.exprs.now)) (sym c.as_slice-2.ensures.value) ∙ sym c.are_own_columns.ensures ∙ c.if-are_own_columns.false)
    c.are_independent.ensures.cache c.in_ok-bundle.ensures.gathers c.in_ok-stream.ensures.made c.finish.ensures.nodes c.finish.ensures.others (c.as_slice-4.ensures.value ∙ c.in_ok-stream.ensures.exprs)
    (λ f. c.in_ok-selected.ensures.named f ∙ ap (λ (ns : List Name). under ns (trees_at f c.as_slice-4.result.now)) c.as_slice-3.ensures.value) c.over_selection.ensures.made c.over_selection.ensures.nodes c.over_selection.ensures.others

pub select-returns-in_err-all_apart-clause-goes_on : goal.select-returns-in_err-all_apart-clause-goes_on
select-returns-in_err-all_apart-clause-goes_on t c = goes_cached c.args.arena.now.items c.args.low.now c.are_independent.new.low c.are_independent.ensures.cache c.are_independent.ensures.others

pub select-returns-in_err-named-clause-goes_on : goal.select-returns-in_err-named-clause-goes_on
select-returns-in_err-named-clause-goes_on t c = goes_cached c.args.arena.now.items c.args.low.now c.are_independent.new.low c.are_independent.ensures.cache c.are_independent.ensures.others

pub select-returns-then-all_apart-clause-goes_on : goal.select-returns-then-all_apart-clause-goes_on
select-returns-then-all_apart-clause-goes_on t c = goes_built c.args.arena.now.items c.args.arena.now.items c.args.low.now c.are_independent.new.low c.independent.new.low (goes_cached c.args.arena.now.items c.args.low.now c.are_independent.new.low c.are_independent.ensures.cache c.are_independent.ensures.others) c.independent.ensures.nodes c.independent.ensures.others

pub select-returns-then-are_own_columns-clause-goes_on : goal.select-returns-then-are_own_columns-clause-goes_on
select-returns-then-are_own_columns-clause-goes_on t c = goes_built c.args.arena.now.items c.args.arena.now.items c.args.low.now c.are_independent.new.low c.columns_of.new.low (goes_cached c.args.arena.now.items c.args.low.now c.are_independent.new.low c.are_independent.ensures.cache c.are_independent.ensures.others) c.columns_of.ensures.nodes c.columns_of.ensures.others

pub select-returns-in_err-bundle-clause-goes_on : goal.select-returns-in_err-bundle-clause-goes_on
select-returns-in_err-bundle-clause-goes_on t c = goes_then c.args.arena.now.items c.args.arena.now.items c.together.new.arena.items c.args.low.now c.are_independent.new.low c.together.new.low (goes_cached c.args.arena.now.items c.args.low.now c.are_independent.new.low c.are_independent.ensures.cache c.are_independent.ensures.others) c.together.ensures.goes_on

pub select-returns-in_err-stream-clause-goes_on : goal.select-returns-in_err-stream-clause-goes_on
select-returns-in_err-stream-clause-goes_on t c = goes_built c.args.arena.now.items c.together.new.arena.items c.args.low.now c.together.new.low c.finish.new.low (goes_then c.args.arena.now.items c.args.arena.now.items c.together.new.arena.items c.args.low.now c.are_independent.new.low c.together.new.low (goes_cached c.args.arena.now.items c.args.low.now c.are_independent.new.low c.are_independent.ensures.cache c.are_independent.ensures.others) c.together.ensures.goes_on) c.finish.ensures.nodes c.finish.ensures.others

pub select-returns-in_err-selected-clause-goes_on : goal.select-returns-in_err-selected-clause-goes_on
select-returns-in_err-selected-clause-goes_on t c = goes_built c.args.arena.now.items c.together.new.arena.items c.args.low.now c.together.new.low c.finish.new.low (goes_then c.args.arena.now.items c.args.arena.now.items c.together.new.arena.items c.args.low.now c.are_independent.new.low c.together.new.low (goes_cached c.args.arena.now.items c.args.low.now c.are_independent.new.low c.are_independent.ensures.cache c.are_independent.ensures.others) c.together.ensures.goes_on) c.finish.ensures.nodes c.finish.ensures.others

pub select-returns-clause-goes_on : goal.select-returns-clause-goes_on
select-returns-clause-goes_on t c = goes_built c.args.arena.now.items c.together.new.arena.items c.args.low.now c.finish.new.low c.over_selection.new.low (goes_built c.args.arena.now.items c.together.new.arena.items c.args.low.now c.together.new.low c.finish.new.low (goes_then c.args.arena.now.items c.args.arena.now.items c.together.new.arena.items c.args.low.now c.are_independent.new.low c.together.new.low (goes_cached c.args.arena.now.items c.args.low.now c.are_independent.new.low c.are_independent.ensures.cache c.are_independent.ensures.others) c.together.ensures.goes_on) c.finish.ensures.nodes c.finish.ensures.others) c.over_selection.ensures.nodes c.over_selection.ensures.others

pub lower_each-lower-requires : goal.lower_each-lower-requires
lower_each-lower-requires t c =
    let less : 16 * tree_size (tree_at c.loop-expr.arena.items (get_or c.args.exprs.now c.loop-expr.expr-index (record { 0 = 0 }))) + 3 < 16 * trees_size (trees_of (tree_at c.args.arena.now.items) c.args.exprs.now) + 4 = (let le = item_smaller (tree_at c.args.arena.now.items) c.args.exprs.now c.loop-expr.expr-index (record { 0 = 0 }) c.loop-expr-test.true in
    let same = ap tree_size (c.loop-expr.invariant.goes_on.trees (get_or c.args.exprs.now c.loop-expr.expr-index (record { 0 = 0 })) (item_whole (tree_at c.args.arena.now.items) c.args.exprs.now c.loop-expr.expr-index (record { 0 = 0 }) c.loop-expr-test.true c.requires.exprs)) in
    omega arith) in
    let falls : 16 * tree_size (tree_at c.loop-expr.arena.items (get_or c.args.exprs.now c.loop-expr.expr-index (record { 0 = 0 }))) + 3 < t = omega arith in
    (falls, (expr_later c.args.arena.now.items c.loop-expr.arena.items c.loop-expr.invariant.goes_on.trees _ (item_whole (tree_at c.args.arena.now.items) c.args.exprs.now c.loop-expr.expr-index (record { 0 = 0 }) c.loop-expr-test.true c.requires.exprs), (c.loop-expr.invariant.goes_on.cache, c.loop-expr.invariant.whole)))

pub lower_each-loop-expr-preserved : goal.lower_each-loop-expr-preserved
lower_each-loop-expr-preserved t c =
    each_follows (stream_of c.args.input) c.args.exprs.now c.loop-expr.expr-index (record { 0 = 0 }) c.args.arena.now.items c.loop-expr.arena.items c.lower.new.arena.items c.args.low.now c.loop-expr.low c.lower.new.low c.args.call.now c.loop-expr.call c.lower.new.call _ c.loop-expr-test.true refl
    c.requires.exprs c.loop-expr.invariant c.in_ok-lower.ensures.follows

pub lower_each-returns-in_err-lower-clause-goes_on : goal.lower_each-returns-in_err-lower-clause-goes_on
lower_each-returns-in_err-lower-clause-goes_on t c = goes_then c.args.arena.now.items c.loop-expr.arena.items c.lower.new.arena.items c.args.low.now c.loop-expr.low c.lower.new.low c.loop-expr.invariant.goes_on c.lower.ensures.goes_on

pub lower_each-returns-clause-goes_on : goal.lower_each-returns-clause-goes_on
lower_each-returns-clause-goes_on t c = c.loop-expr.invariant.goes_on

pub together-lower_each-requires : goal.together-lower_each-requires
together-lower_each-requires t c =
    let less : 16 * trees_size (trees_of (tree_at c.args.arena.now.items) c.args.exprs.now) + 4 < 16 * trees_size (trees_of (tree_at c.args.arena.now.items) c.args.exprs.now) + 5 = omega arith in
    let falls : 16 * trees_size (trees_of (tree_at c.args.arena.now.items) c.args.exprs.now) + 4 < t = omega arith in (
      falls,
      (
        c.requires.exprs,
        (
          c.are_independent.ensures.cache,
          record { reduced = subst (λ (es : List ExprIR). AllByRecursion IsComplete (key_trees (tree_at c.args.arena.now.items) es)) (sym c.new-call.ensures.reduced) tt; exprs = subst (λ (ns : List Node). AllByRecursion IsComplete (trees_at (tree_at c.args.arena.now.items) ns)) (sym c.new-call.ensures.exprs) tt; mapped = subst (λ (es : List ExprIR). AllByRecursion IsComplete (key_trees (tree_at c.args.arena.now.items) es)) (sym c.new-call.ensures.mapped) tt },
        ),
      ),
    )

pub together-returns-then-all_apart-clause-gathers : goal.together-returns-then-all_apart-clause-gathers
together-returns-then-all_apart-clause-gathers t c =
    apart_ok c.apart.result (stream_of c.args.input) (trees_at (tree_at c.args.arena.now.items) c.args.exprs.now) c.args.arena.now.items c.apart.new.arena.items c.args.low.now c.are_independent.new.low c.apart.new.low
    (sym c.in_ok-all_apart.ensures.are ∙ c.if-all_apart.true) c.are_independent.ensures.cache c.are_independent.ensures.others (c.apart.ensures.gathers (stream_of c.args.input))

pub together-returns-clause-gathers : goal.together-returns-clause-gathers
together-returns-clause-gathers t c =
    gather_ok c.gather.result (stream_of c.args.input) (trees_at (tree_at c.args.arena.now.items) c.args.exprs.now) c.args.arena.now.items c.lower_each.new.arena.items c.args.low.now c.are_independent.new.low c.lower_each.new.low c.gather.new.low c.new-call.result c.lower_each.new.call
    (sym c.in_ok-all_apart.ensures.are ∙ c.if-all_apart.false) c.are_independent.ensures.cache c.are_independent.ensures.others c.new-call.ensures.streams c.new-call.ensures.reduced c.new-call.ensures.exprs c.new-call.ensures.mapped c.in_ok-lower_each.ensures.follows
    c.gather.ensures.gathered c.gather.ensures.whole c.gather.ensures.nodes c.gather.ensures.others

pub together-returns-in_err-all_apart-clause-goes_on : goal.together-returns-in_err-all_apart-clause-goes_on
together-returns-in_err-all_apart-clause-goes_on t c = goes_cached c.args.arena.now.items c.args.low.now c.are_independent.new.low c.are_independent.ensures.cache c.are_independent.ensures.others

pub together-returns-then-all_apart-clause-goes_on : goal.together-returns-then-all_apart-clause-goes_on
together-returns-then-all_apart-clause-goes_on t c = goes_then c.args.arena.now.items c.args.arena.now.items c.apart.new.arena.items c.args.low.now c.are_independent.new.low c.apart.new.low (goes_cached c.args.arena.now.items c.args.low.now c.are_independent.new.low c.are_independent.ensures.cache c.are_independent.ensures.others) c.apart.ensures.goes_on

pub together-returns-in_err-lower_each-clause-goes_on : goal.together-returns-in_err-lower_each-clause-goes_on
together-returns-in_err-lower_each-clause-goes_on t c = goes_then c.args.arena.now.items c.args.arena.now.items c.lower_each.new.arena.items c.args.low.now c.are_independent.new.low c.lower_each.new.low (goes_cached c.args.arena.now.items c.args.low.now c.are_independent.new.low c.are_independent.ensures.cache c.are_independent.ensures.others) c.lower_each.ensures.goes_on

pub together-returns-clause-goes_on : goal.together-returns-clause-goes_on
together-returns-clause-goes_on t c = goes_built c.args.arena.now.items c.lower_each.new.arena.items c.args.low.now c.lower_each.new.low c.gather.new.low (goes_then c.args.arena.now.items c.args.arena.now.items c.lower_each.new.arena.items c.args.low.now c.are_independent.new.low c.lower_each.new.low (goes_cached c.args.arena.now.items c.args.low.now c.are_independent.new.low c.are_independent.ensures.cache c.are_independent.ensures.others) c.lower_each.ensures.goes_on) c.gather.ensures.nodes c.gather.ensures.others
