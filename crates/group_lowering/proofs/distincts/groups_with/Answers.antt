use Rattle.std.proofs.Common.{List, ap, refl, subst, sym, ◌∙◌}
use Rattle.std.specs.List.{AllByRecursion}
use Rattle.ps_frame.specs.Trees.{IsComplete, tree_at}
use Rattle.ps_meaning.specs.Steps.{key_trees, named_trees}
use Rattle.ps_meaning.specs.declared.options.ExprIR.{ExprIR}
use Rattle.ps_phys.specs.Shown.{stream_of}
use Rattle.lowering_parts.proofs.Going.{goes_added, goes_nowhere, goes_then}
use Rattle.lowering_parts.proofs.Grown.{kept-then}
use Rattle.lowering_parts.proofs.LaterLemmas.{named_whole, remembers_later}
use Rattle.group_lowering.specs.Distincts.{distinct_of}
use Rattle.group_lowering.proofs.DistinctLemmas.{columns_whole, values_whole, with_made}
use Rattle.group_lowering.proofs.GroupLemmas.{all_keys_whole}
use Rattle.group_lowering.proofs.distincts.groups_with.Goals as goal

pub build_group_by_stream-requires-clause-keys : goal.build_group_by_stream-requires-clause-keys
build_group_by_stream-requires-clause-keys c =
    subst (λ (es : List ExprIR). AllByRecursion IsComplete (key_trees (tree_at c.kept_values.new.arena.items) es)) (sym c.as_slice-2.ensures.value)
    (named_whole c.own_columns.new.arena.items c.kept_values.new.arena.items c.kept_values.ensures.kept c.in_ok-keys.keys.items (columns_whole c.key_names-by.result.now (tree_at c.own_columns.new.arena.items) c.in_ok-keys.keys.items c.in_ok-keys.ensures.named))

pub build_group_by_stream-requires-clause-aggs : goal.build_group_by_stream-requires-clause-aggs
build_group_by_stream-requires-clause-aggs c =
    let keeps = kept-then c.args.arena.now.items c.own_columns.new.arena.items c.kept_values.new.arena.items c.own_columns.ensures.kept c.kept_values.ensures.kept in
    all_keys_whole (tree_at c.kept_values.new.arena.items) c.in_ok-values.values.items c.args.more.items c.as_slice-3.result.now (c.as_slice-3.ensures.value ∙ c.in_ok-aggs.ensures.all)
    (values_whole c.args.options.now.keep_strategy c.as_slice.result.now (tree_at c.kept_values.new.arena.items) c.in_ok-values.values.items c.in_ok-values.ensures.named) (named_whole c.args.arena.now.items c.kept_values.new.arena.items keeps c.args.more.items c.requires.more)

pub build_group_by_stream-requires-clause-cache : goal.build_group_by_stream-requires-clause-cache
build_group_by_stream-requires-clause-cache c =
    remembers_later c.args.arena.now.items c.kept_values.new.arena.items (kept-then c.args.arena.now.items c.own_columns.new.arena.items c.kept_values.new.arena.items c.own_columns.ensures.kept c.kept_values.ensures.kept) c.args.low.now c.requires.cache

pub returns-clause-makes : goal.returns-clause-makes
returns-clause-makes c =
    with_made (stream_of c.args.input) (distinct_of c.args.options.now) c.args.names.now c.key_names-by.result.now c.as_slice.result.now c.as_slice-2.result.now c.in_ok-values.values.items c.args.more.items c.as_slice-3.result.now
    c.args.arena.now.items c.own_columns.new.arena.items c.kept_values.new.arena.items c.args.low.now c.requires.names c.key_names-by.ensures (c.as_slice.ensures.value ∙ c.in_ok-others.ensures.others) c.own_columns.ensures.entries c.own_columns.ensures.kept
    (ap (named_trees (tree_at c.own_columns.new.arena.items)) c.as_slice-2.ensures.value ∙ c.in_ok-keys.ensures.named) c.kept_values.ensures.entries c.kept_values.ensures.kept c.in_ok-values.ensures.named c.requires.more (c.as_slice-3.ensures.value ∙ c.in_ok-aggs.ensures.all)
    c.build_group_by_stream.new.expr_arena.items c.build_group_by_stream.new.low c.in_ok-stream.stream c.requires.cache c.in_ok-stream.ensures.makes

pub returns-in_err-keys-clause-goes_on : goal.returns-in_err-keys-clause-goes_on
returns-in_err-keys-clause-goes_on c =
    goes_added c.args.arena.now.items c.args.arena.now.items c.own_columns.new.arena.items c.args.low.now c.args.low.now (goes_nowhere c.args.arena.now.items c.args.low.now c.args.low.now c.requires.cache refl) c.own_columns.ensures.entries c.own_columns.ensures.kept

pub returns-in_err-others-clause-goes_on : goal.returns-in_err-others-clause-goes_on
returns-in_err-others-clause-goes_on c =
    goes_added c.args.arena.now.items c.args.arena.now.items c.own_columns.new.arena.items c.args.low.now c.args.low.now (goes_nowhere c.args.arena.now.items c.args.low.now c.args.low.now c.requires.cache refl) c.own_columns.ensures.entries c.own_columns.ensures.kept

pub returns-in_err-values-clause-goes_on : goal.returns-in_err-values-clause-goes_on
returns-in_err-values-clause-goes_on c =
    goes_added c.args.arena.now.items c.own_columns.new.arena.items c.kept_values.new.arena.items c.args.low.now c.args.low.now
    (goes_added c.args.arena.now.items c.args.arena.now.items c.own_columns.new.arena.items c.args.low.now c.args.low.now (goes_nowhere c.args.arena.now.items c.args.low.now c.args.low.now c.requires.cache refl) c.own_columns.ensures.entries c.own_columns.ensures.kept) c.kept_values.ensures.entries c.kept_values.ensures.kept

pub returns-in_err-aggs-clause-goes_on : goal.returns-in_err-aggs-clause-goes_on
returns-in_err-aggs-clause-goes_on c =
    goes_added c.args.arena.now.items c.own_columns.new.arena.items c.kept_values.new.arena.items c.args.low.now c.args.low.now
    (goes_added c.args.arena.now.items c.args.arena.now.items c.own_columns.new.arena.items c.args.low.now c.args.low.now (goes_nowhere c.args.arena.now.items c.args.low.now c.args.low.now c.requires.cache refl) c.own_columns.ensures.entries c.own_columns.ensures.kept) c.kept_values.ensures.entries c.kept_values.ensures.kept

pub returns-in_err-stream-clause-goes_on : goal.returns-in_err-stream-clause-goes_on
returns-in_err-stream-clause-goes_on c =
    goes_then c.args.arena.now.items c.kept_values.new.arena.items c.build_group_by_stream.new.expr_arena.items c.args.low.now c.args.low.now c.build_group_by_stream.new.low
    (goes_added c.args.arena.now.items c.own_columns.new.arena.items c.kept_values.new.arena.items c.args.low.now c.args.low.now
    (goes_added c.args.arena.now.items c.args.arena.now.items c.own_columns.new.arena.items c.args.low.now c.args.low.now (goes_nowhere c.args.arena.now.items c.args.low.now c.args.low.now c.requires.cache refl) c.own_columns.ensures.entries c.own_columns.ensures.kept) c.kept_values.ensures.entries c.kept_values.ensures.kept) c.build_group_by_stream.ensures.grows

pub returns-clause-goes_on : goal.returns-clause-goes_on
returns-clause-goes_on c =
    goes_then c.args.arena.now.items c.kept_values.new.arena.items c.build_group_by_stream.new.expr_arena.items c.args.low.now c.args.low.now c.build_group_by_stream.new.low
    (goes_added c.args.arena.now.items c.own_columns.new.arena.items c.kept_values.new.arena.items c.args.low.now c.args.low.now
    (goes_added c.args.arena.now.items c.args.arena.now.items c.own_columns.new.arena.items c.args.low.now c.args.low.now (goes_nowhere c.args.arena.now.items c.args.low.now c.args.low.now c.requires.cache refl) c.own_columns.ensures.entries c.own_columns.ensures.kept) c.kept_values.ensures.entries c.kept_values.ensures.kept) c.build_group_by_stream.ensures.grows
