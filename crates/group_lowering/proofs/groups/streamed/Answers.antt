use Rattle.std.proofs.Common.{List, ap, subst, sym, ◌∙◌}
use Rattle.std.specs.List.{AllByRecursion}
use Rattle.ps_frame.specs.Trees.{IsComplete, tree_at}
use Rattle.ps_meaning.specs.Steps.{key_trees, named_trees}
use Rattle.ps_meaning.specs.declared.options.ExprIR.{ExprIR}
use Rattle.ps_phys.specs.Shown.{stream_of}
use Rattle.lowering_parts.proofs.Going.{goes_added, goes_built, goes_then}
use Rattle.lowering_parts.proofs.LaterLemmas.{remembers_later}
use Rattle.group_lowering.proofs.GroupLemmas.{streamed_made}
use Rattle.group_lowering.proofs.groups.streamed.Goals as goal

pub keys_and_others-requires : goal.keys_and_others-requires
keys_and_others-requires c = record { others = c.in_ok-groups.ensures.groups.whole }

pub build_select_stream-requires-clause-whole : goal.build_select_stream-requires-clause-whole
build_select_stream-requires-clause-whole c = subst (λ (es : List ExprIR). AllByRecursion IsComplete (key_trees (tree_at c.keys_and_others.new.arena.items) es)) (sym c.as_slice.ensures.value) c.in_ok-asked.ensures.whole

pub build_select_stream-requires-clause-cache : goal.build_select_stream-requires-clause-cache
build_select_stream-requires-clause-cache c = remembers_later c.grouped.new.arena.items c.keys_and_others.new.arena.items c.keys_and_others.ensures.kept c.grouped.new.low c.grouped.ensures.goes_on.cache

pub returns-clause-makes : goal.returns-clause-makes
returns-clause-makes c =
    streamed_made (stream_of c.args.input) c.args.keys.now c.args.aggs.now c.in_ok-groups.above.items c.as_slice.result.now c.args.slice c.args.arena.now.items c.grouped.new.arena.items c.keys_and_others.new.arena.items c.build_select_stream.new.expr_arena.items
    c.args.low.now c.grouped.new.low c.build_select_stream.new.low c.cut.new.low c.in_ok-groups.groups c.in_ok-selected.selected c.in_ok-stream.stream c.in_ok-groups.ensures.groups
    (ap (named_trees (tree_at c.keys_and_others.new.arena.items)) c.as_slice.ensures.value ∙ c.in_ok-asked.ensures.named) c.keys_and_others.ensures.entries c.keys_and_others.ensures.kept c.in_ok-selected.ensures.makes c.in_ok-stream.ensures.made c.cut.ensures.nodes c.cut.ensures.others

pub returns-in_err-groups-clause-goes_on : goal.returns-in_err-groups-clause-goes_on
returns-in_err-groups-clause-goes_on c = c.grouped.ensures.goes_on

pub returns-in_err-asked-clause-goes_on : goal.returns-in_err-asked-clause-goes_on
returns-in_err-asked-clause-goes_on c = goes_added c.args.arena.now.items c.grouped.new.arena.items c.keys_and_others.new.arena.items c.args.low.now c.grouped.new.low c.grouped.ensures.goes_on c.keys_and_others.ensures.entries c.keys_and_others.ensures.kept

pub returns-in_err-selected-clause-goes_on : goal.returns-in_err-selected-clause-goes_on
returns-in_err-selected-clause-goes_on c =
    goes_then c.args.arena.now.items c.keys_and_others.new.arena.items c.build_select_stream.new.expr_arena.items c.args.low.now c.grouped.new.low c.build_select_stream.new.low
    (goes_added c.args.arena.now.items c.grouped.new.arena.items c.keys_and_others.new.arena.items c.args.low.now c.grouped.new.low c.grouped.ensures.goes_on c.keys_and_others.ensures.entries c.keys_and_others.ensures.kept) c.build_select_stream.ensures.grows

pub returns-in_err-stream-clause-goes_on : goal.returns-in_err-stream-clause-goes_on
returns-in_err-stream-clause-goes_on c =
    goes_built c.args.arena.now.items c.build_select_stream.new.expr_arena.items c.args.low.now c.build_select_stream.new.low c.cut.new.low
    (goes_then c.args.arena.now.items c.keys_and_others.new.arena.items c.build_select_stream.new.expr_arena.items c.args.low.now c.grouped.new.low c.build_select_stream.new.low
    (goes_added c.args.arena.now.items c.grouped.new.arena.items c.keys_and_others.new.arena.items c.args.low.now c.grouped.new.low c.grouped.ensures.goes_on c.keys_and_others.ensures.entries c.keys_and_others.ensures.kept) c.build_select_stream.ensures.grows) c.cut.ensures.nodes c.cut.ensures.others

pub returns-clause-goes_on : goal.returns-clause-goes_on
returns-clause-goes_on c =
    goes_built c.args.arena.now.items c.build_select_stream.new.expr_arena.items c.args.low.now c.build_select_stream.new.low c.cut.new.low
    (goes_then c.args.arena.now.items c.keys_and_others.new.arena.items c.build_select_stream.new.expr_arena.items c.args.low.now c.grouped.new.low c.build_select_stream.new.low
    (goes_added c.args.arena.now.items c.grouped.new.arena.items c.keys_and_others.new.arena.items c.args.low.now c.grouped.new.low c.grouped.ensures.goes_on c.keys_and_others.ensures.entries c.keys_and_others.ensures.kept) c.build_select_stream.ensures.grows) c.cut.ensures.nodes c.cut.ensures.others
