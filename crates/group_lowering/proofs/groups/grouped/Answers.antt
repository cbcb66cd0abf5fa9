use Rattle.ps_frame.specs.Trees.{tree_at}
use Rattle.ps_meaning.specs.Steps.{named_trees}
use Rattle.ps_phys.specs.Shown.{stream_of}
use Rattle.lowering_parts.proofs.Going.{goes_built, goes_then}
use Rattle.lowering_parts.proofs.LaterLemmas.{named_whole}
use Rattle.group_lowering.proofs.GroupLemmas.{groups_made}
use Rattle.group_lowering.proofs.groups.grouped.Goals as goal

pub split_all-requires-clause-aggs : goal.split_all-requires-clause-aggs
split_all-requires-clause-aggs c = named_whole c.args.arena.now.items c.lowered_keys.new.arena.items c.lowered_keys.ensures.goes_on.trees c.args.aggs.now c.requires.aggs

pub split_all-requires-clause-cache : goal.split_all-requires-clause-cache
split_all-requires-clause-cache c = c.lowered_keys.ensures.goes_on.cache

pub over_groups-requires-clause-keys : goal.over_groups-requires-clause-keys
over_groups-requires-clause-keys c = named_whole c.lowered_keys.new.arena.items c.split_all.new.arena.items c.split_all.ensures.goes_on.trees c.in_ok-stream.lowered.items c.in_ok-stream.ensures.keys.whole

pub over_groups-requires-clause-aggs : goal.over_groups-requires-clause-aggs
over_groups-requires-clause-aggs c = c.in_ok-parts.ensures.split.whole

pub returns-clause-groups : goal.returns-clause-groups
returns-clause-groups c =
    groups_made (stream_of c.args.input) (named_trees (tree_at c.args.arena.now.items) c.args.keys.now) c.args.aggs.now c.in_ok-stream.lowered.items c.in_ok-parts.parts.reductions.items c.in_ok-parts.parts.above.items c.args.arena.now.items c.lowered_keys.new.arena.items c.split_all.new.arena.items
    c.args.low.now c.lowered_keys.new.low c.split_all.new.low c.over_groups.new.low c.in_ok-stream.stream c.in_ok-groups.groups c.requires.aggs c.in_ok-stream.ensures.keys c.in_ok-parts.ensures.split c.in_ok-groups.ensures.made c.over_groups.ensures.nodes c.over_groups.ensures.others

pub returns-in_err-stream-clause-goes_on : goal.returns-in_err-stream-clause-goes_on
returns-in_err-stream-clause-goes_on c = c.lowered_keys.ensures.goes_on

pub returns-in_err-parts-clause-goes_on : goal.returns-in_err-parts-clause-goes_on
returns-in_err-parts-clause-goes_on c = goes_then c.args.arena.now.items c.lowered_keys.new.arena.items c.split_all.new.arena.items c.args.low.now c.lowered_keys.new.low c.split_all.new.low c.lowered_keys.ensures.goes_on c.split_all.ensures.goes_on

pub returns-in_err-groups-clause-goes_on : goal.returns-in_err-groups-clause-goes_on
returns-in_err-groups-clause-goes_on c =
    goes_built c.args.arena.now.items c.split_all.new.arena.items c.args.low.now c.split_all.new.low c.over_groups.new.low (goes_then c.args.arena.now.items c.lowered_keys.new.arena.items c.split_all.new.arena.items c.args.low.now c.lowered_keys.new.low c.split_all.new.low c.lowered_keys.ensures.goes_on c.split_all.ensures.goes_on) c.over_groups.ensures.nodes c.over_groups.ensures.others

pub returns-clause-goes_on : goal.returns-clause-goes_on
returns-clause-goes_on c =
    goes_built c.args.arena.now.items c.split_all.new.arena.items c.args.low.now c.split_all.new.low c.over_groups.new.low (goes_then c.args.arena.now.items c.lowered_keys.new.arena.items c.split_all.new.arena.items c.args.low.now c.lowered_keys.new.low c.split_all.new.low c.lowered_keys.ensures.goes_on c.split_all.ensures.goes_on) c.over_groups.ensures.nodes c.over_groups.ensures.others
