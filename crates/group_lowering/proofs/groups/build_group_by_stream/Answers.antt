use Rattle.ps_phys.specs.Shown.{stream_of}
use Rattle.lowering_parts.proofs.Going.{goes_built, goes_then}
use Rattle.expr_lowering.proofs.Following.{goes_cached}
use Rattle.group_lowering.proofs.GroupLemmas.{group_maps, group_streams}
use Rattle.group_lowering.proofs.groups.build_group_by_stream.Goals as goal

pub returns-then-streams-clause-makes : goal.returns-then-streams-clause-makes
returns-then-streams-clause-makes c =
    group_streams (stream_of c.args.input) c.args.keys.now c.args.aggs.now c.args.maintain_order c.args.options.slice c.args.expr_arena.now.items c.args.low.now c.can_stream.new.low c.can_stream.ensures.cache c.can_stream.ensures.others
    c.streamed.result c.streamed.new.arena.items c.streamed.new.low c.in_ok-streams.streams c.in_ok-streams.ensures.can c.if-streams.true c.streamed.ensures.makes

pub returns-clause-makes : goal.returns-clause-makes
returns-clause-makes c =
    group_maps (stream_of c.args.input) c.args.keys.now c.args.aggs.now c.args.maintain_order c.args.options.slice c.args.expr_arena.now.items c.args.low.now c.can_stream.new.low c.can_stream.ensures.cache c.can_stream.ensures.others
    c.mapped.result c.mapped.new.low c.in_ok-streams.streams c.in_ok-streams.ensures.can c.if-streams.false c.requires.keys c.requires.aggs c.mapped.ensures.made c.mapped.ensures.nodes c.mapped.ensures.others

pub returns-in_err-streams-clause-grows : goal.returns-in_err-streams-clause-grows
returns-in_err-streams-clause-grows c = goes_cached c.args.expr_arena.now.items c.args.low.now c.can_stream.new.low c.can_stream.ensures.cache c.can_stream.ensures.others

pub returns-then-streams-clause-grows : goal.returns-then-streams-clause-grows
returns-then-streams-clause-grows c = goes_then c.args.expr_arena.now.items c.args.expr_arena.now.items c.streamed.new.arena.items c.args.low.now c.can_stream.new.low c.streamed.new.low (goes_cached c.args.expr_arena.now.items c.args.low.now c.can_stream.new.low c.can_stream.ensures.cache c.can_stream.ensures.others) c.streamed.ensures.goes_on

pub returns-clause-grows : goal.returns-clause-grows
returns-clause-grows c = goes_built c.args.expr_arena.now.items c.args.expr_arena.now.items c.args.low.now c.can_stream.new.low c.mapped.new.low (goes_cached c.args.expr_arena.now.items c.args.low.now c.can_stream.new.low c.can_stream.ensures.cache c.can_stream.ensures.others) c.mapped.ensures.nodes c.mapped.ensures.others
