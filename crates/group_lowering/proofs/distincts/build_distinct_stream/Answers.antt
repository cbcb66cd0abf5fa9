use Rattle.std.proofs.Common.{refl}
use Rattle.ps_phys.specs.Shown.{stream_of}
use Rattle.lowering_parts.proofs.Going.{goes_built, goes_nowhere}
use Rattle.group_lowering.specs.Distincts.{distinct_of}
use Rattle.group_lowering.proofs.DistinctLemmas.{distinct_groups, distinct_maps}
use Rattle.group_lowering.proofs.distincts.build_distinct_stream.Goals as goal

pub returns-then-whole-clause-makes : goal.returns-then-whole-clause-makes
returns-then-whole-clause-makes c =
    distinct_maps (stream_of c.args.input) (distinct_of c.args.options) c.mapped.result c.args.expr_arena.now.items c.args.low.now c.mapped.new.low c.takes_whole_input-whole.result c.requires c.takes_whole_input-whole.ensures c.if-whole.true c.mapped.ensures.made c.mapped.ensures.nodes c.mapped.ensures.others

pub returns-clause-makes : goal.returns-clause-makes
returns-clause-makes c =
    distinct_groups (stream_of c.args.input) (distinct_of c.args.options) c.by_groups.result c.args.expr_arena.now.items c.by_groups.new.arena.items c.args.low.now c.by_groups.new.low c.takes_whole_input-whole.result c.takes_whole_input-whole.ensures c.if-whole.false c.by_groups.ensures.makes

pub returns-then-whole-clause-grows : goal.returns-then-whole-clause-grows
returns-then-whole-clause-grows c = goes_built c.args.expr_arena.now.items c.args.expr_arena.now.items c.args.low.now c.args.low.now c.mapped.new.low (goes_nowhere c.args.expr_arena.now.items c.args.low.now c.args.low.now c.requires refl) c.mapped.ensures.nodes c.mapped.ensures.others

pub returns-clause-grows : goal.returns-clause-grows
returns-clause-grows c = c.by_groups.ensures.goes_on
