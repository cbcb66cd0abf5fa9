use Rattle.std.proofs.Common.{refl, ◌∙◌}
use Rattle.ps_phys.specs.Shown.{stream_of}
use Rattle.lowering_parts.proofs.Going.{goes_built, goes_nowhere}
use Rattle.group_lowering.specs.Distincts.{distinct_of}
use Rattle.group_lowering.proofs.DistinctLemmas.{ordered_made}
use Rattle.group_lowering.proofs.distincts.by_groups.Goals as goal

pub kept_groups-requires-clause-names : goal.kept_groups-requires-clause-names
kept_groups-requires-clause-names c f = c.as_slice.ensures.value ∙ c.in_ok-names.ensures.names f

pub returns-clause-makes : goal.returns-clause-makes
returns-clause-makes c =
    ordered_made (stream_of c.args.input) (distinct_of c.args.options.now) c.in_ok-names.names.items c.args.arena.now.items c.kept_groups.new.arena.items c.args.low.now c.kept_groups.new.low c.columns_of.new.low c.cut.new.low
    c.in_ok-groups.groups c.in_ok-ordered.ordered c.in_ok-stream.stream c.in_ok-names.ensures.names c.in_ok-groups.ensures.makes c.in_ok-ordered.ensures.made c.columns_of.ensures.nodes c.columns_of.ensures.others c.in_ok-stream.ensures.made c.cut.ensures.nodes c.cut.ensures.others

pub returns-in_err-names-clause-goes_on : goal.returns-in_err-names-clause-goes_on
returns-in_err-names-clause-goes_on c = goes_nowhere c.args.arena.now.items c.args.low.now c.args.low.now c.requires refl

pub returns-in_err-groups-clause-goes_on : goal.returns-in_err-groups-clause-goes_on
returns-in_err-groups-clause-goes_on c = c.kept_groups.ensures.goes_on

pub returns-in_err-ordered-clause-goes_on : goal.returns-in_err-ordered-clause-goes_on
returns-in_err-ordered-clause-goes_on c = goes_built c.args.arena.now.items c.kept_groups.new.arena.items c.args.low.now c.kept_groups.new.low c.columns_of.new.low c.kept_groups.ensures.goes_on c.columns_of.ensures.nodes c.columns_of.ensures.others

pub returns-in_err-stream-clause-goes_on : goal.returns-in_err-stream-clause-goes_on
returns-in_err-stream-clause-goes_on c =
    goes_built c.args.arena.now.items c.kept_groups.new.arena.items c.args.low.now c.columns_of.new.low c.cut.new.low (goes_built c.args.arena.now.items c.kept_groups.new.arena.items c.args.low.now c.kept_groups.new.low c.columns_of.new.low c.kept_groups.ensures.goes_on c.columns_of.ensures.nodes c.columns_of.ensures.others) c.cut.ensures.nodes c.cut.ensures.others

pub returns-clause-goes_on : goal.returns-clause-goes_on
returns-clause-goes_on c =
    goes_built c.args.arena.now.items c.kept_groups.new.arena.items c.args.low.now c.columns_of.new.low c.cut.new.low (goes_built c.args.arena.now.items c.kept_groups.new.arena.items c.args.low.now c.kept_groups.new.low c.columns_of.new.low c.kept_groups.ensures.goes_on c.columns_of.ensures.nodes c.columns_of.ensures.others) c.cut.ensures.nodes c.cut.ensures.others
