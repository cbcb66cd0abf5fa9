use Rattle.std.proofs.Common.{ap, refl, ◌∙◌}
use Rattle.ps_frame.specs.Trees.{tree_at}
use Rattle.ps_meaning.specs.Schemas.{names_of}
use Rattle.ps_phys.specs.Shown.{stream_of}
use Rattle.ps_rules.specs.Rules.{first_tree}
use Rattle.lowering_parts.specs.Gathered.{trees_at}
use Rattle.lowering_parts.proofs.Going.{goes_built, goes_nowhere}
use Rattle.node_lowering.proofs.FilterLemmas.{filter_makes}
use Rattle.node_lowering.proofs.filters.filter_stream.Goals as goal

pub returns-clause-makes : goal.returns-clause-makes
returns-clause-makes c =
    filter_makes (stream_of c.args.input) (tree_at c.args.arena.now.items c.args.predicate.now.node) c.args.arena.now.items c.behind_columns.new.arena.items c.args.low.now c.behind_columns.new.low c.over_same_columns.new.low c.columns_of.new.low c.in_ok-names.names.items
    c.in_ok-stream.stream c.in_ok-rows.rows c.in_ok-columns.columns _ c.in_ok-kept.kept.node c.in_ok-stream.ensures.answers (λ f. c.in_ok-names.ensures.names ∙ ap names_of (c.in_ok-schema.ensures.schema f))
    (λ f. c.in_ok-kept.ensures.tree f ∙ ap (λ ns. first_tree (trees_at f ns)) c.as_slice.ensures.value) c.in_ok-rows.ensures.made c.over_same_columns.ensures.nodes c.over_same_columns.ensures.others c.in_ok-columns.ensures.made c.columns_of.ensures.nodes c.columns_of.ensures.others

pub returns-in_err-schema-clause-goes_on : goal.returns-in_err-schema-clause-goes_on
returns-in_err-schema-clause-goes_on c = goes_nowhere c.args.arena.now.items c.args.low.now c.args.low.now c.requires.cache refl

pub returns-in_err-names-clause-goes_on : goal.returns-in_err-names-clause-goes_on
returns-in_err-names-clause-goes_on c = goes_nowhere c.args.arena.now.items c.args.low.now c.args.low.now c.requires.cache refl

pub returns-in_err-stream-clause-goes_on : goal.returns-in_err-stream-clause-goes_on
returns-in_err-stream-clause-goes_on c = c.behind_columns.ensures.goes_on

pub returns-in_err-kept-clause-goes_on : goal.returns-in_err-kept-clause-goes_on
returns-in_err-kept-clause-goes_on c = c.behind_columns.ensures.goes_on

pub returns-in_err-rows-clause-goes_on : goal.returns-in_err-rows-clause-goes_on
returns-in_err-rows-clause-goes_on c = goes_built c.args.arena.now.items c.behind_columns.new.arena.items c.args.low.now c.behind_columns.new.low c.over_same_columns.new.low c.behind_columns.ensures.goes_on c.over_same_columns.ensures.nodes c.over_same_columns.ensures.others

pub returns-in_err-columns-clause-goes_on : goal.returns-in_err-columns-clause-goes_on
returns-in_err-columns-clause-goes_on c =
    goes_built c.args.arena.now.items c.behind_columns.new.arena.items c.args.low.now c.over_same_columns.new.low c.columns_of.new.low
    (goes_built c.args.arena.now.items c.behind_columns.new.arena.items c.args.low.now c.behind_columns.new.low c.over_same_columns.new.low c.behind_columns.ensures.goes_on c.over_same_columns.ensures.nodes c.over_same_columns.ensures.others) c.columns_of.ensures.nodes c.columns_of.ensures.others

pub returns-clause-goes_on : goal.returns-clause-goes_on
returns-clause-goes_on c =
    goes_built c.args.arena.now.items c.behind_columns.new.arena.items c.args.low.now c.over_same_columns.new.low c.columns_of.new.low
    (goes_built c.args.arena.now.items c.behind_columns.new.arena.items c.args.low.now c.behind_columns.new.low c.over_same_columns.new.low c.behind_columns.ensures.goes_on c.over_same_columns.ensures.nodes c.over_same_columns.ensures.others) c.columns_of.ensures.nodes c.columns_of.ensures.others
