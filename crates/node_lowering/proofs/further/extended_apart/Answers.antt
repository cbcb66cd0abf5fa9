use Rattle.std.proofs.Common.{subst, sym, ◌∙◌}
use Rattle.std.specs.Prelude.{map}
use Rattle.std.specs.List.{AllByRecursion}
use Rattle.ps_frame.specs.Trees.{IsComplete, tree_at}
use Rattle.ps_meaning.specs.Schemas.{names_of}
use Rattle.ps_phys.specs.Shown.{stream_of}
use Rattle.ps_rules.specs.Slots.{under}
use Rattle.plan_rules.specs.Nodes.{expr_or_column}
use Rattle.lowering_parts.specs.Gathered.{names_asked, trees_at}
use Rattle.lowering_parts.proofs.Going.{goes_added, goes_built}
use Rattle.node_lowering.proofs.FurtherLemmas.{select_makes}
use Rattle.node_lowering.proofs.further.extended_apart.Goals as goal

pub behind_columns-requires-clause-whole : goal.behind_columns-requires-clause-whole
behind_columns-requires-clause-whole c = subst (AllByRecursion IsComplete) (sym (c.requires.nodes (tree_at c.args.arena.now.items))) c.requires.whole

pub returns-clause-makes : goal.returns-clause-makes
returns-clause-makes c =
    select_makes (stream_of c.args.input) c.args.schema.now c.args.exprs.now c.in_ok-selectors.selectors.items c.args.nodes.now _ c.args.arena.now.items c.behind_columns.new.arena.items c.output_columns.new.arena.items c.args.low.now c.behind_columns.new.low c.node_over.new.low
    c.in_ok-stream.stream c.in_ok-apart.apart c.select_of-kind.result c.requires.nodes c.in_ok-stream.ensures.answers c.output_columns.ensures.entries c.output_columns.ensures.kept
    (λ later k. c.in_ok-selectors.ensures.named later k ∙ (λ i. under (names_of c.args.schema.now) (map (expr_or_column (under (names_asked (c.as_slice.ensures i)) (trees_at (tree_at later) (c.as_slice-2.ensures.value i)))) (names_of c.args.schema.now))))
    c.select_of-kind.ensures.kind c.in_ok-apart.ensures.made c.node_over.ensures.nodes c.node_over.ensures.others

pub returns-in_err-stream-clause-goes_on : goal.returns-in_err-stream-clause-goes_on
returns-in_err-stream-clause-goes_on c = c.behind_columns.ensures.goes_on

pub returns-in_err-selectors-clause-goes_on : goal.returns-in_err-selectors-clause-goes_on
returns-in_err-selectors-clause-goes_on c =
    goes_added c.args.arena.now.items c.behind_columns.new.arena.items c.output_columns.new.arena.items c.args.low.now c.behind_columns.new.low c.behind_columns.ensures.goes_on c.output_columns.ensures.entries c.output_columns.ensures.kept

pub returns-in_err-apart-clause-goes_on : goal.returns-in_err-apart-clause-goes_on
returns-in_err-apart-clause-goes_on c =
    goes_built c.args.arena.now.items c.output_columns.new.arena.items c.args.low.now c.behind_columns.new.low c.node_over.new.low
    (goes_added c.args.arena.now.items c.behind_columns.new.arena.items c.output_columns.new.arena.items c.args.low.now c.behind_columns.new.low c.behind_columns.ensures.goes_on c.output_columns.ensures.entries c.output_columns.ensures.kept) c.node_over.ensures.nodes c.node_over.ensures.others

pub returns-clause-goes_on : goal.returns-clause-goes_on
returns-clause-goes_on c =
    goes_built c.args.arena.now.items c.output_columns.new.arena.items c.args.low.now c.behind_columns.new.low c.node_over.new.low
    (goes_added c.args.arena.now.items c.behind_columns.new.arena.items c.output_columns.new.arena.items c.args.low.now c.behind_columns.new.low c.behind_columns.ensures.goes_on c.output_columns.ensures.entries c.output_columns.ensures.kept) c.node_over.ensures.nodes c.node_over.ensures.others
