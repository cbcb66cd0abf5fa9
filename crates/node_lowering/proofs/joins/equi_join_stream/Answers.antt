use Rattle.std.proofs.Common.{ap, refl, subst, sym, ◌∙◌}
use Rattle.std.specs.List.{AllByRecursion}
use Rattle.ps_frame.specs.Trees.{IsComplete, tree_at}
use Rattle.ps_meaning.specs.Steps.{key_trees}
use Rattle.ps_phys.specs.Shown.{stream_of}
use Rattle.lowering_parts.specs.Gathered.{trees_at}
use Rattle.lowering_parts.proofs.Going.{goes_built, goes_nowhere, goes_then}
use Rattle.node_lowering.proofs.JoinLemmas.{keyed_makes, keys_later}
use Rattle.node_lowering.proofs.joins.equi_join_stream.Goals as goal

pub before_columns-requires-clause-whole : goal.before_columns-requires-clause-whole
before_columns-requires-clause-whole c =
    let f = tree_at c.args.arena.now.items in
    subst (AllByRecursion IsComplete) (sym (ap (trees_at f) c.as_slice-3.ensures.value ∙ c.in_ok-left_nodes.ensures.trees f ∙ ap (key_trees f) c.as_slice.ensures)) c.requires.left_whole

pub before_columns-requires-2-clause-whole : goal.before_columns-requires-2-clause-whole
before_columns-requires-2-clause-whole c =
    let f = tree_at c.before_columns.new.arena.items in
    subst (AllByRecursion IsComplete)
    (sym (ap (trees_at f) c.as_slice-4.ensures.value ∙ c.in_ok-right_nodes.ensures.trees f ∙ ap (key_trees f) c.as_slice-2.ensures ∙ keys_later c.args.arena.now.items c.before_columns.new.arena.items c.before_columns.ensures.goes_on.trees c.args.right_on.now c.requires.right_whole))
    c.requires.right_whole

pub before_columns-requires-2-clause-cache : goal.before_columns-requires-2-clause-cache
before_columns-requires-2-clause-cache c = c.before_columns.ensures.goes_on.cache

pub returns-clause-makes : goal.returns-clause-makes
returns-clause-makes c =
    keyed_makes (stream_of c.args.left) (stream_of c.args.right) c.args.schema.now c.args.left_on.now c.args.right_on.now c.in_ok-left_keys.left_keys.items c.in_ok-right_keys.right_keys.items c.args.args.now c.in_ok-unsliced.unsliced c.as_slice-3.result.now c.as_slice-4.result.now _ _
    c.args.arena.now.items c.before_columns.new.arena.items c.before_columns-2.new.arena.items c.args.low.now c.before_columns.new.low c.before_columns-2.new.low c.node_of.new.low c.cut.new.low c.in_ok-left_stream.left_stream c.in_ok-right_stream.right_stream c.in_ok-join.join c.in_ok-sliced.sliced c.keyed_join_of-kind.result
    c.requires.right_whole (λ f. ap (trees_at f) c.as_slice-3.ensures.value ∙ c.in_ok-left_nodes.ensures.trees f ∙ ap (key_trees f) c.as_slice.ensures) (λ f. ap (trees_at f) c.as_slice-4.ensures.value ∙ c.in_ok-right_nodes.ensures.trees f ∙ ap (key_trees f) c.as_slice-2.ensures)
    c.in_ok-left_stream.ensures.answers c.in_ok-right_stream.ensures.answers (λ f. c.in_ok-left_keys.ensures.keys f ∙ ap (trees_at f) c.as_slice-6.ensures.value) (λ f. c.in_ok-right_keys.ensures.keys f ∙ ap (trees_at f) c.as_slice-8.ensures.value) c.in_ok-unsliced.ensures.same
    c.keyed_join_of-kind.ensures.kind c.keyed_join_of-kind.ensures.inputs c.in_ok-join.ensures.made c.node_of.ensures.nodes c.node_of.ensures.others c.in_ok-sliced.ensures.made c.cut.ensures.nodes c.cut.ensures.others

pub returns-in_err-left_nodes-clause-goes_on : goal.returns-in_err-left_nodes-clause-goes_on
returns-in_err-left_nodes-clause-goes_on c = goes_nowhere c.args.arena.now.items c.args.low.now c.args.low.now c.requires.cache refl

pub returns-in_err-right_nodes-clause-goes_on : goal.returns-in_err-right_nodes-clause-goes_on
returns-in_err-right_nodes-clause-goes_on c = goes_nowhere c.args.arena.now.items c.args.low.now c.args.low.now c.requires.cache refl

pub returns-in_err-left_stream-clause-goes_on : goal.returns-in_err-left_stream-clause-goes_on
returns-in_err-left_stream-clause-goes_on c = c.before_columns.ensures.goes_on

pub returns-in_err-right_stream-clause-goes_on : goal.returns-in_err-right_stream-clause-goes_on
returns-in_err-right_stream-clause-goes_on c =
    goes_then c.args.arena.now.items c.before_columns.new.arena.items c.before_columns-2.new.arena.items c.args.low.now c.before_columns.new.low c.before_columns-2.new.low c.before_columns.ensures.goes_on c.before_columns-2.ensures.goes_on

pub returns-in_err-left_keys-clause-goes_on : goal.returns-in_err-left_keys-clause-goes_on
returns-in_err-left_keys-clause-goes_on c =
    goes_then c.args.arena.now.items c.before_columns.new.arena.items c.before_columns-2.new.arena.items c.args.low.now c.before_columns.new.low c.before_columns-2.new.low c.before_columns.ensures.goes_on c.before_columns-2.ensures.goes_on

pub returns-in_err-right_keys-clause-goes_on : goal.returns-in_err-right_keys-clause-goes_on
returns-in_err-right_keys-clause-goes_on c =
    goes_then c.args.arena.now.items c.before_columns.new.arena.items c.before_columns-2.new.arena.items c.args.low.now c.before_columns.new.low c.before_columns-2.new.low c.before_columns.ensures.goes_on c.before_columns-2.ensures.goes_on

pub returns-in_err-unsliced-clause-goes_on : goal.returns-in_err-unsliced-clause-goes_on
returns-in_err-unsliced-clause-goes_on c =
    goes_then c.args.arena.now.items c.before_columns.new.arena.items c.before_columns-2.new.arena.items c.args.low.now c.before_columns.new.low c.before_columns-2.new.low c.before_columns.ensures.goes_on c.before_columns-2.ensures.goes_on

pub returns-in_err-join-clause-goes_on : goal.returns-in_err-join-clause-goes_on
returns-in_err-join-clause-goes_on c =
    goes_built c.args.arena.now.items c.before_columns-2.new.arena.items c.args.low.now c.before_columns-2.new.low c.node_of.new.low
    (goes_then c.args.arena.now.items c.before_columns.new.arena.items c.before_columns-2.new.arena.items c.args.low.now c.before_columns.new.low c.before_columns-2.new.low c.before_columns.ensures.goes_on c.before_columns-2.ensures.goes_on) c.node_of.ensures.nodes c.node_of.ensures.others

pub returns-in_err-sliced-clause-goes_on : goal.returns-in_err-sliced-clause-goes_on
returns-in_err-sliced-clause-goes_on c =
    goes_built c.args.arena.now.items c.before_columns-2.new.arena.items c.args.low.now c.node_of.new.low c.cut.new.low
    (goes_built c.args.arena.now.items c.before_columns-2.new.arena.items c.args.low.now c.before_columns-2.new.low c.node_of.new.low (goes_then c.args.arena.now.items c.before_columns.new.arena.items c.before_columns-2.new.arena.items c.args.low.now c.before_columns.new.low c.before_columns-2.new.low c.before_columns.ensures.goes_on c.before_columns-2.ensures.goes_on) c.node_of.ensures.nodes c.node_of.ensures.others) c.cut.ensures.nodes c.cut.ensures.others

pub returns-clause-goes_on : goal.returns-clause-goes_on
returns-clause-goes_on c =
    goes_built c.args.arena.now.items c.before_columns-2.new.arena.items c.args.low.now c.node_of.new.low c.cut.new.low
    (goes_built c.args.arena.now.items c.before_columns-2.new.arena.items c.args.low.now c.before_columns-2.new.low c.node_of.new.low (goes_then c.args.arena.now.items c.before_columns.new.arena.items c.before_columns-2.new.arena.items c.args.low.now c.before_columns.new.low c.before_columns-2.new.low c.before_columns.ensures.goes_on c.before_columns-2.ensures.goes_on) c.node_of.ensures.nodes c.node_of.ensures.others) c.cut.ensures.nodes c.cut.ensures.others
