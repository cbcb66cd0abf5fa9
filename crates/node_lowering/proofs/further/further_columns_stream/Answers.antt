use Rattle.std.proofs.Common.{ap, refl, subst, sym, ◌∙◌}
use Rattle.std.specs.List.{AllByRecursion, list_all}
use Rattle.ps_frame.specs.Trees.{IsComplete, tree_at}
use Rattle.ps_frame.specs.Typing.{is_elementwise}
use Rattle.ps_meaning.specs.Steps.{key_trees}
use Rattle.ps_phys.specs.Shown.{stream_of}
use Rattle.lowering_parts.specs.Gathered.{trees_at}
use Rattle.lowering_parts.proofs.Going.{goes_built, goes_nowhere, goes_then}
use Rattle.node_lowering.proofs.FurtherLemmas.{apart_makes, beside_makes, exprs_back, goes_cached}
use Rattle.node_lowering.proofs.further.further_columns_stream.Goals as goal

pub are_elementwise-requires-clause-exprs : goal.are_elementwise-requires-clause-exprs
are_elementwise-requires-clause-exprs c =
    let f = tree_at c.args.arena.now.items in
    subst (AllByRecursion IsComplete) (sym (ap (trees_at f) c.as_slice-2.ensures.value ∙ c.in_ok-nodes.ensures.trees f ∙ ap (key_trees f) c.as_slice.ensures)) c.requires.whole

pub extended_apart-requires-clause-nodes : goal.extended_apart-requires-clause-nodes
extended_apart-requires-clause-nodes c = λ f. ap (trees_at f) c.as_slice-3.ensures.value ∙ c.in_ok-nodes.ensures.trees f ∙ ap (key_trees f) c.as_slice.ensures

pub returns-then-elementwise-clause-makes : goal.returns-then-elementwise-clause-makes
returns-then-elementwise-clause-makes c =
    let f = tree_at c.args.arena.now.items in
    beside_makes (stream_of c.args.input) c.args.schema.now c.args.exprs.now c.in_ok-elementwise.elementwise c.args.arena.now.items c.args.low.now c.are_elementwise.new.low c.extended.new.low c.in_ok-beside.beside
    (c.in_ok-elementwise.ensures.are ∙ ap (list_all is_elementwise) (ap (trees_at f) c.as_slice-2.ensures.value ∙ c.in_ok-nodes.ensures.trees f ∙ ap (key_trees f) c.as_slice.ensures ∙ sym (exprs_back f c.args.exprs.now))) c.if-elementwise.true
    c.requires.whole c.are_elementwise.ensures.cache c.are_elementwise.ensures.others c.in_ok-beside.ensures.made c.extended.ensures.nodes c.extended.ensures.others

pub returns-clause-makes : goal.returns-clause-makes
returns-clause-makes c =
    let f = tree_at c.args.arena.now.items in
    apart_makes (stream_of c.args.input) c.args.schema.now c.args.exprs.now c.in_ok-elementwise.elementwise c.args.arena.now.items c.extended_apart.new.arena.items c.args.low.now c.are_elementwise.new.low c.extended_apart.new.low c.in_ok-apart.apart
    (c.in_ok-elementwise.ensures.are ∙ ap (list_all is_elementwise) (ap (trees_at f) c.as_slice-2.ensures.value ∙ c.in_ok-nodes.ensures.trees f ∙ ap (key_trees f) c.as_slice.ensures ∙ sym (exprs_back f c.args.exprs.now))) c.if-elementwise.false
    c.are_elementwise.ensures.cache c.are_elementwise.ensures.others c.in_ok-apart.ensures.makes

pub returns-in_err-nodes-clause-goes_on : goal.returns-in_err-nodes-clause-goes_on
returns-in_err-nodes-clause-goes_on c = goes_nowhere c.args.arena.now.items c.args.low.now c.args.low.now c.requires.cache refl

pub returns-in_err-elementwise-clause-goes_on : goal.returns-in_err-elementwise-clause-goes_on
returns-in_err-elementwise-clause-goes_on c = goes_cached c.args.arena.now.items c.args.low.now c.are_elementwise.new.low c.are_elementwise.ensures.cache c.are_elementwise.ensures.others

pub returns-in_err-beside-clause-goes_on : goal.returns-in_err-beside-clause-goes_on
returns-in_err-beside-clause-goes_on c =
    goes_built c.args.arena.now.items c.args.arena.now.items c.args.low.now c.are_elementwise.new.low c.extended.new.low (goes_cached c.args.arena.now.items c.args.low.now c.are_elementwise.new.low c.are_elementwise.ensures.cache c.are_elementwise.ensures.others) c.extended.ensures.nodes c.extended.ensures.others

pub returns-then-elementwise-clause-goes_on : goal.returns-then-elementwise-clause-goes_on
returns-then-elementwise-clause-goes_on c =
    goes_built c.args.arena.now.items c.args.arena.now.items c.args.low.now c.are_elementwise.new.low c.extended.new.low (goes_cached c.args.arena.now.items c.args.low.now c.are_elementwise.new.low c.are_elementwise.ensures.cache c.are_elementwise.ensures.others) c.extended.ensures.nodes c.extended.ensures.others

pub returns-in_err-apart-clause-goes_on : goal.returns-in_err-apart-clause-goes_on
returns-in_err-apart-clause-goes_on c =
    goes_then c.args.arena.now.items c.args.arena.now.items c.extended_apart.new.arena.items c.args.low.now c.are_elementwise.new.low c.extended_apart.new.low
    (goes_cached c.args.arena.now.items c.args.low.now c.are_elementwise.new.low c.are_elementwise.ensures.cache c.are_elementwise.ensures.others) c.extended_apart.ensures.goes_on

pub returns-clause-goes_on : goal.returns-clause-goes_on
returns-clause-goes_on c =
    goes_then c.args.arena.now.items c.args.arena.now.items c.extended_apart.new.arena.items c.args.low.now c.are_elementwise.new.low c.extended_apart.new.low
    (goes_cached c.args.arena.now.items c.args.low.now c.are_elementwise.new.low c.are_elementwise.ensures.cache c.are_elementwise.ensures.others) c.extended_apart.ensures.goes_on
