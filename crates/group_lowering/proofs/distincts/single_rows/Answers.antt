use Rattle.std.proofs.Common.{[], ◌∷◌, ap, sym, ◌∙◌}
use Rattle.pu_base.specs.declared.arena.Node.{Node}
use Rattle.ps_frame.specs.Trees.{Tree, tree_at}
use Rattle.ps_meaning.specs.Schemas.{names_of}
use Rattle.ps_meaning.specs.Shape.{filter_node}
use Rattle.ps_phys.specs.Shown.{stream_of}
use Rattle.ps_rules.specs.Slots.{over_same, schema_at}
use Rattle.ps_fresh.specs.declared.lowering.Lowering.{Lowering}
use Rattle.lowering_parts.specs.Gathered.{state_of}
use Rattle.lowering_parts.proofs.Going.{goes_added, goes_built, goes_then}
use Rattle.lowering_parts.proofs.LaterLemmas.{remembers_later}
use Rattle.expr_lowering.proofs.Following.{goes_fresh}
use Rattle.group_lowering.specs.Distincts.{distinct_of}
use Rattle.group_lowering.proofs.DistinctLemmas.{single_made}
use Rattle.group_lowering.proofs.GroupLemmas.{named_as}
use Rattle.group_lowering.proofs.distincts.single_rows.Goals as goal

pub groups_with-requires-clause-cache : goal.groups_with-requires-clause-cache
groups_with-requires-clause-cache c =
    remembers_later c.args.arena.now.items c.height_under.new.arena.items c.height_under.ensures.kept c.fresh.new.low
    (goes_fresh c.fresh.result c.args.arena.now.items c.args.low.now c.fresh.new.low c.requires.cache c.fresh.ensures.next c.fresh.ensures.same).cache

pub groups_with-requires-clause-names : goal.groups_with-requires-clause-names
groups_with-requires-clause-names c f = c.requires.names f ∙ ap (λ (l : Lowering). names_of (schema_at (state_of f l).nodes (stream_of c.args.input))) (sym c.in_ok-name.ensures.next)

pub groups_with-requires-clause-more : goal.groups_with-requires-clause-more
groups_with-requires-clause-more c = named_as (tree_at c.height_under.new.arena.items) c.in_ok-height.height.items ((c.in_ok-name.name, Tree.len) ∷ []) c.in_ok-height.ensures.named (tt, tt)

pub returns-clause-makes : goal.returns-clause-makes
returns-clause-makes c =
    single_made (stream_of c.args.input) (distinct_of c.args.options.now) c.in_ok-name.name c.in_ok-height.height.items c.args.arena.now.items c.height_under.new.arena.items c.groups_with.new.arena.items c.is_one.new.arena.items
    c.args.low.now c.fresh.new.low c.groups_with.new.low c.over_same_columns.new.low c.in_ok-groups.groups c.in_ok-stream.stream c.in_ok-predicate.predicate c.requires.cache c.in_ok-name.ensures.name c.in_ok-name.ensures.next
    c.height_under.ensures.entries c.height_under.ensures.kept c.in_ok-height.ensures.named c.in_ok-groups.ensures.makes c.is_one.ensures.entries c.is_one.ensures.kept c.in_ok-predicate.ensures.tree
    (λ f. c.in_ok-stream.ensures.made f ∙ ap (λ (n : Node). over_same c.groups_with.new.low.origin.0 (filter_node (f n)) (stream_of c.in_ok-groups.groups) (state_of f c.groups_with.new.low)) c.under_name.ensures.node) c.over_same_columns.ensures.nodes c.over_same_columns.ensures.others

pub returns-in_err-name-clause-goes_on : goal.returns-in_err-name-clause-goes_on
returns-in_err-name-clause-goes_on c = goes_fresh c.fresh.result c.args.arena.now.items c.args.low.now c.fresh.new.low c.requires.cache c.fresh.ensures.next c.fresh.ensures.same

pub returns-in_err-height-clause-goes_on : goal.returns-in_err-height-clause-goes_on
returns-in_err-height-clause-goes_on c = goes_added c.args.arena.now.items c.args.arena.now.items c.height_under.new.arena.items c.args.low.now c.fresh.new.low (goes_fresh c.fresh.result c.args.arena.now.items c.args.low.now c.fresh.new.low c.requires.cache c.fresh.ensures.next c.fresh.ensures.same) c.height_under.ensures.entries c.height_under.ensures.kept

pub returns-in_err-groups-clause-goes_on : goal.returns-in_err-groups-clause-goes_on
returns-in_err-groups-clause-goes_on c =
    goes_then c.args.arena.now.items c.height_under.new.arena.items c.groups_with.new.arena.items c.args.low.now c.fresh.new.low c.groups_with.new.low
    (goes_added c.args.arena.now.items c.args.arena.now.items c.height_under.new.arena.items c.args.low.now c.fresh.new.low (goes_fresh c.fresh.result c.args.arena.now.items c.args.low.now c.fresh.new.low c.requires.cache c.fresh.ensures.next c.fresh.ensures.same) c.height_under.ensures.entries c.height_under.ensures.kept) c.groups_with.ensures.goes_on

pub returns-in_err-predicate-clause-goes_on : goal.returns-in_err-predicate-clause-goes_on
returns-in_err-predicate-clause-goes_on c =
    goes_added c.args.arena.now.items c.groups_with.new.arena.items c.is_one.new.arena.items c.args.low.now c.groups_with.new.low
    (goes_then c.args.arena.now.items c.height_under.new.arena.items c.groups_with.new.arena.items c.args.low.now c.fresh.new.low c.groups_with.new.low
    (goes_added c.args.arena.now.items c.args.arena.now.items c.height_under.new.arena.items c.args.low.now c.fresh.new.low (goes_fresh c.fresh.result c.args.arena.now.items c.args.low.now c.fresh.new.low c.requires.cache c.fresh.ensures.next c.fresh.ensures.same) c.height_under.ensures.entries c.height_under.ensures.kept) c.groups_with.ensures.goes_on)
    c.is_one.ensures.entries c.is_one.ensures.kept

pub returns-in_err-stream-clause-goes_on : goal.returns-in_err-stream-clause-goes_on
returns-in_err-stream-clause-goes_on c =
    goes_built c.args.arena.now.items c.is_one.new.arena.items c.args.low.now c.groups_with.new.low c.over_same_columns.new.low
    (goes_added c.args.arena.now.items c.groups_with.new.arena.items c.is_one.new.arena.items c.args.low.now c.groups_with.new.low
    (goes_then c.args.arena.now.items c.height_under.new.arena.items c.groups_with.new.arena.items c.args.low.now c.fresh.new.low c.groups_with.new.low
    (goes_added c.args.arena.now.items c.args.arena.now.items c.height_under.new.arena.items c.args.low.now c.fresh.new.low (goes_fresh c.fresh.result c.args.arena.now.items c.args.low.now c.fresh.new.low c.requires.cache c.fresh.ensures.next c.fresh.ensures.same) c.height_under.ensures.entries c.height_under.ensures.kept) c.groups_with.ensures.goes_on)
    c.is_one.ensures.entries c.is_one.ensures.kept) c.over_same_columns.ensures.nodes c.over_same_columns.ensures.others

pub returns-clause-goes_on : goal.returns-clause-goes_on
returns-clause-goes_on c =
    goes_built c.args.arena.now.items c.is_one.new.arena.items c.args.low.now c.groups_with.new.low c.over_same_columns.new.low
    (goes_added c.args.arena.now.items c.groups_with.new.arena.items c.is_one.new.arena.items c.args.low.now c.groups_with.new.low
    (goes_then c.args.arena.now.items c.height_under.new.arena.items c.groups_with.new.arena.items c.args.low.now c.fresh.new.low c.groups_with.new.low
    (goes_added c.args.arena.now.items c.args.arena.now.items c.height_under.new.arena.items c.args.low.now c.fresh.new.low (goes_fresh c.fresh.result c.args.arena.now.items c.args.low.now c.fresh.new.low c.requires.cache c.fresh.ensures.next c.fresh.ensures.same) c.height_under.ensures.entries c.height_under.ensures.kept) c.groups_with.ensures.goes_on)
    c.is_one.ensures.entries c.is_one.ensures.kept) c.over_same_columns.ensures.nodes c.over_same_columns.ensures.others
