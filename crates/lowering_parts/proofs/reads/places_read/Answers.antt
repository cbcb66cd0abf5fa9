use Rattle.std.proofs.Common.{take}
use Rattle.ps_frame.specs.Trees.{tree_at}
use Rattle.ps_meaning.specs.Steps.{exprs_of, named_trees}
use Rattle.lowering_parts.specs.Reads.{any_reads}
use Rattle.lowering_parts.proofs.ReadLemmas.{no_places, places_end, places_more, whole_at}
use Rattle.lowering_parts.proofs.reads.places_read.Goals as goal

pub loop-expr-init : goal.loop-expr-init
loop-expr-init c = no_places c.args.schema.now c.new-places.result c.new-places.ensures.empty

pub add_places-requires : goal.add_places-requires
add_places-requires c = whole_at (tree_at c.args.arena.now.items) c.args.exprs.now c.loop-expr.expr-index c.expr-item.result c.loop-expr-test.true c.expr-item.is c.requires.whole

pub loop-expr-preserved : goal.loop-expr-preserved
loop-expr-preserved c =
    let f = tree_at c.args.arena.now.items in
    places_more f c.args.schema.now c.args.exprs.now c.loop-expr.expr-index c.expr-item.result c.add_places.new.places c.loop-expr-test.true c.expr-item.is
    (c.in_ok-add_places.ensures.added (any_reads (exprs_of (named_trees f (take c.loop-expr.expr-index c.args.exprs.now)))) c.loop-expr.invariant)

pub returns-clause-places : goal.returns-clause-places
returns-clause-places c = places_end (tree_at c.args.arena.now.items) c.args.schema.now c.args.exprs.now c.loop-expr.expr-index c.loop-expr.places c.loop-expr-test.false c.loop-expr.invariant
