use Rattle.std.proofs.Common.{take}
use Rattle.ps_frame.specs.Trees.{tree_at}
use Rattle.ps_meaning.specs.Steps.{exprs_of, named_trees}
use Rattle.lowering_parts.specs.Reads.{ArePlacesOf, any_reads}
use Rattle.lowering_parts.proofs.reads.places_read.Given as goal

abbrev pub invariant-loop-expr : goal.invariant-loop-expr
invariant-loop-expr l = ArePlacesOf l.schema (any_reads (exprs_of (named_trees (tree_at l.arena.items) (take l.expr-index l.exprs)))) l.places
