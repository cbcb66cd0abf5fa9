use Rattle.ps_frame.specs.Trees.{AreComplete, tree_at, trees_of, trees_size}
use Rattle.expression_reads.specs.Walks.{AreColumnsOf, Walks}
use Rattle.expression_reads.proofs.read_columns.read_columns.Given as goal

abbrev pub invariant-loop-next : goal.invariant-loop-next
invariant-loop-next l = record {
  complete : AreComplete (trees_of (tree_at l.arena.items) l.left.items);
  found : AreColumnsOf l.df l.found.fields l.found.columns.items;
  walks : Walks l.arena.items l.df.schema l.fn.expr l.seen l.left.items l.found.fields;
}

abbrev pub decreases-loop-next : goal.decreases-loop-next
decreases-loop-next l = trees_size (trees_of (tree_at l.arena.items) l.left.items)
