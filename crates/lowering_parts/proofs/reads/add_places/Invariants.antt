use Rattle.std.specs.Prelude.{Bool, ◌||◌}
use Rattle.ps_frame.specs.Parts.{reads_column}
use Rattle.ps_frame.specs.Trees.{AreComplete, tree_at, trees_of, trees_size}
use Rattle.ps_meaning.specs.Steps.{Name}
use Rattle.lowering_parts.specs.Reads.{ArePlacesOf}
use Rattle.lowering_parts.proofs.ReadLemmas.{Comes}
use Rattle.lowering_parts.proofs.reads.add_places.Given as goal

abbrev pub invariant-loop-next : goal.invariant-loop-next
invariant-loop-next l = record {
  complete : AreComplete (trees_of (tree_at l.arena.items) l.left.items);
  found : (test : Name → Bool) → ArePlacesOf l.schema test l.initial.places → Comes l.schema (λ n. test n || reads_column n (tree_at l.arena.items l.fn.expr)) (tree_at l.arena.items) l.left.items l.places;
}

abbrev pub decreases-loop-next : goal.decreases-loop-next
decreases-loop-next l = trees_size (trees_of (tree_at l.arena.items) l.left.items)
