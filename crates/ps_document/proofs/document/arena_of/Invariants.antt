use Rattle.std.proofs.Common.{◌≡◌, ◌++◌}
use Rattle.ps_document.proofs.document.arena_of.Given as goal

abbrev pub invariant-loop-item : goal.invariant-loop-item
invariant-loop-item g l = record {
  added : l.arena.items ≡ l.yielded;
  all : l.yielded ++ l.item-iterator.rest.items ≡ l.fn.items.items;
}
