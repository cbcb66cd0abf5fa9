use Rattle.std.proofs.Common.{◌≡◌, ◌<◌, ℕ, length, get_or, slice_get}
use Rattle.plain_queries.proofs.held_tables.HeldTables.release.Given as goal

abbrev pub invariant-loop-node : goal.invariant-loop-node
invariant-loop-node l = record {
  size : length l.self-inside.slots.items ≡ length l.fn.self;
  kept : (n : ℕ) → l.place < get_or l.until n 0 → slice_get l.self-inside.slots.items n ≡ slice_get l.fn.self n;
}
