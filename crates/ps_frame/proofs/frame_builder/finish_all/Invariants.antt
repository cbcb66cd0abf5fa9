use Rattle.std.proofs.Common.{◌≡◌, ◌++◌}
use Rattle.ps_frame.proofs.frame_builder.finish_all.Given as goal

abbrev pub invariant-loop-builder : goal.invariant-loop-builder
invariant-loop-builder l = record {
  made : l.columns.items ≡ l.yielded;
  all : l.yielded ++ l.builder-iterator.rest.items ≡ l.fn.builders.items;
}
