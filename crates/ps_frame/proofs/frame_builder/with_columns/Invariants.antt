use Rattle.std.proofs.Common.{◌≡◌, ◌++◌, length, take}
use Rattle.ps_frame.specs.Frames.{all_above}
use Rattle.ps_frame.proofs.frame_builder.with_columns.Given as goal

abbrev pub invariant-loop-builder : goal.invariant-loop-builder
invariant-loop-builder l = record {
  index : l.i ≡ length l.yielded;
  joined : l.added.items ≡ all_above (take l.i l.fn.builders.items) (take l.i l.columns);
  all : l.yielded ++ l.builder-iterator.rest.items ≡ l.fn.builders.items;
}
