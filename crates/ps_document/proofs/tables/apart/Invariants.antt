use Rattle.std.proofs.Common.{◌≡◌, ◌++◌}
use Rattle.std.specs.Prelude.{IsTrue}
use Rattle.ps_frame.specs.Frames.{has_distinct_names}
use Rattle.ps_document.specs.Columns.{fields_of, typed_of}
use Rattle.ps_document.proofs.tables.apart.Given as goal

abbrev pub invariant-loop-item : goal.invariant-loop-item
invariant-loop-item l = record {
  schema : l.schema ≡ fields_of l.yielded;
  columns : l.list.items ≡ typed_of l.yielded;
  distinct : IsTrue (has_distinct_names (fields_of l.yielded));
  all : l.yielded ++ l.item-iterator.rest.items ≡ l.fn.columns.items;
}
