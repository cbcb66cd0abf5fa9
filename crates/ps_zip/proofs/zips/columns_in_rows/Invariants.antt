use Rattle.std.proofs.Common.{◌≡◌, ◌++◌}
use Rattle.std.specs.List.{AllZip}
use Rattle.ps_zip.specs.Inputs.{IsColumnAt}
use Rattle.ps_zip.proofs.zips.columns_in_rows.Given as goal

abbrev pub invariant-loop-input : goal.invariant-loop-input
invariant-loop-input l = record {
  columns : AllZip (IsColumnAt l.height) l.yielded l.columns.items;
  all : l.yielded ++ l.input-iterator.rest.items ≡ l.fn.inputs.items;
}
