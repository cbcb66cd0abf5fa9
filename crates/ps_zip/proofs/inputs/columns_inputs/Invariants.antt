use Rattle.std.proofs.Common.{◌≡◌, take}
use Rattle.std.specs.Prelude.{map}
use Rattle.std.specs.List.{AllByRecursion}
use Rattle.ps_zip.specs.Inputs.{FitsItsKind}
use Rattle.ps_zip.specs.declared.inputs.Input.TheVariants as input
use Rattle.ps_zip.proofs.inputs.columns_inputs.Given as goal

abbrev pub invariant-loop-column : goal.invariant-loop-column
invariant-loop-column l = record {
  shared : l.inputs.items ≡ map input.Table (take l.column-index l.columns);
  fit : AllByRecursion FitsItsKind l.inputs.items;
}
