use Rattle.std.proofs.Common.{◌≡◌, ◌++◌}
use Rattle.std.specs.Prelude.{map}
use Rattle.ps_zip.specs.declared.inputs.Input.TheVariants as input
use Rattle.ps_zip.proofs.inputs.push_parts.Given as goal

abbrev pub invariant-loop-part : goal.invariant-loop-part
invariant-loop-part l = l.inputs.items ≡ l.initial.inputs.items ++ map input.Computed l.yielded
