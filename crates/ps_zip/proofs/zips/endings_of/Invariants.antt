use Rattle.std.proofs.Common.{◌≡◌, take}
use Rattle.std.specs.Prelude.{map}
use Rattle.ps_zip.specs.Inputs.{ending_in}
use Rattle.ps_zip.proofs.zips.endings_of.Given as goal

abbrev pub invariant-loop-input : goal.invariant-loop-input
invariant-loop-input l = l.endings.items ≡ map ending_in (take l.input-index l.inputs)
