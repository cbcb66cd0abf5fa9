use Rattle.std.proofs.Common.{◌≡◌, take}
use Rattle.ps_phys.specs.Shown.{streams_of}
use Rattle.graph_parts.specs.Read.{schemas_read}
use Rattle.graph_parts.proofs.schemas.schemas_of.Given as goal

abbrev pub invariant-loop-input : goal.invariant-loop-input
invariant-loop-input l = l.schemas.items ≡ schemas_read l.phys.slots (streams_of (take l.input-index l.inputs))
