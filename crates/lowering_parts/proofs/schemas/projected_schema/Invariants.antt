use Rattle.std.proofs.Common.{◌≡◌, take}
use Rattle.std.specs.Prelude.{Some}
use Rattle.ps_meaning.specs.Schemas.{named_fields}
use Rattle.lowering_parts.proofs.schemas.projected_schema.Given as goal

abbrev pub invariant-loop-name : goal.invariant-loop-name
invariant-loop-name l = named_fields (take l.name-index l.names) l.input ≡ Some l.schema
