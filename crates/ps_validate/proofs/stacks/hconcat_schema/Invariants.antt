use Rattle.std.proofs.Common.{◌≡◌, ◌++◌, drop}
use Rattle.ps_meaning.specs.Schemas.{joined_schemas}
use Rattle.ps_validate.proofs.stacks.hconcat_schema.Given as goal
use Rattle.valid_plans.specs.Known.{AreKnown, schemas_in}

abbrev pub invariant-loop-input : goal.invariant-loop-input
invariant-loop-input l =
    record {
      known : AreKnown l.schemas (drop l.input-index l.inputs);
      joined : l.schema ++ joined_schemas (schemas_in l.schemas (drop l.input-index l.inputs)) ≡ joined_schemas (schemas_in l.schemas l.inputs);
    }
