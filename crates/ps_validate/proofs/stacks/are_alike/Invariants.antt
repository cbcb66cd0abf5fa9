use Rattle.std.proofs.Common.{◌≡◌, drop}
use Rattle.std.specs.List.{AllByRecursion}
use Rattle.ps_validate.proofs.stacks.are_alike.Given as goal
use Rattle.valid_plans.specs.Known.{AreKnown, schemas_in}

abbrev pub invariant-loop-input : goal.invariant-loop-input
invariant-loop-input l =
    record {
      known : AreKnown l.schemas (drop l.input-index l.inputs);
      alike : AllByRecursion (λ s. s ≡ l.schema) (schemas_in l.schemas (drop l.input-index l.inputs)) → AllByRecursion (λ s. s ≡ l.schema) (schemas_in l.schemas l.inputs);
    }
