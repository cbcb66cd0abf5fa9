use Rattle.std.proofs.Common.{◌∙◌}
use Rattle.lowering_trials.proofs.Tested.{fields-all, whole-all}
use Rattle.lowering_trials.proofs.expressions.schema_of.Goals as goal

pub compute_output_schema-requires-clause-whole : goal.compute_output_schema-requires-clause-whole
compute_output_schema-requires-clause-whole c = whole-all _ _ c.requires.entries (c.as_slice.ensures.value ∙ c.requires.named)

pub compute_output_schema-requires-clause-typed : goal.compute_output_schema-requires-clause-typed
compute_output_schema-requires-clause-typed c = fields-all _ _ _ c.requires.entries (c.as_slice.ensures.value ∙ c.requires.named) c.requires.schema
