use Rattle.std.proofs.Common.{[], ◌∷◌}
use Rattle.ps_frame.specs.Functions.{Functions}
use Rattle.ps_frame.specs.Tables.{Fields}
use Rattle.ps_meaning.specs.Steps.{project}
use Rattle.ps_validate.specs.Nodes.{GivesSchema}
use Rattle.sound_plans.proofs.Fits.{taken, projection-fit}
use Rattle.sound_plans.proofs.kinds.projection.Goals as goal

pub returns-clause-fit : goal.returns-clause-fit
returns-clause-fit c =
    taken (λ (s : Fields). (F : Functions) → GivesSchema F (project c.args.names.now) (c.args.input.now ∷ []) s) c.project_schema-given.result c.args.schema.now c.is_given.result c.is_given.ensures.given c.project_schema-given.ensures.given
    (λ p F. projection-fit F c.args.input.now c.args.schema.now c.args.names.now (p F))
