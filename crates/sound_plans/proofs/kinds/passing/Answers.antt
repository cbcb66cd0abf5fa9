use Rattle.std.proofs.Common.{[], ◌∷◌}
use Rattle.ps_frame.specs.Functions.{Functions}
use Rattle.ps_frame.specs.Tables.{Fields}
use Rattle.ps_meaning.specs.Steps.{Step}
use Rattle.ps_validate.specs.Nodes.{GivesSchema, PassesColumns}
use Rattle.sound_plans.proofs.Fits.{taken, passing-fit}
use Rattle.sound_plans.proofs.kinds.passing.Goals as goal

pub returns-clause-fit : goal.returns-clause-fit
returns-clause-fit c =
    taken (λ (s : Fields). (F : Functions) (step : Step) → PassesColumns step → GivesSchema F step (c.args.input.now ∷ []) s) c.passed_schema-given.result c.args.schema.now c.is_given.result c.is_given.ensures.given c.passed_schema-given.ensures.given
    (λ p F. passing-fit F c.args.input.now c.args.schema.now (p F))
