use Rattle.std.proofs.Common.{[], ◌∷◌}
use Rattle.ps_frame.specs.Functions.{Functions}
use Rattle.ps_frame.specs.Tables.{Fields}
use Rattle.ps_meaning.specs.Shape.{below_zero}
use Rattle.ps_meaning.specs.Steps.{Step, slice}
use Rattle.ps_phys.specs.Shown.{back_from}
use Rattle.ps_validate.specs.Nodes.{GivesSchema, PassesColumns}
use Rattle.sound_plans.proofs.Fits.{taken, from-end-fit}
use Rattle.sound_plans.proofs.kinds.negative_slice.Goals as goal

pub returns-clause-fit : goal.returns-clause-fit
returns-clause-fit c =
    taken (λ (s : Fields). (F : Functions) (step : Step) → PassesColumns step → GivesSchema F step (c.args.input.now ∷ []) s) c.passed_schema-given.result c.args.schema.now c.is_given.result c.is_given.ensures.given c.passed_schema-given.ensures.given
    (λ p F n. from-end-fit F c.args.input.now c.args.schema.now (back_from c.args.offset.now) n (c.is_below_zero-below.ensures c.if-not-below.false) (p F (slice (below_zero (back_from c.args.offset.now)) n) tt))
