use Rattle.ps_frame.specs.Functions.{Functions}
use Rattle.ps_frame.specs.Tables.{Fields}
use Rattle.ps_meaning.specs.Steps.{Step}
use Rattle.ps_validate.proofs.Passing.{passed-gives}
use Rattle.ps_validate.proofs.Typed.{answered}
use Rattle.ps_validate.proofs.schemas.passed_schema.Goals as goal
use Rattle.ps_validate.specs.Nodes.{GivesSchema, PassesColumns}
use Rattle.std.proofs.Common.{◌∷◌, []}

pub returns-clause-given : goal.returns-clause-given
returns-clause-given c =
    answered (λ (s : Fields). (F : Functions) (step : Step) → PassesColumns step → GivesSchema F step (c.args.input.now ∷ []) s) c.args.input.now c.shared_columns.result c.shared_columns.ensures.same c.shared_columns.ensures.some
    (λ some F step p. passed-gives F step c.args.input.now p c.names_differ.ensures some)
