use Rattle.ps_frame.specs.Functions.{Functions}
use Rattle.ps_frame.specs.Tables.{Fields}
use Rattle.ps_meaning.specs.Steps.{project}
use Rattle.ps_validate.proofs.Projecting.{project-gives}
use Rattle.ps_validate.proofs.Typed.{answered}
use Rattle.ps_validate.proofs.projections.project_schema.Goals as goal
use Rattle.ps_validate.specs.Nodes.{GivesSchema}
use Rattle.std.proofs.Common.{◌∷◌, []}

pub returns-clause-given : goal.returns-clause-given
returns-clause-given c =
    answered (λ (s : Fields). (F : Functions) → GivesSchema F (project c.args.names.now) (c.args.input.now ∷ []) s) c.in_ok-schema.schema c.some_columns.result c.some_columns.ensures.same c.some_columns.ensures.some
    (λ some F. project-gives F c.args.input.now c.args.names.now c.in_ok-schema.schema c.in_ok-schema.ensures.fields c.names_differ.ensures some)
