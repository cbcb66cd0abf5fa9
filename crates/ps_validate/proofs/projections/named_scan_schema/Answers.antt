use Rattle.ps_frame.specs.Functions.{Functions}
use Rattle.ps_frame.specs.Tables.{Fields}
use Rattle.ps_meaning.specs.Schemas.{named_fields}
use Rattle.ps_meaning.specs.Steps.{scan}
use Rattle.ps_validate.proofs.Projecting.{named-scan-gives}
use Rattle.ps_validate.proofs.Typed.{answered}
use Rattle.ps_validate.proofs.projections.named_scan_schema.Goals as goal
use Rattle.ps_validate.specs.Nodes.{GivesSchema}
use Rattle.std.proofs.Common.{[], sym, ◌∙◌, ap}
use Rattle.std.specs.Prelude.{Some}

pub returns-clause-given : goal.returns-clause-given
returns-clause-given c =
    answered (λ (s : Fields). (F : Functions) → GivesSchema F (scan c.args.df.now (Some c.args.names.now)) [] s) c.in_ok-schema.schema c.some_columns.result c.some_columns.ensures.same c.some_columns.ensures.some
    (λ some F. named-scan-gives F c.args.df.now c.args.names.now c.in_ok-schema.schema (ap (named_fields c.args.names.now) (sym c.schema.ensures) ∙ c.in_ok-schema.ensures.fields) c.names_differ.ensures some)
