use Rattle.ps_frame.specs.Frames.{has_distinct_names}
use Rattle.ps_frame.specs.Functions.{Functions}
use Rattle.ps_frame.specs.Tables.{Fields}
use Rattle.ps_meaning.specs.Steps.{scan}
use Rattle.ps_validate.proofs.Projecting.{scan-gives}
use Rattle.ps_validate.proofs.Typed.{answered}
use Rattle.ps_validate.proofs.projections.scan_schema.Goals as goal
use Rattle.ps_validate.specs.Nodes.{GivesSchema}
use Rattle.std.proofs.Common.{[], sym, subst, ◌∙◌}
use Rattle.std.specs.Prelude.{IsTrue, None}

pub returns-clause-given : goal.returns-clause-given
returns-clause-given c =
    answered (λ (s : Fields). (F : Functions) → GivesSchema F (scan c.args.df.now None) [] s) c.schema-schema.result.now c.shared_columns.result c.shared_columns.ensures.same c.shared_columns.ensures.some
    (λ some F. subst (λ (s : Fields). GivesSchema F (scan c.args.df.now None) [] s) (sym c.schema-schema.ensures) (scan-gives F c.args.df.now (subst (λ (s : Fields). IsTrue (has_distinct_names s)) c.schema-schema.ensures c.names_differ.ensures) (λ q. some (c.schema-schema.ensures ∙ q))))
