use Rattle.ps_frame.specs.Functions.{Functions}
use Rattle.ps_frame.specs.Tables.{Fields}
use Rattle.ps_meaning.specs.Steps.{user}
use Rattle.ps_validate.proofs.Stacked.{user-gives}
use Rattle.ps_validate.proofs.Typed.{answered}
use Rattle.ps_validate.proofs.functions.function_schema.Goals as goal
use Rattle.ps_validate.specs.Nodes.{GivesSchema}
use Rattle.std.proofs.Common.{◌∷◌, []}

pub returns-in-Ok-clause-given : goal.returns-in-Ok-clause-given
returns-in-Ok-clause-given g c =
    let F : Functions = g.F.Functions.told c.args.functions.now in
    answered (λ (s : Fields). GivesSchema F (user c.args.n) (c.args.input.now ∷ []) s) c.in-Ok.schema c.some_columns.result c.some_columns.ensures.same c.some_columns.ensures.some
    (λ some. user-gives F c.args.n c.args.input.now c.in-Ok.schema c.in-Ok.ensures.declares c.names_differ.ensures some)
