use Rattle.ps_frame.specs.Functions.{Functions}
use Rattle.ps_frame.specs.Tables.{Fields}
use Rattle.ps_meaning.specs.Steps.{Cut}
use Rattle.ps_meaning.specs.declared.options.UniqueKeepStrategy.{UniqueKeepStrategy}
use Rattle.ps_validate.proofs.Projecting.{by_some, named-distinct-gives}
use Rattle.ps_validate.proofs.Typed.{answered}
use Rattle.ps_validate.proofs.projections.named_distinct_schema.Goals as goal
use Rattle.ps_validate.specs.Nodes.{GivesSchema}
use Rattle.std.proofs.Common.{◌∷◌, []}
use Rattle.std.specs.Prelude.{Bool}

pub returns-clause-given : goal.returns-clause-given
returns-clause-given c =
    answered (λ (s : Fields). (F : Functions) (maintain : Bool) (keep : UniqueKeepStrategy) (cut : Cut) → GivesSchema F (by_some F maintain keep cut c.args.names.now) (c.args.input.now ∷ []) s) c.args.input.now c.shared_columns.result c.shared_columns.ensures.same c.shared_columns.ensures.some
    (λ some F maintain keep cut. named-distinct-gives F maintain keep cut c.args.input.now c.args.names.now c.in_ok-columns.columns c.in_ok-columns.ensures.fields c.names_differ.ensures c.names_differ-2.ensures some)
