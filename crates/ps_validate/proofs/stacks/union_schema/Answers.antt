use Rattle.ps_frame.specs.Functions.{Functions}
use Rattle.ps_frame.specs.Tables.{Fields}
use Rattle.ps_meaning.specs.Steps.{Cut, union}
use Rattle.ps_validate.proofs.Stacked.{first-known, inputs-differ, inputs-give}
use Rattle.ps_validate.proofs.Typed.{answered}
use Rattle.ps_validate.proofs.stacks.union_schema.Goals as goal
use Rattle.valid_plans.specs.Known.{schemas_in}
use Rattle.ps_validate.specs.Nodes.{GivesSchema}

pub get-schema-requires : goal.get-schema-requires
get-schema-requires c = first-known c.args.schemas.now c.args.inputs.now c.in-Some.first.now c.in-Some.others.now c.in-Some.ensures.cases.0 c.requires.known

pub returns-then-not-are_alike-clause-refused : goal.returns-then-not-are_alike-clause-refused
returns-then-not-are_alike-clause-refused c = λ F cut. inputs-differ F cut c.args.schemas.now c.args.inputs.now c.in-Some.first.now c.in-Some.others.now c.in-Some.ensures.cases.0 c.get-schema.result.now c.get-schema.ensures c.args.at (c.are_alike.ensures.differ c.if-not-are_alike.true)

pub returns-clause-given : goal.returns-clause-given
returns-clause-given c =
    answered (λ (s : Fields). (F : Functions) (cut : Cut) → GivesSchema F (union cut) (schemas_in c.args.schemas.now c.args.inputs.now) s) c.get-schema.result.now c.shared_columns.result c.shared_columns.ensures.same c.shared_columns.ensures.some
    (λ some F cut. inputs-give F cut c.args.schemas.now c.args.inputs.now c.in-Some.first.now c.in-Some.others.now c.in-Some.ensures.cases.0 c.get-schema.result.now c.get-schema.ensures (c.are_alike.ensures.alike c.if-not-are_alike.false) c.names_differ.ensures some)
