use Rattle.ps_frame.specs.Functions.{Functions}
use Rattle.ps_frame.specs.Tables.{Fields}
use Rattle.ps_frame.specs.declared.refusal.PolarsError.{PolarsError}
use Rattle.ps_meaning.specs.Steps.{hconcat}
use Rattle.ps_validate.proofs.Stacked.{hconcat-gives, input-known, join-end, join-error}
use Rattle.ps_validate.proofs.Typed.{answered, passed-on}
use Rattle.ps_validate.proofs.stacks.hconcat_schema.Goals as goal
use Rattle.valid_plans.specs.Known.{schemas_in}
use Rattle.ps_validate.specs.Nodes.{GivesSchema, IsNodeError}
use Rattle.std.proofs.Common.{◌≡◌, length, arith}

pub get-requires : goal.get-requires
get-requires c = input-known c.args.schemas.now c.args.inputs.now c.loop-input.input-index c.loop-input-test.true c.loop-input.invariant.known

pub returns-in_err-push_all-clause-refused : goal.returns-in_err-push_all-clause-refused
returns-in_err-push_all-clause-refused c =
    passed-on (λ (e : PolarsError). (F : Functions) → IsNodeError F c.args.at hconcat (schemas_in c.args.schemas.now c.args.inputs.now) e) c.in_err-push_all.field-0.0 c.from_residual.result c.from_residual.ensures.1
    (join-error c.args.schemas.now c.args.inputs.now c.loop-input.input-index c.loop-input-test.true c.args.at c.loop-input.schema c.get.result.now c.in_err-push_all.field-0.0 c.get.ensures c.loop-input.invariant.joined c.in_err-push_all.ensures.refused)

pub returns-clause-given : goal.returns-clause-given
returns-clause-given c =
    let ended : c.loop-input.input-index ≡ length c.args.inputs.now = omega arith in
    let whole = join-end c.args.schemas.now c.args.inputs.now c.loop-input.input-index c.loop-input.schema ended c.loop-input.invariant.joined in
    answered (λ (s : Fields). (F : Functions) → GivesSchema F hconcat (schemas_in c.args.schemas.now c.args.inputs.now) s) c.loop-input.schema c.some_columns.result c.some_columns.ensures.same c.some_columns.ensures.some
    (λ some F. hconcat-gives F (schemas_in c.args.schemas.now c.args.inputs.now) c.loop-input.schema whole c.names_differ.ensures some)
