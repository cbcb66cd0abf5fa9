use Rattle.std.proofs.Common.{◌++◌, refl}
use Rattle.ps_frame.specs.Tables.{Fields}
use Rattle.ps_meaning.specs.Schemas.{names_of}
use Rattle.ps_validate.proofs.Pushing.{push-one, push-refused-one}
use Rattle.ps_validate.proofs.Typed.{passed-on}
use Rattle.ps_validate.specs.Columns.{IsRepeatError}
use Rattle.ps_validate.proofs.columns.push_all.Goals as goal

pub returns-in_err-push_copy-clause-refused : goal.returns-in_err-push_copy-clause-refused
returns-in_err-push_copy-clause-refused c =
    passed-on (IsRepeatError c.args.at (names_of (c.args.schema.now ++ c.args.others.now))) c.in_err-push_copy.field-0.0 c.from_residual.result c.from_residual.ensures.1
    (push-refused-one (λ (fs : Fields). fs) c.args.schema.now c.args.others.now c.loop-i.i c.loop-i.schema c.name.result.now c.kind.result c.name.ensures c.kind.ensures c.loop-i.invariant c.args.at (c.name.result.now, c.kind.result) c.in_err-push_copy.field-0.0 refl c.in_err-push_copy.ensures.refused)

pub loop-i-preserved : goal.loop-i-preserved
loop-i-preserved c =
    push-one (λ (fs : Fields). fs) c.args.schema.now c.args.others.now c.loop-i.i c.loop-i.schema c.name.result.now c.kind.result c.name.ensures c.kind.ensures c.loop-i.invariant (c.name.result.now, c.kind.result) c.push_copy.new.schema refl c.in_ok-push_copy.ensures.added
