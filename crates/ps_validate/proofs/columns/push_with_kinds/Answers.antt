use Rattle.std.proofs.Common.{◌+◌, ◌++◌, drop, sym, ◌∙◌, ap}
use Rattle.std.specs.Prelude.{Option, unwrap_or}
use Rattle.ps_frame.specs.Tables.{field_kind}
use Rattle.ps_frame.specs.declared.value.DataType.{DataType}
use Rattle.ps_meaning.specs.Schemas.{names_of}
use Rattle.ps_meaning.specs.Steps.{Name}
use Rattle.ps_validate.proofs.Pushing.{kinds-one, push-one, push-refused-one}
use Rattle.ps_validate.proofs.Typed.{passed-on}
use Rattle.ps_validate.specs.Columns.{IsRepeatError, with_kinds}
use Rattle.ps_validate.proofs.columns.push_with_kinds.Goals as goal

pub returns-in_err-push_copy-clause-refused : goal.returns-in_err-push_copy-clause-refused
returns-in_err-push_copy-clause-refused c =
    passed-on (IsRepeatError c.args.at (names_of (c.args.schema.now ++ with_kinds c.args.kinds.now c.args.fields.now))) c.in_err-push_copy.field-0.0 c.from_residual.result c.from_residual.ensures.1
    (push-refused-one (with_kinds c.args.kinds.now) c.args.schema.now c.args.fields.now c.loop-i.i c.loop-i.schema c.name-name.result.now c.kind-kept.result c.name-name.ensures c.kind-kept.ensures c.loop-i.invariant c.args.at (c.name-name.result.now, c.unwrap_or-dtype.result) c.in_err-push_copy.field-0.0 (kinds-one c.args.kinds.now (drop (c.loop-i.i + 1) c.args.fields.now) c.name-name.result.now c.kind-kept.result c.unwrap_or-dtype.result (ap (λ (m : Name). unwrap_or (field_kind m c.args.kinds.now) c.kind-kept.result) (sym c.as_str.ensures) ∙ ap (λ (o : Option DataType). unwrap_or o c.kind-kept.result) (sym c.kind_of.ensures) ∙ sym c.unwrap_or-dtype.ensures)) c.in_err-push_copy.ensures.refused)

pub loop-i-preserved : goal.loop-i-preserved
loop-i-preserved c =
    push-one (with_kinds c.args.kinds.now) c.args.schema.now c.args.fields.now c.loop-i.i c.loop-i.schema c.name-name.result.now c.kind-kept.result c.name-name.ensures c.kind-kept.ensures c.loop-i.invariant (c.name-name.result.now, c.unwrap_or-dtype.result) c.push_copy.new.schema (kinds-one c.args.kinds.now (drop (c.loop-i.i + 1) c.args.fields.now) c.name-name.result.now c.kind-kept.result c.unwrap_or-dtype.result (ap (λ (m : Name). unwrap_or (field_kind m c.args.kinds.now) c.kind-kept.result) (sym c.as_str.ensures) ∙ ap (λ (o : Option DataType). unwrap_or o c.kind-kept.result) (sym c.kind_of.ensures) ∙ sym c.unwrap_or-dtype.ensures)) c.in_ok-push_copy.ensures.added
