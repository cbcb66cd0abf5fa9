use Rattle.ps_frame.specs.Tables.{field_kind}
use Rattle.ps_meaning.specs.Steps.{Name}
use Rattle.ps_validate.proofs.Naming.{naming-missing, naming-next, naming-refused}
use Rattle.ps_validate.proofs.Typed.{passed-on}
use Rattle.ps_validate.proofs.columns.named_columns.Goals as goal
use Rattle.ps_validate.specs.Columns.{IsNamingError}
use Rattle.std.proofs.Common.{sym, ◌∙◌, ap}

pub returns-in_err-push_copy-in-Some-clause-refused : goal.returns-in_err-push_copy-in-Some-clause-refused
returns-in_err-push_copy-in-Some-clause-refused c =
    passed-on (IsNamingError c.args.at c.args.input.now c.args.names.now) c.in_err-push_copy-in-Some.field-0.0 c.from_residual.result c.from_residual.ensures.1
    (naming-refused c.args.input.now c.args.names.now c.loop-name.name-index c.loop-name.schema c.name-item.result c.loop-name-test.true c.name-item.is c.loop-name.invariant c.args.at c.in_err-push_copy-in-Some.field-0.0 c.in_err-push_copy-in-Some.ensures.refused)

pub returns-in-None-clause-refused : goal.returns-in-None-clause-refused
returns-in-None-clause-refused c =
    naming-missing c.args.input.now c.args.names.now c.loop-name.name-index c.loop-name.schema c.name-item.result c.loop-name-test.true c.name-item.is c.loop-name.invariant c.args.at c.not_found.result (ap (λ (n : Name). field_kind n c.args.input.now) (sym c.as_str.ensures) ∙ sym c.kind_of.ensures ∙ c.in-None.is) c.not_found.ensures

pub loop-name-preserved : goal.loop-name-preserved
loop-name-preserved c =
    naming-next c.args.input.now c.args.names.now c.loop-name.name-index c.loop-name.schema c.name-item.result c.loop-name-test.true c.name-item.is c.loop-name.invariant c.in-Some.dtype c.push_copy.new.schema (ap (λ (n : Name). field_kind n c.args.input.now) (sym c.as_str.ensures) ∙ sym c.kind_of.ensures ∙ c.in-Some.is) c.in_ok-push_copy-in-Some.ensures.added
