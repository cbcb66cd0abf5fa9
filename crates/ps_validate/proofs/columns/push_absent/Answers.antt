use Rattle.std.proofs.Common.{◌+◌, ◌++◌, drop, sym, ◌∙◌, ap, subst}
use Rattle.ps_frame.specs.Frames.{has_name}
use Rattle.ps_frame.specs.Tables.{Fields}
use Rattle.ps_meaning.specs.Schemas.{names_of}
use Rattle.ps_meaning.specs.Steps.{Name}
use Rattle.ps_validate.proofs.Pushing.{Pushing, absent-none, absent-one, push-none, push-one, push-refused-one}
use Rattle.ps_validate.proofs.Typed.{passed-on}
use Rattle.ps_validate.specs.Columns.{IsRepeatError, absent_from}
use Rattle.ps_validate.proofs.columns.push_absent.Goals as goal
use Rattle.ps_validate.proofs.columns.push_absent.Goals.{then-not-contains+in_ok-push_copy, else-not-contains}

pub returns-in_err-push_copy-clause-refused : goal.returns-in_err-push_copy-clause-refused
returns-in_err-push_copy-clause-refused c =
    passed-on (IsRepeatError c.args.at (names_of (c.args.schema.now ++ absent_from c.args.others.now c.args.fields.now))) c.in_err-push_copy.field-0.0 c.from_residual.result c.from_residual.ensures.1
    (push-refused-one (absent_from c.args.others.now) c.args.schema.now c.args.fields.now c.loop-i.i c.loop-i.schema c.name-name.result.now c.kind.result c.name-name.ensures c.kind.ensures c.loop-i.invariant c.args.at (c.name-name.result.now, c.kind.result) c.in_err-push_copy.field-0.0 (absent-one c.args.others.now (drop (c.loop-i.i + 1) c.args.fields.now) c.name-name.result.now c.kind.result (ap (λ (m : Name). has_name m c.args.others.now) (sym c.as_str.ensures) ∙ sym c.contains.ensures ∙ c.if-not-contains.true)) c.in_err-push_copy.ensures.refused)

pub loop-i-preserved : goal.loop-i-preserved
loop-i-preserved c =
    elim c.if-not-contains.branch [
      | then-not-contains+in_ok-push_copy w ↦ subst (λ (s : Fields). Pushing (absent_from c.args.others.now) c.args.schema.now c.args.fields.now (c.loop-i.i + 1) s) (sym w.schema-is)
          (push-one (absent_from c.args.others.now) c.args.schema.now c.args.fields.now c.loop-i.i c.loop-i.schema c.name-name.result.now w.kind.result c.name-name.ensures w.kind.ensures c.loop-i.invariant (c.name-name.result.now, w.kind.result) w.push_copy.new.schema (absent-one c.args.others.now (drop (c.loop-i.i + 1) c.args.fields.now) c.name-name.result.now w.kind.result (ap (λ (m : Name). has_name m c.args.others.now) (sym c.as_str.ensures) ∙ sym c.contains.ensures ∙ w.if-not-contains.true)) w.in_ok-push_copy.ensures.added)
      | else-not-contains w ↦ subst (λ (s : Fields). Pushing (absent_from c.args.others.now) c.args.schema.now c.args.fields.now (c.loop-i.i + 1) s) (sym w.schema-is)
          (push-none (absent_from c.args.others.now) c.args.schema.now c.args.fields.now c.loop-i.i c.loop-i.schema c.name-name.result.now c.name-name.ensures c.loop-i.invariant (λ k. absent-none c.args.others.now (drop (c.loop-i.i + 1) c.args.fields.now) c.name-name.result.now k (ap (λ (m : Name). has_name m c.args.others.now) (sym c.as_str.ensures) ∙ sym c.contains.ensures ∙ w.if-not-contains.false)))
    ]
