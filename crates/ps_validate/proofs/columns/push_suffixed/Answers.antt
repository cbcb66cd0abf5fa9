use Rattle.std.proofs.Common.{◌+◌, ◌++◌, drop, true, false, refl, sym, ◌∙◌, ap, subst}
use Rattle.ps_frame.specs.Frames.{has_name}
use Rattle.ps_frame.specs.Tables.{Fields}
use Rattle.ps_meaning.specs.Schemas.{names_of, suffixed}
use Rattle.ps_meaning.specs.Steps.{Name}
use Rattle.ps_validate.proofs.Pushing.{Pushing, push-one, push-refused-one, suffixed-one}
use Rattle.ps_validate.proofs.Typed.{passed-on}
use Rattle.ps_validate.specs.Columns.{IsRepeatError}
use Rattle.ps_validate.proofs.columns.push_suffixed.Goals as goal
use Rattle.ps_validate.proofs.columns.push_suffixed.Goals.{then-contains+in_ok-longer+in_ok-push_field, else-contains+in_ok-push_copy}

pub returns-in_err-push_field-clause-refused : goal.returns-in_err-push_field-clause-refused
returns-in_err-push_field-clause-refused c =
    passed-on (IsRepeatError c.args.at (names_of (c.args.schema.now ++ suffixed c.args.suffix.now (names_of c.args.taken.now) c.args.fields.now))) c.in_err-push_field.field-0.0 c.from_residual-in_err-push_field.result c.from_residual-in_err-push_field.ensures.1
    (push-refused-one (suffixed c.args.suffix.now (names_of c.args.taken.now)) c.args.schema.now c.args.fields.now c.loop-i.i c.loop-i.schema c.name-name.result.now c.kind.result c.name-name.ensures c.kind.ensures c.loop-i.invariant c.args.at (c.in_ok-longer.longer, c.kind.result) c.in_err-push_field.field-0.0 (suffixed-one c.args.suffix.now c.args.taken.now (drop (c.loop-i.i + 1) c.args.fields.now) c.name-name.result.now c.in_ok-longer.longer c.kind.result true (ap (λ (m : Name). has_name m c.args.taken.now) (sym c.as_str.ensures) ∙ sym c.contains.ensures ∙ c.if-contains.true) (sym c.in_ok-longer.ensures.suffixed)) c.in_err-push_field.ensures.refused)

pub returns-in_err-push_copy-clause-refused : goal.returns-in_err-push_copy-clause-refused
returns-in_err-push_copy-clause-refused c =
    passed-on (IsRepeatError c.args.at (names_of (c.args.schema.now ++ suffixed c.args.suffix.now (names_of c.args.taken.now) c.args.fields.now))) c.in_err-push_copy.field-0.0 c.from_residual-in_err-push_copy.result c.from_residual-in_err-push_copy.ensures.1
    (push-refused-one (suffixed c.args.suffix.now (names_of c.args.taken.now)) c.args.schema.now c.args.fields.now c.loop-i.i c.loop-i.schema c.name-name.result.now c.kind-else-contains.result c.name-name.ensures c.kind-else-contains.ensures c.loop-i.invariant c.args.at (c.name-name.result.now, c.kind-else-contains.result) c.in_err-push_copy.field-0.0 (suffixed-one c.args.suffix.now c.args.taken.now (drop (c.loop-i.i + 1) c.args.fields.now) c.name-name.result.now c.name-name.result.now c.kind-else-contains.result false (ap (λ (m : Name). has_name m c.args.taken.now) (sym c.as_str.ensures) ∙ sym c.contains.ensures ∙ c.if-contains.false) refl) c.in_err-push_copy.ensures.refused)

pub loop-i-preserved : goal.loop-i-preserved
loop-i-preserved c =
    elim c.if-contains.branch [
      | then-contains+in_ok-longer+in_ok-push_field w ↦ subst (λ (s : Fields). Pushing (suffixed c.args.suffix.now (names_of c.args.taken.now)) c.args.schema.now c.args.fields.now (c.loop-i.i + 1) s) (sym w.schema-is)
          (push-one (suffixed c.args.suffix.now (names_of c.args.taken.now)) c.args.schema.now c.args.fields.now c.loop-i.i c.loop-i.schema c.name-name.result.now w.kind.result c.name-name.ensures w.kind.ensures c.loop-i.invariant (w.in_ok-longer.longer, w.kind.result) w.push_field.new.schema (suffixed-one c.args.suffix.now c.args.taken.now (drop (c.loop-i.i + 1) c.args.fields.now) c.name-name.result.now w.in_ok-longer.longer w.kind.result true (ap (λ (m : Name). has_name m c.args.taken.now) (sym c.as_str.ensures) ∙ sym c.contains.ensures ∙ w.if-contains.true) (sym w.in_ok-longer.ensures.suffixed)) w.in_ok-push_field.ensures.added)
      | else-contains+in_ok-push_copy w ↦ subst (λ (s : Fields). Pushing (suffixed c.args.suffix.now (names_of c.args.taken.now)) c.args.schema.now c.args.fields.now (c.loop-i.i + 1) s) (sym w.schema-is)
          (push-one (suffixed c.args.suffix.now (names_of c.args.taken.now)) c.args.schema.now c.args.fields.now c.loop-i.i c.loop-i.schema c.name-name.result.now w.kind-else-contains.result c.name-name.ensures w.kind-else-contains.ensures c.loop-i.invariant (c.name-name.result.now, w.kind-else-contains.result) w.push_copy.new.schema (suffixed-one c.args.suffix.now c.args.taken.now (drop (c.loop-i.i + 1) c.args.fields.now) c.name-name.result.now c.name-name.result.now w.kind-else-contains.result false (ap (λ (m : Name). has_name m c.args.taken.now) (sym c.as_str.ensures) ∙ sym c.contains.ensures ∙ w.if-contains.false) refl) w.in_ok-push_copy.ensures.added)
    ]
