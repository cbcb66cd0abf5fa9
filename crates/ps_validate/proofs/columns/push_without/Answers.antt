use Rattle.std.proofs.Common.{◌+◌, ◌++◌, drop, sym, ◌∙◌, ap, subst}
use Rattle.std.specs.BTreeSet.{contains_text}
use Rattle.ps_frame.specs.Tables.{Fields}
use Rattle.ps_meaning.specs.Schemas.{names_of, without}
use Rattle.ps_validate.proofs.Pushing.{Pushing, push-none, push-one, push-refused-one, without-none, without-one}
use Rattle.ps_validate.proofs.Typed.{passed-on}
use Rattle.ps_validate.specs.Columns.{IsRepeatError}
use Rattle.ps_validate.proofs.columns.push_without.Goals as goal
use Rattle.ps_validate.proofs.columns.push_without.Goals.{then-not-contains+in_ok-push_copy, else-not-contains}

pub returns-in_err-push_copy-clause-refused : goal.returns-in_err-push_copy-clause-refused
returns-in_err-push_copy-clause-refused c =
    λ ns is. passed-on (IsRepeatError c.args.at (names_of (c.args.schema.now ++ without ns c.args.fields.now))) c.in_err-push_copy.field-0.0 c.from_residual.result c.from_residual.ensures.1
    (push-refused-one (without ns) c.args.schema.now c.args.fields.now c.loop-i.i c.loop-i.schema c.name-name.result.now c.kind.result c.name-name.ensures c.kind.ensures (c.loop-i.invariant ns is) c.args.at (c.name-name.result.now, c.kind.result) c.in_err-push_copy.field-0.0 (without-one ns (drop (c.loop-i.i + 1) c.args.fields.now) c.name-name.result.now c.kind.result (sym (is (c.name-name.result.now)) ∙ ap (contains_text c.args.hidden.now) (sym c.as_str.ensures) ∙ sym c.contains.ensures ∙ c.if-not-contains.true)) c.in_err-push_copy.ensures.refused)

pub loop-i-preserved : goal.loop-i-preserved
loop-i-preserved c =
    λ ns is. elim c.if-not-contains.branch [
      | then-not-contains+in_ok-push_copy w ↦ subst (λ (s : Fields). Pushing (without ns) c.args.schema.now c.args.fields.now (c.loop-i.i + 1) s) (sym w.schema-is)
          (push-one (without ns) c.args.schema.now c.args.fields.now c.loop-i.i c.loop-i.schema c.name-name.result.now w.kind.result c.name-name.ensures w.kind.ensures (c.loop-i.invariant ns is) (c.name-name.result.now, w.kind.result) w.push_copy.new.schema (without-one ns (drop (c.loop-i.i + 1) c.args.fields.now) c.name-name.result.now w.kind.result (sym (is (c.name-name.result.now)) ∙ ap (contains_text c.args.hidden.now) (sym c.as_str.ensures) ∙ sym c.contains.ensures ∙ w.if-not-contains.true)) w.in_ok-push_copy.ensures.added)
      | else-not-contains w ↦ subst (λ (s : Fields). Pushing (without ns) c.args.schema.now c.args.fields.now (c.loop-i.i + 1) s) (sym w.schema-is)
          (push-none (without ns) c.args.schema.now c.args.fields.now c.loop-i.i c.loop-i.schema c.name-name.result.now c.name-name.ensures (c.loop-i.invariant ns is) (λ k. without-none ns (drop (c.loop-i.i + 1) c.args.fields.now) c.name-name.result.now k (sym (is (c.name-name.result.now)) ∙ ap (contains_text c.args.hidden.now) (sym c.as_str.ensures) ∙ sym c.contains.ensures ∙ w.if-not-contains.false)))
    ]
