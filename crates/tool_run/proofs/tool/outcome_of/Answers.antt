use Rattle.std.proofs.Common.{◌≡◌, ◌∙◌, inl, inr, subst}
use Rattle.tool_words.specs.Words.{IsCommand, IsHelp, IsVersion}
use Rattle.tool_run.proofs.Runs.{reads-not-help, reads-not-version, text-end}
use Rattle.tool_run.specs.Runs.{help_text, version_text}
use Rattle.tool_run.proofs.tool.outcome_of.Goals as goal

pub returns-in-Some-Help-clause-end : goal.returns-in-Some-Help-clause-end
returns-in-Some-Help-clause-end g c =
    let h : IsHelp c.args.words.now = subst (λ x. IsCommand c.args.words.now x) c.in-Some-Help.field-0-is c.in-Some-Help.ensures.some in
    let text : c.as_bytes.result.now ≡ help_text = c.as_bytes.ensures.value ∙ c.help.ensures in
    text-end _ _ _ c.as_bytes.result.now (inr (inl (h, text))) (λ reads. absurd (reads-not-help c.args.words.now reads h)) c.write_text.result c.write_text.ensures.outcomes c.write_text.ensures.whole c.write_text.ensures.front c.write_text.ensures.failed

pub returns-in-Some-Version-clause-end : goal.returns-in-Some-Version-clause-end
returns-in-Some-Version-clause-end g c =
    let h : IsVersion c.args.words.now = subst (λ x. IsCommand c.args.words.now x) c.in-Some-Version.field-0-is c.in-Some-Version.ensures.some in
    let text : c.as_bytes-in-Some-Version.result.now ≡ version_text = c.as_bytes-in-Some-Version.ensures.value ∙ c.version.ensures in
    text-end _ _ _ c.as_bytes-in-Some-Version.result.now (inr (inr (h, text))) (λ reads. absurd (reads-not-version c.args.words.now reads h)) c.write_text-in-Some-Version.result c.write_text-in-Some-Version.ensures.outcomes c.write_text-in-Some-Version.ensures.whole
    c.write_text-in-Some-Version.ensures.front c.write_text-in-Some-Version.ensures.failed
