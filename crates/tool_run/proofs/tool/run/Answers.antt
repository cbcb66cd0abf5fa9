use Rattle.std.proofs.Common.{◌≤◌, length, refl, subst, sym, rules}
use Rattle.tool_run.specs.Answers.{HasPlan, IsAnswerText}
use Rattle.tool_run.proofs.Runs.{answer-end, reads-wanted, unanswered-end}
use Rattle.tool_run.proofs.tool.run.Goals as goal

pub returns-in-Ok-answer : goal.returns-in-Ok-answer
returns-in-Ok-answer g c =
    let short : length c.in-Ok.bytes.items ≤ 67108864 = search rules in
    let answers = subst (λ text. HasPlan c.args.words.now c.in-Ok.bytes.items (λ plan. IsAnswerText (g.F.Functions.told c.args.functions.now) c.args.words.now plan text)) (sym c.as_slice.ensures.value) (c.in-Ok-answer.ensures.text c.args.words.now c.requires) in
    answer-end _ _ _ c.in-Ok.bytes.items c.in-Ok.ensures.whole short (reads-wanted c.args.words.now c.args.wanted c.requires) c.as_slice.result.now answers c.write_text.result c.write_text.ensures.outcomes c.write_text.ensures.whole c.write_text.ensures.front c.write_text.ensures.failed

pub returns-in-Err-answer : goal.returns-in-Err-answer
returns-in-Err-answer g c =
    let short : length c.in-Ok.bytes.items ≤ 67108864 = search rules in
    unanswered-end _ _ _ c.in-Ok.bytes.items c.in-Ok.ensures.whole short (reads-wanted c.args.words.now c.args.wanted c.requires) refl c.in-Err-answer.outcome (c.in-Err-answer.ensures.outcome c.args.words.now c.requires)
