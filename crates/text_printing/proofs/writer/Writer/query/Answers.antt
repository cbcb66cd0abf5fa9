use Rattle.std.proofs.Common.{◌∷◌, ◌++◌, map, ap, ◌∙◌}
use Rattle.std.specs.Prelude.{codes}
use Rattle.text_printing.proofs.Lists.{stages_all}
use Rattle.text_printing.proofs.writer.Writer.query.Goals as goal
use Rattle.text_queries.specs.Views.{stage_of}
use Rattle.text_queries.specs.Writing.{name_token, stages_tokens}
use Rattle.text_tokens.specs.declared.token.Token.TheVariants as token

pub returns-clause-ok : goal.returns-clause-ok
returns-clause-ok c =
    let from = token.Word (codes "from") in
    let name = name_token c.args.query.now.source in
    let stages = c.as_slice-stage-items.result.now in
    stages_all stage_of stages c.loop-stage.stage-index from name c.args.self.now c.word.new.self c.name.new.self c.loop-stage.self c.in_ok-word.ensures.ok c.in_ok-name.ensures.ok c.loop-stage-test.false c.loop-stage.invariant.written
    ∙ ap (λ stages. c.args.self.now ++ from ∷ name ∷ stages_tokens (map stage_of stages)) c.as_slice-stage-items.ensures
