use Rattle.std.proofs.Common.{◌++◌, ap, ◌∙◌}
use Rattle.std.specs.Prelude.{codes}
use Rattle.std.proofs.lemmas.Result.{IfOk-weaker}
use Rattle.text_reading.proofs.StageForms.{ends_names, on_found, on_is, word_once}
use Rattle.text_reading.proofs.stages.read_on.Goals as goal

pub returns-clause-found : goal.returns-clause-found
returns-clause-found c =
    IfOk-weaker c.read_names.result _ _ (λ x h. on_found c.args.how c.args.tokens.now c.in-Some.behind.now x.1.now x.0 c.in_default.not-Cross c.in-Some.ensures.some h) c.read_names.ensures.found

pub returns-clause-reads : goal.returns-clause-reads
returns-clause-reads c front rest part is h ends =
    let own = on_is c.args.how front part c.in_default.not-Cross h in
    let behind = word_once c.args.tokens.now (codes "on") c.in-Some.behind.now (own.0 ++ rest) c.in-Some.ensures.some (is ∙ ap (λ f. f ++ rest) own.1) in
    c.read_names.ensures.reads own.0 rest part behind own.2 (ends_names rest ends)
