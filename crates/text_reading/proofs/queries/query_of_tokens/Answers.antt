use Rattle.std.proofs.Common.{[], ◌∷◌, map, sym, subst}
use Rattle.text_queries.specs.Views.{stage_of}
use Rattle.text_reading.specs.Reading.{AreShallowStages}
use Rattle.text_reading.proofs.QueryForms.{query_parts, query_same}
use Rattle.text_reading.proofs.queries.query_of_tokens.Goals as goal

pub returns-in-Err-clause-reads : goal.returns-in-Err-clause-reads
returns-in-Err-clause-reads c query h =
    let own = query_parts c.args.tokens.now c.in-Some.behind.now query h c.in-Some.ensures.some in
    c.in-Err.ensures.reads (own.first ∷ []) own.rest query.source own.split own.named tt

pub returns-in-Ok-read_stages-clause-reads : goal.returns-in-Ok-read_stages-clause-reads
returns-in-Ok-read_stages-clause-reads c query h =
    let own = query_parts c.args.tokens.now c.in-Some.behind.now query h c.in-Some.ensures.some in
    let same = c.in-Ok.ensures.reads (own.first ∷ []) own.rest query.source own.split own.named tt in
    let stages = c.in-Ok-read_stages.ensures.reads query.stages (subst (λ ts. AreShallowStages ts query.stages) (sym same.1) own.stages) in
    query_same c.in-Ok.source.0 (map stage_of c.in-Ok-read_stages.stages) query same.0 stages

pub returns-in-Err-read_stages-clause-reads : goal.returns-in-Err-read_stages-clause-reads
returns-in-Err-read_stages-clause-reads c query h =
    let own = query_parts c.args.tokens.now c.in-Some.behind.now query h c.in-Some.ensures.some in
    let same = c.in-Ok.ensures.reads (own.first ∷ []) own.rest query.source own.split own.named tt in
    c.in-Err-read_stages.ensures.reads query.stages (subst (λ ts. AreShallowStages ts query.stages) (sym same.1) own.stages)
