use Rattle.std.proofs.Common.{sym, subst}
use Rattle.text_queries.specs.Grammar.{ReadsAs}
use Rattle.text_queries.specs.Views.{query_of}
use Rattle.text_reading.specs.Reading.{IsShallowQuery}
use Rattle.text_reading.proofs.QueryForms.{answered, tokens_read, unanswered}
use Rattle.text_reading.proofs.queries.read_query.Goals as goal

pub returns-in-Ok-clause-only : goal.returns-in-Ok-clause-only
returns-in-Ok-clause-only c =
    answered query_of (ReadsAs c.args.text.now) c.query_of_tokens.result
    (λ query h. c.query_of_tokens.ensures.reads query (subst (λ ts. IsShallowQuery ts query) (sym c.as_slice.ensures.value) (tokens_read c.args.text.now c.in-Ok.tokens.items query c.in-Ok.ensures.only h)))

pub returns-in-Ok-clause-none : goal.returns-in-Ok-clause-none
returns-in-Ok-clause-none c =
    unanswered query_of (ReadsAs c.args.text.now) c.query_of_tokens.result
    (λ query h. c.query_of_tokens.ensures.reads query (subst (λ ts. IsShallowQuery ts query) (sym c.as_slice.ensures.value) (tokens_read c.args.text.now c.in-Ok.tokens.items query c.in-Ok.ensures.only h)))
