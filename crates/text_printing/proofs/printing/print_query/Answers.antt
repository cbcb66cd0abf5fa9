use Rattle.std.proofs.Common.{◌≡◌, ap, subst, sym, ◌∙◌, rules}
use Rattle.std.specs.Prelude.{string_bytes}
use Rattle.std.proofs.lemmas.Result.{IfOk-weaker}
use Rattle.text_laws.proofs.ReadStages.{printed_reads}
use Rattle.text_printing.proofs.printing.print_query.Goals as goal
use Rattle.text_queries.specs.Grammar.{ReadsAs}
use Rattle.text_queries.specs.Views.{query_of}
use Rattle.text_queries.specs.Writing.{query_tokens}
use Rattle.text_tokens.specs.Tokens.{spaced}

-- what is printed reads as the query
pub returns-clause-again : goal.returns-clause-again
returns-clause-again c printable =
    let query = query_of c.args.query.now in
    let tokens_are : c.tokens.result.now ≡ query_tokens query = search rules in
    IfOk-weaker c.write_tokens.result (λ text. string_bytes text ≡ spaced c.tokens.result.now) (λ text. ReadsAs (string_bytes text) query)
    (λ text is. subst (λ bytes. ReadsAs bytes query) (sym (is ∙ ap spaced tokens_are)) (printed_reads query printable c.in_ok-query.ensures.fits))
    c.write_tokens.ensures.spaced
