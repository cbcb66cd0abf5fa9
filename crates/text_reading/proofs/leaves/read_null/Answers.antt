use Rattle.std.proofs.Common.{[], ◌∷◌, sym, ap, ◌∙◌}
use Rattle.text_queries.specs.Grammar.{is_null, kind_word}
use Rattle.text_reading.proofs.LeafForms.{null_reads}
use Rattle.text_reading.proofs.leaves.read_null.Goals as goal
use Rattle.text_tokens.specs.declared.token.Token.TheVariants as token

pub returns-in-Some-kind_of-clause-found : goal.returns-in-Some-kind_of-clause-found
returns-in-Some-kind_of-clause-found c =
    (token.Word (kind_word c.in-Some-kind_of.kind) ∷ [], c.in-Some.ensures.some ∙ ap (λ w. token.Word w ∷ c.in-Some.rest.now) (sym c.as_str.ensures ∙ c.in-Some-kind_of.ensures.some), is_null)

pub returns-in-Some-kind_of-clause-reads : goal.returns-in-Some-kind_of-clause-reads
returns-in-Some-kind_of-clause-reads c front rest part is h follows =
    null_reads c.args.tokens.now c.in-Some.word.now c.in-Some.rest.now c.in-Some-kind_of.kind c.in-Some.ensures.some (sym c.as_str.ensures ∙ c.in-Some-kind_of.ensures.some) front rest part is h
