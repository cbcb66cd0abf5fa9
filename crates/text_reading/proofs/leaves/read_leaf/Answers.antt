use Rattle.std.proofs.Common.{[], ◌∷◌, inl, inr, sym, ap, ◌∙◌, subst}
use Rattle.text_queries.specs.Grammar.{IsInteger, is_integer, is_name, is_text}
use Rattle.text_queries.specs.Queries.{Int, Text}
use Rattle.text_queries.specs.Views.{expr_of}
use Rattle.text_reading.specs.Reading.{Anything, Gives, IsLeaf}
use Rattle.text_reading.proofs.Integers.{bits_integer}
use Rattle.text_reading.proofs.LeafForms.{expr_some, figure_reads, is_figure, name_reads, reads_behind, text_reads}
use Rattle.text_reading.proofs.leaves.read_leaf.Goals as goal
use Rattle.text_tokens.specs.declared.token.Token.TheVariants as token

pub returns-in-Word-clause-reads : goal.returns-in-Word-clause-reads
returns-in-Word-clause-reads c =
    reads_behind IsLeaf (Gives expr_of c.read_word.result) Anything c.args.tokens.now c.in-Some.first.now (token.Word c.in-Word.word) c.in-Some.rest.now c.in-Some.ensures.some c.in-Word.is (λ ts y h. expr_some h) c.read_word.ensures.reads

pub returns-in_ok-try_clone-in-Name-clause-found : goal.returns-in_ok-try_clone-in-Name-clause-found
returns-in_ok-try_clone-in-Name-clause-found c =
    (token.Name c.in-Name.name ∷ [], c.in-Some.ensures.some ∙ ap (λ t. t ∷ c.in-Some.rest.now) c.in-Name.is, is_name {t = token.Name c.in-Name.name} (sym c.in_ok-try_clone-in-Name.ensures.same))

pub returns-in_ok-try_clone-in-Name-clause-reads : goal.returns-in_ok-try_clone-in-Name-clause-reads
returns-in_ok-try_clone-in-Name-clause-reads c front rest part is h follows =
    name_reads c.args.tokens.now c.in-Some.first.now c.in-Some.rest.now c.in-Name.name c.in_ok-try_clone-in-Name.field-0 c.in-Some.ensures.some c.in-Name.is c.in_ok-try_clone-in-Name.ensures.same front rest part is h

pub returns-in_ok-try_clone-in-Text-clause-found : goal.returns-in_ok-try_clone-in-Text-clause-found
returns-in_ok-try_clone-in-Text-clause-found c = (
  token.Text c.in-Text.content ∷ [],
  c.in-Some.ensures.some ∙ ap (λ t. t ∷ c.in-Some.rest.now) c.in-Text.is,
  subst (λ t. IsLeaf (token.Text c.in-Text.content ∷ []) (Text t)) (sym c.in_ok-try_clone-in-Text.ensures.same) is_text,
)

pub returns-in_ok-try_clone-in-Text-clause-reads : goal.returns-in_ok-try_clone-in-Text-clause-reads
returns-in_ok-try_clone-in-Text-clause-reads c front rest part is h follows =
    text_reads c.args.tokens.now c.in-Some.first.now c.in-Some.rest.now c.in-Text.content c.in_ok-try_clone-in-Text.field-0 c.in-Some.ensures.some c.in-Text.is c.in_ok-try_clone-in-Text.ensures.same front rest part is h

pub returns-in-Ok-clause-found : goal.returns-in-Ok-clause-found
returns-in-Ok-clause-found c =
    let found = c.in-Ok.ensures.found in
    (found.0, found.1, is_integer (subst (IsInteger found.0) (sym (bits_integer found.0 c.in-Ok.number found.2)) found.2))

pub returns-in-Ok-clause-reads : goal.returns-in-Ok-clause-reads
returns-in-Ok-clause-reads c front rest part is h follows =
    let own = figure_reads c.args.tokens.now c.in-Some.first.now c.in-Some.rest.now front rest part c.in-Some.ensures.some (elim c.in-Digits.is [ inl d ↦ ap is_figure d.1 | inr s ↦ ap is_figure s.1 ]) is h in
    let same = c.in-Ok.ensures.reads front rest own.0 is own.1 tt in
    (ap Int (bits_integer c.in-Ok.ensures.found.0 c.in-Ok.number c.in-Ok.ensures.found.2 ∙ same.0) ∙ own.2, same.1)

pub returns-in-Err-clause-reads : goal.returns-in-Err-clause-reads
returns-in-Err-clause-reads c front rest part is h follows =
    let own = figure_reads c.args.tokens.now c.in-Some.first.now c.in-Some.rest.now front rest part c.in-Some.ensures.some (elim c.in-Digits.is [ inl d ↦ ap is_figure d.1 | inr s ↦ ap is_figure s.1 ]) is h in
    c.in-Err.ensures.reads front rest own.0 is own.1 tt
