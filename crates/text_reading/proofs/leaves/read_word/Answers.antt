use Rattle.std.proofs.Common.{[], ◌∷◌, ◌++◌, true, false, sym, refl, ap, ◌∙◌, subst}
use Rattle.text_queries.specs.Grammar.{is_name, is_reserved, is_truth}
use Rattle.text_queries.specs.Queries.{Name, Truth}
use Rattle.text_reading.specs.Reading.{IsLeaf}
use Rattle.text_reading.proofs.LeafForms.{leaf_other, leaf_truth}
use Rattle.text_reading.proofs.leaves.read_word.Goals as goal
use Rattle.text_tokens.specs.declared.token.Token.TheVariants as token

pub returns-in-true-clause-found : goal.returns-in-true-clause-found
returns-in-true-clause-found c = ([], refl, subst (λ w. IsLeaf (token.Word w ∷ []) (Truth true)) (sym (sym c.as_str.ensures ∙ c.in-true.is)) (is_truth {b = true}))

pub returns-in-true-clause-reads : goal.returns-in-true-clause-reads
returns-in-true-clause-reads c front rest part is h follows =
    let own = leaf_truth true c.args.word.now front part (sym c.as_str.ensures ∙ c.in-true.is) h in
    (own.1, is ∙ ap (λ f. f ++ rest) own.0)

pub returns-in-false-clause-found : goal.returns-in-false-clause-found
returns-in-false-clause-found c = ([], refl, subst (λ w. IsLeaf (token.Word w ∷ []) (Truth false)) (sym (sym c.as_str.ensures ∙ c.in-false.is)) (is_truth {b = false}))

pub returns-in-false-clause-reads : goal.returns-in-false-clause-reads
returns-in-false-clause-reads c front rest part is h follows =
    let own = leaf_truth false c.args.word.now front part (sym c.as_str.ensures ∙ c.in-false.is) h in
    (own.1, is ∙ ap (λ f. f ++ rest) own.0)

pub returns-in_ok-try_clone-in_default-clause-found : goal.returns-in_ok-try_clone-in_default-clause-found
returns-in_ok-try_clone-in_default-clause-found c =
    ([], refl, is_name {t = token.Word c.args.word.now} (sym c.in_ok-try_clone-in_default.ensures.same, sym (ap is_reserved c.as_str.ensures) ∙ sym c.is_reserved.ensures ∙ c.if-is_reserved.false))

pub returns-in_ok-try_clone-in_default-clause-reads : goal.returns-in_ok-try_clone-in_default-clause-reads
returns-in_ok-try_clone-in_default-clause-reads c front rest part is h follows =
    let own = leaf_other c.args.word.now front part (λ e. c.in_default.not-true (c.as_str.ensures ∙ e)) (λ e. c.in_default.not-false (c.as_str.ensures ∙ e)) (λ e. c.in_default.not-null (c.as_str.ensures ∙ e)) h in
    (ap Name c.in_ok-try_clone-in_default.ensures.same ∙ own.2, is ∙ ap (λ f. f ++ rest) own.1)
