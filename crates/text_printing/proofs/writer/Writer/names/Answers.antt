use Rattle.std.proofs.Common.{◌≡◌, ℕ, List, [], ◌∷◌, ◌++◌, map-id, ap, ◌∙◌, rules}
use Rattle.text_printing.proofs.Lists.{with_commas_all}
use Rattle.text_printing.proofs.writer.Writer.names.Goals as goal
use Rattle.text_queries.specs.Writing.{name_token, with_commas}
use Rattle.text_tokens.specs.declared.token.Token.{Token}

pub returns-clause-ok : goal.returns-clause-ok
returns-clause-ok c =
    let split : c.args.names.now ≡ c.in-Some.first.now ∷ c.in-Some.others.now = search rules in
    let f : List ℕ → List Token = λ name. name_token name ∷ [] in
    with_commas_all f (λ name. name) c.in-Some.first.now c.in-Some.others.now c.args.names.now c.loop-name.name-index c.args.self.now c.name.new.self c.loop-name.self split c.in_ok-name.ensures.ok c.loop-name-test.false c.loop-name.invariant
    ∙ ap (λ names. c.args.self.now ++ with_commas f names) (map-id c.args.names.now)
