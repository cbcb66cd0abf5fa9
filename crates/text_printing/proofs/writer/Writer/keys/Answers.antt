use Rattle.std.proofs.Common.{◌≡◌, ◌∷◌, rules}
use Rattle.text_printing.proofs.Lists.{with_commas_all}
use Rattle.text_printing.proofs.writer.Writer.keys.Goals as goal
use Rattle.text_queries.specs.Views.{key_of}
use Rattle.text_queries.specs.Writing.{key_tokens}

pub returns-clause-ok : goal.returns-clause-ok
returns-clause-ok c =
    let split : c.args.keys.now ≡ c.in-Some.first.now ∷ c.in-Some.others.now = search rules in
    with_commas_all key_tokens key_of c.in-Some.first.now c.in-Some.others.now c.args.keys.now c.loop-key.key-index c.args.self.now c.key.new.self c.loop-key.self split c.in_ok-key.ensures.ok c.loop-key-test.false c.loop-key.invariant.written
