use Rattle.std.proofs.Common.{◌≡◌, ◌∷◌, rules}
use Rattle.text_printing.proofs.Lists.{with_commas_all}
use Rattle.text_printing.proofs.writer.Writer.items.Goals as goal
use Rattle.text_queries.specs.Views.{item_of}
use Rattle.text_queries.specs.Writing.{item_tokens}

pub returns-clause-ok : goal.returns-clause-ok
returns-clause-ok c =
    let split : c.args.items.now ≡ c.in-Some.first.now ∷ c.in-Some.others.now = search rules in
    with_commas_all item_tokens item_of c.in-Some.first.now c.in-Some.others.now c.args.items.now c.loop-item.item-index c.args.self.now c.item.new.self c.loop-item.self split c.in_ok-item.ensures.ok c.loop-item-test.false c.loop-item.invariant.written
