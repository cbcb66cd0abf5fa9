-- The answer stands in its place.
use Rattle.std.proofs.Common.{◌≡◌, rules, false}
use Rattle.ps_pipes.proofs.Showing.{answered, not-true}
use Rattle.ps_pipes.proofs.pipe.Pipe.put.Goals as goal

pub returns-then-not-self-clause-shows : goal.returns-then-not-self-clause-shows
returns-then-not-self-clause-shows c = λ s p shown schema.
    let test = c.if-not-self.true in
    let kept : c.args.self.now.is_dropped ≡ false = search (rules, not-true) in
    answered s p c.args.self.now shown c.put.new.self c.args.table c.args.number kept schema (c.requires kept) c.put.ensures
