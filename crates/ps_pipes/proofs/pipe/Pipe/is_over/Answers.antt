-- What is closed and not dropped is over where nothing waits.
use Rattle.std.proofs.Common.{◌≡◌, rules, true}
use Rattle.ps_pipes.proofs.Showing.{not-false, over_closed}
use Rattle.ps_pipes.proofs.pipe.Pipe.is_over.Goals as goal

pub returns : goal.returns
returns c = λ s p shown.
    let test = c.if-not-self.false in
    let closed : c.args.self.now.is_closed ≡ true = search (rules, not-false) in
    over_closed s p c.args.self.now shown c.if-self.false closed c.waiting.result c.waiting.ensures
