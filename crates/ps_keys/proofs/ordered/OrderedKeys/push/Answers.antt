use Rattle.std.proofs.Common.{rules}
use Rattle.ps_keys.proofs.OrderedTables.{ordered-push}
use Rattle.ps_keys.proofs.ordered.OrderedKeys.push.Goals as goal

pub returns-clause-ordered : goal.returns-clause-ordered
returns-clause-ordered c =
    ordered-push c.args.columns.now c.args.row c.len.result c.args.self.now _ c.requires.ordered (search rules) c.in_ok-push.ensures.items
    (λ j have. c.in_ok-insert.ensures.updates.0 (record { columns = c.args.columns; row = j; there = have }))
