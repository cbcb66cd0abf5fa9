use Rattle.std.proofs.Common.{◌≡◌, None}
use Rattle.query_document.proofs.MembersFound.{tables-found}
use Rattle.query_document.proofs.found.with_tables.Goals as goal

pub returns : goal.returns
returns c = λ ds zip ms is.
    let none : c.args.found.tables ≡ None = cc in
    tables-found c.args.found c.args.tables ds ms none zip is
