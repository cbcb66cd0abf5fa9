use Rattle.std.specs.Prelude.{codes}
use Rattle.serde_json.specs.Data.{member, no_members}
use Rattle.ps_document.proofs.Lists.{if_none}
use Rattle.query_document.proofs.NoQuery.{last_members}
use Rattle.query_document.proofs.document.take_members.Goals as goal

pub returns-in_err-tables-clause-none : goal.returns-in_err-tables-clause-none
returns-in_err-tables-clause-none c =
    if_none c.from_residual-in_err-tables.result (λ names query tables e. c.in_err-tables.ensures.none tables no_members (last_members _ _ names query (codes "names") (codes "query") _ _ (member (codes "tables") tables no_members) c.in_ok-names.ensures.some e))
