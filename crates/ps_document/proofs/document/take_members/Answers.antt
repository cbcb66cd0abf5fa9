use Rattle.serde_json.specs.Data.{member, no_members}
use Rattle.std.specs.Prelude.{codes}
use Rattle.ps_document.proofs.Lists.{if_none}
use Rattle.ps_document.proofs.Members.{last_members}
use Rattle.ps_document.proofs.document.take_members.Goals as goal

pub returns-in_err-root-clause-none : goal.returns-in_err-root-clause-none
returns-in_err-root-clause-none c =
    if_none c.from_residual-in_err-root.result (λ tables exprs nodes root e. c.in_err-root.ensures.none root tables no_members (last_members _ _ exprs nodes (codes "exprs") (codes "nodes") _ _ (member (codes "root") root (member (codes "tables") tables no_members)) c.in_ok-exprs.ensures.some e))
