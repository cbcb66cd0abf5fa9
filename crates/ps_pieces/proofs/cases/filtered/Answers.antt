use Rattle.std.proofs.lemmas.Result.{IfErr-weaker}
use Rattle.std.proofs.Common.{arith}
use Rattle.ps_frame.specs.Trees.{tree_at}
use Rattle.ps_pieces.proofs.Faults.{filter-fails}
use Rattle.ps_pieces.proofs.cases.filtered.Goals as goal

pub returns-clause-fault : goal.returns-clause-fault
returns-clause-fault c =
    IfErr-weaker c.filter.result _ _ (λ e g F. filter-fails F c.args.at.0 c.args.table.now (omega arith) e (tree_at c.args.exprs.now.items c.args.predicate.now.node) (g F)) c.filter.ensures.fault
