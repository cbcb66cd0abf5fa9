use Rattle.std.proofs.lemmas.Result.{IfErr-weaker}
use Rattle.std.proofs.Common.{arith}
use Rattle.ps_frame.specs.Trees.{tree_at}
use Rattle.ps_meaning.specs.Steps.{named_trees}
use Rattle.ps_pieces.proofs.Faults.{select-fails}
use Rattle.ps_pieces.proofs.cases.selected.Goals as goal

pub returns-clause-fault : goal.returns-clause-fault
returns-clause-fault c =
    IfErr-weaker c.select.result _ _ (λ e g F. select-fails F c.args.at.0 c.args.table.now (omega arith) e (named_trees (tree_at c.args.exprs.now.items) c.args.selectors.now) (g F)) c.select.ensures.fault
