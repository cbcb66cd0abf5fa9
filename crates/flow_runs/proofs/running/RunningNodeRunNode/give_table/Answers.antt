-- The table of what it stored is that of the node that it is.
use Rattle.std.proofs.Common.{◌∙◌}
use Rattle.std.proofs.lemmas.Result.{IfOk-weaker}
use Rattle.flow_runs.proofs.Held.{gives_table}
use Rattle.flow_runs.proofs.running.RunningNodeRunNode.give_table.Goals as goal

pub returns-clause-table : goal.returns-clause-table
returns-clause-table c o x h = IfOk-weaker c.give_table.result _ _ (λ t e. e ∙ gives_table c.args.self.now o x h) c.give_table.ensures.table
