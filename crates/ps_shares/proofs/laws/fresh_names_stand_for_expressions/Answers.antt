use Rattle.ps_shares.proofs.Leaves.{puts_back, reads_columns}
use Rattle.ps_shares.proofs.laws.fresh_names_stand_for_expressions.Goals as goal

pub returns-clause-back : goal.returns-clause-back
returns-clause-back c = puts_back

pub returns-clause-columns : goal.returns-clause-columns
returns-clause-columns c = reads_columns
