use Rattle.answered_names.proofs.Columns.{columns_alone}
use Rattle.answered_names.proofs.Shown.{calls_shown}
use Rattle.answered_names.proofs.laws.calls_answer_by_names.Goals as goal

pub returns-clause-streams : goal.returns-clause-streams
returns-clause-streams c = calls_shown

pub returns-clause-columns : goal.returns-clause-columns
returns-clause-columns c = columns_alone
