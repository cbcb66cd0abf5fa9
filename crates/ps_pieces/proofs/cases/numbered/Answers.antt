use Rattle.std.proofs.Common.{◌+◌}
use Rattle.std.specs.Prelude.{unwrap_or}
use Rattle.std.proofs.lemmas.Result.{IfErr-weaker, IfOk-weaker}
use Rattle.ps_pieces.proofs.Numbers.{index-fails, index-gives}
use Rattle.ps_pieces.proofs.cases.numbered.Goals as goal

pub returns-clause-table : goal.returns-clause-table
returns-clause-table c =
    IfOk-weaker c.row_index.result _ _
    (λ f g F name named. index-gives F c.args.at.0 name c.args.table.now c.first_number-first.result (unwrap_or c.args.offset 0 + c.args.before) c.first_number-first.ensures f (g F name named))
    c.row_index.ensures.table

pub returns-clause-fault : goal.returns-clause-fault
returns-clause-fault c =
    IfErr-weaker c.row_index.result _ _
    (λ e g F name. index-fails F c.args.at.0 name c.args.table.now c.first_number-first.result (unwrap_or c.args.offset 0 + c.args.before) c.first_number-first.ensures e (g F name))
    c.row_index.ensures.fault
