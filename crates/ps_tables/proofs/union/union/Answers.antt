use Rattle.std.proofs.Common.{arith}
use Rattle.std.proofs.lemmas.Result.{IfOk-weaker}
use Rattle.ps_tables.proofs.Stacked.{union-faults, union-gives}
use Rattle.ps_tables.proofs.union.union.Goals as goal

pub returns-then-height-clause-fault : goal.returns-then-height-clause-fault
returns-then-height-clause-fault c F =
    let total = c.total_height-height.ensures in
    let many = c.if-height.true in
    union-faults F c.args.at.0 c.args.slice c.args.inputs.now (omega arith)

pub returns-clause-table : goal.returns-clause-table
returns-clause-table c =
    IfOk-weaker c.cut.result _ _ (λ f part F. union-gives F c.args.at.0 c.args.slice c.args.schema.now c.args.inputs.now c.in_ok-rows.rows f c.requires.some c.requires.alike c.in_ok-rows.ensures.schema c.in_ok-rows.ensures.rows part)
    c.cut.ensures.part
