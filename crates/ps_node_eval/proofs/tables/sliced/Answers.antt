use Rattle.std.proofs.Common.{rules}
use mir.Syntax.{w64}
use mir.Val.{SFits}
use Rattle.ps_node_eval.proofs.TableSteps.{slice-gives}
use Rattle.ps_node_eval.proofs.tables.sliced.Goals as goal

pub returns-clause-table : goal.returns-clause-table
returns-clause-table c =
    let fits : SFits w64 c.args.offset.now = search rules in
    slice-gives c.args.at.0 c.args.offset.now c.args.len _ _ c.slice.result c.only.ensures fits c.slice.ensures.table
