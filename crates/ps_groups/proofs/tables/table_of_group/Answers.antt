use Rattle.std.proofs.lemmas.Result.{IfOk-weaker}
use Rattle.ps_groups.proofs.Parts.{part-is}
use Rattle.ps_groups.proofs.tables.table_of_group.Goals as goal

pub returns : goal.returns
returns c = IfOk-weaker c.part.result _ _ (λ p is. part-is c.args.table.now p c.args.groups.now c.args.group c.start.result c.rows-count.result.now c.rows-count.ensures c.start.ensures is) c.part.ensures
