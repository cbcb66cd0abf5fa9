use Rattle.ps_node_eval.proofs.TableSteps.{union-alike}
use Rattle.ps_node_eval.proofs.tables.united.Goals as goal

pub union-requires-clause-alike : goal.union-requires-clause-alike
union-requires-clause-alike c = union-alike c.args.cut c.args.inputs.now c.args.schema.now c.requires
