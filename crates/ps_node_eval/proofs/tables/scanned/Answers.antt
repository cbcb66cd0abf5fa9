use Rattle.ps_node_eval.proofs.TableSteps.{scan-named}
use Rattle.ps_node_eval.proofs.tables.scanned.Goals as goal

pub returns-in-Some-clause-table : goal.returns-in-Some-clause-table
returns-in-Some-clause-table c = scan-named c.args.at.0 c.args.df.now _ _ c.args.inputs.now _ c.project.result c.in-Some.is c.as_slice.ensures c.requires.inputs c.project.ensures.scan
