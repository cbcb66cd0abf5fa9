use Rattle.serde_json.specs.View.{view}
use Rattle.ps_document.proofs.FirstWords.{no-expression}
use Rattle.ps_document.proofs.exprs.AExprTakeJsonUnit.take_json.Goals as goal

pub returns-clause-none : goal.returns-clause-none
returns-clause-none c = no-expression (view c.args.value) c.in-None.ensures.none
