use Rattle.std.proofs.Common.{sym, subst}
use Rattle.std.specs.Prelude.{IfOk, IfNone}
use Rattle.serde_json.specs.View.{view}
use Rattle.ps_document.specs.Nodes.{IsNode}
use Rattle.ps_plan.specs.declared.ir.IR.{IR}
use Rattle.ps_document.proofs.FirstWords.{no-node}
use Rattle.ps_document.proofs.nodes.IRTakeJsonVecDataFrame.take_json.Goals as goal

pub returns-in-Some-clause-none : goal.returns-in-Some-clause-none
returns-in-Some-clause-none c = subst (λ d. IfOk c.node_of.result (λ o. IfNone o ((e : IR) → ¬ IsNode c.args.tables.now.items e d))) (sym c.in-Some.ensures.some) c.node_of.ensures.none

pub returns-clause-none : goal.returns-clause-none
returns-clause-none c = no-node c.args.tables.now.items (view c.args.value) c.in-None.ensures.none
