use Rattle.ps_expr_eval.proofs.Deciding.{known-answer}
use Rattle.ps_expr_eval.proofs.decided.Decided.value.Goals as goal

pub returns-in-Some-answer-clause-value : goal.returns-in-Some-answer-clause-value
returns-in-Some-answer-clause-value c =
    known-answer c.args.op c.args.left.now c.args.right.now c.args.self.now c.args.row c.in-Some.pair c.answer.result c.in-Some-answer.answer c.requires.known c.in-Some.ensures c.answer.ensures c.in-Some-answer.is
