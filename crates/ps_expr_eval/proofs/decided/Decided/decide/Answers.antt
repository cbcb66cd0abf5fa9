use Rattle.std.proofs.Common.{sym, ◌∙◌, ap₂}
use Rattle.ps_frame.specs.Operators.{binary_value}
use Rattle.ps_expr_eval.proofs.Deciding.{knows-more}
use Rattle.ps_expr_eval.proofs.decided.Decided.decide.Goals as goal

pub returns-in_ok-note-in-Boolean-clause-known : goal.returns-in_ok-note-in-Boolean-clause-known
returns-in_ok-note-in-Boolean-clause-known c =
    knows-more c.args.op c.args.left.now c.args.right.now c.args.self.now c.note.new.self c.args.row c.args.pair c.in-Boolean.answer c.requires.left_places c.requires.right_places c.requires.pair
    (ap₂ (binary_value c.args.op) (sym c.value.ensures) (sym c.value-2.ensures) ∙ sym c.binary.ensures ∙ c.in-Boolean.is) c.in_ok-note-in-Boolean.ensures.put c.in_ok-note-in-Boolean.ensures.others c.requires.known
