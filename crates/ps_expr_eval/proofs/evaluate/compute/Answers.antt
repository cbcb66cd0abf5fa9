use Rattle.std.proofs.Common.{List, length, ap, ◌∙◌, subst, sym, arith}
use Rattle.ps_expr_eval.specs.Evaluations.{operands_in}
use Rattle.ps_expr_eval.specs.Walks.{Proceeds, operands_at}
use Rattle.ps_expr_eval.specs.declared.computed.ComputedColumn.{ComputedColumn}
use Rattle.ps_frame.specs.Trees.{tree_at}
use Rattle.ps_expr_eval.proofs.Walking.{computed, enough, taken-evaluate}
use Rattle.ps_expr_eval.proofs.evaluate.compute.Goals as goal

pub take_last-requires : goal.take_last-requires
take_last-requires c =
    let a = c.args.arena.now.items in
    let at = ap length (ap operands_in c.typed_entry-entry.ensures.entry) in
    let some = enough c.args.df.now (tree_at a) c.requires.waiting.0 (operands_at a c.args.expr) c.args.columns.now.items c.requires.waiting.1 in
    omega (arith, c.count_operands.ensures, at, some)

pub entry_part-requires-clause-taken : goal.entry_part-requires-clause-taken
entry_part-requires-clause-taken c =
    let a = c.args.arena.now.items in
    let at = ap length (ap operands_in c.typed_entry-entry.ensures.entry) in
    taken-evaluate c.args.df.now (tree_at a) c.requires.waiting.0 (operands_at a c.args.expr) c.args.columns.now.items c.take_last.new.columns.items c.in_ok-taken.taken.items c.in_ok-taken.ensures.parts (c.in_ok-taken.ensures.len ∙ c.count_operands.ensures ∙ sym at) c.requires.waiting.1

pub returns : goal.returns
returns c = λ one left h.
    let t = c.args.df.now in
    let a = c.args.arena.now.items in
    let at = ap length (ap operands_in c.typed_entry-entry.ensures.entry) in
    subst (λ (ps : List ComputedColumn). Proceeds t a one left ps c.keep.new.self) (sym c.in_ok-push.ensures.items)
    (computed t a one c.args.expr left c.args.columns.now.items c.take_last.new.columns.items c.in_ok-taken.taken.items c.in_ok-column.column c.args.shared.now c.keep.new.self c.in_ok-taken.ensures.parts (c.in_ok-taken.ensures.len ∙ c.count_operands.ensures ∙ sym at) c.in_ok-column.ensures (λ k. c.in_ok-keep.ensures t a k c.in_ok-column.ensures) h)
