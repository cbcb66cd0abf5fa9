use Rattle.std.proofs.Common.{◌≡◌, ◌++◌, List, sym, ap, subst, ◌∙◌, arith}
use Rattle.std.proofs.lemmas.Option.{same_Some}
use Rattle.ps_expr_eval.specs.Evaluations.{operands_in, operands_of}
use Rattle.ps_frame.specs.Parts.{reads_column}
use Rattle.ps_frame.specs.Trees.{AreComplete, tree_at, trees_of, trees_size}
use Rattle.pu_base.specs.declared.arena.Node.{Node}
use Rattle.expression_reads.proofs.Walking.{both-complete, both-size, looked, looked-before}
use Rattle.expression_reads.proofs.read_columns.look_at.Goals as goal

pub returns-then-not-first-clause-walks : goal.returns-then-not-first-clause-walks
returns-then-not-first-clause-walks c = λ start w.
    looked-before c.args.arena.now.items c.args.df.now.schema start c.args.expr c.args.seen.now c.see.new.seen c.args.left.now.items c.args.found.now.fields c.in_ok-first.first
    c.in_ok-first.ensures.first c.if-not-first.true c.in_ok-first.ensures.noted c.in_ok-first.ensures.others w

pub returns-clause-complete : goal.returns-clause-complete
returns-clause-complete c =
    let f = tree_at c.args.arena.now.items in
    let left = c.args.left.now.items in
    let grown : c.push_operands.new.waiting.items ≡ left ++ operands_of c.entry_of-entry.result.now = c.in_ok-push_operands.ensures in
    subst (λ (ns : List Node). AreComplete (trees_of f ns)) (sym grown) (both-complete f left (operands_of c.entry_of-entry.result.now) c.requires.complete c.entry_of-entry.ensures.complete)

pub returns-clause-smaller : goal.returns-clause-smaller
returns-clause-smaller c =
    let f = tree_at c.args.arena.now.items in
    let left = c.args.left.now.items in
    let grown : c.push_operands.new.waiting.items ≡ left ++ operands_of c.entry_of-entry.result.now = c.in_ok-push_operands.ensures in
    let now = ap (λ (ns : List Node). trees_size (trees_of f ns)) grown in
    let parts = both-size f left (operands_of c.entry_of-entry.result.now) in
    let size = c.entry_of-entry.ensures.size in
    omega (arith, now, parts, size)

pub returns-clause-walks : goal.returns-clause-walks
returns-clause-walks c = λ start w.
    let a = c.args.arena.now.items in
    let left = c.args.left.now.items in
    let entry = c.entry_of-entry.ensures.entry in
    let grown : c.push_operands.new.waiting.items ≡ left ++ operands_of c.entry_of-entry.result.now = c.in_ok-push_operands.ensures in
    looked a c.args.df.now.schema start c.args.expr c.args.seen.now c.see.new.seen left c.push_operands.new.waiting.items c.args.found.now.fields c.add_column_of.new.found.fields c.entry_of-entry.result.now entry c.entry_of-entry.ensures.tree
    c.in_ok-first.ensures.noted c.in_ok-first.ensures.others (grown ∙ ap (λ o. left ++ operands_in o) (sym entry)) c.in_ok-add_column_of.ensures.kept
    (λ name is. c.in_ok-add_column_of.ensures.added name (same_Some _ _ (sym entry ∙ is))) (c.in_ok-add_column_of.ensures.only (λ name. reads_column name (tree_at a start))) w
