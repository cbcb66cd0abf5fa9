use Rattle.std.proofs.Common.{ap, sym, ◌∙◌}
use Rattle.ps_frame.specs.Tables.{field_index}
use Rattle.ps_frame.specs.Trees.{tree_at}
use Rattle.node_lowering.proofs.FurtherLemmas.{column_later, picked, unnamed}
use Rattle.node_lowering.proofs.further.expr_or_column.Goals as goal

pub returns-in_default-clause-tree : goal.returns-in_default-clause-tree
returns-in_default-clause-tree c =
    λ later k.
    ap (tree_at later) c.under_name.ensures.node ∙ column_later c.add_column.new.arena.items later k c.in_ok-column.column c.args.name.now c.in_ok-column.ensures.tree
    ∙ sym (unnamed (tree_at later) c.args.name.now c.args.given.now c.args.answers.now (ap (λ n. field_index n c.args.given.now) (sym c.as_str.ensures) ∙ sym c.index_of.ensures ∙ c.in_default.is))

pub returns-clause-tree : goal.returns-clause-tree
returns-clause-tree c =
    λ later k.
    ap (tree_at later) c.under_name-2.ensures.node
    ∙ picked (tree_at later) c.args.name.now c.args.given.now c.args.answers.now c.in-Some.place c.in-Some-expr_at.answer (ap (λ n. field_index n c.args.given.now) (sym c.as_str.ensures) ∙ sym c.index_of.ensures ∙ c.in-Some.is) (sym c.expr_at.ensures ∙ c.in-Some-expr_at.is)
