use Rattle.std.proofs.Common.{ap, ◌∙◌}
use Rattle.ps_frame.specs.Trees.{tree_at}
use Rattle.lowering_parts.specs.Gathered.{trees_at}
use Rattle.expr_lowering.proofs.Arms.{keys_of_rest, value_of_first}
use Rattle.expr_lowering.proofs.lower.value_and_keys.Goals as goal

pub returns-clause-value : goal.returns-clause-value
returns-clause-value c =
    value_of_first (tree_at c.add_columns.new.arena.items) c.args.names.now _ _ c.as_slice.result.now _ _ c.in-Some.ensures.cases.0 c.in-Some-split_first.ensures.cases.0 (ap (trees_at (tree_at c.add_columns.new.arena.items)) c.as_slice.ensures.value ∙ c.in_ok-columns.ensures.trees)

pub returns-clause-keys : goal.returns-clause-keys
returns-clause-keys c =
    keys_of_rest (tree_at c.add_columns.new.arena.items) c.args.names.now _ _ c.as_slice.result.now _ _ c.in-Some.ensures.cases.0 c.in-Some-split_first.ensures.cases.0 (ap (trees_at (tree_at c.add_columns.new.arena.items)) c.as_slice.ensures.value ∙ c.in_ok-columns.ensures.trees)
    c.in_ok-keys.keys.items (c.in_ok-keys.ensures.named (tree_at c.add_columns.new.arena.items))
