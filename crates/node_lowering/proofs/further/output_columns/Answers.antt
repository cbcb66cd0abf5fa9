use Rattle.std.proofs.Common.{ap, ◌∙◌}
use Rattle.std.specs.Prelude.{map}
use Rattle.ps_frame.specs.Trees.{tree_at}
use Rattle.ps_meaning.specs.Schemas.{names_of}
use Rattle.ps_rules.specs.Slots.{under}
use Rattle.plan_rules.specs.Nodes.{expr_or_column}
use Rattle.lowering_parts.specs.Gathered.{trees_at}
use Rattle.node_lowering.proofs.further.output_columns.Goals as goal

pub returns-clause-named : goal.returns-clause-named
returns-clause-named c =
    λ later k. c.in_ok-columns.ensures.named later k ∙ ap (λ ns. under (names_of c.args.schema.now) (map (expr_or_column (under ns (trees_at (tree_at later) c.args.answers.now))) (names_of c.args.schema.now))) c.in_ok-given.ensures.names
