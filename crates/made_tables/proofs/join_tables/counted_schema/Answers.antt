-- The schema that the rules give is that of the join.
use Rattle.made_tables.proofs.Joins.{schema_given}
use Rattle.bare_nodes.specs.Uncalled.{no_functions}
use Rattle.ps_frame.specs.Trees.{tree_at}
use Rattle.ps_joins.specs.JoinOf.{join_of}
use Rattle.made_tables.proofs.join_tables.counted_schema.Goals as goal

pub returns-in-Ok-clause-schema : goal.returns-in-Ok-clause-schema
returns-in-Ok-clause-schema g c =
    schema_given (join_of (tree_at c.args.arena.now.items) c.args.left_on.now c.args.right_on.now c.args.args.now) c.args.left.now c.args.right.now c.in-Ok.schema (c.in-Ok.ensures.given no_functions)
