use Rattle.std.proofs.Common.{[], ◌∷◌}
use Rattle.lowering_parts.proofs.Going.{begins_equal, begins_more}
use Rattle.lowering_parts.proofs.Grown.{added-kept, added-tree}
use Rattle.lowering_parts.proofs.names.add_expr.Goals as goal

pub returns-in-Ok-clause-tree : goal.returns-in-Ok-clause-tree
returns-in-Ok-clause-tree c = added-tree _ _ c.args.entry c.in-Ok.ensures.added c.in-Ok.node c.in-Ok.ensures.number c.requires

pub returns-in-Ok-clause-kept : goal.returns-in-Ok-clause-kept
returns-in-Ok-clause-kept c = added-kept _ _ c.args.entry c.in-Ok.ensures.added

pub returns-in-Ok-clause-entries : goal.returns-in-Ok-clause-entries
returns-in-Ok-clause-entries c = begins_more _ _ (c.args.entry ∷ []) c.in-Ok.ensures.added

pub returns-in-Err-clause-entries : goal.returns-in-Err-clause-entries
returns-in-Err-clause-entries c = begins_equal _ _ c.in-Err.ensures.unchanged
