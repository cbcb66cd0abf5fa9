use Rattle.ps_copies.proofs.Copied.{added-kept, added-tree}
use Rattle.ps_copies.proofs.exprs.add.Goals as goal

pub returns-clause-tree : goal.returns-clause-tree
returns-clause-tree c = added-tree _ _ c.args.entry c.in_ok-node.ensures.added c.in_ok-node.node c.in_ok-node.ensures.number c.requires

pub returns-clause-kept : goal.returns-clause-kept
returns-clause-kept c = added-kept _ _ c.args.entry c.in_ok-node.ensures.added
