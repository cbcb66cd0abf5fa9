use Rattle.text_plans.proofs.Entered.{added-kept, added-tree}
use Rattle.text_plans.proofs.entering.add.Goals as goal

pub returns-clause-tree : goal.returns-clause-tree
returns-clause-tree c = added-tree _ _ c.args.entry c.in_ok-node.ensures.added c.in_ok-node.node c.in_ok-node.ensures.number c.requires

pub returns-clause-kept : goal.returns-clause-kept
returns-clause-kept c = added-kept _ _ c.args.entry c.in_ok-node.ensures.added
