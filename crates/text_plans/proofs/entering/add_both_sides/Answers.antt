use Rattle.text_plans.proofs.Wholes.{columns-whole, keys-stay}
use Rattle.text_plans.specs.QueryPlans.{columns}
use Rattle.text_plans.proofs.entering.add_both_sides.Goals as goal

pub returns-clause-left : goal.returns-clause-left
returns-clause-left c = keys-stay c.add_columns.new.into.items c.add_columns-2.new.into.items c.in_ok-right.ensures.kept c.in_ok-left.left (columns c.args.names.now) (columns-whole c.args.names.now) c.in_ok-left.ensures.trees
