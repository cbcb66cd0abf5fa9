use Rattle.std.proofs.Common.{map}
use Rattle.text_plans.proofs.Wholes.{items-stay}
use Rattle.text_queries.specs.Views.{item_of}
use Rattle.text_plans.proofs.entering.add_two_lists.Goals as goal

pub returns-clause-first : goal.returns-clause-first
returns-clause-first c = items-stay c.add_items.new.into.items c.add_items-2.new.into.items c.in_ok-other.ensures.kept c.in_ok-one.one (map item_of c.args.first.now) c.in_ok-one.ensures.trees
