-- The pipes join what they joined.
use Rattle.graph_trials.proofs.Setting.{linked_said}
use Rattle.graph_trials.proofs.phases.set.Goals as goal

pub returns : goal.returns
returns c = linked_said c.args.graph.now c.say.new.pipes c.args.key.0 c.args.sent c.args.received c.requires c.say.ensures.said c.say.ensures.unknown
