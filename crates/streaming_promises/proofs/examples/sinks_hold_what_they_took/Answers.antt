use Rattle.streaming_promises.proofs.SmallWorlds.{sink_in_order, sink_turned_round}
use Rattle.streaming_promises.proofs.examples.sinks_hold_what_they_took.Goals as goal

pub returns-clause-in_order : goal.returns-clause-in_order
returns-clause-in_order c = sink_in_order

pub returns-clause-not_turned_round : goal.returns-clause-not_turned_round
returns-clause-not_turned_round c = sink_turned_round
