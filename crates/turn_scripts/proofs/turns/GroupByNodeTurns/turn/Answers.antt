-- An update leaves how many lists of keys were claimed.
use Rattle.plain_nodes.specs.Plain as plain
use Rattle.turn_scripts.proofs.Updated.{updated}
use Rattle.turn_scripts.proofs.turns.GroupByNodeTurns.turn.Goals as goal

pub returns-clause-claimed : goal.returns-clause-claimed
returns-clause-claimed c = (updated (plain.group_by c.args.self.now) (plain.group_by c.update.new.self) _ _ c.update.ensures).sent
