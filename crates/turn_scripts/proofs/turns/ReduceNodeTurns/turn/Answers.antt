-- An update leaves whether its row was claimed.
use Rattle.plain_nodes.specs.Plain as plain
use Rattle.turn_scripts.proofs.Updated.{updated}
use Rattle.turn_scripts.proofs.turns.ReduceNodeTurns.turn.Goals as goal

pub returns-clause-claimed : goal.returns-clause-claimed
returns-clause-claimed c = (updated (plain.reduce c.args.self.now) (plain.reduce c.update.new.self) _ _ c.update.ensures).sent
