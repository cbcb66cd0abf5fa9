-- An update leaves whether the last rows were claimed.
use Rattle.plain_nodes.specs.Plain as plain
use Rattle.turn_scripts.proofs.Updated.{updated}
use Rattle.turn_scripts.proofs.turns.EquiJoinNodeTurns.turn.Goals as goal

pub returns-clause-claimed : goal.returns-clause-claimed
returns-clause-claimed c = (updated (plain.equi_join c.args.self.now) (plain.equi_join c.update.new.self) _ _ c.update.ensures).sent
