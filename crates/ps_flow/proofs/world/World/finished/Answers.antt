-- What the world shows.
use Rattle.ps_flow.proofs.Stepping.{finished_is}
use Rattle.ps_flow.proofs.Telling.{finished_by}
use Rattle.ps_flow.proofs.world.World.finished.Goals as goal

pub returns-clause-stands : goal.returns-clause-stands
returns-clause-stands g c = λ w stands. finished_is g.N.RunNode.Has w c.args.self.now stands

pub returns-clause-told : goal.returns-clause-told
returns-clause-told g c = λ w told. finished_by w.ending c.args.self.now.is_finished c.args.self.now.fault told.ending
