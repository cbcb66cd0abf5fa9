-- What the world shows.
use Rattle.std.proofs.Common.{◌∙◌}
use Rattle.ps_flow.proofs.Stepping.{claims_are}
use Rattle.ps_flow.proofs.Telling.{claims_told}
use Rattle.ps_flow.proofs.world.World.claims.Goals as goal

pub returns-clause-stands : goal.returns-clause-stands
returns-clause-stands g c = λ w stands. c.claims.ensures ∙ claims_are g.N.RunNode.Has w c.args.self.now stands

pub returns-clause-told : goal.returns-clause-told
returns-clause-told g c = λ w told. c.claims.ensures ∙ claims_told w c.args.self.now told
