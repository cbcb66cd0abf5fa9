-- The fault ends the run.
use Rattle.std.proofs.Common.{◌∙◌, ◌∷◌, ◌++◌, [], ap}
use Rattle.ps_flow.proofs.HandingIn.{hands_fault}
use Rattle.ps_flow.proofs.world.World.hand_fault.Goals as goal

pub returns : goal.returns
returns g c = λ F w q x cause stands may is f e.
    hands_fault F w q x may g.N.RunNode.Has c.args.self.now stands c.args.place is c.args.handed c.take_back.new.self c.append.new.self c.take_back.ensures (c.append.ensures.records ∙ ap (λ r. c.args.self.now.journal.records ++ r ∷ []) c.record_of.ensures) c.append.ensures.spare cause c.args.fault f e
