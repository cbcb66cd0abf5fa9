-- A piece was handed in.
use Rattle.flow_run_trials.proofs.Tried.{handed_on}
use Rattle.flow_run_trials.proofs.driving.hands_in.Goals as goal

pub returns-in-Ok : goal.returns-in-Ok
returns-in-Ok g c =
    handed_on g.N.RunNode.Has g.N.PieceNode.Shows g.N.ClaimNode.IsFor (g.C.ComputePiece.told c.args.functions.now) c.args.run.now c.hand_in.new.self c.in-Some.worker c.requires c.hand_in.ensures.faulty c.in-Ok.ensures.handed
