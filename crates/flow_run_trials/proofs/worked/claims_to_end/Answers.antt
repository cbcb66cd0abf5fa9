-- The run from its beginning to its end.
use Rattle.flow_run_trials.proofs.Tried.{goes_on}
use Rattle.flow_run_trials.proofs.worked.claims_to_end.Goals as goal

pub run_to_end-requires-after_bounds : goal.run_to_end-requires-after_bounds
run_to_end-requires-after_bounds g c κs within = let u = c.in_ok-run.ensures (g.C.ComputePiece.told c.args.functions.now) c.requires in (u.shape, u.options, u.world, u.at)

pub outcome-requires-after_bounds : goal.outcome-requires-after_bounds
outcome-requires-after_bounds g c κs within =
    let F = g.C.ComputePiece.told c.args.functions.now in
    let u = c.in_ok-run.ensures F c.requires in
    let h = c.in-Ok.ensures.finished u.shape u.options u.world u.at in
    (F, goes_on g.N.RunNode.Has g.N.PieceNode.Shows g.N.ClaimNode.IsFor F c.in_ok-run.run' c.run_to_end.new.self u h.0 h.2)
